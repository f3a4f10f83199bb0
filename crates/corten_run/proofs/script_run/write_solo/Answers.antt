-- The header, the answered calls and the accounts are the text.
use Rattle.std.proofs.Common.{◌∙◌, refl, ap}
use Rattle.page_map.specs.State.{accounts}
use Rattle.history_lines.proofs.Parts.{finished}
use Rattle.corten_run.proofs.Texts.{start_is, header_is, all_is, part_of_solo}
use Rattle.corten_run.proofs.script_run.write_solo.Goals as goal

pub returns-in-Failed-clause-written : goal.returns-in-Failed-clause-written
returns-in-Failed-clause-written g c = (
  part_of_solo c.args.levels c.args.script c.in-Ok-new.plain c.list.result.now c.new-waiting.result.items c.push_header.new.out.items (start_is c.args.levels c.args.script c.number.result c.in-Ok-new.plain c.number.ensures c.in-Ok-new.ensures.ok) c.list.ensures.value
      c.new-waiting.ensures.items (header_is c.args.levels c.args.script c.number.result c.new-waiting.result.items c.push_header.new.out.items c.number.ensures c.in-Ok.ensures) _ _ c.in-Failed.ensures.written.0,
  c.in-Failed.ensures.written.1,
)

pub returns-clause-written : goal.returns-clause-written
returns-clause-written g c =
    part_of_solo c.args.levels c.args.script c.in-Ok-new.plain c.list.result.now c.new-waiting.result.items c.push_header.new.out.items (start_is c.args.levels c.args.script c.number.result c.in-Ok-new.plain c.number.ensures c.in-Ok-new.ensures.ok) c.list.ensures.value
    c.new-waiting.ensures.items (header_is c.args.levels c.args.script c.number.result c.new-waiting.result.items c.push_header.new.out.items c.number.ensures c.in-Ok.ensures) _ _ c.in-NoMemory.ensures.written

pub returns-in-Whole-clause-written : goal.returns-in-Whole-clause-written
returns-in-Whole-clause-written g c =
    finished _ _ _ _ _ _ _ _ _ _ c.write_accounts.result c.in-Whole.ensures.written c.in-Whole.ensures.count c.write_accounts.ensures.count
    (all_is c.args.levels c.args.script c.in-Ok-new.plain c.list.result.now c.new-waiting.result.items c.push_header.new.out.items (start_is c.args.levels c.args.script c.number.result c.in-Ok-new.plain c.number.ensures c.in-Ok-new.ensures.ok) c.list.ensures.value
    c.new-waiting.ensures.items (header_is c.args.levels c.args.script c.number.result c.new-waiting.result.items c.push_header.new.out.items c.number.ensures c.in-Ok.ensures) c.accounts.result (c.accounts.ensures ∙ ap (λ s. accounts s 0) (c.in-Whole.ensures.after refl)))
    c.write_accounts.ensures.written
