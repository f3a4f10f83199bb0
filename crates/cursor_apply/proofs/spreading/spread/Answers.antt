use Rattle.std.specs.Prelude.{◌<◌}
use Rattle.std.proofs.Common.{sym, arith, ◌∙◌}
use Rattle.std.proofs.lemmas.List.{length-set}
use Rattle.cursor_apply.proofs.Spreads.{none_spread, blank_whole, one_spread}
use Rattle.cursor_apply.proofs.spreading.spread.Goals as goal

pub returns-then-not-is_used : goal.returns-then-not-is_used
returns-then-not-is_used c = none_spread c.args.mark.now c.args.pages c.args.cells.now (sym c.is_used.ensures ∙ c.if-not-is_used.true) c.requires.blank

pub loop-index-init : goal.loop-index-init
loop-index-init c = record { whole = blank_whole c.args.cells.now c.requires.blank; each = λ i h. absurd (omega arith) }

pub loop-index-preserved : goal.loop-index-preserved
loop-index-preserved c =
    let less : c.loop-index.index < 512 = c.loop-index-test.true in
    record {
      whole = (let set = length-set c.loop-index.cells c.loop-index.index c.cell_below.result in let now = c.replace.ensures.after in let was = c.loop-index.invariant.whole in cc);
      each = one_spread c.args.mark.now c.args.pages c.loop-index.index c.loop-index.cells c.replace.new.self c.cell_below.result less c.loop-index.invariant.whole c.loop-index.invariant.each c.replace.ensures.after c.cell_below.ensures;
    }
