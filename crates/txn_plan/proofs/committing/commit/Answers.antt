use Rattle.std.proofs.Common.{length, arith, take_all, sym, ap, ◌∙◌}
use Rattle.std.specs.FinSet as set
use Rattle.page_map.proofs.Places.{place_total, place_exact}
use Rattle.plain_counts.proofs.Missing.{all_there, taken_out}
use Rattle.txn_plan.proofs.committing.commit.Goals as goal

-- with the missing ones of a list, all of it is there
pub returns-in-Ok-clause-tables : goal.returns-in-Ok-clause-tables
returns-in-Ok-clause-tables c wanted lists =
    c.in_ok-insert_all.ensures.ok ∙ ap (set.union c.args.tables.now) lists.same ∙ all_there place_total place_exact c.args.tables.now wanted

-- what was put in is taken out again
pub returns-in-Err-clause-tables_stay : goal.returns-in-Err-clause-tables_stay
returns-in-Err-clause-tables_stay c =
    let listed = c.args.missing.now in
    c.remove_all.ensures
    ∙ ap (λ s. set.difference s (set.from_list listed)) (c.in_ok-insert_all.ensures.ok ∙ ap (λ ps. set.union c.args.tables.now (set.from_list ps)) (sym (take_all (length listed) listed (omega arith))))
    ∙ taken_out place_total place_exact c.args.tables.now listed (length listed) c.requires.missing
