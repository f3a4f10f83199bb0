use Rattle.std.proofs.Common.{map, sym, refl, ap, ◌∙◌, subst, arith}
use Rattle.row_table.specs.Passes.{iron_model, view_of}
use Rattle.mm_txn.specs.declared.closed.Closed.{Closed}
use Rattle.mm_txn.specs.declared.machine.Machine.{Machine}
use Rattle.mm_txn.specs.Machines.{model_of, MachineIron}
use Rattle.mm_txn.specs.Ending.{closed_model, ClosesInto}
use Rattle.mm_txn.proofs.Ending.{once_at_end, closed_ends, same_closed, same_machine}
use Rattle.mm_txn.proofs.machine.Machine.close.Goals as goal

pub close-requires-clause-tables : goal.close-requires-clause-tables
unfolding model_of
close-requires-clause-tables c κs = c.requires.members

pub free_limbo-requires : goal.free_limbo-requires
free_limbo-requires c = record { once = once_at_end _ _ _ (c.close.ensures.closed c.in-Closed.parts c.in-Closed.is).1.good }

pub invariant_of-result : goal.invariant_of-result
unfolding model_of iron_model
invariant_of-result c =
    let o = c.close.ensures.closed c.in-Closed.parts c.in-Closed.is in
    let e = closed_ends c.args.self.iron c.args.passes.items _ _ _ _ c.free_limbo.new.book (omega (arith, c.args.self.iron.sizes.2)) c.requires.members o.0 o.1 c.free_limbo.ensures.frees c.free_limbo.ensures.sum c.the_counts_of_a_book_are_those_of_its_state.ensures c.args.self.fit.sum in
    record { sum = e.sum; limbo = e.limbo }

pub returns-in-Closed-clause-closed : goal.returns-in-Closed-clause-closed
unfolding model_of iron_model closed_model
returns-in-Closed-clause-closed c d same =
    let o = c.close.ensures.closed c.in-Closed.parts c.in-Closed.is in
    let e = closed_ends c.args.self.iron c.args.passes.items _ _ _ _ c.free_limbo.new.book (omega (arith, c.args.self.iron.sizes.2)) c.requires.members o.0 o.1 c.free_limbo.ensures.frees c.free_limbo.ensures.sum c.the_counts_of_a_book_are_those_of_its_state.ensures c.args.self.fit.sum in
    (o.0, subst (λ (x : Closed). ClosesInto (model_of c.args.self) (map (λ p. view_of p) c.args.passes.items) x) (same_closed _ d same) (refl, e))

pub returns-in-NotAll-clause-not_all : goal.returns-in-NotAll-clause-not_all
unfolding model_of
returns-in-NotAll-clause-not_all c m back same =
    let o = c.close.ensures.not_all c.in-NotAll.iron c.in-NotAll.passes c.in-NotAll.is in let both = same_machine _ m _ back same in (
      o.0,
      ap (λ (x : Machine). model_of x) (sym both.0) ∙ ap (λ (t : MachineIron). record { table = (iron_model t).table; greatest = c.args.self.greatest; files = c.args.self.files; name = c.args.self.name }) o.1,
      sym both.1 ∙ o.2,
    )
