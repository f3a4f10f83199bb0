use Rattle.std.proofs.Common.{ℕ, ap, subst}
use Rattle.row_layout.specs.declared.places.Layout.{Layout}
use Rattle.row_table.specs.Passes.{iron_model}
use Rattle.mm_txn.specs.Machines.{model_of, IsMade}
use Rattle.mm_txn.proofs.Ending.{fit_of_made}
use Rattle.mm_txn.proofs.machine.Machine.set_up.Goals as goal

pub close-requires-clause-tables : goal.close-requires-clause-tables
unfolding model_of
close-requires-clause-tables c κs = c.requires.members

pub invariant_of-machine : goal.invariant_of-machine
unfolding model_of
invariant_of-machine c = record { fit = fit_of_made c.args.limits c.args.self.greatest c.args.shelf c.args.entries _ _ _ _ c.in_ok-iron.ensures c.args.self.fit.within c.requires.within.levels c.count-files.ensures.value }

pub returns-clause-starts : goal.returns-clause-starts
unfolding model_of
returns-clause-starts c = subst (λ (n : ℕ). IsMade c.args.limits c.args.shelf c.args.entries n (iron_model c.in_ok-iron.iron).table c.in_ok-iron.all.items) (ap (λ (k : Layout). k.passes) c.layout.ensures.layout) c.in_ok-iron.ensures
