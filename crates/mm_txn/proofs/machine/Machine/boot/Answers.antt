use Rattle.std.proofs.Common.{List, ℕ, subst}
use Rattle.row_table.specs.Passes.{iron_model}
use Rattle.mm_txn.specs.Machines.{model_of, IsMade}
use Rattle.mm_txn.proofs.machine.Machine.boot.Goals as goal

pub returns-clause-starts : goal.returns-clause-starts
unfolding model_of
returns-clause-starts c = subst (λ (files : List (List ℕ)). IsMade c.args.limits files 0 c.args.passes (iron_model c.in_ok-iron.iron).table c.in_ok-iron.all.items) c.new.ensures c.in_ok-iron.ensures
