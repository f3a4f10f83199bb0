use Rattle.std.proofs.Common.{List, ℕ, subst}
use Rattle.book.specs.Starting.{Starts}
use Rattle.book.specs.Worked.{worked_limits}
use Rattle.book.proofs.tests.outcomes.Goals as goal

pub map_two-requires : goal.map_two-requires
map_two-requires c = subst (λ (files : List (List ℕ)). Starts worked_limits 8 files 2 c.in_ok-book.book) c.new.ensures c.in_ok-book.ensures
