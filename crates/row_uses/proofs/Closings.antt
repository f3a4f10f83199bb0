-- What a caller of a closed table knows of its journal, from the public clauses alone.
use Rattle.std.proofs.Common.{ℕ, List, map}
use Rattle.std.specs.List.{All, Contains}
use Rattle.std.proofs.lemmas.List.Elements.{All-contains_itself, All-weaker}
use Rattle.row_layout.specs.declared.places.Layout.{Layout}
use Rattle.row_table.specs.declared.view.PassView.{PassView}
use Rattle.row_table.specs.Plan.{Meaning}
use Rattle.row_table.specs.Close.{IsClosed}
use Rattle.row_uses.specs.Uses.{Remembers}
use Rattle.walk_core.proofs.RowLists.{in_map}

pub remembered : {R B E P : Type 0} (M : Meaning R B E) (k : Layout) (view : P → PassView R B E) (passes : List P) (words epochs : List ℕ) (rows : List R) (book : B)
    → IsClosed M k (map view passes) words epochs rows book → All (λ p. Remembers M (M.journal book) (view p)) passes
remembered {R} {B} {E} {P} M k view passes words epochs rows book closed = All-weaker (Contains passes) (λ p. Remembers M (M.journal book) (view p))
    (λ p i. let o = (closed.knows (view p) (in_map view passes p i)).1 in record { seen = o.seen; mine = o.mine }) passes (All-contains_itself passes)
