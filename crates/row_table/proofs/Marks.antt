-- Mark stale keeps the rule.
use Rattle.std.proofs.Common.{◌≡◌, ℕ, ◌∷◌, set, sym, refl, subst, arith, length-set, Some}
use mathlib.Core.Option.{some, none}
use Rattle.atomic_table.specs.Table.{rest, Allows, step}
use Rattle.atomic_table.proofs.Lists as lists
use Rattle.walk_core.specs.declared.event.Event.TheVariants.{MarkStale}
use Rattle.walk_core.specs.Words.{lock_at}
use Rattle.walk_core.specs.Lists.{Has}
use Rattle.walk_core.specs.Core.{unlinked_rows}
use Rattle.row_layout.specs.declared.places.Layout.{Layout}
use Rattle.row_table.specs.declared.plan.Content.TheVariants.{Row}
use Rattle.row_table.specs.Plan.{Meaning}
use Rattle.row_table.specs.Rule.{Seat, view, IsOne, Holds}
use Rattle.row_table.specs.Moves.{released, ReleaseTells}
use Rattle.row_table.proofs.Frames.{moved_here}
use Rattle.row_table.proofs.Locks.{comes_home}

module _ {R B E : Type 0} (M : Meaning R B E) where
  pub marks : (k : Layout) (first : B) (slots id : ℕ) (m : Seat R B E) (n r : ℕ) (x : R) → IsOne n m → Has (view m).core.held r → Has (unlinked_rows (view m).core) r → M.is_blank x → m.1 ≡ (r, Some (Row x)) ∷ rest m.1
      → Allows (Holds M k first) slots id m (lock_at r) (λ _. 256) (λ _. ReleaseTells (step slots (lock_at r) 256 0 none) m 256)
  marks k first slots id m n r x one held unlinked blank front = comes_home M k first slots id m n r 256 x one held front (λ s h me mine less inside. (
    record { linked = λ z. absurd (omega arith); others = λ _. (x, lists.set_here s.homes r (some (Some (Row x))) inside, blank) },
    moved_here M k first s h id (view m) (released (view m) r) (MarkStale n r) (set s.homes r (some (Some (Row x)))) me (sym one.1) refl (unlinked, held) refl refl refl (length-set s.homes r (some (Some (Row x)))),
  ))

  pub marks_at : (k : Layout) (first : B) (slots id : ℕ) (m : Seat R B E) (n r i : ℕ) (x : R) → i ≡ lock_at r → IsOne n m → Has (view m).core.held r → Has (unlinked_rows (view m).core) r → M.is_blank x → m.1 ≡ (r, Some (Row x)) ∷ rest m.1
      → Allows (Holds M k first) slots id m i (λ _. 256) (λ _. ReleaseTells (step slots i 256 0 none) m 256)
  marks_at k first slots id m n r i x at one held unlinked blank front =
      subst (λ (j : ℕ). Allows (Holds M k first) slots id m j (λ _. 256) (λ _. ReleaseTells (step slots j 256 0 none) m 256)) (sym at) (marks k first slots id m n r x one held unlinked blank front)
