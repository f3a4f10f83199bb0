-- Rows in limbo without their blockers.
use Rattle.std.proofs.Common.{◌≡◌, suc, List, [], ◌∷◌, length, refl, ap}
use Rattle.std.specs.Prelude.{map}
use Rattle.row_layout.specs.declared.limbo.Sampled.{Sampled}
use Rattle.walk_core.specs.declared.lists.PutRow.{PutRow}
use Rattle.machine_plan.specs.Books.{unblocked, put_of}

pub length_unblocked : (limbo : List Sampled) → length (map unblocked limbo) ≡ length limbo
length_unblocked [] = refl
length_unblocked (s ∷ limbo) = ap (λ n. suc n) (length_unblocked limbo)

-- the pure core sees the same rows
pub puts_unblocked : (limbo : List Sampled) → ◌≡◌ {A = List PutRow} (map put_of (map unblocked limbo)) (map put_of limbo)
puts_unblocked [] = refl
puts_unblocked (s ∷ limbo) = ap (λ (rows : List PutRow). put_of s ∷ rows) (puts_unblocked limbo)
