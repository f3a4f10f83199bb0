-- Rows of a new table.
use Rattle.std.proofs.Common.{◌≡◌, ℕ, Bool, false, List, [], ◌∷◌, ◌++◌, sym, subst, ⊎_elim, arith}
use mathlib.Core.Option.{some}
use lib.ListN.{get_elem?}
use Rattle.atomic_table.proofs.Lists.{at_snoc}
use Rattle.walk_core.proofs.Keeps.{found_there}

-- rows that hold false
abbrev pub AreFalse : List Bool → Type 0
AreFalse xs = (i : ℕ) (x : Bool) → get_elem? xs i ≡ some x → x ≡ false

pub false_none : (xs : List Bool) → xs ≡ [] → AreFalse xs
false_none xs none i x at = let less = found_there [] i x (subst (λ (l : List Bool). get_elem? l i ≡ some x) none at) in absurd (omega arith)

pub false_more : (xs ys : List Bool) → AreFalse xs → ys ≡ xs ++ false ∷ [] → AreFalse ys
false_more xs ys all more i x at = ⊎_elim (λ (old : get_elem? xs i ≡ some x). all i x old) (λ (last : false ≡ x). sym last) (at_snoc xs false x i (subst (λ (l : List Bool). get_elem? l i ≡ some x) more at))
