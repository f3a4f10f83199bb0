-- Lists of rows, where rows are left out.
use Rattle.std.proofs.Common.{◌≡◌, ℕ, ◌+◌, ◌-◌, ◌≤◌, cond, not, Bool, true, false, List, [], ◌∷◌, ◌++◌, length, sym, refl, ap, ◌∙◌, arith}
use Rattle.std.specs.List.{Contains, filter, range_with_len}
use native.Mathlib.Decide.{ℕ_discrete}
use mathlib.Core.Logic.{dite}
use Rattle.walk_core.specs.declared.lists.PutRow.{PutRow}
use Rattle.walk_core.specs.Lists.{times, Has, among, minus}
use Rattle.walk_core.proofs.RowLists.{times-nil, times_minus_same, times_minus_other, among_true, among_false, range-push, in_head, in_tail}

pub filter_all : {X : Type 0} (t : X → Bool) (xs : List X) → ((x : X) → Contains xs x → t x ≡ true) → filter t xs ≡ xs
filter_all t [] all = refl
filter_all t (x ∷ xs) all = ap (λ (b : Bool). cond b (x ∷ filter t xs) (filter t xs)) (all x (in_head x xs)) ∙ ap (λ l. x ∷ l) (filter_all t xs (λ y i. all y (in_tail x xs y i)))

pub filter_none : {X : Type 0} (t : X → Bool) (xs : List X) → ((x : X) → Contains xs x → t x ≡ false) → filter t xs ≡ []
filter_none t [] none = refl
filter_none t (x ∷ xs) none = ap (λ (b : Bool). cond b (x ∷ filter t xs) (filter t xs)) (none x (in_head x xs)) ∙ filter_none t xs (λ y i. none y (in_tail x xs y i))

pub minus_has : (ts xs : List ℕ) (r : ℕ) → Has (minus ts xs) r → Has xs r
minus_has ts xs r has = dite (ℕ_discrete (times r ts) 0)
    (λ z. let same = times_minus_other ts xs r z in omega arith)
    (λ nz. let zero = times_minus_same ts xs r (omega arith) in absurd (omega arith))

pub minus_none : (ts xs : List ℕ) → ((x : ℕ) → Contains xs x → Has ts x) → minus ts xs ≡ []
minus_none ts xs all = filter_none (λ x. not (among ts x)) xs (λ x i. ap not (among_true ts x (all x i)))

pub empty_journal : (e : Unit {0}) {F : Type 0} → [] ≡ e ∷ [] → F
empty_journal e is = let long = ap length is in absurd (omega arith)

-- the rows in limbo, where nothing is swept
pub limbo_same : (swept : List ℕ) (limbo : List PutRow) → swept ≡ [] → filter (λ k. not (among swept k.row)) limbo ≡ limbo
limbo_same swept limbo none = filter_all (λ k. not (among swept k.row)) limbo (λ k i. ap not (among_false swept k.row (ap (times k.row) none ∙ times-nil k.row)))

pub range_more : (n row : ℕ) (xs ys : List ℕ) → 2 ≤ row → xs ≡ range_with_len 2 (row - 2) → ys ≡ xs ++ row ∷ [] → ys ≡ range_with_len 2 (row + 1 - 2)
range_more n row xs ys low is more = let e : row - 2 + 1 ≡ row + 1 - 2 = omega arith in let at : 2 + (row - 2) ≡ row = omega arith in
    more ∙ ((λ j. is j ++ sym at j ∷ []) ∙ (sym (range-push 2 (row - 2)) ∙ ap (range_with_len 2) e))
