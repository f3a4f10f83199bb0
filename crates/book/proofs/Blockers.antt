-- Blockers of the rows in limbo.
use Rattle.std.proofs.Common.{◌≡◌, ℕ, zero, suc, ◌+◌, ◌<◌, ◌≤◌, List, [], ◌∷◌, ◌++◌, length, set, refl, sym, ap, subst, ◌∙◌, arith}
use Rattle.std.specs.Prelude.{Option, Some, None, IfSome, map, slice_get}
use Rattle.std.specs.List.{All}
use Rattle.std.proofs.lemmas.List.Elements.{All-append, All-cons, All-map}
use Rattle.row_layout.specs.Limbo.{LimboList}
use Rattle.row_layout.specs.declared.limbo.Sampled.{Sampled}
use Rattle.page_map.proofs.Steps.{not_none}
use Rattle.page_map.proofs.Owners.{same_some}
use Rattle.machine_plan.specs.Books.{unblocked}
use Rattle.book.specs.Entries.{FirstTells}
use Rattle.book.specs.Kept.{IsTableRow}

unblocked_twice : (limbo : List Sampled) → map unblocked (map unblocked limbo) ≡ map unblocked limbo
unblocked_twice [] = refl
unblocked_twice (s ∷ limbo) = ap (λ (l : List Sampled). unblocked s ∷ l) (unblocked_twice limbo)

pub tells_empty : FirstTells []
tells_empty = record { none = λ s first free. refl }

-- after an entry no row has a blocker
pub tells_none : (limbo new : List Sampled) → new ≡ map unblocked limbo → FirstTells new
tells_none limbo new is = subst FirstTells (sym is) (record { none = λ s first free. unblocked_twice limbo })

-- a row without a blocker comes behind the others
pub tells_pushed : (limbo : List Sampled) (s : Sampled) → FirstTells limbo → FirstTells (limbo ++ unblocked s ∷ [])
tells_pushed [] s tells = record { none = λ t first free. refl }
tells_pushed (x ∷ limbo) s tells = record { none = λ t first free. pushed (x ∷ limbo) (tells.none t first free) }
  where
    pushed : (l : List Sampled) → map unblocked l ≡ l → map unblocked (l ++ unblocked s ∷ []) ≡ l ++ unblocked s ∷ []
    pushed l e = appended l ∙ ap (λ (m : List Sampled). m ++ unblocked s ∷ []) e
      where
        appended : (l : List Sampled) → map unblocked (l ++ unblocked s ∷ []) ≡ map unblocked l ++ unblocked s ∷ []
        appended [] = refl
        appended (y ∷ l) = ap (λ (m : List Sampled). unblocked y ∷ m) (appended l)

pub pushed_tells : (old new : LimboList) (s pushed : Sampled) → new ≡ record old { list = old.list ++ pushed ∷ [] } → pushed ≡ unblocked s → FirstTells old.list → FirstTells new.list
pushed_tells old new s pushed is free tells =
    subst FirstTells (ap (λ (x : Sampled). old.list ++ x ∷ []) (sym free) ∙ ap (λ (l : LimboList). l.list) (sym is)) (tells_pushed old.list s tells)

-- The numbers of rows in limbo

pub no_rows : (tables : ℕ) → All (IsTableRow tables) []
no_rows tables = λ k d inside. absurd (omega (arith, inside))

pub rows_unblocked : (tables : ℕ) (limbo new : List Sampled) → new ≡ map unblocked limbo → All (IsTableRow tables) limbo → All (IsTableRow tables) new
rows_unblocked tables limbo new is rows = subst (λ (l : List Sampled). All (IsTableRow tables) l) (sym is) (All-map (IsTableRow tables) unblocked limbo rows)

pub rows_pushed : (tables : ℕ) (old new : LimboList) (s pushed : Sampled) → new ≡ record old { list = old.list ++ pushed ∷ [] } → pushed ≡ unblocked s → IsTableRow tables s → All (IsTableRow tables) old.list → All (IsTableRow tables) new.list
rows_pushed tables old new s pushed is free row rows =
    subst (λ (l : List Sampled). All (IsTableRow tables) l) (ap (λ (x : Sampled). old.list ++ x ∷ []) (sym free) ∙ ap (λ (l : LimboList). l.list) (sym is))
    (All-append (IsTableRow tables) old.list (unblocked s ∷ []) rows (All-cons (IsTableRow tables) (unblocked s) [] row (no_rows tables)))

-- A loop that takes the blockers away, row by row

abbrev pub cleared : ℕ → List Sampled → List Sampled
cleared zero limbo = limbo
cleared (suc k) [] = []
cleared (suc k) (s ∷ limbo) = unblocked s ∷ cleared k limbo

pub cleared_long : (k : ℕ) (limbo : List Sampled) → length (cleared k limbo) ≡ length limbo
cleared_long zero limbo = refl
cleared_long (suc k) [] = refl
cleared_long (suc k) (s ∷ limbo) = ap (λ n. suc n) (cleared_long k limbo)

pub cleared_all : (k : ℕ) (limbo : List Sampled) → length limbo ≤ k → cleared k limbo ≡ map unblocked limbo
cleared_all zero [] long = refl
cleared_all zero (s ∷ limbo) long = absurd (omega (arith, long))
cleared_all (suc k) [] long = refl
cleared_all (suc k) (s ∷ limbo) long = ap (λ (l : List Sampled). unblocked s ∷ l) (cleared_all k limbo (omega (arith, long)))

next_cleared : (k : ℕ) (limbo : List Sampled) (s : Sampled) → slice_get (cleared k limbo) k ≡ Some s → set (cleared k limbo) k (unblocked s) ≡ cleared (suc k) limbo
next_cleared zero [] s there = absurd (not_none (sym there))
next_cleared zero (x ∷ limbo) s there = ap (λ (o : Sampled). unblocked o ∷ limbo) (sym (same_some there))
next_cleared (suc k) [] s there = absurd (not_none (sym there))
next_cleared (suc k) (x ∷ limbo) s there = ap (λ (l : List Sampled). unblocked x ∷ l) (next_cleared k limbo s there)

no_past : (l : List Sampled) (k : ℕ) → k < length l → slice_get l k ≡ None → ⊥
no_past [] k less e = omega (arith, less)
no_past (x ∷ l) zero less e = not_none e
no_past (x ∷ l) (suc k) less e = no_past l k (omega (arith, less)) e

-- the row at a place that the list has
abbrev ClearsNext : LimboList → LimboList → ℕ → Type 0
ClearsNext now new k = IfSome (slice_get now.list k) (λ s. new ≡ record now { list = set now.list k (unblocked s) })

pub record ClearsMore (old now new : LimboList) (k : ℕ) : Type 0 where
  pub list : new.list ≡ cleared (k + 1) old.list
  pub room : new.room ≡ now.room

pub cleared_more : (old now new : LimboList) (k : ℕ) → now.list ≡ cleared k old.list → k < length now.list → ClearsNext now new k → ClearsMore old now new k
cleared_more old now new k is less after = go (slice_get now.list k) refl after
  where
    one : suc k ≡ k + 1
    one = omega arith

    go : (o : Option Sampled) → slice_get now.list k ≡ o → IfSome o (λ s. new ≡ record now { list = set now.list k (unblocked s) }) → ClearsMore old now new k
    go None at h = absurd (no_past now.list k less at)
    go (Some s) at h = record {
      list = ap (λ (l : LimboList). l.list) h ∙ ap (λ (l : List Sampled). set l k (unblocked s)) is ∙ next_cleared k old.list s (sym (ap (λ (l : List Sampled). slice_get l k) is) ∙ at) ∙ ap (λ n. cleared n old.list) one;
      room = ap (λ (l : LimboList). l.room) h;
    }
