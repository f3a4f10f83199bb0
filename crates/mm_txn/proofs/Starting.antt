-- A table of new rows may start with a new book.
use Rattle.std.proofs.Common.{◌≡◌, ◌≢◌, ℕ, zero, suc, ◌+◌, ◌-◌, ◌<◌, ◌≤◌, ◌^◌, true, List, [], ◌∷◌, ◌++◌, length, map, drop, set, get_or, Option, Some, None, sym, refl, ap, ◌∙◌, subst, inl, inr, ⊎_elim, arith}
use Rattle.std.specs.Prelude.{slice_get, replicate}
use Rattle.std.specs.List.{All}
use Rattle.std.proofs.lemmas.Bool.{cases_eq}
use Rattle.std.proofs.lemmas.List.Elements.{All-nil, All-cons, All-head, All-tail}
use mathlib.Core.Option.{some}
use lib.ListN.{get_elem?}
use Rattle.atomic_table.proofs.Lists.{at_snoc, at_set}
use Rattle.walk_core.proofs.Keeps.{found_there}
use Rattle.walk_core.proofs.Spellings.{is_link-link_word}
use Rattle.walk_core.specs.Words.{is_link}
use Rattle.table_place.specs.Place.{root, directory}
use Rattle.table_place.specs.declared.Place.{Place}
use Rattle.row_cells.specs.declared.Cell.{Cell}
use Rattle.row_cells.specs.declared.Cell.TheVariants.{Invalid, Table}
use Rattle.row_cells.specs.Cells.{blank}
use Rattle.row_layout.specs.declared.places.Layout.{Layout}
use Rattle.row_layout.specs.Places.{IsLayout}
use Rattle.row_table.specs.Rows.{row_words, place_at}
use Rattle.row_table.specs.Start.{MayStart, start_words}
use Rattle.row_table.specs.StartWords.{StartsTrue}
use Rattle.row_table.specs.declared.view.PassView.{PassView}
use Rattle.row_table.specs.Close.{IsIdle}
use Rattle.row_table.specs.Rule.{unmoved}
use Rattle.corten_base.specs.declared.calls.Entry.{Entry}
use Rattle.row_table.proofs.StartWords.{starts_true}
use Rattle.page_map.specs.State.{IsWithinLimits, levels_of}
use Rattle.corten_base.specs.declared.numbers.Limits.{Limits}
use Rattle.machine_plan.specs.Agrees.{Agrees}
use Rattle.machine_plan.specs.Books.{BookData, put_of}
use Rattle.machine_plan.specs.Follows.{machine}
use Rattle.machine_plan.proofs.Beginning.{start_agrees}
use Rattle.book.specs.Starting.{Starts}
use Rattle.mm_txn.specs.Starting.{AreBlank, AreFirstRows, first_directory}

-- Rows

pub blank_none : (xs : List (List Cell)) → xs ≡ [] → AreBlank 0 xs
blank_none xs none = record {
  count_is = ap length none;
  blanks = λ r x at. absurd (omega (arith, found_there [] r x (subst (λ (l : List (List Cell)). get_elem? l r ≡ some x) none at)));
}

pub blank_more : (count : ℕ) (xs ys : List (List Cell)) (y : List Cell) → AreBlank count xs → y ≡ blank → ys ≡ xs ++ y ∷ [] → AreBlank (count + 1) ys
blank_more count xs ys y blanks is more = record {
  count_is = omega (arith, ap length more, Rattle.std.proofs.Common.length-append xs (y ∷ []), blanks.count_is);
  blanks = λ r x at. ⊎_elim (λ (old : get_elem? xs r ≡ some x). blanks.blanks r x old) (λ (last : y ≡ x). sym last ∙ is) (at_snoc xs y x r (subst (λ (l : List (List Cell)). get_elem? l r ≡ some x) more at));
}

pub first_of_blank : (count : ℕ) (xs : List (List Cell)) (row : List Cell) → AreBlank count xs → row ≡ first_directory → AreFirstRows count (set xs 0 row)
first_of_blank count xs row blanks is = record {
  count_is = Rattle.std.proofs.lemmas.List.length-set xs 0 row ∙ blanks.count_is;
  directory = λ x at. ⊎_elim (λ (here : (0 ≡ 0) × (row ≡ x)). sym here.1 ∙ is) (λ (else : (0 ≢ 0) × (get_elem? xs 0 ≡ some x)). absurd (else.0 refl)) (at_set xs 0 0 row x at);
  others = λ r x some_row at. ⊎_elim (λ (here : (r ≡ 0) × (row ≡ x)). absurd (omega (arith, here.0, some_row))) (λ (else : (r ≢ 0) × (get_elem? xs r ≡ some x)). blanks.blanks r x else.1) (at_set xs 0 r row x at);
}

-- the first row with the link to the root of space 0
pub replaced : (count : ℕ) (xs : List (List Cell)) → AreBlank count xs → 0 < count → (row new d : List Cell) → row ≡ get_or xs 0 d → new ≡ set row 0 Table → new ≡ first_directory
replaced count [] blanks less row new d at is = absurd (omega (arith, less, blanks.count_is))
replaced count (x ∷ xs) blanks less row new d at is = is ∙ ap (λ (l : List Cell). set l 0 Table) (at ∙ blanks.blanks 0 x refl)

-- Their cells

blank_whole : length blank ≡ 512
unfolding blank
blank_whole = refl

invalid_at : (n i : ℕ) → i < n → slice_get (replicate n Invalid) i ≡ Some Invalid
invalid_at zero i less = absurd (omega (arith, less))
invalid_at (suc n) zero less = refl
invalid_at (suc n) (suc i) less = invalid_at n i (omega (arith, less))

blank_at : (i : ℕ) → i < 512 → slice_get blank i ≡ Some Invalid
unfolding blank
blank_at i less = invalid_at 512 i less

get_set_here : (xs : List Cell) (c : Cell) → 0 < length xs → slice_get (set xs 0 c) 0 ≡ Some c
get_set_here [] c more = absurd (omega (arith, more))
get_set_here (x ∷ xs) c more = refl

get_set_else : (xs : List Cell) (c : Cell) (i : ℕ) → 1 ≤ i → slice_get (set xs 0 c) i ≡ slice_get xs i
get_set_else [] c i more = refl
get_set_else (x ∷ xs) c zero more = absurd (omega (arith, more))
get_set_else (x ∷ xs) c (suc i) more = refl

module _ (k : Layout) (is : IsLayout k) (limits : Limits) (shelf : List (List ℕ)) (entries : ℕ) (b : BookData) (within : IsWithinLimits limits) (same_levels : k.levels ≡ limits.levels) (starts : Starts limits k.rows shelf entries b) where
  true_start : StartsTrue k
  true_start = starts_true k is

  right : IsWithinLimits b.limits
  right = subst IsWithinLimits (sym starts.same_limits) within

  directory_agrees : (x : List Cell) → x ≡ first_directory → Agrees b (place_at (start_words k) 0) (row_words (start_words k) 0) x
  directory_agrees x same =
      subst (λ (p : Place). Agrees b p (row_words (start_words k) 0) x) (sym true_start.directory_place)
      (subst (λ (cells : List Cell). Agrees b directory (row_words (start_words k) 0) cells) (sym same)
      ((start_agrees b right starts.journal (row_words (start_words k) 0) first_directory (Rattle.std.proofs.lemmas.List.length-set blank 0 Table ∙ blank_whole)).1 (record {
        cell = get_set_here blank Table (omega (arith, blank_whole));
        link = ap is_link true_start.link ∙ is_link-link_word 1 1 (omega arith) (omega arith);
        others = λ i more inside. (get_set_else blank Table i more ∙ blank_at i inside, true_start.others i more inside);
      })))

  root_agrees : (x : List Cell) → x ≡ blank → Agrees b (place_at (start_words k) 1) (row_words (start_words k) 1) x
  root_agrees x same =
      subst (λ (p : Place). Agrees b p (row_words (start_words k) 1) x) (ap (λ (n : ℕ). root n 0) (ap (λ (l : Limits). l.levels) starts.same_limits ∙ sym same_levels) ∙ sym true_start.root_place)
      (subst (λ (cells : List Cell). Agrees b (root (levels_of b.limits) 0) (row_words (start_words k) 1) cells) (sym same)
      ((start_agrees b right starts.journal (row_words (start_words k) 1) blank blank_whole).0 (λ i inside. (blank_at i inside, true_start.root_empty i inside))))

  pub may_start : (rows : List (List Cell)) → AreFirstRows k.rows rows → MayStart machine k rows b
  may_start rows first = record {
    each_row = first.count_is;
    linked = λ r x less at. elim (cases_eq r 0) [
      | inl zero_is ↦ subst (λ (n : ℕ). Agrees b (place_at (start_words k) n) (row_words (start_words k) n) x) (sym zero_is) (directory_agrees x (first.directory x (ap (get_elem? rows) (sym zero_is) ∙ at)))
      | inr ne ↦ subst (λ (n : ℕ). Agrees b (place_at (start_words k) n) (row_words (start_words k) n) x) (let one : 1 ≡ r = omega (arith, less, ne) in one) (root_agrees x (first.others r x (omega (arith, ne)) at))
    ];
    others = λ r x past at. first.others r x (omega (arith, past)) at;
    journal = starts.journal;
    free = λ q. ap (λ (l : List ℕ). Rattle.walk_core.specs.Lists.times q l) (sym starts.free);
    limbo = ap (map put_of) starts.limbo;
    generation = omega (arith, starts.generation);
  }

-- The kits that passes carry

pub kits_carried : {X K : Type 0} (f : X → Option K) (Q : K → Type 0) (xs : List X) (ks : List K) → map f xs ≡ map (λ k. Some k) ks → All Q ks → All (λ x. (k : K) × (f x ≡ Some k) × Q k) xs
kits_carried {X} {K} f Q [] ks is all = All-nil (λ (x : X). (k : K) × (f x ≡ Some k) × Q k)
kits_carried f Q (x ∷ xs) [] is all = absurd (omega (arith, ap length is))
kits_carried {X} {K} f Q (x ∷ xs) (k ∷ ks) is all =
    All-cons (λ (x : X). (k : K) × (f x ≡ Some k) × Q k) x xs (k, ap (λ (l : List (Option K)). get_or l 0 None) is, All-head Q k ks all)
    (kits_carried f Q xs ks (ap (λ (l : List (Option K)). drop 1 l) is) (All-tail Q k ks all))

-- A pass that has done nothing

pub is_idle : (k : Layout) (b : BookData) (n : ℕ) (v : PassView (List Cell) BookData Entry) → v ≡ unmoved k (Some b) n → IsIdle v
is_idle k b n v same = subst (λ (u : PassView (List Cell) BookData Entry). IsIdle u) (sym same) (record { outside = refl; held = refl; granted = refl; unlinked = refl; has_not = refl })
