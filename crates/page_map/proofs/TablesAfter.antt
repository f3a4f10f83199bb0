-- The tables after a call, from those that it lacked: what it wants and is there stays, for none of it is given up.
use Rattle.std.proofs.Common.{◌≡◌, ℕ, ◌/◌, Bool, true, false, cond, not, ◌&&◌, ◌||◌, List, refl, sym, ap, ◌∙◌, arith}
use mathlib.Core.Bool.{true≢false}
use Rattle.std.specs.Prelude.{None}
use Rattle.std.specs.FinMap as fin
use Rattle.std.specs.FinSet as set
use Rattle.std.specs.FinSet.{same_set, contains-retain, contains-union, contains-difference, contains-from_list}
use Rattle.std.proofs.lemmas.Bool.{not-true, false_from_ne_true}
use Rattle.corten_base.specs.declared.calls.TxnOp.TheVariants as op
use Rattle.table_place.specs.declared.Place.{Place}
use Rattle.table_place.specs.Place.{is_inside, pages_of, span_first, span_count}
use Rattle.table_place.proofs.Tables.{to_range, inside_parts}
use Rattle.page_map.specs.Cell.{AddressSpace}
use Rattle.page_map.specs.Alike.{is_alike, unlike_tables}
use Rattle.page_map.specs.Tables.{Tables, missing, changed_tables}
use Rattle.page_map.specs.Mapping.{after_op}
use Rattle.page_map.proofs.Range.{get-change}
use Rattle.page_map.proofs.Places.{place_total, place_exact}
use Rattle.page_map.proofs.Evaluate.{alike}
use Rattle.page_map.proofs.Wanted.{is_wanted}
use Rattle.page_map.proofs.Unlike.{wanted_is_unlike}
use Rattle.page_map.proofs.Alike.{none_alike}

module _ (is_given_up : Place → Bool) (tables : Tables) where
  abbrev stays : Place → Bool
  stays p = not (is_given_up p)

  kept : (s : Tables) (p : Place) → set.contains (set.retain s stays) p ≡ (set.contains s p && stays p)
  kept s p = contains-retain s stays p (alike place_total place_exact stays p)

  -- where nothing that is given up is wanted, the missing ones are what comes
  pub changed_with : (wanted : List Place) → ((p : Place) → is_given_up p ≡ true → is_wanted wanted p ≡ false) →
      changed_tables is_given_up wanted tables ≡ set.union (set.retain tables stays) (missing wanted tables)
  changed_with wanted none = same_set place_total place_exact _ _ (λ p.
      contains-union place_total (set.retain tables stays) (set.from_list wanted) p
      ∙ (λ i. kept tables p i || contains-from_list place_total wanted p i)
      ∙ by_test (set.contains tables p) (is_given_up p) (is_wanted wanted p) (none p)
      ∙ sym (contains-union place_total (set.retain tables stays) (missing wanted tables) p
      ∙ (λ i. kept tables p i || (contains-difference place_total (set.from_list wanted) tables p ∙ ap (λ b. b && not (set.contains tables p)) (contains-from_list place_total wanted p)) i)))
    where
      by_test : (t g w : Bool) → (g ≡ true → w ≡ false) → ((t && not g) || w) ≡ ((t && not g) || (w && not t))
      by_test true true w h = h refl ∙ sym (never w)
        where
          never : (b : Bool) → (b && false) ≡ false
          never true = refl
          never false = refl
      by_test true false w h = refl
      by_test false g true h = refl
      by_test false g false h = refl

  -- what comes may be put in before the others go
  pub put_in_first : (more : Tables) → ((p : Place) → set.contains more p ≡ true → is_given_up p ≡ false) → set.retain (set.union tables more) stays ≡ set.union (set.retain tables stays) more
  put_in_first more none = same_set place_total place_exact _ _ (λ p.
      kept (set.union tables more) p ∙ ap (λ b. b && stays p) (contains-union place_total tables more p)
      ∙ by_test (set.contains tables p) (set.contains more p) (is_given_up p) (none p)
      ∙ sym (contains-union place_total (set.retain tables stays) more p ∙ ap (λ b. b || set.contains more p) (kept tables p)))
    where
      by_test : (t m g : Bool) → (m ≡ true → g ≡ false) → ((t || m) && not g) ≡ ((t && not g) || m)
      by_test true true g h = ap not (h refl) ∙ sym (ap (λ b. not b || true) (h refl))
      by_test true false true h = refl
      by_test true false false h = refl
      by_test false true g h = ap not (h refl)
      by_test false false g h = refl

-- a table whose span is alike afterwards is not wanted
pub alike_unwanted : (levels space : ℕ) (cells : AddressSpace) (p : Place) → is_alike cells (span_first p) (span_count p) ≡ true → is_wanted (unlike_tables levels space cells) p ≡ false
alike_unwanted levels space cells p whole = false_from_ne_true _ (λ h. true≢false (sym whole ∙ not-true _ (wanted_is_unlike levels space cells p h).1))

-- so none is that an unmapping gives up
pub unmapped_unwanted : (levels space at len : ℕ) (cells : AddressSpace) (p : Place) → is_inside levels space (at / 4096) (pages_of len) p ≡ true →
    is_wanted (unlike_tables levels space (after_op (op.Unmap at len) cells)) p ≡ false
unfolding after_op
unmapped_unwanted levels space at len cells p inside =
    let is = inside_parts levels space (at / 4096) (pages_of len) p inside in
    alike_unwanted levels space (after_op (op.Unmap at len) cells) p (none_alike (after_op (op.Unmap at len) cells) (span_first p) (span_count p) (λ q a b.
    get-change cells (at / 4096) (pages_of len) (λ _ _. None) q
    ∙ ap (λ t. cond t None (fin.get cells q)) (to_range (at / 4096) (pages_of len) q (omega (arith, is.from, a)) (omega (arith, is.to, b)))))
