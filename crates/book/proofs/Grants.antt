-- The numbers that pages get: each page that wants one has one, in ascending order.
use Rattle.std.proofs.Common.{◌≡◌, ℕ, ◌<◌, ◌≤◌, Bool, true, false, cond, not, List, [], ◌∷◌, ◌++◌, length, refl, sym, ap, ◌∙◌, arith}
use mathlib.Core.Bool.{true≢false}
use Rattle.std.specs.Prelude.{Option, Some, None, T, is_some, map, nat_eq}
use Rattle.std.specs.List.{filter, zip, AllByRecursion}
use Rattle.std.specs.Option.{unwrap_or, option_map_or}
use Rattle.std.specs.Ordering.{nat_cmp}
use Rattle.std.specs.Cmp.{ranked, unsigned_tied, nat_eq_equiv}
use Rattle.std.specs.declared.cmp.Ordering.TheVariants.{Less}
use Rattle.std.specs.FinMap as fin
use Rattle.std.specs.FinMap.{find, is_sorted, entries_sorted}
use Rattle.std.specs.FinMap.Entries.{below_all}
use Rattle.page_map.specs.declared.cell.Cell.{Cell}
use Rattle.page_map.specs.Cell.{contents}
use Rattle.page_map.specs.Swap.{moved}
use Rattle.page_map.specs.Takes.{Grant, grant, granted}
use Rattle.page_map.proofs.Weights.{first, second, less}
use Rattle.machine_plan.specs.Uses.{Ref, ref_at, refs_of}
use Rattle.machine_plan.specs.Kits.{is_granted}
use Rattle.book.proofs.SameKeys.{with_values}

-- Lists whose keys rise

module _ {X : Type 0} where
  abbrev pub Above : ℕ → List (ℕ × X) → Type 0
  Above k es = AllByRecursion (λ (e : ℕ × X). k < e.0) es

  abbrev pub Rising : List (ℕ × X) → Type 0
  Rising [] = Unit {0}
  Rising (e ∷ es) = Above e.0 es × Rising es

  above_first : (k : ℕ) (es : List (ℕ × X)) → T (below_all nat_cmp k es) → Above k es
  above_first k [] h = tt
  above_first k (e ∷ es) h = (ranked k e.0 Less (sym (less _ (first _ _ h))), above_first k es (second _ _ h))

  rising_so : (es : List (ℕ × X)) → T (is_sorted nat_cmp es) → Rising es
  rising_so [] h = tt
  rising_so (e ∷ es) h = (above_first e.0 es (first _ _ h), rising_so es (second _ _ h))

  pub rising_entries : (m : fin.FinMap nat_cmp X) → Rising (fin.entries m)
  rising_entries m = rising_so (fin.entries m) (entries_sorted m)

  still_above : (k : ℕ) (p : ℕ × X → Bool) (es : List (ℕ × X)) → Above k es → Above k (filter p es)
  still_above k p [] h = tt
  still_above k p (e ∷ es) h = go (p e) (still_above k p es h.1)
    where
      go : (b : Bool) → Above k (filter p es) → Above k (cond b (e ∷ filter p es) (filter p es))
      go true rest = (h.0, rest)
      go false rest = rest

  pub still_rising : (p : ℕ × X → Bool) (es : List (ℕ × X)) → Rising es → Rising (filter p es)
  still_rising p [] h = tt
  still_rising p (e ∷ es) h = go (p e) (still_rising p es h.1)
    where
      go : (b : Bool) → Rising (filter p es) → Rising (cond b (e ∷ filter p es) (filter p es))
      go true rest = (still_above e.0 p es h.0, rest)
      go false rest = rest

  abbrev pub keys : List (ℕ × X) → List ℕ
  keys es = map (λ e. e.0) es

  -- a key below all others is not among them
  none_below : (k : ℕ) (es : List (ℕ × X)) (numbers : List ℕ) → Above k es → find nat_cmp k (zip (keys es) numbers) ≡ None
  none_below k [] numbers h = refl
  none_below k (e ∷ es) [] h = refl
  none_below k (e ∷ es) (n ∷ numbers) h =
      ap (λ b. cond b (Some n) (find nat_cmp k (zip (keys es) numbers))) (unsigned_tied k e.0 ∙ differs h.0) ∙ none_below k es numbers h.1
    where
      differs : {a b : ℕ} → a < b → nat_eq a b ≡ false
      differs l = grind (arith, l)

found_first : (k n : ℕ) (g : Grant) → granted ((k, n) ∷ g) k ≡ Some n
found_first k n g = ap (λ b. cond b (Some n) (find nat_cmp k g)) (unsigned_tied k k ∙ nat_eq_equiv.refl k)

found_later : (k n : ℕ) (g : Grant) (j : ℕ) → k < j → granted ((k, n) ∷ g) j ≡ granted g j
found_later k n g j above = ap (λ b. cond b (Some n) (find nat_cmp j g)) (unsigned_tied j k ∙ differs above)
  where
    differs : {a b : ℕ} → a < b → nat_eq b a ≡ false
    differs l = grind (arith, l)

module _ {X : Type 0} (goes : X → Bool) where
  abbrev pub going : List (ℕ × X) → List (ℕ × X)
  going es = filter (λ e. goes e.1) es

  abbrev pub GrantedSo : Grant → List (ℕ × X) → Type 0
  GrantedSo g es = AllByRecursion (λ (e : ℕ × X). is_some (granted g e.0) ≡ goes e.1) es

  more_granted : (k n : ℕ) (g : Grant) (es : List (ℕ × X)) → Above k es → GrantedSo g es → GrantedSo ((k, n) ∷ g) es
  more_granted k n g [] above h = tt
  more_granted k n g (e ∷ es) above h = (ap is_some (found_later k n g e.0 above.0) ∙ h.0, more_granted k n g es above.1 h.1)

  -- just the pages that go have a number
  pub granted_so : (es : List (ℕ × X)) (numbers : List ℕ) → Rising es → length (going es) ≤ length numbers → GrantedSo (grant (keys (going es)) numbers) es
  granted_so [] numbers rising enough = tt
  granted_so (e ∷ es) numbers rising enough = go (goes e.1) refl numbers enough (λ ns few. granted_so es ns rising.1 few)
    where
      go : (b : Bool) → goes e.1 ≡ b → (numbers : List ℕ) → length (cond b (e ∷ going es) (going es)) ≤ length numbers → ((ns : List ℕ) → length (going es) ≤ length ns → GrantedSo (grant (keys (going es)) ns) es)
          → GrantedSo (grant (keys (cond b (e ∷ going es) (going es))) numbers) (e ∷ es)
      go false is ns few rest = (ap is_some (none_below e.0 (going es) ns (still_above e.0 (λ x. goes x.1) es rising.0)) ∙ sym is, rest ns few)
      go true is [] few rest = absurd (omega (arith, few))
      go true is (n ∷ ns) few rest = (
        ap is_some (found_first e.0 n (grant (keys (going es)) ns)) ∙ sym is,
        more_granted e.0 n (grant (keys (going es)) ns) es rising.0 (rest ns (omega (arith, few))),
      )

-- each page's own number
abbrev pub number_at : Grant → ℕ → ℕ
number_at g k = unwrap_or (granted g k) 0

module _ {X : Type 0} where
  same_later : (k n : ℕ) (g : Grant) (es : List (ℕ × X)) → Above k es → map {B = ℕ × ℕ} (λ (e : ℕ × X). (e.0, number_at ((k, n) ∷ g) e.0)) es ≡ map {B = ℕ × ℕ} (λ (e : ℕ × X). (e.0, number_at g e.0)) es
  same_later k n g [] above = refl
  same_later k n g (e ∷ es) above = λ i. (e.0, unwrap_or (found_later k n g e.0 above.0 i) 0) ∷ same_later k n g es above.1 i

  pub own_numbers : (es : List (ℕ × X)) (numbers : List ℕ) → Rising es → length es ≤ length numbers → map {B = ℕ × ℕ} (λ (e : ℕ × X). (e.0, number_at (grant (keys es) numbers) e.0)) es ≡ grant (keys es) numbers
  own_numbers [] numbers rising enough = refl
  own_numbers (e ∷ es) [] rising enough = absurd (omega (arith, enough))
  own_numbers (e ∷ es) (n ∷ ns) rising enough =
      let rest = same_later e.0 n (grant (keys es) ns) es rising.0 ∙ own_numbers es ns rising.1 (omega (arith, enough)) in
      λ i. (e.0, unwrap_or (found_first e.0 n (grant (keys es) ns) i) 0) ∷ rest i

-- Cells that move to another kind of number: from one, into the other

pub record MovesSo (goes : Cell → Bool) (to : ℕ → Cell → Cell) (from into : Cell → Option ℕ) : Type 0 where
  pub had : (d : Cell) → goes d ≡ true → is_some (from d) ≡ true
  pub had_none : (d : Cell) → goes d ≡ true → into d ≡ None
  pub has : (n : ℕ) (d : Cell) → goes d ≡ true → into (to n d) ≡ Some n
  pub has_none : (n : ℕ) (d : Cell) → goes d ≡ true → from (to n d) ≡ None
  pub bytes : (n : ℕ) (d : Cell) → contents [] (to n d) ≡ contents [] d

abbrev pub page_bytes : Ref → ℕ × List ℕ
page_bytes r = (r.0, r.1.1)

module _ (goes : Cell → Bool) (to : ℕ → Cell → Cell) (from into : Cell → Option ℕ) (so : MovesSo goes to from into) (g : Grant) where
  abbrev pub after : List (ℕ × Cell) → List (ℕ × Cell)
  after es = with_values (λ page. moved to (granted g page)) es

  abbrev arrived : ℕ × Cell → Ref
  arrived e = (e.0, (number_at g e.0, contents [] e.1))

  no_ref : (number_of : Cell → Option ℕ) (k : ℕ) (d : Cell) → number_of d ≡ None → ref_at number_of (k, d) ≡ []
  no_ref number_of k d none = ap (λ o. option_map_or (λ n. (k, (n, contents [] d)) ∷ []) o []) none

  one_ref : (number_of : Cell → Option ℕ) (k n : ℕ) (d : Cell) → number_of d ≡ Some n → ref_at number_of (k, d) ≡ (k, (n, contents [] d)) ∷ []
  one_ref number_of k n d some = ap (λ o. option_map_or (λ n. (k, (n, contents [] d)) ∷ []) o []) some

  -- those that were granted a number have it, with their bytes
  pub arrived_are : (es : List (ℕ × Cell)) → GrantedSo goes g es → refs_of into (filter (is_granted g) (after es)) ≡ map arrived (going goes es)
  arrived_are [] h = refl
  arrived_are (e ∷ es) h = go (goes e.1) refl (granted g e.0) refl (arrived_are es h.1)
    where
      go : (b : Bool) → goes e.1 ≡ b → (o : Option ℕ) → granted g e.0 ≡ o → refs_of into (filter (is_granted g) (after es)) ≡ map arrived (going goes es)
          → refs_of into (cond (is_granted g e) ((e.0, moved to (granted g e.0) e.1) ∷ filter (is_granted g) (after es)) (filter (is_granted g) (after es))) ≡ map arrived (cond (goes e.1) (e ∷ going goes es) (going goes es))
      go true is (Some n) some rest =
          (λ i. refs_of into (cond (is_some (some i)) ((e.0, moved to (some i) e.1) ∷ filter (is_granted g) (after es)) (filter (is_granted g) (after es))))
          ∙ ap (λ (rs : List Ref). rs ++ refs_of into (filter (is_granted g) (after es))) (one_ref into e.0 n (to n e.1) (so.has n e.1 is))
          ∙ (λ i. (e.0, (n, so.bytes n e.1 i)) ∷ rest i)
          ∙ (λ i. (e.0, (unwrap_or (sym some i) 0, contents [] e.1)) ∷ map arrived (going goes es))
          ∙ ap (λ b. map arrived (cond b (e ∷ going goes es) (going goes es))) (sym is)
      go false is None none rest =
          (λ i. refs_of into (cond (is_some (none i)) ((e.0, moved to (none i) e.1) ∷ filter (is_granted g) (after es)) (filter (is_granted g) (after es))))
          ∙ rest
          ∙ ap (λ b. map arrived (cond b (e ∷ going goes es) (going goes es))) (sym is)
      go true is None none rest = absurd (true≢false (sym is ∙ sym h.0 ∙ ap is_some none))
      go false is (Some n) some rest = absurd (true≢false (sym (ap is_some some) ∙ h.0 ∙ is))

  -- no other page's number of that kind changes
  pub kept_are : (es : List (ℕ × Cell)) → GrantedSo goes g es → refs_of into (filter (λ e. not (is_granted g e)) (after es)) ≡ refs_of into es
  kept_are [] h = refl
  kept_are (e ∷ es) h = go (goes e.1) refl (granted g e.0) refl (kept_are es h.1)
    where
      go : (b : Bool) → goes e.1 ≡ b → (o : Option ℕ) → granted g e.0 ≡ o → refs_of into (filter (λ e. not (is_granted g e)) (after es)) ≡ refs_of into es
          → refs_of into (cond (not (is_granted g e)) ((e.0, moved to (granted g e.0) e.1) ∷ filter (λ e. not (is_granted g e)) (after es)) (filter (λ e. not (is_granted g e)) (after es))) ≡ ref_at into e ++ refs_of into es
      go true is (Some n) some rest =
          (λ i. refs_of into (cond (not (is_some (some i))) ((e.0, moved to (some i) e.1) ∷ filter (λ e. not (is_granted g e)) (after es)) (filter (λ e. not (is_granted g e)) (after es))))
          ∙ rest ∙ ap (λ (rs : List Ref). rs ++ refs_of into es) (sym (no_ref into e.0 e.1 (so.had_none e.1 is)))
      go false is None none rest =
          (λ i. refs_of into (cond (not (is_some (none i))) ((e.0, moved to (none i) e.1) ∷ filter (λ e. not (is_granted g e)) (after es)) (filter (λ e. not (is_granted g e)) (after es))))
          ∙ ap (λ (rs : List Ref). ref_at into e ++ rs) rest
      go true is None none rest = absurd (true≢false (sym is ∙ sym h.0 ∙ ap is_some none))
      go false is (Some n) some rest = absurd (true≢false (sym (ap is_some some) ∙ h.0 ∙ is))

  -- those that stay keep the numbers that they had
  pub stayed_are : (es : List (ℕ × Cell)) → GrantedSo goes g es → refs_of from (after es) ≡ refs_of from (filter (λ e. not (goes e.1)) es)
  stayed_are [] h = refl
  stayed_are (e ∷ es) h = go (goes e.1) refl (granted g e.0) refl (stayed_are es h.1)
    where
      go : (b : Bool) → goes e.1 ≡ b → (o : Option ℕ) → granted g e.0 ≡ o → refs_of from (after es) ≡ refs_of from (filter (λ e. not (goes e.1)) es)
          → ref_at from (e.0, moved to (granted g e.0) e.1) ++ refs_of from (after es) ≡ refs_of from (cond (not (goes e.1)) (e ∷ filter (λ e. not (goes e.1)) es) (filter (λ e. not (goes e.1)) es))
      go true is (Some n) some rest =
          (λ i. ref_at from (e.0, moved to (some i) e.1) ++ refs_of from (after es))
          ∙ ap (λ (rs : List Ref). rs ++ refs_of from (after es)) (no_ref from e.0 (to n e.1) (so.has_none n e.1 is))
          ∙ rest ∙ ap (λ b. refs_of from (cond (not b) (e ∷ filter (λ e. not (goes e.1)) es) (filter (λ e. not (goes e.1)) es))) (sym is)
      go false is None none rest =
          (λ i. ref_at from (e.0, moved to (none i) e.1) ++ refs_of from (after es))
          ∙ ap (λ (rs : List Ref). ref_at from e ++ rs) rest
          ∙ ap (λ b. refs_of from (cond (not b) (e ∷ filter (λ e. not (goes e.1)) es) (filter (λ e. not (goes e.1)) es))) (sym is)
      go true is None none rest = absurd (true≢false (sym is ∙ sym h.0 ∙ ap is_some none))
      go false is (Some n) some rest = absurd (true≢false (sym (ap is_some some) ∙ h.0 ∙ is))

  -- the references that go, by their pages and bytes
  pub going_bytes : (es : List (ℕ × Cell)) → map page_bytes (refs_of from (going goes es)) ≡ map {B = ℕ × List ℕ} (λ (e : ℕ × Cell). (e.0, contents [] e.1)) (going goes es)
  going_bytes [] = refl
  going_bytes (e ∷ es) = go (goes e.1) refl (from e.1) refl (going_bytes es)
    where
      go : (b : Bool) → goes e.1 ≡ b → (o : Option ℕ) → from e.1 ≡ o → map page_bytes (refs_of from (going goes es)) ≡ map {B = ℕ × List ℕ} (λ (e : ℕ × Cell). (e.0, contents [] e.1)) (going goes es)
          → map page_bytes (refs_of from (cond b (e ∷ going goes es) (going goes es))) ≡ map {B = ℕ × List ℕ} (λ (e : ℕ × Cell). (e.0, contents [] e.1)) (cond b (e ∷ going goes es) (going goes es))
      go false is o some rest = rest
      go true is (Some n) some rest =
          ap (λ (rs : List Ref). map page_bytes (rs ++ refs_of from (going goes es))) (one_ref from e.0 n e.1 some)
          ∙ ap (λ (l : List (ℕ × List ℕ)). (e.0, contents [] e.1) ∷ l) rest
      go true is None none rest = absurd (true≢false (sym (so.had e.1 is) ∙ ap is_some none))
