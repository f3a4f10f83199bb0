-- Which spans are not alike once an item more stands behind others.
use Rattle.std.proofs.Common.{◌≡◌, ◌≢◌, ℕ, ◌+◌, ◌-◌, ◌*◌, ◌/◌, ◌^◌, ◌<◌, ◌≤◌, Bool, true, false, cond, not, ◌&&◌, ◌||◌, List, [], ◌∷◌, ◌++◌, refl, sym, ap, subst, ◌∙◌, arith, ◌⊎◌, inl, inr}
use mathlib.Core.Bool.{true≢false}
use Rattle.std.specs.Prelude.{Option, Some, None, nat_lt, nat_le}
use Rattle.std.specs.List.{All}
use Rattle.std.specs.FinMap as fin
use Rattle.std.proofs.lemmas.Bool.{false≢true, not-true, not_from_false, false_from_ne_true, or_cases, or_left, or_right, and_parts, and_from, leb-true, ltb-true, le-leb, lt-ltb}
use Rattle.table_place.specs.declared.Place.{Place}
use Rattle.table_place.specs.Place.{span_first, span_count}
use Rattle.table_place.proofs.Spans.{span_pos, quotient_low, quotient_high}
use Rattle.page_map.specs.declared.cell.Cell.{Cell}
use Rattle.page_map.specs.declared.cell.Cell.TheVariants as cell
use Rattle.page_map.specs.Cell.{AddressSpace, backed, goes_on}
use Rattle.page_map.specs.Alike.{continues, is_alike, is_unlike}
use Rattle.page_map.proofs.Alike.{continues_is, none_alike, backed_alike, backed_twice, same_alike, gap_unlike}
use Rattle.page_map.proofs.NeedOf.{alike_next, wide}
use Rattle.corten_base.specs.declared.permissions.Perm.{Perm}
use Rattle.corten_base.specs.declared.calls.Backing.{Backing}
use Rattle.corten_base.specs.declared.calls.Backing.TheVariants as backing
use Rattle.image_text.specs.declared.image.Item.{Item}
use Rattle.image_text.specs.declared.image.Item.TheVariants.{Run, Page}
use Rattle.image_text.specs.declared.image.Residence.TheVariants.{Live, Out}
use Rattle.image_text.specs.Items.{first_of, count_of, end_of, cell_at, cells_of, put, kept, whole, Joins}
use Rattle.image_text.specs.Images.{IsNext, AreInOrder}
use Rattle.image_text.specs.Reading.{reach, span_of, is_cut, is_new_front, is_new_back}
use Rattle.image_text.proofs.Maps.{cells_push, put_in, put_out, none_past}
use Rattle.image_text.proofs.Orders.{reach_last, reach_behind, up_to_last, last_behind}

cases_lt : (a b : ℕ) → (a < b) ⊎ (b ≤ a)
cases_lt a b = go (nat_lt a b) refl
  where
    go : (t : Bool) → nat_lt a b ≡ t → (a < b) ⊎ (b ≤ a)
    go true is = inl (ltb-true a b is)
    go false is = inr (omega (arith, λ (less : a < b). false≢true (sym is ∙ lt-ltb a b less)))

-- ---- a run's page goes on from the run before it exactly where they could be joined

kept_numbered : (page i : ℕ) (perm other : Perm) (what origin : Backing) (n : ℕ) (r : _) (bytes : List ℕ) → Some (kept r other origin bytes) ≢ Some (backed what perm i)
kept_numbered page i perm other backing.Zero origin n Live bytes same = cc
kept_numbered page i perm other backing.Zero origin n Out bytes same = cc
kept_numbered page i perm other (backing.File file index) origin n Live bytes same = cc
kept_numbered page i perm other (backing.File file index) origin n Out bytes same = cc

kept_continues : (r : _) (perm : Perm) (origin : Backing) (bytes : List ℕ) (o : Option Cell) → continues (Some (kept r perm origin bytes)) 1 o ≡ true → ⊥
kept_continues Live perm origin bytes o h = true≢false (sym h)
kept_continues Out perm origin bytes o h = true≢false (sym h)

some_is : (c d : Cell) → Some c ≡ Some d → c ≡ d
some_is c d same = cc

pub continuing_joins : (last item : Item) → 1 ≤ count_of last → end_of last ≡ first_of item → continues (Some (cell_at last (end_of last - 1))) 1 (Some (cell_at item (first_of item))) ≡ true → Joins last item
continuing_joins (Page page perm origin residence bytes) item some behind h = absurd (kept_continues residence perm origin (whole bytes) _ h)
continuing_joins (Run first count perm what) (Run next many other backing) some behind h =
    let i : ℕ = first + count - 1 - first in
    let is : Some (backed backing other (next - next)) ≡ Some (goes_on (backed what perm i) 1) = continues_is (Some (backed what perm i)) 1 _ h in
    let onward : backed backing other (next - next) ≡ backed what perm (i + 1) = some_is _ _ is ∙ backed_twice what perm i 1 in
    (sym behind, ap (backed backing other) (zero next) ∙ onward ∙ ap (backed what perm) (steps first count some))
  where
    zero : (n : ℕ) → 0 ≡ n - n
    zero n = omega arith

    steps : (f c : ℕ) → 1 ≤ c → f + c - 1 - f + 1 ≡ c
    steps f c h = omega (arith, h)
continuing_joins (Run first count perm what) (Page page other origin residence bytes) some behind h =
    let i : ℕ = first + count - 1 - first in
    let is : Some (kept residence other origin (whole bytes)) ≡ Some (goes_on (backed what perm i) 1) = continues_is (Some (backed what perm i)) 1 _ h in
    absurd (kept_numbered page (i + 1) perm other what origin 0 residence (whole bytes) (is ∙ ap Some (backed_twice what perm i 1)))

-- ---- the last of items

pub last_or_none : (items : List Item) → (items ≡ []) ⊎ ((earlier : List Item) × (last : Item) × (items ≡ earlier ++ last ∷ []))
last_or_none [] = inl refl
last_or_none (x ∷ xs) = inr (go x xs)
  where
    go : (y : Item) (ys : List Item) → (earlier : List Item) × (last : Item) × (y ∷ ys ≡ earlier ++ last ∷ [])
    go y [] = ([], y, refl)
    go y (z ∷ zs) = let more = go z zs in (y ∷ more.0, more.1, ap (λ ws. y ∷ ws) more.2)

-- items in order, and one behind them
module _ (items : List Item) (item : Item) (ordered : AreInOrder items) (next : IsNext items item) where
  abbrev f : ℕ
  f = first_of item

  abbrev e : ℕ
  e = end_of item

  abbrev b : ℕ
  b = reach items

  abbrev pub old : AddressSpace
  old = cells_of items

  abbrev pub new : AddressSpace
  new = cells_of (items ++ item ∷ [])

  some_pages : f < e
  some_pages = let some = next.some in omega (arith, some)

  b_f : b ≤ f
  b_f = reach_behind items item next

  new_in : (q : ℕ) → f ≤ q → q < e → fin.get new q ≡ Some (cell_at item q)
  new_in q low high = ap (λ m. fin.get m q) (cells_push items item) ∙ put_in item old q low high

  new_out : (q : ℕ) → (f ≤ q → q < e → ⊥) → fin.get new q ≡ fin.get old q
  new_out q none = ap (λ m. fin.get m q) (cells_push items item) ∙ put_out item old q none

  old_past : (q : ℕ) → b ≤ q → fin.get old q ≡ None
  old_past q past = elim (last_or_none items) [
    | inl none ↦ (subst (λ is. fin.get (cells_of is) q ≡ None) (sym none) (none_past [] 0 q (λ k d. λ less. absurd (omega (arith, less))) (omega arith)))
    | inr found ↦ (let is = found.2 in let last : Item = found.1 in
        let ends : b ≡ end_of last = ap reach is ∙ reach_last found.0 last in
        none_past items (end_of last) q (subst (All (λ (other : Item). end_of other ≤ end_of last)) (sym is) (up_to_last found.0 last (subst AreInOrder is ordered))) (omega (arith, ends, past)))
  ]

  -- the page before `b` has a cell, and from it the item goes on nowhere
  pub record HasLast : Type 0 where
    pub before : Item
    pub ends : b ≡ end_of before
    pub some : 1 ≤ count_of before
    pub is : fin.get old (b - 1) ≡ Some (cell_at before (b - 1))
    pub apart : ¬ (Joins before item)

  has_last : 0 < b → HasLast
  has_last some = elim (last_or_none items) [
    | inl none ↦ (let zero : b ≡ 0 = ap reach none in absurd (omega (arith, some, zero)))
    | inr found ↦ of_last found.0 found.1 found.2
  ]
    where
      of_last : (earlier : List Item) (last : Item) → items ≡ earlier ++ last ∷ [] → HasLast
      of_last earlier last is =
          let ends : b ≡ end_of last = ap reach is ∙ reach_last earlier last in
          let one : 1 ≤ count_of last = (ordered earlier [] last is).some in
          record {
            before = last;
            ends = ends;
            some = one;
            is = ap (λ is. fin.get (cells_of is) (b - 1)) is ∙ ap (λ m. fin.get m (b - 1)) (cells_push earlier last) ∙ put_in last (cells_of earlier) (b - 1) (omega (arith, ends, one)) (omega (arith, ends, one));
            apart = next.apart earlier last is;
          }

  -- a span of pages from s on, of which there are n
  module _ (s n : ℕ) (many : 2 ≤ n) where
    old_none : b ≤ s → is_alike old s n ≡ true
    old_none past = none_alike old s n (λ q low high. old_past q (omega (arith, past, low)))

    unlike_from : (cells : AddressSpace) → (is_alike cells s n ≡ true → ⊥) → not (is_alike cells s n) ≡ true
    unlike_from cells none = not_from_false _ (false_from_ne_true _ none)

    -- a page of the item and one behind all
    new_gap : (q r : ℕ) → s ≤ q → q < s + n → s ≤ r → r < s + n → f ≤ q → q < e → b ≤ r → (f ≤ r → r < e → ⊥) → not (is_alike new s n) ≡ true
    new_gap q r a c a' c' low high past out = gap_unlike new s n q r (cell_at item q) a c a' c' (new_in q low high) (new_out r out ∙ old_past r past)

    -- a page before `b` and the item's first one
    old_gap : s < b → s ≤ f → f < s + n → not (is_alike old s n) ≡ true
    old_gap early low high =
        let h = has_last (omega (arith, early)) in
        gap_unlike old s n (b - 1) f (cell_at h.before (b - 1)) (omega (arith, early)) (omega (arith, b_f, high)) low high h.is (old_past f b_f)

    -- so it stays
    new_mixed : s < b → s ≤ f → f < s + n → not (is_alike new s n) ≡ true
    new_mixed early low high = elim (cases_lt b f) [
      | inl between ↦ new_gap f b low high (omega (arith, early)) (omega (arith, high, between)) (omega arith) some_pages (omega arith) (λ l r. omega (arith, l, between))
      | inr close ↦ (let touch : b ≡ f = (let le = b_f in omega (arith, close, le)) in unlike_from new (joined touch))
    ]
      where
        joined : b ≡ f → is_alike new s n ≡ true → ⊥
        joined touch alike =
            let h = has_last (omega (arith, early)) in
            let here : fin.get new (b - 1) ≡ Some (cell_at h.before (b - 1)) = new_out (b - 1) (λ l r. omega (arith, l, touch, early)) ∙ h.is in
            let there : fin.get new (b - 1 + 1) ≡ Some (cell_at item f) = ap (fin.get new) (back b f touch early) ∙ new_in f (omega arith) some_pages in
            let on : continues (fin.get new (b - 1)) 1 (fin.get new (b - 1 + 1)) ≡ true = alike_next new s n alike (b - 1) (omega (arith, early)) (omega (arith, touch, high, early)) in
            let ends : b ≡ end_of h.before = h.ends in
            let goes : continues (Some (cell_at h.before (b - 1))) 1 (Some (cell_at item f)) ≡ true = subst (λ o. continues o 1 (Some (cell_at item f)) ≡ true) here (subst (λ o. continues (fin.get new (b - 1)) 1 o ≡ true) there on) in
            h.apart (continuing_joins h.before item h.some (sym ends ∙ touch) (subst (λ x. continues (Some (cell_at h.before (x - 1))) 1 (Some (cell_at item f)) ≡ true) ends goes))
          where
            back : (x y : ℕ) → x ≡ y → s < x → x - 1 + 1 ≡ y
            back x y same h = omega (arith, same, h)

    -- without a page of the item it is as before
    apart_same : ((q : ℕ) → s ≤ q → q < s + n → f ≤ q → q < e → ⊥) → is_alike new s n ≡ true → is_alike old s n ≡ true
    apart_same none = same_alike new old s n (λ q low high. sym (new_out q (none q low high)))

    apart_new : ((q : ℕ) → s ≤ q → q < s + n → f ≤ q → q < e → ⊥) → is_alike old s n ≡ true → is_alike new s n ≡ true
    apart_new none = same_alike old new s n (λ q low high. new_out q (none q low high))

    -- of the item's pages alone
    inside_alike : f ≤ s → s + n ≤ e → is_alike new s n ≡ true
    inside_alike low high = go item refl
      where
        go : (i : Item) → item ≡ i → is_alike new s n ≡ true
        go (Run first count perm what) is =
            let firsts : f ≡ first = ap first_of is in
            backed_alike new s n what perm first (omega (arith, firsts, low))
            (λ q a c. new_in q (omega (arith, low, a)) (omega (arith, high, c)) ∙ ap (λ (j : Item). Some (cell_at j q)) is)
        go (Page page perm origin residence bytes) is =
            let firsts : f ≡ page = ap first_of is in
            let ends : e ≡ page + 1 = ap end_of is in
            absurd (omega (arith, firsts, ends, low, high, many))

    -- what was not alike stays so
    pub stays_unlike : is_alike new s n ≡ true → is_alike old s n ≡ true
    stays_unlike alike = elim (cases_lt s b) [
      | inr past ↦ old_none past
      | inl early ↦ elim (cases_lt f (s + n)) [
        | inr far ↦ apart_same (λ q low high l r. omega (arith, far, high, l)) alike
        | inl near ↦ (let le = b_f in absurd (true≢false (sym alike ∙ not-true _ (new_mixed early (omega (arith, early, le)) near))))
      ]
    ]

    -- why a span is not alike now
    pub data WhyUnlike : Type 0 where
      was : is_alike old s n ≡ false → WhyUnlike
      front : b ≤ s → s ≤ f → f < s + n → (s < f) ⊎ (e < s + n) → WhyUnlike
      back : f < s → s < e → e < s + n → WhyUnlike

    pub why_unlike : is_alike new s n ≡ false → WhyUnlike
    why_unlike no_more = elim (cases_lt s e) [
      | inr far ↦ WhyUnlike.was (false_from_ne_true _ (λ alike. true≢false (sym (apart_new (λ q low high l r. omega (arith, far, low, r)) alike) ∙ no_more)))
      | inl near ↦ elim (cases_lt f (s + n)) [
        | inr past ↦ WhyUnlike.was (false_from_ne_true _ (λ alike. true≢false (sym (apart_new (λ q low high l r. omega (arith, past, high, l)) alike) ∙ no_more)))
        | inl meets ↦ meeting near meets (cases_lt f s) (cases_lt s b) (cases_lt s f) (cases_lt e (s + n))
      ]
    ]
      where
        meeting : s < e → f < s + n → (f < s) ⊎ (s ≤ f) → (s < b) ⊎ (b ≤ s) → (s < f) ⊎ (f ≤ s) → (e < s + n) ⊎ (s + n ≤ e) → WhyUnlike
        meeting near meets (inr low) (inl early) c d = WhyUnlike.was (not-true _ (old_gap early low meets))
        meeting near meets (inr low) (inr past) (inl less) d = WhyUnlike.front past low meets (inl less)
        meeting near meets (inr low) (inr past) (inr more) (inl ends) = WhyUnlike.front past low meets (inr ends)
        meeting near meets (inr low) (inr past) (inr more) (inr whole) = absurd (true≢false (sym (inside_alike more whole) ∙ no_more))
        meeting near meets (inl later) c d (inl ends) = WhyUnlike.back later near ends
        meeting near meets (inl later) c d (inr whole) = absurd (true≢false (sym (inside_alike (omega (arith, later)) whole) ∙ no_more))

    -- and such a span is not alike, and was so
    pub front_unlike : b ≤ s → s ≤ f → f < s + n → (s < f) ⊎ (e < s + n) → (is_alike old s n ≡ true) × (not (is_alike new s n) ≡ true)
    front_unlike past low high (inl less) = (old_none past, new_gap f s low high (omega arith) (omega (arith, many)) (omega arith) some_pages past (λ l r. omega (arith, l, less)))
    front_unlike past low high (inr ends) =
        let some = some_pages in let le = b_f in
        (old_none past, new_gap f e low high (omega (arith, low, some)) ends (omega arith) some_pages (omega (arith, le, some)) (λ l r. omega (arith, r)))

    pub back_unlike : f < s → s < e → e < s + n → (is_alike old s n ≡ true) × (not (is_alike new s n) ≡ true)
    back_unlike later near ends =
        let some = some_pages in let le = b_f in
        (old_none (omega (arith, le, later)), new_gap (e - 1) e (omega (arith, near)) (omega (arith, ends)) (omega (arith, near)) ends (omega (arith, some)) (omega (arith, some)) (omega (arith, le, some)) (λ l r. omega (arith, r)))
