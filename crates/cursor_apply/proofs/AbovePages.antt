-- The tables above a page, from the lowest row that is there down.
--     nested      the span of a table begins at or before that of a table of a lower level above the same page
--     levels_low, some_row      what the search asks
--     lowest_is      what it finds
--     is_next, absent_below      the table below the lowest row is missing
--     lower      it is the lowest row once it is linked
--     reaches, still_reached      the last one
--     reached_table      a table above a page that is reached
--     all_there      all tables of a state, where those above the pages are there
use Rattle.std.specs.Prelude.{◌≡◌, ℕ, zero, suc, ◌+◌, ◌-◌, ◌*◌, ◌/◌, ◌^◌, ◌<◌, ◌≤◌, ◌⊎◌, Bool, true, false, cond, nat_lt, List, length, slice_index_or}
use Rattle.std.specs.List.{Contains}
use Rattle.std.specs.FinSet as set
use Rattle.std.proofs.Common.{sym, refl, ◌∙◌, ap, subst, arith, inl, inr, eq-eqb, ne_eqb}
use Rattle.std.proofs.Math.Nat.{mul_assoc, mul_comm, mul-le-mul_right}
use Rattle.std.proofs.lemmas.Bool.{true≢false, cases_lt, lt-ltb, le-ltb}
use Rattle.std.proofs.lemmas.List.Elements.{Contains-get_or}
use mathlib.Core.Logic.{dite}
use native.Mathlib.Decide.{ℕ_discrete}
use Rattle.corten_base.specs.declared.calls.Call.{Call}
use Rattle.page_map.specs.State.{IsConsistent, levels}
use Rattle.row_cells.specs.declared.Cell.{Cell}
use Rattle.row_table.specs.declared.view.PassView.{PassView}
use Rattle.table_place.specs.declared.Place.{Place}
use Rattle.table_place.specs.Place.{directory, parent, place_of, is_place, has_page, span_first}
use Rattle.table_place.proofs.Entries.{level_of, page_parts, page_from}
use Rattle.table_place.proofs.Spans.{span_up, quotient_up}
use Rattle.tree_lock.specs.Held.{IsInOrder}
use Rattle.tree_lock.specs.Order.{IsBefore}
use Rattle.machine_plan.specs.declared.kit.Kit.{Kit}
use Rattle.machine_plan.specs.declared.kit.Want.{Want}
use Rattle.machine_plan.specs.declared.kit.Want.TheVariants as want
use Rattle.machine_plan.specs.Agrees.{below, IsTableOf}
use Rattle.machine_plan.specs.Books.{BookData, state_of}
use Rattle.machine_plan.specs.Held.{ListHolds}
use Rattle.machine_plan.specs.HeldRows.{Row}
use Rattle.machine_plan.proofs.Towers.{up_one, table_above}
use Rattle.cursor_detach.specs.Cutting.{above_place, above_index}
use Rattle.cursor_detach.proofs.Positions.{leads_there, index_inside}
use Rattle.cursor_apply.specs.Linking.{AreAbove, IsLinking, LinkedSoFar, IsNext, LinksNext, table_at, IsLowest, IsLowestAt, MayLinkPage, ReachesPage}
use Rattle.cursor_apply.specs.Staging.{with_tables}

-- ---- spans above one page

one_level : (page k : ℕ) → page / 512 ^ (k + 1) * 512 ^ (k + 1) ≤ page / 512 ^ k * 512 ^ k
one_level page k =
    let m = page / 512 ^ k in
    let up : page / 512 ^ (k + 1) * 512 ^ (k + 1) ≡ m / 512 * (512 ^ k * 512) = (λ i. quotient_up page k i * span_up k i) in
    let same : m / 512 * (512 ^ k * 512) ≡ m / 512 * 512 * 512 ^ k = ap (λ n. m / 512 * n) (mul_comm (512 ^ k) 512) ∙ sym (mul_assoc (m / 512) 512 (512 ^ k)) in
    let less : m / 512 * 512 * 512 ^ k ≤ m * 512 ^ k = mul-le-mul_right (512 ^ k) (omega arith) in
    omega (arith, up, same, less)

deeper : (page j d : ℕ) → page / 512 ^ (j + d) * 512 ^ (j + d) ≤ page / 512 ^ j * 512 ^ j
deeper page j zero = same (ap (λ k. page / 512 ^ k * 512 ^ k) (plus j))
  where
    plus : (j : ℕ) → j + 0 ≡ j
    plus j = omega arith

    same : {a b : ℕ} → a ≡ b → a ≤ b
    same e = omega (arith, e)
deeper page j (suc d) =
    let step = one_level page (j + d) in
    let rest = deeper page j d in
    subst (λ k. page / 512 ^ k * 512 ^ k ≤ page / 512 ^ j * 512 ^ j) (plus j d) (omega (arith, step, rest))
  where
    plus : (j d : ℕ) → j + d + 1 ≡ j + suc d
    plus j d = omega arith

pub nested : (page j k : ℕ) → j ≤ k → page / 512 ^ k * 512 ^ k ≤ page / 512 ^ j * 512 ^ j
nested page j k less = subst (λ n. page / 512 ^ n * 512 ^ n ≤ page / 512 ^ j * 512 ^ j) (plus j k less) (deeper page j (k - j))
  where
    plus : (j k : ℕ) → j ≤ k → j + (k - j) ≡ k
    plus j k less = omega arith

-- a table is not before one of a higher level that begins no later
not_behind : (y x : Place) → IsBefore y x → y.space ≡ x.space → span_first x ≤ span_first y → y.level ≤ x.level → ⊥
not_behind y x before same first lower =
    let least = before.first same in
    let level = before.level same (omega (arith, least, first)) in
    omega (arith, level, lower)

above_has : (space k page : ℕ) → k < 6 → has_page (place_of space k page) space page ≡ true
above_has space k page low = page_from (place_of space k page) space page low refl refl

module _ {B E : Type 0} (a b : BookData) (thread : ℕ) (c : Call) (kit : Kit) (v : PassView (List Cell) B E) (rows : List Row) (count room : ℕ) (ready : IsLinking count room a b thread c kit v rows)
    (next : ℕ) (w : PassView (List Cell) B E) (rows' : List Row) (so : LinkedSoFar a b thread c kit next v rows w rows') (space page low : ℕ) (may : MayLinkPage a b rows space page low) where
  abbrev L : ℕ
  L = levels (state_of a)

  few : L < 6
  few = let most = ready.before.few_levels in omega arith

  placed : (p : Place) → set.contains (state_of b).tables p ≡ true → is_place L p ≡ true
  placed p there = subst (λ n. is_place n p ≡ true) ready.same (ready.after.places p there)

  row_is : (x : Row) → Contains rows' x → (x.place ≡ directory) ⊎ (is_place L x.place ≡ true)
  row_is x has = go (so.staged x has).table
    where
      go : IsTableOf (with_tables (state_of a) so.tables) x.place → (x.place ≡ directory) ⊎ (is_place L x.place ≡ true)
      go (inl top) = inl top
      go (inr there) = inr (placed x.place (so.within x.place there))

  pub levels_low : (x : Row) → Contains rows' x → x.place.level ≤ 6
  levels_low x has = elim (row_is x has) [
    | inl top ↦ let e : x.place.level ≡ 6 = ap (λ (p : Place). p.level) top in omega (arith, e)
    | inr table ↦ let d = (level_of L x.place table).1 in let f = few in omega (arith, d, f)
  ]

  pub some_row : (x : Row) × Contains rows' x × (has_page x.place space page ≡ true)
  some_row = let o = so.kept may.row may.there in (o.0, o.1, ap (λ (p : Place). has_page p space page) o.3 ∙ may.has)

  module _ (order : IsInOrder rows') (at : ℕ) (is : IsLowestAt space page rows' at) (level : ℕ) (x : Row) (x_is : (d : Row) → slice_index_or rows' at d ≡ x) where
    x_there : Contains rows' x
    x_there = subst (Contains rows') (x_is x) (Contains-get_or rows' at x is.inside)

    x_has : has_page x.place space page ≡ true
    x_has = ap (λ (y : Row). has_page y.place space page) (sym (x_is x)) ∙ is.has x

    -- a lower row that has the page would come behind
    never : (k : ℕ) → k < 6 → k < x.place.level → ((x.place.space ≡ space) ⊎ (x.place.space ≡ 0)) → span_first x.place ≤ page / 512 ^ k * 512 ^ k → ¬ ListHolds rows' (place_of space k page)
    never k small lower spaces first l =
        let y = l.0 in
        let n = l.1.0 in
        let y_is : slice_index_or rows' n y ≡ y = l.1.2 in
        let n_in : n < length rows' = l.1.1 in
        let y_level : y.place.level ≡ k = ap (λ (p : Place). p.level) l.2 in
        let y_space : y.place.space ≡ space = ap (λ (p : Place). p.space) l.2 in
        dite (ℕ_discrete n at)
        (λ e. let same : y ≡ x = sym y_is ∙ (ap (λ m. slice_index_or rows' m y) e ∙ x_is y) in
        let clash : x.place.level ≡ k = ap (λ (z : Row). z.place.level) (sym same) ∙ y_level in absurd (omega (arith, clash, lower)))
        (λ ne. elim (cases_lt at n) [
          | inl behind ↦ absurd (true≢false (sym (ap (λ (z : Row). has_page z.place space page) y_is ∙ (ap (λ (p : Place). has_page p space page) l.2 ∙ above_has space k page small)) ∙ is.none n y behind n_in))
          | inr ahead ↦
              let before : IsBefore y.place x.place = subst (λ (z : Row). IsBefore z.place x.place) y_is (subst (λ (z : Row). IsBefore (slice_index_or rows' n y).place z.place) (x_is y) (order n at y (smaller n at ahead ne) is.inside)) in
              let y_first : span_first y.place ≡ page / 512 ^ k * 512 ^ k = ap span_first l.2 in
              absurd (not_behind y.place x.place before (elim spaces [
                | inl s ↦ y_space ∙ sym s
                | inr zero_space ↦ let least = before.space in let e = zero_space in (omega (arith, least, e))
              ]) (subst (λ m. span_first x.place ≤ m) (sym y_first) first) (omega (arith, y_level, lower)))
        ])
      where
        smaller : (n m : ℕ) → n ≤ m → (n ≡ m → ⊥) → n < m
        smaller n m le ne = omega arith

    of_directory : x.place ≡ directory → level ≡ L + 1 → IsLowest L space page level rows'
    of_directory top e = record {
      high = omega (arith, e);
      deep = omega (arith, e);
      holds = (x, x_there, top ∙ sym (ap (λ n. table_at L space n page) e ∙ ap (λ t. cond t directory (place_of space (L + 1) page)) (lt-ltb L (L + 1) (omega arith))));
      none = λ k deep less. never k (let f = few in omega (arith, e, less, f)) (let six = ap (λ (p : Place). p.level) top in let f = few in omega (arith, e, less, f, six)) (inr (ap (λ (p : Place). p.space) top))
          (let first : span_first x.place ≡ 0 = ap span_first top in omega (arith, first));
    }

    of_table : is_place L x.place ≡ true → level ≡ x.place.level → IsLowest L space page level rows'
    of_table table e =
        let depth = level_of L x.place table in
        let f = few in
        let parts = page_parts x.place space page (omega (arith, depth.1, f)) x_has in
        let is : x.place ≡ place_of space x.place.level page = (λ i. record { space = parts.0 i; level = x.place.level; prefix = sym parts.1 i }) in
        record {
          high = omega (arith, e, depth.1);
          deep = omega (arith, e, depth.0);
          holds = (x, x_there, is ∙ sym (ap (λ n. table_at L space n page) e ∙ ap (λ t. cond t directory (place_of space x.place.level page)) (le-ltb L x.place.level depth.1)));
          none = λ k deep less. never k (omega (arith, e, less, depth.1, f)) (omega (arith, e, less)) (inl parts.0)
              (subst (λ n. n ≤ page / 512 ^ k * 512 ^ k) (sym (ap span_first is)) (nested page k x.place.level (omega (arith, e, less))));
        }

    pub lowest_is : level ≡ cond (nat_lt L x.place.level) (L + 1) x.place.level → IsLowest L space page level rows'
    lowest_is told = elim (row_is x x_there) [
      | inl top ↦ of_directory top (told ∙ ap (λ t. cond t (L + 1) x.place.level) (lt-ltb L x.place.level (let six = ap (λ (p : Place). p.level) top in let f = few in omega (arith, six, f))))
      | inr table ↦ of_table table (told ∙ ap (λ t. cond t (L + 1) x.place.level) (le-ltb L x.place.level (level_of L x.place table).1))
    ]

  -- ---- the table below

  module _ (level : ℕ) (lowest : IsLowest L space page level rows') (more : low < level) where
    abbrev k : ℕ
    k = level - 1

    abbrev q : Place
    q = place_of space (level - 1) page

    k_deep : 1 ≤ level - 1
    k_deep = let d = may.deep in omega (arith, d, more)

    k_high : level - 1 ≤ L
    k_high = let h = lowest.high in omega (arith, h)

    k_small : level - 1 < 6
    k_small = let h = k_high in let f = few in omega (arith, h, f)

    back : level - 1 + 1 ≡ level
    back = omega (arith, more)

    wanted : set.contains (state_of b).tables q ≡ true
    wanted = may.wanted (level - 1) (omega (arith, more)) k_high

    parent_is : parent q ≡ place_of space level page
    parent_is = (λ i. record { space = space; level = level - 1 + 1; prefix = sym (quotient_up page (level - 1)) i }) ∙ ap (λ n. place_of space n page) back

    -- the row above is the lowest one
    above_is : above_place L q ≡ table_at L space level page
    above_is = dite (ℕ_discrete (level - 1) L)
        (λ e. ap (λ t. cond t directory (parent q)) (eq-eqb (level - 1) L e) ∙ sym (ap (λ t. cond t directory (place_of space level page)) (lt-ltb L level (omega (arith, e, more)))))
        (λ ne. ap (λ t. cond t directory (parent q)) (ne_eqb (level - 1) L ne) ∙ (parent_is ∙ sym (ap (λ t. cond t directory (place_of space level page)) (le-ltb L level (let l = lower (level - 1) L k_high ne in omega (arith, l, more))))))
      where
        lower : (n m : ℕ) → n ≤ m → (n ≡ m → ⊥) → n < m
        lower n m le ne = omega arith

    up : ListHolds rows' (above_place L q)
    up = let l = lowest.holds in (l.0, l.1, l.2 ∙ sym above_is)

    not_held : ¬ ListHolds rows' q
    not_held = lowest.none (level - 1) k_deep (omega (arith, more))

    leads : below L (above_place L q) (above_index L q) ≡ q
    leads = leads_there L q few (placed q wanted)

    q_has : has_page q space page ≡ true
    q_has = above_has space (level - 1) page k_small

    -- it was no table before: else its row would be in the list
    before : set.contains (state_of a).tables q ≡ true → ⊥
    before was = elim (so.only up.0 up.1) [
      | inl old ↦
          let is : below L old.0.place (above_index L q) ≡ q = ap (λ p. below L p (above_index L q)) (old.2 ∙ up.2) ∙ leads in
          let l = may.linked old.0 (above_index L q) old.1 (index_inside L q (placed q wanted)) (ap (λ p. has_page p space page) is ∙ q_has)
          (ap (set.contains (state_of a).tables) is ∙ was) (ap (set.contains (state_of b).tables) is ∙ wanted) in
          let o = so.kept l.0 l.1 in
          not_held (o.0, o.1, o.3 ∙ (l.2 ∙ is))
      | inr new ↦ dite (ℕ_discrete (level - 1) L)
          (λ e.
          let top : up.0.place ≡ directory = up.2 ∙ ap (λ t. cond t directory (parent q)) (eq-eqb (level - 1) L e) in
          let depth = (level_of L up.0.place (placed up.0.place new.1)).1 in
          let six : up.0.place.level ≡ 6 = ap (λ (p : Place). p.level) top in
          let f = few in absurd (omega (arith, depth, six, f)))
          (λ ne.
          let is : up.0.place ≡ parent q = up.2 ∙ ap (λ t. cond t directory (parent q)) (ne_eqb (level - 1) L ne) in
          true≢false (sym (ready.before.parents q was (strictly (level - 1) L k_high ne)) ∙ (ap (set.contains (state_of a).tables) (sym is) ∙ new.0)))
    ]
      where
        strictly : (n m : ℕ) → n ≤ m → (n ≡ m → ⊥) → n < m
        strictly n m le ne = omega arith

    pub absent_below : set.contains so.tables (place_of space (level - 1) page) ≡ false
    absent_below = go (set.contains so.tables q) refl
      where
        made : (t : Bool) → set.contains (state_of a).tables q ≡ t → set.contains so.tables q ≡ true → ⊥
        made true was there = before was
        made false new there = not_held (so.made q new there)

        go : (t : Bool) → set.contains so.tables q ≡ t → set.contains so.tables q ≡ false
        go false e = e
        go true e = absurd (made (set.contains (state_of a).tables q) refl e)

    pub is_next : IsNext a b thread c kit next v rows w rows' q
    is_next = record { so_far = so; wanted = wanted; absent = absent_below; up = up }

    pub lower : (rows'' : List Row) → LinksNext q rows' rows'' → IsLowest L space page (level - 1) rows''
    lower rows'' links = record {
      high = omega (arith, k_high);
      deep = k_deep;
      holds = let l = links.there in (l.0, l.1, l.2 ∙ sym (ap (λ t. cond t directory q) (le-ltb L (level - 1) k_high)));
      none = λ n deep less l. elim (links.only (place_of space n page) l) [
        | inl e ↦ let same : n ≡ level - 1 = ap (λ (p : Place). p.level) e in absurd (omega (arith, same, less))
        | inr old ↦ lowest.none n deep (omega (arith, less)) old
      ];
    }

  pub reaches : (level : ℕ) → IsLowest L space page level rows' → level ≤ low → ReachesPage space page low rows'
  reaches level lowest less = record {
    level = level;
    deep = lowest.deep;
    low_enough = less;
    holds = let l = lowest.holds in (l.0, l.1, l.2 ∙ ap (λ t. cond t directory (place_of space level page)) (le-ltb L level (let h = may.high in omega (arith, less, h))));
  }

-- a page that is reached still is
pub still_reached : (space page low : ℕ) (rows rows' : List Row) → ((p : Place) → ListHolds rows p → ListHolds rows' p) → ReachesPage space page low rows → ReachesPage space page low rows'
still_reached space page low rows rows' kept r = record { level = r.level; deep = r.deep; low_enough = r.low_enough; holds = kept (place_of space r.level page) r.holds }

-- where a row of a level or a lower one has a page, each table from that level on that has the page is there
module _ {B E : Type 0} (a b : BookData) (thread : ℕ) (c : Call) (kit : Kit) (v : PassView (List Cell) B E) (rows : List Row) (few : levels (state_of a) ≤ 5) (next : ℕ) (w : PassView (List Cell) B E) (rows' : List Row) (so : LinkedSoFar a b thread c kit next v rows w rows') (space : ℕ) where
  up_from : (page k n : ℕ) → k + n ≤ levels (state_of a) → set.contains so.tables (place_of space k page) ≡ true → set.contains so.tables (place_of space (k + n) page) ≡ true
  up_from page k zero most there = subst (λ m. set.contains so.tables (place_of space m page) ≡ true) (sym (plain k)) there
    where
      plain : (k : ℕ) → k + 0 ≡ k
      plain k = omega arith
  up_from page k (suc n) most there =
      let lower = up_from page k n (omega (arith, most)) there in
      subst (λ m. set.contains so.tables (place_of space m page) ≡ true) (sum k n) (ap (set.contains so.tables) (sym (up_one space (k + n) page)) ∙ so.parents (place_of space (k + n) page) lower (omega (arith, most)))
    where
      sum : (k n : ℕ) → k + n + 1 ≡ k + suc n
      sum k n = omega arith

  pub reached_table : (page low : ℕ) → ReachesPage space page low rows' → (p : Place) → has_page p space page ≡ true → low ≤ p.level → p.level ≤ levels (state_of a) → set.contains so.tables p ≡ true
  reached_table page low r p has deep high =
      let is : p ≡ place_of space p.level page = table_above p space page (omega (arith, high, few)) has in
      let below : r.level ≤ p.level = (let least = r.low_enough in omega (arith, least, deep)) in
      let there = in_tables r.holds.0 r.holds.1 (place_of space r.level page) r.holds.2 (omega (arith, below, high, few)) in
      let top = up_from page r.level (p.level - r.level) (omega (arith, below, high)) there in
      ap (set.contains so.tables) is ∙ subst (λ m. set.contains so.tables (place_of space m page) ≡ true) (omega (arith, below)) top
    where
      in_tables : (x : Row) → Contains rows' x → (q : Place) → x.place ≡ q → q.level < 6 → set.contains so.tables q ≡ true
      in_tables x listed q is low = by (so.staged x listed).table
        where
          by : IsTableOf (with_tables (state_of a) so.tables) x.place → set.contains so.tables q ≡ true
          by (inl top) = let six : q.level ≡ 6 = ap (λ (u : Place). u.level) (sym is ∙ top) in absurd (omega (arith, six, low))
          by (inr t) = ap (set.contains so.tables) (sym is) ∙ t

-- where the tables above all these pages are there, all of b are
pub all_there : {B E : Type 0} (a b : BookData) (thread : ℕ) (c : Call) (kit : Kit) (v : PassView (List Cell) B E) (rows : List Row) → IsConsistent (state_of a) → IsConsistent (state_of b) → levels (state_of b) ≡ levels (state_of a)
    → (next : ℕ) (w : PassView (List Cell) B E) (rows' : List Row) (so : LinkedSoFar a b thread c kit next v rows w rows') (space : ℕ) → AreAbove a b rows kit space
    → ((k : ℕ) (d : ℕ × Want) → k < length kit.wants.items → ReachesPage space (slice_index_or kit.wants.items k d).0 1 rows') → (p : Place) → set.contains (state_of b).tables p ≡ true → set.contains so.tables p ≡ true
all_there a b thread c kit v rows before after same next w rows' so space above reached p there = go (set.contains (state_of a).tables p) refl
  where
    new : set.contains (state_of a).tables p ≡ false → set.contains so.tables p ≡ true
    new none =
        let depth = level_of (levels (state_of a)) p (subst (λ n. is_place n p ≡ true) same (after.places p there)) in
        let k = above.all p none there in
        let d : ℕ × Want = (0, want.Copy 0) in
        reached_table a b thread c kit v rows before.few_levels next w rows' so space (slice_index_or kit.wants.items k.0 d).0 1 (reached k.0 d k.1) p (k.2 d) depth.0 depth.1

    go : (t : Bool) → set.contains (state_of a).tables p ≡ t → set.contains so.tables p ≡ true
    go true e = so.left p e there
    go false e = new e
