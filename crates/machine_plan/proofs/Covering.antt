-- The cover that a pass's view tells is the cover by the tables of a state with which its rows agree.
--     cover_is_held      the pass holds each row of the cover
use Rattle.std.specs.Prelude.{◌≡◌, ℕ, zero, suc, ◌+◌, ◌-◌, ◌^◌, ◌<◌, ◌≤◌, ◌⊎◌, true, false, Bool, ◌&&◌, nat_lt, nat_le, List, length, slice_get, slice_index, Some}
use Rattle.std.specs.List.{Contains}
use Rattle.std.specs.FinSet as set
use Rattle.std.proofs.Common.{sym, refl, ◌∙◌, ap, subst, arith, inl, inr}
use Rattle.std.proofs.lemmas.Bool.{false≢true, and_parts, ltb-true, leb-true, leb-false}
use Rattle.std.proofs.lemmas.Option.{slice_get-get_or}
use Rattle.page_map.specs.State.{State, IsConsistent, levels}
use Rattle.row_cells.specs.declared.Cell.{Cell}
use Rattle.row_cells.specs.declared.Cell.TheVariants.{Invalid, Table, Anon, File, Mapped, Swapped}
use Rattle.row_table.specs.declared.view.HeldRow.{HeldRow as KnownRow}
use Rattle.row_table.specs.Books.{IsHeldAt}
use Rattle.table_place.specs.declared.Place.{Place}
use Rattle.table_place.specs.Range.{within}
use Rattle.table_place.specs.Place.{root, directory, place_of, entry_place, has_page, index_at, span_first}
use Rattle.table_place.proofs.Entries.{entry_below, level_of, first_page}
use Rattle.tree_lock.specs.declared.zone.Zone.{Zone}
use Rattle.tree_lock.specs.declared.zone.Zone.TheVariants.{Pages, Space, Directory}
use Rattle.tree_lock.specs.Zone.{Meets, Spans, ZoneHas}
use Rattle.tree_lock.specs.Linked.{ShowsCover}
use Rattle.walk_core.specs.Words.{is_link}
use Rattle.machine_plan.specs.Books.{BookData, state_of}
use Rattle.machine_plan.specs.Agrees.{below, IsTableOf, Shows, Spells}
use Rattle.machine_plan.specs.Cover.{MetRow, View, HeldAgree, HasLevelsOf, CoverIsHeld}
use Rattle.machine_plan.proofs.Levels.{has_levels}
use Rattle.machine_plan.proofs.Towers.{closed_up, table_above, tower_has, wider}

-- a cell above a table is a link
link_of : (st : State) (q : Place) (c : Cell) (word : ℕ) → set.contains st.tables q ≡ true → Shows st q c → Spells st c word → is_link word ≡ true
link_of st q Table word there f s = s
link_of st q Invalid word there f s = absurd (false≢true (sym f.0 ∙ there))
link_of st q (Anon perm) word there f s = absurd (false≢true (sym f.0 ∙ there))
link_of st q (File perm file index) word there f s = absurd (false≢true (sym f.0 ∙ there))
link_of st q (Mapped perm origin frame) word there f s = absurd (false≢true (sym f.0 ∙ there))
link_of st q (Swapped perm origin slot) word there f s = absurd (false≢true (sym f.0 ∙ there))

pub cell_there : (cells : List Cell) (index : ℕ) → index < length cells → (c : Cell) × (slice_get cells index ≡ Some c)
cell_there cells index inside = (_, slice_get-get_or cells index Invalid inside)

pub further : (a b : ℕ) → a ≤ b → (n : ℕ) × (a + n ≡ b)
further a b le = (b - a, omega (arith, le))

pub or_less : (a b : ℕ) → (a ≤ b) ⊎ (b < a)
or_less a b = go (nat_le a b) refl
  where
    go : (t : Bool) → nat_le a b ≡ t → (a ≤ b) ⊎ (b < a)
    go true e = inl (leb-true a b e)
    go false e = inr (leb-false a b e)

-- a number below the only prefix of the root's level
none_left : {x : ℕ} (n : ℕ) → x < 512 ^ (n - n) → x ≡ 0
none_left n h = omega (arith, h, ap (λ k. 512 ^ k) (gone n), one)
  where
    gone : (n : ℕ) → n - n ≡ 0
    gone n = omega arith

    one : 512 ^ 0 ≡ 1
    one = refl

module _ (zone : Zone) (b : BookData) (v : View) (is : IsConsistent (state_of b)) (same : HasLevelsOf b v) (agree : HeldAgree b v) (shows : ShowsCover v.layout zone v) where
  abbrev pub st : State
  st = state_of b

  abbrev pub L : ℕ
  L = levels st

  same_levels : L ≡ v.layout.levels
  same_levels = has_levels b ∙ sym same

  abbrev pub At : Place → Type 0
  At p = (h : KnownRow (List Cell)) × Contains v.rows h × (h.place ≡ p)

  held_at : (p : Place) → At p → IsHeldAt v p
  held_at p at = (at.0, at.1, shows.in_tree at.0 at.1, at.2)

  -- a link of a held row leads to a held row
  step : (h : KnownRow (List Cell)) → Contains v.rows h → (i : ℕ) → i < 512 → set.contains st.tables (below L h.place i) ≡ true → Meets zone (below L h.place i) → At (below L h.place i)
  step h held i inside there meets =
      let a = agree h held in
      let c = cell_there a.0 i (subst (λ n. i < n) (sym a.1.shown.whole) inside) in
      let link = link_of st (below L h.place i) c.0 (slice_index h.words i) there (a.1.shown.each i c.0 inside c.1) (a.1.spelled i c.0 inside c.1) in
      let at = shows.covers.links h held i inside link (subst (λ n. Meets zone (below n h.place i)) same_levels meets) in
      (at.known, at.held, at.same_place ∙ ap (λ n. below n h.place i) (sym same_levels))

  meets_tower : (s k page : ℕ) → k < 6 → ZoneHas zone s page → Meets zone (place_of s k page)
  meets_tower s k page low of_zone = record { space = s; page = page; of_zone = of_zone; of_span = tower_has s k page low }

  -- from a held table down to each table below it that has the page
  descend : (s k page n : ℕ) → 1 ≤ k → k + n ≤ L → ZoneHas zone s page → set.contains st.tables (place_of s k page) ≡ true
      → (h : KnownRow (List Cell)) → Contains v.rows h → h.place ≡ place_of s (k + n) page → At (place_of s k page)
  descend s k page zero low few of_zone there h held e = (h, held, e ∙ ap (λ m. place_of s m page) (plain k))
    where
      plain : (k : ℕ) → k + 0 ≡ k
      plain k = omega arith
  descend s k page (suc n) low few of_zone there h held e =
      let m : ℕ = k + n in
      let i : ℕ = index_at (m + 1) page in
      let q : below L h.place i ≡ place_of s m page =
      ap (λ (p : Place). entry_place L p i) (e ∙ ap (λ l. place_of s l page) (sum k n)) ∙ entry_below L s m page (omega (arith, few, is.few_levels)) in
      let table : set.contains st.tables (place_of s m page) ≡ true = closed_up st is s k page n (omega (arith, few, is.few_levels)) there in
      let down = step h held i (index_small (m + 1) page) (ap (set.contains st.tables) q ∙ table) (subst (Meets zone) (sym q) (meets_tower s m page (omega (arith, few, is.few_levels)) of_zone)) in
      descend s k page n low (omega (arith, few, is.few_levels)) of_zone there down.0 down.1 (down.2 ∙ q)
    where
      sum : (k n : ℕ) → k + suc n ≡ k + n + 1
      sum k n = omega arith

      index_small : (k page : ℕ) → index_at k page < 512
      index_small k page = omega arith

  -- the root of a space with a table
  root_of : (s k page : ℕ) → 1 ≤ k → k ≤ L → set.contains st.tables (place_of s k page) ≡ true → (set.contains st.tables (root L s) ≡ true) × (place_of s L page ≡ root L s)
  root_of s k page low high there =
      let n = further k L high in
      let top = subst (λ m. set.contains st.tables (place_of s m page) ≡ true) n.1 (closed_up st is s k page n.0 (subst (λ m. m ≤ L) (sym n.1) (omega arith)) there) in
      let same = root_same s page top in
      (subst (λ p. set.contains st.tables p ≡ true) same top, same)
    where
      root_same : (s page : ℕ) → set.contains st.tables (place_of s L page) ≡ true → place_of s L page ≡ root L s
      root_same s page top =
          let q : Place = place_of s L page in
          let outer = and_parts (nat_lt s 64) (within 1 L L && nat_lt q.prefix (512 ^ (L - L))) (is.places q top) in
          let inner = and_parts (within 1 L L) (nat_lt q.prefix (512 ^ (L - L))) outer.1 in
          let none : q.prefix ≡ 0 = none_left L (ltb-true q.prefix (512 ^ (L - L)) inner.1) in
          ap (λ n. record { space = s; level = L; prefix = n }) none

  -- from the held directory
  from_directory : (s k page : ℕ) → 1 ≤ k → k ≤ L → ZoneHas zone s page → set.contains st.tables (place_of s k page) ≡ true
      → (h : KnownRow (List Cell)) → Contains v.rows h → h.place ≡ directory → At (place_of s k page)
  from_directory s k page low high of_zone there h held e =
      let r = root_of s k page low high there in
      let q : below L h.place s ≡ root L s = ap (λ (p : Place). entry_place L p s) e in
      let small : s < 64 = is.spaces s (is.absent (root L s) r.0) in
      let down = step h held s (omega (arith, small)) (ap (set.contains st.tables) q ∙ r.0) (subst (Meets zone) (sym (q ∙ sym r.1)) (meets_tower s L page (omega (arith, is.few_levels)) of_zone)) in
      let n = further k L high in
      descend s k page n.0 low (subst (λ m. m ≤ L) (sym n.1) (omega arith)) of_zone there down.0 down.1 (down.2 ∙ q ∙ sym r.1 ∙ ap (λ m. place_of s m page) (sym n.1))

  -- a wider table may cover what a lower one may cover
  spans_up : (s k page n : ℕ) → k + n < 6 → Spans zone (place_of s k page) → Spans zone (place_of s (k + n) page)
  spans_up s k page n low spans = record {
    all = λ t x has. wider s k page n low t x (spans.all t x has);
    greater = λ strict lies. spans.greater strict (λ t x has. lies t x (wider s k page n low t x has));
  }

  levels_of_table : (p : Place) → set.contains st.tables p ≡ true → (1 ≤ p.level) × (p.level ≤ L)
  levels_of_table p there = level_of L p (is.places p there)

  -- the tables of the tower of a page, from the top of the cover on
  from_top : (p : Place) → MetRow zone st p → (h : KnownRow (List Cell)) → Contains v.rows h → Spans zone h.place → At p
  from_top p met h held spans = go met.table (agree h held).1.shown.table
    where
      s : ℕ
      s = met.meets.space

      page : ℕ
      page = met.meets.page

      of_zone : ZoneHas zone s page
      of_zone = met.meets.of_zone

      top_has : has_page h.place s page ≡ true
      top_has = spans.all s page of_zone

      go : IsTableOf st p → IsTableOf st h.place → At p
      go (inl top) (inl e) = (h, held, e ∙ sym top)
      go (inr there) (inl e) =
          let depth = levels_of_table p there in
          let same = table_above p s page (omega (arith, depth.1, is.few_levels)) met.meets.of_span in
          let at = from_directory s p.level page depth.0 depth.1 of_zone (subst (λ q. set.contains st.tables q ≡ true) same there) h held e in
          (at.0, at.1, at.2 ∙ sym same)
      go (inl top) (inr there) =
          let depth = levels_of_table h.place there in
          let same = table_above h.place s page (omega (arith, depth.1, is.few_levels)) top_has in
          let r = root_of s h.place.level page depth.0 depth.1 (subst (λ q. set.contains st.tables q ≡ true) same there) in
          let n = further h.place.level L depth.1 in
          let high = spans_up s h.place.level page n.0 (subst (λ m. m < 6) (sym n.1) (omega (arith, is.few_levels))) (subst (Spans zone) same spans) in
          let at_root = subst (Spans zone) (ap (λ m. place_of s m page) n.1 ∙ r.1) high in
          let q : below L p s ≡ root L s = ap (λ (x : Place). entry_place L x s) top in
          let small : s < 64 = is.spaces s (is.absent (root L s) r.0) in
          let none = met.lowest s (omega (arith, small)) (subst (Spans zone) (sym q) at_root) in
          absurd (false≢true (sym none ∙ (ap (set.contains st.tables) q ∙ r.0)))
      go (inr low) (inr there) = both (or_less p.level h.place.level)
        where
          depth : (1 ≤ h.place.level) × (h.place.level ≤ L)
          depth = levels_of_table h.place there

          own : (1 ≤ p.level) × (p.level ≤ L)
          own = levels_of_table p low

          same_top : h.place ≡ place_of s h.place.level page
          same_top = table_above h.place s page (omega (arith, depth.1, is.few_levels)) top_has

          same_p : p ≡ place_of s p.level page
          same_p = table_above p s page (omega (arith, own.1, is.few_levels)) met.meets.of_span

          both : (p.level ≤ h.place.level) ⊎ (h.place.level < p.level) → At p
          both (inl le) =
              let n = further p.level h.place.level le in
              let at = descend s p.level page n.0 own.0 (subst (λ m. m ≤ L) (sym n.1) depth.1) of_zone (subst (λ q. set.contains st.tables q ≡ true) same_p low) h held
              (same_top ∙ ap (λ m. place_of s m page) (sym n.1)) in
              (at.0, at.1, at.2 ∙ sym same_p)
          both (inr lt) =
              let m : ℕ = p.level - 1 in
              let up : p.level ≡ m + 1 = omega (arith, lt) in
              let n = further h.place.level m (omega (arith, lt)) in
              let i : ℕ = index_at (m + 1) page in
              let q : below L p i ≡ place_of s m page =
              ap (λ (x : Place). entry_place L x i) (same_p ∙ ap (λ l. place_of s l page) up) ∙ entry_below L s m page (omega (arith, own.1, is.few_levels)) in
              let table = subst (λ l. set.contains st.tables (place_of s l page) ≡ true) n.1
              (closed_up st is s h.place.level page n.0 (subst (λ l. l ≤ L) (sym n.1) (omega (arith, own.1, is.few_levels))) (subst (λ x. set.contains st.tables x ≡ true) same_top there)) in
              let high = spans_up s h.place.level page n.0 (subst (λ l. l < 6) (sym n.1) (omega (arith, own.1, is.few_levels))) (subst (Spans zone) same_top spans) in
              let at_q = subst (Spans zone) (ap (λ l. place_of s l page) n.1 ∙ sym q) high in
              let none = met.lowest i (small (m + 1) page) at_q in
              absurd (false≢true (sym none ∙ (ap (set.contains st.tables) q ∙ table)))
            where
              small : (k page : ℕ) → index_at k page < 512
              small k page = omega arith

pub cover_is_held : CoverIsHeld
cover_is_held (Pages s f c strict) b v is same agree shows p met = held_at _ b v is same agree shows p (from_top _ b v is same agree shows p met shows.covers.top shows.covers.held shows.covers.is_top.0)
cover_is_held (Space s) b v is same agree shows p (inl e) = held_at _ b v is same agree shows p (shows.covers.top, shows.covers.held, shows.covers.is_top.1 ∙ sym e)
cover_is_held (Space s) b v is same agree shows p (inr there) =
    let depth = levels_of_table _ b v is same agree shows p there.0 in
    let page : ℕ = span_first p in
    let own = table_above p p.space page (omega (arith, depth.1, is.few_levels)) (first_page p (omega (arith, depth.1, is.few_levels))) in
    let at = from_directory _ b v is same agree shows p.space p.level page depth.0 depth.1 there.1 (subst (λ q. set.contains (state_of b).tables q ≡ true) own there.0)
    shows.covers.top shows.covers.held shows.covers.is_top.1 in
    held_at _ b v is same agree shows p (at.0, at.1, at.2 ∙ sym own)
cover_is_held Directory b v is same agree shows p e = held_at _ b v is same agree shows p (shows.covers.top, shows.covers.held, shows.covers.is_top.1 ∙ sym e)
