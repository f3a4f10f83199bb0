-- A copy needs as many page tables as are used among the held rows of its source.
use Rattle.std.proofs.Common.{◌≡◌, ℕ, zero, suc, ◌+◌, ◌-◌, ◌*◌, ◌/◌, ◌^◌, ◌<◌, ◌≤◌, Bool, true, false, cond, List, [], ◌∷◌, ◌++◌, length, length-append, append_assoc, get_or, refl, sym, ap, subst, ◌∙◌, ◌⊎◌, inl, inr, arith}
use mathlib.Core.Bool.{true≢false}
use Rattle.std.specs.Prelude.{◌&&◌, max, nat_eq, nat_le, nat_lt, map, Option, Some, None}
use Rattle.std.specs.List.{Contains, AllPairs, filter}
use Rattle.std.specs.Ordering.{eq_by_cmp}
use Rattle.std.specs.Cmp.{Equal-is, eq_by_cmp_equiv}
use Rattle.std.specs.FinMap as fin
use Rattle.std.specs.FinSet as set
use Rattle.std.specs.FinSet.{same_set, len-empty, len-insert, contains-retain, contains-from_list}
use Rattle.std.proofs.lemmas.Bool.{and_parts, and_from, or_cases, or_left, or_right, eq-eqb, eqb-true, le-leb, leb-true, lt-ltb, ltb-true, false_from_ne_true, cases_lt}
use Rattle.std.proofs.lemmas.List.{get_or_at, get_or-append-add, get_or_append_left}
use Rattle.table_place.specs.declared.Place.{Place}
use Rattle.table_place.specs.Place.{place_cmp, root, place_of, has_page, index_at, is_above, span_first, span_count}
use Rattle.table_place.proofs.Entries.{below_is, first_page as first_of_span, page_in_span, span_has_page}
use Rattle.table_place.proofs.Spans.{quotient_low, user_below}
use Rattle.table_place.proofs.Tables.{in_range, to_range}
use Rattle.page_map.specs.declared.cell.Cell.{Cell as PageCell}
use Rattle.page_map.specs.Spaces.{copied_tables}
use Rattle.page_map.specs.State.{State, IsConsistent, levels, space_at, is_present}
use Rattle.page_map.specs.Tables.{need}
use Rattle.page_map.proofs.Evaluate.{alike}
use Rattle.page_map.proofs.NeedOfCopies.{cell_used, empty_unused, copies_are, copies_need}
use Rattle.page_map.proofs.Places.{place_total, place_exact}
use Rattle.page_map.proofs.Spaces.{copied_to, copy_from, copy_to, has_key}
use Rattle.page_map.proofs.Steps.{not_none}
use Rattle.page_map.proofs.Unlike.{wanted_filter, one_passes, each_key}
use Rattle.page_map.proofs.Wanted.{is_wanted}
use Rattle.row_cells.specs.declared.Cell.{Cell}
use Rattle.row_cells.specs.declared.Cell.TheVariants.{Invalid, Table, Anon, File, Mapped, Swapped}
use Rattle.tree_lock.specs.declared.zone.Zone.TheVariants as zone
use Rattle.tree_lock.specs.Held.{IsInOrder}
use Rattle.tree_lock.specs.Order.{IsBefore}
use Rattle.tree_lock.proofs.Positions.{before_same}
use Rattle.machine_plan.specs.Agrees.{below, IsTableOf, IsNoTable, Shows}
use Rattle.machine_plan.specs.Cover.{HasCover}
use Rattle.machine_plan.specs.Held.{ListHolds}
use Rattle.machine_plan.specs.HeldRows.{is_table, Row, RowsShown, AreOf}
use Rattle.machine_plan.proofs.Asked.{next_below}
use Rattle.machine_plan.proofs.Near.{level_is, page_up, level_below}
use Rattle.machine_plan.proofs.Telling.{cover_is_asked}
use Rattle.machine_plan.proofs.Towers.{table_above, tower_has, wider}
use Rattle.machine_plan.proofs.Covering.{further}
use Rattle.held_needs.specs.Copies.{is_filled, page_at, IsKeyOf}
use Rattle.held_needs.proofs.Lowest.{up_from}
use Rattle.held_needs.proofs.Copied.{IsUsed, Marked, here_or_later}

-- ---- lists

abbrev is_low : Row → Bool
is_low h = nat_le 1 h.place.level && nat_lt h.place.level 6

-- the positions of rows of a space's tables
abbrev pub places : List Row → List Place
places [] = []
places (h ∷ hs) = cond (is_low h) (h.place ∷ places hs) (places hs)

place_in : (hs : List Row) (p : Place) → is_wanted (places hs) p ≡ true → (h : Row) × Contains hs h × (h.place ≡ p) × (is_low h ≡ true)
place_in [] p w = absurd (true≢false (sym w))
place_in (h ∷ hs) p w = go (λ v. place_in hs p v) (is_low h) refl w
  where
    behind : ((g : Row) × Contains hs g × (g.place ≡ p) × (is_low g ≡ true)) → (g : Row) × Contains (h ∷ hs) g × (g.place ≡ p) × (is_low g ≡ true)
    behind at = (at.0, (suc at.1.0, omega (arith, at.1.1), at.1.2), at.2, at.3)

    go : (is_wanted (places hs) p ≡ true → (g : Row) × Contains hs g × (g.place ≡ p) × (is_low g ≡ true)) → (b : Bool) → is_low h ≡ b
        → is_wanted (cond b (h.place ∷ places hs) (places hs)) p ≡ true → (g : Row) × Contains (h ∷ hs) g × (g.place ≡ p) × (is_low g ≡ true)
    go rest true e v = elim (or_cases (eq_by_cmp place_cmp p h.place) (is_wanted (places hs) p) v) [
      | inl here ↦ (h, (0, omega arith, refl), sym (place_exact p h.place ((Equal-is (place_cmp p h.place)).0 here)), e)
      | inr later ↦ behind (rest later)
    ]
    go rest false e v = behind (rest v)

in_places : (hs : List Row) (h : Row) → Contains hs h → is_low h ≡ true → is_wanted (places hs) h.place ≡ true
in_places [] h (k, inside, is) low = absurd (omega (arith, inside))
in_places (g ∷ gs) h (zero, inside, is) low = go (is_low g) refl
  where
    go : (b : Bool) → is_low g ≡ b → is_wanted (cond b (g.place ∷ places gs) (places gs)) h.place ≡ true
    go true e = or_left (eq_by_cmp place_cmp h.place g.place) (is_wanted (places gs) h.place) (ap (λ (x : Row). eq_by_cmp place_cmp h.place x.place) is ∙ (eq_by_cmp_equiv place_total).refl h.place)
    go false e = absurd (true≢false (sym low ∙ (ap is_low (sym is) ∙ e)))
in_places (g ∷ gs) h (suc n, inside, is) low = go (in_places gs h (n, omega (arith, inside), is) low) (is_low g)
  where
    go : is_wanted (places gs) h.place ≡ true → (b : Bool) → is_wanted (cond b (g.place ∷ places gs) (places gs)) h.place ≡ true
    go rest true = or_right (eq_by_cmp place_cmp h.place g.place) (is_wanted (places gs) h.place) rest
    go rest false = rest

-- rows in order
module _ (rows before later : List Row) (h : Row) (order : IsInOrder rows) (split : rows ≡ before ++ h ∷ later) where
  ordered : AllPairs (λ (a b : Row). IsBefore a.place b.place) (before ++ h ∷ later)
  ordered = subst (λ xs. AllPairs (λ (a b : Row). IsBefore a.place b.place) xs) split order

  long : length (before ++ h ∷ later) ≡ length before + suc (length later)
  long = length-append before (h ∷ later)

  pub before_head : (g : Row) → Contains before g → IsBefore g.place h.place
  before_head g (k, inside, is) =
      subst (λ (x : Row). IsBefore x.place h.place) (get_or_append_left before (h ∷ later) g k inside ∙ is)
      (subst (λ (x : Row). IsBefore (get_or (before ++ h ∷ later) k g).place x.place) (get_or_at before h later g (length before) refl)
      (ordered k (length before) g inside (omega (arith, long))))

  pub head_before : (g : Row) → Contains later g → IsBefore h.place g.place
  head_before g (k, inside, is) =
      subst (λ (x : Row). IsBefore x.place g.place) (get_or_at before h later g (length before) refl)
      (subst (λ (x : Row). IsBefore (get_or (before ++ h ∷ later) (length before) g).place x.place) (get_or-append-add before (h ∷ later) (suc k) g ∙ is)
      (ordered (length before) (length before + suc k) g (omega arith) (omega (arith, long, inside))))

  pub in_all : (g : Row) → Contains (h ∷ later) g → Contains rows g
  in_all g (k, inside, is) =
      subst (λ xs. Contains xs g) (sym split) (length before + k, omega (arith, long, inside), get_or-append-add before (h ∷ later) k g ∙ is)

  pub before_or_from : (g : Row) → Contains rows g → Contains before g ⊎ Contains (h ∷ later) g
  before_or_from g held = go (subst (λ xs. Contains xs g) split held)
    where
      go : Contains (before ++ h ∷ later) g → Contains before g ⊎ Contains (h ∷ later) g
      go (k, inside, is) = elim (cases_lt k (length before)) [
        | inl left ↦ inl (k, left, sym (get_or_append_left before (h ∷ later) g k left) ∙ is)
        | inr right ↦ (let at = further (length before) k right in
            inr (at.0, omega (arith, long, inside, at.1), sym (get_or-append-add before (h ∷ later) at.0 g) ∙ ap (λ n. get_or (before ++ h ∷ later) n g) at.1 ∙ is))
      ]

-- ---- a state

some_cell : (st : State) (q : Place) (c : Cell) (space page : ℕ) → is_filled c ≡ true → Shows st q c → has_page q space page ≡ true → (x : PageCell) × (fin.get (space_at st space) page ≡ Some x)
some_cell st q Invalid space page filled shows has = absurd (true≢false (sym filled))
some_cell st q Table space page filled shows has = absurd (true≢false (sym filled))
some_cell st q (Anon perm) space page filled shows has = (_, shows.1 space page has)
some_cell st q (File perm file index) space page filled shows has = (_, shows.1 space page has)
some_cell st q (Mapped perm origin frame) space page filled shows has = (_, shows.2 space page has)
some_cell st q (Swapped perm origin slot) space page filled shows has = (_, shows.2 space page has)

filled_cell : (st : State) (q : Place) (c : Cell) (space page : ℕ) (x : PageCell) → is_table c ≡ false → Shows st q c → has_page q space page ≡ true → fin.get (space_at st space) page ≡ Some x → (is_filled c ≡ true) × IsNoTable st q
filled_cell st q Invalid space page x plain shows has e = absurd (not_none (sym e ∙ shows.1 space page has))
filled_cell st q Table space page x plain shows has e = absurd (true≢false plain)
filled_cell st q (Anon perm) space page x plain shows has e = (refl, shows.0)
filled_cell st q (File perm file index) space page x plain shows has e = (refl, shows.0)
filled_cell st q (Mapped perm origin frame) space page x plain shows has e = (refl, shows.0)
filled_cell st q (Swapped perm origin slot) space page x plain shows has e = (refl, shows.0)

module _ (st : State) (is : IsConsistent st) (space : ℕ) (rows : List Row) (shown : RowsShown st rows) (of_space : AreOf space rows)
    (cover : HasCover (zone.Space space) st (ListHolds rows)) (present : is_present st space ≡ true) where
  abbrev L : ℕ
  L = levels st

  table_there : (h : Row) → Contains rows h → h.place.level < 6 → set.contains st.tables h.place ≡ true
  table_there h held low = go (shown h held).table
    where
      go : IsTableOf st h.place → set.contains st.tables h.place ≡ true
      go (inl top) = absurd (high (ap (λ (p : Place). p.level) top) low)
        where
          high : h.place.level ≡ 6 → h.place.level < 6 → ⊥
          high e l = omega (arith, e, l)
      go (inr there) = there

  -- a row has a cell at each of its key pages
  key_cell : (g : Row) (q : ℕ) → Contains rows g → IsKeyOf g q → (x : PageCell) × (fin.get (space_at st space) q ≡ Some x) × (span_first g.place ≤ q)
  key_cell g q held key =
      let p = below L g.place key.index in
      let form = below_is L g.place key.index key.low in
      let low : p.level < 6 = omega (arith, level_below L g.place key.index key.low, key.low) in
      let here : p.space ≡ space = ap (λ (x : Place). x.space) form ∙ of_space g held key.low in
      let first : span_first p ≡ q = ap span_first form ∙ sym key.page_is in
      let has : has_page p space q ≡ true = subst (λ s. has_page p s q ≡ true) here (subst (λ n. has_page p p.space n ≡ true) first (first_of_span p low)) in
      let cell = some_cell st p key.filled.0 space q key.filled.2 ((shown g held).each key.index key.filled.0 key.inside key.filled.1) has in
      let up = page_up L g.place key.index space q key.deep key.low key.inside has in
      (cell.0, cell.1, (in_range (span_first g.place) (span_count g.place) q (page_in_span g.place space q key.low up)).0)

  -- each page with a cell stands at a row
  pub record Stood (q : ℕ) : Type 0 where
    pub row : Row
    pub held : Contains rows row
    pub low : row.place.level < 6
    pub deep : 1 ≤ row.place.level
    pub has : has_page row.place space q ≡ true
    pub lone : IsNoTable st (place_of space (row.place.level - 1) q)
    pub key : IsKeyOf row (page_at row.place (index_at row.place.level q))
    pub before : page_at row.place (index_at row.place.level q) ≤ q

  stood : (q : ℕ) (x : PageCell) → fin.get (space_at st space) q ≡ Some x → Stood q
  stood q x e =
      let user = is.pages space q x e in
      let asked = cover_is_asked (zone.Space space) st rows space q is shown of_space cover (is.roots space present) user refl in
      let g = asked.row in
      let at = asked.at in
      let here : g.place.space ≡ space = of_space g asked.held at.low in
      let i : ℕ = index_at g.place.level q in
      let has : has_page g.place space q ≡ true = subst (λ s. has_page g.place s q ≡ true) here at.has in
      let down : below L g.place i ≡ place_of space (g.place.level - 1) q = next_below L g.place space q at.deep at.low has in
      let small : i < 512 = index_small g.place.level q in
      let there = subst (λ p. has_page p space q ≡ true) (sym down) (tower_has space (g.place.level - 1) q (omega (arith, at.low))) in
      let cell = filled_cell st (below L g.place i) at.cell space q x at.no_link ((shown g asked.held).each i at.cell small at.there) there e in
      let prefix : 512 * g.place.prefix + i ≡ q / 512 ^ (g.place.level - 1) = ap (λ (p : Place). p.prefix) (sym (below_is L g.place i at.low) ∙ down) in
      record {
        row = g;
        held = asked.held;
        low = at.low;
        deep = at.deep;
        has = has;
        lone = subst (IsNoTable st) down cell.1;
        key = record { deep = at.deep; low = at.low; index = i; inside = small; filled = (at.cell, at.there, cell.0); page_is = refl };
        before = subst (λ n. n * 512 ^ (g.place.level - 1) ≤ q) (sym prefix) (quotient_low q (g.place.level - 1));
      }
    where
      index_small : (k page : ℕ) → index_at k page < 512
      index_small k page = omega arith

  -- and that is no row before one whose span has the page
  not_before : (h : Row) (q : ℕ) → Contains rows h → 1 ≤ h.place.level → h.place.level < 6 → has_page h.place space q ≡ true → (s : Stood q) → IsBefore s.row.place h.place → ⊥
  not_before h q held deep low has s ahead = elim (cases_lt h.place.level s.row.place.level) [
    | inl above ↦ (let high = (level_is st is s.row.place (table_there s.row s.held s.low)).1 in
        true≢false (sym (up_from st is space q h.place.level (s.row.place.level - 1) (omega (arith, above)) (omega (arith, high, s.deep)) (subst (λ p. set.contains st.tables p ≡ true) mine (table_there h held low))) ∙ s.lone))
    | inr inside ↦ (let at = further s.row.place.level h.place.level inside in
        let wide = wider space s.row.place.level q at.0 (subst (λ n. n < 6) (sym at.1) low) s.row.place.space (span_first s.row.place)
        (subst (λ p. has_page p s.row.place.space (span_first s.row.place) ≡ true) its (first_of_span s.row.place s.low)) in
        let in_mine : has_page h.place s.row.place.space (span_first s.row.place) ≡ true =
        subst (λ p. has_page p s.row.place.space (span_first s.row.place) ≡ true) (ap (λ n. place_of space n q) at.1 ∙ sym mine) wide in
        let later = (in_range (span_first h.place) (span_count h.place) (span_first s.row.place) (page_in_span h.place s.row.place.space (span_first s.row.place) low in_mine)).0 in
        let one = of_space s.row s.held s.low ∙ sym (of_space h held low) in
        let first = ahead.first one in
        let same : span_first s.row.place ≡ span_first h.place = omega (arith, first, later) in
        clash inside (ahead.level one same))
  ]
    where
      mine : h.place ≡ place_of space h.place.level q
      mine = table_above h.place space q low has

      its : s.row.place ≡ place_of space s.row.place.level q
      its = table_above s.row.place space q s.low s.has

      clash : {a b : ℕ} → a ≤ b → b < a → ⊥
      clash x y = omega (arith, x, y)

  -- used by the rows from one on is used
  module _ (before later : List Row) (h : Row) (order : IsInOrder rows) (split : rows ≡ before ++ h ∷ later) where
    mine : Contains rows h
    mine = in_all rows before later h order split h (0, omega arith, refl)

    yes : IsUsed (h ∷ later) h → has_key st space h.place ≡ true
    yes u =
        let held = in_all rows before later h order split u.row u.held in
        let cell = key_cell u.row u.page held u.key in
        cell_used st space is h.place u.page cell.0 (table_there h mine u.low) (of_space h mine u.low) cell.1 (from (here_or_later h u.row later u.held) cell.2) u.before
      where
        from : (h ≡ u.row) ⊎ Contains later u.row → span_first u.row.place ≤ u.page → span_first h.place ≤ u.page
        from (inl same) low = subst (λ (x : Row). span_first x.place ≤ u.page) (sym same) low
        from (inr behind) low =
            let ahead = head_before rows before later h order split u.row behind in
            let one = of_space h mine u.low ∙ sym (of_space u.row (in_all rows before later h order split u.row u.held) u.key.low) in
            omega (arith, ahead.first one, low)

    no : 1 ≤ h.place.level → h.place.level < 6 → (IsUsed (h ∷ later) h → ⊥) → has_key st space h.place ≡ false
    no deep low none = empty_unused st space is h.place (table_there h mine low) (λ q a b. go q a b (fin.get (space_at st space) q) refl)
      where
        used_by : (q : ℕ) → (s : Stood q) → q < span_first h.place + span_count h.place → Contains (h ∷ later) s.row → ⊥
        used_by q s b held = none (record { deep = deep; low = low; page = page_at s.row.place (index_at s.row.place.level q); row = s.row; held = held; key = s.key; before = omega (arith, s.before, b) })

        go : (q : ℕ) → span_first h.place ≤ q → q < span_first h.place + span_count h.place → (o : Option PageCell) → fin.get (space_at st space) q ≡ o → fin.get (space_at st space) q ≡ None
        go q a b None e = e
        go q a b (Some x) e =
            let s = stood q x e in
            let has = span_has_page h.place space q low (of_space h mine low) (to_range (span_first h.place) (span_count h.place) q a b) in
            elim (before_or_from rows before later h order split s.row s.held) [
              | inl ahead ↦ absurd (not_before h q mine deep low has s (before_head rows before later h order split s.row ahead))
              | inr held ↦ absurd (used_by q s b held)
            ]

  -- as many are marked as have a cell in their spans
  counted : (before suffix : List Row) (n : ℕ) → IsInOrder rows → rows ≡ before ++ suffix → Marked suffix n → n ≡ length (filter (has_key st space) (places suffix))
  counted before [] n order split e = e
  counted before (h ∷ later) n order split (m, rest, which) =
      go (counted (before ++ h ∷ []) later m order (split ∙ sym (append_assoc before (h ∷ []) later)) rest) (is_low h) refl (has_key st space h.place) refl which
    where
      go : m ≡ length (filter (has_key st space) (places later)) → (b : Bool) → is_low h ≡ b → (u : Bool) → has_key st space h.place ≡ u → (IsUsed (h ∷ later) h × (n ≡ m + 1)) ⊎ ((IsUsed (h ∷ later) h → ⊥) × (n ≡ m)) →
          n ≡ length (filter (has_key st space) (cond b (h.place ∷ places later) (places later)))
      go same true e true u (inl (used, more)) = omega (arith, more, same) ∙ sym (ap (λ b. length (cond b (h.place ∷ filter (has_key st space) (places later)) (filter (has_key st space) (places later)))) u)
      go same true e false u (inr (none, more)) = more ∙ same ∙ sym (ap (λ b. length (cond b (h.place ∷ filter (has_key st space) (places later)) (filter (has_key st space) (places later)))) u)
      go same true e false u (inl (used, more)) = absurd (true≢false (sym (yes before later h order split used) ∙ u))
      go same true e true u (inr (none, more)) =
          let low = and_parts (nat_le 1 h.place.level) (nat_lt h.place.level 6) e in
          absurd (true≢false (sym u ∙ no before later h order split (leb-true 1 h.place.level low.0) (ltb-true h.place.level 6 low.1) none))
      go same false e u v (inl (used, more)) = absurd (true≢false (sym (and_from _ _ (le-leb 1 h.place.level used.deep) (lt-ltb h.place.level 6 used.low)) ∙ e))
      go same false e u v (inr (none, more)) = more ∙ same

  -- the held positions are the tables of the space
  same_test : (a b : Bool) → (a ≡ true → b ≡ true) → (b ≡ true → a ≡ true) → a ≡ b
  same_test true b f g = sym (f refl)
  same_test false true f g = absurd (true≢false (sym (g refl)))
  same_test false false f g = refl

  listed : set.from_list (places rows) ≡ set.retain st.tables (λ p. nat_eq p.space space)
  listed = same_set place_total place_exact _ _ (λ q.
      contains-from_list place_total (places rows) q
      ∙ same_test (is_wanted (places rows) q) (set.contains st.tables q && nat_eq q.space space) (held q) (holds q)
      ∙ sym (contains-retain st.tables (λ p. nat_eq p.space space) q (alike place_total place_exact (λ p. nat_eq p.space space) q)))
    where
      held : (q : Place) → is_wanted (places rows) q ≡ true → (set.contains st.tables q && nat_eq q.space space) ≡ true
      held q w =
          let at = place_in rows q w in
          let low = ltb-true at.0.place.level 6 (and_parts (nat_le 1 at.0.place.level) (nat_lt at.0.place.level 6) at.3).1 in
          subst (λ (p : Place). (set.contains st.tables p && nat_eq p.space space) ≡ true) at.2
          (and_from _ _ (table_there at.0 at.1 low) (eq-eqb at.0.place.space space (of_space at.0 at.1 low)))

      holds : (q : Place) → (set.contains st.tables q && nat_eq q.space space) ≡ true → is_wanted (places rows) q ≡ true
      holds q w =
          let both = and_parts (set.contains st.tables q) (nat_eq q.space space) w in
          let at = cover q (inr (both.0, eqb-true q.space space both.1)) in
          let depth = level_is st is q both.0 in
          subst (λ p. is_wanted (places rows) p ≡ true) at.2 (in_places rows at.0 at.1 (ap (λ (p : Place). nat_le 1 p.level && nat_lt p.level 6) at.2
          ∙ and_from _ _ (le-leb 1 q.level depth.0) (lt-ltb q.level 6 (omega (arith, depth.1, is.few_levels)))))

  -- each of them stands once
  lone : (before later : List Row) (h : Row) → IsInOrder rows → rows ≡ before ++ h ∷ later → is_wanted (places later) h.place ≡ false
  lone before later h order split = false_from_ne_true _ (λ w.
      let at = place_in later h.place w in
      before_same h.place (subst (λ (p : Place). IsBefore h.place p) at.2 (head_before rows before later h order split at.0 at.1)))

  module _ (new : ℕ) (u : Place → Bool) where
    lone_copy : (before later : List Row) (h : Row) → IsInOrder rows → rows ≡ before ++ h ∷ later → is_low h ≡ true → set.contains (set.from_list {R = place_cmp} (map (copied_to new) (filter u (places later)))) (copied_to new h.place) ≡ false
    lone_copy before later h order split low = contains-from_list place_total (map (copied_to new) (filter u (places later))) (copied_to new h.place) ∙ false_from_ne_true _ (λ w.
        let at = copy_from new (filter u (places later)) (copied_to new h.place) w in
        let wanted = (and_parts (is_wanted (places later) at.0) (u at.0) (sym (wanted_filter u (places later) at.0) ∙ at.1)).0 in
        let g = place_in later at.0 wanted in
        let held = in_all rows before later h order split g.0 (suc g.1.0, omega (arith, g.1.1), g.1.2) in
        let mine = in_all rows before later h order split h (0, omega arith, refl) in
        let one : at.0.space ≡ h.place.space = ap (λ (p : Place). p.space) (sym g.2) ∙ of_space g.0 held (below_six g.0 g.3) ∙ sym (of_space h mine (below_six h low)) in
        let same : at.0 ≡ h.place = λ i. record { space = one i; level = ap (λ (p : Place). p.level) (sym at.2) i; prefix = ap (λ (p : Place). p.prefix) (sym at.2) i } in
        true≢false (sym (subst (λ p. is_wanted (places later) p ≡ true) same wanted) ∙ lone before later h order split))
      where
        below_six : (g : Row) → is_low g ≡ true → g.place.level < 6
        below_six g e = ltb-true g.place.level 6 (and_parts (nat_le 1 g.place.level) (nat_lt g.place.level 6) e).1

    copied_len : (before suffix : List Row) → IsInOrder rows → rows ≡ before ++ suffix →
        set.len (set.from_list {R = place_cmp} (map (copied_to new) (filter u (places suffix)))) ≡ length (filter u (places suffix))
    copied_len before [] order split = len-empty place_cmp
    copied_len before (h ∷ later) order split = go (copied_len (before ++ h ∷ []) later order (split ∙ sym (append_assoc before (h ∷ []) later))) (is_low h) refl
      where
        added : is_low h ≡ true → set.len (set.from_list {R = place_cmp} (map (copied_to new) (filter u (places later)))) ≡ length (filter u (places later)) → (x : Bool) →
            set.len (set.from_list {R = place_cmp} (map (copied_to new) (cond x (h.place ∷ filter u (places later)) (filter u (places later))))) ≡ length (cond x (h.place ∷ filter u (places later)) (filter u (places later)))
        added low rest false = rest
        added low rest true =
            len-insert place_total (set.from_list (map (copied_to new) (filter u (places later)))) (copied_to new h.place)
            ∙ ap (λ c. cond c (set.len (set.from_list {R = place_cmp} (map (copied_to new) (filter u (places later))))) (set.len (set.from_list {R = place_cmp} (map (copied_to new) (filter u (places later)))) + 1)) (lone_copy before later h order split low)
            ∙ more rest
          where
            more : {a b : ℕ} → a ≡ b → a + 1 ≡ suc b
            more e = omega (arith, e)

        go : set.len (set.from_list {R = place_cmp} (map (copied_to new) (filter u (places later)))) ≡ length (filter u (places later)) → (b : Bool) → is_low h ≡ b →
            set.len (set.from_list {R = place_cmp} (map (copied_to new) (filter u (cond b (h.place ∷ places later) (places later))))) ≡ length (filter u (cond b (h.place ∷ places later) (places later)))
        go rest true e = added e rest (u h.place)
        go rest false e = rest

  -- where a table has a cell in its span, so has the root
  root_key : (p : Place) → has_key st space p ≡ true → has_key st space (root L space) ≡ true
  root_key p h =
      let one = one_passes (λ q. (c : PageCell) × (fin.get (space_at st space) q ≡ Some c)) (λ page. is_above L space page 1 p) (fin.keys (space_at st space))
      (each_key (λ q. (c : PageCell) × (fin.get (space_at st space) q ≡ Some c)) (space_at st space) (λ q c e. (c, e))) h in
      let user = user_below L one.0 1 (is.pages space one.0 one.1.0 one.1.1) in
      cell_used st space is (root L space) one.0 one.1.0 (is.roots space present) refl one.1.1 (low (512 ^ L)) (high one.0 (512 ^ L) user)
    where
      low : {q : ℕ} (n : ℕ) → 0 * n ≤ q
      low n = omega arith

      high : (q n : ℕ) → q + 1 < n → q < 0 * n + n
      high q n h = omega (arith, h)

  abbrev ones : List Place
  ones = filter (has_key st space) (places rows)

  abbrev copies : ℕ → List Place
  copies new = map (copied_to new) ones

  -- so many page tables are needed
  pub copy_is : (new n : ℕ) → is_present st new ≡ false → IsInOrder rows → Marked rows n → need (copied_tables st space new) st.tables ≡ max n 1
  copy_is new n absent order marked =
      copies_need st space is new absent
      ∙ ap set.len (sym (copies_are st space is new (places rows) (has_key st space) listed (λ p _ _. refl)))
      ∙ len-insert place_total (set.from_list (map (copied_to new) ones)) (root L new)
      ∙ go (has_key st space (root L space)) refl
    where
      length_is : set.len (set.from_list {R = place_cmp} (copies new)) ≡ n
      length_is = copied_len new (has_key st space) [] rows order refl ∙ sym (counted [] rows n order refl marked)

      some : (xs : List Place) (p : Place) → is_wanted xs p ≡ true → 1 ≤ length xs
      some [] p w = absurd (true≢false (sym w))
      some (x ∷ xs) p w = omega arith

      root_in : has_key st space (root L space) ≡ true → is_wanted ones (root L space) ≡ true
      root_in e =
          wanted_filter (has_key st space) (places rows) (root L space)
          ∙ and_from _ _ (sym (contains-from_list place_total (places rows) (root L space)) ∙ ap (λ s. set.contains s (root L space)) listed
          ∙ contains-retain st.tables (λ p. nat_eq p.space space) (root L space) (alike place_total place_exact (λ p. nat_eq p.space space) (root L space))
          ∙ and_from _ _ (is.roots space present) (eq-eqb space space refl)) e

      at_least : has_key st space (root L space) ≡ true → 1 ≤ n
      at_least e = let m = some ones (root L space) (root_in e) in omega (arith, counted [] rows n order refl marked, m)

      nothing : has_key st space (root L space) ≡ false → (xs : List Place) → ((p : Place) → is_wanted xs p ≡ true → has_key st space p ≡ true) → xs ≡ []
      nothing e [] all = refl
      nothing e (x ∷ xs) all = absurd (true≢false (sym (root_key x (all x (or_left (eq_by_cmp place_cmp x x) (is_wanted xs x) ((eq_by_cmp_equiv place_total).refl x)))) ∙ e))

      kept : (p : Place) → is_wanted ones p ≡ true → has_key st space p ≡ true
      kept p w = (and_parts (is_wanted (places rows) p) (has_key st space p) (sym (wanted_filter (has_key st space) (places rows) p) ∙ w)).1

      last : (c : Bool) (m : ℕ) → m ≡ n → ((c ≡ true) × (1 ≤ n)) ⊎ ((c ≡ false) × (n ≡ 0)) → cond c m (m + 1) ≡ max n 1
      last c m e (inl (t, more)) = ap (λ x. cond x m (m + 1)) t ∙ omega (arith, e, more)
      last c m e (inr (f, none)) = ap (λ x. cond x m (m + 1)) f ∙ omega (arith, e, none)

      go : (b : Bool) → has_key st space (root L space) ≡ b →
          cond (set.contains (set.from_list {R = place_cmp} (map (copied_to new) (filter (has_key st space) (places rows)))) (root L new)) (set.len (set.from_list {R = place_cmp} (map (copied_to new) (filter (has_key st space) (places rows)))))
          (set.len (set.from_list {R = place_cmp} (map (copied_to new) (filter (has_key st space) (places rows)))) + 1) ≡ max n 1
      go true e = last _ _ length_is (inl (contains-from_list place_total (copies new) (root L new) ∙ copy_to new ones (root L space) (root_in e), at_least e))
      go false e =
          let none : ones ≡ [] = nothing e ones kept in
          last _ _ length_is (inr (contains-from_list place_total (copies new) (root L new) ∙ ap (λ xs. is_wanted (map (copied_to new) xs) (root L new)) none, counted [] rows n order refl marked ∙ ap length none))
