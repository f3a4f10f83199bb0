-- The entry that leads to a table, and tables below one that is removed.
--     leads_there, index_inside      the entry above a table leads to it
--     one_entry      two entries of tables that lead to one position are one
--     up_there, up_in      the table above one of a state, and it is in the cover where that one is removed
--     in_cover      a removed table is in the cover
--     below_removed      a table below a removed one is removed
use Rattle.std.specs.Prelude.{◌≡◌, ℕ, ◌+◌, ◌-◌, ◌*◌, ◌/◌, ◌%◌, ◌^◌, ◌<◌, ◌≤◌, ◌⊎◌, Bool, true, false, cond, nat_eq, nat_lt, ◌&&◌}
use Rattle.std.specs.FinSet as set
use Rattle.std.proofs.Common.{sym, refl, ◌∙◌, ap, subst, arith, inl, inr}
use Rattle.std.proofs.lemmas.Bool.{true≢false, and_parts, ltb-true, eqb-true, eq-eqb}
use Rattle.page_map.specs.State.{State, IsConsistent, levels}
use Rattle.table_place.specs.declared.Place.{Place}
use Rattle.table_place.specs.Range.{within}
use Rattle.table_place.specs.Place.{directory, root, parent, is_place, entry_place, has_page}
use Rattle.table_place.proofs.Entries.{level_of, below_is, page_parts}
use Rattle.tree_lock.specs.declared.zone.Zone.{Zone}
use Rattle.tree_lock.specs.declared.zone.Zone.TheVariants.{Pages, Space, Directory}
use Rattle.tree_lock.specs.Zone.{Meets, Spans, IsTable}
use Rattle.machine_plan.specs.Agrees.{below, IsTableOf}
use Rattle.machine_plan.specs.Cover.{InCover}
use Rattle.machine_plan.specs.Given.{IsRemoved, Removes}
use Rattle.machine_plan.proofs.Near.{page_up, level_below, same_below}
use Rattle.cursor_detach.specs.Cutting.{above_place, above_index}

-- a number below the only prefix of the root's level
none_left : (x n m : ℕ) → m ≡ n → x < 512 ^ (n - m) → x ≡ 0
none_left x n m same h = let none : n - m ≡ 0 = omega arith in let one : 512 ^ (n - m) ≡ 512 ^ 0 = ap (λ k. 512 ^ k) none in one_only x (subst (λ k. x < k) one h)
  where
    one_only : (x : ℕ) → x < 512 ^ 0 → x ≡ 0
    one_only x h = omega arith

pub record PlaceParts (L : ℕ) (p : Place) : Type 0 where
  pub space : p.space < 64
  pub low : 1 ≤ p.level
  pub high : p.level ≤ L
  pub prefix : p.level ≡ L → p.prefix ≡ 0

pub place_parts : (L : ℕ) (p : Place) → is_place L p ≡ true → PlaceParts L p
place_parts L p h =
    let outer = and_parts (nat_lt p.space 64) (within 1 L p.level && nat_lt p.prefix (512 ^ (L - p.level))) h in
    let inner = and_parts (within 1 L p.level) (nat_lt p.prefix (512 ^ (L - p.level))) outer.1 in
    let depth = level_of L p h in
    record { space = ltb-true p.space 64 outer.0; low = depth.0; high = depth.1; prefix = λ same. none_left p.prefix L p.level same (ltb-true p.prefix (512 ^ (L - p.level)) inner.1) }

pub index_inside : (L : ℕ) (p : Place) → is_place L p ≡ true → above_index L p < 512
index_inside L p h = go (nat_eq p.level L)
  where
    go : (b : Bool) → cond b p.space (p.prefix % 512) < 512
    go true = let parts = place_parts L p h in omega (arith, parts.space)
    go false = omega arith

pub leads_there : (L : ℕ) (p : Place) → L < 6 → is_place L p ≡ true → entry_place L (above_place L p) (above_index L p) ≡ p
leads_there L p few h = go (nat_eq p.level L) refl
  where
    parts : PlaceParts L p
    parts = place_parts L p h

    go : (b : Bool) → nat_eq p.level L ≡ b → entry_place L (cond b directory (parent p)) (cond b p.space (p.prefix % 512)) ≡ p
    go true e =
        let level : L ≡ p.level = sym (eqb-true p.level L e) in
        let prefix : 0 ≡ p.prefix = sym (parts.prefix (eqb-true p.level L e)) in
        λ i. record { space = p.space; level = level i; prefix = prefix i }
    go false e =
        let up : Place = parent p in
        let lower : p.level < L = less p.level L parts.high (λ same. true≢false (sym (eq-eqb p.level L same) ∙ e)) in
        let level : up.level - 1 ≡ p.level = omega arith in
        let prefix : 512 * (p.prefix / 512) + p.prefix % 512 ≡ p.prefix = omega arith in
        below_is L up (p.prefix % 512) (omega (arith, lower, few)) ∙ (λ i. record { space = p.space; level = level i; prefix = prefix i })
      where
        less : (a b : ℕ) → a ≤ b → (a ≡ b → ⊥) → a < b
        less a b le ne = omega arith

-- a table or the directory, by its level
table_level : (L : ℕ) (p : Place) → IsTable L p → (p ≡ directory) ⊎ ((1 ≤ p.level) × (p.level ≤ L))
table_level L p (inl top) = inl top
table_level L p (inr there) = inr (level_of L p there)

pub one_entry : (L : ℕ) (p q : Place) (i j : ℕ) → L < 6 → 1 ≤ L → IsTable L p → IsTable L q → i < 512 → j < 512 → entry_place L p i ≡ entry_place L q j → (p ≡ q) × (i ≡ j)
one_entry L p q i j few some tp tq ip jp same = go (table_level L p tp) (table_level L q tq)
  where
    level_at : (p : Place) (i : ℕ) → p ≡ directory → (entry_place L p i).level ≡ L
    level_at p i top = ap (λ (x : Place). (entry_place L x i).level) top

    go : (p ≡ directory) ⊎ ((1 ≤ p.level) × (p.level ≤ L)) → (q ≡ directory) ⊎ ((1 ≤ q.level) × (q.level ≤ L)) → (p ≡ q) × (i ≡ j)
    go (inl a) (inl b) = (a ∙ sym b, ap (λ (x : Place). x.space) (sym (ap (λ (x : Place). entry_place L x i) a) ∙ same ∙ ap (λ (x : Place). entry_place L x j) b))
    go (inl a) (inr b) =
        let low = ap (λ (x : Place). x.level) (sym same) ∙ level_at p i a in
        let other = level_below L q j (omega (arith, b.1, few)) in
        absurd (omega (arith, low, other, b.0, b.1, some))
    go (inr a) (inl b) =
        let low = ap (λ (x : Place). x.level) same ∙ level_at q j b in
        let other = level_below L p i (omega (arith, a.1, few)) in
        absurd (omega (arith, low, other, a.0, a.1, some))
    go (inr a) (inr b) =
        let one = below_is L p i (omega (arith, a.1, few)) in
        let two = below_is L q j (omega (arith, b.1, few)) in
        let both = sym one ∙ same ∙ two in
        let space : p.space ≡ q.space = ap (λ (x : Place). x.space) both in
        let lower : p.level - 1 ≡ q.level - 1 = ap (λ (x : Place). x.level) both in
        let prefix : 512 * p.prefix + i ≡ 512 * q.prefix + j = ap (λ (x : Place). x.prefix) both in
        let level : p.level ≡ q.level = omega (arith, lower, a.0, b.0) in
        let first : p.prefix ≡ q.prefix = omega (arith, prefix, ip, jp) in
        (λ k. record { space = space k; level = level k; prefix = first k }, omega (arith, prefix, first))

module _ (st : State) (is : IsConsistent st) where
  abbrev pub L : ℕ
  L = levels st

  few : L < 6
  few = omega (arith, is.few_levels)

  pub table_of : (p : Place) → IsTableOf st p → IsTable L p
  table_of p (inl top) = inl top
  table_of p (inr there) = inr (is.places p there)

  -- the table above one of the state
  pub up_there : (p : Place) → set.contains st.tables p ≡ true → IsTableOf st (above_place L p)
  up_there p there = go (nat_eq p.level L) refl
    where
      parts : PlaceParts L p
      parts = place_parts L p (is.places p there)

      go : (b : Bool) → nat_eq p.level L ≡ b → IsTableOf st (cond b directory (parent p))
      go true e = inl refl
      go false e = inr (is.parents p there (less p.level L parts.high (λ same. true≢false (sym (eq-eqb p.level L same) ∙ e))))
        where
          less : (a b : ℕ) → a ≤ b → (a ≡ b → ⊥) → a < b
          less a b le ne = omega arith

  -- a page below an entry of a table is one of the table
  up_has : (p : Place) (i s n : ℕ) → IsTableOf st p → i < 512 → has_page (below L p i) s n ≡ true → has_page p s n ≡ true
  up_has p i s n (inl top) inside h = subst (λ x. has_page x s n ≡ true) (sym top) refl
  up_has p i s n (inr there) inside h = let depth = level_of L p (is.places p there) in page_up L p i s n depth.0 (omega (arith, depth.1, is.few_levels)) inside h

  -- two entries of a table below which one page lies lead to one position
  one_way : (p : Place) (i j s n : ℕ) → IsTableOf st p → has_page (below L p i) s n ≡ true → has_page (below L p j) s n ≡ true → below L p i ≡ below L p j
  one_way p i j s n (inl top) a b =
      let one = (page_parts (root L i) s n few (subst (λ x. has_page (below L x i) s n ≡ true) top a)).0 in
      let two = (page_parts (root L j) s n few (subst (λ x. has_page (below L x j) s n ≡ true) top b)).0 in
      ap (λ k. below L p k) (one ∙ sym two)
  one_way p i j s n (inr there) a b = let depth = level_of L p (is.places p there) in same_below L p i j s n (omega (arith, depth.1, is.few_levels)) a b

  module _ (zone : Zone) (now : State) (removes : Removes zone st now) where
    -- a table with a page of the zone, below which none of which an entry leads to it may cover the zone
    in_zone : (zone : Zone) (p : Place) → Meets zone p → IsTableOf st p → ((j : ℕ) → j < 512 → ¬ Spans zone (below L p j)) → InCover zone st p
    in_zone (Pages s f c b) p meets table none = record { table = table; meets = meets; lowest = λ j less spans. absurd (none j less spans) }
    in_zone (Space s) p meets (inl top) none = inl top
    in_zone (Space s) p meets (inr there) none =
        let depth = level_of L p (is.places p there) in
        inr (there, (page_parts p meets.space meets.page (omega (arith, depth.1, is.few_levels)) meets.of_span).0 ∙ meets.of_zone)
    in_zone Directory p meets table none = absurd meets.of_zone

    pub in_cover : (p : Place) → IsRemoved st now p → InCover zone st p
    in_cover p gone = in_zone zone p (removes.meets p gone) (inr gone.0) (λ j less spans. removes.no_top p gone (record {
      all = λ s n h. up_has p j s n (inr gone.0) less (spans.all s n h);
      greater = λ strict lies. spans.greater strict (λ s n h. lies s n (up_has p j s n (inr gone.0) less h));
    }))

    -- so is the table above it
    pub up_in : (p : Place) → IsRemoved st now p → InCover zone st (above_place L p)
    up_in p gone =
        let meets = removes.meets p gone in
        let placed = is.places p gone.0 in
        let up : Place = above_place L p in
        let i : ℕ = above_index L p in
        let leads = leads_there L p few placed in
        let inside = index_inside L p placed in
        let table = up_there p gone.0 in
        let has : has_page (below L up i) meets.space meets.page ≡ true = subst (λ x. has_page x meets.space meets.page ≡ true) (sym leads) meets.of_span in
        in_zone zone up (record { space = meets.space; page = meets.page; of_zone = meets.of_zone; of_span = up_has up i meets.space meets.page table inside has }) table
        (λ j less spans. removes.no_top p gone (subst (Spans zone) (one_way up j i meets.space meets.page table (spans.all meets.space meets.page meets.of_zone) has ∙ leads) spans))

  pub below_removed : (now : State) → IsConsistent now → levels now ≡ L → (p : Place) (i : ℕ) → i < 512 → IsRemoved st now p → set.contains st.tables (below L p i) ≡ true → IsRemoved st now (below L p i)
  below_removed now is_now same p i inside gone there = (there, go (set.contains now.tables (below L p i)) refl)
    where
      depth : (1 ≤ p.level) × (p.level ≤ L)
      depth = level_of L p (is.places p gone.0)

      back : parent (below L p i) ≡ p
      back =
          let is_below = below_is L p i (omega (arith, depth.1, is.few_levels)) in
          let level : p.level - 1 + 1 ≡ p.level = omega (arith, depth.0) in
          let prefix : (512 * p.prefix + i) / 512 ≡ p.prefix = omega (arith, inside) in
          ap parent is_below ∙ (λ k. record { space = p.space; level = level k; prefix = prefix k })

      go : (b : Bool) → set.contains now.tables (below L p i) ≡ b → set.contains now.tables (below L p i) ≡ false
      go false e = e
      go true e =
          let lower = level_below L p i (omega (arith, depth.1, is.few_levels)) in
          let up = is_now.parents (below L p i) e (omega (arith, lower, depth.0, depth.1, same)) in
          absurd (true≢false (sym (ap (set.contains now.tables) (sym back) ∙ up) ∙ gone.1))
