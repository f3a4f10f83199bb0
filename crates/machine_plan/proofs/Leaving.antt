-- What is left of a cover confines the step.
--     leaves_cover      the law of `specs/Given.antt`
use Rattle.std.specs.Prelude.{◌≡◌, ℕ, ◌+◌, ◌-◌, ◌*◌, ◌^◌, ◌<◌, ◌≤◌, true, false, Bool, List}
use Rattle.std.specs.List.{Contains}
use Rattle.std.specs.FinSet as set
use Rattle.std.proofs.Common.{sym, refl, ◌∙◌, ap, subst, arith, inl, inr}
use Rattle.std.proofs.lemmas.Bool.{true≢false}
use Rattle.std.proofs.Math.Pow.{pow_mono}
use Rattle.page_map.specs.State.{State, IsConsistent, levels}
use Rattle.row_cells.specs.declared.Cell.{Cell}
use Rattle.row_table.specs.declared.view.HeldRow.{HeldRow as KnownRow}
use Rattle.row_table.specs.Books.{region, IsHeldAt, IsBelow}
use Rattle.row_table.specs.Plan.{Covers}
use Rattle.row_table.proofs.Views.{has_row}
use Rattle.table_place.specs.declared.Place.{Place}
use Rattle.table_place.specs.Place.{place_of, entry_place, has_page, span_first, span_count}
use Rattle.table_place.proofs.Spans.{span_pos, span_up, level_bits}
use Rattle.table_place.proofs.Tables.{in_range, to_range}
use Rattle.table_place.proofs.Entries.{page_parts, page_in_span, span_has_page, first_page, level_of}
use Rattle.tree_lock.specs.declared.zone.Zone.{Zone}
use Rattle.tree_lock.specs.declared.zone.Zone.TheVariants.{Pages, Space, Directory}
use Rattle.row_layout.specs.declared.places.Layout.{Layout}
use Rattle.tree_lock.specs.Zone.{Spans, ZoneHas}
use Rattle.tree_lock.specs.Linked.{ShowsCover}
use Rattle.walk_core.specs.Lists.{Has}
use Rattle.walk_core.specs.Words.{is_link, link_row}
use Rattle.machine_plan.specs.Agrees.{below, IsTableOf}
use Rattle.machine_plan.specs.Books.{BookData, state_of}
use Rattle.machine_plan.specs.Cover.{View, HeldAgree, HasLevelsOf}
use Rattle.machine_plan.specs.Given.{IsRemoved, Removes, Leaves, LeavesCover}
use Rattle.machine_plan.specs.Local.{Confines}
use Rattle.machine_plan.proofs.Covering.{cover_is_held, or_less, further}
use Rattle.machine_plan.proofs.Levels.{has_levels}
use Rattle.machine_plan.proofs.Towers.{closed_up, table_above}

wider_level : (i j : ℕ) → i ≤ j → 512 ^ i ≤ 512 ^ j
wider_level i j h = let more : 9 * i ≤ 9 * j = omega (arith, h) in let low = level_bits i in let high = level_bits j in let both = pow_mono more in omega (arith, low, high, both)

-- a span that lies in another is not of a higher level
not_wider : (p q : Place) → p.level < 6 → q.level < 6 → p.level < q.level → Covers p q → ⊥
not_wider p q low q_low lt covers =
    let first = page_in_span p q.space (span_first q) low (covers q.space (span_first q) (first_page q q_low)) in
    let some : 0 < span_count q = span_pos q.level in
    let end : ℕ = span_first q + span_count q - 1 in
    let at_end = span_has_page q q.space end q_low refl (to_range (span_first q) (span_count q) end (omega (arith, some)) (omega (arith, some))) in
    let last = page_in_span p q.space end low (covers q.space end at_end) in
    let from = (in_range (span_first p) (span_count p) (span_first q) first).0 in
    let to = (in_range (span_first p) (span_count p) end last).1 in
    let wide : 512 ^ (p.level + 1) ≤ 512 ^ q.level = wider_level (p.level + 1) q.level (omega (arith, lt)) in
    let own : 0 < span_count p = span_pos p.level in
    omega (arith, from, to, wide, span_up p.level, some, own)

module _ (zone : Zone) (a b : BookData) (v w : View) (is : IsConsistent (state_of a)) (is_b : IsConsistent (state_of b)) (same : HasLevelsOf a v) (same_b : HasLevelsOf b v) (agree : HeldAgree a v) (shows : ShowsCover v.layout zone v)
    (removes : Removes zone (state_of a) (state_of b)) (leaves : Leaves (state_of b) v w) where
  abbrev pub now : State
  now = state_of b

  same_now : levels now ≡ v.layout.levels
  same_now = has_levels b ∙ sym same_b

  own_levels : w.layout.levels ≡ v.layout.levels
  own_levels = ap (λ (k : Layout). k.levels) leaves.layout

  still : (h : KnownRow (List Cell)) → Contains v.rows h → IsTableOf now h.place → IsHeldAt w h.place
  still h held table = let k = leaves.left h held table in (k.0, k.1, k.2, k.4)

  -- where the pass holds the top, what is removed is not outside its region
  has_region : (top : KnownRow (List Cell)) → Contains v.rows top → IsTableOf now top.place → (s n : ℕ) → ZoneHas zone s n → has_page top.place s n ≡ true → (region w).has s n
  has_region top held table s n of_zone has = ((top.place, still top held table, has), λ p b. go p b (has_page p s n) refl)
    where
      held_below : (p : Place) → (b : IsBelow w p) → has_page p s n ≡ true → ⊥
      held_below p b is_in =
          let old = leaves.came b.linker b.index b.held b.inside b.link in
          let place : entry_place v.layout.levels old.0.place b.index ≡ p =
          ap (λ (x : Place). entry_place v.layout.levels x b.index) old.2 ∙ ap (λ n. entry_place n b.linker.place b.index) (sym own_levels) ∙ sym b.place in
          let at = shows.covers.links old.0 old.1 b.index b.inside (ap is_link old.3 ∙ b.link)
          (record { space = s; page = n; of_zone = of_zone; of_span = ap (λ (x : Place). has_page x s n) place ∙ is_in }) in
          let there = leaves.links b.linker b.index b.held b.inside b.link in
          let k = leaves.left at.known at.held (inr (ap (set.contains now.tables) (at.same_place ∙ place ∙ b.place ∙ ap (λ n. below n b.linker.place b.index) (own_levels ∙ sym same_now)) ∙ there)) in
          b.child_held (subst (Has w.core.held) (k.3 ∙ at.same_row ∙ ap link_row old.3) (subst (λ rs. Has rs k.0.row) leaves.held (has_row w.rows k.0 k.1)))

      go : (p : Place) → IsBelow w p → (t : Bool) → has_page p s n ≡ t → has_page p s n ≡ false
      go p b false e = e
      go p b true e = absurd (held_below p b e)

  -- no row that is held lies below a position that is removed
  none_below : (p q : Place) → IsRemoved (state_of a) now p → IsHeldAt w q → Covers p q → ⊥
  none_below p q removed at covers_it = go (leaves.only at.0 at.1)
    where
      depth : (1 ≤ p.level) × (p.level ≤ levels (state_of a))
      depth = level_of (levels (state_of a)) p (is.places p removed.0)

      low : p.level < 6
      low = omega (arith, depth.1, is.few_levels)

      over : Covers p at.0.place
      over = λ s n h. covers_it s n (subst (λ x. has_page x s n ≡ true) at.3 h)

      go : IsTableOf now at.0.place → ⊥
      go (inl top) =
          let one = (page_parts p (p.space + 1) 0 low (over (p.space + 1) 0 (ap (λ x. has_page x (p.space + 1) 0) top))).0 in
          omega (arith, one)
      go (inr there) =
          let q_depth = level_of (levels now) at.0.place (is_b.places at.0.place there) in
          let q_low : at.0.place.level < 6 = omega (arith, q_depth.1, is_b.few_levels) in
          let s : ℕ = at.0.place.space in
          let n : ℕ = span_first at.0.place in
          let has = first_page at.0.place q_low in
          let same_q = table_above at.0.place s n q_low has in
          let same_p = table_above p s n low (over s n has) in
          elim (or_less at.0.place.level p.level) [
            | inl le ↦
                let m = further at.0.place.level p.level le in
                let up = closed_up now is_b s at.0.place.level n m.0 (subst (λ k. k ≤ levels now) (sym m.1) (subst (λ k. p.level ≤ k) (has_levels a ∙ sym same ∙ sym same_now) depth.1)) (subst (λ x. set.contains now.tables x ≡ true) same_q there) in
                true≢false (sym (ap (set.contains now.tables) (same_p ∙ ap (λ k. place_of s k n) (sym m.1)) ∙ up) ∙ removed.1)
            | inr lt ↦ not_wider p at.0.place low q_low lt over
          ]

  top_stays : (p : Place) → IsTableOf (state_of a) p → Spans zone p → IsTableOf now p
  top_stays p (inl top) spans = inl top
  top_stays p (inr there) spans = go (set.contains now.tables p) refl
    where
      go : (t : Bool) → set.contains now.tables p ≡ t → IsTableOf now p
      go true e = inr e
      go false e = absurd (removes.no_top p (there, e) spans)

  -- where the pass holds a row that has each page of the zone
  confined : (top : KnownRow (List Cell)) → Contains v.rows top → IsTableOf now top.place → ((s n : ℕ) → ZoneHas zone s n → has_page top.place s n ≡ true) → Confines zone (region w) a b
  confined top held table has_all = record {
    kept = λ p in_cover table_p.
        let at = cover_is_held zone a v is same agree shows p in_cover in
        subst (IsHeldAt w) at.3 (still at.0 at.1 (subst (IsTableOf now) (sym at.3) table_p));
    gone = λ p there lost untouched.
        let m = removes.meets p (there, lost) in
        elim untouched.1 [
          | inl outside ↦ outside m.space m.page m.of_span (has_region top held table m.space m.page m.of_zone (has_all m.space m.page m.of_zone))
          | inr under ↦ none_below p under.0 (there, lost) under.1 under.2
        ];
  }

pub leaves_cover : LeavesCover
leaves_cover (Pages t f c strict) a b v w is is_b same same_b agree shows removes leaves =
    let top = shows.covers.top in
    let spans = shows.covers.is_top.0 in
    confined _ a b v w is is_b same same_b agree shows removes leaves top shows.covers.held
    (top_stays _ a b v w is is_b same same_b agree shows removes leaves top.place (agree top shows.covers.held).1.shown.table spans) spans.all
leaves_cover (Space t) a b v w is is_b same same_b agree shows removes leaves =
    let top = shows.covers.is_top.1 in
    confined _ a b v w is is_b same same_b agree shows removes leaves shows.covers.top shows.covers.held (inl top) (λ s n h. ap (λ x. has_page x s n) top)
leaves_cover Directory a b v w is is_b same same_b agree shows removes leaves =
    let top = shows.covers.is_top.1 in
    confined _ a b v w is is_b same same_b agree shows removes leaves shows.covers.top shows.covers.held (inl top) (λ s n h. absurd h)
