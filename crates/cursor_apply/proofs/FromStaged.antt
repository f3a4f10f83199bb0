-- The rows between, after all granted rows were linked, are those of the state between.
--     staged_base
use Rattle.std.specs.Prelude.{◌≡◌, ◌≢◌, ℕ, ◌+◌, ◌-◌, ◌*◌, ◌^◌, ◌<◌, ◌≤◌, ◌⊎◌, ◌&&◌, Bool, true, false, cond, nat_eq, is_none, List, length, slice_get, slice_index, Option, Some, None}
use Rattle.std.specs.Option.{option_map}
use Rattle.std.specs.List.{Contains}
use Rattle.std.specs.FinSet as set
use Rattle.std.specs.FinSet.{FinSet}
use Rattle.std.proofs.Common.{sym, refl, ◌∙◌, ap, subst, arith, inl, inr, mul-one, eq-eqb}
use Rattle.std.proofs.lemmas.Bool.{true≢false, false≢true, cases_lt, and_parts, and_from, eqb-true}
use mathlib.Core.Logic.{dite}
use native.Mathlib.Decide.{ℕ_discrete}
use Rattle.corten_base.specs.declared.permissions.Perm.{Perm}
use Rattle.corten_base.specs.declared.calls.Backing.{Backing}
use Rattle.corten_base.specs.declared.calls.Backing.TheVariants as backing
use Rattle.corten_base.specs.declared.calls.Call.{Call}
use Rattle.page_map.specs.declared.cell.Cell.{Cell as PageCell}
use Rattle.page_map.specs.declared.cell.Cell.TheVariants as page
use Rattle.page_map.specs.Cell.{frame_of, slot_of, backed, goes_on, index_of}
use Rattle.page_map.specs.State.{State, IsConsistent, levels, cell_at, frame_owners, slot_owners}
use Rattle.page_map.proofs.Alike.{has_no_number}
use Rattle.row_cells.specs.declared.Cell.{Cell}
use Rattle.row_cells.specs.declared.Cell.TheVariants.{Invalid, Table, Anon, File, Mapped, Swapped}
use Rattle.row_table.specs.declared.view.PassView.{PassView}
use Rattle.table_place.specs.declared.Place.{Place}
use Rattle.table_place.specs.Place.{root, directory, place_of, has_page, span_first, span_count, place_cmp}
use Rattle.table_place.proofs.Entries.{below_is, level_of, page_parts}
use Rattle.tree_lock.specs.Release.{HoldsExactly}
use Rattle.walk_core.specs.Words.{is_link}
use Rattle.machine_plan.specs.declared.kit.Kit.{Kit}
use Rattle.machine_plan.specs.Agrees.{below, EachPage, HasBytes, IsLeafOf, IsNoTable, IsTableOf, Shows, Spells}
use Rattle.machine_plan.specs.Books.{BookData, state_of}
use Rattle.machine_plan.specs.Given.{IsRemoved}
use Rattle.machine_plan.specs.HeldRows.{Row, AreOf, is_table}
use Rattle.machine_plan.specs.Kits.{IsUsed, KeepsOthers}
use Rattle.machine_plan.specs.Local.{CountsAre}
use Rattle.machine_plan.specs.Uses.{uses_page}
use Rattle.machine_plan.proofs.Covering.{further}
use Rattle.machine_plan.proofs.Following.{sole_stays, spare_stays}
use Rattle.machine_plan.proofs.Near.{page_up}
use Rattle.machine_plan.proofs.Pages.{own_page}
use Rattle.machine_plan.proofs.Towers.{closed_up, table_above}
use Rattle.cursor_detach.specs.Left.{came_from, drawn_cell, is_taken}
use Rattle.cursor_apply.specs.Between.{IsBetween}
use Rattle.cursor_apply.specs.Changed.{IsLow, IsEntryOf, IsRowOf, IsBase}
use Rattle.cursor_apply.specs.Changing.{IsSmall}
use Rattle.cursor_apply.specs.Staging.{with_tables, IsStaged, IsStagedCell, AreStaged}
use Rattle.cursor_apply.specs.declared.becoming.Making.TheVariants.{GiveBack}
use Rattle.cursor_apply.proofs.Between.{drawn, drawn_plain}
use Rattle.cursor_apply.proofs.Marks.{in_span, no_table_there, shows_same}
use Rattle.cursor_apply.proofs.RowMade.{made_kept, made_low}
use Rattle.cursor_apply.proofs.Words.{made_small, made_no_table, spelled_no_link}

-- what stands at a page whose reference was taken, where the cell shows what it came from
module _ (old st : State) (q : Place) (zero : q.level ≡ 0) (none : IsNoTable st q) (seen : (s p : ℕ) → has_page q s p ≡ true → cell_at st s p ≡ drawn (cell_at old s p)) where
  one_page : span_count q ≡ 1
  one_page = ap (λ k. 512 ^ k) zero

  came : (perm : Perm) (origin : Backing) → index_of origin < 2 ^ 64 → ((s p : ℕ) → has_page q s p ≡ true → cell_at st s p ≡ Some (backed origin perm 0)) → Shows st q (came_from origin perm)
  came perm backing.Zero small each = (none, each)
  came perm (backing.File file index) small each = (
    none,
    λ s p has.
        let at = in_span q s p (omega (arith, zero)) has in
        let one = one_page in
        let same : index + 0 ≡ index + (p - span_first q) = (let a = at.1 in let h = at.2 in omega arith) in
        each s p has ∙ ap (λ n. Some (page.File perm file n)) same,
    let one = one_page in omega arith,
  )

  drawn_shows : (cell : Cell) → is_table cell ≡ false → IsLow cell → Shows old q cell → Shows st q (drawn_cell cell)
  drawn_shows Invalid plain low shows = (none, λ s p has. seen s p has ∙ ap drawn (shows.1 s p has))
  drawn_shows Table plain low shows = absurd (true≢false plain)
  drawn_shows (Anon perm) plain low shows = (none, λ s p has. seen s p has ∙ ap drawn (shows.1 s p has))
  drawn_shows (File perm file index) plain low shows = (
    none,
    λ s p has. seen s p has ∙ (ap drawn (shows.1 s p has) ∙ drawn_plain (Some (page.File perm file (index + (p - span_first q)))) refl),
    shows.2,
  )
  drawn_shows (Mapped perm origin frame) plain low shows = came perm origin low (λ s p has. seen s p has ∙ ap drawn (shows.2 s p has))
  drawn_shows (Swapped perm origin slot) plain low shows = came perm origin low (λ s p has. seen s p has ∙ ap drawn (shows.2 s p has))

-- pages below a mark have no numbers
plain_page : (st : State) (q : Place) (cell : Cell) → 1 ≤ q.level → is_table cell ≡ false → Shows st q cell → (s p : ℕ) → has_page q s p ≡ true → has_no_number (cell_at st s p) ≡ true
plain_page st q Invalid high none shows s p has = ap has_no_number (shows.1 s p has)
plain_page st q Table high none shows s p has = absurd (true≢false none)
plain_page st q (Anon perm) high none shows s p has = ap has_no_number (shows.1 s p has)
plain_page st q (File perm file index) high none shows s p has = ap has_no_number (shows.1 s p has)
plain_page st q (Mapped perm origin frame) high none shows s p has = absurd (let zero = shows.1 in omega arith)
plain_page st q (Swapped perm origin slot) high none shows s p has = absurd (let zero = shows.1 in omega arith)

module _ (a b : BookData) (thread : ℕ) (c : Call) (kit : Kit) (space : ℕ) (st : State) (was : IsConsistent (state_of a)) (new : IsConsistent (state_of b)) (same : levels (state_of b) ≡ levels (state_of a))
    (early : is_none kit.early ≡ true) (few : (state_of a).limits.frames ≤ 4096) (between : IsBetween (state_of a) (state_of b) st space (uses_page (state_of a) thread c space))
    (others : (s p : ℕ) → s ≢ space → cell_at (state_of b) s p ≡ cell_at (state_of a) s p) (gone_space : (p : Place) → IsRemoved (state_of a) (state_of b) p → p.space ≡ space)
    (before : CountsAre a) (after : CountsAre b) (frames : KeepsOthers a.frames b.frames (IsUsed (state_of a) thread c frame_of)) (slots : KeepsOthers a.slots b.slots (IsUsed (state_of a) thread c slot_of)) where
  abbrev old : State
  old = state_of a

  abbrev taken : ℕ → Bool
  taken = uses_page (state_of a) thread c space

  abbrev mid : State
  mid = with_tables (state_of a) (state_of b).tables

  shown_small : (q : Place) (cell : Cell) → Shows mid q cell → IsSmall cell
  shown_small q Invalid shows = tt
  shown_small q Table shows = tt
  shown_small q (Anon perm) shows = tt
  shown_small q (File perm file index) shows = tt
  shown_small q (Mapped perm origin frame) shows = let less = was.frames q.space q.prefix frame.number (page.Mapped perm origin frame.number frame.body.bytes) (shows.2 q.space q.prefix (own_page q shows.1)) refl in omega arith
  shown_small q (Swapped perm origin slot) shows = tt

  shown_low : (q : Place) (cell : Cell) → Shows mid q cell → IsLow cell
  shown_low q Invalid shows = tt
  shown_low q Table shows = tt
  shown_low q (Anon perm) shows = tt
  shown_low q (File perm file index) shows = tt
  shown_low q (Mapped perm origin frame) shows = let less = was.indexes q.space q.prefix (page.Mapped perm origin frame.number frame.body.bytes) (shows.2 q.space q.prefix (own_page q shows.1)) in omega arith
  shown_low q (Swapped perm origin slot) shows = let less = was.indexes q.space q.prefix (page.Swapped perm origin slot.number slot.body.bytes) (shows.2 q.space q.prefix (own_page q shows.1)) in omega arith

  -- a page that the call does not use keeps its word and its spare
  module _ (q : Place) (free : q.level ≡ 0 → uses_page (state_of a) thread c q.space q.prefix ≡ false) where
    spells_on : (cell : Cell) (word : ℕ) → Shows mid q cell → Spells old cell word → Spells (state_of b) cell word
    spells_on Invalid word shows s = s
    spells_on Table word shows s = s
    spells_on (Anon perm) word shows s = s
    spells_on (File perm file index) word shows s = s
    spells_on (Swapped perm origin slot) word shows s = s
    spells_on (Mapped perm origin frame) word shows s = record {
      unread = s.unread;
      read = λ r. let g = s.read r in (
        g.0,
        g.1,
        λ write. let two = g.2 write in (
          two.0,
          sole_stays frame_of a b thread c a.frames b.frames before.frames frames q.space q.prefix (free shows.1) (page.Mapped perm origin frame.number frame.body.bytes) frame.number (shows.2 q.space q.prefix (own_page q shows.1)) refl after.frames two.1,
        ),
      );
    }

    bytes_on : (cell : Cell) → Shows mid q cell → HasBytes a cell → HasBytes b cell
    bytes_on Invalid shows k = tt
    bytes_on Table shows k = tt
    bytes_on (Anon perm) shows k = tt
    bytes_on (File perm file index) shows k = tt
    bytes_on (Mapped perm origin frame) shows k = λ shared.
        spare_stays frame_of a b thread c a.frames b.frames before.frames frames q.space q.prefix (free shows.1) (page.Mapped perm origin frame.number frame.body.bytes) frame.number (shows.2 q.space q.prefix (own_page q shows.1)) refl (k shared)
    bytes_on (Swapped perm origin slot) shows k = λ shared.
        spare_stays slot_of a b thread c a.slots b.slots before.slots slots q.space q.prefix (free shows.1) (page.Swapped perm origin slot.number slot.body.bytes) slot.number (shows.2 q.space q.prefix (own_page q shows.1)) refl (k shared)

  -- ---- a row that is linked

  module _ (x : Row) (table : IsTableOf mid x.place) (x_space : x.place.level < 6 → x.place.space ≡ space) (index : ℕ) (inside : index < 512) where
    abbrev q : Place
    q = below (levels (state_of a)) x.place index

    few_levels : levels (state_of a) < 6
    few_levels = let most = was.few_levels in omega arith

    levels_of_table : (p : Place) → set.contains (state_of b).tables p ≡ true → (1 ≤ p.level) × (p.level ≤ levels (state_of a))
    levels_of_table p there = let d = level_of (levels (state_of b)) p (new.places p there) in (d.0, let e = d.1 in omega (arith, same))

    is_low : x.place.level < 6 ⊎ (x.place ≡ directory)
    is_low = go table
      where
        go : IsTableOf mid x.place → x.place.level < 6 ⊎ (x.place ≡ directory)
        go (inl top) = inr top
        go (inr there) = inl (let d = (levels_of_table x.place there).1 in let f = few_levels in omega arith)

    q_low : q.level < 6
    q_low = go is_low
      where
        go : x.place.level < 6 ⊎ (x.place ≡ directory) → q.level < 6
        go (inl low) = let e = ap (λ (p : Place). p.level) (below_is (levels (state_of a)) x.place index low) in omega arith
        go (inr top) = let e : q.level ≡ levels (state_of a) = ap (λ (p : Place). (below (levels (state_of a)) p index).level) top in let f = few_levels in omega arith

    none_mid : (cell : Cell) → is_table cell ≡ false → Shows mid q cell → IsNoTable (state_of b) q
    none_mid cell plain shows = no_table_there mid q cell plain shows

    none_st : IsNoTable (state_of b) q → IsNoTable st q
    none_st none = ap (λ (t : FinSet place_cmp). set.contains t q) between.same_tables ∙ none

    module _ (stays : ¬ IsRemoved (state_of a) (state_of b) q) (none : IsNoTable (state_of b) q) where
      none_was : set.contains (state_of a).tables q ≡ false
      none_was = go (set.contains (state_of a).tables q) refl
        where
          go : (t : Bool) → set.contains (state_of a).tables q ≡ t → t ≡ false
          go false e = refl
          go true e = absurd (stays (e, none))

      -- the span lies below no table that was removed
      none_above : (s n : ℕ) → has_page q s n ≡ true → (p : Place) → IsRemoved (state_of a) (state_of b) p → has_page p s n ≡ true → ⊥
      none_above s n has p gone at = elim (cases_lt p.level q.level) [
        | inl lower ↦
            let k = further p.level q.level (omega (arith, lower)) in
            let there = closed_up (state_of a) was s p.level n k.0 (subst (λ m. m ≤ levels (state_of a)) (sym k.1) q_high) (subst (λ (y : Place). set.contains (state_of a).tables y ≡ true) same_p gone.0) in
            false≢true (sym none_was ∙ subst (λ (y : Place). set.contains (state_of a).tables y ≡ true) (ap (λ m. place_of s m n) k.1 ∙ sym same_q) there)
        | inr upper ↦ dite (ℕ_discrete p.level q.level)
            (λ e. let one : p ≡ q = same_p ∙ (ap (λ m. place_of s m n) e ∙ sym same_q) in stays (subst (IsRemoved (state_of a) (state_of b)) one gone))
            (λ ne. above_it is_low (more q.level p.level upper (λ e. ne (sym e))))
      ]
        where
          more : (i j : ℕ) → i ≤ j → (i ≡ j → ⊥) → i < j
          more i j le other = omega arith

          depth : p.level ≤ levels (state_of a)
          depth = (level_of (levels (state_of a)) p (was.places p gone.0)).1

          same_p : p ≡ place_of s p.level n
          same_p = table_above p s n (let d = depth in let f = few_levels in omega arith) at

          same_q : q ≡ place_of s q.level n
          same_q = table_above q s n q_low has

          q_high : q.level ≤ levels (state_of a)
          q_high = go is_low
            where
              go : x.place.level < 6 ⊎ (x.place ≡ directory) → q.level ≤ levels (state_of a)
              go (inl low) = by table
                where
                  by : IsTableOf mid x.place → q.level ≤ levels (state_of a)
                  by (inl top) = absurd (let e = ap (λ (y : Place). y.level) top in omega arith)
                  by (inr there) = let d = (levels_of_table x.place there).1 in let e = ap (λ (y : Place). y.level) (below_is (levels (state_of a)) x.place index low) in omega arith
              go (inr top) = let e : q.level ≡ levels (state_of a) = ap (λ (y : Place). (below (levels (state_of a)) y index).level) top in omega arith

          above_it : x.place.level < 6 ⊎ (x.place ≡ directory) → q.level < p.level → ⊥
          above_it (inr top) lt = let e : q.level ≡ levels (state_of a) = ap (λ (y : Place). (below (levels (state_of a)) y index).level) top in let d = depth in omega arith
          above_it (inl low) lt = by table
            where
              by : IsTableOf mid x.place → ⊥
              by (inl top) = let e = ap (λ (y : Place). y.level) top in omega arith
              by (inr there) =
                  let level = ap (λ (y : Place). y.level) (below_is (levels (state_of a)) x.place index low) in
                  let d = levels_of_table x.place there in
                  let k = further x.place.level p.level (let e = d.0 in omega (arith, level)) in
                  let has_x : has_page x.place s n ≡ true = page_up (levels (state_of a)) x.place index s n d.0 low inside has in
                  let same_x = table_above x.place s n low has_x in
                  let up = closed_up (state_of b) new s x.place.level n k.0 (subst (λ m. m ≤ levels (state_of b)) (sym k.1) (let g = depth in omega (arith, same))) (subst (λ (y : Place). set.contains (state_of b).tables y ≡ true) same_x there) in
                  false≢true (sym gone.1 ∙ subst (λ (y : Place). set.contains (state_of b).tables y ≡ true) (ap (λ m. place_of s m n) k.1 ∙ sym same_p) up)

      -- what stands at its pages then
      seen : (n : ℕ) → has_page q space n ≡ true → cell_at st space n ≡ cond (taken n) (drawn (cell_at (state_of a) space n)) (cell_at (state_of a) space n)
      seen n has = between.pages n (λ p gone at. none_above space n has p gone at)

      own_seen : (s n : ℕ) → has_page q s n ≡ true → (taken n ≡ true → s ≡ space → has_no_number (cell_at (state_of a) s n) ≡ true) → cell_at st s n ≡ cell_at (state_of a) s n
      own_seen s n has plain = dite (ℕ_discrete s space)
          (λ e. subst (λ t. cell_at st t n ≡ cell_at (state_of a) t n) (sym e) (seen n (subst (λ t. has_page q t n ≡ true) e has) ∙ go (taken n) refl e))
          (λ ne. between.others s n ne ∙ others s n ne)
        where
          go : (t : Bool) → taken n ≡ t → s ≡ space → cond t (drawn (cell_at (state_of a) space n)) (cell_at (state_of a) space n) ≡ cell_at (state_of a) space n
          go true f e = drawn_plain (cell_at (state_of a) space n) (subst (λ t. has_no_number (cell_at (state_of a) t n) ≡ true) e (plain f e))
          go false f e = refl

    -- ---- an entry of it

    module _ (word : ℕ) where
      -- where a link was cut
      cut_entry : IsRemoved (state_of a) (state_of b) q → (cell : Cell) → cell ≡ Invalid → word ≡ 0 → IsEntryOf b st taken q word cell
      cut_entry gone cell is none = subst (IsEntryOf b st taken q word) (sym is) (record {
        shows = (
          none_st gone.1,
          λ s p has. subst (λ t. cell_at st t p ≡ None) (sym (gone_space q gone) ∙ (page_parts q s p q_low has).0)
              (between.cut q p gone (subst (λ t. has_page q t p ≡ true) (sym (page_parts q s p q_low has).0 ∙ gone_space q gone) has)),
        );
        spells = inl none;
        kept = tt;
        small = tt;
        low = tt;
      })

      -- a page whose reference was taken
      taken_entry : ¬ IsRemoved (state_of a) (state_of b) q → q.level ≡ 0 → q.space ≡ space → taken q.prefix ≡ true → (cell : Cell) → is_table cell ≡ false → Shows mid q cell → Spells (state_of a) cell word → HasBytes a cell → IsEntryOf b st taken q word (drawn_cell cell)
      taken_entry stays zero of_space used cell plain shows spells bytes = record {
        shows = drawn_shows mid st q zero (none_st none) page_seen cell plain (shown_low q cell shows) shows;
        spells = inr (record { low = zero; old = used; no_link = spelled_no_link (state_of a) cell word plain (shown_small q cell shows) spells; no_table = made_no_table GiveBack 0 cell plain });
        kept = drawn_kept cell plain;
        small = made_small GiveBack 0 cell (shown_small q cell shows);
        low = made_low GiveBack 0 cell (shown_low q cell shows);
      }
        where
          none : IsNoTable (state_of b) q
          none = none_mid cell plain shows

          page_seen : (s p : ℕ) → has_page q s p ≡ true → cell_at st s p ≡ drawn (cell_at mid s p)
          page_seen s p has =
              let e : space ≡ s = sym of_space ∙ (page_parts q s p q_low has).0 in
              let at = in_span q s p q_low has in
              let one : span_count q ≡ 1 = ap (λ k. 512 ^ k) zero in
              let first : span_first q ≡ q.prefix = ap (λ n. q.prefix * n) one ∙ mul-one q.prefix in
              let same_page : p ≡ q.prefix = (let l = at.1 in let h = at.2 in omega arith) in
              subst (λ t. cell_at st t p ≡ drawn (cell_at (state_of a) t p)) e
              (seen stays none p (subst (λ t. has_page q t p ≡ true) (sym e) has) ∙ ap (λ t. cond t (drawn (cell_at (state_of a) space p)) (cell_at (state_of a) space p)) (ap taken same_page ∙ used))

          came_kept : (origin : Backing) (perm : Perm) → HasBytes b (came_from origin perm)
          came_kept backing.Zero perm = tt
          came_kept (backing.File file index) perm = tt

          drawn_kept : (cell : Cell) → is_table cell ≡ false → HasBytes b (drawn_cell cell)
          drawn_kept Invalid plain = tt
          drawn_kept Table plain = absurd (true≢false plain)
          drawn_kept (Anon perm) plain = tt
          drawn_kept (File perm file index) plain = tt
          drawn_kept (Mapped perm origin frame) plain = came_kept origin perm
          drawn_kept (Swapped perm origin slot) plain = came_kept origin perm

      -- any other
      other_entry : ¬ IsRemoved (state_of a) (state_of b) q → (q.level ≡ 0 → uses_page (state_of a) thread c q.space q.prefix ≡ false) → (cell : Cell) → Shows mid q cell → Spells (state_of a) cell word → HasBytes a cell → IsEntryOf b st taken q word cell
      other_entry stays free cell shows spells bytes = record {
        shows = shows_same mid st q between.same_tables cell (λ plain s p has. own_seen stays (none_mid cell plain shows) s p has (λ used here. unnumbered plain s p has used here)) shows;
        spells = inl (spells_on q free cell word shows spells);
        kept = bytes_on q free cell shows bytes;
        small = shown_small q cell shows;
        low = shown_low q cell shows;
      }
        where
          more : (n : ℕ) → (n ≡ 0 → ⊥) → 1 ≤ n
          more n ne = omega arith

          unnumbered : is_table cell ≡ false → (s p : ℕ) → has_page q s p ≡ true → taken p ≡ true → s ≡ space → has_no_number (cell_at (state_of a) s p) ≡ true
          unnumbered plain s p has used here = dite (ℕ_discrete q.level 0)
              (λ zero.
              let at = in_span q s p q_low has in
              let one : span_count q ≡ 1 = ap (λ k. 512 ^ k) zero in
              let first : span_first q ≡ q.prefix = ap (λ n. q.prefix * n) one ∙ mul-one q.prefix in
              let same_page : p ≡ q.prefix = (let l = at.1 in let h = at.2 in omega arith) in
              let not_used = subst (λ t. uses_page (state_of a) thread c t q.prefix ≡ false) (at.0 ∙ here) (free zero) in
              absurd (false≢true (sym not_used ∙ (ap taken (sym same_page) ∙ used))))
              (λ ne. plain_page mid q cell (more q.level ne) plain shows s p has)

  staged_entry : {B E : Type 0} (w : PassView (List Cell) B E) (x : Row) → IsStaged a b (state_of b).tables thread c kit w x → (x.place.level < 6 → x.place.space ≡ space) → IsRowOf b st taken w.rows x
  staged_entry w x s x_space = record {
    row = s.known;
    held = s.held;
    same_row = s.same_row;
    same_place = s.same_place;
    table = table_st s.table;
    whole = s.whole;
    entries = λ index cell inside at. subst (λ n. IsEntryOf b st taken (below n x.place index) (slice_index s.known.words index) cell) (sym (between.same_levels ∙ same)) (entry index cell inside at);
  }
    where
      table_st : IsTableOf mid x.place → IsTableOf st x.place
      table_st (inl top) = inl top
      table_st (inr there) = inr (ap (λ (t : FinSet place_cmp). set.contains t x.place) between.same_tables ∙ there)

      page_plain : (p : Place) → p.level ≡ 0 → (cell : Cell) → Shows mid p cell → is_table cell ≡ false
      page_plain p zero Table shows = absurd (let d = (level_of (levels (state_of b)) p (new.places p shows)).0 in omega arith)
      page_plain p zero Invalid shows = refl
      page_plain p zero (Anon perm) shows = refl
      page_plain p zero (File perm file index) shows = refl
      page_plain p zero (Mapped perm origin frame) shows = refl
      page_plain p zero (Swapped perm origin slot) shows = refl

      free : (index : ℕ) → is_taken (state_of a) thread c kit x.place index ≡ false → (below (levels (state_of a)) x.place index).level ≡ 0 → uses_page (state_of a) thread c (below (levels (state_of a)) x.place index).space (below (levels (state_of a)) x.place index).prefix ≡ false
      free index e zero = go s.table
        where
          go : IsTableOf mid x.place → uses_page (state_of a) thread c (below (levels (state_of a)) x.place index).space (below (levels (state_of a)) x.place index).prefix ≡ false
          go (inl top) = absurd (let l : (below (levels (state_of a)) x.place index).level ≡ levels (state_of a) = ap (λ (p : Place). (below (levels (state_of a)) p index).level) top in let some = was.some_levels in omega arith)
          go (inr there) =
              let d = level_of (levels (state_of b)) x.place (new.places x.place there) in
              let is_below = below_is (levels (state_of a)) x.place index (let f = new.few_levels in omega (arith, d.1)) in
              let level : x.place.level ≡ 1 = (let l : x.place.level - 1 ≡ 0 = ap (λ (p : Place). p.level) (sym is_below) ∙ zero in omega (arith, d.0)) in
              ap (λ (p : Place). uses_page (state_of a) thread c p.space p.prefix) is_below ∙ off (uses_page (state_of a) thread c x.place.space (512 * x.place.prefix + index)) level refl
            where
              off : (t : Bool) → x.place.level ≡ 1 → uses_page (state_of a) thread c x.place.space (512 * x.place.prefix + index) ≡ t → t ≡ false
              off false level f = refl
              off true level f = absurd (true≢false (sym (and_from (is_none kit.early) (nat_eq x.place.level 1 && uses_page (state_of a) thread c x.place.space (512 * x.place.prefix + index)) early
                  (and_from (nat_eq x.place.level 1) (uses_page (state_of a) thread c x.place.space (512 * x.place.prefix + index)) (eq-eqb x.place.level 1 level) f)) ∙ e))

      entry : (index : ℕ) (cell : Cell) → index < 512 → slice_get x.content index ≡ Some cell → IsEntryOf b st taken (below (levels (state_of a)) x.place index) (slice_index s.known.words index) cell
      entry index cell inside at = go (set.contains (state_of a).tables (below (levels (state_of a)) x.place index)) refl (set.contains (state_of b).tables (below (levels (state_of a)) x.place index)) refl
        where
          staged : ¬ IsRemoved (state_of a) (state_of b) (below (levels (state_of a)) x.place index) → IsEntryOf b st taken (below (levels (state_of a)) x.place index) (slice_index s.known.words index) cell
          staged stays = by (is_taken (state_of a) thread c kit x.place index) refl
            where
              sc : IsStagedCell a (state_of b).tables thread c kit x.place index (slice_index s.known.words index) cell
              sc = s.cells index cell inside stays at

              is : (t : Bool) → is_taken (state_of a) thread c kit x.place index ≡ t → cell ≡ cond t (drawn_cell sc.was) sc.was
              is t e = sc.is ∙ ap (λ u. cond u (drawn_cell sc.was) sc.was) e

              by : (t : Bool) → is_taken (state_of a) thread c kit x.place index ≡ t → IsEntryOf b st taken (below (levels (state_of a)) x.place index) (slice_index s.known.words index) cell
              by true e =
                  let one = and_parts (is_none kit.early) (nat_eq x.place.level 1 && uses_page (state_of a) thread c x.place.space (512 * x.place.prefix + index)) e in
                  let two = and_parts (nat_eq x.place.level 1) (uses_page (state_of a) thread c x.place.space (512 * x.place.prefix + index)) one.1 in
                  let level : x.place.level ≡ 1 = eqb-true x.place.level 1 two.0 in
                  let is_below = below_is (levels (state_of a)) x.place index (omega (arith, level)) in
                  let zero : (below (levels (state_of a)) x.place index).level ≡ 0 = ap (λ (p : Place). p.level) is_below ∙ omega (arith, level) in
                  let own = x_space (omega (arith, level)) in
                  let here : (below (levels (state_of a)) x.place index).space ≡ space = ap (λ (p : Place). p.space) is_below ∙ own in
                  let used : taken (below (levels (state_of a)) x.place index).prefix ≡ true = ap (λ (p : Place). taken p.prefix) is_below ∙ (ap (λ t. uses_page (state_of a) thread c t (512 * x.place.prefix + index)) (sym own) ∙ two.1) in
                  let plain = page_plain (below (levels (state_of a)) x.place index) zero sc.was sc.shows in
                  subst (IsEntryOf b st taken (below (levels (state_of a)) x.place index) (slice_index s.known.words index)) (sym (is true e)) (taken_entry x s.table x_space index inside (slice_index s.known.words index) stays zero here used sc.was plain sc.shows sc.spells sc.bytes)
              by false e = subst (IsEntryOf b st taken (below (levels (state_of a)) x.place index) (slice_index s.known.words index)) (sym (is false e))
                  (other_entry x s.table x_space index inside (slice_index s.known.words index) stays (free index e) sc.was sc.shows sc.spells sc.bytes)

          go : (t : Bool) → set.contains (state_of a).tables (below (levels (state_of a)) x.place index) ≡ t → (u : Bool) → set.contains (state_of b).tables (below (levels (state_of a)) x.place index) ≡ u → IsEntryOf b st taken (below (levels (state_of a)) x.place index) (slice_index s.known.words index) cell
          go true e false f =
              let cut = s.cut index inside (e, f) in
              let is : cell ≡ Invalid = (let both : Some cell ≡ Some Invalid = sym at ∙ cut.0 in cc) in
              cut_entry x s.table x_space index inside (slice_index s.known.words index) (e, f) cell is cut.1
          go false e u f = staged (λ r. true≢false (sym r.0 ∙ e))
          go true e true f = staged (λ r. true≢false (sym f ∙ r.1))

  pub staged_base : {B E : Type 0} (w : PassView (List Cell) B E) (rows : List Row) → HoldsExactly rows w.core.held w.rows → AreOf space rows → AreStaged a b (state_of b).tables thread c kit w rows → IsBase b st space taken w rows
  staged_base w rows exact of_space staged = record {
    exact = exact;
    of_space = of_space;
    linked = λ x has. (staged x has).linked;
    rows_of = λ x has. staged_entry w x (staged x has) (of_space x has);
  }
