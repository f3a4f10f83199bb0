-- What the rows of a transaction tell of a page.
use Rattle.std.proofs.Common.{◌≡◌, ℕ, ◌+◌, ◌/◌, ◌<◌, ◌≤◌, Bool, true, false, cond, List, Option, Some, None, sym, refl, ap, ◌∙◌, subst, inl, inr, arith}
use Rattle.std.specs.Option.{option_map}
use Rattle.std.specs.FinMap as map
use Rattle.std.specs.List.{Contains}
use Rattle.std.proofs.lemmas.Bool.{and_from, le-leb, lt-ltb, false≢true}
use Rattle.std.proofs.lemmas.Option.{same_Some}
use Rattle.corten_base.specs.Pages.{PageRange}
use Rattle.corten_base.specs.declared.numbers.Limits.{Limits}
use Rattle.corten_base.specs.declared.numbers.Status.{Status}
use Rattle.page_map.specs.Cell.{status_of, AddressSpace}
use Rattle.page_map.specs.State.{State, IsConsistent, levels, is_present, cell_at}
use Rattle.row_layout.specs.declared.places.Layout.{Layout}
use Rattle.row_table.specs.Books.{Learns, turned}
use Rattle.row_table.specs.Passes.{TableModel, view_of}
use Rattle.table_place.specs.declared.Place.{Place}
use Rattle.table_place.specs.Place.{is_page_range, pages_of}
use Rattle.table_place.specs.Range.{within}
use Rattle.table_place.proofs.Entries.{page_parts}
use Rattle.tree_lock.specs.Zone.{IsMet}
use Rattle.machine_plan.specs.Agrees.{Shown}
use Rattle.machine_plan.specs.Books.{BookData, state_of}
use Rattle.machine_plan.specs.Cover.{View, HasCover, HasLevelsOf}
use Rattle.machine_plan.specs.Follows.{machine}
use Rattle.machine_plan.specs.Held.{HeldWith, ListHolds}
use Rattle.machine_plan.specs.HeldRows.{Row, RowsShown, AreOf, IsAsked, Answers}
use Rattle.machine_plan.specs.Whole.{IsBook}
use Rattle.machine_plan.proofs.Holding.{turn_agrees, list_is_cover}
use Rattle.machine_plan.proofs.Levels.{has_levels}
use Rattle.machine_plan.proofs.Whole.{book_is_consistent}
use Rattle.range_cursor.specs.PageRanges.{SeesRange}
use Rattle.range_cursor.specs.Reach.{KnowsRoot}
use Rattle.range_cursor.proofs.Asking.{knows_root, range_asked}
use Rattle.mm_txn.specs.Fit.{IsFit}
use Rattle.mm_txn.specs.Looking.{status_in}
use Rattle.mm_txn.proofs.Ending.{origin_known}
use Rattle.mm_txn.proofs.Opening.{layout_known}
use Rattle.mm_txn.specs.Txns.{HeldRange, Holds, range_of, range_zone, IsCover, IsOpen}

-- A page of a state

pub status_none : (st : State) (space page : ℕ) → is_present st space ≡ false → None ≡ status_in st space page
status_none st space page absent = go (map.get st.spaces space) refl
  where
    go : (o : Option AddressSpace) → map.get st.spaces space ≡ o → None ≡ option_map (λ (cells : AddressSpace). status_of (map.get cells page)) o
    go None e = refl
    go (Some cells) e = absurd (false≢true (sym absent ∙ ap (λ (x : Option AddressSpace). Rattle.std.specs.Prelude.is_some x) e))

pub status_some : (st : State) (space page : ℕ) → is_present st space ≡ true → Some (status_of (cell_at st space page)) ≡ status_in st space page
status_some st space page there = go (map.get st.spaces space) refl
  where
    go : (o : Option AddressSpace) → map.get st.spaces space ≡ o
        → Some (status_of (map.get (Rattle.std.specs.Option.unwrap_or o map.empty) page)) ≡ option_map (λ (cells : AddressSpace). status_of (map.get cells page)) o
    go None e = absurd (false≢true (sym (ap (λ (x : Option AddressSpace). Rattle.std.specs.Prelude.is_some x) e) ∙ there))
    go (Some cells) e = refl

-- The pages of a transaction

pub range_parts : (levels at len : ℕ) (r : PageRange) → range_of levels at len ≡ Some r → (is_page_range levels at len ≡ true) × (record { first = at / 4096; count = pages_of len } ≡ r)
range_parts levels at len r some = go (is_page_range levels at len) refl some
  where
    go : (b : Bool) → is_page_range levels at len ≡ b → cond b (Some (record { first = at / 4096; count = pages_of len })) None ≡ Some r → (is_page_range levels at len ≡ true) × (record { first = at / 4096; count = pages_of len } ≡ r)
    go true e h = (e, same_Some _ _ h)
    go false e h = absurd (none_some h)
      where
        none_some : ◌≡◌ {A = Option PageRange} None (Some r) → ⊥
        none_some x = cc x

module _ (x : HeldRange) (opened : IsOpen x) (greatest : Limits) (files : ℕ) (fit : IsFit x.machine.table greatest files) (first : BookData) (at_start : x.machine.table.origin ≡ Some first)
    (r : PageRange) (some : x.range ≡ Some r) (b : BookData) (is : IsBook b) (learns : Learns machine x.machine.table.layout.rows (view_of x.pass) b) where
  abbrev v : View
  v = view_of x.pass

  abbrev rows : List Row
  rows = x.list.rows

  abbrev depth : ℕ
  depth = x.machine.table.layout.levels

  covered : IsCover x.space r v rows
  covered = subst (λ o. Holds x.space o v rows) some opened.holds

  right : (is_page_range depth x.at x.len ≡ true) × (record { first = x.at / 4096; count = pages_of x.len } ≡ r)
  right = range_parts depth x.at x.len r (sym opened.pages ∙ some)

  consistent : IsConsistent (state_of b)
  consistent = book_is_consistent b is

  same_layout : v.layout ≡ x.machine.table.layout
  same_layout = layout_known x.pass ∙ ap (λ (t : TableModel BookData). t.layout) opened.member

  book_levels : b.limits.levels ≡ depth
  book_levels = ap (λ (l : Limits). l.levels) (learns.fixed first (origin_known x.pass ∙ ap (λ (t : TableModel BookData). t.origin) opened.member ∙ at_start)).limits ∙ fit.book_levels first at_start

  same_levels : HasLevelsOf b v
  same_levels = ap (λ (k : Layout). k.levels) same_layout ∙ sym book_levels

  shown : RowsShown (state_of b) rows
  shown y has =
      let held : HeldWith b (turned machine v b) rows = turn_agrees x.machine.table.layout.rows v rows b covered.shows.in_tree covered.listed learns in
      let k = held.each y has in subst (λ (p : Place). Shown (state_of b) p y.content) k.same_place k.agrees.shown

  of_space : AreOf x.space rows
  of_space y has low = let l = covered.listed.each y has in go l.known.place (sym l.same_place) (covered.shows.covers.each l.known l.held).met
    where
      go : (p : Place) → y.place ≡ p → IsMet v.layout.levels (range_zone x.space r) p → y.place.space ≡ x.space
      go p same (inl e) = absurd (omega (arith, low, ap (λ (q : Place). q.level) (same ∙ e)))
      go p same (inr m) = ap (λ (q : Place). q.space) same ∙ ((page_parts p m.1.space m.1.page (omega (arith, low, ap (λ (q : Place). q.level) same)) m.1.of_span).0 ∙ m.1.of_zone.0)

  sees : SeesRange (state_of b) depth x.space x.at x.len false rows
  sees = record {
    consistent = consistent;
    same_levels = has_levels b ∙ book_levels;
    shown = shown;
    cover = λ _. subst (λ (q : PageRange). HasCover (range_zone x.space q) (state_of b) (ListHolds rows)) (sym right.1) (list_is_cover (range_zone x.space r) x.machine.table.layout.rows v rows b consistent same_levels covered.shows covered.listed learns).1;
    one_space = of_space;
  }

  pub knows : KnowsRoot (state_of b) x.space rows
  knows = knows_root (state_of b) depth x.space x.at x.len false rows sees right.0 covered.shows.is_zone.0

  pub asked : is_present (state_of b) x.space ≡ true → (page : ℕ) → r.first ≤ page → page < r.first + r.count → IsAsked x.space rows page
  asked there page low high = range_asked (state_of b) depth x.space x.at x.len false rows sees right.0 there page
      (subst (λ (q : PageRange). within q.first q.count page ≡ true) (sym right.1) (and_from _ _ (le-leb r.first page low) (lt-ltb page (r.first + r.count) high)))

  -- the answer, by whether the space is there
  pub told_none : (page : ℕ) (p : Bool) → ((st : State) → KnowsRoot st x.space rows → p ≡ is_present st x.space) → p ≡ false → None ≡ status_in (state_of b) x.space page
  told_none page p says absent = status_none (state_of b) x.space page (sym (says (state_of b) knows) ∙ absent)

  pub told_some : (page : ℕ) (p : Bool) (answer : Status) → ((st : State) → KnowsRoot st x.space rows → p ≡ is_present st x.space) → p ≡ true → Answers rows page answer → r.first ≤ page → page < r.first + r.count → Some answer ≡ status_in (state_of b) x.space page
  told_some page p answer says there answers low high =
      let present : is_present (state_of b) x.space ≡ true = sym (says (state_of b) knows) ∙ there in
      ap (λ (s : Status). Some s) (answers x.space (state_of b) (asked present page low high) shown) ∙ status_some (state_of b) x.space page present
