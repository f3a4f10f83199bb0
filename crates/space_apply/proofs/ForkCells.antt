-- The entries of a copied space and of its copy, once all tables are linked and the marks are copied.
--     IsFork      what is known of a copy
--     old_entry, new_entry      an entry of a row that was there, and of a row of the copy
use Rattle.std.specs.Prelude.{◌≡◌, ◌≢◌, ℕ, ◌+◌, ◌-◌, ◌*◌, ◌<◌, ◌≤◌, Bool, true, false, cond, List, [], ◌++◌, Option, Some, None, is_some}
use Rattle.std.specs.List.{Contains}
use Rattle.std.specs.FinSet as set
use Rattle.std.proofs.Common.{sym, refl, ◌∙◌, ap, subst, arith, inl, inr}
use Rattle.std.proofs.lemmas.Bool.{true≢false, false_from_ne_true}
use Rattle.std.proofs.lemmas.List.{append-nil}
use Rattle.corten_base.specs.declared.permissions.Perm.{Perm}
use Rattle.corten_base.specs.declared.calls.Backing.{Backing}
use Rattle.corten_base.specs.declared.calls.Backing.TheVariants as backing
use Rattle.corten_base.specs.declared.calls.Call.{Call}
use Rattle.page_map.specs.declared.cell.Cell.{Cell as PageCell}
use Rattle.page_map.specs.declared.cell.Cell.TheVariants as page
use Rattle.page_map.specs.State.{State, IsConsistent, levels, cell_at}
use Rattle.page_map.proofs.Steps.{not_none}
use Rattle.walk_core.specs.Words.{is_link}
use Rattle.walk_core.proofs.Spellings.{zero_no_link}
use Rattle.row_cells.specs.declared.Cell.{Cell}
use Rattle.row_cells.specs.declared.Cell.TheVariants.{Invalid, Table, Anon, File, Mapped, Swapped}
use Rattle.table_place.specs.declared.Place.{Place}
use Rattle.table_place.specs.Place.{root, has_page, span_first}
use Rattle.table_place.proofs.Entries.{below_is, first_page, level_of, page_parts, page_from}
use Rattle.machine_plan.specs.declared.kit.Kit.{Kit}
use Rattle.machine_plan.specs.Agrees.{below, IsNoTable, IsTableOf, Shows, Spells}
use Rattle.machine_plan.specs.Books.{BookData, state_of}
use Rattle.machine_plan.specs.HeldRows.{Row}
use Rattle.machine_plan.proofs.Pages.{own_page}
use Rattle.machine_plan.proofs.Towers.{table_above}
use Rattle.cursor_detach.specs.Left.{came_from, drawn_cell, is_taken}
use Rattle.space_apply.specs.Copying.{CopiesTables, copy_at}
use Rattle.space_apply.specs.Marking.{copied}
use Rattle.cursor_apply.specs.Putting.{pages_of}
use Rattle.cursor_apply.specs.Sharing.{IsSharingCell}
use Rattle.cursor_apply.specs.Staging.{with_tables, IsStagedCell}
use Rattle.space_apply.proofs.ForkLists.{ForkLists}
use Rattle.cursor_apply.proofs.Marks.{no_table_there, shows_same}
use Rattle.cursor_apply.proofs.Writing.{leaf_is_no_link}

pub record IsFork (a b : BookData) (thread : ℕ) (c : Call) (kit : Kit) (rows : List Row) (space new : ℕ) : Type 0 where
  pub before : IsConsistent (state_of a)
  pub after : IsConsistent (state_of b)
  pub same_levels : levels (state_of b) ≡ levels (state_of a)
  pub few : (state_of a).limits.frames ≤ 4096
  pub tables : CopiesTables a b rows space new
  pub back : (q : Place) → set.contains (state_of b).tables q ≡ true → q.space ≡ new → set.contains (state_of a).tables (copy_at space q) ≡ true
  pub top : set.contains (state_of b).tables (root (levels (state_of a)) new) ≡ true
  pub new_cell : (p : ℕ) → cell_at (state_of b) new p ≡ cell_at (state_of a) space p
  pub old_cell : (s p : ℕ) → s ≢ new → cell_at (state_of b) s p ≡ cell_at (state_of a) s p
  pub gone_cell : (p : ℕ) → cell_at (state_of a) new p ≡ None
  pub lists : ForkLists b space new kit
  pub two : space ≢ new
  pub taken : (x : Place) (index : ℕ) → x.level ≡ 1 → x.space ≡ space → is_taken (state_of a) thread c kit x index ≡ true

same_either : (t : Bool) (x : Cell) → cond t x x ≡ x
same_either true x = refl
same_either false x = refl

copied_came : (origin : Backing) (perm : Perm) (o : Cell) → copied (came_from origin perm) o ≡ came_from origin perm
copied_came backing.Zero perm o = refl
copied_came (backing.File file index) perm o = refl

module _ (a b : BookData) (thread : ℕ) (c : Call) (kit : Kit) (rows : List Row) (space new : ℕ) (is : IsFork a b thread c kit rows space new) where
  abbrev L : ℕ
  L = levels (state_of a)

  abbrev mid : State
  mid = with_tables (state_of a) (state_of b).tables

  few_levels : levels (state_of a) < 6
  few_levels = let m = is.before.few_levels in omega arith

  abbrev Said : Place → ℕ → Cell → Type 0
  Said q word cell = IsSharingCell b space (pages_of kit.own_frames.items ++ []) (new, pages_of kit.frames.items) q word cell

  low_table : (x : Place) → set.contains (state_of b).tables x ≡ true → (1 ≤ x.level) × (x.level < 6)
  low_table x there = let d = level_of (levels (state_of b)) x (is.after.places x there) in let f = few_levels in let s = is.same_levels in (d.0, let e = d.1 in omega (arith, e, f, s))

  -- ---- a row that was there

  module _ (x : Place) (table : IsTableOf (state_of b) x) (own : x.level < 6 → x.space ≡ space) (index : ℕ) (inside : index < 512) (word : ℕ) (cell : Cell) (sc : IsStagedCell a (state_of b).tables thread c kit x index word cell) where
    abbrev q : Place
    q = below (levels (state_of a)) x index

    same_pages : IsNoTable (state_of b) (below (levels (state_of a)) x index) → (s p : ℕ) → has_page (below (levels (state_of a)) x index) s p ≡ true → cell_at (state_of b) s p ≡ cell_at (state_of a) s p
    same_pages lone s p has = go table
      where
        go : IsTableOf (state_of b) x → cell_at (state_of b) s p ≡ cell_at (state_of a) s p
        go (inl top) =
            let has' : has_page (root (levels (state_of a)) index) s p ≡ true = subst (λ r. has_page (below (levels (state_of a)) r index) s p ≡ true) top has in
            let at : index ≡ s = (page_parts (root (levels (state_of a)) index) s p few_levels has').0 in
            is.old_cell s p (λ e. true≢false (sym is.top ∙ (ap (λ n. set.contains (state_of b).tables (root (levels (state_of a)) n)) (sym (at ∙ e)) ∙ subst (λ r. IsNoTable (state_of b) (below (levels (state_of a)) r index)) top lone)))
        go (inr there) =
            let low = low_table x there in
            let form = below_is (levels (state_of a)) x index low.1 in
            let at = (page_parts (below (levels (state_of a)) x index) s p (let e = ap (λ (r : Place). r.level) form in let l = low.1 in omega (arith, e, l)) has).0 in
            is.old_cell s p (λ e. is.two (sym (own low.1) ∙ (sym (ap (λ (r : Place). r.space) form) ∙ (at ∙ e))))

    shows_now : Shows (state_of b) (below (levels (state_of a)) x index) sc.was
    shows_now = shows_same (with_tables (state_of a) (state_of b).tables) (state_of b) (below (levels (state_of a)) x index) refl sc.was
        (λ plain s p has. same_pages (no_table_there (with_tables (state_of a) (state_of b).tables) (below (levels (state_of a)) x index) sc.was plain sc.shows) s p has) sc.shows

    -- a page is below a table of level 1 of the source
    page_of_source : (below (levels (state_of a)) x index).level ≡ 0 → (x.level ≡ 1) × (x.space ≡ space) × ((below (levels (state_of a)) x index).space ≡ space)
    page_of_source zero = go table
      where
        go : IsTableOf (state_of b) x → (x.level ≡ 1) × (x.space ≡ space) × ((below (levels (state_of a)) x index).space ≡ space)
        go (inl top) = absurd (let e : levels (state_of a) ≡ 0 = ap (λ (r : Place). (below (levels (state_of a)) r index).level) (sym top) ∙ zero in let some = is.before.some_levels in omega (arith, e, some))
        go (inr there) =
            let low = low_table x there in
            let form = below_is (levels (state_of a)) x index low.1 in
            let level : x.level - 1 ≡ 0 = ap (λ (r : Place). r.level) (sym form) ∙ zero in
            ((let l = low.0 in omega (arith, l, level)), own low.1, ap (λ (r : Place). r.space) form ∙ own low.1)

    said : (was : Cell) → Shows (state_of b) (below (levels (state_of a)) x index) was → Shows (with_tables (state_of a) (state_of b).tables) (below (levels (state_of a)) x index) was → Spells (state_of a) was word → cell ≡ cond (is_taken (state_of a) thread c kit x index) (drawn_cell was) was
        → Said (below (levels (state_of a)) x index) word cell
    said Invalid now then spells from = record { was = Invalid; shows = now; is = inl (from ∙ same_either (is_taken (state_of a) thread c kit x index) Invalid, tt); spells = inl spells }
    said Table now then spells from = record { was = Table; shows = now; is = inl (from ∙ same_either (is_taken (state_of a) thread c kit x index) Table, tt); spells = inl spells }
    said (Anon perm) now then spells from = record { was = Anon perm; shows = now; is = inl (from ∙ same_either (is_taken (state_of a) thread c kit x index) (Anon perm), tt); spells = inl spells }
    said (File perm file first) now then spells from = record { was = File perm file first; shows = now; is = inl (from ∙ same_either (is_taken (state_of a) thread c kit x index) (File perm file first), tt); spells = inl spells }
    said (Swapped perm origin slot) now then spells from =
        let at = page_of_source now.1 in
        record { was = Swapped perm origin slot; shows = now; is = inr (from ∙ ap (λ t. cond t (came_from origin perm) (Swapped perm origin slot)) (is.taken x index at.0 at.1)); spells = inl spells }
    said (Mapped perm origin frame) now then spells from =
        let at = page_of_source now.1 in
        let here = now.2 (below (levels (state_of a)) x index).space (below (levels (state_of a)) x index).prefix (own_page (below (levels (state_of a)) x index) now.1) in
        let was = then.2 (below (levels (state_of a)) x index).space (below (levels (state_of a)) x index).prefix (own_page (below (levels (state_of a)) x index) now.1) in
        let listed = is.lists.own_frames_listed (below (levels (state_of a)) x index).prefix (page.Mapped perm origin frame.number frame.body.bytes) frame.number
        (subst (λ s. cell_at (state_of b) s (below (levels (state_of a)) x index).prefix ≡ Some (page.Mapped perm origin frame.number frame.body.bytes)) at.2 here) refl in
        let less = is.before.frames (below (levels (state_of a)) x index).space (below (levels (state_of a)) x index).prefix frame.number (page.Mapped perm origin frame.number frame.body.bytes) was refl in
        record {
          was = Mapped perm origin frame;
          shows = now;
          is = inr (from ∙ ap (λ t. cond t (came_from origin perm) (Mapped perm origin frame)) (is.taken x index at.0 at.1));
          spells = inr (inl (record {
            low = now.1;
            of_space = at.2;
            listed = subst (λ (l : List ℕ). Contains l (below (levels (state_of a)) x index).prefix) (sym (append-nil (pages_of kit.own_frames.items))) listed;
            no_link = leaf_is_no_link (state_of a) perm frame.number word (let f = is.few in omega (arith, less, f)) spells;
          }));
        }

    pub old_entry : IsSharingCell b space (pages_of kit.own_frames.items ++ []) (new, pages_of kit.frames.items) (below (levels (state_of a)) x index) word cell
    old_entry = said sc.was shows_now sc.shows sc.spells sc.is

  -- ---- a row of the copy

  module _ (x : Place) (there : set.contains (state_of b).tables x ≡ true) (own : x.space ≡ new) (index : ℕ) (inside : index < 512) (word old_word : ℕ) (o s : Cell)
      (oc : IsStagedCell a (state_of b).tables thread c kit x index word o) (sc : IsStagedCell a (state_of b).tables thread c kit (copy_at space x) index old_word s) where
    deep : (1 ≤ x.level) × (x.level < 6)
    deep = low_table x there

    form : below (levels (state_of a)) x index ≡ record { space = x.space; level = x.level - 1; prefix = 512 * x.prefix + index }
    form = below_is (levels (state_of a)) x index deep.1

    q_space : (below (levels (state_of a)) x index).space ≡ new
    q_space = ap (λ (r : Place). r.space) form ∙ own

    q_low : (below (levels (state_of a)) x index).level < 6
    q_low = let e = ap (λ (r : Place). r.level) form in let l = deep.1 in omega (arith, e, l)

    -- the entry of the source
    source_is : below (levels (state_of a)) (copy_at space x) index ≡ copy_at space (below (levels (state_of a)) x index)
    source_is = below_is (levels (state_of a)) (copy_at space x) index deep.1 ∙ ap (λ (r : Place). copy_at space r) (sym form)

    shows_source : Shows (with_tables (state_of a) (state_of b).tables) (copy_at space (below (levels (state_of a)) x index)) sc.was
    shows_source = subst (λ r. Shows (with_tables (state_of a) (state_of b).tables) r sc.was) source_is sc.shows

    source_page : (t p : ℕ) → has_page (below (levels (state_of a)) x index) t p ≡ true → (t ≡ new) × (has_page (copy_at space (below (levels (state_of a)) x index)) space p ≡ true)
    source_page t p has =
        let parts = page_parts (below (levels (state_of a)) x index) t p q_low has in
        (sym parts.0 ∙ q_space, page_from (copy_at space (below (levels (state_of a)) x index)) space p q_low refl parts.1)

    page_now : (t p : ℕ) → has_page (below (levels (state_of a)) x index) t p ≡ true → cell_at (state_of b) t p ≡ cell_at (state_of a) space p
    page_now t p has = ap (λ n. cell_at (state_of b) n p) (source_page t p has).0 ∙ is.new_cell p

    -- before the copy the space had no pages
    no_page : (k : PageCell) → cell_at (state_of a) (below (levels (state_of a)) x index).space (span_first (below (levels (state_of a)) x index)) ≡ Some k → ⊥
    no_page = λ k some. not_none (sym some ∙ (ap (λ n. cell_at (state_of a) n (span_first (below (levels (state_of a)) x index))) q_space ∙ is.gone_cell (span_first (below (levels (state_of a)) x index))))

    first_has : has_page (below (levels (state_of a)) x index) (below (levels (state_of a)) x index).space (span_first (below (levels (state_of a)) x index)) ≡ true
    first_has = first_page (below (levels (state_of a)) x index) q_low

    nothing : IsNoTable (state_of b) (below (levels (state_of a)) x index) → (was : Cell) → Shows (with_tables (state_of a) (state_of b).tables) (below (levels (state_of a)) x index) was → Spells (state_of a) was word → o ≡ cond (is_taken (state_of a) thread c kit x index) (drawn_cell was) was
        → (o ≡ Invalid) × (word ≡ 0)
    nothing lone Invalid shows spells from = (from ∙ same_either (is_taken (state_of a) thread c kit x index) Invalid, spells)
    nothing lone Table shows spells from = absurd (true≢false (sym shows ∙ lone))
    nothing lone (Anon perm) shows spells from = absurd (no_page (page.Anon perm) (shows.1 _ _ first_has))
    nothing lone (File perm file first) shows spells from = absurd (no_page (page.File perm file (first + (span_first (below (levels (state_of a)) x index) - span_first (below (levels (state_of a)) x index)))) (shows.1 _ _ first_has))
    nothing lone (Mapped perm origin frame) shows spells from = absurd (no_page (page.Mapped perm origin frame.number frame.body.bytes) (shows.2 _ _ first_has))
    nothing lone (Swapped perm origin slot) shows spells from = absurd (no_page (page.Swapped perm origin slot.number slot.body.bytes) (shows.2 _ _ first_has))

    -- a link stays
    linked : set.contains (state_of b).tables (below (levels (state_of a)) x index) ≡ true → (was : Cell) → Shows (with_tables (state_of a) (state_of b).tables) (below (levels (state_of a)) x index) was → Spells (state_of a) was word → o ≡ cond (is_taken (state_of a) thread c kit x index) (drawn_cell was) was
        → (o ≡ Table) × (is_link word ≡ true)
    linked link Table shows spells from = (from ∙ same_either (is_taken (state_of a) thread c kit x index) Table, spells)
    linked link Invalid shows spells from = absurd (true≢false (sym link ∙ shows.0))
    linked link (Anon perm) shows spells from = absurd (true≢false (sym link ∙ shows.0))
    linked link (File perm file first) shows spells from = absurd (true≢false (sym link ∙ shows.0))
    linked link (Mapped perm origin frame) shows spells from = absurd (true≢false (sym link ∙ shows.0))
    linked link (Swapped perm origin slot) shows spells from = absurd (true≢false (sym link ∙ shows.0))

    -- below a table of the source that has no copy are no keys
    no_key : set.contains (state_of b).tables (copy_at space (below (levels (state_of a)) x index)) ≡ true → IsNoTable (state_of b) (below (levels (state_of a)) x index) → (t p : ℕ) → has_page (below (levels (state_of a)) x index) t p ≡ true → cell_at (state_of a) space p ≡ None
    no_key source lone t p has = go (cell_at (state_of a) space p) refl
      where
        at : (t ≡ new) × (has_page (copy_at space (below (levels (state_of a)) x index)) space p ≡ true)
        at = source_page t p has

        go : (k : Option PageCell) → cell_at (state_of a) space p ≡ k → cell_at (state_of a) space p ≡ None
        go None e = e
        go (Some k) e =
            let old = is.tables.others (copy_at space (below (levels (state_of a)) x index)) source is.two in
            let source_at = table_above (copy_at space (below (levels (state_of a)) x index)) space p q_low at.1 in
            let new_at = table_above (below (levels (state_of a)) x index) new p q_low (subst (λ n. has_page (below (levels (state_of a)) x index) n p ≡ true) at.0 has) in
            absurd (true≢false (sym (is.tables.wanted p (below (levels (state_of a)) x index).level (ap (λ (r : Option PageCell). is_some r) e) (ap (set.contains (state_of a).tables) (sym source_at) ∙ old)) ∙ (ap (set.contains (state_of b).tables) (sym new_at) ∙ lone)))

    lone_from : IsNoTable (state_of b) (copy_at space (below (levels (state_of a)) x index)) → IsNoTable (state_of b) (below (levels (state_of a)) x index)
    lone_from none = false_from_ne_true (set.contains (state_of b).tables (below (levels (state_of a)) x index)) (λ t.
        true≢false (sym (is.tables.stay (copy_at space (below (levels (state_of a)) x index)) (is.back (below (levels (state_of a)) x index) t q_space)) ∙ none))

    source_taken : (below (levels (state_of a)) x index).level ≡ 0 → is_taken (state_of a) thread c kit (copy_at space x) index ≡ true
    source_taken zero = is.taken (copy_at space x) index (let level : x.level - 1 ≡ 0 = ap (λ (r : Place). r.level) (sym form) ∙ zero in let d = deep.0 in omega (arith, level, d)) refl

    said_new : (was : Cell) → Shows (with_tables (state_of a) (state_of b).tables) (copy_at space (below (levels (state_of a)) x index)) was → s ≡ cond (is_taken (state_of a) thread c kit (copy_at space x) index) (drawn_cell was) was → Said (below (levels (state_of a)) x index) word (copied s o)
    said_new Table shows from =
        let s_is : s ≡ Table = from ∙ same_either (is_taken (state_of a) thread c kit (copy_at space x) index) Table in
        let keeps : copied s o ≡ o = ap (λ (k : Cell). copied k o) s_is in
        subst (Said (below (levels (state_of a)) x index) word) (sym keeps) (go (set.contains (state_of b).tables (below (levels (state_of a)) x index)) refl)
      where
        go : (t : Bool) → set.contains (state_of b).tables (below (levels (state_of a)) x index) ≡ t → Said (below (levels (state_of a)) x index) word o
        go true link = let l = linked link oc.was oc.shows oc.spells oc.is in record { was = Table; shows = link; is = inl (l.0, tt); spells = inl l.1 }
        go false lone = let n = nothing lone oc.was oc.shows oc.spells oc.is in record { was = Invalid; shows = (lone, λ t p has. page_now t p has ∙ no_key shows lone t p has); is = inl (n.0, tt); spells = inl n.1 }
    said_new Invalid shows from =
        let lone = lone_from shows.0 in
        let n = nothing lone oc.was oc.shows oc.spells oc.is in
        let keeps : copied s o ≡ o = ap (λ (k : Cell). copied k o) (from ∙ same_either (is_taken (state_of a) thread c kit (copy_at space x) index) Invalid) in
        record { was = Invalid; shows = (lone, λ t p has. page_now t p has ∙ shows.1 space p (source_page t p has).1); is = inl (keeps ∙ n.0, tt); spells = inl n.1 }
    said_new (Anon perm) shows from =
        let lone = lone_from shows.0 in
        let n = nothing lone oc.was oc.shows oc.spells oc.is in
        let puts : copied s o ≡ Anon perm = ap (λ (k : Cell). copied k o) (from ∙ same_either (is_taken (state_of a) thread c kit (copy_at space x) index) (Anon perm)) in
        record { was = Anon perm; shows = (lone, λ t p has. page_now t p has ∙ shows.1 space p (source_page t p has).1); is = inl (puts, tt); spells = inl n.1 }
    said_new (File perm file first) shows from =
        let lone = lone_from shows.0 in
        let n = nothing lone oc.was oc.shows oc.spells oc.is in
        let puts : copied s o ≡ File perm file first = ap (λ (k : Cell). copied k o) (from ∙ same_either (is_taken (state_of a) thread c kit (copy_at space x) index) (File perm file first)) in
        record { was = File perm file first; shows = (lone, λ t p has. page_now t p has ∙ shows.1 space p (source_page t p has).1, shows.2); is = inl (puts, tt); spells = inl n.1 }
    said_new (Swapped perm origin slot) shows from =
        let lone = lone_from shows.0 in
        let n = nothing lone oc.was oc.shows oc.spells oc.is in
        let puts : copied s o ≡ came_from origin perm = ap (λ (k : Cell). copied k o) (from ∙ ap (λ t. cond t (came_from origin perm) (Swapped perm origin slot)) (source_taken shows.1)) ∙ copied_came origin perm o in
        record { was = Swapped perm origin slot; shows = (lone, shows.1, λ t p has. page_now t p has ∙ shows.2 space p (source_page t p has).1); is = inr puts; spells = inl n.1 }
    said_new (Mapped perm origin frame) shows from =
        let lone = lone_from shows.0 in
        let n = nothing lone oc.was oc.shows oc.spells oc.is in
        let puts : copied s o ≡ came_from origin perm = ap (λ (k : Cell). copied k o) (from ∙ ap (λ t. cond t (came_from origin perm) (Mapped perm origin frame)) (source_taken shows.1)) ∙ copied_came origin perm o in
        let here = own_page (below (levels (state_of a)) x index) shows.1 in
        let found = page_now (below (levels (state_of a)) x index).space (below (levels (state_of a)) x index).prefix here ∙ shows.2 space (below (levels (state_of a)) x index).prefix (source_page (below (levels (state_of a)) x index).space (below (levels (state_of a)) x index).prefix here).1 in
        record {
          was = Mapped perm origin frame;
          shows = (lone, shows.1, λ t p has. page_now t p has ∙ shows.2 space p (source_page t p has).1);
          is = inr puts;
          spells = inr (inr (record {
            low = shows.1;
            of_space = q_space;
            listed = is.lists.frames_listed (below (levels (state_of a)) x index).prefix (page.Mapped perm origin frame.number frame.body.bytes) frame.number
                (subst (λ m. cell_at (state_of b) m (below (levels (state_of a)) x index).prefix ≡ Some (page.Mapped perm origin frame.number frame.body.bytes)) q_space found) refl;
            no_link = ap is_link n.1 ∙ zero_no_link;
          }));
        }

    pub new_entry : IsSharingCell b space (pages_of kit.own_frames.items ++ []) (new, pages_of kit.frames.items) (below (levels (state_of a)) x index) word (copied s o)
    new_entry = said_new sc.was shows_source sc.is
