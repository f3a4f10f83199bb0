-- The rows of a copied space and of its copy, from the marks to the end.
--     first_shared      the leaves may be written
--     then_shared      of the other space too
--     then_short, other_short      the references may come into one space, and into the other
--     is_applied      what is left
use Rattle.std.specs.Prelude.{◌≡◌, ◌≢◌, ℕ, suc, ◌<◌, ◌≤◌, ◌⊎◌, true, false, List, [], ◌∷◌, ◌++◌, map, length, slice_index, slice_index_or, Some}
use Rattle.std.specs.List.{Contains}
use Rattle.std.specs.FinSet as set
use Rattle.std.proofs.Common.{sym, refl, ◌∙◌, ap, subst, arith, inl, inr}
use Rattle.std.proofs.lemmas.Bool.{true≢false, cases_lt}
use Rattle.std.proofs.lemmas.List.{append-nil}
use Rattle.std.proofs.lemmas.List.Elements.{Contains-get_or}
use Rattle.std.proofs.lemmas.Option.{slice_get_within}
use mathlib.Core.Logic.{dite}
use native.Mathlib.Decide.{ℕ_discrete}
use Rattle.corten_base.specs.declared.permissions.Perm.{Perm}
use Rattle.corten_base.specs.declared.calls.Backing.{Backing}
use Rattle.corten_base.specs.declared.calls.Call.{Call}
use Rattle.page_map.specs.declared.cell.Cell.{Cell as PageCell}
use Rattle.page_map.specs.declared.cell.Cell.TheVariants as page
use Rattle.page_map.specs.Cell.{frame_of, slot_of}
use Rattle.page_map.specs.State.{IsConsistent, levels, cell_at}
use Rattle.page_map.proofs.Owners.{same_some}
use Rattle.walk_core.specs.Lists.{times}
use Rattle.walk_core.proofs.RowLists.{in_map}
use Rattle.row_cells.specs.declared.Cell.{Cell}
use Rattle.row_cells.specs.declared.Cell.TheVariants.{Invalid, Table, Anon, File, Mapped, Swapped}
use Rattle.row_table.specs.declared.view.PassView.{PassView}
use Rattle.row_table.specs.declared.view.HeldRow.{HeldRow as KnownRow}
use Rattle.row_table.specs.Moves.{NotInHand}
use Rattle.row_table.proofs.Turns.{contained_map, same_parts}
use Rattle.table_place.specs.declared.Place.{Place}
use Rattle.table_place.proofs.Entries.{below_is, level_of}
use Rattle.tree_lock.specs.Held.{row_number, row_numbers}
use Rattle.machine_plan.specs.declared.kit.Kit.{Kit}
use Rattle.machine_plan.specs.Agrees.{below, HasBytes, IsTableOf, Shows}
use Rattle.machine_plan.specs.Books.{BookData, state_of}
use Rattle.machine_plan.specs.Given.{IsRemoved}
use Rattle.machine_plan.specs.HeldRows.{Row, AreOf}
use Rattle.machine_plan.specs.Kits.{HasRoom, IsIdle, IsUngranted}
use Rattle.machine_plan.proofs.Covering.{cell_there}
use Rattle.machine_plan.proofs.Pages.{own_page}
use Rattle.cursor_detach.specs.Left.{drawn_cell}
use Rattle.cursor_apply.specs.Applying.{is_store, OnlyRows, Applied}
use Rattle.space_apply.specs.Copying.{copy_at}
use Rattle.space_apply.specs.Marking.{copied, IsCopyOf, MarksCopied}
use Rattle.cursor_apply.specs.Placing.{AreShortIn}
use Rattle.cursor_apply.specs.Putting.{IsLacking, IsShort, IsShortCell, AreShort, pages_of, row_place}
use Rattle.cursor_apply.specs.Sharing.{IsSharingCell, IsSharingRow, AreSharing}
use Rattle.cursor_apply.specs.Staging.{Staged, IsStagedCell}
use Rattle.cursor_apply.proofs.Backs.{all_agree}
use Rattle.space_apply.proofs.ForkCells.{IsFork, old_entry, new_entry}

-- ---- lists

same_map : {X : Type 0} (f : Row → X) (xs ys : List Row) → length xs ≡ length ys → ((k : ℕ) (d : Row) → k < length ys → f (slice_index_or xs k d) ≡ f (slice_index_or ys k d)) → map f xs ≡ map f ys
same_map f [] [] long each = refl
same_map f [] (y ∷ ys) long each = absurd (omega arith)
same_map f (x ∷ xs) [] long each = absurd (omega arith)
same_map {X} f (x ∷ xs) (y ∷ ys) long each = (λ i. each 0 x (omega arith) i ∷ same_map f xs ys (omega arith) (λ k d less. each (suc k) d (omega (arith, less))) i)

-- a copied row is whole
copy_whole : (source old new : List Cell) → length source ≡ 512 → length old ≡ 512 → IsCopyOf source old 512 new → length new ≡ 512
copy_whole source old new source_whole old_whole is =
    let s = cell_there source 511 (subst (λ n. 511 < n) (sym source_whole) (omega arith)) in
    let o = cell_there old 511 (subst (λ n. 511 < n) (sym old_whole) (omega arith)) in
    let least : 511 < length new = slice_get_within new 511 (copied s.0 o.0) (is.done 511 s.0 o.0 (omega arith) s.1 o.1) in
    elim (cases_lt 512 (length new)) [
      | inl more ↦ (let c = cell_there new 512 more in let at = slice_get_within old 512 c.0 (sym (is.left 512 (omega arith)) ∙ c.1) in absurd (omega (arith, at, old_whole)))
      | inr most ↦ omega (arith, least, most)
    ]

module _ {B E : Type 0} (a b : BookData) (thread : ℕ) (c : Call) (kit : Kit) (rows : List Row) (space new : ℕ) (fork : IsFork a b thread c kit rows space new) (v w : PassView (List Cell) B E) (rows1 rows2 : List Row)
    (staged : Staged a b thread c kit v w rows rows1) (marks : MarksCopied space new (length rows1) rows1 rows2) (of_space : AreOf space rows) (few : (state_of b).limits.frames ≤ 4096) where
  -- the rows are of the two spaces
  of_two : (x : Row) → Contains rows1 x → x.place.level < 6 → (x.place.space ≡ space) ⊎ (x.place.space ≡ new)
  of_two x has low = elim (staged.only x has) [
    | inl old ↦ inl (ap (λ (p : Place). p.space) (sym old.2) ∙ of_space old.0 old.1 (subst (λ (p : Place). p.level < 6) (sym old.2) low))
    | inr came ↦ dite (ℕ_discrete x.place.space new) (λ e. inr e) (λ ne. absurd (true≢false (sym (fork.tables.others x.place came.1 ne) ∙ came.0)))
  ]

  still : (q : Place) → ¬ IsRemoved (state_of a) (state_of b) q
  still q r = true≢false (sym (fork.tables.stay q r.0) ∙ r.1)

  abbrev Row2 : Row → Type 0
  Row2 y = IsSharingRow b space (pages_of kit.own_frames.items ++ []) (new, pages_of kit.frames.items) w y

  level_now : (p : Place) (i : ℕ) → below (levels (state_of b)) p i ≡ below (levels (state_of a)) p i
  level_now p i = ap (λ n. below n p i) fork.same_levels

  old_row : (x : Row) → Contains rows1 x → (x.place.level < 6 → x.place.space ≡ space) → Row2 x
  old_row x has own =
      let s = staged.staged x has in
      record {
        known = s.known;
        held = s.held;
        same_row = s.same_row;
        same_place = s.same_place;
        linked = s.linked;
        table = s.table;
        whole = s.whole;
        cells = λ i cell inside there. subst (λ q. IsSharingCell b space (pages_of kit.own_frames.items ++ []) (new, pages_of kit.frames.items) q (slice_index s.known.words i) cell) (sym (level_now x.place i))
            (old_entry a b thread c kit rows space new fork x.place s.table own i inside (slice_index s.known.words i) cell (s.cells i cell inside (still (below (levels (state_of a)) x.place i)) there));
      }

  new_row : (x y : Row) → Contains rows1 x → x.place.space ≡ new → x.place.level < 6 → (from : Row) → Contains rows1 from → from.place ≡ copy_at space x.place → (content : List Cell) → y ≡ record x { content = content } → IsCopyOf from.content x.content 512 content → Row2 y
  new_row x y has own low from from_has from_is content y_is copy =
      let s = staged.staged x has in
      let f = staged.staged from from_has in
      subst Row2 (sym y_is) (record {
        known = s.known;
        held = s.held;
        same_row = s.same_row;
        same_place = s.same_place;
        linked = s.linked;
        table = s.table;
        whole = copy_whole from.content x.content content f.whole s.whole copy;
        cells = λ i cell inside there.
            let o = cell_there x.content i (subst (λ n. i < n) (sym s.whole) inside) in
            let k = cell_there from.content i (subst (λ n. i < n) (sym f.whole) inside) in
            let is : cell ≡ copied k.0 o.0 = same_some (sym there ∙ copy.done i k.0 o.0 inside k.1 o.1) in
            subst (λ q. IsSharingCell b space (pages_of kit.own_frames.items ++ []) (new, pages_of kit.frames.items) q (slice_index s.known.words i) cell) (sym (level_now x.place i))
            (subst (IsSharingCell b space (pages_of kit.own_frames.items ++ []) (new, pages_of kit.frames.items) (below (levels (state_of a)) x.place i) (slice_index s.known.words i)) (sym is)
            (new_entry a b thread c kit rows space new fork x.place (table_there s.table) own i inside (slice_index s.known.words i) (slice_index f.known.words i) o.0 k.0
            (s.cells i o.0 inside (still (below (levels (state_of a)) x.place i)) o.1)
            (subst (λ p. IsStagedCell a (state_of b).tables thread c kit p i (slice_index f.known.words i) k.0) from_is (f.cells i k.0 inside (still (below (levels (state_of a)) from.place i)) k.1))));
      })
    where
      table_there : IsTableOf (state_of b) x.place → set.contains (state_of b).tables x.place ≡ true
      table_there (inl top) = absurd (let e = ap (λ (p : Place). p.level) top in omega (arith, e, low))
      table_there (inr there) = there

  each_row : (y : Row) → Contains rows2 y → Row2 y
  each_row y has = dite (ℕ_discrete x.place.space new)
      (λ e. elim (cases_lt x.place.level 6) [
        | inl low ↦ (let o = marks.done has.0 y inside inside e low in
            new_row x y x_has e low o.1.row (subst (Contains rows1) (o.1.is o.1.row) (Contains-get_or rows1 o.0 o.1.row o.1.inside)) o.1.place o.2 (sym has.2 ∙ o.3) o.4)
        | inr high ↦ kept (λ less of_new low. absurd (omega (arith, high, low))) (λ low. absurd (omega (arith, high, low)))
      ])
      (λ ne. kept (λ less of_new low. ne of_new) (λ low. elim (of_two x x_has low) [ inl own ↦ own | inr e ↦ absurd (ne e) ]))
    where
      inside : has.0 < length rows1
      inside = let long = marks.long in let h = has.1 in omega (arith, long, h)

      x : Row
      x = slice_index_or rows1 has.0 y

      x_has : Contains rows1 (slice_index_or rows1 has.0 y)
      x_has = Contains-get_or rows1 has.0 y inside

      kept : (has.0 < length rows1 → (slice_index_or rows1 has.0 y).place.space ≡ new → (slice_index_or rows1 has.0 y).place.level < 6 → ⊥) → ((slice_index_or rows1 has.0 y).place.level < 6 → (slice_index_or rows1 has.0 y).place.space ≡ space) → Row2 y
      kept never own = subst Row2 (sym (marks.left has.0 y never) ∙ has.2) (old_row (slice_index_or rows1 has.0 y) x_has own)

  same_places : map row_place rows2 ≡ map row_place rows1
  same_places = same_map row_place rows2 rows1 marks.long (λ k d less. dite (ℕ_discrete (slice_index_or rows1 k d).place.space new)
      (λ e. elim (cases_lt (slice_index_or rows1 k d).place.level 6) [
        | inl low ↦ ap row_place (marks.done k d less less e low).3
        | inr high ↦ ap row_place (marks.left k d (λ _ of_new low. omega (arith, high, low)))
      ])
      (λ ne. ap row_place (marks.left k d (λ _ of_new low. ne of_new))))

  numbers : row_numbers rows2 ≡ row_numbers rows1
  numbers = sym (same_parts row_place (λ (p : ℕ × Place). p.0) row_number (λ x. refl) rows2) ∙ (ap (map (λ (p : ℕ × Place). p.0)) same_places ∙ same_parts row_place (λ (p : ℕ × Place). p.0) row_number (λ x. refl) rows1)

  pub two_spaces : (y : Row) → Contains rows2 y → y.place.level < 6 → (y.place.space ≡ space) ⊎ (y.place.space ≡ new)
  two_spaces y has low =
      let o = contained_map row_place rows1 (row_place y) (subst (λ (l : List (ℕ × Place)). Contains l (row_place y)) same_places (in_map row_place rows2 y has)) in
      let same : o.0.place ≡ y.place = ap (λ (p : ℕ × Place). p.1) o.2 in
      subst (λ (p : Place). (p.space ≡ space) ⊎ (p.space ≡ new)) same (of_two o.0 o.1 (subst (λ (p : Place). p.level < 6) (sym same) low))

  pub first_shared : AreSharing b space (pages_of kit.own_frames.items ++ []) (new, pages_of kit.frames.items) w rows2
  first_shared = record {
    consistent = fork.after;
    few_frames = few;
    exact = record { held = λ r. ap (times r) numbers ∙ staged.exact.held r; shown = staged.exact.shown };
    given = staged.given;
    hand = (ap (λ (u : PassView (List Cell) B E). u.hand) staged.view, ap (λ (u : PassView (List Cell) B E). u.core.granted) staged.view);
    each = each_row;
  }

-- the second space is next
pub then_shared : {B E : Type 0} (b : BookData) (space new : ℕ) (pages : List ℕ) (w : PassView (List Cell) B E) (rows : List Row) → AreSharing b space [] (new, pages) w rows → AreSharing b new (pages ++ []) (space, []) w rows
then_shared b space new pages w rows are = record {
  consistent = are.consistent;
  few_frames = are.few_frames;
  exact = are.exact;
  given = are.given;
  hand = are.hand;
  each = λ x has.
      let s = are.each x has in
      record {
        known = s.known;
        held = s.held;
        same_row = s.same_row;
        same_place = s.same_place;
        linked = s.linked;
        table = s.table;
        whole = s.whole;
        cells = λ i cell inside there.
            let k = s.cells i cell inside there in
            record {
              was = k.was;
              shows = k.shows;
              is = k.is;
              spells = elim k.spells [
                | inl now ↦ inl now
                | inr old ↦ (elim old [
                  | inl one ↦ (let none = one.listed.1 in absurd (omega (arith, none)))
                  | inr two ↦ inr (inl (record { low = two.low; of_space = two.of_space; listed = subst (λ (l : List ℕ). Contains l (below (levels (state_of b)) x.place i).prefix) (sym (append-nil pages)) two.listed; no_link = two.no_link }))
                ])
              ];
            };
      };
}

-- ---- all words are written

module _ (b : BookData) (space : ℕ) (q : Place) (word : ℕ) (cell : Cell) (other : ℕ) (s : IsSharingCell b other [] (space, []) q word cell) (frames slots : List ℕ)
    (frame_listed : (x : PageCell) (perm : Perm) (origin : Backing) (n : ℕ) (bytes : List ℕ) → x ≡ page.Mapped perm origin n bytes → q.level ≡ 0 → cell_at (state_of b) q.space q.prefix ≡ Some x → Contains frames q.prefix)
    (slot_listed : (x : PageCell) (perm : Perm) (origin : Backing) (n : ℕ) (bytes : List ℕ) → x ≡ page.Swapped perm origin n bytes → q.level ≡ 0 → cell_at (state_of b) q.space q.prefix ≡ Some x → Contains slots q.prefix) where
  short_cell : IsShortCell b frames slots q word cell
  short_cell = record {
    was = s.was;
    shows = s.shows;
    spells = elim s.spells [
      | inl now ↦ now
      | inr old ↦ (elim old [
        | inl one ↦ (let none = one.listed.1 in absurd (omega (arith, none)))
        | inr two ↦ (let none = two.listed.1 in absurd (omega (arith, none)))
      ])
    ];
    is = elim s.is [ inl whole ↦ inl whole | inr drawn ↦ go s.was s.shows drawn ];
  }
    where
      go : (was : Cell) → Shows (state_of b) q was → cell ≡ drawn_cell was → ((cell ≡ was) × HasBytes b was) ⊎ IsLacking frames slots q was cell
      go Invalid shows is = inl (is, tt)
      go Table shows is = inl (is, tt)
      go (Anon perm) shows is = inl (is, tt)
      go (File perm file index) shows is = inl (is, tt)
      go (Mapped perm origin frame) shows is = inr (is, frame_listed (page.Mapped perm origin frame.number frame.body.bytes) perm origin frame.number frame.body.bytes refl shows.1 (shows.2 q.space q.prefix (own_page q shows.1)))
      go (Swapped perm origin slot) shows is = inr (is, slot_listed (page.Swapped perm origin slot.number slot.body.bytes) perm origin slot.number slot.body.bytes refl shows.1 (shows.2 q.space q.prefix (own_page q shows.1)))

module _ {B E : Type 0} (b : BookData) (space new : ℕ) (two : space ≢ new) (w : PassView (List Cell) B E) (rows : List Row) (are : AreSharing b new [] (space, []) w rows)
    (of_two : (y : Row) → Contains rows y → y.place.level < 6 → (y.place.space ≡ space) ⊎ (y.place.space ≡ new)) (lists : (List ℕ × List ℕ) × (List ℕ × List ℕ))
    (own_frames : (q : ℕ) (x : PageCell) (n : ℕ) → cell_at (state_of b) space q ≡ Some x → frame_of x ≡ Some n → Contains lists.0.0 q) (own_slots : (q : ℕ) (x : PageCell) (n : ℕ) → cell_at (state_of b) space q ≡ Some x → slot_of x ≡ Some n → Contains lists.0.1 q)
    (frames : (q : ℕ) (x : PageCell) (n : ℕ) → cell_at (state_of b) new q ≡ Some x → frame_of x ≡ Some n → Contains lists.1.0 q) (slots : (q : ℕ) (x : PageCell) (n : ℕ) → cell_at (state_of b) new q ≡ Some x → slot_of x ≡ Some n → Contains lists.1.1 q) where
  abbrev L : ℕ
  L = levels (state_of b)

  -- a page is below a table of level 1, of the row's space
  page_space : (x : Row) (i : ℕ) → i < 512 → IsTableOf (state_of b) x.place → (below (levels (state_of b)) x.place i).level ≡ 0 → (x.place.level < 6) × ((below (levels (state_of b)) x.place i).space ≡ x.place.space)
  page_space x i inside (inl top) zero = absurd (let e : levels (state_of b) ≡ 0 = ap (λ (r : Place). (below (levels (state_of b)) r i).level) (sym top) ∙ zero in let some = are.consistent.some_levels in omega (arith, e, some))
  page_space x i inside (inr there) zero =
      let d = (level_of (levels (state_of b)) x.place (are.consistent.places x.place there)).1 in
      let f = are.consistent.few_levels in
      let low : x.place.level < 6 = omega (arith, d, f) in
      (low, ap (λ (r : Place). r.space) (below_is (levels (state_of b)) x.place i low))

  row_short : (x : Row) → Contains rows x → (s : ℕ) (fs ss : List ℕ) → (x.place.level < 6 → x.place.space ≡ s) → ((q : ℕ) (k : PageCell) (n : ℕ) → cell_at (state_of b) s q ≡ Some k → frame_of k ≡ Some n → Contains fs q)
      → ((q : ℕ) (k : PageCell) (n : ℕ) → cell_at (state_of b) s q ≡ Some k → slot_of k ≡ Some n → Contains ss q) → IsShort b w.rows fs ss x
  row_short x has s fs ss own in_frames in_slots =
      let r = are.each x has in
      record {
        row = r.known;
        held = r.held;
        same_row = r.same_row;
        same_place = r.same_place;
        table = r.table;
        whole = r.whole;
        cells = λ i cell inside there.
            let q = below (levels (state_of b)) x.place i in
            short_cell b space q (slice_index r.known.words i) cell new (r.cells i cell inside there) fs ss
            (λ k perm origin n bytes is zero at. let p = page_space x i inside r.table zero in in_frames q.prefix k n (subst (λ m. cell_at (state_of b) m q.prefix ≡ Some k) (p.1 ∙ own p.0) at) (ap frame_of is))
            (λ k perm origin n bytes is zero at. let p = page_space x i inside r.table zero in in_slots q.prefix k n (subst (λ m. cell_at (state_of b) m q.prefix ≡ Some k) (p.1 ∙ own p.0) at) (ap slot_of is));
      }

  pub then_short : AreShortIn b w.rows space lists.0.0 lists.0.1 lists.1 rows
  then_short x has = (
    λ own. row_short x has space lists.0.0 lists.0.1 (λ low. own) own_frames own_slots,
    λ apart. row_short x has new lists.1.0 lists.1.1 (λ low. elim (of_two x has low) [ inl own ↦ absurd (apart own) | inr e ↦ e ]) frames slots,
  )

-- nothing stands at a page below the directory
short_top : (b : BookData) → IsConsistent (state_of b) → (known : List (KnownRow (List Cell))) (fs ss : List ℕ) (x : Row) → (x.place.level < 6 → ⊥) → IsShort b known fs ss x → IsShort b known [] [] x
short_top b is known fs ss x high s = record {
  row = s.row;
  held = s.held;
  same_row = s.same_row;
  same_place = s.same_place;
  table = s.table;
  whole = s.whole;
  cells = λ i cell inside there. let k = s.cells i cell inside there in record { was = k.was; shows = k.shows; spells = k.spells; is = elim k.is [ inl whole ↦ inl whole | inr lacks ↦ absurd (never i k.was cell k.shows lacks) ] };
}
  where
    no_page : (i : ℕ) → (below (levels (state_of b)) x.place i).level ≡ 0 → ⊥
    no_page i zero = go s.table
      where
        go : IsTableOf (state_of b) x.place → ⊥
        go (inl top) = let e : levels (state_of b) ≡ 0 = ap (λ (r : Place). (below (levels (state_of b)) r i).level) (sym top) ∙ zero in let some = is.some_levels in absurd (omega (arith, e, some))
        go (inr there) = high (let d = (level_of (levels (state_of b)) x.place (is.places x.place there)).1 in let f = is.few_levels in omega (arith, d, f))

    never : (i : ℕ) (was cell : Cell) → Shows (state_of b) (below (levels (state_of b)) x.place i) was → IsLacking fs ss (below (levels (state_of b)) x.place i) was cell → ⊥
    never i (Mapped perm origin frame) cell shows lacks = no_page i shows.1
    never i (Swapped perm origin slot) cell shows lacks = no_page i shows.1
    never i Invalid cell shows lacks = lacks
    never i Table cell shows lacks = lacks
    never i (Anon perm) cell shows lacks = lacks
    never i (File perm file index) cell shows lacks = lacks

pub other_short : (b : BookData) → IsConsistent (state_of b) → (space new : ℕ) → space ≢ new → (known : List (KnownRow (List Cell))) (fs ss : List ℕ) (rows : List Row) → ((y : Row) → Contains rows y → y.place.level < 6 → (y.place.space ≡ space) ⊎ (y.place.space ≡ new))
    → AreShortIn b known space [] [] (fs, ss) rows → AreShortIn b known new fs ss ([], []) rows
other_short b is space new two known fs ss rows of_two short x has = (
  λ own. (short x has).1 (λ e. two (sym e ∙ own)),
  λ apart. dite (ℕ_discrete x.place.space space)
      (λ e. (short x has).0 e)
      (λ ne. short_top b is known fs ss x (λ low. elim (of_two x has low) [ inl e ↦ ne e | inr e ↦ apart e ]) ((short x has).1 ne)),
)

all_short : (b : BookData) (new : ℕ) (known : List (KnownRow (List Cell))) (rows : List Row) → AreShortIn b known new [] [] ([], []) rows → AreShort b known [] [] rows
all_short b new known rows short x has = dite (ℕ_discrete x.place.space new) (λ e. (short x has).0 e) (λ ne. (short x has).1 ne)

pub two_still : (rows rows' : List Row) (space new : ℕ) → map row_place rows' ≡ map row_place rows → ((y : Row) → Contains rows y → y.place.level < 6 → (y.place.space ≡ space) ⊎ (y.place.space ≡ new))
    → (y : Row) → Contains rows' y → y.place.level < 6 → (y.place.space ≡ space) ⊎ (y.place.space ≡ new)
two_still rows rows' space new places of_two y has low =
    let o = contained_map row_place rows (row_place y) (subst (λ (l : List (ℕ × Place)). Contains l (row_place y)) places (in_map row_place rows' y has)) in
    let same : o.0.place ≡ y.place = ap (λ (p : ℕ × Place). p.1) o.2 in
    subst (λ (p : Place). (p.space ≡ space) ⊎ (p.space ≡ new)) same (of_two o.0 o.1 (subst (λ (p : Place). p.level < 6) (sym same) low))

-- ---- the end

pub is_applied : {B E : Type 0} (b : BookData) (thread : ℕ) (c : Call) (space new : ℕ) (v w : PassView (List Cell) B E) (rows rows' : List Row) (kit kit' : Kit) → OnlyRows v w → AreSharing b new [] (space, []) w rows → is_store c ≡ false
    → AreShortIn b w.rows new [] [] ([], []) rows' → map row_place rows' ≡ map row_place rows → HasRoom kit' → IsIdle kit' → IsUngranted kit' → (kit'.second_frames.items ≡ []) × (kit'.second_slots.items ≡ []) → Applied b thread c v w rows' kit kit'
is_applied b thread c space new v w rows rows' kit kit' view are reads short places room idle ungranted seconds = record {
  view = view;
  held = record {
    exact = record { held = λ r. ap (times r) numbers ∙ are.exact.held r; shown = are.exact.shown };
    each = λ x has.
        let g = all_agree b w.rows rows' (all_short b new w.rows rows' short) x has in
        let o = contained_map row_place rows (row_place x) (subst (λ (l : List (ℕ × Place)). Contains l (row_place x)) places (in_map row_place rows' x has)) in
        record {
          known = g.row;
          held = g.held;
          same_row = g.same_row;
          same_place = g.same_place;
          linked = subst (NotInHand w) (ap (λ (p : ℕ × Place). p.0) o.2) (are.each o.0 o.1).linked;
          agrees = g.agrees;
        };
  };
  given = are.given;
  hand = are.hand;
  stored = λ done h index cell has low inside stores uses at may_read may_write. absurd (true≢false (sym stores ∙ reads));
  room = room;
  idle = idle;
  ungranted = ungranted;
  seconds = seconds;
}
  where
    numbers : row_numbers rows' ≡ row_numbers rows
    numbers = sym (same_parts row_place (λ (p : ℕ × Place). p.0) row_number (λ x. refl) rows') ∙ (ap (map (λ (p : ℕ × Place). p.0)) places ∙ same_parts row_place (λ (p : ℕ × Place). p.0) row_number (λ x. refl) rows)
