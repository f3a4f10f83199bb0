-- The word of a page is written, or no row has the page.
--     show_none, hide_none      no row has it
--     small_frame      its frame has a place in a leaf
--     may_show, is_shown, may_hide, is_hidden      what the call asks;  what it makes
--     words_shown, words_hidden      it writes words alone
--     row_at      the row that was found
--     next_shown, next_hidden, all_shown, all_hidden      pages of a list, one after another
use Rattle.std.specs.Prelude.{◌≡◌, ℕ, ◌+◌, ◌-◌, ◌*◌, ◌%◌, ◌<◌, ◌≤◌, false, List, [], ◌∷◌, ◌++◌, drop, length, slice_get, slice_index, slice_index_or, Some, None}
use Rattle.std.specs.List.{Contains}
use Rattle.std.proofs.Common.{sym, refl, ◌∙◌, ap, subst, arith, inl}
use Rattle.std.proofs.lemmas.List.{drop_all, drop_more}
use Rattle.corten_base.specs.declared.calls.Call.{Call}
use Rattle.counted_pages.specs.Pages.{CountedPage}
use Rattle.page_map.specs.declared.cell.Cell.{Cell as PageCell}
use Rattle.page_map.specs.State.{State, levels, cell_at}
use Rattle.page_map.proofs.Owners.{same_some}
use Rattle.walk_core.specs.Lists.{IsDistinct}
use Rattle.walk_core.specs.Words.{is_link}
use Rattle.row_cells.specs.declared.Cell.{Cell}
use Rattle.row_table.specs.declared.view.HeldRow.{HeldRow as KnownRow}
use Rattle.row_table.specs.Known.{AreWhole}
use Rattle.row_table.specs.Links.{MaySetEntry, Sets}
use Rattle.table_place.specs.declared.Place.{Place}
use Rattle.table_place.proofs.Entries.{below_is}
use Rattle.tree_lock.specs.Held.{IsInOrder, row_numbers}
use Rattle.machine_plan.specs.Agrees.{below}
use Rattle.machine_plan.specs.Books.{BookData, state_of}
use Rattle.machine_plan.specs.HeldRows.{Row}
use Rattle.machine_plan.specs.Kits.{Refs}
use Rattle.machine_plan.proofs.Covering.{cell_there}
use Rattle.cursor_apply.specs.Applying.{OnlyWords}
use Rattle.cursor_apply.specs.Putting.{IsLeafOf, IsLeafAt, pages_of}
use Rattle.cursor_apply.specs.Showing.{sole_leaf, IsWritableCell, AreWritable, IsSoleAt, AreSole, IsSlotAt, AreSlots, MayShow, Shows, MayHide, Hides}
use Rattle.cursor_apply.proofs.Kept.{word_written}
use Rattle.cursor_apply.proofs.Writing.{leaf_kind, show_here, hide_here, not_shown, not_hidden}
use Rattle.cursor_apply.proofs.WrittenRows.{View, nowhere, may_write, is_written}

module _ {B E : Type 0} (page : ℕ) (v : View B E) (rows : List Row) where
  pub show_none : (frame : ℕ) → IsLeafAt rows page None → Shows (page ∷ []) (λ b space. IsSoleAt (state_of b) space page frame) v v rows
  show_none frame none b thread c space frames slots to_show to_hide ready right =
      nowhere b thread c space frames slots page (page ∷ to_show) to_hide to_show to_hide v rows ready
      (λ q word cell other w. not_shown b thread c frames slots ready.consistent ready.few_frames q word cell page other to_show to_hide w) none

  pub hide_none : IsLeafAt rows page None → Hides (page ∷ []) (λ b space. IsSlotAt (state_of b) space page) v v rows
  hide_none none b thread c space frames slots to_show to_hide ready right =
      nowhere b thread c space frames slots page to_show (page ∷ to_hide) to_show to_hide v rows ready
      (λ q word cell other w. not_hidden b thread c frames slots ready.consistent ready.few_frames q word cell page other to_show to_hide w) none

  pub small_frame : (frame : ℕ) → MayShow (page ∷ []) (λ b space. IsSoleAt (state_of b) space page frame) v rows → frame < 4096
  small_frame frame (b, thread, c, space, frames, slots, to_show, to_hide, ready, sole) =
      let less = ready.consistent.frames space page frame sole.cell sole.there sole.carries in
      omega (arith, less, ready.few_frames)

  module _ (order : IsInOrder rows) (once : IsDistinct (row_numbers rows)) (wide : AreWhole v) (x : Row) (has : Contains rows x) (leaf : IsLeafOf x page) where
    abbrev index : ℕ
    index = page % 512

    -- the entry of the page
    module _ (b : BookData) (space : ℕ) (here : x.place.space ≡ space) where
      abbrev st : State
      st = state_of b

      abbrev q : Place
      q = below (levels st) x.place index

      at : q ≡ record { space = x.place.space; level = x.place.level - 1; prefix = 512 * x.place.prefix + index }
      at = below_is (levels st) x.place index (omega (arith, leaf.0))

      low : q.level ≡ 0
      low = ap (λ (p : Place). p.level) at ∙ omega (arith, leaf.0)

      page_is : q.prefix ≡ page
      page_is = ap (λ (p : Place). p.prefix) at ∙ omega (arith, leaf.1)

      there : (d : PageCell) → cell_at st space page ≡ Some d → cell_at st q.space q.prefix ≡ Some d
      there d e = subst (λ s. cell_at st s q.prefix ≡ Some d) (sym (ap (λ (p : Place). p.space) at ∙ here)) (subst (λ n. cell_at st space n ≡ Some d) (sym page_is) e)

    module _ (cell : Cell) (stands : slice_get x.content index ≡ Some cell) (frame : ℕ) where
      one_cell : (k : Cell) → slice_get x.content index ≡ Some k → k ≡ cell
      one_cell k e = same_some (sym e ∙ stands)

      module _ (b : BookData) (thread : ℕ) (c : Call) (space : ℕ) (frames slots to_show to_hide : List ℕ) (ready : AreWritable b thread c space frames slots (page ∷ to_show) to_hide v rows) (sole : IsSoleAt (state_of b) space page frame) where
        of_space : x.place.space ≡ space
        of_space = ready.of_space x has (omega (arith, leaf.0))

        few : frame < 4096
        few = let less = ready.consistent.frames space page frame sole.cell sole.there sole.carries in omega (arith, less, ready.few_frames)

        shown_here : (old : ℕ) (k : Cell) → k ≡ cell → IsWritableCell b thread c frames slots (page ∷ to_show) to_hide (below (levels (state_of b)) x.place index) old k
            → (is_link old ≡ false) × IsWritableCell b thread c frames slots to_show to_hide (below (levels (state_of b)) x.place index) (sole_leaf cell frame) k
        shown_here old k same was =
            let s = show_here b thread c frames slots ready.consistent ready.few_frames (below (levels (state_of b)) x.place index) old k (low b space of_space) sole.cell (there b space of_space sole.cell sole.there)
            frame sole.carries sole.one (page ∷ to_show) to_hide was in
            (s.0, subst (λ (j : Cell). IsWritableCell b thread c frames slots to_show to_hide (below (levels (state_of b)) x.place index) (sole_leaf j frame) k) same (s.1 to_show))

        set_shown : MaySetEntry v x.row index (sole_leaf cell frame)
        set_shown =
            may_write b thread c space frames slots page (page ∷ to_show) to_hide to_show to_hide v rows ready
            (λ q word k other w. not_shown b thread c frames slots ready.consistent ready.few_frames q word k page other to_show to_hide w)
            order once wide (sole_leaf cell frame) x has leaf (λ old k is was. (shown_here old k (one_cell k is) was).1) (leaf_kind cell frame few)
            (λ h same. subst (λ (j : KnownRow (List Cell)). is_link (slice_index j.words index) ≡ false) (sym same)
            (shown_here (slice_index (ready.each x has).known.words index) cell refl ((ready.each x has).cells index cell (omega arith) stands)).0)

        shown_now : (w : View B E) → Sets x.row index (sole_leaf cell frame) v w → AreWritable b thread c space frames slots to_show to_hide w rows
        shown_now w sets =
            is_written b thread c space frames slots page (page ∷ to_show) to_hide to_show to_hide v rows ready
            (λ q word k other u. not_shown b thread c frames slots ready.consistent ready.few_frames q word k page other to_show to_hide u)
            order once wide (sole_leaf cell frame) x has leaf (λ old k is was. (shown_here old k (one_cell k is) was).1) (leaf_kind cell frame few) w sets

      pub may_show : MayShow (page ∷ []) (λ b space. IsSoleAt (state_of b) space page frame) v rows → MaySetEntry v x.row index (sole_leaf cell frame)
      may_show (b, thread, c, space, frames, slots, to_show, to_hide, ready, sole) = set_shown b thread c space frames slots to_show to_hide ready sole

      pub words_shown : MayShow (page ∷ []) (λ b space. IsSoleAt (state_of b) space page frame) v rows → (w : View B E) → Sets x.row index (sole_leaf cell frame) v w → OnlyWords v w
      words_shown may w sets = let s = may.8.each x has in word_written v w x.row index (sole_leaf cell frame) s.known s.held s.same_row (leaf_kind cell frame (small_frame frame may)) sets

      pub is_shown : (w : View B E) → Sets x.row index (sole_leaf cell frame) v w → Shows (page ∷ []) (λ b space. IsSoleAt (state_of b) space page frame) v w rows
      is_shown w sets b thread c space frames slots to_show to_hide ready sole = shown_now b thread c space frames slots to_show to_hide ready sole w sets

    module _ (b : BookData) (thread : ℕ) (c : Call) (space : ℕ) (frames slots to_show to_hide : List ℕ) (ready : AreWritable b thread c space frames slots to_show (page ∷ to_hide) v rows) (slot : IsSlotAt (state_of b) space page) where
      space_of_row : x.place.space ≡ space
      space_of_row = ready.of_space x has (omega (arith, leaf.0))

      hidden_here : (old : ℕ) (k : Cell) → IsWritableCell b thread c frames slots to_show (page ∷ to_hide) (below (levels (state_of b)) x.place index) old k
          → (is_link old ≡ false) × IsWritableCell b thread c frames slots to_show to_hide (below (levels (state_of b)) x.place index) 0 k
      hidden_here old k was =
          let s = hide_here b thread c frames slots ready.consistent ready.few_frames (below (levels (state_of b)) x.place index) old k (low b space space_of_row) slot.cell (there b space space_of_row slot.cell slot.there)
          slot.slot slot.carries to_show (page ∷ to_hide) was in
          (s.0, s.1 to_hide)

      set_hidden : (cell : Cell) → slice_get x.content index ≡ Some cell → MaySetEntry v x.row index 0
      set_hidden cell stands =
          may_write b thread c space frames slots page to_show (page ∷ to_hide) to_show to_hide v rows ready
          (λ q word k other w. not_hidden b thread c frames slots ready.consistent ready.few_frames q word k page other to_show to_hide w)
          order once wide 0 x has leaf (λ old k is was. (hidden_here old k was).1) (inl refl)
          (λ h same. subst (λ (j : KnownRow (List Cell)). is_link (slice_index j.words index) ≡ false) (sym same)
          (hidden_here (slice_index (ready.each x has).known.words index) cell ((ready.each x has).cells index cell (omega arith) stands)).0)

      hidden_now : (w : View B E) → Sets x.row index 0 v w → AreWritable b thread c space frames slots to_show to_hide w rows
      hidden_now w sets =
          is_written b thread c space frames slots page to_show (page ∷ to_hide) to_show to_hide v rows ready
          (λ q word k other u. not_hidden b thread c frames slots ready.consistent ready.few_frames q word k page other to_show to_hide u)
          order once wide 0 x has leaf (λ old k is was. (hidden_here old k was).1) (inl refl) w sets

    pub may_hide : MayHide (page ∷ []) (λ b space. IsSlotAt (state_of b) space page) v rows → MaySetEntry v x.row index 0
    may_hide (b, thread, c, space, frames, slots, to_show, to_hide, ready, slot) =
        let at = cell_there x.content index (let whole = (ready.each x has).whole in omega arith) in
        set_hidden b thread c space frames slots to_show to_hide ready slot at.0 at.1

    pub words_hidden : MayHide (page ∷ []) (λ b space. IsSlotAt (state_of b) space page) v rows → (w : View B E) → Sets x.row index 0 v w → OnlyWords v w
    words_hidden may w sets = let s = may.8.each x has in word_written v w x.row index 0 s.known s.held s.same_row (inl refl) sets

    pub is_hidden : (w : View B E) → Sets x.row index 0 v w → Hides (page ∷ []) (λ b space. IsSlotAt (state_of b) space page) v w rows
    is_hidden w sets b thread c space frames slots to_show to_hide ready slot = hidden_now b thread c space frames slots to_show to_hide ready slot w sets

-- where the row stands that was found
pub row_at : (rows found : List Row) (at page : ℕ) (x : Row) → x ≡ slice_index_or found at x → found ≡ rows → IsLeafAt rows page (Some at) → Contains rows x × IsLeafOf x page
row_at rows found at page x is same leaf =
    let here : slice_index_or rows at x ≡ x = sym (is ∙ ap (λ (l : List Row). slice_index_or l at x) same) in
    ((at, leaf.0, here), subst (λ (z : Row). IsLeafOf z page) here (leaf.1 x))

-- ---- pages of a list, one after another

module _ (refs : Refs) (i : ℕ) (r : ℕ × CountedPage) (is : r ≡ slice_index_or refs i r) (within : i < length refs) where
  next_is : pages_of (drop i refs) ≡ r.0 ∷ pages_of (drop (i + 1) refs)
  next_is = ap pages_of (drop_more refs i r within) ∙ ap (λ (z : ℕ × CountedPage). z.0 ∷ pages_of (drop (i + 1) refs)) (sym is)

  pub sole_here : (st : State) (space n : ℕ) → n ≡ r.1.number → AreSole st space refs → IsSoleAt st space r.0 n
  sole_here st space n number sole = subst (IsSoleAt st space r.0) (sym number) (subst (λ (z : ℕ × CountedPage). IsSoleAt st space z.0 z.1.number) (sym is) (sole i r within))

  pub slot_here : (st : State) (space : ℕ) → AreSlots st space refs → IsSlotAt st space r.0
  slot_here st space slots = subst (λ (z : ℕ × CountedPage). IsSlotAt st space z.0) (sym is) (slots i r within)

  module _ {B E : Type 0} (b : BookData) (thread : ℕ) (c : Call) (space : ℕ) (frames slots rest others : List ℕ) (v : View B E) (rows : List Row) where
    pub next_shown : AreWritable b thread c space frames slots (pages_of (drop i refs) ++ rest) others v rows → AreWritable b thread c space frames slots (r.0 ∷ (pages_of (drop (i + 1) refs) ++ rest)) others v rows
    next_shown ready = subst (λ (l : List ℕ). AreWritable b thread c space frames slots (l ++ rest) others v rows) next_is ready

    pub next_hidden : AreWritable b thread c space frames slots others (pages_of (drop i refs) ++ rest) v rows → AreWritable b thread c space frames slots others (r.0 ∷ (pages_of (drop (i + 1) refs) ++ rest)) v rows
    next_hidden ready = subst (λ (l : List ℕ). AreWritable b thread c space frames slots others (l ++ rest) v rows) next_is ready

-- after the last one
pub all_shown : {B E : Type 0} (refs : Refs) (i : ℕ) → length refs ≤ i → (b : BookData) (thread : ℕ) (c : Call) (space : ℕ) (frames slots rest others : List ℕ) (v : View B E) (rows : List Row)
    → AreWritable b thread c space frames slots (pages_of (drop i refs) ++ rest) others v rows → AreWritable b thread c space frames slots rest others v rows
all_shown refs i past b thread c space frames slots rest others v rows ready = subst (λ (l : Refs). AreWritable b thread c space frames slots (pages_of l ++ rest) others v rows) (drop_all i refs past) ready

pub all_hidden : {B E : Type 0} (refs : Refs) (i : ℕ) → length refs ≤ i → (b : BookData) (thread : ℕ) (c : Call) (space : ℕ) (frames slots rest others : List ℕ) (v : View B E) (rows : List Row)
    → AreWritable b thread c space frames slots others (pages_of (drop i refs) ++ rest) v rows → AreWritable b thread c space frames slots others rest v rows
all_hidden refs i past b thread c space frames slots rest others v rows ready = subst (λ (l : Refs). AreWritable b thread c space frames slots others (pages_of l ++ rest) v rows) (drop_all i refs past) ready
