-- The word of one page is written.
--     leaf_kind, kind_no_link      the word of a page whose frame no other page has, which is no link
--     show_here, hide_here      the entry of the page
--     not_shown, not_hidden      each other entry
use Rattle.std.specs.Prelude.{◌≡◌, ℕ, ◌+◌, ◌-◌, ◌<◌, ◌≤◌, ◌⊎◌, Bool, true, false, cond, List, ◌∷◌, Option, Some, None}
use Rattle.std.specs.List.{Contains}
use Rattle.std.specs.FinSet as set
use Rattle.std.proofs.Common.{sym, refl, ◌∙◌, ap, subst, arith, inl, inr}
use Rattle.corten_base.specs.declared.permissions.Perm.{Perm}
use Rattle.corten_base.specs.declared.calls.Backing.{Backing}
use Rattle.corten_base.specs.declared.calls.Backing.TheVariants as backing
use Rattle.corten_base.specs.declared.calls.Call.{Call}
use Rattle.page_map.specs.declared.cell.Cell.{Cell as PageCell}
use Rattle.page_map.specs.declared.cell.Cell.TheVariants as page
use Rattle.page_map.specs.Cell.{backing_of, frame_of, perm_of, slot_of}
use Rattle.page_map.specs.State.{State, IsConsistent, levels, cell_at, frame_owners}
use Rattle.walk_core.specs.Words.{is_link, is_leaf, leaf_word, leaf_write}
use Rattle.walk_core.proofs.RowLists.{head_or_later}
use Rattle.walk_core.proofs.Spellings.{zero_no_link, leaf_no_link}
use Rattle.pte_word.proofs.Readings.{leaf_reading, leaf_write-leaf_word}
use Rattle.row_cells.specs.declared.Cell.{Cell}
use Rattle.row_cells.specs.declared.Cell.TheVariants.{Invalid, Table, Anon, File, Mapped, Swapped}
use Rattle.table_place.specs.declared.Place.{Place}
use Rattle.table_place.specs.Place.{span_first}
use Rattle.table_place.proofs.Entries.{level_of}
use Rattle.machine_plan.specs.Agrees.{IsLeafOf, Shows, Spells}
use Rattle.machine_plan.specs.Books.{BookData, state_of}
use Rattle.machine_plan.proofs.Pages.{own_page}
use Rattle.cursor_detach.specs.Left.{came_from}
use Rattle.cursor_apply.specs.Showing.{own_leaf, sole_leaf, IsLeafNow, HasWord, IsWritableCell}

-- ---- words

is_a_leaf : (n : ℕ) (write exec : Bool) → n < 4096 → is_leaf (leaf_word n write exec) ≡ true
is_a_leaf n write exec low = ((leaf_reading n write exec (leaf_word n write exec)).0 (low, refl)).0

own_kind : (perm : Perm) (n : ℕ) → n < 4096 → (own_leaf perm n ≡ 0) ⊎ (is_leaf (own_leaf perm n) ≡ true)
own_kind perm n low = go perm.read
  where
    go : (r : Bool) → (cond r (leaf_word n perm.write perm.exec) 0 ≡ 0) ⊎ (is_leaf (cond r (leaf_word n perm.write perm.exec) 0) ≡ true)
    go true = inr (is_a_leaf n perm.write perm.exec low)
    go false = inl refl

pub leaf_kind : (cell : Cell) (n : ℕ) → n < 4096 → (sole_leaf cell n ≡ 0) ⊎ (is_leaf (sole_leaf cell n) ≡ true)
leaf_kind Invalid n low = inl refl
leaf_kind Table n low = inl refl
leaf_kind (Anon perm) n low = own_kind perm n low
leaf_kind (File perm file index) n low = own_kind perm n low
leaf_kind (Mapped perm origin old) n low = own_kind perm n low
leaf_kind (Swapped perm origin slot) n low = own_kind perm n low

pub kind_no_link : (w : ℕ) → (w ≡ 0) ⊎ (is_leaf w ≡ true) → is_link w ≡ false
kind_no_link w (inl none) = ap is_link none ∙ zero_no_link
kind_no_link w (inr leaf) = leaf_no_link w leaf

leaf_now : (st : State) (c : Call) (perm : Perm) (n : ℕ) → n < 4096 → frame_owners st n ≡ 1 → IsLeafNow st c perm n (own_leaf perm n)
leaf_now st c perm n low one = record {
  leaf = record {
    unread = λ r. ap (λ t. cond t (leaf_word n perm.write perm.exec) 0) r;
    read = λ r. (perm.write, ap (λ t. cond t (leaf_word n perm.write perm.exec) 0) r, λ w. (w, one));
  };
  full = λ stores r w. ap (λ t. leaf_write (cond t (leaf_word n perm.write perm.exec) 0)) r ∙ (ap (λ t. leaf_write (leaf_word n t perm.exec)) w ∙ leaf_write-leaf_word n true perm.exec low);
}

pub leaf_is_no_link : (st : State) (perm : Perm) (n word : ℕ) → n < 4096 → IsLeafOf st perm n word → is_link word ≡ false
leaf_is_no_link st perm n word low is = go perm.read refl
  where
    go : (r : Bool) → perm.read ≡ r → is_link word ≡ false
    go false e = ap is_link (is.unread e) ∙ zero_no_link
    go true e = let l = is.read e in ap is_link l.1 ∙ leaf_no_link (leaf_word n l.0 perm.exec) (is_a_leaf n l.0 perm.exec low)

-- what a cell with or without its reference came from
sole_from : (origin : Backing) (perm : Perm) (n : ℕ) → sole_leaf (came_from origin perm) n ≡ own_leaf perm n
sole_from backing.Zero perm n = refl
sole_from (backing.File file index) perm n = refl

-- ---- entries

-- what a cell says of the only page below its entry
abbrev pub page_of : Cell → ℕ → Option PageCell
page_of Invalid i = None
page_of Table i = None
page_of (Anon perm) i = Some (page.Anon perm)
page_of (File perm file index) i = Some (page.File perm file (index + i))
page_of (Mapped perm origin frame) i = Some (page.Mapped perm origin frame.number frame.body.bytes)
page_of (Swapped perm origin slot) i = Some (page.Swapped perm origin slot.number slot.body.bytes)

module _ (st : State) (is : IsConsistent st) (q : Place) (low : q.level ≡ 0) where
  pub no_table : set.contains st.tables q ≡ true → ⊥
  no_table there = let depth = level_of (levels st) q (is.places q there) in omega (arith, depth.0, low)

  pub page_is : (cell : Cell) → Shows st q cell → cell_at st q.space q.prefix ≡ page_of cell (q.prefix - span_first q)
  page_is Invalid shows = shows.1 q.space q.prefix (own_page q low)
  page_is Table shows = absurd (no_table shows)
  page_is (Anon perm) shows = shows.1 q.space q.prefix (own_page q low)
  page_is (File perm file index) shows = shows.1 q.space q.prefix (own_page q low)
  page_is (Mapped perm origin frame) shows = shows.2 q.space q.prefix (own_page q low)
  page_is (Swapped perm origin slot) shows = shows.2 q.space q.prefix (own_page q low)

abbrev number_in : (PageCell → Option ℕ) → Option PageCell → Option ℕ
number_in number_of None = None
number_in number_of (Some x) = number_of x

module _ (b : BookData) (thread : ℕ) (c : Call) (frames slots : List ℕ) (is : IsConsistent (state_of b)) (few : (state_of b).limits.frames ≤ 4096) (q : Place) (word : ℕ) (cell : Cell) where
  abbrev st : State
  st = state_of b

  abbrev Writable : List ℕ → List ℕ → ℕ → Type 0
  Writable to_show to_hide w = IsWritableCell b thread c frames slots to_show to_hide q w cell

  frame_below : (x : PageCell) (n : ℕ) → cell_at st q.space q.prefix ≡ Some x → frame_of x ≡ Some n → n < 4096
  frame_below x n there carries = let less = is.frames q.space q.prefix n x there carries in omega (arith, less, few)

  module _ (low : q.level ≡ 0) (x : PageCell) (there : cell_at st q.space q.prefix ≡ Some x) where
    tells : (number_of : PageCell → Option ℕ) (n : ℕ) → number_of x ≡ Some n → Shows st q cell → number_in number_of (page_of cell (q.prefix - span_first q)) ≡ Some n
    tells number_of n carries shows = ap (number_in number_of) (sym (page_is st is q low cell shows) ∙ there) ∙ carries

    drawn_is : (d : PageCell) → cell_at st q.space q.prefix ≡ Some d → d ≡ x
    drawn_is d at = let same : Some d ≡ Some x = sym at ∙ there in cc

    module _ (n : ℕ) (carries : frame_of x ≡ Some n) (one : frame_owners st n ≡ 1) (to_show to_hide : List ℕ) where
      few_n : n < 4096
      few_n = frame_below x n there carries

      show_whole : (k : Cell) → number_in frame_of (page_of k (q.prefix - span_first q)) ≡ Some n → Spells st k word → (is_link word ≡ false) × Spells st k (sole_leaf k n)
      show_whole Invalid e spells = absurd (cc)
      show_whole Table e spells = absurd (cc)
      show_whole (Anon perm) e spells = absurd (cc)
      show_whole (File perm file index) e spells = absurd (cc)
      show_whole (Swapped perm origin slot) e spells = absurd (cc)
      show_whole (Mapped perm origin frame) e spells =
          let same : n ≡ frame.number = cc in
          (leaf_is_no_link st perm n word few_n (subst (λ m. IsLeafOf st perm m word) (sym same) spells), subst (λ m. IsLeafOf st perm m (own_leaf perm n)) same (leaf_now st c perm n few_n one).leaf)

      show_drawn : (d : PageCell) → frame_of d ≡ Some n → cell ≡ came_from (backing_of d) (perm_of d) → HasWord st c to_show to_hide q word d → (is_link word ≡ false) × ((to' hide' : List ℕ) → HasWord st c to' hide' q (sole_leaf cell n) d)
      show_drawn (page.Anon perm) e from h = absurd (cc)
      show_drawn (page.File perm file index) e from h = absurd (cc)
      show_drawn (page.Swapped perm origin slot bytes) e from h = absurd (cc)
      show_drawn (page.Mapped perm origin f bytes) e from h =
          let same : n ≡ f = cc in
          let word_is : own_leaf perm n ≡ sole_leaf cell n = sym (ap (λ (k : Cell). sole_leaf k n) from ∙ sole_from origin perm n) in (
            elim h [
              | inl leaf ↦ leaf_is_no_link st perm n word few_n (subst (λ m. IsLeafOf st perm m word) (sym same) leaf.leaf)
              | inr old ↦ old.0
            ],
            λ to' hide'. inl (subst (λ m. IsLeafNow st c perm m (sole_leaf cell n)) same (subst (IsLeafNow st c perm n) word_is (leaf_now st c perm n few_n one))),
          )

      pub show_here : Writable to_show to_hide word → (is_link word ≡ false) × ((to' : List ℕ) → Writable to' to_hide (sole_leaf cell n))
      show_here (inl whole) =
          let s = show_whole cell (tells frame_of n carries whole.shows) whole.spells in
          (s.0, λ to'. inl (record { shows = whole.shows; spells = s.1; bytes = whole.bytes; unused = whole.unused }))
      show_here (inr drawn) =
          let s = show_drawn drawn.page (ap frame_of (drawn_is drawn.page drawn.there) ∙ carries) drawn.is drawn.has_word in
          (s.0, λ to'. inr (record { page = drawn.page; lone = drawn.lone; low = drawn.low; there = drawn.there; is = drawn.is; listed = drawn.listed; has_word = s.1 to' to_hide }))

    module _ (n : ℕ) (carries : slot_of x ≡ Some n) (to_show to_hide : List ℕ) where
      hide_whole : (k : Cell) → number_in slot_of (page_of k (q.prefix - span_first q)) ≡ Some n → Spells st k word → (is_link word ≡ false) × Spells st k 0
      hide_whole Invalid e spells = absurd (cc)
      hide_whole Table e spells = absurd (cc)
      hide_whole (Anon perm) e spells = absurd (cc)
      hide_whole (File perm file index) e spells = absurd (cc)
      hide_whole (Mapped perm origin frame) e spells = absurd (cc)
      hide_whole (Swapped perm origin slot) e spells = (ap is_link spells ∙ zero_no_link, refl)

      hide_drawn : (d : PageCell) → slot_of d ≡ Some n → HasWord st c to_show to_hide q word d → (is_link word ≡ false) × ((to' hide' : List ℕ) → HasWord st c to' hide' q 0 d)
      hide_drawn (page.Anon perm) e h = absurd (cc)
      hide_drawn (page.File perm file index) e h = absurd (cc)
      hide_drawn (page.Mapped perm origin frame bytes) e h = absurd (cc)
      hide_drawn (page.Swapped perm origin slot bytes) e h = (elim h [ inl none ↦ ap is_link none ∙ zero_no_link | inr old ↦ old.0 ], λ to' hide'. inl refl)

      pub hide_here : Writable to_show to_hide word → (is_link word ≡ false) × ((hide' : List ℕ) → Writable to_show hide' 0)
      hide_here (inl whole) =
          let s = hide_whole cell (tells slot_of n carries whole.shows) whole.spells in
          (s.0, λ hide'. inl (record { shows = whole.shows; spells = s.1; bytes = whole.bytes; unused = whole.unused }))
      hide_here (inr drawn) =
          let s = hide_drawn drawn.page (ap slot_of (drawn_is drawn.page drawn.there) ∙ carries) drawn.has_word in
          (s.0, λ hide'. inr (record { page = drawn.page; lone = drawn.lone; low = drawn.low; there = drawn.there; is = drawn.is; listed = drawn.listed; has_word = s.1 to_show hide' }))

  module _ (p : ℕ) (other : q.level ≡ 0 → q.prefix ≡ p → ⊥) where
    less : (l : List ℕ) → q.level ≡ 0 → Contains (p ∷ l) q.prefix → Contains l q.prefix
    less l low has = elim (head_or_later p l q.prefix has) [ inl same ↦ absurd (other low (sym same)) | inr later ↦ later ]

    pub not_shown : (to_show to_hide : List ℕ) → Writable (p ∷ to_show) to_hide word → Writable to_show to_hide word
    not_shown to_show to_hide (inl whole) = inl whole
    not_shown to_show to_hide (inr drawn) = inr (record { page = drawn.page; lone = drawn.lone; low = drawn.low; there = drawn.there; is = drawn.is; listed = drawn.listed; has_word = go drawn.page drawn.has_word })
      where
        go : (d : PageCell) → HasWord st c (p ∷ to_show) to_hide q word d → HasWord st c to_show to_hide q word d
        go (page.Mapped perm origin frame bytes) (inl leaf) = inl leaf
        go (page.Mapped perm origin frame bytes) (inr old) = inr (old.0, less to_show drawn.low old.1)
        go (page.Swapped perm origin slot bytes) h = h
        go (page.Anon perm) h = h
        go (page.File perm file index) h = h

    pub not_hidden : (to_show to_hide : List ℕ) → Writable to_show (p ∷ to_hide) word → Writable to_show to_hide word
    not_hidden to_show to_hide (inl whole) = inl whole
    not_hidden to_show to_hide (inr drawn) = inr (record { page = drawn.page; lone = drawn.lone; low = drawn.low; there = drawn.there; is = drawn.is; listed = drawn.listed; has_word = go drawn.page drawn.has_word })
      where
        go : (d : PageCell) → HasWord st c to_show (p ∷ to_hide) q word d → HasWord st c to_show to_hide q word d
        go (page.Swapped perm origin slot bytes) (inl none) = inl none
        go (page.Swapped perm origin slot bytes) (inr old) = inr (old.0, less to_hide drawn.low old.1)
        go (page.Mapped perm origin frame bytes) h = h
        go (page.Anon perm) h = h
        go (page.File perm file index) h = h
