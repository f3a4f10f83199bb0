-- The word of one page whose frame other pages have too.
--     leaf_kind      it is 0 or a leaf
--     low_frame      its frame has a place in a leaf
--     share_here, share_other      the entry of the page;  each other one
use Rattle.std.specs.Prelude.{◌≡◌, ℕ, ◌+◌, ◌-◌, ◌<◌, ◌≤◌, ◌⊎◌, Bool, true, false, cond, List, ◌∷◌, Some, None}
use Rattle.std.specs.List.{Contains}
use Rattle.std.proofs.Common.{sym, refl, ◌∙◌, ap, subst, arith, inl, inr}
use Rattle.std.proofs.lemmas.Bool.{true≢false}
use Rattle.corten_base.specs.declared.permissions.Perm.{Perm}
use Rattle.corten_base.specs.declared.calls.Backing.{Backing}
use Rattle.corten_base.specs.declared.calls.Backing.TheVariants as backing
use Rattle.page_map.specs.declared.cell.Cell.{Cell as PageCell}
use Rattle.page_map.specs.declared.cell.Cell.TheVariants as page
use Rattle.page_map.specs.Cell.{frame_of}
use Rattle.page_map.specs.State.{State, IsConsistent, levels, cell_at}
use Rattle.page_map.proofs.Steps.{not_none}
use Rattle.walk_core.specs.Words.{is_link, is_leaf, leaf_word}
use Rattle.walk_core.proofs.RowLists.{head_or_later}
use Rattle.pte_word.proofs.Readings.{leaf_reading}
use Rattle.row_cells.specs.declared.Cell.{Cell}
use Rattle.row_cells.specs.declared.Cell.TheVariants.{Invalid, Table, Anon, File, Mapped, Swapped}
use Rattle.table_place.specs.declared.Place.{Place}
use Rattle.table_place.specs.Place.{span_first}
use Rattle.machine_plan.specs.Agrees.{IsLeafOf, HasBytes, Shows, Spells}
use Rattle.machine_plan.specs.Books.{BookData, state_of}
use Rattle.cursor_detach.specs.Left.{came_from, drawn_cell}
use Rattle.cursor_apply.specs.Sharing.{common_leaf, shared_leaf, IsOldWord, IsSharingCell, IsFrameAt}
use Rattle.cursor_apply.proofs.Writing.{leaf_is_no_link, no_table, page_is, page_of}

common_kind : (perm : Perm) (n : ℕ) → n < 4096 → (common_leaf perm n ≡ 0) ⊎ (is_leaf (common_leaf perm n) ≡ true)
common_kind perm n low = go perm.read
  where
    go : (r : Bool) → (cond r (leaf_word n false perm.exec) 0 ≡ 0) ⊎ (is_leaf (cond r (leaf_word n false perm.exec) 0) ≡ true)
    go true = inr ((leaf_reading n false perm.exec (leaf_word n false perm.exec)).0 (low, refl)).0
    go false = inl refl

pub leaf_kind : (cell : Cell) (n : ℕ) → n < 4096 → (shared_leaf cell n ≡ 0) ⊎ (is_leaf (shared_leaf cell n) ≡ true)
leaf_kind Invalid n low = inl refl
leaf_kind Table n low = inl refl
leaf_kind (Anon perm) n low = common_kind perm n low
leaf_kind (File perm file index) n low = common_kind perm n low
leaf_kind (Mapped perm origin old) n low = common_kind perm n low
leaf_kind (Swapped perm origin slot) n low = common_kind perm n low

common_from : (origin : Backing) (perm : Perm) (n : ℕ) → shared_leaf (came_from origin perm) n ≡ common_leaf perm n
common_from backing.Zero perm n = refl
common_from (backing.File file index) perm n = refl

-- it has no writing bit, so it may stand whatever other pages have
common_is_leaf : (st : State) (perm : Perm) (n : ℕ) → IsLeafOf st perm n (common_leaf perm n)
common_is_leaf st perm n = record {
  unread = λ r. ap (λ t. cond t (leaf_word n false perm.exec) 0) r;
  read = λ r. (false, ap (λ t. cond t (leaf_word n false perm.exec) 0) r, λ w. absurd (true≢false (sym w)));
}

module _ (b : BookData) (space at_page frame : ℕ) (is : IsConsistent (state_of b)) (few : (state_of b).limits.frames ≤ 4096) (right : IsFrameAt (state_of b) space at_page frame) where
  abbrev st : State
  st = state_of b

  pub low_frame : frame < 4096
  low_frame = let less = is.frames space at_page frame right.cell right.there right.carries in omega (arith, less, few)

  module _ (q : Place) (word : ℕ) (cell : Cell) (low : q.level ≡ 0) (here : q.space ≡ space) (at : q.prefix ≡ at_page) where
    there : cell_at (state_of b) q.space q.prefix ≡ Some right.cell
    there = (λ i. cell_at (state_of b) (here i) (at i)) ∙ right.there

    told : (was : Cell) → Shows (state_of b) q was → Some right.cell ≡ page_of was (q.prefix - span_first q)
    told was shows = sym there ∙ page_is (state_of b) is q low was shows

    -- what else stood at the page would have no frame
    never : (x : PageCell) → frame_of x ≡ None → right.cell ≡ x → ⊥
    never x none same = not_none (sym right.carries ∙ (ap frame_of same ∙ none))

    said : (was : Cell) → Shows (state_of b) q was → ((cell ≡ was) × HasBytes b was) ⊎ (cell ≡ drawn_cell was) → (to_share : List ℕ) (beside : ℕ × List ℕ) → Spells (state_of b) was word ⊎ IsOldWord space to_share q word ⊎ IsOldWord beside.0 beside.1 q word
        → (is_link word ≡ false) × Spells (state_of b) was (shared_leaf cell frame)
    said Invalid shows from to_share beside spells = let e = told Invalid shows in absurd (cc)
    said Table shows from to_share beside spells = absurd (no_table (state_of b) is q low shows)
    said (Anon perm) shows from to_share beside spells = let e = told (Anon perm) shows in absurd (never (page.Anon perm) refl (cc))
    said (File perm file index) shows from to_share beside spells = let e = told (File perm file index) shows in absurd (never (page.File perm file (index + (q.prefix - span_first q))) refl (cc))
    said (Swapped perm origin slot) shows from to_share beside spells = let e = told (Swapped perm origin slot) shows in absurd (never (page.Swapped perm origin slot.number slot.body.bytes) refl (cc))
    said (Mapped perm origin f) shows from to_share beside spells =
        let e = told (Mapped perm origin f) shows in
        let x_is : right.cell ≡ page.Mapped perm origin f.number f.body.bytes = cc in
        let number : Some frame ≡ Some f.number = sym right.carries ∙ ap frame_of x_is in
        let same : frame ≡ f.number = cc in
        let leaf_is : common_leaf perm frame ≡ shared_leaf cell frame = elim from [
          | inl whole ↦ sym (ap (λ (k : Cell). shared_leaf k frame) whole.0)
          | inr drawn ↦ sym (ap (λ (k : Cell). shared_leaf k frame) drawn ∙ common_from origin perm frame)
        ] in (
          elim spells [
            | inl leaf ↦ leaf_is_no_link (state_of b) perm f.number word (subst (λ n. n < 4096) same low_frame) leaf
            | inr old ↦ elim old [ inl one ↦ one.no_link | inr two ↦ two.no_link ]
          ],
          subst (IsLeafOf (state_of b) perm f.number) leaf_is (subst (λ n. IsLeafOf (state_of b) perm n (common_leaf perm frame)) same (common_is_leaf (state_of b) perm frame)),
        )

    pub share_here : (to_share : List ℕ) (beside : ℕ × List ℕ) → IsSharingCell b space (at_page ∷ to_share) beside q word cell → (is_link word ≡ false) × IsSharingCell b space to_share beside q (shared_leaf cell frame) cell
    share_here to_share beside s = let w = said s.was s.shows s.is (at_page ∷ to_share) beside s.spells in (w.0, record { was = s.was; shows = s.shows; is = s.is; spells = inl w.1 })

pub share_other : (b : BookData) (space at_page : ℕ) (to_share : List ℕ) (beside : ℕ × List ℕ) (q : Place) (word : ℕ) (cell : Cell) → (q.level ≡ 0 → q.space ≡ space → q.prefix ≡ at_page → ⊥) → IsSharingCell b space (at_page ∷ to_share) beside q word cell → IsSharingCell b space to_share beside q word cell
share_other b space at_page to_share beside q word cell other s = record {
  was = s.was;
  shows = s.shows;
  is = s.is;
  spells = elim s.spells [
    | inl now ↦ inl now
    | inr older ↦ (elim older [
      | inl old ↦ (elim (head_or_later at_page to_share q.prefix old.listed) [
        | inl same ↦ absurd (other old.low old.of_space (sym same))
        | inr later ↦ inr (inl (record { low = old.low; of_space = old.of_space; listed = later; no_link = old.no_link }))
      ])
      | inr two ↦ inr (inr two)
    ])
  ];
}
