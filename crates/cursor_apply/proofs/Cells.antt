-- A cell of which the reference comes back.
--     filled_frame, filled_slot      the cell of that page
--     other_frame, other_slot      each other cell
use Rattle.std.specs.Prelude.{◌≡◌, ℕ, ◌+◌, ◌-◌, ◌⊎◌, List, [], ◌∷◌, ◌++◌, Some, None}
use Rattle.std.specs.List.{Contains}
use Rattle.std.proofs.Common.{sym, refl, ◌∙◌, ap, subst, inl, inr}
use Rattle.std.proofs.lemmas.List.Elements.{Contains-push_cases}
use Rattle.corten_base.specs.declared.permissions.Perm.{Perm}
use Rattle.corten_base.specs.declared.calls.Backing.{Backing}
use Rattle.corten_base.specs.declared.calls.Backing.TheVariants as backing
use Rattle.counted_pages.specs.Pages.{CountedPage}
use Rattle.page_map.specs.declared.cell.Cell.{Cell as PageCell}
use Rattle.page_map.specs.declared.cell.Cell.TheVariants as page
use Rattle.page_map.specs.Cell.{contents, frame_of, slot_of}
use Rattle.page_map.specs.State.{State, cell_at}
use Rattle.row_cells.specs.declared.Cell.{Cell}
use Rattle.row_cells.specs.declared.Cell.TheVariants.{Invalid, Table, Anon, File, Mapped, Swapped}
use Rattle.table_place.specs.declared.Place.{Place}
use Rattle.table_place.specs.Place.{span_first}
use Rattle.machine_plan.specs.Agrees.{HasBytes, HasSpareFor, IsLeafOf, Shows, Spells, EachPage}
use Rattle.machine_plan.specs.Books.{BookData, state_of}
use Rattle.machine_plan.proofs.Pages.{own_page}
use Rattle.cursor_detach.specs.Left.{came_from}
use Rattle.cursor_apply.specs.declared.putting.Reference.TheVariants as reference
use Rattle.cursor_apply.specs.Putting.{filled_cell, IsRefOf, IsLacking, IsShortCell}

filled_from : (origin : Backing) (perm : Perm) (frame : CountedPage) → filled_cell (came_from origin perm) (reference.Frame frame) ≡ Mapped perm origin frame
filled_from backing.Zero perm frame = refl
filled_from (backing.File file index) perm frame = refl

filled_from_slot : (origin : Backing) (perm : Perm) (slot : CountedPage) → filled_cell (came_from origin perm) (reference.Slot slot) ≡ Swapped perm origin slot
filled_from_slot backing.Zero perm slot = refl
filled_from_slot (backing.File file index) perm slot = refl

module _ (b : BookData) (frames slots : List ℕ) (q : Place) (word : ℕ) (cell : Cell) where
  abbrev st : State
  st = state_of b

  -- a page that is not the last of the list lacks what it lacked
  pub other_frame : (p : ℕ) → (q.level ≡ 0 → q.prefix ≡ p → ⊥) → IsShortCell b (frames ++ p ∷ []) slots q word cell → IsShortCell b frames slots q word cell
  other_frame p other short = record { was = short.was; shows = short.shows; spells = short.spells; is = go short.was short.shows short.is }
    where
      less : q.level ≡ 0 → Contains (frames ++ p ∷ []) q.prefix → Contains frames q.prefix
      less low has = elim (Contains-push_cases frames p q.prefix has) [ inl before ↦ before | inr same ↦ absurd (other low (sym same)) ]

      lacks : (c : Cell) → Shows st q c → IsLacking (frames ++ p ∷ []) slots q c cell → IsLacking frames slots q c cell
      lacks (Mapped perm origin frame) shows l = (l.0, less shows.1 l.1)
      lacks (Swapped perm origin slot) shows l = l
      lacks Invalid shows l = l
      lacks Table shows l = l
      lacks (Anon perm) shows l = l
      lacks (File perm file index) shows l = l

      go : (c : Cell) → Shows st q c → ((cell ≡ c) × HasBytes b c) ⊎ IsLacking (frames ++ p ∷ []) slots q c cell → ((cell ≡ c) × HasBytes b c) ⊎ IsLacking frames slots q c cell
      go c shows (inl whole) = inl whole
      go c shows (inr l) = inr (lacks c shows l)

  pub other_slot : (p : ℕ) → (q.level ≡ 0 → q.prefix ≡ p → ⊥) → IsShortCell b frames (slots ++ p ∷ []) q word cell → IsShortCell b frames slots q word cell
  other_slot p other short = record { was = short.was; shows = short.shows; spells = short.spells; is = go short.was short.shows short.is }
    where
      less : q.level ≡ 0 → Contains (slots ++ p ∷ []) q.prefix → Contains slots q.prefix
      less low has = elim (Contains-push_cases slots p q.prefix has) [ inl before ↦ before | inr same ↦ absurd (other low (sym same)) ]

      lacks : (c : Cell) → Shows st q c → IsLacking frames (slots ++ p ∷ []) q c cell → IsLacking frames slots q c cell
      lacks (Mapped perm origin frame) shows l = l
      lacks (Swapped perm origin slot) shows l = (l.0, less shows.1 l.1)
      lacks Invalid shows l = l
      lacks Table shows l = l
      lacks (Anon perm) shows l = l
      lacks (File perm file index) shows l = l

      go : (c : Cell) → Shows st q c → ((cell ≡ c) × HasBytes b c) ⊎ IsLacking frames (slots ++ p ∷ []) q c cell → ((cell ≡ c) × HasBytes b c) ⊎ IsLacking frames slots q c cell
      go c shows (inl whole) = inl whole
      go c shows (inr l) = inr (lacks c shows l)

  module _ (space p : ℕ) (low : q.level ≡ 0) (here : q.space ≡ space) (at : q.prefix ≡ p) where
    -- what the state has there
    there : (c : PageCell) → EachPage st q (λ _. Some c) → cell_at st space p ≡ Some c
    there c each = subst (λ s. cell_at st s p ≡ Some c) here (subst (λ n. cell_at st q.space n ≡ Some c) at (each q.space q.prefix (own_page q low)))

    one_cell : (c d : PageCell) → cell_at st space p ≡ Some c → cell_at st space p ≡ Some d → c ≡ d
    one_cell c d e f = let both = sym e ∙ f in cc

    -- the frame of the page
    pub filled_frame : (r : CountedPage) → IsRefOf st space frame_of p r → HasSpareFor b.frames r → IsShortCell b (frames ++ p ∷ []) slots q word cell → IsShortCell b frames slots q word (filled_cell cell (reference.Frame r))
    filled_frame r ref spare short = go short.was short.shows short.spells short.is
      where
        none : (c : PageCell) → EachPage st q (λ _. Some c) → frame_of c ≡ None → ⊥
        none c each e = let same = one_cell ref.cell c ref.there (there c each) in let clash = sym ref.carries ∙ (ap frame_of same ∙ e) in absurd (cc)

        numbers : (perm : Perm) (origin : Backing) (f : CountedPage) → EachPage st q (λ _. Some (page.Mapped perm origin f.number f.body.bytes)) → (f.number ≡ r.number) × (f.body.bytes ≡ r.body.bytes)
        numbers perm origin f each =
            let same : ref.cell ≡ page.Mapped perm origin f.number f.body.bytes = one_cell ref.cell (page.Mapped perm origin f.number f.body.bytes) ref.there (there (page.Mapped perm origin f.number f.body.bytes) each) in
            let number : Some f.number ≡ Some r.number = ap frame_of (sym same) ∙ ref.carries in
            (cc, ap (contents []) (sym same) ∙ ref.bytes)

        go : (c : Cell) → Shows st q c → Spells st c word → ((cell ≡ c) × HasBytes b c) ⊎ IsLacking (frames ++ p ∷ []) slots q c cell → IsShortCell b frames slots q word (filled_cell cell (reference.Frame r))
        go Invalid shows spells (inl whole) = record { was = Invalid; shows = shows; spells = spells; is = inl (ap (λ x. filled_cell x (reference.Frame r)) whole.0, tt) }
        go Table shows spells (inl whole) = record { was = Table; shows = shows; spells = spells; is = inl (ap (λ x. filled_cell x (reference.Frame r)) whole.0, tt) }
        go (Anon perm) shows spells (inl whole) = absurd (none (page.Anon perm) shows.1 refl)
        go (File perm file index) shows spells (inl whole) = absurd (none_file perm file index shows.1)
          where
            none_file : (perm : Perm) (file index : ℕ) → EachPage st q (λ i. Some (page.File perm file (index + i))) → ⊥
            none_file perm file index each =
                let at_it = subst (λ s. cell_at st s p ≡ Some (page.File perm file (index + (q.prefix - span_first q)))) here (subst (λ n. cell_at st q.space n ≡ Some (page.File perm file (index + (q.prefix - span_first q)))) at (each q.space q.prefix (own_page q low))) in
                let same = one_cell ref.cell (page.File perm file (index + (q.prefix - span_first q))) ref.there at_it in
                let clash = sym ref.carries ∙ ap frame_of same in
                absurd (cc)
        go (Mapped perm origin f) shows spells (inl whole) = record { was = Mapped perm origin f; shows = shows; spells = spells; is = inl (ap (λ x. filled_cell x (reference.Frame r)) whole.0, whole.1) }
        go (Swapped perm origin s) shows spells (inl whole) = record { was = Swapped perm origin s; shows = shows; spells = spells; is = inl (ap (λ x. filled_cell x (reference.Frame r)) whole.0, whole.1) }
        go (Mapped perm origin f) shows spells (inr lacks) =
            let same = numbers perm origin f shows.2 in
            record {
              was = Mapped perm origin r;
              shows = (shows.0, shows.1, subst (λ n. EachPage st q (λ _. Some (page.Mapped perm origin n r.body.bytes))) same.0 (subst (λ bs. EachPage st q (λ _. Some (page.Mapped perm origin f.number bs))) same.1 shows.2));
              spells = subst (λ n. IsLeafOf st perm n word) same.0 spells;
              is = inl (ap (λ x. filled_cell x (reference.Frame r)) lacks.0 ∙ filled_from origin perm r, spare);
            }
        go (Swapped perm origin s) shows spells (inr lacks) = absurd (none (page.Swapped perm origin s.number s.body.bytes) shows.2 refl)
        go Invalid shows spells (inr lacks) = absurd lacks
        go Table shows spells (inr lacks) = absurd lacks
        go (Anon perm) shows spells (inr lacks) = absurd lacks
        go (File perm file index) shows spells (inr lacks) = absurd lacks

    -- the slot of the page
    pub filled_slot : (r : CountedPage) → IsRefOf st space slot_of p r → HasSpareFor b.slots r → IsShortCell b frames (slots ++ p ∷ []) q word cell → IsShortCell b frames slots q word (filled_cell cell (reference.Slot r))
    filled_slot r ref spare short = go short.was short.shows short.spells short.is
      where
        none : (c : PageCell) → EachPage st q (λ _. Some c) → slot_of c ≡ None → ⊥
        none c each e = let same = one_cell ref.cell c ref.there (there c each) in let clash = sym ref.carries ∙ (ap slot_of same ∙ e) in absurd (cc)

        numbers : (perm : Perm) (origin : Backing) (f : CountedPage) → EachPage st q (λ _. Some (page.Swapped perm origin f.number f.body.bytes)) → (f.number ≡ r.number) × (f.body.bytes ≡ r.body.bytes)
        numbers perm origin f each =
            let same : ref.cell ≡ page.Swapped perm origin f.number f.body.bytes = one_cell ref.cell (page.Swapped perm origin f.number f.body.bytes) ref.there (there (page.Swapped perm origin f.number f.body.bytes) each) in
            let number : Some f.number ≡ Some r.number = ap slot_of (sym same) ∙ ref.carries in
            (cc, ap (contents []) (sym same) ∙ ref.bytes)

        go : (c : Cell) → Shows st q c → Spells st c word → ((cell ≡ c) × HasBytes b c) ⊎ IsLacking frames (slots ++ p ∷ []) q c cell → IsShortCell b frames slots q word (filled_cell cell (reference.Slot r))
        go Invalid shows spells (inl whole) = record { was = Invalid; shows = shows; spells = spells; is = inl (ap (λ x. filled_cell x (reference.Slot r)) whole.0, tt) }
        go Table shows spells (inl whole) = record { was = Table; shows = shows; spells = spells; is = inl (ap (λ x. filled_cell x (reference.Slot r)) whole.0, tt) }
        go (Anon perm) shows spells (inl whole) = absurd (none (page.Anon perm) shows.1 refl)
        go (File perm file index) shows spells (inl whole) = absurd (none_file perm file index shows.1)
          where
            none_file : (perm : Perm) (file index : ℕ) → EachPage st q (λ i. Some (page.File perm file (index + i))) → ⊥
            none_file perm file index each =
                let at_it = subst (λ s. cell_at st s p ≡ Some (page.File perm file (index + (q.prefix - span_first q)))) here (subst (λ n. cell_at st q.space n ≡ Some (page.File perm file (index + (q.prefix - span_first q)))) at (each q.space q.prefix (own_page q low))) in
                let same = one_cell ref.cell (page.File perm file (index + (q.prefix - span_first q))) ref.there at_it in
                let clash = sym ref.carries ∙ ap slot_of same in
                absurd (cc)
        go (Mapped perm origin f) shows spells (inl whole) = record { was = Mapped perm origin f; shows = shows; spells = spells; is = inl (ap (λ x. filled_cell x (reference.Slot r)) whole.0, whole.1) }
        go (Swapped perm origin s) shows spells (inl whole) = record { was = Swapped perm origin s; shows = shows; spells = spells; is = inl (ap (λ x. filled_cell x (reference.Slot r)) whole.0, whole.1) }
        go (Swapped perm origin f) shows spells (inr lacks) =
            let same = numbers perm origin f shows.2 in
            record {
              was = Swapped perm origin r;
              shows = (shows.0, shows.1, subst (λ n. EachPage st q (λ _. Some (page.Swapped perm origin n r.body.bytes))) same.0 (subst (λ bs. EachPage st q (λ _. Some (page.Swapped perm origin f.number bs))) same.1 shows.2));
              spells = spells;
              is = inl (ap (λ x. filled_cell x (reference.Slot r)) lacks.0 ∙ filled_from_slot origin perm r, spare);
            }
        go (Mapped perm origin s) shows spells (inr lacks) = absurd (none (page.Mapped perm origin s.number s.body.bytes) shows.2 refl)
        go Invalid shows spells (inr lacks) = absurd lacks
        go Table shows spells (inr lacks) = absurd lacks
        go (Anon perm) shows spells (inr lacks) = absurd lacks
        go (File perm file index) shows spells (inr lacks) = absurd lacks
