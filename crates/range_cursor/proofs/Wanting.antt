-- Wants and references of a range of pages, from what the rows have there.
use Rattle.std.specs.Prelude.{◌≡◌, ℕ, zero, suc, ◌+◌, ◌-◌, ◌*◌, ◌/◌, ◌%◌, ◌^◌, ◌<◌, ◌≤◌, ◌⊎◌, Bool, true, false, List, [], ◌∷◌, ◌++◌, length, slice_get, slice_index_or, Option, Some, None}
use Rattle.std.specs.List.{All, Contains, filter, flat_map}
use Rattle.std.specs.FinSet as set
use Rattle.std.specs.FinMap as fin
use Rattle.std.specs.FinMap.{get}
use Rattle.std.proofs.Common.{sym, refl, ◌∙◌, ap, subst, arith, inl, inr}
use Rattle.std.proofs.lemmas.Bool.{false≢true}
use Rattle.corten_base.specs.declared.numbers.Status.{Status}
use Rattle.counted_pages.specs.Pages.{CountedPage, PageCounts}
use Rattle.page_map.specs.declared.cell.Cell.{Cell as PageCell}
use Rattle.page_map.specs.declared.cell.Cell.TheVariants as page
use Rattle.page_map.specs.Cell.{status_of, frame_of, slot_of}
use Rattle.page_map.specs.State.{State, AddressSpace, IsConsistent, levels, cell_at, space_at}
use Rattle.row_cells.specs.declared.Cell.{Cell}
use Rattle.row_cells.specs.declared.Cell.TheVariants.{Invalid, Table, Anon, File, Mapped, Swapped}
use Rattle.table_place.specs.declared.Place.{Place}
use Rattle.table_place.specs.Place.{place_of, has_page, index_at, span_first, directory}
use Rattle.table_place.specs.Range.{within}
use Rattle.table_place.proofs.Entries.{page_parts}
use Rattle.machine_plan.specs.declared.kit.Want.{Want}
use Rattle.machine_plan.specs.Agrees.{below, Shows, HasSpareFor, HasBytes}
use Rattle.machine_plan.specs.Books.{BookData}
use Rattle.machine_plan.specs.HeldRows.{Row, RowsShown, AreAsked, IsAsked, is_table}
use Rattle.machine_plan.specs.Kits.{AreBacked}
use Rattle.machine_plan.specs.Uses.{access_want, wanted_at, wants_in, ref_at, refs_of, shown_ref, shown_refs}
use Rattle.machine_plan.proofs.Asked.{next_below}
use Rattle.machine_plan.proofs.Near.{level_is}
use Rattle.machine_plan.proofs.Towers.{tower_has}
use Rattle.range_cursor.specs.Drawing.{leaf_place, CellOf, frame_part, slot_part, IsPartOf, ArePartsOf}
use Rattle.range_cursor.specs.Plans.{want_by, wants_at}
use Rattle.range_cursor.proofs.Listing.{listed, one, listed_more, listed_none}
use Rattle.range_cursor.proofs.Refusals.{is_within}
use Rattle.range_cursor.proofs.Taken.{any_default}
use Rattle.page_map.proofs.Range.{inside}
use Rattle.std.proofs.lemmas.List.{map-append}
use Rattle.std.proofs.lemmas.List.Elements.{All-append}
use Rattle.std.proofs.lemmas.Option.{slice_get_within, get_or_from_slice_get}

-- ---- wants

is_listed : {X Y : Type 0} (f : ℕ × X → List Y) (low n : ℕ) (es : List (ℕ × X)) → flat_map f (filter (λ e. within low n e.0) es) ≡ listed f low n es
unfolding listed
is_listed f low n es = refl

wants_here : (write : Bool) (p : ℕ) (o : Option PageCell) → wants_at p (want_by write (status_of o)) ≡ one (wanted_at (access_want write)) p o
unfolding one
wants_here write p None = refl
wants_here write p (Some (page.Anon perm)) = refl
wants_here write p (Some (page.File perm file index)) = refl
wants_here true p (Some (page.Mapped perm origin frame bytes)) = refl
wants_here false p (Some (page.Mapped perm origin frame bytes)) = refl
wants_here write p (Some (page.Swapped perm origin slot bytes)) = refl

pub no_wants : (cells : AddressSpace) (low : ℕ) (write : Bool) → wants_in cells low 0 (access_want write) ≡ []
no_wants cells low write = is_listed (wanted_at (access_want write)) low 0 (fin.entries cells) ∙ listed_none (wanted_at (access_want write)) (fin.entries cells) low

pub wants_more : (cells : AddressSpace) (low n : ℕ) (write : Bool) (status : Status) (old new : List (ℕ × Want)) → old ≡ wants_in cells low n (access_want write) → status ≡ status_of (get cells (low + n))
    → new ≡ old ++ wants_at (low + n) (want_by write status) → new ≡ wants_in cells low (suc n) (access_want write)
wants_more cells low n write status old new was told is =
    let f = wanted_at (access_want write) in
    is ∙ ap (λ s. old ++ wants_at (low + n) (want_by write s)) told ∙ ap (λ l. old ++ l) (wants_here write (low + n) (get cells (low + n)))
    ∙ ap (λ l. l ++ one f (low + n) (get cells (low + n))) (was ∙ is_listed f low n (fin.entries cells)) ∙ sym (listed_more f cells low n) ∙ sym (is_listed f low (suc n) (fin.entries cells))

-- ---- what stands at a page

-- a cell of a row as the state's cell of a page that stands so far behind its entry's first
abbrev pub page_cell : Cell → ℕ → Option PageCell
page_cell Invalid off = None
page_cell Table off = None
page_cell (Anon perm) off = Some (page.Anon perm)
page_cell (File perm file index) off = Some (page.File perm file (index + off))
page_cell (Mapped perm origin frame) off = Some (page.Mapped perm origin frame.number frame.body.bytes)
page_cell (Swapped perm origin slot) off = Some (page.Swapped perm origin slot.number slot.body.bytes)

pub stands : (st : State) (q : Place) (c : Cell) (s n : ℕ) → is_table c ≡ false → Shows st q c → has_page q s n ≡ true → cell_at st s n ≡ page_cell c (n - span_first q)
stands st q Table s n plain f has = absurd (false≢true (sym plain))
stands st q Invalid s n plain f has = f.1 s n has
stands st q (Anon perm) s n plain f has = f.1 s n has
stands st q (File perm file index) s n plain f has = f.1 s n has
stands st q (Mapped perm origin frame) s n plain f has = f.2 s n has
stands st q (Swapped perm origin slot) s n plain f has = f.2 s n has

pub frames_there : (p : ℕ) (c : Cell) (off : ℕ) → shown_refs (frame_part p c) ≡ one (ref_at frame_of) p (page_cell c off)
unfolding one
frames_there p Invalid off = refl
frames_there p Table off = refl
frames_there p (Anon perm) off = refl
frames_there p (File perm file index) off = refl
frames_there p (Mapped perm origin frame) off = refl
frames_there p (Swapped perm origin slot) off = refl

pub slots_there : (p : ℕ) (c : Cell) (off : ℕ) → shown_refs (slot_part p c) ≡ one (ref_at slot_of) p (page_cell c off)
unfolding one
slots_there p Invalid off = refl
slots_there p Table off = refl
slots_there p (Anon perm) off = refl
slots_there p (File perm file index) off = refl
slots_there p (Mapped perm origin frame) off = refl
slots_there p (Swapped perm origin slot) off = refl

-- at a level above the pages a cell has no reference
no_frames : (st : State) (q : Place) (c : Cell) (p : ℕ) → Shows st q c → (q.level ≡ 0 → ⊥) → frame_part p c ≡ []
no_frames st q Invalid p f high = refl
no_frames st q Table p f high = refl
no_frames st q (Anon perm) p f high = refl
no_frames st q (File perm file index) p f high = refl
no_frames st q (Mapped perm origin frame) p f high = absurd (high f.1)
no_frames st q (Swapped perm origin slot) p f high = refl

no_slots : (st : State) (q : Place) (c : Cell) (p : ℕ) → Shows st q c → (q.level ≡ 0 → ⊥) → slot_part p c ≡ []
no_slots st q Invalid p f high = refl
no_slots st q Table p f high = refl
no_slots st q (Anon perm) p f high = refl
no_slots st q (File perm file index) p f high = refl
no_slots st q (Mapped perm origin frame) p f high = refl
no_slots st q (Swapped perm origin slot) p f high = absurd (high f.1)

pub no_link : (st : State) (is : IsConsistent st) (q : Place) (c : Cell) → q.level ≡ 0 → Shows st q c → is_table c ≡ false
no_link st is q Table low f = absurd (none (level_is st is q f).0 low)
  where
    none : 1 ≤ q.level → q.level ≡ 0 → ⊥
    none h e = omega (arith, h, e)
no_link st is q Invalid low f = refl
no_link st is q (Anon perm) low f = refl
no_link st is q (File perm file index) low f = refl
no_link st is q (Mapped perm origin frame) low f = refl
no_link st is q (Swapped perm origin slot) low f = refl

pub contained : (rows : List Row) (k : ℕ) (d : Row) → k < length rows → Contains rows (slice_index_or rows k d)
contained rows k d h = (k, h, any_default rows k (slice_index_or rows k d) d h)

module _ (number_of : PageCell → Option ℕ) (part : ℕ → Cell → List (ℕ × CountedPage)) (there : (p : ℕ) (c : Cell) (off : ℕ) → shown_refs (part p c) ≡ one (ref_at number_of) p (page_cell c off))
    (none_above : (st : State) (q : Place) (c : Cell) (p : ℕ) → Shows st q c → (q.level ≡ 0 → ⊥) → part p c ≡ []) (st : State) (is : IsConsistent st) (space : ℕ) (rows : List Row) (shown : RowsShown st rows) where
  part_shown : (p : ℕ) (refs : List (ℕ × CountedPage)) → IsAsked space rows p → IsPartOf part space rows p refs → shown_refs refs ≡ one (ref_at number_of) p (cell_at st space p)
  part_shown p refs asked (inr (at, is_part)) =
      let x : Row = slice_index_or rows at.place asked.row in
      let held : Contains rows x = contained rows at.place asked.row at.is_leaf.inside in
      let q : Place = below (levels st) (leaf_place space p) (p % 512) in
      let shows : Shows st q at.cell = subst (λ y. Shows st (below (levels st) y (p % 512)) at.cell) (at.is_leaf.here asked.row) ((shown x held).each (p % 512) at.cell (small p) (subst (λ cells. slice_get cells (p % 512) ≡ Some at.cell) (sym (at.content_is asked.row)) at.there)) in
      let has : has_page q space p ≡ true = subst (λ y. has_page y space p ≡ true) (sym (page_place p)) (tower_has space 0 p (omega arith)) in
      ap shown_refs is_part ∙ there p at.cell (p - span_first q) ∙ ap (one (ref_at number_of) p) (sym (stands st q at.cell space p (no_link st is q at.cell refl shows) shows has))
    where
      small : (p : ℕ) → p % 512 < 512
      small p = omega arith

      page_place : (p : ℕ) → below (levels st) (leaf_place space p) (p % 512) ≡ place_of space 0 p
      page_place p = λ i. record { space = space; level = 0; prefix = whole p i }
        where
          whole : (p : ℕ) → 512 * (p / 512) + p % 512 ≡ p / 512 ^ 0
          whole p = omega arith
  part_shown p refs asked (inl (none, empty)) =
      let x = asked.row in
      let at = asked.at in
      let same_space = asked.of_space x asked.held at.low in
      let sh = shown x asked.held in
      let deep : 1 ≤ x.place.level = level_some x asked.held in
      let has : has_page x.place space p ≡ true = subst (λ s. has_page x.place s p ≡ true) same_space at.has in
      let i : ℕ = index_at x.place.level p in
      let q : Place = below (levels st) x.place i in
      let q_is : q ≡ place_of space (x.place.level - 1) p = next_below (levels st) x.place space p deep at.low has in
      let shows : Shows st q at.cell = sh.each i at.cell (small x.place.level p) at.there in
      let q_has : has_page q space p ≡ true = subst (λ y. has_page y space p ≡ true) (sym q_is) (tower_has space (x.place.level - 1) p (omega (arith, at.low))) in
      let high : q.level ≡ 0 → ⊥ = λ e. none x asked.held (leaf x deep at.low has (sym (ap (λ (y : Place). y.level) q_is) ∙ e)) in
      ap shown_refs empty ∙ ap shown_refs (sym (none_above st q at.cell p shows high)) ∙ there p at.cell (p - span_first q) ∙ ap (one (ref_at number_of) p) (sym (stands st q at.cell space p at.no_link shows q_has))
    where
      small : (k n : ℕ) → index_at k n < 512
      small k n = omega arith

      level_some : (x : Row) → Contains rows x → 1 ≤ x.place.level
      level_some x held = go (shown x held).table
        where
          go : (x.place ≡ directory) ⊎ (set.contains st.tables x.place ≡ true) → 1 ≤ x.place.level
          go (inl e) = let l = ap (λ (y : Place). y.level) e in omega (arith, l)
          go (inr h) = (level_is st is x.place h).0

      leaf : (x : Row) → 1 ≤ x.place.level → x.place.level < 6 → has_page x.place space p ≡ true → x.place.level - 1 ≡ 0 → x.place ≡ leaf_place space p
      leaf x deep low has e =
          let one : x.place.level ≡ 1 = omega (arith, deep, e) in
          let parts = page_parts x.place space p low has in
          λ i. record { space = parts.0 i; level = one i; prefix = (sym parts.1 ∙ (ap (λ k. p / 512 ^ k) one ∙ first_power p)) i }
        where
          first_power : (p : ℕ) → p / 512 ^ 1 ≡ p / 512
          first_power p = omega arith

  pub parts_shown : (first n : ℕ) (refs : List (ℕ × CountedPage)) → AreAsked space rows first n → ArePartsOf part space rows first n refs → shown_refs refs ≡ listed (ref_at number_of) first n (fin.entries (space_at st space))
  parts_shown first zero refs asked is = ap shown_refs is ∙ sym (listed_none (ref_at number_of) (fin.entries (space_at st space)) first)
  parts_shown first (suc n) refs asked (before, was, more) =
      ap shown_refs more.refs_are ∙ map-append shown_ref before more.here
      ∙ ap (λ l. l ++ shown_refs more.here) (parts_shown first n before (λ p h. asked p (wider p h)) was)
      ∙ ap (λ l. listed (ref_at number_of) first n (fin.entries (space_at st space)) ++ l) (part_shown (first + n) more.here (asked (first + n) (is_within first (suc n) (first + n) (omega arith) (omega arith))) more.is_part)
      ∙ sym (listed_more (ref_at number_of) (space_at st space) first n)
    where
      wider : (p : ℕ) → within first n p ≡ true → within first (suc n) p ≡ true
      wider p h = let bounds = inside first n p h in is_within first (suc n) p bounds.0 (omega (arith, bounds.1))

  pub refs_shown : (first n : ℕ) (refs : List (ℕ × CountedPage)) → AreAsked space rows first n → ArePartsOf part space rows first n refs → shown_refs refs ≡ refs_of number_of (filter (λ e. within first n e.0) (fin.entries (space_at st space)))
  refs_shown first n refs asked are = parts_shown first n refs asked are ∙ sym (is_listed (ref_at number_of) first n (fin.entries (space_at st space)))

module _ (st : State) (is : IsConsistent st) (space : ℕ) (rows : List Row) (shown : RowsShown st rows) where
  pub frames_shown : (first n : ℕ) (refs : List (ℕ × CountedPage)) → AreAsked space rows first n → ArePartsOf frame_part space rows first n refs → shown_refs refs ≡ refs_of frame_of (filter (λ e. within first n e.0) (fin.entries (space_at st space)))
  frames_shown = refs_shown frame_of frame_part frames_there no_frames st is space rows shown

  pub slots_shown : (first n : ℕ) (refs : List (ℕ × CountedPage)) → AreAsked space rows first n → ArePartsOf slot_part space rows first n refs → shown_refs refs ≡ refs_of slot_of (filter (λ e. within first n e.0) (fin.entries (space_at st space)))
  slots_shown = refs_shown slot_of slot_part slots_there no_slots st is space rows shown

-- ---- spares

module _ (b : BookData) (counts : PageCounts) (part : ℕ → Cell → List (ℕ × CountedPage)) (one_backed : (p : ℕ) (c : Cell) → HasBytes b c → AreBacked counts (part p c)) (space : ℕ) (rows : List Row) (backed : (x : Row) → Contains rows x → All (HasBytes b) x.content) where
  here_backed : (p : ℕ) (refs : List (ℕ × CountedPage)) → IsPartOf part space rows p refs → AreBacked counts refs
  here_backed p refs (inl (none, empty)) = subst (AreBacked counts) (sym empty) (λ k d h. absurd (omega (arith, h)))
  here_backed p refs (inr (at, is_part)) = subst (AreBacked counts) (sym is_part) (one_backed p at.cell (bytes at))
    where
      bytes : (at : CellOf space p rows) → HasBytes b at.cell
      bytes at =
          let some_row : Row = record { row = 0; place = leaf_place space 0; generation = 0; content = [] } in
          let x : Row = slice_index_or rows at.place some_row in
          let h = slice_get_within at.content (p % 512) at.cell at.there in
          subst (HasBytes b) (get_or_from_slice_get at.content (p % 512) at.cell at.cell at.there)
          (subst (All (HasBytes b)) (at.content_is some_row) (backed x (contained rows at.place some_row at.is_leaf.inside)) (p % 512) at.cell h)

  pub parts_backed : (first n : ℕ) (refs : List (ℕ × CountedPage)) → ArePartsOf part space rows first n refs → AreBacked counts refs
  parts_backed first zero refs is = subst (AreBacked counts) (sym is) (λ k d h. absurd (omega (arith, h)))
  parts_backed first (suc n) refs (before, was, more) =
      subst (AreBacked counts) (sym more.refs_are) (All-append (λ r. HasSpareFor counts r.1) before more.here (parts_backed first n before was) (here_backed (first + n) more.here more.is_part))

one_only : {X : Type 0} (P : X → Type 0) (x : X) → P x → All P (x ∷ [])
one_only P x p zero d h = p
one_only P x p (suc k) d h = absurd (omega (arith, h))

pub frames_backed : (b : BookData) (space : ℕ) (rows : List Row) → ((x : Row) → Contains rows x → All (HasBytes b) x.content) → (first n : ℕ) (refs : List (ℕ × CountedPage)) → ArePartsOf frame_part space rows first n refs → AreBacked b.frames refs
frames_backed b space rows backed = parts_backed b b.frames frame_part (λ p c k. go p c k) space rows backed
  where
    go : (p : ℕ) (c : Cell) → HasBytes b c → AreBacked b.frames (frame_part p c)
    go p (Mapped perm origin frame) k = one_only (λ r. HasSpareFor b.frames r.1) (p, frame) k
    go p Invalid k = λ i d h. absurd (omega (arith, h))
    go p Table k = λ i d h. absurd (omega (arith, h))
    go p (Anon perm) k = λ i d h. absurd (omega (arith, h))
    go p (File perm file index) k = λ i d h. absurd (omega (arith, h))
    go p (Swapped perm origin slot) k = λ i d h. absurd (omega (arith, h))

pub slots_backed : (b : BookData) (space : ℕ) (rows : List Row) → ((x : Row) → Contains rows x → All (HasBytes b) x.content) → (first n : ℕ) (refs : List (ℕ × CountedPage)) → ArePartsOf slot_part space rows first n refs → AreBacked b.slots refs
slots_backed b space rows backed = parts_backed b b.slots slot_part (λ p c k. go p c k) space rows backed
  where
    go : (p : ℕ) (c : Cell) → HasBytes b c → AreBacked b.slots (slot_part p c)
    go p (Swapped perm origin slot) k = one_only (λ r. HasSpareFor b.slots r.1) (p, slot) k
    go p Invalid k = λ i d h. absurd (omega (arith, h))
    go p Table k = λ i d h. absurd (omega (arith, h))
    go p (Anon perm) k = λ i d h. absurd (omega (arith, h))
    go p (File perm file index) k = λ i d h. absurd (omega (arith, h))
    go p (Mapped perm origin frame) k = λ i d h. absurd (omega (arith, h))
