-- References come back one after another, the last one first.
--     Backs      so many are left
--     frame_back, slot_back      one less
use Rattle.std.specs.Prelude.{◌≡◌, ℕ, ◌+◌, ◌<◌, false, List, [], ◌∷◌, ◌++◌, map, length, slice_index, Option, Some, None, IsSome, is_some}
use Rattle.std.specs.List.{All, Contains, zip}
use Rattle.std.specs.Option.{option_to_list}
use Rattle.std.proofs.Common.{sym, refl, ◌∙◌, ap, subst, arith, inl, inr, length-append, append_assoc}
use Rattle.std.proofs.lemmas.Bool.{true≢false}
use Rattle.std.proofs.lemmas.List.{map-append}
use Rattle.std.proofs.lemmas.List.Elements.{All-nil, All-cons, All-head, All-tail, All-same, All-contains, Contains-push}
use Rattle.corten_base.specs.Body.{PageBody}
use Rattle.counted_pages.specs.Pages.{CountedPage, PageCounts, HasSpare}
use Rattle.page_map.specs.declared.cell.Cell.{Cell as PageCell}
use Rattle.page_map.specs.Cell.{frame_of, slot_of}
use Rattle.page_map.specs.State.{State, IsConsistent, levels}
use Rattle.row_cells.specs.declared.Cell.{Cell}
use Rattle.row_cells.specs.declared.Cell.TheVariants.{Invalid, Table, Anon, File, Mapped, Swapped}
use Rattle.row_table.proofs.Turns.{contained_map}
use Rattle.walk_core.proofs.RowLists.{in_map}
use Rattle.row_table.specs.declared.view.HeldRow.{HeldRow as KnownRow}
use Rattle.table_place.specs.declared.Place.{Place}
use Rattle.machine_plan.specs.Agrees.{below, HasBytes, HasSpareFor, IsTableOf, Shows, Spells}
use Rattle.machine_plan.specs.Books.{BookData, state_of}
use Rattle.machine_plan.specs.HeldRows.{Row, AreOf}
use Rattle.machine_plan.specs.Kits.{Refs, Seconds, IsSecond}
use Rattle.cursor_apply.specs.declared.putting.Reference.TheVariants as reference
use Rattle.cursor_apply.specs.Putting.{brought, owned_again, IsPut, IsRefOf, AreRefs, AreBackable, IsShortCell, IsLacking, AreShort, AreAgreed, pages_of, row_place}
use Rattle.cursor_apply.proofs.Cells.{other_frame, other_slot, filled_frame, filled_slot}
use Rattle.cursor_apply.proofs.PutRows.{rows_put, of_space_now}

module _ {X : Type 0} (P : X → Type 0) where
  -- what holds of each holds of the front, and of the last
  pub all_front : (xs : List X) (x : X) → All P (xs ++ x ∷ []) → All P xs
  all_front [] x all = All-nil P
  all_front (y ∷ ys) x all = All-cons P y ys (All-head P y (ys ++ x ∷ []) all) (all_front ys x (All-tail P y (ys ++ x ∷ []) all))

  pub all_last : (xs : List X) (x : X) → All P (xs ++ x ∷ []) → P x
  all_last xs x all = All-contains P (xs ++ x ∷ []) x all (Contains-push xs x)

zip_push : {X Y : Type 0} (xs : List X) (ys : List Y) (x : X) (y : Y) → length xs ≡ length ys → zip (xs ++ x ∷ []) (ys ++ y ∷ []) ≡ zip xs ys ++ (x, y) ∷ []
zip_push [] [] x y same = refl
zip_push [] (b ∷ bs) x y same = absurd (omega arith)
zip_push (a ∷ more) [] x y same = absurd (omega arith)
zip_push {X} {Y} (a ∷ more) (b ∷ bs) x y same = ap (λ (l : List (X × Y)). (a, b) ∷ l) (zip_push more bs x y (omega arith))

-- what is left to be put back, beside the pages of another list
pub record FramesLeft (b : BookData) (space : ℕ) (known : List (KnownRow (List Cell))) (more slots : List ℕ) (frames : Refs) (seconds : Seconds) (rows : List Row) : Type 0 where
  pub consistent : IsConsistent (state_of b)
  pub refs : AreRefs (state_of b) space frame_of frames
  pub backable : 0 < length frames → AreBackable b.frames frames seconds
  pub of_space : 0 < length frames → AreOf space rows
  pub short : AreShort b known (more ++ pages_of frames) slots rows

pub record SlotsLeft (b : BookData) (space : ℕ) (known : List (KnownRow (List Cell))) (more frames : List ℕ) (slots : Refs) (seconds : Seconds) (rows : List Row) : Type 0 where
  pub consistent : IsConsistent (state_of b)
  pub refs : AreRefs (state_of b) space slot_of slots
  pub backable : 0 < length slots → AreBackable b.slots slots seconds
  pub of_space : 0 < length slots → AreOf space rows
  pub short : AreShort b known frames (more ++ pages_of slots) rows

-- of the last reference and the last second body
module _ (counts : PageCounts) (refs refs' : Refs) (seconds seconds' : Seconds) (page : ℕ) (r : CountedPage) (second : Option (PageBody × Option (List ℕ))) (was : refs ≡ refs' ++ (page, r) ∷ []) (were : seconds ≡ seconds' ++ option_to_list second) (full : 0 < length seconds → IsSome second) where
  none_left : seconds ≡ [] → (seconds' ≡ []) × (second ≡ None)
  none_left none = go seconds' second (sym were ∙ none)
    where
      go : (ss : Seconds) (o : Option (PageBody × Option (List ℕ))) → ss ++ option_to_list o ≡ [] → (ss ≡ []) × (o ≡ None)
      go [] None e = (refl, refl)
      go [] (Some s) e = absurd (cc)
      go (s ∷ ss) o e = absurd (cc)

  long : length refs ≡ length refs' + 1
  long = ap length was ∙ length-append refs' ((page, r) ∷ [])

  some_last : length seconds ≡ length refs → (s : PageBody × Option (List ℕ)) × (second ≡ Some s) × (length refs' ≡ length seconds')
  some_last same = go second refl (full (let n = long in omega arith))
    where
      go : (o : Option (PageBody × Option (List ℕ))) → second ≡ o → IsSome second → (s : PageBody × Option (List ℕ)) × (second ≡ Some s) × (length refs' ≡ length seconds')
      go None e there = absurd (true≢false (sym there ∙ ap (λ (x : Option (PageBody × Option (List ℕ))). is_some x) e))
      go (Some s) e there = (s, e, (let n = long in let a = ap length (were ∙ ap (λ (x : Option (PageBody × Option (List ℕ))). seconds' ++ option_to_list x) e) in let f = length-append seconds' (s ∷ []) in omega arith))

  zipped : (s : PageBody × Option (List ℕ)) → second ≡ Some s → length refs' ≡ length seconds' → zip refs seconds ≡ zip refs' seconds' ++ ((page, r), s) ∷ []
  zipped s e same = (λ i. zip (was i) ((were ∙ ap (λ (x : Option (PageBody × Option (List ℕ))). seconds' ++ option_to_list x) e) i)) ∙ zip_push refs' seconds' (page, r) s same

  pub backable_less : AreBackable counts refs seconds → AreBackable counts refs' seconds'
  backable_less (inl both) = inl (all_front (λ (x : ℕ × CountedPage). HasSpareFor counts x.1) refs' (page, r) (All-same (λ (x : ℕ × CountedPage). HasSpareFor counts x.1) (refs' ++ (page, r) ∷ []) refs (sym was) both.0), (none_left both.1).0)
  backable_less (inr two) =
      let l = some_last two.count in
      inr (record {
        count = sym l.2;
        each = all_front (IsSecond counts) (zip refs' seconds') ((page, r), l.0) (All-same (IsSecond counts) (zip refs' seconds' ++ ((page, r), l.0) ∷ []) (zip refs seconds) (sym (zipped l.0 l.1 l.2)) two.each);
      })

  pub spare_last : AreBackable counts refs seconds → HasSpareFor counts (owned_again r (brought second))
  spare_last (inl both) =
      let z = none_left both.1 in
      subst (λ (x : Option (PageBody × Option (List ℕ))). HasSpareFor counts (owned_again r (brought x))) (sym z.1)
      (all_last (λ (x : ℕ × CountedPage). HasSpareFor counts x.1) refs' (page, r) (All-same (λ (x : ℕ × CountedPage). HasSpareFor counts x.1) (refs' ++ (page, r) ∷ []) refs (sym was) both.0))
  spare_last (inr two) =
      let l = some_last two.count in
      let is = all_last (IsSecond counts) (zip refs' seconds') ((page, r), l.0) (All-same (IsSecond counts) (zip refs' seconds' ++ ((page, r), l.0) ∷ []) (zip refs seconds) (sym (zipped l.0 l.1 l.2)) two.each) in
      subst (λ (x : Option (PageBody × Option (List ℕ))). HasSpareFor counts (owned_again r (brought x))) (sym l.1) (by_spare l.0.1 is.2)
    where
      by_spare : (o : Option (List ℕ)) → (is_some o ≡ false → HasSpare counts r.number) → HasSpareFor counts (owned_again r o)
      by_spare None there = λ _. there refl
      by_spare (Some spare) there = λ own. absurd (true≢false own)

-- the number and the bytes stay
ref_again : (st : State) (space : ℕ) (number_of : PageCell → Option ℕ) (page : ℕ) (r : CountedPage) (spare : Option (List ℕ)) → IsRefOf st space number_of page r → IsRefOf st space number_of page (owned_again r spare)
ref_again st space number_of page r None is = is
ref_again st space number_of page r (Some spare) is = record { cell = is.cell; there = is.there; carries = is.carries; bytes = is.bytes }

pages_push : (refs : Refs) (page : ℕ) (r : CountedPage) → pages_of (refs ++ (page, r) ∷ []) ≡ pages_of refs ++ page ∷ []
pages_push refs page r = map-append (λ (x : ℕ × CountedPage). x.0) refs ((page, r) ∷ [])

module _ (b : BookData) (space : ℕ) (known : List (KnownRow (List Cell))) (more others : List ℕ) (refs refs' : Refs) (seconds seconds' : Seconds) (rows rows' : List Row) (page : ℕ) (r : CountedPage) (second : Option (PageBody × Option (List ℕ)))
    (was : refs ≡ refs' ++ (page, r) ∷ []) (were : seconds ≡ seconds' ++ option_to_list second) (full : 0 < length seconds → IsSome second) where
  is_of : {P : Type 0} → (0 < length refs → P) → P
  is_of of_space = of_space (let a = ap length was in let f = length-append refs' ((page, r) ∷ []) in omega arith)

  behind : more ++ pages_of refs ≡ (more ++ pages_of refs') ++ page ∷ []
  behind = ap (λ (l : List ℕ). more ++ l) (ap pages_of was ∙ pages_push refs' page r) ∙ sym (append_assoc more (pages_of refs') (page ∷ []))

  pub frame_back : (own : CountedPage) → own ≡ owned_again r (brought second) → FramesLeft b space known more others refs seconds rows → IsPut page (reference.Frame own) rows rows' → FramesLeft b space known more others refs' seconds' rows'
  frame_back own is left put =
      let ref = all_last (λ (x : ℕ × CountedPage). IsRefOf (state_of b) space frame_of x.0 x.1) refs' (page, r) (All-same (λ (x : ℕ × CountedPage). IsRefOf (state_of b) space frame_of x.0 x.1) (refs' ++ (page, r) ∷ []) refs (sym was) left.refs) in
      let now = subst (IsRefOf (state_of b) space frame_of page) (sym is) (ref_again (state_of b) space frame_of page r (brought second) ref) in
      let spare = subst (HasSpareFor b.frames) (sym is) (spare_last b.frames refs refs' seconds seconds' page r second was were full (is_of left.backable)) in
      record {
        consistent = left.consistent;
        refs = all_front (λ (x : ℕ × CountedPage). IsRefOf (state_of b) space frame_of x.0 x.1) refs' (page, r) (All-same (λ (x : ℕ × CountedPage). IsRefOf (state_of b) space frame_of x.0 x.1) (refs' ++ (page, r) ∷ []) refs (sym was) left.refs);
        backable = λ _. backable_less b.frames refs refs' seconds seconds' page r second was were full (is_of left.backable);
        of_space = λ _. of_space_now page space (reference.Frame own) rows rows' put (is_of left.of_space);
        short = rows_put b left.consistent space page known (reference.Frame own) rows rows' put (is_of left.of_space) ((more ++ pages_of refs') ++ page ∷ []) others (more ++ pages_of refs') others
            (λ q word cell other short. other_frame b (more ++ pages_of refs') others q word cell page other short)
            (λ q word cell low here at short. filled_frame b (more ++ pages_of refs') others q word cell space page low here at own now spare short)
            (subst (λ (l : List ℕ). AreShort b known l others rows) behind left.short);
      }

  pub slot_back : (own : CountedPage) → own ≡ owned_again r (brought second) → SlotsLeft b space known more others refs seconds rows → IsPut page (reference.Slot own) rows rows' → SlotsLeft b space known more others refs' seconds' rows'
  slot_back own is left put =
      let ref = all_last (λ (x : ℕ × CountedPage). IsRefOf (state_of b) space slot_of x.0 x.1) refs' (page, r) (All-same (λ (x : ℕ × CountedPage). IsRefOf (state_of b) space slot_of x.0 x.1) (refs' ++ (page, r) ∷ []) refs (sym was) left.refs) in
      let now = subst (IsRefOf (state_of b) space slot_of page) (sym is) (ref_again (state_of b) space slot_of page r (brought second) ref) in
      let spare = subst (HasSpareFor b.slots) (sym is) (spare_last b.slots refs refs' seconds seconds' page r second was were full (is_of left.backable)) in
      record {
        consistent = left.consistent;
        refs = all_front (λ (x : ℕ × CountedPage). IsRefOf (state_of b) space slot_of x.0 x.1) refs' (page, r) (All-same (λ (x : ℕ × CountedPage). IsRefOf (state_of b) space slot_of x.0 x.1) (refs' ++ (page, r) ∷ []) refs (sym was) left.refs);
        backable = λ _. backable_less b.slots refs refs' seconds seconds' page r second was were full (is_of left.backable);
        of_space = λ _. of_space_now page space (reference.Slot own) rows rows' put (is_of left.of_space);
        short = rows_put b left.consistent space page known (reference.Slot own) rows rows' put (is_of left.of_space) others ((more ++ pages_of refs') ++ page ∷ []) others (more ++ pages_of refs')
            (λ q word cell other short. other_slot b others (more ++ pages_of refs') q word cell page other short)
            (λ q word cell low here at short. filled_slot b others (more ++ pages_of refs') q word cell space page low here at own now spare short)
            (subst (λ (l : List ℕ). AreShort b known others l rows) behind left.short);
      }

-- where there were no second bodies there are none
pub no_seconds : (seconds seconds' : Seconds) (second : Option (PageBody × Option (List ℕ))) → seconds ≡ seconds' ++ option_to_list second → seconds ≡ [] → seconds' ≡ []
no_seconds seconds seconds' second were none = go seconds' second (sym were ∙ none)
  where
    go : (ss : Seconds) (o : Option (PageBody × Option (List ℕ))) → ss ++ option_to_list o ≡ [] → ss ≡ []
    go [] o e = refl
    go (s ∷ ss) o e = absurd (cc)

pub no_refs : (refs : Refs) → length refs ≡ 0 → refs ≡ []
no_refs [] e = refl
no_refs (x ∷ xs) e = absurd (omega arith)

-- where nothing lacks, the rows agree
pub all_agree : (b : BookData) (known : List (KnownRow (List Cell))) (rows : List Row) → AreShort b known [] [] rows → AreAgreed b known rows
all_agree b known rows short x has =
    let s = short x has in
    record {
      row = s.row;
      held = s.held;
      same_row = s.same_row;
      same_place = s.same_place;
      agrees = record {
        shown = record {
          table = subst (IsTableOf (state_of b)) (sym s.same_place) s.table;
          whole = s.whole;
          each = λ i cell inside there. subst (λ p. Shows (state_of b) (below (levels (state_of b)) p i) cell) (sym s.same_place) (let c = s.cells i cell inside there in whole_shows (below (levels (state_of b)) x.place i) (slice_index s.row.words i) cell c);
        };
        spelled = λ i cell inside there. whole_spells (below (levels (state_of b)) x.place i) (slice_index s.row.words i) cell (s.cells i cell inside there);
        kept = λ i cell inside there. whole_bytes (below (levels (state_of b)) x.place i) (slice_index s.row.words i) cell (s.cells i cell inside there);
      };
    }
  where
    nothing : (q : Place) (c cell : Cell) → IsLacking [] [] q c cell → ⊥
    nothing q (Mapped perm origin frame) cell l = let less = l.1.1 in omega arith
    nothing q (Swapped perm origin slot) cell l = let less = l.1.1 in omega arith
    nothing q Invalid cell l = l
    nothing q Table cell l = l
    nothing q (Anon perm) cell l = l
    nothing q (File perm file index) cell l = l

    same : (q : Place) (word : ℕ) (cell : Cell) (c : IsShortCell b [] [] q word cell) → (c.was ≡ cell) × HasBytes b c.was
    same q word cell c = elim c.is [ inl whole ↦ (sym whole.0, whole.1) | inr l ↦ absurd (nothing q c.was cell l) ]

    whole_shows : (q : Place) (word : ℕ) (cell : Cell) → IsShortCell b [] [] q word cell → Shows (state_of b) q cell
    whole_shows q word cell c = subst (Shows (state_of b) q) (same q word cell c).0 c.shows

    whole_spells : (q : Place) (word : ℕ) (cell : Cell) → IsShortCell b [] [] q word cell → Spells (state_of b) cell word
    whole_spells q word cell c = subst (λ x. Spells (state_of b) x word) (same q word cell c).0 c.spells

    whole_bytes : (q : Place) (word : ℕ) (cell : Cell) → IsShortCell b [] [] q word cell → HasBytes b cell
    whole_bytes q word cell c = let s = same q word cell c in subst (HasBytes b) s.0 s.1

pub of_space_still : (space : ℕ) (old new : List Row) → map row_place new ≡ map row_place old → AreOf space old → AreOf space new
of_space_still space old new same of_space x has low =
    let m = contained_map row_place old (row_place x) (subst (λ (l : List (ℕ × Place)). Contains l (row_place x)) same (in_map row_place new x has)) in
    let place : m.0.place ≡ x.place = ap (λ (p : ℕ × Place). p.1) m.2 in
    ap (λ (p : Place). p.space) (sym place) ∙ of_space m.0 m.1 (subst (λ (p : Place). p.level < 6) (sym place) low)
