-- The range of a `remap` that moves, and its pieces.
--     IsEarly, early_parts, early_from      what is so where nothing refuses the call early
--     holed, unplaced, staying, moving      a hole;  no place;  a range that stays;  one that moves
--     absent      no row of the space is held
--     no_pieces, has_pieces, other_pieces      the pieces of a range that stays;  of one that moves;  of another call
use Rattle.std.specs.Prelude.{◌≡◌, ℕ, ◌+◌, ◌-◌, ◌/◌, ◌<◌, ◌≤◌, ◌&&◌, Bool, true, false, cond, not, List, [], ◌∷◌, Option, Some, None, is_some, is_none, IsNone}
use Rattle.std.specs.Option.{option_or}
use Rattle.std.specs.List.{list_all, Contains}
use Rattle.std.specs.FinMap as fin
use Rattle.std.specs.FinSet as set
use Rattle.std.proofs.Common.{sym, refl, ◌∙◌, ap, subst, arith, inl, inr}
use Rattle.std.proofs.lemmas.Bool.{and_parts, and_from, leb-true, le-leb, cases_lt, true≢false, false≢true}
use Rattle.std.proofs.lemmas.List.Elements.{All-contains, Contains-append_right}
use Rattle.std.proofs.lemmas.List.Sums.{AllPass-from_list_all}
use Rattle.corten_base.specs.declared.calls.Call.{Call}
use Rattle.corten_base.specs.declared.calls.Call.TheVariants as call
use Rattle.corten_base.specs.declared.calls.Reply.{Reply}
use Rattle.corten_base.specs.declared.calls.Reply.TheVariants as reply
use Rattle.corten_base.specs.Pages.{PageRange}
use Rattle.table_place.specs.declared.Place.{Place}
use Rattle.table_place.specs.Place.{is_page_range, is_user_range, is_user_page, pages_of}
use Rattle.table_place.specs.Range.{within}
use Rattle.table_place.proofs.Tables.{in_range, to_range, user_page}
use Rattle.page_map.specs.declared.cell.Cell.{Cell as PageCell}
use Rattle.page_map.specs.Change.{change, least}
use Rattle.page_map.specs.Mapping.{is_length, hole}
use Rattle.page_map.specs.Remap.{Resize, resize_of, moves, lacks_room, put_at, cell_for, remapped, left_first, left_count, filled_first, filled_count}
use Rattle.page_map.specs.State.{State, AddressSpace, levels, is_present, space_at}
use Rattle.page_map.specs.Step.{refused_unless, hole_reply}
use Rattle.page_map.proofs.Least.{unanswered}
use Rattle.page_map.proofs.Mappings.{page_range}
use Rattle.page_map.proofs.Range.{get-change}
use Rattle.page_map.proofs.Steps.{not_none}
use Rattle.machine_plan.specs.declared.kit.Piece.{Piece}
use Rattle.machine_plan.specs.Agrees.{IsTableOf}
use Rattle.machine_plan.specs.HeldRows.{Row, AreAsked}
use Rattle.machine_plan.specs.Moving.{HasMoved, AreMoved}
use Rattle.machine_plan.specs.Uses.{early_refusal}
use Rattle.held_spans.specs.declared.resizing.Resize.{Resize as Range}
use Rattle.held_spans.specs.declared.resizing.Placing.{Placing}
use Rattle.held_spans.specs.declared.resizing.Placing.TheVariants.{Stays, Moves}
use Rattle.held_spans.specs.Listing.{is_high, IsKnown, IsMoving, AnswersMoved, AnswersPieces}
use Rattle.held_spans.specs.Pieces.{IsPutAt, IsFull, ListsMoved}
use Rattle.held_spans.specs.Resizing.{AllAsked, range_of, IsPlaced, AnswersPlacing}
use Rattle.held_spans.specs.Walks.{AnswersHole}
use Rattle.held_spans.proofs.Placed.{all_asked}

-- ---- what refuses the call early

or_none : {A : Type 0} (a b : Option A) → option_or a b ≡ None → (a ≡ None) × (b ≡ None)
or_none None b e = (refl, e)
or_none (Some x) b e = absurd (not_none e)

unless_none : (b : Bool) (r : Reply) → refused_unless b r ≡ None → b ≡ true
unless_none true r e = refl
unless_none false r e = absurd (not_none e)

not_true : (b : Bool) → not b ≡ true → b ≡ false
not_true true e = absurd (false≢true e)
not_true false e = refl

reply_none : (o : Option ℕ) → hole_reply o ≡ None → o ≡ None
reply_none None e = refl
reply_none (Some x) e = absurd (not_none e)

module _ (st : State) (thread space at old_len new_len : ℕ) where
  abbrev this : Call
  this = call.Remap space at old_len new_len

  abbrev cells : AddressSpace
  cells = space_at st space

  abbrev r : Resize
  r = resize_of at old_len new_len

  pub record IsEarly : Type 0 where
    pub pages : is_page_range (levels st) at old_len ≡ true
    pub length : is_length (levels st) new_len ≡ true
    pub present : is_present st space ≡ true
    pub room : lacks_room (levels st) thread cells r ≡ false
    pub whole : hole cells at old_len ≡ None

  pub early_parts : early_refusal st thread this ≡ None → IsEarly
  early_parts e =
      let one = or_none (refused_unless (is_page_range (levels st) at old_len && is_length (levels st) new_len) reply.Einval) _ e in
      let two = or_none (refused_unless (is_present st space) reply.NoSpace) _ one.1 in
      let three = or_none (refused_unless (not (lacks_room (levels st) thread cells r)) reply.NoRoom) _ two.1 in
      let four = or_none (hole_reply (hole cells at old_len)) None three.1 in
      let args = and_parts (is_page_range (levels st) at old_len) (is_length (levels st) new_len) (unless_none _ reply.Einval one.0) in
      record {
        pages = args.0;
        length = args.1;
        present = unless_none (is_present st space) reply.NoSpace two.0;
        room = not_true _ (unless_none _ reply.NoRoom three.0);
        whole = reply_none (hole cells at old_len) four.0;
      }

  pub early_from : IsEarly → early_refusal st thread this ≡ None
  early_from is = λ i. option_or (refused_unless (and_from _ _ is.pages is.length i) reply.Einval)
      (option_or (refused_unless (is.present i) reply.NoSpace) (option_or (refused_unless (not (is.room i)) reply.NoRoom) (option_or (hole_reply (is.whole i)) None)))

-- ---- the rows of the space

some_low : (rows : List Row) → list_all is_high rows ≡ false → (h : Row) × Contains rows h × (is_high h ≡ false)
some_low [] e = absurd (true≢false e)
some_low (x ∷ xs) e = go (some_low xs) (is_high x) refl
  where
    go : (list_all is_high xs ≡ false → (h : Row) × Contains xs h × (is_high h ≡ false)) → (b : Bool) → is_high x ≡ b → (h : Row) × Contains (x ∷ xs) h × (is_high h ≡ false)
    go more false low = (x, (0, omega arith, refl), low)
    go more true high =
        let rest = more (sym (ap (λ b. b && list_all is_high xs) high) ∙ e) in (rest.0, Contains-append_right (x ∷ []) xs rest.0 rest.1, rest.2)

high_row : (rows : List Row) (h : Row) → list_all is_high rows ≡ true → Contains rows h → 6 ≤ h.place.level
high_row rows h all held = leb-true 6 h.place.level (All-contains (λ h. is_high h ≡ true) rows h (AllPass-from_list_all is_high rows all) held)

low_row : (h : Row) → is_high h ≡ false → h.place.level < 6
low_row h e = elim (cases_lt h.place.level 6) [ inl l ↦ l | inr m ↦ absurd (true≢false (sym (le-leb 6 h.place.level m) ∙ e)) ]

module _ (st : State) (space : ℕ) (rows : List Row) (known : IsKnown st space rows) where
  pub present_by : list_all is_high rows ≡ false → is_present st space ≡ true
  present_by e =
      let low = some_low rows e in
      let h = low.0 in
      ap (is_present st) (sym (known.of_space h low.1 (low_row h low.2))) ∙ known.consistent.absent h.place (table h (low_row h low.2) (known.shown h low.1).table)
    where
      table : (h : Row) → h.place.level < 6 → IsTableOf st h.place → set.contains st.tables h.place ≡ true
      table h low (inl top) = absurd (high (ap (λ (x : Place). x.level) top) low)
        where
          high : {n : ℕ} → n ≡ 6 → n < 6 → ⊥
          high e l = omega (arith, e, l)
      table h low (inr there) = there

  pub absent_by : (page : ℕ) → is_user_page (levels st) page ≡ true → list_all is_high rows ≡ true → is_present st space ≡ true → ⊥
  absent_by page user all present =
      let asked = known.asked present page user in let low = asked.at.low in let high = high_row rows asked.row all asked.held in omega (arith, low, high)

-- ---- the cells of the new place

moved_cell : (depth thread : ℕ) (cells : AddressSpace) (r : Resize) → moves depth cells r ≡ true → (i : ℕ) → i < r.new → fin.get (remapped depth thread r cells) (put_at depth thread cells r + i) ≡ cell_for cells r i
unfolding remapped
moved_cell depth thread cells r m i low =
    let to = put_at depth thread cells r in
    let at = to + i in
    let left = change cells (left_first depth cells r) (left_count depth cells r) (λ page _. None) in
    let inside : within (filled_first depth thread cells r) (filled_count depth cells r) at ≡ true =
    (λ j. within (cond (m j) to (r.first + r.old)) (cond (m j) r.new (r.new - r.old)) at) ∙ to_range to r.new at (omega arith) (omega (arith, low)) in
    let back : at - to ≡ i = omega arith in
    get-change left (filled_first depth thread cells r) (filled_count depth cells r) (λ page _. cell_for cells r (page - to)) at
    ∙ ap (λ b. cond b (cell_for cells r (at - to)) (fin.get left at)) inside ∙ ap (cell_for cells r) back

-- ---- the range

none_is : {A : Type 0} (o : Option A) → IsNone o → o ≡ None
none_is None h = refl
none_is (Some x) h = absurd (true≢false h)

-- the range of a call, by the lengths in pages
pub range_is : (at old_len new_len : ℕ) (old : PageRange) (first count new : ℕ) → old ≡ record { first = at / 4096; count = pages_of old_len } → first ≡ old.first → count ≡ old.count → new ≡ pages_of new_len
    → range_of (record { first = first; old = count; new = new }) ≡ resize_of at old_len new_len
range_is at old_len new_len old first count new is f c n =
    let one : first ≡ at / 4096 = f ∙ ap (λ (x : PageRange). x.first) is in
    let two : count ≡ pages_of old_len = c ∙ ap (λ (x : PageRange). x.count) is in
    λ i. record { first = one i; old = two i; new = n i }

module _ (rows : List Row) (depth thread at old_len new_len : ℕ) (r : Range) (same : range_of r ≡ resize_of at old_len new_len) (pages : is_page_range depth at old_len ≡ true) where
  first_is : r.first ≡ at / 4096
  first_is = ap (λ (x : Resize). x.first) same

  old_is : r.old ≡ pages_of old_len
  old_is = ap (λ (x : Resize). x.old) same

  new_is : r.new ≡ pages_of new_len
  new_is = ap (λ (x : Resize). x.new) same

  some : 1 ≤ r.old
  some = let parts = page_range depth at old_len pages in omega (arith, old_is, parts.1)

  user : is_user_range depth r.first r.old ≡ true
  user = (λ i. is_user_range depth (first_is i) (old_is i)) ∙ (page_range depth at old_len pages).0

  last_user : is_user_page depth (r.first + r.old - 1) ≡ true
  last_user = user_page depth r.first r.old (r.first + r.old - 1) user (to_range r.first r.old (r.first + r.old - 1) (let s = some in omega (arith, s)) (let s = some in omega (arith, s)))

  module _ (space : ℕ) (st : State) (e : levels st ≡ depth) (known : IsKnown st space rows) where
    all_there : is_present st space ≡ true → AllAsked depth space rows
    all_there present = subst (λ d. AllAsked d space rows) e (known.asked present)

    range_asked : is_present st space ≡ true → AreAsked space rows r.first r.old
    range_asked present = all_asked depth space rows (all_there present) r.first r.old user

    hole_is : is_present st space ≡ true → (answer : Option ℕ) → AnswersHole rows r.first r.old answer → answer ≡ hole (space_at st space) at old_len
    hole_is present answer answers =
        answers space st (range_asked present) known.shown ∙ (λ i. least (first_is i) (old_is i) (λ page. is_none (fin.get (space_at st space) page)))

    placed_is : is_present st space ≡ true → (answer : Option Placing) → AnswersPlacing rows depth thread r answer → IsPlaced (levels st) thread (space_at st space) (resize_of at old_len new_len) answer
    placed_is present answer answers =
        subst (λ d. IsPlaced d thread (space_at st space) (resize_of at old_len new_len) answer) (sym e)
        (subst (λ x. IsPlaced depth thread (space_at st space) x answer) same (answers space st (all_there present) last_user known.shown))

    pages_are : is_page_range (levels st) at old_len ≡ true
    pages_are = ap (λ d. is_page_range d at old_len) e ∙ pages

  pub holed : (answer : Option ℕ) → AnswersHole rows r.first r.old answer → is_some answer ≡ true → AnswersMoved rows depth thread at old_len new_len None
  holed answer answers there space st e known early =
      let is = early_parts st thread space at old_len new_len early in
      absurd (true≢false (sym there ∙ ap is_some (hole_is space st e known is.present answer answers ∙ is.whole)))

  pub unplaced : AnswersPlacing rows depth thread r None → AnswersMoved rows depth thread at old_len new_len None
  unplaced answers space st e known early =
      let is = early_parts st thread space at old_len new_len early in
      absurd (true≢false (sym (placed_is space st e known is.present None answers) ∙ is.room))

  pub staying : AnswersPlacing rows depth thread r (Some Stays) → AnswersMoved rows depth thread at old_len new_len None
  staying answers space st e known early =
      let is = early_parts st thread space at old_len new_len early in (placed_is space st e known is.present (Some Stays) answers).1

  pub moving : (to : ℕ) → AnswersPlacing rows depth thread r (Some (Moves to)) → list_all is_high rows ≡ false → (answer : Option ℕ) → AnswersHole rows r.first r.old answer → is_some answer ≡ false
      → is_length depth new_len ≡ true → AnswersMoved rows depth thread at old_len new_len (Some r)
  moving to answers there answer holes none length space st e known =
      let present = present_by st space rows known there in
      let placed = placed_is space st e known present (Some (Moves to)) answers in (
        early_from st thread space at old_len new_len (record {
          pages = pages_are space st e known;
          length = ap (λ d. is_length d new_len) e ∙ length;
          present = present;
          room = placed.0;
          whole = sym (hole_is space st e known present answer holes) ∙ none_is answer none;
        }),
        placed.1,
        same,
      )

  -- ---- its pieces

  module _ (space : ℕ) (st : State) (e : levels st ≡ depth) (known : IsKnown st space rows) (is : IsMoving st thread space at old_len new_len (Some r)) where
    parts : IsEarly st thread space at old_len new_len
    parts = early_parts st thread space at old_len new_len is.0

    full : IsFull (space_at st space) r
    full = record { each = λ n w. there n w (fin.get (space_at st space) n) refl; indexes = λ n c there. known.consistent.indexes space n c there }
      where
        no_hole : (n : ℕ) → ◌≡◌ {A = Option ℕ} (cond (is_none (fin.get (space_at st space) n)) (Some n) None) None → fin.get (space_at st space) n ≡ None → ⊥
        no_hole n h none = not_none (sym (ap (λ o. cond (is_none o) (Some n) None) none) ∙ h)

        there : (n : ℕ) → within r.first r.old n ≡ true → (o : Option PageCell) → fin.get (space_at st space) n ≡ o → (c : PageCell) × (fin.get (space_at st space) n ≡ Some c)
        there n w (Some c) found = (c, found)
        there n w None found =
            let range = in_range r.first r.old n w in
            absurd (no_hole n (unanswered (λ q. cond (is_none (fin.get (space_at st space) q)) (Some q) None) r.first r.old
            ((λ i. least (first_is i) (old_is i) (λ page. is_none (fin.get (space_at st space) page))) ∙ parts.whole) n range.0 range.1) found)

    put : IsPutAt (space_at st space) r (remapped (levels st) thread (resize_of at old_len new_len) (space_at st space)) (put_at (levels st) thread (space_at st space) (resize_of at old_len new_len))
    put i low = moved_cell (levels st) thread (space_at st space) (resize_of at old_len new_len) is.1 i (omega (arith, low, new_is)) ∙ ap (λ x. cell_for (space_at st space) x i) (sym same)

    pub pieces_moved : (pieces : List Piece) → ListsMoved rows r pieces → HasMoved st thread (call.Remap space at old_len new_len) (space_at st space) (resize_of at old_len new_len) pieces
    pieces_moved pieces lists = record {
      moved = λ moves.
          subst (λ n. AreMoved (remapped (levels st) thread (resize_of at old_len new_len) (space_at st space)) (put_at (levels st) thread (space_at st space) (resize_of at old_len new_len)) n pieces)
          new_is (lists space st (range_asked space st e known parts.present) known.shown full (remapped (levels st) thread (resize_of at old_len new_len) (space_at st space))
          (put_at (levels st) thread (space_at st space) (resize_of at old_len new_len)) put);
      stayed = λ stays. absurd (true≢false (sym is.1 ∙ stays));
    }

  pub has_pieces : (space : ℕ) (pieces : List Piece) → AnswersMoved rows depth thread at old_len new_len (Some r) → ListsMoved rows r pieces → AnswersPieces rows depth thread (call.Remap space at old_len new_len) pieces
  has_pieces space pieces answers lists st e known =
      (λ early. pieces_moved space st e known (answers space st e known) pieces lists, λ refused. absurd (true≢false (sym refused ∙ ap is_some (answers space st e known).0)))

pub no_pieces : (rows : List Row) (depth thread space at old_len new_len : ℕ) → AnswersMoved rows depth thread at old_len new_len None → AnswersPieces rows depth thread (call.Remap space at old_len new_len) []
no_pieces rows depth thread space at old_len new_len answers st e known = (
  λ early. record { moved = λ moves. absurd (true≢false (sym moves ∙ answers space st e known (none_is _ early))); stayed = λ _. refl },
  λ _. refl,
)

pub pieces_for : (rows : List Row) (depth thread space at old_len new_len : ℕ) (r : Range) (pieces : List Piece) → AnswersMoved rows depth thread at old_len new_len (Some r) → ListsMoved rows r pieces
    → AnswersPieces rows depth thread (call.Remap space at old_len new_len) pieces
pieces_for rows depth thread space at old_len new_len r pieces answers lists st e known =
    let is = answers space st e known in
    let early = early_parts st thread space at old_len new_len is.0 in
    has_pieces rows depth thread at old_len new_len r is.2 (ap (λ d. is_page_range d at old_len) (sym e) ∙ early.pages) space pieces answers lists st e known
