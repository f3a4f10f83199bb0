-- Plans of calls that give a range another length.
--     wrong_range, wrong_length, absent      a call that is refused for its arguments or its space
--     no_room, holed, clear      one without a place;  one with a hole;  one that nothing refuses early
--     resize_refused, resize_granted      the plan of one that is refused early;  of one that is not
use Rattle.std.specs.Prelude.{◌≡◌, ℕ, ◌+◌, ◌/◌, ◌-◌, ◌<◌, ◌≤◌, ◌&&◌, ◌||◌, Bool, true, false, cond, not, List, [], ◌∷◌, length, nat_eq, is_some, Option, Some, None}
use Rattle.std.specs.Option.{option_or, unwrap_or}
use Rattle.std.specs.List.{filter}
use Rattle.std.specs.FinMap as fin
use Rattle.std.proofs.Common.{sym, refl, ◌∙◌, ap, subst, arith, inl}
use Rattle.std.proofs.lemmas.Bool.{and_from, and_parts, eq-eqb, eqb-true, lt-ltb, true≢false, false≢true}
use Rattle.corten_base.specs.declared.calls.Call.{Call}
use Rattle.corten_base.specs.declared.calls.Call.TheVariants as call
use Rattle.corten_base.specs.declared.calls.Reply.{Reply}
use Rattle.corten_base.specs.declared.calls.Reply.TheVariants as reply
use Rattle.page_map.specs.declared.cell.Cell.{Cell}
use Rattle.page_map.specs.Cell.{AddressSpace}
use Rattle.page_map.specs.Mapping.{is_length, is_free, gap, hole}
use Rattle.page_map.specs.Remap.{Resize, resize_of, grows, has_room, lacks_room, put_at, left_first, left_count, filled_first, filled_count}
use Rattle.page_map.specs.State.{State, levels, space_at, cell_at, is_present}
use Rattle.page_map.specs.Step.{refused_unless, hole_reply}
use Rattle.page_map.proofs.Gaps.{gap_free}
use Rattle.page_map.proofs.GivenUp.{free_none}
use Rattle.page_map.proofs.Range.{inside as inside_range}
use Rattle.table_place.specs.Place.{is_page_range, is_user_page, is_user_range, pages_of, directory}
use Rattle.table_place.specs.Range.{within}
use Rattle.table_place.proofs.Tables.{to_range, user_page}
use Rattle.tree_lock.specs.declared.zone.Zone.TheVariants as zone
use Rattle.machine_plan.specs.declared.kit.Kit.{Kit}
use Rattle.machine_plan.specs.declared.kit.Change.TheVariants as change
use Rattle.machine_plan.specs.Books.{BookData, state_of}
use Rattle.machine_plan.specs.HeldRows.{Row, AreAsked}
use Rattle.machine_plan.specs.Kits.{HasRoom}
use Rattle.machine_plan.specs.Uses.{early_refusal, uses_page, wants_of, changes_of}
use Rattle.machine_plan.proofs.Telling.{cover_is_asked}
use Rattle.held_spans.specs.declared.resizing.Placing.{Placing}
use Rattle.held_spans.specs.declared.resizing.Placing.TheVariants.{Stays, Moves}
use Rattle.held_spans.specs.declared.resizing.Resize.{Resize as Range}
use Rattle.held_spans.specs.Resizing.{AllAsked, range_of, IsPlaced, AnswersPlacing}
use Rattle.held_spans.proofs.Moved.{early_parts}
use Rattle.range_cursor.specs.Drawing.{DrawsPages, reaches}
use Rattle.range_cursor.specs.Plans.{IsPlannable, Needs, Plans, IsFilledBy}
use Rattle.range_cursor.specs.Ranges.{HasFewRefs}
use Rattle.range_cursor.specs.Reach.{KnowsRoot}
use Rattle.range_cursor.specs.Resized.{SeesResize, RefusesResize, GivesPlacing, placed_by, left_from, left_by}
use Rattle.range_cursor.proofs.Asking.{range_is_user, range_some}
use Rattle.range_cursor.proofs.Granted.{plan_refused, plan_drawn, frames_are_ready, slots_are_ready}
use Rattle.range_cursor.proofs.Present.{root_there}
use Rattle.range_cursor.proofs.Wider.{used_same, drawn_wider}

-- what refuses such a call, in order
early_by : Bool → Bool → Bool → Bool → Option Reply → Option Reply
early_by pages length present lacking holes =
    option_or (refused_unless (pages && length) reply.Einval) (option_or (refused_unless present reply.NoSpace) (option_or None (option_or (refused_unless (not lacking) reply.NoRoom) (option_or holes None))))

module _ (st : State) (depth thread space at old_len new_len : ℕ) (rows : List Row) (sees : SeesResize st depth space at old_len new_len rows) where
  abbrev this : Call
  this = call.Remap space at old_len new_len

  abbrev cells : AddressSpace
  cells = space_at st space

  abbrev r : Resize
  r = resize_of at old_len new_len

  early_is : early_refusal st thread this ≡ early_by (is_page_range depth at old_len) (is_length depth new_len) (is_present st space) (lacks_room depth thread cells r) (hole_reply (hole cells at old_len))
  unfolding early_by
  early_is = λ i. early_by (is_page_range (sees.same_levels i) at old_len) (is_length (sees.same_levels i) new_len) (is_present st space) (lacks_room (sees.same_levels i) thread cells r) (hole_reply (hole cells at old_len))

  pub wrong_range : is_page_range depth at old_len ≡ false → early_refusal st thread this ≡ Some reply.Einval
  unfolding early_by
  wrong_range e = early_is ∙ ap (λ b. early_by b (is_length depth new_len) (is_present st space) (lacks_room depth thread cells r) (hole_reply (hole cells at old_len))) e

  module _ (pages : is_page_range depth at old_len ≡ true) where
    pub wrong_length : is_length depth new_len ≡ false → early_refusal st thread this ≡ Some reply.Einval
    unfolding early_by
    wrong_length e = early_is ∙ (λ i. early_by (pages i) (e i) (is_present st space) (lacks_room depth thread cells r) (hole_reply (hole cells at old_len)))

    module _ (length_is : is_length depth new_len ≡ true) where
      pub resize_knows : KnowsRoot st space rows
      resize_knows = record { consistent = sees.consistent; shown = sees.shown; top = λ lone. sees.cover pages length_is directory (inl refl) }

      pub absent : is_present st space ≡ false → early_refusal st thread this ≡ Some reply.NoSpace
      unfolding early_by
      absent e = early_is ∙ (λ i. early_by (pages i) (length_is i) (e i) (lacks_room depth thread cells r) (hole_reply (hole cells at old_len)))

      module _ (there : is_present st space ≡ true) where
        all_asked : AllAsked depth space rows
        all_asked page user =
            cover_is_asked (zone.Space space) st rows space page sees.consistent sees.shown sees.one_space (sees.cover pages length_is) (root_there st space sees.consistent ∙ there) (ap (λ l. is_user_page l page) sees.same_levels ∙ user) refl

        pub old_asked : AreAsked space rows (at / 4096) (pages_of old_len)
        old_asked page inside = all_asked page (user_page depth (at / 4096) (pages_of old_len) page (range_is_user depth at old_len pages) inside)

        pub placed_is : (range : Range) → range_of range ≡ r → (o : Option Placing) → AnswersPlacing rows depth thread range o → IsPlaced depth thread cells r o
        placed_is range same o answers = subst (λ x. IsPlaced depth thread cells x o) same (answers space st all_asked last sees.shown)
          where
            some : 1 ≤ range.old
            some = let s = range_some depth at old_len pages in omega (arith, s, ap (λ (x : Resize). x.old) same)

            user : is_user_range depth range.first range.old ≡ true
            user = (λ i. is_user_range depth (same i).first (same i).old) ∙ range_is_user depth at old_len pages

            last : is_user_page depth (range.first + range.old - 1) ≡ true
            last = user_page depth range.first range.old (range.first + range.old - 1) user (to_range range.first range.old (range.first + range.old - 1) (let s = some in omega (arith, s)) (let s = some in omega (arith, s)))

        pub no_room : IsPlaced depth thread cells r None → early_refusal st thread this ≡ Some reply.NoRoom
        unfolding early_by
        no_room lacks = early_is ∙ (λ i. early_by (pages i) (length_is i) (there i) (lacks i) (hole_reply (hole cells at old_len)))

        pub holed : lacks_room depth thread cells r ≡ false → (answer : Reply) → hole_reply (hole cells at old_len) ≡ Some answer → early_refusal st thread this ≡ Some answer
        unfolding early_by
        holed lacks answer e = early_is ∙ (λ i. early_by (pages i) (length_is i) (there i) (lacks i) (e i))

        pub clear : lacks_room depth thread cells r ≡ false → hole_reply (hole cells at old_len) ≡ None → early_refusal st thread this ≡ None
        unfolding early_by
        clear lacks e = early_is ∙ (λ i. early_by (pages i) (length_is i) (there i) (lacks i) (e i))

-- where a range that has a place is in need of room
pub not_lacking : (depth thread : ℕ) (cells : AddressSpace) (r : Resize) (placing : Placing) → IsPlaced depth thread cells r (Some placing) → lacks_room depth thread cells r ≡ false
not_lacking depth thread m r Stays placed = placed.0
not_lacking depth thread m r (Moves to) placed = placed.0

-- ---- the pages that it gives up and fills

abbrev pub filled_from : Resize → Placing → ℕ
filled_from r Stays = r.first + r.old
filled_from r (Moves to) = to

abbrev pub filled_by : Resize → Placing → ℕ
filled_by r Stays = r.new - r.old
filled_by r (Moves to) = r.new

module _ (depth thread : ℕ) (cells : AddressSpace) (r : Resize) where
  put_is : (placing : Placing) → IsPlaced depth thread cells r (Some placing) → put_at depth thread cells r ≡ placed_by r placing
  put_is Stays placed = ap (λ b. cond b (unwrap_or (gap thread cells r.new) 0) r.first) placed.1
  put_is (Moves to) placed = λ i. cond (placed.1 i) (unwrap_or (placed.2 i) 0) r.first

  left_first_is : (placing : Placing) → IsPlaced depth thread cells r (Some placing) → left_first depth cells r ≡ left_from r placing
  left_first_is Stays placed = ap (λ b. cond b r.first (r.first + r.new)) placed.1
  left_first_is (Moves to) placed = ap (λ b. cond b r.first (r.first + r.new)) placed.1

  left_count_is : (placing : Placing) → IsPlaced depth thread cells r (Some placing) → left_count depth cells r ≡ left_by r placing
  left_count_is Stays placed = ap (λ b. cond b r.old (r.old - r.new)) placed.1
  left_count_is (Moves to) placed = ap (λ b. cond b r.old (r.old - r.new)) placed.1

  filled_first_is : (placing : Placing) → IsPlaced depth thread cells r (Some placing) → filled_first depth thread cells r ≡ filled_from r placing
  filled_first_is Stays placed = ap (λ b. cond b (put_at depth thread cells r) (r.first + r.old)) placed.1
  filled_first_is (Moves to) placed = ap (λ b. cond b (put_at depth thread cells r) (r.first + r.old)) placed.1 ∙ put_is (Moves to) placed

  filled_count_is : (placing : Placing) → IsPlaced depth thread cells r (Some placing) → filled_count depth cells r ≡ filled_by r placing
  filled_count_is Stays placed = ap (λ b. cond b r.new (r.new - r.old)) placed.1
  filled_count_is (Moves to) placed = ap (λ b. cond b r.new (r.new - r.old)) placed.1

  -- what it fills has no cell
  filled_none : (placing : Placing) → IsPlaced depth thread cells r (Some placing) → (page : ℕ) → within (filled_from r placing) (filled_by r placing) page ≡ true → fin.get cells page ≡ None
  filled_none Stays placed page inside =
      let bounds = inside_range (r.first + r.old) (r.new - r.old) page inside in
      let more : r.old < r.new = omega (arith, bounds.0, bounds.1) in
      free_none cells (r.first + r.old) (r.new - r.old) page (and_parts (is_user_range depth (r.first + r.old) (r.new - r.old)) (is_free cells (r.first + r.old) (r.new - r.old)) (room more)).1 inside
    where
      room : r.old < r.new → has_room depth cells r ≡ true
      room more = go (has_room depth cells r) refl
        where
          go : (b : Bool) → has_room depth cells r ≡ b → has_room depth cells r ≡ true
          go true e = e
          go false e = absurd (false≢true (sym placed.1 ∙ and_from (grows r) (not (has_room depth cells r)) (lt-ltb r.old r.new more) (ap not e)))
  filled_none (Moves to) placed page inside = free_none cells to r.new page (gap_free thread cells r.new to placed.2) inside

-- ---- the plan

or_left : (a b : Bool) → a ≡ true → (a || b) ≡ true
or_left true b e = refl
or_left false b e = absurd (false≢true e)

or_right : (a b : Bool) → (a || b) ≡ true → a ≡ false → b ≡ true
or_right true b e f = absurd (true≢false f)
or_right false b e f = e

module _ (b : BookData) (thread depth space at old_len new_len : ℕ) (files : List (List ℕ)) (rows : List Row) (kit : Kit) (may : IsPlannable b thread (call.Remap space at old_len new_len) depth files rows kit) where
  abbrev that : Call
  that = call.Remap space at old_len new_len

  abbrev q : Resize
  q = resize_of at old_len new_len

  abbrev before : AddressSpace
  before = space_at (state_of b) space

  resize_sees : SeesResize (state_of b) depth space at old_len new_len rows
  resize_sees = record {
    consistent = may.consistent;
    same_levels = may.same_levels;
    shown = may.shown;
    cover = λ pages length. may.cover ((λ i. is_some (refused_unless (is_page_range (may.same_levels i) at old_len && is_length (may.same_levels i) new_len) reply.Einval)) ∙ (λ i. is_some (refused_unless (pages i && length i) reply.Einval)));
    one_space = may.one_space space refl;
  }

  pub resize_refused : (answer : Reply) (kit' : Kit) → RefusesResize depth thread space at old_len new_len rows answer → kit' ≡ record kit { early = Some answer; pieces = kit'.pieces } → kit'.pieces.items ≡ [] → Plans b thread that rows kit rows kit'
  resize_refused answer kit' because done none = plan_refused b thread that depth files rows kit may tt answer rows kit' done none (because (state_of b) resize_sees) refl

  module _ (placing : Placing) (given : GivesPlacing depth thread space at old_len new_len rows placing) where
    early_none : early_refusal (state_of b) thread that ≡ None
    early_none = (given (state_of b) resize_sees).0

    placed : IsPlaced (levels (state_of b)) thread before q (Some placing)
    placed = subst (λ l. IsPlaced l thread before q (Some placing)) (sym may.same_levels) (given (state_of b) resize_sees).1

    uses_is : (s page : ℕ) → uses_page (state_of b) thread that s page ≡ (nat_eq s space && (within (left_from q placing) (left_by q placing) page || within (filled_from q placing) (filled_by q placing) page))
    uses_is s page = λ i. nat_eq s space
        && (within (left_first_is (levels (state_of b)) thread before q placing placed i) (left_count_is (levels (state_of b)) thread before q placing placed i) page
        || within (filled_first_is (levels (state_of b)) thread before q placing placed i) (filled_count_is (levels (state_of b)) thread before q placing placed i) page)

    more_used : (s page : ℕ) → reaches space (left_from q placing) (left_by q placing) s page ≡ true → uses_page (state_of b) thread that s page ≡ true
    more_used s page h =
        let both = and_parts (nat_eq s space) (within (left_from q placing) (left_by q placing) page) h in
        uses_is s page ∙ and_from _ _ both.0 (or_left _ _ both.1)

    -- what it fills has no cell
    less_used : (s page : ℕ) → uses_page (state_of b) thread that s page ≡ true → reaches space (left_from q placing) (left_by q placing) s page ≡ false → cell_at (state_of b) s page ≡ None
    less_used s page u f =
        let both = and_parts (nat_eq s space) (within (left_from q placing) (left_by q placing) page || within (filled_from q placing) (filled_by q placing) page) (sym (uses_is s page) ∙ u) in
        let here = or_right _ _ both.1 (sym (ap (λ t. t && within (left_from q placing) (left_by q placing) page) both.0) ∙ f) in
        ap (λ t. cell_at (state_of b) t page) (eqb-true s space both.0) ∙ filled_none (levels (state_of b)) thread before q placing placed page here

    resize_used : filter (λ (e : ℕ × Cell). uses_page (state_of b) thread that space e.0) (fin.entries before) ≡ filter (λ e. within (left_from q placing) (left_by q placing) e.0) (fin.entries before)
    resize_used = used_same before (left_from q placing) (left_by q placing) (λ page. uses_page (state_of b) thread that space page) (λ page h. more_used space page (and_from _ _ (eq-eqb space space refl) h)) fewer
      where
        fewer : (page : ℕ) (x : Cell) → fin.get before page ≡ Some x → uses_page (state_of b) thread that space page ≡ true → within (left_from q placing) (left_by q placing) page ≡ true
        fewer page x there u = go (within (left_from q placing) (left_by q placing) page) refl
          where
            some_none : ◌≡◌ {A = Option Cell} (Some x) None → ⊥
            some_none e = cc e

            go : (w : Bool) → within (left_from q placing) (left_by q placing) page ≡ w → within (left_from q placing) (left_by q placing) page ≡ true
            go true e = e
            go false e = absurd (some_none (sym there ∙ less_used space page u (ap (λ t. nat_eq space space && t) e ∙ and_false (nat_eq space space))))
              where
                and_false : (t : Bool) → (t && false) ≡ false
                and_false true = refl
                and_false false = refl

    left_asked : AreAsked space rows (left_from q placing) (left_by q placing)
    left_asked page h =
        let early = early_parts (state_of b) thread space at old_len new_len early_none in
        let pages : is_page_range depth at old_len ≡ true = ap (λ l. is_page_range l at old_len) (sym may.same_levels) ∙ early.pages in
        let length : is_length depth new_len ≡ true = ap (λ l. is_length l new_len) (sym may.same_levels) ∙ early.length in
        old_asked (state_of b) depth thread space at old_len new_len rows resize_sees pages length early.present page (in_old placing h)
      where
        in_old : (p : Placing) → within (left_from q p) (left_by q p) page ≡ true → within q.first q.old page ≡ true
        in_old Stays h = let bounds = inside_range (q.first + q.new) (q.old - q.new) page h in to_range q.first q.old page (omega (arith, bounds.0)) (omega (arith, bounds.0, bounds.1))
        in_old (Moves to) h = h

    pub resize_granted : (needed : ℕ) (rows' : List Row) (kit' : Kit) → Needs b thread that needed → HasFewRefs rows → IsFilledBy needed kit kit' → HasRoom kit'
        → DrawsPages space (left_from q placing) (left_by q placing) rows rows' kit'.own_frames.items kit'.own_slots.items → kit'.wants.items ≡ []
        → kit'.changes.items ≡ change.Move q.first q.old (placed_by q placing) q.new ∷ change.GiveUp (left_from q placing) (left_by q placing) ∷ [] → Plans b thread that rows kit rows' kit'
    unfolding wants_of changes_of
    resize_granted needed rows' kit' needs few done room draws wants changes =
        plan_drawn b thread that depth files rows kit may tt space (left_from q placing) (left_by q placing) needed few resize_used needs rows' kit' draws done
        (drawn_wider (state_of b) may.consistent rows may.shown space (left_from q placing) (left_by q placing) (uses_page (state_of b) thread that) more_used less_used rows' draws.drawn)
        (frames_are_ready b thread that depth files rows kit may tt space (left_from q placing) (left_by q placing) needed few resize_used needs rows' kit' draws done refl)
        (slots_are_ready b thread that depth files rows kit may tt space (left_from q placing) (left_by q placing) needed few resize_used needs rows' kit' draws done refl)
        early_none left_asked room (omega (arith, ap length wants)) wants
        (changes ∙ sym (λ i. change.Move q.first q.old (put_is (levels (state_of b)) thread before q placing placed i) q.new
        ∷ change.GiveUp (left_first_is (levels (state_of b)) thread before q placing placed i) (left_count_is (levels (state_of b)) thread before q placing placed i) ∷ []))
