-- The step of a call that gives a range another length.
use Rattle.std.proofs.Common.{◌≡◌, ℕ, ◌+◌, ◌-◌, ◌*◌, ◌/◌, ◌%◌, ◌^◌, ◌<◌, ◌≤◌, Bool, true, false, cond, not, ◌&&◌, ◌||◌, ◌⊎◌, inl, inr, List, [], ◌∷◌, append-nil, length, refl, sym, ap, subst, ◌∙◌, arith}
use mathlib.Core.Bool.{true≢false}
use Rattle.std.specs.Prelude.{Option, Some, None, IsSome, is_some, is_none, nat_eq, nat_lt, nat_le}
use Rattle.std.specs.Option.{option_or, unwrap_or}
use Rattle.std.specs.List.{flat_map}
use Rattle.std.proofs.lemmas.Bool.{eqb-true, le-ltb, ltb-true, ltb-false, lt-ltb, leb-true, and_parts, cases_lt}
use Rattle.std.specs.FinMap as fin
use Rattle.std.specs.FinMap.{get}
use Rattle.std.specs.FinSet as set
use Rattle.std.specs.FinSet.{contains-difference, contains-from_list}
use Rattle.std.proofs.Math.Pow.{pow_mono}
use Rattle.corten_base.specs.declared.calls.Call.{Call}
use Rattle.corten_base.specs.declared.calls.Call.TheVariants as call
use Rattle.corten_base.specs.declared.calls.Reply.{Reply}
use Rattle.corten_base.specs.declared.calls.Reply.TheVariants as reply
use Rattle.table_place.specs.declared.Place.{Place}
use Rattle.table_place.specs.Range.{within}
use Rattle.table_place.specs.Place.{cut_by, is_inside, is_page_range, is_user_range, pages_of, span_first, span_count}
use Rattle.table_place.proofs.Tables.{in_range, to_range, inside_parts}
use Rattle.page_map.specs.Alike.{unlike_tables}
use Rattle.page_map.specs.Cutting.{ArePieces}
use Rattle.page_map.specs.declared.cell.Cell.{Cell}
use Rattle.page_map.specs.Mapping.{arena_first, gap, hole, is_free, is_length}
use Rattle.page_map.specs.Remap as page_map
use Rattle.page_map.specs.Remap.{grows, has_room, is_too_far, lacks_room, left_count, left_first, moves, put_at, remapped, resize_of}
use Rattle.page_map.specs.State.{State, AddressSpace, IsConsistent, levels, is_present, space_at, unused_frames, unused_slots}
use Rattle.page_map.specs.Tables.{Tables, changed_tables, missing}
use Rattle.page_map.specs.Effect.{wanted_tables, state_after, answer}
use Rattle.page_map.specs.Step.{step, refusal, first_refusal, refused_unless, hole_reply}
use Rattle.page_map.proofs.Alike.{none_alike}
use Rattle.page_map.proofs.Gaps.{gap_free, gap_in_arena}
use Rattle.page_map.proofs.GivenUp.{free_none}
use Rattle.page_map.proofs.Least.{unanswered}
use Rattle.page_map.proofs.Mappings.{page_range, user_few}
use Rattle.page_map.proofs.NeedOfRemap.{shrunk_stays, roomy_stays, left_behind, moves_away, shrunk_lack, same_length_lack, grown_lack, moved_lack}
use Rattle.page_map.proofs.Places.{place_total}
use Rattle.page_map.proofs.Steps.{accepted, refused, not_none}
use Rattle.page_map.proofs.TablesAfter.{changed_with, put_in_first, alike_unwanted}
use Rattle.page_map.proofs.Wanted.{is_wanted}
use Rattle.page_map.proofs.StepKeeps.{step_keeps}
use Rattle.plain_counts.specs.declared.counts.Counts.{Counts}
use Rattle.plain_counts.specs.declared.cut.Pages.{Pages}
use Rattle.plain_counts.specs.Counts.{Follow}
use Rattle.plain_counts.specs.Fronts.{AreFull}
use Rattle.plain_counts.specs.Levels.{Lists}
use Rattle.plain_spaces.specs.Pieces.{AreCut, left_of}
use Rattle.plain_spaces.specs.Resizing.{HasNoPlace, IsFull, IsPlacing, length_of}
use Rattle.plain_spaces.specs.declared.resizing.Placing.{Placing}
use Rattle.plain_spaces.specs.declared.resizing.Placing.TheVariants.{Shrinks, Grows, Moves}
use Rattle.plain_spaces.specs.declared.resizing.Resize.{Resize}
use Rattle.plain_spaces.proofs.Resized.{shrunk_is, grown_is, moved_is}
use Rattle.mm_model.specs.Lacking.{tables_lack}
use Rattle.mm_model.specs.Plain.{IsSound}
use Rattle.mm_model.specs.Remapping.{IsRemapping, address_of, after_remap, placed_cells, resized, wanted_at}
use Rattle.mm_model.specs.declared.remapping.Remapping.{Remapping}
use Rattle.mm_model.proofs.Kept.{stays_sound}

none_short : (free : ℕ) (r : ℕ → Reply) → cond (nat_lt free 0) (Some (r 0)) None ≡ None
none_short free r = ap (λ b. cond b (Some (r 0)) None) (le-ltb free 0 (omega arith))

or_none : {A : Type 0} (o : Option A) → option_or o None ≡ o
or_none None = refl
or_none (Some x) = refl

-- ---- a range and its place, in the words of the definitions

module _ (L thread : ℕ) (cells : AddressSpace) (r : Resize) where
  stays : grows (length_of r) ≡ false → moves L cells (length_of r) ≡ false
  stays e = ap (λ b. b && not (has_room L cells (length_of r))) e

  stays_roomy : has_room L cells (length_of r) ≡ true → moves L cells (length_of r) ≡ false
  stays_roomy e = roomy_stays L thread (length_of r) cells e

  pub placed_is : (placing : Placing) → IsPlacing L thread cells r placing → remapped L thread (length_of r) cells ≡ placed_cells r placing cells
  placed_is Shrinks is = shrunk_is L thread (length_of r) cells is
  placed_is Grows is = grown_is L thread (length_of r) cells is.0 is.1
  placed_is (Moves to) is = moved_is L thread (length_of r) cells to is.0 is.1

  -- the pages that it gives up
  first_left : (placing : Placing) → IsPlacing L thread cells r placing → left_first L cells (length_of r) ≡ (left_of r placing).first
  first_left Shrinks is = ap (λ b. cond b r.first (r.first + r.new)) (stays is)
  first_left Grows is = ap (λ b. cond b r.first (r.first + r.new)) (stays_roomy is.1)
  first_left (Moves to) is = ap (λ b. cond b r.first (r.first + r.new)) is.0

  count_left : (placing : Placing) → IsPlacing L thread cells r placing → left_count L cells (length_of r) ≡ (left_of r placing).count
  count_left Shrinks is = ap (λ b. cond b r.old (r.old - r.new)) (stays is)
  count_left Grows is = ap (λ b. cond b r.old (r.old - r.new)) (stays_roomy is.1) ∙ none (ltb-true r.old r.new is.0)
    where
      none : r.old < r.new → r.old - r.new ≡ 0
      none h = omega arith
  count_left (Moves to) is = ap (λ b. cond b r.old (r.old - r.new)) is.0

  -- where it then starts
  pub put_is : (at : ℕ) (placing : Placing) → at ≡ 4096 * r.first → IsPlacing L thread cells r placing → 4096 * put_at L thread cells (length_of r) ≡ address_of at placing
  put_is at Shrinks e is = ap (λ b. 4096 * cond b (unwrap_or (gap thread cells r.new) 0) r.first) (stays is) ∙ sym e
  put_is at Grows e is = ap (λ b. 4096 * cond b (unwrap_or (gap thread cells r.new) 0) r.first) (stays_roomy is.1) ∙ sym e
  put_is at (Moves to) e is = (λ i. 4096 * cond (is.0 i) (unwrap_or (is.1 i) 0) r.first)

  -- an address as any other
  pub address_low : (at : ℕ) (placing : Placing) → thread < 8 → at < 2 ^ 64 → IsPlacing L thread cells r placing → address_of at placing < 2 ^ 64
  address_low at Shrinks few low is = low
  address_low at Grows few low is = low
  address_low at (Moves to) few low is =
      let arena = and_parts (nat_le (arena_first thread) to) (nat_le (to + r.new) (arena_first thread + 2 ^ 27)) (gap_in_arena thread cells r.new to is.1) in
      omega (arith, leb-true (to + r.new) (arena_first thread + 2 ^ 27) arena.1, few)

  -- there is room for it
  pub has_place : (placing : Placing) → IsPlacing L thread cells r placing → is_too_far cells (length_of r) ≡ false → lacks_room L thread cells (length_of r) ≡ false
  has_place Shrinks is near = (λ i. (stays is i && is_none (gap thread cells r.new)) || near i)
  has_place Grows is near = (λ i. (stays_roomy is.1 i && is_none (gap thread cells r.new)) || near i)
  has_place (Moves to) is near = (λ i. (is.0 i && is_none (is.1 i)) || near i)

  -- there is none where it would have to move and can't, or would end too far in its file
  module _ (n : page_map.Resize) (same : length_of r ≡ n) where
    pub no_place : HasNoPlace L thread cells r → lacks_room L thread cells n ≡ true
    no_place none = ap (lacks_room L thread cells) (sym same) ∙ (λ i. (none.goes i && is_none (none.none i)) || is_too_far cells (length_of r))

    pub too_far : is_too_far cells (length_of r) ≡ true → lacks_room L thread cells n ≡ true
    too_far far = ap (lacks_room L thread cells) (sym same) ∙ ap (λ b. (moves L cells (length_of r) && is_none (gap thread cells r.new)) || b) far ∙ either (moves L cells (length_of r) && is_none (gap thread cells r.new))
      where
        either : (b : Bool) → (b || true) ≡ true
        either true = refl
        either false = refl

    pub place_found : (placing : Placing) → IsPlacing L thread cells r placing → is_too_far cells (length_of r) ≡ false → lacks_room L thread cells n ≡ false
    place_found placing is near = ap (lacks_room L thread cells) (sym same) ∙ has_place placing is near

-- ---- what refuses it

module _ (st : State) (thread space at old_len new_len limbo : ℕ) where
  abbrev this : Call
  this = call.Remap space at old_len new_len

  abbrev right : Bool
  right = is_page_range (levels st) at old_len && is_length (levels st) new_len

  abbrev lacks : AddressSpace → Bool
  lacks cells = lacks_room (levels st) thread cells (resize_of at old_len new_len)

  abbrev short : Option Reply
  short = tables_lack st (wanted_tables st thread this) limbo

  refusal_is : refusal st thread this limbo
      ≡ option_or (refused_unless right reply.Einval) (option_or (refused_unless (is_present st space) reply.NoSpace)
      (option_or (refused_unless (not (lacks (space_at st space))) reply.NoRoom) (option_or (hole_reply (hole (space_at st space) at old_len)) short)))
  unfolding refusal
  refusal_is =
      (λ i. first_refusal (refused_unless right reply.Einval ∷ refused_unless (is_present st space) reply.NoSpace ∷ None ∷ refused_unless (not (lacks (space_at st space))) reply.NoRoom ∷ hole_reply (hole (space_at st space) at old_len) ∷ short
      ∷ none_short (length (unused_frames st)) (reply.NoFrames (length (unused_frames st))) i ∷ none_short (length (unused_slots st)) (reply.NoSwap (length (unused_slots st))) i ∷ []))
      ∙ ap (λ o. option_or (refused_unless right reply.Einval) (option_or (refused_unless (is_present st space) reply.NoSpace)
      (option_or (refused_unless (not (lacks (space_at st space))) reply.NoRoom) (option_or (hole_reply (hole (space_at st space) at old_len)) o)))) (or_none short)

  abbrev from_place : AddressSpace → Option Reply
  from_place cells = option_or (refused_unless (not (lacks cells)) reply.NoRoom) (option_or (hole_reply (hole cells at old_len)) short)

  pub wrong : right ≡ false → refusal st thread this limbo ≡ Some reply.Einval
  wrong e = refusal_is ∙ ap (λ b. option_or (refused_unless b reply.Einval) (option_or (refused_unless (is_present st space) reply.NoSpace) (from_place (space_at st space)))) e

  module _ (is_right : right ≡ true) where
    pub absent : get st.spaces space ≡ None → refusal st thread this limbo ≡ Some reply.NoSpace
    absent e = refusal_is ∙ (λ i. option_or (refused_unless (is_right i) reply.Einval) (option_or (refused_unless (is_some (e i)) reply.NoSpace) (from_place (space_at st space))))

    module _ (cells : AddressSpace) (here : get st.spaces space ≡ Some cells) where
      placed_by : refusal st thread this limbo ≡ from_place cells
      placed_by = refusal_is ∙ (λ i. option_or (refused_unless (is_right i) reply.Einval) (option_or (refused_unless (is_some (here i)) reply.NoSpace) (from_place (unwrap_or (here i) fin.empty))))

      pub no_room : lacks cells ≡ true → refusal st thread this limbo ≡ Some reply.NoRoom
      no_room e = placed_by ∙ ap (λ b. option_or (refused_unless (not b) reply.NoRoom) (option_or (hole_reply (hole cells at old_len)) short)) e

      pub has_hole : lacks cells ≡ false → (page : ℕ) → hole cells at old_len ≡ Some page → refusal st thread this limbo ≡ Some (reply.Hole (4096 * page))
      has_hole room page e = placed_by ∙ (λ i. option_or (refused_unless (not (room i)) reply.NoRoom) (option_or (hole_reply (e i)) short))

-- ---- a range that has a place

module _ (st : State) (thread space at old_len new_len : ℕ) (r : Remapping) (is : IsRemapping st thread space at old_len new_len r) where
  abbrev cells_now : AddressSpace
  cells_now = space_at st space

  after_cells : remapped (levels st) thread (resize_of at old_len new_len) cells_now ≡ resized r cells_now
  after_cells = ap (λ n. remapped (levels st) thread n cells_now) (sym is.lengths) ∙ placed_is (levels st) thread cells_now r.resize r.placing is.placed

  pub wanted_is : wanted_tables st thread (call.Remap space at old_len new_len) ≡ wanted_at st space r
  wanted_is = ap (unlike_tables (levels st) space) after_cells

  room : lacks_room (levels st) thread cells_now (resize_of at old_len new_len) ≡ false
  room =
      ap (lacks_room (levels st) thread cells_now) (sym is.lengths)
      ∙ has_place (levels st) thread cells_now r.resize r.placing is.placed (ap (is_too_far cells_now) is.lengths ∙ is.near)

  pub decided : (limbo : ℕ) → refusal st thread (call.Remap space at old_len new_len) limbo ≡ tables_lack st (wanted_at st space r) limbo
  decided limbo =
      refusal_is st thread space at old_len new_len limbo
      ∙ (λ i. option_or (refused_unless (is.range i && is.length i) reply.Einval) (option_or (refused_unless (is.present i) reply.NoSpace)
      (option_or (refused_unless (not (room i)) reply.NoRoom) (option_or (hole_reply (is.full i)) (tables_lack st (wanted_is i) limbo)))))

  gives_up : (p : Place) → is_inside (levels st) space (left_first (levels st) cells_now (resize_of at old_len new_len)) (left_count (levels st) cells_now (resize_of at old_len new_len)) p
      ≡ is_inside (levels st) space (left_of r.resize r.placing).first (left_of r.resize r.placing).count p
  gives_up p = λ i. is_inside (levels st) space
      ((ap (left_first (levels st) cells_now) (sym is.lengths) ∙ first_left (levels st) thread cells_now r.resize r.placing is.placed) i)
      ((ap (left_count (levels st) cells_now) (sym is.lengths) ∙ count_left (levels st) thread cells_now r.resize r.placing is.placed) i) p

  after_is : after_remap st space r ≡ state_after st thread (call.Remap space at old_len new_len)
  unfolding state_after
  after_is = sym (λ i. record st {
    spaces = fin.insert st.spaces space (after_cells i);
    tables = changed_tables (λ p. gives_up p i) (wanted_is i) st.tables;
  })

  answer_is : at ≡ 4096 * r.resize.first → answer st thread (call.Remap space at old_len new_len) ≡ reply.At (address_of at r.placing)
  unfolding answer
  answer_is e = ap reply.At (ap (λ n. 4096 * put_at (levels st) thread cells_now n) (sym is.lengths) ∙ put_is (levels st) thread cells_now r.resize at r.placing e is.placed)

  pub remap_lacks : (limbo : ℕ) (says : Reply) → tables_lack st (wanted_at st space r) limbo ≡ Some says → (says, st) ≡ step st thread (call.Remap space at old_len new_len) limbo
  remap_lacks limbo says e = sym (refused st thread (call.Remap space at old_len new_len) limbo says (decided limbo ∙ e))

  pub remap_made : (limbo : ℕ) → at ≡ 4096 * r.resize.first → tables_lack st (wanted_at st space r) limbo ≡ None → (reply.At (address_of at r.placing), after_remap st space r) ≡ step st thread (call.Remap space at old_len new_len) limbo
  remap_made limbo e enough = (λ i. (sym (answer_is e) i, after_is i)) ∙ sym (accepted st thread (call.Remap space at old_len new_len) limbo (decided limbo ∙ enough))

  pub remap_consistent : (limbo : ℕ) → thread < 8 → IsConsistent st → tables_lack st (wanted_at st space r) limbo ≡ None → IsConsistent (after_remap st space r)
  remap_consistent limbo few ok enough =
      subst IsConsistent (sym (after_is ∙ sym (ap (λ p. p.1) (accepted st thread (call.Remap space at old_len new_len) limbo (decided limbo ∙ enough)))))
      (step_keeps st thread limbo (call.Remap space at old_len new_len) few ok)

-- ---- the pages of the range

-- the address of a range is that of a page
aligned_at : (L at len : ℕ) → is_page_range L at len ≡ true → at % 4096 ≡ 0
aligned_at L at len h = eqb-true (at % 4096) 0 (and_parts (nat_eq (at % 4096) 0) (nat_lt 0 len) (and_parts (nat_eq (at % 4096) 0 && nat_lt 0 len) (is_user_range L (at / 4096) (pages_of len)) h).0).0

-- a mapping is no longer than the pages of five levels
pub few_pages : (L len : ℕ) → L ≤ 5 → is_length L len ≡ true → pages_of len ≤ 2 ^ 45
few_pages L len few h = omega (arith, leb-true len (2 ^ (9 * L + 11)) (and_parts (nat_lt 0 len) (nat_le len (2 ^ (9 * L + 11))) h).1, pow_mono (few_bits L few))
  where
    few_bits : (n : ℕ) → n ≤ 5 → 9 * n + 11 ≤ 56
    few_bits n h = omega arith

-- a range starts at its address
pub starts_at : (st : State) (thread space at old_len new_len : ℕ) (r : Remapping) → IsRemapping st thread space at old_len new_len r → at ≡ 4096 * r.resize.first
starts_at st thread space at old_len new_len r is = omega (arith, ap (λ n. n.first) is.lengths, aligned_at (levels st) at old_len is.range)

module _ (st : State) (thread space at old_len new_len : ℕ) (r : Remapping) (ok : IsConsistent st) (is : IsRemapping st thread space at old_len new_len r) where
  abbrev range : Resize
  range = r.resize

  first_is : range.first ≡ at / 4096
  first_is = ap (λ n. n.first) is.lengths

  old_is : range.old ≡ pages_of old_len
  old_is = ap (λ n. n.old) is.lengths

  new_is : range.new ≡ pages_of new_len
  new_is = ap (λ n. n.new) is.lengths

  user : (is_user_range (levels st) (at / 4096) (pages_of old_len) ≡ true) × (1 ≤ pages_of old_len)
  user = page_range (levels st) at old_len is.range

  some_old : 1 ≤ range.old
  some_old = omega (arith, user.1, old_is)

  few_new : range.new ≤ 2 ^ 45
  few_new = omega (arith, new_is, few_pages (levels st) new_len ok.few_levels is.length)

  mapped : (q : ℕ) → within range.first range.old q ≡ true → get (space_at st space) q ≡ None → ⊥
  mapped q w gone =
      let there = in_range range.first range.old q w in
      is_gone (get (space_at st space) q) (unanswered (λ page. cond (is_none (get (space_at st space) page)) (Some page) None) (at / 4096) (pages_of old_len) is.full q (omega (arith, there.0, first_is)) (omega (arith, there.1, first_is, old_is))) gone
    where
      is_gone : (o : Option Cell) → ◌≡◌ {A = Option ℕ} (cond (is_none o) (Some q) None) None → o ≡ None → ⊥
      is_gone None e h = not_none e
      is_gone (Some c) e h = not_none h

  pub full_here : IsFull (space_at st space) range
  full_here = record {
    some = omega (arith, some_old);
    pages = omega (arith, user_few (levels st) (at / 4096) (pages_of old_len) ok.few_levels user.0, first_is, old_is);
    few = few_new;
    there = λ q w. is_there (get (space_at st space) q) (mapped q w);
    indexes = λ q c e. ok.indexes space q c e;
  }
    where
      is_there : (o : Option Cell) → (o ≡ None → ⊥) → IsSome o
      is_there None h = absurd (h refl)
      is_there (Some c) h = refl

  -- ---- the tables that it lacks

  abbrev cut_each : List Pages → List Place
  cut_each ranges = flat_map (λ (p : Pages). cut_by (levels st) space p.first p.count) ranges

  after_is_placed : (placing : Placing) → IsPlacing (levels st) thread (space_at st space) range placing →
      unlike_tables (levels st) space (placed_cells range placing (space_at st space)) ≡ unlike_tables (levels st) space (remapped (levels st) thread (length_of range) (space_at st space))
  after_is_placed placing placed = ap (unlike_tables (levels st) space) (sym (placed_is (levels st) thread (space_at st space) range placing placed))

  pub cut_lack : (placing : Placing) → IsPlacing (levels st) thread (space_at st space) range placing → (ranges : List Pages) → AreCut (space_at st space) range placing ranges →
      missing (unlike_tables (levels st) space (placed_cells range placing (space_at st space))) st.tables ≡ missing (cut_each ranges) st.tables
  cut_lack Shrinks placed ranges cut =
      ap (λ ps. missing ps st.tables) (after_is_placed Shrinks placed) ∙ by_order (cases_lt range.new range.old) ∙ ap (λ rs. missing (cut_each rs) st.tables) (sym cut)
    where
      kept : range.new ≤ range.old
      kept = ltb-false range.old range.new placed

      same_new : range.old ≤ range.new → range.new ≤ range.old → range.new ≡ range.old
      same_new a b = omega (arith, a, b)

      by_order : (range.new < range.old) ⊎ (range.old ≤ range.new) → missing (unlike_tables (levels st) space (remapped (levels st) thread (length_of range) (space_at st space))) st.tables
          ≡ missing (cut_each (cond (nat_lt range.new range.old) (record { first = range.first + range.new; count = range.old - range.new } ∷ []) [])) st.tables
      by_order (inl less) =
          shrunk_lack st thread space (length_of range) ok some_old mapped less
          ∙ ap (λ ps. missing ps st.tables) (sym (append-nil (cut_by (levels st) space (range.first + range.new) (range.old - range.new))))
          ∙ ap (λ b. missing (cut_each (cond b (record { first = range.first + range.new; count = range.old - range.new } ∷ []) [])) st.tables) (sym (lt-ltb range.new range.old less))
      by_order (inr more) =
          same_length_lack st thread space (length_of range) ok some_old mapped (same_new more kept)
          ∙ ap (λ b. missing (cut_each (cond b (record { first = range.first + range.new; count = range.old - range.new } ∷ []) [])) st.tables) (sym (le-ltb range.new range.old more))
  cut_lack Grows placed ranges cut =
      ap (λ ps. missing ps st.tables) (after_is_placed Grows placed)
      ∙ grown_lack st thread space (length_of range) ok some_old mapped (ltb-true range.old range.new placed.0) (roomy_stays (levels st) thread (length_of range) (space_at st space) placed.1)
      (λ q w. free_none (space_at st space) (range.first + range.old) (range.new - range.old) q (and_parts _ (is_free (space_at st space) (range.first + range.old) (range.new - range.old)) placed.1).1 w)
      ∙ ap (λ ps. missing ps st.tables) (sym (append-nil (cut_by (levels st) space (range.first + range.old) (range.new - range.old))))
      ∙ ap (λ rs. missing (cut_each rs) st.tables) (sym cut)
  cut_lack (Moves to) placed ranges cut =
      ap (λ ps. missing ps st.tables) (after_is_placed (Moves to) placed)
      ∙ moved_lack st thread space (length_of range) ok some_old mapped to placed.0 placed.1
      (λ q w. free_none (space_at st space) to range.new q (gap_free thread (space_at st space) range.new to placed.1) w)
      (λ (p : Pages). p.first) (λ p. p.count) cut.0
      (subst (λ m. ArePieces (λ (p : Pages). p.first) (λ p. p.count) m to (to + range.new) cut.0) (sym (placed_is (levels st) thread (space_at st space) range (Moves to) placed)) cut.2)
      ∙ ap (λ rs. missing (cut_each rs) st.tables) (sym cut.1)

  -- ---- the tables afterwards

  abbrev gone : Place → Bool
  gone p = is_inside (levels st) space (left_of range r.placing).first (left_of range r.placing).count p

  -- pages that it gives up are Invalid
  left_none : (placing : Placing) → IsPlacing (levels st) thread (space_at st space) range placing → (q : ℕ) → within (left_of range placing).first (left_of range placing).count q ≡ true →
      get (placed_cells range placing (space_at st space)) q ≡ None
  left_none Shrinks placed q w =
      ap (λ m. get m q) (sym (placed_is (levels st) thread (space_at st space) range Shrinks placed))
      ∙ left_behind (levels st) thread (length_of range) (space_at st space) (shrunk_stays (levels st) thread (length_of range) (space_at st space) (ltb-false range.old range.new placed)) q w
  left_none Grows placed q w = absurd (none (in_range (range.first + range.new) 0 q w))
    where
      none : (range.first + range.new ≤ q) × (q < range.first + range.new + 0) → ⊥
      none h = omega (arith, h.0, h.1)
  left_none (Moves to) placed q w =
      ap (λ m. get m q) (sym (placed_is (levels st) thread (space_at st space) range (Moves to) placed))
      ∙ (moves_away (levels st) thread (length_of range) (space_at st space) some_old mapped to placed.0 placed.1
      (λ q w. free_none (space_at st space) to range.new q (gap_free thread (space_at st space) range.new to placed.1) w)).left q w

  unwanted : (p : Place) → gone p ≡ true → is_wanted (wanted_at st space r) p ≡ false
  unwanted p inside =
      let within_left = inside_parts (levels st) space (left_of range r.placing).first (left_of range r.placing).count p inside in
      alike_unwanted (levels st) space (resized r (space_at st space)) p (none_alike (resized r (space_at st space)) (span_first p) (span_count p) (λ q a b.
      left_none r.placing is.placed q (to_range (left_of range r.placing).first (left_of range r.placing).count q (omega (arith, within_left.from, a)) (omega (arith, within_left.to, b)))))

  -- those that it lacks come first, and then those of the pages that it leaves go
  pub tables_after : (items : List Place) → Lists (missing (wanted_at st space r) st.tables) items → (tables : Tables) → tables ≡ set.union st.tables (set.from_list items) →
      set.retain tables (λ p. not (gone p)) ≡ (after_remap st space r).tables
  tables_after items lists tables put =
      ap (λ s. set.retain s (λ p. not (gone p))) (put ∙ ap (set.union st.tables) lists.same)
      ∙ put_in_first gone st.tables (missing (wanted_at st space r) st.tables) (λ p h. stay p h (gone p) refl)
      ∙ sym (changed_with gone st.tables (wanted_at st space r) unwanted)
    where
      wanted_one : (p : Place) → set.contains (missing (wanted_at st space r) st.tables) p ≡ true → is_wanted (wanted_at st space r) p ≡ true
      wanted_one p h = (and_parts (is_wanted (wanted_at st space r) p) (not (set.contains st.tables p))
          (sym (contains-difference place_total (set.from_list (wanted_at st space r)) st.tables p ∙ ap (λ b. b && not (set.contains st.tables p)) (contains-from_list place_total (wanted_at st space r) p)) ∙ h)).0

      stay : (p : Place) → set.contains (missing (wanted_at st space r) st.tables) p ≡ true → (b : Bool) → gone p ≡ b → gone p ≡ false
      stay p h false e = e
      stay p h true e = absurd (true≢false (sym (wanted_one p h) ∙ unwanted p e))

  -- ---- what the machine keeps

  pub remap_sound : (limbo : ℕ) → thread < 8 → tables_lack st (wanted_at st space r) limbo ≡ None → (cells cells' : AddressSpace) (tables' : Tables) (counts counts' : Counts) (fronts fronts' : List ℕ) → IsSound st counts fronts →
      get st.spaces space ≡ Some cells → cells' ≡ resized r cells → tables' ≡ (after_remap st space r).tables → Follow counts counts' cells cells' →
      AreFull (record st { spaces = fin.insert st.spaces space cells'; tables = tables' }) fronts' → IsSound (record st { spaces = fin.insert st.spaces space cells'; tables = tables' }) counts' fronts'
  remap_sound limbo few enough cells cells' tables' counts counts' fronts fronts' sound here cells_are tables_are follow full =
      stays_sound st counts fronts sound space cells here cells' tables' counts' fronts' follow
      (subst IsConsistent (sym (λ i. record st { spaces = fin.insert st.spaces space ((cells_are ∙ ap (λ o. resized r (unwrap_or o fin.empty)) (sym here)) i); tables = tables_are i }))
      (remap_consistent st thread space at old_len new_len r is limbo few ok enough)) full
