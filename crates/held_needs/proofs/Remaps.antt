-- What a range needs that gets another length.
use Rattle.std.proofs.Common.{◌≡◌, ℕ, zero, suc, ◌+◌, ◌-◌, ◌*◌, ◌/◌, ◌^◌, ◌<◌, ◌≤◌, Bool, true, false, cond, not, List, [], ◌∷◌, ◌++◌, append-nil, refl, sym, ap, subst, ◌∙◌, inl, inr, arith}
use mathlib.Core.Bool.{true≢false}
use Rattle.std.specs.Prelude.{◌&&◌, ◌||◌, nat_le, nat_lt, Option, Some, None, is_none}
use Rattle.std.specs.Option.{unwrap_or}
use Rattle.std.specs.List.{Contains, flat_map}
use Rattle.std.specs.FinMap as fin
use Rattle.std.specs.FinSet as set
use Rattle.std.proofs.lemmas.Bool.{and_parts, and_from, lt-ltb, ltb-true, le-ltb, le-leb, leb-true, cases_order}
use Rattle.corten_base.specs.declared.calls.Call.{Call}
use Rattle.corten_base.specs.declared.calls.Call.TheVariants as call
use Rattle.corten_base.specs.declared.calls.Reply.TheVariants as reply
use Rattle.table_place.specs.Range.{within}
use Rattle.table_place.specs.Place.{cut_by, is_page_range, is_user_range, pages_of}
use Rattle.table_place.proofs.Tables.{in_range, to_range, user_page}
use Rattle.page_map.specs.Alike.{unlike_tables}
use Rattle.page_map.specs.declared.cell.Cell.{Cell as PageCell}
use Rattle.page_map.specs.Cell.{AddressSpace}
use Rattle.page_map.specs.Cutting.{ArePieces}
use Rattle.page_map.specs.Effect.{wanted_tables, cells_after}
use Rattle.page_map.specs.Mapping.{is_length, is_free, gap, hole}
use Rattle.page_map.specs.Remap.{Resize, resize_of, has_room, moves, put_at, lacks_room, is_too_far, remapped}
use Rattle.page_map.specs.State.{State, levels, space_at}
use Rattle.page_map.specs.Step.{hole_reply}
use Rattle.page_map.specs.Tables.{need, missing}
use Rattle.page_map.proofs.Gaps.{gap_free}
use Rattle.page_map.proofs.GivenUp.{free_none}
use Rattle.page_map.proofs.Least.{unanswered}
use Rattle.page_map.proofs.Mappings.{page_range, some_pages, user_few, gap_user}
use Rattle.page_map.proofs.NeedOfRemap.{shrunk_lack, same_length_lack, grown_lack, moved_lack}
use Rattle.page_map.proofs.Steps.{not_none}
use Rattle.page_map.proofs.Unmapped.{held_of}
use Rattle.plain_counts.specs.declared.cut.Pages.{Pages}
use Rattle.plain_counts.specs.Cut.{IsShort, cut_by_all}
use Rattle.machine_plan.specs.declared.kit.Piece.{Piece}
use Rattle.machine_plan.specs.HeldRows.{Row, IsAsked}
use Rattle.machine_plan.specs.Moving.{piece_at, HasPieces}
use Rattle.held_needs.specs.Cutting.{last_of}
use Rattle.held_needs.specs.Found.{EndsAsked}
use Rattle.held_needs.specs.Calls.{IsHeldFor, IsPlacedAt}
use Rattle.held_needs.specs.Moved.{range_at, ranges_at, resized, MoveLacks, StayLacks}
use Rattle.held_needs.proofs.Counted.{need_none}
use Rattle.held_needs.proofs.Early.{told, page_told}
use Rattle.held_needs.proofs.Pages.{only}

abbrev pub old_range : ℕ → ℕ → Pages
old_range at old_len = record { first = at / 4096; count = pages_of old_len }

module _ (number : ℕ) (rows : List Row) (thread : ℕ) (st : State) (four : 4 ≤ number) (five : number ≤ 5) (space at old_len new_len : ℕ) (h : IsHeldFor number rows thread (call.Remap space at old_len new_len) st) where
  abbrev c : Call
  c = call.Remap space at old_len new_len

  abbrev r : Resize
  r = resize_of at old_len new_len

  abbrev cells : AddressSpace
  cells = space_at st space

  rights : (is_page_range (levels st) at old_len ≡ true) × (is_length (levels st) new_len ≡ true)
  rights = and_parts (is_page_range (levels st) at old_len) (is_length (levels st) new_len) (held_of _ reply.Einval (told number rows thread c st h).arguments)

  user : (is_user_range number r.first r.old ≡ true) × (1 ≤ r.old)
  user = page_range number at old_len (ap (λ k. is_page_range k at old_len) (sym h.state.same_levels) ∙ rights.0)

  pub old_right : is_page_range number at old_len ≡ true
  old_right = ap (λ k. is_page_range k at old_len) (sym h.state.same_levels) ∙ rights.0

  pub new_some : 1 ≤ r.new
  new_some = some_pages new_len (and_parts (nat_lt 0 new_len) (nat_le new_len (2 ^ (9 * levels st + 11))) rights.1).0

  mapped : (q : ℕ) → within r.first r.old q ≡ true → fin.get cells q ≡ None → ⊥
  mapped q w none =
      let at_q = in_range r.first r.old q w in
      some_hole (fin.get cells q) none (unanswered (λ p. cond (is_none (fin.get cells p)) (Some p) None) r.first r.old (no_hole (hole cells at old_len) (told number rows thread c st h).pages) q at_q.0 at_q.1)
    where
      no_hole : (o : Option ℕ) → hole_reply o ≡ None → o ≡ None
      no_hole None e = refl
      no_hole (Some n) e = absurd (not_none e)

      some_hole : (o : Option PageCell) → o ≡ None → cond (is_none o) (Some q) None ≡ None → ⊥
      some_hole None e f = not_none f
      some_hole (Some x) e f = not_none e

  has_place : lacks_room (levels st) thread cells r ≡ false
  has_place = not_false (lacks_room (levels st) thread cells r) (held_of (not (lacks_room (levels st) thread cells r)) reply.NoRoom (told number rows thread c st h).place)
    where
      not_false : (b : Bool) → not b ≡ true → b ≡ false
      not_false false e = refl
      not_false true e = absurd (true≢false (sym e))

  -- the ends of a range of user pages
  range_told : (p : Pages) → 1 ≤ p.count → is_user_range number p.first p.count ≡ true → IsAsked space rows p.first × IsAsked space rows (last_of p)
  range_told p some right = (
    page_told number rows thread c st h space p.first refl (user_page number p.first p.count p.first right (to_range p.first p.count p.first (omega arith) (omega (arith, some)))) refl,
    page_told number rows thread c st h space (last_of p) refl (user_page number p.first p.count (last_of p) right (to_range p.first p.count (last_of p) (omega (arith, some)) (omega (arith, some)))) refl,
  )

  short : (p : Pages) → 1 ≤ p.count → is_user_range number p.first p.count ≡ true → IsShort p
  short p some right = record { some = omega (arith, some); fits = omega (arith, user_few number p.first p.count five right) }

  -- one range of user pages that it lacks
  one_lacks : (p : Pages) (n : ℕ) → 1 ≤ p.count → is_user_range number p.first p.count ≡ true → resized (old_range at old_len) r.new ≡ p → StayLacks number rows (old_range at old_len) r.new n →
      missing (unlike_tables (levels st) space (remapped (levels st) thread r cells)) st.tables ≡ missing (cut_by (levels st) space p.first p.count) st.tables → need (wanted_tables st thread c) st.tables ≡ n
  one_lacks p n some right is lacks e =
      ap set.len e
      ∙ ap (λ k. need (cut_by k space p.first p.count) st.tables) h.state.same_levels
      ∙ ap (λ ps. need ps st.tables) (sym (append-nil (cut_by number space p.first p.count)))
      ∙ ap (λ d. need (cut_by_all number space (d ∷ [])) st.tables) (sym is)
      ∙ lacks.other space st h.state (subst IsShort (sym is) (short p some right))
      (subst (λ d. EndsAsked space rows (d ∷ [])) (sym is) (λ d held. only (λ x. IsAsked space rows x.first × IsAsked space rows (last_of x)) p d (range_told p some right) held))

  part_right : (f n a m : ℕ) → is_user_range number f n ≡ true → f ≤ a → a + m ≤ f + n → is_user_range number a m ≡ true
  part_right f n a m right from to =
      let ends = and_parts (nat_le 16 f) (nat_lt (f + n) (2 ^ (9 * number - 1))) right in
      and_from _ _ (le-leb 16 a (omega (arith, leb-true 16 f ends.0, from))) (lt-ltb (a + m) (2 ^ (9 * number - 1)) (omega (arith, ltb-true (f + n) (2 ^ (9 * number - 1)) ends.1, to)))

  pub stay_needs : (n : ℕ) → moves (levels st) cells r ≡ false → StayLacks number rows (old_range at old_len) r.new n → need (wanted_tables st thread c) st.tables ≡ n
  stay_needs n stay lacks = elim (cases_order r.new r.old) [
    | inl same ↦ ap set.len (same_length_lack st thread space r h.state.consistent user.1 mapped same) ∙ need_none st.tables ∙ sym (lacks.same same)
    | inr other ↦ (elim other [
      | inl less ↦ one_lacks (record { first = r.first + r.new; count = r.old - r.new }) n (omega (arith, less)) (part_right r.first r.old (r.first + r.new) (r.old - r.new) user.0 (omega arith) (omega (arith, less)))
          (ap (λ b. cond b (record { first = r.first + r.new; count = r.old - r.new }) (record { first = r.first + r.old; count = r.new - r.old })) (lt-ltb r.new r.old less)) lacks
          (shrunk_lack st thread space r h.state.consistent user.1 mapped less)
      | inr more ↦ (let room = and_parts (is_user_range (levels st) (r.first + r.old) (r.new - r.old)) (is_free cells (r.first + r.old) (r.new - r.old)) (has_it more) in
          one_lacks (record { first = r.first + r.old; count = r.new - r.old }) n (omega (arith, more)) (ap (λ k. is_user_range k (r.first + r.old) (r.new - r.old)) (sym h.state.same_levels) ∙ room.0)
          (ap (λ b. cond b (record { first = r.first + r.new; count = r.old - r.new }) (record { first = r.first + r.old; count = r.new - r.old })) (le-ltb r.new r.old (omega (arith, more)))) lacks
          (grown_lack st thread space r h.state.consistent user.1 mapped more stay (λ q w. free_none cells (r.first + r.old) (r.new - r.old) q room.1 w)))
    ])
  ]
    where
      has_it : r.old < r.new → has_room (levels st) cells r ≡ true
      has_it more = go (has_room (levels st) cells r) (sym (ap (λ b. b && not (has_room (levels st) cells r)) (lt-ltb r.old r.new more)) ∙ stay)
        where
          go : (b : Bool) → (true && not b) ≡ false → b ≡ true
          go true e = refl
          go false e = absurd (true≢false e)

  -- where the pieces of a range lie
  piece_in : (to at end : ℕ) (after : AddressSpace) (pieces : List Piece) → ArePieces (piece_at to) (λ p. p.count) after at end pieces → (p : Piece) → Contains pieces p → (at ≤ piece_at to p) × (piece_at to p + p.count ≤ end) × (1 ≤ p.count)
  piece_in to at end after [] parts p (k, inside, is) = absurd (omega (arith, inside))
  piece_in to at end after (x ∷ xs) parts p (zero, inside, is) = subst (λ (q : Piece). (at ≤ piece_at to q) × (piece_at to q + q.count ≤ end) × (1 ≤ q.count)) is (omega (arith, parts.0.here), omega (arith, parts.0.here, parts.0.fits), parts.0.some)
  piece_in to at end after (x ∷ xs) parts p (suc k, inside, is) =
      let deeper = piece_in to (at + x.count) end after xs parts.1 p (k, omega (arith, inside), is) in (omega (arith, deeper.0), deeper.1, deeper.2)

  piece_of : (to : ℕ) (pieces : List Piece) (d : Pages) → Contains (ranges_at to pieces) d → (p : Piece) × Contains pieces p × (range_at to p ≡ d)
  piece_of to [] d (k, inside, is) = absurd (omega (arith, inside))
  piece_of to (x ∷ xs) d (zero, inside, is) = (x, (0, omega arith, refl), is)
  piece_of to (x ∷ xs) d (suc k, inside, is) = let at = piece_of to xs d (k, omega (arith, inside), is) in (at.0, (suc at.1.0, omega (arith, at.1.1), at.1.2), at.2)

  cut_pieces : (l to : ℕ) (pieces : List Piece) → flat_map (λ (p : Piece). cut_by l space (piece_at to p) p.count) pieces ≡ cut_by_all l space (ranges_at to pieces)
  cut_pieces l to [] = refl
  cut_pieces l to (p ∷ ps) = ap (λ xs. cut_by l space (piece_at to p) p.count ++ xs) (cut_pieces l to ps)

  all_told : (to : ℕ) (after : AddressSpace) (pieces : List Piece) → is_user_range number to r.new ≡ true → ArePieces (piece_at to) (λ p. p.count) after to (to + r.new) pieces → EndsAsked space rows (old_range at old_len ∷ ranges_at to pieces)
  all_told to after pieces right parts d (zero, inside, is) = subst (λ (x : Pages). IsAsked space rows x.first × IsAsked space rows (last_of x)) is (range_told (old_range at old_len) user.1 user.0)
  all_told to after pieces right parts d (suc k, inside, is) =
      let one = piece_of to pieces d (k, omega (arith, inside), is) in
      let lies = piece_in to to (to + r.new) after pieces parts one.0 one.1 in
      subst (λ (x : Pages). IsAsked space rows x.first × IsAsked space rows (last_of x)) one.2
      (range_told (range_at to one.0) lies.2 (part_right to r.new (piece_at to one.0) one.0.count right lies.0 lies.1))

  moved_so : (to n : ℕ) (pieces : List Piece) → moves (levels st) cells r ≡ true → gap thread cells r.new ≡ Some to → ArePieces (piece_at to) (λ p. p.count) (cells_after st thread c) to (to + r.new) pieces →
      MoveLacks number rows (old_range at old_len) to pieces n → need (wanted_tables st thread c) st.tables ≡ n
  moved_so to n pieces goes found parts lacks =
      let right = gap_user number thread cells r.new to four h.known found in
      ap set.len (moved_lack st thread space r h.state.consistent user.1 mapped to goes found (λ q w. free_none cells to r.new q (gap_free thread cells r.new to found) w) (piece_at to) (λ p. p.count) pieces parts)
      ∙ ap (λ xs. need (cut_by (levels st) space r.first r.old ++ xs) st.tables) (cut_pieces (levels st) to pieces)
      ∙ ap (λ k. need (cut_by_all k space (old_range at old_len ∷ ranges_at to pieces)) st.tables) h.state.same_levels
      ∙ lacks space (to + r.new) st (cells_after st thread c) h.state parts (omega (arith, user_few number to r.new five right)) (all_told to (cells_after st thread c) pieces right parts)

  pub move_needs : (to n : ℕ) (pieces : List Piece) → moves (levels st) cells r ≡ true → IsPlacedAt st thread c to → HasPieces st thread c pieces →
      MoveLacks number rows (old_range at old_len) to pieces n → need (wanted_tables st thread c) st.tables ≡ n
  move_needs to n pieces goes placed has lacks = go (gap thread cells r.new) refl
    where
      first_false : (a b : Bool) → (a || b) ≡ false → a ≡ false
      first_false false b e = refl
      first_false true b e = absurd (true≢false e)

      go : (o : Option ℕ) → gap thread cells r.new ≡ o → need (wanted_tables st thread c) st.tables ≡ n
      go None e = absurd (true≢false (sym (λ i. goes i && is_none (e i)) ∙ first_false (moves (levels st) cells r && is_none (gap thread cells r.new)) (is_too_far cells r) has_place))
      go (Some g) e =
          let put : put_at (levels st) thread cells r ≡ g = λ i. cond (goes i) (unwrap_or (e i) 0) r.first in
          moved_so to n pieces goes (e ∙ ap (λ x. Some x) (sym put ∙ placed)) (subst (λ p. ArePieces (piece_at p) (λ x. x.count) (cells_after st thread c) p (p + r.new) pieces) placed (has.moved goes).parts) lacks

  -- a range that moves has pieces
  pub some_pieces : (pieces : List Piece) → moves (levels st) cells r ≡ true → HasPieces st thread c pieces → pieces ≡ [] → ⊥
  some_pieces pieces goes has none = clash (subst (λ ps. ArePieces (piece_at (put_at (levels st) thread cells r)) (λ p. p.count) (cells_after st thread c) (put_at (levels st) thread cells r) (put_at (levels st) thread cells r + r.new) ps) none (has.moved goes).parts) new_some
    where
      clash : {a b : ℕ} → a ≡ a + b → 1 ≤ b → ⊥
      clash e m = omega (arith, e, m)

  -- by what was found of the pieces
  pub remap_needs : (to n : ℕ) (pieces : List Piece) → IsPlacedAt st thread c to → HasPieces st thread c pieces →
      (pieces ≡ [] → StayLacks number rows (old_range at old_len) r.new n) → ((pieces ≡ [] → ⊥) → MoveLacks number rows (old_range at old_len) to pieces n) → need (wanted_tables st thread c) st.tables ≡ n
  remap_needs to n pieces placed has stays goes = go (moves (levels st) cells r) refl
    where
      go : (b : Bool) → moves (levels st) cells r ≡ b → need (wanted_tables st thread c) st.tables ≡ n
      go true e = move_needs to n pieces e placed has (goes (some_pieces pieces e has))
      go false e = stay_needs n e (stays (has.stayed e))
