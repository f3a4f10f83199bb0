-- What is known of a range that is to have another length, by its place.
--     relocates      a range that moves can
--     grows_short, moves_short      the pages that it gets, and those of its new place, are few
use Rattle.std.proofs.Common.{◌≡◌, ℕ, ◌+◌, ◌-◌, ◌*◌, ◌^◌, ◌<◌, ◌≤◌, true, not, sym, subst, arith}
use Rattle.std.specs.Prelude.{Some, IsSome, nat_le, nat_lt}
use Rattle.std.specs.FinMap.{get}
use Rattle.std.proofs.lemmas.Bool.{and_parts, leb-true, ltb-true}
use Rattle.std.proofs.Math.Pow.{pow_mono}
use Rattle.table_place.specs.Place.{is_user_range}
use Rattle.table_place.specs.Range.{within}
use Rattle.page_map.specs.Mapping.{arena_first, gap, is_free}
use Rattle.page_map.specs.Remap as page_map
use Rattle.page_map.specs.Remap.{grows, has_room, moves}
use Rattle.page_map.specs.State.{AddressSpace}
use Rattle.page_map.proofs.Gaps.{gap_free, gap_in_arena}
use Rattle.page_map.proofs.GivenUp.{free_none}
use Rattle.space_cells.specs.declared.moving.Relocation.{Relocation}
use Rattle.space_cells.specs.Moving.{CanMove}
use Rattle.plain_spaces.specs.declared.resizing.Resize.{Resize}
use Rattle.plain_spaces.specs.declared.resizing.Placing.{Placing}
use Rattle.plain_spaces.specs.declared.resizing.Placing.TheVariants.{Grows, Moves}
use Rattle.plain_spaces.specs.Resizing.{AreNear, IsFull, IsSomePlacing, length_of, relocation}

-- a range that moves to a gap can
can_move : (levels thread to : ℕ) (r : page_map.Resize) (cells : AddressSpace) → thread < 8 → 0 < r.old → r.first + r.old ≤ 2 ^ 45 → ((q : ℕ) → within r.first r.old q ≡ true → IsSome (get cells q)) →
    AreNear cells → moves levels cells r ≡ true → gap thread cells r.new ≡ Some to →
    CanMove cells (record { first = r.first; old = r.old; to = to; new = r.new })
can_move levels thread to r cells few some short there near goes found =
    let arena = and_parts (nat_le (arena_first thread) to) (nat_le (to + r.new) (arena_first thread + 2 ^ 27)) (gap_in_arena thread cells r.new to found) in
    let high = leb-true (to + r.new) (arena_first thread + 2 ^ 27) arena.1 in
    record {
      some = some;
      grows = ltb-true r.old r.new (and_parts (grows r) (not (has_room levels cells r)) goes).0;
      pages = omega (arith, short);
      places = omega (arith, high, few);
      there = there;
      free = λ q w. free_none cells to r.new q (gap_free thread cells r.new to found) w;
      indexes = λ q c w e. near q c e;
    }

-- the relocation of a range that moves
pub relocates : (cells : AddressSpace) (r : Resize) (placing : Placing) (to : ℕ) → placing ≡ Moves to → IsSomePlacing cells r placing → IsFull cells r →
    (made : Relocation) → made ≡ relocation r to → CanMove cells made
relocates cells r placing to way at full made is =
    let found = subst (IsSomePlacing cells r) way at in
    subst (CanMove cells) (sym is) (can_move found.0 found.1 to (length_of r) cells found.3 full.some full.pages full.there full.indexes found.4.0 found.4.1)

-- the pages that a range gets behind its end
pub grows_short : (cells : AddressSpace) (r : Resize) (placing : Placing) → placing ≡ Grows → IsSomePlacing cells r placing → (0 < r.new - r.old) × (r.first + r.old + (r.new - r.old) ≤ 2 ^ 45)
grows_short cells r placing way at =
    let found = subst (IsSomePlacing cells r) way at in
    let more : r.old < r.new = ltb-true r.old r.new found.4.0 in
    let user = and_parts (is_user_range found.0 (r.first + r.old) (r.new - r.old)) (is_free cells (r.first + r.old) (r.new - r.old)) found.4.1 in
    let low = and_parts (nat_le 16 (r.first + r.old)) (nat_lt (r.first + r.old + (r.new - r.old)) (2 ^ (9 * found.0 - 1))) user.0 in
    let end : r.first + r.old + (r.new - r.old) < 2 ^ (9 * found.0 - 1) = ltb-true (r.first + r.old + (r.new - r.old)) (2 ^ (9 * found.0 - 1)) low.1 in
    let small : 9 * found.0 - 1 ≤ 45 = omega (arith, found.2) in
    let wide : 2 ^ (9 * found.0 - 1) ≤ 2 ^ 45 = pow_mono small in
    (omega (arith, more), omega (arith, end, wide))

-- and the pages of the place to which it moves
pub moves_short : (cells : AddressSpace) (r : Resize) (placing : Placing) (to : ℕ) → placing ≡ Moves to → IsSomePlacing cells r placing → to + r.new ≤ 2 ^ 45
moves_short cells r placing to way at =
    let found = subst (IsSomePlacing cells r) way at in
    let arena = and_parts (nat_le (arena_first found.1) to) (nat_le (to + r.new) (arena_first found.1 + 2 ^ 27)) (gap_in_arena found.1 cells r.new to found.4.1) in
    omega (arith, leb-true (to + r.new) (arena_first found.1 + 2 ^ 27) arena.1, found.3)
