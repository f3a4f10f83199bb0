-- One page more that moves to swap or back.
use Rattle.std.proofs.Common.{◌≡◌, ℕ, suc, ◌+◌, ◌-◌, ◌<◌, ◌≤◌, Bool, true, false, cond, List, ◌∷◌, length, refl, sym, ap, subst, ◌∙◌, arith}
use mathlib.Core.Bool.{true≢false}
use mathlib.Core.Logic.{inl, inr}
use Rattle.std.specs.Prelude.{Option, Some, None, nat_eq, slice_index}
use Rattle.std.specs.Option.{option_map, option_map_or}
use Rattle.std.specs.Cmp.{nat_eq_equiv}
use Rattle.std.proofs.lemmas.Bool.{cases_eq, eqb-true, ne_eqb}
use Rattle.std.specs.FinMap as fin
use Rattle.std.specs.FinMap.{get}
use Rattle.page_map.specs.declared.cell.Cell.{Cell}
use Rattle.page_map.specs.declared.cell.Cell.TheVariants.{Anon, File, Mapped, Swapped}
use Rattle.page_map.specs.Change.{keys_in, change, set_at}
use Rattle.page_map.specs.Cell.{frame_of, slot_of}
use Rattle.page_map.specs.State.{AddressSpace, carries}
use Rattle.page_map.specs.Swap.{out_to, in_to, moved_to}
use Rattle.page_map.specs.Takes.{grant}
use Rattle.table_place.specs.Range.{within}
use Rattle.page_map.proofs.Range.{get-change, inside}
use Rattle.page_map.proofs.Owners.{two_weights, same_some}
use Rattle.page_map.proofs.Steps.{not_none}
use Rattle.plain_counts.specs.Owners.{unused_of}
use Rattle.plain_counts.specs.declared.counts.Counts.{Counts}
use Rattle.plain_counts.specs.Counts.{carried, one_at, AreCounted, Leaves, Follows, Follow}
use Rattle.space_cells.specs.declared.held.Number.{Number}
use Rattle.space_cells.specs.declared.held.Number.TheVariants.{Frame, Slot}
use Rattle.space_cells.specs.Cells.{number_of, number_at, renumbered}
use Rattle.plain_spaces.specs.Numbers.{IsCarried, Leave}
use Rattle.plain_spaces.specs.Swapping.{moves, passes, to, gets_of, loses_of, taken, left, Takes, TakesNumber, Moves, Stays, Settles, SwapsAt, MovesAt}
use Rattle.plain_spaces.specs.declared.swap.Move.{Move}
use Rattle.plain_spaces.specs.declared.swap.Move.TheVariants.{Out, In}
use Rattle.plain_spaces.proofs.Moves.{change_one, put_back, counts_once, carried_insert}
use Rattle.plain_spaces.proofs.Plans.{has_count}
use Rattle.plain_spaces.proofs.Held.{IsNextHeld, quiet_at, cell_at}
use Rattle.plain_spaces.proofs.Keys.{keys_past, keys_here, keys_alike}
use Rattle.plain_spaces.proofs.Swaps.{to_do, to_do_stays, to_do_moves}

module _ (to : ℕ → Cell → Cell) (number_of : Cell → Option ℕ) (passes passes' : Cell → Bool) (page end : ℕ) (cells cells' : AddressSpace) (taken taken' gone gone' : List ℕ)
    (s : SwapsAt to number_of passes page cells cells' taken taken' gone gone') (high : page < end)
    (tests : (q : ℕ) (c : Cell) → page < q → get cells q ≡ Some c → passes' c ≡ passes c) where
  rest : ℕ → AddressSpace → (Cell → Bool) → List ℕ
  rest next m p = keys_in m next (end - next) p

  same_cells : Stays s.cell s.after taken taken' gone gone' → cells' ≡ cells
  same_cells stays = s.cells_are ∙ ap (fin.insert cells page) stays.same_cell ∙ put_back cells page s.cell s.here

  moved_cells : (m : Moves to number_of s.cell s.after taken taken' gone gone') → cells' ≡ change cells page 1 (λ _. option_map (to m.number))
  moved_cells m =
      s.cells_are ∙ ap (fin.insert cells page) m.moved
      ∙ sym (change_one cells page (λ _. option_map (to m.number)) ∙ ap (λ o. set_at cells page (option_map (to m.number) o)) s.here)

  other_tests : (n : AddressSpace) → n ≡ cells → rest (page + 1) n passes' ≡ rest (page + 1) cells passes
  unfolding rest
  other_tests n e = ap (λ m. keys_in m (page + 1) (end - (page + 1)) passes') e ∙ keys_alike passes passes' cells cells (page + 1) (end - (page + 1)) (λ k a b. refl) (λ k x a b at. tests k x (omega (arith, a)) at)

  -- what is left to be done is the same
  pub still_to_do : to_do to passes cells page end (unused_of taken) ≡ to_do to passes' cells' (page + 1) end (unused_of taken')
  unfolding to_do rest
  still_to_do = go (passes s.cell) refl s.settles
    where
      go : (b : Bool) → passes s.cell ≡ b → Settles to number_of b s.cell s.after taken taken' gone gone' → to_do to passes cells page end (unused_of taken) ≡ to_do to passes' cells' (page + 1) end (unused_of taken')
      go false e stays =
          to_do_stays to passes cells page end s.cell (unused_of taken) high s.here e
          ∙ (λ i. moved_to to (grant (sym (other_tests cells' (same_cells stays)) i) (unused_of (sym stays.same_taken i))) (page + 1) (end - (page + 1)) (sym (same_cells stays) i))
      go true e m =
          ap (to_do to passes cells page end) m.takes.least
          ∙ to_do_moves to passes passes' cells cells' page end m.number s.cell (unused_of taken') high s.here e (moved_cells m) tests

  -- as many numbers are unused less as pages are left less that move
  pub still_balanced : length (unused_of taken') + length (keys_in cells page (end - page) passes) ≡ length (unused_of taken) + length (keys_in cells' (page + 1) (end - (page + 1)) passes')
  unfolding rest
  still_balanced = go (passes s.cell) refl s.settles
    where
      keys : (b : Bool) → passes s.cell ≡ b → keys_in cells page (end - page) passes ≡ cond b (page ∷ rest (page + 1) cells passes) (rest (page + 1) cells passes)
      keys b e = keys_here passes cells page end s.cell high s.here ∙ ap (λ b. cond b (page ∷ rest (page + 1) cells passes) (rest (page + 1) cells passes)) e

      go : (b : Bool) → passes s.cell ≡ b → Settles to number_of b s.cell s.after taken taken' gone gone' →
          length (unused_of taken') + length (keys_in cells page (end - page) passes) ≡ length (unused_of taken) + length (keys_in cells' (page + 1) (end - (page + 1)) passes')
      go false e stays = omega (arith, ap length (keys false e), ap length (other_tests cells' (same_cells stays)), ap (λ t. length (unused_of t)) stays.same_taken)
      go true e m =
          let same : rest (page + 1) cells' passes' ≡ rest (page + 1) cells passes =
          keys_alike passes passes' cells cells' (page + 1) (end - (page + 1)) (λ k a b. ap (λ n. get n k) (moved_cells m) ∙ elsewhere m.number k a) (λ k x a b at. tests k x (omega (arith, a)) at) in
          omega (arith, ap length (keys true e), ap length same, ap length m.takes.least)
        where
          elsewhere : (number k : ℕ) → page + 1 ≤ k → get (change cells page 1 (λ _. option_map (to number))) k ≡ get cells k
          elsewhere number k a = get-change cells page 1 (λ _. option_map (to number)) k ∙ at (within page 1 k) refl
            where
              at : (b : Bool) → within page 1 k ≡ b → cond b (option_map (to number) (get cells k)) (get cells k) ≡ get cells k
              at false e = refl
              at true e = absurd (omega (arith, a, (inside page 1 k e).1))

  -- so there are enough numbers for it
  pub still_enough : length (keys_in cells page (end - page) passes) ≤ length (unused_of taken) → length (keys_in cells' (page + 1) (end - (page + 1)) passes') ≤ length (unused_of taken')
  still_enough h = omega (arith, h, still_balanced)

-- where a page moves, a number is unused
pub some_left : (passes : Cell → Bool) (cells : AddressSpace) (page end : ℕ) (cell : Cell) (numbers : List ℕ) → page < end → get cells page ≡ Some cell →
    length (keys_in cells page (end - page) passes) ≤ length numbers → passes cell ≡ true → 0 < length numbers
some_left passes cells page end cell numbers high here enough moves =
    let rest = keys_in cells (page + 1) (end - (page + 1)) passes in
    omega (arith, enough, ap length (keys_here passes cells page end cell high here ∙ ap (λ b. cond b (page ∷ rest) rest) moves))

pub number_left : (way : Move) (counts : Counts) (cells : AddressSpace) (page end : ℕ) (number : Number) (numbers : List ℕ) → page < end → number_at cells page ≡ Some number →
    length (keys_in cells page (end - page) (passes way counts)) ≤ length numbers → moves way counts number ≡ true → 0 < length numbers
number_left way counts cells page end number numbers high there enough goes =
    let at = cell_at cells page number there in
    some_left (passes way counts) cells page end at.0 numbers high at.1.0 enough (ap (λ o. option_map_or (moves way counts) o false) at.1.1 ∙ goes)

-- how many pages move, counted from the front
pub counted_next : (way : Move) (counts : Counts) (cells : AddressSpace) (next end page : ℕ) (number : Number) (at : IsNextHeld cells next end page number) →
    length (keys_in cells next (end - next) (passes way counts)) ≡ cond (moves way counts number) 1 0 + length (keys_in cells (page + 1) (end - (page + 1)) (passes way counts))
counted_next way counts cells next end page number at =
    let here = cell_at cells page number at.there in
    ap length (keys_past (passes way counts) cells next page end at.low (omega (arith, at.high)) (λ q a b. quiet_at way counts cells q (at.before q a b)))
    ∙ ap length (keys_here (passes way counts) cells page end here.0 at.high here.1.0)
    ∙ each (passes way counts here.0)
    ∙ ap (λ o. cond (option_map_or (moves way counts) o false) 1 0 + length (keys_in cells (page + 1) (end - (page + 1)) (passes way counts))) here.1.1
  where
    each : (b : Bool) → length (cond b (page ∷ keys_in cells (page + 1) (end - (page + 1)) (passes way counts)) (keys_in cells (page + 1) (end - (page + 1)) (passes way counts)))
        ≡ cond b 1 0 + length (keys_in cells (page + 1) (end - (page + 1)) (passes way counts))
    each true = one (length (keys_in cells (page + 1) (end - (page + 1)) (passes way counts)))
      where
        one : (n : ℕ) → suc n ≡ 1 + n
        one n = omega arith
    each false = none (length (keys_in cells (page + 1) (end - (page + 1)) (passes way counts)))
      where
        none : (n : ℕ) → n ≡ 0 + n
        none n = omega arith

pub one_at_most : (way : Move) (counts : Counts) (number : Number) → cond (moves way counts number) 1 0 ≤ 1
one_at_most way counts number = go (moves way counts number)
  where
    go : (b : Bool) → cond b 1 0 ≤ 1
    go true = omega arith
    go false = omega arith

-- ---- counts of owners

-- pages that carry one number stand in one count
two_carry : (number_of : Cell → Option ℕ) (n : ℕ) (cells : AddressSpace) (p q : ℕ) (c d : Cell) → get cells p ≡ Some c → get cells q ≡ Some d → number_of c ≡ Some n → number_of d ≡ Some n → p < q → 2 ≤ carried number_of n cells
two_carry number_of n cells p q c d here there is also apart =
    let w : Cell → ℕ = λ c. cond (carries number_of n c) 1 0 in
    let two = two_weights w cells p q c d here there (ne_eqb q p (λ e. omega (arith, e, apart))) in
    let one : (e : Cell) → number_of e ≡ Some n → w e ≡ 1 = λ e h. counts_once number_of n e ∙ ap (λ o. one_at o n) h ∙ ap (λ b. cond b 1 0) (nat_eq_equiv.refl n) in
    omega (arith, two, one c is, one d also)

-- pages after one that moved are tested as before
out_alike : (page : ℕ) (cells cells' : AddressSpace) (counts counts' : Counts) → AreCounted counts cells → MovesAt Out page cells cells' counts counts' →
    (q : ℕ) (c : Cell) → page < q → get cells q ≡ Some c → passes Out counts' c ≡ passes Out counts c
out_alike page cells cells' counts counts' counted s q (Anon perm) after there = refl
out_alike page cells cells' counts counts' counted s q (File perm file index) after there = refl
out_alike page cells cells' counts counts' counted s q (Swapped perm origin slot bytes) after there = refl
out_alike page cells cells' counts counts' counted s q (Mapped perm origin frame bytes) after there = ap (λ n. nat_eq n 1) (go (passes Out counts s.cell) refl s.settles)
  where
    apart : (c : Cell) → get cells page ≡ Some c → passes Out counts c ≡ true → one_at (frame_of c) frame ≡ 0
    apart (Anon p) here e = refl
    apart (File p file index) here e = refl
    apart (Swapped p came slot b) here e = refl
    apart (Mapped p came own b) here e = elim (cases_eq own frame) [
      | inl same ↦ absurd (omega (arith, two_carry frame_of frame cells page q (Mapped p came own b) (Mapped perm origin frame bytes) here there (ap Some same) refl after, counted.frames.each frame, ap (slice_index counts.frames) (sym same), eqb-true (slice_index counts.frames own) 1 e))
      | inr other ↦ ap (λ b. cond b 1 0) (ne_eqb own frame other)
    ]

    go : (b : Bool) → passes Out counts s.cell ≡ b → Settles out_to frame_of b s.cell s.after counts.slots counts'.slots counts.frames counts'.frames → slice_index counts'.frames frame ≡ slice_index counts.frames frame
    go false e stays = ap (λ l. slice_index l frame) stays.same_left
    go true e m = omega (arith, m.leaves.counts frame, apart s.cell s.here e)

in_alike : (counts counts' : Counts) (c : Cell) → passes In counts' c ≡ passes In counts c
in_alike counts counts' (Anon perm) = refl
in_alike counts counts' (File perm file index) = refl
in_alike counts counts' (Mapped perm origin frame bytes) = refl
in_alike counts counts' (Swapped perm origin slot bytes) = refl

pub alike : (way : Move) (page : ℕ) (cells cells' : AddressSpace) (counts counts' : Counts) → AreCounted counts cells → MovesAt way page cells cells' counts counts' →
    (q : ℕ) (c : Cell) → page < q → get cells q ≡ Some c → passes way counts' c ≡ passes way counts c
alike Out page cells cells' counts counts' counted s q c after there = out_alike page cells cells' counts counts' counted s q c after there
alike In page cells cells' counts counts' counted s q c after there = in_alike counts counts' c

-- the counts follow the cells
inserted : (number_of : Cell → Option ℕ) (cells : AddressSpace) (page : ℕ) (cell after : Cell) (old new : List ℕ) → get cells page ≡ Some cell → length new ≡ length old →
    ((n : ℕ) → slice_index new n + one_at (number_of cell) n ≡ slice_index old n + one_at (number_of after) n) → Follows number_of old new cells (fin.insert cells page after)
inserted number_of cells page cell after old new here numbers counts =
    record { numbers = numbers; counts = λ n. omega (arith, counts n, carried_insert number_of n cells page cell after here) }

module _ (to : ℕ → Cell → Cell) (taken_of left_of : Cell → Option ℕ) (passes : Cell → Bool) (page : ℕ) (cells cells' : AddressSpace) (taken taken' counts counts' : List ℕ)
    (s : SwapsAt to left_of passes page cells cells' taken taken' counts counts')
    (gets : (n : ℕ) (c : Cell) → passes c ≡ true → (taken_of c ≡ None) × (taken_of (to n c) ≡ Some n) × (left_of (to n c) ≡ None)) where
  pub taken_follow : Follows taken_of taken taken' cells cells'
  taken_follow = subst (Follows taken_of taken taken' cells) (sym s.cells_are) (go (passes s.cell) refl s.settles)
    where
      go : (b : Bool) → passes s.cell ≡ b → Settles to left_of b s.cell s.after taken taken' counts counts' → Follows taken_of taken taken' cells (fin.insert cells page s.after)
      go false e stays = inserted taken_of cells page s.cell s.after taken taken' s.here (ap length stays.same_taken)
          (λ n. ap (λ l. slice_index l n + one_at (taken_of s.cell) n) stays.same_taken ∙ ap (λ c. slice_index taken n + one_at (taken_of c) n) (sym stays.same_cell))
      go true e m = inserted taken_of cells page s.cell s.after taken taken' s.here m.takes.numbers
          (λ n. omega (arith, m.takes.counts n, ap (λ o. one_at o n) (gets m.number s.cell e).0, ap (λ o. one_at o n) (ap taken_of m.moved ∙ (gets m.number s.cell e).1)))

  pub left_follow : Follows left_of counts counts' cells cells'
  left_follow = subst (Follows left_of counts counts' cells) (sym s.cells_are) (go (passes s.cell) refl s.settles)
    where
      go : (b : Bool) → passes s.cell ≡ b → Settles to left_of b s.cell s.after taken taken' counts counts' → Follows left_of counts counts' cells (fin.insert cells page s.after)
      go false e stays = inserted left_of cells page s.cell s.after counts counts' s.here (ap length stays.same_left)
          (λ n. ap (λ l. slice_index l n + one_at (left_of s.cell) n) stays.same_left ∙ ap (λ c. slice_index counts n + one_at (left_of c) n) (sym stays.same_cell))
      go true e m = inserted left_of cells page s.cell s.after counts counts' s.here m.leaves.numbers
          (λ n. omega (arith, m.leaves.counts n, ap (λ o. one_at o n) (ap left_of m.moved ∙ (gets m.number s.cell e).2)))

gets : (way : Move) (counts : Counts) (n : ℕ) (c : Cell) → passes way counts c ≡ true → (gets_of way c ≡ None) × (gets_of way (to way n c) ≡ Some n) × (loses_of way (to way n c) ≡ None)
gets Out counts n (Mapped perm origin frame bytes) e = (refl, refl, refl)
gets Out counts n (Anon perm) e = absurd (true≢false (sym e))
gets Out counts n (File perm file index) e = absurd (true≢false (sym e))
gets Out counts n (Swapped perm origin slot bytes) e = absurd (true≢false (sym e))
gets In counts n (Swapped perm origin slot bytes) e = (refl, refl, refl)
gets In counts n (Anon perm) e = absurd (true≢false (sym e))
gets In counts n (File perm file index) e = absurd (true≢false (sym e))
gets In counts n (Mapped perm origin frame bytes) e = absurd (true≢false (sym e))

pub moves_follow : (way : Move) (page : ℕ) (cells cells' : AddressSpace) (counts counts' : Counts) → MovesAt way page cells cells' counts counts' → Follow counts counts' cells cells'
moves_follow Out page cells cells' counts counts' s = record {
  frames = left_follow out_to slot_of frame_of (passes Out counts) page cells cells' counts.slots counts'.slots counts.frames counts'.frames s (gets Out counts);
  slots = taken_follow out_to slot_of frame_of (passes Out counts) page cells cells' counts.slots counts'.slots counts.frames counts'.frames s (gets Out counts);
}
moves_follow In page cells cells' counts counts' s = record {
  frames = taken_follow in_to frame_of slot_of (passes In counts) page cells cells' counts.frames counts'.frames counts.slots counts'.slots s (gets In counts);
  slots = left_follow in_to frame_of slot_of (passes In counts) page cells cells' counts.frames counts'.frames counts.slots counts'.slots s (gets In counts);
}

-- ---- one page

-- a page that moves
pub moved_page : (way : Move) (cells cells' : AddressSpace) (page : ℕ) (cell : Cell) (number new : Number) (a b c : Counts) → get cells page ≡ Some cell → number_of cell ≡ Some number → moves way a number ≡ true →
    TakesNumber way new a b → Leave number b c → cells' ≡ change cells page 1 (λ _. option_map (renumbered new)) → MovesAt way page cells cells' a c
moved_page Out cells cells' page (Mapped perm origin own bytes) (Frame f) new a b c here is goes takes leaves changed =
    let same : own ≡ f = go own (same_some is) in
    record {
      cell = Mapped perm origin own bytes;
      after = Swapped perm origin takes.value bytes;
      here = here;
      cells_are = changed ∙ change_one cells page (λ _. option_map (renumbered new)) ∙ ap (λ o. set_at cells page (option_map (renumbered new) o)) here
          ∙ ap (λ n. fin.insert cells page (renumbered n (Mapped perm origin own bytes))) takes.number_is;
      settles = subst (λ t. Settles out_to frame_of t (Mapped perm origin own bytes) (Swapped perm origin takes.value bytes) a.slots c.slots a.frames c.frames) (sym (ap (λ n. nat_eq (slice_index a.frames n) 1) same ∙ goes))
          (record {
            number = takes.value;
            takes = subst (Takes takes.value a.slots) (sym leaves.1) takes.takes;
            leaves = subst (λ n. Leaves (Some n) a.frames c.frames) (sym same) (subst (λ l. Leaves (Some f) l c.frames) takes.others_stay leaves.0);
            moved = refl;
          });
    }
  where
    go : (n : ℕ) → Frame n ≡ Frame f → n ≡ f
    go n e = cc
moved_page In cells cells' page (Swapped perm origin own bytes) (Slot s) new a b c here is goes takes leaves changed =
    let same : own ≡ s = go own (same_some is) in
    record {
      cell = Swapped perm origin own bytes;
      after = Mapped perm origin takes.value bytes;
      here = here;
      cells_are = changed ∙ change_one cells page (λ _. option_map (renumbered new)) ∙ ap (λ o. set_at cells page (option_map (renumbered new) o)) here
          ∙ ap (λ n. fin.insert cells page (renumbered n (Swapped perm origin own bytes))) takes.number_is;
      settles = record {
        number = takes.value;
        takes = subst (Takes takes.value a.frames) (sym leaves.1) takes.takes;
        leaves = subst (λ n. Leaves (Some n) a.slots c.slots) (sym same) (subst (λ l. Leaves (Some s) l c.slots) takes.others_stay leaves.0);
        moved = refl;
      };
    }
  where
    go : (n : ℕ) → Slot n ≡ Slot s → n ≡ s
    go n e = cc
moved_page Out cells cells' page (Mapped perm origin own bytes) (Slot s) new a b c here is goes takes leaves changed = absurd (true≢false (sym goes))
moved_page Out cells cells' page (Swapped perm origin own bytes) (Slot s) new a b c here is goes takes leaves changed = absurd (true≢false (sym goes))
moved_page Out cells cells' page (Swapped perm origin own bytes) (Frame f) new a b c here is goes takes leaves changed = absurd (no (same_some is))
  where
    no : Slot own ≡ Frame f → ⊥
    no e = cc
moved_page Out cells cells' page (Anon perm) number new a b c here is goes takes leaves changed = absurd (not_none (sym is))
moved_page Out cells cells' page (File perm file index) number new a b c here is goes takes leaves changed = absurd (not_none (sym is))
moved_page In cells cells' page (Mapped perm origin own bytes) (Slot s) new a b c here is goes takes leaves changed = absurd (no (same_some is))
  where
    no : Frame own ≡ Slot s → ⊥
    no e = cc
moved_page In cells cells' page (Mapped perm origin own bytes) (Frame f) new a b c here is goes takes leaves changed = absurd (true≢false (sym goes))
moved_page In cells cells' page (Swapped perm origin own bytes) (Frame f) new a b c here is goes takes leaves changed = absurd (true≢false (sym goes))
moved_page In cells cells' page (Anon perm) number new a b c here is goes takes leaves changed = absurd (not_none (sym is))
moved_page In cells cells' page (File perm file index) number new a b c here is goes takes leaves changed = absurd (not_none (sym is))

-- and one that stays
pub stayed_page : (way : Move) (cells : AddressSpace) (page : ℕ) (cell : Cell) (number : Number) (counts : Counts) → get cells page ≡ Some cell → number_of cell ≡ Some number → moves way counts number ≡ false →
    MovesAt way page cells cells counts counts
stayed_page way cells page cell number counts here is stays = record {
  cell = cell;
  after = cell;
  here = here;
  cells_are = sym (put_back cells page cell here);
  settles = subst (λ t. Settles (to way) (loses_of way) t cell cell (taken way counts) (taken way counts) (left way counts) (left way counts)) (sym (ap (λ o. option_map_or (moves way counts) o false) is ∙ stays))
      (record { same_cell = refl; same_taken = refl; same_left = refl });
}

-- the number of a page is carried
pub number_is_carried : (counts : Counts) (cells : AddressSpace) (page : ℕ) (cell : Cell) (number : Number) → AreCounted counts cells → get cells page ≡ Some cell → number_of cell ≡ Some number → IsCarried counts number
number_is_carried counts cells page (Mapped perm origin f bytes) number ok here is = subst (IsCarried counts) (same_some is) (has_count frame_of counts.frames cells ok.frames page (Mapped perm origin f bytes) here)
number_is_carried counts cells page (Swapped perm origin s bytes) number ok here is = subst (IsCarried counts) (same_some is) (has_count slot_of counts.slots cells ok.slots page (Swapped perm origin s bytes) here)
number_is_carried counts cells page (Anon perm) number ok here is = absurd (not_none (sym is))
number_is_carried counts cells page (File perm file index) number ok here is = absurd (not_none (sym is))

-- and still is, once the page has taken another
pub still_carried : (way : Move) (new number : Number) (a b : Counts) → TakesNumber way new a b → IsCarried a number → IsCarried b number
still_carried Out new (Frame f) a b takes h = let same = ap (λ l. slice_index l f) takes.others_stay in omega (arith, same, h)
still_carried Out new (Slot s) a b takes h = omega (arith, takes.takes.counts s, h)
still_carried In new (Frame f) a b takes h = omega (arith, takes.takes.counts f, h)
still_carried In new (Slot s) a b takes h = let same = ap (λ l. slice_index l s) takes.others_stay in omega (arith, same, h)
