-- Frames that the pages of an access take, and the numbers that these leave.
use Rattle.std.proofs.Common.{◌≡◌, ℕ, ◌+◌, ◌-◌, ◌<◌, ◌≤◌, Bool, true, false, cond, not, ◌&&◌, List, length, length-set, get_or-set_same, get_or-set_other, refl, sym, ap, subst, ◌∙◌, arith}
use mathlib.Core.Logic.{◌⊎◌, inl, inr}
use Rattle.std.specs.Prelude.{Option, Some, None, IfSome, IfNone, is_some, nat_eq, slice_index, slice_set}
use Rattle.std.specs.Option.{option_map, option_and_then}
use Rattle.std.specs.Cmp.{nat_eq_equiv}
use Rattle.std.proofs.lemmas.Bool.{cases_eq, ne_eqb, false≢true}
use Rattle.std.proofs.lemmas.List.{same_lists, get_or_default}
use Rattle.std.specs.FinMap as fin
use Rattle.std.specs.FinMap.{get}
use Rattle.page_map.specs.declared.cell.Cell.{Cell}
use Rattle.page_map.specs.declared.cell.Cell.TheVariants.{Anon, File, Mapped, Swapped}
use Rattle.page_map.specs.Cell.{frame_of, slot_of}
use Rattle.page_map.specs.Change.{change, set_at}
use Rattle.page_map.specs.State.{AddressSpace}
use Rattle.page_map.specs.Access.{Access, first_page}
use Rattle.page_map.proofs.Owners.{same_some}
use Rattle.plain_counts.specs.declared.counts.Counts.{Counts}
use Rattle.plain_counts.specs.Counts.{carried, one_at, AreCounted, Follow}
use Rattle.space_cells.specs.declared.held.Number.{Number}
use Rattle.space_cells.specs.declared.held.Number.TheVariants.{Frame, Slot}
use Rattle.plain_spaces.specs.Numbers.{frame_in, slot_in, IsCarried, LeavesAny, WasUnused}
use Rattle.plain_spaces.specs.Reach.{last_page, beyond, given}
use Rattle.plain_spaces.specs.Wants.{moving, want_of, from_of}
use Rattle.plain_spaces.specs.declared.plan.Want.{Want}
use Rattle.plain_spaces.proofs.Moves.{change_one, carried_insert}
use Rattle.plain_spaces.proofs.Plans.{has_count}
use Rattle.plain_spaces.proofs.Brought.{Fits, settled_next, settled_same, far_nothing, far_wanted}

-- ---- a number that is taken

-- the counts after the least unused number was taken, if one was
pub record IsTaken (number : Option ℕ) (old new : List ℕ) : Type 0 where
  pub numbers : length new ≡ length old
  pub counts : (n : ℕ) → slice_index new n ≡ slice_index old n + one_at number n

pub takes_one : (old new : List ℕ) (n : ℕ) → n < length old → slice_index old n ≡ 0 → new ≡ slice_set old n 1 → IsTaken (Some n) old new
takes_one old new n within none is = record {
  numbers = ap length is ∙ length-set old n 1;
  counts = λ m. ap (λ l. slice_index l m) is ∙ at m (cases_eq m n);
}
  where
    at : (m : ℕ) → (m ≡ n) ⊎ (m ≡ n → ⊥) → slice_index (slice_set old n 1) m ≡ slice_index old m + one_at (Some n) m
    at m (inl e) =
        let here : slice_index (slice_set old n 1) m ≡ 1 = ap (slice_index (slice_set old n 1)) e ∙ get_or-set_same old n 1 0 within in
        let one : one_at (Some n) m ≡ 1 = ap (λ b. cond b 1 0) (ap (nat_eq n) e ∙ nat_eq_equiv.refl n) in
        omega (arith, here, one, ap (slice_index old) e, none)
    at m (inr apart) =
        let none : one_at (Some n) m ≡ 0 = ap (λ b. cond b 1 0) (ne_eqb n m (λ e. apart (sym e))) in
        omega (arith, get_or-set_other old n m 1 0 apart, none)

pub taken_is : (number : Option ℕ) (old new : List ℕ) → IfSome number (WasUnused old) → IfSome number (λ n. new ≡ slice_set old n 1) → IfNone number (new ≡ old) → IsTaken number old new
taken_is None old new unused is none = record { numbers = ap length none; counts = λ n. let same = ap (λ l. slice_index l n) none in omega (arith, same) }
taken_is (Some n) old new unused is none = takes_one old new n unused.0 unused.1 is

-- it may be given back, and then nothing has changed
pub may_be_back : (number : Option ℕ) (old new : List ℕ) → IfSome number (WasUnused old) → IfSome number (λ n. new ≡ slice_set old n 1) → IfSome number (λ n. 0 < slice_index new n)
may_be_back None old new unused is = tt
may_be_back (Some n) old new unused is = omega (arith, ap (λ l. slice_index l n) is, get_or-set_same old n 1 0 unused.0)

pub is_back : (number : Option ℕ) (old new back : List ℕ) → IfSome number (WasUnused old) → IfSome number (λ n. new ≡ slice_set old n 1) → IfNone number (new ≡ old) →
    IfSome number (λ n. back ≡ slice_set new n (slice_index new n - 1)) → IfNone number (back ≡ new) → back ≡ old
is_back None old new back unused is none some same = same ∙ none
is_back (Some n) old new back unused is none some same =
    let one : slice_index new n ≡ 1 = ap (λ l. slice_index l n) is ∙ get_or-set_same old n 1 0 unused.0 in
    let zero : slice_index new n - 1 ≡ 0 = omega (arith, one) in
    let long : length back ≡ length old = ap length some ∙ length-set new n (slice_index new n - 1) ∙ ap length is ∙ length-set old n 1 in
    same_lists back old long (λ k d h. get_or_default back k d 0 h ∙ ap (λ l. slice_index l k) (some ∙ (λ i. slice_set (is i) n (zero i))) ∙ at k (cases_eq k n) ∙ sym (get_or_default old k d 0 (omega (arith, h, long))))
  where
    at : (k : ℕ) → (k ≡ n) ⊎ (k ≡ n → ⊥) → slice_index (slice_set (slice_set old n 1) n 0) k ≡ slice_index old k
    at k (inl e) =
        let here : slice_index (slice_set (slice_set old n 1) n 0) k ≡ 0 = ap (slice_index (slice_set (slice_set old n 1) n 0)) e ∙ get_or-set_same (slice_set old n 1) n 0 0 (omega (arith, unused.0, length-set old n 1)) in
        omega (arith, here, ap (slice_index old) e, unused.1)
    at k (inr apart) = get_or-set_other (slice_set old n 1) n k 0 0 apart ∙ get_or-set_other old n k 1 0 apart

-- ---- numbers that are left

abbrev pub left_in : (Number → Option ℕ) → Option Want → Option ℕ
left_in kind want = option_and_then kind (from_of want)

pub record AreSums (from : Option Number) (old new : Counts) : Type 0 where
  pub frame_numbers : length new.frames ≡ length old.frames
  pub slot_numbers : length new.slots ≡ length old.slots
  pub frames : (n : ℕ) → slice_index new.frames n + one_at (option_and_then frame_in from) n ≡ slice_index old.frames n
  pub slots : (n : ℕ) → slice_index new.slots n + one_at (option_and_then slot_in from) n ≡ slice_index old.slots n

pub left_sums : (from : Option Number) (old new : Counts) → LeavesAny from old new → AreSums from old new
left_sums None old new same = record {
  frame_numbers = ap (λ c. length c.frames) same;
  slot_numbers = ap (λ c. length c.slots) same;
  frames = λ n. let e = ap (λ c. slice_index c.frames n) same in omega (arith, e);
  slots = λ n. let e = ap (λ c. slice_index c.slots n) same in omega (arith, e);
}
left_sums (Some (Frame f)) old new leaves = record {
  frame_numbers = leaves.0.numbers;
  slot_numbers = ap length leaves.1;
  frames = leaves.0.counts;
  slots = λ n. let e = ap (λ l. slice_index l n) leaves.1 in omega (arith, e);
}
left_sums (Some (Slot s)) old new leaves = record {
  frame_numbers = ap length leaves.1;
  slot_numbers = leaves.0.numbers;
  frames = λ n. let e = ap (λ l. slice_index l n) leaves.1 in omega (arith, e);
  slots = leaves.0.counts;
}

-- what a page has more of each kind on the frame that it got, and what it has left
abbrev pub Balances : List (List ℕ) → Option Want → Option ℕ → Cell → Type 0
Balances files want frame cell = (n : ℕ) →
    (one_at (frame_of (given files frame cell)) n + one_at (left_in frame_in want) n ≡ one_at (frame_of cell) n + one_at frame n)
    × (one_at (slot_of (given files frame cell)) n + one_at (left_in slot_in want) n ≡ one_at (slot_of cell) n)

balanced : (files : List (List ℕ)) (owners : ℕ → ℕ) (write : Bool) (cell : Cell) (frame : Option ℕ) → is_some frame ≡ is_some (want_of files owners write cell) → Balances files (want_of files owners write cell) frame cell
balanced files owners write (Mapped perm origin f bytes) frame e n = go (write && not (nat_eq (owners f) 1)) frame e
  where
    go : (b : Bool) (frame : Option ℕ) → is_some frame ≡ is_some (cond b (Some (moving files (Mapped perm origin f bytes))) None) →
        (one_at (frame_of (given files frame (Mapped perm origin f bytes))) n + one_at (left_in frame_in (cond b (Some (moving files (Mapped perm origin f bytes))) None)) n ≡ one_at (Some f) n + one_at frame n)
        × (0 + one_at (left_in slot_in (cond b (Some (moving files (Mapped perm origin f bytes))) None)) n ≡ 0)
    go true (Some m) e = (omega arith, omega arith)
    go false None e = (omega arith, omega arith)
    go true None e = absurd (false≢true e)
    go false (Some m) e = absurd (false≢true (sym e))
balanced files owners write (Anon perm) (Some m) e n = (omega arith, omega arith)
balanced files owners write (Anon perm) None e n = absurd (false≢true e)
balanced files owners write (File perm file index) (Some m) e n = (omega arith, omega arith)
balanced files owners write (File perm file index) None e n = absurd (false≢true e)
balanced files owners write (Swapped perm origin slot bytes) (Some m) e n = (omega arith, omega arith)
balanced files owners write (Swapped perm origin slot bytes) None e n = absurd (false≢true e)

-- a page that stays on its frame
balanced_none : (files : List (List ℕ)) (cell : Cell) → Fits files None cell → Balances files None None cell
balanced_none files cell same n =
    let frame = ap (λ c. one_at (frame_of c) n) same in
    let slot = ap (λ c. one_at (slot_of c) n) same in
    (omega (arith, frame), omega (arith, slot))

-- how many cells carry a number, once one page is on the frame that it got
module _ (files : List (List ℕ)) (cells : AddressSpace) (page : ℕ) (want : Option Want) (frame : Option ℕ) (cell : Cell) (here : get cells page ≡ Some cell) (balances : Balances files want frame cell) where
  abbrev after : AddressSpace
  after = change cells page 1 (λ _. option_map (given files frame))

  inserted : after ≡ fin.insert cells page (given files frame cell)
  inserted = change_one cells page (λ _. option_map (given files frame)) ∙ ap (λ o. set_at cells page (option_map (given files frame) o)) here

  pub frames_after : (n : ℕ) → carried frame_of n after + one_at (left_in frame_in want) n ≡ carried frame_of n cells + one_at frame n
  frames_after n =
      let is = ap (carried frame_of n) inserted in
      omega (arith, is, carried_insert frame_of n cells page cell (given files frame cell) here, (balances n).0)

  pub slots_after : (n : ℕ) → carried slot_of n after + one_at (left_in slot_in want) n ≡ carried slot_of n cells
  slots_after n =
      let is = ap (carried slot_of n) inserted in
      omega (arith, is, carried_insert slot_of n cells page cell (given files frame cell) here, (balances n).1)

-- the number that a page leaves is carried
pub left_is_carried : (files : List (List ℕ)) (owners : ℕ → ℕ) (write : Bool) (cells : AddressSpace) (page : ℕ) (cell : Cell) (counts more : Counts) → get cells page ≡ Some cell → AreCounted counts cells →
    ((n : ℕ) → slice_index counts.frames n ≤ slice_index more.frames n) → ((n : ℕ) → slice_index counts.slots n ≤ slice_index more.slots n) → IfSome (from_of (want_of files owners write cell)) (IsCarried more)
left_is_carried files owners write cells page (Mapped perm origin f bytes) counts more here ok frames slots = go (write && not (nat_eq (owners f) 1))
  where
    some : 0 < slice_index counts.frames f
    some = has_count frame_of counts.frames cells ok.frames page (Mapped perm origin f bytes) here

    go : (b : Bool) → IfSome (from_of (cond b (Some (moving files (Mapped perm origin f bytes))) None)) (IsCarried more)
    go true = omega (arith, some, frames f)
    go false = tt
left_is_carried files owners write cells page (Anon perm) counts more here ok frames slots = tt
left_is_carried files owners write cells page (File perm file index) counts more here ok frames slots = tt
left_is_carried files owners write cells page (Swapped perm origin slot bytes) counts more here ok frames slots =
    let some : 0 < slice_index counts.slots slot = has_count slot_of counts.slots cells ok.slots page (Swapped perm origin slot bytes) here in
    omega (arith, some, slots slot)

-- ---- both pages of an access

module _ (files : List (List ℕ)) (cells : AddressSpace) (owners : ℕ → ℕ) (a : Access) (some : 0 < a.len) (few : a.len ≤ 4096) (near far : Option Want) (first last : Option ℕ)
    (near_is : option_map (want_of files owners a.write) (get cells (first_page a)) ≡ Some near)
    (far_is : beyond a (Some None) (option_map (want_of files owners a.write) (get cells (last_page a))) ≡ Some far)
    (near_takes : is_some first ≡ is_some near) (far_takes : is_some last ≡ is_some far) where
  abbrev middle : AddressSpace
  middle = change cells (first_page a) 1 (λ _. option_map (given files first))

  abbrev final : AddressSpace
  final = change middle (last_page a) 1 (λ _. option_map (given files last))

  -- at a page that wants this
  wanted : (page : ℕ) (m : AddressSpace) (want : Option Want) (frame : Option ℕ) → option_map (want_of files owners a.write) (get m page) ≡ Some want → is_some frame ≡ is_some want →
      (cell : Cell) × ((get m page ≡ Some cell) × Balances files want frame cell)
  wanted page m want frame is takes = go (get m page) refl is
    where
      go : (o : Option Cell) → get m page ≡ o → option_map (want_of files owners a.write) o ≡ Some want → (cell : Cell) × ((get m page ≡ Some cell) × Balances files want frame cell)
      go None here e = absurd (none e)
        where
          none : ◌≡◌ {A = Option (Option Want)} None (Some want) → ⊥
          none h = cc
      go (Some cell) here e =
          let same = same_some e in
          (cell, (here, subst (λ w. Balances files w frame cell) same (balanced files owners a.write cell frame (takes ∙ ap is_some (sym same)))))

  first_at : (cell : Cell) × ((get cells (first_page a) ≡ Some cell) × Balances files near first cell)
  first_at = wanted (first_page a) cells near first near_is near_takes

  last_at : (cell : Cell) × ((get middle (last_page a) ≡ Some cell) × Balances files far last cell)
  last_at = go (cases_eq (last_page a) (first_page a))
    where
      no_frame : (o : Option ℕ) → is_some o ≡ false → o ≡ None
      no_frame None h = refl
      no_frame (Some n) h = absurd (false≢true (sym h))

      go : (last_page a ≡ first_page a) ⊎ (last_page a ≡ first_page a → ⊥) → (cell : Cell) × ((get middle (last_page a) ≡ Some cell) × Balances files far last cell)
      go (inl e) =
          let nothing = far_nothing files cells owners a some few near far first last far_is e in
          let idle : last ≡ None = no_frame last (far_takes ∙ ap is_some nothing) in
          let at = settled_same files cells owners a some few near far first last far_is e ∙ ap (option_map (given files first)) first_at.1.0 in (
            given files first first_at.0,
            (
              at,
              subst (λ w. Balances files w last (given files first first_at.0)) (sym nothing)
                  (subst (λ o. Balances files None o (given files first first_at.0)) (sym idle) (balanced_none files (given files first first_at.0) refl)),
            ),
          )
      go (inr f) =
          let same = settled_next files cells owners a some few near far first last far_is f in
          wanted (last_page a) middle far last (ap (option_map (want_of files owners a.write)) same ∙ far_wanted files cells owners a some few near far first last far_is f) far_takes

  module _ (counts : Counts) (f1 f2 : List ℕ) (ok : AreCounted counts cells) (one : IsTaken first counts.frames f1) (two : IsTaken last f1 f2) where
    abbrev both_taken : Counts
    both_taken = record { frames = f2; slots = counts.slots }

    more_frames : (n : ℕ) → slice_index counts.frames n ≤ slice_index f2 n
    more_frames n = omega (arith, one.counts n, two.counts n)

    pub near_is_carried : IfSome (from_of near) (IsCarried both_taken)
    near_is_carried = go (get cells (first_page a)) refl near_is
      where
        go : (o : Option Cell) → get cells (first_page a) ≡ o → option_map (want_of files owners a.write) o ≡ Some near → IfSome (from_of near) (IsCarried both_taken)
        go None here e = absurd (none e)
          where
            none : ◌≡◌ {A = Option (Option Want)} None (Some near) → ⊥
            none h = cc
        go (Some cell) here e =
            subst (λ w. IfSome (from_of w) (IsCarried both_taken)) (same_some e) (left_is_carried files owners a.write cells (first_page a) cell counts both_taken here ok more_frames (λ n. omega arith))

    module _ (near_left : Counts) (left : LeavesAny (from_of near) both_taken near_left) where
      abbrev sums : AreSums (from_of near) both_taken near_left
      sums = left_sums (from_of near) both_taken near_left left

      middle_counted : AreCounted near_left middle
      middle_counted = record {
        frames = record { each = λ n. omega (arith, ok.frames.each n, frames_after files cells (first_page a) near first first_at.0 first_at.1.0 first_at.1.1 n, one.counts n, two.counts n, (left_sums (from_of near) both_taken near_left left).frames n) };
        slots = record { each = λ n. omega (arith, ok.slots.each n, slots_after files cells (first_page a) near first first_at.0 first_at.1.0 first_at.1.1 n, (left_sums (from_of near) both_taken near_left left).slots n) };
      }

      pub far_is_carried : IfSome (from_of far) (IsCarried near_left)
      far_is_carried = go (cases_eq (last_page a) (first_page a))
        where
          go : (last_page a ≡ first_page a) ⊎ (last_page a ≡ first_page a → ⊥) → IfSome (from_of far) (IsCarried near_left)
          go (inl e) = subst (λ w. IfSome (from_of w) (IsCarried near_left)) (sym (far_nothing files cells owners a some few near far first last far_is e)) tt
          go (inr f) = at (get cells (last_page a)) refl (far_wanted files cells owners a some few near far first last far_is f)
            where
              at : (o : Option Cell) → get cells (last_page a) ≡ o → option_map (want_of files owners a.write) o ≡ Some far → IfSome (from_of far) (IsCarried near_left)
              at None here e = absurd (none e)
                where
                  none : ◌≡◌ {A = Option (Option Want)} None (Some far) → ⊥
                  none h = cc
              at (Some cell) here e =
                  subst (λ w. IfSome (from_of w) (IsCarried near_left)) (same_some e)
                  (left_is_carried files owners a.write middle (last_page a) cell near_left near_left (settled_next files cells owners a some few near far first last far_is f ∙ here) middle_counted (λ n. omega arith) (λ n. omega arith))

      pub both_follow : (both_left : Counts) → LeavesAny (from_of far) near_left both_left → Follow counts both_left cells final
      both_follow both_left gone =
          let s = left_sums (from_of near) both_taken near_left left in
          let t = left_sums (from_of far) near_left both_left gone in
          record {
            frames = record {
              numbers = t.frame_numbers ∙ s.frame_numbers ∙ two.numbers ∙ one.numbers;
              counts = λ n. omega (
                arith,
                frames_after files cells (first_page a) near first first_at.0 first_at.1.0 first_at.1.1 n,
                frames_after files middle (last_page a) far last last_at.0 last_at.1.0 last_at.1.1 n,
                one.counts n,
                two.counts n,
                s.frames n,
                t.frames n,
              );
            };
            slots = record {
              numbers = t.slot_numbers ∙ s.slot_numbers;
              counts = λ n. omega (
                arith,
                slots_after files cells (first_page a) near first first_at.0 first_at.1.0 first_at.1.1 n,
                slots_after files middle (last_page a) far last last_at.0 last_at.1.0 last_at.1.1 n,
                s.slots n,
                t.slots n,
              );
            };
          }
