-- The numbers of the cells of a range, which their keys leave or share.
use Rattle.std.proofs.Common.{◌≡◌, ℕ, zero, suc, ◌+◌, ◌-◌, ◌<◌, ◌≤◌, Bool, true, false, cond, List, [], ◌∷◌, length, drop, get_or, refl, sym, ap, ◌∙◌, arith}
use Rattle.std.specs.Prelude.{Option, Some, None, map, slice_index}
use Rattle.std.specs.List.{count_by, cons_option}
use Rattle.std.specs.Option.{option_map, option_map_or, option_and_then}
use Rattle.std.specs.Ordering.{nat_cmp}
use Rattle.std.specs.Cmp.{nat_cmp_total, nat_eq_equiv}
use Rattle.std.proofs.lemmas.List.{drop_all}
use Rattle.std.proofs.lemmas.List.Sums.{sum_by-append, sum_by-cons, sum_by-drop_more}
use Rattle.std.specs.FinMap as fin
use Rattle.std.specs.FinMap.{get, get-empty, same_map, nat_cmp-IsAntisymmetric}
use Rattle.table_place.specs.Range.{within}
use Rattle.page_map.specs.declared.cell.Cell.{Cell}
use Rattle.page_map.specs.declared.cell.Cell.TheVariants.{Anon, File, Mapped, Swapped}
use Rattle.page_map.specs.Cell.{backing_of, frame_of, goes_on, perm_of, slot_of, with_perm}
use Rattle.page_map.specs.DontNeed.{given_back}
use Rattle.page_map.specs.Change.{change, set_at}
use Rattle.page_map.specs.Mapping.{backed}
use Rattle.corten_base.specs.declared.calls.Backing.{Backing}
use Rattle.corten_base.specs.declared.calls.Backing.TheVariants as backing
use Rattle.corten_base.specs.declared.permissions.Perm.{Perm}
use Rattle.page_map.specs.State.{AddressSpace, carries}
use Rattle.page_map.proofs.Evaluate.{entries_empty}
use Rattle.page_map.proofs.Range.{get-change, change_more, change_none, inside, outside}
use Rattle.plain_counts.specs.declared.counts.Counts.{Counts}
use Rattle.plain_counts.specs.Counts.{carried, one_at, AreCounted, Follow}
use Rattle.space_cells.specs.declared.held.Number.{Number}
use Rattle.space_cells.specs.declared.held.Number.TheVariants.{Frame, Slot}
use Rattle.page_runs.specs.declared.change.Change.{Change}
use Rattle.page_runs.specs.declared.change.Effect.{Effect}
use Rattle.page_runs.specs.declared.change.Effect.TheVariants.{Map, Unmap, Protect}
use Rattle.space_cells.specs.Cells.{number_of, number_at, numbers_in}
use Rattle.space_cells.specs.Changes.{all_released, cells_after, cells_after_all, made_cell, released_in}
use Rattle.plain_spaces.specs.Copies.{AreRoomy, JoinAll}
use Rattle.plain_spaces.specs.Numbers.{frame_in, slot_in, times, AreCarried, IsCarried, Join, Leave, LeaveAll, MayShare}
use Rattle.plain_spaces.proofs.Followed.{carried_at, carried_set_at, same_carried}
use Rattle.plain_spaces.proofs.Held.{IsNextHeld}
use Rattle.plain_spaces.proofs.Taken.{left_sums}

pub nothing_carried : (cell_number : Cell → Option ℕ) (n : ℕ) → carried cell_number n fin.empty ≡ 0
nothing_carried cell_number n = ap (λ es. count_by (carries cell_number n) (map (λ e. e.1) es)) (entries_empty nat_cmp)

abbrev at_page : (Number → Option ℕ) → AddressSpace → ℕ → ℕ → ℕ
at_page kind cells q n = option_map_or (λ number. one_at (kind number) n) (number_at cells q) 0

module _ (kind : Number → Option ℕ) (cells : AddressSpace) (n : ℕ) where
  -- how many pages of a range carry a number
  unfoldable pub in_range : ℕ → ℕ → ℕ
  in_range first count = times kind (numbers_in cells first count) n

  pub none_in : (first : ℕ) → in_range first 0 ≡ 0
  unfolding in_range
  none_in first = refl

  front : (first k : ℕ) → in_range first (suc k) ≡ at_page kind cells first n + in_range (first + 1) k
  unfolding in_range
  front first k = go (number_at cells first)
    where
      go : (o : Option Number) → times kind (cons_option o (numbers_in cells (first + 1) k)) n ≡ option_map_or (λ number. one_at (kind number) n) o 0 + times kind (numbers_in cells (first + 1) k) n
      go None = omega arith
      go (Some x) = sum_by-cons (λ number. one_at (kind number) n) x (numbers_in cells (first + 1) k)

  more : (k first : ℕ) → in_range first (suc k) ≡ in_range first k + at_page kind cells (first + k) n
  more zero first =
      let here : at_page kind cells (first + 0) n ≡ at_page kind cells first n = ap (λ q. at_page kind cells q n) (omega arith) in
      omega (arith, front first 0, none_in (first + 1), none_in first, here)
  more (suc k) first =
      let here : at_page kind cells (first + suc k) n ≡ at_page kind cells (first + 1 + k) n = ap (λ q. at_page kind cells q n) (omega arith) in
      omega (arith, front first (suc k), front first k, more k (first + 1), here)

  pub split : (b a first : ℕ) → in_range first (a + b) ≡ in_range first a + in_range (first + a) b
  split zero a first =
      let all : in_range first (a + 0) ≡ in_range first a = ap (in_range first) (omega arith) in
      omega (arith, all, none_in (first + a))
  split (suc b) a first =
      let all : in_range first (a + suc b) ≡ in_range first (suc (a + b)) = ap (in_range first) (omega arith) in
      let here : at_page kind cells (first + (a + b)) n ≡ at_page kind cells (first + a + b) n = ap (λ q. at_page kind cells q n) (omega arith) in
      omega (arith, all, here, more (a + b) first, more b (first + a), split b a first)

  pub quiet : (k first : ℕ) → ((q : ℕ) → first ≤ q → q < first + k → number_at cells q ≡ None) → in_range first k ≡ 0
  quiet zero first none = none_in first
  quiet (suc k) first none =
      let here : at_page kind cells first n ≡ 0 = ap (λ o. option_map_or (λ number. one_at (kind number) n) o 0) (none first (omega arith) (omega arith)) in
      omega (arith, here, front first k, quiet k (first + 1) (λ q a b. none q (omega (arith, a)) (omega (arith, b))))

-- the numbers of a kind are those of cells
abbrev pub Agree : (Number → Option ℕ) → (Cell → Option ℕ) → Type 0
Agree kind cell_number = (c : Cell) (n : ℕ) → one_at (cell_number c) n ≡ option_map_or (λ number. one_at (kind number) n) (number_of c) 0

pub frames_agree : Agree frame_in frame_of
frames_agree (Anon perm) n = refl
frames_agree (File perm file index) n = refl
frames_agree (Mapped perm origin frame bytes) n = refl
frames_agree (Swapped perm origin slot bytes) n = refl

pub slots_agree : Agree slot_in slot_of
slots_agree (Anon perm) n = refl
slots_agree (File perm file index) n = refl
slots_agree (Mapped perm origin frame bytes) n = refl
slots_agree (Swapped perm origin slot bytes) n = refl

module _ (kind : Number → Option ℕ) (cell_number : Cell → Option ℕ) (agree : Agree kind cell_number) (cells : AddressSpace) (n : ℕ) where
  same_at : (q : ℕ) → carried_at cell_number (get cells q) n ≡ at_page kind cells q n
  same_at q = go (get cells q)
    where
      go : (o : Option Cell) → option_map_or (λ c. one_at (cell_number c) n) o 0 ≡ option_map_or (λ number. one_at (kind number) n) (option_and_then number_of o) 0
      go None = refl
      go (Some c) = agree c n

  module _ (first : ℕ) (f : ℕ → Option Cell → Option Cell) (no_number : (q : ℕ) (o : Option Cell) → carried_at cell_number (f q o) n ≡ 0) where
    -- cells without numbers come in the place of those of a range
    pub gone : (count : ℕ) → carried cell_number n (change cells first count f) + in_range kind cells n first count ≡ carried cell_number n cells
    gone zero =
        let same = ap (carried cell_number n) (change_none cells first f) in
        omega (arith, same, none_in kind cells n first)
    gone (suc k) =
        let so_far = change cells first k f in
        let here : get so_far (first + k) ≡ get cells (first + k) = get-change cells first k f (first + k) ∙ past (within first k (first + k)) refl in
        let sums = carried_set_at cell_number n so_far (first + k) (f (first + k) (get cells (first + k))) in
        let all : carried cell_number n (change cells first (suc k) f) ≡ carried cell_number n (set_at so_far (first + k) (f (first + k) (get cells (first + k)))) = ap (carried cell_number n) (change_more cells first k f) in
        let was : carried_at cell_number (get so_far (first + k)) n ≡ at_page kind cells (first + k) n = ap (λ o. carried_at cell_number o n) here ∙ same_at (first + k) in
        omega (arith, sums, all, was, no_number (first + k) (get cells (first + k)), more kind cells n k first, gone k)
      where
        past : (b : Bool) → within first k (first + k) ≡ b → cond b (f (first + k) (get cells (first + k))) (get cells (first + k)) ≡ get cells (first + k)
        past false e = refl
        past true e = absurd (omega (arith, (inside first k (first + k) e).1))

  pub bounded : (first count : ℕ) → in_range kind cells n first count ≤ carried cell_number n cells
  bounded first count = omega (arith, gone first (λ _ _. None) (λ _ _. refl) count)

  -- no page stands from the end on
  whole : (end : ℕ) → ((q : ℕ) (c : Cell) → get cells q ≡ Some c → q < end) → in_range kind cells n 0 end ≡ carried cell_number n cells
  whole end low =
      let nothing : change cells 0 end (λ _ _. None) ≡ fin.empty = same_map nat_cmp_total nat_cmp-IsAntisymmetric (change cells 0 end (λ _ _. None)) fin.empty
      (λ q. get-change cells 0 end (λ _ _. None) q ∙ at q (within 0 end q) refl (get cells q) refl ∙ sym (get-empty nat_cmp q)) in
      let none : carried cell_number n (change cells 0 end (λ _ _. None)) ≡ 0 = ap (carried cell_number n) nothing ∙ nothing_carried cell_number n in
      omega (arith, none, gone 0 (λ _ _. None) (λ _ _. refl) end)
    where
      at : (q : ℕ) (b : Bool) → within 0 end q ≡ b → (o : Option Cell) → get cells q ≡ o → ◌≡◌ {A = Option Cell} (cond b None o) None
      at q true e o h = refl
      at q false e None h = refl
      at q false e (Some c) h = absurd (outside 0 end q e (omega arith) (omega (arith, low q c h)))

  -- a page more, and none more
  module _ (next end page : ℕ) (number : Number) (at : IsNextHeld cells next end page number) where
    pub one_more : in_range kind cells n 0 (page + 1) ≡ in_range kind cells n 0 next + one_at (kind number) n
    one_more =
        let last : in_range kind cells n 0 (page + 1) ≡ in_range kind cells n 0 (suc page) = ap (in_range kind cells n 0) (omega arith) in
        let front : in_range kind cells n 0 page ≡ in_range kind cells n 0 (next + (page - next)) = ap (in_range kind cells n 0) (omega (arith, at.low)) in
        let none = quiet kind cells n (page - next) (0 + next) (λ q a b. at.before q (omega (arith, a)) (omega (arith, b, at.low))) in
        let here : at_page kind cells (0 + page) n ≡ one_at (kind number) n = ap (λ q. at_page kind cells q n) zero_plus ∙ ap (λ o. option_map_or (λ number. one_at (kind number) n) o 0) at.there in
        omega (arith, last, front, none, here, more kind cells n page 0, split kind cells n (page - next) next 0)
      where
        zero_plus : 0 + page ≡ page
        zero_plus = omega arith

    pub counted_more : in_range kind cells n 0 next + one_at (kind number) n ≤ carried cell_number n cells
    counted_more = omega (arith, one_more, bounded 0 (page + 1))

  pub none_more : (next end : ℕ) → next ≤ end → ((q : ℕ) → next ≤ q → q < end → number_at cells q ≡ None) → ((q : ℕ) (c : Cell) → get cells q ≡ Some c → q < end) →
      in_range kind cells n 0 next ≡ carried cell_number n cells
  none_more next end high none low =
      let all : in_range kind cells n 0 end ≡ in_range kind cells n 0 (next + (end - next)) = ap (in_range kind cells n 0) (omega (arith, high)) in
      let rest = quiet kind cells n (end - next) (0 + next) (λ q a b. none q (omega (arith, a)) (omega (arith, b, high))) in
      omega (arith, all, rest, whole end low, split kind cells n (end - next) next 0)

-- two ranges whose pages have the same numbers, one page after the other
module _ (kind : Number → Option ℕ) (n : ℕ) (here there : AddressSpace) where
  pub same_in : (count first to : ℕ) → ((i : ℕ) → i < count → number_at here (first + i) ≡ number_at there (to + i)) → in_range kind here n first count ≡ in_range kind there n to count
  same_in zero first to same = none_in kind here n first ∙ sym (none_in kind there n to)
  same_in (suc k) first to same =
      let last : at_page kind here (first + k) n ≡ at_page kind there (to + k) n = ap (λ o. option_map_or (λ number. one_at (kind number) n) o 0) (same k (omega arith)) in
      omega (arith, more kind here n k first, more kind there n k to, last, same_in k first to (λ i low. same i (omega (arith, low))))

one_here : (m : ℕ) → one_at (Some m) m ≡ 1
one_here m = ap (λ b. cond b 1 0) (nat_eq_equiv.refl m)

-- ---- each number gets one key more

pub record Shared (kind : Number → Option ℕ) (old new : List ℕ) (cells : AddressSpace) (next : ℕ) : Type 0 where
  pub numbers : length new ≡ length old
  pub counts : (n : ℕ) → slice_index new n ≡ slice_index old n + in_range kind cells n 0 next

pub none_shared : (kind : Number → Option ℕ) (old : List ℕ) (cells : AddressSpace) → Shared kind old old cells 0
none_shared kind old cells = record { numbers = refl; counts = λ n. omega (arith, none_in kind cells n 0) }

module _ (cells : AddressSpace) (old now : Counts) (next end page : ℕ) (number : Number) (at : IsNextHeld cells next end page number)
    (frames : Shared frame_in old.frames now.frames cells next) (slots : Shared slot_in old.slots now.slots cells next) where
  pub may_share : AreCounted old cells → AreRoomy old cells → MayShare now number
  may_share ok roomy = go number at
    where
      go : (number : Number) → IsNextHeld cells next end page number → MayShare now number
      go (Frame f) at =
          let less = counted_more frame_in frame_of frames_agree cells f next end page (Frame f) at in
          record {
            carried = omega (arith, less, one_here f, ok.frames.each f, frames.counts f);
            room = omega (arith, less, one_here f, roomy.frames.each f, frames.counts f);
          }
      go (Slot s) at =
          let less = counted_more slot_in slot_of slots_agree cells s next end page (Slot s) at in
          record {
            carried = omega (arith, less, one_here s, ok.slots.each s, slots.counts s);
            room = omega (arith, less, one_here s, roomy.slots.each s, slots.counts s);
          }

  module _ (after : Counts) (joins : Join number now after) where
    pub frames_shared : Shared frame_in old.frames after.frames cells (page + 1)
    frames_shared =
        let s = left_sums (Some number) after now joins in
        record {
          numbers = sym s.frame_numbers ∙ frames.numbers;
          counts = λ n. omega (arith, s.frames n, frames.counts n, one_more frame_in frame_of frames_agree cells n next end page number at);
        }

    pub slots_shared : Shared slot_in old.slots after.slots cells (page + 1)
    slots_shared =
        let s = left_sums (Some number) after now joins in
        record {
          numbers = sym s.slot_numbers ∙ slots.numbers;
          counts = λ n. omega (arith, s.slots n, slots.counts n, one_more slot_in slot_of slots_agree cells n next end page number at);
        }

pub all_shared : (cells : AddressSpace) (old new : Counts) (next end : ℕ) → next ≤ end → ((q : ℕ) → next ≤ q → q < end → number_at cells q ≡ None) → ((q : ℕ) (c : Cell) → get cells q ≡ Some c → q < end) →
    Shared frame_in old.frames new.frames cells next → Shared slot_in old.slots new.slots cells next → JoinAll old new cells
all_shared cells old new next end high none low frames slots = record {
  frames = record { numbers = frames.numbers; counts = λ n. omega (arith, frames.counts n, none_more frame_in frame_of frames_agree cells n next end high none low) };
  slots = record { numbers = slots.numbers; counts = λ n. omega (arith, slots.counts n, none_more slot_in slot_of slots_agree cells n next end high none low) };
}

-- ---- each number loses a key

pub record Lost (kind : Number → Option ℕ) (old new : List ℕ) (cells : AddressSpace) (next : ℕ) : Type 0 where
  pub numbers : length new ≡ length old
  pub counts : (n : ℕ) → slice_index new n + in_range kind cells n 0 next ≡ slice_index old n

pub none_lost : (kind : Number → Option ℕ) (old : List ℕ) (cells : AddressSpace) → Lost kind old old cells 0
none_lost kind old cells = record { numbers = refl; counts = λ n. omega (arith, none_in kind cells n 0) }

module _ (cells : AddressSpace) (old now : Counts) (next end page : ℕ) (number : Number) (at : IsNextHeld cells next end page number)
    (frames : Lost frame_in old.frames now.frames cells next) (slots : Lost slot_in old.slots now.slots cells next) where
  pub may_lose : AreCounted old cells → IsCarried now number
  may_lose ok = go number at
    where
      go : (number : Number) → IsNextHeld cells next end page number → IsCarried now number
      go (Frame f) at = omega (arith, counted_more frame_in frame_of frames_agree cells f next end page (Frame f) at, one_here f, ok.frames.each f, frames.counts f)
      go (Slot s) at = omega (arith, counted_more slot_in slot_of slots_agree cells s next end page (Slot s) at, one_here s, ok.slots.each s, slots.counts s)

  module _ (after : Counts) (leaves : Leave number now after) where
    pub frames_lost : Lost frame_in old.frames after.frames cells (page + 1)
    frames_lost =
        let s = left_sums (Some number) now after leaves in
        record {
          numbers = s.frame_numbers ∙ frames.numbers;
          counts = λ n. omega (arith, s.frames n, frames.counts n, one_more frame_in frame_of frames_agree cells n next end page number at);
        }

    pub slots_lost : Lost slot_in old.slots after.slots cells (page + 1)
    slots_lost =
        let s = left_sums (Some number) now after leaves in
        record {
          numbers = s.slot_numbers ∙ slots.numbers;
          counts = λ n. omega (arith, s.slots n, slots.counts n, one_more slot_in slot_of slots_agree cells n next end page number at);
        }

pub all_lost : (cells : AddressSpace) (old new : Counts) (next end : ℕ) → next ≤ end → ((q : ℕ) → next ≤ q → q < end → number_at cells q ≡ None) → ((q : ℕ) (c : Cell) → get cells q ≡ Some c → q < end) →
    Lost frame_in old.frames new.frames cells next → Lost slot_in old.slots new.slots cells next → Follow old new cells fin.empty
all_lost cells old new next end high none low frames slots = record {
  frames = record { numbers = frames.numbers; counts = λ n. omega (arith, frames.counts n, none_more frame_in frame_of frames_agree cells n next end high none low, nothing_carried frame_of n) };
  slots = record { numbers = slots.numbers; counts = λ n. omega (arith, slots.counts n, none_more slot_in slot_of slots_agree cells n next end high none low, nothing_carried slot_of n) };
}

-- ---- the numbers of a list

pub record SoFar (kind : Number → Option ℕ) (numbers : List Number) (done : ℕ) (old new : List ℕ) : Type 0 where
  pub numbers_stay : length new ≡ length old
  pub counts : (n : ℕ) → slice_index new n + times kind numbers n ≡ slice_index old n + times kind (drop done numbers) n

module _ (numbers : List Number) (old now : Counts) (done : ℕ) (default : Number) (within : done < length numbers)
    (frames : SoFar frame_in numbers done old.frames now.frames) (slots : SoFar slot_in numbers done old.slots now.slots) where
  abbrev this : Number
  this = get_or numbers done default

  pub this_is_carried : AreCarried numbers old → IsCarried now this
  this_is_carried ok = go this refl
    where
      go : (number : Number) → this ≡ number → IsCarried now number
      go (Frame f) e =
          let one : one_at (frame_in this) f ≡ 1 = ap (λ x. one_at (frame_in x) f) e ∙ one_here f in
          omega (arith, one, ok.frames f, frames.counts f, sum_by-drop_more (λ x. one_at (frame_in x) f) numbers done default within)
      go (Slot s) e =
          let one : one_at (slot_in this) s ≡ 1 = ap (λ x. one_at (slot_in x) s) e ∙ one_here s in
          omega (arith, one, ok.slots s, slots.counts s, sum_by-drop_more (λ x. one_at (slot_in x) s) numbers done default within)

  module _ (after : Counts) (leaves : Leave this now after) where
    pub frames_further : SoFar frame_in numbers (done + 1) old.frames after.frames
    frames_further =
        let s = left_sums (Some this) now after leaves in
        record {
          numbers_stay = s.frame_numbers ∙ frames.numbers_stay;
          counts = λ n. omega (arith, s.frames n, frames.counts n, sum_by-drop_more (λ x. one_at (frame_in x) n) numbers done default within);
        }

    pub slots_further : SoFar slot_in numbers (done + 1) old.slots after.slots
    slots_further =
        let s = left_sums (Some this) now after leaves in
        record {
          numbers_stay = s.slot_numbers ∙ slots.numbers_stay;
          counts = λ n. omega (arith, s.slots n, slots.counts n, sum_by-drop_more (λ x. one_at (slot_in x) n) numbers done default within);
        }

pub nothing_done : (kind : Number → Option ℕ) (numbers : List Number) (old : List ℕ) → SoFar kind numbers 0 old old
nothing_done kind numbers old = record { numbers_stay = refl; counts = λ n. refl }

pub all_done : (numbers : List Number) (old new : Counts) (done : ℕ) → length numbers ≤ done → SoFar frame_in numbers done old.frames new.frames → SoFar slot_in numbers done old.slots new.slots → LeaveAll numbers old new
all_done numbers old new done past frames slots = record {
  frames = record { numbers_stay = frames.numbers_stay; counts = λ n. let none = ap (λ l. times frame_in l n) (drop_all done numbers past) in omega (arith, none, frames.counts n) };
  slots = record { numbers_stay = slots.numbers_stay; counts = λ n. let none = ap (λ l. times slot_in l n) (drop_all done numbers past) in omega (arith, none, slots.counts n) };
}

-- ---- the cells of a range

module _ (cells : AddressSpace) (first count : ℕ) where
  pub range_is_carried : (counts : Counts) → AreCounted counts cells → AreCarried (numbers_in cells first count) counts
  unfolding in_range
  range_is_carried counts ok = record {
    frames = λ n. omega (arith, ok.frames.each n, bounded frame_in frame_of frames_agree cells n first count);
    slots = λ n. omega (arith, ok.slots.each n, bounded slot_in slot_of slots_agree cells n first count);
  }

  -- cells without numbers come in their place
  pub range_left : (f : ℕ → Option Cell → Option Cell) → ((q n : ℕ) (o : Option Cell) → (carried_at frame_of (f q o) n ≡ 0) × (carried_at slot_of (f q o) n ≡ 0)) → (old new : Counts) →
      LeaveAll (numbers_in cells first count) old new → Follow old new cells (change cells first count f)
  unfolding in_range
  range_left f none old new left = record {
    frames = record { numbers = left.frames.numbers_stay; counts = λ n. omega (arith, left.frames.counts n, gone frame_in frame_of frames_agree cells n first f (λ q o. (none q n o).0) count) };
    slots = record { numbers = left.slots.numbers_stay; counts = λ n. omega (arith, left.slots.counts n, gone slot_in slot_of slots_agree cells n first f (λ q o. (none q n o).1) count) };
  }

pub no_numbers : (what : Backing) (perm : Perm) (i n : ℕ) → (carried_at frame_of (Some (backed what perm i)) n ≡ 0) × (carried_at slot_of (Some (backed what perm i)) n ≡ 0)
no_numbers backing.Zero perm i n = (refl, refl)
no_numbers (backing.File file index) perm i n = (refl, refl)

-- the pages of a range are what they came from again
pub range_given_back : (cells : AddressSpace) (first count : ℕ) (old new : Counts) → LeaveAll (numbers_in cells first count) old new → Follow old new cells (given_back first count cells)
unfolding given_back
range_given_back cells first count = range_left cells first count (λ page. option_map (λ cell. goes_on cell 0)) (λ q n o. none n o)
  where
    none : (n : ℕ) (o : Option Cell) → (carried_at frame_of (option_map (λ cell. goes_on cell 0) o) n ≡ 0) × (carried_at slot_of (option_map (λ cell. goes_on cell 0) o) n ≡ 0)
    none n None = (refl, refl)
    none n (Some cell) = no_numbers (backing_of cell) (perm_of cell) 0 n

-- ---- several changes

module _ (kind : Number → Option ℕ) (cell_number : Cell → Option ℕ) (agree : Agree kind cell_number) (n : ℕ)
    (backed_has_none : (what : Backing) (perm : Perm) (i : ℕ) → carried_at cell_number (Some (backed what perm i)) n ≡ 0)
    (stays : (perm : Perm) (o : Option Cell) → carried_at cell_number (option_map (with_perm perm) o) n ≡ carried_at cell_number o n) where
  one_change : (cells : AddressSpace) (first count : ℕ) (effect : Effect) →
      carried cell_number n (change cells first count (λ page. made_cell effect (page - first))) + times kind (released_in effect (numbers_in cells first count)) n ≡ carried cell_number n cells
  unfolding in_range
  one_change cells first count (Map mark) = gone kind cell_number agree cells n first (λ page. made_cell (Map mark) (page - first)) (λ q o. backed_has_none mark.backing mark.perm (q - first)) count
  one_change cells first count Unmap = gone kind cell_number agree cells n first (λ page. made_cell Unmap (page - first)) (λ q o. refl) count
  one_change cells first count (Protect perm) =
      let same = same_carried cell_number n cells first (λ page. made_cell (Protect perm) (page - first)) (λ q o. stays perm o) count in
      omega (arith, same)

  all_gone : (changes : List Change) (cells : AddressSpace) → carried cell_number n (cells_after_all cells changes) + times kind (all_released cells changes) n ≡ carried cell_number n cells
  all_gone [] cells = omega arith
  all_gone (c ∷ cs) cells =
      let parts = sum_by-append (λ x. one_at (kind x) n) (released_in c.effect (numbers_in cells c.first c.count)) (all_released (cells_after cells c) cs) in
      omega (arith, parts, one_change cells c.first c.count c.effect, all_gone cs (cells_after cells c))

frames_stay : (n : ℕ) (perm : Perm) (o : Option Cell) → carried_at frame_of (option_map (with_perm perm) o) n ≡ carried_at frame_of o n
frames_stay n perm None = refl
frames_stay n perm (Some (Anon p)) = refl
frames_stay n perm (Some (File p file index)) = refl
frames_stay n perm (Some (Mapped p came frame bytes)) = refl
frames_stay n perm (Some (Swapped p came slot bytes)) = refl

slots_stay : (n : ℕ) (perm : Perm) (o : Option Cell) → carried_at slot_of (option_map (with_perm perm) o) n ≡ carried_at slot_of o n
slots_stay n perm None = refl
slots_stay n perm (Some (Anon p)) = refl
slots_stay n perm (Some (File p file index)) = refl
slots_stay n perm (Some (Mapped p came frame bytes)) = refl
slots_stay n perm (Some (Swapped p came slot bytes)) = refl

module _ (cells : AddressSpace) (changes : List Change) where
  frames_gone : (n : ℕ) → carried frame_of n (cells_after_all cells changes) + times frame_in (all_released cells changes) n ≡ carried frame_of n cells
  frames_gone n = all_gone frame_in frame_of frames_agree n (λ what perm i. (no_numbers what perm i n).0) (frames_stay n) changes cells

  slots_gone : (n : ℕ) → carried slot_of n (cells_after_all cells changes) + times slot_in (all_released cells changes) n ≡ carried slot_of n cells
  slots_gone n = all_gone slot_in slot_of slots_agree n (λ what perm i. (no_numbers what perm i n).1) (slots_stay n) changes cells

  pub changes_are_carried : (counts : Counts) → AreCounted counts cells → AreCarried (all_released cells changes) counts
  changes_are_carried counts ok = record {
    frames = λ n. omega (arith, ok.frames.each n, frames_gone n);
    slots = λ n. omega (arith, ok.slots.each n, slots_gone n);
  }

  pub changes_left : (old new : Counts) → LeaveAll (all_released cells changes) old new → Follow old new cells (cells_after_all cells changes)
  changes_left old new left = record {
    frames = record { numbers = left.frames.numbers_stay; counts = λ n. omega (arith, left.frames.counts n, frames_gone n) };
    slots = record { numbers = left.slots.numbers_stay; counts = λ n. omega (arith, left.slots.counts n, slots_gone n) };
  }
