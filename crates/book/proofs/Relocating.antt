-- The commits of `out` and `in`.
use Rattle.std.proofs.Common.{◌≡◌, ℕ, ◌/◌, ◌≤◌, Bool, true, false, cond, not, ◌&&◌, List, [], ◌∷◌, ◌++◌, length, refl, sym, ap, subst, ◌∙◌, arith}
use mathlib.Core.Bool.{true≢false}
use Rattle.std.specs.Prelude.{Option, Some, None, is_some, map, nat_eq, nat_lt}
use Rattle.std.specs.List.{All, AllByRecursion, filter, range_with_len, zip}
use Rattle.std.specs.Cmp.{nat_eq_equiv}
use Rattle.std.specs.FinMap as fin
use Rattle.std.proofs.lemmas.Bool.Decides.{nat_tests}
use Rattle.std.proofs.lemmas.List.{append-nil}
use Rattle.std.proofs.lemmas.List.Elements.{recursion_from_All, All-from_recursion}
use Rattle.corten_base.specs.declared.numbers.Limits.{Limits}
use Rattle.corten_base.specs.declared.calls.Call.{Call}
use Rattle.corten_base.specs.declared.calls.Call.TheVariants as call
use Rattle.corten_base.specs.declared.calls.Reply.{Reply}
use Rattle.corten_base.specs.declared.calls.Reply.TheVariants as reply
use Rattle.counted_pages.specs.Pages.{PageCounts, CountedPage, HasSpare}
use Rattle.shares.specs.Counts.{count_of}
use Rattle.table_place.specs.Range.{within}
use Rattle.table_place.specs.Place.{pages_of}
use Rattle.page_map.specs.declared.cell.Cell.{Cell}
use Rattle.page_map.specs.declared.cell.Cell.TheVariants.{Anon, File, Mapped, Swapped}
use Rattle.page_map.specs.Cell.{frame_of, slot_of, contents}
use Rattle.page_map.specs.Effect.{state_after, answer, frame_grants, slot_grants}
use Rattle.page_map.specs.State.{State, space_at, frame_owners, unused_frames, unused_slots}
use Rattle.page_map.specs.Step.{refusal}
use Rattle.page_map.specs.Swap.{goes_out, comes_in, moved, out_to, in_to}
use Rattle.page_map.specs.Takes.{Grant, grant, granted}
use Rattle.page_map.proofs.Steps.{passed, not_none}
use Rattle.machine_plan.specs.declared.kit.Kit.{Kit}
use Rattle.machine_plan.specs.Agrees.{HasSpareFor}
use Rattle.machine_plan.specs.Books.{BookData, state_of, RowSum}
use Rattle.machine_plan.specs.Whole.{IsBook}
use Rattle.machine_plan.specs.Kits.{Refs, AreBacked, IsFilled, IsPlanned, IsUsed, KeepsOthers, is_granted}
use Rattle.machine_plan.specs.Uses.{Ref, shown_ref, ref_at, refs_of, shown_refs, used_cells}
use Rattle.book.specs.Balance.{times, InBalance, AreHeld}
use Rattle.book.specs.Granting.{unused_in, numbered, Takes}
use Rattle.book.specs.Moving.{is_sole, paged, pages, Arrives, MayGoOut, GoesOut, MayComeIn, ComesIn}
use Rattle.book.specs.Pieces.{GivesBack}
use Rattle.book.specs.Settling.{Settles}
use Rattle.book.proofs.Counted.{state_limits}
use Rattle.book.proofs.Ending.{planned, held_frames, held_slots}
use Rattle.book.proofs.Grants.{Rising, rising_entries, still_rising, keys, going, GrantedSo, granted_so, own_numbers, number_at, MovesSo, page_bytes, after, arrived_are, kept_are, stayed_are, going_bytes}
use Rattle.book.proofs.Leaving.{unused_times}
use Rattle.book.proofs.SameKeys.{with_values}
use Rattle.book.proofs.Sharing.{times_first}
use Rattle.book.proofs.UsedAfter.{in_range_only, after_out, after_in}

-- Lists

filter_twice : {X : Type 0} (p q : X → Bool) (xs : List X) → filter q (filter p xs) ≡ filter (λ x. p x && q x) xs
filter_twice p q [] = refl
filter_twice p q (x ∷ xs) = go (p x) (filter_twice p q xs)
  where
    go : (b : Bool) → filter q (filter p xs) ≡ filter (λ x. p x && q x) xs → filter q (cond b (x ∷ filter p xs) (filter p xs)) ≡ cond (b && q x) (x ∷ filter (λ x. p x && q x) xs) (filter (λ x. p x && q x) xs)
    go true rest = ap (λ ys. cond (q x) (x ∷ ys) ys) rest
    go false rest = rest

all_pass : {X : Type 0} (p : X → Bool) (xs : List X) → ((x : X) → p x ≡ true) → filter p xs ≡ xs
all_pass p [] h = refl
all_pass p (x ∷ xs) h = ap (λ b. cond b (x ∷ filter p xs) (filter p xs)) (h x) ∙ ap (λ ys. x ∷ ys) (all_pass p xs h)

none_pass : {X : Type 0} (p : X → Bool) (xs : List X) → ((x : X) → p x ≡ false) → filter p xs ≡ []
none_pass p [] h = refl
none_pass p (x ∷ xs) h = ap (λ b. cond b (x ∷ filter p xs) (filter p xs)) (h x) ∙ none_pass p xs h

length_map : {X Y : Type 0} (f : X → Y) (xs : List X) → length (map f xs) ≡ length xs
length_map f [] = refl
length_map f (x ∷ xs) = ap (λ n. Prim.Native.Nat.suc n) (length_map f xs)

map_map : {X Y Z : Type 0} (f : X → Y) (g : Y → Z) (xs : List X) → map g (map f xs) ≡ map (λ x. g (f x)) xs
map_map f g [] = refl
map_map f g (x ∷ xs) = ap (λ ys. g (f x) ∷ ys) (map_map f g xs)

length_filter : {X : Type 0} (p : X → Bool) (xs : List X) → length (filter p xs) ≤ length xs
length_filter p [] = omega arith
length_filter p (x ∷ xs) = go (p x) (length_filter p xs)
  where
    go : (b : Bool) → length (filter p xs) ≤ length xs → length (cond b (x ∷ filter p xs) (filter p xs)) ≤ length (x ∷ xs)
    go true h = omega (arith, h)
    go false h = omega (arith, h)

abbrev head : {X : Type 0} → X → List X → X
head d [] = d
head d (x ∷ xs) = x

abbrev tail : {X : Type 0} → List X → List X
tail [] = []
tail (x ∷ xs) = xs

-- References

shown_filter : (q : Ref → Bool) (refs : Refs) → shown_refs (filter (λ r. q (shown_ref r)) refs) ≡ filter q (shown_refs refs)
shown_filter q [] = refl
shown_filter q (r ∷ refs) = go (q (shown_ref r)) (shown_filter q refs)
  where
    go : (b : Bool) → shown_refs (filter (λ r. q (shown_ref r)) refs) ≡ filter q (shown_refs refs) → shown_refs (cond b (r ∷ filter (λ r. q (shown_ref r)) refs) (filter (λ r. q (shown_ref r)) refs)) ≡ cond b (shown_ref r ∷ filter q (shown_refs refs)) (filter q (shown_refs refs))
    go true rest = ap (λ (l : List Ref). shown_ref r ∷ l) rest
    go false rest = rest

paged_shown : (refs : Refs) → map paged refs ≡ map page_bytes (shown_refs refs)
paged_shown refs = sym (map_map shown_ref page_bytes refs)

times_kept : (n : ℕ) (p : ℕ × CountedPage → Bool) (refs : Refs) → times n (shown_refs (filter p refs)) ≤ times n (shown_refs refs)
times_kept n p [] = omega arith
times_kept n p (r ∷ refs) = go (p r) (times_kept n p refs)
  where
    go : (b : Bool) → times n (shown_refs (filter p refs)) ≤ times n (shown_refs refs) → times n (shown_refs (cond b (r ∷ filter p refs) (filter p refs))) ≤ times n (shown_refs (r ∷ refs))
    go true h = omega (arith, h, times_first n r (filter p refs), times_first n r refs)
    go false h = omega (arith, h, times_first n r refs)

-- spares of numbers that references name
backed_named : (p q : PageCounts) (refs : Refs) → ((n : ℕ) → 1 ≤ times n (shown_refs refs) → HasSpare p n → HasSpare q n) → AreBacked p refs → AreBacked q refs
backed_named p q refs kept backed = All-from_recursion (λ (r : ℕ × CountedPage). HasSpareFor q r.1) refs (go refs kept (recursion_from_All (λ (r : ℕ × CountedPage). HasSpareFor p r.1) refs backed))
  where
    own_once : (n : ℕ) → ◌≡◌ {A = ℕ} (cond (nat_eq n n) 1 0) 1
    own_once n = ap (λ b. cond b 1 0) (nat_eq_equiv.refl n)

    go : (rs : Refs) → ((n : ℕ) → 1 ≤ times n (shown_refs rs) → HasSpare p n → HasSpare q n) → AllByRecursion (λ (r : ℕ × CountedPage). HasSpareFor p r.1) rs → AllByRecursion (λ (r : ℕ × CountedPage). HasSpareFor q r.1) rs
    go [] kept h = tt
    go (r ∷ rs) kept h = (
      (λ shared. kept r.1.number (omega (arith, times_first r.1.number r rs, own_once r.1.number)) (h.0 shared)),
      go rs (λ n some. kept n (omega (arith, some, times_first n r rs))) h.1,
    )

taken_backed : (old new : PageCounts) (ps : List ℕ) (came refs : Refs) → Takes old new ps [] came → AreHeld old (shown_refs refs) → AreBacked old refs → AreBacked new refs
taken_backed old new ps came refs takes held backed = backed_named old new refs (λ n some had. takes.spares n (omega (arith, some, held.each n)) had) backed

own_backed : (counts : PageCounts) (refs : Refs) → All (λ (r : ℕ × CountedPage). r.1.body.own ≡ true) refs → AreBacked counts refs
own_backed counts refs own k d inside shared = absurd (true≢false (sym (own k d inside) ∙ shared))

taken_balance : (old new : PageCounts) (ps : List ℕ) (own left came : Refs) → Takes old new ps [] came → left ≡ own → InBalance old new (shown_refs own) (shown_refs left) (shown_refs came)
taken_balance old new ps own left came takes same = record {
  numbers = takes.balance.numbers;
  counts = λ n. let both = ap (λ (l : Refs). times n (shown_refs l)) same in omega (arith, takes.balance.counts n, both);
}

given_balance : (old new : PageCounts) (own left came : Refs) → GivesBack old new own left → came ≡ [] → InBalance old new (shown_refs own) (shown_refs left) (shown_refs came)
given_balance old new own left came gives none = record {
  numbers = gives.balance.numbers;
  counts = λ n. let no = ap (λ (l : Refs). times n (shown_refs l)) none in omega (arith, gives.balance.counts n, no);
}

no_backed : (counts : PageCounts) (refs : Refs) → refs ≡ [] → AreBacked counts refs
no_backed counts refs none = subst (λ (l : Refs). AreBacked counts l) (sym none) (λ k d inside. absurd (omega (arith, inside)))

-- Unused numbers

unused_same : (counts : List ℕ) (owners : ℕ → ℕ) (limit : ℕ) → length counts ≡ limit → ((n : ℕ) → count_of counts n ≡ owners n) → unused_in counts ≡ Rattle.page_map.specs.State.unused owners limit
unused_same counts owners limit long same = λ i. filter (λ n. nat_eq (same n i) 0) (range_with_len 0 (long i))

pub frames_unused : (a : BookData) → IsBook a → unused_in a.frames.counts ≡ unused_frames (state_of a)
frames_unused a is = unused_same a.frames.counts (frame_owners (state_of a)) (state_of a).limits.frames (is.frames ∙ sym (ap (λ (l : Limits). l.frames) (state_limits a))) is.counts.frames

pub slots_unused : (a : BookData) → IsBook a → unused_in a.slots.counts ≡ unused_slots (state_of a)
slots_unused a is = unused_same a.slots.counts (Rattle.page_map.specs.State.slot_owners (state_of a)) (state_of a).limits.swap (is.slots ∙ sym (ap (λ (l : Limits). l.swap) (state_limits a))) is.counts.slots

enough_of : (free wanted : ℕ) (r : Reply) → cond (nat_lt free wanted) (Some r) None ≡ None → wanted ≤ free
enough_of free wanted r h = go (nat_lt free wanted) refl h
  where
    at_most : {a b : ℕ} → nat_lt a b ≡ false → b ≤ a
    at_most e = grind (arith, nat_tests, e)

    go : (b : Bool) → nat_lt free wanted ≡ b → cond b (Some r) None ≡ None → wanted ≤ free
    go true e g = absurd (not_none g)
    go false e g = at_most e

-- Cells that move

ranged : (first count : ℕ) (new : ℕ → Cell → Cell) (es : List (ℕ × Cell)) → with_values (in_range_only first count new) (filter (λ e. within first count e.0) es) ≡ with_values new (filter (λ e. within first count e.0) es)
ranged first count new [] = refl
ranged first count new (e ∷ es) = go (within first count e.0) refl (ranged first count new es)
  where
    go : (b : Bool) → within first count e.0 ≡ b → with_values (in_range_only first count new) (filter (λ e. within first count e.0) es) ≡ with_values new (filter (λ e. within first count e.0) es) →
        with_values (in_range_only first count new) (cond b (e ∷ filter (λ e. within first count e.0) es) (filter (λ e. within first count e.0) es)) ≡ with_values new (cond b (e ∷ filter (λ e. within first count e.0) es) (filter (λ e. within first count e.0) es))
    go true is rest = λ i. (e.0, cond (is i) (new e.0 e.1) e.1) ∷ rest i
    go false is rest = rest

out_moves : (st : State) → MovesSo (goes_out st) out_to frame_of slot_of
out_moves st = record { had = had; had_none = had_none; has = has; has_none = has_none; bytes = same_bytes }
  where
    had : (d : Cell) → goes_out st d ≡ true → is_some (frame_of d) ≡ true
    had (Mapped perm origin frame bytes) h = refl
    had (Anon perm) h = absurd (true≢false (sym h))
    had (File perm file index) h = absurd (true≢false (sym h))
    had (Swapped perm origin slot bytes) h = absurd (true≢false (sym h))

    had_none : (d : Cell) → goes_out st d ≡ true → slot_of d ≡ None
    had_none (Mapped perm origin frame bytes) h = refl
    had_none (Anon perm) h = refl
    had_none (File perm file index) h = refl
    had_none (Swapped perm origin slot bytes) h = absurd (true≢false (sym h))

    has : (n : ℕ) (d : Cell) → goes_out st d ≡ true → slot_of (out_to n d) ≡ Some n
    has n (Mapped perm origin frame bytes) h = refl
    has n (Anon perm) h = absurd (true≢false (sym h))
    has n (File perm file index) h = absurd (true≢false (sym h))
    has n (Swapped perm origin slot bytes) h = absurd (true≢false (sym h))

    has_none : (n : ℕ) (d : Cell) → goes_out st d ≡ true → frame_of (out_to n d) ≡ None
    has_none n (Mapped perm origin frame bytes) h = refl
    has_none n (Anon perm) h = refl
    has_none n (File perm file index) h = refl
    has_none n (Swapped perm origin slot bytes) h = refl

    same_bytes : (n : ℕ) (d : Cell) → contents [] (out_to n d) ≡ contents [] d
    same_bytes n (Mapped perm origin frame bytes) = refl
    same_bytes n (Anon perm) = refl
    same_bytes n (File perm file index) = refl
    same_bytes n (Swapped perm origin slot bytes) = refl

in_moves : MovesSo comes_in in_to slot_of frame_of
in_moves = record { had = had; had_none = had_none; has = has; has_none = has_none; bytes = same_bytes }
  where
    had : (d : Cell) → comes_in d ≡ true → is_some (slot_of d) ≡ true
    had (Swapped perm origin slot bytes) h = refl
    had (Anon perm) h = absurd (true≢false (sym h))
    had (File perm file index) h = absurd (true≢false (sym h))
    had (Mapped perm origin frame bytes) h = absurd (true≢false (sym h))

    had_none : (d : Cell) → comes_in d ≡ true → frame_of d ≡ None
    had_none (Swapped perm origin slot bytes) h = refl
    had_none (Anon perm) h = refl
    had_none (File perm file index) h = refl
    had_none (Mapped perm origin frame bytes) h = absurd (true≢false (sym h))

    has : (n : ℕ) (d : Cell) → comes_in d ≡ true → frame_of (in_to n d) ≡ Some n
    has n (Swapped perm origin slot bytes) h = refl
    has n (Anon perm) h = absurd (true≢false (sym h))
    has n (File perm file index) h = absurd (true≢false (sym h))
    has n (Mapped perm origin frame bytes) h = absurd (true≢false (sym h))

    has_none : (n : ℕ) (d : Cell) → comes_in d ≡ true → slot_of (in_to n d) ≡ None
    has_none n (Swapped perm origin slot bytes) h = refl
    has_none n (Anon perm) h = refl
    has_none n (File perm file index) h = refl
    has_none n (Mapped perm origin frame bytes) h = refl

    same_bytes : (n : ℕ) (d : Cell) → contents [] (in_to n d) ≡ contents [] d
    same_bytes n (Swapped perm origin slot bytes) = refl
    same_bytes n (Anon perm) = refl
    same_bytes n (File perm file index) = refl
    same_bytes n (Mapped perm origin frame bytes) = refl

-- a list of references by its pages with numbers, and by its pages with bytes
joined : (f : ℕ → ℕ) (came : Refs) (es : List (ℕ × Cell)) → map numbered came ≡ map {B = ℕ × ℕ} (λ (e : ℕ × Cell). (e.0, f e.0)) es → map paged came ≡ map {B = ℕ × List ℕ} (λ (e : ℕ × Cell). (e.0, contents [] e.1)) es →
    shown_refs came ≡ map {B = Ref} (λ (e : ℕ × Cell). (e.0, (f e.0, contents [] e.1))) es
joined f [] [] h g = refl
joined f [] (e ∷ es) h g = absurd (omega (arith, ap length h))
joined f (r ∷ came) [] h g = absurd (omega (arith, ap length h))
joined f (r ∷ came) (e ∷ es) h g =
    let number = ap (λ l. head {X = ℕ × ℕ} (0, 0) l) h in
    let page = ap (λ l. head {X = ℕ × List ℕ} (0, []) l) g in
    let rest = joined f came es (ap (λ l. tail {X = ℕ × ℕ} l) h) (ap (λ l. tail {X = ℕ × List ℕ} l) g) in
    λ i. ((number i).0, ((number i).1, (page i).1)) ∷ rest i

module _ (goes : Cell → Bool) (to : ℕ → Cell → Cell) (from into : Cell → Option ℕ) (so : MovesSo goes to from into) (es : List (ℕ × Cell)) (rising : Rising es) (numbers : List ℕ) (enough : length (going goes es) ≤ length numbers) where
  abbrev g : Grant
  g = grant (keys (going goes es)) numbers

  given_so : GrantedSo goes g es
  given_so = granted_so goes es numbers rising enough

  module _ (old new : PageCounts) (refs came : Refs) (are : shown_refs refs ≡ refs_of from (going goes es)) (unused : unused_in old.counts ≡ numbers) (arrives : Arrives old new refs came) where
    bytes_are : map page_bytes (shown_refs refs) ≡ map {B = ℕ × List ℕ} (λ (e : ℕ × Cell). (e.0, contents [] e.1)) (going goes es)
    bytes_are = ap (λ (l : List Ref). map page_bytes l) are ∙ going_bytes goes to from into so g es

    pages_are : pages refs ≡ keys (going goes es)
    pages_are =
        sym (map_map page_bytes (λ (x : ℕ × List ℕ). x.0) (shown_refs refs) ∙ map_map shown_ref (λ (x : Ref). x.0) refs)
        ∙ ap (λ l. map (λ (x : ℕ × List ℕ). x.0) l) bytes_are
        ∙ map_map {Y = ℕ × List ℕ} (λ (e : ℕ × Cell). (e.0, contents [] e.1)) (λ x. x.0) (going goes es)

    numbers_are : map numbered came ≡ map {B = ℕ × ℕ} (λ (e : ℕ × Cell). (e.0, number_at g e.0)) (going goes es)
    numbers_are =
        sym (append-nil (map numbered came)) ∙ arrives.takes.granted
        ∙ (λ i. zip (pages_are i) (unused i))
        ∙ sym (own_numbers (going goes es) numbers (still_rising (λ e. goes e.1) es rising) enough)

    shown_are : shown_refs came ≡ map {B = Ref} (λ (e : ℕ × Cell). (e.0, (number_at g e.0, contents [] e.1))) (going goes es)
    shown_are = joined (number_at g) came (going goes es) numbers_are (arrives.bytes ∙ paged_shown refs ∙ bytes_are)

    pub came_are : shown_refs came ≡ refs_of into (filter (is_granted g) (after goes to from into so g es))
    came_are = shown_are ∙ sym (arrived_are goes to from into so g es given_so)

    pub came_long : length came ≡ length (keys (going goes es))
    came_long = sym (length_map shown_ref came) ∙ ap length shown_are ∙ length_map {Y = Ref} (λ (e : ℕ × Cell). (e.0, (number_at g e.0, contents [] e.1))) (going goes es) ∙ sym (length_map (λ (e : ℕ × Cell). e.0) (going goes es))

    pub taken_others : (used : ℕ → Type 0) → KeepsOthers old new used
    taken_others used = record {
      counts = λ n owned apart. arrives.takes.owned n owned;
      spares = λ n owned apart. arrives.takes.spares n owned;
      shared = λ n owned. arrives.takes.spares n (omega (arith, owned));
    }

given_others : (number_of : Cell → Option ℕ) (st : State) (thread : ℕ) (c : Call) (old new : PageCounts) (own left : Refs) → shown_refs own ≡ refs_of number_of (used_cells st st thread c) → GivesBack old new own left → ((n : ℕ) → times n (shown_refs left) ≤ times n (shown_refs own)) →
    KeepsOthers old new (IsUsed st thread c number_of)
given_others number_of st thread c old new own left was gives fewer = record {
  counts = λ n owned apart.
      let none : times n (shown_refs own) ≡ 0 = ap (times n) was ∙ unused_times number_of n st thread c apart in
      omega (arith, gives.balance.counts n, none, fewer n);
  spares = λ n owned apart. gives.spares n;
  shared = λ n owned. gives.spares n;
}

module _ (st : State) (thread space at len : ℕ) where
  abbrev first : ℕ
  first = at / 4096

  abbrev count : ℕ
  count = pages_of len

  -- the cells of the range
  abbrev cells : List (ℕ × Cell)
  cells = filter (λ e. within first count e.0) (fin.entries (space_at st space))

  range_rises : Rising cells
  range_rises = still_rising (λ e. within first count e.0) (fin.entries (space_at st space)) (rising_entries (space_at st space))

  range_keys : (goes : Cell → Bool) → Rattle.page_map.specs.Change.keys_in (space_at st space) first count goes ≡ keys (going goes cells)
  range_keys goes = ap (λ (l : List (ℕ × Cell)). map (λ e. e.0) l) (sym (filter_twice (λ e. within first count e.0) (λ e. goes e.1) (fin.entries (space_at st space))))

-- `out`

module _ (st : State) (counts : PageCounts) (same : (n : ℕ) → count_of counts.counts n ≡ frame_owners st n) where
  abbrev sole : Ref → Bool
  sole r = nat_eq (count_of counts.counts r.1.0) 1

  sole_refs : (es : List (ℕ × Cell)) → filter sole (refs_of frame_of es) ≡ refs_of frame_of (going (goes_out st) es)
  sole_refs [] = refl
  sole_refs (e ∷ es) = go e.1 (sole_refs es)
    where
      go : (d : Cell) → filter sole (refs_of frame_of es) ≡ refs_of frame_of (going (goes_out st) es) → filter sole (ref_at frame_of (e.0, d) ++ refs_of frame_of es) ≡ refs_of frame_of (cond (goes_out st d) ((e.0, d) ∷ going (goes_out st) es) (going (goes_out st) es))
      go (Mapped perm origin frame bytes) rest = counted (nat_eq (count_of counts.counts frame) 1) (nat_eq (frame_owners st frame) 1) (ap (λ n. nat_eq n 1) (same frame))
        where
          counted : (a b : Bool) → a ≡ b → cond a ((e.0, (frame, bytes)) ∷ filter sole (refs_of frame_of es)) (filter sole (refs_of frame_of es)) ≡ refs_of frame_of (cond b ((e.0, Mapped perm origin frame bytes) ∷ going (goes_out st) es) (going (goes_out st) es))
          counted true true h = ap (λ (l : List Ref). (e.0, (frame, bytes)) ∷ l) rest
          counted false false h = rest
          counted true false h = absurd (true≢false h)
          counted false true h = absurd (true≢false (sym h))
      go (Anon perm) rest = rest
      go (File perm file index) rest = rest
      go (Swapped perm origin slot bytes) rest = rest

  shared_refs : (es : List (ℕ × Cell)) → filter (λ r. not (sole r)) (refs_of frame_of es) ≡ refs_of frame_of (filter (λ e. not (goes_out st e.1)) es)
  shared_refs [] = refl
  shared_refs (e ∷ es) = go e.1 (shared_refs es)
    where
      go : (d : Cell) → filter (λ r. not (sole r)) (refs_of frame_of es) ≡ refs_of frame_of (filter (λ e. not (goes_out st e.1)) es) →
          filter (λ r. not (sole r)) (ref_at frame_of (e.0, d) ++ refs_of frame_of es) ≡ refs_of frame_of (cond (not (goes_out st d)) ((e.0, d) ∷ filter (λ e. not (goes_out st e.1)) es) (filter (λ e. not (goes_out st e.1)) es))
      go (Mapped perm origin frame bytes) rest = counted (nat_eq (count_of counts.counts frame) 1) (nat_eq (frame_owners st frame) 1) (ap (λ n. nat_eq n 1) (same frame))
        where
          counted : (a b : Bool) → a ≡ b → cond (not a) ((e.0, (frame, bytes)) ∷ filter (λ r. not (sole r)) (refs_of frame_of es)) (filter (λ r. not (sole r)) (refs_of frame_of es)) ≡ refs_of frame_of (cond (not b) ((e.0, Mapped perm origin frame bytes) ∷ filter (λ e. not (goes_out st e.1)) es) (filter (λ e. not (goes_out st e.1)) es))
          counted true true h = rest
          counted false false h = ap (λ (l : List Ref). (e.0, (frame, bytes)) ∷ l) rest
          counted true false h = absurd (true≢false h)
          counted false true h = absurd (true≢false (sym h))
      go (Anon perm) rest = rest
      go (File perm file index) rest = rest
      go (Swapped perm origin slot bytes) rest = rest

module _ (a : BookData) (thread space at len : ℕ) (kit : Kit) (is : IsBook a) (sum : RowSum a) (filled : IsFilled a thread (call.SwapOut space at len) kit) (none : refusal (state_of a) thread (call.SwapOut space at len) (length a.limbo) ≡ None) where
  abbrev st : State
  st = state_of a

  abbrev c : Call
  c = call.SwapOut space at len

  abbrev es : List (ℕ × Cell)
  es = cells st thread space at len

  abbrev goes : Cell → Bool
  goes = goes_out st

  plan : IsPlanned a thread c kit
  plan = planned a thread c kit is sum filled none

  used_before : used_cells st st thread c ≡ es
  used_before = λ i. filter (λ e. nat_eq_equiv.refl space i && within (at / 4096) (pages_of len) e.0) (fin.entries (space_at st space))

  enough : length (going goes es) ≤ length (unused_slots st)
  enough =
      let h = enough_of _ _ _ (passed st thread c (length a.limbo) none).swap in
      omega (arith, h, ap length (range_keys st thread space at len goes), length_map (λ (e : ℕ × Cell). e.0) (going goes es))

  abbrev numbers : Grant
  numbers = grant (keys (going goes es)) (unused_slots st)

  grants_are : slot_grants st c ≡ numbers
  grants_are = ap (λ l. grant l (unused_slots st)) (range_keys st thread space at len goes)

  moved_cells : List (ℕ × Cell)
  moved_cells = after goes out_to frame_of slot_of (out_moves st) numbers es

  used_after : used_cells st (state_after st thread c) thread c ≡ moved_cells
  unfolding moved_cells
  used_after =
      after_out st thread space at len
      ∙ (λ i. with_values (in_range_only (at / 4096) (pages_of len) (λ page. moved out_to (granted (grants_are i) page))) (used_before i))
      ∙ ranged (at / 4096) (pages_of len) (λ page. moved out_to (granted numbers page)) (fin.entries (space_at st space))

  granted_all : GrantedSo goes numbers es
  granted_all = granted_so goes es (unused_slots st) (range_rises st thread space at len) enough

  own_frames : shown_refs kit.own_frames.items ≡ refs_of frame_of es
  own_frames = plan.frames ∙ ap (refs_of frame_of) used_before

  own_slots : shown_refs kit.own_slots.items ≡ refs_of slot_of es
  own_slots = plan.slots ∙ ap (refs_of slot_of) used_before

  abbrev leaving : Refs
  leaving = filter (is_sole a.frames) kit.own_frames.items

  leaving_are : shown_refs leaving ≡ refs_of frame_of (going goes es)
  leaving_are = shown_filter (sole st a.frames is.counts.frames) kit.own_frames.items ∙ ap (λ (l : List Ref). filter (sole st a.frames is.counts.frames) l) own_frames ∙ sole_refs st a.frames is.counts.frames es

  leaving_long : length leaving ≡ length (going goes es)
  leaving_long =
      sym (length_map shown_ref leaving) ∙ sym (length_map page_bytes (shown_refs leaving))
      ∙ ap length (ap (λ (l : List Ref). map page_bytes l) leaving_are ∙ going_bytes goes out_to frame_of slot_of (out_moves st) numbers es)
      ∙ length_map {Y = ℕ × List ℕ} (λ (e : ℕ × Cell). (e.0, contents [] e.1)) (going goes es)

  pub may_go_out_at : MayGoOut a.frames a.slots kit
  may_go_out_at = record {
    held = held_frames a thread c kit is sum filled none;
    backed = plan.frames_ready.0;
    enough = omega (arith, enough, leaving_long, ap length (slots_unused a is));
    few = filled.few.frames;
    no_frames = filled.ungranted.frames;
    no_slots = filled.ungranted.slots;
    room = filled.room;
  }

  module _ (pool area : PageCounts) (mid : Kit) (goes_out_so : GoesOut a.frames a.slots kit pool area mid) where
    out_left : shown_refs mid.own_frames.items ≡ refs_of frame_of (filter (λ e. not (is_granted [] e)) (used_cells st (state_after st thread c) thread c))
    unfolding moved_cells
    out_left =
        ap shown_refs goes_out_so.left_frames
        ∙ shown_filter (λ r. not (sole st a.frames is.counts.frames r)) kit.own_frames.items
        ∙ ap (λ (l : List Ref). filter (λ r. not (sole st a.frames is.counts.frames r)) l) own_frames
        ∙ shared_refs st a.frames is.counts.frames es
        ∙ sym (stayed_are goes out_to frame_of slot_of (out_moves st) numbers es granted_all)
        ∙ ap (refs_of frame_of) (sym used_after)
        ∙ ap (refs_of frame_of) (sym (all_pass (λ e. true) (used_cells st (state_after st thread c) thread c) (λ e. refl)))

    slots_left : shown_refs mid.own_slots.items ≡ refs_of slot_of (filter (λ e. not (is_granted (slot_grants st c) e)) (used_cells st (state_after st thread c) thread c))
    unfolding moved_cells
    slots_left =
        ap shown_refs goes_out_so.left_slots ∙ own_slots
        ∙ sym (kept_are goes out_to frame_of slot_of (out_moves st) numbers es granted_all)
        ∙ (λ i. refs_of slot_of (filter (λ e. not (is_granted (sym grants_are i) e)) (sym used_after i)))

    slots_came : shown_refs mid.slots.items ≡ refs_of slot_of (filter (is_granted (slot_grants st c)) (used_cells st (state_after st thread c) thread c))
    unfolding moved_cells
    slots_came =
        came_are goes out_to frame_of slot_of (out_moves st) es (range_rises st thread space at len) (unused_slots st) enough a.slots area leaving mid.slots.items leaving_are (slots_unused a is) goes_out_so.slots
        ∙ (λ i. refs_of slot_of (filter (is_granted (sym grants_are i)) (sym used_after i)))

    pub settles_out : Settles a thread c kit pool area mid
    settles_out = record {
      frames = given_balance a.frames pool kit.own_frames.items mid.own_frames.items mid.frames.items goes_out_so.frames goes_out_so.no_frames;
      slots = taken_balance a.slots area _ kit.own_slots.items mid.own_slots.items mid.slots.items goes_out_so.slots.takes goes_out_so.left_slots;
      left_frames = out_left;
      left_slots = slots_left;
      new_frames = ap shown_refs goes_out_so.no_frames ∙ ap (refs_of frame_of) (sym (none_pass (λ e. false) (used_cells st (state_after st thread c) thread c) (λ e. refl)));
      new_slots = slots_came;
      backed = (
        goes_out_so.frames.backed,
        no_backed pool mid.frames.items goes_out_so.no_frames,
        subst (λ (l : Refs). AreBacked area l) (sym goes_out_so.left_slots) (taken_backed a.slots area _ mid.slots.items kit.own_slots.items goes_out_so.slots.takes (held_slots a thread c kit is sum filled none) plan.slots_ready.0),
        own_backed area mid.slots.items goes_out_so.slots.own,
      );
      seconds = (goes_out_so.second_frames ∙ plan.frames_ready.1, goes_out_so.second_slots ∙ plan.slots_ready.1);
      frames_kept = given_others frame_of st thread c a.frames pool kit.own_frames.items mid.own_frames.items plan.frames goes_out_so.frames
          (λ n. let left = ap (λ (l : Refs). times n (shown_refs l)) goes_out_so.left_frames in omega (arith, left, times_kept n (λ r. not (is_sole a.frames r)) kit.own_frames.items));
      slots_kept = taken_others goes out_to frame_of slot_of (out_moves st) es (range_rises st thread space at len) (unused_slots st) enough a.slots area leaving mid.slots.items leaving_are (slots_unused a is) goes_out_so.slots (IsUsed st thread c slot_of);
      lists = goes_out_so.lists;
    }

    out_long : length mid.slots.items ≡ length (Rattle.page_map.specs.Effect.wanting_slots_of st c)
    out_long =
        came_long goes out_to frame_of slot_of (out_moves st) es (range_rises st thread space at len) (unused_slots st) enough a.slots area leaving mid.slots.items leaving_are (slots_unused a is) goes_out_so.slots
        ∙ ap length (sym (range_keys st thread space at len goes))

    pub out_few : length mid.slots.items ≤ 4096
    out_few =
        let all = came_long goes out_to frame_of slot_of (out_moves st) es (range_rises st thread space at len) (unused_slots st) enough a.slots area leaving mid.slots.items leaving_are (slots_unused a is) goes_out_so.slots in
        omega (arith, all, length_map (λ (e : ℕ × Cell). e.0) (going goes es), leaving_long, length_filter (is_sole a.frames) kit.own_frames.items, filled.few.frames)

    pub answered_out : reply.Moved (length mid.slots.items) ≡ answer st thread c
    unfolding answer
    answered_out = ap (λ n. reply.Moved n) out_long

-- `in`

module _ (a : BookData) (thread space at len : ℕ) (kit : Kit) (is : IsBook a) (sum : RowSum a) (filled : IsFilled a thread (call.SwapIn space at len) kit) (none : refusal (state_of a) thread (call.SwapIn space at len) (length a.limbo) ≡ None) where
  abbrev st' : State
  st' = state_of a

  abbrev c' : Call
  c' = call.SwapIn space at len

  abbrev es' : List (ℕ × Cell)
  es' = cells st' thread space at len

  plan' : IsPlanned a thread c' kit
  plan' = planned a thread c' kit is sum filled none

  used_before' : used_cells st' st' thread c' ≡ es'
  used_before' = λ i. filter (λ e. nat_eq_equiv.refl space i && within (at / 4096) (pages_of len) e.0) (fin.entries (space_at st' space))

  enough' : length (going comes_in es') ≤ length (unused_frames st')
  enough' =
      let h = enough_of _ _ _ (passed st' thread c' (length a.limbo) none).frames in
      omega (arith, h, ap length (range_keys st' thread space at len comes_in), length_map (λ (e : ℕ × Cell). e.0) (going comes_in es'))

  abbrev numbers' : Grant
  numbers' = grant (keys (going comes_in es')) (unused_frames st')

  grants_are' : frame_grants st' c' ≡ numbers'
  grants_are' = ap (λ l. grant l (unused_frames st')) (range_keys st' thread space at len comes_in)

  moved_cells' : List (ℕ × Cell)
  moved_cells' = after comes_in in_to slot_of frame_of in_moves numbers' es'

  used_after' : used_cells st' (state_after st' thread c') thread c' ≡ moved_cells'
  unfolding moved_cells'
  used_after' =
      after_in st' thread space at len
      ∙ (λ i. with_values (in_range_only (at / 4096) (pages_of len) (λ page. moved in_to (granted (grants_are' i) page))) (used_before' i))
      ∙ ranged (at / 4096) (pages_of len) (λ page. moved in_to (granted numbers' page)) (fin.entries (space_at st' space))

  granted_all' : GrantedSo comes_in numbers' es'
  granted_all' = granted_so comes_in es' (unused_frames st') (range_rises st' thread space at len) enough'

  own_frames' : shown_refs kit.own_frames.items ≡ refs_of frame_of es'
  own_frames' = plan'.frames ∙ ap (refs_of frame_of) used_before'

  own_slots' : shown_refs kit.own_slots.items ≡ refs_of slot_of es'
  own_slots' = plan'.slots ∙ ap (refs_of slot_of) used_before'

  -- all that have slots come in
  all_come : (xs : List (ℕ × Cell)) → refs_of slot_of xs ≡ refs_of slot_of (going comes_in xs)
  all_come [] = refl
  all_come (e ∷ xs) = go e.1 (all_come xs)
    where
      go : (d : Cell) → refs_of slot_of xs ≡ refs_of slot_of (going comes_in xs) → ref_at slot_of (e.0, d) ++ refs_of slot_of xs ≡ refs_of slot_of (cond (comes_in d) ((e.0, d) ∷ going comes_in xs) (going comes_in xs))
      go (Swapped perm origin slot bytes) rest = ap (λ (l : List Ref). (e.0, (slot, bytes)) ∷ l) rest
      go (Anon perm) rest = rest
      go (File perm file index) rest = rest
      go (Mapped perm origin frame bytes) rest = rest

  none_stays : (xs : List (ℕ × Cell)) → refs_of slot_of (filter (λ e. not (comes_in e.1)) xs) ≡ []
  none_stays [] = refl
  none_stays (e ∷ xs) = go e.1 (none_stays xs)
    where
      go : (d : Cell) → refs_of slot_of (filter (λ e. not (comes_in e.1)) xs) ≡ [] → refs_of slot_of (cond (not (comes_in d)) ((e.0, d) ∷ filter (λ e. not (comes_in e.1)) xs) (filter (λ e. not (comes_in e.1)) xs)) ≡ []
      go (Swapped perm origin slot bytes) rest = rest
      go (Anon perm) rest = rest
      go (File perm file index) rest = rest
      go (Mapped perm origin frame bytes) rest = rest

  coming_are : shown_refs kit.own_slots.items ≡ refs_of slot_of (going comes_in es')
  coming_are = own_slots' ∙ all_come es'

  coming_long : length kit.own_slots.items ≡ length (going comes_in es')
  coming_long =
      sym (length_map shown_ref kit.own_slots.items) ∙ sym (length_map page_bytes (shown_refs kit.own_slots.items))
      ∙ ap length (ap (λ (l : List Ref). map page_bytes l) coming_are ∙ going_bytes comes_in in_to slot_of frame_of in_moves numbers' es')
      ∙ length_map {Y = ℕ × List ℕ} (λ (e : ℕ × Cell). (e.0, contents [] e.1)) (going comes_in es')

  pub may_come_in_at : MayComeIn a.frames a.slots kit
  may_come_in_at = record {
    held = held_slots a thread c' kit is sum filled none;
    backed = plan'.slots_ready.0;
    enough = omega (arith, enough', coming_long, ap length (frames_unused a is));
    few = filled.few.slots;
    no_frames = filled.ungranted.frames;
    room = filled.room;
  }

  module _ (pool area : PageCounts) (mid : Kit) (comes : ComesIn a.frames a.slots kit pool area mid) where
    frames_left : shown_refs mid.own_frames.items ≡ refs_of frame_of (filter (λ e. not (is_granted (frame_grants st' c') e)) (used_cells st' (state_after st' thread c') thread c'))
    unfolding moved_cells'
    frames_left =
        ap shown_refs comes.left_frames ∙ own_frames'
        ∙ sym (kept_are comes_in in_to slot_of frame_of in_moves numbers' es' granted_all')
        ∙ (λ i. refs_of frame_of (filter (λ e. not (is_granted (sym grants_are' i) e)) (sym used_after' i)))

    frames_came : shown_refs mid.frames.items ≡ refs_of frame_of (filter (is_granted (frame_grants st' c')) (used_cells st' (state_after st' thread c') thread c'))
    unfolding moved_cells'
    frames_came =
        came_are comes_in in_to slot_of frame_of in_moves es' (range_rises st' thread space at len) (unused_frames st') enough' a.frames pool kit.own_slots.items mid.frames.items coming_are (frames_unused a is) comes.frames
        ∙ (λ i. refs_of frame_of (filter (is_granted (sym grants_are' i)) (sym used_after' i)))

    in_left : shown_refs mid.own_slots.items ≡ refs_of slot_of (filter (λ e. not (is_granted [] e)) (used_cells st' (state_after st' thread c') thread c'))
    unfolding moved_cells'
    in_left =
        ap shown_refs comes.no_slots
        ∙ sym (none_stays es')
        ∙ sym (stayed_are comes_in in_to slot_of frame_of in_moves numbers' es' granted_all')
        ∙ ap (refs_of slot_of) (sym used_after')
        ∙ ap (refs_of slot_of) (sym (all_pass (λ e. true) (used_cells st' (state_after st' thread c') thread c') (λ e. refl)))

    no_came : mid.slots.items ≡ []
    no_came = comes.came_slots ∙ filled.ungranted.slots

    pub settles_in : Settles a thread c' kit pool area mid
    settles_in = record {
      frames = taken_balance a.frames pool _ kit.own_frames.items mid.own_frames.items mid.frames.items comes.frames.takes comes.left_frames;
      slots = given_balance a.slots area kit.own_slots.items mid.own_slots.items mid.slots.items comes.slots no_came;
      left_frames = frames_left;
      left_slots = in_left;
      new_frames = frames_came;
      new_slots = ap shown_refs no_came ∙ ap (refs_of slot_of) (sym (none_pass (λ e. false) (used_cells st' (state_after st' thread c') thread c') (λ e. refl)));
      backed = (
        subst (λ (l : Refs). AreBacked pool l) (sym comes.left_frames) (taken_backed a.frames pool _ mid.frames.items kit.own_frames.items comes.frames.takes (held_frames a thread c' kit is sum filled none) plan'.frames_ready.0),
        own_backed pool mid.frames.items comes.frames.own,
        comes.slots.backed,
        no_backed area mid.slots.items no_came,
      );
      seconds = (comes.second_frames ∙ plan'.frames_ready.1, comes.second_slots ∙ plan'.slots_ready.1);
      frames_kept = taken_others comes_in in_to slot_of frame_of in_moves es' (range_rises st' thread space at len) (unused_frames st') enough' a.frames pool kit.own_slots.items mid.frames.items coming_are (frames_unused a is) comes.frames (IsUsed st' thread c' frame_of);
      slots_kept = given_others slot_of st' thread c' a.slots area kit.own_slots.items mid.own_slots.items plan'.slots comes.slots
          (λ n. let left = ap (λ (l : Refs). times n (shown_refs l)) comes.no_slots in omega (arith, left));
      lists = comes.lists;
    }

    in_long : length mid.frames.items ≡ length (Rattle.page_map.specs.Effect.wanting_frames_of st' c')
    in_long =
        came_long comes_in in_to slot_of frame_of in_moves es' (range_rises st' thread space at len) (unused_frames st') enough' a.frames pool kit.own_slots.items mid.frames.items coming_are (frames_unused a is) comes.frames
        ∙ ap length (sym (range_keys st' thread space at len comes_in))

    pub in_few : length mid.frames.items ≤ 4096
    in_few =
        let all = came_long comes_in in_to slot_of frame_of in_moves es' (range_rises st' thread space at len) (unused_frames st') enough' a.frames pool kit.own_slots.items mid.frames.items coming_are (frames_unused a is) comes.frames in
        omega (arith, all, length_map (λ (e : ℕ × Cell). e.0) (going comes_in es'), coming_long, filled.few.slots)

    pub answered_in : reply.Moved (length mid.frames.items) ≡ answer st' thread c'
    unfolding answer
    answered_in = ap (λ n. reply.Moved n) in_long
