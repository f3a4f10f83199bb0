-- Numbers are given back and taken one by one, for the references of a list.
use Rattle.std.proofs.Common.{◌≡◌, ℕ, ◌+◌, ◌-◌, ◌<◌, ◌≤◌, ◌⊎◌, inl, inr, Bool, true, false, cond, not, List, [], ◌∷◌, ◌++◌, length, reverse, drop, refl, sym, ap, subst, ◌∙◌, arith}
use mathlib.Core.Bool.{true≢false}
use Rattle.std.specs.Prelude.{Option, Some, IsSome, if◌then◌else◌, nat_eq, map, option_map}
use Rattle.std.specs.List.{All, AllByRecursion, filter}
use Rattle.std.specs.Cmp.{nat_eq_equiv}
use Rattle.std.proofs.lemmas.Bool.{cases_eq, cases_lt, eq-eqb, ne_eqb}
use Rattle.std.proofs.lemmas.List.{append-nil, get_or-set_same, get_or-set_other, get_or_past, length-set, length-drop, length-replicate, reverse-append, reverse-reverse}
use Rattle.std.proofs.lemmas.List.Elements.{All-nil, recursion_from_All, All-from_recursion}
use Rattle.corten_base.specs.Body.{PageBody}
use Rattle.corten_base.specs.Bytes.{bytes_after_write, zeros}
use Rattle.counted_pages.specs.Pages.{PageCounts, CountedPage, HasSpare, with_count, with_spare, without_spare}
use Rattle.shares.specs.Counts.{count_of, least_unused}
use Rattle.machine_plan.specs.Agrees.{HasSpareFor}
use Rattle.machine_plan.specs.Kits.{Refs, AreBacked}
use Rattle.machine_plan.specs.Uses.{shown_refs}
use Rattle.book.specs.Balance.{times, AreHeld}
use Rattle.book.specs.Granting.{unused_in, Takes}
use Rattle.book.specs.Moving.{is_sole, paged, pages, Arrives}
use Rattle.book.specs.Pieces.{GivesBack}
use Rattle.book.proofs.Sharing.{times_in_two, times_first}
use Rattle.book.proofs.Taken.{takes_one, one_taken, fewer_left}

abbrev pub Ref : Type 0
Ref = ℕ × CountedPage

abbrev once : ℕ → ℕ → ℕ
once n m = cond (nat_eq m n) 1 0

own_once : (n : ℕ) → ◌≡◌ {A = ℕ} (once n n) 1
own_once n = ap (λ b. cond b 1 0) (nat_eq_equiv.refl n)

append_one : {X : Type 0} (xs ys : List X) (x : X) → (xs ++ x ∷ []) ++ ys ≡ xs ++ x ∷ ys
append_one [] ys x = refl
append_one (y ∷ xs) ys x = ap (λ l. y ∷ l) (append_one xs ys x)

map_push : {X Y : Type 0} (f : X → Y) (xs : List X) (x : X) → map f (xs ++ x ∷ []) ≡ map f xs ++ f x ∷ []
map_push f [] x = refl
map_push f (y ∷ xs) x = ap (λ l. f y ∷ l) (map_push f xs x)

all_push : (P : Ref → Type 0) (xs : Refs) (x : Ref) → All P xs → P x → All P (xs ++ x ∷ [])
all_push P xs x h p = All-from_recursion P (xs ++ x ∷ []) (go xs (recursion_from_All P xs h))
  where
    go : (ys : Refs) → AllByRecursion P ys → AllByRecursion P (ys ++ x ∷ [])
    go [] h = (p, tt)
    go (y ∷ ys) h = (h.0, go ys h.1)

-- the last one of a list that was turned is the next
pub next_turned : (xs left : Refs) (x : Ref) → xs ≡ left ++ x ∷ [] → reverse xs ≡ x ∷ reverse left
next_turned xs left x popped = ap reverse popped ∙ reverse-append left (x ∷ [])

pub turned_twice : (xs first : Refs) → xs ≡ reverse first → reverse xs ≡ first
turned_twice xs first turned = ap reverse turned ∙ reverse-reverse first

pub none_turned : (xs : Refs) → length xs ≡ 0 → reverse xs ≡ []
none_turned [] e = refl
none_turned (x ∷ xs) e = absurd (omega (arith, e))

-- Numbers are taken

pub record Arrived (old now : PageCounts) (refs rest came : Refs) : Type 0 where
  pub takes : Takes old now (pages refs) (pages rest) came
  pub bytes : map paged came ++ map paged rest ≡ map paged refs
  pub own : All (λ r. r.1.body.own ≡ true) came
  pub enough : length rest ≤ length (unused_in now.counts)

pub arrived_so : (old p q : PageCounts) (refs rest left came more : Refs) → Arrived old p refs rest came → q ≡ p → left ≡ rest → more ≡ came → Arrived old q refs left more
arrived_so old p q refs rest left came more arrived same_counts same_left same_refs =
    subst (λ (x : PageCounts × (Refs × Refs)). Arrived old x.0 refs x.1.0 x.1.1) (λ i. (sym same_counts i, (sym same_left i, sym same_refs i))) arrived

pub none_arrived : (p : PageCounts) (refs came : Refs) → came ≡ [] → length refs ≤ length (unused_in p.counts) → Arrived p p refs refs came
none_arrived p refs came none enough = arrived_so p p p refs refs refs [] came (record {
  takes = record {
    granted = refl;
    balance = record { numbers = refl; counts = λ n. omega arith };
    owned = λ n some. refl;
    spares = λ n some had. had;
  };
  bytes = refl;
  own = All-nil (λ r. r.1.body.own ≡ true);
  enough = enough;
}) refl refl none

pub may_take : (old now : PageCounts) (refs rest whole came : Refs) (r : Ref) (result : Option CountedPage) → whole ≡ r ∷ rest → Arrived old now refs whole came → option_map (λ (x : CountedPage). x.number) result ≡ least_unused now.counts → IsSome result
may_take old now refs rest whole came r result more arrived least = one_taken now.counts result least (omega (arith, arrived.enough, ap length more))

pub arrived_more : (old now p : PageCounts) (refs rest whole came grown : Refs) (r : Ref) (page : CountedPage) → whole ≡ r ∷ rest → Arrived old now refs whole came → Some page.number ≡ least_unused now.counts → page.body ≡ record { bytes = r.1.body.bytes; own = true } →
    p ≡ without_spare (with_count now page.number 1) page.number → grown ≡ came ++ (r.0, page) ∷ [] → Arrived old p refs rest grown
arrived_more old now p refs rest whole came grown r page more before least body counts pushed =
    arrived_so old (without_spare (with_count now page.number 1) page.number) p refs rest rest (came ++ (r.0, page) ∷ []) grown (record {
      takes = takes_one old now (pages refs) (pages rest) r.0 came page arrived.takes least;
      bytes =
          ap (λ (l : List (ℕ × List ℕ)). l ++ map paged rest) (map_push paged came (r.0, page))
          ∙ append_one (map paged came) (map paged rest) (r.0, page.body.bytes)
          ∙ ap (λ (b : PageBody). map paged came ++ (r.0, b.bytes) ∷ map paged rest) body
          ∙ arrived.bytes;
      own = all_push (λ x. x.1.body.own ≡ true) came (r.0, page) arrived.own (ap (λ (b : PageBody). b.own) body);
      enough = omega (arith, arrived.enough, fewer_left now.counts page least);
    }) counts refl pushed
  where
    arrived : Arrived old now refs (r ∷ rest) came
    arrived = arrived_so old now now refs whole (r ∷ rest) came came before refl (sym more) refl

pub all_arrived : (old now : PageCounts) (refs rest came : Refs) → Arrived old now refs rest came → rest ≡ [] → Arrives old now refs came
all_arrived old now refs rest came before none =
    let arrived : Arrived old now refs [] came = arrived_so old now now refs rest [] came came before refl (sym none) refl in
    record {
      takes = arrived.takes;
      bytes = sym (append-nil (map paged came)) ∙ arrived.bytes;
      own = arrived.own;
    }

-- Numbers are given back

-- those that are left so far, and the rest
pub record Given (old now : PageCounts) (refs rest left : Refs) : Type 0 where
  pub numbers : length now.counts ≡ length old.counts
  pub counts : (n : ℕ) → count_of now.counts n + times n (shown_refs refs) ≡ count_of old.counts n + times n (shown_refs left) + times n (shown_refs rest)
  pub spares : (n : ℕ) → HasSpare old n → HasSpare now n
  pub held : (n : ℕ) → times n (shown_refs left) + times n (shown_refs rest) ≤ count_of now.counts n
  pub left_backed : AreBacked now left
  pub rest_backed : AreBacked now rest

pub given_so : (old p q : PageCounts) (refs rest rest' left left' : Refs) → Given old p refs rest left → q ≡ p → rest' ≡ rest → left' ≡ left → Given old q refs rest' left'
given_so old p q refs rest rest' left left' given same_counts same_rest same_left =
    subst (λ (x : PageCounts × (Refs × Refs)). Given old x.0 refs x.1.0 x.1.1) (λ i. (sym same_counts i, (sym same_rest i, sym same_left i))) given

pub none_given : (p : PageCounts) (refs left : Refs) → left ≡ [] → AreHeld p (shown_refs refs) → AreBacked p refs → Given p p refs refs left
none_given p refs left none held backed = given_so p p p refs refs refs [] left (record {
  numbers = refl;
  counts = λ n. omega arith;
  spares = λ n had. had;
  held = λ n. omega (arith, held.each n);
  left_backed = All-nil (HasSpareFor' p);
  rest_backed = backed;
}) refl refl none
  where
    HasSpareFor' : PageCounts → Ref → Type 0
    HasSpareFor' counts r = HasSpareFor counts r.1

spare_kept : (p : PageCounts) (n k : ℕ) → HasSpare p k → HasSpare (with_spare p n) k
spare_kept p n k had = go (cases_eq k n)
  where
    inside : k < length p.spares
    inside = past (cases_lt k (length p.spares))
      where
        past : (k < length p.spares) ⊎ (length p.spares ≤ k) → k < length p.spares
        past (inl below) = below
        past (inr above) = absurd (true≢false (sym had ∙ get_or_past p.spares k false above))

    go : (k ≡ n) ⊎ (k ≡ n → ⊥) → HasSpare (with_spare p n) k
    go (inl same) = subst (λ (j : ℕ). HasSpare (with_spare p j) k) same (get_or-set_same p.spares k true false inside)
    go (inr other) = get_or-set_other p.spares n k true false other ∙ had

backed_on : (p q : PageCounts) (refs : Refs) → ((n : ℕ) → HasSpare p n → HasSpare q n) → AreBacked p refs → AreBacked q refs
backed_on p q refs kept backed k d inside shared = kept _ (backed k d inside shared)

module _ (old now : PageCounts) (refs rest whole left : Refs) (r : Ref) (more : whole ≡ r ∷ rest) (before : Given old now refs whole left) where
  abbrev number : ℕ
  number = r.1.number

  given : Given old now refs (r ∷ rest) left
  given = given_so old now now refs whole (r ∷ rest) left left before refl (sym more) refl

  next_backed : HasSpareFor now r.1 × AreBacked now rest
  next_backed =
      let parts = recursion_from_All (λ (x : Ref). HasSpareFor now x.1) (r ∷ rest) given.rest_backed in
      (parts.0, All-from_recursion (λ (x : Ref). HasSpareFor now x.1) rest parts.1)

  pub is_owned : 0 < count_of now.counts number
  is_owned = omega (arith, given.held number, times_first number r rest, own_once number)

  pub has_spare : r.1.body.own ≡ false → HasSpare now number
  has_spare = next_backed.0

  pub one_left : (grown : Refs) → grown ≡ left ++ r ∷ [] → Given old now refs rest grown
  one_left grown pushed = given_so old now now refs rest rest (left ++ r ∷ []) grown (record {
    numbers = given.numbers;
    counts = λ n. omega (arith, given.counts n, times_first n r rest, times_in_two n left (r ∷ []), times_first n r []);
    spares = given.spares;
    held = λ n. omega (arith, given.held n, times_first n r rest, times_in_two n left (r ∷ []), times_first n r []);
    left_backed = all_push (λ (x : Ref). HasSpareFor now x.1) left r given.left_backed next_backed.0;
    rest_backed = next_backed.1;
  }) refl refl pushed

  abbrev next : PageCounts
  next = with_spare (with_count now number (count_of now.counts number - 1)) number

  inside : number < length now.counts
  inside = go (cases_lt number (length now.counts))
    where
      go : (number < length now.counts) ⊎ (length now.counts ≤ number) → number < length now.counts
      go (inl below) = below
      go (inr past) = absurd (omega (arith, is_owned, get_or_past now.counts number 0 past))

  fewer : (n : ℕ) → count_of next.counts n + once n number ≡ count_of now.counts n
  fewer n = go (cases_eq n number)
    where
      go : (n ≡ number) ⊎ (n ≡ number → ⊥) → count_of next.counts n + once n number ≡ count_of now.counts n
      go (inl same) =
          let one : ◌≡◌ {A = ℕ} (once n number) 1 = ap (λ k. once k number) same ∙ own_once number in
          let here : count_of next.counts n ≡ count_of now.counts number - 1 = ap (count_of next.counts) same ∙ get_or-set_same now.counts number (count_of now.counts number - 1) 0 inside in
          let was : count_of now.counts n ≡ count_of now.counts number = ap (count_of now.counts) same in
          omega (arith, one, here, was, is_owned)
      go (inr other) =
          let none : ◌≡◌ {A = ℕ} (once n number) 0 = ap (λ b. cond b 1 0) (ne_eqb number n (λ e. other (sym e))) in
          omega (arith, none, get_or-set_other now.counts number n (count_of now.counts number - 1) 0 other)

  pub one_given : (p : PageCounts) → p ≡ next → Given old p refs rest left
  one_given p same = given_so old next p refs rest rest left left (record {
    numbers = length-set now.counts number (count_of now.counts number - 1) ∙ given.numbers;
    counts = λ n. omega (arith, given.counts n, times_first n r rest, fewer n);
    spares = λ n had. spare_kept now number n (given.spares n had);
    held = λ n. omega (arith, given.held n, times_first n r rest, fewer n);
    left_backed = backed_on now next left (spare_kept now number) given.left_backed;
    rest_backed = backed_on now next rest (spare_kept now number) next_backed.1;
  }) same refl refl

pub all_given : (old now : PageCounts) (refs rest left : Refs) → Given old now refs rest left → rest ≡ [] → GivesBack old now refs left
all_given old now refs rest left before none =
    let given : Given old now refs [] left = given_so old now now refs rest [] left left before refl (sym none) refl in
    record {
      balance = record { numbers = given.numbers; counts = λ n. omega (arith, given.counts n) };
      spares = given.spares;
      held = record { each = λ n. omega (arith, given.held n) };
      backed = given.left_backed;
    }

-- Frames go out

pub record Out (pool0 pool area0 area : PageCounts) (refs rest left came : Refs) : Type 0 where
  pub given : Given pool0 pool refs rest left
  pub same : (n : ℕ) → 1 ≤ count_of pool.counts n → count_of pool.counts n ≡ count_of pool0.counts n
  pub stays : left ++ filter (λ r. not (is_sole pool0 r)) rest ≡ filter (λ r. not (is_sole pool0 r)) refs
  pub arrived : Arrived area0 area (filter (is_sole pool0) refs) (filter (is_sole pool0) rest) came

pub out_so : (pool0 pool pool' area0 area area' : PageCounts) (refs rest rest' left left' came came' : Refs) → Out pool0 pool area0 area refs rest left came → pool' ≡ pool → area' ≡ area → rest' ≡ rest → left' ≡ left → came' ≡ came → Out pool0 pool' area0 area' refs rest' left' came'
out_so pool0 pool pool' area0 area area' refs rest rest' left left' came came' out p a r l c =
    subst (λ (x : (PageCounts × PageCounts) × (Refs × (Refs × Refs))). Out pool0 x.0.0 area0 x.0.1 refs x.1.0 x.1.1.0 x.1.1.1) (λ i. ((sym p i, sym a i), (sym r i, (sym l i, sym c i)))) out

pub none_out : (pool area : PageCounts) (refs rest left came : Refs) → rest ≡ refs → left ≡ [] → came ≡ [] → AreHeld pool (shown_refs refs) → AreBacked pool refs → length (filter (is_sole pool) refs) ≤ length (unused_in area.counts) → Out pool pool area area refs rest left came
none_out pool area refs rest left came whole no_left none held backed enough = out_so pool pool pool area area area refs refs rest [] left came came (record {
  given = none_given pool refs [] refl held backed;
  same = λ n some. refl;
  stays = refl;
  arrived = none_arrived area (filter (is_sole pool) refs) came none enough;
}) refl refl whole no_left refl

module _ (pool0 pool area0 area : PageCounts) (refs rest whole left came : Refs) (r : Ref) (more : whole ≡ r ∷ rest) (before : Out pool0 pool area0 area refs whole left came) where
  abbrev test : Ref → Bool
  test = is_sole pool0

  out : Out pool0 pool area0 area refs (r ∷ rest) left came
  out = out_so pool0 pool pool area0 area area refs whole (r ∷ rest) left left came came before refl refl (sym more) refl refl

  abbrev owners : ℕ
  owners = count_of pool.counts r.1.number

  was : owners ≡ count_of pool0.counts r.1.number
  was = out.same r.1.number (omega (arith, is_owned pool0 pool refs rest (r ∷ rest) left r refl out.given))

  sole : owners ≡ 1 → test r ≡ true
  sole one = eq-eqb _ 1 (sym was ∙ one)

  not_sole : (owners ≡ 1 → ⊥) → test r ≡ false
  not_sole two = ne_eqb _ 1 (λ e. two (was ∙ e))

  goes_first : owners ≡ 1 → filter test (r ∷ rest) ≡ r ∷ filter test rest
  goes_first one = ap (λ b. cond b (r ∷ filter test rest) (filter test rest)) (sole one)

  pub slot_taken : owners ≡ 1 → (result : Option CountedPage) → option_map (λ (x : CountedPage). x.number) result ≡ least_unused area.counts → IsSome result
  slot_taken one result least = may_take area0 area (filter test refs) (filter test rest) (filter test (r ∷ rest)) came r result (goes_first one) out.arrived least

  pub frame_owned : 0 < owners
  frame_owned = is_owned pool0 pool refs rest whole left r more before.given

  pub frame_backed : r.1.body.own ≡ false → HasSpare pool r.1.number
  frame_backed = has_spare pool0 pool refs rest whole left r more before.given

  pub one_out : owners ≡ 1 → (pool' area' : PageCounts) (grown : Refs) (slot : CountedPage) → Some slot.number ≡ least_unused area.counts → slot.body ≡ record { bytes = r.1.body.bytes; own = true } → area' ≡ without_spare (with_count area slot.number 1) slot.number → grown ≡ came ++ (r.0, slot) ∷ [] →
      pool' ≡ with_spare (with_count pool r.1.number (owners - 1)) r.1.number → Out pool0 pool' area0 area' refs rest left grown
  one_out one pool' area' grown slot least body taken pushed back = record {
    given = one_given pool0 pool refs rest (r ∷ rest) left r refl out.given pool' back;
    same = λ n some.
        let here = fewer pool0 pool refs rest (r ∷ rest) left r refl out.given n in
        let now : count_of pool'.counts n ≡ count_of (with_spare (with_count pool r.1.number (owners - 1)) r.1.number).counts n = ap (λ (p : PageCounts). count_of p.counts n) back in
        apart n some here now (cases_eq n r.1.number);
    stays = ap (λ b. left ++ cond (not b) (r ∷ filter (λ x. not (test x)) rest) (filter (λ x. not (test x)) rest)) (sym (sole one)) ∙ out.stays;
    arrived = arrived_more area0 area area' (filter test refs) (filter test rest) (filter test (r ∷ rest)) came grown r slot (goes_first one) out.arrived least body taken pushed;
  }
    where
      apart : (n : ℕ) → 1 ≤ count_of pool'.counts n → count_of (with_spare (with_count pool r.1.number (owners - 1)) r.1.number).counts n + once n r.1.number ≡ count_of pool.counts n →
          count_of pool'.counts n ≡ count_of (with_spare (with_count pool r.1.number (owners - 1)) r.1.number).counts n → (n ≡ r.1.number) ⊎ (n ≡ r.1.number → ⊥) → count_of pool'.counts n ≡ count_of pool0.counts n
      apart n some here now (inl same) =
          let one' : ◌≡◌ {A = ℕ} (once n r.1.number) 1 = ap (λ k. once k r.1.number) same ∙ own_once r.1.number in
          let count : count_of pool.counts n ≡ owners = ap (count_of pool.counts) same in
          absurd (omega (arith, some, here, now, one', count, one))
      apart n some here now (inr other) =
          let none : ◌≡◌ {A = ℕ} (once n r.1.number) 0 = ap (λ b. cond b 1 0) (ne_eqb r.1.number n (λ e. other (sym e))) in
          let still = out.same n (omega (arith, some, here, now, none)) in
          omega (arith, here, now, none, still)

  pub one_stays : (owners ≡ 1 → ⊥) → (grown : Refs) → grown ≡ left ++ r ∷ [] → Out pool0 pool area0 area refs rest grown came
  one_stays two grown pushed = record {
    given = one_left pool0 pool refs rest (r ∷ rest) left r refl out.given grown pushed;
    same = out.same;
    stays = ap (λ (l : Refs). l ++ filter (λ x. not (test x)) rest) pushed ∙ append_one left (filter (λ x. not (test x)) rest) r
        ∙ ap (λ b. left ++ cond (not b) (r ∷ filter (λ x. not (test x)) rest) (filter (λ x. not (test x)) rest)) (sym (not_sole two)) ∙ out.stays;
    arrived = arrived_so area0 area area (filter test refs) (filter test (r ∷ rest)) (filter test rest) came came out.arrived refl (sym (ap (λ b. cond b (r ∷ filter test rest) (filter test rest)) (not_sole two))) refl;
  }

pub all_stay : (pool0 pool area0 area : PageCounts) (refs rest left came : Refs) → Out pool0 pool area0 area refs rest left came → rest ≡ [] → left ≡ filter (λ r. not (is_sole pool0 r)) refs
all_stay pool0 pool area0 area refs rest left came out none =
    sym (append-nil left) ∙ ap (λ (l : Refs). left ++ filter (λ r. not (is_sole pool0 r)) l) (sym none) ∙ out.stays

-- a frame that was taken and written whole
pub record TakenPage (now q : PageCounts) (page : CountedPage) (bytes : List ℕ) : Type 0 where
  pub least : Some page.number ≡ least_unused now.counts
  pub body : page.body ≡ record { bytes = bytes; own = true }
  pub counts : q ≡ without_spare (with_count now page.number 1) page.number

all_written : (old bytes : List ℕ) → length old ≡ 4096 → length bytes ≡ 4096 → bytes_after_write old 0 bytes ≡ bytes
all_written old bytes old_whole whole = ap (λ (l : List ℕ). bytes ++ l) (behind (drop (0 + length bytes) old) (omega (arith, length-drop (0 + length bytes) old, old_whole, whole))) ∙ append-nil bytes
  where
    behind : (l : List ℕ) → length l ≡ 0 → l ≡ []
    behind [] e = refl
    behind (x ∷ l) e = absurd (omega (arith, e))

pub taken_page : (now p q : PageCounts) (frame page : CountedPage) (bytes : List ℕ) → Some frame.number ≡ least_unused now.counts → frame.body ≡ record { bytes = zeros; own = true } → length bytes ≡ 4096 → p ≡ without_spare (with_count now frame.number 1) frame.number →
    page ≡ record frame { body = record { bytes = bytes_after_write frame.body.bytes 0 bytes; own = true } } → q ≡ (if frame.body.own then p else without_spare p frame.number) → TakenPage now q page bytes
unfolding zeros
taken_page now p q frame page bytes least body whole taken written spares =
    let number : page.number ≡ frame.number = ap (λ (x : CountedPage). x.number) written in
    let long : length frame.body.bytes ≡ 4096 = ap (λ (b : PageBody). length b.bytes) body ∙ length-replicate {A = ℕ} 4096 0 in
    record {
      least = ap (λ n. Some n) number ∙ least;
      body = ap (λ (x : CountedPage). x.body) written ∙ ap (λ (l : List ℕ). record { bytes = l; own = true }) (all_written frame.body.bytes bytes long whole);
      counts = spares ∙ ap (λ (b : PageBody). if b.own then p else without_spare p frame.number) body ∙ taken ∙ ap (λ n. without_spare (with_count now n 1) n) (sym number);
    }
