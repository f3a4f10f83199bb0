-- Counts of owners that follow cells through several changes.
use Rattle.std.proofs.Common.{◌≡◌, ℕ, zero, suc, ◌+◌, Bool, true, false, cond, List, refl, sym, ap, ◌∙◌, arith}
use Rattle.std.specs.Prelude.{Option, Some, None, nat_eq}
use Rattle.std.specs.Option.{option_map, option_map_or}
use Rattle.std.specs.Cmp.{nat_cmp_total, unsigned_tied}
use Rattle.std.proofs.lemmas.Bool.{eqb-true}
use Rattle.std.specs.FinMap as fin
use Rattle.std.specs.FinMap.{get, get-insert, get-remove, same_map, nat_cmp-IsAntisymmetric}
use Rattle.corten_base.specs.declared.permissions.Perm.{Perm}
use Rattle.table_place.specs.Range.{within}
use Rattle.page_map.specs.declared.cell.Cell.{Cell}
use Rattle.page_map.specs.declared.cell.Cell.TheVariants.{Anon, File, Mapped, Swapped}
use Rattle.page_map.specs.Cell.{frame_of, slot_of, with_perm}
use Rattle.page_map.specs.Change.{change, set_at}
use Rattle.page_map.proofs.Range.{change_more, change_none, get-change, inside}
use Rattle.page_map.specs.State.{AddressSpace, carries}
use Rattle.page_map.proofs.Weights.{weight_insert}
use Rattle.plain_counts.specs.declared.counts.Counts.{Counts}
use Rattle.plain_counts.specs.Counts.{carried, one_at, AreCounted, IsCounted, Follows, Follow}
use Rattle.plain_spaces.proofs.Moves.{counts_once}

module _ (number_of : Cell → Option ℕ) where
  followed : (counts : List ℕ) (cells : AddressSpace) → Follows number_of counts counts cells cells
  followed counts cells = record { numbers = refl; counts = λ n. omega arith }

  follow_on : (a b c : List ℕ) (x y z : AddressSpace) → Follows number_of a b x y → Follows number_of b c y z → Follows number_of a c x z
  follow_on a b c x y z f g = record { numbers = g.numbers ∙ f.numbers; counts = λ n. omega (arith, f.counts n, g.counts n) }

  -- and stay no fewer than the cells
  still_counted : (a b : List ℕ) (x y : AddressSpace) → IsCounted number_of a x → Follows number_of a b x y → IsCounted number_of b y
  still_counted a b x y ok f = record { each = λ n. omega (arith, ok.each n, f.counts n) }

put_in_again : (m : AddressSpace) (k : ℕ) (x : Cell) → get m k ≡ Some x → fin.insert (fin.remove m k) k x ≡ m
put_in_again m k x h = same_map nat_cmp_total nat_cmp-IsAntisymmetric _ _ (λ q.
    get-insert nat_cmp_total (fin.remove m k) k x q ∙ ap (λ b. cond b (Some x) (get (fin.remove m k) q)) (unsigned_tied q k) ∙ go q (nat_eq q k) refl)
  where
    go : (q : ℕ) (b : Bool) → nat_eq q k ≡ b → cond b (Some x) (get (fin.remove m k) q) ≡ get m q
    go q true e = sym h ∙ ap (get m) (sym (eqb-true q k e))
    go q false e = get-remove nat_cmp_total m k q ∙ ap (λ b. cond b None (get m q)) (unsigned_tied q k ∙ e)

-- how many cells carry a number, once one of them is gone
pub carried_remove : (number_of : Cell → Option ℕ) (n : ℕ) (cells : AddressSpace) (page : ℕ) (old : Cell) → get cells page ≡ Some old →
    carried number_of n (fin.remove cells page) + one_at (number_of old) n ≡ carried number_of n cells
carried_remove number_of n cells page old h =
    let w : Cell → ℕ = λ c. cond (carries number_of n c) 1 0 in
    let sums = weight_insert nat_cmp_total w (fin.remove cells page) page old in
    let gone : option_map_or w (get (fin.remove cells page) page) 0 ≡ 0 =
    ap (λ o. option_map_or w o 0) (get-remove nat_cmp_total cells page page ∙ ap (λ b. cond b None (get cells page)) (unsigned_tied page page ∙ same page)) in
    let back : carried number_of n (fin.insert (fin.remove cells page) page old) ≡ carried number_of n cells = ap (carried number_of n) (put_in_again cells page old h) in
    omega (arith, sums, gone, back, counts_once number_of n old)
  where
    same : (k : ℕ) → nat_eq k k ≡ true
    same k = grind arith

-- a page without a cell loses none
pub removed_none : (m : AddressSpace) (k : ℕ) → get m k ≡ None → fin.remove m k ≡ m
removed_none m k h = same_map nat_cmp_total nat_cmp-IsAntisymmetric _ _ (λ q. get-remove nat_cmp_total m k q ∙ ap (λ b. cond b None (get m q)) (unsigned_tied q k) ∙ go q (nat_eq q k) refl)
  where
    go : (q : ℕ) (b : Bool) → nat_eq q k ≡ b → cond b None (get m q) ≡ get m q
    go q true e = sym h ∙ ap (get m) (sym (eqb-true q k e))
    go q false e = refl

abbrev pub carried_at : (Cell → Option ℕ) → Option Cell → ℕ → ℕ
carried_at number_of o n = option_map_or (λ c. one_at (number_of c) n) o 0

module _ (number_of : Cell → Option ℕ) (n : ℕ) where
  weight : Option Cell → ℕ
  weight o = option_map_or (λ c. cond (carries number_of n c) 1 0) o 0

  weight_is : (o : Option Cell) → weight o ≡ carried_at number_of o n
  unfolding weight
  weight_is None = refl
  weight_is (Some c) = counts_once number_of n c

  -- how many cells carry a number, once one page has changed
  pub carried_set_at : (m : AddressSpace) (k : ℕ) (o : Option Cell) → carried number_of n (set_at m k o) + carried_at number_of (get m k) n ≡ carried number_of n m + carried_at number_of o n
  unfolding weight
  carried_set_at m k (Some c) =
      let w : Cell → ℕ = λ c. cond (carries number_of n c) 1 0 in
      omega (arith, weight_insert nat_cmp_total w m k c, weight_is (get m k), weight_is (Some c))
  carried_set_at m k None = go (get m k) refl
    where
      go : (o : Option Cell) → get m k ≡ o → carried number_of n (fin.remove m k) + carried_at number_of o n ≡ carried number_of n m + 0
      go None e = ap (λ m. carried number_of n m + 0) (removed_none m k e)
      go (Some old) e = omega (arith, carried_remove number_of n m k old e)

  -- cells that change, and carry the same numbers
  pub same_carried : (m : AddressSpace) (first : ℕ) (new : ℕ → Option Cell → Option Cell) → ((q : ℕ) (o : Option Cell) → carried_at number_of (new q o) n ≡ carried_at number_of o n) →
      (count : ℕ) → carried number_of n (change m first count new) ≡ carried number_of n m
  same_carried m first new same zero = ap (carried number_of n) (change_none m first new)
  same_carried m first new same (suc k) =
      let so_far = change m first k new in
      let here : get so_far (first + k) ≡ get m (first + k) = get-change m first k new (first + k) ∙ past (within first k (first + k)) refl in
      let sums = carried_set_at so_far (first + k) (new (first + k) (get m (first + k))) in
      let more : carried number_of n (change m first (suc k) new) ≡ carried number_of n (set_at so_far (first + k) (new (first + k) (get m (first + k)))) = ap (carried number_of n) (change_more m first k new) in
      omega (arith, sums, more, ap (λ o. carried_at number_of o n) here, same (first + k) (get m (first + k)), same_carried m first new same k)
    where
      past : (b : Bool) → within first k (first + k) ≡ b → cond b (new (first + k) (get m (first + k))) (get m (first + k)) ≡ get m (first + k)
      past false e = refl
      past true e = absurd (omega (arith, (inside first k (first + k) e).1))

-- and the counts stay
counts_stay : (number_of : Cell → Option ℕ) (counts : List ℕ) (m : AddressSpace) (first count : ℕ) (new : ℕ → Option Cell → Option Cell) →
    ((n q : ℕ) (o : Option Cell) → carried_at number_of (new q o) n ≡ carried_at number_of o n) → Follows number_of counts counts m (change m first count new)
counts_stay number_of counts m first count new same = record { numbers = refl; counts = λ n. omega (arith, same_carried number_of n m first new (same n) count) }

-- other permissions change no number
protected_stay : (counts : List ℕ) (m : AddressSpace) (first count : ℕ) (perm : Perm) → Follows frame_of counts counts m (change m first count (λ _. option_map (with_perm perm)))
protected_stay counts m first count perm = counts_stay frame_of counts m first count _ (λ n q o. go n o)
  where
    go : (n : ℕ) (o : Option Cell) → carried_at frame_of (option_map (with_perm perm) o) n ≡ carried_at frame_of o n
    go n None = refl
    go n (Some (Anon p)) = refl
    go n (Some (File p file index)) = refl
    go n (Some (Mapped p came frame bytes)) = refl
    go n (Some (Swapped p came slot bytes)) = refl

protected_slots_stay : (counts : List ℕ) (m : AddressSpace) (first count : ℕ) (perm : Perm) → Follows slot_of counts counts m (change m first count (λ _. option_map (with_perm perm)))
protected_slots_stay counts m first count perm = counts_stay slot_of counts m first count _ (λ n q o. go n o)
  where
    go : (n : ℕ) (o : Option Cell) → carried_at slot_of (option_map (with_perm perm) o) n ≡ carried_at slot_of o n
    go n None = refl
    go n (Some (Anon p)) = refl
    go n (Some (File p file index)) = refl
    go n (Some (Mapped p came frame bytes)) = refl
    go n (Some (Swapped p came slot bytes)) = refl

-- the same of both kinds
pub all_followed : (counts : Counts) (cells : AddressSpace) → Follow counts counts cells cells
all_followed counts cells = record { frames = followed frame_of counts.frames cells; slots = followed slot_of counts.slots cells }

pub all_follow_on : (a b c : Counts) (x y z : AddressSpace) → Follow a b x y → Follow b c y z → Follow a c x z
all_follow_on a b c x y z f g = record {
  frames = follow_on frame_of a.frames b.frames c.frames x y z f.frames g.frames;
  slots = follow_on slot_of a.slots b.slots c.slots x y z f.slots g.slots;
}

pub all_still_counted : (a b : Counts) (x y : AddressSpace) → AreCounted a x → Follow a b x y → AreCounted b y
all_still_counted a b x y ok f = record {
  frames = still_counted frame_of a.frames b.frames x y ok.frames f.frames;
  slots = still_counted slot_of a.slots b.slots x y ok.slots f.slots;
}

pub all_protected : (counts : Counts) (m : AddressSpace) (first count : ℕ) (perm : Perm) → Follow counts counts m (change m first count (λ _. option_map (with_perm perm)))
all_protected counts m first count perm = record { frames = protected_stay counts.frames m first count perm; slots = protected_slots_stay counts.slots m first count perm }
