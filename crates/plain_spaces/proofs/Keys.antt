-- The keys of a range from the front, page by page.
use Rattle.std.proofs.Common.{◌≡◌, ℕ, zero, suc, ◌+◌, ◌-◌, ◌<◌, ◌≤◌, Bool, true, false, cond, List, [], ◌∷◌, ◌++◌, append_assoc, length, refl, sym, ap, subst, ◌∙◌, arith}
use Rattle.std.specs.Prelude.{Option, Some, None, IsSome, IfSome, is_some}
use Rattle.std.specs.Ordering.{nat_cmp}
use Rattle.std.specs.Cmp.{unsigned_tied}
use Rattle.std.specs.List.{zip}
use Rattle.std.proofs.lemmas.Bool.{ne_eqb}
use Rattle.std.proofs.lemmas.List.{append-nil, length-append}
use Rattle.std.specs.FinMap.{FinMap, get, find}
use Rattle.page_map.specs.Change.{keys_in, least}
use Rattle.page_map.proofs.Least.{least_passes}
use Rattle.page_map.proofs.Keys.{keys_in_more, chosen}
use Rattle.plain_spaces.proofs.Nexts.{none_before, none_at_all}
use Rattle.plain_spaces.proofs.Plans.{no_keys}

module _ {X : Type 0} (p : X → Bool) (m : FinMap nat_cmp X) where
  one_chosen : (k : ℕ) (o : Option X) → length (chosen p k o) ≤ 1
  unfolding chosen
  one_chosen k None = omega arith
  one_chosen k (Some x) = at_most (p x)
    where
      at_most : (b : Bool) → length (cond b (k ∷ []) []) ≤ 1
      at_most true = omega arith
      at_most false = omega arith

  -- no more than the range has numbers
  pub keys_few : (low n : ℕ) → length (keys_in m low n p) ≤ n
  keys_few low zero = omega (arith, ap length (no_keys p m low))
  keys_few low (suc n) = omega (arith, ap length (keys_in_more p m low n), length-append (keys_in m low n p) (chosen p (low + n) (get m (low + n))), keys_few low n, one_chosen (low + n) (get m (low + n)))

  -- the first key of a range
  pub keys_front : (low n : ℕ) → keys_in m low (suc n) p ≡ chosen p low (get m low) ++ keys_in m (low + 1) n p
  keys_front low zero =
      keys_in_more p m low 0
      ∙ (λ i. no_keys p m low i ++ chosen p (same low i) (get m (same low i)))
      ∙ sym (append-nil (chosen p low (get m low)))
      ∙ ap (λ l. chosen p low (get m low) ++ l) (sym (no_keys p m (low + 1)))
    where
      same : (a : ℕ) → a + 0 ≡ a
      same a = omega arith
  keys_front low (suc n) =
      keys_in_more p m low (suc n)
      ∙ ap (λ l. l ++ chosen p (low + suc n) (get m (low + suc n))) (keys_front low n)
      ∙ append_assoc (chosen p low (get m low)) (keys_in m (low + 1) n p) (chosen p (low + suc n) (get m (low + suc n)))
      ∙ ap (λ l. chosen p low (get m low) ++ l)
      ((λ i. keys_in m (low + 1) n p ++ chosen p (next low n i) (get m (next low n i))) ∙ sym (keys_in_more p m (low + 1) n))
    where
      next : (a b : ℕ) → a + suc b ≡ a + 1 + b
      next a b = omega arith

  none_chosen : (q : ℕ) (o : Option X) → IfSome o (λ x. p x ≡ false) → chosen p q o ≡ []
  unfolding chosen
  none_chosen q None quiet = refl
  none_chosen q (Some x) quiet = ap (λ b. cond b (q ∷ []) []) quiet

  -- no key of the first k
  keys_skip : (low k n : ℕ) → ((q : ℕ) → low ≤ q → q < low + k → IfSome (get m q) (λ x. p x ≡ false)) → keys_in m low (k + n) p ≡ keys_in m (low + k) n p
  keys_skip low zero n quiet = (λ i. keys_in m (sym (same low) i) (nothing n i) p)
    where
      same : (a : ℕ) → a + 0 ≡ a
      same a = omega arith

      nothing : (a : ℕ) → 0 + a ≡ a
      nothing a = omega arith
  keys_skip low (suc k) n quiet =
      ap (λ j. keys_in m low j p) (one k n)
      ∙ keys_front low (k + n)
      ∙ ap (λ l. l ++ keys_in m (low + 1) (k + n) p) (none_chosen low (get m low) (quiet low (omega arith) (omega arith)))
      ∙ keys_skip (low + 1) k n (λ q a b. quiet q (omega (arith, a)) (omega (arith, b)))
      ∙ ap (λ j. keys_in m j n p) (next low k)
    where
      one : (a b : ℕ) → suc a + b ≡ suc (a + b)
      one a b = omega arith

      next : (a b : ℕ) → a + 1 + b ≡ a + suc b
      next a b = omega arith

  -- up to a page before which none passes
  pub keys_past : (next page end : ℕ) → next ≤ page → page ≤ end → ((q : ℕ) → next ≤ q → q < page → IfSome (get m q) (λ x. p x ≡ false)) → keys_in m next (end - next) p ≡ keys_in m page (end - page) p
  keys_past next page end low high quiet =
      let gap : end - next ≡ (page - next) + (end - page) = omega arith in
      let at : next + (page - next) ≡ page = omega arith in
      ap (λ j. keys_in m next j p) gap ∙ keys_skip next (page - next) (end - page) (λ q a b. quiet q a (omega (arith, b, at)))
      ∙ ap (λ j. keys_in m j (end - page) p) at

  -- up to the next page
  pub keys_next : (next page end : ℕ) → next ≤ page → page ≤ end → ((q : ℕ) → next ≤ q → q < page → get m q ≡ None) → keys_in m next (end - next) p ≡ keys_in m page (end - page) p
  keys_next next page end low high none = keys_past next page end low high (λ q a b. subst (λ o. IfSome o (λ x. p x ≡ false)) (sym (none q a b)) tt)

  -- a page that has a cell
  pub keys_here : (page end : ℕ) (x : X) → page < end → get m page ≡ Some x →
      keys_in m page (end - page) p ≡ cond (p x) (page ∷ keys_in m (page + 1) (end - (page + 1)) p) (keys_in m (page + 1) (end - (page + 1)) p)
  unfolding chosen
  keys_here page end x high here =
      let count : end - page ≡ suc (end - (page + 1)) = omega arith in
      ap (λ j. keys_in m page j p) count ∙ keys_front page (end - (page + 1)) ∙ ap (λ o. chosen p page o ++ keys_in m (page + 1) (end - (page + 1)) p) here ∙ go (p x)
    where
      go : (b : Bool) → cond b (page ∷ []) [] ++ keys_in m (page + 1) (end - (page + 1)) p ≡ cond b (page ∷ keys_in m (page + 1) (end - (page + 1)) p) (keys_in m (page + 1) (end - (page + 1)) p)
      go true = refl
      go false = refl

  -- no page is left
  pub keys_gone : (next end : ℕ) → next ≤ end → ((q : ℕ) → next ≤ q → q < end → IfSome (get m q) (λ x. p x ≡ false)) → keys_in m next (end - next) p ≡ []
  keys_gone next end low quiet =
      let nothing : end - end ≡ 0 = omega arith in
      keys_past next end end low (omega arith) quiet ∙ ap (λ j. keys_in m end j p) nothing ∙ no_keys p m end

  pub keys_none : (next end : ℕ) → next ≤ end → ((q : ℕ) → next ≤ q → q < end → get m q ≡ None) → keys_in m next (end - next) p ≡ []
  keys_none next end low none = keys_gone next end low (λ q a b. subst (λ o. IfSome o (λ x. p x ≡ false)) (sym (none q a b)) tt)

  -- a page before the range is none of its keys
  pub key_before : (low n q : ℕ) (numbers : List ℕ) → q < low → find nat_cmp q (zip (keys_in m low n p) numbers) ≡ None
  unfolding chosen
  key_before low zero q numbers below = ap (λ l. find nat_cmp q (zip l numbers)) (no_keys p m low) ∙ none numbers
    where
      none : (numbers : List ℕ) → find nat_cmp q (zip [] numbers) ≡ None
      none [] = refl
      none (k ∷ ks) = refl
  key_before low (suc n) q numbers below = ap (λ l. find nat_cmp q (zip l numbers)) (keys_front low n) ∙ go (λ ks. key_before (low + 1) n q ks (omega (arith, below))) (get m low)
    where
      chosen_at : ((ks : List ℕ) → find nat_cmp q (zip (keys_in m (low + 1) n p) ks) ≡ None) → (b : Bool) (numbers : List ℕ) →
          find nat_cmp q (zip (cond b (low ∷ []) [] ++ keys_in m (low + 1) n p) numbers) ≡ None
      chosen_at rest false numbers = rest numbers
      chosen_at rest true [] = refl
      chosen_at rest true (k ∷ ks) =
          ap (λ b. cond b (Some k) (find nat_cmp q (zip (keys_in m (low + 1) n p) ks))) (unsigned_tied q low ∙ ne_eqb q low (λ e. omega (arith, e, below)))
          ∙ rest ks

      go : ((ks : List ℕ) → find nat_cmp q (zip (keys_in m (low + 1) n p) ks) ≡ None) → (o : Option X) → find nat_cmp q (zip (chosen p low o ++ keys_in m (low + 1) n p) numbers) ≡ None
      go rest None = rest numbers
      go rest (Some x) = chosen_at rest (p x) numbers

-- the keys of two maps, where the maps have the same pages of the range and both tests say the same of them
module _ {X : Type 0} (p q : X → Bool) (m n : FinMap nat_cmp X) where
  pub keys_alike : (low count : ℕ) → ((k : ℕ) → low ≤ k → k < low + count → get n k ≡ get m k) → ((k : ℕ) (x : X) → low ≤ k → k < low + count → get m k ≡ Some x → q x ≡ p x) → keys_in n low count q ≡ keys_in m low count p
  unfolding chosen
  keys_alike low zero same tests = no_keys q n low ∙ sym (no_keys p m low)
  keys_alike low (suc count) same tests =
      keys_in_more q n low count
      ∙ (λ i. keys_alike low count (λ k a b. same k a (omega (arith, b))) (λ k x a b. tests k x a (omega (arith, b))) i ++ go (get m (low + count)) refl i)
      ∙ sym (keys_in_more p m low count)
    where
      at : get n (low + count) ≡ get m (low + count)
      at = same (low + count) (omega arith) (omega arith)

      go : (o : Option X) → get m (low + count) ≡ o → chosen q (low + count) (get n (low + count)) ≡ chosen p (low + count) (get m (low + count))
      go None e = (λ i. chosen q (low + count) ((at ∙ e) i)) ∙ sym (ap (chosen p (low + count)) e)
      go (Some x) e = (λ i. chosen q (low + count) ((at ∙ e) i)) ∙ ap (λ b. cond b ((low + count) ∷ []) []) (tests (low + count) x (omega arith) (omega arith) e) ∙ sym (ap (chosen p (low + count)) e)

-- the next page with a cell
pub record IsNext {X : Type 0} (m : FinMap nat_cmp X) (next end page : ℕ) : Type 0 where
  pub low : next ≤ page
  pub high : page < end
  pub before : (q : ℕ) → next ≤ q → q < page → get m q ≡ None
  pub there : IsSome (get m page)

pub is_next : {X : Type 0} (m : FinMap nat_cmp X) (next end page : ℕ) → next ≤ end → Some page ≡ least next (end - next) (λ q. is_some (get m q)) → IsNext m next end page
is_next m next end page room e =
    let at = least_passes next (end - next) (λ q. is_some (get m q)) page (sym e) in
    record { low = at.0; high = omega (arith, at.1, at.0, room); before = λ q a b. none_before m next (end - next) page (sym e) q a b; there = at.2 }

pub no_next : {X : Type 0} (m : FinMap nat_cmp X) (next end : ℕ) → None ≡ least next (end - next) (λ q. is_some (get m q)) → (q : ℕ) → next ≤ q → q < end → get m q ≡ None
no_next m next end e q a b = none_at_all m next (end - next) (sym e) q a (omega (arith, a, b))
