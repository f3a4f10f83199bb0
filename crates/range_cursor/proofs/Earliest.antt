-- The answer at the least number of a range that has one.
--     found      a number answers, and none before it does
--     nothing      none answers
--     user_small      a user page has a small number
--     users      where no page is outside the user pages, each is one
use Rattle.std.specs.Prelude.{◌≡◌, ℕ, zero, suc, ◌+◌, ◌-◌, ◌*◌, ◌^◌, ◌<◌, ◌≤◌, Bool, true, false, not, cond, Option, Some, None}
use Rattle.std.proofs.Common.{pow_mono, sym, refl, ◌∙◌, ap, arith, inl, inr}
use Rattle.std.specs.Option.{option_map}
use Rattle.std.proofs.lemmas.Bool.{cases_eq}
use Rattle.page_map.specs.Change.{earliest}
use Rattle.page_map.specs.Access.{Access, first_page, page_count, outside_user_pages}
use Rattle.page_map.proofs.Least.{unanswered}
use Rattle.table_place.specs.Place.{is_user_page}
use Rattle.table_place.proofs.Spans.{user_end}
use Rattle.corten_base.specs.declared.calls.Reply.TheVariants as reply

module _ {B : Type 0} (answer : ℕ → Option B) where
  here : (first n : ℕ) (b : B) → answer first ≡ Some b → earliest first (suc n) answer ≡ Some b
  unfolding earliest
  here first n b is = go (answer first) is
    where
      go : (o : Option B) → o ≡ Some b → ◌≡◌ {A = Option B} (elim o [ Some c ↦ Some c | None ↦ earliest (first + 1) n answer ]) (Some b)
      go (Some c) e = e
      go None e = absurd (cc e)

  later : (first n : ℕ) → answer first ≡ None → earliest first (suc n) answer ≡ earliest (first + 1) n answer
  unfolding earliest
  later first n is = go (answer first) is
    where
      go : (o : Option B) → o ≡ None → ◌≡◌ {A = Option B} (elim o [ Some c ↦ Some c | None ↦ earliest (first + 1) n answer ]) (earliest (first + 1) n answer)
      go (Some c) e = absurd (cc e)
      go None e = refl

  none_there : (first : ℕ) → earliest first zero answer ≡ None
  unfolding earliest
  none_there first = refl

  pub found : (first n m : ℕ) (b : B) → first ≤ m → m < first + n → ((q : ℕ) → first ≤ q → q < m → answer q ≡ None) → answer m ≡ Some b → earliest first n answer ≡ Some b
  found first zero m b low high before is = absurd (omega (arith, low, high))
  found first (suc n) m b low high before is = elim (cases_eq m first) [
    | inl e ↦ here first n b (ap answer (sym e) ∙ is)
    | inr other ↦ later first n (before first (omega arith) (less first m low other)) ∙ found (first + 1) n m b (above first m low other) (omega (arith, high)) (λ q l h. before q (omega (arith, l)) h) is
  ]
    where
      less : (first m : ℕ) → first ≤ m → (m ≡ first → ⊥) → first < m
      less first m low other = omega arith

      above : (first m : ℕ) → first ≤ m → (m ≡ first → ⊥) → first + 1 ≤ m
      above first m low other = omega arith

  pub nothing : (first n : ℕ) → ((q : ℕ) → first ≤ q → q < first + n → answer q ≡ None) → earliest first n answer ≡ None
  nothing first zero none = none_there first
  nothing first (suc n) none = later first n (none first (omega arith) (omega arith)) ∙ nothing (first + 1) n (λ q l h. none q (omega (arith, l)) (omega (arith, h)))

pub user_small : (L page : ℕ) → L ≤ 5 → is_user_page L page ≡ true → page + 1 < 2 ^ 44
user_small L page few user = omega (arith, user_end L page 1 user, pow_mono (less L few))
  where
    less : (n : ℕ) → n ≤ 5 → 9 * n - 1 ≤ 44
    less n h = omega (arith, h)

module _ (L : ℕ) (a : Access) where
  test : ℕ → Option ℕ
  test n = cond (not (is_user_page L n)) (Some n) None

  pub outside_at : (m : ℕ) → first_page a ≤ m → m < first_page a + page_count a → ((q : ℕ) → first_page a ≤ q → q < m → is_user_page L q ≡ true) → is_user_page L m ≡ false
      → outside_user_pages L a ≡ Some (reply.Segv (4096 * m))
  outside_at m low high before is =
      ap (option_map (λ page. reply.Segv (4096 * page)))
      (found (λ n. cond (not (is_user_page L n)) (Some n) None) (first_page a) (page_count a) m m low high (λ q l h. ap (λ b. cond (not b) (Some q) None) (before q l h)) (ap (λ b. cond (not b) (Some m) None) is))

  pub none_outside : ((q : ℕ) → first_page a ≤ q → q < first_page a + page_count a → is_user_page L q ≡ true) → outside_user_pages L a ≡ None
  none_outside each =
      ap (option_map (λ page. reply.Segv (4096 * page)))
      (nothing (λ n. cond (not (is_user_page L n)) (Some n) None) (first_page a) (page_count a) (λ q l h. ap (λ b. cond (not b) (Some q) None) (each q l h)))

  pub users : outside_user_pages L a ≡ None → (q : ℕ) → first_page a ≤ q → q < first_page a + page_count a → is_user_page L q ≡ true
  users e q low high = go (is_user_page L q) refl (unanswered (λ n. cond (not (is_user_page L n)) (Some n) None) (first_page a) (page_count a) (drop_map _ e) q low high)
    where
      drop_map : (o : Option ℕ) → option_map (λ page. reply.Segv (4096 * page)) o ≡ None → o ≡ None
      drop_map None e = refl
      drop_map (Some n) e = absurd (cc e)

      go : (b : Bool) → is_user_page L q ≡ b → cond (not b) (Some q) None ≡ None → is_user_page L q ≡ true
      go true is e = is
      go false is e = absurd (cc e)
