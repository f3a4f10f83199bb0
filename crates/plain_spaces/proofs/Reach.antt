-- The pages of an access: one, or two that follow one another.
use Rattle.std.proofs.Common.{◌≡◌, ℕ, suc, ◌+◌, ◌*◌, ◌<◌, ◌≤◌, Bool, true, false, cond, not, refl, sym, ap, ◌∙◌, arith}
use Rattle.std.specs.Prelude.{Option, Some, None}
use Rattle.std.specs.Option.{option_map, option_or}
use mathlib.Core.Logic.{◌⊎◌, inl, inr}
use Rattle.std.proofs.lemmas.Bool.{cases_eq, le-leb, lt-ltb, and_from}
use Rattle.corten_base.specs.Bytes as body
use Rattle.corten_base.specs.declared.calls.Reply.TheVariants as reply
use Rattle.table_place.specs.Place.{is_user_page}
use Rattle.table_place.specs.Range.{within}
use Rattle.page_map.specs.Change.{earliest}
use Rattle.page_map.specs.Cell.{zeros}
use Rattle.page_map.specs.Access.{Access, first_page, page_count, outside_user_pages}
use Rattle.plain_spaces.specs.Reach.{last_page}

-- the answer of the first number of a range, or else those of the others
earliest_more : {B : Type 0} (first n : ℕ) (answer : ℕ → Option B) → earliest first (suc n) answer ≡ option_or (answer first) (earliest (first + 1) n answer)
unfolding earliest
earliest_more {B = B} first n answer = go (answer first)
  where
    go : (o : Option B) → ◌≡◌ {A = Option B} (elim o [ Some b ↦ Some b | None ↦ earliest (first + 1) n answer ]) (option_or o (earliest (first + 1) n answer))
    go None = refl
    go (Some b) = refl

or_none : {B : Type 0} (o : Option B) → option_or o None ≡ o
or_none None = refl
or_none (Some b) = refl

earliest_none : {B : Type 0} (first : ℕ) (answer : ℕ → Option B) → earliest first 0 answer ≡ None
unfolding earliest
earliest_none first answer = refl

pub earliest_one : {B : Type 0} (first : ℕ) (answer : ℕ → Option B) → earliest first 1 answer ≡ answer first
earliest_one first answer = earliest_more first 0 answer ∙ ap (option_or (answer first)) (earliest_none (first + 1) answer) ∙ or_none (answer first)

pub earliest_two : {B : Type 0} (first : ℕ) (answer : ℕ → Option B) → earliest first 2 answer ≡ option_or (answer first) (answer (first + 1))
earliest_two first answer = earliest_more first 1 answer ∙ ap (option_or (answer first)) (earliest_one (first + 1) answer)

module _ (a : Access) (some : 0 < a.len) (few : a.len ≤ 4096) where
  -- the last page is the first, or the next
  pub one_or_two : ((last_page a ≡ first_page a) × (page_count a ≡ 1)) ⊎ ((last_page a ≡ first_page a + 1) × (page_count a ≡ 2))
  one_or_two = go (cases_eq (last_page a) (first_page a))
    where
      go : (last_page a ≡ first_page a) ⊎ (last_page a ≡ first_page a → ⊥) → ((last_page a ≡ first_page a) × (page_count a ≡ 1)) ⊎ ((last_page a ≡ first_page a + 1) × (page_count a ≡ 2))
      go (inl e) = inl (e, omega (arith, e))
      go (inr apart) = let next : last_page a ≡ first_page a + 1 = omega arith in inr (next, omega (arith, next))

  pub here_first : within (first_page a) (page_count a) (first_page a) ≡ true
  here_first = and_from _ _ (le-leb (first_page a) (first_page a) (omega arith)) (lt-ltb (first_page a) (first_page a + page_count a) (go one_or_two))
    where
      go : ((last_page a ≡ first_page a) × (page_count a ≡ 1)) ⊎ ((last_page a ≡ first_page a + 1) × (page_count a ≡ 2)) → first_page a < first_page a + page_count a
      go (inl e) = omega (arith, e.1)
      go (inr e) = omega (arith, e.1)

  pub here_last : within (first_page a) (page_count a) (last_page a) ≡ true
  here_last = go one_or_two
    where
      go : ((last_page a ≡ first_page a) × (page_count a ≡ 1)) ⊎ ((last_page a ≡ first_page a + 1) × (page_count a ≡ 2)) → within (first_page a) (page_count a) (last_page a) ≡ true
      go (inl e) = and_from _ _ (le-leb (first_page a) (last_page a) (omega (arith, e.0))) (lt-ltb (last_page a) (first_page a + page_count a) (omega (arith, e.0, e.1)))
      go (inr e) = and_from _ _ (le-leb (first_page a) (last_page a) (omega (arith, e.0))) (lt-ltb (last_page a) (first_page a + page_count a) (omega (arith, e.0, e.1)))

  abbrev not_user : ℕ → ℕ → Option ℕ
  not_user levels page = cond (not (is_user_page levels page)) (Some page) None

  pub outside_first : (levels : ℕ) → is_user_page levels (first_page a) ≡ false → outside_user_pages levels a ≡ Some (reply.Segv (4096 * first_page a))
  outside_first levels h = go one_or_two
    where
      go : ((last_page a ≡ first_page a) × (page_count a ≡ 1)) ⊎ ((last_page a ≡ first_page a + 1) × (page_count a ≡ 2)) → outside_user_pages levels a ≡ Some (reply.Segv (4096 * first_page a))
      go (inl e) = ap (λ n. option_map (λ page. reply.Segv (4096 * page)) (earliest (first_page a) n (not_user levels))) e.1
          ∙ ap (option_map (λ page. reply.Segv (4096 * page))) (earliest_one (first_page a) (not_user levels) ∙ ap (λ b. cond (not b) (Some (first_page a)) None) h)
      go (inr e) = ap (λ n. option_map (λ page. reply.Segv (4096 * page)) (earliest (first_page a) n (not_user levels))) e.1
          ∙ ap (option_map (λ page. reply.Segv (4096 * page))) (earliest_two (first_page a) (not_user levels) ∙ ap (λ b. option_or (cond (not b) (Some (first_page a)) None) (not_user levels (first_page a + 1))) h)

  pub outside_last : (levels : ℕ) → is_user_page levels (first_page a) ≡ true → (b : Bool) → is_user_page levels (last_page a) ≡ b → outside_user_pages levels a ≡ cond b None (Some (reply.Segv (4096 * last_page a)))
  outside_last levels h b l = go one_or_two
    where
      answer : (b : Bool) (page : ℕ) → option_map (λ page. reply.Segv (4096 * page)) (cond (not b) (Some page) None) ≡ cond b None (Some (reply.Segv (4096 * page)))
      answer true page = refl
      answer false page = refl

      go : ((last_page a ≡ first_page a) × (page_count a ≡ 1)) ⊎ ((last_page a ≡ first_page a + 1) × (page_count a ≡ 2)) → outside_user_pages levels a ≡ cond b None (Some (reply.Segv (4096 * last_page a)))
      go (inl e) =
          ap (λ n. option_map (λ page. reply.Segv (4096 * page)) (earliest (first_page a) n (not_user levels))) e.1
          ∙ ap (option_map (λ page. reply.Segv (4096 * page))) (earliest_one (first_page a) (not_user levels) ∙ ap (not_user levels) (sym e.0) ∙ ap (λ b. cond (not b) (Some (last_page a)) None) l)
          ∙ answer b (last_page a)
      go (inr e) =
          ap (λ n. option_map (λ page. reply.Segv (4096 * page)) (earliest (first_page a) n (not_user levels))) e.1
          ∙ ap (option_map (λ page. reply.Segv (4096 * page))) (earliest_two (first_page a) (not_user levels) ∙ (λ i. option_or (cond (not (h i)) (Some (first_page a)) None) (not_user levels (sym e.0 i))) ∙ ap (λ b. cond (not b) (Some (last_page a)) None) l)
          ∙ answer b (last_page a)

-- the zeros of a new page body are those of the definitions
pub same_zeros : body.zeros ≡ zeros
unfolding body.zeros zeros
same_zeros = refl
