use Rattle.std.specs.Prelude.{◌≡◌, ℕ, ◌+◌, ◌*◌, ◌-◌, ◌^◌, ◌≤◌, ◌<◌, true}
use Rattle.std.proofs.Common.{sym, ◌∙◌, ap, subst, arith, inl, inr}
use Rattle.std.proofs.lemmas.Bool.{cases_lt, cases_eq}
use Rattle.page_map.specs.Access.{first_page}
use Rattle.table_place.specs.Place.{is_user_page}
use Rattle.range_cursor.specs.Reach.{access_of}
use Rattle.range_cursor.proofs.Earliest.{outside_at, none_outside, user_small}
use Rattle.range_cursor.proofs.refusing.outside.Goals as goal

pub loop-page-init : goal.loop-page-init
loop-page-init c = record {
  low = omega (arith, c.first-page.ensures.value);
  end = c.end-page-end.ensures.value;
  users = λ q low high. absurd (omega (arith, low, high, c.first-page.ensures.value));
}

-- a page that is the first, or comes after a user page, has an address
small : (L first page : ℕ) → L ≤ 5 → first < 2 ^ 52 → first ≤ page → ((q : ℕ) → first ≤ q → q < page → is_user_page L q ≡ true) → 4096 * page < 2 ^ 64
small L first page few low at users = elim (cases_lt first page) [
  | inl less ↦ let m : ℕ = page - 1 in let end = user_small L m few (users m (omega (arith, less)) (omega (arith, less))) in omega (arith, end, less)
  | inr not_less ↦ omega (arith, low, at, not_less)
]

pub is_user-requires : goal.is_user-requires
is_user-requires c =
    let first : ℕ = first_page (access_of c.args.access) in
    let is : 4096 * c.loop-page.page < 2 ^ 64 = small c.args.access.levels first c.loop-page.page c.first-page.ensures.reach.few_levels (subst (λ n. n < 2 ^ 52) c.first-page.ensures.value c.first-page.ensures.small) c.loop-page.invariant.low c.loop-page.invariant.users in
    omega (arith, is)

pub overflow_mul-result : goal.overflow_mul-result
overflow_mul-result c =
    let first : ℕ = first_page (access_of c.args.access) in
    let is : 4096 * c.loop-page.page < 2 ^ 64 = small c.args.access.levels first c.loop-page.page c.first-page.ensures.reach.few_levels (subst (λ n. n < 2 ^ 52) c.first-page.ensures.value c.first-page.ensures.small) c.loop-page.invariant.low c.loop-page.invariant.users in
    omega (arith, is)

pub returns-then-not-is_user-clause-value : goal.returns-then-not-is_user-clause-value
returns-then-not-is_user-clause-value c =
    sym (outside_at c.args.access.levels (access_of c.args.access) c.loop-page.page c.loop-page.invariant.low (omega (arith, c.loop-page-test.true, c.end-page-end.ensures.value)) c.loop-page.invariant.users (sym c.if-not-is_user.ensures))

pub loop-page-preserved : goal.loop-page-preserved
loop-page-preserved c = record {
  low = omega (arith, c.loop-page.invariant.low);
  end = c.loop-page.invariant.end;
  users = λ q low high. elim (cases_eq q c.loop-page.page) [
    | inl same ↦ ap (is_user_page c.args.access.levels) same ∙ sym c.if-not-is_user.ensures
    | inr other ↦ c.loop-page.invariant.users q low (less q c.loop-page.page high other)
  ];
}
  where
    less : (q page : ℕ) → q < page + 1 → (q ≡ page → ⊥) → q < page
    less q page high other = omega arith

pub returns-clause-value : goal.returns-clause-value
returns-clause-value c = sym (none_outside c.args.access.levels (access_of c.args.access) (λ q low high. c.loop-page.invariant.users q low (omega (arith, high, c.loop-page-test.false, c.end-page-end.ensures.value))))
