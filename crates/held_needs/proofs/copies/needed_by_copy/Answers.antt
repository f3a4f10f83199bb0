use Rattle.std.proofs.Common.{◌≡◌, ◌∙◌, ℕ, ◌+◌, ◌-◌, ◌<◌, ◌≤◌, ◌∷◌, ◌⊎◌, List, length, drop, get_or, sym, subst, inl, inr, arith}
use mathlib.Core.Bool.{true≢false, true, false}
use Rattle.std.specs.Prelude.{max, min}
use Rattle.std.proofs.lemmas.Bool.{cases_lt}
use Rattle.std.proofs.lemmas.List.{drop_more}
use Rattle.page_map.specs.Tables.{need}
use Rattle.tree_lock.specs.Held.{IsInOrder}
use Rattle.page_map.specs.Spaces.{copied_tables}
use Rattle.page_map.specs.State.{State, is_present}
use Rattle.tree_lock.specs.declared.zone.Zone.TheVariants as zone
use Rattle.machine_plan.specs.Cover.{HasCover}
use Rattle.machine_plan.specs.Held.{ListHolds}
use Rattle.machine_plan.specs.HeldRows.{Row, AreOf}
use Rattle.held_needs.specs.Found.{IsStateOf}
use Rattle.held_needs.proofs.Copied.{Noted, used_more, unused_more}
use Rattle.held_needs.proofs.CopyNeeds.{copy_is}
use Rattle.held_needs.proofs.copies.needed_by_copy.Goals as goal

one_of : (a b : ℕ) → (min a b ≡ a) ⊎ (min a b ≡ b)
one_of a b = elim (cases_lt a b) [ inl l ↦ inl (omega (arith, l)) | inr m ↦ inr (omega (arith, m)) ]

next_row : (rows : List Row) (at : ℕ) (h : Row) → 0 < at → at ≤ length rows → h ≡ get_or rows (at - 1) h → drop (at - 1) rows ≡ h ∷ drop at rows
next_row rows at h some within is =
    drop_more rows (at - 1) h (omega (arith, some, within)) ∙ (λ i. sym is i ∷ drop (same some i) rows)
  where
    same : 0 < at → at - 1 + 1 ≡ at
    same some = omega (arith, some)

pub loop-at-preserved-then-ends_behind : goal.loop-at-preserved-then-ends_behind
loop-at-preserved-then-ends_behind c = record {
  within = omega (arith, c.loop-at.invariant.within);
  noted =
      let h = c.index-rows-at.result in
      let rows = c.rows-rows.result.now in
      let ends = c.ends_behind.ensures.ends.0 c.if-ends_behind.true in
      let m = c.min-next.result in
      subst (λ xs. Noted xs m (c.loop-at.used + 1)) (sym (next_row rows c.loop-at.at h c.loop-at-test.true c.loop-at.invariant.within c.index-rows-at.is))
      (used_more h (drop c.loop-at.at rows) c.loop-at.next c.loop-at.used c.first_key.result m c.loop-at.invariant.noted c.first_key.ensures
      (omega (arith, c.min-next.ensures)) (omega (arith, c.min-next.ensures)) (subst (λ n. (n ≡ c.loop-at.next) ⊎ (n ≡ c.first_key.result)) (sym c.min-next.ensures) (one_of c.loop-at.next c.first_key.result))
      ends.0 ends.1 ends.2 (c.ends_behind.ensures.small c.if-ends_behind.true));
}

pub loop-at-preserved : goal.loop-at-preserved
loop-at-preserved c = record {
  within = omega (arith, c.loop-at.invariant.within);
  noted =
      let h = c.index-rows-at.result in
      let rows = c.rows-rows.result.now in
      let m = c.min-next.result in
      subst (λ xs. Noted xs m c.loop-at.used) (sym (next_row rows c.loop-at.at h c.loop-at-test.true c.loop-at.invariant.within c.index-rows-at.is))
      (unused_more h (drop c.loop-at.at rows) c.loop-at.next c.loop-at.used c.first_key.result m c.loop-at.invariant.noted c.first_key.ensures
      (omega (arith, c.min-next.ensures)) (omega (arith, c.min-next.ensures)) (subst (λ n. (n ≡ c.loop-at.next) ⊎ (n ≡ c.first_key.result)) (sym c.min-next.ensures) (one_of c.loop-at.next c.first_key.result))
      (λ deep low before. true≢false (sym (c.ends_behind.ensures.ends.1 (deep, low, before)) ∙ c.if-ends_behind.false)));
}

-- where all rows were seen
copied : (rows : List Row) (at next used : ℕ) → at ≤ 0 → IsInOrder rows → Noted (drop at rows) next used → (number space new : ℕ) (st : State) → IsStateOf number rows st → AreOf space rows
    → HasCover (zone.Space space) st (ListHolds rows) → is_present st space ≡ true → is_present st new ≡ false → need (copied_tables st space new) st.tables ≡ max used 1
copied rows at next used start order noted number space new st is of_space cover present absent =
    let none : at ≡ 0 = omega (arith, start) in
    let all = subst (λ n. Noted (drop n rows) next used) none noted in
    copy_is st is.consistent space rows is.shown of_space cover present new used absent order all.marked

pub returns-then-used-eq0 : goal.returns-then-used-eq0
returns-then-used-eq0 c = record {
  needs = λ number space new st is of_space cover present absent.
      let n = copied c.args.held.now.rows c.loop-at.at c.loop-at.next c.loop-at.used (omega (arith, c.loop-at-test.false)) c.rows-rows.ensures.order
      (subst (λ xs. Noted (drop c.loop-at.at xs) c.loop-at.next c.loop-at.used) c.rows-rows.ensures.list c.loop-at.invariant.noted) number space new st is of_space cover present absent in
      omega (arith, n, c.if-used-eq0.true);
}

pub returns-else-used-eq0 : goal.returns-else-used-eq0
returns-else-used-eq0 c = record {
  needs = λ number space new st is of_space cover present absent.
      let n = copied c.args.held.now.rows c.loop-at.at c.loop-at.next c.loop-at.used (omega (arith, c.loop-at-test.false)) c.rows-rows.ensures.order
      (subst (λ xs. Noted (drop c.loop-at.at xs) c.loop-at.next c.loop-at.used) c.rows-rows.ensures.list c.loop-at.invariant.noted) number space new st is of_space cover present absent in
      omega (arith, n, c.if-used-eq0.false);
}
