use Rattle.std.specs.Prelude.{◌≡◌, ℕ, ◌+◌, ◌≤◌, ◌<◌, None}
use Rattle.std.proofs.Common.{sym, ◌∙◌, subst, arith, inl, inr}
use Rattle.std.proofs.lemmas.Bool.{cases_eq}
use Rattle.page_map.specs.Access.{first_page, page_count, refused_at}
use Rattle.page_map.specs.State.{cell_at}
use Rattle.machine_plan.specs.HeldRows.{IsAsked}
use Rattle.range_cursor.specs.Reach.{access_of}
use Rattle.range_cursor.proofs.Earliest.{users, user_small}
use Rattle.range_cursor.proofs.Refusals.{is_within, refused_here, refused_at_page, not_refused}
use Rattle.range_cursor.proofs.refusing.refused_pages.Goals as goal

pub loop-page-init : goal.loop-page-init
loop-page-init c = record {
  low = omega (arith, c.first-page.ensures.value);
  end = c.end-page-end.ensures.value;
  none = λ q low high. absurd (omega (arith, low, high, c.first-page.ensures.value));
}

pub refused_page-requires : goal.refused_page-requires
refused_page-requires c =
    let user = users c.args.access.levels (access_of c.args.access) c.requires c.loop-page.page c.loop-page.invariant.low (omega (arith, c.loop-page-test.true, c.end-page-end.ensures.value)) in
    let end = user_small c.args.access.levels c.loop-page.page c.first-page.ensures.reach.few_levels user in omega (arith, end)

pub returns-in-Some : goal.returns-in-Some
returns-in-Some c st asked shown files =
    let first : ℕ = first_page (access_of c.args.access) in
    let high : c.loop-page.page < first + page_count (access_of c.args.access) = omega (arith, c.loop-page-test.true, c.end-page-end.ensures.value) in
    let each : (q : ℕ) → first ≤ q → q < first + page_count (access_of c.args.access) → IsAsked c.args.access.space c.args.held.now.rows q = λ q l h. asked q (is_within first (page_count (access_of c.args.access)) q l h) in
    sym (refused_at_page st c.args.access c.args.held.now.rows c.loop-page.page c.in-Some.reply c.loop-page.invariant.low high
    (λ q l h. c.loop-page.invariant.none q l h st (each q l (omega (arith, h, high))) shown files)
    (refused_here st.files c.args.shelf.now c.args.access.write c.writes.result c.loop-page.page c.query-status.result (cell_at st c.args.access.space c.loop-page.page) c.refused_page.result
    c.refused_page.ensures c.writes.ensures (c.query-status.ensures c.args.access.space st (each c.loop-page.page c.loop-page.invariant.low high) shown) files ∙ c.in-Some.is))

pub loop-page-preserved : goal.loop-page-preserved
loop-page-preserved c = record {
  low = omega (arith, c.loop-page.invariant.low);
  end = c.loop-page.invariant.end;
  none = λ q low high st asked shown files. elim (cases_eq q c.loop-page.page) [
    | inl same ↦ subst (λ p. refused_at st.files c.args.access.write p (cell_at st c.args.access.space p) ≡ None) (sym same)
        (refused_here st.files c.args.shelf.now c.args.access.write c.writes.result c.loop-page.page c.query-status.result (cell_at st c.args.access.space c.loop-page.page) c.refused_page.result
        c.refused_page.ensures c.writes.ensures (c.query-status.ensures c.args.access.space st (subst (λ p. IsAsked c.args.access.space c.args.held.now.rows p) same asked) shown) files ∙ c.in_default.is)
    | inr other ↦ c.loop-page.invariant.none q low (less q c.loop-page.page high other) st asked shown files
  ];
}
  where
    less : (q page : ℕ) → q < page + 1 → (q ≡ page → ⊥) → q < page
    less q page high other = omega arith

pub returns : goal.returns
returns c st asked shown files =
    let first : ℕ = first_page (access_of c.args.access) in
    sym (not_refused st c.args.access c.args.held.now.rows (λ q l h. c.loop-page.invariant.none q l (omega (arith, h, c.loop-page-test.false, c.end-page-end.ensures.value)) st (asked q (is_within first (page_count (access_of c.args.access)) q l h)) shown files))
