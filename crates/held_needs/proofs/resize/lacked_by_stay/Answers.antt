use Rattle.std.proofs.Common.{◌≡◌, ◌∙◌, ℕ, ◌+◌, ◌-◌, ◌<◌, cond, [], ◌∷◌, sym, ap, subst, arith}
use Rattle.std.proofs.lemmas.Bool.{le-ltb}
use Rattle.page_map.specs.Tables.{need}
use Rattle.plain_counts.specs.declared.cut.Pages.{Pages}
use Rattle.plain_counts.specs.Cut.{IsShort, cut_by_all}
use Rattle.held_needs.specs.Found.{EndsAsked}
use Rattle.held_needs.specs.Moved.{resized}
use Rattle.held_needs.proofs.resize.lacked_by_stay.Goals as goal

-- a length that stays leaves no page
none_left : (old : Pages) (new : ℕ) → new ≡ old.count → IsShort (resized old new) → ⊥
none_left old new e short = clash (ap (λ b. (cond {A = Pages} b (record { first = old.first + new; count = old.count - new }) (record { first = old.first + old.count; count = new - old.count })).count) (le-ltb new old.count (omega (arith, e)))) short.some
  where
    clash : {n : ℕ} → n ≡ new - old.count → 0 < n → ⊥
    clash is some = omega (arith, is, some, e)

pub returns-in-Some : goal.returns-in-Some
returns-in-Some c = record {
  lacks = record {
    other = λ space st is short asked.
        let here = c.in-Some.ensures.some.0 in
        ap (λ r. need (cut_by_all c.args.levels space (r ∷ [])) st.tables) (sym here)
        ∙ c.missing_cut.ensures.lacks space st is (subst (λ r. EndsAsked space c.args.held.now.rows (r ∷ [])) (sym here) asked);
    same = λ e. absurd (none_left c.args.old c.args.new e (subst IsShort c.in-Some.ensures.some.0 c.in-Some.ensures.some.1));
  };
}
