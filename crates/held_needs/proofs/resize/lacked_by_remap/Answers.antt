use Rattle.std.proofs.Common.{◌≡◌, ◌∙◌, true, List, [], ◌∷◌, length, refl, sym, ap, subst, arith}
use mathlib.Core.Bool.{true≢false}
use Rattle.std.specs.Prelude.{nat_eq}
use Rattle.std.proofs.lemmas.Bool.{eqb-true}
use Rattle.machine_plan.specs.declared.kit.Piece.{Piece}
use Rattle.held_needs.specs.Moved.{MoveLacks, StayLacks}
use Rattle.held_needs.proofs.Remaps.{old_range, old_right, remap_needs}
use Rattle.held_needs.proofs.resize.lacked_by_remap.Goals as goal

empty : (ps : List Piece) → nat_eq (length ps) 0 ≡ true → ps ≡ []
empty [] e = refl
empty (p ∷ ps) e = absurd (omega (arith, eqb-true (length (p ∷ ps)) 0 e))

pub returns-in_default : goal.returns-in_default
returns-in_default c = record {
  needs = λ space thread st h placed has.
      absurd (true≢false (sym (old_right c.args.levels c.args.held.now.rows thread st c.requires.four c.requires.five space c.args.at c.args.old_len c.args.new_len h) ∙ c.in_default.ensures.none));
}

pub returns-then-is_empty : goal.returns-then-is_empty
returns-then-is_empty c = record {
  needs = λ space thread st h placed has.
      remap_needs c.args.levels c.args.held.now.rows thread st c.requires.four c.requires.five space c.args.at c.args.old_len c.args.new_len h c.args.to c.lacked_by_stay.result c.args.pieces.now placed has
      (λ none. subst (λ n. StayLacks c.args.levels c.args.held.now.rows (old_range c.args.at c.args.old_len) n c.lacked_by_stay.result) c.pages.ensures.count
      (subst (λ r. StayLacks c.args.levels c.args.held.now.rows r c.pages.result c.lacked_by_stay.result) c.in-Some.ensures.some.0 c.lacked_by_stay.ensures.lacks))
      (λ some. absurd (some (empty c.args.pieces.now (sym c.is_empty.ensures ∙ c.if-is_empty.true))));
}

pub returns-else-is_empty : goal.returns-else-is_empty
returns-else-is_empty c = record {
  needs = λ space thread st h placed has.
      remap_needs c.args.levels c.args.held.now.rows thread st c.requires.four c.requires.five space c.args.at c.args.old_len c.args.new_len h c.args.to c.lacked_by_move.result c.args.pieces.now placed has
      (λ none. absurd (true≢false (sym (c.if-is_empty.ensures ∙ ap (λ ps. nat_eq (length ps) 0) none))))
      (λ some. subst (λ r. MoveLacks c.args.levels c.args.held.now.rows r c.args.to c.args.pieces.now c.lacked_by_move.result) c.in-Some.ensures.some.0 c.lacked_by_move.ensures.lacks);
}
