use Rattle.std.proofs.Common.{◌≡◌, ◌∙◌, sym, ap, inl, inr, arith}
use mathlib.Core.Bool.{true≢false}
use Rattle.std.proofs.lemmas.Bool.{cases_lt}
use Rattle.std.specs.Prelude.{slice_get}
use Rattle.page_map.proofs.Owners.{same_some}
use Rattle.space_apply.specs.Copying.{is_filled}
use Rattle.space_apply.proofs.copying.first_filled.Goals as goal

pub loop-index-preserved : goal.loop-index-preserved
loop-index-preserved c = λ i less filled. elim (cases_lt i c.loop-index.index) [
  | inl before ↦ c.loop-index.invariant i before filled
  | inr behind ↦ (let here : i ≡ c.loop-index.index = omega (arith, less, behind) in
      let same = same_some (sym filled.1 ∙ ap (slice_get c.args.cells.now) here ∙ c.get.ensures) in
      true≢false (sym filled.2 ∙ ap is_filled same ∙ sym c.is_filled.ensures ∙ c.if-is_filled.false))
]

pub returns : goal.returns
returns c = record {
  few = omega arith;
  before = λ i less filled. c.loop-index.invariant i (omega (arith, less, c.loop-index-test.false)) filled;
  here = λ less. absurd (omega (arith, less));
}
