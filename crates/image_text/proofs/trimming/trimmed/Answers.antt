-- A zero at the end is cut off, and nothing behind another byte.
use Rattle.std.proofs.Common.{◌≡◌, ℕ, List, [], ◌∷◌, ◌++◌, sym, ap, subst, ◌∙◌}
use Rattle.image_text.specs.Items as definitions
use Rattle.image_text.specs.Items.{IsTrimmed}
use Rattle.image_text.proofs.Trimmings.{trimmed_zero, trimmed_itself, IsTrimmed-last}
use Rattle.image_text.proofs.trimming.trimmed.Goals as goal

pub returns-then-last-ne0 : goal.returns-then-last-ne0
returns-then-last-ne0 c =
    let rest : List ℕ = c.loop-last.rest.now in
    let parts : rest ≡ c.in-Some.front.now ++ c.in-Some.last.now ∷ [] = c.in-Some.ensures.cases.0 in
    let whole : IsTrimmed rest = subst IsTrimmed (sym parts) (IsTrimmed-last c.in-Some.front.now c.in-Some.last.now c.if-last-ne0.true) in
    sym (trimmed_itself rest whole) ∙ c.loop-last.invariant

pub loop-last-preserved : goal.loop-last-preserved
loop-last-preserved c =
    let rest : List ℕ = c.loop-last.rest.now in
    let parts : rest ≡ c.in-Some.front.now ++ c.in-Some.last.now ∷ [] = c.in-Some.ensures.cases.0 in
    sym (ap definitions.trimmed (parts ∙ ap (λ b. c.in-Some.front.now ++ b ∷ []) c.if-last-ne0.false) ∙ trimmed_zero c.in-Some.front.now) ∙ c.loop-last.invariant
