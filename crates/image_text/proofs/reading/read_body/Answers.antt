use Rattle.std.proofs.Common.{◌≡◌, ◌+◌, ℕ, List, [], ◌∷◌, ◌++◌, map, sym, subst, refl, ap, ◌∙◌}
use Rattle.std.proofs.lemmas.Bool.{false≢true}
use Rattle.text_words.specs.Layout.{TextRest}
use Rattle.text_words.specs.Passing.{Passes, FaultFrom}
use Rattle.text_words.proofs.Passing.{Passes-line}
use Rattle.mm_script.specs.ScriptText.{file_lines}
use Rattle.image_text.specs.Images.{ImageParts, IsImage}
use Rattle.image_text.specs.ImageText.{item_line, end_line, head_lines, AreImageLines}
use Rattle.image_text.proofs.Bodies.{HasPassed, none_passed, more_passed, end_passed, line_fault, end_fault}
use Rattle.image_text.proofs.reading.read_body.Goals as goal

pub returns-then-is_end-clause-ok : goal.returns-then-is_end-clause-ok
returns-then-is_end-clause-ok c =
    let l = c.loop-line in
    let line : List ℕ = c.in-Some.line.now in
    let next : Passes l.lines c.next_line.new.self (line ∷ []) = Passes-line l.lines c.next_line.new.self line c.in-Some.ensures.is_line c.in-Some.ensures.line c.in-Some.ensures.taken in
    subst (λ (i : ImageParts). Passes c.args.lines.now c.next_line.new.self (file_lines i.files ++ (map item_line i.items ++ end_line ∷ []))) (sym c.done.ensures)
    (end_passed c.args.limits c.args.lines.now l.lines c.next_line.new.self l.draft line l.invariant next (c.if-is_end.ensures.0 refl))

pub returns-then-not-branch-clause-bad : goal.returns-then-not-branch-clause-bad
returns-then-not-branch-clause-bad c =
    let l = c.loop-line in
    let line : List ℕ = c.in-Some.line.now in
    let next : Passes l.lines c.next_line.new.self (line ∷ []) = Passes-line l.lines c.next_line.new.self line c.in-Some.ensures.is_line c.in-Some.ensures.line c.in-Some.ensures.taken in
    let stays : c.take_line.new.self ≡ l.draft = rw c.if-not-branch.true at c.in_ok-take_line.ensures.stays in
    let right : IsImage l.draft = subst IsImage (c.draft.view_is ∙ stays) c.draft.invariant.right in
    subst (FaultFrom AreImageLines c.args.lines.now (head_lines c.args.limits)) (sym c.taken.ensures.value)
    (line_fault c.args.limits c.args.lines.now l.lines c.next_line.new.self l.draft line right c.requires.next l.invariant next (λ last. false≢true (c.if-is_end.ensures.1 last)) (rw c.if-not-branch.true at c.in_ok-take_line.ensures.none))

pub loop-line-preserved : goal.loop-line-preserved
loop-line-preserved c =
    let l = c.loop-line in
    let line : List ℕ = c.in-Some.line.now in
    let next : Passes l.lines c.next_line.new.self (line ∷ []) = Passes-line l.lines c.next_line.new.self line c.in-Some.ensures.is_line c.in-Some.ensures.line c.in-Some.ensures.taken in
    more_passed c.args.limits c.args.lines.now l.lines c.next_line.new.self l.draft c.take_line.new.self line l.invariant next (rw c.if-not-branch.false at c.in_ok-take_line.ensures.taken)

pub returns-clause-bad : goal.returns-clause-bad
returns-clause-bad c =
    let l = c.loop-line in
    subst (λ place. FaultFrom AreImageLines c.args.lines.now (head_lines c.args.limits) (place + 1)) (sym c.taken-2.ensures.value)
    (subst (λ (place : TextRest). FaultFrom AreImageLines c.args.lines.now (head_lines c.args.limits) (place.taken + 1)) (sym c.in_default.ensures.same)
    (end_fault c.args.limits c.args.lines.now l.lines l.draft (subst IsImage c.draft-2.view_is c.draft-2.invariant.right) c.requires.next l.invariant c.in_default.ensures.none))
