use Rattle.std.proofs.Common.{◌≡◌, ◌+◌, ℕ, List, [], ◌∷◌, ◌++◌, map, refl, sym, subst}
use Rattle.std.proofs.lemmas.Bool.{false≢true}
use Rattle.std.proofs.lemmas.Result.{err_from_is_err_and}
use Rattle.text_words.specs.Layout.{TextRest}
use Rattle.text_words.specs.Passing.{Passes, FaultFrom}
use Rattle.text_words.proofs.Grammars.{first_fault}
use Rattle.text_words.proofs.Passing.{FaultFrom-behind}
use Rattle.mm_script.proofs.Places.{IfBad-weaker}
use Rattle.image_text.specs.Images.{ImageParts, IsImage}
use Rattle.image_text.specs.ImageText.{head_lines, image_lines, AreImageLines, IsImageText, IsFirstFault}
use Rattle.image_text.proofs.OneImage.{one_text, fault_refuses, all_passed, text_passed, bytes_left}
use Rattle.image_text.proofs.reading.read_image.Goals as goal

abbrev NoImage : List ℕ → ℕ → Type 0
NoImage bytes n = (image : ImageParts) → ¬ (IsImageText bytes image)

pub returns-in_err-limits-clause-none : goal.returns-in_err-limits-clause-none
returns-in_err-limits-clause-none c =
    let p = err_from_is_err_and c.from_residual.result c.from_residual.ensures.1 in
    let bytes : List ℕ = c.args.bytes.now in
    let old : TextRest = c.of-lines.result in
    rw (p.1, p.2) (IfBad-weaker c.in_err-limits.field-0.0 _ (NoImage bytes)
    (λ n from i. fault_refuses bytes n i (first_fault AreImageLines bytes old n c.of-lines.ensures.bytes c.of-lines.ensures.taken from))
    c.in_err-limits.ensures.bad)

pub returns-in_err-image-clause-bad : goal.returns-in_err-image-clause-bad
returns-in_err-image-clause-bad c =
    let p = err_from_is_err_and c.from_residual-in_err-image.result c.from_residual-in_err-image.ensures.1 in
    let bytes : List ℕ = c.args.bytes.now in
    let old : TextRest = c.of-lines.result in
    let mid : TextRest = c.read_limits.new.lines in
    let head = c.in_ok-limits.ensures.ok in
    rw (p.1, p.2) (IfBad-weaker c.in_err-image.field-0.0 _ (IsFirstFault bytes)
    (λ n behind. first_fault AreImageLines bytes old n c.of-lines.ensures.bytes c.of-lines.ensures.taken
    (FaultFrom-behind AreImageLines old mid [] (head_lines c.in_ok-limits.limits) n head.2 behind))
    c.in_err-image.ensures.bad)

pub returns-in_err-image-clause-none : goal.returns-in_err-image-clause-none
returns-in_err-image-clause-none c =
    let p = err_from_is_err_and c.from_residual-in_err-image.result c.from_residual-in_err-image.ensures.1 in
    let bytes : List ℕ = c.args.bytes.now in
    let old : TextRest = c.of-lines.result in
    let mid : TextRest = c.read_limits.new.lines in
    let head = c.in_ok-limits.ensures.ok in
    rw (p.1, p.2) (IfBad-weaker c.in_err-image.field-0.0 _ (NoImage bytes)
    (λ n behind i. fault_refuses bytes n i (first_fault AreImageLines bytes old n c.of-lines.ensures.bytes c.of-lines.ensures.taken
    (FaultFrom-behind AreImageLines old mid [] (head_lines c.in_ok-limits.limits) n head.2 behind)))
    c.in_err-image.ensures.bad)

pub returns-then-is_done-clause-found : goal.returns-then-is_done-clause-found
returns-then-is_done-clause-found c =
    let right = c.in_ok-image.ensures.right in
    text_passed c.args.bytes.now c.of-lines.result c.read_body.new.lines c.in_ok-image.image c.of-lines.ensures.bytes right.0
    (all_passed c.of-lines.result c.read_limits.new.lines c.read_body.new.lines c.in_ok-limits.limits c.in_ok-image.image right.1 c.in_ok-limits.ensures.ok.2 c.in_ok-image.ensures.ok)
    (c.if-is_done.ensures.0 refl)

pub returns-then-is_done-clause-only : goal.returns-then-is_done-clause-only
returns-then-is_done-clause-only c = λ other is_text.
    let right = c.in_ok-image.ensures.right in
    one_text c.args.bytes.now c.in_ok-image.image other
    (text_passed c.args.bytes.now c.of-lines.result c.read_body.new.lines c.in_ok-image.image c.of-lines.ensures.bytes right.0
    (all_passed c.of-lines.result c.read_limits.new.lines c.read_body.new.lines c.in_ok-limits.limits c.in_ok-image.image right.1 c.in_ok-limits.ensures.ok.2 c.in_ok-image.ensures.ok)
    (c.if-is_done.ensures.0 refl)) is_text

pub returns-else-is_done-clause-bad : goal.returns-else-is_done-clause-bad
returns-else-is_done-clause-bad c =
    let right = c.in_ok-image.ensures.right in
    subst (λ place. IsFirstFault c.args.bytes.now (place + 1)) (sym c.taken.ensures.value)
    (bytes_left c.args.bytes.now c.of-lines.result c.read_body.new.lines c.in_ok-image.image c.of-lines.ensures.bytes c.of-lines.ensures.taken right.0
    (all_passed c.of-lines.result c.read_limits.new.lines c.read_body.new.lines c.in_ok-limits.limits c.in_ok-image.image right.1 c.in_ok-limits.ensures.ok.2 c.in_ok-image.ensures.ok)
    (λ none. false≢true (c.if-is_done.ensures.1 none)))

pub returns-else-is_done-clause-none : goal.returns-else-is_done-clause-none
returns-else-is_done-clause-none c = λ image is_text.
    let right = c.in_ok-image.ensures.right in
    fault_refuses c.args.bytes.now (c.read_body.new.lines.taken + 1) image
    (bytes_left c.args.bytes.now c.of-lines.result c.read_body.new.lines c.in_ok-image.image c.of-lines.ensures.bytes c.of-lines.ensures.taken right.0
    (all_passed c.of-lines.result c.read_limits.new.lines c.read_body.new.lines c.in_ok-limits.limits c.in_ok-image.image right.1 c.in_ok-limits.ensures.ok.2 c.in_ok-image.ensures.ok)
    (λ none. false≢true (c.if-is_done.ensures.1 none))) is_text
