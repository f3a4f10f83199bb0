-- The line of five levels was taken, or another stands there.
use Rattle.std.proofs.Common.{sym, ap, ◌∙◌}
use Rattle.text_words.specs.Layout.{TextRest}
use Rattle.text_words.proofs.Passing.{Passes-line}
use Rattle.history_lines.specs.Accounting.{levels_line}
use Rattle.history_lines.proofs.CountLines.{levels_IsLine}
use Rattle.image_text.proofs.header.take_levels.Goals as goal

pub returns-then-take_line-clause-passed : goal.returns-then-take_line-clause-passed
returns-then-take_line-clause-passed c =
    Passes-line c.args.lines.now c.take_line.new.self levels_line levels_IsLine (rw c.if-take_line.true at c.take_line.ensures.taken) (rw c.if-take_line.true at c.take_line.ensures.counted)

pub returns-else-take_line-clause-none : goal.returns-else-take_line-clause-none
returns-else-take_line-clause-none c = λ levels more same.
    let other = rw c.if-take_line.false at c.take_line.ensures.other in
    let stays = rw c.if-take_line.false at c.take_line.ensures.stays in
    other levels_IsLine more (ap (λ (place : TextRest). place.bytes) (sym stays) ∙ same)
