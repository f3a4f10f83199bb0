-- Where another line stands next, or none, this one doesn't.
use Rattle.std.proofs.Common.{◌∙◌}
use Rattle.std.proofs.lemmas.Bool.{false≢true}
use Rattle.std.proofs.lemmas.Slice.Eq.{bytes_eq-Decides}
use Rattle.text_words.proofs.LineLists.{other_line, unended_line}
use Rattle.text_words.proofs.lines.Lines.take_line.Goals as goal

pub returns-in_default-clause-other : goal.returns-in_default-clause-other
returns-in_default-clause-other c = λ is_line more. unended_line c.args.self.now.bytes c.args.line.now more c.in_default.ensures.none

pub returns-clause-other : goal.returns-clause-other
returns-clause-other c = λ is_line more.
    let line = c.args.line.now in
    let next = c.in-Some.next.now in
    other_line c.args.self.now.bytes next c.next_line.new.self.bytes line more c.in-Some.ensures.line c.in-Some.ensures.is_line is_line
    (λ same. false≢true (c.if-eq.ensures ∙ (bytes_eq-Decides next line).1 same))
