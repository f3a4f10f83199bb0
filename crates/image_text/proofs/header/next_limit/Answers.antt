use Rattle.std.proofs.Common.{[], ◌∷◌, subst}
use Rattle.text_words.specs.Passing.{Passes, NoLine}
use Rattle.text_words.proofs.Passing.{Passes-line}
use Rattle.history_lines.proofs.CountLines.{line_is}
use Rattle.image_text.proofs.header.next_limit.Goals as goal

pub returns-in-Some-limit_of-clause-ok : goal.returns-in-Some-limit_of-clause-ok
returns-in-Some-limit_of-clause-ok c =
    let old = c.args.lines.now in
    let new = c.next_line.new.self in
    let line = c.in-Some.line.now in
    let found = c.in-Some-limit_of.ensures.found in (
      found.0,
      subst (λ l. Passes old new (l ∷ [])) (line_is line _ found.1) (Passes-line old new line c.in-Some.ensures.is_line c.in-Some.ensures.line c.in-Some.ensures.taken),
    )

pub returns-in-None-clause-bad : goal.returns-in-None-clause-bad
returns-in-None-clause-bad c =
    let line = c.in-Some.line.now in
    NoLine.other c.next_line.new.self line (Passes-line _ _ line c.in-Some.ensures.is_line c.in-Some.ensures.line c.in-Some.ensures.taken)
    c.taken-in-None.ensures.value c.in-None.ensures.none
