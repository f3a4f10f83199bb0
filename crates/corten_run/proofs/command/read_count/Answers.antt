-- A word that spells another number spells none of these.
use Rattle.std.proofs.Common.{◌≡◌, ◌<◌, ◌^◌, sym, ◌∙◌, arith, rules}
use Rattle.text_words.proofs.OneValue.{number_injective}
use Rattle.corten_run.proofs.command.read_count.Goals as goal

pub returns-then-found-eq0-clause-none : goal.returns-then-found-eq0-clause-none
returns-then-found-eq0-clause-none c n within is =
    let fits : c.in_ok-found.found < 2 ^ 64 = search rules in
    let same : c.in_ok-found.found ≡ n = number_injective c.in_ok-found.found n fits (omega (arith, within.1, c.requires)) (sym c.in_ok-found.ensures.found ∙ is) in
    omega (arith, same, within.0, c.if-found-eq0.true)

pub returns-else-found-from-clause-none : goal.returns-else-found-from-clause-none
returns-else-found-from-clause-none c n within is =
    let fits : c.in_ok-found.found < 2 ^ 64 = search rules in
    let same : c.in_ok-found.found ≡ n = number_injective c.in_ok-found.found n fits (omega (arith, within.1, c.requires)) (sym c.in_ok-found.ensures.found ∙ is) in
    omega (arith, same, within.1, c.if-found-from.false, c.from.ensures)
