-- A word that spells another number spells the number of no space.
use Rattle.std.proofs.Common.{◌≡◌, ◌<◌, ◌^◌, sym, ◌∙◌, arith, rules}
use Rattle.text_words.proofs.OneValue.{number_injective}
use Rattle.corten_run.proofs.command.read_space.Goals as goal

pub returns-else-found-lt64-clause-none : goal.returns-else-found-lt64-clause-none
returns-else-found-lt64-clause-none c n within is =
    let fits : c.in_ok-found.found < 2 ^ 64 = search rules in
    let same : c.in_ok-found.found ≡ n = number_injective c.in_ok-found.found n fits (omega (arith, within)) (sym c.in_ok-found.ensures.found ∙ is) in
    omega (arith, same, within, c.if-found-lt64.false)
