use Rattle.std.proofs.Common.{◌≡◌, ◌<◌, ◌^◌, arith, rules}
use Rattle.text_words.proofs.OneValue.{number_injective}
use Rattle.tlb_text.proofs.reading.next_below.Goals as goal

pub returns-else-found-from-clause-none : goal.returns-else-found-from-clause-none
returns-else-found-from-clause-none c = λ n rest below is.
    let found = c.in_ok-found.ensures.found in
    let fits : c.in_ok-found.found < 2 ^ 64 = search rules in
    let same : c.in_ok-found.found ≡ n = number_injective c.in_ok-found.found n fits (omega arith) (cc) in
    omega arith
