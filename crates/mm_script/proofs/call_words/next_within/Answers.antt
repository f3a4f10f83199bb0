use Rattle.std.proofs.Common.{◌≡◌, ◌<◌, ◌^◌, arith, rules}
use Rattle.text_words.proofs.OneValue.{number_injective}
use Rattle.mm_script.proofs.call_words.next_within.Goals as goal
use Rattle.mm_script.proofs.call_words.next_within.Goals.{else-low-found-via-then-low-found+else-found-high, else-low-found-via-else-low-found}

pub returns-else-low-found-clause-none : goal.returns-else-low-found-clause-none
returns-else-low-found-clause-none c = λ n rest within is.
    let found = c.in_ok-found.ensures.found in
    let fits : c.in_ok-found.found < 2 ^ 64 = search rules in
    let same : c.in_ok-found.found ≡ n = number_injective c.in_ok-found.found n fits (omega (arith, within.1)) (cc) in
    elim c.else-low-found.branch [
      | else-low-found-via-then-low-found+else-found-high w ↦ omega (arith, within.1, w.if-found-high.false)
      | else-low-found-via-else-low-found w ↦ omega (arith, within.0, w.if-low-found.false)
    ]
