use Rattle.std.proofs.Common.{◌≡◌, length, refl, arith}
use Rattle.text_words.proofs.Numerals.{IsSpelled-digits}
use Rattle.text_words.proofs.digits.read_digits.Goals as goal

pub returns-then-is_no_number-clause-none : goal.returns-then-is_no_number-clause-none
returns-then-is_no_number-clause-none c = λ n fits is.
    let s = IsSpelled-digits c.args.base n c.args.word.now c.requires.0 c.requires.1 fits is in
    let bad = c.if-is_no_number.ensures.yes refl s.nonempty in
    let one : length c.args.word.now ≡ 1 = s.leading bad.0 in
    omega (arith, bad.1)
