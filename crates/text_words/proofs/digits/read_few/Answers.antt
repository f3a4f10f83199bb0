use Rattle.std.proofs.Common.{◌≡◌, ◌+◌, ◌*◌, ◌<◌, ◌^◌, length, sym, subst, arith}
use Rattle.text_words.proofs.Numerals.{HasRead, IsSpelled-digits, HasRead-more, digits_from_HasRead, few_more, few_fit, few_more_fit}
use Rattle.text_words.proofs.digits.read_few.Goals as goal

pub returns-in_err-value-clause-none : goal.returns-in_err-value-clause-none
returns-in_err-value-clause-none c = rw c.from_residual.ensures (λ n fits is.
    let s = IsSpelled-digits c.args.base n c.args.word.now c.requires.base.0 c.requires.base.1 fits is in
    let d = s.digit c.loop-byte.byte-index (omega arith) in
    absurd (c.in_err-value.ensures.none d.0 d.1 d.2))

pub overflow_mul-number : goal.overflow_mul-number
overflow_mul-number c =
    let l = c.loop-byte in
    let fits = few_more_fit l.number c.args.base 0 l.byte-index c.requires.base.1 (omega arith) (omega arith) l.invariant.fits in
    let product : l.number * c.from.result < 2 ^ 64 = subst (λ b. l.number * b < 2 ^ 64) (sym c.from.ensures) (omega (arith, fits)) in
    omega (arith, product)

pub overflow_add-number : goal.overflow_add-number
overflow_add-number c =
    let l = c.loop-byte in
    let d = c.in_ok-value.ensures.found in
    let sum : l.number * c.from.result + c.from-in-loop-byte.result < 2 ^ 64 =
    subst (λ n. n < 2 ^ 64) (λ i. l.number * sym c.from.ensures i + sym c.from-in-loop-byte.ensures i)
    (few_more_fit l.number c.args.base c.in_ok-value.value l.byte-index c.requires.base.1 d.0 (omega arith) l.invariant.fits) in
    omega (arith, sum)

pub loop-byte-preserved : goal.loop-byte-preserved
loop-byte-preserved c =
    let l = c.loop-byte in
    let d = c.in_ok-value.ensures.found in
    let same : l.number * c.args.base + c.in_ok-value.value ≡ l.number * c.from.result + c.from-in-loop-byte.result =
    λ i. l.number * sym c.from.ensures i + sym c.from-in-loop-byte.ensures i in
    record {
      read = subst (HasRead c.args.base c.args.word.now (l.byte-index + 1)) same
          (HasRead-more c.args.base c.args.word.now l.byte-index l.number c.in_ok-value.value c.requires.base.1 l.invariant.read (omega arith) d.0 d.1);
      fits = subst (λ n. n < 16 ^ (l.byte-index + 1)) same
          (few_more l.number c.args.base c.in_ok-value.value l.byte-index c.requires.base.1 d.0 l.invariant.fits);
    }

pub returns-clause-found : goal.returns-clause-found
returns-clause-found c =
    let whole : c.loop-byte.byte-index ≡ length c.args.word.now = omega arith in
    let read : HasRead c.args.base c.args.word.now (length c.args.word.now) c.loop-byte.number =
    subst (λ i. HasRead c.args.base c.args.word.now i c.loop-byte.number) whole c.loop-byte.invariant.read in
    let fits : c.loop-byte.number < 2 ^ 64 = few_fit c.loop-byte.number c.loop-byte.byte-index (omega arith) c.loop-byte.invariant.fits in
    digits_from_HasRead c.args.base c.args.word.now c.loop-byte.number c.requires.base.0 fits c.requires.some c.requires.leading read
