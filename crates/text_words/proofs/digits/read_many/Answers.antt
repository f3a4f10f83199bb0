use Rattle.std.proofs.Common.{◌≡◌, ℕ, ◌+◌, ◌<◌, length, sym, subst, arith, rules}
use Rattle.text_words.proofs.Numerals.{HasRead, IsSpelled-digits, HasRead-more, digits_from_HasRead}
use Rattle.text_words.proofs.digits.read_many.Goals as goal

pub returns-in_err-number-clause-none : goal.returns-in_err-number-clause-none
returns-in_err-number-clause-none c = rw c.from_residual.ensures (λ n fits is.
    let s = IsSpelled-digits c.args.base n c.args.word.now c.requires.base.0 c.requires.base.1 fits is in
    let inside : c.loop-byte.byte-index < length c.args.word.now = omega arith in
    let d = s.digit c.loop-byte.byte-index inside in
    let over = c.in_err-number.ensures.none d.0 d.1 d.2 in
    let bound = s.bound c.loop-byte.byte-index c.loop-byte.number d.0 inside c.loop-byte.invariant.read (omega (arith, d.1)) d.2 in
    omega (arith, over, bound))

pub loop-byte-preserved : goal.loop-byte-preserved
loop-byte-preserved c =
    let d = c.in_ok-number.ensures.found in
    let i : ℕ = c.loop-byte.byte-index in
    record {
      read = subst (λ n. HasRead c.args.base c.args.word.now (i + 1) n) (sym d.3)
          (HasRead-more c.args.base c.args.word.now i c.loop-byte.number d.0 c.requires.base.1 c.loop-byte.invariant.read (omega arith) d.1 d.2);
      fits = search rules;
    }

pub returns-clause-found : goal.returns-clause-found
returns-clause-found c =
    let whole : c.loop-byte.byte-index ≡ length c.args.word.now = omega arith in
    let read : HasRead c.args.base c.args.word.now (length c.args.word.now) c.loop-byte.number =
    subst (λ i. HasRead c.args.base c.args.word.now i c.loop-byte.number) whole c.loop-byte.invariant.read in
    digits_from_HasRead c.args.base c.args.word.now c.loop-byte.number c.requires.base.0 c.loop-byte.invariant.fits c.requires.some c.requires.leading read
