use Rattle.std.proofs.Common.{◌≡◌, ◌≢◌, ℕ, ◌<◌, ◌/◌, ◌%◌, ◌*◌, true, length, map, sym, ap, subst, ◌∙◌, arith}
use Rattle.std.specs.List.{All, list_all}
use Rattle.std.specs.Simd.{first_chunks}
use Rattle.std.proofs.lemmas.Bool.{eqb-false, eqb-true}
use Rattle.text_words.specs.Digits.{is_digit, pair_value}
use Rattle.text_words.specs.Spelling.{hex}
use Rattle.text_words.proofs.HexPairs.{length-hex, list_all-hex, hex-pairs, pairs_fit}
use Rattle.text_words.proofs.hex.read_hex.Goals as goal
use Rattle.text_words.proofs.hex.read_hex.Goals.{then-not-is_empty-via-then-not-is_empty, then-not-is_empty-via-else-not-is_empty+then-not-are_digits}

pub returns-then-not-is_empty-clause-none : goal.returns-then-not-is_empty-clause-none
returns-then-not-is_empty-clause-none c = λ bytes fit is.
    let even = length-hex bytes in
    let same : length c.args.word.now ≡ length (hex bytes) = ap length is in
    let digits : list_all is_digit c.args.word.now ≡ true = ap (list_all is_digit) is ∙ list_all-hex bytes fit in
    elim c.then-not-is_empty.branch [
      | then-not-is_empty-via-then-not-is_empty w ↦
          let odd : length c.as_chunks.result.1.now ≢ 0 = eqb-false (length c.as_chunks.result.1.now) 0 (sym c.is_empty.ensures ∙ w.if-not-is_empty.true) in
          let back : length c.as_chunks.result.1.now ≡ length c.args.word.now % 2 = c.as_chunks.ensures.back_len in
          omega arith
      | then-not-is_empty-via-else-not-is_empty+then-not-are_digits w ↦ cc
    ]

pub returns-clause-found : goal.returns-clause-found
returns-clause-found c =
    let n : ℕ = length c.args.word.now / 2 in
    let none : length c.as_chunks.result.1.now ≡ 0 = eqb-true (length c.as_chunks.result.1.now) 0 (sym c.is_empty.ensures ∙ c.if-not-is_empty.false) in
    let back : length c.as_chunks.result.1.now ≡ length c.args.word.now % 2 = c.as_chunks.ensures.back_len in
    let even : length c.args.word.now ≡ 2 * n = omega arith in
    let digits : list_all is_digit c.args.word.now ≡ true = sym c.are_digits.ensures ∙ c.if-not-are_digits.false in
    let pairs : c.in_ok-bytes_of.field-0.items ≡ map pair_value (first_chunks 2 n c.args.word.now) = c.in_ok-bytes_of.ensures ∙ ap (map pair_value) c.as_chunks.ensures.front in
    sym (hex-pairs n c.args.word.now even digits) ∙ ap hex (sym pairs)

pub returns-clause-fit : goal.returns-clause-fit
returns-clause-fit c = subst (All (λ b. b < 256)) (sym c.in_ok-bytes_of.ensures) (pairs_fit c.as_chunks.result.0.now)
