use Rattle.std.proofs.Common.{◌≡◌, ℕ, ◌+◌, ◌-◌, ◌/◌, ◌<◌, ◌≤◌, ◌^◌, List, ◌∷◌, drop, set, length, sym, ap, subst, ◌∙◌, arith}
use Rattle.std.proofs.lemmas.List.{drop_all, drop-set, length-set}
use Rattle.text_words.proofs.Numerals.{digits_before, digits_before-whole, digits_before-last, digits_before-more, room_after, room_is}
use Rattle.text_words.proofs.address.write_digits.Goals as goal

-- after a digit is written the text from there on is that digit and what stood behind it
with_digit : (text : List ℕ) (at d : ℕ) → 0 < at → at ≤ length text → drop (at - 1) (set text (at - 1) d) ≡ d ∷ drop at text
with_digit text at d pos inside =
    let next : at - 1 + 1 ≡ at = omega arith in
    drop-set text (at - 1) d (omega arith) ∙ ap (λ k. d ∷ drop k text) next

pub loop-left-init : goal.loop-left-init
loop-left-init c = record {
  written = digits_before-whole c.args.value (drop 18 c.args.text.now) (drop_all 18 c.args.text.now (omega arith));
  length_is = omega arith;
  room = omega arith;
  within = omega arith;
  small = omega arith;
}

pub returns-then-left-eq0-clause-written : goal.returns-then-left-eq0-clause-written
returns-then-left-eq0-clause-written c =
    let l = c.loop-left in
    with_digit l.text l.at c.digit.result (omega arith) (omega arith)
    ∙ ap (λ d. d ∷ drop l.at l.text) c.digit.ensures
    ∙ sym (digits_before-last (l.at + 46) l.left (drop l.at l.text) (omega arith) c.if-left-eq0.true)
    ∙ l.invariant.written

pub loop-left-preserved : goal.loop-left-preserved
loop-left-preserved c =
    let l = c.loop-left in
    let smaller : l.left / 16 < 16 ^ (l.at - 2 - 1) = room_after l.left (l.at - 2) l.invariant.small (omega arith) in
    let some : 0 < l.at - 2 - 1 = room_is (l.left / 16) (l.at - 2 - 1) smaller c.if-left-eq0.false in
    record {
      written =
          ap (digits_before (l.at - 1 + 46) (l.left / 16)) (with_digit l.text l.at c.digit.result (omega arith) (omega arith) ∙ ap (λ d. d ∷ drop l.at l.text) c.digit.ensures)
          ∙ sym (digits_before-more (l.at + 46) (l.at - 1 + 46) l.left (drop l.at l.text) (omega arith) c.if-left-eq0.false)
          ∙ l.invariant.written;
      length_is = length-set l.text (l.at - 1) c.digit.result ∙ l.invariant.length_is;
      room = omega arith;
      within = omega arith;
      small = subst (λ k. l.left / 16 < 16 ^ k) {x = l.at - 2 - 1} {y = l.at - 1 - 2} (omega arith) smaller;
    }
