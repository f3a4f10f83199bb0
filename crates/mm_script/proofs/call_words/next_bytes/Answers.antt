use Rattle.std.proofs.Common.{◌≡◌, ℕ, ◌<◌, ◌*◌, List, ◌∷◌, length, refl, sym, ap, subst, ◌∙◌, arith}
use Rattle.std.specs.List.{All}
use Rattle.std.proofs.lemmas.Bool.{false≢true}
use Rattle.text_words.specs.Spelling.{hex}
use Rattle.text_words.proofs.HexPairs.{length-hex}
use Rattle.mm_script.specs.CallLine.{IsAccess}
use Rattle.mm_script.proofs.call_words.next_bytes.Goals as goal

-- a word of digits is twice as long as its bytes
long_is : (word bytes : List ℕ) → word ≡ hex bytes → length word ≡ 2 * length bytes
long_is word bytes same = ap length same ∙ length-hex bytes

pub returns-then-not-is_access_long-clause-none : goal.returns-then-not-is_access_long-clause-none
returns-then-not-is_access_long-clause-none c = λ bytes rest access fit is.
    let word = c.in-Some.ensures.word in
    let long : length c.in-Some.word.now ≡ 2 * length bytes = long_is c.in-Some.word.now bytes (cc) in
    false≢true (c.if-not-is_access_long.ensures.1 (omega (arith, access.0), omega (arith, access.1)))

pub from_vec-requires : goal.from_vec-requires
from_vec-requires c =
    let bytes : List ℕ = c.in-Some-2.bytes.items in
    let found = rw c.in-Some-2.is at c.in_ok-bytes.ensures.found in
    let long : length c.in-Some.word.now ≡ 2 * length bytes = long_is c.in-Some.word.now bytes found in
    let within = c.if-not-is_access_long.ensures.0 refl in
    omega (arith, within.1)

pub returns-in-Some-2-clause-found : goal.returns-in-Some-2-clause-found
returns-in-Some-2-clause-found c =
    let bytes : List ℕ = c.in-Some-2.bytes.items in
    let found = rw c.in-Some-2.is at c.in_ok-bytes.ensures.found in
    let fit = rw c.in-Some-2.is at c.in_ok-bytes.ensures.fit in
    let long : length c.in-Some.word.now ≡ 2 * length bytes = long_is c.in-Some.word.now bytes found in
    let within = c.if-not-is_access_long.ensures.0 refl in
    let same : bytes ≡ c.from_vec.result = sym c.from_vec.ensures in
    let P : List ℕ → Type 0 = λ bs. IsAccess (length bs) × All (λ b. b < 256) bs × (c.args.words.now ≡ hex bs ∷ c.next_word.new.self) in
    subst P same ((omega (arith, within.0), omega (arith, within.1)), fit, c.in-Some.ensures.word ∙ ap (λ w. w ∷ c.next_word.new.self) found)
