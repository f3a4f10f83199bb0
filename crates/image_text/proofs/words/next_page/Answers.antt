use Rattle.std.proofs.Common.{ℕ, ◌≡◌, ◌*◌, ◌∷◌, arith}
use Rattle.text_words.proofs.OneValue.{address_injective}
use Rattle.text_words.specs.Spelling.{address}
use Rattle.image_text.proofs.OneItem.{first_words}
use Rattle.image_text.proofs.words.next_page.Goals as goal

-- another address's word
pub returns-else-at-eq0-clause-none : goal.returns-else-at-eq0-clause-none
returns-else-at-eq0-clause-none c = λ page rest small are.
    let at : ℕ = c.in_ok-at.at in
    let same : at ≡ 4096 * page = address_injective at (4096 * page) (omega arith) (omega arith) (first_words (address at) (address (4096 * page)) _ rest c.args.words.now c.in_ok-at.ensures.found are) in
    let odd = c.if-at-eq0.false in
    omega (arith, same, odd)
