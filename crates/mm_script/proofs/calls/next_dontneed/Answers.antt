-- What was read so far stands before the word that is none.
use Rattle.std.proofs.Common.{ℕ, ◌∷◌, codes, ap, ◌∙◌, rules}
use Rattle.text_words.specs.Spelling.{number, address}
use Rattle.mm_script.specs.CallLine.{IsNumber}
use Rattle.mm_script.proofs.OneArgument.{behind_first}
use Rattle.mm_script.proofs.calls.next_dontneed.Goals as goal

pub returns-in_err-next_space-clause-none : goal.returns-in_err-next_space-clause-none
returns-in_err-next_space-clause-none c = rw c.from_residual.ensures (λ space at len rest is_space at_fits len_fits are.
    c.in_err-next_space.ensures.none space _ is_space are)

pub returns-in_err-next_address-clause-none : goal.returns-in_err-next_address-clause-none
returns-in_err-next_address-clause-none c = rw c.from_residual-in_err-next_address.ensures (λ space at len rest is_space at_fits len_fits are.
    c.in_err-next_address.ensures.none at _ at_fits (behind_first _ _ _ _ _ c.in_ok-next_space.ensures.found.1 are))

pub returns-in_err-next_number-clause-none : goal.returns-in_err-next_number-clause-none
returns-in_err-next_number-clause-none c = rw c.from_residual-in_err-next_number.ensures (λ space at len rest is_space at_fits len_fits are.
    c.in_err-next_number.ensures.none len _ len_fits (behind_first _ _ _ _ _ c.in_ok-next_address.ensures.found (behind_first _ _ _ _ _ c.in_ok-next_space.ensures.found.1 are)))

pub returns-clause-found : goal.returns-clause-found
returns-clause-found c =
    let space : ℕ = c.in_ok-next_space.field-0 in
    let at : ℕ = c.in_ok-next_address.field-0 in
    let at_fits : IsNumber at = search rules in
    let len : ℕ = c.in_ok-next_number.field-0 in
    let len_fits : IsNumber len = search rules in
    ((c.in_ok-next_space.ensures.found.0, at_fits, len_fits), ap (λ ws. codes "dontneed" ∷ ws) (c.in_ok-next_space.ensures.found.1 ∙ ap (λ ws. number space ∷ ws) (c.in_ok-next_address.ensures.found ∙ ap (λ ws. address at ∷ ws) (c.in_ok-next_number.ensures.found))))
