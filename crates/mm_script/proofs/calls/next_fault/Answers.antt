-- What was read so far stands before the word that is none.
use Rattle.std.proofs.Common.{ℕ, Bool, ◌∷◌, codes, ap, ◌∙◌, rules}
use Rattle.text_words.specs.Spelling.{number, address}
use Rattle.mm_script.specs.CallLine.{IsNumber}
use Rattle.mm_script.proofs.OneArgument.{behind_first}
use Rattle.mm_script.proofs.calls.next_fault.Goals as goal

pub returns-in_err-next_space-clause-none : goal.returns-in_err-next_space-clause-none
returns-in_err-next_space-clause-none c = rw c.from_residual.ensures (λ space at write rest is_space at_fits are.
    c.in_err-next_space.ensures.none space _ is_space are)

pub returns-in_err-next_address-clause-none : goal.returns-in_err-next_address-clause-none
returns-in_err-next_address-clause-none c = rw c.from_residual-in_err-next_address.ensures (λ space at write rest is_space at_fits are.
    c.in_err-next_address.ensures.none at _ at_fits (behind_first _ _ _ _ _ c.in_ok-next_space.ensures.found.1 are))

pub returns-in_err-next_write-clause-none : goal.returns-in_err-next_write-clause-none
returns-in_err-next_write-clause-none c = rw c.from_residual-in_err-next_write.ensures (λ space at write rest is_space at_fits are.
    c.in_err-next_write.ensures.none write _ (behind_first _ _ _ _ _ c.in_ok-next_address.ensures.found (behind_first _ _ _ _ _ c.in_ok-next_space.ensures.found.1 are)))

pub returns-clause-found : goal.returns-clause-found
returns-clause-found c =
    let space : ℕ = c.in_ok-next_space.field-0 in
    let at : ℕ = c.in_ok-next_address.field-0 in
    let at_fits : IsNumber at = search rules in
    let write : Bool = c.in_ok-next_write.field-0 in
    ((c.in_ok-next_space.ensures.found.0, at_fits), ap (λ ws. codes "fault" ∷ ws) (c.in_ok-next_space.ensures.found.1 ∙ ap (λ ws. number space ∷ ws) (c.in_ok-next_address.ensures.found ∙ ap (λ ws. address at ∷ ws) (c.in_ok-next_write.ensures.found))))
