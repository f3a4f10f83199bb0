-- What was read so far stands before the word that is none.
use Rattle.std.proofs.Common.{ℕ, ◌∷◌, codes, ap, ◌∙◌, rules}
use Rattle.corten_base.specs.declared.permissions.Perm.{Perm}
use Rattle.text_words.specs.Spelling.{number, address}
use Rattle.mm_script.specs.CallLine.{IsNumber}
use Rattle.mm_script.proofs.OneArgument.{behind_first}
use Rattle.mm_script.proofs.ops.next_protect_op.Goals as goal

pub returns-in_err-next_address-clause-none : goal.returns-in_err-next_address-clause-none
returns-in_err-next_address-clause-none c = rw c.from_residual.ensures (λ at len perm rest at_fits len_fits are.
    c.in_err-next_address.ensures.none at _ at_fits are)

pub returns-in_err-next_number-clause-none : goal.returns-in_err-next_number-clause-none
returns-in_err-next_number-clause-none c = rw c.from_residual-in_err-next_number.ensures (λ at len perm rest at_fits len_fits are.
    c.in_err-next_number.ensures.none len _ len_fits (behind_first _ _ _ _ _ c.in_ok-next_address.ensures.found are))

pub returns-in_err-next_perm-clause-none : goal.returns-in_err-next_perm-clause-none
returns-in_err-next_perm-clause-none c = rw c.from_residual-in_err-next_perm.ensures (λ at len perm rest at_fits len_fits are.
    c.in_err-next_perm.ensures.none perm _ (behind_first _ _ _ _ _ c.in_ok-next_number.ensures.found (behind_first _ _ _ _ _ c.in_ok-next_address.ensures.found are)))

pub returns-clause-found : goal.returns-clause-found
returns-clause-found c =
    let at : ℕ = c.in_ok-next_address.field-0 in
    let at_fits : IsNumber at = search rules in
    let len : ℕ = c.in_ok-next_number.field-0 in
    let len_fits : IsNumber len = search rules in
    let perm : Perm = c.in_ok-next_perm.field-0 in
    ((at_fits, len_fits), ap (λ ws. codes "protect" ∷ ws) (c.in_ok-next_address.ensures.found ∙ ap (λ ws. address at ∷ ws) (c.in_ok-next_number.ensures.found ∙ ap (λ ws. number len ∷ ws) (c.in_ok-next_perm.ensures.found))))
