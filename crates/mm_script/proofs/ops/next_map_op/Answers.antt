-- What was read so far stands before the word that is none.
use Rattle.std.proofs.Common.{ℕ, Bool, ◌∷◌, codes, ap, ◌∙◌, rules}
use Rattle.text_words.specs.Spelling.{number, address, permission}
use Rattle.mm_script.specs.CallLine.{fresh_word, IsNumber}
use Rattle.mm_script.proofs.OneArgument.{behind_first}
use Rattle.mm_script.proofs.ops.next_map_op.Goals as goal

pub returns-in_err-fresh-clause-none : goal.returns-in_err-fresh-clause-none
returns-in_err-fresh-clause-none c = rw c.from_residual.ensures (λ at len fresh perm what rest at_fits len_fits is_backing are.
    c.in_err-fresh.ensures.none fresh _ are)

pub returns-in_err-next_address-clause-none : goal.returns-in_err-next_address-clause-none
returns-in_err-next_address-clause-none c = rw c.from_residual-in_err-next_address.ensures (λ at len fresh perm what rest at_fits len_fits is_backing are.
    c.in_err-next_address.ensures.none at _ at_fits (behind_first _ _ _ _ _ c.in_ok-fresh.ensures.found are))

pub returns-in_err-next_number-clause-none : goal.returns-in_err-next_number-clause-none
returns-in_err-next_number-clause-none c = rw c.from_residual-in_err-next_number.ensures (λ at len fresh perm what rest at_fits len_fits is_backing are.
    c.in_err-next_number.ensures.none len _ len_fits (behind_first _ _ _ _ _ c.in_ok-next_address.ensures.found (behind_first _ _ _ _ _ c.in_ok-fresh.ensures.found are)))

pub returns-in_err-next_perm-clause-none : goal.returns-in_err-next_perm-clause-none
returns-in_err-next_perm-clause-none c = rw c.from_residual-in_err-next_perm.ensures (λ at len fresh perm what rest at_fits len_fits is_backing are.
    c.in_err-next_perm.ensures.none perm _ (behind_first _ _ _ _ _ c.in_ok-next_number.ensures.found
    (behind_first _ _ _ _ _ c.in_ok-next_address.ensures.found (behind_first _ _ _ _ _ c.in_ok-fresh.ensures.found are))))

pub returns-in_err-next_backing-clause-none : goal.returns-in_err-next_backing-clause-none
returns-in_err-next_backing-clause-none c = rw c.from_residual-in_err-next_backing.ensures (λ at len fresh perm what rest at_fits len_fits is_backing are.
    c.in_err-next_backing.ensures.none what _ is_backing (behind_first _ _ _ _ _ c.in_ok-next_perm.ensures.found
    (behind_first _ _ _ _ _ c.in_ok-next_number.ensures.found (behind_first _ _ _ _ _ c.in_ok-next_address.ensures.found (behind_first _ _ _ _ _ c.in_ok-fresh.ensures.found are)))))

pub returns-clause-found : goal.returns-clause-found
returns-clause-found c =
    let fresh : Bool = c.in_ok-fresh.fresh in
    let at : ℕ = c.in_ok-next_address.field-0 in
    let len : ℕ = c.in_ok-next_number.field-0 in
    let perm = c.in_ok-next_perm.field-0 in
    let backings = c.in_ok-next_backing.ensures.found in
    let at_fits : IsNumber at = search rules in
    let len_fits : IsNumber len = search rules in (
      (at_fits, len_fits, backings.0),
      ap (λ ws. codes "map" ∷ ws) (c.in_ok-fresh.ensures.found ∙ ap (λ ws. fresh_word fresh ∷ ws) (c.in_ok-next_address.ensures.found ∙ ap (λ ws. address at ∷ ws)
          (c.in_ok-next_number.ensures.found ∙ ap (λ ws. number len ∷ ws) (c.in_ok-next_perm.ensures.found ∙ ap (λ ws. permission perm ∷ ws) backings.1)))),
    )
