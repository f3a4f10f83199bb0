-- What was read so far stands before the word that is none; for more than a place, places are told apart.
use Rattle.std.proofs.Common.{ℕ, ◌∷◌, ◌++◌, codes, sym, ap, ◌∙◌, rules}
use Rattle.text_words.specs.Spelling.{number, permission}
use Rattle.mm_script.specs.CallLine.{place_words, IsNumber}
use Rattle.mm_script.proofs.CallForms.{map_words-append}
use Rattle.mm_script.proofs.OneArgument.{no_behind_place, behind_first}
use Rattle.mm_script.proofs.calls.next_map.Goals as goal

pub returns-in_err-next_space-clause-none : goal.returns-in_err-next_space-clause-none
returns-in_err-next_space-clause-none c = rw c.from_residual.ensures (λ space len at perm what rest is_space is_place len_fits is_backing are.
    c.in_err-next_space.ensures.none space _ is_space are)

pub returns-in_err-next_place-clause-none : goal.returns-in_err-next_place-clause-none
returns-in_err-next_place-clause-none c = rw c.from_residual-in_err-next_place.ensures (λ space len at perm what rest is_space is_place len_fits is_backing are.
    c.in_err-next_place.ensures.none at _ is_place (behind_first _ _ _ _ _ c.in_ok-next_space.ensures.found.1 are))

pub returns-in_err-next_number-clause-none : goal.returns-in_err-next_number-clause-none
returns-in_err-next_number-clause-none c = rw c.from_residual-in_err-next_number.ensures (λ space len at perm what rest is_space is_place len_fits is_backing are.
    let spaces = c.in_ok-next_space.ensures.found in
    let places = c.in_ok-next_place.ensures.found in
    no_behind_place c.args.words.now c.next_space.new.words c.next_place.new.words _ c.in_ok-next_space.field-0 space c.in_ok-next_place.field-0 at places.0 is_place spaces.1 places.1
    (λ same. c.in_err-next_number.ensures.none len _ len_fits same) are)

pub returns-in_err-next_perm-clause-none : goal.returns-in_err-next_perm-clause-none
returns-in_err-next_perm-clause-none c = rw c.from_residual-in_err-next_perm.ensures (λ space len at perm what rest is_space is_place len_fits is_backing are.
    let spaces = c.in_ok-next_space.ensures.found in
    let places = c.in_ok-next_place.ensures.found in
    no_behind_place c.args.words.now c.next_space.new.words c.next_place.new.words _ c.in_ok-next_space.field-0 space c.in_ok-next_place.field-0 at places.0 is_place spaces.1 places.1
    (λ same. c.in_err-next_perm.ensures.none perm _ (behind_first _ _ _ _ _ c.in_ok-next_number.ensures.found same)) are)

pub returns-in_err-next_backing-clause-none : goal.returns-in_err-next_backing-clause-none
returns-in_err-next_backing-clause-none c = rw c.from_residual-in_err-next_backing.ensures (λ space len at perm what rest is_space is_place len_fits is_backing are.
    let spaces = c.in_ok-next_space.ensures.found in
    let places = c.in_ok-next_place.ensures.found in
    no_behind_place c.args.words.now c.next_space.new.words c.next_place.new.words _ c.in_ok-next_space.field-0 space c.in_ok-next_place.field-0 at places.0 is_place spaces.1 places.1
    (λ same. c.in_err-next_backing.ensures.none what _ is_backing
    (behind_first _ _ _ _ _ c.in_ok-next_perm.ensures.found (behind_first _ _ _ _ _ c.in_ok-next_number.ensures.found same))) are)

pub returns-clause-found : goal.returns-clause-found
returns-clause-found c =
    let spaces = c.in_ok-next_space.ensures.found in
    let places = c.in_ok-next_place.ensures.found in
    let backings = c.in_ok-next_backing.ensures.found in
    let space : ℕ = c.in_ok-next_space.field-0 in
    let at = c.in_ok-next_place.field-0 in
    let len : ℕ = c.in_ok-next_number.field-0 in
    let perm = c.in_ok-next_perm.field-0 in
    let what = c.in_ok-next_backing.field-0 in
    let fits : IsNumber len = search rules in (
      (spaces.0, places.0, fits, backings.0),
      ap (λ ws. codes "map" ∷ ws) (spaces.1 ∙ ap (λ ws. number space ∷ ws) (places.1 ∙ ap (λ ws. place_words at ++ ws)
          (c.in_ok-next_number.ensures.found ∙ ap (λ ws. number len ∷ ws) (c.in_ok-next_perm.ensures.found ∙ ap (λ ws. permission perm ∷ ws) backings.1))))
          ∙ sym (map_words-append space len at perm what c.next_backing.new.words),
    )
