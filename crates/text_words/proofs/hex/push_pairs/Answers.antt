use Rattle.std.proofs.Common.{◌≡◌, ◌++◌, List, ap, ◌∙◌}
use Rattle.std.specs.List.{flat_map}
use Rattle.text_words.proofs.HexPairs.{hex_of_pairs}
use Rattle.text_words.proofs.hex.push_pairs.Goals as goal

pub returns-clause-ok : goal.returns-clause-ok
returns-clause-ok c =
    c.in_ok-extend_from_slice.ensures.items
    ∙ ap (λ digits. c.args.out.now.items ++ digits)
    (c.as_flattened.ensures.value ∙ ap (flat_map (λ pair. pair)) (c.deref.ensures.value ∙ c.in_ok-pairs.ensures) ∙ hex_of_pairs c.args.bytes.now)
