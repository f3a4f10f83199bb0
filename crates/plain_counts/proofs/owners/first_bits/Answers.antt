use Rattle.std.proofs.Common.{rules, ◌≡◌, ◌-◌, ◌/◌, ◌%◌, replicate, ap, ◌∙◌, ◌++◌, [], ◌∷◌, arith}
use Rattle.std.proofs.lemmas.Nat.{one_shl}
use Rattle.plain_counts.specs.Owners.{bit_of}
use Rattle.plain_counts.proofs.Bits.{bit_of-first}
use Rattle.plain_counts.proofs.owners.first_bits.Goals as goal

pub returns-clause-bits : goal.returns-clause-bits
returns-clause-bits c = λ m.
    let ones : c.in_ok-words.words.items ≡ replicate (c.args.numbers / 64) 18446744073709551615 = c.in_ok-words.ensures.items_if_clones_equal (search rules) in
    ap (λ ws. bit_of ws m) (c.in_ok-push.ensures.items ∙ (λ i. ones i ++ (one_shl (c.args.numbers % 64) 64 (omega arith) i - 1) ∷ [])) ∙ bit_of-first c.args.numbers m
