use Rattle.std.proofs.Common.{ℕ, sym, subst}
use Rattle.pte_word.specs.declared.Pte.{Pte}
use Rattle.pte_word.specs.Entries.{Spells}
use Rattle.tree_lock.proofs.Linked.{no_link}
use Rattle.tree_lock.proofs.ways.link_of.Goals as goal

pub returns-in-Ok-Table : goal.returns-in-Ok-Table
returns-in-Ok-Table c =
    let is = (c.entries_are_those_of_the_core.ensures.links c.in-Ok-Table.row c.in-Ok-Table.generation c.args.word).0 (subst (λ (entry : Pte). Spells entry c.args.word) c.in-Ok-Table.field-0-is c.in-Ok-Table.ensures.read) in
    (is.0, sym is.1, sym is.2)

pub returns-in-Ok-Empty : goal.returns-in-Ok-Empty
returns-in-Ok-Empty c = no_link c.args.word c.read_word.result c.read_word.ensures.only (λ (r g : ℕ). c.entries_are_those_of_the_core.ensures.links r g c.args.word) (λ r g e. let is = c.in-Ok-Empty.is in let that = c.in-Ok-Empty.field-0-is in cc)

pub returns-in-Ok-Leaf : goal.returns-in-Ok-Leaf
returns-in-Ok-Leaf c = no_link c.args.word c.read_word.result c.read_word.ensures.only (λ (r g : ℕ). c.entries_are_those_of_the_core.ensures.links r g c.args.word) (λ r g e. let is = c.in-Ok-Leaf.is in let that = c.in-Ok-Leaf.field-0-is in cc)

pub returns-in-Err : goal.returns-in-Err
returns-in-Err c = no_link c.args.word c.read_word.result c.read_word.ensures.only (λ (r g : ℕ). c.entries_are_those_of_the_core.ensures.links r g c.args.word) (λ r g e. let is = c.in-Err.is in cc)
