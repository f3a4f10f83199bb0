use Rattle.std.proofs.Common.{Ok, refl, ap, sym, ◌∙◌, arith}
use Rattle.walk_core.specs.Words.{link_row, link_generation, leaf_frame, leaf_write, leaf_exec}
use Rattle.pte_word.specs.declared.Pte.{Pte}
use Rattle.pte_word.specs.declared.Pte.TheVariants.{Empty, Table, Leaf}
use Rattle.pte_word.specs.Entries.{Spells}
use Rattle.pte_word.proofs.Readings.{one_reading, no_reading}
use Rattle.pte_word.proofs.read_word.Goals as goal
use Rattle.pte_word.proofs.read_word.Goals.{else-generation-lt-GENERATIONS-via-then-generation-lt-GENERATIONS+else-word-table_word, else-generation-lt-GENERATIONS-via-else-generation-lt-GENERATIONS}

pub returns-then-word-eq0-clause-only : goal.returns-then-word-eq0-clause-only
returns-then-word-eq0-clause-only c = λ entry s. ap Ok (one_reading Empty entry c.args.word c.if-word-eq0.true s)

pub returns-then-word-eq0-clause-strange : goal.returns-then-word-eq0-clause-strange
returns-then-word-eq0-clause-strange c = (λ wrong. absurd cc, λ none. absurd (none Empty c.if-word-eq0.true))

a_link : (c : goal.Then-word-table_word) → Spells (Table (link_row c.args.word) (link_generation c.args.word)) c.args.word
a_link c = (omega arith, c.if-generation-lt-GENERATIONS.true, c.if-word-table_word.true ∙ c.table_word.ensures)

pub returns-then-word-table_word-clause-only : goal.returns-then-word-table_word-clause-only
returns-then-word-table_word-clause-only c = λ entry s. ap Ok (one_reading _ entry c.args.word (a_link c) s)

pub returns-then-word-table_word-clause-strange : goal.returns-then-word-table_word-clause-strange
returns-then-word-table_word-clause-strange c = (λ wrong. absurd cc, λ none. absurd (none (Table (link_row c.args.word) (link_generation c.args.word)) (a_link c)))

a_leaf : (c : goal.Then-word-leaf_word) → Spells (Leaf (leaf_frame c.args.word) (leaf_write c.args.word) (leaf_exec c.args.word)) c.args.word
a_leaf c = (omega arith, c.if-word-leaf_word.true ∙ c.leaf_word.ensures)

pub returns-then-word-leaf_word-clause-only : goal.returns-then-word-leaf_word-clause-only
returns-then-word-leaf_word-clause-only c = λ entry s. ap Ok (one_reading _ entry c.args.word (a_leaf c) s)

pub returns-then-word-leaf_word-clause-strange : goal.returns-then-word-leaf_word-clause-strange
returns-then-word-leaf_word-clause-strange c = (λ wrong. absurd cc, λ none. absurd (none (Leaf (leaf_frame c.args.word) (leaf_write c.args.word) (leaf_exec c.args.word)) (a_leaf c)))

nothing : (c : goal.Else-word-leaf_word) → (entry : Pte) → Spells entry c.args.word → ⊥
nothing c = no_reading c.args.word c.if-word-eq0.false
    (λ low same. elim c.else-generation-lt-GENERATIONS.branch [
      | else-generation-lt-GENERATIONS-via-then-generation-lt-GENERATIONS+else-word-table_word w ↦ w.if-word-table_word.false (same ∙ sym w.table_word.ensures)
      | else-generation-lt-GENERATIONS-via-else-generation-lt-GENERATIONS w ↦ absurd (omega (arith, low, w.if-generation-lt-GENERATIONS.false))
    ])
    (λ same. c.if-word-leaf_word.false (same ∙ sym c.leaf_word.ensures))

pub returns-clause-only : goal.returns-clause-only
returns-clause-only c = λ entry s. absurd (nothing c entry s)

pub returns-clause-strange : goal.returns-clause-strange
returns-clause-strange c = (λ _. nothing c, λ _. refl)
