-- The entries that words spell.
--     Spells      a word is the spelling of an entry
use Rattle.std.specs.Prelude.{◌≡◌, ℕ, ◌<◌, ◌^◌}
use Rattle.walk_core.specs.Words.{link_word, leaf_word}
use Rattle.pte_word.specs.declared.Pte.{Pte}
use Rattle.pte_word.specs.declared.Pte.TheVariants.{Empty, Table, Leaf}

abbrev pub Spells : Pte → ℕ → Type 0
Spells Empty word = word ≡ 0
Spells (Table row generation) word = (row < 1024) × (generation < 2 ^ 30) × (word ≡ link_word row generation)
Spells (Leaf frame write exec) word = (frame < 4096) × (word ≡ leaf_word frame write exec)
