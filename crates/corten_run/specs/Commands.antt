-- The words of the command line.
--     level_count      how many levels the page tables have
--     solo_words      the words of `solo`
--     victims_words      the words of `victims`
--     save_words      the words of `save`
--     Names      the words after the program's name that name a command
--     ReadsHistory      whether a command reads a history
--     Saves      whether a command saves a space
--     usage_line      what other words are answered with
--     greatest_length      the bytes that the text which a command reads may have
use Rattle.std.specs.Prelude.{◌≡◌, ℕ, List, [], ◌∷◌, codes}
use Rattle.text_words.specs.Spelling.{number}
use Rattle.text_words.specs.Layout.{ended}
use Rattle.mm_script.specs.CallLine.{IsSpace, IsWithin}
use Rattle.corten_run.specs.declared.command.Levels.{Levels}
use Rattle.corten_run.specs.declared.command.Levels.TheVariants.{Four, Five}
use Rattle.corten_run.specs.declared.command.Command.{Command}
use Rattle.corten_run.specs.declared.command.Command.TheVariants.{Solo, Check, Victims, Tlb, Save, Restore}

abbrev pub level_count : Levels → ℕ
level_count Four = 4
level_count Five = 5

abbrev pub solo_words : Levels → List (List ℕ)
solo_words Four = codes "solo" ∷ []
solo_words Five = codes "solo" ∷ codes "5" ∷ []

abbrev pub victims_words : ℕ → List (List ℕ)
victims_words most = codes "victims" ∷ number most ∷ []

abbrev pub save_words : ℕ → List (List ℕ)
save_words space = codes "save" ∷ number space ∷ []

abbrev pub Names : List (List ℕ) → Command → Type 0
Names words (Solo levels) = words ≡ solo_words levels
Names words Check = words ≡ codes "check" ∷ []
Names words (Victims most) = IsWithin 1 4096 most × (words ≡ victims_words most)
Names words Tlb = words ≡ codes "tlb" ∷ []
Names words (Save space) = IsSpace space × (words ≡ save_words space)
Names words Restore = words ≡ codes "restore" ∷ []

abbrev pub ReadsHistory : Command → Type 0
ReadsHistory (Solo levels) = ⊥
ReadsHistory Check = Unit {0}
ReadsHistory (Victims most) = Unit {0}
ReadsHistory Tlb = ⊥
ReadsHistory (Save space) = Unit {0}
ReadsHistory Restore = ⊥

abbrev pub Saves : Command → Type 0
Saves (Solo levels) = ⊥
Saves Check = ⊥
Saves (Victims most) = ⊥
Saves Tlb = ⊥
Saves (Save space) = Unit {0}
Saves Restore = ⊥

abbrev pub usage_line : List ℕ
usage_line = ended (codes "usage: cortenmm solo [5] | check | run [5] | load N K | victims N | tlb | save S | restore")

abbrev pub greatest_length : Command → ℕ
greatest_length (Solo levels) = 4194304
greatest_length Check = 67108864
greatest_length (Victims most) = 67108864
greatest_length Tlb = 4194304
greatest_length (Save space) = 67108864
greatest_length Restore = 134217728
