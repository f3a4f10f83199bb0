-- Words name one command at most: the second letters of the first words differ.
use Rattle.std.proofs.Common.{◌≡◌, ℕ, List, [], ◌∷◌, length, refl, sym, ap, ◌∙◌, arith}
use Rattle.mm_script.proofs.OneArgument.{same_number}
use Rattle.corten_run.specs.Commands.{Names}
use Rattle.corten_run.specs.declared.command.Levels.{Levels}
use Rattle.corten_run.specs.declared.command.Levels.TheVariants.{Four, Five}
use Rattle.corten_run.specs.declared.command.Command.{Command}
use Rattle.corten_run.specs.declared.command.Command.TheVariants.{Solo, Check, Victims, Tlb, Save, Restore}

abbrev second_letter : List (List ℕ) → ℕ
second_letter ((first ∷ second ∷ letters) ∷ words) = second
second_letter _ = 0

abbrev letter_of : Command → ℕ
letter_of (Solo levels) = 111
letter_of Check = 104
letter_of (Victims most) = 105
letter_of Tlb = 108
letter_of (Save space) = 97
letter_of Restore = 101

has_letter : (words : List (List ℕ)) (c : Command) → Names words c → second_letter words ≡ letter_of c
has_letter words (Solo Four) h = ap second_letter h
has_letter words (Solo Five) h = ap second_letter h
has_letter words Check h = ap second_letter h
has_letter words (Victims most) h = ap second_letter h.1
has_letter words Tlb h = ap second_letter h
has_letter words (Save space) h = ap second_letter h.1
has_letter words Restore h = ap second_letter h

second : {a b x y : List ℕ} → a ∷ x ∷ [] ≡ b ∷ y ∷ [] → x ≡ y
second e = cc

same_levels : (words : List (List ℕ)) (a b : Levels) → Names words (Solo a) → Names words (Solo b) → a ≡ b
same_levels words Four Four ha hb = refl
same_levels words Five Five ha hb = refl
same_levels words Four Five ha hb = let differ = ap (λ (ws : List (List ℕ)). length ws) (sym ha ∙ hb) in absurd (omega (arith, differ))
same_levels words Five Four ha hb = let differ = ap (λ (ws : List (List ℕ)). length ws) (sym ha ∙ hb) in absurd (omega (arith, differ))

same_command : (words : List (List ℕ)) (a b : Command) → Names words a → Names words b → letter_of a ≡ letter_of b → a ≡ b
same_command words (Solo a) (Solo b) ha hb e = ap Solo (same_levels words a b ha hb)
same_command words Check Check ha hb e = refl
same_command words (Victims m) (Victims n) ha hb e = ap Victims (same_number m n 4096 ha.0.1 hb.0.1 (omega arith) (second (sym ha.1 ∙ hb.1)))
same_command words Tlb Tlb ha hb e = refl
same_command words (Save m) (Save n) ha hb e = ap Save (same_number m n 63 (omega (arith, ha.0)) (omega (arith, hb.0)) (omega arith) (second (sym ha.1 ∙ hb.1)))
same_command words Restore Restore ha hb e = refl
same_command words _ _ ha hb e = absurd (omega (arith, e))

pub one_command : (words : List (List ℕ)) (a b : Command) → Names words a → Names words b → a ≡ b
one_command words a b ha hb = same_command words a b ha hb (sym (has_letter words a ha) ∙ has_letter words b hb)
