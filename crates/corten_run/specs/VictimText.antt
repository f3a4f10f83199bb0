-- What `victims` writes of a history.
--     victim_line, victims_text      the line of a victim, and those of some
--     IsFound      the text for a history, and how the call ends then
use Rattle.std.specs.Prelude.{◌≡◌, ℕ, ◌*◌, List, [], ◌∷◌, ◌++◌, map, take, codes}
use Rattle.text_words.specs.Spelling.{number, address}
use Rattle.text_words.specs.Layout.{ended, joined, text}
use Rattle.history_lines.specs.declared.history.History.{History}
use Rattle.history_lines.specs.declared.verdict.Verdict.TheVariants as verdict
use Rattle.history_lines.specs.Checking.{IsLegalHistory, IsVerdict}
use Rattle.pageout.specs.declared.victims.Victim.{Victim}
use Rattle.pageout.specs.Victims.{AreVictims}
use Rattle.corten_run.specs.declared.ending.Ending.{Ending}
use Rattle.corten_run.specs.declared.ending.Ending.TheVariants.{Done, Illegal}

-- its space, its address, and its last touch
abbrev pub victim_line : Victim → List ℕ
victim_line v = joined (codes "victim" ∷ number v.space ∷ address (4096 * v.page) ∷ number v.touched ∷ [])

abbrev pub victims_text : List Victim → List ℕ
victims_text victims = text (map victim_line victims)

-- the first victims of a legal history, and else its first wrong line
abbrev pub IsFound : ℕ → History → Ending → List ℕ → Type 0
IsFound most h Done written = IsLegalHistory h × ((all : List Victim) × AreVictims h.limits h.shelf h.entries all × (written ≡ victims_text (take most all)))
IsFound most h Illegal written = (line : ℕ) × IsVerdict h (verdict.Illegal line) × (written ≡ ended (codes "illegal " ++ number line))
IsFound most h _ written = ⊥
