-- The lines so far, and those of the victims that are left, are all.
use Rattle.std.proofs.Common.{◌≡◌, ◌++◌, drop, map}
use Rattle.text_words.specs.Layout.{text}
use Rattle.corten_run.specs.VictimText.{victim_line}
use Rattle.corten_run.proofs.victims.lines_of.Given as goal

abbrev pub invariant-loop-victim : goal.invariant-loop-victim
invariant-loop-victim l = l.out.items ++ text (map victim_line (drop l.victim-index l.victims)) ≡ text (map victim_line l.victims)
