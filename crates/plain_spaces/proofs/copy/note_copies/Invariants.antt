use Rattle.std.proofs.Common.{◌≡◌, take}
use Rattle.std.specs.FinSet as set
use Rattle.plain_spaces.specs.Copies.{used_copies}
use Rattle.plain_spaces.proofs.copy.note_copies.Given as goal

-- the copies of the tables before this one are noted
abbrev pub invariant-loop-place : goal.invariant-loop-place
invariant-loop-place l = l.copies ≡ set.union l.initial.copies (set.from_list (used_copies l.levels l.new l.cells (take l.place-index l.places)))
