use Rattle.std.proofs.Common.{◌≡◌, ◌++◌, take, drop}
use Rattle.space_cells.specs.Held.{number_held}
use Rattle.space_cells.specs.Changes.{left, released_of}
use Rattle.space_cells.proofs.changes.released.Given as goal

-- the numbers so far, and those that the changes from this one on release
abbrev pub invariant-loop-place : goal.invariant-loop-place
invariant-loop-place l = l.numbers.items ++ released_of (left (number_held l.pages) (take l.place l.changes)) (drop l.place l.changes) ≡ released_of (number_held l.pages) l.changes
