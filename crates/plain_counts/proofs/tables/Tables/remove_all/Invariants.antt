use Rattle.std.proofs.Common.{◌≡◌, take}
use Rattle.std.specs.FinSet as set
use Rattle.plain_counts.proofs.tables.Tables.remove_all.Given as goal

-- the places before this one are out
abbrev pub invariant-loop-place : goal.invariant-loop-place
invariant-loop-place l = l.self ≡ set.difference l.initial.self (set.from_list (take l.place-index l.places))
