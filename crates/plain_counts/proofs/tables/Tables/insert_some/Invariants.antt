use Rattle.std.proofs.Common.{◌≡◌, take}
use Rattle.std.specs.FinSet as set
use Rattle.plain_counts.proofs.tables.Tables.insert_some.Given as goal

-- the places before this one are in
abbrev pub invariant-loop-place : goal.invariant-loop-place
invariant-loop-place l = l.self ≡ set.union l.initial.self (set.from_list (take l.place-index l.places))
