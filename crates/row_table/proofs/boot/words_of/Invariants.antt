use Rattle.std.proofs.Common.{◌≡◌, map}
use Rattle.std.specs.List.{range_with_len}
use Rattle.walk_core.specs.Core.{word}
use Rattle.row_table.proofs.boot.words_of.Given as goal

abbrev pub invariant-loop-place : goal.invariant-loop-place
invariant-loop-place l = l.words.items ≡ map (word l.core) (range_with_len 0 l.place)
