use Rattle.std.proofs.Common.{◌≡◌, true, map, is_some, replicate}
use Rattle.counted_pages.proofs.spares.Spares.new.Given as goal

abbrev pub invariant-loop : goal.invariant-loop
invariant-loop l = map is_some l.buffers.items ≡ replicate l.counter true
