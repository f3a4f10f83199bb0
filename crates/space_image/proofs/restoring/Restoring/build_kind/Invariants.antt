-- The calls of the items so far were made.
use Rattle.std.proofs.Common.{◌≤◌, take}
use Rattle.std.specs.List.{flat_map}
use Rattle.page_map.specs.State.{linked}
use Rattle.space_image.specs.Restoring.{AreEntered, calls_of_kind}
use Rattle.space_image.proofs.restoring.Restoring.build_kind.Given as goal

abbrev pub invariant-loop-item : goal.invariant-loop-item
invariant-loop-item l = record {
  fits : linked l.self.plain ≤ l.self.plain.limits.tables;
  entered : AreEntered l.fn.self.plain l.self.plain l.fn.self.entries.items l.self.entries.items (flat_map (calls_of_kind l.kind) (take l.item-index l.items));
}
