use Rattle.std.proofs.Common.{◌≡◌, ℕ, ◌<◌, length}
use Rattle.std.specs.Prelude.{slice_get, Some}
use Rattle.cursor_apply.specs.Linking.{spread_cell}
use Rattle.cursor_apply.proofs.spreading.spread.Given as goal

-- the mark stands at so many entries
abbrev pub invariant-loop-index : goal.invariant-loop-index
invariant-loop-index l = record {
  whole : length l.cells ≡ 512;
  each : (i : ℕ) → i < l.index → slice_get l.cells i ≡ Some (spread_cell l.mark l.pages i);
}
