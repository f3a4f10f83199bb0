-- What the list of a cover has, which detach and apply ask.
--     CoverIsFit      its rows but the directory are of the call's space, and they are few
use Rattle.std.specs.Prelude.{◌≡◌, ℕ, ◌<◌, ◌≤◌, List, length, Some}
use Rattle.corten_base.specs.declared.calls.Call.{Call}
use Rattle.page_map.specs.Effect.{space_of}
use Rattle.row_cells.specs.declared.Cell.{Cell}
use Rattle.row_table.specs.declared.view.HeldRow.{HeldRow as KnownRow}
use Rattle.tree_lock.specs.Covers.{CoversZone, IsListOf}
use Rattle.tree_lock.specs.Held.{row_numbers}
use Rattle.walk_core.specs.Lists.{IsDistinct}
use Rattle.machine_plan.specs.HeldRows.{Row, AreOf}
use Rattle.machine_plan.specs.Uses.{zone_of}

abbrev pub CoverIsFit : Type 0
CoverIsFit = (levels count thread : ℕ) (c : Call) (numbers : List ℕ) (known : List (KnownRow (List Cell))) (rows : List Row) → levels < 6 → CoversZone levels count (zone_of thread c) known → IsListOf numbers known rows → IsDistinct (row_numbers rows)
    → ((s : ℕ) → space_of c ≡ Some s → AreOf s rows) × (length rows ≤ count)
