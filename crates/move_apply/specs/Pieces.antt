-- The pieces of a range that moves, mapped at its new place.
--     piece_range, piece_change      the pages of a piece at the new place, as a change of a range;  as a change of a call
--     pieces_changes      those of all pieces
use Rattle.std.specs.Prelude.{ℕ, ◌+◌, ◌*◌, true, List, map}
use Rattle.corten_base.specs.declared.calls.TxnOp.TheVariants as op
use Rattle.machine_plan.specs.declared.kit.Change.{Change}
use Rattle.machine_plan.specs.declared.kit.Change.TheVariants.{Op}
use Rattle.machine_plan.specs.declared.kit.Piece.{Piece}
use Rattle.cursor_apply.specs.declared.becoming.Making.TheVariants.{Back}
use Rattle.cursor_apply.specs.declared.becoming.RangeChange.{RangeChange}

abbrev pub piece_range : ℕ → Piece → RangeChange
piece_range to p = record { making = Back p.perm p.backing; first = to + p.first; count = p.count }

-- a mapping of fresh pages
abbrev pub piece_change : ℕ → Piece → Change
piece_change to p = Op (op.Map (4096 * (to + p.first)) true (4096 * p.count) p.perm p.backing)

abbrev pub pieces_changes : ℕ → List Piece → List Change
pieces_changes to pieces = map (piece_change to) pieces
