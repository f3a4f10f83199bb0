-- What the operations of a transaction leave at each page: a cell, none, or what was there.
--     presence_after      whether the pages of an operation have cells after it, where it settles that
--     covered_by, covered      the same at a page, after one operation;  after some in order
--     is_as      whether a test comes out like this
use Rattle.std.specs.Prelude.{ℕ, Bool, true, false, cond, not, List, [], ◌∷◌, Option, Some, None}
use Rattle.std.specs.Option.{option_or}
use Rattle.corten_base.specs.declared.calls.TxnOp.{TxnOp}
use Rattle.corten_base.specs.declared.calls.TxnOp.TheVariants as op
use Rattle.table_place.specs.Range.{within}
use Rattle.page_map.specs.Mapping.{op_first, op_pages}

-- a mapping gives each page a cell, unmapping takes it, and other permissions leave it
abbrev pub presence_after : TxnOp → Option Bool
presence_after (op.Map at fresh len perm what) = Some true
presence_after (op.Unmap at len) = Some false
presence_after (op.Protect at len perm) = None

abbrev pub covered_by : TxnOp → ℕ → Option Bool
covered_by o page = cond (within (op_first o) (op_pages o) page) (presence_after o) None

-- the last that settles it
abbrev pub covered : List TxnOp → ℕ → Option Bool
covered [] page = None
covered (o ∷ os) page = option_or (covered os page) (covered_by o page)

abbrev pub is_as : Bool → Bool → Bool
is_as true b = b
is_as false b = not b
