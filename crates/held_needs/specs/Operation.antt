-- The page tables that a mapping operation lacks, found from what stands at the ends of its range.
--     made_of      what an operation makes of a page that stands so many pages after its first one
--     HasPerm, IsKept      a page is Invalid or has these permissions;  an operation leaves a page at which this stands
--     range_of      the pages of an operation
--     LeavesPage, ChangesPage, OpEnd      above a page at the end of a range that an operation leaves no table counts, and above one that it changes those that are missing
--     AnswersEnd      so it is told of held rows
--     OpLacks      how many page tables an operation lacks
use Rattle.std.specs.Prelude.{◌≡◌, ℕ, ◌-◌, ◌⊎◌, true, List, Option, Some, None}
use Rattle.std.specs.Option.{option_map}
use Rattle.corten_base.specs.declared.numbers.Status.{Status}
use Rattle.corten_base.specs.declared.numbers.Status.TheVariants as status
use Rattle.corten_base.specs.declared.calls.TxnOp.{TxnOp}
use Rattle.corten_base.specs.declared.calls.TxnOp.TheVariants as op
use Rattle.corten_base.specs.declared.permissions.Perm.{Perm}
use Rattle.table_place.specs.Place.{is_page_range}
use Rattle.page_map.specs.declared.cell.Cell.{Cell}
use Rattle.page_map.specs.Cell.{backed, with_perm, status_of}
use Rattle.page_map.specs.Alike.{unlike_tables}
use Rattle.page_map.specs.Mapping.{after_op, op_at, op_len, op_first, op_pages}
use Rattle.page_map.specs.State.{State, cell_at, space_at}
use Rattle.page_map.specs.Tables.{need}
use Rattle.plain_counts.specs.declared.cut.Pages.{Pages}
use Rattle.machine_plan.specs.HeldRows.{Row, IsAsked}
use Rattle.held_needs.specs.Cutting.{IsLowest, last_of}
use Rattle.held_needs.specs.Found.{IsStateOf}

abbrev pub made_of : TxnOp → ℕ → Option Cell → Option Cell
made_of (op.Map at fresh len perm what) place cell = Some (backed what perm place)
made_of (op.Unmap at len) place cell = None
made_of (op.Protect at len perm) place cell = option_map (with_perm perm) cell

abbrev pub HasPerm : Perm → Status → Type 0
HasPerm perm status.Invalid = Unit {0}
HasPerm perm (status.Anon now) = now ≡ perm
HasPerm perm (status.File now file index) = now ≡ perm
HasPerm perm (status.Mapped now frame) = now ≡ perm
HasPerm perm (status.Swapped now slot) = now ≡ perm

abbrev pub IsKept : TxnOp → ℕ → Status → Type 0
IsKept (op.Map at fresh len perm what) place now = now ≡ status_of (Some (backed what perm place))
IsKept (op.Unmap at len) place now = now ≡ status.Invalid
IsKept (op.Protect at len perm) place now = HasPerm perm now

abbrev pub range_of : TxnOp → Pages
range_of o = record { first = op_first o; count = op_pages o }

abbrev pub LeavesPage : State → ℕ → TxnOp → ℕ → Type 0
LeavesPage st space o page = made_of o (page - op_first o) (cell_at st space page) ≡ cell_at st space page

-- where nothing counts, the lowest table that is there might as well be one of level 1
abbrev pub OpEnd : ℕ → State → ℕ → TxnOp → ℕ → ℕ → Type 0
OpEnd levels st space o page lowest =
    (LeavesPage st space o page × (lowest ≡ 1)) ⊎ ((¬ LeavesPage st space o page) × IsLowest levels space page st.tables lowest)

abbrev pub AnswersEnd : List Row → TxnOp → ℕ → ℕ → Type 0
AnswersEnd rows o page lowest = (levels space : ℕ) (st : State) → IsStateOf levels rows st → IsAsked space rows page → OpEnd levels st space o page lowest

abbrev pub OpLacks : ℕ → List Row → TxnOp → ℕ → Type 0
OpLacks levels rows o count = (space : ℕ) (st : State) → IsStateOf levels rows st → is_page_range levels (op_at o) (op_len o) ≡ true
    → IsAsked space rows (op_first o) → IsAsked space rows (last_of (range_of o))
    → need (unlike_tables levels space (after_op o (space_at st space))) st.tables ≡ count
