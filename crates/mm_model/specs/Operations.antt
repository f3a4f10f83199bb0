-- One mapping operation in a space.
--     made_of      what an operation makes of a page that stands so many pages after its first one
--     is_marked, has_perm      whether a page is what goes on from a mark;  is Invalid or has these permissions
--     up_to      the pages from the first of a range on, where there is one, and else from another on, up to an end
--     cut_in      the tables that a range cuts, and none where there is no range
--     wanted_by, given_up_by      the tables that an operation wants;  that it gives up
--     IsKept      an operation leaves a page as it is that stands so many pages after its first one
--     Alters, Spares      it changes pages from the first to the last of them;  it changes none of a range
--     AreLackedIn, AreLackedBy      a list of the missing tables that a range cuts;  that an operation wants
--     lack_by      the refusal where there are too few tables for it
--     IsFit      its arguments are right, its space is present, and its pages don't refuse it
--     MayOperate      there are also enough page tables, and these are those that it lacks
--     after_operation      the state after it
use Rattle.std.specs.Prelude.{◌≡◌, ℕ, ◌+◌, ◌-◌, ◌≤◌, Bool, true, false, List, [], Option, Some, None}
use Rattle.std.specs.Option.{option_map}
use Rattle.std.specs.FinMap as map
use Rattle.corten_base.specs.declared.calls.Reply.{Reply}
use Rattle.corten_base.specs.declared.calls.TxnOp.{TxnOp}
use Rattle.corten_base.specs.declared.calls.TxnOp.TheVariants as op
use Rattle.corten_base.specs.declared.permissions.Perm.{Perm}
use Rattle.table_place.specs.declared.Place.{Place}
use Rattle.table_place.specs.Range.{within}
use Rattle.table_place.specs.Place.{cut_by, is_inside}
use Rattle.page_map.specs.declared.cell.Cell.{Cell}
use Rattle.page_map.specs.Cell.{backed, with_perm}
use Rattle.page_map.specs.Alike.{unlike_tables}
use Rattle.page_map.specs.Cutting.{Changes}
use Rattle.page_map.specs.Mapping.{after_op, is_right, op_first, op_pages, refused_op}
use Rattle.page_map.specs.State.{State, AddressSpace, is_present, levels, linked, space_at}
use Rattle.page_map.specs.Tables.{changed_tables, missing, need}
use Rattle.page_runs.specs.declared.mark.Mark.{Mark}
use Rattle.plain_counts.specs.declared.cut.Pages.{Pages}
use Rattle.plain_counts.specs.Levels.{Lists}
use Rattle.mm_model.specs.Lacking.{tables_lack}

abbrev pub made_of : TxnOp → ℕ → Option Cell → Option Cell
made_of (op.Map at fresh len perm what) place cell = Some (backed what perm place)
made_of (op.Unmap at len) place cell = None
made_of (op.Protect at len perm) place cell = option_map (with_perm perm) cell

abbrev pub is_marked : Mark → ℕ → Option Cell → Type 0
is_marked mark place cell = Some (backed mark.backing mark.perm place) ≡ cell

abbrev pub has_perm : Perm → Option Cell → Type 0
has_perm perm cell = option_map (with_perm perm) cell ≡ cell

abbrev pub up_to : Option Pages → ℕ → ℕ → Pages
up_to None first end = record { first = first; count = end - first }
up_to (Some pages) first end = record { first = pages.first; count = end - pages.first }

abbrev pub cut_in : ℕ → ℕ → Option Pages → List Place
cut_in levels space None = []
cut_in levels space (Some pages) = cut_by levels space pages.first pages.count

-- those whose spans are not alike afterwards
abbrev pub wanted_by : State → ℕ → TxnOp → List Place
wanted_by st space o = unlike_tables (levels st) space (after_op o (space_at st space))

-- those whose spans lie in the pages that are unmapped
abbrev pub given_up_by : ℕ → ℕ → TxnOp → Place → Bool
given_up_by levels space (op.Unmap at len) p = is_inside levels space (op_first (op.Unmap at len)) (op_pages (op.Unmap at len)) p
given_up_by levels space (op.Map at fresh len perm what) p = false
given_up_by levels space (op.Protect at len perm) p = false

abbrev pub IsKept : TxnOp → ℕ → Option Cell → Type 0
IsKept o place cell = made_of o place cell ≡ cell

abbrev pub Alters : TxnOp → AddressSpace → Pages → Type 0
Alters o cells pages = Changes cells (after_op o cells) pages.first pages.count

abbrev pub Spares : TxnOp → AddressSpace → Pages → Type 0
Spares o cells range = (q : ℕ) → within range.first range.count q ≡ true → map.get (after_op o cells) q ≡ map.get cells q

abbrev pub AreLackedIn : State → ℕ → Option Pages → List Place → Type 0
AreLackedIn st space pages places = Lists (missing (cut_in (levels st) space pages) st.tables) places

abbrev pub AreLackedBy : State → ℕ → TxnOp → List Place → Type 0
AreLackedBy st space o places = Lists (missing (wanted_by st space o) st.tables) places

abbrev pub lack_by : State → ℕ → TxnOp → ℕ → Option Reply
lack_by st space o limbo = tables_lack st (wanted_by st space o) limbo

pub record IsFit (st : State) (space : ℕ) (o : TxnOp) : Type 0 where
  pub right : is_right (levels st) st.files o ≡ true
  pub present : is_present st space ≡ true
  pub allowed : refused_op o (space_at st space) ≡ None

pub record MayOperate (st : State) (space : ℕ) (o : TxnOp) (lacked : List Place) : Type 0 where
  pub fits : IsFit st space o
  pub lists : AreLackedBy st space o lacked
  pub enough : linked st + need (wanted_by st space o) st.tables ≤ st.limits.tables

abbrev pub after_operation : State → ℕ → TxnOp → State
after_operation st space o = record st {
  spaces = map.insert st.spaces space (after_op o (space_at st space));
  tables = changed_tables (given_up_by (levels st) space o) (wanted_by st space o) st.tables;
}
