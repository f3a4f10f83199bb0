-- How many page tables each call lacks.
--     map_op      the operation of a mapping
--     IsHeldFor      the held rows are the cover of a call in a state in which nothing refuses it before its tables
--     IsPlacedAt      the page to which a call without a place of its own, or a range that moves, is put
--     AnswersNeed      how many page tables a call needs in each such state
use Rattle.std.specs.Prelude.{◌≡◌, ℕ, ◌*◌, ◌<◌, true, false, List, Some, None}
use Rattle.corten_base.specs.declared.calls.Call.{Call}
use Rattle.corten_base.specs.declared.calls.Call.TheVariants as call
use Rattle.corten_base.specs.declared.calls.MapPlace.{MapPlace}
use Rattle.corten_base.specs.declared.calls.MapPlace.TheVariants as place
use Rattle.corten_base.specs.declared.calls.Backing.{Backing}
use Rattle.corten_base.specs.declared.calls.TxnOp.{TxnOp}
use Rattle.corten_base.specs.declared.calls.TxnOp.TheVariants as op
use Rattle.corten_base.specs.declared.permissions.Perm.{Perm}
use Rattle.table_place.specs.Place.{pages_of}
use Rattle.page_map.specs.Effect.{space_of, wanted_tables}
use Rattle.page_map.specs.Mapping.{gap}
use Rattle.page_map.specs.Remap.{resize_of, put_at}
use Rattle.page_map.specs.State.{State, levels, space_at}
use Rattle.page_map.specs.Tables.{need}
use Rattle.machine_plan.specs.declared.kit.Piece.{Piece}
use Rattle.machine_plan.specs.Cover.{HasCover}
use Rattle.machine_plan.specs.Held.{ListHolds}
use Rattle.machine_plan.specs.HeldRows.{Row, AreOf}
use Rattle.machine_plan.specs.Moving.{HasPieces}
use Rattle.machine_plan.specs.Uses.{early_refusal, zone_of}
use Rattle.held_needs.specs.Found.{IsStateOf}

-- without a place of its own it goes to a page that is told
abbrev pub map_op : MapPlace → ℕ → ℕ → Perm → Backing → TxnOp
map_op place.Any to len perm what = op.Map (4096 * to) false len perm what
map_op (place.At at) to len perm what = op.Map at false len perm what
map_op (place.New at) to len perm what = op.Map at true len perm what

pub record IsHeldFor (number : ℕ) (rows : List Row) (thread : ℕ) (c : Call) (st : State) : Type 0 where
  pub state : IsStateOf number rows st
  pub known : thread < 8
  pub cover : HasCover (zone_of thread c) st (ListHolds rows)
  pub one_space : (s : ℕ) → space_of c ≡ Some s → AreOf s rows
  pub passed : early_refusal st thread c ≡ None

abbrev pub IsPlacedAt : State → ℕ → Call → ℕ → Type 0
IsPlacedAt st thread (call.Map space place.Any len perm what) to = gap thread (space_at st space) (pages_of len) ≡ Some to
IsPlacedAt st thread (call.Remap space at old_len new_len) to = put_at (levels st) thread (space_at st space) (resize_of at old_len new_len) ≡ to
IsPlacedAt st thread _ to = Unit {0}

abbrev pub AnswersNeed : ℕ → List Row → Call → ℕ → List Piece → ℕ → Type 0
AnswersNeed number rows c to pieces count = (thread : ℕ) (st : State) → IsHeldFor number rows thread c st → IsPlacedAt st thread c to → HasPieces st thread c pieces
    → need (wanted_tables st thread c) st.tables ≡ count
