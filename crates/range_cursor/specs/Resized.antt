-- Calls that give a range another length, as held rows see them.
--     is_remap      whether a call does
--     SeesResize      rows that have the cover of the space of such a call
--     RefusesResize, GivesPlacing      the reply that refuses it early;  where its range goes, where nothing does
--     placed_by, left_from, left_by      the first page that a range has afterwards;  the pages that it gives up
--     IsWithinSpace      a range all of whose numbers are of 63 bits
use Rattle.std.specs.Prelude.{◌≡◌, ℕ, ◌+◌, ◌-◌, ◌^◌, ◌<◌, Bool, true, false, List, Some, None}
use Rattle.corten_base.specs.declared.calls.Call.{Call}
use Rattle.corten_base.specs.declared.calls.Call.TheVariants as call
use Rattle.corten_base.specs.declared.calls.Reply.{Reply}
use Rattle.page_map.specs.Mapping.{is_length}
use Rattle.page_map.specs.Remap.{Resize, resize_of}
use Rattle.page_map.specs.State.{State, IsConsistent, levels, space_at}
use Rattle.table_place.specs.Place.{is_page_range}
use Rattle.tree_lock.specs.declared.zone.Zone.TheVariants as zone
use Rattle.machine_plan.specs.Cover.{HasCover}
use Rattle.machine_plan.specs.Held.{ListHolds}
use Rattle.machine_plan.specs.HeldRows.{Row, RowsShown, AreOf}
use Rattle.machine_plan.specs.Uses.{early_refusal}
use Rattle.held_spans.specs.declared.resizing.Placing.{Placing}
use Rattle.held_spans.specs.declared.resizing.Placing.TheVariants.{Stays, Moves}
use Rattle.held_spans.specs.declared.resizing.Resize.{Resize as Range}
use Rattle.held_spans.specs.Resizing.{IsPlaced}

abbrev pub is_remap : Call → Bool
is_remap (call.Remap space at old_len new_len) = true
is_remap _ = false

pub record SeesResize (st : State) (depth space at old_len new_len : ℕ) (rows : List Row) : Type 0 where
  pub consistent : IsConsistent st
  pub same_levels : levels st ≡ depth
  pub shown : RowsShown st rows
  pub cover : is_page_range depth at old_len ≡ true → is_length depth new_len ≡ true → HasCover (zone.Space space) st (ListHolds rows)
  pub one_space : AreOf space rows

-- They are asked of rows whose state is known later.
abbrev pub RefusesResize : ℕ → ℕ → ℕ → ℕ → ℕ → ℕ → List Row → Reply → Type 0
RefusesResize depth thread space at old_len new_len rows answer =
    (st : State) → SeesResize st depth space at old_len new_len rows → early_refusal st thread (call.Remap space at old_len new_len) ≡ Some answer

abbrev pub GivesPlacing : ℕ → ℕ → ℕ → ℕ → ℕ → ℕ → List Row → Placing → Type 0
GivesPlacing depth thread space at old_len new_len rows placing =
    (st : State) → SeesResize st depth space at old_len new_len rows
    → (early_refusal st thread (call.Remap space at old_len new_len) ≡ None) × IsPlaced depth thread (space_at st space) (resize_of at old_len new_len) (Some placing)

abbrev pub placed_by : Resize → Placing → ℕ
placed_by r Stays = r.first
placed_by r (Moves to) = to

-- all of its old pages where it moves, and else those behind its new end
abbrev pub left_from : Resize → Placing → ℕ
left_from r Stays = r.first + r.new
left_from r (Moves to) = r.first

abbrev pub left_by : Resize → Placing → ℕ
left_by r Stays = r.old - r.new
left_by r (Moves to) = r.old

pub record IsWithinSpace (r : Range) : Type 0 where
  pub old : r.first + r.old < 2 ^ 63
  pub new : r.first + r.new < 2 ^ 63
