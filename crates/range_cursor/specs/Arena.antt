-- Mappings that name no place, as held rows see them.
--     SeesArena      rows that have the cover of a thread's arena
--     place_refusal      what refuses such a mapping for its space, or for want of a gap
--     RefusesPlace, GivesPlace      the reply that refuses it;  the least gap, where nothing does
use Rattle.std.specs.Prelude.{◌≡◌, ℕ, ◌^◌, true, false, List, is_some, Option, Some}
use Rattle.std.specs.Option.{option_or}
use Rattle.corten_base.specs.declared.calls.Reply.{Reply}
use Rattle.corten_base.specs.declared.calls.Reply.TheVariants as reply
use Rattle.page_map.specs.Mapping.{arena_first, gap}
use Rattle.page_map.specs.State.{State, IsConsistent, levels, space_at, is_present}
use Rattle.page_map.specs.Step.{refused_unless}
use Rattle.tree_lock.specs.declared.zone.Zone.TheVariants as zone
use Rattle.machine_plan.specs.Cover.{HasCover}
use Rattle.machine_plan.specs.Held.{ListHolds}
use Rattle.machine_plan.specs.HeldRows.{Row, RowsShown, AreOf}

pub record SeesArena (st : State) (depth thread space : ℕ) (rows : List Row) : Type 0 where
  pub consistent : IsConsistent st
  pub same_levels : levels st ≡ depth
  pub shown : RowsShown st rows
  pub cover : HasCover (zone.Pages space (arena_first thread) (2 ^ 27) false) st (ListHolds rows)
  pub one_space : AreOf space rows

abbrev pub place_refusal : State → ℕ → ℕ → ℕ → Option Reply
place_refusal st thread space count =
    option_or (refused_unless (is_present st space) reply.NoSpace) (refused_unless (is_some (gap thread (space_at st space) count)) reply.NoRoom)

-- They are asked of rows whose state is known later.
abbrev pub RefusesPlace : ℕ → ℕ → ℕ → ℕ → List Row → Reply → Type 0
RefusesPlace depth thread space count rows answer = (st : State) → SeesArena st depth thread space rows → place_refusal st thread space count ≡ Some answer

abbrev pub GivesPlace : ℕ → ℕ → ℕ → ℕ → List Row → ℕ → Type 0
GivesPlace depth thread space count rows page =
    (st : State) → SeesArena st depth thread space rows → (is_present st space ≡ true) × (gap thread (space_at st space) count ≡ Some page)
