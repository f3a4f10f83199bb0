-- Calls on a range of pages as held rows see them.
--     SeesRange      rows that have the cover of a range of user pages
--     is_back, is_operation      whether a call gives pages back;  whether it unmaps or protects them
--     range_refusal, AnswersRange      what refuses a call for its range or its space;  the same of rows
use Rattle.std.specs.Prelude.{◌≡◌, ℕ, ◌/◌, Bool, true, false, List, Option}
use Rattle.std.specs.Option.{option_or}
use Rattle.corten_base.specs.declared.calls.Call.{Call}
use Rattle.corten_base.specs.declared.calls.Call.TheVariants as call
use Rattle.corten_base.specs.declared.calls.Reply.{Reply}
use Rattle.corten_base.specs.declared.calls.Reply.TheVariants as reply
use Rattle.page_map.specs.State.{State, IsConsistent, levels, is_present}
use Rattle.page_map.specs.Step.{refused_unless}
use Rattle.table_place.specs.Place.{is_page_range, pages_of}
use Rattle.tree_lock.specs.declared.zone.Zone.TheVariants as zone
use Rattle.machine_plan.specs.Cover.{HasCover}
use Rattle.machine_plan.specs.Held.{ListHolds}
use Rattle.machine_plan.specs.HeldRows.{Row, RowsShown, AreOf}

pub record SeesRange (st : State) (depth space at len : ℕ) (strict : Bool) (rows : List Row) : Type 0 where
  pub consistent : IsConsistent st
  pub same_levels : levels st ≡ depth
  pub shown : RowsShown st rows
  pub cover : is_page_range depth at len ≡ true → HasCover (zone.Pages space (at / 4096) (pages_of len) strict) st (ListHolds rows)
  pub one_space : AreOf space rows

abbrev pub range_refusal : State → ℕ → ℕ → ℕ → ℕ → Option Reply
range_refusal st depth space at len = option_or (refused_unless (is_page_range depth at len) reply.Einval) (refused_unless (is_present st space) reply.NoSpace)

abbrev pub is_back : Call → Bool
is_back (call.DontNeed space at len) = true
is_back _ = false

-- It is asked of rows whose state is known later.
abbrev pub AnswersRange : ℕ → ℕ → ℕ → ℕ → List Row → Option Reply → Type 0
AnswersRange depth space at len rows answer = (st : State) (strict : Bool) → SeesRange st depth space at len strict rows → range_refusal st depth space at len ≡ answer

abbrev pub is_operation : Call → Bool
is_operation (call.Unmap space at len) = true
is_operation (call.Protect space at len perm) = true
is_operation _ = false
