-- Calls after which no page that they use has a number.
--     is_plain      a call that maps, unmaps, protects or gives back pages, and one that makes or ends a space
--     place_in, space_in, plain_reply      its reply, by what it changes
--     MayGiveAll, GivesAll      the references of a kit may all be given back;  what is left when they were
use Rattle.std.specs.Prelude.{◌≡◌, ℕ, Bool, true, false, List, [], slice_get}
use Rattle.std.specs.Option.{option_map_or}
use Rattle.corten_base.specs.declared.calls.Call.{Call}
use Rattle.corten_base.specs.declared.calls.Call.TheVariants as call
use Rattle.corten_base.specs.declared.calls.Reply.{Reply}
use Rattle.corten_base.specs.declared.calls.Reply.TheVariants as reply
use Rattle.corten_base.specs.declared.calls.TxnOp.TheVariants as op
use Rattle.machine_plan.specs.declared.kit.Change.{Change}
use Rattle.machine_plan.specs.declared.kit.Change.TheVariants as change
use Rattle.machine_plan.specs.declared.kit.Kit.{Kit}
use Rattle.machine_plan.specs.Kits.{HasRoom, AreBacked}
use Rattle.machine_plan.specs.Uses.{shown_refs}
use Rattle.counted_pages.specs.Pages.{PageCounts}
use Rattle.book.specs.Balance.{AreHeld}
use Rattle.book.specs.Pieces.{GivesBack}
use Rattle.book.specs.Settling.{SameLists}

abbrev pub is_plain : Call → Bool
is_plain (call.Map space where_to len perm what) = true
is_plain (call.Unmap space at len) = true
is_plain (call.Protect space at len perm) = true
is_plain (call.Load space at len) = false
is_plain (call.Store space at bytes) = false
is_plain (call.Fault space at write) = false
is_plain call.Spawn = true
is_plain (call.Fork space) = false
is_plain (call.Exit space) = true
is_plain (call.SwapOut space at len) = false
is_plain (call.SwapIn space at len) = false
is_plain (call.Txn space at len ops) = false
is_plain (call.DontNeed space at len) = true
is_plain (call.Remap space at old_len new_len) = false

-- Each reference of the kit may be taken back.
pub record MayGiveAll (pool area : PageCounts) (kit : Kit) : Type 0 where
  pub held_frames : AreHeld pool (shown_refs kit.own_frames.items)
  pub held_slots : AreHeld area (shown_refs kit.own_slots.items)
  pub backed_frames : AreBacked pool kit.own_frames.items
  pub backed_slots : AreBacked area kit.own_slots.items

pub record GivesAll (pool area : PageCounts) (kit : Kit) (pool' area' : PageCounts) (kit' : Kit) : Type 0 where
  pub frames : GivesBack pool pool' kit.own_frames.items kit'.own_frames.items
  pub slots : GivesBack area area' kit.own_slots.items kit'.own_slots.items
  pub no_frames : kit'.own_frames.items ≡ []
  pub no_slots : kit'.own_slots.items ≡ []
  pub came_frames : kit'.frames.items ≡ kit.frames.items
  pub came_slots : kit'.slots.items ≡ kit.slots.items
  pub second_frames : kit'.second_frames.items ≡ kit.second_frames.items
  pub second_slots : kit'.second_slots.items ≡ kit.second_slots.items
  pub lists : HasRoom kit → SameLists kit kit'

abbrev pub place_in : Change → ℕ
place_in (change.Op (op.Map at fresh len perm what)) = at
place_in (change.Op (op.Unmap at len)) = 0
place_in (change.Op (op.Protect at len perm)) = 0
place_in (change.Reset first count) = 0
place_in (change.Move first old to new) = 0
place_in (change.GiveUp first count) = 0
place_in (change.Spawn space) = 0
place_in (change.Fork space) = 0
place_in change.Exit = 0

abbrev pub space_in : Change → ℕ
space_in (change.Spawn space) = space
space_in (change.Op o) = 0
space_in (change.Reset first count) = 0
space_in (change.Move first old to new) = 0
space_in (change.GiveUp first count) = 0
space_in (change.Fork space) = 0
space_in change.Exit = 0

-- the reply to a call that nothing refuses, by what it changes
abbrev pub plain_reply : Call → List Change → Reply
plain_reply (call.Map space where_to len perm what) changes = reply.At (option_map_or place_in (slice_get changes 0) 0)
plain_reply call.Spawn changes = reply.Space (option_map_or space_in (slice_get changes 0) 0)
plain_reply _ changes = reply.Ok
