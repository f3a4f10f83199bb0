-- References are shared with a new space.
--     AreShareable      each number has the owners that a list of references names, and room for as many more
--     Shares      counts after each reference of a list got one more owner, by the references that came
--     MayShareAll, SharesAll      the references of a kit may all be shared;  what is there when they were
use Rattle.std.specs.Prelude.{◌≡◌, ℕ, ◌+◌, ◌≤◌, Bool, true, false, [], length}
use Rattle.corten_base.specs.declared.calls.Call.{Call}
use Rattle.corten_base.specs.declared.calls.Call.TheVariants as call
use Rattle.counted_pages.specs.Pages.{PageCounts, HasSpare}
use Rattle.shares.specs.Counts.{count_of}
use Rattle.machine_plan.specs.declared.kit.Kit.{Kit}
use Rattle.machine_plan.specs.declared.kit.Change.{Change}
use Rattle.machine_plan.specs.declared.kit.Change.TheVariants as change
use Rattle.machine_plan.specs.Kits.{HasRoom, Refs, AreBacked, AreSeconds}
use Rattle.machine_plan.specs.Uses.{shown_refs}
use Rattle.book.specs.Balance.{times, InBalance}
use Rattle.book.specs.Settling.{SameLists}

abbrev pub is_fork : Call → Bool
is_fork (call.Fork space) = true
is_fork (call.Map space where_to len perm what) = false
is_fork (call.Unmap space at len) = false
is_fork (call.Protect space at len perm) = false
is_fork (call.Load space at len) = false
is_fork (call.Store space at bytes) = false
is_fork (call.Fault space at write) = false
is_fork call.Spawn = false
is_fork (call.Exit space) = false
is_fork (call.SwapOut space at len) = false
is_fork (call.SwapIn space at len) = false
is_fork (call.Txn space at len ops) = false
is_fork (call.DontNeed space at len) = false
is_fork (call.Remap space at old_len new_len) = false

-- the space that a change copies into, and 0 for another change
abbrev pub copy_in : Change → ℕ
copy_in (change.Fork space) = space
copy_in (change.Op o) = 0
copy_in (change.Reset first count) = 0
copy_in (change.Move first old to new) = 0
copy_in (change.GiveUp first count) = 0
copy_in (change.Spawn space) = 0
copy_in change.Exit = 0

pub record AreShareable (counts : PageCounts) (refs : Refs) : Type 0 where
  pub held : (n : ℕ) → times n (shown_refs refs) ≤ count_of counts.counts n
  pub room : (n : ℕ) → count_of counts.counts n + times n (shown_refs refs) ≤ 64

pub record Shares (old new : PageCounts) (refs came : Refs) : Type 0 where
  pub same : came ≡ refs
  pub balance : InBalance old new (shown_refs refs) (shown_refs refs) (shown_refs came)
  pub spares : (n : ℕ) → HasSpare old n → HasSpare new n
  pub backed : AreBacked new refs

pub record MayShareAll (pool area : PageCounts) (kit : Kit) : Type 0 where
  pub frames : AreShareable pool kit.own_frames.items
  pub slots : AreShareable area kit.own_slots.items
  pub second_frames : AreSeconds pool kit.own_frames.items kit.second_frames.items
  pub second_slots : AreSeconds area kit.own_slots.items kit.second_slots.items
  pub few_frames : length kit.own_frames.items ≤ 4096
  pub few_slots : length kit.own_slots.items ≤ 4096
  pub no_frames : kit.frames.items ≡ []
  pub no_slots : kit.slots.items ≡ []
  pub room : HasRoom kit

pub record SharesAll (pool area : PageCounts) (kit : Kit) (pool' area' : PageCounts) (kit' : Kit) : Type 0 where
  pub frames : Shares pool pool' kit.own_frames.items kit'.frames.items
  pub slots : Shares area area' kit.own_slots.items kit'.slots.items
  pub left_frames : kit'.own_frames.items ≡ kit.own_frames.items
  pub left_slots : kit'.own_slots.items ≡ kit.own_slots.items
  pub second_frames : kit'.second_frames.items ≡ []
  pub second_slots : kit'.second_slots.items ≡ []
  pub lists : SameLists kit kit'
