-- Calls that take no number, after which some pages that they use still have theirs.
--     rearranges      a transaction, and a call that gives a range another length
--     remakes, is_remade      whether a change, or one of several, maps or unmaps a page
--     not_remade      the references of the pages that none of them does
--     from_in, to_in      the first page of a range that is to have another length, before and afterwards
--     moved_ref, carried      a reference at the page to which it moves;  the references of a range, none of which stays where the range does
--     AreNear, AreInRange      references of the pages of a range;  all of a kit, where a range moves
--     LeavesSome      what is left of the counts and the kit where some references stay and the others were given back
--     GivesRemadeBack, Carries      those of the pages that no change remakes;  those of a range that moves, if it does
use Rattle.std.specs.Prelude.{◌≡◌, ℕ, ◌+◌, ◌-◌, ◌/◌, ◌^◌, ◌<◌, ◌≤◌, Bool, true, false, cond, not, List, [], map, nat_eq}
use Rattle.std.specs.List.{All, filter, list_any}
use Rattle.corten_base.specs.declared.calls.Call.{Call}
use Rattle.corten_base.specs.declared.calls.Call.TheVariants as call
use Rattle.corten_base.specs.declared.calls.TxnOp.TheVariants as op
use Rattle.table_place.specs.Place.{pages_of}
use Rattle.table_place.specs.Range.{within}
use Rattle.machine_plan.specs.declared.kit.Change.{Change}
use Rattle.machine_plan.specs.declared.kit.Change.TheVariants as change
use Rattle.machine_plan.specs.declared.kit.Kit.{Kit}
use Rattle.machine_plan.specs.Kits.{HasRoom, Refs}
use Rattle.counted_pages.specs.Pages.{PageCounts}
use Rattle.book.specs.Pieces.{GivesBack}
use Rattle.book.specs.Settling.{SameLists}

abbrev pub rearranges : Call → Bool
rearranges (call.Txn space at len ops) = true
rearranges (call.Remap space at old_len new_len) = true
rearranges (call.Map space where_to len perm what) = false
rearranges (call.Unmap space at len) = false
rearranges (call.Protect space at len perm) = false
rearranges (call.Load space at len) = false
rearranges (call.Store space at bytes) = false
rearranges (call.Fault space at write) = false
rearranges call.Spawn = false
rearranges (call.Fork space) = false
rearranges (call.Exit space) = false
rearranges (call.SwapOut space at len) = false
rearranges (call.SwapIn space at len) = false
rearranges (call.DontNeed space at len) = false

abbrev pub is_transaction : Call → Bool
is_transaction (call.Txn space at len ops) = true
is_transaction _ = false

abbrev pub is_remap : Call → Bool
is_remap (call.Remap space at old_len new_len) = true
is_remap _ = false

-- new permissions leave a page its number
abbrev pub remakes : Change → ℕ → Bool
remakes (change.Op (op.Map at fresh len perm what)) page = within (at / 4096) (pages_of len) page
remakes (change.Op (op.Unmap at len)) page = within (at / 4096) (pages_of len) page
remakes (change.Op (op.Protect at len perm)) page = false
remakes (change.Reset first count) page = false
remakes (change.Move first old to new) page = false
remakes (change.GiveUp first count) page = false
remakes (change.Spawn space) page = false
remakes (change.Fork space) page = false
remakes change.Exit page = false

abbrev pub is_remade : List Change → ℕ → Bool
is_remade changes page = list_any (λ change. remakes change page) changes

abbrev pub not_remade : {X : Type 0} → List Change → List (ℕ × X) → List (ℕ × X)
not_remade changes refs = filter (λ r. not (is_remade changes r.0)) refs

abbrev pub from_in : Change → ℕ
from_in (change.Move first old to new) = first
from_in (change.Op o) = 0
from_in (change.Reset first count) = 0
from_in (change.GiveUp first count) = 0
from_in (change.Spawn space) = 0
from_in (change.Fork space) = 0
from_in change.Exit = 0

abbrev pub to_in : Change → ℕ
to_in (change.Move first old to new) = to
to_in (change.Op o) = 0
to_in (change.Reset first count) = 0
to_in (change.GiveUp first count) = 0
to_in (change.Spawn space) = 0
to_in (change.Fork space) = 0
to_in change.Exit = 0

abbrev pub moved_ref : {X : Type 0} → ℕ → ℕ → ℕ × X → ℕ × X
moved_ref first to r = (r.0 - first + to, r.1)

abbrev pub carried : {X : Type 0} → ℕ → ℕ → List (ℕ × X) → List (ℕ × X)
carried first to refs = cond (nat_eq first to) [] (map (moved_ref first to) refs)

abbrev pub AreNear : {X : Type 0} → ℕ → ℕ → List (ℕ × X) → Type 0
AreNear first end refs = All (λ r. (first ≤ r.0) × (r.0 < end)) refs

pub record LeavesSome (pool area : PageCounts) (kit : Kit) (stay : Refs → Refs) (pool' area' : PageCounts) (kit' : Kit) : Type 0 where
  pub frames : GivesBack pool pool' kit.own_frames.items kit'.own_frames.items
  pub slots : GivesBack area area' kit.own_slots.items kit'.own_slots.items
  pub left_frames : kit'.own_frames.items ≡ stay kit.own_frames.items
  pub left_slots : kit'.own_slots.items ≡ stay kit.own_slots.items
  pub came_frames : kit'.frames.items ≡ kit.frames.items
  pub came_slots : kit'.slots.items ≡ kit.slots.items
  pub second_frames : kit'.second_frames.items ≡ kit.second_frames.items
  pub second_slots : kit'.second_slots.items ≡ kit.second_slots.items
  pub lists : HasRoom kit → SameLists kit kit'

abbrev pub GivesRemadeBack : PageCounts → PageCounts → Kit → PageCounts → PageCounts → Kit → Type 0
GivesRemadeBack pool area kit = LeavesSome pool area kit (not_remade kit.changes.items)

abbrev pub Carries : ℕ → ℕ → PageCounts → PageCounts → Kit → PageCounts → PageCounts → Kit → Type 0
Carries first to pool area kit = LeavesSome pool area kit (carried first to)

abbrev pub AreInRange : {X : Type 0} → ℕ → ℕ → List (ℕ × X) → Type 0
AreInRange first to refs = nat_eq first to ≡ false → AreNear first (2 ^ 62) refs
