-- References move to numbers of the other kind, from frames to slots and back.
--     is_out, is_in, moves_pages      `out`, `in`, and either
--     is_sole      whether a reference is the only one of its number
--     paged, pages      the page and the bytes of a reference;  the pages of a list
--     Arrives      counts after a number was taken for each reference of a list, by the references that came
--     MayGoOut, GoesOut      what moving pages out asks of a kit, and does
--     MayComeIn, ComesIn      what moving pages in asks of a kit, and does
use Rattle.std.specs.Prelude.{◌≡◌, ℕ, ◌≤◌, Bool, true, false, not, ◌||◌, List, [], map, length, nat_eq}
use Rattle.std.specs.List.{All, filter}
use Rattle.corten_base.specs.declared.calls.Call.{Call}
use Rattle.corten_base.specs.declared.calls.Call.TheVariants as call
use Rattle.counted_pages.specs.Pages.{PageCounts, CountedPage}
use Rattle.shares.specs.Counts.{count_of}
use Rattle.machine_plan.specs.declared.kit.Kit.{Kit}
use Rattle.machine_plan.specs.Kits.{HasRoom, Refs, AreBacked}
use Rattle.machine_plan.specs.Uses.{shown_refs}
use Rattle.book.specs.Balance.{AreHeld}
use Rattle.book.specs.Granting.{unused_in, Takes}
use Rattle.book.specs.Pieces.{GivesBack}
use Rattle.book.specs.Settling.{SameLists}

abbrev pub is_out : Call → Bool
is_out (call.SwapOut space at len) = true
is_out (call.Map space where_to len perm what) = false
is_out (call.Unmap space at len) = false
is_out (call.Protect space at len perm) = false
is_out (call.Load space at len) = false
is_out (call.Store space at bytes) = false
is_out (call.Fault space at write) = false
is_out call.Spawn = false
is_out (call.Fork space) = false
is_out (call.Exit space) = false
is_out (call.SwapIn space at len) = false
is_out (call.Txn space at len ops) = false
is_out (call.DontNeed space at len) = false
is_out (call.Remap space at old_len new_len) = false

abbrev pub is_in : Call → Bool
is_in (call.SwapIn space at len) = true
is_in (call.Map space where_to len perm what) = false
is_in (call.Unmap space at len) = false
is_in (call.Protect space at len perm) = false
is_in (call.Load space at len) = false
is_in (call.Store space at bytes) = false
is_in (call.Fault space at write) = false
is_in call.Spawn = false
is_in (call.Fork space) = false
is_in (call.Exit space) = false
is_in (call.SwapOut space at len) = false
is_in (call.Txn space at len ops) = false
is_in (call.DontNeed space at len) = false
is_in (call.Remap space at old_len new_len) = false

abbrev pub moves_pages : Call → Bool
moves_pages c = is_out c || is_in c

abbrev pub is_sole : PageCounts → ℕ × CountedPage → Bool
is_sole counts r = nat_eq (count_of counts.counts r.1.number) 1

abbrev pub paged : ℕ × CountedPage → ℕ × List ℕ
paged r = (r.0, r.1.body.bytes)

abbrev pub pages : Refs → List ℕ
pages refs = map (λ r. r.0) refs

pub record Arrives (old new : PageCounts) (refs came : Refs) : Type 0 where
  pub takes : Takes old new (pages refs) [] came
  pub bytes : map paged came ≡ map paged refs
  pub own : All (λ r. r.1.body.own ≡ true) came

-- The frames that no other page has go out, and the others are left.
pub record MayGoOut (pool area : PageCounts) (kit : Kit) : Type 0 where
  pub held : AreHeld pool (shown_refs kit.own_frames.items)
  pub backed : AreBacked pool kit.own_frames.items
  pub enough : length (filter (is_sole pool) kit.own_frames.items) ≤ length (unused_in area.counts)
  pub few : length kit.own_frames.items ≤ 4096
  pub no_frames : kit.frames.items ≡ []
  pub no_slots : kit.slots.items ≡ []
  pub room : HasRoom kit

pub record GoesOut (pool area : PageCounts) (kit : Kit) (pool' area' : PageCounts) (kit' : Kit) : Type 0 where
  pub frames : GivesBack pool pool' kit.own_frames.items kit'.own_frames.items
  pub left_frames : kit'.own_frames.items ≡ filter (λ r. not (is_sole pool r)) kit.own_frames.items
  pub no_frames : kit'.frames.items ≡ []
  pub slots : Arrives area area' (filter (is_sole pool) kit.own_frames.items) kit'.slots.items
  pub left_slots : kit'.own_slots.items ≡ kit.own_slots.items
  pub second_frames : kit'.second_frames.items ≡ kit.second_frames.items
  pub second_slots : kit'.second_slots.items ≡ kit.second_slots.items
  pub lists : SameLists kit kit'

-- All slots come in.
pub record MayComeIn (pool area : PageCounts) (kit : Kit) : Type 0 where
  pub held : AreHeld area (shown_refs kit.own_slots.items)
  pub backed : AreBacked area kit.own_slots.items
  pub enough : length kit.own_slots.items ≤ length (unused_in pool.counts)
  pub few : length kit.own_slots.items ≤ 4096
  pub no_frames : kit.frames.items ≡ []
  pub room : HasRoom kit

pub record ComesIn (pool area : PageCounts) (kit : Kit) (pool' area' : PageCounts) (kit' : Kit) : Type 0 where
  pub slots : GivesBack area area' kit.own_slots.items kit'.own_slots.items
  pub no_slots : kit'.own_slots.items ≡ []
  pub frames : Arrives pool pool' kit.own_slots.items kit'.frames.items
  pub left_frames : kit'.own_frames.items ≡ kit.own_frames.items
  pub came_slots : kit'.slots.items ≡ kit.slots.items
  pub second_frames : kit'.second_frames.items ≡ kit.second_frames.items
  pub second_slots : kit'.second_slots.items ≡ kit.second_slots.items
  pub lists : SameLists kit kit'
