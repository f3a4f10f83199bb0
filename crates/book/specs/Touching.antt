-- The frames of an access.
--     MayFill      what is asked of counts and kit where frames are taken and filled
--     Fills      what that does: the frames that were taken have the bytes of their pages, and what these had before was given back
--     is_access      a load, a store or a page fault
--     MayStore, StoresAll      the bytes of a store are written in the frames of its pages
--     IsAccess      an access that nothing refuses, with the counts of its book and the kit that a plan filled
use Rattle.std.specs.Prelude.{◌≡◌, ℕ, ◌≤◌, Bool, true, false, not, List, [], map, length, None}
use Rattle.std.specs.List.{All, filter}
use Rattle.std.specs.Vec.{vec_capacity}
use Rattle.corten_base.specs.declared.calls.Call.{Call}
use Rattle.corten_base.specs.declared.calls.Call.TheVariants as call
use Rattle.counted_pages.specs.Pages.{PageCounts, HasSpare}
use Rattle.page_map.specs.Step.{refusal}
use Rattle.machine_plan.specs.declared.kit.Kit.{Kit}
use Rattle.machine_plan.specs.Books.{BookData, state_of, RowSum}
use Rattle.machine_plan.specs.Kits.{Refs, AreBacked, IsFilled}
use Rattle.machine_plan.specs.Uses.{shown_refs}
use Rattle.machine_plan.specs.Whole.{IsBook}
use Rattle.book.specs.Balance.{times, AreHeld}
use Rattle.book.specs.Filling.{with_source, bytes_of, file_sources, has_page, IsFresh, AreSole}
use Rattle.book.specs.Granting.{unused_in, Takes, AreUsed}
use Rattle.book.specs.Pieces.{GivesBack}
use Rattle.book.specs.Plain.{MayGiveAll}
use Rattle.book.specs.Storing.{AreTouched, AreAlone, AreWhole, stored_in}
use Rattle.book.specs.Taking.{takes_frame, wanting}

pub record MayFill (pool area : PageCounts) (kit : Kit) : Type 0 where
  pub used : AreUsed pool.counts kit.wants.items
  pub enough : length (wanting (takes_frame pool.counts) kit.wants.items) ≤ length (unused_in pool.counts)
  pub none : kit.frames.items ≡ []
  pub room : length kit.wants.items ≤ vec_capacity kit.frames
  pub gives : MayGiveAll pool area kit

-- taken are the frames as they were taken, and mid the counts then
pub record Fills (files : List (List ℕ)) (pool area : PageCounts) (kit : Kit) (pool' area' : PageCounts) (kit' : Kit) : Type 0 where
  pub mid : PageCounts
  pub taken : Refs
  pub takes : Takes pool mid (wanting (takes_frame pool.counts) kit.wants.items) [] taken
  pub fresh : All (IsFresh mid) taken
  pub filled : kit'.frames.items ≡ map (with_source (bytes_of kit.own_slots.items)) (map (with_source (bytes_of kit.own_frames.items)) (map (with_source (file_sources files kit.wants.items)) taken))
  pub sole : AreSole mid kit'.frames.items
  pub left : kit'.own_frames.items ≡ filter (λ r. not (has_page kit'.frames.items r.0)) kit.own_frames.items
  pub frames : GivesBack mid pool' kit.own_frames.items kit'.own_frames.items
  pub slots : GivesBack area area' kit.own_slots.items kit'.own_slots.items
  pub no_slots : kit'.own_slots.items ≡ []
  pub own_room : vec_capacity kit'.own_frames ≡ vec_capacity kit.own_frames
  pub slots_room : vec_capacity kit'.own_slots ≡ vec_capacity kit.own_slots
  pub frames_room : vec_capacity kit.frames ≤ vec_capacity kit'.frames
  pub same_kit : kit' ≡ record kit { own_frames = kit'.own_frames; own_slots = kit'.own_slots; frames = kit'.frames }

abbrev pub is_access : Call → Bool
is_access (call.Load space at len) = true
is_access (call.Store space at bytes) = true
is_access (call.Fault space at write) = true
is_access (call.Map space where_to len perm what) = false
is_access (call.Unmap space at len) = false
is_access (call.Protect space at len perm) = false
is_access call.Spawn = false
is_access (call.Fork space) = false
is_access (call.Exit space) = false
is_access (call.SwapOut space at len) = false
is_access (call.SwapIn space at len) = false
is_access (call.Txn space at len ops) = false
is_access (call.DontNeed space at len) = false
is_access (call.Remap space at old_len new_len) = false

pub record IsAccess (a : BookData) (thread : ℕ) (pool area : PageCounts) (files : List (List ℕ)) (c : Call) (kit : Kit) : Type 0 where
  pub same_pool : a.frames ≡ pool
  pub same_area : a.slots ≡ area
  pub same_files : a.files ≡ files
  pub book : IsBook a
  pub sum : RowSum a
  pub filled : IsFilled a thread c kit
  pub accepted : refusal (state_of a) thread c (length a.limbo) ≡ None
  pub access : is_access c ≡ true

-- What is asked where the bytes of a store are written: each frame has one owner, and those that were taken have bytes of their own.
pub record MayStore (at : ℕ) (bytes : List ℕ) (pool : PageCounts) (kit : Kit) : Type 0 where
  pub few : length bytes ≤ 4096
  pub own_touched : AreTouched at (length bytes) kit.own_frames.items
  pub own_alone : AreAlone pool kit.own_frames.items
  pub own_whole : AreWhole kit.own_frames.items
  pub own_held : AreHeld pool (shown_refs kit.own_frames.items)
  pub own_backed : AreBacked pool kit.own_frames.items
  pub came_touched : AreTouched at (length bytes) kit.frames.items
  pub came_alone : AreAlone pool kit.frames.items
  pub came_whole : AreWhole kit.frames.items
  pub came_held : AreHeld pool (shown_refs kit.frames.items)
  pub came_bodies : All (λ r. r.1.body.own ≡ true) kit.frames.items

pub record StoresAll (at : ℕ) (bytes : List ℕ) (pool : PageCounts) (kit : Kit) (pool' : PageCounts) (kit' : Kit) : Type 0 where
  pub counts : pool'.counts ≡ pool.counts
  pub spares : (n : ℕ) → times n (shown_refs kit.own_frames.items) ≡ 0 → times n (shown_refs kit.frames.items) ≡ 0 → HasSpare pool n → HasSpare pool' n
  pub own : kit'.own_frames.items ≡ map (stored_in at bytes) kit.own_frames.items
  pub came : kit'.frames.items ≡ map (stored_in at bytes) kit.frames.items
  pub own_room : vec_capacity kit'.own_frames ≡ vec_capacity kit.own_frames
  pub came_room : vec_capacity kit'.frames ≡ vec_capacity kit.frames
  pub same_kit : kit' ≡ record kit { own_frames = kit'.own_frames; frames = kit'.frames }
