-- What the commit of a call that nothing refuses does before its end.
--     SameLists      what it leaves of the kit as the plan filled it
--     Settles      the counts and the kit afterwards: the references that stay are left, those that were granted have come
use Rattle.std.specs.Prelude.{◌≡◌, ℕ, []}
use Rattle.counted_pages.specs.Pages.{PageCounts}
use Rattle.corten_base.specs.declared.calls.Call.{Call}
use Rattle.page_map.specs.Cell.{frame_of, slot_of}
use Rattle.page_map.specs.Effect.{state_after, frame_grants, slot_grants}
use Rattle.machine_plan.specs.declared.kit.Kit.{Kit}
use Rattle.machine_plan.specs.Books.{BookData, state_of}
use Rattle.machine_plan.specs.Kits.{HasRoom, AreBacked, IsUsed, KeepsOthers, kept_cells, new_cells}
use Rattle.machine_plan.specs.Uses.{refs_of, shown_refs}
use Rattle.book.specs.Balance.{InBalance}

pub record SameLists (kit kit' : Kit) : Type 0 where
  pub needed : kit'.rows_needed ≡ kit.rows_needed
  pub rows : kit'.rows.items ≡ kit.rows.items
  pub gone : kit'.gone.items ≡ kit.gone.items
  pub changes : kit'.changes.items ≡ kit.changes.items
  pub early : kit'.early ≡ kit.early
  pub pieces : kit'.pieces.items ≡ kit.pieces.items
  pub wants : kit'.wants.items ≡ kit.wants.items
  pub room : HasRoom kit'

pub record Settles (a : BookData) (thread : ℕ) (c : Call) (kit : Kit) (pool area : PageCounts) (kit' : Kit) : Type 0 where
  pub frames : InBalance a.frames pool (shown_refs kit.own_frames.items) (shown_refs kit'.own_frames.items) (shown_refs kit'.frames.items)
  pub slots : InBalance a.slots area (shown_refs kit.own_slots.items) (shown_refs kit'.own_slots.items) (shown_refs kit'.slots.items)
  pub left_frames : shown_refs kit'.own_frames.items ≡ refs_of frame_of (kept_cells (state_of a) (state_after (state_of a) thread c) thread c (frame_grants (state_of a) c))
  pub left_slots : shown_refs kit'.own_slots.items ≡ refs_of slot_of (kept_cells (state_of a) (state_after (state_of a) thread c) thread c (slot_grants (state_of a) c))
  pub new_frames : shown_refs kit'.frames.items ≡ refs_of frame_of (new_cells (state_of a) (state_after (state_of a) thread c) thread c (frame_grants (state_of a) c))
  pub new_slots : shown_refs kit'.slots.items ≡ refs_of slot_of (new_cells (state_of a) (state_after (state_of a) thread c) thread c (slot_grants (state_of a) c))
  pub backed : AreBacked pool kit'.own_frames.items × AreBacked pool kit'.frames.items × AreBacked area kit'.own_slots.items × AreBacked area kit'.slots.items
  pub seconds : (kit'.second_frames.items ≡ []) × (kit'.second_slots.items ≡ [])
  pub frames_kept : KeepsOthers a.frames pool (IsUsed (state_of a) thread c frame_of)
  pub slots_kept : KeepsOthers a.slots area (IsUsed (state_of a) thread c slot_of)
  pub lists : SameLists kit kit'
