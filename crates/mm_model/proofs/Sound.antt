-- What the plain machine keeps.
use Rattle.std.proofs.Common.{◌≡◌, ℕ, List, replicate, ◌∙◌}
use Rattle.corten_base.specs.declared.numbers.Limits.{Limits}
use Rattle.page_map.specs.State.{IsWithinLimits, start, frame_owners, slot_owners}
use Rattle.page_map.specs.Cell.{frame_of, slot_of}
use Rattle.page_map.proofs.Start.{start_is_consistent}
use Rattle.plain_counts.specs.declared.counts.Counts.{Counts}
use Rattle.mm_model.specs.Plain.{IsSound}
use Rattle.mm_model.proofs.Full.{none_full}
use Rattle.mm_model.proofs.Counts.{start_owners, no_owners}

pub start_is_sound : (limits : Limits) (files : List (List ℕ)) → IsWithinLimits limits → (counts : Counts) → counts.frames ≡ replicate limits.frames 0 → counts.slots ≡ replicate limits.swap 0 → IsSound (start limits files) counts (replicate 512 0)
unfolding start
start_is_sound limits files within counts frames slots = record {
  state = start_is_consistent limits files within.some_levels within.few_levels within.some_table;
  limits = within;
  frame_counts = frames ∙ no_owners (frame_owners (start limits files)) limits.frames (start_owners frame_of limits files);
  slot_counts = slots ∙ no_owners (slot_owners (start limits files)) limits.swap (start_owners slot_of limits files);
  full = none_full (start limits files);
}
