-- What the machine keeps of a state: the counts of owners beside the cells of one space.
use Rattle.std.proofs.Common.{◌≡◌, ℕ, List, refl, ap, ◌∙◌}
use Rattle.std.specs.Prelude.{Some, slice_index}
use Rattle.std.specs.Option.{unwrap_or}
use Rattle.std.specs.FinMap as fin
use Rattle.std.specs.FinMap.{get}
use Rattle.page_map.specs.declared.cell.Cell.{Cell}
use Rattle.page_map.specs.Cell.{frame_of, slot_of}
use Rattle.page_map.specs.State.{State, AddressSpace, IsConsistent, cell_at, frame_owners, space_at, unused_frames, unused_slots}
use Rattle.plain_counts.specs.declared.counts.Counts.{Counts}
use Rattle.plain_counts.specs.Counts.{AreCounted, Follow}
use Rattle.plain_counts.specs.Fronts.{AreFull}
use Rattle.plain_counts.specs.Owners.{unused_of}
use Rattle.plain_spaces.specs.Reach.{IsWhole}
use Rattle.page_map.specs.Tables.{Tables}
use Rattle.page_map.proofs.Cells.{changed}
use Rattle.mm_model.specs.Plain.{IsSound}
use Rattle.mm_model.proofs.Carried.{counts_are, unused_are, is_counted_in, counts_follow}

module _ (st : State) (counts : Counts) (fronts : List ℕ) (sound : IsSound st counts fronts) where
  pub frames_are : slice_index counts.frames ≡ frame_owners st
  frames_are = counts_are frame_of st st.limits.frames counts.frames sound.frame_counts sound.state.frames

  pub free_frames : unused_of counts.frames ≡ unused_frames st
  free_frames = unused_are frame_of st st.limits.frames counts.frames sound.frame_counts sound.state.frames

  pub free_slots : unused_of counts.slots ≡ unused_slots st
  free_slots = unused_are slot_of st st.limits.swap counts.slots sound.slot_counts sound.state.slots

  -- a space that is present
  module _ (space : ℕ) (cells : AddressSpace) (here : get st.spaces space ≡ Some cells) where
    pub cells_here : space_at st space ≡ cells
    cells_here = ap (λ o. unwrap_or o fin.empty) here

    pub cell_here : (p : ℕ) (c : Cell) → get cells p ≡ Some c → cell_at st space p ≡ Some c
    cell_here p c h = ap (λ o. get (unwrap_or o fin.empty) p) here ∙ h

    pub counted_here : AreCounted counts cells
    counted_here = record {
      frames = is_counted_in frame_of st st.limits.frames counts.frames sound.frame_counts sound.state.frames space cells here;
      slots = is_counted_in slot_of st st.limits.swap counts.slots sound.slot_counts sound.state.slots space cells here;
    }

    pub whole_here : IsWhole st.files cells
    whole_here = λ q c h. sound.state.bytes space q c (cell_here q c h)

    -- its cells change, and the counts with them
    pub stays_sound : (cells' : AddressSpace) (tables' : Tables) (counts' : Counts) (fronts' : List ℕ) → Follow counts counts' cells cells' →
        IsConsistent (changed st space cells' tables') → AreFull (changed st space cells' tables') fronts' → IsSound (changed st space cells' tables') counts' fronts'
    stays_sound cells' tables' counts' fronts' follow ok full = record {
      state = ok;
      limits = sound.limits;
      frame_counts = counts_follow frame_of st st.limits.frames counts.frames sound.frame_counts sound.state.frames space cells here counts'.frames cells' (changed st space cells' tables') refl follow.frames;
      slot_counts = counts_follow slot_of st st.limits.swap counts.slots sound.slot_counts sound.state.slots space cells here counts'.slots cells' (changed st space cells' tables') refl follow.slots;
      full = full;
    }
