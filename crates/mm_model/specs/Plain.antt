-- What a plain machine keeps.
--     owner_counts      for each number below a limit, how many keys carry it
--     IsSound      the facts that hold of the state, and what the counts of owners and the fronts say of it
use Rattle.std.specs.Prelude.{◌≡◌, ℕ, List, map}
use Rattle.std.specs.List.{range_with_len}
use Rattle.plain_counts.specs.declared.counts.Counts.{Counts}
use Rattle.plain_counts.specs.Fronts.{AreFull}
use Rattle.page_map.specs.State.{State, IsConsistent, IsWithinLimits, frame_owners, slot_owners}

-- how many keys carry each of the numbers below the limit
abbrev pub owner_counts : (ℕ → ℕ) → ℕ → List ℕ
owner_counts owners limit = map owners (range_with_len 0 limit)

pub record IsSound (st : State) (counts : Counts) (fronts : List ℕ) : Type 0 where
  pub state : IsConsistent st
  pub limits : IsWithinLimits st.limits
  pub frame_counts : counts.frames ≡ owner_counts (frame_owners st) st.limits.frames
  pub slot_counts : counts.slots ≡ owner_counts (slot_owners st) st.limits.swap
  pub full : AreFull st fronts
