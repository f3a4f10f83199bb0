-- A book without entries.
--     Starts      what it holds: nothing is counted, and the rows from 2 on are free
use Rattle.std.specs.Prelude.{◌≡◌, ℕ, ◌-◌, true, List, [], replicate}
use Rattle.std.specs.List.{range_with_len}
use Rattle.corten_base.specs.declared.numbers.Limits.{Limits}
use Rattle.machine_plan.specs.Books.{BookData, free_list, RowSum}

pub record Starts (limits : Limits) (rows : ℕ) (shelf : List (List ℕ)) (entries : ℕ) (b : BookData) : Type 0 where
  pub same_limits : b.limits ≡ limits
  pub files : b.files ≡ shelf
  pub journal : b.journal ≡ []
  pub room : b.room ≡ entries
  pub frames : b.frames ≡ record { counts = replicate limits.frames 0; spares = replicate limits.frames true }
  pub slots : b.slots ≡ record { counts = replicate limits.swap 0; spares = replicate limits.swap true }
  pub limit : b.free.limit ≡ rows
  pub free : free_list b ≡ range_with_len 2 (rows - 2)
  pub limbo : b.limbo ≡ []
  pub generation : b.next_generation ≡ 2
  pub sum : RowSum b
