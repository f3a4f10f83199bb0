-- What a book keeps beside what clauses see of it.
--     IsTableRow      a row that the limits of tables allow
--     IsKept      the rows above the limit of tables are counted apart, the lists have room for all that may come, and the first row in limbo tells of blockers
use Rattle.std.specs.Prelude.{◌≡◌, ℕ, ◌+◌, ◌<◌, ◌≤◌}
use Rattle.std.specs.List.{All}
use Rattle.std.specs.FinSet as set
use Rattle.row_layout.specs.declared.limbo.Sampled.{Sampled}
use Rattle.machine_plan.specs.Books.{BookData, free_rows_within}
use Rattle.machine_plan.specs.Whole.{IsBook}
use Rattle.book.specs.Pieces.{AreBelow}
use Rattle.book.specs.Entries.{FirstTells}

abbrev pub IsTableRow : ℕ → Sampled → Type 0
IsTableRow tables s = (1 ≤ s.row) × (s.row ≤ tables)

pub record IsKept (b : BookData) (above journal_room limbo_room : ℕ) : Type 0 where
  pub book : IsBook b
  pub aside : set.len b.free.numbers ≡ free_rows_within b + above
  pub below : AreBelow b.free
  pub journal : b.room ≤ journal_room
  pub limbo : b.limits.tables ≤ limbo_room
  pub tells : FirstTells b.limbo
  pub rows : All (IsTableRow b.limits.tables) b.limbo
  pub enough : b.limits.tables < b.free.limit
