-- Where so many pages of a range lie.
--     IsWithin      so many pages from one on are pages of a range
use Rattle.std.specs.Prelude.{ℕ, ◌+◌, ◌≤◌}

abbrev pub IsWithin : ℕ → ℕ → ℕ → ℕ → Type 0
IsWithin first pages count page = (first ≤ page) × (page + count ≤ first + pages)
