-- The entries of a held row that have been no link since the pass gave the book last. No other pass can have changed anything below them.
--     all_entries, vacant_entries      the 512 entries, and those of a row with these words that are no links
--     blank_words      the words of a row without entries
--     IsUnder      the span of a table lies in that of another
--     KeepsVacant      what is known of the positions below such entries
use Rattle.std.specs.Prelude.{◌≡◌, ℕ, ◌<◌, ◌≤◌, not, false, List, map, slice_index, Option, Some}
use Rattle.std.specs.List.{filter, range_with_len}
use Rattle.table_place.specs.declared.Place.{Place}
use Rattle.table_place.specs.Place.{entry_place}
use Rattle.walk_core.specs.Words.{is_link}
use Rattle.walk_core.specs.Lists.{Has}
use Rattle.row_table.specs.declared.view.HeldRow.{HeldRow}
use Rattle.row_table.specs.Plan.{Meaning, Covers}

unfoldable pub all_entries : List ℕ
all_entries = range_with_len 0 512

unfoldable pub vacant_entries : List ℕ → List ℕ
vacant_entries words = filter (λ i. not (is_link (slice_index words i))) (range_with_len 0 512)

unfoldable pub blank_words : List ℕ
blank_words = map (λ _. 0) (range_with_len 0 512)

-- p is the place of a table, and its span lies in that of q
pub record IsUnder (p q : Place) : Type 0 where
  pub lowest : 1 ≤ p.level
  pub level : p.level ≤ q.level
  pub covers : Covers q p

-- Where there are so many levels: such an entry is no link, and at each position below it whatever agrees with the book that the pass gave last agrees with the book.
pub record KeepsVacant {R B E : Type 0} (M : Meaning R B E) (levels : ℕ) (book : B) (last : Option B) (h : HeldRow R) : Type 0 where
  pub vacant : (i : ℕ) → Has h.vacant i → (i < 512) × (is_link (slice_index h.words i) ≡ false)
  pub keeps : (i : ℕ) → Has h.vacant i → (a : B) → last ≡ Some a → (p : Place) → IsUnder p (entry_place levels h.place i) → (words : List ℕ) (x : R) → M.agrees a p words x → M.agrees book p words x
