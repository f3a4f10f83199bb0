-- The lines of a history text before its entries and after them.
--     version_line, levels_line      the line of the version, and that of five levels
--     head_lines      the version and the limits
--     header_lines      both, and the files
--     HasLevels, IsHeader      the levels and the limits that have such lines in a version
--     frames_line, swap_line, tables_line      numbers in use and not, and tables, at the end
--     account_lines      all three
--     AreCounts, AreAccounts      the numbers that have such lines
use Rattle.std.specs.Prelude.{◌≡◌, ℕ, ◌==◌, List, [], ◌∷◌, ◌++◌, codes, if◌then◌else◌}
use Rattle.text_words.specs.Spelling.{number}
use Rattle.text_words.specs.Layout.{joined}
use Rattle.corten_base.specs.declared.numbers.Limits.{Limits}
use Rattle.corten_base.specs.declared.numbers.Accounts.{Accounts}
use Rattle.mm_script.specs.CallLine.{IsWithin}
use Rattle.mm_script.specs.ScriptText as scripts
use Rattle.history_lines.specs.declared.counts.Counts.{Counts}
use Rattle.history_lines.specs.declared.header.Header.{Header}
use Rattle.history_lines.specs.Replies.{IsCount}

-- a word and a number, as the limits have
abbrev pub version_line : ℕ → List ℕ
version_line version = joined (scripts.limit_words (codes "corten") version)

abbrev pub levels_line : List ℕ
levels_line = codes "levels 5"

-- four levels have no line
abbrev pub levels_lines : ℕ → List (List ℕ)
levels_lines levels = if levels == 5 then levels_line ∷ [] else []

abbrev pub head_lines : Header → List (List ℕ)
head_lines head = version_line head.version ∷ (scripts.limit_lines head.limits ++ levels_lines head.limits.levels)

abbrev pub header_lines : Header → List (List ℕ) → List (List ℕ)
header_lines head files = head_lines head ++ scripts.file_lines files

-- four levels, or in version 2 five
pub data HasLevels (version levels : ℕ) : Type 0 where
  four : levels ≡ 4 → HasLevels version levels
  five : levels ≡ 5 → version ≡ 2 → HasLevels version levels

pub record IsHeader (head : Header) : Type 0 where
  pub version : IsWithin 1 2 head.version
  pub limits : scripts.AreLimits head.limits
  pub levels : HasLevels head.version head.limits.levels

-- three numbers, each behind its word
abbrev pub counts_words : List ℕ → List ℕ → List ℕ → Counts → List (List ℕ)
counts_words first second third c = first ∷ number c.whole ∷ second ∷ number c.second ∷ third ∷ number c.third ∷ []

abbrev pub frames_line : Counts → List ℕ
frames_line c = joined (counts_words (codes "frames") (codes "free") (codes "mapped") c)

abbrev pub swap_line : Counts → List ℕ
swap_line c = joined (counts_words (codes "swap") (codes "free") (codes "used") c)

abbrev pub tables_line : Counts → List ℕ
tables_line c = joined (counts_words (codes "tables") (codes "linked") (codes "limbo") c)

-- the numbers of each line
abbrev pub frames_counts : Accounts → Counts
frames_counts a = record { whole = a.frames; second = a.frames_free; third = a.frames_mapped }

abbrev pub swap_counts : Accounts → Counts
swap_counts a = record { whole = a.swap; second = a.swap_free; third = a.swap_used }

abbrev pub tables_counts : Accounts → Counts
tables_counts a = record { whole = a.tables; second = a.linked; third = a.limbo }

abbrev pub account_lines : Accounts → List (List ℕ)
account_lines a = frames_line (frames_counts a) ∷ swap_line (swap_counts a) ∷ tables_line (tables_counts a) ∷ []

pub record AreCounts (c : Counts) : Type 0 where
  pub whole : IsCount c.whole
  pub second : IsCount c.second
  pub third : IsCount c.third

pub record AreAccounts (a : Accounts) : Type 0 where
  pub frames : AreCounts (frames_counts a)
  pub swap : AreCounts (swap_counts a)
  pub tables : AreCounts (tables_counts a)
