-- What stands at a page of a mapping, and what goes on from it.
--     goes_on      the mark that goes on from another so many pages further
--     with_perm      the same page with other permissions
--     index_of, first_index      the number of the file's page, 0 for zeros, and where there is no mark
--     onward      what stands so many pages further: a mark that goes on, or none after none
use Rattle.std.specs.Prelude.{ℕ, ◌+◌, Option, Some, None}
use Rattle.std.specs.Option.{option_map}
use Rattle.corten_base.specs.declared.permissions.Perm.{Perm}
use Rattle.corten_base.specs.declared.calls.Backing.{Backing}
use Rattle.corten_base.specs.declared.calls.Backing.TheVariants.{Zero, File}
use Rattle.page_runs.specs.declared.mark.Mark.{Mark}

abbrev pub index_of : Backing → ℕ
index_of Zero = 0
index_of (File file index) = index

-- zeros after zeros, and after a file's page the file's page so many pages further
abbrev pub backing_after : Backing → ℕ → Backing
backing_after Zero i = Zero
backing_after (File file index) i = File file (index + i)

-- the mark i pages further in one run: the same permissions, and a file's later page
abbrev pub goes_on : Mark → ℕ → Mark
goes_on mark i = record { perm = mark.perm; backing = backing_after mark.backing i }

abbrev pub onward : Option Mark → ℕ → Option Mark
onward mark i = option_map (λ m. goes_on m i) mark

abbrev pub first_index : Option Mark → ℕ
first_index None = 0
first_index (Some mark) = index_of mark.backing

-- the same page with other permissions (POSIX.1 mprotect)
abbrev pub with_perm : Perm → Mark → Mark
with_perm new mark = record { perm = new; backing = mark.backing }
