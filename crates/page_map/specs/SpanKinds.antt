-- The three kinds of spans whose pages are alike.
--     IsInvalidSpan, IsAnonSpan, IsFileSpan      all pages are Invalid;  all are Anon;  all are File
--     IsOfOneKind      whether a span is of one of them
use Rattle.std.specs.Prelude.{◌≡◌, ℕ, ◌+◌, ◌-◌, true, Some, None, ◌⊎◌}
use Rattle.std.specs.FinMap.{get}
use Rattle.corten_base.specs.declared.permissions.Perm.{Perm}
use Rattle.table_place.specs.Range.{within}
use Rattle.page_map.specs.declared.cell.Cell.TheVariants.{Anon, File}
use Rattle.page_map.specs.Cell.{AddressSpace}

abbrev pub IsInvalidSpan : AddressSpace → ℕ → ℕ → Type 0
IsInvalidSpan cells first count = (page : ℕ) → within first count page ≡ true → get cells page ≡ None

-- with these permissions at each page
abbrev pub IsAnonSpan : AddressSpace → ℕ → ℕ → Perm → Type 0
IsAnonSpan cells first count perm = (page : ℕ) → within first count page ≡ true → get cells page ≡ Some (Anon perm)

-- with these permissions and of this file at each page. The number of the file's page, less the page's own, is the same at all.
abbrev pub IsFileSpan : AddressSpace → ℕ → ℕ → Perm → ℕ → ℕ → Type 0
IsFileSpan cells first count perm file index = (page : ℕ) → within first count page ≡ true → get cells page ≡ Some (File perm file (index + (page - first)))

abbrev pub IsOfOneKind : AddressSpace → ℕ → ℕ → Type 0
IsOfOneKind cells first count =
    IsInvalidSpan cells first count
    ⊎ (((perm : Perm) × IsAnonSpan cells first count perm) ⊎ ((perm : Perm) × (file : ℕ) × (index : ℕ) × IsFileSpan cells first count perm file index))
