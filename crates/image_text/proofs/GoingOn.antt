-- Which backing is what goes on from another.
use Rattle.std.proofs.Common.{◌≡◌, ◌≢◌, ℕ, ◌+◌, false, List, refl, sym, ap, subst, ◌∙◌, arith}
use Rattle.corten_base.specs.declared.permissions.Perm.{Perm}
use Rattle.corten_base.specs.declared.calls.Backing.TheVariants.{Zero, File}
use Rattle.page_map.specs.declared.cell.Cell.TheVariants as cell
use Rattle.page_map.specs.Cell.{backed}

none : Perm
none = record { read = false; write = false; exec = false }

pub zero_no_file : (file index count : ℕ) → ((perm : Perm) → backed (File file index) perm 0 ≡ backed Zero perm count) → ⊥
zero_no_file file index count same = let one = same none in cc one

pub file_no_zero : (file index count : ℕ) → ((perm : Perm) → backed Zero perm 0 ≡ backed (File file index) perm count) → ⊥
file_no_zero file index count same = let one = same none in cc one

pub same_file : (file other index at count : ℕ) → file ≡ other → at ≡ index + count → (perm : Perm) → backed (File other at) perm 0 ≡ backed (File file index) perm count
same_file file other index at count files behind perm = let more : at + 0 ≡ index + count = omega (arith, behind) in λ i. cell.File perm (sym files i) (more i)

pub files_of : (file other index at count : ℕ) → ((perm : Perm) → backed (File other at) perm 0 ≡ backed (File file index) perm count) → (file ≡ other) × (at ≡ index + count)
files_of file other index at count same =
    let one = same none in
    let files : other ≡ file = cc one in
    let behind : at + 0 ≡ index + count = cc one in
    (sym files, omega (arith, behind))
