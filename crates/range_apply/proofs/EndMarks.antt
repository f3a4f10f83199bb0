-- What a mark tells of the page at an end of a range: whether a change leaves it.
--     left_same, same_left      as the code tests it
use Rattle.std.specs.Prelude.{◌≡◌, ℕ, ◌+◌, Some}
use Rattle.std.proofs.Common.{sym, refl, ap, arith}
use Rattle.corten_base.specs.declared.calls.Backing.TheVariants as backing
use Rattle.page_map.specs.declared.cell.Cell.TheVariants as page
use Rattle.row_cells.specs.declared.Cell.{Cell}
use Rattle.row_cells.specs.declared.Cell.TheVariants.{Invalid, Table, Anon, File, Mapped, Swapped}
use Rattle.cursor_apply.specs.declared.becoming.Making.{Making}
use Rattle.cursor_apply.specs.declared.becoming.Making.TheVariants.{Back, Clear, Permit, GiveBack}
use Rattle.cursor_apply.specs.Changing.{page_made}
use Rattle.range_apply.specs.Ends.{mark_page, IsLeft}

abbrev pub IsMark : Cell → Type 0
IsMark Invalid = Unit {0}
IsMark (Anon perm) = Unit {0}
IsMark (File perm file index) = Unit {0}
IsMark Table = ⊥
IsMark (Mapped perm origin frame) = ⊥
IsMark (Swapped perm origin slot) = ⊥

plus_zero : (n : ℕ) → n + 0 ≡ n
plus_zero n = omega arith

pub left_same : (m : Making) (behind offset : ℕ) (cell : Cell) → IsMark cell → IsLeft m behind offset cell → page_made m behind (mark_page cell offset) ≡ mark_page cell offset
left_same m behind offset Table is left = absurd is
left_same m behind offset (Mapped perm origin frame) is left = absurd is
left_same m behind offset (Swapped perm origin slot) is left = absurd is
left_same (Back perm backing.Zero) behind offset Invalid is left = absurd left
left_same (Back perm backing.Zero) behind offset (Anon now) is left = ap (λ p. Some (page.Anon p)) (sym left.0)
left_same (Back perm backing.Zero) behind offset (File now file index) is left = absurd left.1
left_same (Back perm (backing.File mapped first)) behind offset Invalid is left = absurd left
left_same (Back perm (backing.File mapped first)) behind offset (Anon now) is left = absurd left.1
left_same (Back perm (backing.File mapped first)) behind offset (File now file index) is left = λ i. Some (page.File (sym left.0 i) (sym left.1.0 i) (sym left.1.1 i))
left_same Clear behind offset Invalid is left = refl
left_same Clear behind offset (Anon now) is left = absurd left
left_same Clear behind offset (File now file index) is left = absurd left
left_same (Permit perm) behind offset Invalid is left = refl
left_same (Permit perm) behind offset (Anon now) is left = ap (λ p. Some (page.Anon p)) (sym left)
left_same (Permit perm) behind offset (File now file index) is left = ap (λ p. Some (page.File p file (index + offset))) (sym left)
left_same GiveBack behind offset Invalid is left = refl
left_same GiveBack behind offset (Anon now) is left = refl
left_same GiveBack behind offset (File now file index) is left = ap (λ n. Some (page.File now file n)) (plus_zero (index + offset))

pub same_left : (m : Making) (behind offset : ℕ) (cell : Cell) → IsMark cell → page_made m behind (mark_page cell offset) ≡ mark_page cell offset → IsLeft m behind offset cell
same_left m behind offset Table is same = absurd is
same_left m behind offset (Mapped perm origin frame) is same = absurd is
same_left m behind offset (Swapped perm origin slot) is same = absurd is
same_left (Back perm backing.Zero) behind offset Invalid is same = absurd (cc)
same_left (Back perm backing.Zero) behind offset (Anon now) is same = (cc, tt)
same_left (Back perm backing.Zero) behind offset (File now file index) is same = absurd (cc)
same_left (Back perm (backing.File mapped first)) behind offset Invalid is same = absurd (cc)
same_left (Back perm (backing.File mapped first)) behind offset (Anon now) is same = absurd (cc)
same_left (Back perm (backing.File mapped first)) behind offset (File now file index) is same = (cc, (cc, cc))
same_left Clear behind offset Invalid is same = tt
same_left Clear behind offset (Anon now) is same = absurd (cc)
same_left Clear behind offset (File now file index) is same = absurd (cc)
same_left (Permit perm) behind offset Invalid is same = tt
same_left (Permit perm) behind offset (Anon now) is same = cc
same_left (Permit perm) behind offset (File now file index) is same = cc
same_left GiveBack behind offset Invalid is same = tt
same_left GiveBack behind offset (Anon now) is same = tt
same_left GiveBack behind offset (File now file index) is same = tt
