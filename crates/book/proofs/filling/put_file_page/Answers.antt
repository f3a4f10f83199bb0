use Rattle.std.proofs.Common.{length, drop, ◌++◌, List, ℕ, ap, ◌∙◌, arith}
use Rattle.std.proofs.lemmas.List.{length-take}
use Rattle.book.proofs.FilePages.{whole_zeros, short_part, put_page, no_part, no_file}
use Rattle.book.proofs.filling.put_file_page.Goals as goal

pub slice_bounds-copy_from_slice-end : goal.slice_bounds-copy_from_slice-end
slice_bounds-copy_from_slice-end c = omega (arith, short_part _ c.in-Bytes.bytes.now c.in-Bytes.ensures.2, ap length c.requires, whole_zeros)

pub copy_from_slice-requires : goal.copy_from_slice-requires
copy_from_slice-requires c = omega (arith, length-take (length c.in-Bytes.bytes.now) c.args.page.now, short_part _ c.in-Bytes.bytes.now c.in-Bytes.ensures.2, ap length c.requires, whole_zeros)

pub returns-in-NoFile : goal.returns-in-NoFile
returns-in-NoFile c = no_file c.args.shelf.now c.args.file c.args.index c.args.page.now c.requires c.in-NoFile.ensures

pub returns-in-PastEnd : goal.returns-in-PastEnd
returns-in-PastEnd c = no_part c.args.shelf.now c.args.file c.args.index c.args.page.now c.requires c.in-PastEnd.ensures.1

pub returns-in-Bytes : goal.returns-in-Bytes
returns-in-Bytes c = ap (λ (l : List ℕ). l ++ drop (length c.in-Bytes.bytes.now) c.args.page.now) c.copy_from_slice.ensures.after ∙ put_page c.args.shelf.now c.args.file c.args.index c.args.page.now c.in-Bytes.bytes.now c.requires c.in-Bytes.ensures.2

pub slice_bounds-copy_from_slice-end-in-Bytes : goal.slice_bounds-copy_from_slice-end-in-Bytes
slice_bounds-copy_from_slice-end-in-Bytes c = omega (arith, length-take (length c.in-Bytes.bytes.now) c.args.page.now, short_part _ c.in-Bytes.bytes.now c.in-Bytes.ensures.2, ap length c.requires, whole_zeros)
