-- A file's page goes on from one of the same file, and zeros from zeros.
use Rattle.std.proofs.Common.{sym, eqb-true, eq-eqb}
use Rattle.std.proofs.lemmas.Bool.{false≢true}
use Rattle.image_text.proofs.GoingOn.{zero_no_file, file_no_zero, same_file, files_of}
use Rattle.image_text.proofs.order.goes_on.Goals as goal

pub returns-in-Zero-File : goal.returns-in-Zero-File
returns-in-Zero-File c = rw (c.in-Zero-File.is-0, c.in-Zero-File.is-1) (λ no. absurd (false≢true no), λ same. absurd (zero_no_file c.in-Zero-File.file-1 c.in-Zero-File.index-1 c.args.count same))

pub returns-in-File-Zero : goal.returns-in-File-Zero
returns-in-File-Zero c = rw (c.in-File-Zero.is-0, c.in-File-Zero.is-1) (λ no. absurd (false≢true no), λ same. absurd (file_no_zero c.in-File-Zero.file-0 c.in-File-Zero.index-0 c.args.count same))

pub returns-then-file-other : goal.returns-then-file-other
returns-then-file-other c =
    let f = c.in-File-File in
    rw (f.is-0, f.is-1) (
      λ yes. same_file f.file f.other f.index f.at c.args.count c.if-file-other.true (c.is_behind.ensures.0 yes),
      λ same. c.is_behind.ensures.1 (files_of f.file f.other f.index f.at c.args.count same).1,
    )

pub returns-else-file-other : goal.returns-else-file-other
returns-else-file-other c =
    let f = c.in-File-File in
    rw (f.is-0, f.is-1) (
      λ yes. absurd (c.if-file-other.false (eqb-true f.file f.other yes)),
      λ same. absurd (c.if-file-other.false (files_of f.file f.other f.index f.at c.args.count same).0),
    )
