use Rattle.std.proofs.Common.{◌<◌, [], ◌∷◌, ◌++◌, length, sym, ◌∙◌, arith}
use Rattle.history_lines.proofs.Shelves.{next_file}
use Rattle.history_lines.proofs.files.copy_of.Goals as goal

pub loop-file-preserved : goal.loop-file-preserved
loop-file-preserved c =
    let l = c.loop-file in
    let fs = c.args.shelf.now in
    let end = c.count-file-end.ensures.value in
    let inside : l.file < length fs = omega (arith, c.loop-file-test.true, end) in
    record {
      copied = c.in-Ok.ensures.ok ∙ (λ i. l.invariant.copied i ++ c.in_ok-bytes.ensures.items i ∷ []) ∙ sym (next_file fs l.file c.in-Some.bytes.now c.in-Some.ensures.value);
      inside = omega (arith, inside);
    }
