use Rattle.std.proofs.Common.{◌<◌, [], ◌∷◌, ◌++◌, length, ap, ◌∙◌, arith}
use Rattle.history_lines.proofs.Shelves.{next_file_line}
use Rattle.image_text.proofs.printing.push_files.Goals as goal

pub loop-file-preserved : goal.loop-file-preserved
loop-file-preserved c =
    let l = c.loop-file in
    let fs = c.args.shelf.now in
    let end = c.count-file-end.ensures.value in
    let inside : l.file < length fs = omega (arith, c.loop-file-test.true, end) in
    record {
      written = c.in_ok-push.ensures.items ∙ ap (λ t. t ++ 10 ∷ []) c.in_ok-push_file.ensures.ok
          ∙ next_file_line fs l.file c.in-Some.bytes.now c.args.out.now.items l.out.items c.in-Some.ensures.value l.invariant.written;
      inside = omega (arith, inside);
    }
