use Rattle.std.proofs.Common.{◌≡◌, ◌++◌, List, ℕ, map, sym, subst, ap, ◌∙◌}
use Rattle.text_words.specs.Layout.{ended, text}
use Rattle.mm_script.specs.ScriptText.{file_lines}
use Rattle.mm_script.proofs.OpLines.{on_ok_from}
use Rattle.image_text.specs.Images.{ImageParts}
use Rattle.image_text.specs.ImageText.{item_line, head_lines, end_line}
use Rattle.image_text.proofs.Printed.{image_printed, image_pieces}
use Rattle.image_text.proofs.printing.push_image.Goals as goal

pub push_items-requires : goal.push_items-requires
push_items-requires c = image_printed c.args.image.now c.items.result.now c.items.ensures.right c.items.ensures.value

pub returns : goal.returns
returns c =
    let image : ImageParts = c.args.image.now in
    let out : List ℕ = c.args.out.now.items in
    let head = c.in_ok-push_head.ensures ∙ (λ i. out ++ text (head_lines (c.limits.ensures i) ++ file_lines (c.shelf.ensures i))) in
    let items = c.in_ok-push_items.ensures ∙ (λ i. head i ++ text (map item_line (c.items.ensures.value i))) in
    on_ok_from _ _ c.push_end.result _ _ (λ is. is ∙ ap (λ t. t ++ ended end_line) items ∙ image_pieces image out) c.push_end.ensures
