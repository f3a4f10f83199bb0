use Rattle.std.proofs.Common.{◌++◌, [], map, ap, ◌∙◌, refl}
use Rattle.text_words.specs.Layout.{ended, text}
use Rattle.mm_script.specs.ScriptText.{file_lines}
use Rattle.image_text.specs.Images.{ImageParts}
use Rattle.image_text.specs.ImageText.{item_line, head_lines, end_line}
use Rattle.image_text.proofs.Printed.{image_pieces}
use Rattle.space_image.proofs.saving.saved.Goals as goal

pub returns : goal.returns
returns c =
    let has = c.in_ok-save_runs.ensures in
    let image : ImageParts = record { limits = c.args.plain.now.limits; files = c.args.plain.now.files; items = has.items } in
    let head = c.in_ok-push_head.ensures ∙ (λ i. c.new-out.ensures.items i ++ text (head_lines (c.limits.ensures i) ++ file_lines (c.shelf.ensures i))) in
    let lines = has.text ∙ ap (λ t. t ++ text (map item_line has.items)) head in
    record {
      image = image;
      of_space = record { same_limits = refl; same_files = refl; in_order = has.in_order; same_map = has.same_map };
      text = c.of.ensures ∙ c.in_ok-push_end.ensures ∙ ap (λ t. t ++ ended end_line) lines ∙ image_pieces image [];
    }
