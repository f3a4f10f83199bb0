-- The text of an image, written piece by piece.
use Rattle.std.proofs.Common.{◌≡◌, ℕ, ◌<◌, ◌^◌, List, [], ◌∷◌, ◌++◌, map, sym, ap, subst, ◌∙◌, arith}
use Rattle.std.specs.List.{All}
use Rattle.std.proofs.lemmas.List.{append-nil, append_assoc}
use Rattle.text_words.specs.Layout.{ended, text}
use Rattle.text_words.proofs.LineLists.{text-append}
use Rattle.mm_script.specs.ScriptText.{file_lines}
use Rattle.image_text.specs.declared.image.Item.{Item}
use Rattle.image_text.specs.Items.{first_of, count_of, bytes_of, IsTrimmed}
use Rattle.image_text.specs.Images.{ImageParts, IsImage}
use Rattle.image_text.specs.ImageText.{item_line, head_lines, front_lines, end_line, image_text}
use Rattle.image_text.proofs.Orders.{all_parts, user_small}

-- the items of an image have lines, and no zero at their bytes' ends
pub image_printed : (image : ImageParts) (xs : List Item) → IsImage image → xs ≡ image.items → All (λ item. (first_of item < 2 ^ 52) × IsTrimmed (bytes_of item)) xs
image_printed image xs h is = subst (All (λ item. (first_of item < 2 ^ 52) × IsTrimmed (bytes_of item))) (sym is)
    (all_parts (λ item. (first_of item < 2 ^ 52) × IsTrimmed (bytes_of item)) image.items
    (λ before after item at. let may = h.items before after item at in
    let small = user_small image.limits.levels (first_of item) (count_of item) h.levels.1 may.bounds.user in
    (omega (arith, small), may.next.trimmed)))

pub image_pieces : (image : ImageParts) (out : List ℕ) → ((out ++ text (head_lines image.limits ++ file_lines image.files)) ++ text (map item_line image.items)) ++ ended end_line ≡ out ++ image_text image
image_pieces image out =
    let head : List (List ℕ) = head_lines image.limits ++ file_lines image.files in
    let items : List (List ℕ) = map item_line image.items in
    let front : head ++ items ≡ front_lines image = append_assoc (head_lines image.limits) (file_lines image.files) items in
    append_assoc (out ++ text head) (text items) (ended end_line)
    ∙ append_assoc out (text head) (text items ++ ended end_line)
    ∙ ap (λ t. out ++ t)
    (ap (λ t. text head ++ t) (ap (λ t. text items ++ t) (sym (append-nil (ended end_line))) ∙ sym (text-append items (end_line ∷ [])))
    ∙ sym (text-append head (items ++ end_line ∷ []))
    ∙ ap text (sym (append_assoc head items (end_line ∷ [])) ∙ ap (λ ls. ls ++ end_line ∷ []) front))
