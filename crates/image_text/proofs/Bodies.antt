-- The lines of files and items, one after another.
use Rattle.std.proofs.Common.{◌≡◌, ◌≢◌, ℕ, ◌+◌, List, [], ◌∷◌, ◌++◌, map, refl, sym, ap, subst, ◌∙◌, arith}
use Rattle.std.proofs.lemmas.List.{map_push, append-nil, append_assoc}
use Rattle.corten_base.specs.declared.numbers.Limits.{Limits}
use Rattle.text_words.specs.Layout.{IsLine, ended, text, TextRest}
use Rattle.text_words.specs.Passing.{Passes, FaultFrom}
use Rattle.text_words.proofs.Passing.{Passes-none, Passes-append, FaultFrom-behind, fault_at_line, fault_at_end}
use Rattle.mm_script.specs.ScriptText.{file_line, file_lines}
use Rattle.history_lines.specs.Accounting.{levels_line}
use Rattle.history_lines.proofs.Shelves.{HasNoLevelsFirst}
use Rattle.image_text.specs.declared.image.Item.{Item}
use Rattle.image_text.specs.Images.{ImageParts, IsImage}
use Rattle.image_text.specs.ImageText.{item_line, head_lines, front_lines, end_line, AreImageLines}
use Rattle.image_text.specs.Reading.{IsNextFile, IsNextItem, IsAdded, IsNoLine, HasNoLevels}
use Rattle.image_text.proofs.Beginnings.{lines_begin}
use Rattle.image_text.proofs.Behind.{LeavesNoLevels, no_line, wants_end}

-- the lines of an image behind its limits
abbrev pub body_lines : ImageParts → List (List ℕ)
body_lines image = file_lines image.files ++ map item_line image.items

-- the lines so far are those of the files and the items
pub record HasPassed (limits : Limits) (old now : TextRest) (image : ImageParts) : Type 0 where
  pub limits_are : image.limits ≡ limits
  pub passed : Passes old now (body_lines image)

pub none_passed : (limits : Limits) (place : TextRest) (image : ImageParts) → image ≡ record { limits = limits; files = []; items = [] } → HasPassed limits place place image
none_passed limits place image is = subst (HasPassed limits place place) (sym is) (record { limits_are = refl; passed = Passes-none place })

-- one more line
added_lines : (old new : ImageParts) (line : List ℕ) → IsAdded old line new → body_lines new ≡ body_lines old ++ line ∷ []
added_lines old new line (IsAdded.file f) =
    let one : body_lines old ≡ file_lines old.files = ap (λ is. file_lines old.files ++ map item_line is) f.none ∙ append-nil (file_lines old.files) in
    ap body_lines f.after
    ∙ ap (λ is. file_lines (old.files ++ f.bytes ∷ []) ++ map item_line is) f.none ∙ append-nil (file_lines (old.files ++ f.bytes ∷ []))
    ∙ map_push file_line old.files f.bytes
    ∙ (λ i. sym one i ++ sym f.is_line i ∷ [])
added_lines old new line (IsAdded.item item is n) =
    ap body_lines n.after
    ∙ ap (λ ls. file_lines old.files ++ ls) (map_push item_line old.items item)
    ∙ sym (append_assoc (file_lines old.files) (map item_line old.items) (item_line item ∷ []))
    ∙ ap (λ l. body_lines old ++ l ∷ []) (sym is)

same_limits : (old new : ImageParts) (line : List ℕ) → IsAdded old line new → new.limits ≡ old.limits
same_limits old new line (IsAdded.file f) = ap (λ (x : ImageParts). x.limits) f.after
same_limits old new line (IsAdded.item item is n) = ap (λ (x : ImageParts). x.limits) n.after

pub more_passed : (limits : Limits) (old mid new : TextRest) (image after : ImageParts) (line : List ℕ) → HasPassed limits old mid image → Passes mid new (line ∷ []) → IsAdded image line after → HasPassed limits old new after
more_passed limits old mid new image after line h next added = record {
  limits_are = same_limits image after line added ∙ h.limits_are;
  passed = subst (Passes old new) (sym (added_lines image after line added)) (Passes-append old mid new (body_lines image) (line ∷ []) h.passed next);
}

-- the last line
pub end_passed : (limits : Limits) (old mid new : TextRest) (image : ImageParts) (line : List ℕ) → HasPassed limits old mid image → Passes mid new (line ∷ []) → line ≡ end_line
    → Passes old new (file_lines image.files ++ (map item_line image.items ++ end_line ∷ []))
end_passed limits old mid new image line h next is =
    subst (Passes old new) (append_assoc (file_lines image.files) (map item_line image.items) (end_line ∷ []))
    (Passes-append old mid new (body_lines image) (end_line ∷ []) h.passed (subst (λ l. Passes mid new (l ∷ [])) is next))

-- the first line of some bytes
first_is_other : (old new : TextRest) (lines more : List (List ℕ)) (line : List ℕ) → Passes old new lines → lines ≢ [] → ((rest : List ℕ) → old.bytes ≢ ended line ++ rest) → (others : List (List ℕ)) → lines ++ more ≢ line ∷ others
first_is_other old new [] more line passed some other others same = some refl
first_is_other old new (l ∷ lines) more line passed some other others same =
    let first : l ≡ line = cc in
    other (text lines ++ new.bytes) (passed.parted ∙ append_assoc (ended l) (text lines) new.bytes ∙ ap (λ k. ended k ++ (text lines ++ new.bytes)) first)

some_lines : (xs : List (List ℕ)) (line : List ℕ) → xs ++ line ∷ [] ≢ []
some_lines [] line same = cc
some_lines (x ∷ xs) line same = cc

-- where no line of levels went on, none is still to come
leaves_no_levels : (limits : Limits) (old mid new : TextRest) (image : ImageParts) (line : List ℕ) → HasNoLevels limits.levels old.bytes → HasPassed limits old mid image → Passes mid new (line ∷ [])
    → (xs : List (List ℕ)) → LeavesNoLevels image (line ∷ xs)
leaves_no_levels limits old mid new image line none h next xs levels others same =
    let all = Passes-append old mid new (body_lines image) (line ∷ []) h.passed next in
    let shape : (body_lines image ++ line ∷ []) ++ xs ≡ file_lines image.files ++ (map item_line image.items ++ line ∷ xs) =
    append_assoc (body_lines image) (line ∷ []) xs ∙ append_assoc (file_lines image.files) (map item_line image.items) (line ∷ xs) in
    first_is_other old new (body_lines image ++ line ∷ []) xs levels_line all (some_lines (body_lines image) line)
    (none (sym (ap (λ (l : Limits). l.levels) h.limits_are) ∙ levels)) others (shape ∙ same)

-- with lines or without
ends_no_levels : (limits : Limits) (old mid : TextRest) (image : ImageParts) → HasNoLevels limits.levels old.bytes → HasPassed limits old mid image → LeavesNoLevels image []
ends_no_levels limits old mid image none h levels others same = go (body_lines image) refl
  where
    shape : body_lines image ++ [] ≡ file_lines image.files ++ (map item_line image.items ++ [])
    shape = append_assoc (file_lines image.files) (map item_line image.items) []

    absent : [] ≢ levels_line ∷ others
    absent is = cc is

    go : (lines : List (List ℕ)) → body_lines image ≡ lines → ⊥
    go [] is = absent (ap (λ ls. ls ++ []) (sym is) ∙ shape ∙ same)
    go (l ∷ lines) is =
        first_is_other old mid (body_lines image) [] levels_line h.passed (λ e. nonempty (sym is ∙ e))
        (none (sym (ap (λ (a : Limits). a.levels) h.limits_are) ∙ levels)) others (shape ∙ same)
      where
        nonempty : l ∷ lines ≢ []
        nonempty e = cc e

behind_head : (limits : Limits) (image : ImageParts) (old : TextRest) (n : ℕ) → image.limits ≡ limits → FaultFrom AreImageLines old (front_lines image) n → FaultFrom AreImageLines old (head_lines limits ++ body_lines image) n
behind_head limits image old n is fault = subst (λ l. FaultFrom AreImageLines old (head_lines l ++ body_lines image) n) is fault

-- a line that doesn't go on
pub line_fault : (limits : Limits) (old mid new : TextRest) (image : ImageParts) (line : List ℕ) → IsImage image → HasNoLevels limits.levels old.bytes → HasPassed limits old mid image → Passes mid new (line ∷ [])
    → line ≢ end_line → IsNoLine image line → FaultFrom AreImageLines old (head_lines limits) new.taken
line_fault limits old mid new image line right none h next no_end stops =
    FaultFrom-behind AreImageLines old mid (head_lines limits) (body_lines image) new.taken h.passed
    (behind_head limits image mid new.taken h.limits_are
    (fault_at_line AreImageLines mid new (front_lines image) line next (lines_begin image right) (no_line image line right stops no_end (leaves_no_levels limits old mid new image line none h next))))

-- the bytes end before the last line
pub end_fault : (limits : Limits) (old mid : TextRest) (image : ImageParts) → IsImage image → HasNoLevels limits.levels old.bytes → HasPassed limits old mid image → IsLine mid.bytes → FaultFrom AreImageLines old (head_lines limits) (mid.taken + 1)
end_fault limits old mid image right none h ends =
    FaultFrom-behind AreImageLines old mid (head_lines limits) (body_lines image) (mid.taken + 1) h.passed
    (behind_head limits image mid (mid.taken + 1) h.limits_are
    (fault_at_end AreImageLines mid (front_lines image) ends (lines_begin image right) (wants_end image right (ends_no_levels limits old mid image none h))))
