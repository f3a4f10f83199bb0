-- With which lines the text of an image begins, and with which it doesn't.
use Rattle.std.proofs.Common.{◌≡◌, ◌≢◌, ℕ, ◌+◌, ◌≤◌, ◌^◌, ◌<◌, Bool, true, false, ltb, eqb, List, [], ◌∷◌, ◌++◌, length, map, codes, refl, sym, ap, subst, ◌∙◌, arith}
use Rattle.std.specs.Prelude.{◌==◌, if◌then◌else◌}
use Rattle.std.specs.List.{All, list_all}
use Rattle.std.proofs.lemmas.Bool.{false≢true}
use Rattle.std.proofs.lemmas.Bool.Decides.{nat_tests}
use Rattle.std.proofs.lemmas.List.{append-nil, append_assoc, length-append}
use Rattle.std.proofs.lemmas.List.Elements.{All-nil, All-cons, All-head, All-tail, All-append}
use Rattle.corten_base.specs.declared.numbers.Limits.{Limits}
use Rattle.text_words.specs.Layout.{IsLine, joined, words_of, TextRest}
use Rattle.text_words.specs.Passing.{Passes}
use Rattle.text_words.proofs.Grammars.{Begins-front, Begins-whole}
use Rattle.mm_script.specs.CallLine.{IsWithin}
use Rattle.mm_script.specs.ScriptText.{limit_words, limit_lines, file_line, file_lines, IsFile, AreFiles, AreLimits}
use Rattle.mm_script.proofs.CallForms.{other_word}
use Rattle.mm_script.proofs.FileLines.{file_words, words_of-file_line, file_line_IsLine}
use Rattle.history_lines.specs.Accounting.{levels_line, levels_lines}
use Rattle.history_lines.proofs.CountLines.{words_of-limit, limit_line_injective, words_of-levels, levels_IsLine}
use Rattle.history_lines.proofs.Shelves.{HasNoLevelsFirst, FirstOther, FilesGoOn, files_go_on, first_no_levels, none_no_levels, files_no_levels, same_files}
use Rattle.image_text.specs.declared.image.Item.{Item}
use Rattle.image_text.specs.declared.image.Item.TheVariants.{Run, Page}
use Rattle.image_text.specs.Images.{ImageParts, MayFollow, IsImage}
use Rattle.image_text.specs.ImageText.{item_words, item_line, version_line, head_lines, front_lines, end_line, image_lines, AreImageLines, Begins}
use Rattle.image_text.specs.Reading.{IsSpelled, NoFileHere, IsNoLine}
use Rattle.image_text.proofs.OneItem.{words_of-item_line, item_line_IsLine, item_line_injective}
use Rattle.image_text.proofs.Orders.{no_items, image_spelled, may_spelled}

same_first : (a b : List ℕ) (x y : List (List ℕ)) → a ∷ x ≡ b ∷ y → a ≡ b
same_first a b x y same = cc

same_behind : (a b : List ℕ) (x y : List (List ℕ)) → a ∷ x ≡ b ∷ y → x ≡ y
same_behind a b x y same = cc

-- ---- images that have only limits

abbrev limits_from : ℕ → ℕ → ℕ → Limits
limits_from frames tables swap = record { levels = 4; frames = frames; tables = tables; swap = swap }

abbrev pub only_limits : Limits → ImageParts
only_limits limits = record { limits = limits; files = []; items = [] }

pub only_limits_are : (limits : Limits) → AreLimits limits → IsWithin 4 5 limits.levels → IsImage (only_limits limits)
only_limits_are limits h levels = record {
  limits = h;
  levels = levels;
  files = record { count = omega arith; each = All-nil IsFile };
  items = no_items limits [];
}

-- each front of an image's lines begins a text
pub front_begins : (image : ImageParts) → IsImage image → (lines more : List (List ℕ)) → image_lines image ≡ lines ++ more → Begins lines
front_begins image h lines more parted =
    Begins-front AreImageLines lines more (subst Begins parted (Begins-whole AreImageLines (image_lines image) (record { image = image; is_image = h; are = refl })))

pub image_begins : (image : ImageParts) → IsImage image → Begins (image_lines image)
image_begins image h = front_begins image h (image_lines image) [] (sym (append-nil (image_lines image)))

pub lines_begin : (image : ImageParts) → IsImage image → Begins (front_lines image)
lines_begin image h = front_begins image h (front_lines image) (end_line ∷ []) refl

front_from : (f t s : ℕ) (lines more : List (List ℕ)) → IsWithin 1 4096 f → IsWithin 1 1023 t → IsWithin 0 4096 s → image_lines (only_limits (limits_from f t s)) ≡ lines ++ more → Begins lines
front_from f t s lines more hf ht hs parted =
    front_begins (only_limits (limits_from f t s)) (only_limits_are (limits_from f t s) (record { frames = hf; tables = ht; swap = hs }) (omega arith, omega arith)) lines more parted

abbrev pub limit_line : List ℕ → ℕ → List ℕ
limit_line name n = joined (limit_words name n)

one_within : (high : ℕ) → 1 ≤ high → IsWithin 1 high 1
one_within high h = (omega arith, h)

pub begins_none : Begins []
begins_none = front_from 1 1 0 [] (image_lines (only_limits (limits_from 1 1 0))) (one_within 4096 (omega arith)) (one_within 1023 (omega arith)) (omega arith, omega arith) refl

pub begins_version : Begins (version_line ∷ [])
begins_version =
    front_from 1 1 0 (version_line ∷ []) (limit_line (codes "frames") 1 ∷ limit_line (codes "tables") 1 ∷ limit_line (codes "swap") 0 ∷ end_line ∷ [])
    (one_within 4096 (omega arith)) (one_within 1023 (omega arith)) (omega arith, omega arith) refl

pub begins_frames : (f : ℕ) → IsWithin 1 4096 f → Begins (version_line ∷ limit_line (codes "frames") f ∷ [])
begins_frames f hf =
    front_from f 1 0 (version_line ∷ limit_line (codes "frames") f ∷ []) (limit_line (codes "tables") 1 ∷ limit_line (codes "swap") 0 ∷ end_line ∷ [])
    hf (one_within 1023 (omega arith)) (omega arith, omega arith) refl

pub begins_tables : (f t : ℕ) → IsWithin 1 4096 f → IsWithin 1 1023 t → Begins (version_line ∷ limit_line (codes "frames") f ∷ limit_line (codes "tables") t ∷ [])
begins_tables f t hf ht =
    front_from f t 0 (version_line ∷ limit_line (codes "frames") f ∷ limit_line (codes "tables") t ∷ []) (limit_line (codes "swap") 0 ∷ end_line ∷ [])
    hf ht (omega arith, omega arith) refl

-- what begins no text
no_limit : (line name : List ℕ) (n low high : ℕ) → list_all (λ b. ltb 96 b) name ≡ true → high ≤ 4096 → IsWithin low high n → ((m : ℕ) → IsWithin low high m → words_of line ≢ limit_words name m) → line ≢ limit_line name n
no_limit line name n low high letters small within none is = none n within (ap words_of is ∙ words_of-limit name n letters (omega (arith, within.1)))

pub no_version : (line : List ℕ) → ((n : ℕ) → IsWithin 1 1 n → words_of line ≢ limit_words (codes "image") n) → ¬ (Begins ([] ++ line ∷ []))
no_version line none b =
    let are = b.goes_on.are in
    no_limit line (codes "image") 1 1 1 refl (omega arith) (omega arith, omega arith) none (cc are)

pub no_frames : (first line : List ℕ) → ((n : ℕ) → IsWithin 1 4096 n → words_of line ≢ limit_words (codes "frames") n) → ¬ (Begins ((first ∷ []) ++ line ∷ []))
no_frames first line none b =
    let are = b.goes_on.are in
    no_limit line (codes "frames") b.goes_on.image.limits.frames 1 4096 refl (omega arith) b.goes_on.is_image.limits.frames none (cc are)

pub no_tables : (first second line : List ℕ) → ((n : ℕ) → IsWithin 1 1023 n → words_of line ≢ limit_words (codes "tables") n) → ¬ (Begins ((first ∷ second ∷ []) ++ line ∷ []))
no_tables first second line none b =
    let are = b.goes_on.are in
    no_limit line (codes "tables") b.goes_on.image.limits.tables 1 1023 refl (omega arith) b.goes_on.is_image.limits.tables none (cc are)

pub no_swap : (first second third line : List ℕ) → ((n : ℕ) → IsWithin 0 4096 n → words_of line ≢ limit_words (codes "swap") n) → ¬ (Begins ((first ∷ second ∷ third ∷ []) ++ line ∷ []))
no_swap first second third line none b =
    let are = b.goes_on.are in
    no_limit line (codes "swap") b.goes_on.image.limits.swap 0 4096 refl (omega arith) b.goes_on.is_image.limits.swap none (cc are)

-- lines that are not all of a text
pub wants_version : ¬ (AreImageLines [])
wants_version g = let are = g.are in cc are

pub wants_frames : (first : List ℕ) → ¬ (AreImageLines (first ∷ []))
wants_frames first g = let are = g.are in cc are

pub wants_tables : (first second : List ℕ) → ¬ (AreImageLines (first ∷ second ∷ []))
wants_tables first second g = let are = g.are in cc are

pub wants_swap : (first second third : List ℕ) → ¬ (AreImageLines (first ∷ second ∷ third ∷ []))
wants_swap first second third g = let are = g.are in cc are

-- ---- lines of different kinds

abbrev IsNoFileLine : List ℕ → Type 0
IsNoFileLine line = (bytes : List ℕ) → IsFile bytes → line ≢ file_line bytes

item_name : (item : Item) → IsSpelled item → (word : List ℕ) × (rest : List (List ℕ)) × (words_of (item_line item) ≡ word ∷ rest)
item_name (Run first count perm what) h = (codes "run", _, words_of-item_line (Run first count perm what) h)
item_name (Page page perm origin residence bytes) h = (codes "page", _, words_of-item_line (Page page perm origin residence bytes) h)

pub item_no_file : (item : Item) → IsSpelled item → IsNoFileLine (item_line item)
item_no_file (Run first count perm what) h bytes is_file is =
    other_word (codes "run") (codes "file") _ _ refl (sym (words_of-item_line (Run first count perm what) h) ∙ ap words_of is ∙ words_of-file_line bytes is_file)
item_no_file (Page page perm origin residence bytes) h file is_file is =
    other_word (codes "page") (codes "file") _ _ refl (sym (words_of-item_line (Page page perm origin residence bytes) h) ∙ ap words_of is ∙ words_of-file_line file is_file)

pub item_no_levels : (item : Item) → IsSpelled item → item_line item ≢ levels_line
item_no_levels (Run first count perm what) h is =
    other_word (codes "run") (codes "levels") _ _ refl (sym (words_of-item_line (Run first count perm what) h) ∙ ap words_of is ∙ words_of-levels)
item_no_levels (Page page perm origin residence bytes) h is =
    other_word (codes "page") (codes "levels") _ _ refl (sym (words_of-item_line (Page page perm origin residence bytes) h) ∙ ap words_of is ∙ words_of-levels)

one_version : (n : ℕ) → IsWithin 1 1 n → n ≡ 1
one_version n h = omega (arith, h.0, h.1)

pub version_passed : (old new : TextRest) (n : ℕ) → IsWithin 1 1 n → Passes old new (limit_line (codes "image") n ∷ []) → Passes old new (version_line ∷ [])
version_passed old new n h = subst (λ m. Passes old new (limit_line (codes "image") m ∷ [])) (one_version n h)
