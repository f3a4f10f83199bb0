-- A text is that of one image at most, and of none where a line is outside the grammar.
use Rattle.std.proofs.Common.{◌≡◌, ◌≢◌, ℕ, ◌+◌, ◌≤◌, ◌<◌, ◌^◌, Bool, true, false, ltb, List, [], ◌∷◌, ◌++◌, map, codes, refl, sym, ap, subst, ◌∙◌, arith}
use Rattle.std.specs.Prelude.{◌==◌, if◌then◌else◌}
use Rattle.std.specs.List.{All, list_all}
use Rattle.std.proofs.lemmas.List.{append-nil, append_assoc}
use Rattle.std.proofs.lemmas.List.Elements.{All-nil, All-cons, All-head, All-tail, All-append}
use Rattle.corten_base.specs.declared.numbers.Limits.{Limits}
use Rattle.text_words.specs.Layout.{HasNo, IsLine, joined, text, TextRest}
use Rattle.text_words.specs.Passing.{Passes}
use Rattle.text_words.proofs.LineLists.{SameLines, one_list_of_lines}
use Rattle.text_words.proofs.Grammars as grammars
use Rattle.text_words.proofs.Passing.{Passes-append, FaultFrom-behind, fault_after}
use Rattle.text_words.proofs.SpelledBytes.{IsNoDigit-below, HasNo-number, HasNo-joined}
use Rattle.text_words.specs.Spelling.{number}
use Rattle.mm_script.specs.ScriptText.{limit_words, limit_lines, file_line, file_lines, IsFile, AreLimits}
use Rattle.mm_script.proofs.FileLines.{file_line_IsLine}
use Rattle.mm_script.proofs.OneCall.{HasNo_letters}
use Rattle.history_lines.specs.Accounting.{levels_line, levels_lines}
use Rattle.history_lines.proofs.CountLines.{levels_IsLine}
use Rattle.image_text.specs.declared.image.Item.{Item}
use Rattle.image_text.specs.Images.{ImageParts, IsImage}
use Rattle.image_text.specs.ImageText.{item_line, version_line, head_lines, front_lines, end_line, image_lines, image_text, IsImageText, AreImageLines, IsFirstFault}
use Rattle.image_text.specs.Reading.{IsSpelled}
use Rattle.image_text.proofs.OneItem.{item_line_IsLine}
use Rattle.image_text.proofs.Orders.{image_spelled}
use Rattle.image_text.proofs.Beginnings.{limit_line, image_begins}
use Rattle.image_text.proofs.Behind.{one_image, no_more}

limit_IsLine : (name : List ℕ) (n : ℕ) → list_all (λ b. ltb 96 b) name ≡ true → n ≤ 4096 → IsLine (limit_line name n)
limit_IsLine name n letters few =
    HasNo-joined 10 (limit_words name n) (λ e. omega arith)
    (All-cons (HasNo 10) name (number n ∷ []) (HasNo_letters 10 name (omega arith) letters)
    (All-cons (HasNo 10) (number n) [] (HasNo-number 10 n (omega (arith, few)) (IsNoDigit-below 10 (omega arith))) (All-nil (HasNo 10))))

levels_are_lines : (levels : ℕ) → All IsLine (levels_lines levels)
levels_are_lines levels =
    let one : All IsLine (levels_line ∷ []) = All-cons IsLine levels_line [] levels_IsLine (All-nil IsLine) in
    elim (levels == 5) as (λ b. All IsLine (if b then levels_line ∷ [] else [])) [ true ↦ one | false ↦ All-nil IsLine ]

head_are_lines : (limits : Limits) → AreLimits limits → All IsLine (head_lines limits)
head_are_lines limits h =
    let frames : List ℕ = limit_line (codes "frames") limits.frames in
    let tables : List ℕ = limit_line (codes "tables") limits.tables in
    let swap : List ℕ = limit_line (codes "swap") limits.swap in
    let last : List (List ℕ) = levels_lines limits.levels in
    All-cons IsLine version_line (frames ∷ tables ∷ swap ∷ last) (limit_IsLine (codes "image") 1 refl (omega arith))
    (All-cons IsLine frames (tables ∷ swap ∷ last) (limit_IsLine (codes "frames") limits.frames refl h.frames.1)
    (All-cons IsLine tables (swap ∷ last) (limit_IsLine (codes "tables") limits.tables refl (omega (arith, h.tables.1)))
    (All-cons IsLine swap last (limit_IsLine (codes "swap") limits.swap refl h.swap.1) (levels_are_lines limits.levels))))

files_are_lines : (files : List (List ℕ)) → All IsFile files → All IsLine (file_lines files)
files_are_lines [] h = All-nil IsLine
files_are_lines (f ∷ files) h = All-cons IsLine (file_line f) (file_lines files) (file_line_IsLine f (All-head IsFile f files h)) (files_are_lines files (All-tail IsFile f files h))

items_are_lines : (items : List Item) → All IsSpelled items → All IsLine (map item_line items)
items_are_lines [] h = All-nil IsLine
items_are_lines (i ∷ items) h = All-cons IsLine (item_line i) (map item_line items) (item_line_IsLine i (All-head IsSpelled i items h)) (items_are_lines items (All-tail IsSpelled i items h))

pub image_are_lines : (image : ImageParts) → IsImage image → All IsLine (image_lines image)
image_are_lines image h =
    All-append IsLine (front_lines image) (end_line ∷ [])
    (All-append IsLine (head_lines image.limits) (file_lines image.files ++ map item_line image.items) (head_are_lines image.limits h.limits)
    (All-append IsLine (file_lines image.files) (map item_line image.items) (files_are_lines image.files h.files.each) (items_are_lines image.items (image_spelled image h))))
    (All-cons IsLine end_line [] (HasNo_letters 10 (codes "end") (omega arith) refl) (All-nil IsLine))

pub one_text : (bytes : List ℕ) (a b : ImageParts) → IsImageText bytes a → IsImageText bytes b → b ≡ a
one_text bytes a b ha hb =
    let none = All-nil (λ c. c ≢ 10) in
    let same : SameLines (image_lines b) [] (image_lines a) [] =
    one_list_of_lines (image_lines b) [] (image_lines a) [] (image_are_lines b hb.is_image) (image_are_lines a ha.is_image) none none
    (append-nil (image_text b) ∙ sym hb.whole ∙ ha.whole ∙ sym (append-nil (image_text a))) in
    one_image b a hb.is_image ha.is_image same.lines

pub fault_refuses : (bytes : List ℕ) (n : ℕ) (image : ImageParts) → IsFirstFault bytes n → ¬ (IsImageText bytes image)
fault_refuses bytes n image fault t =
    grammars.fault_refuses AreImageLines bytes n (image_lines image) fault (image_are_lines image t.is_image) t.whole (record { image = image; is_image = t.is_image; are = refl })

pub one_first_fault : (bytes : List ℕ) (m n : ℕ) → IsFirstFault bytes m → IsFirstFault bytes n → m ≡ n
one_first_fault bytes m n h g = grammars.one_first_fault AreImageLines bytes m n h g

-- to print and to read again, and to read and to print
pub printed_text : (image : ImageParts) → IsImage image → IsImageText (image_text image) image
printed_text image h = record { is_image = h; whole = refl }

pub read_again : (image other : ImageParts) → IsImage image → IsImageText (image_text image) other → other ≡ image
read_again image other h t = one_text (image_text image) image other (printed_text image h) t

-- an image whose lines were all passed
abbrev body : ImageParts → List (List ℕ)
body image = file_lines image.files ++ (map item_line image.items ++ end_line ∷ [])

pub all_passed : (old mid new : TextRest) (limits : Limits) (image : ImageParts) → image.limits ≡ limits → Passes old mid (head_lines limits) → Passes mid new (body image) → Passes old new (image_lines image)
all_passed old mid new limits image is head rest =
    subst (Passes old new)
    (ap (λ l. head_lines l ++ body image) (sym is)
    ∙ sym (append_assoc (head_lines image.limits) (file_lines image.files ++ map item_line image.items) (end_line ∷ [])
    ∙ ap (λ ls. head_lines image.limits ++ ls) (append_assoc (file_lines image.files) (map item_line image.items) (end_line ∷ []))))
    (Passes-append old mid new (head_lines limits) (body image) head rest)

pub text_passed : (bytes : List ℕ) (old new : TextRest) (image : ImageParts) → old.bytes ≡ bytes → IsImage image → Passes old new (image_lines image) → new.bytes ≡ [] → IsImageText bytes image
text_passed bytes old new image are h passed done = record {
  is_image = h;
  whole = sym are ∙ passed.parted ∙ ap (λ bs. text (image_lines image) ++ bs) done ∙ append-nil (text (image_lines image));
}

-- bytes that are left behind the last line
pub bytes_left : (bytes : List ℕ) (old new : TextRest) (image : ImageParts) → old.bytes ≡ bytes → old.taken ≡ 0 → IsImage image → Passes old new (image_lines image) → new.bytes ≢ [] → IsFirstFault bytes (new.taken + 1)
bytes_left bytes old new image are none h passed some =
    grammars.first_fault AreImageLines bytes old (new.taken + 1) are none
    (FaultFrom-behind AreImageLines old new [] (image_lines image) (new.taken + 1) passed
    (fault_after AreImageLines new (image_lines image) some (image_begins image h) (λ line. no_more image line h)))
