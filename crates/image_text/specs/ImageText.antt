-- The texts of images, and which line of other bytes is the first outside their grammar.
--     residence_word      where a page has its bytes
--     head_words      a page's words between the first and the bytes, and others behind them
--     item_words, item_line      the words of an item's line, and the line
--     head_lines      the version, the limits and the levels
--     front_lines      the lines before the last one
--     image_lines, image_text      the lines of an image, and its text
--     IsImageText      bytes that are the text of an image
--     AreImageLines      the grammar: lines that are those of some image
--     IsFirstFault      the first line outside the grammar
use Rattle.std.specs.Prelude.{◌≡◌, ℕ, ◌*◌, List, [], ◌∷◌, ◌++◌, map, codes}
use Rattle.corten_base.specs.declared.numbers.Limits.{Limits}
use Rattle.corten_base.specs.declared.permissions.Perm.{Perm}
use Rattle.corten_base.specs.declared.calls.Backing.{Backing}
use Rattle.text_words.specs.Spelling.{number, address, permission}
use Rattle.text_words.specs.Layout.{joined, text}
use Rattle.text_words.specs.Grammar as grammar
use Rattle.mm_script.specs.CallLine.{backing_words}
use Rattle.mm_script.specs.ScriptText.{limit_words, limit_lines, file_word, file_lines}
use Rattle.history_lines.specs.Accounting.{levels_lines}
use Rattle.image_text.specs.declared.image.Item.{Item}
use Rattle.image_text.specs.declared.image.Item.TheVariants.{Run, Page}
use Rattle.image_text.specs.declared.image.Residence.{Residence}
use Rattle.image_text.specs.declared.image.Residence.TheVariants.{Live, Out}
use Rattle.image_text.specs.Images.{ImageParts, IsImage}

abbrev pub residence_word : Residence → List ℕ
residence_word Live = codes "live"
residence_word Out = codes "out"

abbrev pub head_words : ℕ → Perm → Backing → Residence → List (List ℕ) → List (List ℕ)
head_words page perm origin residence behind = address (4096 * page) ∷ permission perm ∷ (backing_words origin ++ residence_word residence ∷ behind)

-- addresses count bytes, and bytes stand as a file's do: `-` for none
abbrev pub item_words : Item → List (List ℕ)
item_words (Run first count perm what) = codes "run" ∷ address (4096 * first) ∷ number count ∷ permission perm ∷ backing_words what
item_words (Page page perm origin residence bytes) =
    codes "page" ∷ head_words page perm origin residence (file_word bytes ∷ [])

abbrev pub item_line : Item → List ℕ
item_line item = joined (item_words item)

-- a word and a number, as the limits have
abbrev pub version_line : List ℕ
version_line = joined (limit_words (codes "image") 1)

abbrev pub head_lines : Limits → List (List ℕ)
head_lines limits = version_line ∷ (limit_lines limits ++ levels_lines limits.levels)

abbrev pub front_lines : ImageParts → List (List ℕ)
front_lines image = head_lines image.limits ++ (file_lines image.files ++ map item_line image.items)

abbrev pub end_line : List ℕ
end_line = codes "end"

abbrev pub image_lines : ImageParts → List (List ℕ)
image_lines image = front_lines image ++ end_line ∷ []

abbrev pub image_text : ImageParts → List ℕ
image_text image = text (image_lines image)

pub record IsImageText (bytes : List ℕ) (image : ImageParts) : Type 0 where
  pub is_image : IsImage image
  pub whole : bytes ≡ image_text image

pub record AreImageLines (lines : List (List ℕ)) : Type 0 where
  pub image : ImageParts
  pub is_image : IsImage image
  pub are : lines ≡ image_lines image

abbrev pub Begins : List (List ℕ) → Type 0
Begins = grammar.Begins AreImageLines

abbrev pub IsFirstFault : List ℕ → ℕ → Type 0
IsFirstFault = grammar.IsFirstFault AreImageLines
