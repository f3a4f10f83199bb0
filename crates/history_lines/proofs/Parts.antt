-- A text that goes on: what was passed on so far, and a part of what comes.
use Rattle.std.proofs.Common.{◌≡◌, ℕ, ◌+◌, ◌<◌, ◌≤◌, List, [], ◌∷◌, ◌++◌, Option, subst, refl, sym, ap, ◌∙◌, arith, append_assoc, append-nil, drop, get_or, length, map, take}
use Rattle.std.proofs.lemmas.List.{drop_more, length-append, take-append-le}
use Rattle.std.proofs.Math.Seq.{take-append-add, take-append_seam}
use Rattle.std.specs.Io.KnownBytes.{append_known}
use Rattle.byte_streams.specs.Streams.{HasWritten, HasWrittenPart}
use Rattle.byte_streams.proofs.Known.{append_twice, append_nothing, risen}
use Rattle.corten_base.specs.declared.calls.Entry.{Entry}
use Rattle.text_words.specs.Layout.{ended, text}
use Rattle.text_words.proofs.LineLists.{text-append}
use Rattle.history_lines.specs.declared.history.History.{History}
use Rattle.history_lines.specs.Accounting.{header_lines, account_lines}
use Rattle.history_lines.specs.HistoryText.{entry_line, lines_of, head_of, history_text}
use Rattle.history_lines.specs.Writing.{PassedOn}
use Rattle.history_lines.specs.Outcomes.{IsWritten}
use Rattle.history_lines.specs.declared.writer.Written.{Written}
use Rattle.history_lines.specs.declared.writer.Written.TheVariants.{Whole, Failed, NoMemory}

-- nothing was passed on yet
pub passed_nothing : (held : Option (List ℕ)) (text : List ℕ) → PassedOn held held text text
passed_nothing held text = ([], refl, append_nothing held)

-- what waited, and more, went on
pub passed_then : (held held1 held2 : Option (List ℕ)) (text waiting more waiting2 : List ℕ) → PassedOn held held1 text waiting
    → PassedOn held1 held2 (waiting ++ more) waiting2 → PassedOn held held2 (text ++ more) waiting2
passed_then held held1 held2 text waiting more waiting2 before after = (
  before.0 ++ after.0,
  ap (λ t. t ++ more) before.1 ∙ append_assoc before.0 waiting more ∙ ap (λ t. before.0 ++ t) after.1 ∙ sym (append_assoc before.0 after.0 waiting2),
  after.2 ∙ ap (λ h. append_known h after.0) before.2 ∙ append_twice held before.0 after.0,
)

-- a part of a text is a part of a longer one
pub part_more : (held held1 : Option (List ℕ)) (text more : List ℕ) → HasWrittenPart held held1 text → HasWrittenPart held held1 (text ++ more)
part_more held held1 text more part =
    (part.0, omega (arith, part.1, length-append text more), part.2 ∙ ap (append_known held) (sym (take-append-le part.0 text more part.1)))

-- a part of what waited, and more, was written
pub part_then : (held held1 held2 : Option (List ℕ)) (text waiting more : List ℕ) → PassedOn held held1 text waiting
    → HasWrittenPart held1 held2 (waiting ++ more) → HasWrittenPart held held2 (text ++ more)
part_then held held1 held2 text waiting more before part = (
  length before.0 + part.0,
  inside,
  part.2 ∙ ap (λ h. append_known h (take part.0 (waiting ++ more))) before.2
      ∙ append_twice held before.0 (take part.0 (waiting ++ more)) ∙ ap (append_known held) (sym (take-append-add before.0 (waiting ++ more) part.0) ∙ ap (take (length before.0 + part.0)) (sym whole)),
)
  where
    whole : text ++ more ≡ before.0 ++ (waiting ++ more)
    whole = ap (λ t. t ++ more) before.1 ∙ append_assoc before.0 waiting more

    inside : length before.0 + part.0 ≤ length (text ++ more)
    inside = omega (arith, part.1, ap length whole, length-append before.0 (waiting ++ more))

-- what was passed on is a part of the text
pub part_passed : (held held1 : Option (List ℕ)) (text waiting : List ℕ) → PassedOn held held1 text waiting → HasWrittenPart held held1 text
part_passed held held1 text waiting before = (
  length before.0,
  omega (arith, ap length before.1, length-append before.0 waiting),
  before.2 ∙ ap (append_known held) (sym (take-append_seam before.0 waiting) ∙ ap (take (length before.0)) (sym before.1)),
)

pub passed_start : (held : Option (List ℕ)) (text : List ℕ) → PassedOn held held (text ++ []) text
passed_start held text = ([], append-nil text, append_nothing held)

-- a part of what waited, and more, is a part of the whole text
pub part_of_all : (held held1 held2 : Option (List ℕ)) (first done waiting more rest all : List ℕ) → PassedOn held held1 (first ++ done) waiting
    → HasWrittenPart held1 held2 (waiting ++ more) → done ++ (more ++ rest) ≡ all → HasWrittenPart held held2 (first ++ all)
part_of_all held held1 held2 first done waiting more rest all before part whole =
    let longer = part_more held held2 ((first ++ done) ++ more) rest (part_then held held1 held2 (first ++ done) waiting more before part) in
    subst (HasWrittenPart held held2) (append_assoc (first ++ done) more rest ∙ append_assoc first done (more ++ rest) ∙ ap (λ t. first ++ t) whole) longer

-- what waited, and more, went on, and the rest is to come
pub passed_of_all : (held held1 held2 : Option (List ℕ)) (first done waiting more rest all waiting2 : List ℕ) → PassedOn held held1 (first ++ done) waiting
    → PassedOn held1 held2 (waiting ++ more) waiting2 → done ++ (more ++ rest) ≡ all
    → PassedOn held held2 (first ++ (done ++ more)) waiting2 × ((done ++ more) ++ rest ≡ all)
passed_of_all held held1 held2 first done waiting more rest all waiting2 before after whole = (
  subst (λ t. PassedOn held held2 t waiting2) (append_assoc first done more) (passed_then held held1 held2 (first ++ done) waiting more waiting2 before after),
  append_assoc done more rest ∙ whole,
)

-- what waited, and the end of the text, were written
pub finished : (held held1 held2 : Option (List ℕ)) (f f1 f2 : ℕ) (before waiting more all : List ℕ) (w : Written) → PassedOn held held1 before waiting → f ≤ f1 → f1 ≤ f2
    → before ++ more ≡ all → IsWritten held1 held2 f1 f2 (waiting ++ more) w → IsWritten held held2 f f2 all w
finished held held1 held2 f f1 f2 before waiting more all Whole passed a b whole written =
    subst (HasWritten held held2) parts after
  where
    after : HasWritten held held2 (passed.0 ++ (waiting ++ more))
    after = written ∙ ap (λ h. append_known h (waiting ++ more)) passed.2 ∙ append_twice held passed.0 (waiting ++ more)

    parts : passed.0 ++ (waiting ++ more) ≡ all
    parts = sym (ap (λ t. t ++ more) passed.1 ∙ append_assoc passed.0 waiting more) ∙ whole
finished held held1 held2 f f1 f2 before waiting more all Failed passed a b whole written =
    (subst (HasWrittenPart held held2) whole (part_then held held1 held2 before waiting more passed written.0), risen f f1 f2 a b written.1)
finished held held1 held2 f f1 f2 before waiting more all NoMemory passed a b whole written =
    subst (HasWrittenPart held held2) whole (part_then held held1 held2 before waiting more passed written)

-- the elements that are left, one after another
pub next_of : {X : Type 0} (xs : List X) (i : ℕ) (x : X) → i < length xs → x ≡ get_or xs i x → drop i xs ≡ x ∷ drop (i + 1) xs
next_of xs i x inside is = drop_more xs i x inside ∙ ap (λ y. y ∷ drop (i + 1) xs) (sym is)

-- the line of the next entry, and then those of the others
pub next_entry_line : (left more : List Entry) (e : Entry) (done all : List ℕ) → left ≡ e ∷ more → done ++ lines_of left ≡ all → done ++ (ended (entry_line e) ++ lines_of more) ≡ all
next_entry_line left more e done all is whole = ap (λ es. done ++ lines_of es) (sym is) ∙ whole

-- a front of a text is a part of it
pub part_of_text : (held held1 : Option (List ℕ)) (front end all : List ℕ) → front ++ end ≡ all → HasWrittenPart held held1 front → HasWrittenPart held held1 all
part_of_text held held1 front end all whole part = subst (HasWrittenPart held held1) whole (part_more held held1 front end part)

-- the header, the lines of the entries and those of the accounts are the text
pub text_parts : (h : History) (none header : List ℕ) → none ≡ [] → header ≡ none ++ text (header_lines (head_of h) h.shelf) → (header ++ lines_of h.entries) ++ text (account_lines h.accounts) ≡ history_text h
text_parts h none header none_is header_is =
    let first : List ℕ = text (header_lines (head_of h) h.shelf) in
    let last : List ℕ = text (account_lines h.accounts) in
    ap (λ t. (t ++ lines_of h.entries) ++ last) (header_is ∙ ap (λ t. t ++ first) none_is)
    ∙ append_assoc first (lines_of h.entries) last
    ∙ ap (λ t. first ++ t) (sym (text-append (map entry_line h.entries) (account_lines h.accounts)))
    ∙ sym (text-append (header_lines (head_of h) h.shelf) (map entry_line h.entries ++ account_lines h.accounts))
