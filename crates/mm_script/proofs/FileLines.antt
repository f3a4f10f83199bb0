-- The lines of files: no two files have one line, and no file has the line of a thread.
use Rattle.std.proofs.Common.{◌≡◌, ◌≢◌, ℕ, ◌*◌, ◌<◌, ◌≤◌, List, [], ◌∷◌, length, codes, refl, sym, ap, ◌∙◌, arith}
use Rattle.std.specs.Prelude.{Option, Some, None, Result, Ok, Err, IfOk, IfSome, IfNone}
use Rattle.std.specs.List.{All}
use Rattle.std.proofs.lemmas.List.Elements.{All-nil, All-cons}
use Rattle.text_words.specs.Spelling.{hex}
use Rattle.text_words.specs.Layout.{HasNo, IsLine, joined, words_of}
use Rattle.text_words.proofs.OneValue.{hex_injective}
use Rattle.text_words.proofs.HexPairs.{length-hex}
use Rattle.text_words.proofs.SpelledBytes.{IsNoDigit-below, HasNo-hex, HasNo-joined}
use Rattle.text_words.proofs.WordLists.{joined-words_of, words_of-joined}
use Rattle.mm_script.specs.CallLine.{IsWithin}
use Rattle.mm_script.specs.ScriptText.{file_word, file_line, IsFile}
use Rattle.mm_script.proofs.OneCall.{HasNo_letters}

abbrev pub file_words : List ℕ → List (List ℕ)
file_words bytes = codes "file" ∷ file_word bytes ∷ []

file_word_has_no : (byte : ℕ) (bytes : List ℕ) → byte < 45 → All (λ b. b < 256) bytes → HasNo byte (file_word bytes)
file_word_has_no byte [] low fit = All-cons (λ b. b ≢ byte) 45 [] (λ e. omega arith) (All-nil (λ b. b ≢ byte))
file_word_has_no byte (b ∷ bytes) low fit = HasNo-hex byte (b ∷ bytes) fit (IsNoDigit-below byte (omega arith))

file_words_have_no : (byte : ℕ) (bytes : List ℕ) → byte < 45 → All (λ b. b < 256) bytes → All (HasNo byte) (file_words bytes)
file_words_have_no byte bytes low fit =
    All-cons (HasNo byte) (codes "file") (file_word bytes ∷ []) (HasNo_letters byte (codes "file") low refl)
    (All-cons (HasNo byte) (file_word bytes) [] (file_word_has_no byte bytes low fit) (All-nil (HasNo byte)))

pub words_of-file_line : (bytes : List ℕ) → IsFile bytes → words_of (file_line bytes) ≡ file_words bytes
words_of-file_line bytes h = words_of-joined (file_words bytes) (λ e. cc) (file_words_have_no 32 bytes (omega arith) h.fit)

pub file_line_from_words : (line bytes : List ℕ) → words_of line ≡ file_words bytes → line ≡ file_line bytes
file_line_from_words line bytes are = sym (joined-words_of line) ∙ ap joined are

pub file_line_IsLine : (bytes : List ℕ) → IsFile bytes → IsLine (file_line bytes)
file_line_IsLine bytes h = HasNo-joined 10 (file_words bytes) (λ e. cc) (file_words_have_no 10 bytes (omega arith) h.fit)

-- `-` is not the digits of bytes
dash_is_odd : (bytes : List ℕ) → codes "-" ≢ hex bytes
dash_is_odd bytes same = let long : 1 ≡ length (hex bytes) = ap length same in omega (arith, length-hex bytes)

-- a word that is not `-` spells a file by its digits
pub record IsDigits (word bytes : List ℕ) : Type 0 where
  pub spelled : word ≡ hex bytes
  pub long : IsWithin 1 131072 (length word)

pub file_in_digits : (word bytes : List ℕ) → IsFile bytes → word ≡ file_word bytes → word ≢ codes "-" → IsDigits word bytes
file_in_digits word [] h is other = absurd (other is)
file_in_digits word (b ∷ bytes) h is other =
    let long : length word ≡ 2 * length (b ∷ bytes) = ap length is ∙ length-hex (b ∷ bytes) in
    let size : length (b ∷ bytes) ≤ 65536 = h.size in
    record { spelled = is; long = (omega (arith, long), omega (arith, long, size)) }

pub file_from_digits : (word bytes : List ℕ) → IsWithin 1 131072 (length word) → word ≡ hex bytes → All (λ b. b < 256) bytes → IsFile bytes × (word ≡ file_word bytes)
file_from_digits word [] long is fit =
    absurd (let none : length word ≡ 2 * 0 = ap length is ∙ length-hex [] in omega (arith, none, long.0))
file_from_digits word (b ∷ bytes) long is fit =
    let twice : length word ≡ 2 * length (b ∷ bytes) = ap length is ∙ length-hex (b ∷ bytes) in
    (record { size = omega (arith, twice, long.1); fit = fit }, is)

-- what reading a word's digits answers
module _ (A E : Type 0) (items : A → List ℕ) (word : List ℕ) (long : IsWithin 1 131072 (length word)) where
  found_option : (read : Option A) → IfSome read (λ v. word ≡ hex (items v)) → IfSome read (λ v. All (λ b. b < 256) (items v)) → IfSome read (λ v. IsFile (items v) × (word ≡ file_word (items v)))
  found_option None found fit = tt
  found_option (Some v) found fit = file_from_digits word (items v) long found fit

  pub found_bytes : (r : Result (Option A) E) → IfOk r (λ read. IfSome read (λ v. word ≡ hex (items v))) → IfOk r (λ read. IfSome read (λ v. All (λ b. b < 256) (items v))) → IfOk r (λ read. IfSome read (λ v. IsFile (items v) × (word ≡ file_word (items v))))
  found_bytes (Ok read) found fit = found_option read found fit
  found_bytes (Err e) found fit = tt

  none_option : (read : Option A) → word ≢ codes "-" → IfNone read ((bytes : List ℕ) → All (λ b. b < 256) bytes → word ≢ hex bytes) → IfNone read ((bytes : List ℕ) → IsFile bytes → word ≢ file_word bytes)
  none_option None other none = λ bytes h is. none bytes h.fit (file_in_digits word bytes h is other).spelled
  none_option (Some v) other none = tt

  pub none_bytes : (r : Result (Option A) E) → word ≢ codes "-" → IfOk r (λ read. IfNone read ((bytes : List ℕ) → All (λ b. b < 256) bytes → word ≢ hex bytes)) → IfOk r (λ read. IfNone read ((bytes : List ℕ) → IsFile bytes → word ≢ file_word bytes))
  none_bytes (Ok read) other none = none_option read other none
  none_bytes (Err e) other none = tt

-- what reading a line's words answers
module _ (A E : Type 0) (items : A → List ℕ) (line word : List ℕ) (are : words_of line ≡ codes "file" ∷ word ∷ []) where
  word_of_line : (bytes : List ℕ) → IsFile bytes → line ≡ file_line bytes → word ≡ file_word bytes
  word_of_line bytes h is = let words : codes "file" ∷ word ∷ [] ≡ file_words bytes = sym are ∙ ap words_of is ∙ words_of-file_line bytes h in cc words

  found_in_line : (read : Option A) → IfSome read (λ v. IsFile (items v) × (word ≡ file_word (items v))) → IfSome read (λ v. IsFile (items v) × (line ≡ file_line (items v)))
  found_in_line None found = tt
  found_in_line (Some v) found = (found.0, file_line_from_words line (items v) (are ∙ ap (λ w. codes "file" ∷ w ∷ []) found.1))

  pub found_line : (r : Result (Option A) E) → IfOk r (λ read. IfSome read (λ v. IsFile (items v) × (word ≡ file_word (items v)))) → IfOk r (λ read. IfSome read (λ v. IsFile (items v) × (line ≡ file_line (items v))))
  found_line (Ok read) found = found_in_line read found
  found_line (Err e) found = tt

  none_in_line : (read : Option A) → IfNone read ((bytes : List ℕ) → IsFile bytes → word ≢ file_word bytes) → IfNone read ((bytes : List ℕ) → IsFile bytes → line ≢ file_line bytes)
  none_in_line None none = λ bytes h is. none bytes h (word_of_line bytes h is)
  none_in_line (Some v) none = tt

  pub none_line : (r : Result (Option A) E) → IfOk r (λ read. IfNone read ((bytes : List ℕ) → IsFile bytes → word ≢ file_word bytes)) → IfOk r (λ read. IfNone read ((bytes : List ℕ) → IsFile bytes → line ≢ file_line bytes))
  none_line (Ok read) none = none_in_line read none
  none_line (Err e) none = tt

-- a line with other words
pub no_file_words : (line : List ℕ) (words : List (List ℕ)) → words_of line ≡ words → ((word : List ℕ) → words ≢ codes "file" ∷ word ∷ []) → (bytes : List ℕ) → IsFile bytes → line ≢ file_line bytes
no_file_words line words are none bytes h is = none (file_word bytes) (sym are ∙ ap words_of is ∙ words_of-file_line bytes h)

file_word_injective : (xs ys : List ℕ) → All (λ b. b < 256) xs → All (λ b. b < 256) ys → file_word xs ≡ file_word ys → xs ≡ ys
file_word_injective [] [] hx hy same = refl
file_word_injective [] (y ∷ ys) hx hy same = absurd (dash_is_odd (y ∷ ys) same)
file_word_injective (x ∷ xs) [] hx hy same = absurd (dash_is_odd (x ∷ xs) (sym same))
file_word_injective (x ∷ xs) (y ∷ ys) hx hy same = hex_injective (x ∷ xs) (y ∷ ys) hx hy same

pub file_line_injective : (xs ys : List ℕ) → IsFile xs → IsFile ys → file_line xs ≡ file_line ys → xs ≡ ys
file_line_injective xs ys hx hy same =
    let words : file_words xs ≡ file_words ys = sym (words_of-file_line xs hx) ∙ ap words_of same ∙ words_of-file_line ys hy in
    file_word_injective xs ys hx.fit hy.fit (cc)

pub no_file_thread : (bytes : List ℕ) → file_line bytes ≢ codes "thread"
no_file_thread bytes same = cc
