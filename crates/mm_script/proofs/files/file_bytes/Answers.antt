use Rattle.std.proofs.Common.{◌≡◌, true, List, ℕ, codes, refl, ◌∙◌, Vec, Global}
use Rattle.std.specs.declared.alloc.AllocError.{AllocError}
use Rattle.std.specs.Str.{bytes_eq}
use Rattle.std.proofs.lemmas.Bool.{false≢true}
use Rattle.std.proofs.lemmas.Slice.Eq.{bytes_eq-Decides}
use Rattle.mm_script.proofs.FileLines.{file_in_digits, found_bytes, none_bytes}
use Rattle.mm_script.proofs.files.file_bytes.Goals as goal

abbrev items : Vec ℕ Global → List ℕ
items v = v.items

pub returns-then-not-is_file_long-clause-none : goal.returns-then-not-is_file_long-clause-none
returns-then-not-is_file_long-clause-none c = λ bytes h is.
    let word : List ℕ = c.args.word.now in
    false≢true (c.if-not-is_file_long.ensures.1 (file_in_digits word bytes h is
    (λ same. let equal : bytes_eq word (codes "-") ≡ true = (bytes_eq-Decides word (codes "-")).1 same in false≢true (c.if-eq.ensures ∙ equal))).long)

pub returns-clause-found : goal.returns-clause-found
returns-clause-found c =
    found_bytes (Vec ℕ Global) AllocError items c.args.word.now (c.if-not-is_file_long.ensures.0 refl) c.read_hex.result c.read_hex.ensures.found c.read_hex.ensures.fit

pub returns-clause-none : goal.returns-clause-none
returns-clause-none c =
    let word : List ℕ = c.args.word.now in
    none_bytes (Vec ℕ Global) AllocError items word (c.if-not-is_file_long.ensures.0 refl) c.read_hex.result
    (λ same. let equal : bytes_eq word (codes "-") ≡ true = (bytes_eq-Decides word (codes "-")).1 same in false≢true (c.if-eq.ensures ∙ equal)) c.read_hex.ensures.none
