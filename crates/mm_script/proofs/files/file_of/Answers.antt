use Rattle.std.proofs.Common.{◌≡◌, List, ℕ, [], ◌∷◌, codes, refl, sym, ap, ◌∙◌, Vec, Global}
use Rattle.std.specs.declared.alloc.AllocError.{AllocError}
use Rattle.std.proofs.lemmas.Bool.{false≢true}
use Rattle.text_words.specs.Layout.{words_of}
use Rattle.mm_script.proofs.FileLines.{found_line, none_line, no_file_words}
use Rattle.mm_script.proofs.files.file_of.Goals as goal

abbrev items : Vec ℕ Global → List ℕ
items v = v.items

pub returns-in_default-next_word-clause-none : goal.returns-in_default-next_word-clause-none
returns-in_default-next_word-clause-none c =
    let are : words_of c.args.line.now ≡ codes "file" ∷ [] = sym c.of-words.ensures ∙ c.in-Some.ensures.found ∙ ap (λ ws. codes "file" ∷ ws) c.in_default-next_word.ensures.none in
    no_file_words c.args.line.now (codes "file" ∷ []) are (λ word same. cc same)

pub returns-then-is_done-clause-found : goal.returns-then-is_done-clause-found
returns-then-is_done-clause-found c =
    let word : List ℕ = c.in-Some-next_word.word.now in
    let are : words_of c.args.line.now ≡ codes "file" ∷ word ∷ [] =
    sym c.of-words.ensures ∙ c.in-Some.ensures.found ∙ ap (λ ws. codes "file" ∷ ws) (c.in-Some-next_word.ensures.word ∙ ap (λ ws. word ∷ ws) (c.if-is_done.ensures.0 refl)) in
    found_line (Vec ℕ Global) AllocError items c.args.line.now word are c.file_bytes.result c.file_bytes.ensures.found

pub returns-then-is_done-clause-none : goal.returns-then-is_done-clause-none
returns-then-is_done-clause-none c =
    let word : List ℕ = c.in-Some-next_word.word.now in
    let are : words_of c.args.line.now ≡ codes "file" ∷ word ∷ [] =
    sym c.of-words.ensures ∙ c.in-Some.ensures.found ∙ ap (λ ws. codes "file" ∷ ws) (c.in-Some-next_word.ensures.word ∙ ap (λ ws. word ∷ ws) (c.if-is_done.ensures.0 refl)) in
    none_line (Vec ℕ Global) AllocError items c.args.line.now word are c.file_bytes.result c.file_bytes.ensures.none

pub returns-else-is_done-clause-none : goal.returns-else-is_done-clause-none
returns-else-is_done-clause-none c =
    let word : List ℕ = c.in-Some-next_word.word.now in
    let more : List (List ℕ) = c.next_word.new.self in
    let are : words_of c.args.line.now ≡ codes "file" ∷ word ∷ more = sym c.of-words.ensures ∙ c.in-Some.ensures.found ∙ ap (λ ws. codes "file" ∷ ws) c.in-Some-next_word.ensures.word in
    no_file_words c.args.line.now (codes "file" ∷ word ∷ more) are (λ w same. let done : more ≡ [] = cc same in false≢true (c.if-is_done.ensures.1 done))
