-- From one place in a text to another, where no line is skipped.
use Rattle.std.proofs.Common.{◌≡◌, ◌≢◌, ℕ, ◌+◌, Bool, true, false, eqb, eq-eqb, List, [], ◌∷◌, ◌++◌, length, refl, sym, ap, subst, ◌∙◌, arith}
use Rattle.std.specs.List.{All}
use Rattle.std.proofs.lemmas.Bool.{false≢true}
use Rattle.std.proofs.lemmas.Bool.Decides.{nat_tests}
use Rattle.std.proofs.lemmas.List.{append_assoc, append-nil, length-append}
use Rattle.std.proofs.lemmas.List.Elements.{All-nil, All-cons, All-head, All-append}
use Rattle.text_words.specs.Layout.{IsLine, ended, text, TextRest}
use Rattle.text_words.specs.Grammar.{Begins, Fault}
use Rattle.text_words.specs.Passing.{Passes, NoLine, FaultFrom}
use Rattle.text_words.proofs.LineLists.{text-append}

pub Passes-none : (place : TextRest) → Passes place place []
Passes-none place = record { are_lines = All-nil IsLine; parted = refl; counted = omega arith }

-- the next line
pub Passes-line : (old new : TextRest) (line : List ℕ) → IsLine line → old.bytes ≡ ended line ++ new.bytes → new.taken ≡ old.taken + 1 → Passes old new (line ∷ [])
Passes-line old new line is_line parted counted = record {
  are_lines = All-cons IsLine line [] is_line (All-nil IsLine);
  parted = parted ∙ ap (λ bs. bs ++ new.bytes) (sym (append-nil (ended line)));
  counted = counted;
}

pub Passes-append : (old mid new : TextRest) (xs ys : List (List ℕ)) → Passes old mid xs → Passes mid new ys → Passes old new (xs ++ ys)
Passes-append old mid new xs ys h g = record {
  are_lines = All-append IsLine xs ys h.are_lines g.are_lines;
  parted = h.parted ∙ ap (λ bs. text xs ++ bs) g.parted ∙ sym (ap (λ bs. bs ++ new.bytes) (text-append xs ys) ∙ append_assoc (text xs) (text ys) new.bytes);
  counted = let more = length-append xs ys in let a : mid.taken ≡ old.taken + length xs = h.counted in let b : new.taken ≡ mid.taken + length ys = g.counted in omega arith;
}

-- a fault behind more lines
pub FaultFrom-behind : (G : List (List ℕ) → Type 0) (old mid : TextRest) (before lines : List (List ℕ)) (n : ℕ) → Passes old mid lines → FaultFrom G mid (before ++ lines) n → FaultFrom G old before n
FaultFrom-behind G old mid before lines n h f =
    let shape : (before ++ lines) ++ f.between ≡ before ++ (lines ++ f.between) = append_assoc before lines f.between in
    record {
      between = lines ++ f.between;
      rest = f.rest;
      are_lines = All-append IsLine lines f.between h.are_lines f.are_lines;
      parted = h.parted ∙ ap (λ bs. text lines ++ bs) f.parted ∙ sym (ap (λ bs. bs ++ f.rest) (text-append lines f.between) ∙ append_assoc (text lines) (text f.between) f.rest);
      counted = let more = length-append lines f.between in let a : mid.taken ≡ old.taken + length lines = h.counted in let b : n ≡ mid.taken + length f.between + 1 = f.counted in omega arith;
      begins = subst (Begins G) shape f.begins;
      fault = subst (λ ls. Fault G ls f.rest) shape f.fault;
    }

-- the next line is no line with which a text goes on
pub fault_at_line : (G : List (List ℕ) → Type 0) (old new : TextRest) (before : List (List ℕ)) (line : List ℕ) → Passes old new (line ∷ []) → Begins G before → ¬ (Begins G (before ++ line ∷ [])) → FaultFrom G old before new.taken
fault_at_line G old new before line h begun ends =
    let same : before ++ [] ≡ before = append-nil before in
    let parted : old.bytes ≡ ended line ++ new.bytes = h.parted ∙ ap (λ bs. bs ++ new.bytes) (append-nil (ended line)) in
    record {
      between = [];
      rest = ended line ++ new.bytes;
      are_lines = All-nil IsLine;
      parted = parted;
      counted = h.counted ∙ omega arith;
      begins = subst (Begins G) (sym same) begun;
      fault = subst (λ ls. Fault G ls (ended line ++ new.bytes)) (sym same) (Fault.outside line new.bytes (is_line line h.are_lines) refl ends);
    }
  where
    is_line : (l : List ℕ) → All IsLine (l ∷ []) → IsLine l
    is_line l all = All-head IsLine l [] all

-- no line is left, where one must come
pub fault_at_end : (G : List (List ℕ) → Type 0) (old : TextRest) (before : List (List ℕ)) → IsLine old.bytes → Begins G before → ¬ (G before) → FaultFrom G old before (old.taken + 1)
fault_at_end G old before ends begun wanting =
    let same : before ++ [] ≡ before = append-nil before in
    record {
      between = [];
      rest = old.bytes;
      are_lines = All-nil IsLine;
      parted = refl;
      counted = omega arith;
      begins = subst (Begins G) (sym same) begun;
      fault = subst (λ ls. Fault G ls old.bytes) (sym same) (at_end old.bytes ends);
    }
  where
    at_end : (rest : List ℕ) → IsLine rest → Fault G before rest
    at_end [] is_line = Fault.missing refl wanting
    at_end (b ∷ bytes) is_line = Fault.unfinished is_line (λ e. cc)

pub FaultFrom-next : (G : List (List ℕ) → Type 0) (old : TextRest) (before : List (List ℕ)) (n : ℕ) (P : List ℕ → Type 0) → NoLine old n P → Begins G before → ((line : List ℕ) → P line → ¬ (Begins G (before ++ line ∷ []))) → ¬ (G before) → FaultFrom G old before n
FaultFrom-next G old before n P (NoLine.other new line next counted differs) begun ends wanting =
    subst (FaultFrom G old before) (sym counted) (fault_at_line G old new before line next begun (ends line differs))
FaultFrom-next G old before n P (NoLine.none is_line counted) begun ends wanting =
    subst (FaultFrom G old before) (sym counted) (fault_at_end G old before is_line begun wanting)

-- the first line of bytes, or that they have no newline
pub data FirstOf (bytes : List ℕ) : Type 0 where
  ended_line : (line more : List ℕ) → IsLine line → bytes ≡ ended line ++ more → FirstOf bytes
  unended : IsLine bytes → FirstOf bytes

longer_line : (b : ℕ) (bytes : List ℕ) → b ≢ 10 → FirstOf bytes → FirstOf (b ∷ bytes)
longer_line b bytes other (FirstOf.ended_line line more is_line parted) = FirstOf.ended_line (b ∷ line) more (All-cons (λ c. c ≢ 10) b line other is_line) (ap (λ bs. b ∷ bs) parted)
longer_line b bytes other (FirstOf.unended is_line) = FirstOf.unended (All-cons (λ c. c ≢ 10) b bytes other is_line)

first_step : (b : ℕ) (bytes : List ℕ) (t : Bool) → eqb b 10 ≡ t → FirstOf bytes → FirstOf (b ∷ bytes)
first_step b bytes true is rest =
    let newline : b ≡ 10 = grind (arith, nat_tests) in
    FirstOf.ended_line [] bytes (All-nil (λ c. c ≢ 10)) (ap (λ c. c ∷ bytes) newline)
first_step b bytes false is rest = longer_line b bytes (λ same. false≢true (sym is ∙ eq-eqb b 10 same)) rest

first_of_bytes : (bytes : List ℕ) → FirstOf bytes
first_of_bytes [] = FirstOf.unended (All-nil (λ c. c ≢ 10))
first_of_bytes (b ∷ bytes) = first_step b bytes (eqb b 10) refl (first_of_bytes bytes)

-- bytes that are left behind the last line of a text
pub fault_after : (G : List (List ℕ) → Type 0) (old : TextRest) (before : List (List ℕ)) → old.bytes ≢ [] → Begins G before → ((line : List ℕ) → ¬ (Begins G (before ++ line ∷ []))) → FaultFrom G old before (old.taken + 1)
fault_after G old before some begun ends =
    let same : before ++ [] ≡ before = append-nil before in
    record {
      between = [];
      rest = old.bytes;
      are_lines = All-nil IsLine;
      parted = refl;
      counted = omega arith;
      begins = subst (Begins G) (sym same) begun;
      fault = subst (λ ls. Fault G ls old.bytes) (sym same) (why old.bytes some (first_of_bytes old.bytes));
    }
  where
    why : (rest : List ℕ) → rest ≢ [] → FirstOf rest → Fault G before rest
    why rest nonempty (FirstOf.ended_line line more is_line parted) = Fault.outside line more is_line parted (ends line)
    why rest nonempty (FirstOf.unended is_line) = Fault.unfinished is_line nonempty
