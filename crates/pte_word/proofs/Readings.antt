-- Each word has one reading.
use Rattle.std.proofs.Common.{◌≡◌, ◌↔◌, eq-eqb, ℕ, ◌+◌, ◌*◌, ◌/◌, ◌%◌, ◌^◌, ◌<◌, ◌==◌, Bool, true, false, not, sym, refl, ap, ◌∙◌, arith}
use Rattle.std.proofs.lemmas.Bool.{lt-ltb, le-ltb, eqb-true}
use Rattle.walk_core.specs.Words.{bit, link_word, leaf_word, is_link, link_row, link_generation, is_leaf, leaf_frame, leaf_write, leaf_exec}
use Rattle.walk_core.proofs.Spellings.{link_spelled, is_link-link_word, link_word_is, link_row-link_word, link_generation-link_word}
use Rattle.pte_word.specs.declared.Pte.{Pte}
use Rattle.pte_word.specs.declared.Pte.TheVariants.{Empty, Table, Leaf}
use Rattle.pte_word.specs.Entries.{Spells}

-- the four forms of a leaf's word
pub leaf_word_is : (f : ℕ) (write exec : Bool) → leaf_word f write exec ≡ 5 + 4096 * f + bit write 1 + bit (not exec) 63
unfolding leaf_word
leaf_word_is f true true = omega arith
leaf_word_is f true false = omega arith
leaf_word_is f false true = omega arith
leaf_word_is f false false = omega arith

pub leaf_frame-leaf_word : (f : ℕ) (write exec : Bool) → f < 4096 → leaf_frame (leaf_word f write exec) ≡ f
leaf_frame-leaf_word f true true h = let e = leaf_word_is f true true in omega arith
leaf_frame-leaf_word f true false h = let e = leaf_word_is f true false in omega arith
leaf_frame-leaf_word f false true h = let e = leaf_word_is f false true in omega arith
leaf_frame-leaf_word f false false h = let e = leaf_word_is f false false in omega arith

pub leaf_write-leaf_word : (f : ℕ) (write exec : Bool) → f < 4096 → leaf_write (leaf_word f write exec) ≡ write
leaf_write-leaf_word f true true h = let e = leaf_word_is f true true in let bit : leaf_word f true true / 2 % 2 ≡ 1 = omega arith in ap (λ n. n == 1) bit
leaf_write-leaf_word f true false h = let e = leaf_word_is f true false in let bit : leaf_word f true false / 2 % 2 ≡ 1 = omega arith in ap (λ n. n == 1) bit
leaf_write-leaf_word f false true h = let e = leaf_word_is f false true in let bit : leaf_word f false true / 2 % 2 ≡ 0 = omega arith in ap (λ n. n == 1) bit
leaf_write-leaf_word f false false h = let e = leaf_word_is f false false in let bit : leaf_word f false false / 2 % 2 ≡ 0 = omega arith in ap (λ n. n == 1) bit

pub leaf_exec-leaf_word : (f : ℕ) (write exec : Bool) → f < 4096 → leaf_exec (leaf_word f write exec) ≡ exec
leaf_exec-leaf_word f true true h = let e = leaf_word_is f true true in lt-ltb _ _ (omega arith)
leaf_exec-leaf_word f false true h = let e = leaf_word_is f false true in lt-ltb _ _ (omega arith)
leaf_exec-leaf_word f true false h = let e = leaf_word_is f true false in le-ltb _ _ (omega arith)
leaf_exec-leaf_word f false false h = let e = leaf_word_is f false false in le-ltb _ _ (omega arith)

-- bit 9 tells a link from a leaf
pub link≢leaf : (q g f : ℕ) (write exec : Bool) → link_word q g ≡ leaf_word f write exec → ⊥
link≢leaf q g f true true same = let link = link_word_is q g in let leaf = leaf_word_is f true true in omega arith
link≢leaf q g f true false same = let link = link_word_is q g in let leaf = leaf_word_is f true false in omega arith
link≢leaf q g f false true same = let link = link_word_is q g in let leaf = leaf_word_is f false true in omega arith
link≢leaf q g f false false same = let link = link_word_is q g in let leaf = leaf_word_is f false false in omega arith

pub one_reading : (a b : Pte) (word : ℕ) → Spells a word → Spells b word → a ≡ b
one_reading Empty Empty word p q = refl
one_reading Empty (Table row generation) word p q = let link = link_word_is row generation in absurd (omega (arith, p, q.2))
one_reading Empty (Leaf frame write exec) word p q = let leaf = leaf_word_is frame write exec in absurd (omega (arith, p, q.1))
one_reading (Table row generation) Empty word p q = let link = link_word_is row generation in absurd (omega (arith, p.2, q))
one_reading (Table row generation) (Table row' generation') word p q =
    let rows : row ≡ row' = sym (link_row-link_word row generation p.0) ∙ ap link_row (sym p.2 ∙ q.2) ∙ link_row-link_word row' generation' q.0 in
    let generations : generation ≡ generation' =
    sym (link_generation-link_word row generation p.0) ∙ ap link_generation (sym p.2 ∙ q.2) ∙ link_generation-link_word row' generation' q.0
    in cc
one_reading (Table row generation) (Leaf frame write exec) word p q = absurd (link≢leaf row generation frame write exec (sym p.2 ∙ q.1))
one_reading (Leaf frame write exec) Empty word p q = let leaf = leaf_word_is frame write exec in absurd (omega (arith, p.1, q))
one_reading (Leaf frame write exec) (Table row generation) word p q = absurd (link≢leaf row generation frame write exec (sym q.2 ∙ p.1))
one_reading (Leaf frame write exec) (Leaf frame' write' exec') word p q =
    let same = sym p.1 ∙ q.1 in
    let frames : frame ≡ frame' = sym (leaf_frame-leaf_word frame write exec p.0) ∙ ap leaf_frame same ∙ leaf_frame-leaf_word frame' write' exec' q.0 in
    let writes : write ≡ write' = sym (leaf_write-leaf_word frame write exec p.0) ∙ ap leaf_write same ∙ leaf_write-leaf_word frame' write' exec' q.0 in
    let execs : exec ≡ exec' = sym (leaf_exec-leaf_word frame write exec p.0) ∙ ap leaf_exec same ∙ leaf_exec-leaf_word frame' write' exec' q.0 in cc

-- a word whose parts spell something else spells nothing
pub no_reading : (word : ℕ) →
    (word ≡ 0 → ⊥) →
    (link_generation word < 2 ^ 30 → word ≡ link_word (link_row word) (link_generation word) → ⊥) →
    (word ≡ leaf_word (leaf_frame word) (leaf_write word) (leaf_exec word) → ⊥) →
    (entry : Pte) → Spells entry word → ⊥
no_reading word zero link leaf Empty s = zero s
no_reading word zero link leaf (Table row generation) s =
    let rows : link_row word ≡ row = ap link_row s.2 ∙ link_row-link_word row generation s.0 in
    let generations : link_generation word ≡ generation = ap link_generation s.2 ∙ link_generation-link_word row generation s.0 in
    link (rw generations s.1) (rw (rows, generations) s.2)
no_reading word zero link leaf (Leaf frame write exec) s =
    let frames : leaf_frame word ≡ frame = ap leaf_frame s.1 ∙ leaf_frame-leaf_word frame write exec s.0 in
    let writes : leaf_write word ≡ write = ap leaf_write s.1 ∙ leaf_write-leaf_word frame write exec s.0 in
    let execs : leaf_exec word ≡ exec = ap leaf_exec s.1 ∙ leaf_exec-leaf_word frame write exec s.0 in
    leaf (rw (frames, writes, execs) s.1)

-- a link is what the core takes for one
pub link_reading : (row generation word : ℕ) →
    Spells (Table row generation) word ↔ ((is_link word ≡ true) × (link_row word ≡ row) × (link_generation word ≡ generation))
link_reading row generation word = (
  λ s. (
    ap is_link s.2 ∙ is_link-link_word row generation s.0 s.1,
    ap link_row s.2 ∙ link_row-link_word row generation s.0,
    ap link_generation s.2 ∙ link_generation-link_word row generation s.0,
  ),
  λ r. let spelled = link_spelled word r.0 in
      let few : link_row word < 1024 = omega arith in
      (rw r.1 at few, rw r.2 at spelled.1, spelled.0 ∙ ap (λ q. link_word q (link_generation word)) r.1 ∙ ap (λ g. link_word row g) r.2),
)

is_leaf-leaf_word : (f : ℕ) (write exec : Bool) → f < 4096 → is_leaf (leaf_word f write exec) ≡ true
unfolding is_leaf
is_leaf-leaf_word f write exec h =
    let frame = leaf_frame-leaf_word f write exec h in let writes = leaf_write-leaf_word f write exec h in let execs = leaf_exec-leaf_word f write exec h in
    let w : ℕ = leaf_word f write exec in
    let same : w ≡ leaf_word (leaf_frame w) (leaf_write w) (leaf_exec w) = λ i. leaf_word (sym frame i) (sym writes i) (sym execs i) in
    eq-eqb _ _ same

leaf_spelled : (word : ℕ) → is_leaf word ≡ true → word ≡ leaf_word (leaf_frame word) (leaf_write word) (leaf_exec word)
unfolding is_leaf
leaf_spelled word e = eqb-true word _ e

-- a leaf is what the core takes for one
pub leaf_reading : (frame : ℕ) (write exec : Bool) (word : ℕ) →
    Spells (Leaf frame write exec) word ↔ ((is_leaf word ≡ true) × (leaf_frame word ≡ frame) × (leaf_write word ≡ write) × (leaf_exec word ≡ exec))
leaf_reading frame write exec word = (
  λ s. (
    ap is_leaf s.1 ∙ is_leaf-leaf_word frame write exec s.0,
    ap leaf_frame s.1 ∙ leaf_frame-leaf_word frame write exec s.0,
    ap leaf_write s.1 ∙ leaf_write-leaf_word frame write exec s.0,
    ap leaf_exec s.1 ∙ leaf_exec-leaf_word frame write exec s.0,
  ),
  λ r. let spelled = leaf_spelled word r.0 in
      let few : leaf_frame word < 4096 = omega arith in
      (rw r.1 at few, spelled ∙ (λ i. leaf_word (r.1 i) (r.2 i) (r.3 i))),
)
