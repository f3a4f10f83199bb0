-- Of a history one verdict at most is right.
use Rattle.std.proofs.Common.{◌≡◌, ℕ, ◌+◌, ◌<◌, ◌≤◌, List, [], ◌∷◌, ◌++◌, length, sym, ap, subst, ◌∙◌, arith}
use Rattle.text_words.specs.Grammar.{Begins}
use Rattle.text_words.proofs.Grammars.{Begins-front}
use Rattle.history_lines.specs.declared.history.History.{History}
use Rattle.history_lines.specs.declared.verdict.Verdict.{Verdict}
use Rattle.history_lines.specs.declared.verdict.Verdict.TheVariants.{Legal, Illegal}
use Rattle.history_lines.specs.HistoryText.{HasText, history_lines}
use Rattle.history_lines.specs.Checking.{AreLegalLines, IsFirstWrong, IsVerdict}

-- lists that go on from shorter ones
longer : (xs ys : List (List ℕ)) (x y : List ℕ) (rest more : List (List ℕ)) → xs ++ x ∷ rest ≡ ys ++ y ∷ more → length xs < length ys → (others : List (List ℕ)) × (ys ≡ (xs ++ x ∷ []) ++ others)
longer [] [] x y rest more same less = absurd (omega arith)
longer [] (b ∷ ys) x y rest more same less = (ys, let first : b ≡ x = cc in ap (λ c. c ∷ ys) first)
longer (a ∷ xs) [] x y rest more same less = absurd (omega arith)
longer (a ∷ xs) (b ∷ ys) x y rest more same less =
    let on = longer xs ys x y rest more (cc) (omega arith) in
    let first : b ≡ a = cc in
    (on.0, ap (λ zs. b ∷ zs) on.1 ∙ ap (λ c. c ∷ ((xs ++ x ∷ []) ++ on.0)) first)

none_later : (lines : List (List ℕ)) (m n : ℕ) (v : IsFirstWrong lines m) (w : IsFirstWrong lines n) → length v.before < length w.before → ⊥
none_later lines m n v w less =
    let on = longer v.before w.before v.line w.line v.rest w.rest (sym v.parted ∙ w.parted) less in
    v.wrong (Begins-front AreLegalLines (v.before ++ v.line ∷ []) on.0 (subst (Begins AreLegalLines) on.1 w.begins))

at_most : (a b : ℕ) → (a < b → ⊥) → b ≤ a
at_most a b none = omega (arith, none)

one_first_wrong : (lines : List (List ℕ)) (m n : ℕ) → IsFirstWrong lines m → IsFirstWrong lines n → m ≡ n
one_first_wrong lines m n v w =
    let first : m ≡ length v.before + 1 = v.counted in
    let second : n ≡ length w.before + 1 = w.counted in
    let not_later = at_most (length v.before) (length w.before) (none_later lines m n v w) in
    let not_earlier = at_most (length w.before) (length v.before) (none_later lines n m w v) in
    omega (arith, first, second, not_later, not_earlier)

pub one_verdict : (h : History) (v w : Verdict) → HasText h → IsVerdict h v → IsVerdict h w → v ≡ w
one_verdict h (Legal m) (Legal n) has v w = ap Legal (v.1 ∙ sym w.1)
one_verdict h (Legal m) (Illegal n) has v w = absurd (w.0 v.0)
one_verdict h (Illegal m) (Legal n) has v w = absurd (v.0 w.0)
one_verdict h (Illegal m) (Illegal n) has v w = ap Illegal (one_first_wrong (history_lines h) m n v.1 w.1)
