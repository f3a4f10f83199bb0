-- Bytes without the zeros at their end, and the whole page that they stand for.
--     trimmed_whole      cut off again
--     whole_trimmed      all of a page's bytes
--     is_trimmed      no zero is left at the end
use Rattle.std.proofs.Common.{◌≡◌, ℕ, zero, suc, ◌-◌, Bool, true, false, cond, List, [], ◌∷◌, ◌++◌, length, replicate, take, refl, sym, ap, ◌∙◌, arith, ◌≤◌}
use mathlib.Core.Bool.{true≢false}
use Rattle.std.specs.Prelude.{nat_eq}
use Rattle.std.proofs.lemmas.Bool.{eq-eqb, eqb-true}
use Rattle.std.proofs.lemmas.List.{append_assoc, append-nil, drop-replicate, take_all}
use Rattle.page_map.specs.Cell.{zeros}
use Rattle.image_text.specs.Items.{IsTrimmed, before_trimmed, trimmed, whole}
use Rattle.image_text.proofs.Trimmings.{trimmed_itself, trimmed_zero}

zeros_behind : (bytes : List ℕ) (k : ℕ) → trimmed (bytes ++ replicate k 0) ≡ trimmed bytes
zeros_behind bytes zero = ap trimmed (append-nil bytes)
zeros_behind bytes (suc k) = ap trimmed (sym (append_assoc bytes (0 ∷ []) (replicate k 0))) ∙ zeros_behind (bytes ++ 0 ∷ []) k ∙ trimmed_zero bytes

pub whole_is : (bytes : List ℕ) → whole bytes ≡ bytes ++ replicate (4096 - length bytes) 0
unfolding zeros
whole_is bytes = ap (λ t. bytes ++ t) (drop-replicate {X = ℕ} (length bytes) 4096 0)

pub trimmed_whole : (bytes : List ℕ) → IsTrimmed bytes → trimmed (whole bytes) ≡ bytes
trimmed_whole bytes right = ap trimmed (whole_is bytes) ∙ zeros_behind bytes (4096 - length bytes) ∙ trimmed_itself bytes right

-- what is cut off are zeros
cut_off : (bytes : List ℕ) → trimmed bytes ++ replicate (length bytes - length (trimmed bytes)) 0 ≡ bytes
cut_off [] = refl
cut_off (b ∷ bytes) = go (trimmed bytes) (cut_off bytes)
  where
    front : (n : ℕ) → suc n - 0 ≡ suc n
    front n = omega arith

    none_less : (n : ℕ) → n - 0 ≡ n
    none_less n = omega arith

    one_less : (n k : ℕ) → suc n - suc k ≡ n - k
    one_less n k = omega arith

    alone : (z : Bool) → nat_eq b 0 ≡ z → replicate (length bytes - 0) 0 ≡ bytes → cond z [] (b ∷ []) ++ replicate (suc (length bytes) - length (cond z [] (b ∷ []))) 0 ≡ b ∷ bytes
    alone true e h = ap (λ m. replicate m 0) (front (length bytes)) ∙ (λ i. sym (eqb-true b 0 e) i ∷ (ap (λ m. replicate m 0) (sym (none_less (length bytes))) ∙ h) i)
    alone false e h = ap (λ m. b ∷ replicate m 0) (one_less (length bytes) 0) ∙ ap (λ t. b ∷ t) h

    go : (t : List ℕ) → t ++ replicate (length bytes - length t) 0 ≡ bytes → before_trimmed b t ++ replicate (length (b ∷ bytes) - length (before_trimmed b t)) 0 ≡ b ∷ bytes
    go [] h = alone (nat_eq b 0) refl h
    go (c ∷ t) h = ap (λ m. b ∷ c ∷ t ++ replicate m 0) (one_less (length bytes) (length (c ∷ t))) ∙ ap (λ t. b ∷ t) h

pub whole_trimmed : (bytes : List ℕ) → length bytes ≡ 4096 → whole (trimmed bytes) ≡ bytes
whole_trimmed bytes full = whole_is (trimmed bytes) ∙ ap (λ n. trimmed bytes ++ replicate (n - length (trimmed bytes)) 0) (sym full) ∙ cut_off bytes

none : (front : List ℕ) → [] ≡ front ++ 0 ∷ [] → ⊥
none [] e = cc
none (f ∷ front) e = cc

heads : (x y : ℕ) (xs ys : List ℕ) → x ∷ xs ≡ y ∷ ys → x ≡ y
heads x y xs ys e = cc

tails : (x y : ℕ) (xs ys : List ℕ) → x ∷ xs ≡ y ∷ ys → xs ≡ ys
tails x y xs ys e = cc

pub is_trimmed : (bytes : List ℕ) → IsTrimmed (trimmed bytes)
is_trimmed [] front e = none front e
is_trimmed (b ∷ bytes) front e = go (trimmed bytes) (is_trimmed bytes) front e
  where
    alone : (z : Bool) → nat_eq b 0 ≡ z → (front : List ℕ) → cond z [] (b ∷ []) ≡ front ++ 0 ∷ [] → ⊥
    alone true e front h = none front h
    alone false e [] h = true≢false (sym (eq-eqb b 0 (heads b 0 [] [] h)) ∙ e)
    alone false e (f ∷ front) h = none front (tails b f [] (front ++ 0 ∷ []) h)

    go : (t : List ℕ) → IsTrimmed t → (front : List ℕ) → before_trimmed b t ≡ front ++ 0 ∷ [] → ⊥
    go [] rest front h = alone (nat_eq b 0) refl front h
    go (c ∷ t) rest [] h = absurd (not (tails b 0 (c ∷ t) [] h))
      where
        not : c ∷ t ≡ [] → ⊥
        not e = cc
    go (c ∷ t) rest (f ∷ front) h = rest front (tails b f (c ∷ t) (front ++ 0 ∷ []) h)

-- bytes that are filled up with zeros
pub filled_up : (bytes items : List ℕ) (n : ℕ) → items ≡ bytes → n ≡ length bytes → length bytes ≤ 4096 → take 4096 items ++ replicate (4096 - n) 0 ≡ whole bytes
filled_up bytes items n same count few =
    (λ i. take 4096 (same i) ++ replicate (4096 - count i) 0)
    ∙ ap (λ t. t ++ replicate (4096 - length bytes) 0) (take_all 4096 bytes few)
    ∙ sym (whole_is bytes)
