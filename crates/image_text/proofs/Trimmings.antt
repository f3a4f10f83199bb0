-- Bytes without the zeros at their end.
use Rattle.std.proofs.Common.{◌≡◌, ◌≢◌, ℕ, Bool, true, false, List, [], ◌∷◌, ◌++◌, refl, sym, ap, ◌∙◌, arith}
use Rattle.std.specs.Prelude.{nat_eq, cond}
use Rattle.std.proofs.lemmas.Bool.Decides.{nat_tests}
use Rattle.image_text.proofs.Orders.{same_last}
use Rattle.image_text.specs.Items.{before_trimmed, trimmed, IsTrimmed}

-- a zero at the end is cut off
pub trimmed_zero : (front : List ℕ) → trimmed (front ++ 0 ∷ []) ≡ trimmed front
trimmed_zero [] = refl
trimmed_zero (byte ∷ front) = ap (before_trimmed byte) (trimmed_zero front)

one_byte : (b : ℕ) → b ≢ 0 → trimmed (b ∷ []) ≡ b ∷ []
one_byte b other = go (nat_eq b 0) refl
  where
    go : (t : Bool) → nat_eq b 0 ≡ t → cond (nat_eq b 0) [] (b ∷ []) ≡ b ∷ []
    go true is = let zero : b ≡ 0 = grind (arith, nat_tests) in absurd (other zero)
    go false is = ap (λ t. cond t [] (b ∷ [])) is

-- and nothing else
pub trimmed_itself : (bytes : List ℕ) → IsTrimmed bytes → trimmed bytes ≡ bytes
trimmed_itself [] h = refl
trimmed_itself (b ∷ []) h = one_byte b (λ is. h [] (ap (λ x. x ∷ []) is))
trimmed_itself (b ∷ c ∷ bytes) h = ap (before_trimmed b) (trimmed_itself (c ∷ bytes) (λ front is. h (b ∷ front) (ap (λ x. b ∷ x) is)))

-- bytes that end with another byte
pub IsTrimmed-last : (front : List ℕ) (last : ℕ) → last ≢ 0 → IsTrimmed (front ++ last ∷ [])
IsTrimmed-last front last other more same = other (same_last front more last 0 same).1
