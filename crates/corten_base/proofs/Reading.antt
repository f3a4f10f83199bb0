-- Bytes that are handed out of a list in order.
use Rattle.std.proofs.Common.{◌≡◌, ℕ, ◌+◌, ◌≤◌, List, ◌++◌, length, take, drop, sym, ap, ◌∙◌}
use Rattle.std.proofs.lemmas.List.{take-append-drop, take_at, length-take-le, drop-drop}

-- What is left at a place is what is handed out, at the front of the buffer, and what is left behind it.
pub left_is_handed_out : (bytes rest buffer to : List ℕ) (place n : ℕ) → rest ≡ drop place bytes → n ≤ length rest
    → to ≡ take n rest ++ drop n buffer → rest ≡ take n to ++ drop (place + n) bytes
left_is_handed_out bytes rest buffer to place n is_rest fits written =
    rw (written, take_at (take n rest) (drop n buffer) n (length-take-le n rest fits))
    (sym (take-append-drop n rest) ∙ ap (λ (tail : List ℕ). take n rest ++ tail) (ap (drop n) is_rest ∙ drop-drop n place bytes))
