-- Known bytes before and after reads and writes, one more at a time.
use Rattle.std.proofs.Common.{◌≡◌, ℕ, ◌+◌, ◌-◌, ◌≤◌, List, [], ◌∷◌, ◌++◌, Some, None, Option, refl, sym, ap, ◌∙◌, arith, append_assoc, append-nil, length, take, drop}
use Rattle.std.specs.Io.KnownBytes.{prepend_known, append_known}
use Rattle.corten_base.specs.Outside.{Rises}
use Rattle.std.proofs.Math.Seq.{take-add}
use Rattle.std.proofs.lemmas.List.{drop-drop, length-drop}

pub append_twice : (held : Option (List ℕ)) (xs ys : List ℕ) → append_known (append_known held xs) ys ≡ append_known held (xs ++ ys)
append_twice None xs ys = refl
append_twice (Some old) xs ys = ap Some (append_assoc old xs ys)

pub append_nothing : (held : Option (List ℕ)) → held ≡ append_known held []
append_nothing None = refl
append_nothing (Some old) = ap Some (sym (append-nil old))

pub prepend_twice : (left : Option (List ℕ)) (xs ys : List ℕ) → prepend_known xs (prepend_known ys left) ≡ prepend_known (xs ++ ys) left
prepend_twice None xs ys = refl
prepend_twice (Some rest) xs ys = ap Some (sym (append_assoc xs ys rest))

pub prepend_nothing : (left : Option (List ℕ)) → left ≡ prepend_known [] left
prepend_nothing None = refl
prepend_nothing (Some rest) = refl

-- a write that took the first count of what was left of the bytes
pub written_more : (held held1 held2 : Option (List ℕ)) (bytes rest : List ℕ) (n count : ℕ) → n ≤ length bytes → rest ≡ drop n bytes
    → held1 ≡ append_known held (take n bytes) → count ≤ length rest → held2 ≡ append_known held1 (take count rest)
    → (n + count ≤ length bytes) × (drop count rest ≡ drop (n + count) bytes) × (held2 ≡ append_known held (take (n + count) bytes))
written_more held held1 held2 bytes rest n count bound is before fits after = (inside, drops, appended)
  where
    long : length rest ≡ length bytes - n
    long = ap length is ∙ length-drop n bytes

    inside : n + count ≤ length bytes
    inside = omega (arith, long)

    drops : drop count rest ≡ drop (n + count) bytes
    drops = ap (drop count) is ∙ drop-drop count n bytes

    appended : held2 ≡ append_known held (take (n + count) bytes)
    appended =
        after ∙ ap (λ h. append_known h (take count rest)) before ∙ append_twice held (take n bytes) (take count rest)
        ∙ ap (append_known held) (ap (λ r. take n bytes ++ take count r) is ∙ sym (take-add n count bytes))

-- a read handed out a front of what was left
pub read_more : (left left1 left2 : Option (List ℕ)) (bytes got : List ℕ) → left ≡ prepend_known bytes left1 → left1 ≡ prepend_known got left2 → left ≡ prepend_known (bytes ++ got) left2
read_more left left1 left2 bytes got before after = before ∙ ap (prepend_known bytes) after ∙ prepend_twice left2 bytes got

-- a count that has risen by the last call has risen since an earlier one
pub risen : (first before after : ℕ) → first ≤ before → before ≤ after → Rises before after → Rises first after
risen first before after a b rises = λ small. grind (arith, rises)
