-- Pages of files.
use Rattle.std.proofs.Common.{◌≡◌, ℕ, ◌+◌, ◌-◌, ◌*◌, ◌<◌, ◌≤◌, Bool, true, false, List, [], ◌++◌, append-nil, length, take, drop, take_all, replicate, refl, sym, ap, ◌∙◌, arith}
use mathlib.Core.Logic.{inl, inr}
use Rattle.std.specs.Prelude.{nat_le}
use Rattle.std.specs.Option.{unwrap_or}
use Rattle.std.proofs.lemmas.Bool.{cases_lt, le-leb, leb-true}
use Rattle.std.proofs.lemmas.List.{drop_all, drop-replicate, take-replicate, take-append-le, length-take-le, length-replicate}
use Rattle.std.proofs.lemmas.Option.{slice_get_past}
use Rattle.std.proofs.Math.Seq.{take-append-add}
use Rattle.corten_base.specs.Bytes.{bytes_after_write}
use Rattle.page_map.specs.Cell.{zeros, file_bytes, file_page}
use Rattle.page_map.proofs.Bytes.{length_zeros}

-- bytes at the beginning of zeros
page_is : (n : ℕ) (d : List ℕ) → bytes_after_write (replicate n 0) 0 (take n d) ≡ take n (d ++ replicate n 0)
page_is n d = elim (cases_lt n (length d)) [
  | inl less ↦
      let long : length (take n d) ≡ n = length-take-le n d (omega (arith, less)) in
      ap (λ r. take n d ++ r) (drop_all (0 + length (take n d)) (replicate n 0) (omega (arith, long, length_of n))) ∙ append-nil (take n d) ∙ sym (take-append-le n d (replicate n 0) (omega (arith, less)))
  | inr more ↦
      let whole : take n d ≡ d = take_all n d more in
      let split : length d + (n - length d) ≡ n = omega (arith, more) in
      (λ i. whole i ++ drop (0 + length (whole i)) (replicate n 0))
      ∙ ap (λ r. d ++ r) (ap (λ k. drop k (replicate n 0)) (plus_zero (length d)) ∙ drop-replicate (length d) n 0 ∙ sym (take-replicate (n - length d) n 0 (omega arith)))
      ∙ sym (take-append-add d (replicate n 0) (n - length d)) ∙ ap (λ k. take k (d ++ replicate n 0)) split
]
  where
    plus_zero : (k : ℕ) → 0 + k ≡ k
    plus_zero k = omega arith

    length_of : (n : ℕ) → length {A = ℕ} (replicate n 0) ≡ n
    length_of n = length-replicate n 0

-- the page of a file, where there are bytes in it
pub bytes_are : (files : List (List ℕ)) (file index : ℕ) (part : List ℕ) → part ≡ take 4096 (drop (index * 4096) (file_bytes files file)) → bytes_after_write zeros 0 part ≡ file_page files file index
unfolding zeros
bytes_are files file index part e =
    ap (bytes_after_write (replicate 4096 0) 0) (e ∙ ap (λ n. take 4096 (drop n (file_bytes files file))) swap)
    ∙ page_is 4096 (drop (4096 * index) (file_bytes files file))
  where
    swap : index * 4096 ≡ 4096 * index
    swap = omega arith

-- as many bytes as a page has
pub whole_page : (part : List ℕ) → length part ≡ 4096 → part ≡ bytes_after_write zeros 0 part
whole_page part whole =
    sym (ap (λ r. part ++ r) (drop_all (0 + length part) zeros (omega (arith, whole, length_zeros))) ∙ append-nil part)

-- past the end of the file, or where there is no file
pub zeros_are : (files : List (List ℕ)) (file index : ℕ) → length (file_bytes files file) ≤ index * 4096 → zeros ≡ file_page files file index
zeros_are files file index h =
    sym (ap (λ d. take 4096 (d ++ zeros)) (drop_all (4096 * index) (file_bytes files file) (omega (arith, h))) ∙ take_all 4096 zeros (omega (arith, length_zeros)))

pub no_bytes : (files : List (List ℕ)) (file : ℕ) → length files ≤ file → file_bytes files file ≡ []
no_bytes files file h = ap (λ o. unwrap_or o []) (slice_get_past files file h)

-- whether a page lies past the end of its file
pub past_end : (files : List (List ℕ)) (file index : ℕ) → length (file_bytes files file) ≤ index * 4096 → nat_le (length (file_bytes files file)) (4096 * index) ≡ true
past_end files file index h = le-leb (length (file_bytes files file)) (4096 * index) (omega (arith, h))

pub before_end : (files : List (List ℕ)) (file index : ℕ) → index * 4096 < length (file_bytes files file) → nat_le (length (file_bytes files file)) (4096 * index) ≡ false
before_end files file index h = go (nat_le (length (file_bytes files file)) (4096 * index)) refl
  where
    go : (b : Bool) → nat_le (length (file_bytes files file)) (4096 * index) ≡ b → b ≡ false
    go false e = refl
    go true e = absurd (omega (arith, h, leb-true (length (file_bytes files file)) (4096 * index) e))
