-- A page of a file that is put into a page of zeros.
use Rattle.std.proofs.Common.{◌≡◌, ℕ, zero, suc, ◌*◌, ◌≤◌, List, [], ◌∷◌, ◌++◌, length, take, drop, replicate, refl, sym, ap, ◌∙◌, arith}
use Rattle.std.specs.Option.{unwrap_or}
use Rattle.std.proofs.lemmas.List.{length-replicate, length-take, take-replicate, drop_all}
use Rattle.std.proofs.lemmas.Option.{slice_get_past}
use Rattle.page_map.specs.Cell.{zeros, file_bytes, file_page}

pub whole_zeros : length zeros ≡ 4096
unfolding zeros
whole_zeros = length-replicate {A = ℕ} 4096 0

filled_up : (n m : ℕ) (xs : List ℕ) → n ≤ m → take n (xs ++ replicate m 0) ≡ take n xs ++ drop (length (take n xs)) (replicate n 0)
filled_up zero m xs h = refl
filled_up (suc n) m [] h = take-replicate (suc n) m 0 h
filled_up (suc n) m (x ∷ xs) h = ap (λ l. x ∷ l) (filled_up n m xs (less h))
  where
    less : {n m : ℕ} → suc n ≤ m → n ≤ m
    less h = omega arith

pub short_part : (xs b : List ℕ) → b ≡ take 4096 xs → length b ≤ 4096
short_part xs b is = omega (arith, ap length is, length-take 4096 xs)

same_place : (i : ℕ) → i * 4096 ≡ 4096 * i
same_place i = omega arith

pub put_page : (files : List (List ℕ)) (file index : ℕ) (page b : List ℕ) → page ≡ zeros → b ≡ take 4096 (drop (index * 4096) (file_bytes files file)) → b ++ drop (length b) page ≡ file_page files file index
unfolding zeros
put_page files file index page b was is =
    (λ i. is i ++ drop (length (is i)) (was i))
    ∙ sym (filled_up 4096 4096 (drop (index * 4096) (file_bytes files file)) (omega arith))
    ∙ ap (λ n. take 4096 (drop n (file_bytes files file) ++ replicate 4096 0)) (same_place index)

only_zeros : take 4096 zeros ≡ zeros
unfolding zeros
only_zeros = take-replicate 4096 4096 0 (omega arith)

pub no_part : (files : List (List ℕ)) (file index : ℕ) (page : List ℕ) → page ≡ zeros → length (file_bytes files file) ≤ index * 4096 → page ≡ file_page files file index
no_part files file index page was past = was ∙ sym (ap (λ l. take 4096 (l ++ zeros)) (drop_all (4096 * index) (file_bytes files file) (omega (arith, past))) ∙ only_zeros)

pub no_file : (files : List (List ℕ)) (file index : ℕ) (page : List ℕ) → page ≡ zeros → length files ≤ file → page ≡ file_page files file index
no_file files file index page was past = no_part files file index page was (omega (arith, ap (λ o. length (unwrap_or o [])) (slice_get_past files file past)))
