-- Entries of rows in the words that contracts say. The layers above may cite this file.
use Rattle.std.proofs.Common.{◌≡◌, ℕ, ◌+◌, ◌<◌, not, false, cond, List, length, get_or, Bool, ap, ◌∙◌, arith}
use Rattle.std.specs.List.{range_with_len}
use Rattle.std.proofs.lemmas.List.FromFn.{get_or-map-range_with_len, length-range_with_len}
use Rattle.std.proofs.lemmas.List.{length-map}
use Rattle.walk_core.specs.Words.{is_link}
use Rattle.walk_core.specs.Lists.{times, Has}
use Rattle.walk_core.proofs.RowLists.{times-filter, range_above}
use Rattle.row_table.specs.Vacant.{vacant_entries, blank_words}

-- an entry of a row without entries
pub blank_zero : (i : ℕ) → i < 512 → get_or blank_words i 0 ≡ 0
unfolding blank_words
blank_zero i h = get_or-map-range_with_len (λ (j : ℕ). 0) 0 512 i i 0 h (let e : 0 + i ≡ i = omega arith in e)

pub blank_long : length blank_words ≡ 512
unfolding blank_words
blank_long = length-map {B = ℕ} (range_with_len 0 512) (λ (j : ℕ). 0) ∙ length-range_with_len 0 512

-- an entry that is no link is among the vacant ones
pub is_vacant : (words : List ℕ) (i : ℕ) → i < 512 → is_link (get_or words i 0) ≡ false → Has (vacant_entries words) i
unfolding vacant_entries
is_vacant words i inside none =
    let f = times-filter (λ j. not (is_link (get_or words j 0))) i (range_with_len 0 512) in
    let z : times i (vacant_entries words) ≡ times i (range_with_len 0 512) = f ∙ ap (λ (b : Bool). cond (not b) (times i (range_with_len 0 512)) 0) none in
    let h : 0 < times i (range_with_len 0 512) = range_above 0 512 i (omega arith) inside in omega arith
