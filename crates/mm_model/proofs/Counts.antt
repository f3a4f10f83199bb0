-- Counts of owners as lists.
use Rattle.std.proofs.Common.{◌≡◌, ℕ, zero, suc, ◌+◌, ◌≤◌, List, ◌∷◌, length, replicate, refl, sym, ap, arith}
use Rattle.std.specs.Prelude.{Option, map}
use Rattle.std.specs.List.{range_with_len, sum_by, count_by}
use Rattle.std.specs.Option.{option_map_or}
use Rattle.std.specs.Ordering.{nat_cmp}
use Rattle.std.specs.Cmp.{nat_cmp_total}
use Rattle.std.specs.FinMap as fin
use Rattle.std.specs.FinMap.{get-empty}
use Rattle.std.proofs.lemmas.List.FromFn.{length-map-range_with_len}
use Rattle.corten_base.specs.declared.numbers.Limits.{Limits}
use Rattle.page_map.specs.declared.cell.Cell.{Cell}
use Rattle.page_map.specs.State.{AddressSpace, start, owners, carries}
use Rattle.page_map.proofs.Weights.{weight_insert}
use Rattle.page_map.proofs.Evaluate.{entries_empty}
use Rattle.plain_counts.specs.Owners.{unused_of}
use Rattle.mm_model.specs.Plain.{owner_counts}
use Rattle.plain_counts.proofs.Tally.{length-unused}

nothing_carried : {X : Type 0} (w : X → ℕ) → sum_by w (fin.values (fin.empty {K = ℕ} {X = X} {R = nat_cmp})) ≡ 0
nothing_carried w = ap (λ es. sum_by w (map (λ e. e.1) es)) (entries_empty nat_cmp)

-- nobody carries a number in the start state
pub start_owners : (number_of : Cell → Option ℕ) (limits : Limits) (files : List (List ℕ)) (n : ℕ) → owners number_of (start limits files) n ≡ 0
unfolding owners start
start_owners number_of limits files n =
    let w : AddressSpace → ℕ = λ cells. count_by (carries number_of n) (fin.values cells) in
    let grows = weight_insert nat_cmp_total w fin.empty 0 fin.empty in
    let none : w fin.empty ≡ 0 = ap (λ es. count_by (carries number_of n) (map (λ e. e.1) es)) (entries_empty nat_cmp) in
    let before = ap (λ o. option_map_or w o 0) (get-empty {X = AddressSpace} nat_cmp 0) in
    added grows before none (nothing_carried w)
  where
    added : {a b c d : ℕ} → a + b ≡ c + d → b ≡ 0 → d ≡ 0 → c ≡ 0 → a ≡ 0
    added e f g h = omega (arith, e, f, g, h)

zeros_from : (f : ℕ → ℕ) → ((k : ℕ) → f k ≡ 0) → (low n : ℕ) → map f (range_with_len low n) ≡ replicate n 0
zeros_from f h low zero = refl
zeros_from f h low (suc n) = (λ i. h low i ∷ zeros_from f h (low + 1) n i)

pub no_owners : (f : ℕ → ℕ) (n : ℕ) → ((k : ℕ) → f k ≡ 0) → replicate n 0 ≡ owner_counts f n
no_owners f n h = sym (zeros_from f h 0 n)

pub unused_fit : (f : ℕ → ℕ) (limit : ℕ) (counts : List ℕ) → counts ≡ owner_counts f limit → length (unused_of counts) ≤ limit
unused_fit f limit counts e = omega (arith, length-unused counts, ap length e, length-map-range_with_len f 0 limit)
