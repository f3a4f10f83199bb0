-- Bits of masks of processors.
--     all_bits      the lowest bits are 1, and no others
--     cleared      one bit is 0, and the others are as before
--     lowest      the least bit that is 1
use Rattle.std.proofs.Common.{◌≡◌, ◌-◌, ◌*◌, ◌%◌, ◌^◌, ◌<◌, ◌≤◌, ◌⊎◌, ℕ, cond, refl, sym, ◌∙◌, ap, inl, inr, arith, w8}
use Rattle.std.specs.Prelude.{nat_eq, bit_and}
use Rattle.std.specs.Int.{bit_at, bit_not}
use Rattle.std.proofs.lemmas.Nat.{and_le_l}
use Rattle.std.proofs.lemmas.Nat.Bits.{bit_at_ones, bit_at_ones_above, bit_at_clear_same, bit_at_clear_other, bit_at_above}
use Rattle.std.proofs.lemmas.Bool.{cases_eq, cases_lt, eq-eqb, ne_eqb, eqb-false, cond-true, cond-false}
use Rattle.tlb_core.specs.Steps.{IsAll}

pub all_bits : (cpus : ℕ) → IsAll cpus (2 ^ cpus - 1)
all_bits cpus cpu = elim (cases_lt cpu cpus) [
  | inl below ↦ ((λ one. below), (λ h. bit_at_ones cpus cpu below))
  | inr above ↦ ((λ one. absurd (eqb-false 0 1 refl (sym (bit_at_ones_above cpus cpu above) ∙ one))), (λ h. absurd (omega arith)))
]

pub cleared : (mask cpu : ℕ) → mask < 2 ^ 8 → cpu < 8 → (other : ℕ) →
    bit_at (bit_and mask (bit_not w8 (1 * 2 ^ cpu % 2 ^ 8))) other ≡ cond (nat_eq other cpu) 0 (bit_at mask other)
cleared mask cpu fits there other = elim (cases_eq other cpu) [
  | inl same ↦ ap (bit_at (bit_and mask (bit_not w8 (1 * 2 ^ cpu % 2 ^ 8)))) same ∙ bit_at_clear_same w8 mask cpu there
      ∙ sym (cond-true (nat_eq other cpu) 0 (bit_at mask other) (eq-eqb other cpu same))
  | inr apart ↦ kept apart (cases_lt other 8) ∙ sym (cond-false (nat_eq other cpu) 0 (bit_at mask other) (ne_eqb other cpu apart))
]
  where
    kept : (other ≡ cpu → ⊥) → (other < 8) ⊎ (8 ≤ other) → bit_at (bit_and mask (bit_not w8 (1 * 2 ^ cpu % 2 ^ 8))) other ≡ bit_at mask other
    kept apart (inl below) = bit_at_clear_other w8 mask cpu there other below apart
    kept apart (inr above) = bit_at_above (bit_and mask (bit_not w8 (1 * 2 ^ cpu % 2 ^ 8))) 8 other (omega (arith, and_le_l mask (bit_not w8 (1 * 2 ^ cpu % 2 ^ 8)))) above
        ∙ sym (bit_at_above mask 8 other fits above)
