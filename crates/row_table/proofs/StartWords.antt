-- The words of the two rows that a table starts with.
use Rattle.std.proofs.Common.{◌≡◌, ℕ, ◌+◌, ◌*◌, ◌<◌, ◌≤◌, true, get_or, sym, refl, ap, ◌∙◌, subst, ⊎_elim, arith}
use Rattle.table_place.specs.Place.{root, directory, is_place}
use Rattle.walk_core.specs.Words.{entry_at, place_shown, word_count}
use Rattle.walk_core.specs.Core.{MayBoot, boot_word}
use Rattle.walk_core.proofs.Spellings.{place_shown-position_word}
use Rattle.walk_core.proofs.Boot.{four_or_five, boot_zero, word_is}
use Rattle.row_layout.specs.declared.places.Layout.{Layout}
use Rattle.row_layout.specs.Places.{IsLayout}
use Rattle.row_table.specs.Rows.{row_words}
use Rattle.row_table.specs.Start.{start_words}
use Rattle.row_table.specs.StartWords.{StartsTrue}
use Rattle.row_table.proofs.Shown.{word_at}
use Rattle.row_table.proofs.Openings.{spelled_is}

module _ (k : Layout) (is : IsLayout k) where
  may : MayBoot k.levels k.rows k.passes
  may = record { some_levels = four_or_five k.levels is.4 is.5; rows_low = is.0; rows_high = is.1; count_low = is.2; count_high = is.3 }

  at : (j : ℕ) → j < word_count k.rows k.passes → get_or (start_words k) j 0 ≡ boot_word k.levels k.rows j
  at j less = word_is k.levels k.rows k.passes may j less

  root_is_place : is_place k.levels (root k.levels 0) ≡ true
  root_is_place = ⊎_elim (λ (e : k.levels ≡ 4). subst (λ (n : ℕ). is_place n (root n 0) ≡ true) (sym e) refl) (λ (e : k.levels ≡ 5). subst (λ (n : ℕ). is_place n (root n 0) ≡ true) (sym e) refl) (four_or_five k.levels is.4 is.5)

  no_entry : (r i : ℕ) → r < 2 → i < 512 → 1 ≤ 515 * r + i → get_or (row_words (start_words k) r) i 0 ≡ 0
  no_entry r i low inside some = let rows = is.0 in word_at (start_words k) r i inside ∙ (at (entry_at r i) (omega arith)
      ∙ boot_zero k.levels k.rows (entry_at r i) (λ e. omega arith) (λ e. omega arith) (λ e. omega arith) (λ e. omega arith) (λ e. omega arith))

  pub starts_true : StartsTrue k
  starts_true = let rows = is.0 in record {
    directory_place = ap place_shown (at 513 (omega arith)) ∙ place_shown-position_word directory (omega arith) (omega arith);
    root_place = spelled_is k (root k.levels 0) (get_or (start_words k) 1028 0) is.5 root_is_place (at 1028 (omega arith));
    root_generation = at 1029 (omega arith);
    link = word_at (start_words k) 0 0 (omega arith) ∙ at 0 (omega arith);
    others = λ i some inside. no_entry 0 i (omega arith) inside (omega arith);
    root_empty = λ i inside. no_entry 1 i (omega arith) inside (omega arith);
  }
