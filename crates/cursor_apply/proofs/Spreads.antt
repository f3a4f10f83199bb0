-- A mark spread over the cells of a row.
--     none_spread      where nothing stood, nothing stands
--     blank_whole, one_spread      before the first entry, and an entry more
use Rattle.std.specs.Prelude.{◌≡◌, ℕ, zero, suc, ◌+◌, ◌<◌, false, List, length, replicate, slice_get, slice_set, Some}
use Rattle.std.proofs.Common.{sym, refl, ◌∙◌, ap, arith}
use Rattle.std.proofs.lemmas.List.{length-replicate}
use mathlib.Core.Logic.{dite}
use native.Mathlib.Decide.{ℕ_discrete}
use Rattle.row_cells.specs.declared.Cell.{Cell}
use Rattle.row_cells.specs.declared.Cell.TheVariants.{Invalid, Table, Anon, File, Mapped, Swapped}
use Rattle.row_cells.specs.Cells.{blank, is_used}
use Rattle.cursor_detach.proofs.Lists.{get_same, get_other}
use Rattle.cursor_apply.specs.Linking.{spread_cell, IsSpread}

all_alike : (n i : ℕ) (x : Cell) → i < n → slice_get (replicate n x) i ≡ Some x
all_alike zero i x h = absurd (omega arith)
all_alike (suc n) zero x h = refl
all_alike (suc n) (suc i) x h = all_alike n i x (omega (arith, h))

blank_at : (i : ℕ) → i < 512 → slice_get blank i ≡ Some Invalid
unfolding blank
blank_at i h = all_alike 512 i Invalid h

blank_length : length blank ≡ 512
unfolding blank
blank_length = length-replicate 512 Invalid

pub blank_whole : (cells : List Cell) → cells ≡ blank → length cells ≡ 512
blank_whole cells is = ap length is ∙ blank_length

pub none_spread : (mark : Cell) (pages : ℕ) (cells : List Cell) → is_used mark ≡ false → cells ≡ blank → IsSpread mark pages cells
none_spread mark pages cells unused is = record { whole = blank_whole cells is; each = λ i h. ap (λ (l : List Cell). slice_get l i) is ∙ (blank_at i h ∙ ap Some (nothing mark i unused)) }
  where
    nothing : (mark : Cell) (i : ℕ) → is_used mark ≡ false → Invalid ≡ spread_cell mark pages i
    nothing Invalid i e = refl
    nothing Table i e = refl
    nothing (Anon perm) i e = absurd (cc)
    nothing (File perm file first) i e = absurd (cc)
    nothing (Mapped perm origin frame) i e = refl
    nothing (Swapped perm origin slot) i e = refl

pub one_spread : (mark : Cell) (pages index : ℕ) (cells cells' : List Cell) (cell : Cell) → index < 512 → length cells ≡ 512 → ((i : ℕ) → i < index → slice_get cells i ≡ Some (spread_cell mark pages i)) → cells' ≡ slice_set cells index cell → cell ≡ spread_cell mark pages index
    → (i : ℕ) → i < index + 1 → slice_get cells' i ≡ Some (spread_cell mark pages i)
one_spread mark pages index cells cells' cell inside whole before now is i less = ap (λ (l : List Cell). slice_get l i) now ∙ dite (ℕ_discrete i index)
    (λ e. ap (slice_get (slice_set cells index cell)) e ∙ (get_same cells index cell (omega (arith, inside, whole)) ∙ (ap Some is ∙ ap (λ k. Some (spread_cell mark pages k)) (sym e))))
    (λ ne. get_other cells index i cell ne ∙ before i (omega arith))
