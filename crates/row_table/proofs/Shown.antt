-- What the words show of rows and passes, where one word changes.
use Rattle.std.proofs.Common.{◌≡◌, ◌≢◌, ℕ, zero, suc, ◌+◌, ◌*◌, ◌<◌, List, ◌∷◌, map, get_or, set, refl, ap, arith, get_or-set_other, length, ◌∙◌}
use Rattle.std.specs.List.{range_with_len}
use Rattle.std.proofs.lemmas.List.{length-map}
use Rattle.std.proofs.lemmas.List.FromFn.{get_or-map-range_with_len, length-range_with_len}
use Rattle.walk_core.specs.Words.{entry_at, lock_at, position_at, generation_at, epoch_at, book_at, place_shown}
use Rattle.row_layout.specs.declared.places.Layout.{Layout}
use Rattle.row_table.specs.Rows.{row_words, place_at, generation_of}

-- two functions that are the same on a range
pub same_on : (f g : ℕ → ℕ) (from n : ℕ) → ((i : ℕ) → i < from + n → f i ≡ g i) → map f (range_with_len from n) ≡ map g (range_with_len from n)
same_on f g from zero h = refl
same_on f g from (suc n) h = λ k. h from (omega arith) k ∷ same_on f g (from + 1) n (λ i less. h i (omega arith)) k

-- an entry word of a row
pub word_at : (ws : List ℕ) (r i : ℕ) → i < 512 → get_or (row_words ws r) i 0 ≡ get_or ws (entry_at r i) 0
unfolding row_words
word_at ws r i h = get_or-map-range_with_len (λ (j : ℕ). get_or ws (entry_at r j) 0) 0 512 i i 0 h (let e : 0 + i ≡ i = omega arith in e)

pub words_long : (ws : List ℕ) (r : ℕ) → length (row_words ws r) ≡ 512
unfolding row_words
words_long ws r = length-map (range_with_len 0 512) (λ (j : ℕ). get_or ws (entry_at r j) 0) ∙ length-range_with_len 0 512

pub same_words : (ws us : List ℕ) (r : ℕ) → ((i : ℕ) → i < 512 → get_or us (entry_at r i) 0 ≡ get_or ws (entry_at r i) 0) → row_words us r ≡ row_words ws r
unfolding row_words
same_words ws us r h = same_on (λ (j : ℕ). get_or us (entry_at r j) 0) (λ (j : ℕ). get_or ws (entry_at r j) 0) 0 512 (λ i less. h i (omega arith))

-- what the words show of a row beside its lock word is the same
pub record ShowsSame (ws us : List ℕ) (r : ℕ) : Type 0 where
  pub words : row_words us r ≡ row_words ws r
  pub place : place_at us r ≡ place_at ws r
  pub generation : generation_of us r ≡ generation_of ws r

-- what they show of each row and each pass
pub record ShowSame (k : Layout) (ws us : List ℕ) : Type 0 where
  pub rows : (r : ℕ) → r < k.rows → ShowsSame ws us r
  pub epochs : (p : ℕ) → p < k.passes → get_or us (epoch_at k.rows p) 0 ≡ get_or ws (epoch_at k.rows p) 0

pub shows_same : (ws : List ℕ) (i n r : ℕ) → ((j : ℕ) → j < 515 → j ≢ 512 → 515 * r + j ≢ i) → ShowsSame ws (set ws i n) r
shows_same ws i n r apart = record {
  words = same_words ws (set ws i n) r (λ j less. get_or-set_other ws i (entry_at r j) n 0 (apart j (omega arith) (omega arith)));
  place = ap place_shown (get_or-set_other ws i (position_at r) n 0 (apart 513 (omega arith) (omega arith)));
  generation = get_or-set_other ws i (generation_at r) n 0 (apart 514 (omega arith) (omega arith));
}

-- a lock word changes
pub lock_shows : (k : Layout) (ws : List ℕ) (q n : ℕ) → q < k.rows → ShowSame k ws (set ws (lock_at q) n)
lock_shows k ws q n less = record {
  rows = λ r _. shows_same ws (lock_at q) n r (λ j h ne e. omega arith);
  epochs = λ p _. get_or-set_other ws (lock_at q) (epoch_at k.rows p) n 0 (λ e. omega arith);
}

-- the book's lock word changes
pub book_shows : (k : Layout) (ws : List ℕ) (n : ℕ) → ShowSame k ws (set ws (book_at k.rows k.passes) n)
book_shows k ws n = record {
  rows = λ r less. shows_same ws (book_at k.rows k.passes) n r (λ j h ne e. omega arith);
  epochs = λ p less. get_or-set_other ws (book_at k.rows k.passes) (epoch_at k.rows p) n 0 (λ e. omega arith);
}
