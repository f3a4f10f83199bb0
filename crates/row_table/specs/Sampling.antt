-- What a sample makes of what a pass knows, and what it tells.
--     sampled      the pass after it read the epoch word of the pass x
--     HasBook      what it tells of the book, where the pass has it
--     IsSample      what is known of the number that was found there
--     SampleSays, SampleTells      what the step tells its seat
--     Samples      what a sample answers
use Rattle.std.specs.Prelude.{◌≡◌, ℕ, ◌≤◌, ◌^◌, true, [], ◌∷◌, slice_index, Some}
use Rattle.std.specs.List.{Contains}
use Rattle.atomic_table.specs.Table.{Step}
use Rattle.walk_core.specs.declared.lists.PutRow.{PutRow}
use Rattle.walk_core.specs.declared.pass.SampleBounds.{SampleBounds}
use Rattle.walk_core.specs.declared.pass.UnlinkedRow.{UnlinkedRow}
use Rattle.walk_core.specs.Words.{epoch_at}
use Rattle.walk_core.specs.Core.{sample_of}
use Rattle.walk_core.specs.Events.{samples_with, unlinked_after_sample}
use Rattle.walk_core.specs.Good.{AreSampled}
use Rattle.row_table.specs.declared.view.PassView.{PassView}
use Rattle.row_table.specs.Plan.{Meaning}
use Rattle.row_table.specs.Rule.{Slot, Seat, view}
use Rattle.row_table.specs.Known.{IsRight}
use Rattle.row_table.specs.Books.{Learns}

module _ {R B E : Type 0} where
  -- the number n was read: it is the last one sampled of x since the turn, and of each row that the pass unlinked and marked
  abbrev pub sampled : PassView R B E → ℕ → ℕ → PassView R B E
  sampled v x n = record v { core = record v.core { unlinked = unlinked_after_sample x n v.core.held v.core.unlinked; samples = samples_with x n v.core.samples } }

  module _ (M : Meaning R B E) where
    -- the book that the pass has: its lists are as a turn finds them, and no number of a row in limbo is above n
    pub record HasBook (v : PassView R B E) (x n : ℕ) : Type 0 where
      pub book : B
      pub found : v.found ≡ Some book
      pub learns : Learns M v.layout.rows v book
      pub in_limbo : (k : PutRow) → Contains (M.limbo book) k → slice_index k.samples x ≤ n

    -- The number is the own one where x is the pass itself. It is not below what was sampled of x before, since the turn and with each row that the pass unlinked.
    pub record IsSample (v : PassView R B E) (x n : ℕ) : Type 0 where
      pub right : IsRight v
      pub own : x ≡ v.number → n ≡ v.epoch
      pub bounded : n ≤ 2 ^ 62
      pub since_turn : (b : SampleBounds) → sample_of v.core.samples x ≡ Some b → AreSampled b n
      pub since_mark : (u : UnlinkedRow) → Contains v.core.unlinked u → (b : SampleBounds) → sample_of u.samples x ≡ Some b → AreSampled b n
      pub with_book : v.core.has_book ≡ true → HasBook v x n

    abbrev pub SampleSays : Seat R B E → ℕ → Seat R B E → ℕ → Type 0
    SampleSays m n m' x = IsSample (view m) x n × (m' ≡ (sampled (view m) x n ∷ [], m.1))

    abbrev pub SampleTells : Step (Slot R B) → Seat R B E → ℕ → Seat R B E → Type 0
    SampleTells st m n m' = (x : ℕ) → st.word ≡ epoch_at (view m).layout.rows x → SampleSays m n m' x

    abbrev pub Samples : ℕ → PassView R B E → ℕ → PassView R B E → Type 0
    Samples x v n w = IsSample v x n × (w ≡ sampled v x n)
