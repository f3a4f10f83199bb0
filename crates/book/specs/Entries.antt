-- How the commit of a call ends that nothing refuses.
--     Ledger, ledger, ledger_of      the parts of a book that each such call changes alike
--     with_ledger      a book with other counts and other such parts
--     entry_of, entered      an answered call;  a book with one more, and no blocker in limbo
--     FirstTells      the first row in limbo tells whether any row there has a blocker
--     MayEnter      what the end of a commit asks of them and of the kit
--     Enters      what it does
use Rattle.std.specs.Prelude.{◌≡◌, ℕ, ◌+◌, ◌^◌, ◌<◌, ◌≤◌, true, List, [], ◌∷◌, ◌++◌, map, take, drop, length, slice_get, Some}
use Rattle.std.specs.List.{range_with_len, zip}
use Rattle.std.specs.FinSet as set
use Rattle.std.specs.Vec.{vec_capacity}
use Rattle.corten_base.specs.declared.calls.Call.{Call}
use Rattle.corten_base.specs.declared.calls.Entry.{Entry}
use Rattle.corten_base.specs.declared.calls.Reply.{Reply}
use Rattle.counted_pages.specs.Pages.{PageCounts}
use Rattle.free_numbers.specs.Numbers.{NumbersBelow}
use Rattle.row_layout.specs.declared.limbo.Sampled.{Sampled}
use Rattle.machine_plan.specs.declared.kit.Kit.{Kit}
use Rattle.machine_plan.specs.Books.{BookData, unblocked}
use Rattle.book.specs.Pieces.{AreBelow, rows_in}

pub record Ledger : Type 0 where
  pub journal : List Entry
  pub free : NumbersBelow
  pub limbo : List Sampled
  pub next_generation : ℕ

abbrev pub ledger : List Entry → NumbersBelow → List Sampled → ℕ → Ledger
ledger journal free limbo generation = record { journal = journal; free = free; limbo = limbo; next_generation = generation }

abbrev pub ledger_of : BookData → Ledger
ledger_of b = ledger b.journal b.free b.limbo b.next_generation

abbrev pub with_ledger : BookData → PageCounts → PageCounts → Ledger → BookData
with_ledger b frames slots l = record b { journal = l.journal; frames = frames; slots = slots; free = l.free; limbo = l.limbo; next_generation = l.next_generation }

abbrev pub entry_of : ℕ → Call → Reply → Entry
entry_of thread c r = record { thread = thread; call = c; reply = r }

-- a refused call changes nothing else
abbrev pub entered : BookData → Entry → BookData
entered b entry = record b { journal = b.journal ++ entry ∷ []; limbo = map unblocked b.limbo }

-- where the first row has none, no row has one
pub record FirstTells (limbo : List Sampled) : Type 0 where
  pub none : (s : Sampled) → slice_get limbo 0 ≡ Some s → s.blocker ≡ 255 → map unblocked limbo ≡ limbo

pub record MayEnter (l : Ledger) (places : ℕ) (kit : Kit) : Type 0 where
  pub place : length l.journal < places
  pub below : AreBelow l.free
  pub enough : kit.rows_needed ≤ length (rows_in l.free)
  pub few : kit.rows_needed ≤ 1023
  pub none : kit.rows.items ≡ []
  pub room : 1023 ≤ vec_capacity kit.rows
  pub drawn : l.next_generation ≤ 2 ^ 31
  pub few_in_limbo : length l.limbo < 2 ^ 32
  pub tells : FirstTells l.limbo

-- The least free rows are granted, each with a generation of its own.
pub record Enters (entry : Entry) (old : Ledger) (kit : Kit) (new : Ledger) (kit' : Kit) : Type 0 where
  pub journal : new.journal ≡ old.journal ++ entry ∷ []
  pub limbo : new.limbo ≡ map unblocked old.limbo
  pub rows : kit'.rows.items ≡ zip (take kit.rows_needed (rows_in old.free)) (range_with_len old.next_generation kit.rows_needed)
  pub free : rows_in new.free ≡ drop kit.rows_needed (rows_in old.free)
  pub limit : new.free.limit ≡ old.free.limit
  pub below : AreBelow new.free
  pub fewer : set.len new.free.numbers + kit.rows_needed ≡ set.len old.free.numbers
  pub generation : new.next_generation ≡ old.next_generation + kit.rows_needed
  pub room : vec_capacity kit.rows ≤ vec_capacity kit'.rows
  pub same_kit : kit' ≡ record kit { rows = kit'.rows; done = true }
