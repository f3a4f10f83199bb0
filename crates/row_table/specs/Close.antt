-- What a table is closed into.
--     HasNothing, IsIdle      a pass that is outside, and has nothing
--     HasAll      each pass is there
--     IsReached      a row that links from row 0 reach
--     times_listed      how many times a row stands in the book's lists
--     IsGoodEnd      the words and the book's lists are those of a good core whose passes have nothing, and each row is in one list or reached
--     AtEnd      what holds of the words and the slots of a closed table, whose passes knew this
--     KnownAtEnd, IsClosed      the same of what the table is closed into
use Rattle.std.specs.Prelude.{◌≡◌, ℕ, suc, zero, ◌+◌, ◌%◌, ◌<◌, ◌≤◌, true, false, List, [], length, slice_index, None, Some}
use Rattle.std.specs.List.{Contains}
use mathlib.Core.Option.{some}
use lib.ListN.{get_elem?}
use Rattle.walk_core.specs.Words.{entry_at, epoch_at, is_link, link_row}
use Rattle.walk_core.specs.declared.pass.PassCore.{PassCore}
use Rattle.walk_core.specs.Lists.{times, Has}
use Rattle.walk_core.specs.Core.{Core, pass_at}
use Rattle.walk_core.specs.Guards.{put_rows}
use Rattle.walk_core.specs.Good.{Good}
use Rattle.row_layout.specs.declared.places.Layout.{Layout}
use Rattle.row_layout.specs.Places.{word_count}
use Rattle.row_table.specs.declared.plan.Content.TheVariants.{Row, Book}
use Rattle.row_table.specs.declared.view.PassView.{PassView}
use Rattle.row_table.specs.Plan.{Meaning}
use Rattle.row_table.specs.Rows.{row_words, place_at, generation_of}
use Rattle.row_table.specs.Rule.{Slot, SameRows, StartsWith, own_places}

pub record HasNothing (v : PassCore) : Type 0 where
  pub outside : v.stand ≡ None
  pub held : v.held ≡ []
  pub granted : v.granted ≡ []
  pub unlinked : v.unlinked ≡ []
  pub has_not : v.has_book ≡ false

abbrev pub IsIdle : {R B E : Type 0} → PassView R B E → Type 0
IsIdle v = HasNothing v.core

abbrev pub HasAll : ℕ → List ℕ → Type 0
HasAll count numbers = (t : ℕ) → t < count → Has numbers t

-- so many links from row 0 on
abbrev pub IsReachedIn : List ℕ → ℕ → ℕ → Type 0
IsReachedIn words zero r = r ≡ 0
IsReachedIn words (suc n) r = (p : ℕ) × IsReachedIn words n p × ((i : ℕ) × (i < 512) × (is_link (slice_index words (entry_at p i)) ≡ true) × (link_row (slice_index words (entry_at p i)) ≡ r))

abbrev pub IsReached : List ℕ → ℕ → Type 0
IsReached words r = (n : ℕ) × IsReachedIn words n r

module _ {R B E : Type 0} (M : Meaning R B E) where
  abbrev pub times_listed : ℕ → B → ℕ
  times_listed r book = times r (M.free book) + times r (put_rows (M.limbo book))

  -- a row that is there stands once among the free rows and those in limbo, or else links from row 0 reach it
  pub record IsGoodEnd (k : Layout) (words : List ℕ) (book : B) : Type 0 where
    pub core : Core
    pub good : Good core
    pub levels : core.levels ≡ k.levels
    pub rows : core.rows ≡ k.rows
    pub count : core.count ≡ k.passes
    pub words_same : core.words ≡ words
    pub free : SameRows core.free (M.free book)
    pub limbo : core.limbo ≡ M.limbo book
    pub hands : (p : ℕ) → p < k.passes → HasNothing (pass_at core p)
    pub once : (r : ℕ) → times_listed r book ≤ 1
    pub there : (r : ℕ) → k.rows ≤ r → times_listed r book ≡ 0
    pub reached : (r : ℕ) → r < k.rows → times_listed r book ≡ 0 → IsReached words r
    -- the next generation is above all that rows have
    pub generations : (r : ℕ) → r < k.rows → generation_of words r < M.next_generation book
    pub unlisted : (r : ℕ) → IsReached words r → (r < k.rows) × (times_listed r book ≡ 0)

  -- the journal, the epoch word and the fixed part of the book as a pass knew them
  pub record KnownAtEnd (epoch : ℕ) (book : B) (v : PassView R B E) : Type 0 where
    pub same_epoch : epoch ≡ v.epoch
    pub fixed : (first : B) → v.origin ≡ Some first → M.same_fixed first book
    pub seen : StartsWith (M.journal book) v.seen
    pub mine : v.mine ≡ own_places M v.number (M.journal book)

  pub record AtEnd (k : Layout) (views : List (PassView R B E)) (words : List ℕ) (slots : List (Slot R B)) : Type 0 where
    pub book : B
    pub book_there : get_elem? slots k.rows ≡ some (Some (Book book))
    pub row_there : (r : ℕ) → r < k.rows → (x : R) × (get_elem? slots r ≡ some (Some (Row x)))
    pub good : IsGoodEnd k words book
    pub even : (t : ℕ) → t < k.passes → slice_index words (epoch_at k.rows t) % 2 ≡ 0
    pub agree : (r : ℕ) (x : R) → IsReached words r → get_elem? slots r ≡ some (Some (Row x)) → M.agrees book (place_at words r) (row_words words r) x
    pub blank : (r : ℕ) (x : R) → r < k.rows → ¬ IsReached words r → get_elem? slots r ≡ some (Some (Row x)) → M.is_blank x
    pub knows : (v : PassView R B E) → Contains views v → (v.number < k.passes) × KnownAtEnd (slice_index words (epoch_at k.rows v.number)) book v

  pub record IsClosed (k : Layout) (views : List (PassView R B E)) (words epochs : List ℕ) (rows : List R) (book : B) : Type 0 where
    pub all_words : length words ≡ word_count k
    pub all_epochs : length epochs ≡ k.passes
    pub all_rows : length rows ≡ k.rows
    pub good : IsGoodEnd k words book
    pub epochs_are : (t : ℕ) → t < k.passes → slice_index epochs t ≡ slice_index words (epoch_at k.rows t)
    pub even : (t : ℕ) → t < k.passes → slice_index epochs t % 2 ≡ 0
    pub agree : (r : ℕ) (x : R) → IsReached words r → get_elem? rows r ≡ some x → M.agrees book (place_at words r) (row_words words r) x
    pub blank : (r : ℕ) (x : R) → ¬ IsReached words r → get_elem? rows r ≡ some x → M.is_blank x
    pub knows : (v : PassView R B E) → Contains views v → (v.number < k.passes) × KnownAtEnd (slice_index epochs v.number) book v
