-- What set entry and unlink make of what a pass knows, what they ask and tell.
--     with_word, with_link      a held row after an entry word was stored, and after a link was
--     word_set, link_set, entry_set      the pass after it stored an entry that is no link, one that is, and either
--     entry_cut      the pass after it unlinked a row
--     LinksHand, MaySetEntry, SetTells, Sets      when a pass may store an entry, what the step tells, and what the call does
--     KeepsUnlinked      after it, each row that could be opened and that it does not link can be opened
--     MayUnlink, CutTells, Unlinks      the same of unlink
use Rattle.std.specs.Prelude.{◌≡◌, ◌≢◌, ℕ, ◌<◌, ◌⊎◌, cond, not, true, false, [], ◌∷◌, ◌++◌, map, slice_index, slice_set, nat_eq, None}
use Rattle.std.specs.List.{Contains, filter}
use Rattle.atomic_table.specs.Table.{Step}
use Rattle.table_place.specs.Place.{entry_place}
use Rattle.walk_core.specs.Words.{entry_at, is_link, link_row, link_generation, is_leaf}
use Rattle.walk_core.specs.Lists.{among, without}
use Rattle.walk_core.specs.Events.{granted_after_entry, newly_unlinked}
use Rattle.row_table.specs.declared.view.PassView.{PassView}
use Rattle.row_table.specs.declared.view.HeldRow.{HeldRow}
use Rattle.row_table.specs.declared.view.HandRow.{HandRow}
use Rattle.row_table.specs.Vacant.{all_entries}
use Rattle.row_table.specs.Rule.{Slot, Seat, view}
use Rattle.row_table.specs.Moves.{NotInHand}
use Rattle.row_table.specs.Openings.{MayOpen}

module _ {R : Type 0} where
  abbrev pub with_word : ℕ → ℕ → ℕ → HeldRow R → HeldRow R
  with_word row index word h = cond (nat_eq h.row row) (record h { words = slice_set h.words index word }) h

  -- The row that is linked counts as grabbed before the give that granted it, where the entry has been no link since the last give. Else it counts as grabbed now, and nothing was found in it.
  abbrev pub newly_linked : HeldRow R → ℕ → HeldRow R → HeldRow R
  newly_linked linker index h = record h { found = None; is_given = among linker.vacant index; vacant = cond (among linker.vacant index) all_entries [] }

  abbrev pub with_link : HeldRow R → ℕ → ℕ → HeldRow R → HeldRow R
  with_link linker index child h =
      cond (nat_eq h.row child) (newly_linked linker index h)
      (cond (nat_eq h.row linker.row) (record h { vacant = without index h.vacant }) h)

module _ {R B E : Type 0} where
  -- Set entry

  abbrev pub word_set : PassView R B E → ℕ → ℕ → ℕ → PassView R B E
  word_set v row index word = record v { rows = map (with_word row index word) v.rows }

  -- the row that the word links leaves the hand
  abbrev pub link_set : PassView R B E → HeldRow R → ℕ → ℕ → PassView R B E
  link_set v linker index word = record v {
    core = record v.core { granted = granted_after_entry word v.core.granted };
    rows = map (λ h. with_link linker index (link_row word) (with_word linker.row index word h)) v.rows;
    hand = filter (λ x. not (nat_eq x.row (link_row word))) v.hand;
  }

  abbrev pub entry_set : PassView R B E → HeldRow R → ℕ → ℕ → PassView R B E
  entry_set v linker index word = cond (is_link word) (link_set v linker index word) (word_set v linker.row index word)

  -- the word links an open row of the hand, which was set up with the position of the entry and the generation in the word
  pub record LinksHand (v : PassView R B E) (linker : HeldRow R) (index word : ℕ) : Type 0 where
    pub link : is_link word ≡ true
    pub child : HeldRow R
    pub is_open : Contains v.rows child
    pub child_row : child.row ≡ link_row word
    pub hand_row : HandRow
    pub granted : Contains v.hand hand_row
    pub same_row : hand_row.row ≡ link_row word
    pub place : child.place ≡ entry_place v.layout.levels linker.place index
    pub generation : hand_row.generation ≡ link_generation word

  -- the row is held and linked, the old word is no link, and the new one is 0, a leaf in a row of level 1, or such a link
  pub record MaySetEntry (v : PassView R B E) (row index word : ℕ) : Type 0 where
    pub linker : HeldRow R
    pub held : Contains v.rows linker
    pub same_row : linker.row ≡ row
    pub linked : NotInHand v row
    pub inside : index < 512
    pub old : is_link (slice_index linker.words index) ≡ false
    pub new : (word ≡ 0) ⊎ (((is_leaf word ≡ true) × (linker.place.level ≡ 1)) ⊎ LinksHand v linker index word)

  abbrev pub SetTells : Step (Slot R B) → Seat R B E → ℕ → Seat R B E → Type 0
  SetTells st m n m' = (row index : ℕ) (linker : HeldRow R) → index < 512 → st.word ≡ entry_at row index → Contains (view m).rows linker → linker.row ≡ row
      → (is_link st.first ≡ true → link_row st.first < (view m).layout.rows) × (m' ≡ (entry_set (view m) linker index st.first ∷ [], m.1))

  abbrev pub Sets : ℕ → ℕ → ℕ → PassView R B E → PassView R B E → Type 0
  Sets row index word v w = (linker : HeldRow R) → Contains v.rows linker → linker.row ≡ row → w ≡ entry_set v linker index word

  -- each row that could be opened and that the word does not link still can
  abbrev pub KeepsUnlinked : ℕ → PassView R B E → PassView R B E → Type 0
  KeepsUnlinked word v w = (r : ℕ) → (is_link word ≡ true → link_row word ≢ r) → MayOpen v r → MayOpen w r

  -- Unlink

  abbrev pub entry_cut : PassView R B E → HeldRow R → ℕ → PassView R B E
  entry_cut v linker index = record v {
    core = record v.core { unlinked = v.core.unlinked ++ newly_unlinked (link_row (slice_index linker.words index)) ∷ [] };
    rows = map (with_word linker.row index 0) v.rows;
  }

  -- the entry links a row that the pass holds and whose entries are 0
  pub record MayUnlink (v : PassView R B E) (row index : ℕ) : Type 0 where
    pub linker : HeldRow R
    pub held : Contains v.rows linker
    pub same_row : linker.row ≡ row
    pub inside : index < 512
    pub link : is_link (slice_index linker.words index) ≡ true
    pub child : HeldRow R
    pub child_held : Contains v.rows child
    pub child_row : child.row ≡ link_row (slice_index linker.words index)
    pub child_empty : (i : ℕ) → i < 512 → slice_index child.words i ≡ 0

  abbrev pub CutTells : Step (Slot R B) → Seat R B E → ℕ → Seat R B E → Type 0
  CutTells st m n m' = (row index : ℕ) (linker : HeldRow R) → index < 512 → st.word ≡ entry_at row index → Contains (view m).rows linker → linker.row ≡ row
      → m' ≡ (entry_cut (view m) linker index ∷ [], m.1)

  abbrev pub Unlinks : ℕ → ℕ → PassView R B E → PassView R B E → Type 0
  Unlinks row index v w = (linker : HeldRow R) → Contains v.rows linker → linker.row ≡ row → w ≡ entry_cut v linker index
