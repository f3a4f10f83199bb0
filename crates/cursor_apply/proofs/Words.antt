-- The words beside cells that are no links.
--     made_small      a cell whose frame fits a leaf, after a change
--     word_fits, word_no_link, word_spells      its word
--     spelled_no_link      the word of any such cell
use Rattle.std.specs.Prelude.{◌≡◌, ℕ, ◌<◌, ◌⊎◌, Bool, true, false, ◌&&◌, if◌then◌else◌}
use Rattle.std.proofs.Common.{sym, refl, ◌∙◌, ap, inl, inr}
use Rattle.std.proofs.lemmas.Bool.{true≢false, false≢true}
use Rattle.corten_base.specs.declared.permissions.Perm.{Perm}
use Rattle.corten_base.specs.declared.calls.Backing.{Backing}
use Rattle.corten_base.specs.declared.calls.Backing.TheVariants as backing
use Rattle.page_map.specs.State.{State}
use Rattle.pte_word.proofs.Readings.{leaf_reading}
use Rattle.row_cells.specs.declared.Cell.{Cell}
use Rattle.row_cells.specs.declared.Cell.TheVariants.{Invalid, Table, Anon, File, Mapped, Swapped}
use Rattle.walk_core.specs.Words.{is_link, is_leaf, leaf_word}
use Rattle.walk_core.proofs.Spellings.{zero_no_link, leaf_no_link}
use Rattle.machine_plan.specs.Agrees.{IsLeafOf, Spells}
use Rattle.machine_plan.specs.HeldRows.{is_table}
use Rattle.cursor_detach.specs.Left.{came_from, drawn_cell}
use Rattle.cursor_apply.specs.declared.becoming.Making.{Making}
use Rattle.cursor_apply.specs.declared.becoming.Making.TheVariants.{Back, Clear, Permit, GiveBack}
use Rattle.cursor_apply.specs.Changing.{mark_from, permitted, cell_made, word_made, IsSmall}

mark_small : (backing : Backing) (perm : Perm) (behind : ℕ) → IsSmall (mark_from backing perm behind)
mark_small backing.Zero perm behind = tt
mark_small (backing.File file index) perm behind = tt

origin_small : (origin : Backing) (perm : Perm) → IsSmall (came_from origin perm)
origin_small backing.Zero perm = tt
origin_small (backing.File file index) perm = tt

pub made_small : (making : Making) (behind : ℕ) (cell : Cell) → IsSmall cell → IsSmall (cell_made making behind cell)
made_small (Back perm backing) behind cell small = mark_small backing perm behind
made_small Clear behind cell small = tt
made_small (Permit perm) behind Invalid small = tt
made_small (Permit perm) behind Table small = tt
made_small (Permit perm) behind (Anon old) small = tt
made_small (Permit perm) behind (File old file index) small = tt
made_small (Permit perm) behind (Mapped old origin frame) small = small
made_small (Permit perm) behind (Swapped old origin slot) small = tt
made_small GiveBack behind Invalid small = tt
made_small GiveBack behind Table small = tt
made_small GiveBack behind (Anon old) small = tt
made_small GiveBack behind (File old file index) small = tt
made_small GiveBack behind (Mapped old origin frame) small = origin_small origin old
made_small GiveBack behind (Swapped old origin slot) small = origin_small origin old

mark_no_table : (backing : Backing) (perm : Perm) (behind : ℕ) → is_table (mark_from backing perm behind) ≡ false
mark_no_table backing.Zero perm behind = refl
mark_no_table (backing.File file index) perm behind = refl

origin_no_table : (origin : Backing) (perm : Perm) → is_table (came_from origin perm) ≡ false
origin_no_table backing.Zero perm = refl
origin_no_table (backing.File file index) perm = refl

-- a change makes no link
pub made_no_table : (making : Making) (behind : ℕ) (cell : Cell) → is_table cell ≡ false → is_table (cell_made making behind cell) ≡ false
made_no_table (Back perm backing) behind cell none = mark_no_table backing perm behind
made_no_table Clear behind cell none = refl
made_no_table (Permit perm) behind Invalid none = refl
made_no_table (Permit perm) behind Table none = none
made_no_table (Permit perm) behind (Anon old) none = refl
made_no_table (Permit perm) behind (File old file index) none = refl
made_no_table (Permit perm) behind (Mapped old origin frame) none = refl
made_no_table (Permit perm) behind (Swapped old origin slot) none = refl
made_no_table GiveBack behind Invalid none = refl
made_no_table GiveBack behind Table none = none
made_no_table GiveBack behind (Anon old) none = refl
made_no_table GiveBack behind (File old file index) none = refl
made_no_table GiveBack behind (Mapped old origin frame) none = origin_no_table origin old
made_no_table GiveBack behind (Swapped old origin slot) none = origin_no_table origin old

leaf_fits : (frame : ℕ) (write exec : Bool) → frame < 4096 → is_leaf (leaf_word frame write exec) ≡ true
leaf_fits frame write exec small = ((leaf_reading frame write exec (leaf_word frame write exec)).0 (small, refl)).0

pub word_fits : (cell : Cell) → IsSmall cell → (word_made cell ≡ 0) ⊎ (is_leaf (word_made cell) ≡ true)
word_fits Invalid small = inl refl
word_fits Table small = inl refl
word_fits (Anon perm) small = inl refl
word_fits (File perm file index) small = inl refl
word_fits (Swapped perm origin slot) small = inl refl
word_fits (Mapped perm origin frame) small = go perm.read
  where
    go : (read : Bool) → ((if read then leaf_word frame.number (false && perm.write) perm.exec else 0) ≡ 0) ⊎ (is_leaf (if read then leaf_word frame.number (false && perm.write) perm.exec else 0) ≡ true)
    go true = inr (leaf_fits frame.number (false && perm.write) perm.exec small)
    go false = inl refl

pub word_no_link : (cell : Cell) → IsSmall cell → is_link (word_made cell) ≡ false
word_no_link cell small = elim (word_fits cell small) [
  | inl none ↦ ap is_link none ∙ zero_no_link
  | inr leaf ↦ leaf_no_link (word_made cell) leaf
]

pub word_spells : (st : State) (cell : Cell) → is_table cell ≡ false → Spells st cell (word_made cell)
word_spells st Invalid none = refl
word_spells st Table none = absurd (true≢false none)
word_spells st (Anon perm) none = refl
word_spells st (File perm file index) none = refl
word_spells st (Swapped perm origin slot) none = refl
word_spells st (Mapped perm origin frame) none = record {
  unread = λ e. ap (λ (read : Bool). if read then leaf_word frame.number (false && perm.write) perm.exec else 0) e;
  read = λ e. (false, ap (λ (read : Bool). if read then leaf_word frame.number (false && perm.write) perm.exec else 0) e, λ never. absurd (false≢true never));
}

pub spelled_no_link : (st : State) (cell : Cell) (word : ℕ) → is_table cell ≡ false → IsSmall cell → Spells st cell word → is_link word ≡ false
spelled_no_link st Invalid word none small spells = ap is_link spells ∙ zero_no_link
spelled_no_link st Table word none small spells = absurd (true≢false none)
spelled_no_link st (Anon perm) word none small spells = ap is_link spells ∙ zero_no_link
spelled_no_link st (File perm file index) word none small spells = ap is_link spells ∙ zero_no_link
spelled_no_link st (Swapped perm origin slot) word none small spells = ap is_link spells ∙ zero_no_link
spelled_no_link st (Mapped perm origin frame) word none small spells = go perm.read refl
  where
    go : (read : Bool) → perm.read ≡ read → is_link word ≡ false
    go true e = let leaf = spells.read e in leaf_no_link word (ap is_leaf leaf.1 ∙ leaf_fits frame.number leaf.0 perm.exec small)
    go false e = ap is_link (spells.unread e) ∙ zero_no_link
