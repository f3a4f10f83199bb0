-- A call whose range stays lets it grow, or leaves it no longer than it was.
--     longer_is      the change tells which
--     is_growable, is_shorter      either way
use Rattle.std.specs.Prelude.{◌≡◌, ℕ, ◌≤◌, true, false, nat_lt, List, slice_index_or}
use Rattle.std.proofs.Common.{◌∙◌, ap}
use Rattle.std.proofs.lemmas.Bool.{ltb-true, ltb-false}
use Rattle.row_cells.specs.declared.Cell.{Cell}
use Rattle.row_table.specs.declared.view.PassView.{PassView}
use Rattle.table_place.specs.Place.{pages_of}
use Rattle.machine_plan.specs.declared.kit.Change.{Change}
use Rattle.machine_plan.specs.declared.kit.Kit.{Kit}
use Rattle.machine_plan.specs.Books.{BookData}
use Rattle.machine_plan.specs.HeldRows.{Row}
use Rattle.move_apply.specs.Growing.{IsGrowable}
use Rattle.move_apply.specs.Staying.{gets_longer, IsStaying}
use Rattle.move_apply.proofs.Shrunk.{first_change}

module _ {B E : Type 0} (a b : BookData) (thread space at old_len new_len : ℕ) (v : PassView (List Cell) B E) (rows : List Row) (kit : Kit) (is : IsStaying a b thread space at old_len new_len v rows kit) where
  pub longer_is : (found : List Change) (d : Change) → found ≡ kit.changes.items → gets_longer (slice_index_or found 0 d) ≡ nat_lt (pages_of old_len) (pages_of new_len)
  longer_is found d same = ap (λ (l : List Change). gets_longer (slice_index_or l 0 d)) same ∙ ap gets_longer (first_change a b thread space at old_len new_len v rows kit is.resizable d)

  pub is_growable : nat_lt (pages_of old_len) (pages_of new_len) ≡ true → IsGrowable a b thread space at old_len new_len v rows kit
  is_growable e = record { more = ltb-true (pages_of old_len) (pages_of new_len) e; stays = is.stays; resizable = is.resizable; cover = is.cover }

  pub is_shorter : nat_lt (pages_of old_len) (pages_of new_len) ≡ false → pages_of new_len ≤ pages_of old_len
  is_shorter e = ltb-false (pages_of old_len) (pages_of new_len) e
