-- What holds of epoch words and of rows that are used again.
--     EpochsTrue      the epoch word of each pass is the number that it knows, and odd while it is inside
--     NoneStands      no pass stands on one of these rows
--     NoneRead      no pass stands on a row that a give may sweep
use Rattle.std.specs.Prelude.{◌≡◌, ℕ, ◌%◌, List, slice_index, Some}
use Rattle.std.specs.List.{Contains}
use Rattle.walk_core.specs.declared.pass.Stand.{Stand}
use Rattle.walk_core.specs.Words.{epoch_at}
use Rattle.walk_core.specs.Lists.{times}
use Rattle.walk_core.specs.Good.{inside}
use Rattle.row_layout.specs.declared.places.Layout.{Layout}
use Rattle.row_table.specs.declared.view.PassView.{PassView}
use Rattle.row_table.specs.Plan.{Meaning}
use Rattle.row_table.specs.Rule.{Table}
use Rattle.row_table.specs.Books.{swept_rows, MayGive}

module _ {R B E : Type 0} where
  abbrev pub EpochsTrue : Layout → Table R B E → Type 0
  EpochsTrue k s = (seat : List (PassView R B E)) → Contains s.views seat → (v : PassView R B E) → Contains seat v
      → (slice_index s.words (epoch_at k.rows v.number) ≡ v.epoch) × (v.epoch % 2 ≡ inside v.core.stand)

  abbrev pub NoneStands : Table R B E → List ℕ → Type 0
  NoneStands s rows = (seat : List (PassView R B E)) → Contains s.views seat → (v : PassView R B E) → Contains seat v → (stand : Stand) → v.core.stand ≡ Some stand → times stand.row rows ≡ 0

  -- the pass that has the book got it in the first form, and may give it in the second
  abbrev pub NoneRead : Meaning R B E → Layout → Table R B E → Type 0
  NoneRead M k s = (seat : List (PassView R B E)) → Contains s.views seat → (v : PassView R B E) → Contains seat v
      → (old new : B) → v.found ≡ Some old → MayGive M k v old new → NoneStands s (swept_rows M old new)
