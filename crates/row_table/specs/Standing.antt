-- Where passes stand.
--     StandsTrue      the row of a stand is there, and its position word and its generation word are those of the stand
--     StandTrue      the same of every pass of every seat that stands on a row
use Rattle.std.specs.Prelude.{◌≡◌, ℕ, ◌<◌, List, Some}
use Rattle.std.specs.List.{Contains}
use Rattle.walk_core.specs.declared.pass.Stand.{Stand}
use Rattle.row_layout.specs.declared.places.Layout.{Layout}
use Rattle.row_table.specs.declared.view.PassView.{PassView}
use Rattle.row_table.specs.Rows.{place_at, generation_of}
use Rattle.row_table.specs.Rule.{Table}

pub record StandsTrue (k : Layout) (words : List ℕ) (stand : Stand) : Type 0 where
  pub there : stand.row < k.rows
  pub place : place_at words stand.row ≡ stand.place
  pub generation : generation_of words stand.row ≡ stand.generation

abbrev pub StandTrue : {R B E : Type 0} → Layout → Table R B E → Type 0
StandTrue {R} {B} {E} k s = (seat : List (PassView R B E)) → Contains s.views seat → (v : PassView R B E) → Contains seat v → (stand : Stand) → v.core.stand ≡ Some stand → StandsTrue k s.words stand
