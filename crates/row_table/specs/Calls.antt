-- What the calls of a pass answer.
--     Grabs      a grab
use Rattle.std.specs.Prelude.{◌≡◌, ℕ, None}
use Rattle.table_place.specs.declared.Place.{Place}
use Rattle.walk_core.specs.Words.{held_by, stale}
use Rattle.row_table.specs.declared.answers.Grabbed.{Grabbed}
use Rattle.row_table.specs.declared.answers.Grabbed.TheVariants.{Got, Held, Stale}
use Rattle.row_table.specs.declared.view.PassView.{PassView}
use Rattle.row_table.specs.Known.{IsRight, IsKnownPlace, IsHolder, IsLoose}
use Rattle.row_table.specs.Moves.{looked, got, Finds}

module _ {R B E : Type 0} where
  -- a grab of the row
  abbrev pub Grabs : ℕ → PassView R B E → Grabbed R → PassView R B E → Type 0
  Grabs row v (Got x) w = (f : Finds row v) × (f.content ≡ x) × (w ≡ got v row f.place f.generation f.words x)
  Grabs row v (Held s) w = IsRight v × (place : Place) × IsKnownPlace v row place × IsHolder v row s × (w ≡ looked v row place None (held_by s))
  Grabs row v Stale w = IsRight v × (place : Place) × IsKnownPlace v row place × IsLoose v row × (w ≡ looked v row place None stale)
