-- What a caller is answered that wants a row.
--     Takes      one that a held row links
--     Peeks      one on which the pass stands, and that it gives back at once
use Rattle.std.specs.Prelude.{◌≡◌, ℕ, Result, Ok, Err, None}
use Rattle.table_place.specs.declared.Place.{Place}
use Rattle.walk_core.specs.Words.{held_by, stale}
use Rattle.row_table.specs.declared.view.PassView.{PassView}
use Rattle.row_table.specs.Known.{IsHolder, IsAnother, IsLoose}
use Rattle.row_table.specs.Moves.{looked, got, Finds}
use Rattle.row_uses.specs.declared.uses.Holder.{Holder}
use Rattle.row_uses.specs.declared.uses.Unseen.{Unseen}
use Rattle.row_uses.specs.declared.uses.Unseen.TheVariants.{Held, Stale}

module _ {R B E : Type 0} where
  -- The pass holds the row at this position, with the content that the grab found. Else that pass holds it, and the lock word is among the findings.
  abbrev pub Takes : PassView R B E → ℕ → Place → Result R Holder → PassView R B E → Type 0
  Takes v row place (Ok content) w = (f : Finds row v) × (f.content ≡ content) × (w ≡ got v row place f.generation f.words content)
  Takes v row place (Err holder) w = IsHolder v row holder.0 × (w ≡ looked v row place None (held_by holder.0))

  -- The content is the one that the grab found. Else another pass holds the row, or nobody may take it. The lock word is among the findings, and nothing else has changed:
  -- what the pass knows keeps no content of a row that it has given back.
  abbrev pub Peeks : PassView R B E → ℕ → Place → Result R Unseen → PassView R B E → Type 0
  Peeks v row place (Ok content) w = ((f : Finds row v) × (f.content ≡ content)) × (w ≡ looked v row place None 0)
  Peeks v row place (Err (Held holder)) w = IsAnother v holder × (w ≡ looked v row place None (held_by holder))
  Peeks v row place (Err Stale) w = IsLoose v row × (w ≡ looked v row place None stale)
