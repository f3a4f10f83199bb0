-- What the words show of the rows that passes hold.
use Rattle.std.proofs.Common.{◌≡◌}
use mathlib.Core.Option.{some}
use lib.ListN.{get_elem?}
use Rattle.row_layout.specs.declared.places.Layout.{Layout}
use Rattle.row_table.specs.Plan.{Meaning}
use Rattle.row_table.specs.Rule.{Table, Holds}
use Rattle.row_table.specs.Holding.{RowsTrue, RowsShown}
use Rattle.row_table.proofs.Views.{has_held, held_of_row, is_linked}
use Rattle.row_table.proofs.Tree.{linked_reached}
use Rattle.row_table.proofs.End.{contained_at}

pub rows_true : {R B E : Type 0} (M : Meaning R B E) (k : Layout) (first : B) (s : Table R B E) → Holds M k first s → RowsTrue k s
rows_true M k first s h seat in_views v in_seat x held =
    let j = contained_at s.views seat in_views in let i = contained_at seat v in_seat in
    let mine : get_elem? h.passes v.number ≡ some v = (h.seats j.0 seat j.1 i.0 v i.1).0 in
    let know = (h.knows v.number v mine).rows x held in let has = held_of_row M k first s h v mine x held in record {
      there = know.there;
      locked = (h.good.locks.rows.held v.number x.row (has_held M k first s h v mine x.row has)).shown;
      place = know.place;
      generation = know.generation;
      words_are = know.shown;
      reached = λ out. linked_reached h.good x.row (is_linked M k first s h v mine x.row has out);
    }

pub rows_shown : {R B E : Type 0} (M : Meaning R B E) (k : Layout) (first : B) (s : Table R B E) → Holds M k first s → RowsShown s
rows_shown M k first s h seat in_views v in_seat =
    let j = contained_at s.views seat in_views in let i = contained_at seat v in_seat in (h.knows v.number v (h.seats j.0 seat j.1 i.0 v i.1).0).held
