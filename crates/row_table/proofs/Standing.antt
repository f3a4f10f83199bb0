-- Passes stand on the rows that they came to.
use Rattle.std.proofs.Common.{◌≡◌, ap, ◌∙◌}
use mathlib.Core.Option.{some}
use lib.ListN.{get_elem?}
use Rattle.walk_core.specs.declared.pass.PassCore.{PassCore}
use Rattle.row_layout.specs.declared.places.Layout.{Layout}
use Rattle.row_table.specs.Plan.{Meaning}
use Rattle.row_table.specs.Rule.{Table, Holds}
use Rattle.row_table.specs.Standing.{StandTrue}
use Rattle.row_table.proofs.Views.{pass_is}
use Rattle.row_table.proofs.End.{contained_at}

pub stand_true : {R B E : Type 0} (M : Meaning R B E) (k : Layout) (first : B) (s : Table R B E) → Holds M k first s → StandTrue k s
stand_true M k first s h seat in_views v in_seat stand is =
    let j = contained_at s.views seat in_views in let i = contained_at seat v in_seat in
    let mine : get_elem? h.passes v.number ≡ some v = (h.seats j.0 seat j.1 i.0 v i.1).0 in
    let true_now = h.good.stands.stand v.number stand (ap (λ (u : PassCore). u.stand) (pass_is M k first s h v mine) ∙ is) in
    record { there = true_now.there; place = true_now.place; generation = true_now.generation }
