use Rattle.std.proofs.Common.{◌++◌, ◌∷◌, [], List, map, ap, ◌∙◌}
use mathlib.Core.Option.{some}
use lib.ListN.{get_elem?}
use Rattle.row_table.specs.declared.rooms.Rooms.{Rooms}
use Rattle.row_table.proofs.rooms.store.Goals as goal

pub new-requires : goal.new-requires
new-requires g c = (
  c.in_ok-rooms.rooms,
  ap (λ (l : List (Rooms g.row.R.Denot)). get_elem? (map some l) 0) (c.in_ok-push.ensures.items ∙ ap (λ (l : List (Rooms g.row.R.Denot)). l ++ c.in_ok-rooms.rooms ∷ []) c.in_ok-slots.ensures.items),
  c.in_ok-rooms.ensures,
)
