use Rattle.std.proofs.Common.{◌≡◌}
use Rattle.row_table.specs.Passes.{view_of, kit_of, table_of}
use Rattle.table_place.specs.declared.Place.{Place}
use Rattle.machine_plan.specs.Held.{ListHolds}
use Rattle.space_apply.specs.Copying.{LinksCopies, CopiesOwn, CopiesSome}
use Rattle.space_apply.proofs.copying.+link_below.Given as goal

abbrev pub decreases-link_below : goal.decreases-link_below
decreases-link_below g l = l.place.level

-- the tables below so many entries have their copies
abbrev pub invariant-loop-index : goal.invariant-loop-index
invariant-loop-index g l = record {
  table : table_of l.pass ≡ table_of l.fn.pass;
  same : kit_of l.pass ≡ kit_of l.fn.pass;
  room : l.held.room ≡ l.fn.held.room;
  kept : (p : Place) → ListHolds l.fn.held.rows p → ListHolds l.held.rows p;
  links : LinksCopies l.levels l.fn.held.room l.kit l.next (view_of l.fn.pass) l.fn.held.rows l.place l.space l.done (view_of l.pass) l.held.rows;
  own : CopiesOwn l.levels l.fn.held.room l.kit l.next (view_of l.fn.pass) l.fn.held.rows l.place l.space l.held.rows;
  copied : CopiesSome l.levels l.fn.held.room l.kit l.next (view_of l.fn.pass) l.fn.held.rows l.place l.space l.index l.held.rows;
}
