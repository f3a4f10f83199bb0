use Rattle.row_table.specs.Passes.{view_of}
use Rattle.cursor_detach.proofs.Positions.{index_inside}
use Rattle.cursor_detach.proofs.OneCut.{may_empty, may_unlink, is_held, is_unlinked, has_cut, place_is}
use Rattle.cursor_detach.proofs.cutting.cut.Goals as goal

pub empty_row-requires-clause-may : goal.empty_row-requires-clause-may
empty_row-requires-clause-may g c κs within = let m = c.requires.may in
    may_empty c.args.levels c.args.at m.0 c.args.held.now.rows (view_of c.args.pass.now) m.1 c.remove-row.result c.remove-row.new.self.rows c.remove-row.ensures.removed

pub unlink_row-requires-clause-may : goal.unlink_row-requires-clause-may
unlink_row-requires-clause-may g c κs within = let m = c.requires.may in let r = c.remove-row.result in
    let placed = place_is c.args.levels c.args.at m.0 c.args.held.now.rows (view_of c.args.pass.now) m.1 r c.remove-row.new.self.rows c.remove-row.ensures.removed in
    may_unlink c.args.levels c.args.at m.0 c.args.held.now.rows (view_of c.args.pass.now) m.1 r c.remove-row.new.self.rows c.remove-row.ensures.removed (view_of c.empty_row.new.pass) c.empty_row.ensures.empties
    (index_inside c.args.levels r.place placed)

pub mark_stale-requires-clause-held : goal.mark_stale-requires-clause-held
mark_stale-requires-clause-held g c κs within = let m = c.requires.may in
    is_held c.args.levels c.args.at m.0 c.args.held.now.rows (view_of c.args.pass.now) m.1 c.remove-row.result c.remove-row.new.self.rows c.remove-row.ensures.removed (view_of c.empty_row.new.pass) c.empty_row.ensures.empties
    c.unlink_row.new.held.rows (view_of c.unlink_row.new.pass) c.unlink_row.ensures.unlinks

pub mark_stale-requires-clause-unlinked : goal.mark_stale-requires-clause-unlinked
mark_stale-requires-clause-unlinked g c κs within = let m = c.requires.may in
    is_unlinked c.args.levels c.args.at m.0 c.args.held.now.rows (view_of c.args.pass.now) m.1 c.remove-row.result c.remove-row.new.self.rows c.remove-row.ensures.removed (view_of c.empty_row.new.pass) c.empty_row.ensures.empties
    c.unlink_row.new.held.rows (view_of c.unlink_row.new.pass) c.unlink_row.ensures.unlinks

pub returns-clause-cuts : goal.returns-clause-cuts
returns-clause-cuts g c = let m = c.requires.may in
    has_cut c.args.levels c.args.at m.0 c.args.held.now.rows (view_of c.args.pass.now) m.1 c.remove-row.result c.remove-row.new.self.rows c.remove-row.ensures.removed (view_of c.empty_row.new.pass) c.empty_row.ensures.empties
    c.unlink_row.new.held.rows (view_of c.unlink_row.new.pass) c.unlink_row.ensures.unlinks (view_of c.mark_stale.new.self) c.args.kit.now.gone.items c.push_reserved.new.self.items c.mark_stale.ensures.marks c.push_reserved.ensures.items
