use Rattle.row_table.specs.Passes.{view_of, layout_of}
use Rattle.call_steps.proofs.Ended.{may_release_it, is_done, empty_kit}
use Rattle.call_steps.proofs.finishing.finish_transaction.Goals as goal

pub release_all-requires-clause-exact : goal.release_all-requires-clause-exact
release_all-requires-clause-exact c κs =
    let r = c.requires.given in
    (may_release_it (layout_of c.args.iron.now) r.1 r.2 r.0 (view_of c.args.pass.now) (view_of c.apply_or_undo.new.pass) c.args.held.now.rows c.apply_or_undo.new.held.rows c.args.kit.now c.apply_or_undo.new.kit r.3
    (c.apply_or_undo.ensures.applies r.3.a r.3.b r.1 r.2 r.3.applicable r.3.linkable r.4)).1

pub release_all-requires-clause-each : goal.release_all-requires-clause-each
release_all-requires-clause-each c κs =
    let r = c.requires.given in
    (may_release_it (layout_of c.args.iron.now) r.1 r.2 r.0 (view_of c.args.pass.now) (view_of c.apply_or_undo.new.pass) c.args.held.now.rows c.apply_or_undo.new.held.rows c.args.kit.now c.apply_or_undo.new.kit r.3
    (c.apply_or_undo.ensures.applies r.3.a r.3.b r.1 r.2 r.3.applicable r.3.linkable r.4)).0

pub returns-clause-done : goal.returns-clause-done
returns-clause-done c =
    let r = c.requires.given in
    is_done (layout_of c.args.iron.now) r.1 r.2 r.0 (view_of c.args.pass.now) (view_of c.apply_or_undo.new.pass) c.args.held.now.rows c.apply_or_undo.new.held.rows c.args.kit.now c.apply_or_undo.new.kit r.3
    (c.apply_or_undo.ensures.applies r.3.a r.3.b r.1 r.2 r.3.applicable r.3.linkable r.4) (view_of c.release_all.new.pass) c.release_all.ensures.releases

pub returns-clause-kit : goal.returns-clause-kit
returns-clause-kit c =
    let r = c.requires.given in
    empty_kit (layout_of c.args.iron.now) r.1 r.2 r.0 (view_of c.args.pass.now) (view_of c.apply_or_undo.new.pass) c.args.held.now.rows c.apply_or_undo.new.held.rows c.args.kit.now c.apply_or_undo.new.kit r.3
    (c.apply_or_undo.ensures.applies r.3.a r.3.b r.1 r.2 r.3.applicable r.3.linkable r.4)
