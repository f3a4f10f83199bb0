use Rattle.row_table.specs.Passes.{view_of}
use Rattle.tree_lock.proofs.Emptying.{may_release}
use Rattle.tree_lock.proofs.release.release_last.Goals as goal

pub release-requires-clause-linked : goal.release-requires-clause-linked
release-requires-clause-linked g c κs within =
    (may_release g.P.Plan.meaning c.args.place c.remove-row.result c.args.held.now.rows c.remove-row.new.self.rows (view_of c.args.pass.now) c.remove-row.ensures.removed c.requires.each).0

pub release-requires-clause-fits : goal.release-requires-clause-fits
release-requires-clause-fits g c κs within =
    (may_release g.P.Plan.meaning c.args.place c.remove-row.result c.args.held.now.rows c.remove-row.new.self.rows (view_of c.args.pass.now) c.remove-row.ensures.removed c.requires.each).1

pub returns-clause-releases : goal.returns-clause-releases
returns-clause-releases g c = record { row = c.remove-row.result; removed = c.remove-row.ensures.removed; now = c.release.ensures.releases }
