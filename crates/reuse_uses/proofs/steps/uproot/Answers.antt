use Rattle.row_table.specs.Passes.{view_of}
use Rattle.reuse_uses.proofs.Roots.{may_cut_one, may_mark_held, may_mark_unlinked, marked_one}
use Rattle.reuse_uses.proofs.steps.uproot.Goals as goal

pub unlink-requires-clause-guard : goal.unlink-requires-clause-guard
unlink-requires-clause-guard c κs = let v = view_of c.args.pass in may_cut_one v v v c.args.row c.requires.graft

pub mark_stale-requires-clause-held : goal.mark_stale-requires-clause-held
mark_stale-requires-clause-held c κs = let v = view_of c.unlink.new.self in may_mark_held _ v v c.args.row c.requires.graft c.unlink.ensures.unlinks

pub mark_stale-requires-clause-unlinked : goal.mark_stale-requires-clause-unlinked
mark_stale-requires-clause-unlinked c κs = let v = view_of c.unlink.new.self in may_mark_unlinked _ v v c.args.row c.requires.graft c.unlink.ensures.unlinks

pub returns-clause-root : goal.returns-clause-root
returns-clause-root c = marked_one _ _ _ c.args.row c.requires.graft c.unlink.ensures.unlinks c.mark_stale.ensures.marks
