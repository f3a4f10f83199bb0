use Rattle.row_table.specs.Passes.{view_of}
use Rattle.tree_lock.proofs.Retries.{free_of, idle_still, idle_again}
use Rattle.cover_uses.proofs.waiting_tests.covered.Goals as goal

pub cover-requires-clause-free : goal.cover-requires-clause-free
cover-requires-clause-free g c κs within = free_of _ c.requires.idle

pub returns-in-Ok-clause-idle : goal.returns-in-Ok-clause-idle
returns-in-Ok-clause-idle g c = idle_again _ c.args.zone.now _ _ _ _ c.in-Ok.ensures.waits.1 c.release_all.ensures.releases c.requires.idle

pub returns-in-Err-clause-idle : goal.returns-in-Err-clause-idle
returns-in-Err-clause-idle g c = idle_still (view_of c.args.pass.now) (view_of c.cover.new.pass) c.in-Err.ensures.waits.0.1 c.requires.idle
