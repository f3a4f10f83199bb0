use Rattle.std.proofs.Common.{◌∙◌}
use Rattle.mm_txn.specs.Machines.{model_of}
use Rattle.mm_txn.specs.Txns.{txn_of}
use Rattle.mm_txn.proofs.Leaving.{exact, given_none, given_some}
use Rattle.mm_txn.proofs.txn.Txn.abandon.Goals as goal

pub put_kit-requires-after_bounds : goal.put_kit-requires-after_bounds
unfolding txn_of
put_kit-requires-after_bounds c κs = c.requires.no_kit

pub returns-in_default : goal.returns-in_default
unfolding txn_of
returns-in_default c = given_none (txn_of c.args.self).held c.requires c.put_kit.new.self c.in_default.is c.put_kit.ensures.kit c.put_kit.ensures.same

pub release_all-requires-clause-table : goal.release_all-requires-clause-table
unfolding txn_of model_of
release_all-requires-clause-table c κs = c.requires.member

pub release_all-requires-clause-exact : goal.release_all-requires-clause-exact
unfolding txn_of
release_all-requires-clause-exact c κs = exact (txn_of c.args.self).held c.requires c.in-Some.field-0 c.in-Some.is

pub release_all-requires-clause-each : goal.release_all-requires-clause-each
unfolding txn_of
release_all-requires-clause-each c κs = c.requires.release

pub put_kit-requires-2-after_bounds : goal.put_kit-requires-2-after_bounds
unfolding txn_of
put_kit-requires-2-after_bounds c κs = c.release_all.ensures.same ∙ c.requires.no_kit

pub returns : goal.returns
unfolding txn_of
returns c = given_some (txn_of c.args.self).held c.requires c.put_kit-2.new.self c.release_all.new.pass c.release_all.new.held c.release_all.ensures.table c.release_all.ensures.empty c.release_all.ensures.releases c.put_kit-2.ensures.kit c.put_kit-2.ensures.same
