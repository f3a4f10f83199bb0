use Rattle.std.proofs.Common.{refl}
use Rattle.pageout.proofs.Stepping.{start_ages}
use Rattle.pageout.proofs.ages.Ages.new.Goals as goal

pub returns : goal.returns
returns c = start_ages c.args.limits c.args.shelf _ c.requires c.in_ok-plain.ensures.ok refl c.no_work.ensures c.new-2.ensures
