use Rattle.tree_lock.proofs.Toppings.{shows_here}
use Rattle.tree_lock.proofs.descent.look_there.Goals as goal

pub returns-in-Here-clause-shows : goal.returns-in-Here-clause-shows
returns-in-Here-clause-shows g c = shows_here c.args.levels _ c.args.at c.args.way c.requires.stand c.in-Here.is
