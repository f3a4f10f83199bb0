use Rattle.std.proofs.Common.{sym, ◌∙◌}
use Rattle.pageout.specs.Index.{mark_at}
use Rattle.pageout.proofs.Orders.{one_key}
use Rattle.pageout.proofs.Others.{then_other}
use Rattle.pageout.proofs.marks.Marks.other_behind.Goals as goal

pub returns-in-Some-clause-some : goal.returns-in-Some-clause-some
returns-in-Some-clause-some c =
    then_other (mark_at c.args.self.now) c.args.frame c.args.but c.args.behind c.in-Some.key c.owner_behind-in-Some.result c.in-Some.ensures.some
    (one_key c.in-Some.key c.args.but (sym c.eq.ensures ∙ c.if-eq.true)) c.owner_behind-in-Some.ensures.some
