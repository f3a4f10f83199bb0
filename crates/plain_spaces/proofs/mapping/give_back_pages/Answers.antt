use Rattle.std.proofs.Common.{sym, subst, ◌∙◌}
use Rattle.plain_counts.specs.Counts.{Follow}
use Rattle.plain_spaces.specs.Numbers.{AreCarried, LeaveAll}
use Rattle.plain_spaces.proofs.Released.{range_is_carried, range_given_back}
use Rattle.plain_spaces.proofs.mapping.give_back_pages.Goals as goal

pub give_up_all-requires : goal.give_up_all-requires
give_up_all-requires c =
    subst (λ l. AreCarried l c.args.counts.now) (sym (c.deref.ensures.value ∙ c.in_ok-released.ensures.released))
    (range_is_carried c.args.cells.now c.args.first c.args.count c.args.counts.now c.requires.counted)

pub returns-clause-counts : goal.returns-clause-counts
returns-clause-counts c =
    subst (Follow c.args.counts.now c.give_up_all.new.counts c.args.cells.now) (sym c.in_ok-released.ensures.ok)
    (range_given_back c.args.cells.now c.args.first c.args.count c.args.counts.now c.give_up_all.new.counts
    (subst (λ l. LeaveAll l c.args.counts.now c.give_up_all.new.counts) (c.deref.ensures.value ∙ c.in_ok-released.ensures.released) c.give_up_all.ensures))
