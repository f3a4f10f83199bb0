use Rattle.std.proofs.Common.{◌-◌, sym, subst, ◌∙◌}
use Rattle.plain_counts.specs.Counts.{Follow}
use Rattle.plain_spaces.specs.Numbers.{AreCarried, LeaveAll}
use Rattle.plain_spaces.proofs.Released.{range_is_carried, range_left, no_numbers}
use Rattle.plain_spaces.proofs.mapping.map_pages.Goals as goal

pub give_up_all-requires : goal.give_up_all-requires
give_up_all-requires c =
    subst (λ l. AreCarried l c.args.counts.now) (sym (c.deref.ensures.value ∙ c.in_ok-released.ensures.released))
    (range_is_carried c.args.cells.now c.args.run.first c.args.run.count c.args.counts.now c.requires.counted)

pub returns-clause-counts : goal.returns-clause-counts
returns-clause-counts c =
    subst (Follow c.args.counts.now c.give_up_all.new.counts c.args.cells.now) (sym c.in_ok-released.ensures.ok)
    (range_left c.args.cells.now c.args.run.first c.args.run.count _ (λ q n o. no_numbers c.args.run.mark.backing c.args.run.mark.perm (q - c.args.run.first) n) c.args.counts.now c.give_up_all.new.counts
    (subst (λ l. LeaveAll l c.args.counts.now c.give_up_all.new.counts) (c.deref.ensures.value ∙ c.in_ok-released.ensures.released) c.give_up_all.ensures))
