use Rattle.std.proofs.Common.{sym, ap, subst, refl}
use Rattle.row_table.specs.Passes.{view_of, layout_of}
use Rattle.machine_plan.specs.Books.{BookData}
use Rattle.machine_plan.specs.declared.kit.Kit.{Kit}
use Rattle.row_table.specs.Books.{IsGivable, Gives}
use Rattle.machine_plan.specs.Follows.{machine}
use Rattle.call_steps.specs.Given.{HasGiven}
use Rattle.call_steps.proofs.Committing.{may_detach_it}
use Rattle.call_steps.proofs.Gave.{has_d, givable, has_given, answered}
use Rattle.call_steps.proofs.NoPlace as full
use Rattle.call_steps.proofs.entering.enter.Goals as goal

pub detach-requires-clause-ready : goal.detach-requires-clause-ready
detach-requires-clause-ready c κs =
    let m = c.requires.may in (
      c.args.book,
      c.commit.new.self,
      c.args.thread,
      c.args.call,
      may_detach_it (layout_of c.args.iron.now) c.args.thread c.args.call m.0 (view_of c.args.pass.now) c.args.book c.args.held.now.rows c.args.kit.now m.1 c.commit.new.self c.commit.new.kit c.in-Ok.answered.reply c.in-Ok.ensures.commits,
    )

pub give-requires-clause-has : goal.give-requires-clause-has
give-requires-clause-has c κs =
    let m = c.requires.may in
    has_d (layout_of c.args.iron.now) c.args.thread c.args.call m.0 (view_of c.args.pass.now) c.args.book c.args.held.now.rows c.args.kit.now m.1 c.commit.new.self c.commit.new.kit c.in-Ok.answered.reply c.in-Ok.ensures.commits c.the_counts_of_a_book_are_those_of_its_state.ensures
    (view_of c.detach.new.pass) c.detach.new.held.rows c.detach.new.kit
    (c.detach.ensures.detaches c.args.book c.commit.new.self c.args.thread c.args.call (may_detach_it (layout_of c.args.iron.now) c.args.thread c.args.call m.0 (view_of c.args.pass.now) c.args.book c.args.held.now.rows c.args.kit.now m.1 c.commit.new.self c.commit.new.kit c.in-Ok.answered.reply c.in-Ok.ensures.commits))

pub give-requires-clause-may : goal.give-requires-clause-may
give-requires-clause-may c κs =
    let m = c.requires.may in
    givable (layout_of c.args.iron.now) c.args.thread c.args.call m.0 (view_of c.args.pass.now) c.args.book c.args.held.now.rows c.args.kit.now m.1 c.commit.new.self c.commit.new.kit c.in-Ok.answered.reply c.in-Ok.ensures.commits c.the_counts_of_a_book_are_those_of_its_state.ensures
    (view_of c.detach.new.pass) c.detach.new.held.rows c.detach.new.kit
    (c.detach.ensures.detaches c.args.book c.commit.new.self c.args.thread c.args.call (may_detach_it (layout_of c.args.iron.now) c.args.thread c.args.call m.0 (view_of c.args.pass.now) c.args.book c.args.held.now.rows c.args.kit.now m.1 c.commit.new.self c.commit.new.kit c.in-Ok.answered.reply c.in-Ok.ensures.commits))

pub returns-in-Ok-clause-given : goal.returns-in-Ok-clause-given
returns-in-Ok-clause-given c v m =
    has_given (layout_of c.args.iron.now) c.args.thread c.args.call v (view_of c.args.pass.now) c.args.book c.args.held.now.rows c.args.kit.now m c.commit.new.self c.commit.new.kit c.in-Ok.answered.reply c.in-Ok.ensures.commits c.the_counts_of_a_book_are_those_of_its_state.ensures
    (view_of c.detach.new.pass) c.detach.new.held.rows c.detach.new.kit
    (c.detach.ensures.detaches c.args.book c.commit.new.self c.args.thread c.args.call (may_detach_it (layout_of c.args.iron.now) c.args.thread c.args.call v (view_of c.args.pass.now) c.args.book c.args.held.now.rows c.args.kit.now m c.commit.new.self c.commit.new.kit c.in-Ok.answered.reply c.in-Ok.ensures.commits))
    (view_of c.give.new.self) c.give.ensures.gives c.rows.ensures.once

pub returns-in-Ok-clause-outcome : goal.returns-in-Ok-clause-outcome
returns-in-Ok-clause-outcome c v m =
    answered (layout_of c.args.iron.now) c.args.thread c.args.call v (view_of c.args.pass.now) c.args.book c.args.held.now.rows c.args.kit.now m c.commit.new.self c.commit.new.kit c.in-Ok.answered.reply c.in-Ok.ensures.commits c.the_counts_of_a_book_are_those_of_its_state.ensures
    (view_of c.detach.new.pass) c.detach.new.held.rows c.detach.new.kit
    (c.detach.ensures.detaches c.args.book c.commit.new.self c.args.thread c.args.call (may_detach_it (layout_of c.args.iron.now) c.args.thread c.args.call v (view_of c.args.pass.now) c.args.book c.args.held.now.rows c.args.kit.now m c.commit.new.self c.commit.new.kit c.in-Ok.answered.reply c.in-Ok.ensures.commits))
    (view_of c.give.new.self) c.give.ensures.gives c.rows.ensures.once c.in-Ok.answered refl c.in-Ok.ensures.ticket c.in-Ok.ensures.full

pub give-requires-in-Err-clause-may : goal.give-requires-in-Err-clause-may
give-requires-in-Err-clause-may c κs =
    let m = c.requires.may in
    subst (λ (b : BookData). IsGivable machine (layout_of c.args.iron.now) (view_of c.args.pass.now) b) (sym c.in-Err.ensures.same.0)
    (full.givable (layout_of c.args.iron.now) c.args.thread c.args.call m.0 (view_of c.args.pass.now) c.args.book c.args.held.now.rows c.args.kit.now m.1)

pub returns-in-Err-clause-given : goal.returns-in-Err-clause-given
returns-in-Err-clause-given c v m =
    subst (λ (kit : Kit). HasGiven (layout_of c.args.iron.now) c.args.thread c.args.call v (view_of c.give-in-Err.new.self) c.args.held.now.rows kit) (sym c.in-Err.ensures.same.1)
    (full.has_given (layout_of c.args.iron.now) c.args.thread c.args.call v (view_of c.args.pass.now) c.args.book c.args.held.now.rows c.args.kit.now m (view_of c.give-in-Err.new.self)
    (subst (λ (b : BookData). Gives machine (view_of c.args.pass.now) b (view_of c.give-in-Err.new.self)) c.in-Err.ensures.same.0 c.give-in-Err.ensures.gives))

pub returns-in-Err-clause-outcome : goal.returns-in-Err-clause-outcome
returns-in-Err-clause-outcome c v m =
    full.is_full (layout_of c.args.iron.now) c.args.thread c.args.call v (view_of c.args.pass.now) c.args.book c.args.held.now.rows c.args.kit.now m (view_of c.give-in-Err.new.self)
    (subst (λ (b : BookData). Gives machine (view_of c.args.pass.now) b (view_of c.give-in-Err.new.self)) c.in-Err.ensures.same.0 c.give-in-Err.ensures.gives) c.in-Err.ensures.full
