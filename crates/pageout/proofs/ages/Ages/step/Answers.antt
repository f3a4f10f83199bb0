use Rattle.std.proofs.Common.{◌+◌, ◌≤◌, refl, sym, subst, arith}
use Rattle.page_map.specs.State.{State, linked}
use Rattle.pageout.proofs.Stepping.{same_ages, next_ages}
use Rattle.pageout.proofs.ages.Ages.step.Goals as goal

pub returns-clause-history : goal.returns-clause-history
returns-clause-history c limits files es short shown was =
    let mid = same_ages limits files es c.args.self.now c.settle.new.self c.in_ok-settle.ensures.same was in
    same_ages limits files _ _ c.settle-2.new.self c.settle-2.ensures.same
    (next_ages limits files es c.settle.new.self _ c.args.thread c.args.limbo c.args.self.now.place c.args.call.now c.in_ok-reply.reply mid c.in_ok-settle.ensures.ok c.requires.thread c.requires.served
    (subst (λ (st : State). linked st + c.args.limbo ≤ st.limits.tables) (sym c.in_ok-settle.ensures.same.plain) (c.if-not-has_room.ensures.0 refl)) shown c.in_ok-reply.ensures.ok refl c.work_of-self.ensures
    (omega (arith, c.saturating_add-self.ensures, mid.place, short)))
