use Rattle.std.proofs.Common.{subst}
use Rattle.std.specs.declared.ops.Bound.TheVariants.{Unbounded}
use Rattle.std.specs.BTreeSet.{IsKeyRangeOf}
use Rattle.pageout.specs.Index.{owner_cmp}
use Rattle.pageout.proofs.Others.{no_owner, next_owner, past_owners}
use Rattle.pageout.proofs.marks.Marks.owner_behind.Goals as goal

pub returns-in_default-clause-none : goal.returns-in_default-clause-none
returns-in_default-clause-none c =
    let range = subst (λ b. IsKeyRangeOf owner_cmp b Unbounded c.args.self.now.by_frame c.range.result) c.first_behind.ensures (c.range.ensures.in_range tt) in
    no_owner c.args.self.now c.args.frame c.args.behind c.range.result range c.in_default.ensures.steps.0

pub returns-then-owner-frame-clause-some : goal.returns-then-owner-frame-clause-some
returns-then-owner-frame-clause-some c =
    let range = subst (λ b. IsKeyRangeOf owner_cmp b Unbounded c.args.self.now.by_frame c.range.result) c.first_behind.ensures (c.range.ensures.in_range tt) in
    next_owner c.args.self.now c.args.frame c.args.behind c.range.result range c.in-Some.owner.now _ c.in-Some.ensures.steps c.if-owner-frame.true

pub returns-else-owner-frame-clause-none : goal.returns-else-owner-frame-clause-none
returns-else-owner-frame-clause-none c =
    let range = subst (λ b. IsKeyRangeOf owner_cmp b Unbounded c.args.self.now.by_frame c.range.result) c.first_behind.ensures (c.range.ensures.in_range tt) in
    past_owners c.args.self.now c.args.frame c.args.behind c.range.result range c.in-Some.owner.now _ c.in-Some.ensures.steps c.if-owner-frame.false
