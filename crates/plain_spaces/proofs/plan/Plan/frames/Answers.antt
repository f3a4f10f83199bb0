use Rattle.std.proofs.Common.{◌+◌, cond, sym, ap, ◌∙◌}
use Rattle.plain_spaces.proofs.Plans.{count_wanting}
use Rattle.plain_spaces.proofs.plan.Plan.frames.Goals as goal

pub returns : goal.returns
returns c = λ files cells owners plan.
    (λ i. (c.one_if.ensures ∙ ap (λ b. cond b 1 0) c.is_some.ensures) i + (c.one_if-2.ensures ∙ ap (λ b. cond b 1 0) c.is_some-2.ensures) i)
    ∙ sym (count_wanting files cells owners c.args.self.now.access plan.user.some plan.user.few c.args.self.now.near c.args.self.now.far plan.near plan.far)
