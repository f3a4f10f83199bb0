use Rattle.std.proofs.Common.{sym, ap, ◌∙◌, ◌+◌}
use Rattle.image_text.specs.Reading.{reach}
use Rattle.image_text.proofs.Orders.{reach_last}
use Rattle.image_text.proofs.order.end_of.Goals as goal

pub returns-in-Some : goal.returns-in-Some
returns-in-Some c =
    let last = c.in-Some.ensures.some in
    (λ i. c.first.ensures i + c.count.ensures i) ∙ sym (ap reach last.1 ∙ reach_last last.0 c.in-Some.last.now)
