use Rattle.std.proofs.Common.{cond, refl, ap, ◌∙◌}
use Rattle.mm_model.specs.Pages.{frame_at}
use Rattle.pageout.specs.Index.{key_of, mark_at}
use Rattle.pageout.specs.Work.{refreshed}
use Rattle.pageout.proofs.Listing.{are_victims}
use Rattle.pageout.proofs.ages.Ages.victims.Goals as goal

pub returns : goal.returns
returns c limits files es are =
    let ages = c.args.self.now in (
      ages.index.order.keys,
      are_victims limits files es ages are
          (λ s p. ap (λ b. cond b (refreshed ages.work.place ages.work.is_access (mark_at ages.index.marks (key_of s p)) (frame_at ages.plain s p)) (mark_at ages.index.marks (key_of s p)))
          (c.if-not-is_done.ensures refl s p)) c.in_ok-victims.ensures.ordered,
      c.of.ensures ∙ c.in_ok-victims.ensures.first,
    )
