use Rattle.image_text.proofs.Drafts.{small_items}
use Rattle.image_text.proofs.draft.Draft.is_placed.Goals as goal

pub is_next-requires-clause-small : goal.is_next-requires-clause-small
is_next-requires-clause-small c = small_items _ c.deref.result.now c.self.invariant.right c.deref.ensures.value
