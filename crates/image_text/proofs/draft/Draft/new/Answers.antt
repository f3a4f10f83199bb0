use Rattle.image_text.proofs.Drafts.{new_draft}
use Rattle.image_text.proofs.draft.Draft.new.Goals as goal

pub invariant_of-result : goal.invariant_of-result
invariant_of-result c = new_draft c.args.limits c.new.result c.new-2.result.items c.requires.limits c.requires.levels c.new.ensures c.new-2.ensures.items
