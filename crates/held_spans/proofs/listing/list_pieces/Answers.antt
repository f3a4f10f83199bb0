use Rattle.std.proofs.Common.{sym, subst}
use Rattle.corten_base.specs.declared.calls.Call.{Call}
use Rattle.held_spans.specs.Listing.{AnswersPieces}
use Rattle.held_spans.proofs.Moved.{pieces_for}
use Rattle.held_spans.proofs.listing.list_pieces.Goals as goal

pub returns-in-Ok-clause-lists : goal.returns-in-Ok-clause-lists
returns-in-Ok-clause-lists c =
    subst (λ (x : Call). AnswersPieces c.args.held.now.rows c.args.levels c.args.thread x c.list_moved.new.pieces.items) (sym c.in-Remap.is)
    (pieces_for c.args.held.now.rows c.args.levels c.args.thread c.in-Remap.space c.in-Remap.at c.in-Remap.old_len c.in-Remap.new_len c.in-Some.range c.list_moved.new.pieces.items c.in-Some.ensures.answers c.in-Ok.ensures)
