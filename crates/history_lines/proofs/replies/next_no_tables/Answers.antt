use Rattle.history_lines.proofs.Readers.{no_notables, no_need}
use Rattle.history_lines.proofs.replies.next_no_tables.Goals as goal

pub returns-in_err-linked-clause-none : goal.returns-in_err-linked-clause-none
returns-in_err-linked-clause-none c = rw c.from_residual.ensures
    (no_notables c.args.words.now (λ linked limbo need rest a b fits are. c.in_err-linked.ensures.none linked limbo _ a b are))

pub returns-in_err-need-clause-none : goal.returns-in_err-need-clause-none
returns-in_err-need-clause-none c = rw c.from_residual-in_err-need.ensures
    (no_notables c.args.words.now (no_need c.args.words.now c.next_pair.new.words _ _ c.in_ok-linked.ensures.found c.in_err-need.ensures.none))
