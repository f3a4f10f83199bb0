use Rattle.std.proofs.Common.{not, sym, ap, ◌∙◌}
use Rattle.std.specs.FinSet as set
use Rattle.plain_counts.specs.Cut.{is_cut}
use Rattle.plain_counts.proofs.Noted.{noted_one, noted_not}
use Rattle.plain_counts.proofs.Climbed.{lacked, not_cut, not_lacked}
use Rattle.plain_counts.proofs.tables.Tables.note.Goals as goal

pub returns-then-contains-clause-noted : goal.returns-then-contains-clause-noted
returns-then-contains-clause-noted c =
    let cut = is_cut c.args.pages.first c.args.pages.count in
    noted_not c.args.self.now c.args.found.now cut c.args.place
    (not_lacked (cut c.args.place) (set.contains c.args.self.now c.args.place) (sym c.contains.ensures ∙ c.if-contains.true))

pub returns-in_ok-insert-clause-noted : goal.returns-in_ok-insert-clause-noted
returns-in_ok-insert-clause-noted c =
    let cut = is_cut c.args.pages.first c.args.pages.count in
    c.in_ok-insert.ensures.ok
    ∙ noted_one c.args.self.now c.args.found.now cut c.args.place
    (lacked (cut c.args.place) (set.contains c.args.self.now c.args.place) (sym (ap not c.covers.ensures) ∙ ap not c.if-not-covers.true) (sym c.contains.ensures ∙ c.if-contains.false))

pub returns-else-not-covers-clause-noted : goal.returns-else-not-covers-clause-noted
returns-else-not-covers-clause-noted c =
    let cut = is_cut c.args.pages.first c.args.pages.count in
    noted_not c.args.self.now c.args.found.now cut c.args.place
    (not_cut (cut c.args.place) (set.contains c.args.self.now c.args.place) (sym (ap not c.covers.ensures) ∙ ap not c.if-not-covers.false))
