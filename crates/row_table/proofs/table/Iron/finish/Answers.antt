use Rattle.std.proofs.Common.{arith, ◌+◌, List, map, sym, ap, ◌∙◌, subst}
use Rattle.std.specs.Mem.Slots.{slots_items}
use lib.ListN.{get_elem?}
use Rattle.row_layout.specs.declared.places.Layout.{Layout}
use Rattle.row_table.specs.declared.view.PassView.{PassView}
use Rattle.row_table.specs.Close.{HasAll, AtEnd}
use Rattle.row_table.proofs.End.{at_end, closed_is}
use Rattle.row_table.proofs.table.Iron.finish.Goals as goal

pub take_rows-requires-clause-there : goal.take_rows-requires-clause-there
take_rows-requires-clause-there g c κs within =
    let k_is = c.args.self.sized.2 in let views : List (PassView g.row.P-Row.Denot g.row.P-Book.Denot g.row.P-Entry.Denot) = c.args.seat.me.0 in
    let e : AtEnd g.P.Plan.meaning c.args.self.layout views (slots_items c.close_with-closed.result.words) (slots_items c.close_with-closed.result.slots)
    = subst (λ (y : Layout). AtEnd g.P.Plan.meaning y views (slots_items c.close_with-closed.result.words) (slots_items c.close_with-closed.result.slots)) k_is
    (at_end g.P.Plan.meaning c.args.self.table.shared.key.layout c.args.self.table.shared.key.origin.value _ views (slots_items c.close_with-closed.result.words) (slots_items c.close_with-closed.result.slots)
    (subst (λ (y : Layout). HasAll y.passes (map (λ v. v.number) views)) (sym k_is) c.requires.all) c.requires.idle c.close_with-closed.ensures.values.2) in
    e.row_there

pub take_book-book-requires-clause-book : goal.take_book-book-requires-clause-book
take_book-book-requires-clause-book g c κs within =
    let k_is = c.args.self.sized.2 in let views : List (PassView g.row.P-Row.Denot g.row.P-Book.Denot g.row.P-Entry.Denot) = c.args.seat.me.0 in
    let e : AtEnd g.P.Plan.meaning c.args.self.layout views (slots_items c.close_with-closed.result.words) (slots_items c.close_with-closed.result.slots)
    = subst (λ (y : Layout). AtEnd g.P.Plan.meaning y views (slots_items c.close_with-closed.result.words) (slots_items c.close_with-closed.result.slots)) k_is
    (at_end g.P.Plan.meaning c.args.self.table.shared.key.layout c.args.self.table.shared.key.origin.value _ views (slots_items c.close_with-closed.result.words) (slots_items c.close_with-closed.result.slots)
    (subst (λ (y : Layout). HasAll y.passes (map (λ v. v.number) views)) (sym k_is) c.requires.all) c.requires.idle c.close_with-closed.ensures.values.2) in
    (e.book, ap (λ l. get_elem? l c.args.self.layout.rows) c.take_rows.ensures.slots.0 ∙ e.book_there)

pub returns : goal.returns
returns g c =
    let k_is = c.args.self.sized.2 in let views : List (PassView g.row.P-Row.Denot g.row.P-Book.Denot g.row.P-Entry.Denot) = c.args.seat.me.0 in
    let e : AtEnd g.P.Plan.meaning c.args.self.layout views (slots_items c.close_with-closed.result.words) (slots_items c.close_with-closed.result.slots)
    = subst (λ (y : Layout). AtEnd g.P.Plan.meaning y views (slots_items c.close_with-closed.result.words) (slots_items c.close_with-closed.result.slots)) k_is
    (at_end g.P.Plan.meaning c.args.self.table.shared.key.layout c.args.self.table.shared.key.origin.value _ views (slots_items c.close_with-closed.result.words) (slots_items c.close_with-closed.result.slots)
    (subst (λ (y : Layout). HasAll y.passes (map (λ v. v.number) views)) (sym k_is) c.requires.all) c.requires.idle c.close_with-closed.ensures.values.2) in
    closed_is g.P.Plan.meaning c.args.self.layout views (slots_items c.close_with-closed.result.words) (slots_items c.close_with-closed.result.slots) c.read_words.new.words.items c.read_epochs.new.epochs.items c.take_rows.new.rows.items c.take_book-book.result c.epoch-first.result
    e c.read_words.ensures (let at = c.epoch-first.ensures in omega arith) c.read_epochs.ensures.count
    (λ i x at. ap (λ l. get_elem? l (c.epoch-first.result + i)) (sym c.as_slice.ensures.value) ∙ c.read_epochs.ensures.words i x at)
    c.take_rows.ensures.count c.take_rows.ensures.rows (ap (λ l. get_elem? l c.args.self.layout.rows) (sym c.take_rows.ensures.slots.0) ∙ c.take_book-book.ensures)
