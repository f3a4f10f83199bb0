use Rattle.std.proofs.Common.{ap, arith}
use Rattle.row_table.specs.declared.view.PassView.{PassView}
use Rattle.row_table.specs.Passes.{view_of}
use Rattle.row_uses.proofs.Visits.{stands_on, stands_at_top, looked_in}
use Rattle.row_uses.proofs.uses.look_in.Goals as goal

pub go_down-between-requires-clause-stands : goal.go_down-between-requires-clause-stands
go_down-between-requires-clause-stands g c κs within = stands_at_top (view_of c.args.pass.now) (view_of c.enter.new.self) c.requires.idle c.in-Ok.ensures.enters.1

pub returns-in-Ok-clause-looked : goal.returns-in-Ok-clause-looked
returns-in-Ok-clause-looked g c =
    let e = c.in-Ok.ensures.enters.1 in
    let one = c.go_down-between.ensures.way (stands_at_top (view_of c.args.pass.now) (view_of c.enter.new.self) c.requires.idle e) in
    let two = c.go_down-last.ensures.way (stands_on c.go_down-between.ensures.stands _ one.stands) in
    let touched = c.touch.ensures.touched (stands_on c.go_down-last.ensures.stands _ two.stands) in
    let epoch = ap (λ (v : PassView g.row.P-Row.Denot g.row.P-Book.Denot g.row.P-Entry.Denot). v.epoch) e in
    let a = c.go_down-between.ensures.epoch in let b = c.go_down-last.ensures.epoch in let d = c.touch.ensures.epoch in
    looked_in (view_of c.args.pass.now) (view_of c.enter.new.self) (view_of c.go_down-between.new.pass) (view_of c.go_down-last.new.pass) (view_of c.touch.new.pass) c.args.first c.args.second c.touch.result e one two touched (omega arith)
