use Rattle.std.proofs.Common.{sym, ◌∙◌, subst}
use Rattle.row_table.specs.Passes.{view_of}
use Rattle.cursor_apply.specs.declared.becoming.RangeChange.{RangeChange}
use Rattle.cursor_apply.specs.Changed.{IsReady, AreChanged, clean}
use Rattle.move_apply.proofs.Filled.{next_near, change_is, told_there}
use Rattle.move_apply.proofs.growing.fill_behind.Goals as goal

pub behind-change-requires : goal.behind-change-requires
behind-change-requires g c =
    let r = c.requires.ready in
    next_near r.0 r.1 r.2 r.3 r.4 c.args.first c.args.old c.args.new (view_of c.args.pass.now) c.args.held.now.rows r.5 c.run_at-run.result c.run_at-run.ensures.some c.run_at-run.ensures.answers

pub change_rows-requires-clause-ready : goal.change_rows-requires-clause-ready
change_rows-requires-clause-ready g c κs within =
    let r = c.requires.ready in
    let v = view_of c.args.pass.now in
    let same = c.behind-change.ensures ∙ change_is r.0 r.1 r.2 r.3 r.4 c.args.first c.args.old c.args.new v c.args.held.now.rows r.5 c.run_at-run.result c.run_at-run.ensures.some c.run_at-run.ensures.answers c.in-Some.perm c.in-Some.ensures in
    (r.0, r.1, r.2, r.3, r.4, subst (λ (k : RangeChange). IsReady r.0 r.1 r.2 r.3 r.4 k v c.args.held.now.rows) (sym same) r.5.ready)

pub returns-in-Some-clause-changes : goal.returns-in-Some-clause-changes
returns-in-Some-clause-changes g c = λ b st now space is_old is.
    let v = view_of c.args.pass.now in
    let w = view_of c.change_rows.new.pass in
    let same = c.behind-change.ensures ∙ change_is b st now space is_old c.args.first c.args.old c.args.new v c.args.held.now.rows is c.run_at-run.result c.run_at-run.ensures.some c.run_at-run.ensures.answers c.in-Some.perm c.in-Some.ensures in
    subst (λ (k : RangeChange). AreChanged b now (clean k.first k.count is_old) v c.args.held.now.rows w c.change_rows.new.held.rows) same
    (c.change_rows.ensures.changes b st now space is_old (subst (λ (k : RangeChange). IsReady b st now space is_old k v c.args.held.now.rows) (sym same) is.ready))

pub returns-in_default-clause-changes : goal.returns-in_default-clause-changes
returns-in_default-clause-changes g c = λ b st now space is_old is.
    absurd (told_there b st now space is_old c.args.first c.args.old c.args.new (view_of c.args.pass.now) c.args.held.now.rows is c.run_at-run.result c.run_at-run.ensures.some c.run_at-run.ensures.answers (sym c.in_default.ensures))
