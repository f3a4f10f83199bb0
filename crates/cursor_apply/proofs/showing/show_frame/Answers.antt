use Rattle.std.specs.Prelude.{ℕ, ◌%◌}
use Rattle.std.proofs.Common.{sym, subst}
use Rattle.row_table.specs.Links.{MaySetEntry, Sets}
use Rattle.row_table.specs.Passes.{view_of}
use Rattle.cursor_apply.proofs.ShownPages.{show_none, small_frame, may_show, words_shown, is_shown, row_at}
use Rattle.cursor_apply.proofs.showing.show_frame.Goals as goal

pub sole_leaf-word-requires : goal.sole_leaf-word-requires
sole_leaf-word-requires g c = small_frame c.args.page (view_of c.args.pass.now) c.args.held.now.rows c.args.frame c.requires.ready

pub set_entry-requires-clause-guard : goal.set_entry-requires-clause-guard
set_entry-requires-clause-guard g c κs within =
    let rows = c.args.held.now.rows in
    let x = c.index-rows-at.result in
    let r = row_at rows c.rows-rows.result.now c.in-Some.at c.args.page x c.index-rows-at.is c.rows-rows.ensures.list c.in-Some.ensures.leaf in
    subst (λ (n : ℕ). MaySetEntry (view_of c.args.pass.now) x.row (c.args.page % 512) n) (sym c.sole_leaf-word.ensures)
    (may_show c.args.page (view_of c.args.pass.now) rows c.rows-rows.ensures.order c.rows-rows.ensures.once c.has_whole_rows.ensures x r.0 r.1 c.get-cell.result.now c.get-cell.ensures c.args.frame c.requires.ready)

pub returns-in-Some-clause-shown : goal.returns-in-Some-clause-shown
returns-in-Some-clause-shown g c =
    let rows = c.args.held.now.rows in
    let x = c.index-rows-at.result in
    let r = row_at rows c.rows-rows.result.now c.in-Some.at c.args.page x c.index-rows-at.is c.rows-rows.ensures.list c.in-Some.ensures.leaf in
    is_shown c.args.page (view_of c.args.pass.now) rows c.rows-rows.ensures.order c.rows-rows.ensures.once c.has_whole_rows.ensures x r.0 r.1 c.get-cell.result.now c.get-cell.ensures c.args.frame (view_of c.set_entry.new.self)
    (subst (λ (n : ℕ). Sets x.row (c.args.page % 512) n (view_of c.args.pass.now) (view_of c.set_entry.new.self)) c.sole_leaf-word.ensures c.set_entry.ensures.sets)

pub returns-in_default-clause-shown : goal.returns-in_default-clause-shown
returns-in_default-clause-shown g c = show_none c.args.page (view_of c.args.pass.now) c.args.held.now.rows c.args.frame c.in_default.ensures.leaf

pub returns-in-Some-clause-words : goal.returns-in-Some-clause-words
returns-in-Some-clause-words g c =
    let rows = c.args.held.now.rows in
    let x = c.index-rows-at.result in
    let r = row_at rows c.rows-rows.result.now c.in-Some.at c.args.page x c.index-rows-at.is c.rows-rows.ensures.list c.in-Some.ensures.leaf in
    words_shown c.args.page (view_of c.args.pass.now) rows c.rows-rows.ensures.order c.rows-rows.ensures.once c.has_whole_rows.ensures x r.0 r.1 c.get-cell.result.now c.get-cell.ensures c.args.frame c.requires.ready (view_of c.set_entry.new.self)
    (subst (λ (n : ℕ). Sets x.row (c.args.page % 512) n (view_of c.args.pass.now) (view_of c.set_entry.new.self)) c.sole_leaf-word.ensures c.set_entry.ensures.sets)
