use Rattle.row_table.specs.Passes.{view_of}
use Rattle.cursor_apply.proofs.ShownPages.{hide_none, may_hide, words_hidden, is_hidden, row_at}
use Rattle.cursor_apply.proofs.showing.hide_page.Goals as goal

pub set_entry-requires-clause-guard : goal.set_entry-requires-clause-guard
set_entry-requires-clause-guard g c κs within =
    let rows = c.args.held.now.rows in
    let x = c.index-rows-at.result in
    let r = row_at rows c.rows-rows.result.now c.in-Some.at c.args.page x c.index-rows-at.is c.rows-rows.ensures.list c.in-Some.ensures.leaf in
    may_hide c.args.page (view_of c.args.pass.now) rows c.rows-rows.ensures.order c.rows-rows.ensures.once c.has_whole_rows.ensures x r.0 r.1 c.requires.ready

pub returns-in-Some-clause-hidden : goal.returns-in-Some-clause-hidden
returns-in-Some-clause-hidden g c =
    let rows = c.args.held.now.rows in
    let x = c.index-rows-at.result in
    let r = row_at rows c.rows-rows.result.now c.in-Some.at c.args.page x c.index-rows-at.is c.rows-rows.ensures.list c.in-Some.ensures.leaf in
    is_hidden c.args.page (view_of c.args.pass.now) rows c.rows-rows.ensures.order c.rows-rows.ensures.once c.has_whole_rows.ensures x r.0 r.1 (view_of c.set_entry.new.self) c.set_entry.ensures.sets

pub returns-in_default-clause-hidden : goal.returns-in_default-clause-hidden
returns-in_default-clause-hidden g c = hide_none c.args.page (view_of c.args.pass.now) c.args.held.now.rows c.in_default.ensures.leaf

pub returns-in-Some-clause-words : goal.returns-in-Some-clause-words
returns-in-Some-clause-words g c =
    let rows = c.args.held.now.rows in
    let x = c.index-rows-at.result in
    let r = row_at rows c.rows-rows.result.now c.in-Some.at c.args.page x c.index-rows-at.is c.rows-rows.ensures.list c.in-Some.ensures.leaf in
    words_hidden c.args.page (view_of c.args.pass.now) rows c.rows-rows.ensures.order c.rows-rows.ensures.once c.has_whole_rows.ensures x r.0 r.1 c.requires.ready (view_of c.set_entry.new.self) c.set_entry.ensures.sets
