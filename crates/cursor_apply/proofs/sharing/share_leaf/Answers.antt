use Rattle.std.specs.Prelude.{ℕ, ◌%◌}
use Rattle.std.proofs.Common.{sym, subst}
use Rattle.row_table.specs.Links.{MaySetEntry, Sets}
use Rattle.row_table.specs.Passes.{view_of}
use Rattle.cursor_apply.proofs.SharedRows.{share_none, small_frame, may_share, words_shared, is_shared, row_at}
use Rattle.cursor_apply.proofs.sharing.share_leaf.Goals as goal

pub shared_leaf-word-requires : goal.shared_leaf-word-requires
shared_leaf-word-requires g c = small_frame c.args.space c.args.page c.args.frame (view_of c.args.pass.now) c.args.held.now.rows c.requires.ready

pub set_entry-requires-clause-guard : goal.set_entry-requires-clause-guard
set_entry-requires-clause-guard g c κs within =
    let rows = c.args.held.now.rows in
    let x = c.index-rows-at.result in
    let r = row_at c.args.space rows c.rows-rows.result.now c.in-Some.at c.args.page x c.index-rows-at.is c.rows-rows.ensures.list c.in-Some.ensures.leaf in
    subst (λ (n : ℕ). MaySetEntry (view_of c.args.pass.now) x.row (c.args.page % 512) n) (sym c.shared_leaf-word.ensures)
    (may_share c.args.space c.args.page c.args.frame (view_of c.args.pass.now) rows c.rows-rows.ensures.order c.rows-rows.ensures.once c.has_whole_rows.ensures x r.0 r.1 c.get-cell.result.now c.get-cell.ensures c.requires.ready)

pub returns-in-Some-clause-shared : goal.returns-in-Some-clause-shared
returns-in-Some-clause-shared g c =
    let rows = c.args.held.now.rows in
    let x = c.index-rows-at.result in
    let r = row_at c.args.space rows c.rows-rows.result.now c.in-Some.at c.args.page x c.index-rows-at.is c.rows-rows.ensures.list c.in-Some.ensures.leaf in
    is_shared c.args.space c.args.page c.args.frame (view_of c.args.pass.now) rows c.rows-rows.ensures.order c.rows-rows.ensures.once c.has_whole_rows.ensures x r.0 r.1 c.get-cell.result.now c.get-cell.ensures (view_of c.set_entry.new.self)
    (subst (λ (n : ℕ). Sets x.row (c.args.page % 512) n (view_of c.args.pass.now) (view_of c.set_entry.new.self)) c.shared_leaf-word.ensures c.set_entry.ensures.sets)

pub returns-in_default-clause-shared : goal.returns-in_default-clause-shared
returns-in_default-clause-shared g c = share_none c.args.space c.args.page c.args.frame (view_of c.args.pass.now) c.args.held.now.rows c.in_default.ensures.leaf

pub returns-in-Some-clause-words : goal.returns-in-Some-clause-words
returns-in-Some-clause-words g c =
    let rows = c.args.held.now.rows in
    let x = c.index-rows-at.result in
    let r = row_at c.args.space rows c.rows-rows.result.now c.in-Some.at c.args.page x c.index-rows-at.is c.rows-rows.ensures.list c.in-Some.ensures.leaf in
    words_shared c.args.space c.args.page c.args.frame (view_of c.args.pass.now) rows c.rows-rows.ensures.order c.rows-rows.ensures.once c.has_whole_rows.ensures x r.0 r.1 c.get-cell.result.now c.get-cell.ensures c.requires.ready (view_of c.set_entry.new.self)
    (subst (λ (n : ℕ). Sets x.row (c.args.page % 512) n (view_of c.args.pass.now) (view_of c.set_entry.new.self)) c.shared_leaf-word.ensures c.set_entry.ensures.sets)
