use Rattle.std.specs.Prelude.{◌≡◌, ◌-◌, ◌<◌, List, length, slice_index_or, slice_set}
use Rattle.std.proofs.Common.{sym, ap, subst, arith, ◌∙◌}
use Rattle.row_cells.specs.declared.Cell.{Cell}
use Rattle.row_cells.specs.declared.Cell.TheVariants.{Table}
use Rattle.row_table.specs.Passes.{view_of}
use Rattle.table_place.proofs.Spans.{span_pos}
use Rattle.tree_lock.specs.Held.{IsInserted, with_content}
use Rattle.tree_lock.proofs.Positions.{spelled_table}
use Rattle.machine_plan.specs.HeldRows.{Row}
use Rattle.cursor_detach.specs.Cutting.{above_place, above_index, IsRowAt}
use Rattle.cursor_detach.proofs.RowLists.{with_length, with_row, with_place}
use Rattle.cursor_apply.specs.Linking.{IsSpread, new_row}
use Rattle.cursor_apply.proofs.LinkedOne.{up_is, content_is, mark_is, mark_fits, opened_so, may_store, has_linked}
use Rattle.cursor_apply.proofs.linking.link_row.Goals as goal

pub spread-requires-clause-pages : goal.spread-requires-clause-pages
spread-requires-clause-pages g c = let some = span_pos (c.args.place.level - 1) in let is = c.entry_pages.ensures.value in omega arith

pub spread-requires-clause-fits : goal.spread-requires-clause-fits
spread-requires-clause-fits g c =
    let rows = c.args.held.now.rows in
    let r = c.row_at-at.ensures in
    let is = λ (d : Row). ap (λ (l : List Row). slice_index_or l c.row_at-at.result d) (sym c.rows-rows.ensures.list) ∙ r.is d in
    let at : IsRowAt (above_place c.args.levels c.args.place) rows c.row_at-at.result = record { inside = subst (λ (l : List Row). c.row_at-at.result < length l) c.rows-rows.ensures.list r.inside; row = r.row; is = is; place = r.place ∙ c.linker_of-above.ensures.place } in
    let v = view_of c.args.pass.now in
    let content = content_is c.args.levels c.args.row c.args.generation c.args.place rows v c.requires.may c.requires.levels c.rows-rows.ensures.order c.row_at-at.result at c.content_mut.result.now c.content_mut.ensures.content in
    let m = mark_is c.args.levels c.args.row c.args.generation c.args.place rows v c.requires.may c.requires.levels c.rows-rows.ensures.order c.row_at-at.result at c.content_mut.result.now c.linker_of-above.result.index c.replace-mark.result content c.linker_of-above.ensures.index c.replace-mark.ensures.before in
    mark_fits c.args.levels c.args.row c.args.generation c.args.place rows v c.requires.may c.requires.levels c.rows-rows.ensures.order c.row_at-at.result at c.replace-mark.result c.entry_pages.result m.1 c.entry_pages.ensures.value

pub insert-requires-clause-room : goal.insert-requires-clause-room
insert-requires-clause-room g c = let long = with_length c.args.held.now.rows c.row_at-at.result c.replace-mark.new.self in let room = c.requires.room in omega arith

pub insert-requires-clause-spelled : goal.insert-requires-clause-spelled
insert-requires-clause-spelled g c = spelled_table c.args.levels c.args.place c.requires.levels c.requires.may.place

pub insert-requires-clause-new_row : goal.insert-requires-clause-new_row
insert-requires-clause-new_row g c = λ k d within same.
    let rows = c.args.held.now.rows in
    let inside = subst (λ (l : List Row). c.row_at-at.result < length l) c.rows-rows.ensures.list c.row_at-at.ensures.inside in
    let long = with_length rows c.row_at-at.result c.replace-mark.new.self in
    c.requires.may.other_rows k d (omega arith) (sym (with_row rows c.row_at-at.result k c.replace-mark.new.self d inside) ∙ same)

pub insert-requires-clause-new_place : goal.insert-requires-clause-new_place
insert-requires-clause-new_place g c = λ k d within same.
    let rows = c.args.held.now.rows in
    let inside = subst (λ (l : List Row). c.row_at-at.result < length l) c.rows-rows.ensures.list c.row_at-at.ensures.inside in
    let long = with_length rows c.row_at-at.result c.replace-mark.new.self in
    c.requires.may.other_places k d (omega arith) (sym (with_place rows c.row_at-at.result k c.replace-mark.new.self d inside) ∙ same)

pub set_entry-requires-clause-guard : goal.set_entry-requires-clause-guard
set_entry-requires-clause-guard g c κs within =
    let rows = c.args.held.now.rows in
    let r = c.row_at-at.ensures in
    let is = λ (d : Row). ap (λ (l : List Row). slice_index_or l c.row_at-at.result d) (sym c.rows-rows.ensures.list) ∙ r.is d in
    let at : IsRowAt (above_place c.args.levels c.args.place) rows c.row_at-at.result = record { inside = subst (λ (l : List Row). c.row_at-at.result < length l) c.rows-rows.ensures.list r.inside; row = r.row; is = is; place = r.place ∙ c.linker_of-above.ensures.place } in
    let v = view_of c.args.pass.now in
    let upper = ap (λ (y : Row). y.row) (r.is c.index-rows-at.result ∙ up_is c.args.levels c.args.row c.args.generation c.args.place rows v c.requires.may c.requires.levels c.rows-rows.ensures.order c.row_at-at.result at) in
    let o = c.open_row-content.ensures.opens in
    may_store c.args.levels c.args.row c.args.generation c.args.place rows v c.requires.may c.requires.levels (view_of c.open_row-content.new.self)
    (opened_so c.args.levels c.args.row c.args.generation c.args.place rows v c.requires.may c.requires.levels (view_of c.set_up.new.self) (view_of c.open_row-content.new.self) c.set_up.ensures.sets_up o.0 o.2)
    (slice_index_or c.rows-rows.result.now c.row_at-at.result c.index-rows-at.result).row c.linker_of-above.result.index c.table_word.result upper c.linker_of-above.ensures.index c.table_word.ensures

pub returns-clause-links : goal.returns-clause-links
returns-clause-links g c =
    let rows = c.args.held.now.rows in
    let r = c.row_at-at.ensures in
    let is = λ (d : Row). ap (λ (l : List Row). slice_index_or l c.row_at-at.result d) (sym c.rows-rows.ensures.list) ∙ r.is d in
    let at : IsRowAt (above_place c.args.levels c.args.place) rows c.row_at-at.result = record { inside = subst (λ (l : List Row). c.row_at-at.result < length l) c.rows-rows.ensures.list r.inside; row = r.row; is = is; place = r.place ∙ c.linker_of-above.ensures.place } in
    let v = view_of c.args.pass.now in
    let same = up_is c.args.levels c.args.row c.args.generation c.args.place rows v c.requires.may c.requires.levels c.rows-rows.ensures.order c.row_at-at.result at in
    let upper = ap (λ (y : Row). y.row) (r.is c.index-rows-at.result ∙ same) in
    let o = c.open_row-content.ensures.opens in
    let content = content_is c.args.levels c.args.row c.args.generation c.args.place rows v c.requires.may c.requires.levels c.rows-rows.ensures.order c.row_at-at.result at c.content_mut.result.now c.content_mut.ensures.content in
    let m = mark_is c.args.levels c.args.row c.args.generation c.args.place rows v c.requires.may c.requires.levels c.rows-rows.ensures.order c.row_at-at.result at c.content_mut.result.now c.linker_of-above.result.index c.replace-mark.result content c.linker_of-above.ensures.index c.replace-mark.ensures.before in
    let now : c.replace-mark.new.self ≡ slice_set at.row.content (above_index c.args.levels c.args.place) Table = c.replace-mark.ensures.after ∙ (λ i. slice_set (content i) (c.linker_of-above.ensures.index i) Table) in
    record {
      at = c.row_at-at.result;
      is_at = at;
      mark = c.replace-mark.result;
      marked = m.0;
      content = c.spread.new.cells;
      spread = subst (λ n. IsSpread c.replace-mark.result n c.spread.new.cells) c.entry_pages.ensures.value c.spread.ensures;
      inserted = subst (λ (l : List Cell). IsInserted (new_row c.args.row c.args.place c.args.generation c.spread.new.cells) (with_content rows c.row_at-at.result l) c.insert.new.self.rows) now c.insert.ensures.inserted;
      view = λ linker held linker_row.
          has_linked c.args.levels c.args.row c.args.generation c.args.place rows v c.requires.may c.requires.levels (view_of c.open_row-content.new.self)
          (opened_so c.args.levels c.args.row c.args.generation c.args.place rows v c.requires.may c.requires.levels (view_of c.set_up.new.self) (view_of c.open_row-content.new.self) c.set_up.ensures.sets_up o.0 o.2)
          (slice_index_or c.rows-rows.result.now c.row_at-at.result c.index-rows-at.result).row c.linker_of-above.result.index c.table_word.result (view_of c.set_entry.new.self) upper c.linker_of-above.ensures.index c.table_word.ensures c.set_entry.ensures.sets
          linker held (linker_row ∙ ap (λ (y : Row). y.row) same);
    }
