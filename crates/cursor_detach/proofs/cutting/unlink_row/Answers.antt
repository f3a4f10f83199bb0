use Rattle.std.specs.Prelude.{◌<◌, List, length, slice_index_or, slice_set}
use Rattle.std.proofs.Common.{sym, ap, subst, ◌∙◌}
use Rattle.row_cells.specs.declared.Cell.TheVariants.{Invalid}
use Rattle.row_table.specs.Links.{entry_cut}
use Rattle.row_table.specs.Passes.{view_of}
use Rattle.tree_lock.specs.Held.{with_content}
use Rattle.machine_plan.specs.HeldRows.{Row}
use Rattle.cursor_detach.proofs.cutting.unlink_row.Goals as goal

pub returns-clause-unlinks : goal.returns-clause-unlinks
returns-clause-unlinks g c =
    let rows = c.args.held.now.rows in
    let at = c.row_at-at.result in
    let r = c.row_at-at.ensures in
    let is = λ (d : Row). ap (λ (l : List Row). slice_index_or l at d) (sym c.rows-rows.ensures.list) ∙ r.is d in
    record {
      at = at;
      is_at = record { inside = subst (λ (l : List Row). at < length l) c.rows-rows.ensures.list r.inside; row = r.row; is = is; place = r.place ∙ c.linker_of-above.ensures.place };
      rows_are = ap (with_content rows at) (c.clear_cell.ensures
          ∙ (λ i. slice_set ((sym (c.content_mut.ensures.content r.row) ∙ ap (λ (y : Row). y.content) (is r.row)) i) (c.linker_of-above.ensures.index i) Invalid));
      unlinks = λ linker held same. c.unlink.ensures.unlinks linker held (same ∙ ap (λ (y : Row). y.row) (sym (r.is c.index-rows-at.result)))
          ∙ ap (entry_cut (view_of c.args.pass.now) linker) c.linker_of-above.ensures.index;
    }
