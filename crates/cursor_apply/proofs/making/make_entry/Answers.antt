use Rattle.std.specs.Prelude.{◌≡◌, false, slice_set}
use Rattle.std.proofs.Common.{sym, ◌∙◌, ap, subst}
use Rattle.std.proofs.lemmas.Bool.{true≢false}
use Rattle.std.proofs.lemmas.List.{set-set}
use Rattle.row_cells.specs.declared.Cell.TheVariants.{Invalid}
use Rattle.row_table.specs.Links.{MaySetEntry}
use Rattle.row_table.specs.Passes.{view_of}
use Rattle.machine_plan.specs.HeldRows.{is_table}
use Rattle.cursor_apply.specs.Changing.{cell_made, word_made, SetsWord}
use Rattle.cursor_apply.proofs.Passing.{may_set, no_link_there}
use Rattle.cursor_apply.proofs.making.make_entry.Goals as goal

pub set_entry-requires-clause-may : goal.set_entry-requires-clause-may
set_entry-requires-clause-may g c κs within = λ one.
    let none = no_link_there c.args.cells.now c.args.index c.get.result.now c.replace.result c.is_link_cell.result c.get.ensures c.replace.ensures.before c.is_link_cell.ensures c.if-is_link_cell.false in
    subst (λ x. MaySetEntry (view_of c.args.pass.now) c.args.row c.args.index (word_made x)) (sym c.make_cell-cell.ensures)
    (may_set c.args.row c.args.level c.args.index c.args.cells.now (view_of c.args.pass.now) c.requires.may c.requires.inside c.args.making c.args.behind c.replace.result c.replace.ensures.before none one)

pub returns-clause-makes : goal.returns-clause-makes
returns-clause-makes g c =
    let none = no_link_there c.args.cells.now c.args.index c.get.result.now c.replace.result c.is_link_cell.result c.get.ensures c.replace.ensures.before c.is_link_cell.ensures c.if-is_link_cell.false in
    record {
      was = c.replace.result;
      there = c.replace.ensures.before;
      link = λ t. absurd (true≢false (sym t ∙ none));
      made = λ t. (
        c.set_entry.ensures.cells ∙ ap (λ xs. slice_set xs c.args.index c.make_cell-cell.result) c.replace.ensures.after ∙ set-set c.args.cells.now c.args.index Invalid c.make_cell-cell.result ∙ ap (slice_set c.args.cells.now c.args.index) c.make_cell-cell.ensures,
        subst (λ x. SetsWord c.args.level c.args.row c.args.index (word_made x) (view_of c.args.pass.now) (view_of c.set_entry.new.pass)) c.make_cell-cell.ensures c.set_entry.ensures.word,
      );
    }
