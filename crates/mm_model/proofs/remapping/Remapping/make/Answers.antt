use Rattle.std.proofs.Common.{length, sym, ap, ◌∙◌}
use Rattle.std.proofs.Math.Seq.{take-length}
use Rattle.std.specs.FinSet as set
use Rattle.page_map.proofs.Places.{place_total, place_exact}
use Rattle.plain_counts.proofs.Missing.{taken_out}
use Rattle.mm_model.proofs.Remapped.{placed_is}
use Rattle.mm_model.proofs.remapping.Remapping.make.Goals as goal

pub returns-in-Ok-clause-cells : goal.returns-in-Ok-clause-cells
returns-in-Ok-clause-cells c =
    let p = c.requires.placed in
    c.in-Ok.ensures.cells p.0 p.1 p.4 ∙ placed_is p.0 p.1 c.args.cells.now c.args.self.resize c.args.self.placing p.4

-- those that came are taken out again
pub returns-in-Err-clause-tables_stay : goal.returns-in-Err-clause-tables_stay
returns-in-Err-clause-tables_stay c =
    let missing = c.args.missing.now in
    c.remove_all.ensures
    ∙ ap (λ s. set.difference s (set.from_list missing)) (c.in_ok-insert_all.ensures.ok ∙ ap (λ ps. set.union c.args.tables.now (set.from_list ps)) (sym (take-length missing)))
    ∙ taken_out place_total place_exact c.args.tables.now missing (length missing) c.requires.missing
