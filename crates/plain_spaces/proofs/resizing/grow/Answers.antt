use Rattle.std.proofs.Common.{sym, ap, ◌∙◌, arith}
use Rattle.std.specs.Option.{option_copied, option_map}
use Rattle.space_cells.specs.Views.{seen}
use Rattle.plain_spaces.specs.Resizing.{length_of}
use Rattle.plain_spaces.proofs.Resized.{few_after, few_index, mapped_behind}
use Rattle.plain_spaces.proofs.Variants.{ok_from}
use Rattle.plain_spaces.proofs.resizing.grow.Goals as goal

pub after-mark-requires : goal.after-mark-requires
after-mark-requires c =
    let last = c.unwrap.result in
    let few = few_index c.args.cells.now c.requires.full.indexes _ last.mark (option_copied last.held) (sym c.get.ensures ∙ ap (option_map seen) c.unwrap.ensures) in
    omega (arith, few)

pub map_pages-requires-clause-indexes : goal.map_pages-requires-clause-indexes
map_pages-requires-clause-indexes c =
    let last = c.unwrap.result in
    let few = few_after c.args.cells.now c.requires.full.indexes _ last.mark (option_copied last.held) (sym c.get.ensures ∙ ap (option_map seen) c.unwrap.ensures) c.after-mark.result c.after-mark.ensures in
    omega (arith, few, c.requires.full.few)

pub returns-clause-cells : goal.returns-clause-cells
returns-clause-cells c =
    let last = c.unwrap.result in
    ok_from c.map_pages.result
    (λ e. e ∙ mapped_behind (length_of c.args.resize) c.args.cells.now last.mark (option_copied last.held) (sym c.get.ensures ∙ ap (option_map seen) c.unwrap.ensures) c.requires.full.some c.after-mark.result c.after-mark.ensures)
    c.map_pages.ensures.cells
