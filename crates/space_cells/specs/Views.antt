-- A page that is looked at.
--     seen      its cell
use Rattle.std.specs.Option.{option_copied}
use Rattle.page_map.specs.declared.cell.Cell.{Cell}
use Rattle.space_cells.specs.declared.space.PageView.{PageView}
use Rattle.space_cells.specs.Cells.{cell_of}

abbrev pub seen : PageView → Cell
seen view = cell_of view.mark (option_copied view.held)
