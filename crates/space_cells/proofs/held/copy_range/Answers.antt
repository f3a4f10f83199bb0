use Rattle.space_cells.proofs.Copying.{none_copied, copied_more, all_placed}
use Rattle.space_cells.proofs.held.copy_range.Goals as goal

pub loop-page-init : goal.loop-page-init
loop-page-init c = none_copied c.args.first c.args.count c.args.to c.args.pages.now c.requires.apart c.requires.free

pub loop-page-preserved : goal.loop-page-preserved
loop-page-preserved c =
    copied_more c.args.first c.args.count c.args.to c.args.pages.now c.requires.apart c.loop-page.next c.loop-page.pages c.loop-page.invariant c.in-Some.page _ c.copy_page.new.pages c.in-Some.ensures.some c.in_ok-copy_page.ensures.ok

pub returns-clause-placed : goal.returns-clause-placed
returns-clause-placed c = all_placed c.args.first c.args.count c.args.to c.args.pages.now c.requires.apart c.loop-page.next c.loop-page.pages c.loop-page.invariant c.in_default.ensures.none
