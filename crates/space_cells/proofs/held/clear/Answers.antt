use Rattle.std.proofs.Common.{arith}
use Rattle.space_cells.proofs.Walks.{nothing_cleared, one_more, all_cleared}
use Rattle.space_cells.proofs.held.clear.Goals as goal

pub loop-page-init : goal.loop-page-init
loop-page-init c = record { low = omega arith; high = c.requires; clears = nothing_cleared c.args.first c.args.pages.now }

pub loop-page-preserved : goal.loop-page-preserved
loop-page-preserved c =
    let at = c.in-Some.ensures.some in
    record {
      low = omega (arith, at.from, c.loop-page.invariant.low);
      high = omega (arith, at.before);
      clears = one_more c.args.first c.loop-page.next c.args.end c.loop-page.invariant.low c.args.pages.now c.loop-page.pages c.loop-page.invariant.clears c.in-Some.page _ c.take.new.pages at c.take.ensures.pages;
    }

pub returns : goal.returns
returns c = all_cleared c.args.first c.loop-page.next c.args.end c.loop-page.invariant.low c.args.pages.now c.loop-page.pages c.loop-page.invariant.clears c.in_default.ensures.none c.loop-page.invariant.high
