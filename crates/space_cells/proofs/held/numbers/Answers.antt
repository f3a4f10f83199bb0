use Rattle.std.proofs.Common.{◌+◌, ◌-◌, ◌++◌, sym, ap, ◌∙◌, arith}
use Rattle.space_cells.specs.Held.{numbers_held}
use Rattle.space_cells.proofs.Walks.{first_number, no_numbers}
use Rattle.space_cells.proofs.held.numbers.Goals as goal

pub loop-page-preserved : goal.loop-page-preserved
loop-page-preserved c =
    let at = c.in-Some.ensures.some in
    record {
      high = omega (arith, at.before);
      numbers =
          ap (λ l. l ++ numbers_held c.args.pages.now (c.in-Some.page + 1) (c.args.end - (c.in-Some.page + 1))) c.in_ok-push.ensures.items
          ∙ first_number c.args.pages.now c.loop-page.next c.args.end c.in-Some.page _ at c.loop-page.numbers.items ∙ c.loop-page.invariant.numbers;
    }

pub returns : goal.returns
returns c = sym (no_numbers c.args.pages.now c.loop-page.next c.args.end c.loop-page.invariant.high c.in_default.ensures.none c.loop-page.numbers.items) ∙ c.loop-page.invariant.numbers
