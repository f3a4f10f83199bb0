use Rattle.std.proofs.Common.{◌≡◌, ◌+◌, ◌-◌, ◌++◌, cond, None, sym, ap, ◌∙◌, arith}
use Rattle.std.specs.List.{cons_option, filter_map, range_with_len}
use Rattle.space_cells.specs.Held.{number_held}
use Rattle.space_cells.specs.Changes.{left}
use Rattle.space_cells.proofs.Released.{left_none}
use Rattle.space_cells.proofs.Walks.{next_given, none_given, passed_over}
use Rattle.space_cells.proofs.changes.add_left.Goals as goal

pub loop-page-preserved : goal.loop-page-preserved
loop-page-preserved c =
    let at = c.in-Some.ensures.some in
    let pages = c.args.pages.now in
    let numbers = c.loop-page.numbers.items in
    let rest = filter_map (left (number_held pages) c.args.earlier.now) (range_with_len (c.in-Some.page + 1) ((c.args.change.first + c.args.change.count) - (c.in-Some.page + 1))) in
    record {
      high = omega (arith, at.before);
      numbers =
          ap (λ l. l ++ rest) c.in_ok-push_unless.ensures
          ∙ passed_over c.are_releasing.result c.in-Some.number numbers rest
          ∙ (λ i. numbers ++ cons_option (cond (c.are_releasing.ensures i) None (sym at.there i)) rest)
          ∙ ap (λ l. numbers ++ l) (sym (next_given pages c.loop-page.next (c.args.change.first + c.args.change.count) (left (number_held pages) c.args.earlier.now) (left_none pages c.args.earlier.now) c.in-Some.page c.in-Some.number at))
          ∙ c.loop-page.invariant.numbers;
    }

pub returns : goal.returns
returns c =
    let pages = c.args.pages.now in
    let count : c.args.change.first + c.args.change.count - c.args.change.first ≡ c.args.change.count = omega arith in
    sym (none_given pages c.loop-page.next (c.args.change.first + c.args.change.count) (left (number_held pages) c.args.earlier.now) (left_none pages c.args.earlier.now) c.loop-page.invariant.high c.in_default.ensures.none c.loop-page.numbers.items)
    ∙ c.loop-page.invariant.numbers
    ∙ ap (λ k. c.args.numbers.now.items ++ filter_map (left (number_held pages) c.args.earlier.now) (range_with_len c.args.change.first k)) count
