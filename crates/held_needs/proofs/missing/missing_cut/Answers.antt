use Rattle.std.proofs.Common.{◌+◌, ◌++◌, [], ◌∷◌, get_or, sym, ap, ◌∙◌, arith}
use Rattle.std.proofs.lemmas.List.{take_more, get_or_default}
use Rattle.page_map.specs.Tables.{need}
use Rattle.plain_counts.specs.declared.cut.Pages.{Pages}
use Rattle.plain_counts.specs.Cut.{cut_by_all}
use Rattle.held_needs.proofs.Counted.{need_none}
use Rattle.held_needs.proofs.missing.missing_cut.Goals as goal

pub loop-place-init : goal.loop-place-init
loop-place-init c = record { few = omega arith; so_far = λ space st is asked. need_none st.tables }

pub loop-place-preserved : goal.loop-place-preserved
loop-place-preserved c = record {
  few = omega (arith, c.loop-place.invariant.few, c.lacked_beside-count.ensures.few);
  so_far = λ space st is asked.
      let none : Pages = record { first = 0; count = 0 } in
      let k = c.loop-place.place in
      let here = get_or c.args.ranges.now k none in
      let ends = asked here (k, c.loop-place-test.true, get_or_default c.args.ranges.now k here none c.loop-place-test.true) in
      ap (λ rs. need (cut_by_all c.args.levels space rs) st.tables) (take_more c.args.ranges.now k none c.loop-place-test.true ∙ ap (λ rs. rs ++ here ∷ []) (sym c.split_at.ensures.front))
      ∙ c.lacked_beside-count.ensures.lacks space st is ends.0 ends.1
      ∙ ap (λ rs. need (cut_by_all c.args.levels space rs) st.tables + c.lacked_beside-count.result) c.split_at.ensures.front
      ∙ ap (λ n. n + c.lacked_beside-count.result) (c.loop-place.invariant.so_far space st is asked);
}
