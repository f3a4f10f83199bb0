use Rattle.std.proofs.Common.{◌≡◌, ◌∙◌, take, take_all, length, sym, ap, subst, arith}
use Rattle.std.specs.Prelude.{map}
use Rattle.page_map.specs.Tables.{need}
use Rattle.plain_counts.specs.Cut.{cut_by_all}
use Rattle.held_needs.specs.Found.{EndsAsked}
use Rattle.held_needs.specs.Operation.{range_of}
use Rattle.held_needs.proofs.Pages.{ranges_cut, ranges_asked}
use Rattle.held_needs.proofs.transaction.lacked_by_operations.Goals as goal

pub returns : goal.returns
returns c = record {
  lacks = λ space st is each.
      let ops = c.args.ops.now in
      let here : c.loop-place.place ≡ length ops = omega (arith, c.loop-place-test.false, c.loop-place.auto.place-end) in
      let listed : take (length ops) c.loop-place.ranges ≡ map range_of ops =
      ap (λ n. take n c.loop-place.ranges) (sym here) ∙ c.loop-place.invariant.listed ∙ ap (map range_of) (take_all c.loop-place.place ops (omega (arith, here))) in
      ap (λ xs. need xs st.tables) (ranges_cut st c.args.levels space is.same_levels ops)
      ∙ ap (λ rs. need (cut_by_all c.args.levels space rs) st.tables) (sym listed)
      ∙ c.missing_cut.ensures.lacks space st is (subst (EndsAsked space c.args.held.now.rows) (sym listed) (ranges_asked c.args.levels space c.args.held.now.rows ops each));
}
