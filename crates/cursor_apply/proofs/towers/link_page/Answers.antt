use Rattle.std.specs.Prelude.{◌≡◌, true, ◌+◌, ◌-◌, ◌≤◌, List, cond, nat_lt, slice_index_or}
use Rattle.std.proofs.Common.{sym, refl, ap, subst, arith, ◌∙◌}
use Rattle.row_table.specs.Passes.{view_of}
use Rattle.machine_plan.specs.HeldRows.{Row}
use Rattle.std.specs.List.{Contains}
use Rattle.table_place.specs.Place.{has_page, place_of}
use Rattle.cursor_detach.proofs.Lists.{any_default}
use Rattle.cursor_apply.specs.Linking.{IsLinking, IsLowest, IsLowestAt, IsNext, LinksNext}
use Rattle.cursor_apply.proofs.AbovePages.{levels_low, some_row, lowest_is, is_next, lower, reaches}
use Rattle.cursor_apply.proofs.StagedStep.{next_there}
use Rattle.cursor_apply.proofs.towers.link_page.Goals as goal

pub lowest_row-requires-clause-levels : goal.lowest_row-requires-clause-levels
lowest_row-requires-clause-levels g c =
    let m = c.requires.ready in
    subst (λ (l : List Row). (x : Row) → Contains l x → x.place.level ≤ 6) (sym c.rows-rows.ensures.list)
    (levels_low m.0 m.1 m.2 m.3 c.args.kit.now m.4 m.5 c.args.levels c.args.held.now.room m.6 c.args.next (view_of c.args.pass.now) c.args.held.now.rows m.7 c.args.space c.args.page c.args.low m.8)

pub lowest_row-requires-clause-some : goal.lowest_row-requires-clause-some
lowest_row-requires-clause-some g c =
    let m = c.requires.ready in
    subst (λ (l : List Row). (x : Row) × Contains l x × (has_page x.place c.args.space c.args.page ≡ true)) (sym c.rows-rows.ensures.list)
    (some_row m.0 m.1 m.2 m.3 c.args.kit.now m.4 m.5 c.args.levels c.args.held.now.room m.6 c.args.next (view_of c.args.pass.now) c.args.held.now.rows m.7 c.args.space c.args.page c.args.low m.8)

pub loop-level-init : goal.loop-level-init
loop-level-init g c =
    let m = c.requires.ready in
    let rows = c.args.held.now.rows in
    let at = c.lowest_row.result in
    let is : IsLowestAt c.args.space c.args.page rows at = subst (λ (l : List Row). IsLowestAt c.args.space c.args.page l at) c.rows-rows.ensures.list c.lowest_row.ensures in
    let x = slice_index_or c.rows-rows.result.now at c.index-rows-lowest_row.result in
    let x_is = λ (d : Row). any_default rows at d c.index-rows-lowest_row.result is.inside ∙ ap (λ (l : List Row). slice_index_or l at c.index-rows-lowest_row.result) (sym c.rows-rows.ensures.list) in
    record {
      table = refl;
      same = refl;
      room = refl;
      kept = λ p l. l;
      lowest = subst (λ n. IsLowest n c.args.space c.args.page c.level_in-level.result rows) (sym m.6.count_is)
          (lowest_is m.0 m.1 m.2 m.3 c.args.kit.now m.4 m.5 c.args.levels c.args.held.now.room m.6 c.args.next (view_of c.args.pass.now) rows m.7 c.args.space c.args.page c.args.low m.8 c.rows-rows.ensures.order at is c.level_in-level.result x x_is
          (c.level_in-level.ensures ∙ ap (λ n. cond (nat_lt n x.place.level) (n + 1) x.place.level) m.6.count_is));
      so_far = λ a b thread call v old ready so may. so;
    }

pub table_above-requires : goal.table_above-requires
table_above-requires g c = let high = c.loop-level.invariant.lowest.high in let few = c.requires.levels in omega arith

pub link_next-requires-clause-table : goal.link_next-requires-clause-table
link_next-requires-clause-table g c κs within = c.loop-level.invariant.table ∙ c.requires.table

pub link_next-requires-clause-ready : goal.link_next-requires-clause-ready
link_next-requires-clause-ready g c κs within =
    let m = c.requires.ready in
    let so = c.loop-level.invariant.so_far m.0 m.1 m.2 m.3 m.4 m.5 m.6 m.7 m.8 in
    let lowest = subst (λ n. IsLowest n c.args.space c.args.page c.loop-level.level c.loop-level.held.rows) m.6.count_is c.loop-level.invariant.lowest in (
      m.0,
      m.1,
      m.2,
      m.3,
      m.4,
      m.5,
      subst (λ n. IsLinking c.args.levels n m.0 m.1 m.2 m.3 c.args.kit.now m.4 m.5) (sym c.loop-level.invariant.room) m.6,
      subst (IsNext m.0 m.1 m.2 m.3 c.args.kit.now c.loop-level.done m.4 m.5 (view_of c.loop-level.pass) c.loop-level.held.rows) (sym c.table_above.ensures)
          (is_next m.0 m.1 m.2 m.3 c.args.kit.now m.4 m.5 c.args.levels c.args.held.now.room m.6 c.loop-level.done (view_of c.loop-level.pass) c.loop-level.held.rows so c.args.space c.args.page c.args.low m.8 c.loop-level.level lowest c.loop-level-test.true),
    )

pub overflow_add-done : goal.overflow_add-done
overflow_add-done g c =
    let m = c.requires.ready in
    let so = c.loop-level.invariant.so_far m.0 m.1 m.2 m.3 m.4 m.5 m.6 m.7 m.8 in
    let lowest = subst (λ n. IsLowest n c.args.space c.args.page c.loop-level.level c.loop-level.held.rows) m.6.count_is c.loop-level.invariant.lowest in
    let there = next_there m.0 m.1 m.2 m.3 c.args.kit.now c.loop-level.done m.4 m.5 (view_of c.loop-level.pass) c.loop-level.held.rows (place_of c.args.space (c.loop-level.level - 1) c.args.page)
    (is_next m.0 m.1 m.2 m.3 c.args.kit.now m.4 m.5 c.args.levels c.args.held.now.room m.6 c.loop-level.done (view_of c.loop-level.pass) c.loop-level.held.rows so c.args.space c.args.page c.args.low m.8 c.loop-level.level lowest c.loop-level-test.true) in
    let few = m.6.list.few in
    omega (arith, there, few)

pub loop-level-preserved : goal.loop-level-preserved
loop-level-preserved g c =
    let m = c.requires.ready in
    let list = subst (λ p. LinksNext p c.loop-level.held.rows c.link_next.new.held.rows) c.table_above.ensures c.link_next.ensures.list in
    record {
      table = c.link_next.ensures.table ∙ c.loop-level.invariant.table;
      same = c.link_next.ensures.same ∙ c.loop-level.invariant.same;
      room = c.link_next.ensures.room ∙ c.loop-level.invariant.room;
      kept = λ p l. list.kept p (c.loop-level.invariant.kept p l);
      lowest = (let so = c.loop-level.invariant.so_far m.0 m.1 m.2 m.3 m.4 m.5 m.6 m.7 m.8 in
          let lowest = subst (λ n. IsLowest n c.args.space c.args.page c.loop-level.level c.loop-level.held.rows) m.6.count_is c.loop-level.invariant.lowest in
          subst (λ n. IsLowest n c.args.space c.args.page (c.loop-level.level - 1) c.link_next.new.held.rows) (sym m.6.count_is)
          (lower m.0 m.1 m.2 m.3 c.args.kit.now m.4 m.5 c.args.levels c.args.held.now.room m.6 c.loop-level.done (view_of c.loop-level.pass) c.loop-level.held.rows so c.args.space c.args.page c.args.low m.8 c.loop-level.level lowest c.loop-level-test.true c.link_next.new.held.rows list));
      so_far = λ a b thread call v old ready start may.
          let so = c.loop-level.invariant.so_far a b thread call v old ready start may in
          let lowest = subst (λ n. IsLowest n c.args.space c.args.page c.loop-level.level c.loop-level.held.rows) ready.count_is c.loop-level.invariant.lowest in
          c.link_next.ensures.links a b thread call v old (subst (λ n. IsLinking c.args.levels n a b thread call c.args.kit.now v old) (sym c.loop-level.invariant.room) ready)
          (subst (IsNext a b thread call c.args.kit.now c.loop-level.done v old (view_of c.loop-level.pass) c.loop-level.held.rows) (sym c.table_above.ensures)
          (is_next a b thread call c.args.kit.now v old c.args.levels c.args.held.now.room ready c.loop-level.done (view_of c.loop-level.pass) c.loop-level.held.rows so c.args.space c.args.page c.args.low may c.loop-level.level lowest c.loop-level-test.true));
    }

pub returns-clause-table : goal.returns-clause-table
returns-clause-table g c = c.loop-level.invariant.table

pub returns-clause-same : goal.returns-clause-same
returns-clause-same g c = c.loop-level.invariant.same

pub returns-clause-links : goal.returns-clause-links
returns-clause-links g c = c.loop-level.invariant.so_far

pub returns-clause-kept : goal.returns-clause-kept
returns-clause-kept g c = c.loop-level.invariant.kept

pub returns-clause-room : goal.returns-clause-room
returns-clause-room g c = c.loop-level.invariant.room

pub returns-clause-reached : goal.returns-clause-reached
returns-clause-reached g c =
    let m = c.requires.ready in
    let so = c.loop-level.invariant.so_far m.0 m.1 m.2 m.3 m.4 m.5 m.6 m.7 m.8 in
    let lowest = subst (λ n. IsLowest n c.args.space c.args.page c.loop-level.level c.loop-level.held.rows) m.6.count_is c.loop-level.invariant.lowest in
    reaches m.0 m.1 m.2 m.3 c.args.kit.now m.4 m.5 c.args.levels c.args.held.now.room m.6 c.loop-level.done (view_of c.loop-level.pass) c.loop-level.held.rows so c.args.space c.args.page c.args.low m.8 c.loop-level.level lowest c.loop-level-test.false
