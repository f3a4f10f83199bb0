use Rattle.std.specs.Prelude.{◌≡◌, true, ◌≤◌, List}
use Rattle.std.specs.List.{Contains}
use Rattle.std.proofs.Common.{sym, subst}
use Rattle.table_place.specs.Place.{has_page}
use Rattle.row_table.specs.Passes.{view_of}
use Rattle.machine_plan.specs.Books.{state_of}
use Rattle.machine_plan.specs.HeldRows.{Row}
use Rattle.page_map.specs.State.{levels}
use Rattle.range_apply.specs.Ends.{IsEndLevel}
use Rattle.cursor_apply.proofs.AbovePages.{levels_low, some_row}
use Rattle.range_apply.proofs.EndRows.{end_may_link, end_reaches}
use Rattle.range_apply.proofs.ends.link_end.Goals as goal

pub end_level-low-requires-clause-levels : goal.end_level-low-requires-clause-levels
end_level-low-requires-clause-levels g c =
    let m = c.requires.ready in
    subst (λ (l : List Row). (x : Row) → Contains l x → x.place.level ≤ 6) (sym c.rows.ensures.list)
    (levels_low m.0 m.1 m.2 m.3 c.args.kit.now m.4 m.5 c.args.levels c.args.held.now.room m.6 c.args.next (view_of c.args.pass.now) c.args.held.now.rows m.7 c.args.space c.args.page (levels (state_of m.0)) m.8.top)

pub end_level-low-requires-clause-some : goal.end_level-low-requires-clause-some
end_level-low-requires-clause-some g c =
    let m = c.requires.ready in
    subst (λ (l : List Row). (x : Row) × Contains l x × (has_page x.place c.args.space c.args.page ≡ true)) (sym c.rows.ensures.list)
    (some_row m.0 m.1 m.2 m.3 c.args.kit.now m.4 m.5 c.args.levels c.args.held.now.room m.6 c.args.next (view_of c.args.pass.now) c.args.held.now.rows m.7 c.args.space c.args.page (levels (state_of m.0)) m.8.top)

pub link_page-requires-clause-ready : goal.link_page-requires-clause-ready
link_page-requires-clause-ready g c κs within =
    let m = c.requires.ready in
    let rows = c.args.held.now.rows in
    let is = subst (λ (l : List Row). IsEndLevel c.args.levels c.args.space c.args.page c.args.edge c.args.change l c.end_level-low.result) c.rows.ensures.list c.end_level-low.ensures in (
      m.0,
      m.1,
      m.2,
      m.3,
      m.4,
      m.5,
      m.6,
      m.7,
      end_may_link m.0 m.1 m.2 m.3 c.args.kit.now m.4 m.5 c.args.levels c.args.held.now.room m.6 c.args.next (view_of c.args.pass.now) rows m.7 c.args.space c.args.page c.args.edge c.args.change m.8 c.rows.ensures.order c.end_level-low.result is,
    )

pub returns-clause-links : goal.returns-clause-links
returns-clause-links g c = λ a b thread call v old ready so may.
    let rows = c.args.held.now.rows in
    let is = subst (λ (l : List Row). IsEndLevel c.args.levels c.args.space c.args.page c.args.edge c.args.change l c.end_level-low.result) c.rows.ensures.list c.end_level-low.ensures in
    let may_link = end_may_link a b thread call c.args.kit.now v old c.args.levels c.args.held.now.room ready c.args.next (view_of c.args.pass.now) rows so c.args.space c.args.page c.args.edge c.args.change may c.rows.ensures.order c.end_level-low.result is in
    let after = c.link_page.ensures.links a b thread call v old ready so may_link in (
      after,
      end_reaches a b thread call c.args.kit.now v old c.args.levels c.args.held.now.room ready c.args.next (view_of c.args.pass.now) rows so c.args.space c.args.page c.args.edge c.args.change may c.rows.ensures.order c.end_level-low.result is
          c.link_page.result (view_of c.link_page.new.pass) c.link_page.new.held.rows after c.link_page.ensures.reached c.link_page.ensures.kept,
    )
