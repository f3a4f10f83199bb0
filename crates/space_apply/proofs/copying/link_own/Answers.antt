use Rattle.std.specs.Prelude.{◌≡◌, ◌<◌, List}
use Rattle.std.specs.List.{Contains}
use Rattle.std.proofs.Common.{sym, subst, arith}
use Rattle.std.proofs.lemmas.List.Elements.{Contains-get_or}
use Rattle.row_table.specs.Passes.{view_of}
use Rattle.machine_plan.specs.HeldRows.{Row}
use Rattle.space_apply.specs.Copying.{IsFirstFilled}
use Rattle.cursor_apply.specs.Linking.{MayLinkPage, ReachesPage}
use Rattle.space_apply.proofs.CopyLinks.{placed_so, source_row, none_own, may_link, linked_own}
use Rattle.space_apply.proofs.copying.link_own.Goals as goal

pub row_at-requires : goal.row_at-requires
row_at-requires g c =
    let m = c.requires.ready in
    subst (λ (l : List Row). (x : Row) × Contains l x × (x.place ≡ c.args.place)) (sym c.rows-rows.ensures.list)
    (source_row c.args.levels c.args.held.now.room m.0 m.1 m.2 m.3 c.args.kit.now c.args.next m.4 m.5 (view_of c.args.pass.now) c.args.held.now.rows c.args.place c.args.space m.6)

pub returns-then-index-eq512-clause-own : goal.returns-then-index-eq512-clause-own
returns-then-index-eq512-clause-own g c = λ a b thread call v rows is.
    let at = c.row_at.ensures in
    let x = at.row in
    let first : IsFirstFilled x.content c.first_filled-index.result = subst (λ (y : Row). IsFirstFilled y.content c.first_filled-index.result) (at.is c.index-rows-row_at.result) c.first_filled-index.ensures in
    none_own c.args.levels c.args.held.now.room a b thread call c.args.kit.now c.args.next v rows (view_of c.args.pass.now) c.args.held.now.rows c.args.place c.args.space is x
    (subst (λ (l : List Row). Contains l x) c.rows-rows.ensures.list (subst (Contains c.rows-rows.result.now) (at.is x) (Contains-get_or c.rows-rows.result.now c.row_at.result x at.inside))) at.place
    (λ i inside filled. first.before i (let e = c.if-index-eq512.true in omega arith) filled)

pub page_at-page-requires-clause-place : goal.page_at-page-requires-clause-place
page_at-page-requires-clause-place g c =
    let m = c.requires.ready in
    placed_so c.args.levels c.args.held.now.room m.0 m.1 m.2 m.3 c.args.kit.now c.args.next m.4 m.5 (view_of c.args.pass.now) c.args.held.now.rows c.args.place c.args.space m.6

pub page_at-page-requires-clause-inside : goal.page_at-page-requires-clause-inside
page_at-page-requires-clause-inside g c = let few = c.first_filled-index.ensures.few in let ne = c.if-index-eq512.false in omega arith

pub link_page-requires-clause-ready : goal.link_page-requires-clause-ready
link_page-requires-clause-ready g c κs within =
    let m = c.requires.ready in
    let at = c.row_at.ensures in
    let x = at.row in
    let first : IsFirstFilled x.content c.first_filled-index.result = subst (λ (y : Row). IsFirstFilled y.content c.first_filled-index.result) (at.is c.index-rows-row_at.result) c.first_filled-index.ensures in
    let inside : c.first_filled-index.result < 512 = (let few = first.few in let ne = c.if-index-eq512.false in omega arith) in
    let there = subst (λ (l : List Row). Contains l x) c.rows-rows.ensures.list (subst (Contains c.rows-rows.result.now) (at.is x) (Contains-get_or c.rows-rows.result.now c.row_at.result x at.inside)) in (
      m.0,
      m.1,
      m.2,
      m.3,
      m.4,
      m.5,
      m.6.linking,
      m.6.so_far,
      subst (λ n. MayLinkPage m.0 m.1 m.5 c.args.space n c.args.place.level) (sym c.page_at-page.ensures)
          (may_link c.args.levels c.args.held.now.room m.0 m.1 m.2 m.3 c.args.kit.now c.args.next m.4 m.5 (view_of c.args.pass.now) c.args.held.now.rows c.args.place c.args.space m.6 x there at.place c.first_filled-index.result inside (first.here inside)),
    )

pub returns-clause-links : goal.returns-clause-links
returns-clause-links g c = λ a b thread call v rows is.
    let at = c.row_at.ensures in
    let x = at.row in
    let first : IsFirstFilled x.content c.first_filled-index.result = subst (λ (y : Row). IsFirstFilled y.content c.first_filled-index.result) (at.is c.index-rows-row_at.result) c.first_filled-index.ensures in
    let inside : c.first_filled-index.result < 512 = (let few = first.few in let ne = c.if-index-eq512.false in omega arith) in
    let there = subst (λ (l : List Row). Contains l x) c.rows-rows.ensures.list (subst (Contains c.rows-rows.result.now) (at.is x) (Contains-get_or c.rows-rows.result.now c.row_at.result x at.inside)) in
    c.link_page.ensures.links a b thread call v rows is.linking is.so_far
    (subst (λ n. MayLinkPage a b rows c.args.space n c.args.place.level) (sym c.page_at-page.ensures)
    (may_link c.args.levels c.args.held.now.room a b thread call c.args.kit.now c.args.next v rows (view_of c.args.pass.now) c.args.held.now.rows c.args.place c.args.space is x there at.place c.first_filled-index.result inside (first.here inside)))

pub returns-clause-own : goal.returns-clause-own
returns-clause-own g c = λ a b thread call v rows is.
    let at = c.row_at.ensures in
    let x = at.row in
    let first : IsFirstFilled x.content c.first_filled-index.result = subst (λ (y : Row). IsFirstFilled y.content c.first_filled-index.result) (at.is c.index-rows-row_at.result) c.first_filled-index.ensures in
    let inside : c.first_filled-index.result < 512 = (let few = first.few in let ne = c.if-index-eq512.false in omega arith) in
    let there = subst (λ (l : List Row). Contains l x) c.rows-rows.ensures.list (subst (Contains c.rows-rows.result.now) (at.is x) (Contains-get_or c.rows-rows.result.now c.row_at.result x at.inside)) in
    linked_own c.args.levels c.args.held.now.room a b thread call c.args.kit.now c.args.next v rows (view_of c.args.pass.now) c.args.held.now.rows c.args.place c.args.space is x there at.place c.first_filled-index.result inside (first.here inside)
    c.link_page.result (view_of c.link_page.new.pass) c.link_page.new.held.rows (returns-clause-links g c a b thread call v rows is)
    (subst (λ n. ReachesPage c.args.space n c.args.place.level c.link_page.new.held.rows) c.page_at-page.ensures c.link_page.ensures.reached)
