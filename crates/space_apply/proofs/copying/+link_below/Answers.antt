use Rattle.std.specs.Prelude.{◌≡◌, ◌<◌, ◌+◌, List, slice_index_or}
use Rattle.std.specs.List.{Contains}
use Rattle.std.proofs.Common.{sym, ap, subst, arith, ◌∙◌}
use Rattle.std.proofs.lemmas.List.Elements.{Contains-get_or}
use Rattle.row_table.specs.Passes.{view_of, kit_of, table_of}
use Rattle.page_map.specs.State.{levels}
use Rattle.machine_plan.specs.Books.{state_of}
use Rattle.machine_plan.specs.Held.{ListHolds}
use Rattle.machine_plan.specs.HeldRows.{Row}
use Rattle.space_apply.specs.Copying.{LeadsOn, HasOwn, HasCopiesTo}
use Rattle.space_apply.proofs.CopyLinks.{placed_so, prefix_low, source_row, is_child, no_copies, more_copies, same_copies, all_copies, no_link, going_on, so_same, own_kept}
use Rattle.space_apply.proofs.copying.+link_below.Goals.{then-leads_on, else-leads_on}
use Rattle.space_apply.proofs.copying.+link_below.Goals as goal

pub loop-index-init : goal.loop-index-init
loop-index-init g t c = record {
  table = c.link_own-done.ensures.table;
  same = c.link_own-done.ensures.same;
  room = c.link_own-done.ensures.room;
  kept = c.link_own-done.ensures.kept;
  links = c.link_own-done.ensures.links;
  own = c.link_own-done.ensures.own;
  copied = λ a b thread call v rows is.
      no_copies c.args.levels c.link_own-done.new.held.room a b thread call c.args.kit.now c.link_own-done.result v rows (view_of c.link_own-done.new.pass) c.link_own-done.new.held.rows c.args.place c.args.space
      (going_on a b thread call c.args.kit.now v rows c.args.levels c.args.held.now.room c.args.next (view_of c.args.pass.now) c.args.held.now.rows c.args.place c.args.space is
      c.link_own-done.new.held.room c.link_own-done.result (view_of c.link_own-done.new.pass) c.link_own-done.new.held.rows c.link_own-done.ensures.room (c.link_own-done.ensures.links a b thread call v rows is));
}

pub row_again-at-requires : goal.row_again-at-requires
row_again-at-requires g t c =
    let m = c.requires.ready in
    let inv = c.loop-index.invariant in
    let is = going_on m.0 m.1 m.2 m.3 c.args.kit.now m.4 m.5 c.args.levels c.args.held.now.room c.args.next (view_of c.args.pass.now) c.args.held.now.rows c.args.place c.args.space m.6
    c.loop-index.held.room c.loop-index.done (view_of c.loop-index.pass) c.loop-index.held.rows inv.room (inv.links m.0 m.1 m.2 m.3 m.4 m.5 m.6) in
    subst (λ (l : List Row). (x : Row) × Contains l x × (x.place ≡ c.args.place)) (sym c.rows.ensures.list)
    (source_row c.args.levels c.loop-index.held.room m.0 m.1 m.2 m.3 c.args.kit.now c.loop-index.done m.4 m.5 (view_of c.loop-index.pass) c.loop-index.held.rows c.args.place c.args.space is)

pub table_below-child-requires-clause-small : goal.table_below-child-requires-clause-small
table_below-child-requires-clause-small g t c =
    let m = c.requires.ready in
    let low = prefix_low c.args.levels c.args.place c.requires.levels (placed_so c.args.levels c.args.held.now.room m.0 m.1 m.2 m.3 c.args.kit.now c.args.next m.4 m.5 (view_of c.args.pass.now) c.args.held.now.rows c.args.place c.args.space m.6) c.loop-index.index (let e = c.loop-index-test.true in omega arith) in
    omega (arith, low)

pub link_below-done-requires-clause-ready : goal.link_below-done-requires-clause-ready
link_below-done-requires-clause-ready g t c κs within =
    let m = c.requires.ready in
    let inv = c.loop-index.invariant in
    let is = going_on m.0 m.1 m.2 m.3 c.args.kit.now m.4 m.5 c.args.levels c.args.held.now.room c.args.next (view_of c.args.pass.now) c.args.held.now.rows c.args.place c.args.space m.6
    c.loop-index.held.room c.loop-index.done (view_of c.loop-index.pass) c.loop-index.held.rows inv.room (inv.links m.0 m.1 m.2 m.3 m.4 m.5 m.6) in
    let at = c.row_again-at.ensures in
    let x = at.row in
    let leads : LeadsOn x.content c.loop-index.index c.leads_on.result = subst (λ (y : Row). LeadsOn y.content c.loop-index.index c.leads_on.result)
    (ap (λ (l : List Row). slice_index_or l c.row_again-at.result c.index-rows-at.result) (c.rows-in-loop-index.ensures.list ∙ sym c.rows.ensures.list) ∙ at.is c.index-rows-at.result) c.leads_on.ensures.leads in
    let there = subst (λ (l : List Row). Contains l x) c.rows.ensures.list (subst (Contains c.rows.result.now) (at.is x) (Contains-get_or c.rows.result.now c.row_again-at.result x at.inside)) in (
      m.0,
      m.1,
      m.2,
      m.3,
      m.4,
      m.5,
      is_child c.args.levels c.loop-index.held.room m.0 m.1 m.2 m.3 c.args.kit.now c.loop-index.done m.4 m.5 (view_of c.loop-index.pass) c.loop-index.held.rows c.args.place c.args.space is x there at.place
          c.loop-index.index (let e = c.loop-index-test.true in omega arith) leads.cell leads.there (sym leads.is ∙ c.if-leads_on.true) c.table_below-child.result (c.table_below-child.ensures.below (levels (state_of m.0))),
    )

pub loop-index-preserved : goal.loop-index-preserved
loop-index-preserved g t c =
    let inv = c.loop-index.invariant in
    let at = c.row_again-at.ensures in
    let x = at.row in
    let inside : c.loop-index.index < 512 = (let e = c.loop-index-test.true in omega arith) in
    let leads : LeadsOn x.content c.loop-index.index c.leads_on.result = subst (λ (y : Row). LeadsOn y.content c.loop-index.index c.leads_on.result)
    (ap (λ (l : List Row). slice_index_or l c.row_again-at.result c.index-rows-at.result) (c.rows-in-loop-index.ensures.list ∙ sym c.rows.ensures.list) ∙ at.is c.index-rows-at.result) c.leads_on.ensures.leads in
    let there = subst (λ (l : List Row). Contains l x) c.rows.ensures.list (subst (Contains c.rows.result.now) (at.is x) (Contains-get_or c.rows.result.now c.row_again-at.result x at.inside)) in
    elim c.if-leads_on.branch [
      | then-leads_on w ↦
          let e = w.link_below-done.ensures in
          let list = ap (λ (h : _). h.rows) w.held-is in
          record {
            table = ap (λ (p : _). table_of p) w.pass-is ∙ e.table ∙ inv.table;
            same = ap (λ (p : _). kit_of p) w.pass-is ∙ e.same ∙ inv.same;
            room = ap (λ (h : _). h.room) w.held-is ∙ e.room ∙ inv.room;
            kept = λ p l. subst (λ (r : List Row). ListHolds r p) (sym list) (e.kept p (inv.kept p l));
            links = λ a b thread call v rows is.
                let now = going_on a b thread call c.args.kit.now v rows c.args.levels c.args.held.now.room c.args.next (view_of c.args.pass.now) c.args.held.now.rows c.args.place c.args.space is
                c.loop-index.held.room c.loop-index.done (view_of c.loop-index.pass) c.loop-index.held.rows inv.room (inv.links a b thread call v rows is) in
                so_same a b thread call c.args.kit.now v rows w.link_below-done.result c.if-leads_on.done (view_of w.link_below-done.new.pass) (view_of c.if-leads_on.pass) w.link_below-done.new.held.rows c.if-leads_on.held.rows w.done-is (ap (λ (p : _). view_of p) w.pass-is) list
                (e.links a b thread call v rows (is_child c.args.levels c.loop-index.held.room a b thread call c.args.kit.now c.loop-index.done v rows (view_of c.loop-index.pass) c.loop-index.held.rows c.args.place c.args.space now x there at.place
                c.loop-index.index inside leads.cell leads.there (sym leads.is ∙ w.if-leads_on.true) w.table_below-child.result (w.table_below-child.ensures.below (levels (state_of a)))));
            own = λ a b thread call v rows is. subst (HasOwn (state_of a) c.args.place c.args.space) (sym list) (own_kept (state_of a) c.args.place c.args.space c.loop-index.held.rows w.link_below-done.new.held.rows e.kept (inv.own a b thread call v rows is));
            copied = λ a b thread call v rows is.
                let now = going_on a b thread call c.args.kit.now v rows c.args.levels c.args.held.now.room c.args.next (view_of c.args.pass.now) c.args.held.now.rows c.args.place c.args.space is
                c.loop-index.held.room c.loop-index.done (view_of c.loop-index.pass) c.loop-index.held.rows inv.room (inv.links a b thread call v rows is) in
                let child = is_child c.args.levels c.loop-index.held.room a b thread call c.args.kit.now c.loop-index.done v rows (view_of c.loop-index.pass) c.loop-index.held.rows c.args.place c.args.space now x there at.place
                c.loop-index.index inside leads.cell leads.there (sym leads.is ∙ w.if-leads_on.true) w.table_below-child.result (w.table_below-child.ensures.below (levels (state_of a))) in
                subst (HasCopiesTo (state_of a) c.args.place c.args.space (c.loop-index.index + 1)) (sym list)
                (more_copies c.args.levels c.loop-index.held.room a b thread call c.args.kit.now c.loop-index.done v rows (view_of c.loop-index.pass) c.loop-index.held.rows c.args.place c.args.space now c.loop-index.index inside
                w.table_below-child.result (w.table_below-child.ensures.below (levels (state_of a))) w.link_below-done.new.held.rows e.kept (inv.copied a b thread call v rows is) (e.copied a b thread call v rows child));
          }
      | else-leads_on w ↦
          let list = ap (λ (h : _). h.rows) w.held-is in
          record {
            table = ap (λ (p : _). table_of p) w.pass-is ∙ inv.table;
            same = ap (λ (p : _). kit_of p) w.pass-is ∙ inv.same;
            room = ap (λ (h : _). h.room) w.held-is ∙ inv.room;
            kept = λ p l. subst (λ (r : List Row). ListHolds r p) (sym list) (inv.kept p l);
            links = λ a b thread call v rows is.
                so_same a b thread call c.args.kit.now v rows c.loop-index.done c.if-leads_on.done (view_of c.loop-index.pass) (view_of c.if-leads_on.pass) c.loop-index.held.rows c.if-leads_on.held.rows w.done-is (ap (λ (p : _). view_of p) w.pass-is) list (inv.links a b thread call v rows is);
            own = λ a b thread call v rows is. subst (HasOwn (state_of a) c.args.place c.args.space) (sym list) (inv.own a b thread call v rows is);
            copied = λ a b thread call v rows is.
                let now = going_on a b thread call c.args.kit.now v rows c.args.levels c.args.held.now.room c.args.next (view_of c.args.pass.now) c.args.held.now.rows c.args.place c.args.space is
                c.loop-index.held.room c.loop-index.done (view_of c.loop-index.pass) c.loop-index.held.rows inv.room (inv.links a b thread call v rows is) in
                subst (HasCopiesTo (state_of a) c.args.place c.args.space (c.loop-index.index + 1)) (sym list)
                (same_copies c.args.levels c.loop-index.held.room a b thread call c.args.kit.now c.loop-index.done v rows (view_of c.loop-index.pass) c.loop-index.held.rows c.args.place c.args.space now c.loop-index.index inside
                (no_link c.args.levels c.loop-index.held.room a b thread call c.args.kit.now c.loop-index.done v rows (view_of c.loop-index.pass) c.loop-index.held.rows c.args.place c.args.space now c.loop-index.index inside x there at.place leads.cell leads.there (sym leads.is ∙ w.if-leads_on.false))
                (inv.copied a b thread call v rows is));
          }
    ]

pub returns-clause-copied : goal.returns-clause-copied
returns-clause-copied g t c = λ a b thread call v rows is.
    let inv = c.loop-index.invariant in
    all_copies c.args.levels c.loop-index.held.room a b thread call c.args.kit.now c.loop-index.done v rows (view_of c.loop-index.pass) c.loop-index.held.rows c.args.place c.args.space
    (going_on a b thread call c.args.kit.now v rows c.args.levels c.args.held.now.room c.args.next (view_of c.args.pass.now) c.args.held.now.rows c.args.place c.args.space is
    c.loop-index.held.room c.loop-index.done (view_of c.loop-index.pass) c.loop-index.held.rows inv.room (inv.links a b thread call v rows is))
    (inv.own a b thread call v rows is)
    (subst (λ n. HasCopiesTo (state_of a) c.args.place c.args.space n c.loop-index.held.rows) (let e = c.loop-index-test.false in let f = c.loop-index.auto.index-end in omega arith) (inv.copied a b thread call v rows is))
