use Rattle.std.specs.Prelude.{slice_index_or}
use Rattle.std.proofs.Common.{sym, ap, subst, arith, ◌∙◌}
use mathlib.Core.Logic.{dite}
use native.Mathlib.Decide.{ℕ_discrete}
use Rattle.row_table.specs.Passes.{view_of}
use Rattle.row_layout.specs.declared.places.Layout.{Layout}
use Rattle.row_table.proofs.OfTable.{knows_layout}
use Rattle.cursor_detach.proofs.Lists.{any_default}
use Rattle.move_apply.specs.declared.relinking.Pages.{Pages}
use Rattle.move_apply.specs.Remapping.{changed_pages, pages_at, MayLinkPages, ReachesPages}
use Rattle.move_apply.proofs.RemapLinks.{some_change, has_ends, head_may, piece_end, piece_may, still_pages, all_there}
use Rattle.cursor_apply.proofs.StagedStart.{is_linking, started, ended}
use Rattle.move_apply.proofs.relinking.link_remap.Goals as goal

pub index-change-requires : goal.index-change-requires
index-change-requires g c =
    let m = c.requires.ready in
    let some = some_change m.0 m.1 m.2 m.3 (view_of c.args.pass.now) c.args.held.now.rows c.args.kit.now c.args.space m.4 c.requires.done m.5 m.6 in
    let l = c.args.kit.now.changes.ok.0 in
    omega (arith, some, l)

pub changed_pages-pages-requires : goal.changed_pages-pages-requires
changed_pages-pages-requires g c =
    let m = c.requires.ready in
    record { ends = has_ends m.0 m.1 m.2 m.3 (view_of c.args.pass.now) c.args.held.now.rows c.args.kit.now c.args.space m.4 c.requires.done m.5 m.6 c.index-change.result.now c.index-change.ensures }

pub link_pages-begun-requires-clause-levels : goal.link_pages-begun-requires-clause-levels
link_pages-begun-requires-clause-levels g c κs within =
    let m = c.requires.ready in
    let levels_are = sym c.table_levels-levels.ensures.levels ∙ ap (λ (y : Layout). y.levels) (sym (knows_layout c.args.iron.now c.args.pass.now c.requires.table)) in
    let is = is_linking m.0 m.1 m.2 m.3 (view_of c.args.pass.now) c.args.held.now.rows c.args.kit.now m.4 c.requires.done m.5 c.table_levels-levels.result c.args.held.now.room levels_are c.requires.room in
    (let some = is.before.some_levels in let e = is.count_is in omega (arith, some, e), c.table_levels-levels.ensures.few)

pub link_pages-begun-requires-clause-ready : goal.link_pages-begun-requires-clause-ready
link_pages-begun-requires-clause-ready g c κs within =
    let m = c.requires.ready in
    let v = view_of c.args.pass.now in
    let levels_are = sym c.table_levels-levels.ensures.levels ∙ ap (λ (y : Layout). y.levels) (sym (knows_layout c.args.iron.now c.args.pass.now c.requires.table)) in (
      m.0,
      m.1,
      m.2,
      m.3,
      v,
      c.args.held.now.rows,
      is_linking m.0 m.1 m.2 m.3 v c.args.held.now.rows c.args.kit.now m.4 c.requires.done m.5 c.table_levels-levels.result c.args.held.now.room levels_are c.requires.room,
      started m.0 m.1 m.2 m.3 v c.args.held.now.rows c.args.kit.now m.4 c.requires.done m.5,
      head_may m.0 m.1 m.2 m.3 v c.args.held.now.rows c.args.kit.now c.args.space m.4 c.requires.done m.5 m.6 c.index-change.result.now c.changed_pages-pages.result
          (c.index-change.ensures, c.changed_pages-pages.ensures),
    )

pub loop-at-init : goal.loop-at-init
loop-at-init g c =
    let v = view_of c.args.pass.now in
    let levels_are = sym c.table_levels-levels.ensures.levels ∙ ap (λ (y : Layout). y.levels) (sym (knows_layout c.args.iron.now c.args.pass.now c.requires.table)) in
    record {
      table = c.link_pages-begun.ensures.table;
      same = c.link_pages-begun.ensures.same;
      room = c.link_pages-begun.ensures.room;
      so_far = λ a b thread call ready further is.
          c.link_pages-begun.ensures.links a b thread call v c.args.held.now.rows
          (is_linking a b thread call v c.args.held.now.rows c.args.kit.now ready c.requires.done further c.table_levels-levels.result c.args.held.now.room levels_are c.requires.room)
          (started a b thread call v c.args.held.now.rows c.args.kit.now ready c.requires.done further)
          (head_may a b thread call v c.args.held.now.rows c.args.kit.now c.args.space ready c.requires.done further is c.index-change.result.now c.changed_pages-pages.result
          (c.index-change.ensures, c.changed_pages-pages.ensures));
      head = λ d. subst (λ (x : Pages). ReachesPages c.table_levels-levels.result c.args.space x c.link_pages-begun.new.held.rows)
          (c.changed_pages-pages.ensures ∙ ap changed_pages (c.index-change.ensures ∙ any_default c.args.kit.now.changes.items 0 c.index-change.result.now d
          (let m = c.requires.ready in some_change m.0 m.1 m.2 m.3 v c.args.held.now.rows c.args.kit.now c.args.space m.4 c.requires.done m.5 m.6))) c.link_pages-begun.ensures.reached;
      reached = λ k d less. absurd (omega arith);
    }

pub pages_at-there-requires : goal.pages_at-there-requires
pages_at-there-requires g c =
    let m = c.requires.ready in
    let end = piece_end m.0 m.1 m.2 m.3 (view_of c.args.pass.now) c.args.held.now.rows c.args.kit.now c.args.space m.4 c.requires.done m.5 m.6 c.index-change.result.now c.changed_pages-pages.result c.new_place-to.result
    (c.index-change.ensures, c.changed_pages-pages.ensures, c.new_place-to.ensures) c.loop-at.at (let t = c.loop-at-test.true in let l = c.args.kit.now.pieces.ok.0 in omega (arith, t, l)) c.index-piece.result.now c.index-piece.ensures in
    record { end = omega (arith, end) }

pub link_pages-next-requires-clause-table : goal.link_pages-next-requires-clause-table
link_pages-next-requires-clause-table g c κs within = c.loop-at.invariant.table ∙ c.requires.table

pub link_pages-next-requires-clause-levels : goal.link_pages-next-requires-clause-levels
link_pages-next-requires-clause-levels g c κs within =
    let m = c.requires.ready in
    let levels_are = sym c.table_levels-levels.ensures.levels ∙ ap (λ (y : Layout). y.levels) (sym (knows_layout c.args.iron.now c.args.pass.now c.requires.table)) in
    let is = is_linking m.0 m.1 m.2 m.3 (view_of c.args.pass.now) c.args.held.now.rows c.args.kit.now m.4 c.requires.done m.5 c.table_levels-levels.result c.args.held.now.room levels_are c.requires.room in
    (let some = is.before.some_levels in let e = is.count_is in omega (arith, some, e), c.table_levels-levels.ensures.few)

pub link_pages-next-requires-clause-ready : goal.link_pages-next-requires-clause-ready
link_pages-next-requires-clause-ready g c κs within =
    let m = c.requires.ready in
    let v = view_of c.args.pass.now in
    let levels_are = sym c.table_levels-levels.ensures.levels ∙ ap (λ (y : Layout). y.levels) (sym (knows_layout c.args.iron.now c.args.pass.now c.requires.table)) in (
      m.0,
      m.1,
      m.2,
      m.3,
      v,
      c.args.held.now.rows,
      is_linking m.0 m.1 m.2 m.3 v c.args.held.now.rows c.args.kit.now m.4 c.requires.done m.5 c.table_levels-levels.result c.loop-at.held.room levels_are (let room = c.loop-at.invariant.room in let enough = c.requires.room in omega (arith, room, enough)),
      c.loop-at.invariant.so_far m.0 m.1 m.2 m.3 m.4 m.5 m.6,
      subst (MayLinkPages m.0 m.1 c.args.held.now.rows c.args.space) (sym c.pages_at-there.ensures)
          (piece_may m.0 m.1 m.2 m.3 v c.args.held.now.rows c.args.kit.now c.args.space m.4 c.requires.done m.5 m.6 c.index-change.result.now c.changed_pages-pages.result c.new_place-to.result
          (c.index-change.ensures, c.changed_pages-pages.ensures, c.new_place-to.ensures) c.loop-at.at (let t = c.loop-at-test.true in let l = c.args.kit.now.pieces.ok.0 in omega (arith, t, l)) c.index-piece.result.now c.index-piece.ensures),
    )

pub loop-at-preserved : goal.loop-at-preserved
loop-at-preserved g c =
    let v = view_of c.args.pass.now in
    let levels_are = sym c.table_levels-levels.ensures.levels ∙ ap (λ (y : Layout). y.levels) (sym (knows_layout c.args.iron.now c.args.pass.now c.requires.table)) in
    record {
      table = c.link_pages-next.ensures.table ∙ c.loop-at.invariant.table;
      same = c.link_pages-next.ensures.same ∙ c.loop-at.invariant.same;
      room = c.link_pages-next.ensures.room ∙ c.loop-at.invariant.room;
      so_far = λ a b thread call ready further is.
          c.link_pages-next.ensures.links a b thread call v c.args.held.now.rows
          (is_linking a b thread call v c.args.held.now.rows c.args.kit.now ready c.requires.done further c.table_levels-levels.result c.loop-at.held.room levels_are (let room = c.loop-at.invariant.room in let enough = c.requires.room in omega (arith, room, enough)))
          (c.loop-at.invariant.so_far a b thread call ready further is)
          (subst (MayLinkPages a b c.args.held.now.rows c.args.space) (sym c.pages_at-there.ensures)
          (piece_may a b thread call v c.args.held.now.rows c.args.kit.now c.args.space ready c.requires.done further is c.index-change.result.now c.changed_pages-pages.result c.new_place-to.result
          (c.index-change.ensures, c.changed_pages-pages.ensures, c.new_place-to.ensures) c.loop-at.at (let t = c.loop-at-test.true in let l = c.args.kit.now.pieces.ok.0 in omega (arith, t, l)) c.index-piece.result.now c.index-piece.ensures));
      head = λ d. still_pages c.table_levels-levels.result c.args.space (changed_pages (slice_index_or c.args.kit.now.changes.items 0 d)) c.loop-at.held.rows c.link_pages-next.new.held.rows c.link_pages-next.ensures.kept (c.loop-at.invariant.head d);
      reached = λ k d less. dite (ℕ_discrete k c.loop-at.at)
          (λ e. subst (λ (x : Pages). ReachesPages c.table_levels-levels.result c.args.space x c.link_pages-next.new.held.rows)
          (c.pages_at-there.ensures ∙ ap (pages_at c.new_place-to.result) (c.index-piece.ensures ∙ (any_default c.args.kit.now.pieces.items c.loop-at.at c.index-piece.result.now d (let t = c.loop-at-test.true in let l = c.args.kit.now.pieces.ok.0 in omega (arith, t, l))
          ∙ ap (λ n. slice_index_or c.args.kit.now.pieces.items n d) (sym e)))) c.link_pages-next.ensures.reached)
          (λ ne. still_pages c.table_levels-levels.result c.args.space (pages_at c.new_place-to.result (slice_index_or c.args.kit.now.pieces.items k d)) c.loop-at.held.rows c.link_pages-next.new.held.rows c.link_pages-next.ensures.kept
          (c.loop-at.invariant.reached k d (omega arith)));
    }

pub returns-clause-links : goal.returns-clause-links
returns-clause-links g c = λ a b thread call ready further remap.
    let v = view_of c.args.pass.now in
    let rows = c.args.held.now.rows in
    let so = c.loop-at.invariant.so_far a b thread call ready further remap in
    let levels_are = sym c.table_levels-levels.ensures.levels ∙ ap (λ (y : Layout). y.levels) (sym (knows_layout c.args.iron.now c.args.pass.now c.requires.table)) in
    let is = is_linking a b thread call v rows c.args.kit.now ready c.requires.done further c.table_levels-levels.result c.args.held.now.room levels_are c.requires.room in
    let change = c.index-change.result.now in
    ended a b thread call c.args.kit.now c.loop-at.next v rows (view_of c.loop-at.pass) c.loop-at.held.rows so
    (all_there a b thread call v rows c.args.kit.now c.args.space ready c.requires.done further remap change c.changed_pages-pages.result c.new_place-to.result
    (c.index-change.ensures, c.changed_pages-pages.ensures, c.new_place-to.ensures) c.loop-at.next (view_of c.loop-at.pass) c.loop-at.held.rows so
    (subst (λ n. ReachesPages n c.args.space c.changed_pages-pages.result c.loop-at.held.rows) is.count_is
    (subst (λ (x : Pages). ReachesPages c.table_levels-levels.result c.args.space x c.loop-at.held.rows) (sym (c.changed_pages-pages.ensures ∙ ap changed_pages c.index-change.ensures)) (c.loop-at.invariant.head change)))
    (λ k d less. subst (λ n. ReachesPages n c.args.space (pages_at c.new_place-to.result (slice_index_or c.args.kit.now.pieces.items k d)) c.loop-at.held.rows) is.count_is
    (c.loop-at.invariant.reached k d (let over = c.loop-at-test.false in let l = c.args.kit.now.pieces.ok.0 in omega arith))))
