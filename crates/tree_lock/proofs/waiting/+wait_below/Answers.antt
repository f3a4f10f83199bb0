use Rattle.std.proofs.Common.{refl, ◌∙◌, ap, arith, ◌+◌}
use Rattle.row_table.specs.declared.view.PassView.{PassView}
use Rattle.row_table.specs.Passes.{view_of, table_of, kit_of}
use Rattle.tree_lock.specs.Waits.{has_found}
use Rattle.tree_lock.proofs.Levels.{levels_kept}
use Rattle.tree_lock.proofs.Growing.{met_at, table_of_met, are_there, holds_more, going_start, going_end, stage_child, walked_none, walked_child, walked_same, holds_child, fresh_child}
use Rattle.tree_lock.proofs.Retries.{walked_found}
use Rattle.tree_lock.proofs.waiting.+wait_below.Goals.{in-None, in-Some}
use Rattle.tree_lock.proofs.waiting.+wait_below.Goals as goal

pub met-entries-requires-clause-met : goal.met-entries-requires-clause-met
met-entries-requires-clause-met g t c = met_at c.args.levels _ c.requires.stage.0 _ _ c.args.at.row c.args.at.place c.requires.stage.1 c.requires.at

pub loop-index-init : goal.loop-index-init
loop-index-init g t c = record {
  table = refl;
  kit = refl;
  room = refl;
  walked = record { kept = refl; epoch = refl; stage = λ top s. s; going = going_start c.args.levels _ c.args.at _ _ _ c.met-entries.ensures.all c.requires.fresh };
}

pub wait_child-requires-clause-outside : goal.wait_child-requires-clause-outside
wait_child-requires-clause-outside g t c κs within = (c.loop-index.invariant.walked.stage c.requires.stage.0 c.requires.stage.1).outside

pub wait_child-requires-clause-list : goal.wait_child-requires-clause-list
wait_child-requires-clause-list g t c κs within = (c.loop-index.invariant.walked.stage c.requires.stage.0 c.requires.stage.1).list

pub wait_child-requires-clause-there : goal.wait_child-requires-clause-there
wait_child-requires-clause-there g t c κs within = are_there c.args.levels _ c.requires.stage.0 _ _ (c.loop-index.invariant.walked.stage c.requires.stage.0 c.requires.stage.1)

pub wait_child-requires-clause-at : goal.wait_child-requires-clause-at
wait_child-requires-clause-at g t c κs within = let going = c.loop-index.invariant.walked.going in holds_more c.args.levels _ _ going.more going.rows c.args.at.row c.args.at.place c.requires.at

pub wait_child-requires-clause-place : goal.wait_child-requires-clause-place
wait_child-requires-clause-place g t c κs within = table_of_met c.args.levels _ c.args.at.place (met_at c.args.levels _ c.requires.stage.0 _ _ c.args.at.row c.args.at.place c.requires.stage.1 c.requires.at)

pub wait_child-requires-clause-inside : goal.wait_child-requires-clause-inside
wait_child-requires-clause-inside g t c κs within = (c.met-entries.ensures.inside c.loop-index.index c.loop-index.auto.index c.loop-index-test.true).0

pub wait_child-requires-clause-fresh : goal.wait_child-requires-clause-fresh
wait_child-requires-clause-fresh g t c κs within = c.loop-index.invariant.walked.going.fresh

pub wait_child-requires-clause-room : goal.wait_child-requires-clause-room
wait_child-requires-clause-room g t c κs within = let k = ap (λ (y : _). y.layout.rows) c.loop-index.invariant.walked.kept in let r = c.loop-index.invariant.room in let n = c.requires.room in omega arith

pub returns-clause-grew : goal.returns-clause-grew
returns-clause-grew g t c = going_end c.args.levels _ c.args.at _ _ c.loop-index.index _ _ c.loop-index.invariant.walked.going c.loop-index-test.false c.met-entries.ensures.all

pub wait_below-requires-clause-stage : goal.wait_below-requires-clause-stage
wait_below-requires-clause-stage g t c κs within = let met = c.met-entries.ensures.inside c.loop-index.index c.loop-index.auto.index c.loop-index-test.true in
    let table = table_of_met c.args.levels _ c.args.at.place (met_at c.args.levels _ c.requires.stage.0 _ _ c.args.at.row c.args.at.place c.requires.stage.1 c.requires.at) in
    let found = walked_found c.args.levels c.args.zone.now c.args.at (view_of c.args.pass.now) (view_of c.loop-index.pass) c.in-Some.ensures.waits.0 _ _ _ c.loop-index.invariant.walked in (
      c.requires.stage.0,
      stage_child c.args.levels _ _ _ _ _ c.args.at c.loop-index.index c.in-Some.child met.0 (holds_more c.args.levels _ _ found.going.more found.going.rows c.args.at.row c.args.at.place c.requires.at) c.in-Some.ensures.waits.1 c.requires.stage.0 table met.1
          (found.stage c.requires.stage.0 c.requires.stage.1),
    )

pub wait_below-requires-clause-at : goal.wait_below-requires-clause-at
wait_below-requires-clause-at g t c κs within = let met = c.met-entries.ensures.inside c.loop-index.index c.loop-index.auto.index c.loop-index-test.true in
    let found = walked_found c.args.levels c.args.zone.now c.args.at (view_of c.args.pass.now) (view_of c.loop-index.pass) c.in-Some.ensures.waits.0 _ _ _ c.loop-index.invariant.walked in
    holds_child c.args.levels c.args.zone.now _ _ _ _ c.args.at c.loop-index.index c.in-Some.child met.0 (holds_more c.args.levels _ _ found.going.more found.going.rows c.args.at.row c.args.at.place c.requires.at) c.in-Some.ensures.waits.1

pub wait_below-requires-clause-fresh : goal.wait_below-requires-clause-fresh
wait_below-requires-clause-fresh g t c κs within = let met = c.met-entries.ensures.inside c.loop-index.index c.loop-index.auto.index c.loop-index-test.true in
    let table = table_of_met c.args.levels _ c.args.at.place (met_at c.args.levels _ c.requires.stage.0 _ _ c.args.at.row c.args.at.place c.requires.stage.1 c.requires.at) in
    let found = walked_found c.args.levels c.args.zone.now c.args.at (view_of c.args.pass.now) (view_of c.loop-index.pass) c.in-Some.ensures.waits.0 _ _ _ c.loop-index.invariant.walked in
    fresh_child c.args.levels c.args.zone.now _ _ _ _ c.args.at c.loop-index.index c.in-Some.child met.0 (holds_more c.args.levels _ _ found.going.more found.going.rows c.args.at.row c.args.at.place c.requires.at) c.in-Some.ensures.waits.1 c.requires.stage.0
    (found.stage c.requires.stage.0 c.requires.stage.1) table found.going.fresh

pub loop-index-preserved : goal.loop-index-preserved
loop-index-preserved g t c =
    let inv = c.loop-index.invariant in
    let zone = c.args.zone.now in let at = c.args.at in let i = c.loop-index.index in
    let v : PassView g.row.P-Row.Denot g.row.P-Book.Denot g.row.P-Entry.Denot = view_of c.args.pass.now in
    let w : PassView g.row.P-Row.Denot g.row.P-Book.Denot g.row.P-Entry.Denot = view_of c.loop-index.pass in
    let u : PassView g.row.P-Row.Denot g.row.P-Book.Denot g.row.P-Entry.Denot = view_of c.wait_child.new.pass in
    let met = c.met-entries.ensures.inside i c.loop-index.auto.index c.loop-index-test.true in
    let table = table_of_met c.args.levels zone at.place (met_at c.args.levels zone c.requires.stage.0 _ _ at.row at.place c.requires.stage.1 c.requires.at) in
    elim c.match-wait_child.branch [
      | in-None b ↦
          let t = b.in-None.ensures.waits in
          let found = walked_found c.args.levels zone at v w t.0 c.args.held.now.rows c.loop-index.held.rows i inv.walked in
          let done = walked_none c.args.levels zone at v (has_found w t.0) u c.args.held.now.rows c.loop-index.held.rows c.wait_child.new.held.rows i t.1.0 found t.1.1 t.1.2 t.1.3 t.1.4 in
          record {
            table = ap (λ (p : _). table_of p) b.pass-is ∙ c.wait_child.ensures.table ∙ inv.table;
            kit = ap (λ (p : _). kit_of p) b.pass-is ∙ c.wait_child.ensures.same ∙ inv.kit;
            room = ap (λ (h : _). h.room) b.held-is ∙ c.wait_child.ensures.room ∙ inv.room;
            walked = walked_same c.args.levels zone at v _ u _ _ _ (i + 1) (ap (λ (p : _). view_of p) b.pass-is) (ap (λ (h : _). h.rows) b.held-is) done;
          }
      | in-Some b ↦
          let t = b.in-Some.ensures.waits in let e = b.wait_below.ensures in
          let found = walked_found c.args.levels zone at v w t.0 c.args.held.now.rows c.loop-index.held.rows i inv.walked in
          let done = walked_child c.args.levels zone at v (has_found w t.0) u (view_of b.wait_below.new.pass) c.args.held.now.rows c.loop-index.held.rows c.wait_child.new.held.rows b.wait_below.new.held.rows i b.in-Some.child found met.0 table c.requires.at met.1 t.1 e.kept e.epoch e.stage e.grew in
          record {
            table = ap (λ (p : _). table_of p) b.pass-is ∙ e.table ∙ c.wait_child.ensures.table ∙ inv.table;
            kit = ap (λ (p : _). kit_of p) b.pass-is ∙ e.same ∙ c.wait_child.ensures.same ∙ inv.kit;
            room = ap (λ (h : _). h.room) b.held-is ∙ e.room ∙ c.wait_child.ensures.room ∙ inv.room;
            walked = walked_same c.args.levels zone at v _ (view_of b.wait_below.new.pass) _ _ _ (i + 1) (ap (λ (p : _). view_of p) b.pass-is) (ap (λ (h : _). h.rows) b.held-is) done;
          }
    ]

pub wait_child-requires-clause-table : goal.wait_child-requires-clause-table
wait_child-requires-clause-table g t c κs within = c.loop-index.invariant.table ∙ c.requires.table

pub wait_child-requires-clause-levels : goal.wait_child-requires-clause-levels
wait_child-requires-clause-levels g t c κs within = levels_kept c.args.levels (view_of c.args.pass.now) (view_of c.loop-index.pass) c.loop-index.invariant.walked.kept c.requires.levels

pub wait_below-requires-clause-table : goal.wait_below-requires-clause-table
wait_below-requires-clause-table g t c κs within = c.wait_child.ensures.table ∙ c.loop-index.invariant.table ∙ c.requires.table

pub wait_below-requires-clause-levels : goal.wait_below-requires-clause-levels
wait_below-requires-clause-levels g t c κs within = let old = levels_kept c.args.levels (view_of c.args.pass.now) (view_of c.loop-index.pass) c.loop-index.invariant.walked.kept c.requires.levels in
    (old.0, ap (λ (y : _). y.layout.levels) c.in-Some.ensures.waits.1.now ∙ old.1)
