use Rattle.std.proofs.Common.{refl, ◌∙◌, ap, arith, ◌+◌}
use Rattle.row_table.specs.declared.view.PassView.{PassView}
use Rattle.row_table.specs.Passes.{view_of, table_of, kit_of}
use Rattle.tree_lock.proofs.Levels.{levels_kept}
use Rattle.tree_lock.proofs.Growing.{met_at, table_of_met, are_there, holds_more, going_start, going_end, barred, stage_barred, stage_child, same_on, kept_barred, kept_child, walked_none, walked_child, walked_same, holds_child, fresh_child}
use Rattle.tree_lock.proofs.below.+take_below.Goals.{in-Nothing, in-Got+in-None}
use Rattle.tree_lock.proofs.below.+take_below.Goals as goal

pub met-entries-requires-clause-met : goal.met-entries-requires-clause-met
met-entries-requires-clause-met g t c = met_at c.args.levels _ c.requires.stage.0 _ _ c.args.at.row c.args.at.place c.requires.stage.1 c.requires.at

pub loop-index-init : goal.loop-index-init
loop-index-init g t c = record {
  table = refl;
  kit = refl;
  room = refl;
  walked = record { kept = refl; epoch = refl; stage = λ top s. s; going = going_start c.args.levels _ c.args.at _ _ _ c.met-entries.ensures.all c.requires.fresh };
}

pub take_child-requires-clause-outside : goal.take_child-requires-clause-outside
take_child-requires-clause-outside g t c κs within = (c.loop-index.invariant.walked.stage c.requires.stage.0 c.requires.stage.1).outside

pub take_child-requires-clause-list : goal.take_child-requires-clause-list
take_child-requires-clause-list g t c κs within = (c.loop-index.invariant.walked.stage c.requires.stage.0 c.requires.stage.1).list

pub take_child-requires-clause-there : goal.take_child-requires-clause-there
take_child-requires-clause-there g t c κs within = are_there c.args.levels _ c.requires.stage.0 _ _ (c.loop-index.invariant.walked.stage c.requires.stage.0 c.requires.stage.1)

pub take_child-requires-clause-at : goal.take_child-requires-clause-at
take_child-requires-clause-at g t c κs within = let going = c.loop-index.invariant.walked.going in holds_more c.args.levels _ _ going.more going.rows c.args.at.row c.args.at.place c.requires.at

pub take_child-requires-clause-place : goal.take_child-requires-clause-place
take_child-requires-clause-place g t c κs within = table_of_met c.args.levels _ c.args.at.place (met_at c.args.levels _ c.requires.stage.0 _ _ c.args.at.row c.args.at.place c.requires.stage.1 c.requires.at)

pub take_child-requires-clause-inside : goal.take_child-requires-clause-inside
take_child-requires-clause-inside g t c κs within = (c.met-entries.ensures.inside c.loop-index.index c.loop-index.auto.index c.loop-index-test.true).0

pub take_child-requires-clause-fresh : goal.take_child-requires-clause-fresh
take_child-requires-clause-fresh g t c κs within = c.loop-index.invariant.walked.going.fresh

pub take_child-requires-clause-room : goal.take_child-requires-clause-room
take_child-requires-clause-room g t c κs within = let k = ap (λ (y : _). y.layout.rows) c.loop-index.invariant.walked.kept in let r = c.loop-index.invariant.room in let n = c.requires.room in omega arith

pub returns-in-Busy-clause-kept : goal.returns-in-Busy-clause-kept
returns-in-Busy-clause-kept g t c = let m = c.in-Busy.ensures.takes in same_on (view_of c.args.pass.now) (view_of c.loop-index.pass) (view_of c.take_child.new.pass) c.loop-index.invariant.walked.kept (kept_barred c.args.levels (view_of c.loop-index.pass) (view_of c.take_child.new.pass) _ _ c.args.at c.loop-index.index c.in-Busy.taken.row c.in-Busy.taken.seat m)

pub returns-in-Busy-clause-epoch : goal.returns-in-Busy-clause-epoch
returns-in-Busy-clause-epoch g t c = ap (λ (y : _). y.epoch) c.in-Busy.ensures.takes.now ∙ c.loop-index.invariant.walked.epoch

pub returns-in-Busy-clause-stage : goal.returns-in-Busy-clause-stage
returns-in-Busy-clause-stage g t c top s = stage_barred c.args.levels _ top _ _ _ _ c.args.at c.loop-index.index c.in-Busy.taken.row c.in-Busy.taken.seat (c.loop-index.invariant.walked.stage top s) c.in-Busy.ensures.takes

pub returns-in-Busy-clause-takes : goal.returns-in-Busy-clause-takes
returns-in-Busy-clause-takes g t c = let going = c.loop-index.invariant.walked.going in let met = c.met-entries.ensures.inside c.loop-index.index c.loop-index.auto.index c.loop-index-test.true in
    barred c.args.levels _ c.requires.stage.0 _ _ _ _ c.args.at c.loop-index.index c.in-Busy.taken.row c.in-Busy.taken.seat (c.loop-index.invariant.walked.stage c.requires.stage.0 c.requires.stage.1) c.in-Busy.ensures.takes
    (holds_more c.args.levels _ _ going.more going.rows c.args.at.row c.args.at.place c.requires.at) met.0 met.1

pub take_below-requires-clause-stage : goal.take_below-requires-clause-stage
take_below-requires-clause-stage g t c κs within = let going = c.loop-index.invariant.walked.going in let met = c.met-entries.ensures.inside c.loop-index.index c.loop-index.auto.index c.loop-index-test.true in
    let table = table_of_met c.args.levels _ c.args.at.place (met_at c.args.levels _ c.requires.stage.0 _ _ c.args.at.row c.args.at.place c.requires.stage.1 c.requires.at) in (
      c.requires.stage.0,
      stage_child c.args.levels _ _ _ _ _ c.args.at c.loop-index.index c.in-Got.child met.0 (holds_more c.args.levels _ _ going.more going.rows c.args.at.row c.args.at.place c.requires.at) c.in-Got.ensures.takes c.requires.stage.0 table met.1
          (c.loop-index.invariant.walked.stage c.requires.stage.0 c.requires.stage.1),
    )

pub take_below-requires-clause-at : goal.take_below-requires-clause-at
take_below-requires-clause-at g t c κs within = let going = c.loop-index.invariant.walked.going in let met = c.met-entries.ensures.inside c.loop-index.index c.loop-index.auto.index c.loop-index-test.true in
    holds_child c.args.levels c.args.zone.now _ _ _ _ c.args.at c.loop-index.index c.in-Got.child met.0 (holds_more c.args.levels _ _ going.more going.rows c.args.at.row c.args.at.place c.requires.at) c.in-Got.ensures.takes

pub take_below-requires-clause-fresh : goal.take_below-requires-clause-fresh
take_below-requires-clause-fresh g t c κs within = let going = c.loop-index.invariant.walked.going in let met = c.met-entries.ensures.inside c.loop-index.index c.loop-index.auto.index c.loop-index-test.true in
    let table = table_of_met c.args.levels _ c.args.at.place (met_at c.args.levels _ c.requires.stage.0 _ _ c.args.at.row c.args.at.place c.requires.stage.1 c.requires.at) in
    fresh_child c.args.levels c.args.zone.now _ _ _ _ c.args.at c.loop-index.index c.in-Got.child met.0 (holds_more c.args.levels _ _ going.more going.rows c.args.at.row c.args.at.place c.requires.at) c.in-Got.ensures.takes c.requires.stage.0
    (c.loop-index.invariant.walked.stage c.requires.stage.0 c.requires.stage.1) table going.fresh

pub returns-in-Some-clause-stage : goal.returns-in-Some-clause-stage
returns-in-Some-clause-stage g t c top s = let going = c.loop-index.invariant.walked.going in let met = c.met-entries.ensures.inside c.loop-index.index c.loop-index.auto.index c.loop-index-test.true in
    let table = table_of_met c.args.levels _ c.args.at.place (met_at c.args.levels _ c.requires.stage.0 _ _ c.args.at.row c.args.at.place c.requires.stage.1 c.requires.at) in
    c.take_below.ensures.stage top (stage_child c.args.levels _ _ _ _ _ c.args.at c.loop-index.index c.in-Got.child met.0 (holds_more c.args.levels _ _ going.more going.rows c.args.at.row c.args.at.place c.requires.at) c.in-Got.ensures.takes top table met.1
    (c.loop-index.invariant.walked.stage top s))

pub loop-index-preserved : goal.loop-index-preserved
loop-index-preserved g t c =
    let inv = c.loop-index.invariant in
    let zone = c.args.zone.now in let at = c.args.at in let i = c.loop-index.index in
    let v : PassView g.row.P-Row.Denot g.row.P-Book.Denot g.row.P-Entry.Denot = view_of c.args.pass.now in
    let w : PassView g.row.P-Row.Denot g.row.P-Book.Denot g.row.P-Entry.Denot = view_of c.loop-index.pass in
    let u : PassView g.row.P-Row.Denot g.row.P-Book.Denot g.row.P-Entry.Denot = view_of c.take_child.new.pass in
    let met = c.met-entries.ensures.inside i c.loop-index.auto.index c.loop-index-test.true in
    let table = table_of_met c.args.levels zone at.place (met_at c.args.levels zone c.requires.stage.0 _ _ at.row at.place c.requires.stage.1 c.requires.at) in
    elim c.match-take_child.branch [
      | in-Nothing b ↦
          let t = b.in-Nothing.ensures.takes in
          let done = walked_none c.args.levels zone at v w u c.args.held.now.rows c.loop-index.held.rows c.take_child.new.held.rows i t.0 inv.walked t.1 t.2 t.3 t.4 in
          record {
            table = ap (λ (p : _). table_of p) b.pass-is ∙ c.take_child.ensures.table ∙ inv.table;
            kit = ap (λ (p : _). kit_of p) b.pass-is ∙ c.take_child.ensures.same ∙ inv.kit;
            room = ap (λ (h : _). h.room) b.held-is ∙ c.take_child.ensures.room ∙ inv.room;
            walked = walked_same c.args.levels zone at v _ u _ _ _ (i + 1) (ap (λ (p : _). view_of p) b.pass-is) (ap (λ (h : _). h.rows) b.held-is) done;
          }
      | in-Got+in-None b ↦
          let t = b.in-Got.ensures.takes in let e = b.take_below.ensures in
          let done = walked_child c.args.levels zone at v w u (view_of b.take_below.new.pass) c.args.held.now.rows c.loop-index.held.rows c.take_child.new.held.rows b.take_below.new.held.rows i b.in-Got.child inv.walked met.0 table c.requires.at met.1 t e.kept e.epoch e.stage b.in-None.ensures.takes in
          record {
            table = ap (λ (p : _). table_of p) b.pass-is ∙ e.table ∙ c.take_child.ensures.table ∙ inv.table;
            kit = ap (λ (p : _). kit_of p) b.pass-is ∙ e.same ∙ c.take_child.ensures.same ∙ inv.kit;
            room = ap (λ (h : _). h.room) b.held-is ∙ e.room ∙ c.take_child.ensures.room ∙ inv.room;
            walked = walked_same c.args.levels zone at v _ (view_of b.take_below.new.pass) _ _ _ (i + 1) (ap (λ (p : _). view_of p) b.pass-is) (ap (λ (h : _). h.rows) b.held-is) done;
          }
    ]

pub returns-clause-takes : goal.returns-clause-takes
returns-clause-takes g t c = going_end c.args.levels _ c.args.at _ _ c.loop-index.index _ _ c.loop-index.invariant.walked.going c.loop-index-test.false c.met-entries.ensures.all

pub take_child-requires-clause-table : goal.take_child-requires-clause-table
take_child-requires-clause-table g t c κs within = c.loop-index.invariant.table ∙ c.requires.table

pub take_child-requires-clause-levels : goal.take_child-requires-clause-levels
take_child-requires-clause-levels g t c κs within = levels_kept c.args.levels (view_of c.args.pass.now) (view_of c.loop-index.pass) c.loop-index.invariant.walked.kept c.requires.levels

pub take_below-requires-clause-table : goal.take_below-requires-clause-table
take_below-requires-clause-table g t c κs within = c.take_child.ensures.table ∙ c.loop-index.invariant.table ∙ c.requires.table

pub take_below-requires-clause-levels : goal.take_below-requires-clause-levels
take_below-requires-clause-levels g t c κs within = let old = levels_kept c.args.levels (view_of c.args.pass.now) (view_of c.loop-index.pass) c.loop-index.invariant.walked.kept c.requires.levels in
    (old.0, ap (λ (y : _). y.layout.levels) c.in-Got.ensures.takes.now ∙ old.1)

pub returns-in-Busy-clause-table : goal.returns-in-Busy-clause-table
returns-in-Busy-clause-table g t c = c.take_child.ensures.table ∙ c.loop-index.invariant.table

pub returns-in-Busy-clause-same : goal.returns-in-Busy-clause-same
returns-in-Busy-clause-same g t c = c.take_child.ensures.same ∙ c.loop-index.invariant.kit

pub returns-in-Some-clause-table : goal.returns-in-Some-clause-table
returns-in-Some-clause-table g t c = c.take_below.ensures.table ∙ c.take_child.ensures.table ∙ c.loop-index.invariant.table

pub returns-in-Some-clause-same : goal.returns-in-Some-clause-same
returns-in-Some-clause-same g t c = c.take_below.ensures.same ∙ c.take_child.ensures.same ∙ c.loop-index.invariant.kit

pub returns-in-Some-clause-kept : goal.returns-in-Some-clause-kept
returns-in-Some-clause-kept g t c = let now = same_on (view_of c.args.pass.now) (view_of c.loop-index.pass) (view_of c.take_child.new.pass) c.loop-index.invariant.walked.kept (kept_child c.args.levels (view_of c.loop-index.pass) (view_of c.take_child.new.pass) _ _ c.args.at c.loop-index.index c.in-Got.child c.in-Got.ensures.takes) in
    same_on (view_of c.args.pass.now) (view_of c.take_child.new.pass) (view_of c.take_below.new.pass) now c.take_below.ensures.kept

pub returns-in-Some-clause-epoch : goal.returns-in-Some-clause-epoch
returns-in-Some-clause-epoch g t c = c.take_below.ensures.epoch ∙ ap (λ (y : _). y.epoch) c.in-Got.ensures.takes.now ∙ c.loop-index.invariant.walked.epoch
