use Rattle.std.proofs.Common.{ℕ, sym, subst, Ok, Err}
use Rattle.row_table.specs.Passes.{view_of}
use Rattle.tree_lock.specs.Zone.{IsZone}
use Rattle.tree_lock.specs.Waits.{Waits}
use Rattle.tree_lock.proofs.Covering.{spelled_over, holds_top, fresh_top, in_the_tree, may_release}
use Rattle.tree_lock.proofs.Levels.{levels_after}
use Rattle.tree_lock.proofs.Retries.{first_stage, cover_held}
use Rattle.tree_lock.proofs.waiting.cover.Goals as goal

pub wait_top-requires-clause-zone : goal.wait_top-requires-clause-zone
wait_top-requires-clause-zone g c κs within = subst (λ (n : ℕ). IsZone n c.args.zone.now) c.table_levels-levels.ensures.levels c.requires.zone

pub insert-requires-clause-spelled : goal.insert-requires-clause-spelled
insert-requires-clause-spelled g c = spelled_over _ _ _ _ c.in_ok-top.ensures.waits.1.got.over

pub wait_below-requires-clause-levels : goal.wait_below-requires-clause-levels
wait_below-requires-clause-levels g c κs within = let of = c.table_levels-levels.ensures in levels_after _ (view_of c.args.pass.now) (view_of c.wait_top.new.pass) c.wait_top.ensures.layout c.in_ok-top.ensures.waits.1.same _ of.few of.levels

pub wait_below-requires-clause-zone : goal.wait_below-requires-clause-zone
wait_below-requires-clause-zone g c κs within = subst (λ (n : ℕ). IsZone n c.args.zone.now) c.table_levels-levels.ensures.levels c.requires.zone

pub wait_below-requires-clause-stage : goal.wait_below-requires-clause-stage
wait_below-requires-clause-stage g c κs within = let top = c.in_ok-top.ensures.waits.1 in let zone = subst (λ (n : ℕ). IsZone n c.args.zone.now) c.table_levels-levels.ensures.levels c.requires.zone in
    (top.got.only, first_stage _ _ _ _ c.in_ok-top.top _ _ top zone c.requires.empty c.insert.ensures.inserted)

pub wait_below-requires-clause-at : goal.wait_below-requires-clause-at
wait_below-requires-clause-at g c κs within = holds_top _ _ _ c.in_ok-top.top c.in_ok-top.ensures.waits.1.got

pub wait_below-requires-clause-fresh : goal.wait_below-requires-clause-fresh
wait_below-requires-clause-fresh g c κs within = fresh_top _ _ _ c.in_ok-top.top c.in_ok-top.ensures.waits.1.got

pub returns-clause-waits : goal.returns-clause-waits
returns-clause-waits g c = let w = c.in_ok-top.ensures.waits in let e = c.wait_below.ensures in let levels = c.table_levels-levels.ensures.levels in
    let first = first_stage _ _ _ _ c.in_ok-top.top _ _ w.1 (subst (λ (n : ℕ). IsZone n c.args.zone.now) levels c.requires.zone) c.requires.empty c.insert.ensures.inserted in
    subst (λ (n : ℕ). Waits n c.args.zone.now (view_of c.args.pass.now) (Ok tt) (view_of c.wait_below.new.pass) c.wait_below.new.held.rows) (sym levels)
    (w.0, cover_held _ _ _ _ _ c.in_ok-top.top _ w.1 e.kept e.epoch (e.stage w.1.got.only first) e.grew)

pub returns-clause-release : goal.returns-clause-release
returns-clause-release g c = let top = c.in_ok-top.ensures.waits.1 in
    let first = first_stage _ _ _ _ c.in_ok-top.top _ _ top (subst (λ (n : ℕ). IsZone n c.args.zone.now) c.table_levels-levels.ensures.levels c.requires.zone) c.requires.empty c.insert.ensures.inserted in
    let last = c.wait_below.ensures.stage top.got.only first in let levels = c.table_levels-levels.result in may_release levels g.P.Plan.meaning _ _ last.list (in_the_tree levels _ _ _ _ last)
