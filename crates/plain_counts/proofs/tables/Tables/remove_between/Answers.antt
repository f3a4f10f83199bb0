use Rattle.std.proofs.Common.{not, ap, sym, subst, ◌<◌, ◌∙◌}
use Rattle.std.specs.FinSet as set
use Rattle.table_place.specs.declared.Place.{Place}
use Rattle.plain_counts.specs.Levels.{is_between}
use Rattle.plain_counts.proofs.Removed.{retain_removed, retain_all, fewer, stays_out}
use Rattle.plain_counts.proofs.tables.Tables.remove_between.Goals as goal

pub loop-place-smaller : goal.loop-place-smaller
loop-place-smaller c = subst (λ s. set.len s < set.len c.loop-place.self) (sym c.remove.ensures) (fewer c.loop-place.self c.in-Some.place c.in-Some.ensures.some.0)

pub loop-place-preserved : goal.loop-place-preserved
loop-place-preserved c =
    let stays = λ (p : Place). not (is_between c.args.low c.args.high p) in
    ap (λ s. set.retain s stays) c.remove.ensures ∙ retain_removed c.loop-place.self c.in-Some.place stays (ap not c.in-Some.ensures.some.1) ∙ c.loop-place.invariant

pub returns : goal.returns
returns c =
    retain_all c.loop-place.self (λ p. not (is_between c.args.low c.args.high p)) (stays_out c.loop-place.self (is_between c.args.low c.args.high) c.in_default.ensures.none) ∙ c.loop-place.invariant
