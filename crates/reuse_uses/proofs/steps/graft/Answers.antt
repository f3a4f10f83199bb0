use Rattle.std.proofs.Common.{ℕ, ◌+◌, ◌*◌, ap}
use Rattle.reuse_uses.proofs.Roots.{may_prepare, may_link_one, link_one}
use Rattle.reuse_uses.proofs.steps.graft.Goals as goal

pub set_up-requires-clause-guard : goal.set_up-requires-clause-guard
set_up-requires-clause-guard c κs = may_prepare _ _ _ c.requires.grant

pub set_entry-requires-clause-guard : goal.set_entry-requires-clause-guard
set_entry-requires-clause-guard c κs = let o = c.open_row-cells.ensures.opens in
    may_link_one _ _ _ _ _ _ c.requires.grant c.set_up.ensures.sets_up o.0 o.2 (ap (λ (n : ℕ). 519 + 4096 * n + 4194304 * c.args.generation) c.from.ensures)

pub returns-clause-graft : goal.returns-clause-graft
returns-clause-graft c = let o = c.open_row-cells.ensures.opens in
    link_one _ _ _ _ _ _ _ c.requires.grant c.set_up.ensures.sets_up o.0 o.2 (ap (λ (n : ℕ). 519 + 4096 * n + 4194304 * c.args.generation) c.from.ensures) c.set_entry.ensures.sets
