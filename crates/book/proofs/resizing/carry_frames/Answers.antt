use Rattle.std.proofs.Common.{sym, subst}
use Rattle.machine_plan.specs.Kits.{Refs}
use Rattle.book.specs.Pieces.{GivesBack}
use Rattle.book.proofs.Resized.{all_along}
use Rattle.book.proofs.resizing.carry_frames.Goals as goal

pub returns-else-first-to-clause-gives : goal.returns-else-first-to-clause-gives
returns-else-first-to-clause-gives c =
    subst (λ (refs : Refs). GivesBack c.args.pool.now c.args.pool.now c.args.frames.now.items refs) (sym c.renumber.ensures.moved) (all_along c.args.pool.now c.args.first c.args.to c.args.frames.now.items c.requires.held c.requires.backed)
