use Rattle.std.proofs.Common.{ℕ, ◌<◌, map, subst}
use Rattle.walk_core.specs.Guards.{put_rows}
use Rattle.walk_core.specs.Lists.{Has}
use Rattle.row_table.specs.Passes.{view_of, layout_of}
use Rattle.machine_plan.specs.Books.{BookData, put_of}
use Rattle.call_steps.proofs.Giving.{not_swept, swept_by}
use Rattle.call_steps.proofs.Prepared.{only_loaded, limbo_below}
use Rattle.call_steps.proofs.preparing.sweep_for.Goals as goal

pub returns-then-from-needed-clause-swept : goal.returns-then-from-needed-clause-swept
returns-then-from-needed-clause-swept c = not_swept (layout_of c.args.iron.now) (view_of c.args.pass.now) c.args.book.now

pub returns-clause-samples : goal.returns-clause-samples
returns-clause-samples c = let s = c.sweep_book.ensures.sweeps.sweeps in only_loaded (view_of c.args.pass.now) (view_of c.sweep_book.new.pass) s.numbers s.loads

pub returns-clause-swept : goal.returns-clause-swept
returns-clause-swept c =
    swept_by (layout_of c.args.iron.now) (view_of c.args.pass.now) (view_of c.sweep_book.new.pass) c.args.book.now c.sweep_book.new.book c.requires.once
    (subst (λ (b : BookData). (q : ℕ) → Has (put_rows (map put_of b.limbo)) q → q < b.free.limit) c.book.view_is (limbo_below _ _ _ c.book.invariant.enough c.book.invariant.rows))
    c.sweep_book.ensures.sweeps c.sweep_book.ensures.unread
