use Rattle.row_table.specs.Passes.{view_of}
use Rattle.cursor_apply.proofs.SwapTables.{swap_linked, swap_moves, swap_stores}
use Rattle.cursor_apply.proofs.granting.apply_swap.Goals as goal

pub apply_move-requires-clause-ready : goal.apply_move-requires-clause-ready
apply_move-requires-clause-ready g c κs within =
    let m = c.requires.ready in
    (m.0, m.1, m.2, m.3, swap_linked m.0 m.1 m.2 m.3 (view_of c.args.pass.now) c.args.held.now.rows c.args.kit.now m.4 c.requires.done m.5, swap_moves m.3 m.5, swap_stores m.3 m.5)

pub returns-clause-applies : goal.returns-clause-applies
returns-clause-applies g c = λ a b thread call ready swap.
    c.apply_move.ensures.applies a b thread call (swap_linked a b thread call (view_of c.args.pass.now) c.args.held.now.rows c.args.kit.now ready c.requires.done swap) (swap_moves call swap) (swap_stores call swap)
