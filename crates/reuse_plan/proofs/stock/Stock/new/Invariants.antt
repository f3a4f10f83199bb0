use Rattle.std.proofs.Common.{◌≡◌, ℕ, ◌&&◌, leb, ltb}
use Rattle.std.specs.FinSet as set
use Rattle.reuse_plan.proofs.stock.Stock.new.Given as goal

abbrev pub invariant-loop-row : goal.invariant-loop-row
invariant-loop-row l = (l.free.limit ≡ l.fn.rows) × ((q : ℕ) → set.contains l.free.numbers q ≡ (leb 2 q && ltb q l.row))
