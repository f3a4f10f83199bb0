use Rattle.std.proofs.Common.{sym, ap, ◌∙◌}
use Rattle.std.specs.Ordering.{nat_cmp}
use Rattle.std.specs.FinMap.{empty, get, get-empty}
use Rattle.space_cells.specs.Held.{held_at}
use Rattle.space_cells.proofs.Seen.{cells_are, over}
use Rattle.space_cells.proofs.space.AddressSpace.new.Goals as goal

pub returns : goal.returns
returns c = cells_are c.new.result c.new-2.result empty (λ q. get-empty nat_cmp q ∙ sym (ap (over (held_at c.new-2.result q)) (ap (λ m. get m q) c.new.ensures ∙ get-empty nat_cmp q)))
