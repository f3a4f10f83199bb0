use Rattle.std.proofs.Common.{◌≡◌, ◌+◌, ◌-◌, ap, ◌∙◌, arith}
use Rattle.std.specs.Prelude.{is_none}
use Rattle.std.specs.FinMap.{get}
use Rattle.page_map.specs.Change.{least}
use Rattle.space_cells.proofs.Leasts.{least_hole}
use Rattle.space_cells.proofs.space.AddressSpace.hole.Goals as goal

pub returns : goal.returns
returns c =
    let count : c.args.first + c.args.count - c.args.first ≡ c.args.count = omega arith in
    c.hole.ensures ∙ ap (λ k. least c.args.first k (λ page. is_none (get c.self.inside.marks page))) count
    ∙ least_hole c.self.inside.marks c.self.inside.pages c.args.first c.args.count
    ∙ ap (λ m. least c.args.first c.args.count (λ page. is_none (get m page))) c.self.view_is
