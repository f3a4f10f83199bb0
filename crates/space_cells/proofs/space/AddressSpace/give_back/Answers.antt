use Rattle.std.proofs.Common.{◌≡◌, ◌+◌, ◌-◌, ap, ◌∙◌, arith}
use Rattle.page_map.specs.DontNeed.{given_back}
use Rattle.space_cells.specs.Held.{numbers_held}
use Rattle.space_cells.specs.Cells.{numbers_in}
use Rattle.space_cells.proofs.Seen.{numbers_seen}
use Rattle.space_cells.proofs.Changing.{given_back_cells, given_back_have_marks}
use Rattle.space_cells.proofs.space.AddressSpace.give_back.Goals as goal

pub invariant_of-self : goal.invariant_of-self
invariant_of-self c =
    given_back_have_marks c.self.inside.marks c.self.inside.pages c.clear.new.pages c.args.first c.args.count c.clear.ensures c.self.invariant

pub returns-clause-released : goal.returns-clause-released
returns-clause-released c =
    let count : c.args.first + c.args.count - c.args.first ≡ c.args.count = omega arith in
    c.in_ok-released.ensures ∙ ap (λ k. numbers_held c.self.inside.pages c.args.first k) count
    ∙ numbers_seen c.self.inside.marks c.self.inside.pages c.self.invariant c.args.first c.args.count
    ∙ ap (λ m. numbers_in m c.args.first c.args.count) c.self.view_is

pub returns-clause-ok : goal.returns-clause-ok
returns-clause-ok c =
    given_back_cells c.self.inside.marks c.self.inside.pages c.clear.new.pages c.args.first c.args.count c.clear.ensures
    ∙ ap (given_back c.args.first c.args.count) c.self.view_is
