use Rattle.std.proofs.Common.{◌-◌, sym, ◌∙◌}
use Rattle.std.specs.Prelude.{is_some}
use Rattle.std.specs.FinMap as map
use Rattle.page_map.proofs.Least.{least_passes}
use Rattle.space_cells.proofs.LongestRuns.{longest, none_at_all}
use Rattle.space_cells.proofs.space.AddressSpace.longest_from.Goals as goal

pub returns-in_default-clause-none : goal.returns-in_default-clause-none
returns-in_default-clause-none c = none_at_all c.args.self.now c.args.page c.args.end c.requires.range c.requires.all (sym c.next.ensures ∙ c.in_default.is)

pub begin-first-requires : goal.begin-first-requires
begin-first-requires c = (least_passes c.args.page (c.args.end - c.args.page) (λ q. is_some (map.get c.args.self.now q)) c.in-Some.found (sym c.in-Some.ensures)).2

pub returns-clause-some : goal.returns-clause-some
returns-clause-some c = longest c.args.self.now c.args.page c.args.end c.in-Some.found c.begin-first.result c.stretch-count.result c.requires.all (sym c.in-Some.ensures) c.begin-first.ensures c.stretch-count.ensures
