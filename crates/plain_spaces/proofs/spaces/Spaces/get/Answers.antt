use Rattle.std.proofs.Common.{ap, sym, ◌∙◌}
use Rattle.std.specs.FinMap as map
use Rattle.page_map.proofs.Entries.{get_entries}
use Rattle.plain_spaces.proofs.spaces.Spaces.get.Goals as goal

pub returns : goal.returns
returns c = c.get.ensures.value ∙ sym (get_entries c.self.inside.spaces c.args.space) ∙ ap (λ m. map.get m c.args.space) c.self.view_is
