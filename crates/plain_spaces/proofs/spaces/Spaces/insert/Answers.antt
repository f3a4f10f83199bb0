use Rattle.std.proofs.Common.{ap, ◌∙◌}
use Rattle.std.specs.FinMap as map
use Rattle.page_map.proofs.Entries.{written_entries}
use Rattle.plain_spaces.proofs.spaces.Spaces.insert.Goals as goal

pub returns-clause-ok : goal.returns-clause-ok
returns-clause-ok c =
    written_entries c.self.inside.spaces c.insert.new.self c.args.space c.args.cells c.in_ok-insert.ensures.updates.0
    ∙ ap (λ m. map.insert m c.args.space c.args.cells) c.self.view_is
