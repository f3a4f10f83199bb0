use Rattle.std.proofs.Common.{ap, ◌∙◌}
use Rattle.std.specs.FinSet as set
use Rattle.page_map.proofs.Places.{place_total, place_exact}
use Rattle.plain_counts.proofs.Sets.{inserted_keys}
use Rattle.plain_counts.proofs.tables.Tables.insert.Goals as goal

pub returns-clause-ok : goal.returns-clause-ok
returns-clause-ok c =
    inserted_keys place_total place_exact c.self.inside.places c.insert.new.self c.args.place c.in_ok-insert.ensures.updates.0
    ∙ ap (λ s. set.insert s c.args.place) c.self.view_is
