use Rattle.std.proofs.Common.{ap, ◌∙◌}
use Rattle.std.specs.FinSet as set
use Rattle.page_map.proofs.Places.{place_total, place_exact}
use Rattle.plain_counts.proofs.Sets.{removed_keys}
use Rattle.plain_counts.proofs.tables.Tables.remove.Goals as goal

pub returns : goal.returns
returns c =
    removed_keys place_total place_exact c.self.inside.places c.remove.new.self c.args.place.now c.remove.ensures.updates.0
    ∙ ap (λ s. set.remove s c.args.place.now) c.self.view_is
