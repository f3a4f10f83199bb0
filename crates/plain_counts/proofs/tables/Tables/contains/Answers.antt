use Rattle.std.proofs.Common.{sym, ap, ◌∙◌}
use Rattle.std.specs.FinSet as set
use Rattle.std.specs.FinSet.{contains-from_list}
use Rattle.page_map.proofs.Places.{place_total}
use Rattle.plain_counts.proofs.tables.Tables.contains.Goals as goal

pub returns : goal.returns
returns c =
    c.contains.ensures ∙ sym (contains-from_list place_total c.self.inside.places.keys c.args.place.now)
    ∙ ap (λ s. set.contains s c.args.place.now) c.self.view_is
