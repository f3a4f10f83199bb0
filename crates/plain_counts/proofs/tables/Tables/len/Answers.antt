use Rattle.std.proofs.Common.{ap, sym, ◌∙◌}
use Rattle.std.specs.FinSet as set
use Rattle.page_map.proofs.Places.{place_total, place_exact}
use Rattle.plain_counts.proofs.Sets.{len_keys}
use Rattle.plain_counts.proofs.tables.Tables.len.Goals as goal

pub returns : goal.returns
returns c = c.len.ensures.len ∙ sym (len_keys place_total place_exact c.self.inside.places.keys c.len.ensures.ordered) ∙ ap set.len c.self.view_is
