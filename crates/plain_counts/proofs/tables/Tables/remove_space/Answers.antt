use Rattle.std.proofs.Common.{rules, ap, ◌∙◌}
use Rattle.std.specs.FinSet as set
use Rattle.std.proofs.lemmas.Fn.{filter_same}
use Rattle.table_place.specs.Place.{place_cmp}
use Rattle.page_map.proofs.Places.{place_total, place_exact}
use Rattle.page_map.proofs.Evaluate.{retain_list}
use Rattle.plain_counts.specs.Levels.{is_elsewhere}
use Rattle.plain_counts.proofs.tables.Tables.remove_space.Goals as goal

pub returns-in-None : goal.returns-in-None
returns-in-None c =
    ap (set.from_list {R = place_cmp}) (filter_same _ (is_elsewhere c.args.space) _ (λ x b f' t. search rules) _ _ c.retain.ensures.filtered)
    ∙ retain_list place_total place_exact c.self.inside.places.keys _
    ∙ ap (λ s. set.retain s (is_elsewhere c.args.space)) c.self.view_is
