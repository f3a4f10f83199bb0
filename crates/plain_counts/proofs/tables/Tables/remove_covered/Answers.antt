use Rattle.std.proofs.Common.{◌≡◌, ◌/◌, not, ap, ◌∙◌}
use Rattle.std.specs.Prelude.{max}
use Rattle.std.specs.Int.{div_ceil}
use Rattle.plain_counts.specs.Levels.{is_between}
use Rattle.plain_counts.proofs.Removed.{retain_same, covered_places}
use Rattle.plain_counts.proofs.tables.Tables.remove_covered.Goals as goal

pub returns : goal.returns
returns c =
    let start : c.div_ceil-start.result ≡ div_ceil c.args.first c.span-pages.result = c.div_ceil-start.ensures in
    let stop : c.max.result ≡ max (div_ceil c.args.first c.span-pages.result) (c.args.end / c.span-pages.result) = c.max.ensures ∙ ap (λ n. max n (c.args.end / c.span-pages.result)) start in
    c.remove_between.ensures
    ∙ retain_same c.args.self.now _ _ (λ p.
    (λ i. not (is_between (record { space = c.args.space; level = c.args.level; prefix = start i }) (record { space = c.args.space; level = c.args.level; prefix = stop i }) p))
    ∙ ap not (covered_places c.args.levels c.args.space c.args.level c.args.first c.args.end c.span-pages.result c.requires.level c.requires.range c.span-pages.ensures.pages c.span-pages.ensures.some p))
