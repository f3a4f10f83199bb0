use Rattle.std.proofs.Common.{◌+◌, ◌-◌, ◌*◌, ◌^◌, sym, ap, subst, ◌∙◌}
use Rattle.page_map.specs.Change.{least}
use Rattle.page_map.specs.Mapping.{is_free}
use Rattle.plain_counts.specs.Fronts.{IsFull}
use Rattle.space_cells.proofs.Leasts.{is_gap, vacant_free}
use Rattle.space_cells.proofs.space.AddressSpace.gap.Goals as goal

pub returns : goal.returns
returns c =
    let first = (c.from.result + 1) * 2 ^ 27 in
    let next = first + c.from-2.result in
    let places = first + 2 ^ 27 + 1 - (next + c.args.count) in
    c.gap.ensures
    ∙ (λ i. least next places (λ start. sym (vacant_free c.self.inside.marks c.self.inside.pages start c.args.count) i))
    ∙ ap (λ m. least next places (λ start. is_free m start c.args.count)) c.self.view_is
    ∙ is_gap c.args.self.now c.args.thread c.from-2.result first (ap (λ t. (t + 1) * 2 ^ 27) c.from.ensures) (subst (λ n. IsFull c.args.self.now c.args.thread n) (sym c.from-2.ensures) c.requires.known)
    c.args.count c.requires.some
