use Rattle.std.proofs.Common.{ap, sym, refl, ◌∙◌}
use Rattle.std.specs.FinMap as map
use Rattle.page_map.proofs.Entries.{get_entries, written_entries}
use Rattle.plain_spaces.proofs.Variants.{on_some}
use Rattle.plain_spaces.proofs.spaces.Spaces.get_mut.Goals as goal

pub returns : goal.returns
returns c = (
  (
    refl,
    λ w. on_some c.get_mut.result _ c.get_mut.ensures.value (λ there.
        written_entries c.self.inside.spaces (c.get_mut.follows.lender w) c.args.space w ((c.get_mut.follows.holds w).3 there).0
        ∙ ap (λ m. map.insert m c.args.space w) c.self.view_is),
    ap map.from_entries (ap (λ m. m.entries) c.get_mut.follows.holds-at-none) ∙ c.self.view_is,
  ),
  record { writes_back = tt; value = c.get_mut.ensures.value ∙ sym (get_entries c.self.inside.spaces c.args.space) ∙ ap (λ m. map.get m c.args.space) c.self.view_is },
)
