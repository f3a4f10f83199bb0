-- An item that is placed and fits may follow, and no other.
use Rattle.std.proofs.Common.{◌≡◌, ◌+◌, List, [], ◌∷◌, ◌++◌, refl, sym, subst, ap, ◌∙◌}
use Rattle.image_text.specs.declared.image.Item.{Item}
use Rattle.image_text.specs.declared.tally.Tally.{Tally}
use Rattle.image_text.specs.Images.{ImageParts}
use Rattle.image_text.specs.Reading.{IsTally, IsPlaced, Fits}
use Rattle.image_text.proofs.Drafts.{small_items, few_counted, more_draft}
use Rattle.image_text.proofs.draft.Draft.take.Goals as goal

pub with-tally-requires-clause-small : goal.with-tally-requires-clause-small
with-tally-requires-clause-small c = small_items _ c.deref.result.now c.self.invariant.right c.deref.ensures.value

pub with-tally-requires-clause-few : goal.with-tally-requires-clause-few
with-tally-requires-clause-few c = few_counted _ c.self.inside.tally c.self.invariant.right c.self.invariant.counted

pub invariant_of-self-2 : goal.invariant_of-self-2
invariant_of-self-2 c =
    let image : ImageParts = record { limits = c.self.inside.limits; files = c.self.inside.shelf; items = c.self.inside.items.items } in
    let placed : IsPlaced image c.args.item = subst (λ (i : ImageParts). IsPlaced i c.args.item) (sym c.self.view_is) (c.if-not-is_placed.ensures.0 refl) in
    let counted : IsTally image.limits.levels (image.items ++ c.args.item ∷ []) c.with-tally.result = subst (λ xs. IsTally image.limits.levels (xs ++ c.args.item ∷ []) c.with-tally.result) c.deref.ensures.value c.with-tally.ensures in
    let fits : Fits image.limits c.with-tally.result = c.if-not-fits.ensures.0 refl in
    more_draft image c.args.item c.with-tally.result c.push.new.self.items c.self.invariant.right c.requires placed counted fits c.in_ok-push.ensures.items
