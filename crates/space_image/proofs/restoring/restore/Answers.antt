use Rattle.std.proofs.Common.{◌≡◌, ◌++◌, refl, sym, ap, subst, ◌∙◌}
use Rattle.std.specs.Prelude.{All}
use Rattle.page_map.specs.State.{accounts, start}
use Rattle.space_image.specs.Calls.{calls_of, left_by}
use Rattle.space_image.specs.Restoring.{IsBuildable, entered}
use Rattle.space_image.proofs.Entering.{all_in}
use Rattle.space_image.proofs.Restored.{buildable, restored}
use Rattle.space_image.proofs.restoring.restore.Goals as goal

pub build_all-requires-clause-right : goal.build_all-requires-clause-right
build_all-requires-clause-right c = subst (All IsBuildable) (sym c.items-items.ensures.value) (all_in IsBuildable c.args.image.now.items (buildable c.args.image.now c.items-items.ensures.right))

pub returns : goal.returns
returns c =
    let image = c.args.image.now in
    let begin : c.in_ok-plain.plain ≡ start image.limits image.files = c.in_ok-plain.ensures.ok ∙ (λ i. start (c.limits-limits.ensures i) ((c.in_ok-copy_of.ensures ∙ c.shelf.ensures) i)) in
    let made = c.in_ok-build_all.ensures.ok in
    restored image c.items-items.ensures.right _ refl c.limits-limits.ensures (c.in_ok-copy_of-2.ensures ∙ c.shelf-2.ensures)
    (c.of.ensures ∙ made.entries ∙ ap (λ es. es ++ entered c.in_ok-plain.plain (calls_of c.items-items.result.now)) c.new-2.ensures.items ∙ (λ i. entered (begin i) (calls_of (c.items-items.ensures.value i))))
    (c.accounts-accounts.ensures ∙ ap (λ s. accounts s 0) (made.state ∙ (λ i. left_by (begin i) (calls_of (c.items-items.ensures.value i)))))
