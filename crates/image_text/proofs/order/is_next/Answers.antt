-- What stands behind the last item stands behind all.
use Rattle.std.proofs.Common.{ℕ, ◌≡◌, ◌<◌, ◌≤◌, List, [], ◌∷◌, ◌++◌, sym, subst, refl, ap, ◌∙◌, arith}
use Rattle.std.proofs.lemmas.Bool.{false≢true}
use Rattle.image_text.specs.declared.image.Item.{Item}
use Rattle.image_text.specs.Items.{first_of, count_of, end_of, bytes_of, IsTrimmed, Joins}
use Rattle.image_text.specs.Images.{IsNext}
use Rattle.image_text.specs.Reading.{reach}
use Rattle.image_text.proofs.Orders.{reach_last, next_behind, reach_behind, not_joined, joined_not}
use Rattle.image_text.proofs.order.is_next.Goals.{then-count-eq0-via-then-count-eq0, then-count-eq0-via-else-count-eq0+then-not-is_trimmed, then-count-eq0-via-else-count-eq0+else-not-is_trimmed+then-first-end_of}
use Rattle.image_text.proofs.order.is_next.Goals as goal

pub returns-then-count-eq0 : goal.returns-then-count-eq0
returns-then-count-eq0 c = (
  λ no. absurd (false≢true no),
  λ (next : IsNext c.args.items.now c.args.item.now). elim c.then-count-eq0.branch [
    | then-count-eq0-via-then-count-eq0 w ↦ (let some : 1 ≤ count_of c.args.item.now = next.some in let is = c.count.ensures in let none = w.if-count-eq0.true in absurd (omega (arith, some, is, none)))
    | then-count-eq0-via-else-count-eq0+then-not-is_trimmed w ↦ w.if-not-is_trimmed.ensures.1 next.trimmed
    | then-count-eq0-via-else-count-eq0+else-not-is_trimmed+then-first-end_of w ↦ (let less = w.if-first-end_of.true in let first = w.first.ensures in let end = w.end_of.ensures in
        let r : reach c.args.items.now ≤ first_of c.args.item.now = reach_behind c.args.items.now c.args.item.now next in absurd (omega (arith, less, first, end, r)))
  ],
)

pub returns-in-Some : goal.returns-in-Some
returns-in-Some c =
    let found = c.in-Some.ensures.some in
    let last : Item = c.in-Some.last.now in
    let item : Item = c.args.item.now in
    let is : c.args.items.now ≡ found.0 ++ last ∷ [] = found.1 in
    let end : reach c.args.items.now ≡ end_of last = ap reach is ∙ reach_last found.0 last in
    let some : 1 ≤ count_of item = (let none = c.if-count-eq0.false in let count = c.count.ensures in omega (arith, none, count)) in
    let behind : end_of last ≤ first_of item = (let less = c.if-first-end_of.false in let first = c.first.ensures in let ends = c.end_of.ensures in omega (arith, less, first, ends, end)) in (
      λ yes. next_behind c.args.items.now found.0 last item is c.requires.order some (c.if-not-is_trimmed.ensures.0 refl) behind (not_joined c.joins.result (Joins last item) c.joins.ensures yes),
      λ (next : IsNext c.args.items.now item). joined_not c.joins.result (Joins last item) c.joins.ensures (next.apart found.0 last is),
    )
