-- The next page that has a frame or a slot.
use Rattle.std.proofs.Common.{◌≡◌, ℕ, ◌-◌, ◌^◌, ◌<◌, ◌≤◌, ◌∙◌, inl, inr, ap, arith}
use Rattle.std.specs.Prelude.{Some, None}
use Rattle.std.proofs.lemmas.Bool.{cases_lt}
use Rattle.space_cells.specs.declared.held.Number.TheVariants.{Frame, Slot}
use Rattle.plain_spaces.proofs.Held.{IsNextHeld, is_next_held, no_next_held}
use Rattle.mm_model.specs.Pages.{frame_in}
use Rattle.mm_model.proofs.Framed.{frame_by_number}
use Rattle.mm_model.proofs.pages.first_framed.Goals as goal
use Rattle.mm_model.proofs.pages.first_framed.Goals.{In-Some}

abbrev at : (c : In-Some) → IsNextHeld c.args.cells.now c.loop-held.next (2 ^ 64 - 1) c.in-Some.held c.in-Some.number
at c = is_next_held c.args.cells.now c.loop-held.next (2 ^ 64 - 1) c.in-Some.held c.in-Some.number c.loop-held.invariant.1 c.in-Some.ensures

before : (c : In-Some) (q : ℕ) → c.args.page ≤ q → q < c.in-Some.held → frame_in c.args.cells.now q ≡ None
before c q low high = elim (cases_lt q c.loop-held.next) [
  | inl less ↦ c.loop-held.invariant.2 q low less
  | inr more ↦ frame_by_number c.args.cells.now q None ((at c).before q more high)
]

pub returns-in-Frame-clause-some : goal.returns-in-Frame-clause-some
returns-in-Frame-clause-some c =
    let here = (goal.at.returns-in-Frame-clause-some c).In-Some in
    record {
      from_there = omega (arith, (at here).low, c.loop-held.invariant.0);
      mapped = frame_by_number c.args.cells.now c.in-Some.held (Some (Frame c.in-Frame.frame)) ((at here).there ∙ ap Some c.in-Frame.is);
      least = before here;
    }

pub overflow_add-next : goal.overflow_add-next
overflow_add-next c = omega (arith, (at (goal.at.overflow_add-next c).In-Some).high)

pub loop-held-smaller : goal.loop-held-smaller
loop-held-smaller c = let next = at (goal.at.loop-held-smaller c).In-Some in omega (arith, next.low, next.high)

pub loop-held-preserved : goal.loop-held-preserved
loop-held-preserved c =
    let here = (goal.at.loop-held-preserved c).In-Some in
    let next = at here in (
      omega (arith, c.loop-held.invariant.0, next.low),
      omega (arith, next.high),
      λ q low high. elim (cases_lt q c.in-Some.held) [
        | inl less ↦ before here q low less
        | inr more ↦
            let same : q ≡ c.in-Some.held = omega (arith, more, high) in
            ap (frame_in c.args.cells.now) same ∙ frame_by_number c.args.cells.now c.in-Some.held (Some (Slot c.in-Slot.field-0)) (next.there ∙ ap Some c.in-Slot.is)
      ],
    )

pub returns-clause-none : goal.returns-clause-none
returns-clause-none c q low high = elim (cases_lt q c.loop-held.next) [
  | inl less ↦ c.loop-held.invariant.2 q low less
  | inr more ↦ frame_by_number c.args.cells.now q None (no_next_held c.args.cells.now c.loop-held.next (2 ^ 64 - 1) c.in_default.ensures q more high)
]
