-- Pages that go on from the last one of a range, by what is told of that page.
--     next_near      the number of the file's page behind it fits
--     change_is      what is told of it makes the pages that go on from it
--     told_there      something stands there
use Rattle.std.specs.Prelude.{◌≡◌, ℕ, ◌+◌, ◌-◌, ◌<◌, ◌≤◌, Bool, true, List, Some, None}
use Rattle.std.specs.FinMap.{get}
use Rattle.std.proofs.Common.{sym, refl, ◌∙◌, ap, subst, arith}
use Rattle.corten_base.specs.declared.calls.Backing.{Backing}
use Rattle.corten_base.specs.declared.calls.Backing.TheVariants as backing
use Rattle.corten_base.specs.declared.numbers.Status.{Status}
use Rattle.corten_base.specs.declared.numbers.Status.TheVariants as status
use Rattle.corten_base.specs.declared.permissions.Perm.{Perm}
use Rattle.page_map.specs.declared.cell.Cell.{Cell as PageCell}
use Rattle.page_map.specs.declared.cell.Cell.TheVariants.{Anon, File, Mapped, Swapped}
use Rattle.page_map.specs.Cell.{backing_of, perm_of, status_of}
use Rattle.page_map.specs.State.{State, space_at}
use Rattle.page_map.proofs.Owners.{same_some}
use Rattle.page_map.proofs.Steps.{not_none}
use Rattle.row_cells.specs.declared.Cell.{Cell}
use Rattle.row_table.specs.declared.view.PassView.{PassView}
use Rattle.table_place.proofs.Tables.{in_range}
use Rattle.machine_plan.specs.Books.{BookData}
use Rattle.machine_plan.specs.HeldRows.{Row, RowsShown, AreAsked, IsAsked}
use Rattle.held_spans.specs.declared.runs.Run.{Run}
use Rattle.held_spans.specs.Runs.{AnswersRun}
use Rattle.held_spans.specs.Spans.{StandsAs, further, is_there, pages_on}
use Rattle.cursor_apply.specs.Changing.{IsNear}
use Rattle.move_apply.specs.Growing.{perm_in, next_of, backing_behind, goes_behind, IsFill}

perm_further : (s : Status) → perm_in (further s 0) ≡ perm_in s
perm_further status.Invalid = refl
perm_further (status.Anon perm) = refl
perm_further (status.File perm file index) = refl
perm_further (status.Mapped perm frame) = refl
perm_further (status.Swapped perm slot) = refl

perm_status : (c : PageCell) → perm_in (status_of (Some c)) ≡ Some (perm_of c)
perm_status (Anon perm) = refl
perm_status (File perm file index) = refl
perm_status (Mapped perm origin frame bytes) = refl
perm_status (Swapped perm origin slot bytes) = refl

has_perm : (s : Status) (perm : Perm) → perm_in s ≡ Some perm → is_there s ≡ true
has_perm status.Invalid perm e = absurd (not_none (sym e))
has_perm (status.Anon p) perm e = refl
has_perm (status.File p file index) perm e = refl
has_perm (status.Mapped p frame) perm e = refl
has_perm (status.Swapped p slot) perm e = refl

nothing_more : (n : ℕ) → n + 0 ≡ n
nothing_more n = omega arith

pages_zero : (o : Backing) → pages_on o 0 ≡ o
pages_zero backing.Zero = refl
pages_zero (backing.File file index) = ap (backing.File file) (nothing_more index)

near_next : (o : Backing) → IsNear (next_of o) 0 → IsNear o 1
near_next backing.Zero h = tt
near_next (backing.File file index) h = omega (arith, h)

module _ {B E : Type 0} (b : BookData) (st now : State) (space : ℕ) (is_old : ℕ → Bool) (first old new : ℕ) (v : PassView (List Cell) B E) (rows : List Row) (is : IsFill b st now space is_old first old new v rows)
    (run : Run) (some : 1 ≤ run.count) (answers : AnswersRun rows (first + old - 1) (first + old) run) where
  shown : RowsShown st rows
  shown x has = let r = is.ready.base.rows_of x has in record { table = r.table; whole = r.whole; each = λ index cell inside there. (r.entries index cell inside there).shows }

  asked : AreAsked space rows (first + old - 1) (first + old - (first + old - 1))
  asked page w =
      let at = in_range (first + old - 1) (first + old - (first + old - 1)) page w in
      subst (IsAsked space rows) (only (first + old) page at.0 at.1 (omega (arith, is.some))) is.asked
    where
      only : (end page : ℕ) → end - 1 ≤ page → page < end - 1 + (end - (end - 1)) → 1 ≤ end → end - 1 ≡ page
      only end page low high one = omega arith

  stands : StandsAs run.status run.origin 0 (Some is.last)
  stands = subst (StandsAs run.status run.origin 0) (ap (get (space_at st space)) (nothing_more (first + old - 1)) ∙ is.there) ((answers space st asked shown).each 0 (omega (arith, some)))

  perm_is : perm_in run.status ≡ Some (perm_of is.last)
  perm_is = sym (perm_further run.status) ∙ (sym (ap perm_in stands.status) ∙ perm_status is.last)

  origin_is : run.origin ≡ backing_of is.last
  origin_is = sym (same_some (stands.origin (has_perm run.status (perm_of is.last) perm_is)) ∙ pages_zero run.origin)

  pub next_near : IsNear run.origin 1
  next_near = subst (λ o. IsNear o 1) (sym origin_is) (near_next (backing_of is.last) (is.ready.is_change.near 0 (omega (arith, is.more))))

  pub change_is : (perm : Perm) → Some perm ≡ perm_in run.status → backing_behind perm run.origin (first + old) (new - old) ≡ goes_behind is.last (first + old) (new - old)
  change_is perm e = let same : perm ≡ perm_of is.last = same_some (e ∙ perm_is) in λ i. backing_behind (same i) (origin_is i) (first + old) (new - old)

  pub told_there : perm_in run.status ≡ None → ⊥
  told_there e = not_none (sym perm_is ∙ e)
