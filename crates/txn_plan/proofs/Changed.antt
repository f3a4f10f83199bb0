-- Operations as changes: they leave the same cells.
use Rattle.std.proofs.Common.{◌≡◌, ◌+◌, ◌^◌, ◌<◌, ◌≤◌, List, [], ◌∷◌, length, slice_index_or, refl, ap, ◌∙◌, arith}
use Rattle.std.specs.Prelude.{map}
use Rattle.std.specs.List.{All}
use Rattle.std.proofs.lemmas.List.Elements.{All-cons, All-head, All-tail, All-map}
use Rattle.corten_base.specs.declared.calls.TxnOp.{TxnOp}
use Rattle.corten_base.specs.declared.calls.TxnOp.TheVariants as op
use Rattle.page_map.specs.Mapping.{op_pages, after_op, after_ops}
use Rattle.page_map.specs.State.{AddressSpace}
use Rattle.page_runs.specs.Changes.{IsChange}
use Rattle.space_cells.specs.Changes.{cells_after, cells_after_all}
use Rattle.txn_plan.specs.Changes.{change_of, first_index}
use Rattle.txn_plan.specs.Needs.{IsInSpan}

after_one : (o : TxnOp) (cells : AddressSpace) → cells_after cells (change_of o) ≡ after_op o cells
unfolding after_op
after_one (op.Map at fresh len perm what) cells = refl
after_one (op.Unmap at len) cells = refl
after_one (op.Protect at len perm) cells = refl

pub after_all : (os : List TxnOp) (cells : AddressSpace) → cells_after_all cells (map change_of os) ≡ after_ops os cells
after_all [] cells = refl
after_all (o ∷ os) cells = after_all os (cells_after cells (change_of o)) ∙ ap (after_ops os) (after_one o cells)

-- one alone
pub after_only : (os : List TxnOp) (cells : AddressSpace) (none : TxnOp) → 1 ≤ length os → length os < 2 → cells_after_all cells (change_of (slice_index_or os 0 none) ∷ []) ≡ after_ops os cells
after_only [] cells none some few = absurd (omega (arith, some))
after_only (o ∷ []) cells none some few = after_one o cells
after_only (o ∷ p ∷ os) cells none some few = absurd (omega (arith, few))

abbrev Fits : TxnOp → Type 0
Fits o = first_index o + op_pages o < 2 ^ 64

is_change : (o : TxnOp) → IsInSpan o → Fits o → IsChange (change_of o)
is_change (op.Map at fresh len perm what) span fits = record { pages = omega (arith, span.high); indexes = fits }
is_change (op.Unmap at len) span fits = record { pages = omega (arith, span.high); indexes = fits }
is_change (op.Protect at len perm) span fits = record { pages = omega (arith, span.high); indexes = fits }

each : (os : List TxnOp) → All IsInSpan os → All Fits os → All (λ o. IsChange (change_of o)) os
each [] span fits = λ k d low. absurd (omega arith)
each (o ∷ os) span fits =
    All-cons (λ o. IsChange (change_of o)) o os (is_change o (All-head IsInSpan o os span) (All-head Fits o os fits)) (each os (All-tail IsInSpan o os span) (All-tail Fits o os fits))

pub all_changes : (os : List TxnOp) → All IsInSpan os → All (λ o. first_index o + op_pages o < 2 ^ 64) os → All IsChange (map change_of os)
all_changes os span fits = All-map IsChange change_of os (each os span fits)
