-- What holds of the operations of a transaction whose arguments are right.
use Rattle.std.proofs.Common.{◌≡◌, ℕ, ◌+◌, ◌*◌, ◌^◌, ◌<◌, ◌≤◌, true, List, [], ◌∷◌, arith}
use Rattle.std.specs.Prelude.{None, nat_lt, nat_le, ◌&&◌, length}
use Rattle.std.specs.List.{All, AllByRecursion}
use Rattle.std.proofs.lemmas.Bool.{and_parts, leb-true}
use Rattle.std.proofs.lemmas.List.Elements.{All-cons}
use Rattle.corten_base.specs.declared.calls.Backing.{Backing}
use Rattle.corten_base.specs.declared.calls.Backing.TheVariants as backing
use Rattle.corten_base.specs.declared.calls.TxnOp.{TxnOp}
use Rattle.corten_base.specs.declared.calls.TxnOp.TheVariants as op
use Rattle.table_place.specs.Range.{lies_in}
use Rattle.table_place.specs.Place.{is_page_range}
use Rattle.page_map.specs.Mapping.{op_first, op_pages, is_backing, is_right, is_right_within, undone}
use Rattle.page_map.specs.State.{AddressSpace}
use Rattle.page_map.proofs.Mappings.{right_over, user_few, none_undone}
use Rattle.page_runs.specs.Mark.{index_of}
use Rattle.txn_plan.specs.Changes.{first_index}
use Rattle.txn_plan.specs.Needs.{IsInSpan}

all_from : {P Q : TxnOp → Type 0} → ((o : TxnOp) → P o → Q o) → (os : List TxnOp) → AllByRecursion P os → All Q os
all_from f [] h = λ k d low. absurd (omega arith)
all_from {P} {Q} f (o ∷ os) h = All-cons Q o os (f o h.0) (all_from f os h.1)

pub in_span : (levels : ℕ) (files : List (List ℕ)) (o : TxnOp) → levels ≤ 5 → is_right levels files o ≡ true → IsInSpan o
in_span levels files o few h =
    let over = right_over levels files o few h in
    record { some = omega (arith, over.some); high = omega (arith, user_few levels (op_first o) (op_pages o) few over.user) }

low_index : (files : List (List ℕ)) (what : Backing) → is_backing files what ≡ true → index_of what ≤ 2 ^ 40
low_index files backing.Zero h = omega arith
low_index files (backing.File file index) h = leb-true index (2 ^ 40) (and_parts (nat_lt file (length files)) (nat_le index (2 ^ 40)) h).1

first_low : (levels : ℕ) (files : List (List ℕ)) (o : TxnOp) → is_right levels files o ≡ true → first_index o ≤ 2 ^ 40
first_low levels files (op.Map at fresh len perm what) h =
    let mappable = (and_parts _ (is_page_range levels at len) h).0 in
    low_index files what (and_parts (nat_lt 0 len && nat_le len (2 ^ (9 * levels + 11))) (is_backing files what) mappable).1
first_low levels files (op.Unmap at len) h = omega arith
first_low levels files (op.Protect at len perm) h = omega arith

pub index_fits : (levels : ℕ) (files : List (List ℕ)) (o : TxnOp) → levels ≤ 5 → is_right levels files o ≡ true → first_index o + op_pages o < 2 ^ 64
index_fits levels files o few h = omega (arith, first_low levels files o h, (in_span levels files o few h).high)

module _ (levels : ℕ) (files : List (List ℕ)) (few : levels ≤ 5) (first count : ℕ) (ops : List TxnOp) (cells : AddressSpace) (none : undone (is_right_within levels files first count) 1 ops cells ≡ None) where
  rights : AllByRecursion (λ o. is_right_within levels files first count o ≡ true) ops
  rights = none_undone (is_right_within levels files first count) 1 ops cells none

  pub all_in_span : All IsInSpan ops
  all_in_span = all_from (λ o h. in_span levels files o few (and_parts (is_right levels files o) (lies_in (op_first o) (op_pages o) first count) h).0) ops rights

  pub all_fit : All (λ o. first_index o + op_pages o < 2 ^ 64) ops
  all_fit = all_from (λ o h. index_fits levels files o few (and_parts (is_right levels files o) (lies_in (op_first o) (op_pages o) first count) h).0) ops rights
