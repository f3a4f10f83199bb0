-- Mapping operations keep the facts of a state.
use Rattle.std.proofs.Common.{◌≡◌, ℕ, ◌+◌, ◌-◌, ◌*◌, ◌/◌, ◌%◌, ◌^◌, ◌<◌, ◌≤◌, Bool, true, false, cond, ◌&&◌, ◌⊎◌, inl, inr, List, [], ◌∷◌, length, refl, sym, ap, ◌∙◌, arith}
use mathlib.Core.Bool.{true≢false}
use Rattle.std.specs.Prelude.{Option, Some, None, nat_eq, nat_lt, nat_le}
use Rattle.std.specs.Option.{option_map, option_or}
use Rattle.std.specs.List.{flat_map, AllByRecursion}
use Rattle.std.specs.Ordering.{eq_by_cmp}
use Rattle.std.specs.FinMap as fin
use Rattle.std.proofs.Math.Pow.{pow_mono}
use Rattle.std.proofs.lemmas.Bool.{and_parts, and_from, le-leb, lt-ltb, leb-true, ltb-true, or_left, or_right, not_from_false, not-true, false_from_ne_true, cases_lt}
use Rattle.corten_base.specs.declared.permissions.Perm.{Perm}
use Rattle.corten_base.specs.declared.calls.Backing.{Backing}
use Rattle.corten_base.specs.declared.calls.Backing.TheVariants as backing
use Rattle.corten_base.specs.declared.calls.TxnOp.{TxnOp}
use Rattle.corten_base.specs.declared.calls.TxnOp.TheVariants as op
use Rattle.corten_base.specs.declared.calls.Why.{Why}
use Rattle.corten_base.specs.declared.calls.Why.TheVariants as why
use Rattle.table_place.specs.declared.Place.{Place}
use Rattle.table_place.specs.Range.{within, lies_in}
use Rattle.table_place.specs.Place.{place_cmp, pages_of, is_user_range, is_page_range, span_first, span_count}
use Rattle.table_place.proofs.Spans.{span_pos, user_end}
use Rattle.table_place.proofs.Tables.{in_range, to_range}
use Rattle.page_map.specs.declared.cell.Cell.{Cell}
use Rattle.page_map.specs.Cell.{with_perm, backed, backing_of, index_of}
use Rattle.page_map.specs.Alike.{is_alike, is_unlike, unlike_tables}
use Rattle.page_map.specs.Tables.{changed_tables, need}
use Rattle.page_map.specs.State.{State, AddressSpace, IsConsistent, levels, linked, space_at, is_present}
use Rattle.page_map.specs.Mapping.{is_map, is_length, is_mappable, is_backing, is_right, is_right_within, op_first, op_pages, refused_op, after_op, after_ops, why_undone, undone, gap, arena_first, is_free}
use Rattle.page_map.specs.Effect.{cut_by_op}
use Rattle.page_map.proofs.Range.{get-change}
use Rattle.page_map.proofs.Steps.{not_none}
use Rattle.page_map.proofs.Above.{any_append}
use Rattle.page_map.proofs.Least.{least_passes}
use Rattle.page_map.proofs.Alike.{none_alike, backed_alike, same_alike, protected_alike}
use Rattle.page_map.proofs.Cells.{changed, AreTaken, cells_keep, old_fits}
use Rattle.page_map.proofs.Wanted.{is_wanted, AreWanted, none_wanted, both_wanted}
use Rattle.page_map.proofs.Unlike.{cut_wanted, cut_is_wanted}
use Rattle.page_map.proofs.Growth.{settled}
use Rattle.page_map.proofs.Fits.{op_backed, AllFit, OpFits, ops_fit}
use Rattle.page_map.proofs.Settle.{GivesUp, gives_none, unlike_keep}

pub nothing_taken : AreTaken [] []
nothing_taken = record { frames_apart = λ p q n e f. absurd (not_none (sym e)); slots_apart = λ p q n e f. absurd (not_none (sym e)) }

-- the range of an operation, and the pages of files that it maps
pub record IsOver (levels : ℕ) (o : TxnOp) : Type 0 where
  pub user : is_user_range levels (op_first o) (op_pages o) ≡ true
  pub some : 1 ≤ op_pages o
  pub index : (perm : Perm) (i : ℕ) → i < op_pages o → index_of (backing_of (op_backed o perm i)) ≤ 2 ^ 62

pub some_pages : (len : ℕ) → nat_lt 0 len ≡ true → 1 ≤ pages_of len
some_pages len h = omega (arith, ltb-true 0 len h)

pub page_range : (levels at len : ℕ) → is_page_range levels at len ≡ true → (is_user_range levels (at / 4096) (pages_of len) ≡ true) × (1 ≤ pages_of len)
page_range levels at len h =
    let outer = and_parts (nat_eq (at % 4096) 0 && nat_lt 0 len) (is_user_range levels (at / 4096) (pages_of len)) h in
    (outer.1, some_pages len (and_parts (nat_eq (at % 4096) 0) (nat_lt 0 len) outer.0).1)

-- with up to five levels, a range of user pages ends by page 2 ^ 44
pub user_few : (levels first count : ℕ) → levels ≤ 5 → is_user_range levels first count ≡ true → first + count < 2 ^ 44
user_few levels first count few h = omega (arith, user_end levels first count h, pow_mono (less levels few))
  where
    less : (n : ℕ) → n ≤ 5 → 9 * n - 1 ≤ 44
    less n few = omega arith

-- a mapping of fewer pages has no page too far in its file
pub backed_index : (files : List (List ℕ)) (what : Backing) (perm : Perm) (i : ℕ) → is_backing files what ≡ true → i < 2 ^ 44 → index_of (backing_of (backed what perm i)) ≤ 2 ^ 62
backed_index files backing.Zero perm i h few = omega arith
backed_index files (backing.File file index) perm i h few = omega (arith, leb-true index (2 ^ 40) (and_parts (nat_lt file (length files)) (nat_le index (2 ^ 40)) h).1, few)

pub few_pages : (levels first count i : ℕ) → levels ≤ 5 → is_user_range levels first count ≡ true → i < count → i < 2 ^ 44
few_pages levels first count i few user low = omega (arith, user_few levels first count few user, low)

pub right_over : (levels : ℕ) (files : List (List ℕ)) (o : TxnOp) → levels ≤ 5 → is_right levels files o ≡ true → IsOver levels o
right_over levels files (op.Map at new len perm what) few h =
    let r = page_range levels at len (and_parts _ (is_page_range levels at len) h).1 in
    let sound = (and_parts (is_length levels len) (is_backing files what) (and_parts (is_mappable levels files len what) (is_page_range levels at len) h).0).1 in
    record { user = r.0; some = r.1; index = λ perm i low. backed_index files what perm i sound (few_pages levels (at / 4096) (pages_of len) i few r.0 low) }
right_over levels files (op.Unmap at len) few h = let r = page_range levels at len h in record { user = r.0; some = r.1; index = λ perm i low. omega arith }
right_over levels files (op.Protect at len perm) few h = let r = page_range levels at len h in record { user = r.0; some = r.1; index = λ perm i low. omega arith }

module _ (is_right : TxnOp → Bool) where
  -- where no operation is refused, the arguments of each are right
  pub none_undone : (k : ℕ) (os : List TxnOp) (cells : AddressSpace) → undone is_right k os cells ≡ None → AllByRecursion (λ o. is_right o ≡ true) os
  none_undone k [] cells e = tt
  none_undone k (o ∷ os) cells e =
      let both = neither (option_map {U = ℕ × Why} (λ w. (k, w)) (why_undone is_right o cells)) (undone is_right (k + 1) os (after_op o cells)) e in
      (right (is_right o) (refused_op o cells) (unmapped (why_undone is_right o cells) both.0), none_undone (k + 1) os (after_op o cells) both.1)
    where
      neither : (a b : Option (ℕ × Why)) → option_or a b ≡ None → (a ≡ None) × (b ≡ None)
      neither None b e = (refl, e)
      neither (Some x) b e = absurd (not_none e)

      unmapped : (w : Option Why) → option_map {U = ℕ × Why} (λ v. (k, v)) w ≡ None → w ≡ None
      unmapped None e = refl
      unmapped (Some v) e = absurd (not_none e)

      right : (b : Bool) (w : Option Why) → cond b w (Some why.Einval) ≡ None → b ≡ true
      right true w e = refl
      right false w e = absurd (not_none e)

pub all_over : (levels : ℕ) (files : List (List ℕ)) (first count : ℕ) (os : List TxnOp) (cells : AddressSpace) → levels ≤ 5 → undone (is_right_within levels files first count) 1 os cells ≡ None → AllByRecursion (IsOver levels) os
all_over levels files first count os cells few e = each os (none_undone (is_right_within levels files first count) 1 os cells e)
  where
    each : (os : List TxnOp) → AllByRecursion (λ o. is_right_within levels files first count o ≡ true) os → AllByRecursion (IsOver levels) os
    each [] h = tt
    each (o ∷ os) h = (right_over levels files o few (and_parts (is_right levels files o) (lies_in (op_first o) (op_pages o) first count) h.0).0, each os h.1)

-- a mapping without a place goes to user pages
pub gap_user : (levels thread : ℕ) (cells : AddressSpace) (count first : ℕ) → 4 ≤ levels → thread < 8 → gap thread cells count ≡ Some first → is_user_range levels first count ≡ true
unfolding gap
gap_user levels thread cells count first some few e =
    let at = least_passes (arena_first thread) (2 ^ 27 + 1 - count) (λ first. is_free cells first count) first e in
    and_from _ _ (le-leb 16 first (omega (arith, at.0))) (lt-ltb (first + count) (2 ^ (9 * levels - 1)) (omega (arith, at.0, at.1, few, pow_mono (more levels some))))
  where
    more : (n : ℕ) → 4 ≤ n → 35 ≤ 9 * n - 1
    more n some = omega arith

-- ---- which spans are not alike after operations

new_of : TxnOp → ℕ → Option Cell → Option Cell
new_of (op.Map at fresh len perm what) page old = Some (backed what perm (page - at / 4096))
new_of (op.Unmap at len) page old = None
new_of (op.Protect at len perm) page old = option_map (with_perm perm) old

-- what an operation leaves at a page
op_leaves : (o : TxnOp) (cells : AddressSpace) (q : ℕ) → fin.get (after_op o cells) q ≡ cond (within (op_first o) (op_pages o) q) (new_of o q (fin.get cells q)) (fin.get cells q)
unfolding after_op new_of
op_leaves (op.Map at fresh len perm what) cells q = get-change cells (at / 4096) (pages_of len) (λ page _. Some (backed what perm (page - at / 4096))) q
op_leaves (op.Unmap at len) cells q = get-change cells (at / 4096) (pages_of len) (λ page _. None) q
op_leaves (op.Protect at len perm) cells q = get-change cells (at / 4096) (pages_of len) (λ page. option_map (with_perm perm)) q

leaves_in : (o : TxnOp) (cells : AddressSpace) (q : ℕ) → within (op_first o) (op_pages o) q ≡ true → fin.get (after_op o cells) q ≡ new_of o q (fin.get cells q)
leaves_in o cells q w = op_leaves o cells q ∙ ap (λ b. cond b (new_of o q (fin.get cells q)) (fin.get cells q)) w

pub leaves_out : (o : TxnOp) (cells : AddressSpace) (q : ℕ) → within (op_first o) (op_pages o) q ≡ false → fin.get (after_op o cells) q ≡ fin.get cells q
leaves_out o cells q w = op_leaves o cells q ∙ ap (λ b. cond b (new_of o q (fin.get cells q)) (fin.get cells q)) w

-- a span that lies in the range is alike afterwards where it was before
pub inside_alike : (o : TxnOp) (cells : AddressSpace) (first count : ℕ) → lies_in first count (op_first o) (op_pages o) ≡ true → is_alike cells first count ≡ true → is_alike (after_op o cells) first count ≡ true
unfolding new_of
inside_alike o cells first count h was =
    by_kind o (λ q a b. leaves_in o cells q (here (op_first o) (op_pages o) q (ends (op_first o) (op_pages o) h).0 (ends (op_first o) (op_pages o) h).1 a b)) (ends (op_first o) (op_pages o) h).0
  where
    ends : (low n : ℕ) → lies_in first count low n ≡ true → (low ≤ first) × (first + count ≤ low + n)
    ends low n h = let both = and_parts (nat_le low first) (nat_le (first + count) (low + n)) h in (leb-true low first both.0, leb-true (first + count) (low + n) both.1)

    here : (low n q : ℕ) → low ≤ first → first + count ≤ low + n → first ≤ q → q < first + count → within low n q ≡ true
    here low n q l g a b = to_range low n q (omega arith) (omega arith)

    by_kind : (o : TxnOp) → ((q : ℕ) → first ≤ q → q < first + count → fin.get (after_op o cells) q ≡ new_of o q (fin.get cells q)) → op_first o ≤ first → is_alike (after_op o cells) first count ≡ true
    by_kind (op.Map at fresh len perm what) left low = backed_alike (after_op (op.Map at fresh len perm what) cells) first count what perm (at / 4096) low left
    by_kind (op.Unmap at len) left low = none_alike (after_op (op.Unmap at len) cells) first count left
    by_kind (op.Protect at len perm) left low = protected_alike cells (after_op (op.Protect at len perm) cells) first count perm left was

-- and where it is mapped or unmapped it is alike at any rate
pub mapped_inside : (o : TxnOp) (cells : AddressSpace) (first count : ℕ) → is_map o ≡ true → lies_in first count (op_first o) (op_pages o) ≡ true → is_alike (after_op o cells) first count ≡ true
unfolding new_of
mapped_inside (op.Unmap at len) cells first count is h = absurd (true≢false (sym is))
mapped_inside (op.Protect at len perm) cells first count is h = absurd (true≢false (sym is))
mapped_inside (op.Map at fresh len perm what) cells first count is h =
    let both = and_parts (nat_le (at / 4096) first) (nat_le (first + count) (at / 4096 + pages_of len)) h in
    let low = leb-true (at / 4096) first both.0 in
    backed_alike (after_op (op.Map at fresh len perm what) cells) first count what perm (at / 4096) low
    (λ q a b. leaves_in (op.Map at fresh len perm what) cells q (to_range (at / 4096) (pages_of len) q (omega (arith, low, a)) (omega (arith, leb-true (first + count) (at / 4096 + pages_of len) both.1, b))))

-- a span without a page of the range is as alike as before
outside_alike : (o : TxnOp) (cells : AddressSpace) (first count : ℕ) → (first + count ≤ op_first o) ⊎ (op_first o + op_pages o ≤ first) → is_alike cells first count ≡ true → is_alike (after_op o cells) first count ≡ true
outside_alike o cells first count apart was = same_alike cells (after_op o cells) first count (λ q a b. leaves_out o cells q (not_in (op_first o) (op_pages o) q apart a b)) was
  where
    missing : (low n q : ℕ) → (first + count ≤ low) ⊎ (low + n ≤ first) → first ≤ q → q < first + count → (low ≤ q) × (q < low + n) → ⊥
    missing low n q (inl before) a b at = omega (arith, at.0)
    missing low n q (inr behind) a b at = omega (arith, at.1)

    not_in : (low n q : ℕ) → (first + count ≤ low) ⊎ (low + n ≤ first) → first ≤ q → q < first + count → within low n q ≡ false
    not_in low n q apart a b = false_from_ne_true _ (λ w. missing low n q apart a b (in_range low n q w))

module _ (st : State) (space : ℕ) where
  -- a table whose span is not alike after an operation was so before, or its range cuts it
  pub op_unlike : (o : TxnOp) (cells : AddressSpace) (p : Place) → levels st ≤ 5 → 1 ≤ op_pages o → p.space ≡ space → 1 ≤ p.level → p.level < levels st → is_unlike (after_op o cells) p ≡ true →
      (is_unlike cells p ≡ true) ⊎ (is_wanted (cut_by_op st space o) p ≡ true)
  op_unlike o cells p few some here low high h = by_place (lies_in (span_first p) (span_count p) (op_first o) (op_pages o)) refl
    where
      was : (is_alike cells (span_first p) (span_count p) ≡ true → is_alike (after_op o cells) (span_first p) (span_count p) ≡ true) → is_unlike cells p ≡ true
      was keeps = not_from_false _ (false_from_ne_true _ (λ alike. true≢false (sym (keeps alike) ∙ not-true _ h)))

      cut : (q : ℕ) → op_first o ≤ q → q < op_first o + op_pages o → span_first p ≤ q → q < span_first p + span_count p → lies_in (span_first p) (span_count p) (op_first o) (op_pages o) ≡ false → is_wanted (cut_by_op st space o) p ≡ true
      cut q a b a' b' outside = cut_is_wanted (levels st) space (op_first o) (op_pages o) p q few here low high (to_range (op_first o) (op_pages o) q a b) a' b' outside

      ahead : lies_in (span_first p) (span_count p) (op_first o) (op_pages o) ≡ false → span_first p < op_first o → (op_first o < span_first p + span_count p) ⊎ (span_first p + span_count p ≤ op_first o) →
          (is_unlike cells p ≡ true) ⊎ (is_wanted (cut_by_op st space o) p ≡ true)
      ahead outside less (inl meets) = inr (cut (op_first o) (omega arith) (omega (arith, some)) (omega (arith, less)) meets outside)
      ahead outside less (inr before) = inl (was (outside_alike o cells (span_first p) (span_count p) (inl before)))

      behind : lies_in (span_first p) (span_count p) (op_first o) (op_pages o) ≡ false → op_first o ≤ span_first p → (span_first p < op_first o + op_pages o) ⊎ (op_first o + op_pages o ≤ span_first p) →
          (is_unlike cells p ≡ true) ⊎ (is_wanted (cut_by_op st space o) p ≡ true)
      behind outside less (inl meets) = inr (cut (span_first p) less meets (omega arith) (omega (arith, span_pos p.level)) outside)
      behind outside less (inr after) = inl (was (outside_alike o cells (span_first p) (span_count p) (inr after)))

      by_place : (b : Bool) → lies_in (span_first p) (span_count p) (op_first o) (op_pages o) ≡ b → (is_unlike cells p ≡ true) ⊎ (is_wanted (cut_by_op st space o) p ≡ true)
      by_place true inside = inl (was (inside_alike o cells (span_first p) (span_count p) inside))
      by_place false outside = elim (cases_lt (span_first p) (op_first o)) [
        | inl less ↦ ahead outside less (cases_lt (op_first o) (span_first p + span_count p))
        | inr more ↦ behind outside more (cases_lt (span_first p) (op_first o + op_pages o))
      ]

  -- the same for operations in order
  ops_unlike : (os : List TxnOp) (cells : AddressSpace) (p : Place) → levels st ≤ 5 → AllByRecursion (IsOver (levels st)) os → p.space ≡ space → 1 ≤ p.level → p.level < levels st → is_unlike (after_ops os cells) p ≡ true →
      (is_unlike cells p ≡ true) ⊎ (is_wanted (flat_map (cut_by_op st space) os) p ≡ true)
  ops_unlike [] cells p few over here low high h = inl h
  ops_unlike (o ∷ os) cells p few over here low high h = elim (ops_unlike os (after_op o cells) p few over.1 here low high h) [
    | inr later ↦ inr (any_append (eq_by_cmp place_cmp p) (cut_by_op st space o) (flat_map (cut_by_op st space) os) ∙ or_right _ _ later)
    | inl still ↦ (elim (op_unlike o cells p few over.0.some here low high still) [
      | inl was ↦ inl was
      | inr cut ↦ inr (any_append (eq_by_cmp place_cmp p) (cut_by_op st space o) (flat_map (cut_by_op st space) os) ∙ or_left _ _ cut)
    ])
  ]

  -- the tables that the operations of a transaction want
  ops_wanted : (os : List TxnOp) → 1 ≤ levels st → levels st ≤ 5 → space < 64 → AllByRecursion (IsOver (levels st)) os → AreWanted (levels st) space (flat_map (cut_by_op st space) os)
  ops_wanted [] some few known over = none_wanted (levels st) space
  ops_wanted (o ∷ os) some few known over = both_wanted (levels st) space (cut_by_op st space o) (flat_map (cut_by_op st space) os)
      (cut_wanted (levels st) space (op_first o) (op_pages o) some few known over.0.some over.0.user) (ops_wanted os some few known over.1)

  all_fit : (os : List TxnOp) → AllByRecursion (IsOver (levels st)) os → AllByRecursion (OpFits st [] [] space) os
  all_fit [] over = tt
  all_fit (o ∷ os) over = (record { user = over.0.user; index = over.0.index }, all_fit os over.1)

  pub after_ops_fit : (os : List TxnOp) → IsConsistent st → AllByRecursion (IsOver (levels st)) os → AllFit st [] [] space (after_ops os (space_at st space))
  after_ops_fit os ok over =
      ops_fit st [] [] space os (space_at st space) (all_fit os over) (λ p c e. old_fits st space (after_ops os (space_at st space)) st.tables [] [] ok p c e)

  -- a call that is operations alone
  pub ops_keep : (is_given_up : Place → Bool) (os : List TxnOp) → IsConsistent st → is_present st space ≡ true → GivesUp (levels st) space is_given_up → AllByRecursion (IsOver (levels st)) os →
      linked st + need (unlike_tables (levels st) space (after_ops os (space_at st space))) st.tables ≤ st.limits.tables →
      IsConsistent (changed st space (after_ops os (space_at st space)) (changed_tables is_given_up (unlike_tables (levels st) space (after_ops os (space_at st space))) st.tables))
  ops_keep is_given_up os ok here gives over room =
      unlike_keep st space (after_ops os (space_at st space)) is_given_up [] [] ok here gives nothing_taken (after_ops_fit os ok over) room

  -- a transaction
  pub txn_ops_keep : (is_given_up : Place → Bool) (os : List TxnOp) → IsConsistent st → is_present st space ≡ true → ((p : Place) → is_given_up p ≡ false) → AllByRecursion (IsOver (levels st)) os →
      linked st + need (flat_map (cut_by_op st space) os) st.tables ≤ st.limits.tables →
      IsConsistent (changed st space (after_ops os (space_at st space)) (changed_tables is_given_up (flat_map (cut_by_op st space) os) st.tables))
  txn_ops_keep is_given_up os ok here none over room =
      let wanted = flat_map (cut_by_op st space) os in
      let cells = after_ops os (space_at st space) in
      let gives = gives_none (levels st) space is_given_up none in
      cells_keep st space cells (changed_tables is_given_up wanted st.tables) [] [] ok here nothing_taken (after_ops_fit os ok over)
      (settled is_given_up wanted st space cells ok here gives.below gives.down (ops_wanted os (omega (arith, ok.some_levels)) ok.few_levels (ok.spaces space here) over)
      (λ p e low high h. elim (ops_unlike os (space_at st space) p ok.few_levels over e low high h) [
        | inl was ↦ inl (ok.unlike p low high (ap (λ s. is_unlike (space_at st s) p) e ∙ was), none p)
        | inr cut ↦ inr cut
      ]) room)
