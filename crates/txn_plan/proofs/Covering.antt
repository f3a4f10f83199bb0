-- Operations in order, and whether a page has a cell after them.
use Rattle.std.proofs.Common.{◌≡◌, ℕ, ◌+◌, ◌-◌, ◌<◌, Bool, true, false, cond, List, [], ◌∷◌, ◌++◌, refl, sym, ap, ◌∙◌, length, take, get_or}
use Rattle.std.proofs.lemmas.List.{take_more}
use Rattle.std.specs.Prelude.{Option, Some, None, is_some}
use Rattle.std.specs.Option.{option_or, option_map, unwrap_or}
use Rattle.std.specs.FinMap.{get}
use Rattle.corten_base.specs.declared.calls.TxnOp.{TxnOp}
use Rattle.corten_base.specs.declared.calls.TxnOp.TheVariants as op
use Rattle.table_place.specs.Range.{within}
use Rattle.table_place.specs.Place.{pages_of}
use Rattle.page_map.specs.declared.cell.Cell.{Cell}
use Rattle.page_map.specs.Cell.{with_perm}
use Rattle.page_map.specs.Mapping.{op_first, op_pages, after_op, after_ops, backed}
use Rattle.page_map.specs.State.{AddressSpace}
use Rattle.page_map.proofs.Range.{get-change}
use Rattle.txn_plan.specs.Covers.{presence_after, covered_by, covered}

or_assoc : {A : Type 0} (a b c : Option A) → option_or (option_or a b) c ≡ option_or a (option_or b c)
or_assoc None b c = refl
or_assoc (Some x) b c = refl

or_none : {A : Type 0} (a : Option A) → a ≡ option_or a None
or_none None = refl
or_none (Some x) = refl

-- one operation more
pub covered-append : (xs : List TxnOp) (o : TxnOp) (q : ℕ) → covered (xs ++ o ∷ []) q ≡ option_or (covered_by o q) (covered xs q)
covered-append [] o q = or_none (covered_by o q)
covered-append (x ∷ xs) o q = ap (λ c. option_or c (covered_by x q)) (covered-append xs o q) ∙ or_assoc (covered_by o q) (covered xs q) (covered_by x q)

-- what an operation leaves at a page of its range
abbrev left_at : TxnOp → ℕ → Option Cell → Option Cell
left_at (op.Map at fresh len perm what) page cell = Some (backed what perm (page - op_first (op.Map at fresh len perm what)))
left_at (op.Unmap at len) page cell = None
left_at (op.Protect at len perm) page cell = option_map (with_perm perm) cell

get-after_op : (o : TxnOp) (cells : AddressSpace) (q : ℕ) → get (after_op o cells) q ≡ cond (within (op_first o) (op_pages o) q) (left_at o q (get cells q)) (get cells q)
unfolding after_op
get-after_op (op.Map at fresh len perm what) cells q = get-change cells (op_first (op.Map at fresh len perm what)) (pages_of len) (λ page _. Some (backed what perm (page - op_first (op.Map at fresh len perm what)))) q
get-after_op (op.Unmap at len) cells q = get-change cells (op_first (op.Unmap at len)) (pages_of len) (λ _ _. None) q
get-after_op (op.Protect at len perm) cells q = get-change cells (op_first (op.Protect at len perm)) (pages_of len) (λ _. option_map (with_perm perm)) q

new_presence : (o : TxnOp) (q : ℕ) (c : Option Cell) → is_some (left_at o q c) ≡ unwrap_or (presence_after o) (is_some c)
new_presence (op.Map at fresh len perm what) q c = refl
new_presence (op.Unmap at len) q c = refl
new_presence (op.Protect at len perm) q None = refl
new_presence (op.Protect at len perm) q (Some c) = refl

presence_by : (o : TxnOp) (cells : AddressSpace) (q : ℕ) → is_some (get (after_op o cells) q) ≡ unwrap_or (covered_by o q) (is_some (get cells q))
presence_by o cells q = ap is_some (get-after_op o cells q) ∙ go (within (op_first o) (op_pages o) q)
  where
    go : (b : Bool) → is_some (cond b (left_at o q (get cells q)) (get cells q)) ≡ unwrap_or (cond b (presence_after o) None) (is_some (get cells q))
    go true = new_presence o q (get cells q)
    go false = refl

-- whether a page has a cell after operations
pub presence : (os : List TxnOp) (cells : AddressSpace) (q : ℕ) → is_some (get (after_ops os cells) q) ≡ unwrap_or (covered os q) (is_some (get cells q))
presence [] cells q = refl
presence (o ∷ os) cells q = presence os (after_op o cells) q ∙ ap (unwrap_or (covered os q)) (presence_by o cells q) ∙ both (covered os q) (covered_by o q) (is_some (get cells q))
  where
    both : (a b : Option Bool) (d : Bool) → unwrap_or a (unwrap_or b d) ≡ unwrap_or (option_or a b) d
    both None b d = refl
    both (Some x) b d = refl

-- the operations before the next one, and that one
pub one_more : (xs : List TxnOp) (i : ℕ) (d : TxnOp) → i < length xs → (q : ℕ) → covered (take (i + 1) xs) q ≡ option_or (covered_by (get_or xs i d) q) (covered (take i xs) q)
one_more xs i d h q = ap (λ os. covered os q) (take_more xs i d h) ∙ covered-append (take i xs) (get_or xs i d) q

-- where one operation more neither begins nor ends, nothing changes
pub same_more : (xs : List TxnOp) (i : ℕ) (d : TxnOp) → i < length xs → (p q first count : ℕ) → first ≡ op_first (get_or xs i d) → count ≡ op_pages (get_or xs i d) → within first count q ≡ within first count p →
    covered (take i xs) q ≡ covered (take i xs) p → covered (take (i + 1) xs) q ≡ covered (take (i + 1) xs) p
same_more xs i d h p q first count first_is count_is same so_far =
    let o = get_or xs i d in
    let here : within (op_first o) (op_pages o) q ≡ within (op_first o) (op_pages o) p = (λ j. within (sym first_is j) (sym count_is j) q) ∙ same ∙ (λ j. within (first_is j) (count_is j) p) in
    one_more xs i d h q ∙ (λ j. option_or (cond (here j) (presence_after o) None) (so_far j)) ∙ sym (one_more xs i d h p)
