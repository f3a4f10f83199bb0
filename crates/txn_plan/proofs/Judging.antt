-- An operation that is judged on what those before it leave.
use Rattle.std.proofs.Common.{◌≡◌, ℕ, ◌+◌, ◌-◌, ◌*◌, ◌/◌, ◌<◌, Bool, true, false, cond, List, [], ◌∷◌, ◌++◌, length, take, drop, get_or, refl, sym, ap, ◌∙◌, arith}
use Rattle.std.proofs.lemmas.List.{take_more, drop_more}
use Rattle.std.specs.Prelude.{Option, Some, None, is_some, is_none}
use Rattle.std.specs.Option.{option_or, option_map}
use Rattle.std.specs.FinMap.{get}
use Rattle.corten_base.specs.declared.permissions.Perm.{Perm}
use Rattle.corten_base.specs.declared.calls.Backing.{Backing}
use Rattle.corten_base.specs.declared.calls.TxnOp.{TxnOp}
use Rattle.corten_base.specs.declared.calls.TxnOp.TheVariants as op
use Rattle.corten_base.specs.declared.calls.Why.{Why}
use Rattle.corten_base.specs.declared.calls.Why.TheVariants as why
use Rattle.table_place.specs.Place.{pages_of}
use Rattle.page_map.specs.Change.{least}
use Rattle.page_map.specs.Mapping.{op_first, op_pages, after_op, after_ops, refused_op, why_undone, undone}
use Rattle.page_map.specs.State.{AddressSpace}
use Rattle.page_map.proofs.Least.{least_passes}

-- the range of an operation
range_is : (passes : ℕ → Bool) (first count first' count' : ℕ) → first ≡ first' → count ≡ count' → least first (first + count - first) passes ≡ least first' count' passes
range_is passes first count first' count' e f = (λ i. least (e i) (same i) passes)
  where
    same : first + count - first ≡ count'
    same = omega (arith, f)

-- the page that is found is one of the operation's
pub found_below : (passes : ℕ → Bool) (first count page : ℕ) → Some page ≡ least first (first + count - first) passes → page < first + count
found_below passes first count page e = omega (arith, (least_passes first (first + count - first) passes page (sym e)).1)

pub fresh_below : (fresh : Bool) (passes : ℕ → Bool) (first count page : ℕ) → Some page ≡ cond fresh (least first (first + count - first) passes) None → page < first + count
fresh_below true passes first count page e = found_below passes first count page e
fresh_below false passes first count page e = absurd (none e)
  where
    none : ◌≡◌ {A = Option ℕ} (Some page) None → ⊥
    none e = cc

module _ (m : AddressSpace) (o : TxnOp) (first count : ℕ) (first_is : first ≡ op_first o) (count_is : count ≡ op_pages o) where
  pub refused_map : (at len : ℕ) (fresh : Bool) (perm : Perm) (what : Backing) → o ≡ op.Map at fresh len perm what →
      refused_op o m ≡ option_map (λ page. why.Exists (4096 * page)) (cond fresh (least first (first + count - first) (λ q. is_some (get m q))) None)
  refused_map at len fresh perm what e =
      ap (λ o. refused_op o m) e
      ∙ choice fresh _
      ∙ ap (λ l. option_map (λ page. why.Exists (4096 * page)) (cond fresh l None)) (sym (range_is (λ q. is_some (get m q)) first count (at / 4096) (pages_of len) (first_is ∙ ap op_first e) (count_is ∙ ap op_pages e)))
    where
      choice : (b : Bool) (l : Option ℕ) → cond b (option_map (λ page. why.Exists (4096 * page)) l) None ≡ option_map (λ page. why.Exists (4096 * page)) (cond b l None)
      choice true l = refl
      choice false l = refl

  pub refused_protect : (at len : ℕ) (perm : Perm) → o ≡ op.Protect at len perm → refused_op o m ≡ option_map (λ page. why.Hole (4096 * page)) (least first (first + count - first) (λ q. is_none (get m q)))
  refused_protect at len perm e =
      ap (λ o. refused_op o m) e
      ∙ ap (option_map (λ page. why.Hole (4096 * page))) (sym (range_is (λ q. is_none (get m q)) first count (at / 4096) (pages_of len) (first_is ∙ ap op_first e) (count_is ∙ ap op_pages e)))

pub after-append : (xs ys : List TxnOp) (cells : AddressSpace) → after_ops (xs ++ ys) cells ≡ after_ops ys (after_ops xs cells)
after-append [] ys cells = refl
after-append (x ∷ xs) ys cells = after-append xs ys (after_op x cells)

-- one operation more
pub after_more : (os : List TxnOp) (i : ℕ) (d : TxnOp) (cells : AddressSpace) → i < length os → after_ops (take (i + 1) os) cells ≡ after_op (get_or os i d) (after_ops (take i os) cells)
after_more os i d cells h = ap (λ xs. after_ops xs cells) (take_more os i d h) ∙ after-append (take i os) (get_or os i d ∷ []) cells

-- the next operation is not refused
pub passed : (is_right : TxnOp → Bool) (os done : List TxnOp) (i : ℕ) (d : TxnOp) (cells : AddressSpace) → i < length os → done ≡ take i os → None ≡ why_undone is_right (get_or os i d) (after_ops done cells) →
    undone is_right (i + 1) (drop i os) (after_ops (take i os) cells) ≡ undone is_right (i + 1 + 1) (drop (i + 1) os) (after_ops (take (i + 1) os) cells)
passed is_right os done i d cells h front none =
    let m = after_ops (take i os) cells in
    let rest = drop (i + 1) os in
    ap (λ xs. undone is_right (i + 1) xs m) (drop_more os i d h)
    ∙ ap (λ w. option_or (option_map (λ v. (i + 1, v)) w) (undone is_right (i + 1 + 1) rest (after_op (get_or os i d) m))) (sym (none ∙ ap (λ xs. why_undone is_right (get_or os i d) (after_ops xs cells)) front))
    ∙ ap (undone is_right (i + 1 + 1) rest) (sym (after_more os i d cells h))

-- the next operation is refused
pub stopped : (is_right : TxnOp → Bool) (os done : List TxnOp) (i : ℕ) (d : TxnOp) (cells : AddressSpace) (w : Why) → i < length os → done ≡ take i os → Some w ≡ why_undone is_right (get_or os i d) (after_ops done cells) →
    undone is_right (i + 1) (drop i os) (after_ops (take i os) cells) ≡ Some (i + 1, w)
stopped is_right os done i d cells w h front some =
    let m = after_ops (take i os) cells in
    ap (λ xs. undone is_right (i + 1) xs m) (drop_more os i d h)
    ∙ ap (λ w. option_or (option_map (λ v. (i + 1, v)) w) (undone is_right (i + 1 + 1) (drop (i + 1) os) (after_op (get_or os i d) m))) (sym (some ∙ ap (λ xs. why_undone is_right (get_or os i d) (after_ops xs cells)) front))
