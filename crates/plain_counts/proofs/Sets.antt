-- A `BTreeSet` seen as a finite set.
use Rattle.std.proofs.Common.{◌≡◌, ℕ, suc, ◌+◌, Bool, true, false, cond, not, List, [], ◌∷◌, length, refl, sym, ap, ◌∙◌, arith}
use Rattle.std.specs.Prelude.{◌||◌, ◌&&◌}
use Rattle.std.specs.List.{list_any, AllByRecursion}
use Rattle.std.specs.List.Sorted.{IsStrictlySortedBy}
use Rattle.std.specs.Ordering.{eq_by_cmp, is_eq}
use Rattle.std.specs.declared.cmp.Ordering.{Ordering}
use Rattle.std.specs.declared.cmp.Ordering.TheVariants.{Less}
use Rattle.std.specs.Cmp.{IsTotalOrder, eq_by_cmp_equiv}
use Rattle.std.specs.FinMap.{IsAntisymmetric}
use Rattle.std.specs.FinSet as set
use Rattle.std.specs.FinSet.{same_set, contains-from_list, contains-insert, contains-remove, len-empty, len-insert}
use Rattle.std.specs.BTreeSet.{BTreeSet}
use Rattle.std.specs.BTreeSet as tree

module _ {K : Type 0} {R : K → K → Ordering} (o : IsTotalOrder R) (same : IsAntisymmetric R) where
  put_in : (b c : Bool) → cond b true c ≡ (b || c)
  put_in true c = refl
  put_in false c = refl

  taken_out : (b c : Bool) → cond b false c ≡ (not b && c)
  taken_out true c = refl
  taken_out false c = refl

  -- a set that has one key more
  pub inserted_keys : (s n : BTreeSet K) (k : K) → ((q : K) → tree.contains R n q ≡ cond (eq_by_cmp R k q) true (tree.contains R s q)) →
      set.from_list {R = R} n.keys ≡ set.insert (set.from_list s.keys) k
  inserted_keys s n k h = same_set o same _ _ (λ q.
      contains-from_list o n.keys q ∙ h q ∙ put_in (eq_by_cmp R k q) _ ∙ ap (λ b. b || tree.contains R s q) ((eq_by_cmp_equiv o).symm k q)
      ∙ sym (contains-insert o (set.from_list s.keys) k q ∙ ap (λ b. eq_by_cmp R q k || b) (contains-from_list o s.keys q)))

  -- a set without one of its keys
  pub removed_keys : (s n : BTreeSet K) (k : K) → ((q : K) → tree.contains R n q ≡ cond (eq_by_cmp R k q) false (tree.contains R s q)) →
      set.from_list {R = R} n.keys ≡ set.remove (set.from_list s.keys) k
  removed_keys s n k h = same_set o same _ _ (λ q.
      contains-from_list o n.keys q ∙ h q ∙ taken_out (eq_by_cmp R k q) _ ∙ ap (λ b. not b && tree.contains R s q) ((eq_by_cmp_equiv o).symm k q)
      ∙ sym (contains-remove o (set.from_list s.keys) k q ∙ ap (λ b. not (eq_by_cmp R q k) && b) (contains-from_list o s.keys q)))

  absent : (k : K) (ks : List K) → AllByRecursion (λ y. R k y ≡ Less) ks → list_any (eq_by_cmp R k) ks ≡ false
  absent k [] h = refl
  absent k (x ∷ ks) h = (λ i. is_eq (h.0 i) || absent k ks h.1 i)

  -- keys that ascend are as many as their set
  pub len_keys : (ks : List K) → IsStrictlySortedBy R ks → set.len (set.from_list {R = R} ks) ≡ length ks
  unfolding IsStrictlySortedBy
  len_keys [] h = len-empty R
  len_keys (k ∷ ks) h =
      len-insert o (set.from_list ks) k
      ∙ ap (λ b. cond b (set.len (set.from_list {R = R} ks)) (set.len (set.from_list {R = R} ks) + 1)) (contains-from_list o ks k ∙ absent k ks h.0)
      ∙ ap (λ n. n + 1) (len_keys ks h.1) ∙ one_more (length ks)
    where
      one_more : (n : ℕ) → n + 1 ≡ suc n
      one_more n = omega arith
