-- One page that changes, and what that does to the counts of numbers.
use Rattle.std.proofs.Common.{◌≡◌, ℕ, ◌+◌, Bool, true, false, cond, refl, sym, ap, ◌∙◌, arith}
use Rattle.std.specs.Prelude.{Option, Some, None, nat_eq}
use Rattle.std.specs.Option.{option_map_or}
use Rattle.std.specs.Ordering.{nat_cmp}
use Rattle.std.specs.Cmp.{nat_cmp_total, unsigned_tied}
use Rattle.std.proofs.lemmas.Bool.{eqb-true}
use Rattle.std.specs.FinMap as fin
use Rattle.std.specs.FinMap.{FinMap, get, get-insert, same_map, nat_cmp-IsAntisymmetric}
use Rattle.page_map.specs.declared.cell.Cell.{Cell}
use Rattle.page_map.specs.Change.{change, set_at}
use Rattle.page_map.specs.State.{AddressSpace, carries}
use Rattle.page_map.proofs.Range.{change_more, change_none}
use Rattle.page_map.proofs.Weights.{weight_insert}
use Rattle.plain_counts.specs.Counts.{carried, one_at}

module _ {X : Type 0} where
  -- a map in which one key was put back
  pub put_back : (m : FinMap nat_cmp X) (k : ℕ) (x : X) → get m k ≡ Some x → fin.insert m k x ≡ m
  put_back m k x h = same_map nat_cmp_total nat_cmp-IsAntisymmetric _ _ (λ q.
      get-insert nat_cmp_total m k x q ∙ ap (λ b. cond b (Some x) (get m q)) (unsigned_tied q k) ∙ go q (nat_eq q k) refl)
    where
      go : (q : ℕ) (b : Bool) → nat_eq q k ≡ b → cond b (Some x) (get m q) ≡ get m q
      go q true e = sym h ∙ ap (get m) (sym (eqb-true q k e))
      go q false e = refl

  -- a range of one key
  pub change_one : (m : FinMap nat_cmp X) (k : ℕ) (new : ℕ → Option X → Option X) → change m k 1 new ≡ set_at m k (new k (get m k))
  change_one m k new = change_more m k 0 new ∙ (λ i. set_at (change_none m k new i) (same k i) (new (same k i) (get m (same k i))))
    where
      same : (a : ℕ) → a + 0 ≡ a
      same a = omega arith

-- a cell counts once for the number that it carries
pub counts_once : (number_of : Cell → Option ℕ) (n : ℕ) (c : Cell) → ◌≡◌ {A = ℕ} (cond (carries number_of n c) 1 0) (one_at (number_of c) n)
counts_once number_of n c = go (number_of c)
  where
    go : (o : Option ℕ) → ◌≡◌ {A = ℕ} (cond (option_map_or (λ m. nat_eq m n) o false) 1 0) (one_at o n)
    go None = refl
    go (Some m) = refl

-- how many cells carry a number, when one of them changes
pub carried_insert : (number_of : Cell → Option ℕ) (n : ℕ) (cells : AddressSpace) (page : ℕ) (old new : Cell) → get cells page ≡ Some old →
    carried number_of n (fin.insert cells page new) + one_at (number_of old) n ≡ carried number_of n cells + one_at (number_of new) n
carried_insert number_of n cells page old new h =
    let w : Cell → ℕ = λ c. cond (carries number_of n c) 1 0 in
    let sums = weight_insert nat_cmp_total w cells page new in
    let was : option_map_or w (get cells page) 0 ≡ one_at (number_of old) n = ap (λ o. option_map_or w o 0) h ∙ counts_once number_of n old in
    omega (arith, sums, was, counts_once number_of n new)
