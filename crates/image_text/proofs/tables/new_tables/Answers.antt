-- One level more.
use Rattle.std.proofs.Common.{◌≡◌, ℕ, zero, suc, ◌+◌, ◌-◌, ◌*◌, ◌<◌, ◌≤◌, List, [], ◌∷◌, ◌++◌, refl, sym, ap, ◌∙◌, arith}
use Rattle.std.specs.List.{sum_by, range_with_len}
use Rattle.std.proofs.lemmas.List.Sums.{sum_by_push}
use Rattle.image_text.specs.Reading.{new_in_level}
use Rattle.image_text.proofs.tables.new_tables.Goals as goal

range_push : (a n : ℕ) → range_with_len a (suc n) ≡ range_with_len a n ++ (a + n) ∷ []
range_push a zero = let same : a ≡ a + 0 = omega arith in ap (λ x. x ∷ []) same
range_push a (suc n) = ap (λ xs. a ∷ xs) (range_push (a + 1) n ∙ ap (λ x. range_with_len (a + 1) n ++ x ∷ []) (moved a n))
  where
    moved : (a n : ℕ) → a + 1 + n ≡ a + suc n
    moved a n = omega arith

one_more : (f : ℕ → ℕ) (level tables new : ℕ) → 1 ≤ level → tables ≡ sum_by f (range_with_len 1 (level - 1)) → new ≡ f level → tables + new ≡ sum_by f (range_with_len 1 (level + 1 - 1))
one_more f level tables new low was is =
    (λ i. was i + is i)
    ∙ sym (ap (λ n. sum_by f (range_with_len 1 n)) (next level low) ∙ ap (sum_by f) (range_push 1 (level - 1)) ∙ sum_by_push f (range_with_len 1 (level - 1)) (1 + (level - 1)) ∙ ap (λ n. sum_by f (range_with_len 1 (level - 1)) + f n) (here level low))
  where
    next : (l : ℕ) → 1 ≤ l → l + 1 - 1 ≡ suc (l - 1)
    next l h = omega (arith, h)

    here : (l : ℕ) → 1 ≤ l → 1 + (l - 1) ≡ l
    here l h = omega (arith, h)

pub loop-level-preserved : goal.loop-level-preserved
loop-level-preserved c =
    let l = c.loop-level in
    let low : 1 ≤ l.level = l.invariant.low in
    let new = c.new_in_level-tables.ensures in
    record {
      counted = one_more (new_in_level c.args.behind c.args.first c.args.end) l.level l.tables c.new_in_level-tables.result low l.invariant.counted new.value;
      few = (let was = l.invariant.few in let more = new.few in omega (arith, was, more, low));
      low = omega (arith, low);
      high = (let test = c.loop-level-test.true in omega (arith, test));
    }
