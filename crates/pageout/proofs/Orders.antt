-- The orders of pages and of victims.
use Rattle.std.proofs.Common.{◌≡◌, ℕ, true, refl, ap, ◌∙◌}
use Rattle.std.specs.Prelude.{◌&&◌, nat_eq}
use Rattle.std.specs.Ordering.{nat_cmp, ordering_then, is_eq, eq_by_cmp}
use Rattle.std.specs.Cmp.{IsTotalOrder, nat_cmp_total, unsigned_tied}
use Rattle.std.specs.declared.cmp.Ordering.{Ordering}
use Rattle.std.specs.declared.cmp.Ordering.TheVariants.{Less, Equal, Greater}
use Rattle.std.proofs.lemmas.Cmp.{then_total, on_total}
use Rattle.std.proofs.lemmas.Map.Lookups.{CmpEqualImpliesEq, exact_pairs, exact_unsigned}
use Rattle.std.proofs.lemmas.Map.Views.{tells_apart}
use Rattle.pageout.specs.declared.marks.Key.{Key}
use Rattle.pageout.specs.declared.marks.Owner.{Owner}
use Rattle.pageout.specs.declared.victims.Victim.{Victim}
use Rattle.pageout.specs.Victims.{victim_cmp}
use Rattle.pageout.specs.Index.{key_cmp, key_of, owner_cmp}

pub key_total : IsTotalOrder key_cmp
key_total = then_total (on_total (λ (k : Key). k.space) nat_cmp_total) (on_total (λ (k : Key). k.page) nat_cmp_total)

pub key_exact : CmpEqualImpliesEq key_cmp
key_exact a b h =
    ap (λ (p : ℕ × ℕ). key_of p.0 p.1) (exact_pairs nat_cmp nat_cmp exact_unsigned exact_unsigned (a.space, a.page) (b.space, b.page) h)

pub owner_total : IsTotalOrder owner_cmp
owner_total = then_total (on_total (λ (o : Owner). o.frame) nat_cmp_total) (on_total (λ (o : Owner). o.key) key_total)

pub owner_exact : CmpEqualImpliesEq owner_cmp
owner_exact a b h = ap (λ (p : ℕ × Key). record { frame = p.0; key = p.1 }) (exact_pairs nat_cmp key_cmp exact_unsigned key_exact (a.frame, a.key) (b.frame, b.key) h)

pub victim_total : IsTotalOrder victim_cmp
victim_total =
    then_total (on_total (λ (v : Victim). v.touched) nat_cmp_total)
    (then_total (on_total (λ (v : Victim). v.space) nat_cmp_total) (on_total (λ (v : Victim). v.page) nat_cmp_total))

pub victim_exact : CmpEqualImpliesEq victim_cmp
victim_exact a b h =
    ap (λ (p : ℕ × (ℕ × ℕ)). record { touched = p.0; space = p.1.0; page = p.1.1 })
    (exact_pairs nat_cmp _ exact_unsigned (exact_pairs nat_cmp nat_cmp exact_unsigned exact_unsigned) (a.touched, (a.space, a.page)) (b.touched, (b.space, b.page)) h)

both_equal : (a b : Ordering) → is_eq (ordering_then a b) ≡ (is_eq a && is_eq b)
both_equal Less b = refl
both_equal Equal b = refl
both_equal Greater b = refl

pub key_tied : (a b : Key) → eq_by_cmp key_cmp a b ≡ (nat_eq a.space b.space && nat_eq a.page b.page)
key_tied a b = both_equal (nat_cmp a.space b.space) (nat_cmp a.page b.page) ∙ (λ i. unsigned_tied a.space b.space i && unsigned_tied a.page b.page i)

pub same_key : (a b : Key) → eq_by_cmp key_cmp a b ≡ true → a ≡ b
same_key = tells_apart key_exact

pub one_key : (a b : Key) → (nat_eq a.space b.space && nat_eq a.page b.page) ≡ true → a ≡ b
one_key a b h = same_key a b (key_tied a b ∙ h)
