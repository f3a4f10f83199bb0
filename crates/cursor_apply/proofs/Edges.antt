-- An entry that has some pages of a range but not all, and stands for alike pages before and after, stands for the same ones.
--     same_kind      two spans of alike pages that have one page in common have the same pages
use Rattle.std.specs.Prelude.{◌≡◌, ℕ, ◌+◌, ◌-◌, ◌⊎◌, true, Option, Some, None}
use Rattle.std.specs.FinMap.{get}
use Rattle.std.proofs.Common.{sym, refl, ◌∙◌, ap, arith, inl, inr}
use Rattle.table_place.specs.Range.{within}
use Rattle.page_map.specs.declared.cell.Cell.{Cell}
use Rattle.page_map.specs.declared.cell.Cell.TheVariants.{Anon, File, Mapped, Swapped}
use Rattle.page_map.specs.Cell.{AddressSpace}
use Rattle.page_map.specs.Alike.{is_alike}
use Rattle.page_map.specs.SpanKinds.{IsOfOneKind}
use Rattle.page_map.proofs.SpanKinds.{alike_kind}

module _ (m n : AddressSpace) (first count p : ℕ) (inside : within first count p ≡ true) (same : get n p ≡ get m p) (page : ℕ) (there : within first count page ≡ true) where
  one_kind : IsOfOneKind m first count → IsOfOneKind n first count → get n page ≡ get m page
  one_kind (inl a) (inl b) = b page there ∙ sym (a page there)
  one_kind (inl a) (inr (inl b)) = let e = a p inside in let f = b.1 p inside in absurd (cc)
  one_kind (inl a) (inr (inr b)) = let e = a p inside in let f = b.3 p inside in absurd (cc)
  one_kind (inr (inl a)) (inl b) = let e = a.1 p inside in let f = b p inside in absurd (cc)
  one_kind (inr (inl a)) (inr (inl b)) = let e = a.1 p inside in let f = b.1 p inside in let g = a.1 page there in let h = b.1 page there in cc
  one_kind (inr (inl a)) (inr (inr b)) = let e = a.1 p inside in let f = b.3 p inside in absurd (cc)
  one_kind (inr (inr a)) (inl b) = let e = a.3 p inside in let f = b p inside in absurd (cc)
  one_kind (inr (inr a)) (inr (inl b)) = let e = a.3 p inside in let f = b.1 p inside in absurd (cc)
  one_kind (inr (inr a)) (inr (inr b)) =
      let both : Some (File a.0 a.1 (a.2 + (p - first))) ≡ Some (File b.0 b.1 (b.2 + (p - first))) = sym (a.3 p inside) ∙ (sym same ∙ b.3 p inside) in
      let perm : a.0 ≡ b.0 = cc in
      let file : a.1 ≡ b.1 = cc in
      let number : a.2 + (p - first) ≡ b.2 + (p - first) = cc in
      let index : a.2 ≡ b.2 = omega arith in
      b.3 page there ∙ (sym (λ i. Some (File (perm i) (file i) (index i + (page - first)))) ∙ sym (a.3 page there))

  pub same_kind : is_alike m first count ≡ true → is_alike n first count ≡ true → get n page ≡ get m page
  same_kind a b = one_kind (alike_kind m first count a) (alike_kind n first count b)
