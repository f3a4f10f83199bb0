-- A span is alike where it is of one of three kinds, and nowhere else.
use Rattle.std.proofs.Common.{◌≡◌, ℕ, ◌-◌, true, false, inl, inr, refl, sym, ap, ◌∙◌, arith}
use mathlib.Core.Bool.{true≢false}
use Rattle.std.specs.Prelude.{Option, Some, None}
use Rattle.std.specs.FinMap as fin
use Rattle.corten_base.specs.declared.calls.Backing.TheVariants as backing
use Rattle.table_place.specs.Range.{within}
use Rattle.table_place.proofs.Tables.{in_range, to_range}
use Rattle.page_map.specs.declared.cell.Cell.{Cell}
use Rattle.page_map.specs.declared.cell.Cell.TheVariants.{Anon, File, Mapped, Swapped}
use Rattle.page_map.specs.Cell.{AddressSpace}
use Rattle.page_map.specs.Alike.{is_alike}
use Rattle.page_map.specs.SpanKinds.{IsOfOneKind}
use Rattle.page_map.proofs.Alike.{has_no_number, onward, continues_is, alike_at, alike_unnumbered, none_alike, backed_alike}

module _ (cells : AddressSpace) (first count : ℕ) where
  pub alike_kind : is_alike cells first count ≡ true → IsOfOneKind cells first count
  alike_kind h = go (fin.get cells first) refl
    where
      here : (o : Option Cell) → fin.get cells first ≡ o → (page : ℕ) → within first count page ≡ true → fin.get cells page ≡ onward (page - first) o
      here o e page w =
          let ends = in_range first count page w in
          continues_is (fin.get cells first) (page - first) (fin.get cells page) (alike_at cells first count h page ends.0 ends.1) ∙ ap (onward (page - first)) e

      -- the first page has no number where the span has a page
      none : has_no_number (fin.get cells first) ≡ false → (page : ℕ) → within first count page ≡ true → ⊥
      none numbered page w =
          let ends = in_range first count page w in
          true≢false (sym (alike_unnumbered cells first count h first (omega arith) (omega (arith, ends.0, ends.1))) ∙ numbered)

      go : (o : Option Cell) → fin.get cells first ≡ o → IsOfOneKind cells first count
      go None e = inl (here None e)
      go (Some (Anon perm)) e = inr (inl (perm, here (Some (Anon perm)) e))
      go (Some (File perm file index)) e = inr (inr (perm, file, index, here (Some (File perm file index)) e))
      go (Some (Mapped perm origin frame bytes)) e = inl (λ page w. absurd (none (ap has_no_number e) page w))
      go (Some (Swapped perm origin slot bytes)) e = inl (λ page w. absurd (none (ap has_no_number e) page w))

  pub kind_alike : IsOfOneKind cells first count → is_alike cells first count ≡ true
  kind_alike (inl none) = none_alike cells first count (λ page low high. none page (to_range first count page low high))
  kind_alike (inr (inl anon)) = backed_alike cells first count backing.Zero anon.0 first (omega arith) (λ page low high. anon.1 page (to_range first count page low high))
  kind_alike (inr (inr file)) = backed_alike cells first count (backing.File file.1 file.2) file.0 first (omega arith) (λ page low high. file.3 page (to_range first count page low high))
