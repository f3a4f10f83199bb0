-- The ranges of accesses and transactions.
use Rattle.std.proofs.Common.{◌≡◌, ℕ, zero, suc, ◌+◌, ◌-◌, ◌/◌, ◌%◌, ◌^◌, ◌<◌, ◌≤◌, true, List, [], ◌∷◌, ◌++◌, refl, sym, ap, subst, ◌∙◌, arith}
use Rattle.std.specs.Prelude.{map}
use Rattle.std.specs.List.{Contains, flat_map, range_with_len}
use Rattle.std.specs.FinSet as set
use Rattle.corten_base.specs.declared.calls.TxnOp.{TxnOp}
use Rattle.table_place.specs.Range.{within}
use Rattle.table_place.specs.Place.{cut_by}
use Rattle.table_place.proofs.Tables.{to_range}
use Rattle.page_map.specs.Access.{Access, first_page, page_count, after_access}
use Rattle.page_map.specs.Alike.{unlike_tables}
use Rattle.page_map.specs.State.{State, levels as levels_of, space_at}
use Rattle.page_map.specs.Effect.{cut_by_op}
use Rattle.page_map.specs.Mapping.{op_first, op_pages}
use Rattle.page_map.specs.Tables.{need}
use Rattle.page_map.specs.Takes.{Grant}
use Rattle.page_map.proofs.Mappings.{user_few}
use Rattle.page_map.proofs.NeedOf.{access_lack}
use Rattle.plain_counts.specs.declared.cut.Pages.{Pages}
use Rattle.plain_counts.specs.Cut.{cut_by_all}
use Rattle.machine_plan.specs.HeldRows.{Row, IsAsked}
use Rattle.held_needs.specs.Cutting.{last_of}
use Rattle.held_needs.specs.Found.{IsStateOf, EndsAsked}
use Rattle.held_needs.specs.Operation.{range_of}
use Rattle.held_needs.specs.Several.{IsReached, IsWithin}

pub one_page : (at len : ℕ) → 1 ≤ len → at % 4096 + len ≤ 4096 → (at + len - 1) / 4096 + 1 - at / 4096 ≡ 1
one_page at len some near = omega (arith, some, near)

pub two_pages : (at len : ℕ) → len ≤ 4096 → 4096 < at % 4096 + len → (at + len - 1) / 4096 + 1 - at / 4096 ≡ 2
two_pages at len few far = omega (arith, few, far)

pub some_pages : (at len : ℕ) → 1 ≤ len → 1 ≤ (at + len - 1) / 4096 + 1 - at / 4096
some_pages at len some = omega (arith, some)

abbrev pub page_range : ℕ → Pages
page_range page = record { first = page; count = 1 }

same_page : (page : ℕ) → page + 1 - 1 ≡ page
same_page page = omega arith

module _ (levels : ℕ) (rows : List Row) (space : ℕ) (st : State) (grants : Grant) (a : Access) (few : levels ≤ 5) (is : IsStateOf levels rows st) (reached : IsReached levels rows space st a) where
  pub first_small : 1 ≤ page_count a → first_page a < 2 ^ 44
  first_small some = omega (arith, user_few levels (first_page a) 1 few (reached.user (first_page a) (to_range (first_page a) (page_count a) (first_page a) (omega arith) (omega (arith, some)))))

  pub lacks_pages : (n : ℕ) → page_count a ≡ n →
      need (unlike_tables levels space (after_access st.files grants a (space_at st space))) st.tables ≡ need (cut_by_all levels space (map page_range (range_with_len (first_page a) n))) st.tables
  lacks_pages n count =
      subst (λ l. need (unlike_tables l space (after_access st.files grants a (space_at st space))) st.tables ≡ need (flat_map (λ page. cut_by l space page 1) (range_with_len (first_page a) (page_count a))) st.tables)
      is.same_levels (ap set.len (access_lack st space grants a is.consistent reached.mapped))
      ∙ ap (λ k. need (flat_map (λ page. cut_by levels space page 1) (range_with_len (first_page a) k)) st.tables) count
      ∙ ap (λ xs. need xs st.tables) (as_ranges (range_with_len (first_page a) n))
    where
      as_ranges : (pages : List ℕ) → flat_map (λ page. cut_by levels space page 1) pages ≡ cut_by_all levels space (map page_range pages)
      as_ranges [] = refl
      as_ranges (p ∷ ps) = ap (λ xs. cut_by levels space p 1 ++ xs) (as_ranges ps)

  pub page_asked : (page : ℕ) → within (first_page a) (page_count a) page ≡ true → IsAsked space rows (page_range page).first × IsAsked space rows (last_of (page_range page))
  page_asked page w = (reached.asked page w, subst (IsAsked space rows) (sym (same_page page)) (reached.asked page w))

-- the elements of short lists
pub only : {A : Type 0} (P : A → Type 0) (x r : A) → P x → Contains (x ∷ []) r → P r
only P x r p (zero, inside, is) = subst P is p
only P x r p (suc n, inside, is) = absurd (omega (arith, inside))

pub either : {A : Type 0} (P : A → Type 0) (x y r : A) → P x → P y → Contains (x ∷ y ∷ []) r → P r
either P x y r p q (zero, inside, is) = subst P is p
either P x y r p q (suc zero, inside, is) = subst P is q
either P x y r p q (suc (suc n), inside, is) = absurd (omega (arith, inside))

-- the ranges of operations
pub ranges_cut : (st : State) (levels space : ℕ) → levels_of st ≡ levels → (ops : List TxnOp) → flat_map (cut_by_op st space) ops ≡ cut_by_all levels space (map range_of ops)
ranges_cut st levels space same [] = refl
ranges_cut st levels space same (o ∷ os) = λ i. cut_by (same i) space (op_first o) (op_pages o) ++ ranges_cut st levels space same os i

pub range_in : (ops : List TxnOp) (r : Pages) → Contains (map range_of ops) r → (o : TxnOp) × Contains ops o × (range_of o ≡ r)
range_in [] r (n, inside, is) = absurd (omega (arith, inside))
range_in (o ∷ os) r (zero, inside, is) = (o, (0, omega arith, refl), is)
range_in (o ∷ os) r (suc n, inside, is) = let at = range_in os r (n, omega (arith, inside), is) in (at.0, (suc at.1.0, omega (arith, at.1.1), at.1.2), at.2)

pub ranges_asked : (levels space : ℕ) (rows : List Row) (ops : List TxnOp) → ((o : TxnOp) → Contains ops o → IsWithin levels rows space o) → EndsAsked space rows (map range_of ops)
ranges_asked levels space rows ops each r held =
    let at = range_in ops r held in
    let o = each at.0 at.1 in
    subst (λ (x : Pages). IsAsked space rows x.first × IsAsked space rows (last_of x)) at.2 (o.near, o.far)
