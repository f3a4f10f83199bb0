-- Owner counts after a call that changes the cells of one space, by whether that space had the number before.
--     owners_changed      the owners of a number after the cells of one space changed
--     kept_count      a number that a page of the space had and that a page of it has keeps its count
--     came_count      a number without an owner that a page of the space gets has one owner
use Rattle.std.proofs.Common.{◌≡◌, ℕ, ◌+◌, ◌≤◌, true, false, cond, refl, sym, ap, ◌∙◌, arith}
use mathlib.Core.Bool.{true≢false}
use Rattle.std.specs.Prelude.{Option, Some, None, is_some, nat_eq}
use Rattle.std.specs.List.{count_by}
use Rattle.std.specs.Option.{unwrap_or, option_map_or}
use Rattle.std.specs.Cmp.{nat_cmp_total, nat_eq_equiv}
use Rattle.std.specs.FinMap as fin
use Rattle.page_map.specs.declared.cell.Cell.{Cell}
use Rattle.page_map.specs.State.{State, AddressSpace, carries, owners, space_at, cell_at, is_present, SharersAgree}
use Rattle.page_map.specs.Tables.{Tables}
use Rattle.page_map.proofs.Weights.{weight_insert}
use Rattle.page_map.proofs.Owners.{one_weight}
use Rattle.page_map.proofs.Cells.{changed, spaces_changed}
use Rattle.page_map.proofs.Few.{one_each}

there : {X : Type 0} (o : Option X) → is_some o ≡ true → (x : X) × (o ≡ Some x)
there None h = absurd (true≢false (sym h))
there (Some x) h = (x, refl)

module _ (number_of : Cell → Option ℕ) (n : ℕ) where
  abbrev all : AddressSpace → ℕ
  all cells = count_by (carries number_of n) (fin.values cells)

  carries_it : (c : Cell) → number_of c ≡ Some n → ◌≡◌ {A = ℕ} (cond (carries number_of n c) 1 0) 1
  carries_it c h = ap (λ b. cond b 1 0) (ap (λ o. option_map_or (λ m. nat_eq m n) o false) h ∙ nat_eq_equiv.refl n)

  one_at_least : (cells : AddressSpace) (p : ℕ) (c : Cell) → fin.get cells p ≡ Some c → number_of c ≡ Some n → 1 ≤ all cells
  one_at_least cells p c h is = let one = one_weight (λ c. cond (carries number_of n c) 1 0) cells p c h in omega (arith, one, carries_it c is)

  module _ (st : State) (space : ℕ) (cells : AddressSpace) (tables : Tables) where
    abbrev now : State
    now = changed st space cells tables

    pub owners_changed : is_present st space ≡ true → owners number_of now n + all (space_at st space) ≡ owners number_of st n + all (space_at now space)
    unfolding owners
    owners_changed here =
        let was = there (fin.get st.spaces space) here in
        let old : space_at st space ≡ was.0 = ap (λ o. unwrap_or o fin.empty) was.1 in
        let new : space_at now space ≡ cells = spaces_changed st space cells tables space ∙ ap (λ b. cond b cells (space_at st space)) (nat_eq_equiv.refl space) in
        let sums = weight_insert nat_cmp_total all st.spaces space cells in
        let gone : option_map_or all (fin.get st.spaces space) 0 ≡ all (space_at st space) = ap (λ o. option_map_or all o 0) was.1 ∙ ap all (sym old) in
        let come : all (space_at now space) ≡ all cells = ap all new in
        omega (arith, sums, gone, come)

    pub kept_count : is_present st space ≡ true → SharersAgree number_of st → SharersAgree number_of now → (p q : ℕ) (c d : Cell) → cell_at st space p ≡ Some c → number_of c ≡ Some n → cell_at now space q ≡ Some d → number_of d ≡ Some n
        → owners number_of now n ≡ owners number_of st n
    kept_count here shared shared_now p q c d had carried has carries_now =
        let sums = owners_changed here in
        let few_then = one_each number_of n st shared space in
        let few_now = one_each number_of n now shared_now space in
        let one_then = one_at_least (space_at st space) p c had carried in
        let one_now = one_at_least (space_at now space) q d has carries_now in
        omega (arith, sums, few_then, few_now, one_then, one_now)

    -- the space's own are among all owners
    some_of_all : is_present st space ≡ true → all (space_at st space) ≤ owners number_of st n
    unfolding owners
    some_of_all here =
        let was = there (fin.get st.spaces space) here in
        let old : space_at st space ≡ was.0 = ap (λ o. unwrap_or o fin.empty) was.1 in
        let one = one_weight all st.spaces space was.0 was.1 in
        let same : all (space_at st space) ≡ all was.0 = ap all old in
        omega (arith, one, same)

    pub came_count : is_present st space ≡ true → SharersAgree number_of now → (q : ℕ) (d : Cell) → owners number_of st n ≡ 0 → cell_at now space q ≡ Some d → number_of d ≡ Some n → owners number_of now n ≡ 1
    came_count here shared_now q d free has carries_now =
        let sums = owners_changed here in
        let few_now = one_each number_of n now shared_now space in
        let one_now = one_at_least (space_at now space) q d has carries_now in
        let some = some_of_all here in
        omega (arith, sums, few_now, one_now, free, some)
