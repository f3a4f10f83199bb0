-- How many rows a commit grants, and how the rows of the book add up afterwards.
--     granted_fit      where nothing refuses a call, the free rows within the limit are enough
--     kit_rows, as_many_granted      the granted rows are the first free ones, and as many as the call needs
--     sum_accepted, sum_refused      the rows add up once the removed ones are in limbo;  and after a refusal
--     fixed_by_commit      so a commit leaves the fixed part of a book
use Rattle.std.specs.Prelude.{◌≡◌, ℕ, zero, suc, ◌+◌, ◌≤◌, Bool, true, false, cond, List, [], ◌∷◌, ◌++◌, map, take, length, nat_le, nat_lt, is_some, Some, None}
use Rattle.std.specs.List.{count_by, zip, range_with_len}
use Rattle.std.specs.FinSet as set
use Rattle.std.proofs.Common.{sym, refl, ◌∙◌, ap, subst, arith}
use Rattle.std.proofs.lemmas.Bool.{true≢false}
use Rattle.std.proofs.lemmas.List.{length-map}
use Rattle.std.proofs.lemmas.List.Sums.{count_by-le-length}
use Rattle.corten_base.specs.declared.numbers.Limits.{Limits}
use Rattle.corten_base.specs.declared.calls.Call.{Call}
use Rattle.corten_base.specs.declared.calls.Reply.{Reply}
use Rattle.corten_base.specs.declared.calls.Reply.TheVariants as reply
use Rattle.page_map.specs.Effect.{wanted_tables, is_given_up}
use Rattle.page_map.specs.State.{State, linked}
use Rattle.page_map.specs.Step.{refusal, step, no_tables}
use Rattle.page_map.specs.Tables.{need}
use Rattle.page_map.proofs.GivenUp.{next_len}
use Rattle.page_map.proofs.Steps.{passed, refused, not_none}
use Rattle.row_layout.specs.declared.limbo.Sampled.{Sampled}
use Rattle.machine_plan.specs.declared.kit.Kit.{Kit}
use Rattle.machine_plan.specs.Books.{BookData, state_of, free_list, free_rows_within, RowSum, unblocked}
use Rattle.machine_plan.specs.Kits.{IsFilled, IsGranted, IsRefused, Commits}
use Rattle.machine_plan.specs.Whole.{IsBook}
use Rattle.book.proofs.Counted.{state_limits}
use Rattle.book.proofs.Ending.{planned}
use Rattle.book.proofs.LeastRows.{rows_left}

tables_fit : (st : State) (thread : ℕ) (c : Call) (limbo : ℕ) → no_tables st thread c limbo ≡ None → linked st + need (wanted_tables st thread c) st.tables + limbo ≤ st.limits.tables
tables_fit st thread c limbo h = go (nat_lt st.limits.tables (linked st + need (wanted_tables st thread c) st.tables + limbo)) refl h
  where
    at_most : {a b : ℕ} → nat_lt a b ≡ false → b ≤ a
    at_most e = grind (arith, Rattle.std.proofs.lemmas.Bool.Decides.nat_tests, e)

    go : (b : Bool) → nat_lt st.limits.tables (linked st + need (wanted_tables st thread c) st.tables + limbo) ≡ b → cond b (Some (reply.NoTables (linked st) limbo (need (wanted_tables st thread c) st.tables))) None ≡ None →
        linked st + need (wanted_tables st thread c) st.tables + limbo ≤ st.limits.tables
    go true e g = absurd (not_none g)
    go false e g = at_most e

zip_first : (xs : List ℕ) (g n : ℕ) → n ≤ length xs → map (λ (p : ℕ × ℕ). p.0) (zip (take n xs) (range_with_len g n)) ≡ take n xs
zip_first [] g zero h = refl
zip_first [] g (suc n) h = absurd (omega (arith, h))
zip_first (x ∷ xs) g zero h = refl
zip_first (x ∷ xs) g (suc n) h = ap (λ (l : List ℕ). x ∷ l) (zip_first xs (g + 1) n (omega (arith, h)))

take_long : (xs : List ℕ) (n : ℕ) → n ≤ length xs → length (take n xs) ≡ n
take_long xs zero h = refl
take_long [] (suc n) h = absurd (omega (arith, h))
take_long (x ∷ xs) (suc n) h = let rest = take_long xs n (omega (arith, h)) in omega (arith, rest)

module _ (m b : BookData) (thread : ℕ) (c : Call) (kit kit' : Kit) (r : Reply) (is : IsBook m) (sum : RowSum m) (filled : IsFilled m thread c kit) (commits : Commits m thread c kit r b kit') where
  next_is : state_of b ≡ (step (state_of m) thread c (length m.limbo)).1
  next_is = ap (λ (x : Reply × State). x.1) commits.is_step

  limbo_long : length b.limbo ≡ length m.limbo
  limbo_long = ap length commits.limbo ∙ length-map m.limbo unblocked

  module _ (none : refusal (state_of m) thread c (length m.limbo) ≡ None) where
    pub is_granted : IsGranted m thread c kit b kit'
    is_granted = commits.accepted (ap is_some none)

    pub needed : kit.rows_needed ≡ need (wanted_tables (state_of m) thread c) (state_of m).tables
    needed = (planned m thread c kit is sum filled none).rows

    pub granted_fit : kit.rows_needed ≤ free_rows_within m
    granted_fit =
        let p = passed (state_of m) thread c (length m.limbo) none in
        let t = tables_fit (state_of m) thread c (length m.limbo) p.tables in
        let l : m.limits.tables ≡ (state_of m).limits.tables = sym (ap (λ (l : Limits). l.tables) (state_limits m)) in
        let n = needed in omega (arith, t, l, n, sum)

    enough : kit.rows_needed ≤ length (free_list m)
    enough = let less : free_rows_within m ≤ length (free_list m) = count_by-le-length (λ row. nat_le row m.limits.tables) (free_list m) in let fit = granted_fit in omega (arith, less, fit)

    pub kit_rows : map (λ (g : ℕ × ℕ). g.0) kit'.rows.items ≡ take kit.rows_needed (free_list m)
    kit_rows = ap (map (λ (g : ℕ × ℕ). g.0)) is_granted.rows ∙ zip_first (free_list m) m.next_generation kit.rows_needed enough

    pub as_many_granted : length kit'.rows.items ≡ need (wanted_tables (state_of m) thread c) (state_of m).tables
    as_many_granted =
        let mapped = length-map kit'.rows.items (λ (g : ℕ × ℕ). g.0) in
        let same : length (map (λ (g : ℕ × ℕ). g.0) kit'.rows.items) ≡ kit.rows_needed = ap length kit_rows ∙ take_long (free_list m) kit.rows_needed enough in
        sym mapped ∙ (same ∙ needed)

    -- the rows of removed positions come into limbo
    pub sum_accepted : (g : BookData) (gone : List Sampled) → g ≡ record b { limbo = b.limbo ++ gone } → length gone ≡ set.len (set.retain (state_of m).tables (is_given_up (state_of m) c)) → RowSum g
    unfolding state_of
    sum_accepted g gone same many =
        let tables : b.limits.tables ≡ m.limits.tables = ap (λ (l : Limits). l.tables) commits.limits.0 in
        let left : free_rows_within b + kit.rows_needed ≡ free_rows_within m =
        ap (λ (n : ℕ). n + kit.rows_needed) ((λ i. count_by (λ row. nat_le row (commits.limits.0 i).tables) (is_granted.free i))) ∙ rows_left m.limits.tables m.free kit.rows_needed granted_fit in
        let grown : linked (state_of b) + set.len (set.retain (state_of m).tables (is_given_up (state_of m) c)) ≡ linked (state_of m) + need (wanted_tables (state_of m) thread c) (state_of m).tables =
        ap (λ (s : State). linked s + set.len (set.retain (state_of m).tables (is_given_up (state_of m) c))) next_is ∙ next_len (state_of m) thread (length m.limbo) c none in
        let long = Rattle.std.proofs.lemmas.List.length-append b.limbo gone in
        let l = limbo_long in
        let n = needed in
        let total : free_rows_within b + length (b.limbo ++ gone) + linked (state_of b) ≡ b.limits.tables = omega (arith, tables, left, grown, long, l, n, many, sum) in
        subst (λ (x : BookData). RowSum x) (sym same) total

  pub sum_refused : (why : Reply) → refusal (state_of m) thread c (length m.limbo) ≡ Some why → (RowSum b) × (state_of b ≡ state_of m)
  sum_refused why e =
      let same : IsRefused m kit b kit' = commits.refused (ap is_some e) in
      let state : state_of b ≡ state_of m = next_is ∙ ap (λ (x : Reply × State). x.1) (refused (state_of m) thread c (length m.limbo) why e) in
      let free : free_rows_within b ≡ free_rows_within m = ap free_rows_within same.book in
      let tables : b.limits.tables ≡ m.limits.tables = ap (λ (l : Limits). l.tables) commits.limits.0 in
      let l = limbo_long in
      let links = ap linked state in
      (omega (arith, free, tables, l, links, sum), state)
