-- The least gap of an arena, found by going over the keys that are there.
use Rattle.std.proofs.Common.{◌≡◌, ℕ, ◌+◌, ◌-◌, ◌^◌, ◌<◌, ◌≤◌, Bool, true, false, cond, List, [], ◌∷◌, refl, sym, ap, subst, ◌∙◌, arith}
use mathlib.Core.Logic.{inl, inr}
use Rattle.std.specs.Prelude.{Some, None, IsSome}
use Rattle.std.specs.List.{filter, AllByRecursion}
use Rattle.std.specs.List.Sorted.{IsStrictlySortedBy}
use Rattle.std.specs.Ordering.{nat_cmp, is_gt, is_le}
use Rattle.std.specs.declared.cmp.Ordering.TheVariants.{Less, Equal}
use Rattle.std.specs.declared.ops.Bound.TheVariants.{Included, Excluded}
use Rattle.std.specs.Cmp.{nat_cmp_total, nat_cmp_is, unsigned_tied, ranked}
use Rattle.std.specs.Map.{lookup, keys_of}
use Rattle.std.specs.BTreeMap.{BTreeMap, is_at}
use Rattle.std.specs.BTreeMap.Range.{range_contains, entries_between}
use Rattle.std.specs.FinMap as map
use Rattle.std.specs.FinMap.{FinMap}
use Rattle.std.proofs.lemmas.Map.Entries.{lookup-filter-keys}
use Rattle.std.proofs.lemmas.Map.Views.{IsInRange-from_range_contains, range_contains-from_IsInRange}
use Rattle.std.proofs.lemmas.Bool.{eq-eqb, eqb-true, ne_eqb, cases_lt, and_parts}
use Rattle.std.proofs.lemmas.Map.Keys.{le_from_is_le}
use Rattle.page_map.specs.State.{AddressSpace}
use Rattle.page_map.specs.Mapping.{gap, is_free, arena_first}
use Rattle.page_map.proofs.Entries.{get_entries}
use Rattle.plain_counts.proofs.Least.{least_is, least_none}
use Rattle.plain_counts.proofs.Free.{free_range, taken_range}

abbrev pub in_range : ℕ → ℕ → ℕ → Bool
in_range low end q = range_contains nat_cmp (Included low) (Excluded end) q

not_above : (k q : ℕ) → k ≤ q → is_gt (nat_cmp k q) ≡ false
not_above k q h = elim (cases_lt k q) [
  | inl l ↦ ap is_gt (sym (nat_cmp_is k q Less l))
  | inr m ↦ ap is_gt (sym (nat_cmp_is k q Equal (omega arith)))
]

pub is_in : (low end q : ℕ) → low ≤ q → q < end → in_range low end q ≡ true
is_in low end q a b = range_contains-from_IsInRange nat_cmp_total (Included low) (Excluded end) q (not_above low q a, sym (nat_cmp_is q end Less b))

pub bounds : (low end q : ℕ) → in_range low end q ≡ true → (low ≤ q) × (q < end)
bounds low end q h =
    (le_from_is_le low q (and_parts (is_le (nat_cmp low q)) _ h).0, ranked q end Less (sym (IsInRange-from_range_contains nat_cmp_total (Included low) (Excluded end) q h).1))

below_all : (k low : ℕ) (ks : List ℕ) → AllByRecursion (λ y. nat_cmp k y ≡ Less) ks → AllByRecursion (λ y. low ≤ y → k + 1 ≤ y) ks
below_all k low [] h = tt
below_all k low (y ∷ ks) h = let below = ranked k y Less (sym h.0) in (λ _. omega (arith, below), below_all k low ks h.1)

module _ {X : Type 0} where
  -- the keys ascend, from `low` on and below `end`
  pub Ascends : ℕ → ℕ → List (ℕ × X) → Type 0
  Ascends low end [] = low ≤ end
  Ascends low end (e ∷ es) = (low ≤ e.0) × (e.0 < end) × Ascends (e.0 + 1) end es

  at_key : (q : ℕ) (e : ℕ × X) (es : List (ℕ × X)) → q ≡ e.0 → lookup (is_at (nat_cmp q)) (e ∷ es) ≡ Some e.1
  at_key q e es h = ap (λ b. cond b (Some e.1) (lookup (is_at (nat_cmp q)) es)) (unsigned_tied q e.0 ∙ eq-eqb q e.0 h)

  past_key : (q : ℕ) (e : ℕ × X) (es : List (ℕ × X)) → (q ≡ e.0 → ⊥) → lookup (is_at (nat_cmp q)) (e ∷ es) ≡ lookup (is_at (nat_cmp q)) es
  past_key q e es h = ap (λ b. cond b (Some e.1) (lookup (is_at (nat_cmp q)) es)) (unsigned_tied q e.0 ∙ ne_eqb q e.0 h)

  -- a key below all of them is not there
  none_below : (q low end : ℕ) (es : List (ℕ × X)) → Ascends low end es → q < low → lookup (is_at (nat_cmp q)) es ≡ None
  unfolding Ascends
  none_below q low end [] h l = refl
  none_below q low end (e ∷ es) h l = past_key q e es (λ same. absurd (omega (arith, same, h.0, l))) ∙ none_below q (e.0 + 1) end es h.2 (omega (arith, h.0, l))

  -- what a map has between two keys
  pub HasBetween : FinMap nat_cmp X → ℕ → ℕ → List (ℕ × X) → Type 0
  HasBetween m low end es = (q : ℕ) → low ≤ q → q < end → map.get m q ≡ lookup (is_at (nat_cmp q)) es

  -- the next of the entries
  module _ (m : FinMap nat_cmp X) (low end : ℕ) (all es : List (ℕ × X)) (k : ℕ) (x : X) (step : all ≡ (k, x) ∷ es) (has : HasBetween m low end all) (in_order : Ascends low end all) where
    ordered : (low ≤ k) × (k < end) × Ascends (k + 1) end es
    unfolding Ascends
    ordered = subst (λ l. Ascends low end l) step in_order

    found : (q : ℕ) → low ≤ q → q < end → map.get m q ≡ lookup (is_at (nat_cmp q)) ((k, x) ∷ es)
    unfolding HasBetween
    found q a b = has q a b ∙ ap (lookup (is_at (nat_cmp q))) step

    pub next_from : low ≤ k
    next_from = ordered.0

    pub next_below : k < end
    next_below = ordered.1

    pub rest_ascends : Ascends (k + 1) end es
    rest_ascends = ordered.2

    pub next_there : map.get m k ≡ Some x
    next_there = found k next_from next_below ∙ at_key k (k, x) es refl

    pub none_before : (q : ℕ) → low ≤ q → q < k → map.get m q ≡ None
    unfolding Ascends
    none_before q a b = found q a (omega (arith, b, next_below)) ∙ none_below q k end ((k, x) ∷ es) (omega arith, ordered.1, ordered.2) b

    pub has_after : HasBetween m (k + 1) end es
    unfolding HasBetween
    has_after q a b = found q (omega (arith, next_from, a)) b ∙ past_key q (k, x) es (λ same. absurd (omega (arith, same, a)))

  -- the last has gone
  module _ (m : FinMap nat_cmp X) (low end : ℕ) (all : List (ℕ × X)) (step : all ≡ []) (has : HasBetween m low end all) (in_order : Ascends low end all) where
    pub end_from : low ≤ end
    unfolding Ascends
    end_from = subst (λ l. Ascends low end l) step in_order

    pub none_left : (q : ℕ) → low ≤ q → q < end → map.get m q ≡ None
    unfolding HasBetween
    none_left q a b = has q a b ∙ ap (lookup (is_at (nat_cmp q))) step

  -- the entries of a range
  pub has_range : (low end : ℕ) (m : BTreeMap ℕ X) (v : FinMap nat_cmp X) → map.from_entries m.entries ≡ v →
      HasBetween v low end (entries_between nat_cmp (Included low) (Excluded end) m.entries)
  unfolding HasBetween
  has_range low end m v view q a b =
      ap (λ s. map.get s q) (sym view) ∙ get_entries m q
      ∙ sym (lookup-filter-keys (is_at (nat_cmp q)) (in_range low end) true (λ k t. ap (in_range low end) (sym (eqb-true q k (sym (unsigned_tied q k) ∙ t))) ∙ is_in low end q a b) m.entries)

  -- the keys of the range among `es`, where each of them is at least `from`
  ascends_from : (low end from : ℕ) → from ≤ end → (es : List (ℕ × X)) → IsStrictlySortedBy nat_cmp (keys_of es) → AllByRecursion (λ k. low ≤ k → from ≤ k) (keys_of es) →
      Ascends from end (filter (λ e. in_range low end e.0) es)
  unfolding Ascends IsStrictlySortedBy
  ascends_from low end from room [] h above = room
  ascends_from low end from room (e ∷ es) h above =
      elim (in_range low end e.0) as (λ b. in_range low end e.0 ≡ b → Ascends from end (cond b (e ∷ filter (λ e. in_range low end e.0) es) (filter (λ e. in_range low end e.0) es))) [
        | false ↦ λ i. ascends_from low end from room es h.1 above.1
        | true ↦ λ i. let within = bounds low end e.0 i in
            (above.0 within.0, within.1, ascends_from low end (e.0 + 1) (omega (arith, within.1)) es h.1 (below_all e.0 low (keys_of es) h.0))
      ] refl

  pub ascends_range : (low end : ℕ) → low ≤ end → (es : List (ℕ × X)) → IsStrictlySortedBy nat_cmp (keys_of es) → Ascends low end (entries_between nat_cmp (Included low) (Excluded end) es)
  ascends_range low end room es h = ascends_from low end low room es h (any (keys_of es))
    where
      any : (ks : List ℕ) → AllByRecursion (λ k. low ≤ k → low ≤ k) ks
      any [] = tt
      any (k ∷ ks) = (λ l. l, any ks)

module _ (cells : AddressSpace) (thread count start : ℕ) (low : arena_first thread ≤ start)
    (skipped : (s : ℕ) → arena_first thread ≤ s → s < start → is_free cells s count ≡ false) where
  -- so many free pages up to a page of the arena, or its end
  pub gap_is : (page : ℕ) → start + count ≤ page → page ≤ arena_first thread + 2 ^ 27 → ((q : ℕ) → start ≤ q → q < page → map.get cells q ≡ None) →
      gap thread cells count ≡ Some start
  unfolding gap
  gap_is page fits within none =
      least_is (λ first. is_free cells first count) (arena_first thread) (2 ^ 27 + 1 - count) start low (omega (arith, low, fits, within))
      (free_range cells start count (λ q a b. none q a (omega (arith, b, fits)))) skipped

  -- too few pages are left
  pub no_gap : arena_first thread + 2 ^ 27 < start + count → gap thread cells count ≡ None
  unfolding gap
  no_gap few = least_none (λ first. is_free cells first count) (arena_first thread) (2 ^ 27 + 1 - count) (λ s a b. skipped s a (omega (arith, b, few)))

  -- a page that is mapped too soon
  pub skips : (page : ℕ) → page < start + count → IsSome (map.get cells page) → (s : ℕ) → arena_first thread ≤ s → s < page + 1 → is_free cells s count ≡ false
  skips page near there s a b = elim (cases_lt s start) [
    | inl before ↦ skipped s a before
    | inr from ↦ taken_range cells s count page (omega (arith, b)) (omega (arith, near, from)) there
  ]
