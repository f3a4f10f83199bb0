-- Runs of like pages, by their marks and by what is held over them.
--     begun      back to the first page of a run
--     longest      from there on so many pages as go on
--     own_seen      the bytes of a page are those of the held page
--     lowest_behind, lowest_at, lowest_none      from where on no page is held
use Rattle.std.proofs.Common.{◌≡◌, ℕ, ◌+◌, ◌-◌, ◌<◌, ◌≤◌, true, false, List, [], ◌∷◌, ◌++◌, refl, sym, ap, subst, ◌∙◌, arith, inl, inr}
use mathlib.Core.Bool.{true≢false}
use Rattle.std.specs.Prelude.{Option, Some, None, IsSome, is_some}
use Rattle.std.specs.Option.{option_map}
use Rattle.std.specs.FinMap.{get}
use Rattle.std.specs.Ordering.{nat_cmp, is_gt}
use Rattle.std.specs.declared.cmp.Ordering.TheVariants.{Less, Equal}
use Rattle.std.specs.declared.ops.Bound.TheVariants.{Included, Unbounded}
use Rattle.std.specs.Cmp.{nat_cmp_is}
use Rattle.std.specs.BTreeMap.Range.{IsRangeOf}
use Rattle.std.proofs.lemmas.Map.Keys.{le_from_not_gt, ge_from_not_lt}
use Rattle.std.proofs.lemmas.Bool.{cases_lt, false_from_ne_true}
use Rattle.page_map.specs.Alike.{continues}
use Rattle.page_map.specs.Change.{least}
use Rattle.page_map.specs.Cutting.{IsPiece}
use Rattle.page_map.specs.State.{AddressSpace}
use Rattle.page_map.specs.declared.cell.Cell.{Cell}
use Rattle.page_map.proofs.Alike.{alike_at, continues_from, continues_is, has_no_number, onward, part_alike}
use Rattle.page_map.proofs.Least.{least_passes, none_below_least}
use Rattle.page_runs.specs.declared.mark.Mark.{Mark}
use Rattle.page_runs.specs.Mark.{goes_on}
use Rattle.page_runs.specs.Spans.{Marks}
use Rattle.page_runs.specs.Starts.{IsStart}
use Rattle.space_cells.specs.declared.held.HeldPage.{HeldPage}
use Rattle.space_cells.specs.Held.{HeldPages, held_at}
use Rattle.corten_base.specs.declared.permissions.Perm.{Perm}
use Rattle.corten_base.specs.declared.calls.Backing.{Backing}
use Rattle.corten_base.specs.declared.calls.Backing.TheVariants.{Zero, File}
use Rattle.page_map.specs.Mapping.{backed}
use Rattle.space_cells.specs.declared.held.Number.{Number}
use Rattle.space_cells.specs.declared.held.Number.TheVariants.{Frame, Slot}
use Rattle.space_cells.specs.Cells.{HaveMarks, cell_of, cells_of, numbered}
use Rattle.space_cells.specs.Longest.{AreLike, IsBegun, IsLastHeld, IsLongestFrom, IsLowest, own_bytes}
use Rattle.space_cells.proofs.Seen.{get_cells, none_unmarked, over, same_some}
use Rattle.space_cells.proofs.Moved.{onward_cell, some_none}
use Rattle.space_cells.proofs.Stretching.{no_end, no_start, plain, same_marks}
use Rattle.space_cells.proofs.Leasts.{none_from, none_passes}

-- ---- the last held page, and from where on no page is held

not_above : (k q : ℕ) → k ≤ q → is_gt (nat_cmp k q) ≡ false
not_above k q h = elim (cases_lt k q) [
  | inl l ↦ ap is_gt (sym (nat_cmp_is k q Less l))
  | inr m ↦ ap is_gt (sym (nat_cmp_is k q Equal (omega arith)))
]

none_if : {A : Type 0} (o : Option A) → (IsSome o → ⊥) → o ≡ None
none_if None h = refl
none_if (Some x) h = absurd (h refl)

pub last_held : (pages : HeldPages) (page last : ℕ) (held : HeldPage) (r t : List (ℕ × HeldPage)) → IsRangeOf nat_cmp Unbounded (Included page) pages r → r ≡ t ++ (last, held) ∷ [] → IsLastHeld pages page last
last_held pages page last held r t range step =
    let entry = range.3 (last, held) t step in
    record {
      near = le_from_not_gt last page entry.0.1;
      there = ap is_some entry.1;
      none_later = λ q low high. none_if (held_at pages q) (λ some.
          let up : q ≤ last = ge_from_not_lt last q (range.4 (last, held) t step q (tt, not_above q page high) some) in omega (arith, low, up));
    }

pub lowest_behind : (pages : HeldPages) (page last : ℕ) → IsLastHeld pages page last → last < page → IsLowest pages page (last + 1)
lowest_behind pages page last at less = record {
  near = omega (arith, less);
  free = λ q a b. at.none_later q (omega (arith, a)) (omega (arith, b));
  page_free = λ more. at.none_later page less (omega arith);
  ends = λ q next.
      let same : last ≡ q = omega (arith, next) in
      inl (subst (λ k. IsSome (held_at pages k)) same at.there);
}

pub lowest_at : (pages : HeldPages) (page last : ℕ) → IsLastHeld pages page last → page ≤ last → IsLowest pages page page
lowest_at pages page last at least =
    let same : last ≡ page = omega (arith, at.near, least) in
    record {
      near = omega arith;
      free = λ q a b. absurd (omega (arith, a, b));
      page_free = λ more. absurd (omega (arith, more));
      ends = λ q next. inr (subst (λ k. IsSome (held_at pages k)) same at.there);
    }

pub lowest_none : (pages : HeldPages) (page : ℕ) → ((q : ℕ) → q ≤ page → held_at pages q ≡ None) → IsLowest pages page 0
lowest_none pages page none = record {
  near = omega arith;
  free = λ q a b. none q (omega (arith, b));
  page_free = λ more. none page (omega arith);
  ends = λ q next. absurd (omega (arith, next));
}

-- ---- a held page stands alone

module _ (marks : Marks) (pages : HeldPages) (have : HaveMarks marks pages) where
  held_is : (page : ℕ) → IsSome (held_at pages page) → (mark : Mark) × (held : HeldPage) × (get (cells_of marks pages) page ≡ Some (cell_of mark (Some held)))
  held_is page some = go (held_at pages page) refl some (get marks page) refl
    where
      go : (h : Option HeldPage) → held_at pages page ≡ h → IsSome h → (o : Option Mark) → get marks page ≡ o → (mark : Mark) × (held : HeldPage) × (get (cells_of marks pages) page ≡ Some (cell_of mark (Some held)))
      go None is s o m = absurd (true≢false (sym s))
      go (Some held) is s None m = absurd (some_none (have page (ap is_some is)) m)
      go (Some held) is s (Some mark) m = (mark, held, get_cells marks pages page ∙ (λ i. over (is i) (m i)))

  none_into : (page : ℕ) (o : Option Cell) → IsSome (held_at pages page) → continues o 1 (get (cells_of marks pages) page) ≡ false
  none_into page o some = let is = held_is page some in ap (continues o 1) is.2 ∙ no_start o is.0 is.1

  none_out : (page : ℕ) (o : Option Cell) → IsSome (held_at pages page) → continues (get (cells_of marks pages) page) 1 o ≡ false
  none_out page o some = let is = held_is page some in ap (λ a. continues a 1 o) is.2 ∙ no_end is.0 is.1 o

  -- ---- pages that are not held go on as their marks do

  unheld : (q : ℕ) → held_at pages q ≡ None → get (cells_of marks pages) q ≡ over None (get marks q)
  unheld q none = get_cells marks pages q ∙ ap (λ h. over h (get marks q)) none

  module _ (q : ℕ) (here : held_at pages q ≡ None) (there : held_at pages (q + 1) ≡ None) where
    go_on : get marks (q + 1) ≡ option_map (λ mark. goes_on mark 1) (get marks q) → continues (get (cells_of marks pages) q) 1 (get (cells_of marks pages) (q + 1)) ≡ true
    go_on on =
        continues_from (get (cells_of marks pages) q) 1 (get (cells_of marks pages) (q + 1)) (ap has_no_number (unheld q here) ∙ plain (get marks q))
        (unheld (q + 1) there ∙ ap (over None) on ∙ onward_cell 1 None (get marks q) ∙ ap (onward 1) (sym (unheld q here)))

    go_back : continues (get (cells_of marks pages) q) 1 (get (cells_of marks pages) (q + 1)) ≡ true → get marks (q + 1) ≡ option_map (λ mark. goes_on mark 1) (get marks q)
    go_back next = same_marks (get marks (q + 1)) (option_map (λ mark. goes_on mark 1) (get marks q))
        (sym (unheld (q + 1) there) ∙ continues_is (get (cells_of marks pages) q) 1 (get (cells_of marks pages) (q + 1)) next
        ∙ ap (onward 1) (unheld q here) ∙ sym (onward_cell 1 None (get marks q)))

  module _ (page low first : ℕ) (bound : IsLowest pages page low) (start : IsStart marks low page first) where
    free_at : (q : ℕ) → first ≤ q → q ≤ page → low < page → held_at pages q ≡ None
    free_at q a b more = elim (cases_lt q page) [
      | inl less ↦ bound.free q (omega (arith, a, start.from)) less
      | inr at ↦ (let same : page ≡ q = omega (arith, at, b) in subst (λ k. held_at pages k ≡ None) same (bound.page_free more))
    ]

    before : (q : ℕ) → q + 1 ≡ first → continues (get (cells_of marks pages) q) 1 (get (cells_of marks pages) first) ≡ false
    before q next = elim (cases_lt low first) [
      | inl less ↦
          let more : low < page = omega (arith, less, start.near) in
          let here : held_at pages q ≡ None = bound.free q (omega (arith, next, less)) (omega (arith, next, start.near)) in
          let there : held_at pages (q + 1) ≡ None = subst (λ k. held_at pages k ≡ None) (sym next) (free_at first (omega arith) start.near more) in
          let front : q ≡ first - 1 = omega (arith, next) in
          false_from_ne_true _ (λ true_is.
          start.begins less (sym (ap (get marks) next) ∙ go_back q here there (ap (λ k. continues (get (cells_of marks pages) q) 1 (get (cells_of marks pages) k)) next ∙ true_is)
          ∙ ap (λ k. option_map (λ mark. goes_on mark 1) (get marks k)) front))
      | inr at ↦
          let same : low ≡ first = omega (arith, at, start.from) in
          elim (bound.ends q (next ∙ sym same)) [
            | inl held ↦ none_out q (get (cells_of marks pages) first) held
            | inr held ↦ none_into first (get (cells_of marks pages) q) (subst (λ k. IsSome (held_at pages k)) same held)
          ]
    ]

    pub begun : IsBegun (cells_of marks pages) page first
    begun = record {
      near = start.near;
      there = same_some marks pages first ∙ start.there;
      like = λ q a b.
          let more : low < page = omega (arith, a, b, start.from) in
          go_on q (free_at q a (omega (arith, b)) more) (free_at (q + 1) (omega (arith, a)) (omega (arith, b)) more) (start.on q a (omega (arith, b)));
      starts = before;
    }

-- ---- the whole run

module _ (cells : AddressSpace) (page end found first count : ℕ) (all : (q : ℕ) → end ≤ q → get cells q ≡ None)
    (least_is : least page (end - page) (λ q. is_some (get cells q)) ≡ Some found) (begun : IsBegun cells found first)
    (piece : IsPiece (λ count. first) (λ (count : ℕ). count) cells first end count) where
  like_of : AreLike cells first (first + count)
  like_of q a b = elim piece.whole [
    | inl alike ↦
        let two = part_alike cells first count q 2 (λ r low high. (omega (arith, low, a), omega (arith, high, b))) alike in
        let one : q + 1 - q ≡ 1 = omega arith in
        subst (λ k. continues (get cells q) k (get cells (q + 1)) ≡ true) one (alike_at cells q 2 two (q + 1) (omega arith) (omega arith))
    | inr one ↦ absurd (omega (arith, one, a, b))
  ]

  some_at : (o : Option Cell) (i : ℕ) (b : Option Cell) → IsSome o → b ≡ onward i o → IsSome b
  some_at None i b s e = absurd (true≢false (sym s))
  some_at (Some c) i b s e = ap is_some e

  last_there : IsSome (get cells (first + count - 1))
  last_there = elim piece.whole [
    | inl alike ↦ some_at (get cells first) (first + count - 1 - first) (get cells (first + count - 1)) begun.there
        (continues_is (get cells first) (first + count - 1 - first) (get cells (first + count - 1)) (alike_at cells first count alike (first + count - 1) (omega (arith, piece.some)) (omega (arith, piece.some))))
    | inr one ↦ (let same : first ≡ first + count - 1 = omega (arith, one) in subst (λ k. IsSome (get cells k)) same begun.there)
  ]

  nothing_on : (o : Option Cell) → IsSome o → continues o 1 None ≡ false
  nothing_on o s = false_from_ne_true _ (λ t. go o s (continues_is o 1 None t))
    where
      go : (o : Option Cell) → IsSome o → None ≡ onward 1 o → ⊥
      go None s e = true≢false (sym s)
      go (Some c) s e = true≢false (sym (ap is_some e))

  stops_of : continues (get cells (first + count - 1)) 1 (get cells (first + count)) ≡ false
  stops_of = elim (cases_lt (first + count) end) [
    | inl less ↦ piece.parts less
    | inr at ↦ ap (continues (get cells (first + count - 1)) 1) (all (first + count) at) ∙ nothing_on (get cells (first + count - 1)) last_there
  ]

  low_found : page ≤ found
  low_found = (least_passes page (end - page) (λ q. is_some (get cells q)) found least_is).0

  reached : found < first + count
  reached = elim (cases_lt found (first + count)) [
    | inl less ↦ less
    | inr far ↦
        let back : first + count - 1 + 1 ≡ first + count = omega (arith, piece.some) in
        let next = begun.like (first + count - 1) (omega (arith, piece.some)) (omega (arith, piece.some, far)) in
        absurd (true≢false (sym next ∙ ap (λ k. continues (get cells (first + count - 1)) 1 (get cells k)) back ∙ stops_of))
  ]

  pub longest : IsLongestFrom cells page first count
  longest = record {
    run = record { some = piece.some; there = begun.there; like = like_of; starts = begun.starts; stops = stops_of };
    reaches = omega (arith, low_found, reached);
    none_before = λ q a b. none_from (get cells q) (none_below_least (λ q. is_some (get cells q)) page (end - page) found q least_is a (omega (arith, b, begun.near)));
  }

pub none_at_all : (cells : AddressSpace) (page end : ℕ) → page ≤ end → ((q : ℕ) → end ≤ q → get cells q ≡ None) → least page (end - page) (λ q. is_some (get cells q)) ≡ None → (q : ℕ) → page ≤ q → get cells q ≡ None
none_at_all cells page end low all none q a = elim (cases_lt q end) [
  | inl less ↦ none_from (get cells q) (none_passes (λ q. is_some (get cells q)) page (end - page) none q a (omega (arith, less, low)))
  | inr far ↦ all q far
]

-- ---- the bytes of a page

none_backed : (what : Backing) (perm : Perm) → own_bytes (Some (backed what perm 0)) ≡ None
none_backed Zero perm = refl
none_backed (File file index) perm = refl

bytes_held : (perm : Perm) (origin : Backing) (number : Number) (bytes : List ℕ) → own_bytes (Some (numbered perm origin number bytes)) ≡ Some bytes
bytes_held perm origin (Frame frame) bytes = refl
bytes_held perm origin (Slot slot) bytes = refl

own_of_cell : (mark : Mark) (held : Option HeldPage) → own_bytes (Some (cell_of mark held)) ≡ option_map (λ h. h.bytes) held
own_of_cell mark None = none_backed mark.backing mark.perm
own_of_cell mark (Some held) = bytes_held mark.perm mark.backing held.number held.bytes

pub own_seen : (marks : Marks) (pages : HeldPages) → HaveMarks marks pages → (q : ℕ) → own_bytes (get (cells_of marks pages) q) ≡ option_map (λ h. h.bytes) (held_at pages q)
own_seen marks pages have q = ap own_bytes (get_cells marks pages q) ∙ go (get marks q) refl
  where
    go : (o : Option Mark) → get marks q ≡ o → own_bytes (over (held_at pages q) o) ≡ option_map (λ h. h.bytes) (held_at pages q)
    go None e = sym (ap (option_map (λ h. h.bytes)) (none_unmarked (get marks q) (held_at pages q) (have q) e))
    go (Some mark) e = own_of_cell mark (held_at pages q)
