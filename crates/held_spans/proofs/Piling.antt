-- The pieces of a range that moves, one run behind another.
--     Backs      so many pages of the new place are what they came from, one behind another
--     IsListed, Listed      the pieces before a page, in a state, and in each state of which the rows are
--     none_listed, run_listed, all_listed      none;  a run more;  all of them
use Rattle.std.specs.Prelude.{◌≡◌, ℕ, ◌+◌, ◌-◌, ◌^◌, ◌<◌, ◌≤◌, ◌&&◌, Bool, true, false, cond, List, [], ◌∷◌, ◌++◌, nat_eq, nat_lt, Some}
use Rattle.std.specs.Option.{option_map}
use Rattle.std.specs.List.{All}
use Rattle.std.specs.FinMap as fin
use Rattle.std.proofs.Common.{sym, refl, ◌∙◌, ap, subst, arith, append_assoc, ◌⊎◌, inl, inr}
use Rattle.std.proofs.Math.Nat.{mod-eq_of_lt}
use Rattle.std.proofs.lemmas.Bool.{cases_lt, true≢false, false≢true, false_from_ne_true, lt-ltb, le-ltb, ne_eqb, eq-eqb, eqb-true}
use Rattle.std.proofs.lemmas.List.Elements.{All-nil, All-cons, All-append}
use Rattle.corten_base.specs.declared.calls.Backing.{Backing}
use Rattle.corten_base.specs.declared.calls.Backing.TheVariants as backing
use Rattle.corten_base.specs.declared.numbers.Status.{Status}
use Rattle.corten_base.specs.declared.numbers.Status.TheVariants as status
use Rattle.corten_base.specs.declared.permissions.Perm.{Perm}
use Rattle.table_place.proofs.Tables.{in_range, to_range}
use Rattle.page_map.specs.declared.cell.Cell.{Cell as PageCell}
use Rattle.page_map.specs.declared.cell.Cell.TheVariants.{Anon, File, Mapped, Swapped}
use Rattle.page_map.specs.Alike.{continues, is_alike}
use Rattle.page_map.specs.Cell.{AddressSpace, backed, backing_of, index_of, goes_on, perm_of, status_of}
use Rattle.page_map.specs.Cutting.{ArePieces}
use Rattle.page_map.specs.State.{State, space_at}
use Rattle.page_map.proofs.Alike.{has_no_number, onward, alike_from, backed_twice, backed_unnumbered, continues_from, continues_unnumbered}
use Rattle.page_map.proofs.NeedOfMoves.{one_piece_more}
use Rattle.page_map.proofs.Owners.{same_some}
use Rattle.machine_plan.specs.declared.kit.Piece.{Piece}
use Rattle.machine_plan.specs.HeldRows.{Row, RowsShown, AreAsked}
use Rattle.machine_plan.specs.Moving.{piece_at, Tells, AreMoved}
use Rattle.held_spans.specs.declared.resizing.Resize.{Resize as Range}
use Rattle.held_spans.specs.declared.runs.Run.{Run}
use Rattle.held_spans.specs.Spans.{StandsAs, further, pages_on, is_there, has_number, base_of}
use Rattle.held_spans.specs.Runs.{IsRunOf, AnswersRun}
use Rattle.held_spans.specs.Pieces.{perm_in, page_behind, added_to, pieces_of, IsPutAt, IsFull, ListsMoved}

-- ---- cells by what is told of them

plain_zero : (n : ℕ) → n + 0 ≡ n
plain_zero n = omega arith

on_none : (what : Backing) → pages_on what 0 ≡ what
on_none backing.Zero = refl
on_none (backing.File file index) = ap (backing.File file) (plain_zero index)

-- a page without a frame or a slot is what it came from
backed_is : (s : Status) (base : Backing) (k : ℕ) (c : PageCell) → has_number s ≡ false → base_of s base ≡ base → status_of (Some c) ≡ further s k → c ≡ backed base (perm_in s) k
backed_is status.Invalid base k (Anon perm) plain from is = absurd (cc)
backed_is status.Invalid base k (File perm file index) plain from is = absurd (cc)
backed_is status.Invalid base k (Mapped perm origin frame bytes) plain from is = absurd (cc)
backed_is status.Invalid base k (Swapped perm origin slot bytes) plain from is = absurd (cc)
backed_is (status.Anon perm) base k (Anon other) plain from is = ap Anon (perm_is is) ∙ ap (λ b. backed b perm k) from
  where
    perm_is : {a b : Perm} → status.Anon a ≡ status.Anon b → a ≡ b
    perm_is e = cc
backed_is (status.Anon perm) base k (File other file index) plain from is = absurd (cc)
backed_is (status.Anon perm) base k (Mapped other origin frame bytes) plain from is = absurd (cc)
backed_is (status.Anon perm) base k (Swapped other origin slot bytes) plain from is = absurd (cc)
backed_is (status.File perm file index) base k (Anon other) plain from is = absurd (cc)
backed_is (status.File perm file index) base k (File other new at) plain from is = same is ∙ ap (λ b. backed b perm k) from
  where
    same : status.File other new at ≡ status.File perm file (index + k) → File other new at ≡ File perm file (index + k)
    same e = cc
backed_is (status.File perm file index) base k (Mapped other origin frame bytes) plain from is = absurd (cc)
backed_is (status.File perm file index) base k (Swapped other origin slot bytes) plain from is = absurd (cc)
backed_is (status.Mapped perm frame) base k c plain from is = absurd (true≢false plain)
backed_is (status.Swapped perm slot) base k c plain from is = absurd (true≢false plain)

-- a page with one has no cell that goes on from it, and what it came from is told
pub record IsNumbered (base : Backing) (perm : Perm) (c : PageCell) : Type 0 where
  pub stops : has_no_number (Some c) ≡ false
  pub came : backing_of c ≡ base
  pub may : perm_of c ≡ perm

numbered_is : (s : Status) (base : Backing) (c : PageCell) → has_number s ≡ true → status_of (Some c) ≡ further s 0 → (is_there s ≡ true → option_map backing_of (Some c) ≡ Some (pages_on base 0)) → IsNumbered base (perm_in s) c
numbered_is status.Invalid base c h is from = absurd (false≢true h)
numbered_is (status.Anon perm) base c h is from = absurd (false≢true h)
numbered_is (status.File perm file index) base c h is from = absurd (false≢true h)
numbered_is (status.Mapped perm frame) base (Anon other) h is from = absurd (cc)
numbered_is (status.Mapped perm frame) base (File other file index) h is from = absurd (cc)
numbered_is (status.Mapped perm frame) base (Mapped other origin number bytes) h is from =
    record { stops = refl; came = same_some (from refl) ∙ on_none base; may = perm_is is }
  where
    perm_is : {a b : Perm} {m n : ℕ} → status.Mapped a m ≡ status.Mapped b n → a ≡ b
    perm_is e = cc
numbered_is (status.Mapped perm frame) base (Swapped other origin number bytes) h is from = absurd (cc)
numbered_is (status.Swapped perm slot) base (Anon other) h is from = absurd (cc)
numbered_is (status.Swapped perm slot) base (File other file index) h is from = absurd (cc)
numbered_is (status.Swapped perm slot) base (Mapped other origin number bytes) h is from = absurd (cc)
numbered_is (status.Swapped perm slot) base (Swapped other origin number bytes) h is from =
    record { stops = refl; came = same_some (from refl) ∙ on_none base; may = perm_is is }
  where
    perm_is : {a b : Perm} {m n : ℕ} → status.Swapped a m ≡ status.Swapped b n → a ≡ b
    perm_is e = cc

behind_is : (base : Backing) (perm : Perm) (k : ℕ) → index_of base ≤ 2 ^ 62 → backed base perm (k + 1) ≡ backed (page_behind base) perm k
behind_is backing.Zero perm k low = refl
behind_is (backing.File file index) perm k low = ap (File perm file) (sum index k (mod-eq_of_lt (small index low)))
  where
    small : (n : ℕ) → n ≤ 2 ^ 62 → n + 1 < 2 ^ 64
    small n low = omega (arith, low)

    sum : (n k : ℕ) {m : ℕ} → m ≡ n + 1 → n + (k + 1) ≡ m + k
    sum n k e = omega (arith, e)

-- ---- pieces

module _ (after : AddressSpace) where
  pub record Backs (at n : ℕ) (base : Backing) (perm : Perm) : Type 0 where
    pub each : (k : ℕ) → k < n → fin.get after (at + k) ≡ Some (backed base perm k)

  backs_alike : (at n : ℕ) (base : Backing) (perm : Perm) → 1 ≤ n → Backs at n base perm → is_alike after at n ≡ true
  backs_alike at n base perm some is = alike_from after at n (λ q a b.
      let k = q - at in
      let there : at + k ≡ q = omega (arith, a) in
      let start : fin.get after at ≡ Some (backed base perm 0) = ap (fin.get after) (sym (plain_zero at)) ∙ is.each 0 (omega (arith, some)) in
      continues_from (fin.get after at) k (fin.get after q) (ap has_no_number start ∙ backed_unnumbered base perm 0)
      (ap (fin.get after) (sym there) ∙ is.each k (omega (arith, there, b)) ∙ sym (ap (onward k) start ∙ ap Some (backed_twice base perm 0 k ∙ ap (backed base perm) (from_zero k)))))
    where
      from_zero : (k : ℕ) → 0 + k ≡ k
      from_zero k = omega arith

  backs_tell : (to at n : ℕ) (base : Backing) (perm : Perm) → Backs (to + at) n base perm → Tells after to (record { first = at; count = n; perm = perm; backing = base })
  backs_tell to at n base perm is k low =
      ap (option_map (λ c. goes_on c 0)) (is.each k low) ∙ ap Some (backed_twice base perm k 0 ∙ ap (backed base perm) (plain_zero k))

module _ (cells after : AddressSpace) (r : Range) (to : ℕ) (some : 1 ≤ r.old) (grows : r.old < r.new) (put : IsPutAt cells r after to) where
  -- a page of the old place, and one of the pages behind it
  old_cell : (i : ℕ) → i < r.old → fin.get after (to + i) ≡ fin.get cells (r.first + i)
  old_cell i low = put i (omega (arith, low, grows))
      ∙ ap (λ b. cond b (fin.get cells (r.first + i)) (option_map (λ last. goes_on last (i + 1 - r.old)) (fin.get cells (r.first + r.old - 1)))) (lt-ltb i r.old low)

  new_cell : (i : ℕ) → r.old ≤ i → i < r.new → fin.get after (to + i) ≡ onward (i + 1 - r.old) (fin.get cells (r.first + r.old - 1))
  new_cell i high low = put i low
      ∙ ap (λ b. cond b (fin.get cells (r.first + i)) (option_map (λ last. goes_on last (i + 1 - r.old)) (fin.get cells (r.first + r.old - 1)))) (le-ltb i r.old high)

  abbrev AreSoFar : ℕ → List Piece → Type 0
  AreSoFar n pieces = ArePieces (piece_at to) (λ p. p.count) after to (to + n) pieces

  -- how many pages of the new place stand before a page
  abbrev pub covered : ℕ → ℕ
  covered page = page - r.first + added_to r page

  pub record IsListed (page : ℕ) (pieces : List Piece) : Type 0 where
    pub parts : AreSoFar (covered page) pieces
    pub each : All (Tells after to) pieces
    pub apart : r.first < page → page < r.first + r.old → continues (fin.get cells (page - 1)) 1 (fin.get cells page) ≡ false

  -- either it is no end of the old pages, or it gets all that come
  added_by : (page : ℕ) → (added_to r page ≡ 0) ⊎ ((page ≡ r.first + r.old) × (added_to r page ≡ r.new - r.old))
  added_by page = go (nat_eq page (r.first + r.old)) refl
    where
      go : (b : Bool) → nat_eq page (r.first + r.old) ≡ b → (added_to r page ≡ 0) ⊎ ((page ≡ r.first + r.old) × (added_to r page ≡ r.new - r.old))
      go true e = inr (eqb-true page (r.first + r.old) e, ap (λ b. cond b (r.new - r.old) 0) e)
      go false e = inl (ap (λ b. cond b (r.new - r.old) 0) e)

  none_added : (page : ℕ) → page < r.first + r.old → added_to r page ≡ 0
  none_added page low = ap (λ b. cond b (r.new - r.old) 0) (ne_eqb page (r.first + r.old) (λ e. omega (arith, low, e)))

  module _ (page : ℕ) (pieces : List Piece) (was : IsListed page pieces) (low : r.first ≤ page) (inside : page < r.first + r.old)
      (run : Run) (count : 1 ≤ run.count) (fits : page + run.count ≤ r.first + r.old) (is : IsRunOf cells page (r.first + r.old) run) (full : IsFull cells r) where
    abbrev at : ℕ
    at = page - r.first

    abbrev added : ℕ
    added = added_to r (page + run.count)

    abbrev perm : Perm
    perm = perm_in run.status

    so_far : AreSoFar at pieces
    so_far =
        let none : added_to r page ≡ 0 = none_added page inside in
        let here : covered page ≡ at = omega (arith, none) in
        subst (λ n. AreSoFar n pieces) here was.parts

    old_page : (k : ℕ) → k < run.count → fin.get after (to + at + k) ≡ fin.get cells (page + k)
    old_page k small =
        let there : to + at + k ≡ to + (at + k) = omega arith in
        let here : r.first + (at + k) ≡ page + k = omega (arith, low) in
        ap (fin.get after) there ∙ old_cell (at + k) (omega (arith, low, fits, small)) ∙ ap (fin.get cells) here

    before : to < to + at → continues (fin.get after (to + at - 1)) 1 (fin.get after (to + at)) ≡ false
    before behind =
        let front : to + at - 1 ≡ to + (at - 1) = omega (arith, behind) in
        let front_page : r.first + (at - 1) ≡ page - 1 = omega (arith, behind) in
        let back_page : r.first + at ≡ page = omega (arith, low) in
        (λ i. continues
        ((ap (fin.get after) front ∙ old_cell (at - 1) (omega (arith, inside, low)) ∙ ap (fin.get cells) front_page) i) 1
        ((old_cell at (omega (arith, inside, low)) ∙ ap (fin.get cells) back_page) i))
        ∙ was.apart (omega (arith, behind)) inside

    cell_there : (k : ℕ) → k < run.count → (c : PageCell) × (fin.get cells (page + k) ≡ Some c)
    cell_there k small = full.each (page + k) (to_range r.first r.old (page + k) (omega (arith, low)) (omega (arith, fits, small)))

    -- one piece more
    abbrev Piled : ℕ → List Piece → Type 0
    Piled n ps = AreSoFar n ps × All (Tells after to) ps

    one : (n : ℕ) → 1 ≤ n → (is_alike after (to + at) n ≡ true) ⊎ (n ≡ 1) → Tells after to (record { first = at; count = n; perm = perm; backing = run.origin })
        → Piled (at + n) (pieces ++ record { first = at; count = n; perm = perm; backing = run.origin } ∷ [])
    one n some whole tells =
        let p : Piece = record { first = at; count = n; perm = perm; backing = run.origin } in
        let sum : to + at + n ≡ to + (at + n) = omega arith in (
          subst (λ e. ArePieces (piece_at to) (λ p. p.count) after to e (pieces ++ p ∷ [])) sum (one_piece_more (piece_at to) (λ p. p.count) after to (to + at) pieces p so_far refl some whole before),
          All-append (Tells after to) pieces (p ∷ []) was.each (All-cons (Tells after to) p [] tells (All-nil (Tells after to))),
        )

    -- ---- without a frame or a slot

    module _ (plain : has_number run.status ≡ false) where
      old_backed : (k : ℕ) → k < run.count → fin.get cells (page + k) ≡ Some (backed run.origin perm k)
      old_backed k small =
          let c = cell_there k small in
          c.1 ∙ ap Some (backed_is run.status run.origin k c.0 plain is.base (ap status_of (sym c.1) ∙ (is.each k small).status))

      backs : Backs after (to + at) (run.count + added) run.origin perm
      backs = record { each = λ k small. elim (cases_lt k run.count) [ inl old ↦ old_page k old ∙ old_backed k old | inr new ↦ by_end k small new (added_by (page + run.count)) ] }
        where
          by_end : (k : ℕ) → k < run.count + added → run.count ≤ k → (added ≡ 0) ⊎ ((page + run.count ≡ r.first + r.old) × (added ≡ r.new - r.old)) → fin.get after (to + at + k) ≡ Some (backed run.origin perm k)
          by_end k small new (inl none) = absurd (omega (arith, small, new, none))
          by_end k small new (inr end) =
              let there : to + at + k ≡ to + (at + k) = omega arith in
              let last : r.first + r.old - 1 ≡ page + (run.count - 1) = omega (arith, end.0, count) in
              let sum : run.count - 1 + (at + k + 1 - r.old) ≡ k = omega (arith, end.0, count, new, low) in
              ap (fin.get after) there ∙ new_cell (at + k) (omega (arith, end.0, new, low)) (omega (arith, end.0, end.1, small, low, grows))
              ∙ ap (onward (at + k + 1 - r.old)) (ap (fin.get cells) last ∙ old_backed (run.count - 1) (omega (arith, count)))
              ∙ ap Some (backed_twice run.origin perm (run.count - 1) (at + k + 1 - r.old) ∙ ap (backed run.origin perm) sum)

      plain_pieces : Piled (at + (run.count + added)) (pieces ++ pieces_of run at added)
      plain_pieces =
          subst (λ b. Piled (at + (run.count + added)) (pieces ++ cond b (record { first = at; count = run.count; perm = perm; backing = run.origin } ∷ record { first = at + run.count; count = added; perm = perm; backing = page_behind run.origin } ∷ []) (record { first = at; count = run.count + added; perm = perm; backing = run.origin } ∷ [])))
          (sym (ap (λ b. nat_lt 0 added && b) plain ∙ and_false (nat_lt 0 added)))
          (one (run.count + added) (omega (arith, count)) (inl (backs_alike after (to + at) (run.count + added) run.origin perm (omega (arith, count)) backs)) (backs_tell after to at (run.count + added) run.origin perm backs))
        where
          and_false : (b : Bool) → (b && false) ≡ false
          and_false true = refl
          and_false false = refl

    -- ---- with a frame or a slot

    module _ (numbered : has_number run.status ≡ true) where
      single : run.count ≡ 1
      single = is.single numbered

      cell : PageCell
      cell = (cell_there 0 (omega (arith, count))).0

      cell_is : fin.get cells page ≡ Some cell
      unfolding cell
      cell_is = ap (fin.get cells) (sym (plain_zero page)) ∙ (cell_there 0 (omega (arith, count))).1

      told : IsNumbered run.origin perm cell
      told =
          let stands : StandsAs run.status run.origin 0 (Some cell) = subst (StandsAs run.status run.origin 0) (ap (fin.get cells) (plain_zero page) ∙ cell_is) (is.each 0 (omega (arith, count))) in
          numbered_is run.status run.origin cell numbered stands.status stands.origin

      there : fin.get after (to + at) ≡ Some cell
      there = ap (fin.get after) (sym (plain_zero (to + at))) ∙ old_page 0 (omega (arith, count)) ∙ ap (fin.get cells) (plain_zero page) ∙ cell_is

      old_cell_tells : (n : ℕ) → n ≡ 1 → Tells after to (record { first = at; count = n; perm = perm; backing = run.origin })
      old_cell_tells n one k small =
          let zero_k : k ≡ 0 = omega (arith, small, one) in
          let here : to + at + k ≡ to + at = omega (arith, zero_k) in
          ap (option_map (λ c. goes_on c 0)) (ap (fin.get after) here ∙ there)
          ∙ (λ i. Some (backed (told.came i) (told.may i) (sym zero_k i)))

      first_piece : (n : ℕ) → n ≡ 1 → Piled (at + n) (pieces ++ record { first = at; count = n; perm = perm; backing = run.origin } ∷ [])
      first_piece n one_page = one n (omega (arith, one_page)) (inr one_page) (old_cell_tells n one_page)

      abbrev second : Piece
      second = record { first = at + run.count; count = added; perm = perm; backing = page_behind run.origin }

      module _ (end : page + run.count ≡ r.first + r.old) (all : added ≡ r.new - r.old) where
        behind : Backs after (to + (at + run.count)) added (page_behind run.origin) perm
        behind = record {
          each = λ k small.
              let place : to + (at + run.count) + k ≡ to + (at + run.count + k) = omega arith in
              let last : r.first + r.old - 1 ≡ page = omega (arith, end, single) in
              let sum : at + run.count + k + 1 - r.old ≡ k + 1 = omega (arith, end, low) in
              let bound : index_of run.origin ≤ 2 ^ 62 = subst (λ b. index_of b ≤ 2 ^ 62) told.came (full.indexes page cell cell_is) in
              ap (fin.get after) place ∙ new_cell (at + run.count + k) (omega (arith, end, low)) (omega (arith, end, all, small, low, grows))
              ∙ (λ i. onward (sum i) ((ap (fin.get cells) last ∙ cell_is) i))
              ∙ (λ i. Some (backed (told.came i) (told.may i) (k + 1))) ∙ ap Some (behind_is run.origin perm k bound);
        }

        stops : continues (fin.get after (to + (at + run.count) - 1)) 1 (fin.get after (to + (at + run.count))) ≡ false
        stops =
            let here : to + (at + run.count) - 1 ≡ to + at = omega (arith, single) in
            false_from_ne_true _ (λ h. true≢false (sym (continues_unnumbered (fin.get after (to + (at + run.count) - 1)) 1 (fin.get after (to + (at + run.count))) h)
            ∙ (ap has_no_number (ap (fin.get after) here ∙ there) ∙ told.stops)))

        both_pieces : Piled (at + (run.count + added)) (pieces ++ record { first = at; count = run.count; perm = perm; backing = run.origin } ∷ second ∷ [])
        both_pieces =
            let p : Piece = record { first = at; count = run.count; perm = perm; backing = run.origin } in
            let first = first_piece run.count single in
            let sum : to + (at + run.count) + added ≡ to + (at + (run.count + added)) = omega arith in
            let some_more : 1 ≤ added = omega (arith, all, grows) in
            subst (Piled (at + (run.count + added))) (append_assoc pieces (p ∷ []) (second ∷ [])) (
              subst (λ e. ArePieces (piece_at to) (λ p. p.count) after to e ((pieces ++ p ∷ []) ++ second ∷ [])) sum
                  (one_piece_more (piece_at to) (λ p. p.count) after to (to + (at + run.count)) (pieces ++ p ∷ []) second first.0 refl some_more
                  (inl (backs_alike after (to + (at + run.count)) added (page_behind run.origin) perm some_more behind)) (λ _. stops)),
              All-append (Tells after to) (pieces ++ p ∷ []) (second ∷ []) first.1
                  (All-cons (Tells after to) second [] (backs_tell after to (at + run.count) added (page_behind run.origin) perm behind) (All-nil (Tells after to))),
            )

      numbered_pieces : Piled (at + (run.count + added)) (pieces ++ pieces_of run at added)
      numbered_pieces = go (added_by (page + run.count))
        where
          shown_by : (b : Bool) → nat_lt 0 added ≡ b → Piled (at + (run.count + added)) (pieces ++ cond (b && true) (record { first = at; count = run.count; perm = perm; backing = run.origin } ∷ second ∷ []) (record { first = at; count = run.count + added; perm = perm; backing = run.origin } ∷ []))
              → Piled (at + (run.count + added)) (pieces ++ pieces_of run at added)
          shown_by b e piled =
              subst (λ (x : Bool × Bool). Piled (at + (run.count + added)) (pieces ++ cond (x.0 && x.1) (record { first = at; count = run.count; perm = perm; backing = run.origin } ∷ second ∷ []) (record { first = at; count = run.count + added; perm = perm; backing = run.origin } ∷ [])))
              (λ i. (sym e i, sym numbered i)) piled

          go : (added ≡ 0) ⊎ ((page + run.count ≡ r.first + r.old) × (added ≡ r.new - r.old)) → Piled (at + (run.count + added)) (pieces ++ pieces_of run at added)
          go (inl none) = shown_by false (le-ltb 0 added (omega (arith, none))) (first_piece (run.count + added) (omega (arith, single, none)))
          go (inr more) = shown_by true (lt-ltb 0 added (omega (arith, more.1, grows))) (both_pieces more.0 more.1)

    pub run_listed : IsListed (page + run.count) (pieces ++ pieces_of run at added)
    run_listed =
        let sum : at + (run.count + added) ≡ page + run.count - r.first + added = omega (arith, low) in
        let piled = go (has_number run.status) refl in
        record { parts = subst (λ n. AreSoFar n (pieces ++ pieces_of run at added)) sum piled.0; each = piled.1; apart = λ _ more. is.parts more }
      where
        go : (b : Bool) → has_number run.status ≡ b → Piled (at + (run.count + added)) (pieces ++ pieces_of run at added)
        go true h = numbered_pieces h
        go false h = plain_pieces h

  pub none_listed : IsListed r.first []
  none_listed = record {
    parts = let none : added_to r r.first ≡ 0 = none_added r.first (omega (arith, some)) in omega (arith, none);
    each = All-nil (Tells after to);
    apart = λ a b. absurd (omega (arith, a));
  }

  pub all_listed : (pieces : List Piece) → IsListed (r.first + r.old) pieces → AreMoved after to r.new pieces
  all_listed pieces is =
      let all : added_to r (r.first + r.old) ≡ r.new - r.old = ap (λ b. cond b (r.new - r.old) 0) (eq-eqb (r.first + r.old) (r.first + r.old) refl) in
      let whole : covered (r.first + r.old) ≡ r.new = omega (arith, all, grows) in
      record { parts = subst (λ n. AreSoFar n pieces) whole is.parts; each = is.each }

module _ (rows : List Row) (r : Range) where
  pub record Listed (page : ℕ) (pieces : List Piece) : Type 0 where
    pub each : (space : ℕ) (st : State) → AreAsked space rows r.first r.old → RowsShown st rows → IsFull (space_at st space) r → (after : AddressSpace) (to : ℕ) (some : 1 ≤ r.old) (grows : r.old < r.new)
        (put : IsPutAt (space_at st space) r after to) → IsListed (space_at st space) after r to some grows put page pieces

  pub start_listed : (pieces : List Piece) → pieces ≡ [] → Listed r.first pieces
  start_listed pieces none = record {
    each = λ space st asked shown full after to some grows put. subst (IsListed (space_at st space) after r to some grows put r.first) (sym none) (none_listed (space_at st space) after r to some grows put);
  }

  pub more_listed : (page : ℕ) (pieces : List Piece) → Listed page pieces → r.first ≤ page → page < r.first + r.old → (run : Run) → 1 ≤ run.count → page + run.count ≤ r.first + r.old
      → AnswersRun rows page (r.first + r.old) run → (added : ℕ) → added ≡ added_to r (page + run.count) → (new : List Piece) → new ≡ pieces ++ pieces_of run (page - r.first) added → Listed (page + run.count) new
  more_listed page pieces was low inside run count fits answers added is new pushed = record {
    each = λ space st asked shown full after to some grows put.
        subst (IsListed (space_at st space) after r to some grows put (page + run.count)) (sym (pushed ∙ ap (λ n. pieces ++ pieces_of run (page - r.first) n) is))
        (run_listed (space_at st space) after r to some grows put page pieces (was.each space st asked shown full after to some grows put) low inside run count fits
        (answers space st (part_asked space asked) shown) full);
  }
    where
      part_asked : (space : ℕ) → AreAsked space rows r.first r.old → AreAsked space rows page (r.first + r.old - page)
      part_asked space asked q w = let at = in_range page (r.first + r.old - page) q w in asked q (to_range r.first r.old q (omega (arith, at.0, low)) (omega (arith, at.1, inside)))

  pub end_listed : (page : ℕ) (pieces : List Piece) → 1 ≤ r.old → r.old < r.new → page ≡ r.first + r.old → Listed page pieces → ListsMoved rows r pieces
  end_listed page pieces some grows end is space st asked shown full after to put =
      all_listed (space_at st space) after r to some grows put pieces
      (subst (λ p. IsListed (space_at st space) after r to some grows put p pieces) end (is.each space st asked shown full after to some grows put))
