-- The cells of a space after what stands at the pages of a range has changed.
--     by_range      a range of pages that changes, and pages that stay
--     backed_on, over_protected      a mark that goes on;  a mark with other permissions
--     after_one      a page that holds something else
--     cleared_at, cleared_cells      pages that are let go of
--     mapped_cells, unmapped_cells, protected_cells      the pages of a range that are mapped, unmapped and protected;  with .._have_marks, that what is held still lies over marks
--     held_cells, renumbered_cells, overwritten_cells, let_go_cells      one page that is held, gets another number, is written, and is let go
--     given_back_cells      the pages of a range that are let go;  with .._have_marks
use Rattle.std.proofs.Common.{◌≡◌, ◌≢◌, ℕ, ◌+◌, ◌-◌, Bool, true, false, cond, List, refl, sym, ap, ◌∙◌, arith}
use mathlib.Core.Bool.{true≢false}
use mathlib.Core.Logic.{◌⊎◌, inl, inr}
use Rattle.std.specs.Prelude.{Option, Some, None, IsSome, is_some, Result, Ok, Err, OnOk, OnErr}
use Rattle.std.specs.Option.{option_map}
use Rattle.std.specs.FinMap.{get}
use Rattle.std.proofs.lemmas.Bool.{cases_eq, cases_lt}
use Rattle.corten_base.specs.declared.permissions.Perm.{Perm}
use Rattle.corten_base.specs.declared.calls.Backing.{Backing}
use Rattle.corten_base.specs.declared.calls.Backing.TheVariants as backing
use Rattle.table_place.specs.Range.{within}
use Rattle.page_map.specs.declared.cell.Cell.{Cell}
use Rattle.page_map.specs.DontNeed.{given_back}
use Rattle.page_map.specs.Cell as cell
use Rattle.page_map.specs.declared.cell.Cell.TheVariants.{File}
use Rattle.page_map.specs.Change.{change}
use Rattle.page_map.specs.Mapping.{backed}
use Rattle.page_map.proofs.Range.{get-change, change_is, inside, outside}
use Rattle.page_runs.specs.declared.mark.Mark.{Mark}
use Rattle.page_runs.specs.Mark.{backing_after, goes_on, with_perm}
use Rattle.page_runs.specs.Spans.{Marks, mapped, protected, unmapped}
use Rattle.space_cells.specs.declared.held.Number.{Number}
use Rattle.space_cells.specs.declared.held.Number.TheVariants.{Frame, Slot}
use Rattle.space_cells.specs.declared.held.HeldPage.{HeldPage}
use Rattle.space_cells.specs.Held.{HeldPages, held_at, Clears, Sets}
use Rattle.space_cells.specs.Cells.{HaveMarks, cell_of, cells_of, numbered, overwritten, overwritten_page, renumbered, renumbered_page, with_held, written_under}
use Rattle.space_cells.proofs.Seen.{backing_of_cell, get_cells, over, perm_of_cell, unheld_cell}

-- a mark that goes on stands for a later page of the mapping
pub backed_on : (backing : Backing) (perm : Perm) (i : ℕ) → backed (backing_after backing i) perm 0 ≡ backed backing perm i
backed_on backing.Zero perm i = refl
backed_on (backing.File file index) perm i = ap (λ k. File perm file k) (same (index + i))
  where
    same : (k : ℕ) → k + 0 ≡ k
    same k = omega arith

-- a mark's permissions are the cell's, also where a page is held
pub over_protected : (perm : Perm) (h : Option HeldPage) (o : Option Mark) → over h (option_map (with_perm perm) o) ≡ option_map (cell.with_perm perm) (over h o)
over_protected perm h None = refl
over_protected perm h (Some mark) = ap Some (both h mark)
  where
    unheld : (backing : Backing) (old : Perm) → backed backing perm 0 ≡ cell.with_perm perm (backed backing old 0)
    unheld backing.Zero old = refl
    unheld (backing.File file index) old = refl

    held : (origin : Backing) (number : Number) (bytes : List ℕ) (old : Perm) → numbered perm origin number bytes ≡ cell.with_perm perm (numbered old origin number bytes)
    held origin (Frame frame) bytes old = refl
    held origin (Slot slot) bytes old = refl

    both : (h : Option HeldPage) (mark : Mark) → cell_of (with_perm perm mark) h ≡ cell.with_perm perm (cell_of mark h)
    both None mark = unheld mark.backing mark.perm
    both (Some page) mark = held mark.backing page.number page.bytes mark.perm

module _ (marks marks' : Marks) (pages pages' : HeldPages) where
  -- a range that changes, and pages that stay
  pub by_range : (first count : ℕ) (new : ℕ → Option Cell → Option Cell) →
      ((q : ℕ) → within first count q ≡ true → over (held_at pages' q) (get marks' q) ≡ new q (over (held_at pages q) (get marks q))) →
      ((q : ℕ) → within first count q ≡ false → over (held_at pages' q) (get marks' q) ≡ over (held_at pages q) (get marks q)) →
      cells_of marks' pages' ≡ change (cells_of marks pages) first count new
  by_range first count new changed stays = change_is (cells_of marks pages) first count new (cells_of marks' pages') (λ q.
      get_cells marks' pages' q ∙ go q (within first count q) refl ∙ ap (λ o. cond (within first count q) (new q o) o) (sym (get_cells marks pages q)))
    where
      go : (q : ℕ) (b : Bool) → within first count q ≡ b →
          over (held_at pages' q) (get marks' q) ≡ cond b (new q (over (held_at pages q) (get marks q))) (over (held_at pages q) (get marks q))
      go q true e = changed q e
      go q false e = stays q e

-- one page
within_one : (page q : ℕ) → within page 1 q ≡ true → q ≡ page
within_one page q e = let at = inside page 1 q e in omega (arith, at.0, at.1)

beside_one : (page q : ℕ) → within page 1 q ≡ false → q ≢ page
beside_one page q e same = outside page 1 q e (omega (arith, same)) (omega (arith, same))

module _ (marks : Marks) (pages pages' : HeldPages) (page : ℕ) (held : Option HeldPage) (sets : Sets pages pages' page held) where
  pub after_one : (f : Cell → Cell) → ((mark : Mark) → get marks page ≡ Some mark → cell_of mark held ≡ f (cell_of mark (held_at pages page))) →
      cells_of marks pages' ≡ change (cells_of marks pages) page 1 (λ _. option_map f)
  after_one f is = by_range marks marks pages pages' page 1 (λ _. option_map f) (λ q w. at q (within_one page q w))
      (λ q w. ap (λ h. over h (get marks q)) (sets.others q (beside_one page q w)))
    where
      here : (o : Option Mark) → get marks page ≡ o → over held o ≡ option_map f (over (held_at pages page) o)
      here None e = refl
      here (Some mark) e = ap Some (is mark e)

      at : (q : ℕ) → q ≡ page → over (held_at pages' q) (get marks q) ≡ option_map f (over (held_at pages q) (get marks q))
      at q same =
          ap (λ k. over (held_at pages' k) (get marks k)) same
          ∙ ap (λ h. over h (get marks page)) sets.here
          ∙ here (get marks page) refl
          ∙ ap (λ k. option_map f (over (held_at pages k) (get marks k))) (sym same)

  pub set_have_marks : HaveMarks marks pages → (IsSome held → IsSome (get marks page)) → HaveMarks marks pages'
  set_have_marks have new q some = elim (cases_page q) [
    | inl same ↦ along (sym same) (new (some_along (ap (λ k. held_at pages' k) same ∙ sets.here) some))
    | inr other ↦ have q (some_along (sets.others q other) some)
  ]
    where
      some_along : {A : Type 0} {o p : Option A} → o ≡ p → IsSome o → IsSome p
      some_along e h = cc

      along : {q p : ℕ} → q ≡ p → IsSome (get marks q) → IsSome (get marks p)
      along {q} {p} e h = sym (ap (λ k. is_some (get marks k)) e) ∙ h

      cases_page : (q : ℕ) → (q ≡ page) ⊎ (q ≢ page)
      cases_page q = cases_eq q page

module _ (marks : Marks) (pages pages' : HeldPages) (page : ℕ) where
  -- a page that is held
  pub held_cells : (held : HeldPage) → Sets pages pages' page (Some held) → cells_of marks pages' ≡ change (cells_of marks pages) page 1 (λ _. option_map (with_held held))
  held_cells held sets = after_one marks pages pages' page (Some held) sets (with_held held)
      (λ mark e. λ i. numbered (sym (perm_of_cell mark (held_at pages page)) i) (sym (backing_of_cell mark (held_at pages page)) i) held.number held.bytes)

  -- a page under another number
  pub renumbered_cells : (number : Number) → Sets pages pages' page (option_map (renumbered_page number) (held_at pages page)) →
      cells_of marks pages' ≡ change (cells_of marks pages) page 1 (λ _. option_map (renumbered number))
  renumbered_cells number sets = after_one marks pages pages' page _ sets (renumbered number) (λ mark e. go mark (held_at pages page))
    where
      still : (backing : Backing) (perm : Perm) → backed backing perm 0 ≡ renumbered number (backed backing perm 0)
      still backing.Zero perm = refl
      still (backing.File file index) perm = refl

      other : (perm : Perm) (origin : Backing) (old : Number) (bytes : List ℕ) → numbered perm origin number bytes ≡ renumbered number (numbered perm origin old bytes)
      other perm origin (Frame frame) bytes = refl
      other perm origin (Slot slot) bytes = refl

      go : (mark : Mark) (h : Option HeldPage) → cell_of mark (option_map (renumbered_page number) h) ≡ renumbered number (cell_of mark h)
      go mark None = still mark.backing mark.perm
      go mark (Some held) = other mark.perm mark.backing held.number held.bytes

  -- bytes that are written
  pub overwritten_cells : (place : ℕ) (written : List ℕ) → Sets pages pages' page (option_map (overwritten_page place written) (held_at pages page)) →
      cells_of marks pages' ≡ change (cells_of marks pages) page 1 (λ _. option_map (overwritten place written))
  overwritten_cells place written sets = after_one marks pages pages' page _ sets (overwritten place written) (λ mark e. go mark (held_at pages page))
    where
      still : (backing : Backing) (perm : Perm) → backed backing perm 0 ≡ overwritten place written (backed backing perm 0)
      still backing.Zero perm = refl
      still (backing.File file index) perm = refl

      other : (perm : Perm) (origin : Backing) (number : Number) (bytes : List ℕ) →
          numbered perm origin number (written_under number place written bytes) ≡ overwritten place written (numbered perm origin number bytes)
      other perm origin (Frame frame) bytes = refl
      other perm origin (Slot slot) bytes = refl

      go : (mark : Mark) (h : Option HeldPage) → cell_of mark (option_map (overwritten_page place written) h) ≡ overwritten place written (cell_of mark h)
      go mark None = still mark.backing mark.perm
      go mark (Some held) = other mark.perm mark.backing held.number held.bytes

  -- a page that is let go
  pub let_go_cells : Sets pages pages' page None → cells_of marks pages' ≡ given_back page 1 (cells_of marks pages)
  unfolding given_back
  let_go_cells sets = after_one marks pages pages' page None sets (λ c. cell.goes_on c 0) (λ mark e. unheld_cell mark (held_at pages page))

module _ (marks : Marks) (pages pages' : HeldPages) (first count : ℕ) (clears : Clears first (first + count) pages pages') where
  outside_cleared : (q : ℕ) → within first count q ≡ false → held_at pages' q ≡ held_at pages q
  outside_cleared q w = elim (cases_lt q first) [
    | inl before ↦ clears.below q before
    | inr from ↦ elim (cases_lt q (first + count)) [
      | inl within ↦ absurd (outside first count q w from within)
      | inr past ↦ clears.above q past
    ]
  ]

  inside_cleared : (q : ℕ) → within first count q ≡ true → held_at pages' q ≡ None
  inside_cleared q w = clears.inside q (inside first count q w).0 (inside first count q w).1

  -- no page of the range is held, and the others are as before
  pub cleared_at : (q : ℕ) → held_at pages' q ≡ cond (within first count q) None (held_at pages q)
  cleared_at q = go (within first count q) refl
    where
      go : (b : Bool) → within first count q ≡ b → held_at pages' q ≡ cond b None (held_at pages q)
      go true w = inside_cleared q w
      go false w = outside_cleared q w

  -- a range where nothing is held any more, whose marks stay
  pub given_back_cells : cells_of marks pages' ≡ given_back first count (cells_of marks pages)
  unfolding given_back
  given_back_cells = by_range marks marks pages pages' first count (λ page. option_map (λ c. cell.goes_on c 0))
      (λ q w. ap (λ h. over h (get marks q)) (inside_cleared q w) ∙ unheld (held_at pages q) (get marks q))
      (λ q w. ap (λ h. over h (get marks q)) (outside_cleared q w))
    where
      unheld : (h : Option HeldPage) (o : Option Mark) → over None o ≡ option_map (λ c. cell.goes_on c 0) (over h o)
      unheld h None = refl
      unheld h (Some mark) = ap Some (unheld_cell mark h)

  -- what is held still lies over the marks
  pub given_back_have_marks : HaveMarks marks pages → HaveMarks marks pages'
  given_back_have_marks have q some = go (within first count q) (ap is_some (sym (cleared_at q)) ∙ some)
    where
      go : (b : Bool) → IsSome (cond b None (held_at pages q)) → IsSome (get marks q)
      go true h = absurd (true≢false (sym h))
      go false h = have q h

  -- a range whose marks change, and where nothing is held any more
  pub cleared_cells : (new : ℕ → Option Mark → Option Mark) (f : ℕ → Option Cell → Option Cell) →
      ((q : ℕ) (h : Option HeldPage) (o : Option Mark) → over None (new q o) ≡ f q (over h o)) → cells_of (change marks first count new) pages' ≡ change (cells_of marks pages) first count f
  cleared_cells new f is = by_range marks (change marks first count new) pages pages' first count f
      (λ q w.
      ap (λ h. over h (get (change marks first count new) q)) (inside_cleared q w)
      ∙ ap (over None) (get-change marks first count new q ∙ ap (λ b. cond b (new q (get marks q)) (get marks q)) w)
      ∙ is q (held_at pages q) (get marks q))
      (λ q w.
      ap (λ h. over h (get (change marks first count new) q)) (outside_cleared q w)
      ∙ ap (over (held_at pages q)) (get-change marks first count new q ∙ ap (λ b. cond b (new q (get marks q)) (get marks q)) w))

  pub unmapped_cells : cells_of (unmapped marks first count) pages' ≡ change (cells_of marks pages) first count (λ _ _. None)
  unmapped_cells = cleared_cells (λ _ _. None) (λ _ _. None) (λ q h o. refl)

  pub mapped_cells : (mark : Mark) → cells_of (mapped marks first count mark) pages' ≡ change (cells_of marks pages) first count (λ page _. Some (backed mark.backing mark.perm (page - first)))
  mapped_cells mark = cleared_cells (λ page _. Some (goes_on mark (page - first))) (λ page _. Some (backed mark.backing mark.perm (page - first)))
      (λ q h o. ap Some (backed_on mark.backing mark.perm (q - first)))

  -- what is held still lies over marks
  pub cleared_have_marks : (new : ℕ → Option Mark → Option Mark) → HaveMarks marks pages → HaveMarks (change marks first count new) pages'
  cleared_have_marks new have q some = go (within first count q) refl
    where
      some_along : {A : Type 0} {o p : Option A} → o ≡ p → IsSome o → IsSome p
      some_along e h = cc

      nothing : {A : Type 0} {o : Option A} → o ≡ None → IsSome o → ⊥
      nothing e h = true≢false (sym h ∙ ap is_some e)

      go : (b : Bool) → within first count q ≡ b → IsSome (get (change marks first count new) q)
      go true w = absurd (nothing (inside_cleared q w) some)
      go false w = some_along (sym (get-change marks first count new q ∙ ap (λ b. cond b (new q (get marks q)) (get marks q)) w)) (have q (some_along (outside_cleared q w) some))

module _ (marks : Marks) (pages : HeldPages) (first count : ℕ) (perm : Perm) where
  -- other permissions, also where a page is held
  pub protected_cells : cells_of (protected marks first count perm) pages ≡ change (cells_of marks pages) first count (λ _. option_map (cell.with_perm perm))
  protected_cells = by_range marks (protected marks first count perm) pages pages first count (λ _. option_map (cell.with_perm perm))
      (λ q w. ap (over (held_at pages q)) (seen q ∙ ap (λ b. cond b (option_map (with_perm perm) (get marks q)) (get marks q)) w) ∙ over_protected perm (held_at pages q) (get marks q))
      (λ q w. ap (over (held_at pages q)) (seen q ∙ ap (λ b. cond b (option_map (with_perm perm) (get marks q)) (get marks q)) w))
    where
      seen : (q : ℕ) → get (protected marks first count perm) q ≡ cond (within first count q) (option_map (with_perm perm) (get marks q)) (get marks q)
      seen q = get-change marks first count (λ _. option_map (with_perm perm)) q

  pub protected_have_marks : HaveMarks marks pages → HaveMarks (protected marks first count perm) pages
  protected_have_marks have q some = ap is_some (get-change marks first count (λ _. option_map (with_perm perm)) q) ∙ go (within first count q) (get marks q) ∙ have q some
    where
      go : (b : Bool) (o : Option Mark) → is_some (cond b (option_map (with_perm perm) o) o) ≡ is_some o
      go true None = refl
      go true (Some mark) = refl
      go false o = refl

-- what follows either way
pub either : {T E A B C : Type 0} (r : Result T E) → OnOk r A → OnErr r B → (A → C) → (B → C) → C
either (Ok x) a b f g = f a
either (Err e) a b f g = g b
