-- Changes of several ranges, page by page.
--     changed_cells      the marks after changes, with the held pages that these leave, say what the cells are after them
--     changed_have_marks      and the held pages lie over marks
--     released_seen      the numbers that changes release, by those at the pages
--     left_more, released_more, released_at      one change more
--     left_none      nothing is left where nothing is held
use Rattle.std.proofs.Common.{◌≡◌, ℕ, ◌+◌, ◌-◌, ◌<◌, Bool, true, false, cond, List, [], ◌∷◌, ◌++◌, length, take, drop, get_or, append_assoc, refl, sym, ap, ◌∙◌}
use mathlib.Core.Bool.{true≢false}
use Rattle.std.specs.Prelude.{Option, Some, None, IsSome, is_some, ◌&&◌, ◌||◌}
use Rattle.std.specs.Option.{option_map, option_and_then}
use Rattle.std.specs.List.{fold, list_any}
use Rattle.std.specs.FinMap.{get}
use Rattle.std.proofs.lemmas.List.{drop_more, take_more}
use Rattle.std.proofs.lemmas.List.Folds.{list_any-append}
use Rattle.corten_base.specs.declared.permissions.Perm.{Perm}
use Rattle.corten_base.specs.declared.calls.Backing.{Backing}
use Rattle.corten_base.specs.declared.calls.Backing.TheVariants as backing
use Rattle.table_place.specs.Range.{within}
use Rattle.page_map.specs.declared.cell.Cell.{Cell}
use Rattle.page_map.specs.declared.cell.Cell.TheVariants.{Anon, File, Mapped, Swapped}
use Rattle.page_map.specs.Cell.{with_perm}
use Rattle.page_map.specs.Mapping.{backed}
use Rattle.page_map.specs.State.{AddressSpace}
use Rattle.page_map.proofs.Range.{get-change}
use Rattle.page_runs.specs.declared.mark.Mark.{Mark}
use Rattle.page_runs.specs.declared.change.Change.{Change}
use Rattle.page_runs.specs.declared.change.Effect.{Effect}
use Rattle.page_runs.specs.declared.change.Effect.TheVariants.{Map, Unmap, Protect}
use Rattle.page_runs.specs.Mark as mark
use Rattle.page_runs.specs.Mark.{goes_on}
use Rattle.page_runs.specs.Spans.{Marks}
use Rattle.page_runs.specs.Changes.{after_change, after_changes, after_effect, made}
use Rattle.space_cells.specs.declared.held.Number.{Number}
use Rattle.space_cells.specs.declared.held.HeldPage.{HeldPage}
use Rattle.space_cells.specs.Held.{HeldPages, held_at, number_held}
use Rattle.space_cells.specs.Cells.{HaveMarks, cells_of, number_at, number_of}
use Rattle.space_cells.specs.Changes.{all_released, cells_after, cells_after_all, frees, left, made_cell, released_by, released_of, releases}
use Rattle.space_cells.proofs.Seen.{cells_are, get_cells, over}
use Rattle.space_cells.proofs.Changing.{backed_on, over_protected}

-- what a change makes of a page's mark, and of its cell
abbrev mark_after : ℕ → Option Mark → Change → Option Mark
mark_after q o c = cond (within c.first c.count q) (made c.effect (q - c.first) o) o

abbrev cell_after : ℕ → Option Cell → Change → Option Cell
cell_after q o c = cond (within c.first c.count q) (made_cell c.effect (q - c.first) o) o

mark_seen : (m : Marks) (c : Change) (q : ℕ) → get (after_change m c) q ≡ mark_after q (get m q) c
mark_seen m c q = go c.effect
  where
    go : (e : Effect) → get (after_effect e c.first c.count m) q ≡ cond (within c.first c.count q) (made e (q - c.first) (get m q)) (get m q)
    go (Map mark) = get-change m c.first c.count (λ page _. Some (goes_on mark (page - c.first))) q
    go Unmap = get-change m c.first c.count (λ _ _. None) q
    go (Protect perm) = get-change m c.first c.count (λ _. option_map (mark.with_perm perm)) q

marks_seen : (cs : List Change) (m : Marks) (q : ℕ) → get (after_changes m cs) q ≡ fold (mark_after q) (get m q) cs
marks_seen [] m q = refl
marks_seen (c ∷ cs) m q = marks_seen cs (after_change m c) q ∙ ap (λ o. fold (mark_after q) o cs) (mark_seen m c q)

cell_seen : (cells : AddressSpace) (c : Change) (q : ℕ) → get (cells_after cells c) q ≡ cell_after q (get cells q) c
cell_seen cells c q = get-change cells c.first c.count (λ page. made_cell c.effect (page - c.first)) q

cells_seen : (cs : List Change) (cells : AddressSpace) (q : ℕ) → get (cells_after_all cells cs) q ≡ fold (cell_after q) (get cells q) cs
cells_seen [] cells q = refl
cells_seen (c ∷ cs) cells q = cells_seen cs (cells_after cells c) q ∙ ap (λ o. fold (cell_after q) o cs) (cell_seen cells c q)

-- one effect, on a page that is held or not
one_over : (e : Effect) (place : ℕ) (h : Option HeldPage) (o : Option Mark) → over (cond (frees e) None h) (made e place o) ≡ made_cell e place (over h o)
one_over (Map mark) place h o = ap Some (backed_on mark.backing mark.perm place)
one_over Unmap place h o = refl
one_over (Protect perm) place h o = over_protected perm h o

change_over : (c : Change) (q : ℕ) (h : Option HeldPage) (o : Option Mark) → over (cond (releases c q) None h) (mark_after q o c) ≡ cell_after q (over h o) c
change_over c q h o = go (within c.first c.count q)
  where
    go : (b : Bool) → over (cond (b && frees c.effect) None h) (cond b (made c.effect (q - c.first) o) o) ≡ cond b (made_cell c.effect (q - c.first) (over h o)) (over h o)
    go true = one_over c.effect (q - c.first) h o
    go false = refl

-- what some changes take, and then others
pub taken_then : {A : Type 0} (a b : Bool) (o : Option A) → cond (a || b) None o ≡ cond b None (cond a None o)
taken_then true true o = refl
taken_then true false o = refl
taken_then false b o = refl

all_over : (cs : List Change) (q : ℕ) (h : Option HeldPage) (o : Option Mark) →
    over (cond (list_any (λ c. releases c q) cs) None h) (fold (mark_after q) o cs) ≡ fold (cell_after q) (over h o) cs
all_over [] q h o = refl
all_over (c ∷ cs) q h o =
    ap (λ h. over h (fold (mark_after q) (mark_after q o c) cs)) (taken_then (releases c q) (list_any (λ c. releases c q) cs) h)
    ∙ all_over cs q (cond (releases c q) None h) (mark_after q o c)
    ∙ ap (λ x. fold (cell_after q) x cs) (change_over c q h o)

one_has : (e : Effect) (place : ℕ) (h : Option HeldPage) (o : Option Mark) → (IsSome h → IsSome o) → IsSome (cond (frees e) None h) → IsSome (made e place o)
one_has (Map mark) place h o f some = refl
one_has Unmap place h o f some = absurd (true≢false (sym some))
one_has (Protect perm) place h o f some = go o (f some)
  where
    go : (o : Option Mark) → IsSome o → IsSome (option_map (mark.with_perm perm) o)
    go None some = absurd (true≢false (sym some))
    go (Some m) some = refl

all_have : (cs : List Change) (q : ℕ) (h : Option HeldPage) (o : Option Mark) → (IsSome h → IsSome o) → IsSome (cond (list_any (λ c. releases c q) cs) None h) → IsSome (fold (mark_after q) o cs)
all_have [] q h o f some = f some
all_have (c ∷ cs) q h o f some =
    all_have cs q (cond (releases c q) None h) (mark_after q o c) (go (within c.first c.count q)) (ap is_some (sym (taken_then (releases c q) (list_any (λ c. releases c q) cs) h)) ∙ some)
  where
    go : (b : Bool) → IsSome (cond (b && frees c.effect) None h) → IsSome (cond b (made c.effect (q - c.first) o) o)
    go true = one_has c.effect (q - c.first) h o f
    go false = f

module _ (marks : Marks) (pages pages' : HeldPages) (cs : List Change) (cleared : (q : ℕ) → held_at pages' q ≡ cond (list_any (λ c. releases c q) cs) None (held_at pages q)) where
  pub changed_cells : cells_of (after_changes marks cs) pages' ≡ cells_after_all (cells_of marks pages) cs
  changed_cells = cells_are (after_changes marks cs) pages' (cells_after_all (cells_of marks pages) cs) (λ q.
      cells_seen cs (cells_of marks pages) q ∙ ap (λ o. fold (cell_after q) o cs) (get_cells marks pages q)
      ∙ sym (all_over cs q (held_at pages q) (get marks q))
      ∙ (λ i. over (sym (cleared q) i) (sym (marks_seen cs marks q) i)))

  pub changed_have_marks : HaveMarks marks pages → HaveMarks (after_changes marks cs) pages'
  changed_have_marks have q some = ap is_some (marks_seen cs marks q) ∙ all_have cs q (held_at pages q) (get marks q) (have q) (ap is_some (sym (cleared q)) ∙ some)

-- the number at a page after a change
number_after : (cells : AddressSpace) (c : Change) (q : ℕ) → number_at (cells_after cells c) q ≡ left (number_at cells) (c ∷ []) q
number_after cells c q = ap (option_and_then number_of) (cell_seen cells c q) ∙ go (within c.first c.count q) c.effect (get cells q)
  where
    none : (what : Backing) (perm : Perm) (i : ℕ) → number_of (backed what perm i) ≡ None
    none backing.Zero perm i = refl
    none (backing.File file index) perm i = refl

    same : (perm : Perm) (cell : Cell) → number_of (with_perm perm cell) ≡ number_of cell
    same perm (Anon old) = refl
    same perm (File old file index) = refl
    same perm (Mapped old origin frame bytes) = refl
    same perm (Swapped old origin slot bytes) = refl

    go : (b : Bool) (e : Effect) (o : Option Cell) →
        option_and_then number_of (cond b (made_cell e (q - c.first) o) o) ≡ cond ((b && frees e) || false) None (option_and_then number_of o)
    go false e o = refl
    go true (Map mark) o = none mark.backing mark.perm (q - c.first)
    go true Unmap o = refl
    go true (Protect perm) None = refl
    go true (Protect perm) (Some cell) = same perm cell

pub released_seen : (cs : List Change) (cells : AddressSpace) → all_released cells cs ≡ released_of (number_at cells) cs
released_seen [] cells = refl
released_seen (c ∷ cs) cells =
    ap (λ l. released_by (number_at cells) c ++ l) (released_seen cs (cells_after cells c) ∙ (λ i. released_of (λ q. number_after cells c q i) cs))

-- what changes leave, and one more
pub taken_more : {A : Type 0} (cs : List Change) (c : Change) (q : ℕ) (o : Option A) →
    cond (releases c q) None (cond (list_any (λ c. releases c q) cs) None o) ≡ cond (list_any (λ c. releases c q) (cs ++ c ∷ [])) None o
taken_more cs c q o =
    sym (taken_then (list_any (λ c. releases c q) cs) (releases c q) o) ∙ ap (λ b. cond (list_any (λ c. releases c q) cs || b) None o) (alone (releases c q))
    ∙ ap (λ b. cond b None o) (sym (list_any-append (λ c. releases c q) cs (c ∷ [])))
  where
    alone : (b : Bool) → b ≡ (b || false)
    alone true = refl
    alone false = refl

left_more : (numbers : ℕ → Option Number) (cs : List Change) (c : Change) (q : ℕ) → left (left numbers cs) (c ∷ []) q ≡ left numbers (cs ++ c ∷ []) q
left_more numbers cs c q = ap (λ b. cond b None (left numbers cs q)) (alone (releases c q)) ∙ taken_more cs c q (numbers q)
  where
    alone : (b : Bool) → (b || false) ≡ b
    alone true = refl
    alone false = refl

pub released_more : (numbers : ℕ → Option Number) (so_far : List Number) (cs : List Change) (c : Change) (rest : List Change) →
    (so_far ++ released_by (left numbers cs) c) ++ released_of (left numbers (cs ++ c ∷ [])) rest ≡ so_far ++ released_of (left numbers cs) (c ∷ rest)
released_more numbers so_far cs c rest =
    append_assoc so_far (released_by (left numbers cs) c) (released_of (left numbers (cs ++ c ∷ [])) rest)
    ∙ (λ i. so_far ++ (released_by (left numbers cs) c ++ released_of (λ q. sym (left_more numbers cs c q) i) rest))

-- one change more of a list
pub released_at : (numbers : ℕ → Option Number) (cs : List Change) (i : ℕ) (d : Change) → i < length cs → (earlier : List Change) → earlier ≡ take i cs → (so_far now : List Number) →
    now ≡ so_far ++ released_by (left numbers earlier) (get_or cs i d) → now ++ released_of (left numbers (take (i + 1) cs)) (drop (i + 1) cs) ≡ so_far ++ released_of (left numbers (take i cs)) (drop i cs)
released_at numbers cs i d h earlier front so_far now is =
    (λ j. (is ∙ ap (λ xs. so_far ++ released_by (left numbers xs) (get_or cs i d)) front) j ++ released_of (left numbers (take_more cs i d h j)) (drop (i + 1) cs))
    ∙ released_more numbers so_far (take i cs) (get_or cs i d) (drop (i + 1) cs)
    ∙ ap (λ xs. so_far ++ released_of (left numbers (take i cs)) xs) (sym (drop_more cs i d h))

-- nothing is left where nothing is held
pub left_none : (pages : HeldPages) (cs : List Change) (q : ℕ) → held_at pages q ≡ None → left (number_held pages) cs q ≡ None
left_none pages cs q e = ap (λ o. cond (list_any (λ c. releases c q) cs) None (option_map (λ held. held.number) o)) e ∙ go (list_any (λ c. releases c q) cs)
  where
    go : (b : Bool) → ◌≡◌ {A = Option Number} (cond b None None) None
    go true = refl
    go false = refl
