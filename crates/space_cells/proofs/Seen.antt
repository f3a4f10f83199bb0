-- What the cells of a space have at a page, and that this determines them.
--     get_cells      the mark's cell, with what is held over it
--     Over      what stands at a page, by mark and held page
--     cells_are      a map that has this at each page is the cells
--     perm_of_cell, backing_of_cell, unheld_cell      a page has what its mark says, whether it is held or not
use Rattle.std.proofs.Common.{◌≡◌, ℕ, ◌+◌, Bool, true, false, cond, List, [], ◌∷◌, refl, sym, ap, ◌∙◌, arith}
use mathlib.Core.Bool.{true≢false}
use Rattle.std.specs.Prelude.{Option, Some, None, IsSome, is_some, is_none, map, nat_eq}
use Rattle.std.specs.Option.{option_map, option_map_or, option_and_then}
use Rattle.std.specs.List.{filter_map, range_with_len}
use Rattle.std.specs.Ordering.{nat_cmp, is_eq}
use Rattle.std.specs.Cmp.{nat_cmp_total, unsigned_tied}
use Rattle.std.specs.FinMap.{find, entries, get, get-entries, get-from_entries, same_map, nat_cmp-IsAntisymmetric}
use Rattle.std.proofs.lemmas.Bool.{eqb-true}
use Rattle.corten_base.specs.declared.permissions.Perm.{Perm}
use Rattle.corten_base.specs.declared.calls.Backing.{Backing}
use Rattle.corten_base.specs.declared.calls.Backing.TheVariants as backing
use Rattle.page_map.specs.declared.cell.Cell.{Cell}
use Rattle.page_map.specs.Cell.{backing_of, goes_on, perm_of}
use Rattle.page_map.specs.Mapping.{backed}
use Rattle.page_map.specs.State.{AddressSpace}
use Rattle.page_runs.specs.declared.mark.Mark.{Mark}
use Rattle.page_runs.specs.Spans.{Marks}
use Rattle.space_cells.specs.declared.held.Number.{Number}
use Rattle.space_cells.specs.declared.held.Number.TheVariants.{Frame, Slot}
use Rattle.space_cells.specs.declared.held.HeldPage.{HeldPage}
use Rattle.space_cells.specs.Held.{HeldPages, held_at, numbers_held}
use Rattle.space_cells.specs.Cells.{HaveMarks, bytes_of, cell_of, cells_of, framed, held_of, number_at, numbered, numbers_in}

find_mapped : {X Y : Type 0} (f : ℕ → X → Y) (q : ℕ) (es : List (ℕ × X)) → find nat_cmp q (map (λ e. (e.0, f e.0 e.1)) es) ≡ option_map (f q) (find nat_cmp q es)
find_mapped f q [] = refl
find_mapped f q (e ∷ es) =
    ap (cond (is_eq (nat_cmp q e.0)) (Some (f e.0 e.1))) (find_mapped f q es)
    ∙ ap (λ b. cond b (Some (f e.0 e.1)) (option_map (f q) (find nat_cmp q es))) (unsigned_tied q e.0)
    ∙ go (nat_eq q e.0) refl
    ∙ ap (λ b. option_map (f q) (cond b (Some e.1) (find nat_cmp q es))) (sym (unsigned_tied q e.0))
  where
    go : (b : Bool) → nat_eq q e.0 ≡ b → cond b (Some (f e.0 e.1)) (option_map (f q) (find nat_cmp q es)) ≡ option_map (f q) (cond b (Some e.1) (find nat_cmp q es))
    go true same = ap (λ k. Some (f k e.1)) (sym (eqb-true q e.0 same))
    go false other = refl

-- what stands at a page, by its mark and what is held over it
abbrev pub over : Option HeldPage → Option Mark → Option Cell
over held = option_map (λ mark. cell_of mark held)

pub get_cells : (marks : Marks) (pages : HeldPages) (q : ℕ) → get (cells_of marks pages) q ≡ over (held_at pages q) (get marks q)
unfolding cells_of
get_cells marks pages q =
    get-from_entries nat_cmp_total _ q ∙ find_mapped (λ k mark. cell_of mark (held_at pages k)) q (entries marks)
    ∙ ap (over (held_at pages q)) (sym (get-entries marks q))

pub cells_are : (marks : Marks) (pages : HeldPages) (m : AddressSpace) → ((q : ℕ) → get m q ≡ over (held_at pages q) (get marks q)) → cells_of marks pages ≡ m
cells_are marks pages m h = same_map nat_cmp_total nat_cmp-IsAntisymmetric (cells_of marks pages) m (λ q. get_cells marks pages q ∙ sym (h q))

-- pages that hold the same
pub same_cells : (marks : Marks) (pages pages' : HeldPages) → ((q : ℕ) → held_at pages' q ≡ held_at pages q) → cells_of marks pages' ≡ cells_of marks pages
same_cells marks pages pages' same = cells_are marks pages' (cells_of marks pages) (λ q. get_cells marks pages q ∙ ap (λ h. over h (get marks q)) (sym (same q)))

pub same_have_marks : (marks : Marks) (pages pages' : HeldPages) → ((q : ℕ) → held_at pages' q ≡ held_at pages q) → HaveMarks marks pages → HaveMarks marks pages'
same_have_marks marks pages pages' same have q some = have q (sym (ap is_some (same q)) ∙ some)

perm_of_backed : (backing : Backing) (perm : Perm) → perm_of (backed backing perm 0) ≡ perm
perm_of_backed backing.Zero perm = refl
perm_of_backed (backing.File file index) perm = refl

perm_of_numbered : (perm : Perm) (origin : Backing) (number : Number) (bytes : List ℕ) → perm_of (numbered perm origin number bytes) ≡ perm
perm_of_numbered perm origin (Frame frame) bytes = refl
perm_of_numbered perm origin (Slot slot) bytes = refl

-- a held page has its mark's permissions
pub perm_of_cell : (mark : Mark) (held : Option HeldPage) → perm_of (cell_of mark held) ≡ mark.perm
perm_of_cell mark None = perm_of_backed mark.backing mark.perm
perm_of_cell mark (Some held) = perm_of_numbered mark.perm mark.backing held.number held.bytes

backing_of_backed : (backing : Backing) (perm : Perm) → backing_of (backed backing perm 0) ≡ backing
backing_of_backed backing.Zero perm = refl
backing_of_backed (backing.File file index) perm = ap (backing.File file) (same index)
  where
    same : (k : ℕ) → k + 0 ≡ k
    same k = omega arith

backing_of_numbered : (perm : Perm) (origin : Backing) (number : Number) (bytes : List ℕ) → backing_of (numbered perm origin number bytes) ≡ origin
backing_of_numbered perm origin (Frame frame) bytes = refl
backing_of_numbered perm origin (Slot slot) bytes = refl

-- a page came from what its mark says, whether it is held or not
pub backing_of_cell : (mark : Mark) (held : Option HeldPage) → backing_of (cell_of mark held) ≡ mark.backing
backing_of_cell mark None = backing_of_backed mark.backing mark.perm
backing_of_cell mark (Some held) = backing_of_numbered mark.perm mark.backing held.number held.bytes

-- without what is held it is what it came from
pub unheld_cell : (mark : Mark) (held : Option HeldPage) → cell_of mark None ≡ goes_on (cell_of mark held) 0
unheld_cell mark held = λ i. backed (sym (backing_of_cell mark held) i) (sym (perm_of_cell mark held) i) 0

none_backed : (backing : Backing) (perm : Perm) → held_of (backed backing perm 0) ≡ None
none_backed backing.Zero perm = refl
none_backed (backing.File file index) perm = refl

held_of_numbered : (perm : Perm) (origin : Backing) (number : Number) (bytes : List ℕ) → held_of (numbered perm origin number bytes) ≡ Some (record { number = number; bytes = bytes })
held_of_numbered perm origin (Frame frame) bytes = refl
held_of_numbered perm origin (Slot slot) bytes = refl

held_of_cell : (mark : Mark) (held : Option HeldPage) → held_of (cell_of mark held) ≡ held
held_of_cell mark None = none_backed mark.backing mark.perm
held_of_cell mark (Some held) = held_of_numbered mark.perm mark.backing held.number held.bytes

pub none_unmarked : (mark : Option Mark) (held : Option HeldPage) → (IsSome held → IsSome mark) → mark ≡ None → held ≡ None
none_unmarked mark None h e = refl
none_unmarked mark (Some held) h e = absurd (true≢false (sym (h refl) ∙ ap is_some e))

-- the cells tell which pages have marks, and what is held
module _ (marks : Marks) (pages : HeldPages) where
  pub same_some : (q : ℕ) → is_some (get (cells_of marks pages) q) ≡ is_some (get marks q)
  same_some q = ap is_some (get_cells marks pages q) ∙ go (get marks q)
    where
      go : (o : Option Mark) → is_some (over (held_at pages q) o) ≡ is_some o
      go None = refl
      go (Some mark) = refl

  pub same_none : (q : ℕ) → is_none (get (cells_of marks pages) q) ≡ is_none (get marks q)
  same_none q = ap is_none (get_cells marks pages q) ∙ go (get marks q)
    where
      go : (o : Option Mark) → is_none (over (held_at pages q) o) ≡ is_none o
      go None = refl
      go (Some mark) = refl

  module _ (have : HaveMarks marks pages) where
    pub held_seen : (q : ℕ) → option_and_then held_of (get (cells_of marks pages) q) ≡ held_at pages q
    held_seen q = ap (option_and_then held_of) (get_cells marks pages q) ∙ go (get marks q) refl
      where
        go : (o : Option Mark) → get marks q ≡ o → option_and_then held_of (over (held_at pages q) o) ≡ held_at pages q
        go None e = sym (none_unmarked (get marks q) (held_at pages q) (have q) e)
        go (Some mark) e = held_of_cell mark (held_at pages q)

    pub number_seen : (q : ℕ) → number_at (cells_of marks pages) q ≡ option_map (λ held. held.number) (held_at pages q)
    number_seen q = go (get (cells_of marks pages) q) ∙ ap (option_map (λ held. held.number)) (held_seen q)
      where
        go : (o : Option Cell) → option_and_then (λ cell. option_map (λ held. held.number) (held_of cell)) o ≡ option_map (λ held. held.number) (option_and_then held_of o)
        go None = refl
        go (Some cell) = refl

    -- the numbers of the cells of a range
    pub numbers_seen : (first count : ℕ) → numbers_held pages first count ≡ numbers_in (cells_of marks pages) first count
    numbers_seen first count = λ i. filter_map (λ q. sym (number_seen q) i) (range_with_len first count)

    -- the bytes of a page that has a frame
    pub bytes_seen : (q : ℕ) → option_map_or (λ held. framed held.number held.bytes) (held_at pages q) [] ≡ bytes_of (get (cells_of marks pages) q)
    bytes_seen q = go (get marks q) refl ∙ ap bytes_of (sym (get_cells marks pages q))
      where
        none : (what : Backing) (perm : Perm) → [] ≡ bytes_of (Some (backed what perm 0))
        none backing.Zero perm = refl
        none (backing.File file index) perm = refl

        some : (perm : Perm) (origin : Backing) (number : Number) (bytes : List ℕ) → framed number bytes ≡ bytes_of (Some (numbered perm origin number bytes))
        some perm origin (Frame frame) bytes = refl
        some perm origin (Slot slot) bytes = refl

        under : (mark : Mark) (o : Option HeldPage) → option_map_or (λ held. framed held.number held.bytes) o [] ≡ bytes_of (Some (cell_of mark o))
        under mark None = none mark.backing mark.perm
        under mark (Some held) = some mark.perm mark.backing held.number held.bytes

        go : (o : Option Mark) → get marks q ≡ o → option_map_or (λ held. framed held.number held.bytes) (held_at pages q) [] ≡ bytes_of (over (held_at pages q) o)
        go None e = ap (λ o. option_map_or (λ held. framed held.number held.bytes) o []) (none_unmarked (get marks q) (held_at pages q) (have q) e)
        go (Some mark) e = under mark (held_at pages q)
