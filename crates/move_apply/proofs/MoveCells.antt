-- The rows of a range that moved, before its references are at their new pages.
--     IsMovedCell      a cell that agrees with the book, or it is that of a page at the new place and shows what it came from
--     moved_at      an entry of the state in which the new pages show what they came from is such a cell
--     sharing_cell      so its words are to be written
--     short_cell      once they are, it lacks its reference alone
use Rattle.std.specs.Prelude.{◌≡◌, ℕ, ◌+◌, ◌-◌, ◌*◌, ◌^◌, ◌<◌, ◌≤◌, ◌⊎◌, Bool, true, false, cond, List, [], ◌++◌, Option, Some, None}
use Rattle.std.specs.List.{Contains}
use Rattle.std.specs.FinSet as set
use Rattle.std.specs.FinSet.{FinSet}
use Rattle.std.proofs.Common.{sym, refl, ◌∙◌, ap, subst, arith, inl, inr, append-nil, mul-one}
use Rattle.std.proofs.lemmas.Bool.{true≢false}
use mathlib.Core.Logic.{dite}
use native.Mathlib.Decide.{ℕ_discrete}
use Rattle.corten_base.specs.declared.calls.Backing.{Backing}
use Rattle.corten_base.specs.declared.calls.Backing.TheVariants as backing
use Rattle.corten_base.specs.declared.permissions.Perm.{Perm}
use Rattle.page_map.specs.declared.cell.Cell.{Cell as PageCell}
use Rattle.page_map.specs.declared.cell.Cell.TheVariants as page
use Rattle.page_map.specs.Cell.{backed, goes_on, frame_of, slot_of}
use Rattle.page_map.specs.State.{State, IsConsistent, levels, space_at, cell_at}
use Rattle.page_map.proofs.Alike.{has_no_number, number_unlike}
use Rattle.page_map.proofs.Steps.{not_none}
use Rattle.row_cells.specs.declared.Cell.{Cell}
use Rattle.row_cells.specs.declared.Cell.TheVariants.{Invalid, Table, Anon, File, Mapped, Swapped}
use Rattle.table_place.specs.declared.Place.{Place}
use Rattle.table_place.specs.Place.{has_page, place_cmp, root, span_first, span_count}
use Rattle.table_place.specs.Range.{within}
use Rattle.table_place.proofs.Entries.{level_of}
use Rattle.walk_core.specs.Words.{is_link}
use Rattle.walk_core.proofs.Spellings.{zero_no_link}
use Rattle.machine_plan.specs.Agrees.{HasBytes, IsLeafOf, IsNoTable, Shows, Spells}
use Rattle.machine_plan.specs.Books.{BookData, state_of}
use Rattle.machine_plan.specs.HeldRows.{is_table}
use Rattle.machine_plan.proofs.Pages.{own_page}
use Rattle.cursor_detach.specs.Left.{came_from}
use Rattle.cursor_apply.specs.Changed.{IsEntryOf}
use Rattle.cursor_apply.specs.Putting.{IsLacking, IsShortCell}
use Rattle.cursor_apply.specs.Sharing.{IsSharingCell}
use Rattle.cursor_apply.proofs.Between.{drawn, drawn_plain}
use Rattle.cursor_apply.proofs.Marks.{shows_same, in_span}
use Rattle.move_apply.proofs.MoveBase.{IsLast}

-- lacking: the page is at the new place
pub record IsMovedCell (b : BookData) (space : ℕ) (frames slots : List ℕ) (q : Place) (word : ℕ) (cell : Cell) : Type 0 where
  pub was : Cell
  pub shows : Shows (state_of b) q was
  pub is : (((cell ≡ was) × HasBytes b was) × Spells (state_of b) was word) ⊎ (IsLacking frames slots q was cell × (word ≡ 0) × (q.space ≡ space) × (q.level ≡ 0))

-- ---- a cell that shows what a page came from

module _ (st : State) (q : Place) (zero : q.level ≡ 0) (lone : IsNoTable st q) (origin : Backing) (perm : Perm) (there : cell_at st q.space q.prefix ≡ Some (backed origin perm 0)) where
  own : has_page q q.space q.prefix ≡ true
  own = own_page q zero

  -- the page is the first one of its span
  first_is : span_first q ≡ q.prefix
  first_is = ap (λ n. q.prefix * 512 ^ n) zero ∙ mul-one q.prefix

  none_behind : q.prefix - span_first q ≡ 0
  none_behind = let e = first_is in omega (arith, e)

  pub came_cell : (cell : Cell) → Shows st q cell → cell ≡ came_from origin perm
  came_cell Table shows = absurd (true≢false (sym shows ∙ lone))
  came_cell Invalid shows = absurd (not_none (sym there ∙ shows.1 q.space q.prefix own))
  came_cell (Anon p) shows = go origin (sym (shows.1 q.space q.prefix own) ∙ there)
    where
      go : (o : Backing) → Some (page.Anon p) ≡ Some (backed o perm 0) → Anon p ≡ came_from o perm
      go backing.Zero e = let same : p ≡ perm = cc in ap (λ x. Anon x) same
      go (backing.File file index) e = absurd (cc)
  came_cell (File p f n) shows = go origin (sym (shows.1 q.space q.prefix own) ∙ there)
    where
      go : (o : Backing) → Some (page.File p f (n + (q.prefix - span_first q))) ≡ Some (backed o perm 0) → File p f n ≡ came_from o perm
      go backing.Zero e = absurd (cc)
      go (backing.File file index) e =
          let perms : p ≡ perm = cc in
          let files : f ≡ file = cc in
          let sums : n + (q.prefix - span_first q) ≡ index + 0 = cc in
          let none = none_behind in
          let indexes : n ≡ index = omega (arith, sums, none) in
          λ i. File (perms i) (files i) (indexes i)
  came_cell (Mapped p o f) shows = absurd (go origin (sym (shows.2 q.space q.prefix own) ∙ there))
    where
      go : (k : Backing) → Some (page.Mapped p o f.number f.body.bytes) ≡ Some (backed k perm 0) → ⊥
      go backing.Zero e = cc
      go (backing.File file index) e = cc
  came_cell (Swapped p o s) shows = absurd (go origin (sym (shows.2 q.space q.prefix own) ∙ there))
    where
      go : (k : Backing) → Some (page.Swapped p o s.number s.body.bytes) ≡ Some (backed k perm 0) → ⊥
      go backing.Zero e = cc
      go (backing.File file index) e = cc

  pub came_word : (cell : Cell) (now : State) (word : ℕ) → Shows st q cell → Spells now cell word → word ≡ 0
  came_word cell now word shows spells = go origin (subst (λ (x : Cell). Spells now x word) (came_cell cell shows) spells)
    where
      go : (o : Backing) → Spells now (came_from o perm) word → word ≡ 0
      go backing.Zero s = s
      go (backing.File file index) s = s

-- ---- an entry

module _ (b : BookData) (ok : IsConsistent (state_of b)) (end : State) (space to count : ℕ) (last : IsLast (state_of b) end space to count) (top : set.contains (state_of b).tables (root (levels (state_of b)) space) ≡ true) (frames slots : List ℕ)
    (in_frames : (q : ℕ) (x : PageCell) (n : ℕ) → within to count q ≡ true → cell_at (state_of b) space q ≡ Some x → frame_of x ≡ Some n → Contains frames q)
    (in_slots : (q : ℕ) (x : PageCell) (n : ℕ) → within to count q ≡ true → cell_at (state_of b) space q ≡ Some x → slot_of x ≡ Some n → Contains slots q)
    (is_old : ℕ → Bool) (none_old : (p : ℕ) → is_old p ≡ false) where
  abbrev now : State
  now = state_of b

  module _ (q : Place) (word : ℕ) (cell : Cell) (e : IsEntryOf b end is_old q word cell) where
    spelled : Spells (state_of b) cell word
    spelled = elim e.spells [
      | inl s ↦ s
      | inr o ↦ absurd (true≢false (sym o.old ∙ none_old q.prefix))
    ]

    whole : (is_table cell ≡ false → (s p : ℕ) → has_page q s p ≡ true → cell_at now s p ≡ cell_at end s p) → IsMovedCell b space frames slots q word cell
    whole same = record { was = cell; shows = shows_same end now q (sym last.same_tables) cell same e.shows; is = inl ((refl, e.kept), spelled) }

    lone_end : (x : Cell) → Shows end q x → is_table x ≡ false → IsNoTable end q
    lone_end Table shows none = absurd (true≢false none)
    lone_end Invalid shows none = shows.0
    lone_end (Anon perm) shows none = shows.0
    lone_end (File perm file index) shows none = shows.0
    lone_end (Mapped perm origin frame) shows none = shows.0
    lone_end (Swapped perm origin slot) shows none = shows.0

    lone_now : is_table cell ≡ false → IsNoTable now q
    lone_now none = ap (λ (t : FinSet place_cmp). set.contains t q) (sym last.same_tables) ∙ lone_end cell e.shows none

    -- a page that is not at the new place, or has no number
    plain_page : (p : ℕ) → (within to count p ≡ true → has_no_number (cell_at now space p) ≡ true) → cell_at now space p ≡ cell_at end space p
    plain_page p plain = sym (last.pages p ∙ go (within to count p) refl)
      where
        go : (t : Bool) → within to count p ≡ t → cond (within to count p) (drawn (cell_at now space p)) (cell_at now space p) ≡ cell_at now space p
        go false f = ap (λ t. cond t (drawn (cell_at now space p)) (cell_at now space p)) f
        go true f = ap (λ t. cond t (drawn (cell_at now space p)) (cell_at now space p)) f ∙ drawn_plain (cell_at now space p) (plain f)

    each_page : ((p : ℕ) → has_page q space p ≡ true → within to count p ≡ true → has_no_number (cell_at now space p) ≡ true) → (s p : ℕ) → has_page q s p ≡ true → cell_at now s p ≡ cell_at end s p
    each_page plain s p has = dite (ℕ_discrete s space)
        (λ here. subst (λ n. cell_at now n p ≡ cell_at end n p) (sym here) (plain_page p (plain p (subst (λ n. has_page q n p ≡ true) here has))))
        (λ ne. sym (last.others s p ne))

    -- ---- one page

    module _ (zero : q.level ≡ 0) where
      low : q.level < 6
      low = omega (arith, zero)

      own_span : (s p : ℕ) → has_page q s p ≡ true → (q.space ≡ s) × (p ≡ q.prefix)
      own_span s p has =
          let i = in_span q s p low has in
          let first : span_first q ≡ q.prefix = ap (λ n. q.prefix * 512 ^ n) zero ∙ mul-one q.prefix in
          let one : span_count q ≡ 1 = ap (λ n. 512 ^ n) zero in
          (i.0, omega (arith, i.1, i.2, first, one))

      no_table : (st : State) → IsConsistent st → IsNoTable st q
      no_table st is = go (set.contains st.tables q) refl
        where
          go : (t : Bool) → set.contains st.tables q ≡ t → IsNoTable st q
          go false f = f
          go true f = absurd (let d = (level_of (levels st) q (is.places q f)).0 in omega (arith, d, zero))

      lone_there : IsNoTable end q
      lone_there = ap (λ (t : FinSet place_cmp). set.contains t q) last.same_tables ∙ no_table now ok

      all_of : (x : PageCell) → cell_at now q.space q.prefix ≡ Some x → (s p : ℕ) → has_page q s p ≡ true → cell_at now s p ≡ Some x
      all_of x at s p has = let o = own_span s p has in subst (λ n. cell_at now s n ≡ Some x) (sym o.1) (subst (λ n. cell_at now n q.prefix ≡ Some x) o.0 at)

      module _ (here : q.space ≡ space) (w : within to count q.prefix ≡ true) where
        in_space : (x : PageCell) → cell_at now space q.prefix ≡ Some x → cell_at now q.space q.prefix ≡ Some x
        in_space x at = subst (λ n. cell_at now n q.prefix ≡ Some x) (sym here) at

        drawn_there : (x : PageCell) → cell_at now space q.prefix ≡ Some x → cell_at end q.space q.prefix ≡ Some (goes_on x 0)
        drawn_there x at = subst (λ n. cell_at end n q.prefix ≡ Some (goes_on x 0)) (sym here) (last.pages q.prefix ∙ (ap (λ t. cond t (drawn (cell_at now space q.prefix)) (cell_at now space q.prefix)) w ∙ ap drawn at))

        plain_here : has_no_number (cell_at now space q.prefix) ≡ true → IsMovedCell b space frames slots q word cell
        plain_here plain = whole (λ none. each_page (λ p has f. subst (λ n. has_no_number (cell_at now space n) ≡ true) (sym (own_span space p has).1) plain))

        by_cell : (o : Option PageCell) → cell_at now space q.prefix ≡ o → IsMovedCell b space frames slots q word cell
        by_cell None at = plain_here (ap has_no_number at)
        by_cell (Some (page.Anon perm)) at = plain_here (ap has_no_number at)
        by_cell (Some (page.File perm file index)) at = plain_here (ap has_no_number at)
        by_cell (Some (page.Mapped perm origin n bytes)) at = record {
          was = Mapped perm origin (record { number = n; body = record { bytes = bytes; own = true } });
          shows = (no_table now ok, zero, all_of (page.Mapped perm origin n bytes) (in_space (page.Mapped perm origin n bytes) at));
          is = inr (
            (came_cell end q zero lone_there origin perm (drawn_there (page.Mapped perm origin n bytes) at) cell e.shows, in_frames q.prefix (page.Mapped perm origin n bytes) n w at refl),
            came_word end q zero lone_there origin perm (drawn_there (page.Mapped perm origin n bytes) at) cell now word e.shows spelled,
            here,
            zero,
          );
        }
        by_cell (Some (page.Swapped perm origin n bytes)) at = record {
          was = Swapped perm origin (record { number = n; body = record { bytes = bytes; own = true } });
          shows = (no_table now ok, zero, all_of (page.Swapped perm origin n bytes) (in_space (page.Swapped perm origin n bytes) at));
          is = inr (
            (came_cell end q zero lone_there origin perm (drawn_there (page.Swapped perm origin n bytes) at) cell e.shows, in_slots q.prefix (page.Swapped perm origin n bytes) n w at refl),
            came_word end q zero lone_there origin perm (drawn_there (page.Swapped perm origin n bytes) at) cell now word e.shows spelled,
            here,
            zero,
          );
        }

      at_page : IsMovedCell b space frames slots q word cell
      at_page = dite (ℕ_discrete q.space space)
          (λ here. go here (within to count q.prefix) refl)
          (λ ne. whole (λ none. each_page (λ p has w. absurd (ne (own_span space p has).0))))
        where
          go : q.space ≡ space → (t : Bool) → within to count q.prefix ≡ t → IsMovedCell b space frames slots q word cell
          go here true w = by_cell here w (cell_at now space q.prefix) refl
          go here false w = whole (λ none. each_page (λ p has f. absurd (true≢false (sym f ∙ (ap (within to count) (own_span space p has).1 ∙ w)))))

    -- ---- many pages, which go on from one another

    high_at : 1 ≤ q.level → q.level < levels now → IsMovedCell b space frames slots q word cell
    high_at some deep = whole (λ none. each_page (λ p has w. go p has (lone_now none) (has_no_number (cell_at now space p)) refl))
      where
        go : (p : ℕ) → has_page q space p ≡ true → IsNoTable now q → (t : Bool) → has_no_number (cell_at now space p) ≡ t → has_no_number (cell_at now space p) ≡ true
        go p has lone true f = f
        go p has lone false f =
            let i = in_span q space p (let few = ok.few_levels in omega (arith, deep, few)) has in
            absurd (true≢false (sym (ok.unlike q some deep (number_unlike (space_at now q.space) (span_first q) (span_count q) p i.1 i.2 (subst (λ n. has_no_number (cell_at now n p) ≡ false) (sym i.0) f))) ∙ lone))

    -- the root of a space
    top_at : (s : ℕ) → q ≡ root (levels now) s → IsMovedCell b space frames slots q word cell
    top_at s is = whole (λ none. each_page (λ p has w. absurd (true≢false (sym (ap (set.contains now.tables) (is ∙ ap (root (levels now)) (own_space p has)) ∙ top) ∙ lone_now none))))
      where
        own_space : (p : ℕ) → has_page q space p ≡ true → s ≡ space
        own_space p has = ap (λ (x : Place). x.space) (sym is) ∙ (in_span q space p (let few = ok.few_levels in let l : q.level ≡ levels now = ap (λ (x : Place). x.level) is in omega (arith, l, few)) has).0

    pub moved_at : ((q.level < levels now) ⊎ ((s : ℕ) × (q ≡ root (levels now) s))) → IsMovedCell b space frames slots q word cell
    moved_at (inl deep) = dite (ℕ_discrete q.level 0) (λ zero. at_page zero) (λ ne. high_at (positive q.level ne) deep)
      where
        positive : (n : ℕ) → (n ≡ 0 → ⊥) → 1 ≤ n
        positive n h = omega arith
    moved_at (inr is) = top_at is.0 is.1

-- ---- its word

module _ (b : BookData) (space : ℕ) (frames slots : List ℕ) (q : Place) (word : ℕ) (cell : Cell) (m : IsMovedCell b space frames slots q word cell) where
  pub sharing_cell : (other : ℕ) → IsSharingCell b space (frames ++ []) (other, []) q word cell
  sharing_cell other = elim m.is [
    | inl w ↦ record { was = m.was; shows = m.shows; is = inl w.0; spells = inl w.1 }
    | inr l ↦ by m.was m.shows l.0 l.1 l.2 l.3
  ]
    where
      by : (was : Cell) → Shows (state_of b) q was → IsLacking frames slots q was cell → word ≡ 0 → q.space ≡ space → q.level ≡ 0 → IsSharingCell b space (frames ++ []) (other, []) q word cell
      by (Mapped perm origin frame) shows l none here zero = record {
        was = Mapped perm origin frame;
        shows = shows;
        is = inr l.0;
        spells = inr (inl (record { low = zero; of_space = here; listed = subst (λ (x : List ℕ). Contains x q.prefix) (sym (append-nil frames)) l.1; no_link = ap is_link none ∙ zero_no_link }));
      }
      by (Swapped perm origin slot) shows l none here zero = record { was = Swapped perm origin slot; shows = shows; is = inr l.0; spells = inl none }
      by Invalid shows l none here zero = absurd l
      by Table shows l none here zero = absurd l
      by (Anon perm) shows l none here zero = absurd l
      by (File perm file index) shows l none here zero = absurd l

-- two cells that show the same are spelled by the same word
module _ (st : State) (q : Place) (word : ℕ) where
  zero_word : (x : Cell) → Shows st q x → Spells st x word → IsNoTable st q → ((perm : Perm) (origin : Backing) (n : ℕ) (bytes : List ℕ) → q.level ≡ 0 → cell_at st q.space q.prefix ≡ Some (page.Mapped perm origin n bytes) → ⊥) → word ≡ 0
  zero_word Table shows s lone never = absurd (true≢false (sym shows ∙ lone))
  zero_word Invalid shows s lone never = s
  zero_word (Anon perm) shows s lone never = s
  zero_word (File perm file index) shows s lone never = s
  zero_word (Mapped perm origin frame) shows s lone never = absurd (never perm origin frame.number frame.body.bytes shows.1 (shows.2 q.space q.prefix (own_page q shows.1)))
  zero_word (Swapped perm origin slot) shows s lone never = s

  some_same : (x y : PageCell) → Some x ≡ Some y → x ≡ y
  some_same x y e = cc

  same_word : (x y : Cell) → Shows st q x → Shows st q y → Spells st x word → Spells st y word
  same_word x Invalid one two s = zero_word x one s two.0 (λ perm origin n bytes zero at. not_none (sym at ∙ two.1 q.space q.prefix (own_page q zero)))
  same_word x (Anon p) one two s = zero_word x one s two.0 (λ perm origin n bytes zero at. never (sym at ∙ two.1 q.space q.prefix (own_page q zero)))
    where
      never : {perm : Perm} {origin : Backing} {n : ℕ} {bytes : List ℕ} → Some (page.Mapped perm origin n bytes) ≡ Some (page.Anon p) → ⊥
      never e = cc
  same_word x (File p f k) one two s = zero_word x one s two.0 (λ perm origin n bytes zero at. never (sym at ∙ two.1 q.space q.prefix (own_page q zero)))
    where
      never : {perm : Perm} {origin : Backing} {n m : ℕ} {bytes : List ℕ} → Some (page.Mapped perm origin n bytes) ≡ Some (page.File p f m) → ⊥
      never e = cc
  same_word x (Swapped p o k) one two s = zero_word x one s two.0 (λ perm origin n bytes zero at. never (sym at ∙ two.2 q.space q.prefix (own_page q zero)))
    where
      never : {perm : Perm} {origin : Backing} {n : ℕ} {bytes : List ℕ} → Some (page.Mapped perm origin n bytes) ≡ Some (page.Swapped p o k.number k.body.bytes) → ⊥
      never e = cc
  same_word Table Table one two s = s
  same_word Invalid Table one two s = absurd (true≢false (sym two ∙ one.0))
  same_word (Anon perm) Table one two s = absurd (true≢false (sym two ∙ one.0))
  same_word (File perm file index) Table one two s = absurd (true≢false (sym two ∙ one.0))
  same_word (Mapped perm origin frame) Table one two s = absurd (true≢false (sym two ∙ one.0))
  same_word (Swapped perm origin slot) Table one two s = absurd (true≢false (sym two ∙ one.0))
  same_word Table (Mapped p o f) one two s = absurd (true≢false (sym one ∙ two.0))
  same_word Invalid (Mapped p o f) one two s = absurd (not_none (sym (two.2 q.space q.prefix (own_page q two.1)) ∙ one.1 q.space q.prefix (own_page q two.1)))
  same_word (Anon perm) (Mapped p o f) one two s = absurd (never (sym (two.2 q.space q.prefix (own_page q two.1)) ∙ one.1 q.space q.prefix (own_page q two.1)))
    where
      never : Some (page.Mapped p o f.number f.body.bytes) ≡ Some (page.Anon perm) → ⊥
      never e = cc
  same_word (File perm file index) (Mapped p o f) one two s = absurd (never (sym (two.2 q.space q.prefix (own_page q two.1)) ∙ one.1 q.space q.prefix (own_page q two.1)))
    where
      never : {m : ℕ} → Some (page.Mapped p o f.number f.body.bytes) ≡ Some (page.File perm file m) → ⊥
      never e = cc
  same_word (Swapped perm origin slot) (Mapped p o f) one two s = absurd (never (sym (two.2 q.space q.prefix (own_page q two.1)) ∙ one.2 q.space q.prefix (own_page q two.1)))
    where
      never : Some (page.Mapped p o f.number f.body.bytes) ≡ Some (page.Swapped perm origin slot.number slot.body.bytes) → ⊥
      never e = cc
  same_word (Mapped perm origin frame) (Mapped p o f) one two s =
      let same = some_same (page.Mapped perm origin frame.number frame.body.bytes) (page.Mapped p o f.number f.body.bytes) (sym (one.2 q.space q.prefix (own_page q one.1)) ∙ two.2 q.space q.prefix (own_page q one.1)) in
      let perms : perm ≡ p = cc in
      let numbers : frame.number ≡ f.number = cc in
      subst (λ x. IsLeafOf st x f.number word) perms (subst (λ n. IsLeafOf st perm n word) numbers s)

-- the word was written since
pub short_cell : (b : BookData) (space other : ℕ) (frames slots : List ℕ) (q : Place) (word now : ℕ) (cell : Cell) → IsMovedCell b space frames slots q word cell → IsSharingCell b space [] (other, []) q now cell → IsShortCell b frames slots q now cell
short_cell b space other frames slots q word now cell m s = record {
  was = m.was;
  shows = m.shows;
  spells = same_word (state_of b) q now s.was m.was s.shows m.shows spelled;
  is = elim m.is [ inl whole ↦ inl whole.0 | inr lacks ↦ inr lacks.0 ];
}
  where
    spelled : Spells (state_of b) s.was now
    spelled = elim s.spells [
      | inl is ↦ is
      | inr old ↦ (elim old [
        | inl one ↦ (let none = one.listed.1 in absurd (omega (arith, none)))
        | inr two ↦ (let none = two.listed.1 in absurd (omega (arith, none)))
      ])
    ]
