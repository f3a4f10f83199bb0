-- Cells where the book's tables get one more.
--     now_there, still_there, came_there, not_there      the tables of a set with one more
--     one_fewer, some_left, none_left      as many are missing
--     shows_more      a cell at another position says what it said
--     IsMark, is_mark      what stands at a position of no table
--     spread_shows      a mark says of each entry of the table what it said of the span
use Rattle.std.specs.Prelude.{◌≡◌, ℕ, ◌+◌, ◌-◌, ◌*◌, ◌^◌, ◌<◌, ◌≤◌, ◌⊎◌, ◌&&◌, ◌||◌, not, Bool, true, false, cond, Some}
use Rattle.std.specs.FinSet as set
use Rattle.std.specs.FinSet.{contains-insert, contains-difference, contains-empty, len-insert, len-empty, same_set}
use Rattle.std.specs.Cmp.{tied_itself}
use Rattle.std.specs.Ordering.{is_eq, eq_by_cmp}
use Rattle.std.proofs.Common.{sym, refl, ◌∙◌, ap, subst, arith, inl, inr}
use Rattle.std.proofs.lemmas.Bool.{true≢false}
use Rattle.std.proofs.Math.Nat.{add-mul, mul_assoc, mul_comm, mul_left_comm, mul-le-mul_right}
use Rattle.page_map.specs.declared.cell.Cell.TheVariants as page
use Rattle.page_map.specs.State.{State}
use Rattle.page_map.specs.Tables.{Tables}
use Rattle.page_map.proofs.Places.{place_total, place_exact}
use Rattle.page_map.proofs.Evaluate.{tied}
use Rattle.row_cells.specs.declared.Cell.{Cell}
use Rattle.row_cells.specs.declared.Cell.TheVariants.{Invalid, Table, Anon, File, Mapped, Swapped}
use Rattle.table_place.specs.declared.Place.{Place}
use Rattle.table_place.specs.Place.{place_cmp, has_page, span_first, span_count}
use Rattle.table_place.proofs.Spans.{span_up}
use Rattle.table_place.proofs.Tables.{in_range}
use Rattle.table_place.proofs.Entries.{page_in_span, below_is}
use Rattle.machine_plan.specs.Agrees.{below, Shows, Spells}
use Rattle.machine_plan.proofs.Near.{page_up}
use Rattle.cursor_detach.specs.Left.{drawn_cell}
use Rattle.cursor_apply.specs.Linking.{spread_cell, FitsIn}
use Rattle.cursor_apply.specs.Staging.{with_tables}

-- ---- sets of tables

module _ (ts : Tables) (q : Place) where
  abbrev more : Tables
  more = set.insert ts q

  pub now_there : set.contains (set.insert ts q) q ≡ true
  now_there = contains-insert place_total ts q q ∙ ap (λ o. is_eq o || set.contains ts q) (tied_itself place_total q)

  pub still_there : (z : Place) → set.contains ts z ≡ true → set.contains (set.insert ts q) z ≡ true
  still_there z h = contains-insert place_total ts q z ∙ (ap (λ b. eq_by_cmp place_cmp z q || b) h ∙ go (eq_by_cmp place_cmp z q))
    where
      go : (b : Bool) → (b || true) ≡ true
      go true = refl
      go false = refl

  pub came_there : (z : Place) → set.contains (set.insert ts q) z ≡ true → (z ≡ q) ⊎ (set.contains ts z ≡ true)
  came_there z h = go (eq_by_cmp place_cmp z q) refl (sym (contains-insert place_total ts q z) ∙ h)
    where
      go : (b : Bool) → eq_by_cmp place_cmp z q ≡ b → (b || set.contains ts z) ≡ true → (z ≡ q) ⊎ (set.contains ts z ≡ true)
      go true e h = inl (tied place_total place_exact z q e)
      go false e h = inr h

  pub not_there : (z : Place) → (z ≡ q → ⊥) → set.contains ts z ≡ false → set.contains (set.insert ts q) z ≡ false
  not_there z other h = go (set.contains (set.insert ts q) z) refl
    where
      go : (b : Bool) → set.contains (set.insert ts q) z ≡ b → set.contains (set.insert ts q) z ≡ false
      go false e = e
      go true e = elim (came_there z e) [
        | inl same ↦ absurd (other same)
        | inr there ↦ absurd (true≢false (sym there ∙ h))
      ]

  -- one table less is missing
  pub one_fewer : (all : Tables) → set.contains all q ≡ true → set.contains ts q ≡ false → set.len (set.difference all (set.insert ts q)) + 1 ≡ set.len (set.difference all ts)
  one_fewer all wanted new =
      sym (ap set.len is ∙ (len-insert place_total (set.difference all (set.insert ts q)) q ∙ ap (λ b. cond b (set.len (set.difference all (set.insert ts q))) (set.len (set.difference all (set.insert ts q)) + 1)) not_missing))
    where
      not_missing : set.contains (set.difference all (set.insert ts q)) q ≡ false
      not_missing = contains-difference place_total all (set.insert ts q) q ∙ (ap (λ b. set.contains all q && not b) now_there ∙ ap (λ b. b && false) wanted)

      by : (a e t : Bool) → (e ≡ true → (a ≡ true) × (t ≡ false)) → (a && not t) ≡ (e || (a && not (e || t)))
      by a true t h = ap (λ b. b && not t) (h refl).0 ∙ ap not (h refl).1
      by a false t h = refl

      same : (z : Place) → set.contains (set.difference all ts) z ≡ set.contains (set.insert (set.difference all (set.insert ts q)) q) z
      same z =
          contains-difference place_total all ts z
          ∙ (by (set.contains all z) (eq_by_cmp place_cmp z q) (set.contains ts z) (λ e. let at = tied place_total place_exact z q e in (ap (set.contains all) at ∙ wanted, ap (set.contains ts) at ∙ new))
          ∙ sym (contains-insert place_total (set.difference all (set.insert ts q)) q z
          ∙ ap (λ b. eq_by_cmp place_cmp z q || b) (contains-difference place_total all (set.insert ts q) z ∙ ap (λ b. set.contains all z && not b) (contains-insert place_total ts q z))))

      is : set.difference all ts ≡ set.insert (set.difference all (set.insert ts q)) q
      is = same_set place_total place_exact (set.difference all ts) (set.insert (set.difference all (set.insert ts q)) q) same

pub none_left : (all ts : Tables) → ((z : Place) → set.contains all z ≡ true → set.contains ts z ≡ true) → set.len (set.difference all ts) ≡ 0
none_left all ts each = ap set.len is ∙ len-empty place_cmp
  where
    go : (z : Place) (b : Bool) → set.contains all z ≡ b → (set.contains all z && not (set.contains ts z)) ≡ false
    go z true e = ap (λ t. set.contains all z && not t) (each z e) ∙ ap (λ b. b && false) e
    go z false e = ap (λ b. b && not (set.contains ts z)) e

    is : set.difference all ts ≡ set.empty
    is = same_set place_total place_exact (set.difference all ts) set.empty (λ z. contains-difference place_total all ts z ∙ (go z (set.contains all z) refl ∙ sym (contains-empty place_cmp z)))

-- ---- cells

module _ (st : State) (ts : Tables) (q : Place) where
  pub shows_more : (z : Place) (cell : Cell) → (z ≡ q → ⊥) → Shows (with_tables st ts) z cell → Shows (with_tables st (set.insert ts q)) z cell
  shows_more z Table other s = still_there ts q z s
  shows_more z Invalid other s = (not_there ts q z other s.0, s.1)
  shows_more z (Anon perm) other s = (not_there ts q z other s.0, s.1)
  shows_more z (File perm file first) other s = (not_there ts q z other s.0, s.1, s.2)
  shows_more z (Mapped perm origin frame) other s = (not_there ts q z other s.0, s.1, s.2)
  shows_more z (Swapped perm origin slot) other s = (not_there ts q z other s.0, s.1, s.2)

-- what stands at an entry above a position of no table that is no page: nothing, or a mark
pub record IsMark (st : State) (ts : Tables) (q : Place) (word : ℕ) (cell : Cell) : Type 0 where
  pub shows : Shows (with_tables st ts) q cell
  pub drawn : drawn_cell cell ≡ cell
  pub none : word ≡ 0
  pub new : set.contains ts q ≡ false
  pub fits : FitsIn cell (span_count q)

pub is_mark : (st : State) (ts : Tables) (q : Place) (word : ℕ) (was cell : Cell) (taken : Bool) → 1 ≤ q.level → set.contains ts q ≡ false → Shows (with_tables st ts) q was → Spells st was word → cell ≡ cond taken (drawn_cell was) was → IsMark st ts q word cell
is_mark st ts q word was cell taken deep new shows spells is = go was shows spells is
  where
    same : (was : Cell) (taken : Bool) → drawn_cell was ≡ was → cell ≡ cond taken (drawn_cell was) was → was ≡ cell
    same was true drawn is = sym (is ∙ drawn)
    same was false drawn is = sym is

    mark : (was : Cell) → Shows (with_tables st ts) q was → drawn_cell was ≡ was → word ≡ 0 → FitsIn was (span_count q) → cell ≡ cond taken (drawn_cell was) was → IsMark st ts q word cell
    mark was shows drawn none fits is = subst (IsMark st ts q word) (same was taken drawn is) (record { shows = shows; drawn = drawn; none = none; new = new; fits = fits })

    go : (was : Cell) → Shows (with_tables st ts) q was → Spells st was word → cell ≡ cond taken (drawn_cell was) was → IsMark st ts q word cell
    go Table s spells is = absurd (true≢false (sym s ∙ new))
    go Invalid s spells is = mark Invalid s refl spells tt is
    go (Anon perm) s spells is = mark (Anon perm) s refl spells tt is
    go (File perm file first) s spells is = mark (File perm file first) s refl spells s.2 is
    go (Mapped perm origin frame) s spells is = let low = s.1 in absurd (omega (arith, low, deep))
    go (Swapped perm origin slot) s spells is = let low = s.1 in absurd (omega (arith, low, deep))

-- ---- a mark at each entry of the table that comes

module _ (st : State) (ts : Tables) (L : ℕ) (q : Place) (i : ℕ) (deep : 1 ≤ q.level) (high : q.level < 6) (inside : i < 512) where
  abbrev entry : Place
  entry = below L q i

  abbrev pages : ℕ
  pages = 512 ^ (q.level - 1)

  is_below : entry ≡ record { space = q.space; level = q.level - 1; prefix = 512 * q.prefix + i }
  is_below = below_is L q i high

  entry_level : entry.level ≡ q.level - 1
  entry_level = ap (λ (p : Place). p.level) is_below

  entry_prefix : entry.prefix ≡ 512 * q.prefix + i
  entry_prefix = ap (λ (p : Place). p.prefix) is_below

  entry_first : span_first entry ≡ span_first q + i * pages
  entry_first =
      (λ k. entry_prefix k * 512 ^ entry_level k)
      ∙ (distributed q.prefix i pages ∙ (λ k. q.prefix * sym up k + i * pages))
    where
      up : 512 ^ q.level ≡ pages * 512
      up = let same : q.level ≡ q.level - 1 + 1 = omega (arith, deep) in ap (λ k. 512 ^ k) same ∙ span_up (q.level - 1)

      distributed : (a b c : ℕ) → (512 * a + b) * c ≡ a * (c * 512) + b * c
      distributed a b c = add-mul (512 * a) b c ∙ ap (λ k. k + b * c) (moved a c)
        where
          moved : (a c : ℕ) → 512 * a * c ≡ a * (c * 512)
          moved a c = mul_assoc 512 a c ∙ (mul_left_comm 512 a c ∙ ap (λ k. a * k) (mul_comm 512 c))

  entry_count : span_count entry ≡ pages
  entry_count = ap (λ k. 512 ^ k) entry_level

  entry_low : entry.level < 6
  entry_low = let e = entry_level in omega (arith, e, high)

  -- how far a page is behind the first one of the table
  further : (s n : ℕ) → has_page entry s n ≡ true → n - span_first q ≡ i * pages + (n - span_first entry)
  further s n h = let at = (in_range (span_first entry) (span_count entry) n (page_in_span entry s n entry_low h)).0 in let e = entry_first in
      farther n (span_first q) (i * pages) (span_first entry) at e
    where
      farther : (n a b c : ℕ) → c ≤ n → c ≡ a + b → n - a ≡ b + (n - c)
      farther n a b c at e = omega (arith, at, e)

  has_up : (s n : ℕ) → has_page entry s n ≡ true → has_page q s n ≡ true
  has_up s n h = page_up L q i s n deep high inside h

  file_in : (first : ℕ) → first + span_count q ≤ 2 ^ 64 → first + i * pages + span_count entry ≤ 2 ^ 64
  file_in first fits =
      let same : q.level ≡ q.level - 1 + 1 = omega (arith, deep) in
      let up : 512 ^ q.level ≡ pages * 512 = ap (λ k. 512 ^ k) same ∙ span_up (q.level - 1) in
      subst (λ k. first + i * pages + k ≤ 2 ^ 64) (sym entry_count) (less first (512 ^ q.level) pages (2 ^ 64) fits up)
    where
      less : (first all one most : ℕ) → first + all ≤ most → all ≡ one * 512 → first + i * one + one ≤ most
      less first all one most fits e =
          let many : (i + 1) * one ≤ 512 * one = mul-le-mul_right one (omega (arith, inside)) in
          let each = add-mul i 1 one in
          omega (arith, fits, e, many, each)

  pub spread_shows : (word : ℕ) (mark : Cell) → IsMark st ts q word mark → set.contains (set.insert ts q) (below L q i) ≡ false → Shows (with_tables st (set.insert ts q)) (below L q i) (spread_cell mark (512 ^ (q.level - 1)) i)
  spread_shows word mark is new = go mark is.shows
    where
      go : (mark : Cell) → Shows (with_tables st ts) q mark → Shows (with_tables st (set.insert ts q)) entry (spread_cell mark pages i)
      go Invalid s = (new, λ sp n h. s.1 sp n (has_up sp n h))
      go (Anon perm) s = (new, λ sp n h. s.1 sp n (has_up sp n h))
      go (File perm file first) s = (
        new,
        λ sp n h. s.1 sp n (has_up sp n h) ∙ ap (λ k. Some (page.File perm file k)) (ap (λ k. first + k) (further sp n h) ∙ regroup first (i * pages) (n - span_first entry)),
        file_in first s.2,
      )
        where
          regroup : (a b c : ℕ) → a + (b + c) ≡ a + b + c
          regroup a b c = omega arith
      go Table s = absurd (true≢false (sym s ∙ is.new))
      go (Mapped perm origin frame) s = let low = s.1 in absurd (omega (arith, low, deep))
      go (Swapped perm origin slot) s = let low = s.1 in absurd (omega (arith, low, deep))
