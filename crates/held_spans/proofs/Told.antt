-- What the span of a held row's entry says of a state.
--     around      the span of a level that has a page
--     answered      the span of a row's entry tells what stands at its pages
use Rattle.std.specs.Prelude.{◌≡◌, ℕ, ◌+◌, ◌-◌, ◌*◌, ◌/◌, ◌%◌, ◌^◌, ◌<◌, ◌≤◌, true, false, List, slice_get, Option, Some, None}
use Rattle.std.specs.Option.{option_map}
use Rattle.std.specs.List.{Contains}
use Rattle.std.specs.FinSet as set
use Rattle.std.proofs.Common.{sym, refl, ◌∙◌, ap, subst, arith, inl, inr}
use Rattle.std.proofs.Math.Nat.{suc-mul, mul-le-mul_right, div-lt_iff_lt-mul}
use Rattle.std.proofs.Math.Pow.{pow-add}
use Rattle.std.proofs.lemmas.Bool.{false≢true, true≢false}
use Rattle.corten_base.specs.declared.calls.Backing.{Backing}
use Rattle.corten_base.specs.declared.calls.Backing.TheVariants as backing
use Rattle.corten_base.specs.declared.numbers.Status.{Status}
use Rattle.table_place.specs.declared.Place.{Place}
use Rattle.table_place.specs.Place.{place_of, has_page, index_at, span_first, span_count}
use Rattle.table_place.specs.Range.{within}
use Rattle.table_place.proofs.Spans.{span_pos, level_bits, quotient_low, quotient_high}
use Rattle.table_place.proofs.Tables.{in_range}
use Rattle.table_place.proofs.Entries.{span_has_page}
use Rattle.page_map.specs.declared.cell.Cell.{Cell as PageCell}
use Rattle.page_map.specs.Cell.{backing_of, status_of}
use Rattle.page_map.specs.State.{State, levels, cell_at}
use Rattle.page_map.proofs.Owners.{same_some}
use Rattle.row_cells.specs.declared.Cell.{Cell}
use Rattle.row_cells.specs.declared.Cell.TheVariants.{Invalid, Table, Anon, File, Mapped, Swapped}
use Rattle.machine_plan.specs.Agrees.{IsTableOf, Shows, Shown}
use Rattle.machine_plan.specs.HeldRows.{Row, IsAt, is_table}
use Rattle.machine_plan.proofs.Asked.{next_below, has_it, at_index}
use Rattle.machine_plan.proofs.Towers.{table_above}
use Rattle.held_spans.specs.declared.spans.Span.{Span}
use Rattle.held_spans.specs.Spans.{IsAround, status_in, origin_in, Tells, IsSpanIn, further, pages_on, is_there, has_number, EndsWithin, Stands, IsSpanOf, AnswersSpan}

-- ---- the span of a level

ends : (page l : ℕ) → l < 5 → page < 2 ^ 64 → page / 512 ^ l * 512 ^ l + 512 ^ l ≤ 2 ^ 64
ends page l low small =
    let whole : 2 ^ (64 - 9 * l) * 512 ^ l ≡ 2 ^ 64 = ap (λ x. 2 ^ (64 - 9 * l) * x) (level_bits l) ∙ (sym (pow-add 2 (64 - 9 * l) (9 * l)) ∙ ap (λ n. 2 ^ n) (rest l low)) in
    let fits : page / 512 ^ l < 2 ^ (64 - 9 * l) = (div-lt_iff_lt-mul (span_pos l)).1 (subst (λ x. page < x) (sym whole) small) in
    omega (arith, mul-le-mul_right (512 ^ l) fits, suc-mul (page / 512 ^ l) (512 ^ l), whole)
  where
    rest : (l : ℕ) → l < 5 → 64 - 9 * l + 9 * l ≡ 64
    rest l low = omega (arith, low)

pub around : (page l count : ℕ) (what : Status) (origin : Backing) → l < 5 → count ≡ 512 ^ l → page < 2 ^ 64
    → IsAround page (record { first = page / count * count; count = count; level = l; status = what; origin = origin })
around page l count what origin low same small = record {
  low = low;
  count = same;
  first = refl;
  from = subst (λ c. page / c * c ≤ page) (sym same) (quotient_low page l);
  to = subst (λ c. page < page / c * c + c) (sym same) (quotient_high page l);
  ends = subst (λ c. page / c * c + c ≤ 2 ^ 64) (sym same) (ends page l low small);
}

-- ---- one cell

pages_none : (what : Backing) → pages_on what 0 ≡ what
pages_none backing.Zero = refl
pages_none (backing.File file index) = ap (backing.File file) (plain index)
  where
    plain : (n : ℕ) → n + 0 ≡ n
    plain n = omega arith

lone_of : (st : State) (q : Place) (c : Cell) → is_table c ≡ false → Shows st q c → set.contains st.tables q ≡ false
lone_of st q Table plain f = absurd (false≢true (sym plain))
lone_of st q Invalid plain f = f.0
lone_of st q (Anon perm) plain f = f.0
lone_of st q (File perm file index) plain f = f.0
lone_of st q (Mapped perm origin frame) plain f = f.0
lone_of st q (Swapped perm origin slot) plain f = f.0

single_of : (st : State) (q : Place) (c : Cell) → is_table c ≡ false → Shows st q c → has_number (status_in c) ≡ true → q.level ≡ 0
single_of st q Table plain f h = absurd (false≢true (sym plain))
single_of st q Invalid plain f h = absurd (false≢true h)
single_of st q (Anon perm) plain f h = absurd (false≢true h)
single_of st q (File perm file index) plain f h = absurd (false≢true h)
single_of st q (Mapped perm origin frame) plain f h = f.1
single_of st q (Swapped perm origin slot) plain f h = f.1

fits_of : (st : State) (q : Place) (c : Cell) → is_table c ≡ false → Shows st q c → EndsWithin (status_in c) (span_count q)
fits_of st q Table plain f = absurd (false≢true (sym plain))
fits_of st q Invalid plain f = tt
fits_of st q (Anon perm) plain f = tt
fits_of st q (File perm file index) plain f = f.2
fits_of st q (Mapped perm origin frame) plain f = tt
fits_of st q (Swapped perm origin slot) plain f = tt

-- what stands at a page, by the cell
record StandsBy (c : Cell) (i : ℕ) (cell : Option PageCell) : Type 0 where
  status : status_of cell ≡ further (status_in c) i
  origin : is_there (status_in c) ≡ true → option_map backing_of cell ≡ Some (pages_on (origin_in c) i)

alone_at : (q : Place) (n : ℕ) → q.level ≡ 0 → n - span_first q < span_count q → n - span_first q ≡ 0
alone_at q n low small = omega (arith, small, ap (λ l. 512 ^ l) low, one)
  where
    one : 512 ^ 0 ≡ 1
    one = refl

stands_by : (st : State) (q : Place) (c : Cell) (s n : ℕ) → is_table c ≡ false → Shows st q c → n - span_first q < span_count q → has_page q s n ≡ true → StandsBy c (n - span_first q) (cell_at st s n)
stands_by st q Table s n plain f small has = absurd (false≢true (sym plain))
stands_by st q Invalid s n plain f small has = record { status = ap status_of (f.1 s n has); origin = λ h. absurd (false≢true h) }
stands_by st q (Anon perm) s n plain f small has = record { status = ap status_of (f.1 s n has); origin = λ h. ap (option_map backing_of) (f.1 s n has) }
stands_by st q (File perm file index) s n plain f small has = record { status = ap status_of (f.1 s n has); origin = λ h. ap (option_map backing_of) (f.1 s n has) }
stands_by st q (Mapped perm origin frame) s n plain f small has = record {
  status = ap status_of (f.2 s n has);
  origin = λ h. ap (option_map backing_of) (f.2 s n has) ∙ ap Some (sym (ap (pages_on origin) (alone_at q n f.1 small) ∙ pages_none origin));
}
stands_by st q (Swapped perm origin slot) s n plain f small has = record {
  status = ap status_of (f.2 s n has);
  origin = λ h. ap (option_map backing_of) (f.2 s n has) ∙ ap Some (sym (ap (pages_on origin) (alone_at q n f.1 small) ∙ pages_none origin));
}

-- ---- the span of a row's entry

module _ (st : State) (space page : ℕ) (h : Row) (s : Span) (is : IsSpanIn h page s) (same : h.place.space ≡ space) (shown : Shown st h.place h.content) where
  abbrev q : Place
  q = place_of space s.level page

  level_is : h.place.level - 1 ≡ s.level
  level_is = let up = is.level in omega (arith, up)

  there : Shows st q is.at.cell
  there = subst (λ x. Shows st x is.at.cell)
      (next_below (levels st) h.place h.place.space page is.at.deep is.at.low is.at.has ∙ (λ i. place_of (same i) (level_is i) page))
      (shown.each (index_at h.place.level page) is.at.cell (small h.place.level page) is.at.there)
    where
      small : (k n : ℕ) → index_at k n < 512
      small k n = omega arith

  first_is : span_first q ≡ s.first
  first_is = ap (λ c. page / c * c) (sym is.around.count) ∙ sym is.around.first

  low : q.level < 6
  low = let few = is.around.low in omega (arith, few)

  in_span : (n : ℕ) → within s.first s.count n ≡ true → within (span_first q) (span_count q) n ≡ true
  in_span n w = subst (λ x. within x (span_count q) n ≡ true) (sym first_is) (subst (λ x. within s.first x n ≡ true) is.around.count w)

  stands : (n : ℕ) → within s.first s.count n ≡ true → Stands s (n - s.first) (cell_at st space n)
  stands n w =
      let range = in_range (span_first q) (span_count q) n (in_span n w) in
      let by = stands_by st q is.at.cell space n is.at.no_link there (omega (arith, range.0, range.1)) (span_has_page q space n low refl (in_span n w)) in
      let move : StandsBy is.at.cell (n - s.first) (cell_at st space n) = subst (λ x. StandsBy is.at.cell (n - x) (cell_at st space n)) first_is by in
      record {
        status = move.status ∙ ap (λ x. further x (n - s.first)) (sym is.same_status);
        origin = λ h. move.origin (ap is_there (sym is.same_status) ∙ h) ∙ ap (λ x. Some (pages_on x (n - s.first))) (sym is.same_origin);
      }

  has_table : set.contains st.tables (place_of space (s.level + 1) page) ≡ true
  has_table = subst (λ x. set.contains st.tables x ≡ true) (table_above h.place h.place.space page is.at.low is.at.has ∙ (λ i. place_of (same i) (sym is.level i) page)) (go shown.table)
    where
      go : IsTableOf st h.place → set.contains st.tables h.place ≡ true
      go (inl top) = absurd (high (ap (λ (x : Place). x.level) top) is.at.low)
        where
          high : {n : ℕ} → n ≡ 6 → n < 6 → ⊥
          high e l = omega (arith, e, l)
      go (inr there) = there

  pub span_of : IsSpanOf st space page s
  span_of = record {
    table = has_table;
    lone = lone_of st q is.at.cell is.at.no_link there;
    each = stands;
    single = λ h. single_of st q is.at.cell is.at.no_link there (ap has_number (sym is.same_status) ∙ h);
    fits = subst (λ x. EndsWithin x s.count) (sym is.same_status) (subst (λ n. EndsWithin (status_in is.at.cell) n) (sym is.around.count) (fits_of st q is.at.cell is.at.no_link there));
  }

pub answered : (rows : List Row) (h : Row) (page : ℕ) (s : Span) → Contains rows h → IsSpanIn h page s → AnswersSpan rows page s
answered rows h page s held is space st asked shown = span_of st space page h s is (asked.of_space h held is.at.low) (shown h held)

-- a list of which no row has the page below an entry that is no link is asked of no page
pub unasked : (rows : List Row) (page : ℕ) (s : Span) → ((h : Row) → Contains rows h → ¬ IsAt h page) → AnswersSpan rows page s
unasked rows page s none space st asked shown = absurd (none asked.row asked.held asked.at)

-- ---- the row's entry that a look-up reads

module _ (h : Row) (n d : ℕ) (deep : 1 ≤ h.place.level) (low : h.place.level < 6) (same : n / 512 ^ h.place.level ≡ h.place.prefix) (width : d ≡ 512 ^ (h.place.level - 1)) where
  pub no_entry : (c : Cell) → slice_get h.content (n / d % 512) ≡ Some c → Tells c None → ¬ IsAt h n
  no_entry c at told = λ found. true≢false (sym told ∙ (ap is_table (same_some (sym (at_index h n d deep low same width c at) ∙ found.there)) ∙ found.no_link))

  pub entry : (c : Cell) (answer : Status × Backing) → slice_get h.content (n / d % 512) ≡ Some c → Tells c (Some answer) → n < 2 ^ 64
      → IsSpanIn h n (record { first = n / d * d; count = d; level = h.place.level - 1; status = answer.0; origin = answer.1 })
  entry c answer at told small = record {
    at = record { deep = deep; low = low; has = has_it h n d deep low same width; cell = c; there = at_index h n d deep low same width c at; no_link = told.0 };
    around = around n (h.place.level - 1) d answer.0 answer.1 (omega (arith, deep, low)) width small;
    level = omega (arith, deep);
    same_status = told.1;
    same_origin = told.2;
  }
