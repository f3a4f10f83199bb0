-- Pages that go on from one another, one span behind another.
--     status_here      what a call says of a page of a span
--     IsGrown, Grown      a run as far as it has come, in a state, and in each state of which the rows are
--     starts, grows      the run of a page's span;  a span more that goes on from it
--     stopped, ended      a run before a page that does not go on from it;  a run up to the end of the range
use Rattle.std.specs.Prelude.{◌≡◌, ℕ, ◌+◌, ◌-◌, ◌^◌, ◌<◌, ◌≤◌, Bool, true, false, List, Option, Some, None}
use Rattle.std.specs.Option.{option_map}
use Rattle.std.specs.FinMap as fin
use Rattle.std.proofs.Common.{sym, refl, ◌∙◌, ap, subst, arith, inl, inr}
use Rattle.std.proofs.Math.Nat.{mod-eq_of_lt}
use Rattle.std.proofs.lemmas.Bool.{cases_lt, true≢false, false≢true, false_from_ne_true}
use Rattle.corten_base.specs.declared.calls.Backing.{Backing}
use Rattle.corten_base.specs.declared.calls.Backing.TheVariants as backing
use Rattle.corten_base.specs.declared.numbers.Status.{Status}
use Rattle.corten_base.specs.declared.numbers.Status.TheVariants as status
use Rattle.table_place.proofs.Tables.{to_range}
use Rattle.page_map.specs.declared.cell.Cell.{Cell as PageCell}
use Rattle.page_map.specs.declared.cell.Cell.TheVariants.{Anon, File, Mapped, Swapped}
use Rattle.page_map.specs.Alike.{continues}
use Rattle.page_map.specs.Cell.{backing_of, status_of}
use Rattle.page_map.specs.State.{State, AddressSpace, space_at, cell_at}
use Rattle.page_map.proofs.Alike.{has_no_number, onward, continues_is, continues_unnumbered}
use Rattle.machine_plan.specs.HeldRows.{Row, RowsShown, AreAsked}
use Rattle.held_spans.specs.declared.runs.Run.{Run}
use Rattle.held_spans.specs.declared.spans.Span.{Span}
use Rattle.held_spans.specs.Spans.{IsAround, AnswersSpan, IsSpanOf, StandsAs, EndsWithin, further, pages_on, is_there, has_number, wrapped, base_of}
use Rattle.held_spans.specs.Runs.{IsNext, AnswersRun}

-- ---- what stands further on

further_twice : (s : Status) (i j : ℕ) → further (further s i) j ≡ further s (i + j)
further_twice status.Invalid i j = refl
further_twice (status.Anon perm) i j = refl
further_twice (status.File perm file index) i j = ap (status.File perm file) (grouped index)
  where
    grouped : (n : ℕ) → n + i + j ≡ n + (i + j)
    grouped n = omega arith
further_twice (status.Mapped perm frame) i j = refl
further_twice (status.Swapped perm slot) i j = refl

there_on : (s : Status) (i : ℕ) → is_there (further s i) ≡ is_there s
there_on status.Invalid i = refl
there_on (status.Anon perm) i = refl
there_on (status.File perm file index) i = refl
there_on (status.Mapped perm frame) i = refl
there_on (status.Swapped perm slot) i = refl

number_on : (s : Status) (i : ℕ) → has_number (further s i) ≡ has_number s
number_on status.Invalid i = refl
number_on (status.Anon perm) i = refl
number_on (status.File perm file index) i = refl
number_on (status.Mapped perm frame) i = refl
number_on (status.Swapped perm slot) i = refl

wrapped_is : (s : Status) (i count : ℕ) → EndsWithin s count → i < count → wrapped s i ≡ further s i
wrapped_is status.Invalid i count fits low = refl
wrapped_is (status.Anon perm) i count fits low = refl
wrapped_is (status.File perm file index) i count fits low = ap (status.File perm file) (mod-eq_of_lt (below_end index i count (2 ^ 64) low fits))
  where
    below_end : (a i n top : ℕ) → i < n → a + n ≤ top → a + i < top
    below_end a i n top low fits = omega (arith, low, fits)
wrapped_is (status.Mapped perm frame) i count fits low = refl
wrapped_is (status.Swapped perm slot) i count fits low = refl

-- what a page without a number came from shows in what stands there
by_status : (s : Status) (origin : Backing) (i : ℕ) (cell : Option PageCell) → has_number s ≡ false → is_there s ≡ true → status_of cell ≡ further s i → option_map backing_of cell ≡ Some (pages_on (base_of s origin) i)
by_status status.Invalid origin i cell plain there is = absurd (false≢true there)
by_status (status.Anon perm) origin i None plain there is = absurd (cc)
by_status (status.Anon perm) origin i (Some (Anon other)) plain there is = refl
by_status (status.Anon perm) origin i (Some (File other file index)) plain there is = absurd (cc)
by_status (status.Anon perm) origin i (Some (Mapped other base frame bytes)) plain there is = absurd (cc)
by_status (status.Anon perm) origin i (Some (Swapped other base slot bytes)) plain there is = absurd (cc)
by_status (status.File perm file index) origin i None plain there is = absurd (cc)
by_status (status.File perm file index) origin i (Some (Anon other)) plain there is = absurd (cc)
by_status (status.File perm file index) origin i (Some (File other new at)) plain there is = ap Some (file_of is)
  where
    file_of : status.File other new at ≡ status.File perm file (index + i) → backing.File new at ≡ backing.File file (index + i)
    file_of e = cc
by_status (status.File perm file index) origin i (Some (Mapped other base frame bytes)) plain there is = absurd (cc)
by_status (status.File perm file index) origin i (Some (Swapped other base slot bytes)) plain there is = absurd (cc)
by_status (status.Mapped perm frame) origin i cell plain there is = absurd (true≢false plain)
by_status (status.Swapped perm slot) origin i cell plain there is = absurd (true≢false plain)

base_twice : (s : Status) (origin : Backing) → base_of s (base_of s origin) ≡ base_of s origin
base_twice status.Invalid origin = refl
base_twice (status.Anon perm) origin = refl
base_twice (status.File perm file index) origin = refl
base_twice (status.Mapped perm frame) origin = refl
base_twice (status.Swapped perm slot) origin = refl

plain_status : (a : Option PageCell) → has_no_number a ≡ true → has_number (status_of a) ≡ false
plain_status None h = refl
plain_status (Some (Anon perm)) h = refl
plain_status (Some (File perm file index)) h = refl
plain_status (Some (Mapped perm base frame bytes)) h = absurd (false≢true h)
plain_status (Some (Swapped perm base slot bytes)) h = absurd (false≢true h)

status_onward : (a : Option PageCell) (i : ℕ) → has_no_number a ≡ true → status_of (onward i a) ≡ further (status_of a) i
status_onward None i h = refl
status_onward (Some (Anon perm)) i h = refl
status_onward (Some (File perm file index)) i h = refl
status_onward (Some (Mapped perm base frame bytes)) i h = absurd (false≢true h)
status_onward (Some (Swapped perm base slot bytes)) i h = absurd (false≢true h)

-- ---- the page of a span

module _ (st : State) (space page : ℕ) (s : Span) (is : IsSpanOf st space page s) (around : IsAround page s) where
  offset : page - s.first < s.count
  offset = let a = around.from in let b = around.to in omega (arith, a, b)

  pub status_here : wrapped s.status (page - s.first) ≡ further s.status (page - s.first)
  status_here = wrapped_is s.status (page - s.first) s.count is.fits offset

  -- each page from this one on, as it goes on from this one
  onward_here : (i : ℕ) → page + i < s.first + s.count → status_of (cell_at st space (page + i)) ≡ further (wrapped s.status (page - s.first)) i
  onward_here i high =
      let a = around.from in
      (is.each (page + i) (to_range s.first s.count (page + i) (omega (arith, a)) high)).status
      ∙ ap (further s.status) (split page i s.first a) ∙ sym (further_twice s.status (page - s.first) i) ∙ ap (λ x. further x i) (sym status_here)
    where
      split : (p i f : ℕ) → f ≤ p → p + i - f ≡ p - f + i
      split p i f low = omega (arith, low)

  pub this_one : status_of (cell_at st space page) ≡ wrapped s.status (page - s.first)
  this_one = (is.each page (let a = around.from in let b = around.to in to_range s.first s.count page a b)).status ∙ sym status_here

  -- a page with a frame or a slot is the span
  alone : has_number (wrapped s.status (page - s.first)) ≡ true → (s.count ≡ 1) × (page ≡ s.first)
  alone h =
      let level = is.single (sym (number_on s.status (page - s.first)) ∙ (ap has_number (sym status_here) ∙ h)) in
      let count : s.count ≡ 1 = around.count ∙ ap (λ l. 512 ^ l) level in
      let a = around.from in let b = around.to in (count, omega (arith, a, b, count))

pub record IsGrown (cells : AddressSpace) (page : ℕ) (r : Run) : Type 0 where
  pub single : has_number r.status ≡ true → r.count ≡ 1
  pub base : base_of r.status r.origin ≡ r.origin
  pub each : (i : ℕ) → i < r.count → StandsAs r.status r.origin i (fin.get cells (page + i))

abbrev pub longer : Run → ℕ → Run
longer r n = record { count = r.count + n; status = r.status; origin = r.origin }

module _ (rows : List Row) (page end : ℕ) where
  abbrev pub Grown : Run → Type 0
  Grown r = (space : ℕ) (st : State) → AreAsked space rows page (end - page) → RowsShown st rows → IsGrown (space_at st space) page r

  -- the page's own span
  pub starts : (s : Span) (n : ℕ) → page < end → IsAround page s → AnswersSpan rows page s → 1 ≤ n → page + n ≤ s.first + s.count
      → Grown (record { count = n; status = wrapped s.status (page - s.first); origin = base_of (wrapped s.status (page - s.first)) s.origin })
  starts s n inside around answers some fits space st asked shown = record {
    single = λ h. let one = alone st space page s is around h in one_of one.0 one.1;
    base = base_twice (wrapped s.status (page - s.first)) s.origin;
    each = λ i low. record { status = onward_here st space page s is around i (omega (arith, low, fits)); origin = came i low };
  }
    where
      is : IsSpanOf st space page s
      is = answers space st (asked page (to_range page (end - page) page (omega arith) (omega (arith, inside)))) shown

      one_of : s.count ≡ 1 → page ≡ s.first → n ≡ 1
      one_of c f = omega (arith, c, f, some, fits)

      came : (i : ℕ) → i < n → is_there (wrapped s.status (page - s.first)) ≡ true → option_map backing_of (cell_at st space (page + i)) ≡ Some (pages_on (base_of (wrapped s.status (page - s.first)) s.origin) i)
      came i low there = go (has_number (wrapped s.status (page - s.first))) refl
        where
          numbered : (x : Status) → has_number x ≡ true → base_of x s.origin ≡ s.origin
          numbered status.Invalid h = absurd (false≢true h)
          numbered (status.Anon perm) h = absurd (false≢true h)
          numbered (status.File perm file index) h = absurd (false≢true h)
          numbered (status.Mapped perm frame) h = refl
          numbered (status.Swapped perm slot) h = refl

          first : (p i f c : ℕ) → c ≡ 1 → p ≡ f → i < n → p + n ≤ f + c → p + i - f ≡ i
          first p i f c one same low fits = omega (arith, one, same, low, fits)

          go : (b : Bool) → has_number (wrapped s.status (page - s.first)) ≡ b → option_map backing_of (cell_at st space (page + i)) ≡ Some (pages_on (base_of (wrapped s.status (page - s.first)) s.origin) i)
          go false h = by_status (wrapped s.status (page - s.first)) s.origin i (cell_at st space (page + i)) h there (onward_here st space page s is around i (omega (arith, low, fits)))
          go true h =
              let one = alone st space page s is around h in
              let a = around.from in
              (is.each (page + i) (to_range s.first s.count (page + i) (omega (arith, a)) (omega (arith, low, fits)))).origin (sym (there_on s.status (page - s.first)) ∙ (ap is_there (sym (status_here st space page s is around)) ∙ there))
              ∙ ap (λ x. Some (pages_on s.origin x)) (first page i s.first s.count one.0 one.1 low fits) ∙ ap (λ x. Some (pages_on x i)) (sym (numbered (wrapped s.status (page - s.first)) h))

  pub starts_as : (s : Span) (n : ℕ) (what : Status) (base : Backing) → what ≡ wrapped s.status (page - s.first) → base ≡ base_of (wrapped s.status (page - s.first)) s.origin
      → page < end → IsAround page s → AnswersSpan rows page s → 1 ≤ n → page + n ≤ s.first + s.count → Grown (record { count = n; status = what; origin = base })
  starts_as s n what base is from inside around answers some fits =
      let there = starts s n inside around answers some fits in
      subst Grown (λ i. record { count = n; status = sym is i; origin = sym from i }) there

  module _ (r : Run) (grown : Grown r) (some : 1 ≤ r.count) (inside : page + r.count < end) (more : Span) (around : IsAround (page + r.count) more) (answers : AnswersSpan rows (page + r.count) more) where
    abbrev next : ℕ
    next = page + r.count

    abbrev then_is : Status
    then_is = wrapped more.status (next - more.first)

    span_is : (space : ℕ) (st : State) → AreAsked space rows page (end - page) → RowsShown st rows → IsSpanOf st space next more
    span_is space st asked shown = answers space st (asked next (to_range page (end - page) next (omega arith) (omega (arith, inside)))) shown

    pub grows : (n : ℕ) → IsNext r.status r.count then_is → next + n ≤ more.first + more.count → Grown (longer r n)
    grows n goes fits space st asked shown = record {
      single = λ h. absurd (true≢false (sym h ∙ goes.0));
      base = was.base;
      each = λ i low. elim (cases_lt i r.count) [
        | inl old ↦ was.each i old
        | inr new ↦ record { status = status_at i low new; origin = λ there. by_status r.status r.origin i (cell_at st space (page + i)) goes.0 there (status_at i low new) ∙ ap (λ x. Some (pages_on x i)) was.base }
      ];
    }
      where
        was : IsGrown (space_at st space) page r
        was = grown space st asked shown

        status_at : (i : ℕ) → i < r.count + n → r.count ≤ i → status_of (cell_at st space (page + i)) ≡ further r.status i
        status_at i low new =
            let j = i - r.count in
            let place : next + j ≡ page + i = omega (arith, new) in
            let sum : r.count + j ≡ i = omega (arith, new) in
            ap (λ q. status_of (cell_at st space q)) (sym place) ∙ onward_here st space next more (span_is space st asked shown) around j (omega (arith, place, low, fits))
            ∙ ap (λ x. further x j) (sym goes.1) ∙ further_twice r.status r.count j ∙ ap (further r.status) sum

    pub stopped : (IsNext r.status r.count then_is → ⊥) → AnswersRun rows page end r
    stopped other space st asked shown = record { single = was.single; base = was.base; each = was.each; parts = λ _. false_from_ne_true _ (λ h. other (goes h)) }
      where
        was : IsGrown (space_at st space) page r
        was = grown space st asked shown

        before_is : status_of (cell_at st space (page + r.count - 1)) ≡ further r.status (r.count - 1)
        before_is =
            let place : page + (r.count - 1) ≡ page + r.count - 1 = omega (arith, some) in
            ap (λ q. status_of (cell_at st space q)) (sym place) ∙ (was.each (r.count - 1) (omega (arith, some))).status

        goes : continues (cell_at st space (page + r.count - 1)) 1 (cell_at st space (page + r.count)) ≡ true → IsNext r.status r.count then_is
        goes h =
            let plain = continues_unnumbered (cell_at st space (page + r.count - 1)) 1 (cell_at st space (page + r.count)) h in
            let on = continues_is (cell_at st space (page + r.count - 1)) 1 (cell_at st space (page + r.count)) h in
            let sum : r.count - 1 + 1 ≡ r.count = omega (arith, some) in (
              sym (number_on r.status (r.count - 1)) ∙ ap has_number (sym before_is) ∙ plain_status (cell_at st space (page + r.count - 1)) plain,
              sym (ap (further r.status) sum) ∙ sym (further_twice r.status (r.count - 1) 1) ∙ ap (λ x. further x 1) (sym before_is)
                  ∙ sym (status_onward (cell_at st space (page + r.count - 1)) 1 plain) ∙ ap status_of (sym on) ∙ this_one st space next more (span_is space st asked shown) around,
            )

  pub ended : (r : Run) → Grown r → end ≤ page + r.count → AnswersRun rows page end r
  ended r grown all space st asked shown =
      let was = grown space st asked shown in record { single = was.single; base = was.base; each = was.each; parts = λ low. absurd (omega (arith, low, all)) }
