-- The pages of a range, one span behind another.
--     among      the span of one of the rows answers
--     Passed      no page of a range before this one is so
--     none, more      none was seen;  the pages of a span more
--     found, nothing      a page that is so behind them;  no page of the range is
use mathlib.Core.Bool.{beq}
use Rattle.std.specs.Prelude.{◌≡◌, ℕ, ◌+◌, ◌-◌, ◌<◌, ◌≤◌, Bool, true, false, List, Option, Some, None, is_some}
use Rattle.std.proofs.Common.{sym, refl, ◌∙◌, ap, arith, inl, inr}
use Rattle.std.proofs.lemmas.Bool.{cases_lt}
use Rattle.corten_base.specs.declared.numbers.Status.{Status}
use Rattle.corten_base.specs.declared.numbers.Status.TheVariants as status
use Rattle.table_place.specs.Range.{within}
use Rattle.table_place.proofs.Tables.{to_range}
use Rattle.page_map.specs.declared.cell.Cell.{Cell as PageCell}
use Rattle.page_map.specs.declared.cell.Cell.TheVariants.{Anon, File, Mapped, Swapped}
use Rattle.page_map.specs.Cell.{status_of}
use Rattle.page_map.specs.State.{State, cell_at}
use Rattle.machine_plan.specs.HeldRows.{Row, RowsShown, AreAsked}
use Rattle.held_spans.specs.declared.spans.Span.{Span}
use Rattle.held_spans.specs.Spans.{IsAround, IsSpanAmong, is_there, further, AnswersSpan}
use Rattle.held_spans.specs.Walks.{is_such, AnswersFirst}
use Rattle.held_spans.proofs.Leasts.{least_is, least_none}
use Rattle.held_spans.proofs.Told.{answered}

pub among : (rows : List Row) (page : ℕ) (s : Span) → IsSpanAmong rows page s → AnswersSpan rows page s
among rows page s found = answered rows found.row page s found.held found.is

-- ---- whether a cell is there

there_of : (cell : Option PageCell) → is_some cell ≡ is_there (status_of cell)
there_of None = refl
there_of (Some (Anon perm)) = refl
there_of (Some (File perm file index)) = refl
there_of (Some (Mapped perm origin frame bytes)) = refl
there_of (Some (Swapped perm origin slot bytes)) = refl

there_further : (s : Status) (i : ℕ) → is_there (further s i) ≡ is_there s
there_further status.Invalid i = refl
there_further (status.Anon perm) i = refl
there_further (status.File perm file index) i = refl
there_further (status.Mapped perm frame) i = refl
there_further (status.Swapped perm slot) i = refl

-- whether a page of the span has a cell
pub mapped_is : (rows : List Row) (space : ℕ) (st : State) (first count page n : ℕ) (s : Span) → AreAsked space rows first count → RowsShown st rows → AnswersSpan rows page s
    → within first count page ≡ true → within s.first s.count n ≡ true → is_some (cell_at st space n) ≡ is_there s.status
mapped_is rows space st first count page n s asked shown answers inside w =
    let stands = (answers space st (asked page inside) shown).each n w in
    there_of (cell_at st space n) ∙ (ap is_there stands.status ∙ there_further s.status (n - s.first))

abbrev pub as_is : Bool → Bool → Bool
as_is mapped b = beq b mapped

such_is : (mapped : Bool) (cell : Option PageCell) → is_such mapped cell ≡ as_is mapped (is_some cell)
such_is true None = refl
such_is true (Some c) = refl
such_is false None = refl
such_is false (Some c) = refl

-- ---- the walk

module _ (rows : List Row) (first count : ℕ) (mapped : Bool) where
  abbrev pub Passed : ℕ → Type 0
  Passed page = (space : ℕ) (st : State) → AreAsked space rows first count → RowsShown st rows → (n : ℕ) → first ≤ n → n < page → is_such mapped (cell_at st space n) ≡ false

  pub none : Passed first
  none space st asked shown n low high = absurd (omega (arith, low, high))

  module _ (page : ℕ) (passed : Passed page) (low : first ≤ page) (high : page < first + count) (s : Span) (around : IsAround page s) (answers : AnswersSpan rows page s) where
    such_at : (space : ℕ) (st : State) → AreAsked space rows first count → RowsShown st rows → (n : ℕ) → page ≤ n → n < s.first + s.count → is_such mapped (cell_at st space n) ≡ as_is mapped (is_there s.status)
    such_at space st asked shown n from to =
        such_is mapped (cell_at st space n)
        ∙ ap (as_is mapped) (mapped_is rows space st first count page n s asked shown answers (to_range first count page low high) (to_range s.first s.count n (let f = around.from in omega (arith, f, from)) to))

    pub more : (next : ℕ) → next ≤ s.first + s.count → as_is mapped (is_there s.status) ≡ false → Passed next
    more next fits other space st asked shown n a b = elim (cases_lt n page) [
      | inl before ↦ passed space st asked shown n a before
      | inr behind ↦ such_at space st asked shown n behind (omega (arith, b, fits)) ∙ other
    ]

    pub found : as_is mapped (is_there s.status) ≡ true → AnswersFirst rows first count mapped (Some page)
    found same space st asked shown =
        sym (least_is (λ n. is_such mapped (cell_at st space n)) first count page low high
        (such_at space st asked shown page (omega arith) (let t = around.to in omega (arith, t)) ∙ same) (passed space st asked shown))

  pub nothing : Passed (first + count) → AnswersFirst rows first count mapped None
  nothing passed space st asked shown = sym (least_none (λ n. is_such mapped (cell_at st space n)) first count (passed space st asked shown))
