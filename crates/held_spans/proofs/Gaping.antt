-- The pages of an arena, one span behind another, where so many free pages are sought.
--     Walked      the pages from the start of a run on are free, and no gap starts before it
--     walked_none      nothing was seen
--     behind_used, behind_free      a span that is mapped more, so the run starts behind it;  a span that is free more
--     gap_found, no_gap      a run that is long enough;  what is left is too short
use Rattle.std.specs.Prelude.{◌≡◌, ℕ, ◌+◌, ◌-◌, ◌<◌, ◌≤◌, true, false, List, Option, Some, None, is_some}
use Rattle.std.specs.FinMap as fin
use Rattle.std.proofs.Common.{sym, refl, ◌∙◌, arith, inl, inr}
use Rattle.std.proofs.lemmas.Bool.{cases_lt, true≢false}
use Rattle.table_place.proofs.Tables.{to_range}
use Rattle.page_map.specs.Mapping.{is_free}
use Rattle.page_map.specs.State.{State, AddressSpace, space_at, cell_at}
use Rattle.machine_plan.specs.HeldRows.{Row, RowsShown, AreAsked, AnswersGap}
use Rattle.held_spans.specs.declared.spans.Span.{Span}
use Rattle.held_spans.specs.Spans.{IsAround, is_there, AnswersSpan}
use Rattle.held_spans.proofs.Leasts.{least_is, least_none, free_range, taken_range}
use Rattle.held_spans.proofs.Passed.{mapped_is}

none_from : {A : Type 0} (o : Option A) → is_some o ≡ false → o ≡ None
none_from None h = refl
none_from (Some x) h = absurd (true≢false h)

pub record IsWalked (cells : AddressSpace) (first wanted run page : ℕ) : Type 0 where
  pub free : (n : ℕ) → run ≤ n → n < page → is_some (fin.get cells n) ≡ false
  pub before : (start : ℕ) → first ≤ start → start < run → is_free cells start wanted ≡ false

module _ (rows : List Row) (first count wanted : ℕ) where
  abbrev pub Walked : ℕ → ℕ → Type 0
  Walked run page = (space : ℕ) (st : State) → AreAsked space rows first count → RowsShown st rows → IsWalked (space_at st space) first wanted run page

  pub walked_none : Walked first first
  walked_none space st asked shown = record {
    free = λ n low high. absurd (omega (arith, low, high));
    before = λ start low high. absurd (omega (arith, low, high));
  }

  module _ (run page next : ℕ) (walked : Walked run page) (low : first ≤ run) (near : run ≤ page) (short : page < run + wanted) (high : page < first + count)
      (s : Span) (around : IsAround page s) (answers : AnswersSpan rows page s) (fits : next ≤ s.first + s.count) where
    mapped_at : (space : ℕ) (st : State) → AreAsked space rows first count → RowsShown st rows → (n : ℕ) → page ≤ n → n < next → is_some (cell_at st space n) ≡ is_there s.status
    mapped_at space st asked shown n from to =
        mapped_is rows space st first count page n s asked shown answers (to_range first count page (omega (arith, low, near)) high)
        (to_range s.first s.count n (let f = around.from in omega (arith, f, from)) (omega (arith, to, fits)))

    pub behind_free : is_there s.status ≡ false → Walked run next
    behind_free free space st asked shown = record {
      free = λ n a b. elim (cases_lt n page) [
        | inl seen ↦ (walked space st asked shown).free n a seen
        | inr new ↦ mapped_at space st asked shown n new b ∙ free
      ];
      before = (walked space st asked shown).before;
    }

    pub behind_used : page < next → is_there s.status ≡ true → Walked next next
    behind_used more used space st asked shown = record {
      free = λ n a b. absurd (omega (arith, a, b));
      before = λ start a b. elim (cases_lt start run) [
        | inl old ↦ (walked space st asked shown).before start a old
        | inr new ↦ elim (cases_lt start page) [
          | inl early ↦ taken_range (space_at st space) start wanted page (omega (arith, early)) (omega (arith, new, short)) (mapped_at space st asked shown page (omega arith) more ∙ used)
          | inr late ↦ taken_range (space_at st space) start wanted start (omega arith) (omega (arith, short, near)) (mapped_at space st asked shown start late b ∙ used)
        ]
      ];
    }

  pub gap_found : (run page : ℕ) → Walked run page → first ≤ run → run + wanted ≤ page → page ≤ first + count → AnswersGap rows first count wanted (Some run)
  gap_found run page walked low long high space st asked shown =
      let is = walked space st asked shown in
      sym (least_is (λ start. is_free (space_at st space) start wanted) first (count + 1 - wanted) run low (omega (arith, low, long, high))
      (free_range (space_at st space) run wanted (λ n a b. none_from _ (is.free n a (omega (arith, b, long))))) is.before)

  pub no_gap : (run page : ℕ) → Walked run page → first + count < run + wanted → AnswersGap rows first count wanted None
  no_gap run page walked short space st asked shown =
      sym (least_none (λ start. is_free (space_at st space) start wanted) first (count + 1 - wanted)
      (λ start a b. (walked space st asked shown).before start a (omega (arith, b, short))))
