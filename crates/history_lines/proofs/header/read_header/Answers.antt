use Rattle.std.proofs.Common.{ℕ, List, [], ◌∷◌, codes}
use Rattle.std.proofs.lemmas.Result.{err_from_is_err_and}
use Rattle.text_words.specs.Layout.{joined, TextRest}
use Rattle.text_words.specs.Passing.{Passes, FaultFrom}
use Rattle.text_words.proofs.Passing.{Passes-append, FaultFrom-behind, FaultFrom-next}
use Rattle.mm_script.specs.ScriptText.{limit_words}
use Rattle.mm_script.proofs.Places.{IfBad-weaker}
use Rattle.history_lines.specs.Accounting.{levels_lines}
use Rattle.history_lines.specs.HistoryText.{AreHistoryLines}
use Rattle.history_lines.proofs.Beginnings.{Begins-none, Begins-version, Begins-frames, Begins-tables, no_version, no_frames, no_tables, no_swap, wants_version, wants_frames, wants_tables, wants_swap}
use Rattle.history_lines.proofs.header.read_header.Goals as goal

abbrev limit_line : List ℕ → ℕ → List ℕ
limit_line name n = joined (limit_words name n)

pub returns-in_err-version-clause-bad : goal.returns-in_err-version-clause-bad
returns-in_err-version-clause-bad c =
    let p = err_from_is_err_and c.from_residual.result c.from_residual.ensures.1 in
    rw (p.1, p.2) (IfBad-weaker c.in_err-version.field-0.0 _ (FaultFrom AreHistoryLines c.args.lines.now [])
    (λ n none. FaultFrom-next AreHistoryLines c.args.lines.now [] n _ none Begins-none no_version wants_version) c.in_err-version.ensures.bad)

pub returns-in_err-frames-clause-bad : goal.returns-in_err-frames-clause-bad
returns-in_err-frames-clause-bad c =
    let p = err_from_is_err_and c.from_residual-in_err-frames.result c.from_residual-in_err-frames.ensures.1 in
    let old : TextRest = c.args.lines.now in
    let first : TextRest = c.next_limit.new.lines in
    let version : ℕ = c.in_ok-version.field-0 in
    let zero = c.in_ok-version.ensures.ok in
    let top : List ℕ = limit_line (codes "corten") version in
    rw (p.1, p.2) (IfBad-weaker c.in_err-frames.field-0.0 _ (FaultFrom AreHistoryLines old [])
    (λ n none. FaultFrom-behind AreHistoryLines old first [] (top ∷ []) n zero.1
    (FaultFrom-next AreHistoryLines first (top ∷ []) n _ none (Begins-version version zero.0) (no_frames top) (wants_frames top)))
    c.in_err-frames.ensures.bad)

pub returns-in_err-tables-clause-bad : goal.returns-in_err-tables-clause-bad
returns-in_err-tables-clause-bad c =
    let p = err_from_is_err_and c.from_residual-in_err-tables.result c.from_residual-in_err-tables.ensures.1 in
    let old : TextRest = c.args.lines.now in
    let first : TextRest = c.next_limit.new.lines in
    let second : TextRest = c.next_limit-2.new.lines in
    let version : ℕ = c.in_ok-version.field-0 in
    let frames : ℕ = c.in_ok-frames.frames in
    let zero = c.in_ok-version.ensures.ok in
    let one = c.in_ok-frames.ensures.ok in
    let top : List ℕ = limit_line (codes "corten") version in
    let line : List ℕ = limit_line (codes "frames") frames in
    rw (p.1, p.2) (IfBad-weaker c.in_err-tables.field-0.0 _ (FaultFrom AreHistoryLines old [])
    (λ n none. FaultFrom-behind AreHistoryLines old second [] (top ∷ line ∷ []) n (Passes-append old first second (top ∷ []) (line ∷ []) zero.1 one.1)
    (FaultFrom-next AreHistoryLines second (top ∷ line ∷ []) n _ none (Begins-frames version frames zero.0 one.0) (no_tables top line) (wants_tables top line)))
    c.in_err-tables.ensures.bad)

pub returns-in_err-swap-clause-bad : goal.returns-in_err-swap-clause-bad
returns-in_err-swap-clause-bad c =
    let p = err_from_is_err_and c.from_residual-in_err-swap.result c.from_residual-in_err-swap.ensures.1 in
    let old : TextRest = c.args.lines.now in
    let first : TextRest = c.next_limit.new.lines in
    let second : TextRest = c.next_limit-2.new.lines in
    let third : TextRest = c.next_limit-3.new.lines in
    let version : ℕ = c.in_ok-version.field-0 in
    let frames : ℕ = c.in_ok-frames.frames in
    let tables : ℕ = c.in_ok-tables.tables in
    let zero = c.in_ok-version.ensures.ok in
    let one = c.in_ok-frames.ensures.ok in
    let two = c.in_ok-tables.ensures.ok in
    let top : List ℕ = limit_line (codes "corten") version in
    let line : List ℕ = limit_line (codes "frames") frames in
    let next : List ℕ = limit_line (codes "tables") tables in
    let front : Passes old second (top ∷ line ∷ []) = Passes-append old first second (top ∷ []) (line ∷ []) zero.1 one.1 in
    let passed : Passes old third (top ∷ line ∷ next ∷ []) = Passes-append old second third (top ∷ line ∷ []) (next ∷ []) front two.1 in
    rw (p.1, p.2) (IfBad-weaker c.in_err-swap.field-0.0 _ (FaultFrom AreHistoryLines old [])
    (λ n none. FaultFrom-behind AreHistoryLines old third [] (top ∷ line ∷ next ∷ []) n passed
    (FaultFrom-next AreHistoryLines third (top ∷ line ∷ next ∷ []) n _ none (Begins-tables version frames tables zero.0 one.0 two.0) (no_swap top line next) (wants_swap top line next)))
    c.in_err-swap.ensures.bad)

pub returns-clause-ok : goal.returns-clause-ok
returns-clause-ok c =
    let old : TextRest = c.args.lines.now in
    let first : TextRest = c.next_limit.new.lines in
    let second : TextRest = c.next_limit-2.new.lines in
    let third : TextRest = c.next_limit-3.new.lines in
    let fourth : TextRest = c.next_limit-4.new.lines in
    let fifth : TextRest = c.take_levels-levels.new.lines in
    let zero = c.in_ok-version.ensures.ok in
    let one = c.in_ok-frames.ensures.ok in
    let two = c.in_ok-tables.ensures.ok in
    let three = c.in_ok-swap.ensures.ok in
    let top : List ℕ = limit_line (codes "corten") c.in_ok-version.field-0 in
    let line : List ℕ = limit_line (codes "frames") c.in_ok-frames.frames in
    let next : List ℕ = limit_line (codes "tables") c.in_ok-tables.tables in
    let last : List ℕ = limit_line (codes "swap") c.in_ok-swap.swap in
    let levels : List (List ℕ) = levels_lines c.take_levels-levels.result in
    let front : Passes old second (top ∷ line ∷ []) = Passes-append old first second (top ∷ []) (line ∷ []) zero.1 one.1 in
    let back : Passes second fourth (next ∷ last ∷ []) = Passes-append second third fourth (next ∷ []) (last ∷ []) two.1 three.1 in
    let limits : Passes old fourth (top ∷ line ∷ next ∷ last ∷ []) = Passes-append old second fourth (top ∷ line ∷ []) (next ∷ last ∷ []) front back in (
      record { version = zero.0; limits = record { frames = one.0; tables = two.0; swap = three.0 }; levels = c.take_levels-levels.ensures.levels },
      Passes-append old fourth fifth (top ∷ line ∷ next ∷ last ∷ []) levels limits c.take_levels-levels.ensures.passed,
      c.take_levels-levels.ensures.none,
    )
