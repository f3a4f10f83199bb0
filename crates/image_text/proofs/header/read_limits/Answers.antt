use Rattle.std.proofs.Common.{ℕ, List, [], ◌∷◌, codes}
use Rattle.std.proofs.lemmas.Result.{err_from_is_err_and}
use Rattle.text_words.specs.Layout.{joined, TextRest}
use Rattle.text_words.specs.Passing.{Passes, FaultFrom}
use Rattle.text_words.proofs.Passing.{Passes-append, FaultFrom-behind, FaultFrom-next}
use Rattle.mm_script.specs.ScriptText.{limit_words}
use Rattle.mm_script.proofs.Places.{IfBad-weaker}
use Rattle.history_lines.specs.Accounting.{levels_lines}
use Rattle.image_text.specs.ImageText.{version_line, AreImageLines}
use Rattle.image_text.proofs.Beginnings.{begins_none, begins_version, begins_frames, begins_tables, no_version, version_passed, no_frames, no_tables, no_swap, wants_version, wants_frames, wants_tables, wants_swap}
use Rattle.image_text.proofs.header.read_limits.Goals as goal

abbrev limit_line : List ℕ → ℕ → List ℕ
limit_line name n = joined (limit_words name n)

pub returns-in_err-next_limit-clause-bad : goal.returns-in_err-next_limit-clause-bad
returns-in_err-next_limit-clause-bad c =
    let p = err_from_is_err_and c.from_residual.result c.from_residual.ensures.1 in
    rw (p.1, p.2) (IfBad-weaker c.in_err-next_limit.field-0.0 _ (FaultFrom AreImageLines c.args.lines.now [])
    (λ n none. FaultFrom-next AreImageLines c.args.lines.now [] n _ none begins_none no_version wants_version) c.in_err-next_limit.ensures.bad)

pub returns-in_err-frames-clause-bad : goal.returns-in_err-frames-clause-bad
returns-in_err-frames-clause-bad c =
    let p = err_from_is_err_and c.from_residual-in_err-frames.result c.from_residual-in_err-frames.ensures.1 in
    let old : TextRest = c.args.lines.now in
    let first : TextRest = c.next_limit.new.lines in
    let zero = version_passed old first c.in_ok-next_limit.field-0 c.in_ok-next_limit.ensures.ok.0 c.in_ok-next_limit.ensures.ok.1 in
    let top : List ℕ = version_line in
    rw (p.1, p.2) (IfBad-weaker c.in_err-frames.field-0.0 _ (FaultFrom AreImageLines old [])
    (λ n none. FaultFrom-behind AreImageLines old first [] (top ∷ []) n zero
    (FaultFrom-next AreImageLines first (top ∷ []) n _ none begins_version (no_frames top) (wants_frames top)))
    c.in_err-frames.ensures.bad)

pub returns-in_err-tables-clause-bad : goal.returns-in_err-tables-clause-bad
returns-in_err-tables-clause-bad c =
    let p = err_from_is_err_and c.from_residual-in_err-tables.result c.from_residual-in_err-tables.ensures.1 in
    let old : TextRest = c.args.lines.now in
    let first : TextRest = c.next_limit.new.lines in
    let second : TextRest = c.next_limit-2.new.lines in
    let frames : ℕ = c.in_ok-frames.frames in
    let zero = version_passed old first c.in_ok-next_limit.field-0 c.in_ok-next_limit.ensures.ok.0 c.in_ok-next_limit.ensures.ok.1 in
    let one = c.in_ok-frames.ensures.ok in
    let top : List ℕ = version_line in
    let line : List ℕ = limit_line (codes "frames") frames in
    rw (p.1, p.2) (IfBad-weaker c.in_err-tables.field-0.0 _ (FaultFrom AreImageLines old [])
    (λ n none. FaultFrom-behind AreImageLines old second [] (top ∷ line ∷ []) n (Passes-append old first second (top ∷ []) (line ∷ []) zero one.1)
    (FaultFrom-next AreImageLines second (top ∷ line ∷ []) n _ none (begins_frames frames one.0) (no_tables top line) (wants_tables top line)))
    c.in_err-tables.ensures.bad)

pub returns-in_err-swap-clause-bad : goal.returns-in_err-swap-clause-bad
returns-in_err-swap-clause-bad c =
    let p = err_from_is_err_and c.from_residual-in_err-swap.result c.from_residual-in_err-swap.ensures.1 in
    let old : TextRest = c.args.lines.now in
    let first : TextRest = c.next_limit.new.lines in
    let second : TextRest = c.next_limit-2.new.lines in
    let third : TextRest = c.next_limit-3.new.lines in
    let frames : ℕ = c.in_ok-frames.frames in
    let tables : ℕ = c.in_ok-tables.tables in
    let zero = version_passed old first c.in_ok-next_limit.field-0 c.in_ok-next_limit.ensures.ok.0 c.in_ok-next_limit.ensures.ok.1 in
    let one = c.in_ok-frames.ensures.ok in
    let two = c.in_ok-tables.ensures.ok in
    let top : List ℕ = version_line in
    let line : List ℕ = limit_line (codes "frames") frames in
    let next : List ℕ = limit_line (codes "tables") tables in
    let front : Passes old second (top ∷ line ∷ []) = Passes-append old first second (top ∷ []) (line ∷ []) zero one.1 in
    let passed : Passes old third (top ∷ line ∷ next ∷ []) = Passes-append old second third (top ∷ line ∷ []) (next ∷ []) front two.1 in
    rw (p.1, p.2) (IfBad-weaker c.in_err-swap.field-0.0 _ (FaultFrom AreImageLines old [])
    (λ n none. FaultFrom-behind AreImageLines old third [] (top ∷ line ∷ next ∷ []) n passed
    (FaultFrom-next AreImageLines third (top ∷ line ∷ next ∷ []) n _ none (begins_tables frames tables one.0 two.0) (no_swap top line next) (wants_swap top line next)))
    c.in_err-swap.ensures.bad)

pub returns-clause-ok : goal.returns-clause-ok
returns-clause-ok c =
    let old : TextRest = c.args.lines.now in
    let first : TextRest = c.next_limit.new.lines in
    let second : TextRest = c.next_limit-2.new.lines in
    let third : TextRest = c.next_limit-3.new.lines in
    let fourth : TextRest = c.next_limit-4.new.lines in
    let fifth : TextRest = c.take_levels-levels.new.lines in
    let zero = version_passed old first c.in_ok-next_limit.field-0 c.in_ok-next_limit.ensures.ok.0 c.in_ok-next_limit.ensures.ok.1 in
    let one = c.in_ok-frames.ensures.ok in
    let two = c.in_ok-tables.ensures.ok in
    let three = c.in_ok-swap.ensures.ok in
    let top : List ℕ = version_line in
    let line : List ℕ = limit_line (codes "frames") c.in_ok-frames.frames in
    let next : List ℕ = limit_line (codes "tables") c.in_ok-tables.tables in
    let last : List ℕ = limit_line (codes "swap") c.in_ok-swap.swap in
    let levels : List (List ℕ) = levels_lines c.take_levels-levels.result in
    let front : Passes old second (top ∷ line ∷ []) = Passes-append old first second (top ∷ []) (line ∷ []) zero one.1 in
    let back : Passes second fourth (next ∷ last ∷ []) = Passes-append second third fourth (next ∷ []) (last ∷ []) two.1 three.1 in
    let limits : Passes old fourth (top ∷ line ∷ next ∷ last ∷ []) = Passes-append old second fourth (top ∷ line ∷ []) (next ∷ last ∷ []) front back in (
      record { frames = one.0; tables = two.0; swap = three.0 },
      c.take_levels-levels.ensures.levels,
      Passes-append old fourth fifth (top ∷ line ∷ next ∷ last ∷ []) levels limits c.take_levels-levels.ensures.passed,
      c.take_levels-levels.ensures.none,
    )
