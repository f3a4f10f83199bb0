use Rattle.std.proofs.Common.{ℕ, List, [], ◌∷◌, codes, refl, subst}
use Rattle.std.proofs.lemmas.Result.{err_from_is_err_and}
use Rattle.text_words.specs.Layout.{joined, TextRest}
use Rattle.mm_script.specs.ScriptText.{limit_words}
use Rattle.mm_script.specs.Reading.{NextWords, Passes, FaultFrom}
use Rattle.mm_script.proofs.Beginnings.{limit_line_is, Begins-none, Begins-frames, Begins-tables, no_frames, no_tables, no_swap, wants_frames, wants_tables, wants_swap}
use Rattle.mm_script.proofs.Places.{Passes-next, Passes-append, FaultFrom-behind, FaultFrom-next, IfBad-weaker}
use Rattle.mm_script.proofs.header.read_limits.Goals as goal

-- a limit's line is passed
passes_limit : (old new : TextRest) (name : List ℕ) (n : ℕ) → NextWords old new (limit_words name n) → Passes old new (joined (limit_words name n) ∷ [])
passes_limit old new name n h = subst (λ line. Passes old new (line ∷ [])) (limit_line_is h.line name n h.are_words) (Passes-next old new h.line h.next)

abbrev frames_line : ℕ → List ℕ
frames_line n = joined (limit_words (codes "frames") n)

abbrev tables_line : ℕ → List ℕ
tables_line n = joined (limit_words (codes "tables") n)

pub returns-in_err-next_limit-clause-bad : goal.returns-in_err-next_limit-clause-bad
returns-in_err-next_limit-clause-bad c =
    let p = err_from_is_err_and c.from_residual.result c.from_residual.ensures.1 in
    rw (p.1, p.2) (IfBad-weaker c.in_err-next_limit.field-0.0 _ (FaultFrom c.args.lines.now [])
    (λ n none. FaultFrom-next c.args.lines.now [] n _ none Begins-none no_frames wants_frames) c.in_err-next_limit.ensures.bad)

pub returns-in_err-next_limit-2-clause-bad : goal.returns-in_err-next_limit-2-clause-bad
returns-in_err-next_limit-2-clause-bad c =
    let p = err_from_is_err_and c.from_residual-in_err-next_limit-2.result c.from_residual-in_err-next_limit-2.ensures.1 in
    let old : TextRest = c.args.lines.now in
    let first : TextRest = c.next_limit.new.lines in
    let frames : ℕ = c.in_ok-next_limit.field-0 in
    let one = c.in_ok-next_limit.ensures.ok in
    rw (p.1, p.2) (IfBad-weaker c.in_err-next_limit-2.field-0.0 _ (FaultFrom old [])
    (λ n none. FaultFrom-behind old first [] (frames_line frames ∷ []) n (passes_limit old first (codes "frames") frames one.1)
    (FaultFrom-next first (frames_line frames ∷ []) n _ none (Begins-frames frames one.0) (no_tables (frames_line frames)) (wants_tables (frames_line frames))))
    c.in_err-next_limit-2.ensures.bad)

pub returns-in_err-next_limit-3-clause-bad : goal.returns-in_err-next_limit-3-clause-bad
returns-in_err-next_limit-3-clause-bad c =
    let p = err_from_is_err_and c.from_residual-in_err-next_limit-3.result c.from_residual-in_err-next_limit-3.ensures.1 in
    let old : TextRest = c.args.lines.now in
    let first : TextRest = c.next_limit.new.lines in
    let second : TextRest = c.next_limit-2.new.lines in
    let frames : ℕ = c.in_ok-next_limit.field-0 in
    let tables : ℕ = c.in_ok-next_limit-2.field-0 in
    let one = c.in_ok-next_limit.ensures.ok in
    let two = c.in_ok-next_limit-2.ensures.ok in
    let lines : List (List ℕ) = frames_line frames ∷ tables_line tables ∷ [] in
    let passed : Passes old second lines =
    Passes-append old first second (frames_line frames ∷ []) (tables_line tables ∷ []) (passes_limit old first (codes "frames") frames one.1) (passes_limit first second (codes "tables") tables two.1) in
    rw (p.1, p.2) (IfBad-weaker c.in_err-next_limit-3.field-0.0 _ (FaultFrom old [])
    (λ n none. FaultFrom-behind old second [] lines n passed
    (FaultFrom-next second lines n _ none (Begins-tables frames tables one.0 two.0) (no_swap (frames_line frames) (tables_line tables)) (wants_swap (frames_line frames) (tables_line tables))))
    c.in_err-next_limit-3.ensures.bad)

pub returns-clause-ok : goal.returns-clause-ok
returns-clause-ok c =
    let old : TextRest = c.args.lines.now in
    let first : TextRest = c.next_limit.new.lines in
    let second : TextRest = c.next_limit-2.new.lines in
    let third : TextRest = c.next_limit-3.new.lines in
    let frames : ℕ = c.in_ok-next_limit.field-0 in
    let tables : ℕ = c.in_ok-next_limit-2.field-0 in
    let swap : ℕ = c.in_ok-next_limit-3.field-0 in
    let one = c.in_ok-next_limit.ensures.ok in
    let two = c.in_ok-next_limit-2.ensures.ok in
    let three = c.in_ok-next_limit-3.ensures.ok in
    let swap_line : List ℕ = joined (limit_words (codes "swap") swap) in
    let behind = Passes-append first second third (tables_line tables ∷ []) (swap_line ∷ []) (passes_limit first second (codes "tables") tables two.1) (passes_limit second third (codes "swap") swap three.1) in (
      record { numbers = record { frames = one.0; tables = two.0; swap = three.0 }; levels = refl },
      Passes-append old first third (frames_line frames ∷ []) (tables_line tables ∷ swap_line ∷ []) (passes_limit old first (codes "frames") frames one.1) behind,
    )
