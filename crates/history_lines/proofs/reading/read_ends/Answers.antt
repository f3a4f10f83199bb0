use Rattle.std.proofs.Common.{ℕ, ◌+◌, List, [], ◌∷◌, ◌++◌, map, refl, sym, subst}
use Rattle.std.specs.List.{All}
use Rattle.std.proofs.lemmas.Bool.{false≢true}
use Rattle.std.proofs.lemmas.Result.{err_from_is_err_and}
use Rattle.corten_base.specs.declared.calls.Entry.{Entry}
use Rattle.text_words.specs.Layout.{TextRest}
use Rattle.text_words.specs.Passing.{Passes, FaultFrom}
use Rattle.text_words.proofs.Passing.{Passes-append, FaultFrom-behind, FaultFrom-next, fault_after}
use Rattle.mm_script.specs.ScriptText.{AreFiles}
use Rattle.mm_script.proofs.Places.{IfBad-weaker}
use Rattle.history_lines.specs.declared.counts.Counts.{Counts}
use Rattle.history_lines.specs.declared.header.Header.{Header}
use Rattle.history_lines.specs.Accounting.{header_lines, frames_line, swap_line, tables_line, IsHeader, AreCounts}
use Rattle.history_lines.specs.HistoryText.{entry_line, IsEntryOf, AreHistoryLines}
use Rattle.history_lines.proofs.Beginnings.{Begins-frames_line, Begins-swap_line, Begins-tables_line, no_swap_line, no_tables_line, no_more, wants_swap_line, wants_tables_line, behind_header}
use Rattle.history_lines.proofs.reading.read_ends.Goals as goal

abbrev FaultBehind : TextRest → ℕ → Type 0
FaultBehind old n = (head : Header) (files : List (List ℕ)) (entries : List Entry) (frames : Counts) → IsHeader head → AreFiles files → All (IsEntryOf head.version) entries → AreCounts frames → FaultFrom AreHistoryLines old (header_lines head files ++ (map entry_line entries ++ frames_line frames ∷ [])) n

-- a fault behind more account lines
fault_behind_lines : (old mid : TextRest) (head : Header) (fs : List (List ℕ)) (es : List Entry) (f : Counts) (lines : List (List ℕ)) (n : ℕ) → Passes old mid lines
    → FaultFrom AreHistoryLines mid (header_lines head fs ++ (map entry_line es ++ frames_line f ∷ lines)) n → FaultFrom AreHistoryLines old (header_lines head fs ++ (map entry_line es ++ frames_line f ∷ [])) n
fault_behind_lines old mid head fs es f lines n passed fault =
    FaultFrom-behind AreHistoryLines old mid (header_lines head fs ++ (map entry_line es ++ frames_line f ∷ [])) lines n passed
    (subst (λ ls. FaultFrom AreHistoryLines mid ls n) (sym (behind_header head fs (map entry_line es) (frames_line f ∷ []) lines)) fault)

pub returns-in_err-swap-clause-bad : goal.returns-in_err-swap-clause-bad
returns-in_err-swap-clause-bad c =
    let p = err_from_is_err_and c.from_residual.result c.from_residual.ensures.1 in
    let old : TextRest = c.args.lines.now in
    rw (p.1, p.2) (IfBad-weaker c.in_err-swap.field-0.0 _ (FaultBehind old)
    (λ n none head fs es f hh hfs he hf. FaultFrom-next AreHistoryLines old (header_lines head fs ++ (map entry_line es ++ frames_line f ∷ [])) n _ none
    (Begins-frames_line head fs es hh hfs he f hf) (no_swap_line head fs es f hh hfs he hf) (wants_swap_line head fs es f hh hfs he hf))
    c.in_err-swap.ensures.bad)

pub returns-in_err-tables-clause-bad : goal.returns-in_err-tables-clause-bad
returns-in_err-tables-clause-bad c =
    let p = err_from_is_err_and c.from_residual-in_err-tables.result c.from_residual-in_err-tables.ensures.1 in
    let old : TextRest = c.args.lines.now in
    let mid : TextRest = c.next_counts.new.lines in
    let s : Counts = c.in_ok-swap.swap in
    let swap = c.in_ok-swap.ensures.ok in
    rw (p.1, p.2) (IfBad-weaker c.in_err-tables.field-0.0 _ (FaultBehind old)
    (λ n none head fs es f hh hfs he hf. fault_behind_lines old mid head fs es f (swap_line s ∷ []) n swap.1
    (FaultFrom-next AreHistoryLines mid (header_lines head fs ++ (map entry_line es ++ frames_line f ∷ swap_line s ∷ [])) n _ none
    (Begins-swap_line head fs es hh hfs he f s hf swap.0) (no_tables_line head fs es f hh hfs he hf s) (wants_tables_line head fs es f hh hfs he hf s)))
    c.in_err-tables.ensures.bad)

pub returns-then-is_done-clause-ok : goal.returns-then-is_done-clause-ok
returns-then-is_done-clause-ok c =
    let swap = c.in_ok-swap.ensures.ok in
    let tables = c.in_ok-tables.ensures.ok in (
      swap.0,
      tables.0,
      Passes-append c.args.lines.now c.next_counts.new.lines c.next_counts-2.new.lines (swap_line c.in_ok-swap.swap ∷ []) (tables_line c.in_ok-tables.tables ∷ []) swap.1 tables.1,
      c.if-is_done.ensures.0 refl,
    )

pub returns-else-is_done-clause-bad : goal.returns-else-is_done-clause-bad
returns-else-is_done-clause-bad c = λ head fs es f hh hfs he hf.
    let old : TextRest = c.args.lines.now in
    let mid : TextRest = c.next_counts.new.lines in
    let new : TextRest = c.next_counts-2.new.lines in
    let s : Counts = c.in_ok-swap.swap in
    let t : Counts = c.in_ok-tables.tables in
    let swap = c.in_ok-swap.ensures.ok in
    let tables = c.in_ok-tables.ensures.ok in
    subst (λ place. FaultFrom AreHistoryLines old (header_lines head fs ++ (map entry_line es ++ frames_line f ∷ [])) (place + 1)) (sym c.taken.ensures.value)
    (fault_behind_lines old new head fs es f (swap_line s ∷ tables_line t ∷ []) (new.taken + 1) (Passes-append old mid new (swap_line s ∷ []) (tables_line t ∷ []) swap.1 tables.1)
    (fault_after AreHistoryLines new (header_lines head fs ++ (map entry_line es ++ frames_line f ∷ swap_line s ∷ tables_line t ∷ [])) (λ none. false≢true (c.if-is_done.ensures.1 none))
    (Begins-tables_line head fs es hh hfs he f s t hf swap.0 tables.0) (no_more head fs es f hh hfs he hf s t)))
