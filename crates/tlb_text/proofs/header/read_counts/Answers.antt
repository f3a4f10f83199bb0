use Rattle.std.proofs.Common.{ℕ, [], ◌∷◌}
use Rattle.std.proofs.lemmas.Result.{err_from_is_err_and}
use Rattle.text_words.specs.Layout.{TextRest}
use Rattle.text_words.specs.Passing.{FaultFrom}
use Rattle.text_words.proofs.Passing.{Passes-append, FaultFrom-behind, FaultFrom-next}
use Rattle.mm_script.proofs.Places.{IfBad-weaker}
use Rattle.tlb_text.specs.EventText.{AreEventLines}
use Rattle.tlb_text.proofs.Beginnings.{cpus_line, frames_line, begins_none, begins_cpus, no_cpus, no_frames, wants_cpus, wants_frames}
use Rattle.tlb_text.proofs.header.read_counts.Goals as goal

pub returns-in_err-cpus-clause-bad : goal.returns-in_err-cpus-clause-bad
returns-in_err-cpus-clause-bad c =
    let p = err_from_is_err_and c.from_residual.result c.from_residual.ensures.1 in
    rw (p.1, p.2) (IfBad-weaker c.in_err-cpus.field-0.0 _ (FaultFrom AreEventLines c.args.lines.now [])
    (λ n none. FaultFrom-next AreEventLines c.args.lines.now [] n _ none begins_none no_cpus wants_cpus) c.in_err-cpus.ensures.bad)

pub returns-in_err-frames-clause-bad : goal.returns-in_err-frames-clause-bad
returns-in_err-frames-clause-bad c =
    let p = err_from_is_err_and c.from_residual-in_err-frames.result c.from_residual-in_err-frames.ensures.1 in
    let old : TextRest = c.args.lines.now in
    let first : TextRest = c.next_count.new.lines in
    let cpus : ℕ = c.in_ok-cpus.cpus in
    let one = c.in_ok-cpus.ensures.ok in
    rw (p.1, p.2) (IfBad-weaker c.in_err-frames.field-0.0 _ (FaultFrom AreEventLines old [])
    (λ n none. FaultFrom-behind AreEventLines old first [] (cpus_line cpus ∷ []) n one.1
    (FaultFrom-next AreEventLines first (cpus_line cpus ∷ []) n _ none (begins_cpus cpus one.0) (no_frames (cpus_line cpus)) (wants_frames (cpus_line cpus))))
    c.in_err-frames.ensures.bad)

pub returns-clause-ok : goal.returns-clause-ok
returns-clause-ok c =
    let one = c.in_ok-cpus.ensures.ok in
    let two = c.in_ok-frames.ensures.ok in (
      record { cpus = one.0; frames = two.0 },
      Passes-append c.args.lines.now c.next_count.new.lines c.next_count-2.new.lines (cpus_line c.in_ok-cpus.cpus ∷ []) (frames_line c.in_ok-frames.frames ∷ []) one.1 two.1,
    )
