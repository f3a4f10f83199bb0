use Rattle.std.proofs.Common.{◌≡◌, []}
use Rattle.std.proofs.lemmas.Result.{err_from_is_err_and}
use Rattle.text_words.specs.Passing.{FaultFrom}
use Rattle.text_words.proofs.Grammars.{first_fault}
use Rattle.mm_script.specs.ScriptText.{IfBad}
use Rattle.mm_script.proofs.Places.{IfBad-weaker}
use Rattle.tlb_text.specs.EventText.{AreEventLines, sizes_lines, IsFirstFault, IsEventText, Answered, AnswersText}
use Rattle.tlb_text.proofs.Behind.{first_behind, fault_refuses, whole_text, if_ok, if_err}
use Rattle.tlb_text.proofs.answering.answer_events.Goals as goal

pub returns-in_err-counts-clause-none : goal.returns-in_err-counts-clause-none
returns-in_err-counts-clause-none c =
    let p = err_from_is_err_and c.from_residual.result c.from_residual.ensures.1 in
    rw (p.1, p.2) (IfBad-weaker c.in_err-counts.field-0.0 (FaultFrom AreEventLines c.of-lines.result []) (λ n. ¬ IsEventText c.args.bytes.now)
    (λ n f. fault_refuses c.args.bytes.now n (first_fault AreEventLines c.args.bytes.now c.of-lines.result n c.of-lines.ensures.bytes c.of-lines.ensures.taken f)) c.in_err-counts.ensures.bad)

pub returns-clause-answered : goal.returns-clause-answered
returns-clause-answered c =
    let header = c.in_ok-counts.ensures.ok in
    if_ok c.answer_lines.result (λ out. Answered (record { cpus = c.in_ok-counts.counts.cpus; frames = c.in_ok-counts.counts.frames }) c.read_counts.new.lines c.answer_lines.new.lines out.items × (c.answer_lines.new.lines.bytes ≡ []))
    (λ out. AnswersText c.args.bytes.now out.items)
    (λ out h. whole_text c.args.bytes.now c.of-lines.result c.read_counts.new.lines c.answer_lines.new.lines (record { cpus = c.in_ok-counts.counts.cpus; frames = c.in_ok-counts.counts.frames }) out.items
    c.of-lines.ensures.bytes header.0 header.1 h.0 h.1)
    c.answer_lines.ensures.ok

pub returns-clause-bad : goal.returns-clause-bad
returns-clause-bad c =
    let header = c.in_ok-counts.ensures.ok in
    if_err c.answer_lines.result (λ fault. IfBad fault (FaultFrom AreEventLines c.read_counts.new.lines (sizes_lines (record { cpus = c.in_ok-counts.counts.cpus; frames = c.in_ok-counts.counts.frames }))))
    (λ fault. IfBad fault (IsFirstFault c.args.bytes.now))
    (λ fault. IfBad-weaker fault (FaultFrom AreEventLines c.read_counts.new.lines (sizes_lines (record { cpus = c.in_ok-counts.counts.cpus; frames = c.in_ok-counts.counts.frames }))) (IsFirstFault c.args.bytes.now)
    (λ n f. first_behind c.args.bytes.now c.of-lines.result c.read_counts.new.lines (record { cpus = c.in_ok-counts.counts.cpus; frames = c.in_ok-counts.counts.frames }) n
    c.of-lines.ensures.bytes c.of-lines.ensures.taken header.1 f))
    c.answer_lines.ensures.bad

pub returns-clause-none : goal.returns-clause-none
returns-clause-none c =
    let header = c.in_ok-counts.ensures.ok in
    if_err c.answer_lines.result (λ fault. IfBad fault (FaultFrom AreEventLines c.read_counts.new.lines (sizes_lines (record { cpus = c.in_ok-counts.counts.cpus; frames = c.in_ok-counts.counts.frames }))))
    (λ fault. IfBad fault (λ n. ¬ IsEventText c.args.bytes.now))
    (λ fault. IfBad-weaker fault (FaultFrom AreEventLines c.read_counts.new.lines (sizes_lines (record { cpus = c.in_ok-counts.counts.cpus; frames = c.in_ok-counts.counts.frames }))) (λ n. ¬ IsEventText c.args.bytes.now)
    (λ n f. fault_refuses c.args.bytes.now n (first_behind c.args.bytes.now c.of-lines.result c.read_counts.new.lines (record { cpus = c.in_ok-counts.counts.cpus; frames = c.in_ok-counts.counts.frames }) n
    c.of-lines.ensures.bytes c.of-lines.ensures.taken header.1 f)))
    c.answer_lines.ensures.bad
