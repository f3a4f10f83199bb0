use Rattle.std.proofs.Common.{sym, subst}
use Rattle.text_words.proofs.Passing.{Passes-line}
use Rattle.text_words.specs.Passing.{FaultFrom}
use Rattle.tlb_text.specs.EventText.{AreEventLines, sizes_lines}
use Rattle.tlb_text.proofs.Behind.{answering_more, line_fault}
use Rattle.tlb_text.proofs.answering.answer_lines.Goals as goal

pub returns-in_default-read_event-clause-bad : goal.returns-in_default-read_event-clause-bad
returns-in_default-read_event-clause-bad c =
    let line = c.in-Some.line.now in
    subst (FaultFrom AreEventLines c.args.lines.now (sizes_lines (record { cpus = c.args.counts.cpus; frames = c.args.counts.frames }))) (sym c.taken.ensures.value)
    (line_fault (record { cpus = c.args.counts.cpus; frames = c.args.counts.frames }) c.args.lines.now c.loop-line.lines c.loop-line.tlb c.loop-line.out.items c.requires c.loop-line.invariant
    c.next_line.new.self line (Passes-line c.loop-line.lines c.next_line.new.self line c.in-Some.ensures.is_line c.in-Some.ensures.line c.in-Some.ensures.taken)
    c.in_default-read_event.ensures.none)

pub loop-line-preserved : goal.loop-line-preserved
loop-line-preserved c =
    let line = c.in-Some.line.now in
    let found = c.in-Some-read_event.ensures.found in
    answering_more (record { cpus = c.args.counts.cpus; frames = c.args.counts.frames }) c.args.lines.now c.loop-line.lines c.next_line.new.self c.loop-line.tlb c.step.new.self
    c.loop-line.out.items c.push_answer.new.out.items line c.in-Some-read_event.event c.step.result c.loop-line.invariant
    (Passes-line c.loop-line.lines c.next_line.new.self line c.in-Some.ensures.is_line c.in-Some.ensures.line c.in-Some.ensures.taken)
    found.0 found.1 c.step.ensures.shown c.step.ensures.sizes c.in_ok-push_answer.ensures
