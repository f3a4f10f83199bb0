use Rattle.std.proofs.Common.{length}
use Rattle.tlb_text.proofs.Behind.{Answering}
use Rattle.tlb_text.proofs.answering.answer_lines.Given as goal

-- the events of the lines so far are answered
abbrev pub invariant-loop-line : goal.invariant-loop-line
invariant-loop-line l = Answering (record { cpus = l.counts.cpus; frames = l.counts.frames }) l.fn.lines l.lines l.tlb l.out.items

abbrev pub decreases-loop-line : goal.decreases-loop-line
decreases-loop-line l = length l.lines.bytes
