use Rattle.std.proofs.Common.{◌<◌, length}
use Rattle.std.specs.List.{All}
use Rattle.mm_script.specs.CallLine.{IsCall}
use Rattle.mm_script.specs.ScriptText.{most_threads}
use Rattle.mm_script.specs.Reading.{Passes}
use Rattle.mm_script.proofs.ThreadLines.{rest_lines}
use Rattle.mm_script.proofs.threads.read_threads.Given as goal

-- the lines so far are those of the threads and of the calls of a last one
abbrev pub invariant-loop-line : goal.invariant-loop-line
invariant-loop-line l = record {
  passed : Passes l.fn.lines l.lines (rest_lines l.threads.items l.calls.items);
  are_threads : All (All IsCall) l.threads.items;
  are_calls : All IsCall l.calls.items;
  few : length l.threads.items < most_threads;
}

abbrev pub decreases-loop-line : goal.decreases-loop-line
decreases-loop-line l = length l.lines.bytes
