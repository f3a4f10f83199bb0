-- The entry that was written is the first of those that were left.
use Rattle.std.proofs.Common.{◌<◌, ◌+◌, [], ◌++◌, drop, length, refl, arith}
use Rattle.byte_streams.proofs.Known.{risen}
use Rattle.text_words.specs.Layout.{ended}
use Rattle.history_lines.specs.HistoryText.{entry_line}
use Rattle.history_lines.proofs.Parts.{passed_start, part_of_all, passed_of_all, next_of, next_entry_line}
use Rattle.history_lines.proofs.writer.write_entries.Goals as goal

pub loop-entry-init : goal.loop-entry-init
loop-entry-init g c = ([], passed_start _ _, refl, omega arith)

pub loop-entry-preserved : goal.loop-entry-preserved
loop-entry-preserved g c =
    let before = c.loop-entry.invariant in
    let entries = c.args.entries.now in
    let inside : c.loop-entry.entry-index < length entries = omega (arith, c.loop-entry-test.true) in
    let next = next_of entries c.loop-entry.entry-index c.entry-item.result inside c.entry-item.is in
    let whole = next_entry_line _ (drop (c.loop-entry.entry-index + 1) entries) c.entry-item.result before.0 _ next before.2 in
    let both = passed_of_all _ _ _ c.args.waiting.now.items before.0 _ _ _ _ _ before.1 c.in-Whole.ensures.written whole in
    (before.0 ++ ended (entry_line c.entry-item.result), both.0, both.1, omega (arith, before.3, c.in-Whole.ensures.count))

pub returns-in-Failed-clause-written : goal.returns-in-Failed-clause-written
returns-in-Failed-clause-written g c =
    let before = c.loop-entry.invariant in
    let entries = c.args.entries.now in
    let inside : c.loop-entry.entry-index < length entries = omega (arith, c.loop-entry-test.true) in
    let next = next_of entries c.loop-entry.entry-index c.entry-item.result inside c.entry-item.is in
    let whole = next_entry_line _ _ c.entry-item.result before.0 _ next before.2 in (
      part_of_all _ _ _ c.args.waiting.now.items before.0 _ _ _ _ before.1 c.in-Failed.ensures.written.0 whole,
      risen _ _ _ before.3 c.in-Failed.ensures.count c.in-Failed.ensures.written.1,
    )

pub returns-in-NoMemory-clause-written : goal.returns-in-NoMemory-clause-written
returns-in-NoMemory-clause-written g c =
    let before = c.loop-entry.invariant in
    let entries = c.args.entries.now in
    let inside : c.loop-entry.entry-index < length entries = omega (arith, c.loop-entry-test.true) in
    let next = next_of entries c.loop-entry.entry-index c.entry-item.result inside c.entry-item.is in
    let whole = next_entry_line _ _ c.entry-item.result before.0 _ next before.2 in
    part_of_all _ _ _ c.args.waiting.now.items before.0 _ _ _ _ before.1 c.in-NoMemory.ensures.written whole
