-- An answered call of a later version is no one's of this version.
use Rattle.std.proofs.Common.{◌<◌, subst}
use Rattle.history_lines.proofs.OneEntry.{later_entry}
use Rattle.history_lines.proofs.entries.read_entry_of.Goals as goal

pub returns-else-since-version-clause-none : goal.returns-else-since-version-clause-none
returns-else-since-version-clause-none c =
    let found = rw c.in-Some.is at c.in_ok-entry.ensures.found in
    later_entry c.args.version c.args.line.now c.in-Some.entry found.0 found.1 (subst (λ n. c.args.version < n) c.since.ensures c.if-since-version.false)
