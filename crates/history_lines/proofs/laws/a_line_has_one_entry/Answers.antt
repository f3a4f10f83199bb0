use Rattle.history_lines.proofs.OneEntry.{entry_line_injective}
use Rattle.history_lines.proofs.laws.a_line_has_one_entry.Goals as goal

pub returns : goal.returns
returns c = entry_line_injective
