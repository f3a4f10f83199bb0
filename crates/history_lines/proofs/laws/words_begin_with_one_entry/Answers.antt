use Rattle.history_lines.proofs.OneEntry.{one_entry}
use Rattle.history_lines.proofs.laws.words_begin_with_one_entry.Goals as goal

pub returns : goal.returns
returns c = λ a b x y ha hb same. let one = one_entry a b x y ha hb same in (one.entries, one.rest)
