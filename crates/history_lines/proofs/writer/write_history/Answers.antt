-- The header, the entries and the accounts are the text.
use Rattle.std.proofs.Common.{◌++◌}
use Rattle.text_words.specs.Layout.{text}
use Rattle.history_lines.specs.declared.history.History.{History}
use Rattle.history_lines.specs.Accounting.{account_lines}
use Rattle.history_lines.specs.HistoryText.{lines_of, history_text}
use Rattle.history_lines.proofs.Parts.{finished, part_of_text, text_parts}
use Rattle.history_lines.proofs.writer.write_history.Goals as goal

pub returns-in-Whole-clause-written : goal.returns-in-Whole-clause-written
returns-in-Whole-clause-written g c =
    let h : History = record { version = 2; limits = c.args.limits; shelf = c.args.shelf.now; entries = c.args.entries.now; accounts = c.args.accounts.now } in
    finished _ _ _ _ _ _ _ _ _ (history_text h) c.write_accounts.result c.in-Whole.ensures.written c.in-Whole.ensures.count c.write_accounts.ensures.count
    (text_parts h c.new-waiting.result.items c.push_header.new.out.items c.new-waiting.ensures.items c.in-Ok.ensures) c.write_accounts.ensures.written

pub returns-in-Failed-clause-written : goal.returns-in-Failed-clause-written
returns-in-Failed-clause-written g c =
    let h : History = record { version = 2; limits = c.args.limits; shelf = c.args.shelf.now; entries = c.args.entries.now; accounts = c.args.accounts.now } in (
      part_of_text _ _ (c.push_header.new.out.items ++ lines_of h.entries) (text (account_lines h.accounts)) (history_text h)
          (text_parts h c.new-waiting.result.items c.push_header.new.out.items c.new-waiting.ensures.items c.in-Ok.ensures) c.in-Failed.ensures.written.0,
      c.in-Failed.ensures.written.1,
    )

pub returns-clause-written : goal.returns-clause-written
returns-clause-written g c =
    let h : History = record { version = 2; limits = c.args.limits; shelf = c.args.shelf.now; entries = c.args.entries.now; accounts = c.args.accounts.now } in
    part_of_text _ _ (c.push_header.new.out.items ++ lines_of h.entries) (text (account_lines h.accounts)) (history_text h)
    (text_parts h c.new-waiting.result.items c.push_header.new.out.items c.new-waiting.ensures.items c.in-Ok.ensures) c.in-NoMemory.ensures.written
