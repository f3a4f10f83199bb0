use Rattle.std.proofs.Common.{◌+◌, arith}
use Rattle.row_table.proofs.Start.{words_listed, if_ok}
use Rattle.row_table.proofs.boot.boot_words.Goals as goal

pub returns : goal.returns
returns c = let n = c.book.ensures in if_ok _ _ (λ words is. words_listed c.args.layout.now c.requires c.in_ok-start.start words.items (c.book.result + 1) c.in_ok-start.ensures.start (omega arith) is) c.words_of.result c.words_of.ensures
