use Rattle.book.proofs.WorkedRow.{first_filled, second_sum, second_filled, third_sum}
use Rattle.book.proofs.tests.map_two.Goals as goal

pub map_one-requires-clause-filled : goal.map_one-requires-clause-filled
map_one-requires-clause-filled c = first_filled c.args.book.now c.requires

pub map_one-requires-2-clause-sum : goal.map_one-requires-2-clause-sum
map_one-requires-2-clause-sum c = second_sum c.args.book.now c.requires c.map_one.new.book c.in_ok-first.ensures

pub map_one-requires-2-clause-filled : goal.map_one-requires-2-clause-filled
map_one-requires-2-clause-filled c = second_filled c.args.book.now c.requires c.map_one.new.book c.in_ok-first.ensures

pub accounts-accounts-requires : goal.accounts-accounts-requires
accounts-accounts-requires c = third_sum c.args.book.now c.requires c.map_one.new.book c.in_ok-first.ensures c.map_one-2.new.book c.in_ok-second.ensures
