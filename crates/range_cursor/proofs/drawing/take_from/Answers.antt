use Rattle.std.proofs.Common.{ap, inr}
use Rattle.tree_lock.specs.Held.{with_content}
use Rattle.range_cursor.proofs.drawing.take_from.Goals as goal

pub returns-clause-taken : goal.returns-clause-taken
returns-clause-taken c =
    let told = c.take_reference.ensures in
    inr (
      record {
        place = c.args.place;
        is_leaf = c.requires;
        cell = told.0;
        content = c.content_mut.result.now;
        content_is = c.content_mut.ensures.content;
        there = told.1;
      },
      ap (with_content c.args.held.now.rows c.args.place) told.2,
      told.3,
    )
