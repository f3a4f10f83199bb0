use Rattle.std.proofs.Common.{refl, inl, inr}
use Rattle.cursor_apply.proofs.PlacedRows.{is_filled}
use Rattle.cursor_apply.proofs.placing.place.Goals as goal

pub returns-in-Some-clause-put : goal.returns-in-Some-clause-put
returns-in-Some-clause-put c = record {
  order = c.leaf_row_in.ensures.order;
  put = inr (is_filled c.args.space c.args.page c.args.reference c.args.held.now.rows c.in-Some.at c.in-Some.ensures.leaf c.content_mut.result.now c.content_mut.ensures.content c.fill.new.cells c.fill.ensures);
}

pub returns-in_default-clause-put : goal.returns-in_default-clause-put
returns-in_default-clause-put c = record { order = c.leaf_row_in.ensures.order; put = inl (c.in_default.ensures.leaf, refl) }
