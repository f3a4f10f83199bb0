use Rattle.std.proofs.Common.{◌≡◌, Some, sym, ap, subst, ◌∙◌}
use Rattle.std.specs.Option.{option_copied}
use Rattle.std.specs.FinMap as map
use Rattle.plain_counts.specs.Counts.{AreCounted}
use Rattle.plain_spaces.specs.Copies.{AreLow, AreRoomy, JoinAll}
use Rattle.mm_model.proofs.NewSpaces.{get_inserted, borrowed, lent_is}
use Rattle.mm_model.proofs.spaces.put_in.Goals as goal
use Rattle.mm_model.proofs.spaces.put_in.Goals.{After-get, After-unwrap-cells}

-- the cells that were just put in
abbrev there : (c : After-get) → option_copied c.get.result ≡ Some c.args.cells
there c = c.get.ensures ∙ ap (λ m. map.get m c.args.new) c.in_ok-insert.ensures.ok ∙ get_inserted c.args.spaces.now c.args.new c.args.cells

pub unwrap-cells-requires : goal.unwrap-cells-requires
unwrap-cells-requires c = borrowed c.get.result c.args.cells (there (goal.at.unwrap-cells-requires c).After-get)

abbrev same : (c : After-unwrap-cells) → c.unwrap-cells.result.now ≡ c.args.cells
same c = lent_is c.get.result c.unwrap-cells.result c.args.cells c.unwrap-cells.ensures (c.get.ensures ∙ ap (λ m. map.get m c.args.new) c.in_ok-insert.ensures.ok ∙ get_inserted c.args.spaces.now c.args.new c.args.cells)

pub share-requires-clause-low : goal.share-requires-clause-low
share-requires-clause-low c = subst (λ m. AreLow m) (sym (same (goal.at.share-requires-clause-low c).After-unwrap-cells)) c.requires.low

pub share-requires-clause-counted : goal.share-requires-clause-counted
share-requires-clause-counted c = subst (AreCounted c.args.counts.now) (sym (same (goal.at.share-requires-clause-counted c).After-unwrap-cells)) c.requires.counted

pub share-requires-clause-room : goal.share-requires-clause-room
share-requires-clause-room c = subst (AreRoomy c.args.counts.now) (sym (same (goal.at.share-requires-clause-room c).After-unwrap-cells)) c.requires.room

pub returns-clause-counts : goal.returns-clause-counts
returns-clause-counts c = subst (JoinAll c.args.counts.now c.share.new.counts) (same (goal.at.returns-clause-counts c).After-unwrap-cells) c.share.ensures
