use Rattle.std.proofs.Common.{ap, ◌∙◌, arith}
use Rattle.row_table.specs.Passes.{view_of, layout_of}
use Rattle.reuse_uses.specs.Kept.{View}
use Rattle.reuse_uses.proofs.Lists.{may_draw}
use Rattle.reuse_uses.proofs.Roots.{granted_one}
use Rattle.reuse_uses.proofs.steps.grant.Goals as goal

pub give-requires-clause-may : goal.give-requires-clause-may
give-requires-clause-may c κs = let t = c.in-Got.ensures.turns in record {
  old = c.in-Got.stock;
  found = ap (λ (v : View). v.found) t.1;
  may = may_draw (layout_of c.args.iron.now) (view_of c.turn.new.self) c.in-Got.stock c.draw.new.self _ _ (ap (λ (v : View). v.core.has_book) t.1) (λ q. let o = t.0.once q in omega arith) c.in_ok-row.ensures;
}

pub returns : goal.returns
returns c = let t = c.in-Got.ensures.turns in (
  c.give.ensures.table ∙ (c.in-Got.ensures.table ∙ c.requires.table),
  granted_one (layout_of c.args.iron.now) _ _ _ _ c.in-Got.stock c.draw.new.self _ _ c.requires.root.0 c.requires.root.1 t.0 t.1 c.give.ensures.gives c.in_ok-row.ensures,
)
