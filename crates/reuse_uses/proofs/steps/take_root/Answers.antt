use Rattle.std.proofs.Common.{inl, inr, refl, ap, ◌∙◌}
use Rattle.walk_core.specs.Events.{top}
use Rattle.row_layout.specs.declared.places.Layout.{Layout}
use Rattle.row_table.specs.Passes.{view_of}
use Rattle.reuse_uses.specs.Kept.{View}
use Rattle.reuse_uses.proofs.Roots.{stands_on_root, holds_it, took}
use Rattle.reuse_uses.proofs.steps.take_root.Goals as goal

pub look-link-requires-clause-guard : goal.look-link-requires-clause-guard
look-link-requires-clause-guard c κs = inl (top, ap (λ (v : View). v.core.stand) c.in-Ok.ensures.enters.1, refl)

pub grab-requires-clause-guard : goal.grab-requires-clause-guard
grab-requires-clause-guard c κs = let l = c.look-link.ensures.looks in
    inl (stands_on_root _ _ _ l.0.place (ap (λ (v : View). v.core.stand) c.in-Ok.ensures.enters.1) l.1 c.if-link-ne-ROOT.false)

pub look-word-requires-clause-guard : goal.look-word-requires-clause-guard
look-word-requires-clause-guard c κs = let g = c.in-Got.ensures.grabs in inr (holds_it _ _ _ g.0 _ g.2 c.leave.ensures.leaves)

pub returns : goal.returns
returns c = let l = c.look-link.ensures.looks in let g = c.in-Got.ensures.grabs in let m = c.look-word.ensures.looks in (
  c.look-word.ensures.table ∙ (c.leave.ensures.table ∙ (c.in-Got.ensures.table ∙ (c.look-link.ensures.table ∙ (c.in-Ok.ensures.table ∙ c.requires.table)))),
  took (view_of c.args.pass) (view_of c.enter.new.self) (view_of c.look-link.new.self) (view_of c.grab.new.self) (view_of c.leave.new.self) (view_of c.look-word.new.self) c.look-link.result c.look-word.result _ l.0.place
      (ap (λ (k : Layout). k.levels) c.in-Ok.ensures.layout ∙ c.requires.levels) c.requires.idle c.in-Ok.ensures.enters.1 l.1 c.if-link-ne-ROOT.false g.0 g.2 c.leave.ensures.leaves m.0 m.1 c.if-word-ne0.false,
)
