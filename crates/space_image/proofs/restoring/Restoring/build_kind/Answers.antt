use Rattle.std.proofs.Common.{subst}
use Rattle.space_image.specs.Restoring.{AreEntered, calls_of_kind}
use Rattle.space_image.proofs.Entering.{more_entered}
use Rattle.space_image.proofs.restoring.Restoring.build_kind.Goals as goal

pub loop-item-preserved : goal.loop-item-preserved
loop-item-preserved c = record {
  fits = c.build_of.ensures.fits;
  entered = more_entered (calls_of_kind c.args.kind) c.args.items.now c.loop-item.item-index c.item-item.result c.args.self.now.plain c.loop-item.self.plain c.build_of.new.self.plain
      c.args.self.now.entries.items c.loop-item.self.entries.items c.build_of.new.self.entries.items c.loop-item-test.true c.loop-item.invariant.entered
      (subst (λ x. AreEntered c.loop-item.self.plain c.build_of.new.self.plain c.loop-item.self.entries.items c.build_of.new.self.entries.items (calls_of_kind c.args.kind x)) c.item-item.is c.in_ok-build_of.ensures.ok);
}
