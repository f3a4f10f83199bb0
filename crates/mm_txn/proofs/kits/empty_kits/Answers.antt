use Rattle.std.proofs.Common.{◌∷◌, [], length, length-append, ap, arith}
use Rattle.std.proofs.lemmas.List.Elements.{All-push, All-same}
use Rattle.mm_txn.specs.Starting.{IsReadyKit}
use Rattle.mm_txn.proofs.kits.empty_kits.Goals as goal

pub loop-preserved : goal.loop-preserved
loop-preserved c = record {
  count = omega (arith, ap length c.in_ok-push.ensures.items, length-append c.loop.kits.items ((c.in_ok-kit.kit, c.in_ok-held.held) ∷ []), c.loop.invariant.count);
  ready = All-same (IsReadyKit c.args.rows) _ _ c.in_ok-push.ensures.items (All-push (IsReadyKit c.args.rows) c.loop.kits.items (c.in_ok-kit.kit, c.in_ok-held.held) c.loop.invariant.ready
      (c.in_ok-kit.ensures.room, c.in_ok-kit.ensures.ungranted, c.in_ok-kit.ensures.idle, c.in_ok-kit.ensures.unplanned, c.in_ok-held.ensures.0, c.in_ok-held.ensures.1));
}
