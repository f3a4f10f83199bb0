use Rattle.std.proofs.Common.{ap}
use Rattle.std.specs.Map.{lookup}
use Rattle.std.specs.BTreeMap.{is_at}
use Rattle.pageout.specs.Index.{key_cmp}
use Rattle.pageout.proofs.Owned.{owner_put, owner_back}
use Rattle.pageout.proofs.marks.Marks.put.Goals as goal

pub invariant_of-self-in-Ok : goal.invariant_of-self-in-Ok
invariant_of-self-in-Ok c = record {
  owners = owner_put c.args.self.now.by_page c.insert-2.new.self c.args.key c.args.mark c.requires c.in-Ok.ensures.updates.0 c.args.self.now.by_frame c.insert.new.self c.args.self.now.owners
      c.in_ok-insert.ensures.updates.0;
}

pub invariant_of-self-in-Err : goal.invariant_of-self-in-Err
invariant_of-self-in-Err c = record {
  owners = owner_back c.args.self.now.by_page c.insert-2.new.self c.args.key c.args.mark.frame c.args.self.now.by_frame c.insert.new.self c.remove.new.self c.args.self.now.owners c.requires
      (λ q. ap (lookup (is_at (key_cmp q))) c.in-Err.ensures.err) c.in_ok-insert.ensures.updates.0 c.remove.ensures.updates.0;
}
