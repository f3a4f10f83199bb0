use Rattle.std.proofs.Common.{sym, ◌∙◌}
use Rattle.std.specs.BTreeMap as tree
use Rattle.pageout.specs.Index.{key_cmp}
use Rattle.pageout.proofs.Owned.{owner_taken, without}
use Rattle.pageout.proofs.marks.Marks.take.Goals as goal

pub invariant_of-self : goal.invariant_of-self
invariant_of-self c =
    let back = without (tree.get key_cmp c.remove.new.self) (tree.get key_cmp c.args.self.now.by_page) c.args.key c.in-Some.old (sym c.remove.ensures.value ∙ c.in-Some.is) c.remove.ensures.updates.0 in
    record {
      owners = owner_taken c.remove.new.self c.args.self.now.by_page c.args.key c.in-Some.old back.0 back.1 c.args.self.now.by_frame c.remove-in-Some.new.self c.args.self.now.owners c.remove-in-Some.ensures.updates.0;
    }
