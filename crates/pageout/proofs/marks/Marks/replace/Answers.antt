use Rattle.std.proofs.Common.{sym, ap, ◌∙◌}
use mathlib.Core.Bool.{true≢false}
use Rattle.pageout.specs.Index.{has_frame}
use Rattle.pageout.proofs.Owned.{owner_kept, surely}
use Rattle.pageout.proofs.marks.Marks.replace.Goals as goal

pub invariant_of-self : goal.invariant_of-self
invariant_of-self c = record {
  owners = owner_kept c.args.self.now.by_page c.insert.new.self c.args.key c.args.mark c.args.self.now.by_frame c.args.self.now.owners c.requires
      (surely c.insert.result c.insert.ensures.updates c.insert.ensures.absent (λ none. true≢false (sym c.requires ∙ ap (λ o. has_frame o c.args.mark.frame) none))).0;
}
