use Rattle.std.proofs.Common.{subst}
use Rattle.corten_base.specs.declared.calls.Call.{Call}
use Rattle.machine_plan.specs.Kits.{Commits}
use Rattle.book.proofs.tests.map_one.Goals as goal

pub commit-requires-clause-swept : goal.commit-requires-clause-swept
commit-requires-clause-swept c = c.requires.swept c.in_ok-kit.kit

pub returns-in-Ok : goal.returns-in-Ok
returns-in-Ok c = record {
  kit = c.in_ok-kit.kit;
  kit' = c.commit.new.kit;
  reply = c.in-Ok.answered.reply;
  is_kit = c.in_ok-kit.ensures;
  commits = subst (λ (call : Call). Commits c.args.book.now 0 call c.in_ok-kit.kit c.in-Ok.answered.reply c.commit.new.self c.commit.new.kit) c.in-Some.ensures c.in-Ok.ensures.commits;
}
