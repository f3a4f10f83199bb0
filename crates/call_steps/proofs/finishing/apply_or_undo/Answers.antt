use Rattle.call_steps.proofs.finishing.apply_or_undo.Goals as goal

pub returns-then-not-kit-clause-applies : goal.returns-then-not-kit-clause-applies
returns-then-not-kit-clause-applies c a b thread x ok link txn = c.undo.ensures.applies a b thread x ok

pub apply_transaction-requires-clause-ready : goal.apply_transaction-requires-clause-ready
apply_transaction-requires-clause-ready c κs = let r = c.requires.ready in (r.0, r.1, r.2, r.3, r.4, r.5 c.if-not-kit.false, r.6)

pub returns-clause-applies : goal.returns-clause-applies
returns-clause-applies c a b thread x ok link txn = c.apply_transaction.ensures.applies a b thread x ok (link c.if-not-kit.false) txn
