use Rattle.std.proofs.Common.{sym, refl, ◌∙◌, arith}
use Rattle.row_table.specs.Passes.{view_of}
use Rattle.cursor_detach.proofs.Empty.{starts_empty, all_empty, none_there}
use Rattle.cursor_detach.proofs.emptying.empty_row.Goals as goal

pub returns-then-used-eq0-clause-blank : goal.returns-then-used-eq0-clause-blank
returns-then-used-eq0-clause-blank g c = (none_there c.args.row (view_of c.args.pass.now) c.args.cells.now c.requires.may (sym c.used.ensures.value ∙ c.if-used-eq0.true)).0

pub returns-then-used-eq0-clause-empties : goal.returns-then-used-eq0-clause-empties
returns-then-used-eq0-clause-empties g c = (none_there c.args.row (view_of c.args.pass.now) c.args.cells.now c.requires.may (sym c.used.ensures.value ∙ c.if-used-eq0.true)).1

pub loop-index-init : goal.loop-index-init
loop-index-init g c = record { table = refl; same = refl; so_far = starts_empty c.args.row c.args.cells.now (view_of c.args.pass.now) c.requires.may }

pub returns-clause-blank : goal.returns-clause-blank
returns-clause-blank g c = (all_empty c.args.row c.loop-index.index (view_of c.args.pass.now) c.loop-index.cells (view_of c.loop-index.pass) (omega arith) c.loop-index.invariant.so_far).0
