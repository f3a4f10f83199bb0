use Rattle.std.proofs.Common.{sym, subst, arith, ◌∙◌}
use Rattle.corten_base.specs.declared.calls.Call.{Call}
use Rattle.row_table.specs.Passes.{view_of}
use Rattle.cursor_apply.specs.Applying.{Applied}
use Rattle.cursor_apply.proofs.Kept.{applied_after, rows_emptied}
use Rattle.move_apply.proofs.RemapLinks.{goes_is, some_change}
use Rattle.move_apply.proofs.RemapStaged.{resizable, covered}
use Rattle.move_apply.proofs.remapping.apply_remap.Goals as goal

pub link_remap-requires-clause-ready : goal.link_remap-requires-clause-ready
link_remap-requires-clause-ready g c κs within =
    let m = c.requires.ready in
    (m.0, m.1, m.2, m.3, m.4, m.5, m.6.remap)

pub index-change-requires : goal.index-change-requires
index-change-requires g c =
    let m = c.requires.ready in
    let some = some_change m.0 m.1 m.2 m.3 (view_of c.args.pass.now) c.args.held.now.rows c.args.kit.now c.args.space m.4 c.requires.done m.5 m.6.remap in
    let l = c.args.kit.now.changes.ok.0 in
    omega (arith, some, l)

pub apply_moved-requires-clause-ready : goal.apply_moved-requires-clause-ready
apply_moved-requires-clause-ready g c κs within =
    let m = c.requires.ready in
    let v = view_of c.args.pass.now in
    let w = view_of c.link_remap.new.pass in
    let rows = c.args.held.now.rows in
    let staged = c.link_remap.ensures.links m.0 m.1 m.2 m.3 m.4 m.5 m.6.remap in (
      m.0,
      m.1,
      m.2,
      m.6.remap.at,
      m.6.remap.old_len,
      m.6.remap.new_len,
      record {
        goes = sym (goes_is m.0 m.1 m.2 m.3 v rows c.args.kit.now c.args.space m.4 c.requires.done m.5 m.6.remap c.index-change.result.now c.index-change.ensures) ∙ (sym c.goes_elsewhere.ensures ∙ c.if-goes_elsewhere.true);
        resizable = resizable m.0 m.1 m.2 m.3 v rows c.args.kit.now c.args.space m.4 c.requires.done m.5 m.6.remap w c.link_remap.new.held.rows staged;
      },
    )

pub apply_stayed-requires-clause-ready : goal.apply_stayed-requires-clause-ready
apply_stayed-requires-clause-ready g c κs within =
    let m = c.requires.ready in
    let v = view_of c.args.pass.now in
    let w = view_of c.link_remap.new.pass in
    let rows = c.args.held.now.rows in
    let staged = c.link_remap.ensures.links m.0 m.1 m.2 m.3 m.4 m.5 m.6.remap in (
      m.0,
      m.1,
      m.2,
      c.args.space,
      m.6.remap.at,
      m.6.remap.old_len,
      m.6.remap.new_len,
      record {
        stays = sym (goes_is m.0 m.1 m.2 m.3 v rows c.args.kit.now c.args.space m.4 c.requires.done m.5 m.6.remap c.index-change.result.now c.index-change.ensures) ∙ (sym c.goes_elsewhere.ensures ∙ c.if-goes_elsewhere.false);
        resizable = resizable m.0 m.1 m.2 m.3 v rows c.args.kit.now c.args.space m.4 c.requires.done m.5 m.6.remap w c.link_remap.new.held.rows staged;
        cover = covered m.0 m.1 m.2 m.3 v rows c.args.kit.now c.args.space m.4 c.requires.done m.5 m.6.remap w c.link_remap.new.held.rows staged m.6.top;
      },
    )

pub returns-then-goes_elsewhere-clause-applies : goal.returns-then-goes_elsewhere-clause-applies
returns-then-goes_elsewhere-clause-applies g c = λ a b thread call ready further is.
    let v = view_of c.args.pass.now in
    let w = view_of c.link_remap.new.pass in
    let rows = c.args.held.now.rows in
    let staged = c.link_remap.ensures.links a b thread call ready further is.remap in
    let z = view_of c.apply_moved.new.pass in
    applied_after b thread call v w z c.apply_moved.new.held.rows c.args.kit.now c.apply_moved.new.kit (rows_emptied v w staged.view)
    (subst (λ (x : Call). Applied b thread x w z c.apply_moved.new.held.rows c.args.kit.now c.apply_moved.new.kit) (sym is.remap.is)
    (c.apply_moved.ensures.applies a b thread is.remap.at is.remap.old_len is.remap.new_len (record {
      goes = sym (goes_is a b thread call v rows c.args.kit.now c.args.space ready c.requires.done further is.remap c.index-change.result.now c.index-change.ensures) ∙ (sym c.goes_elsewhere.ensures ∙ c.if-goes_elsewhere.true);
      resizable = resizable a b thread call v rows c.args.kit.now c.args.space ready c.requires.done further is.remap w c.link_remap.new.held.rows staged;
    })))

pub returns-else-goes_elsewhere-clause-applies : goal.returns-else-goes_elsewhere-clause-applies
returns-else-goes_elsewhere-clause-applies g c = λ a b thread call ready further is.
    let v = view_of c.args.pass.now in
    let w = view_of c.link_remap.new.pass in
    let rows = c.args.held.now.rows in
    let staged = c.link_remap.ensures.links a b thread call ready further is.remap in
    let z = view_of c.apply_stayed.new.pass in
    applied_after b thread call v w z c.apply_stayed.new.held.rows c.args.kit.now c.apply_stayed.new.kit (rows_emptied v w staged.view)
    (subst (λ (x : Call). Applied b thread x w z c.apply_stayed.new.held.rows c.args.kit.now c.apply_stayed.new.kit) (sym is.remap.is)
    (c.apply_stayed.ensures.applies a b thread c.args.space is.remap.at is.remap.old_len is.remap.new_len (record {
      stays = sym (goes_is a b thread call v rows c.args.kit.now c.args.space ready c.requires.done further is.remap c.index-change.result.now c.index-change.ensures) ∙ (sym c.goes_elsewhere.ensures ∙ c.if-goes_elsewhere.false);
      resizable = resizable a b thread call v rows c.args.kit.now c.args.space ready c.requires.done further is.remap w c.link_remap.new.held.rows staged;
      cover = covered a b thread call v rows c.args.kit.now c.args.space ready c.requires.done further is.remap w c.link_remap.new.held.rows staged is.top;
    })))
