use Rattle.std.specs.Prelude.{◌≡◌, ◌+◌, ◌<◌, ℕ, suc}
use Rattle.std.proofs.Common.{sym, subst, arith, ◌∙◌}
use Rattle.row_table.specs.Passes.{view_of}
use Rattle.cursor_detach.proofs.Lists.{any_default}
use Rattle.cursor_apply.specs.Linking.{LinksAt, MayLinkAt, LinkedSoFar}
use Rattle.cursor_apply.proofs.StagedStep.{next_there, may_link, one_more, links_next}
use Rattle.cursor_apply.proofs.linking.link_next.Goals as goal

pub index-requires : goal.index-requires
index-requires g c =
    let m = c.requires.ready in
    subst (λ n. c.args.next < n) (sym c.args.kit.now.rows.ok.0) (next_there m.0 m.1 m.2 m.3 c.args.kit.now c.args.next m.4 m.5 (view_of c.args.pass.now) c.args.held.now.rows c.args.place m.7)

pub link_row-requires-clause-may : goal.link_row-requires-clause-may
link_row-requires-clause-may g c κs within =
    let m = c.requires.ready in
    let is = m.7 in
    subst (λ n. MayLinkAt n c.index.result.now.0 c.index.result.now.1 c.args.place c.args.held.now.rows (view_of c.args.pass.now)) (sym m.6.count_is)
    (may_link m.0 m.1 m.2 m.3 c.args.kit.now m.4 m.5 c.args.levels c.args.held.now.room m.6 c.args.next (view_of c.args.pass.now) c.args.held.now.rows is.so_far c.args.place is.wanted is.absent c.index.result.now (λ d. any_default c.args.kit.now.rows.items c.args.next d c.index.result.now (next_there m.0 m.1 m.2 m.3 c.args.kit.now c.args.next m.4 m.5 (view_of c.args.pass.now) c.args.held.now.rows c.args.place m.7) ∙ sym c.index.ensures) is.up.0 is.up.1 is.up.2)

pub link_row-requires-clause-room : goal.link_row-requires-clause-room
link_row-requires-clause-room g c κs within =
    let m = c.requires.ready in
    let there = next_there m.0 m.1 m.2 m.3 c.args.kit.now c.args.next m.4 m.5 (view_of c.args.pass.now) c.args.held.now.rows c.args.place m.7 in
    let enough = m.6.enough in
    let count = m.7.so_far.count in
    omega (arith, there, enough, count)

pub returns-clause-links : goal.returns-clause-links
returns-clause-links g c = λ a b thread call v rows ready is.
    let m = c.requires.ready in
    subst (λ n. LinkedSoFar a b thread call c.args.kit.now n v rows (view_of c.link_row.new.pass) c.link_row.new.held.rows) (plus c.args.next)
    (one_more a b thread call c.args.kit.now v rows c.args.levels c.args.held.now.room ready c.args.next (view_of c.args.pass.now) c.args.held.now.rows is.so_far c.args.place is.wanted is.absent c.index.result.now (λ d. any_default c.args.kit.now.rows.items c.args.next d c.index.result.now (next_there m.0 m.1 m.2 m.3 c.args.kit.now c.args.next m.4 m.5 (view_of c.args.pass.now) c.args.held.now.rows c.args.place m.7) ∙ sym c.index.ensures) is.up.0 is.up.1 is.up.2
    c.rows.ensures.order c.rows.ensures.once c.has_whole_rows.ensures c.link_row.new.held.rows (view_of c.link_row.new.pass)
    (subst (λ n. LinksAt n c.index.result.now.0 c.index.result.now.1 c.args.place c.args.held.now.rows (view_of c.args.pass.now) c.link_row.new.held.rows (view_of c.link_row.new.pass)) ready.count_is c.link_row.ensures.links))
  where
    plus : (n : ℕ) → suc n ≡ n + 1
    plus n = omega arith

pub returns-clause-list : goal.returns-clause-list
returns-clause-list g c =
    let m = c.requires.ready in
    let is = m.7 in
    links_next m.0 m.1 m.2 m.3 c.args.kit.now m.4 m.5 c.args.levels c.args.held.now.room m.6 c.args.next (view_of c.args.pass.now) c.args.held.now.rows is.so_far c.args.place is.wanted is.absent c.index.result.now (λ d. any_default c.args.kit.now.rows.items c.args.next d c.index.result.now (next_there m.0 m.1 m.2 m.3 c.args.kit.now c.args.next m.4 m.5 (view_of c.args.pass.now) c.args.held.now.rows c.args.place m.7) ∙ sym c.index.ensures) is.up.0 is.up.1 is.up.2
    c.rows.ensures.order c.rows.ensures.once c.has_whole_rows.ensures c.link_row.new.held.rows (view_of c.link_row.new.pass)
    (subst (λ n. LinksAt n c.index.result.now.0 c.index.result.now.1 c.args.place c.args.held.now.rows (view_of c.args.pass.now) c.link_row.new.held.rows (view_of c.link_row.new.pass)) m.6.count_is c.link_row.ensures.links)
