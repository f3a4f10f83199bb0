use Rattle.std.specs.Prelude.{◌+◌}
use Rattle.std.proofs.Common.{sym, subst}
use Rattle.cursor_apply.specs.Linking.{IsLinking, IsLow}
use Rattle.cursor_apply.proofs.AbovePages.{still_reached}
use Rattle.cursor_apply.proofs.towers.link_cut.Goals as goal

pub link_page-between-requires-clause-ready : goal.link_page-between-requires-clause-ready
link_page-between-requires-clause-ready g c κs within =
    let m = c.requires.ready in
    (m.0, m.1, m.2, m.3, m.4, m.5, m.6, m.7, m.8.near c.low_of-near.result (subst (λ n. IsLow n c.args.first c.low_of-near.result) m.6.count_is c.low_of-near.ensures))

pub link_page-requires-clause-ready : goal.link_page-requires-clause-ready
link_page-requires-clause-ready g c κs within =
    let m = c.requires.ready in (
      m.0,
      m.1,
      m.2,
      m.3,
      m.4,
      m.5,
      subst (λ n. IsLinking c.args.levels n m.0 m.1 m.2 m.3 c.args.kit.now m.4 m.5) (sym c.link_page-between.ensures.room) m.6,
      c.link_page-between.ensures.links m.0 m.1 m.2 m.3 m.4 m.5 m.6 m.7 (m.8.near c.low_of-near.result (subst (λ n. IsLow n c.args.first c.low_of-near.result) m.6.count_is c.low_of-near.ensures)),
      m.8.far c.low_of-far.result (subst (λ n. IsLow n (c.args.first + c.args.count) c.low_of-far.result) m.6.count_is c.low_of-far.ensures),
    )

pub returns-clause-links : goal.returns-clause-links
returns-clause-links g c = λ a b thread call v rows ready so may.
    c.link_page.ensures.links a b thread call v rows (subst (λ n. IsLinking c.args.levels n a b thread call c.args.kit.now v rows) (sym c.link_page-between.ensures.room) ready)
    (c.link_page-between.ensures.links a b thread call v rows ready so (may.near c.low_of-near.result (subst (λ n. IsLow n c.args.first c.low_of-near.result) ready.count_is c.low_of-near.ensures)))
    (may.far c.low_of-far.result (subst (λ n. IsLow n (c.args.first + c.args.count) c.low_of-far.result) ready.count_is c.low_of-far.ensures))

pub returns-clause-reached : goal.returns-clause-reached
returns-clause-reached g c = record {
  near_low = c.low_of-near.result;
  near_is = c.low_of-near.ensures;
  near = still_reached c.args.space c.args.first c.low_of-near.result c.link_page-between.new.held.rows c.link_page.new.held.rows c.link_page.ensures.kept c.link_page-between.ensures.reached;
  far_low = c.low_of-far.result;
  far_is = c.low_of-far.ensures;
  far = c.link_page.ensures.reached;
}

pub returns-clause-kept : goal.returns-clause-kept
returns-clause-kept g c = λ p l. c.link_page.ensures.kept p (c.link_page-between.ensures.kept p l)
