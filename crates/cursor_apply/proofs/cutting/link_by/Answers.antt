use Rattle.std.specs.Prelude.{Option}
use Rattle.std.proofs.Common.{sym, subst}
use Rattle.cursor_apply.specs.declared.becoming.RangeChange.{RangeChange}
use Rattle.cursor_apply.specs.Transacting.{MayLinkBy}
use Rattle.cursor_apply.proofs.cutting.link_by.Goals as goal

pub link_cut-requires-clause-ready : goal.link_cut-requires-clause-ready
link_cut-requires-clause-ready g c κs within =
    let m = c.requires.ready in
    (m.0, m.1, m.2, m.3, m.4, m.5, m.6, m.7, (subst (λ (o : Option RangeChange). MayLinkBy m.0 m.1 m.5 c.args.space o) (sym c.in-Some.ensures) m.8).0)

pub returns-in-Some-clause-links : goal.returns-in-Some-clause-links
returns-in-Some-clause-links g c = λ a b thread call v rows ready so may.
    c.link_cut.ensures.links a b thread call v rows ready so (subst (λ (o : Option RangeChange). MayLinkBy a b rows c.args.space o) (sym c.in-Some.ensures) may).0
