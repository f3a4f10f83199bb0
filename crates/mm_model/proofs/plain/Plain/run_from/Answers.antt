use Rattle.std.proofs.Common.{◌≡◌, None, sym, ap, subst, ◌∙◌, arith}
use Rattle.std.specs.Option.{option_copied, unwrap_or}
use Rattle.std.specs.FinMap as map
use Rattle.page_map.specs.State.{State, cell_at}
use Rattle.mm_model.proofs.Beyond.{absent_has_none, none_beyond}
use Rattle.mm_model.proofs.plain.Plain.run_from.Goals as goal

pub returns-in_default-clause-none : goal.returns-in_default-clause-none
returns-in_default-clause-none c q a = subst (λ (st : State). cell_at st c.args.space q ≡ None) c.self.view_is
    (absent_has_none c.self.inside.spaces c.args.space q (ap (map.get c.self.inside.spaces) (sym c.number.ensures.value) ∙ sym c.get.ensures ∙ ap option_copied c.in_default.is))

pub returns-then-page-ge-PAGES_END-clause-none : goal.returns-then-page-ge-PAGES_END-clause-none
returns-then-page-ge-PAGES_END-clause-none c q a = subst (λ (st : State). cell_at st c.args.space q ≡ None) c.self.view_is
    (none_beyond _ c.args.space q c.self.invariant.state (omega (arith, a, c.if-page-ge-PAGES_END.true)))

pub longest_from-requires-clause-all : goal.longest_from-requires-clause-all
longest_from-requires-clause-all c q a =
    ap (λ o. map.get (unwrap_or o map.empty) q) (sym (ap option_copied c.in-Some.is) ∙ c.get.ensures ∙ ap (map.get c.self.inside.spaces) c.number.ensures.value)
    ∙ none_beyond _ c.args.space q c.self.invariant.state a
