use Rattle.std.proofs.Common.{◌≡◌, None, sym, ap, subst, ◌∙◌}
use mathlib.Core.Bool.{true≢false}
use Rattle.std.specs.Prelude.{is_some}
use Rattle.std.specs.Option.{option_copied, unwrap_or}
use Rattle.std.specs.FinMap as map
use Rattle.page_map.specs.State.{State, cell_at}
use Rattle.space_cells.specs.Longest.{own_bytes}
use Rattle.mm_model.proofs.Beyond.{absent_has_none}
use Rattle.mm_model.proofs.plain.Plain.bytes_of.Goals as goal

pub returns-in_default-clause-some : goal.returns-in_default-clause-some
returns-in_default-clause-some c =
    let none : own_bytes (cell_at c.args.self.now c.args.space c.args.page) ≡ None =
    ap own_bytes (subst (λ (st : State). cell_at st c.args.space c.args.page ≡ None) c.self.view_is
    (absent_has_none c.self.inside.spaces c.args.space c.args.page (ap (map.get c.self.inside.spaces) (sym c.number.ensures.value) ∙ sym c.get.ensures ∙ ap option_copied c.in_default.is))) in
    (λ t. absurd (true≢false (sym t)), λ t. absurd (true≢false (sym t ∙ ap is_some none)))

pub returns-in_default-clause-bytes : goal.returns-in_default-clause-bytes
returns-in_default-clause-bytes c =
    let none : own_bytes (cell_at c.args.self.now c.args.space c.args.page) ≡ None =
    ap own_bytes (subst (λ (st : State). cell_at st c.args.space c.args.page ≡ None) c.self.view_is
    (absent_has_none c.self.inside.spaces c.args.space c.args.page (ap (map.get c.self.inside.spaces) (sym c.number.ensures.value) ∙ sym c.get.ensures ∙ ap option_copied c.in_default.is))) in
    sym (ap (λ o. unwrap_or o c.args.out.now) none)
