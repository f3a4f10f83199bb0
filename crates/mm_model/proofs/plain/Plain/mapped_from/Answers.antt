-- An absent space has no pages.
use Rattle.std.proofs.Common.{◌≡◌, ap, sym, ◌∙◌}
use Rattle.std.specs.Prelude.{Option, None}
use Rattle.std.specs.Option.{unwrap_or, option_and_then}
use Rattle.std.specs.Ordering.{nat_cmp}
use Rattle.std.specs.FinMap.{get, empty, get-empty}
use Rattle.page_map.specs.Cell.{AddressSpace, frame_of}
use Rattle.page_map.specs.State.{State}
use Rattle.mm_model.specs.Pages.{frame_in, frame_at}
use Rattle.mm_model.proofs.plain.Plain.mapped_from.Goals as goal

pub returns-in_default-clause-none : goal.returns-in_default-clause-none
returns-in_default-clause-none c q low =
    let absent : None ≡ get c.self.inside.spaces c.args.space = c.in_default.ensures ∙ ap (get c.self.inside.spaces) c.number.ensures.value in
    ap (λ (st : State). frame_at st c.args.space q) (sym c.self.view_is)
    ∙ ap (λ (o : Option AddressSpace). frame_in (unwrap_or o empty) q) (sym absent)
    ∙ ap (option_and_then frame_of) (get-empty nat_cmp q)
