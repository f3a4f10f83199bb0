use Rattle.std.proofs.Common.{◌≡◌, Some, sym, ap, ◌∙◌}
use Rattle.std.proofs.lemmas.Result.{err_from_is_err_and}
use Rattle.std.proofs.lemmas.Option.{IfSome_then}
use Rattle.corten_base.specs.declared.calls.Call.{Call}
use Rattle.corten_base.specs.declared.calls.Reply.{Reply}
use Rattle.page_map.specs.Access.{outside_user_pages}
use Rattle.page_map.specs.State.{State, levels}
use Rattle.plain_spaces.specs.Reach.{making, reaching}
use Rattle.mm_model.specs.Accesses.{IsAccess}
use Rattle.mm_model.specs.Steps.{Refuses}
use Rattle.mm_model.proofs.AccessSteps.{refused_outside}
use Rattle.mm_model.proofs.plain.Plain.touch.Goals as goal

pub returns-in_err-access-clause-refused : goal.returns-in_err-access-clause-refused
returns-in_err-access-clause-refused c =
    let a = making (reaching c.args.at c.args.len c.args.write) c.args.stored.now in
    let refuses : (r : Reply) → outside_user_pages c.self.inside.limits.levels a ≡ Some r → (call : Call) → IsAccess c.args.self.now call c.args.space a → Refuses c.args.self.now c.args.limbo call r =
    λ r e call is. refused_outside c.args.self.now call c.args.space a is c.args.limbo r (ap (λ (st : State). outside_user_pages (levels st) a) (sym c.self.view_is) ∙ e) in
    let p = err_from_is_err_and c.from_residual.result c.from_residual.ensures.1 in rw (p.1, p.2) (IfSome_then _ c.in_err-access.ensures.refused refuses)
