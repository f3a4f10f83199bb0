use Rattle.std.proofs.Common.{◌≡◌, sym, ap, subst, ◌∙◌}
use Rattle.std.specs.Prelude.{IfOk}
use Rattle.plain_spaces.specs.Wants.{backing_bytes}
use Rattle.plain_spaces.proofs.Reach.{same_zeros}
use Rattle.plain_spaces.proofs.plan.backing_body.Goals as goal

pub returns-in-Zero : goal.returns-in-Zero
returns-in-Zero c =
    subst (λ bytes. IfOk c.zero.result (λ body. body ≡ bytes)) (same_zeros ∙ ap (backing_bytes c.args.shelf.now) (sym c.in-Zero.is)) c.zero.ensures

pub returns-in-File : goal.returns-in-File
returns-in-File c =
    subst (λ bytes. IfOk c.file_body.result (λ body. body ≡ bytes)) (ap (backing_bytes c.args.shelf.now) (sym c.in-File.is)) c.file_body.ensures
