use Rattle.std.proofs.Common.{◌≡◌, ◌*◌, length, drop, ap, subst, ◌∙◌, arith}
use mathlib.Core.Logic.{inl, inr}
use Rattle.std.specs.Prelude.{IfOk}
use Rattle.std.proofs.lemmas.List.{length-take}
use Rattle.file_shelf.specs.Pages.{IsPage}
use Rattle.page_map.specs.Cell.{file_bytes}
use Rattle.plain_spaces.proofs.Files.{bytes_are, zeros_are, no_bytes}
use Rattle.plain_spaces.proofs.Reach.{same_zeros}
use Rattle.plain_spaces.proofs.plan.file_body.Goals as goal

pub page_of-requires : goal.page_of-requires
page_of-requires c = omega (arith, ap length c.in-Bytes.ensures.2, length-take 4096 (drop (c.args.index * 4096) (file_bytes c.args.shelf.now c.args.file)))

pub returns-in-Bytes : goal.returns-in-Bytes
returns-in-Bytes c =
    subst (λ bytes. IfOk c.page_of.result (λ body. body ≡ bytes))
    (bytes_are c.args.shelf.now c.args.file c.args.index c.in-Bytes.bytes.now c.in-Bytes.ensures.2)
    c.page_of.ensures

pub returns-in-NoFile : goal.returns-in-NoFile
returns-in-NoFile c =
    subst (λ bytes. IfOk c.zero.result (λ body. body ≡ bytes))
    (same_zeros ∙ elim c.in-NoFile.is [
      | inl e ↦ zeros_are c.args.shelf.now c.args.file c.args.index (omega (arith, ap length (no_bytes c.args.shelf.now c.args.file (subst (IsPage c.args.shelf.now c.args.file c.args.index) e c.page.ensures))))
      | inr e ↦ zeros_are c.args.shelf.now c.args.file c.args.index ((subst (IsPage c.args.shelf.now c.args.file c.args.index) e c.page.ensures).1)
    ])
    c.zero.ensures
