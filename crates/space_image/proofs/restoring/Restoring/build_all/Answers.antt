use Rattle.std.proofs.Common.{◌++◌, subst}
use Rattle.std.specs.List.{flat_map}
use Rattle.mm_script.proofs.OpLines.{on_ok_from}
use Rattle.space_image.specs.declared.restoring.Kind.TheVariants as Kinds
use Rattle.space_image.specs.Restoring.{AreEntered, calls_of_kind}
use Rattle.space_image.proofs.Entering.{all_kinds, then_entered}
use Rattle.space_image.proofs.restoring.Restoring.build_all.Goals as goal

pub returns-clause-ok : goal.returns-clause-ok
returns-clause-ok c =
    let st = c.args.self.now.plain in
    let old = c.args.self.now.entries.items in
    let items = c.args.items.now in
    let outs = flat_map (calls_of_kind Kinds.Out) items in
    let lives = flat_map (calls_of_kind Kinds.Live) items in
    let runs = flat_map (calls_of_kind Kinds.Run) items in
    let s1 = c.build_kind.new.self in
    let s2 = c.build_kind-2.new.self in
    let s3 = c.build_kind-3.new.self in
    let both = then_entered st s1.plain s2.plain old s1.entries.items s2.entries.items outs lives c.in_ok-build_kind.ensures.ok c.in_ok-build_kind-2.ensures.ok in
    on_ok_from _ _ c.build_kind-3.result _ _
    (λ last. subst (AreEntered st s3.plain old s3.entries.items) (all_kinds items) (then_entered st s2.plain s3.plain old s2.entries.items s3.entries.items (outs ++ lives) runs both last))
    c.build_kind-3.ensures.ok
