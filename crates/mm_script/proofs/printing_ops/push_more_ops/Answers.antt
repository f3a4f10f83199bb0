use Rattle.std.proofs.Common.{◌≡◌, ℕ, List, [], ◌∷◌, ◌++◌, take, length, codes, ap, ◌∙◌}
use Rattle.std.specs.declared.alloc.AllocError.{AllocError}
use Rattle.std.proofs.lemmas.List.{append_assoc}
use Rattle.text_words.specs.Layout.{joined}
use Rattle.mm_script.specs.CallLine.{more_ops_words, spaced}
use Rattle.mm_script.proofs.OpLines.{printed_next_op, front_stays, on_err}
use Rattle.mm_script.proofs.printing_ops.push_more_ops.Goals as goal

pub returns-in_err-push_more-clause-err : goal.returns-in_err-push_more-clause-err
returns-in_err-push_more-clause-err c =
    let front : List ℕ = c.args.out.now.items in
    let l = c.loop-op in
    let new : List ℕ = c.push_more.new.out.items in
    on_err (Unit {0}) AllocError c.from_residual.result (take (length front) new ≡ front)
    (front_stays front (spaced (more_ops_words (take l.op-index c.args.ops.now))) l.out.items new l.invariant c.in_err-push_more.ensures.err)

pub returns-in_err-push_op-clause-err : goal.returns-in_err-push_op-clause-err
returns-in_err-push_op-clause-err c =
    let front : List ℕ = c.args.out.now.items in
    let l = c.loop-op in
    let so_far : List ℕ = spaced (more_ops_words (take l.op-index c.args.ops.now)) in
    let between : List ℕ = c.push_more.new.out.items in
    let new : List ℕ = c.push_op.new.out.items in
    let word : List ℕ = 32 ∷ joined (codes ";" ∷ []) in
    let are : between ≡ front ++ (so_far ++ word) = c.in_ok-push_more.ensures.ok ∙ ap (λ bs. bs ++ word) l.invariant ∙ append_assoc front so_far word in
    on_err (Unit {0}) AllocError c.from_residual-in_err-push_op.result (take (length front) new ≡ front)
    (front_stays front (so_far ++ word) between new are c.in_err-push_op.ensures.err)

pub loop-op-preserved : goal.loop-op-preserved
loop-op-preserved c =
    let l = c.loop-op in
    printed_next_op c.args.out.now.items l.out.items c.push_more.new.out.items c.push_op.new.out.items c.args.ops.now l.op-index _ c.loop-op-test.true l.invariant c.in_ok-push_more.ensures.ok c.in_ok-push_op.ensures.ok
