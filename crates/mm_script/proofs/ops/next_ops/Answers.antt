use Rattle.std.proofs.Common.{◌≡◌, ◌≢◌, ◌<◌, ℕ, List, ◌∷◌, ◌++◌, length, codes, sym, ap, ◌∙◌, arith}
use Rattle.mm_script.specs.CallLine.{ops_words}
use Rattle.mm_script.proofs.OneOp.{no_first, no_further, one_more, AreOps-push}
use Rattle.mm_script.proofs.ops.next_ops.Goals as goal

pub returns-in_default-clause-none : goal.returns-in_default-clause-none
returns-in_default-clause-none c = λ ops rest are_ops ends are. no_first ops c.args.words.now rest are_ops c.in_default.ensures.none are

pub returns-then-ops-eq-MOST_OPS-clause-none : goal.returns-then-ops-eq-MOST_OPS-clause-none
returns-then-ops-eq-MOST_OPS-clause-none c = λ ops rest are_ops ends are.
    let l = c.loop-ops in
    let behind : List (List ℕ) = c.take_word.new.self in
    let passed : c.args.words.now ≡ ops_words l.ops ++ codes ";" ∷ behind = l.invariant.passed ∙ ap (λ ws. ops_words l.ops ++ ws) c.loop-ops-test.ensures.taken in
    let full : length l.ops ≡ 16 = cc in
    no_further l.ops ops behind rest l.invariant.are_ops are_ops ends (λ room. absurd (omega (arith, room, full))) (sym passed ∙ are)

pub returns-in_default-next_op-clause-none : goal.returns-in_default-next_op-clause-none
returns-in_default-next_op-clause-none c = λ ops rest are_ops ends are.
    let l = c.loop-ops in
    let behind : List (List ℕ) = c.take_word.new.self in
    let passed : c.args.words.now ≡ ops_words l.ops ++ codes ";" ∷ behind = l.invariant.passed ∙ ap (λ ws. ops_words l.ops ++ ws) c.loop-ops-test.ensures.taken in
    no_further l.ops ops behind rest l.invariant.are_ops are_ops ends (λ room. c.in_default-next_op.ensures.none) (sym passed ∙ are)

pub loop-ops-preserved : goal.loop-ops-preserved
loop-ops-preserved c =
    let l = c.loop-ops in
    let behind : List (List ℕ) = c.take_word.new.self in
    let passed : c.args.words.now ≡ ops_words l.ops ++ codes ";" ∷ behind = l.invariant.passed ∙ ap (λ ws. ops_words l.ops ++ ws) c.loop-ops-test.ensures.taken in
    let not_full : length l.ops ≢ 16 = λ e. c.if-ops-eq-MOST_OPS.false (cc) in
    let room : length l.ops < 16 = omega (arith, not_full, l.invariant.are_ops.0.1) in
    rw c.in_ok-add_op-2.ensures (record {
      passed = one_more c.args.words.now behind c.next_op-in-loop-ops.new.words l.ops c.in-Some-next_op.op l.invariant.are_ops.0.0 passed c.in-Some-next_op.ensures.found.1;
      are_ops = AreOps-push l.ops c.in-Some-next_op.op l.invariant.are_ops room c.in-Some-next_op.ensures.found.0;
    })
