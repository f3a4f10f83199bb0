use Rattle.std.proofs.Common.{◌<◌, length, sym, ◌∙◌, arith}
use Rattle.std.proofs.lemmas.Bool.{false≢true}
use Rattle.history_lines.proofs.Parts.{next_of}
use Rattle.history_lines.proofs.Verdicts.{legal_more, after_more, wrong_at}
use Rattle.history_text.proofs.checking.first_wrong_entry.Goals as goal

pub returns-then-not-branch-clause-wrong : goal.returns-then-not-branch-clause-wrong
returns-then-not-branch-clause-wrong c =
    let l = c.loop-place in
    let es = c.args.entries.now in
    let e = c.index-entries-place.result in
    let inside : l.place < length es = omega (arith, c.loop-place-test.true) in
    wrong_at c.args.plain.now l.plain es l.place e inside (next_of es l.place e inside c.index-entries-place.is) l.invariant.legal l.invariant.state
    (λ right. false≢true (sym c.if-not-branch.true ∙ c.in_ok-is_right.ensures.right.1 right))

pub loop-place-preserved : goal.loop-place-preserved
loop-place-preserved c =
    let l = c.loop-place in
    let es = c.args.entries.now in
    let e = c.index-entries-place.result in
    let inside : l.place < length es = omega (arith, c.loop-place-test.true) in
    let right = c.in_ok-is_right.ensures.right.0 c.if-not-branch.false in
    record {
      legal = legal_more c.args.plain.now l.plain es l.place e inside c.index-entries-place.is l.invariant.legal l.invariant.state right;
      state = c.in_ok-is_right.ensures.after c.if-not-branch.false ∙ after_more c.args.plain.now l.plain es l.place e inside c.index-entries-place.is l.invariant.state;
    }
