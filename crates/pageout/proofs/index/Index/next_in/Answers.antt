use Rattle.std.proofs.Common.{◌∙◌, sym, subst, arith}
use Rattle.std.specs.declared.ops.Bound.TheVariants.{Included, Unbounded}
use Rattle.std.specs.BTreeMap.Range.{IsRangeOf}
use Rattle.pageout.specs.Index.{key_cmp, key_of}
use Rattle.pageout.proofs.Nexts.{none_from, is_next, none_in}
use Rattle.pageout.proofs.index.Index.next_in.Goals as goal
use Rattle.pageout.proofs.index.Index.next_in.Goals.{else-key-from-via-then-key-from+else-key-end, else-key-from-via-else-key-from}

pub returns-in_default-clause-none : goal.returns-in_default-clause-none
returns-in_default-clause-none c q low high =
    let range = subst (λ s. IsRangeOf key_cmp (Included (key_of s c.args.first)) Unbounded c.args.self.now.marks.by_page c.range.result) c.number.ensures.value (c.range.ensures.in_range tt) in
    none_from c.args.self.now.marks c.args.space c.args.first c.range.result range c.in_default.ensures.steps.0 q low

pub returns-then-key-end-clause-some : goal.returns-then-key-end-clause-some
returns-then-key-end-clause-some c =
    let range = subst (λ s. IsRangeOf key_cmp (Included (key_of s c.args.first)) Unbounded c.args.self.now.marks.by_page c.range.result) c.number.ensures.value (c.range.ensures.in_range tt) in
    is_next c.args.self.now.marks c.args.space c.args.first c.range.result range c.in-Some.key.now c.in-Some.mark.now _ c.in-Some.ensures.steps c.args.end
    (c.if-key-from.true ∙ c.number.ensures.value) c.if-key-end.true

pub returns-else-key-from-clause-none : goal.returns-else-key-from-clause-none
returns-else-key-from-clause-none c =
    let range = subst (λ s. IsRangeOf key_cmp (Included (key_of s c.args.first)) Unbounded c.args.self.now.marks.by_page c.range.result) c.number.ensures.value (c.range.ensures.in_range tt) in
    none_in c.args.self.now.marks c.args.space c.args.first c.range.result range c.in-Some.key.now c.in-Some.mark.now _ c.in-Some.ensures.steps c.args.end (λ same before.
    elim c.else-key-from.branch [
      | else-key-from-via-then-key-from+else-key-end w ↦ omega (arith, w.if-key-end.false, before)
      | else-key-from-via-else-key-from w ↦ w.if-key-from.false (same ∙ sym c.number.ensures.value)
    ])
