use Rattle.std.proofs.Common.{◌≡◌, ◌+◌, ◌++◌, ◌∷◌, [], arith, sym, ◌∙◌}
use Rattle.std.proofs.lemmas.List.FromFn.{map-range_with_len_more}
use Rattle.walk_core.specs.Core.{word}
use Rattle.row_table.proofs.boot.words_of.Goals as goal

pub loop-place-preserved : goal.loop-place-preserved
loop-place-preserved c = c.in_ok-push.ensures.items ∙ ((λ i. c.loop-place.invariant i ++ c.word.ensures i ∷ [])
    ∙ sym (map-range_with_len_more (word c.args.core.now) 0 c.loop-place.place c.loop-place.place (let e : 0 + c.loop-place.place ≡ c.loop-place.place = omega arith in e)))
