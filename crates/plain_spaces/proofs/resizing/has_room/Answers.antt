use Rattle.std.proofs.Common.{◌+◌, ◌<◌, sym, subst, ◌∙◌, arith}
use Rattle.std.proofs.lemmas.Bool.{leb-true, ltb-true}
use Rattle.plain_spaces.specs.Resizing.{length_of}
use Rattle.plain_spaces.proofs.Resized.{has_room_is}
use Rattle.plain_spaces.proofs.resizing.has_room.Goals as goal
use Rattle.plain_spaces.proofs.resizing.has_room.Goals.{then-first-ge16, else-first-ge16}

pub returns-then-end-user_end : goal.returns-then-end-user_end
returns-then-end-user_end c = elim c.if-first-ge16.branch [
  | then-first-ge16 w ↦ has_room_is c.args.levels (length_of c.args.resize) c.args.cells.now c.requires.grows w.if-first-ge16.true
      (subst (λ end. c.args.resize.first + c.args.resize.new < end) w.user_end.ensures.value (ltb-true _ _ (sym w.value-is ∙ c.if-end-user_end.true)))
      c.next.result c.next.ensures c.is_none.result c.is_none.ensures
  | else-first-ge16 w ↦ (let low = leb-true _ _ (sym w.value-is ∙ c.if-end-user_end.true) in let high = w.if-first-ge16.false in absurd (omega (arith, low, high)))
]
