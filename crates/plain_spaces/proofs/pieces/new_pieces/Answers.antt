use Rattle.std.proofs.Common.{◌+◌, sym, ap, subst, ◌∙◌}
use Rattle.plain_spaces.specs.Pieces.{AreMoved}
use Rattle.plain_spaces.proofs.Listed.{all_apart, all_joined}
use Rattle.plain_spaces.proofs.pieces.new_pieces.Goals as goal
use Rattle.plain_spaces.proofs.pieces.new_pieces.Goals.{then-joined-eq0+in_ok-push, else-joined-eq0}

pub returns : goal.returns
returns c = elim c.if-joined-eq0.branch [
  | then-joined-eq0+in_ok-push w ↦
      subst (λ pieces. AreMoved c.args.cells.now c.args.relocation (c.args.relocation.to + c.args.relocation.new) pieces) (sym (ap (λ v. v.items) w.pieces-is ∙ w.in_ok-push.ensures.items))
      (all_apart c.args.cells.now c.args.relocation c.requires c.joined.result c.list_moved.new.pieces.items c.joined.ensures w.if-joined-eq0.true c.in_ok-list_moved.ensures)
  | else-joined-eq0 w ↦
      subst (λ pieces. AreMoved c.args.cells.now c.args.relocation (c.args.relocation.to + c.args.relocation.new) pieces) (sym (ap (λ v. v.items) w.pieces-is))
      (all_joined c.args.cells.now c.args.relocation c.requires c.joined.result c.list_moved.new.pieces.items c.joined.ensures w.if-joined-eq0.false c.in_ok-list_moved.ensures)
]
