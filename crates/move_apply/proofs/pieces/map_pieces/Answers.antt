use Rattle.std.specs.Prelude.{◌+◌, ◌<◌, ◌≤◌, false, List, ◌∷◌, drop, length, slice_index_or}
use Rattle.std.proofs.Common.{sym, refl, ◌∙◌, subst, arith}
use Rattle.corten_base.specs.declared.calls.Backing.TheVariants.{Zero}
use Rattle.row_table.specs.Passes.{view_of}
use Rattle.machine_plan.specs.declared.kit.Change.{Change}
use Rattle.machine_plan.specs.declared.kit.Piece.{Piece}
use Rattle.move_apply.specs.Pieces.{piece_change, pieces_changes}
use Rattle.move_apply.proofs.PiecesMade.{pieces_long, piece_left}
use Rattle.cursor_apply.proofs.StepsMade.{StepsLeft, none_left, steps_begun, steps_base, steps_next, steps_ended}
use Rattle.move_apply.proofs.pieces.map_pieces.Goals as goal

-- what stands behind the end of a list
abbrev no_piece : Piece
no_piece = record { first = 0; count = 0; perm = record { read = false; write = false; exec = false }; backing = Zero }

pub loop-piece-init : goal.loop-piece-init
loop-piece-init g c = record {
  table = refl;
  same = refl;
  room = refl;
  left = λ b st now space is_old base steps. steps_begun b st now space is_old (pieces_changes c.args.to c.args.pieces.now) (view_of c.args.pass.now) c.args.held.now.rows base steps;
}

pub map_piece-requires-clause-ready : goal.map_piece-requires-clause-ready
map_piece-requires-clause-ready g c κs within =
    let r = c.requires.ready in
    let pieces = c.args.pieces.now in
    let changes = pieces_changes c.args.to pieces in
    let at = c.loop-piece.piece-index in
    let inside : at < length pieces = omega arith in
    let next = piece_change c.args.to (slice_index_or pieces at no_piece) in
    let v = view_of c.args.pass.now in
    let w = view_of c.loop-piece.pass in
    let left = subst (λ (l : List Change). StepsLeft r.0 r.1 r.2 r.3 r.4 changes v c.args.held.now.rows l w c.loop-piece.held.rows) (piece_left c.args.to pieces at no_piece inside)
    (c.loop-piece.invariant.left r.0 r.1 r.2 r.3 r.4 r.5 r.6) in
    (r.0, left.mid, left.steps.0, r.3, left.old, steps_base r.0 r.1 r.2 r.3 r.4 changes v c.args.held.now.rows r.5 w c.loop-piece.held.rows (next ∷ drop (at + 1) changes) left, left.steps.1)

pub loop-piece-preserved : goal.loop-piece-preserved
loop-piece-preserved g c =
    let pieces = c.args.pieces.now in
    let changes = pieces_changes c.args.to pieces in
    let at = c.loop-piece.piece-index in
    let inside : at < length pieces = omega arith in
    let next = piece_change c.args.to (slice_index_or pieces at no_piece) in
    let v = view_of c.args.pass.now in
    let w = view_of c.loop-piece.pass in
    record {
      table = c.map_piece.ensures.table ∙ c.loop-piece.invariant.table;
      same = c.map_piece.ensures.same ∙ c.loop-piece.invariant.same;
      room = c.map_piece.ensures.room ∙ c.loop-piece.invariant.room;
      left = λ b st now space is_old base steps.
          let left = subst (λ (l : List Change). StepsLeft b st now space is_old changes v c.args.held.now.rows l w c.loop-piece.held.rows) (piece_left c.args.to pieces at no_piece inside)
          (c.loop-piece.invariant.left b st now space is_old base steps) in
          let still = steps_base b st now space is_old changes v c.args.held.now.rows base w c.loop-piece.held.rows (next ∷ drop (at + 1) changes) left in
          steps_next b st now space is_old changes v c.args.held.now.rows base w c.loop-piece.held.rows next (drop (at + 1) changes) left
          (view_of c.map_piece.new.pass) c.map_piece.new.held.rows (c.map_piece.ensures.changes b left.mid left.steps.0 space left.old still left.steps.1);
    }

pub returns-clause-changes : goal.returns-clause-changes
returns-clause-changes g c = λ b st now space is_old base steps.
    let pieces = c.args.pieces.now in
    let changes = pieces_changes c.args.to pieces in
    let all : length pieces ≤ c.loop-piece.piece-index = omega arith in
    let v = view_of c.args.pass.now in
    let w = view_of c.loop-piece.pass in
    steps_ended b st now space is_old changes v c.args.held.now.rows base w c.loop-piece.held.rows
    (subst (λ (l : List Change). StepsLeft b st now space is_old changes v c.args.held.now.rows l w c.loop-piece.held.rows)
    (none_left changes c.loop-piece.piece-index (subst (λ n. n ≤ c.loop-piece.piece-index) (sym (pieces_long c.args.to pieces)) all))
    (c.loop-piece.invariant.left b st now space is_old base steps))
