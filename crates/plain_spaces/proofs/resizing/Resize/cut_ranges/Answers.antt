use Rattle.std.proofs.Common.{◌+◌, ◌∷◌, ◌++◌, [], sym, ap, subst, ◌∙◌}
use Rattle.std.proofs.lemmas.List.Elements.{All-append, All-same}
use Rattle.std.proofs.lemmas.Result.{IfOk-weaker}
use Rattle.plain_counts.specs.Cut.{IsShort}
use Rattle.space_cells.specs.declared.moving.Relocation.{Relocation}
use Rattle.space_cells.specs.Moving.{moved}
use Rattle.plain_spaces.specs.Pieces.{AreCut, AreMoved}
use Rattle.plain_spaces.specs.Resizing.{relocation}
use Rattle.plain_spaces.proofs.Listed.{one_short, pieces_short}
use Rattle.plain_spaces.proofs.Placed.{grows_short, moves_short, relocates}
use Rattle.plain_spaces.proofs.resizing.Resize.cut_ranges.Goals as goal

pub new_pieces-requires : goal.new_pieces-requires
new_pieces-requires c = relocates c.args.cells.now c.args.self c.args.placing c.in-Moves.to c.in-Moves.is c.requires.placed c.requires.full c.to.result c.to.ensures

pub returns-in-Grows-clause-short : goal.returns-in-Grows-clause-short
returns-in-Grows-clause-short c =
    let few = grows_short c.args.cells.now c.args.self c.args.placing c.in-Grows.is c.requires.placed in
    IfOk-weaker c.one_range.result _ _ (λ ranges e. All-same IsShort ranges.items _ e (one_short _ _ few.0 few.1)) c.one_range.ensures

pub returns-in_ok-append-in-Moves-clause-cut : goal.returns-in_ok-append-in-Moves-clause-cut
returns-in_ok-append-in-Moves-clause-cut c =
    let more = c.in_ok-more-in-Moves.more.items in
    subst (λ placing. AreCut c.args.cells.now c.args.self placing c.append.new.self.items) (sym c.in-Moves.is) (
      more,
      c.in_ok-append-in-Moves.ensures.items ∙ ap (λ ranges. ranges ++ more) c.in_ok-ranges-in-Moves.ensures,
      subst (λ (m : Relocation). AreMoved c.args.cells.now m (m.to + m.new) more) c.to.ensures c.in_ok-more-in-Moves.ensures,
    )

pub returns-in_ok-append-in-Moves-clause-short : goal.returns-in_ok-append-in-Moves-clause-short
returns-in_ok-append-in-Moves-clause-short c =
    let more = c.in_ok-more-in-Moves.more.items in
    let few = moves_short c.args.cells.now c.args.self c.args.placing c.in-Moves.to c.in-Moves.is c.requires.placed in
    let pieces = subst (λ (m : Relocation). AreMoved c.args.cells.now m (m.to + m.new) more) c.to.ensures c.in_ok-more-in-Moves.ensures in
    All-same IsShort c.append.new.self.items _ (c.in_ok-append-in-Moves.ensures.items ∙ ap (λ ranges. ranges ++ more) c.in_ok-ranges-in-Moves.ensures)
    (All-append IsShort (record { first = c.args.self.first; count = c.args.self.old } ∷ []) more (one_short c.args.self.first c.args.self.old c.requires.full.some c.requires.full.pages)
    (pieces_short (moved (relocation c.args.self c.in-Moves.to) c.args.cells.now) c.in-Moves.to (c.in-Moves.to + c.args.self.new) more few pieces))
