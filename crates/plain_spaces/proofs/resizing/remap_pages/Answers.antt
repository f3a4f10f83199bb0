use Rattle.std.proofs.Common.{sym, ap, subst, ◌∙◌}
use Rattle.space_cells.specs.Moving.{moved}
use Rattle.plain_counts.specs.Counts.{Follow}
use Rattle.plain_spaces.specs.Resizing.{IsPlacing, length_of}
use Rattle.plain_spaces.proofs.Resized.{grown_is, moved_is, shrunk_is}
use Rattle.plain_spaces.proofs.Placed.{relocates}
use Rattle.plain_spaces.proofs.Relocated.{moved_follow}
use Rattle.plain_spaces.proofs.Variants.{ok_from}
use Rattle.plain_spaces.proofs.resizing.remap_pages.Goals as goal

pub returns-in-Shrinks-clause-cells : goal.returns-in-Shrinks-clause-cells
returns-in-Shrinks-clause-cells c = ok_from c.unmap_pages.result
    (λ e levels thread at. e ∙ sym (shrunk_is levels thread (length_of c.args.resize) c.args.cells.now (subst (IsPlacing levels thread c.args.cells.now c.args.resize) c.in-Shrinks.is at)))
    c.unmap_pages.ensures.cells

pub returns-in-Grows-clause-cells : goal.returns-in-Grows-clause-cells
returns-in-Grows-clause-cells c = ok_from c.grow.result
    (λ e levels thread at.
    let way = subst (IsPlacing levels thread c.args.cells.now c.args.resize) c.in-Grows.is at in
    e ∙ sym (grown_is levels thread (length_of c.args.resize) c.args.cells.now way.0 way.1))
    c.grow.ensures.cells

pub relocate-requires : goal.relocate-requires
relocate-requires c = relocates c.args.cells.now c.args.resize c.args.placing c.in-Moves.to c.in-Moves.is c.requires.placed c.requires.full c.to.result c.to.ensures

pub returns-in-Moves-clause-cells : goal.returns-in-Moves-clause-cells
returns-in-Moves-clause-cells c = ok_from c.relocate.result
    (λ e levels thread at.
    let way = subst (IsPlacing levels thread c.args.cells.now c.args.resize) c.in-Moves.is at in
    e ∙ ap (λ r. moved r c.args.cells.now) c.to.ensures ∙ sym (moved_is levels thread (length_of c.args.resize) c.args.cells.now c.in-Moves.to way.0 way.1))
    c.relocate.ensures.ok

pub returns-in-Moves-clause-counts : goal.returns-in-Moves-clause-counts
returns-in-Moves-clause-counts c = ok_from c.relocate.result
    (λ e. subst (Follow c.args.counts.now c.args.counts.now c.args.cells.now) (sym e)
    (moved_follow c.args.cells.now c.to.result (relocates c.args.cells.now c.args.resize c.args.placing c.in-Moves.to c.in-Moves.is c.requires.placed c.requires.full c.to.result c.to.ensures) c.args.counts.now))
    c.relocate.ensures.ok
