use Rattle.std.proofs.Common.{sym, ap, ◌∙◌}
use Rattle.std.specs.Option.{option_copied, option_map}
use Rattle.space_cells.specs.Views.{seen}
use Rattle.plain_spaces.specs.Resizing.{length_of}
use Rattle.plain_spaces.proofs.Resized.{few_index, last_is}
use Rattle.plain_spaces.proofs.resizing.Resize.is_too_far.Goals as goal

pub is_beyond-requires-clause-near : goal.is_beyond-requires-clause-near
is_beyond-requires-clause-near c =
    let last = c.in-Some.last in
    few_index c.args.cells.now c.requires.indexes _ last.mark (option_copied last.held) (sym c.get.ensures ∙ ap (option_map seen) c.in-Some.is)

pub returns-in-Some : goal.returns-in-Some
returns-in-Some c =
    let last = c.in-Some.last in
    c.is_beyond.ensures
    ∙ sym (last_is (length_of c.args.self) c.args.cells.now c.if-self.false last.mark (option_copied last.held) (sym c.get.ensures ∙ ap (option_map seen) c.in-Some.is))
