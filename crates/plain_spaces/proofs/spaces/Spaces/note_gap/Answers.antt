use Rattle.std.proofs.Common.{sym, ap, ◌∙◌}
use Rattle.std.specs.Option.{option_copied_mut}
use Rattle.std.specs.FinMap as map
use Rattle.plain_spaces.proofs.Moves.{put_back}
use Rattle.plain_spaces.proofs.Variants.{some_borrow}
use Rattle.plain_spaces.proofs.spaces.Spaces.note_gap.Goals as goal

pub returns-in-Some : goal.returns-in-Some
returns-in-Some c =
    some_borrow c.get_mut.result c.in-Some.cells c.in-Some.is (c.get_mut.follows.holds c.note_gap.new.self)
    ∙ ap (map.insert c.args.self.now c.args.space) c.note_gap.ensures
    ∙ put_back c.args.self.now c.args.space c.in-Some.cells.now (sym c.get_mut.ensures.value ∙ ap option_copied_mut c.in-Some.is)
