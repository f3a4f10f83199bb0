use Rattle.std.proofs.Common.{refl}
use Rattle.range_cursor.proofs.Anywhere.{not_there, no_gap, gap_given}
use Rattle.range_cursor.proofs.placing.place_in.Goals as goal

pub returns-in-Err-clause-refused : goal.returns-in-Err-clause-refused
returns-in-Err-clause-refused c =
    not_there c.args.levels c.args.thread c.arena_start.result _ c.requires.four c.requires.thread c.arena_start.ensures refl c.args.space c.args.count c.args.held.now.rows c.in-Err.reply c.in-Err.ensures.refused

pub returns-in-None-clause-refused : goal.returns-in-None-clause-refused
returns-in-None-clause-refused c =
    no_gap c.args.levels c.args.thread c.arena_start.result _ c.requires.four c.requires.thread c.arena_start.ensures refl c.args.space c.args.count c.args.held.now.rows c.in-Ok.arena.first c.in-Ok.arena.count c.first_gap.result
    c.in-Ok.ensures.granted c.in-Ok.ensures.range.0 c.in-Ok.ensures.range.1 c.first_gap.ensures.answers c.in-None.is

pub returns-in-Some-clause-granted : goal.returns-in-Some-clause-granted
returns-in-Some-clause-granted c =
    gap_given c.args.levels c.args.thread c.arena_start.result _ c.requires.four c.requires.thread c.arena_start.ensures refl c.args.space c.args.count c.args.held.now.rows c.in-Ok.arena.first c.in-Ok.arena.count c.first_gap.result
    c.in-Ok.ensures.granted c.in-Ok.ensures.range.0 c.in-Ok.ensures.range.1 c.first_gap.ensures.answers c.in-Some.page c.in-Some.is
