-- A read hands out a front of what is left.
use Rattle.byte_streams.proofs.Known.{prepend_nothing, read_more, risen}
use Rattle.std.proofs.Common.{◌≡◌, ◌≤◌, ◌<◌, ◌∙◌, ◌++◌, ap, sym, refl, arith}
use Rattle.std.specs.Io.KnownBytes.{prepend_known}
use Rattle.byte_streams.proofs.reading.read_whole.Goals as goal

pub loop-piece-init : goal.loop-piece-init
loop-piece-init g c =
    (prepend_nothing _ ∙ ap (λ bytes. prepend_known bytes (g.S.Source.left c.args.source.now)) (sym c.new-bytes.ensures.items), omega arith, c.in_ok-piece.ensures)

pub loop-piece-preserved : goal.loop-piece-preserved
loop-piece-preserved g c =
    let before = c.loop-piece.invariant in
    let left = g.S.Source.left c.read.new.self in
    let more = read_more _ _ _ _ _ before.0 c.in-Got.ensures.answer.2 in
    let got = ap (λ buffer. prepend_known (c.loop-piece.bytes.items ++ buffer) left) (sym c.split_at.ensures.front) in
    let grown = ap (λ bytes. prepend_known bytes left) (sym c.in_ok-extend_from_slice-in-Got.ensures.items) in
    (more ∙ got ∙ grown, omega (arith, before.1, c.in-Got.ensures.count), before.2)

pub returns-in-Failed-clause-ends : goal.returns-in-Failed-clause-ends
returns-in-Failed-clause-ends g c = risen _ _ _ c.loop-piece.invariant.1 c.in-Failed.ensures.count (c.in-Failed.ensures.failed refl)
