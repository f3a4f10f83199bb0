use Rattle.std.proofs.Common.{◌++◌, sym, ap, ◌∙◌, arith}
use Rattle.std.proofs.lemmas.List.{append-nil}
use Rattle.text_words.proofs.HexPairs.{hex-nil, printed_more}
use Rattle.text_words.proofs.hex.push_each.Goals as goal

pub loop-byte-init : goal.loop-byte-init
loop-byte-init c = record {
  written = c.in_ok-reserve.ensures.items ∙ sym (ap (λ cs. c.args.out.now.items ++ cs) hex-nil ∙ append-nil c.args.out.now.items);
  room = let h = c.in_ok-reserve.ensures.ok in omega arith;
}

pub loop-byte-preserved : goal.loop-byte-preserved
loop-byte-preserved c =
    let l = c.loop-byte in
    let room = c.in_ok-push-2.ensures.capacity in
    let first_room = c.in_ok-push.ensures.capacity in
    record {
      written = rw (c.in_ok-push-2.ensures.items, c.in_ok-push.ensures.items)
          (printed_more c.args.out.now.items c.args.bytes.now l.out.items l.byte-index c.digit.result c.digit-in-loop-byte.result (omega arith) l.invariant.written c.digit.ensures c.digit-in-loop-byte.ensures);
      room = let len = c.in_ok-push-2.ensures.len in let first_len = c.in_ok-push.ensures.len in let before = l.invariant.room in omega arith;
    }
