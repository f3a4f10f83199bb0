use Rattle.std.proofs.Common.{◌<◌, ◌^◌}
use Rattle.text_words.proofs.Numerals.{HasRead}
use Rattle.text_words.proofs.digits.read_few.Given as goal

-- the digits so far have been read
abbrev pub invariant-loop-byte : goal.invariant-loop-byte
invariant-loop-byte l = record { read : HasRead l.base l.word l.byte-index l.number; fits : l.number < 16 ^ l.byte-index }
