use Rattle.plain_spaces.specs.Numbers.{frame_in, slot_in}
use Rattle.plain_spaces.proofs.Released.{SoFar}
use Rattle.plain_spaces.proofs.numbers.give_up_all.Given as goal

-- the numbers before this one have one key fewer
abbrev pub invariant-loop-number : goal.invariant-loop-number
invariant-loop-number l = record {
  frames : SoFar frame_in l.numbers l.number-index l.initial.counts.frames l.counts.frames;
  slots : SoFar slot_in l.numbers l.number-index l.initial.counts.slots l.counts.slots;
}
