use Rattle.std.proofs.Common.{◌≡◌, ◌++◌, map, take}
use Rattle.text_words.specs.Layout.{joined}
use Rattle.text_words.specs.Printed.{spelled}
use Rattle.text_words.proofs.printing.push_each.Given as goal

-- the words so far are printed
abbrev pub invariant-loop-place : goal.invariant-loop-place
invariant-loop-place l = l.out.items ≡ l.fn.out.items ++ joined (map spelled (take l.place l.words))
