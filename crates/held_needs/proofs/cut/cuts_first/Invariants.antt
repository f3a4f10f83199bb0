use Rattle.std.proofs.Common.{◌≡◌, false, take}
use Rattle.std.specs.List.{list_any}
use Rattle.held_needs.specs.Cutting.{cuts_at}
use Rattle.held_needs.proofs.cut.cuts_first.Given as goal

-- none of the ranges that were seen cuts it
abbrev pub invariant-loop-before : goal.invariant-loop-before
invariant-loop-before l = list_any (λ d. cuts_at d l.level l.page) (take l.before-index l.done) ≡ false
