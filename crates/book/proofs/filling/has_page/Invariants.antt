use Rattle.std.proofs.Common.{◌≡◌, drop}
use Rattle.book.specs.Filling.{has_page}
use Rattle.book.proofs.filling.has_page.Given as goal

abbrev pub invariant-loop-at : goal.invariant-loop-at
invariant-loop-at l = has_page l.frames l.page ≡ has_page (drop l.at-index l.frames) l.page
