use Rattle.std.proofs.Common.{sym}
use Rattle.std.proofs.lemmas.List.{get_or-set_same}
use Rattle.counted_pages.proofs.Kept.{HasSpare-least}
use Rattle.counted_pages.proofs.CountedPages.take.Goals as goal

pub take-page-requires : goal.take-page-requires
take-page-requires c = (HasSpare-least _ c.self.invariant c.in_ok-number.number (sym c.in_ok-number.ensures.least)).1

pub returns-clause-owned : goal.returns-clause-owned
returns-clause-owned c =
    let taken = c.in_ok-number.ensures in
    let there = (HasSpare-least _ c.self.invariant c.in_ok-number.number (sym taken.least)).0 in
    rw taken.after (get_or-set_same _ c.in_ok-number.number 1 0 there)
