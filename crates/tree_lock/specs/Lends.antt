-- What a list of held rows ends as, where a `&mut` to the content of one of its rows is returned.
use Rattle.std.specs.Prelude.{ℕ}
use Rattle.std.specs.Borrow.{Lends, Fml, RattleType, MutBor}
use Rattle.tree_lock.specs.Held.{HeldList, with_content}
use Rattle.tree_lock.specs.contracts.held.Held.{the_row}

module _ (R : RattleType) where
  -- once the borrow r ends, the row at the place has the content that r shows last
  abbrev pub LendsContent : MutBor (HeldList R.Denot) → ℕ → MutBor R.Denot → Fml
  LendsContent s place r = Lends (the_row R) R s r (λ w. record s.now { rows = with_content s.now.rows place w })
