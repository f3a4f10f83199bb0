-- What the steps of a call leave.
--     HasEntered      a pass has seen more of the journal, which ends with an entry of its own, and that one alone of its own is new
use Rattle.std.specs.Prelude.{◌≡◌, List, [], ◌∷◌, ◌++◌, length}
use Rattle.corten_base.specs.declared.calls.Entry.{Entry}
use Rattle.call_steps.specs.Ready.{View}

pub record HasEntered (v w : View) (entry : Entry) : Type 0 where
  pub others : List Entry
  pub seen : w.seen ≡ (v.seen ++ others) ++ entry ∷ []
  pub mine : w.mine ≡ v.mine ++ length (v.seen ++ others) ∷ []
