-- The book after a sweep or none.
--     IsOnce      no row stands twice in the free rows and the limbo of a book
--     IsSweptTo      some rows in limbo became free
use Rattle.std.specs.Prelude.{◌≡◌, ℕ, ◌+◌, ◌≤◌, not, Bool, ◌++◌, map}
use Rattle.std.specs.List.{filter}
use Rattle.walk_core.specs.declared.lists.PutRow.{PutRow}
use Rattle.walk_core.specs.Guards.{put_rows, IsUnread}
use Rattle.walk_core.specs.Lists.{times, Has}
use Rattle.row_layout.specs.declared.places.Layout.{Layout}
use Rattle.row_table.specs.Rule.{SameRows}
use Rattle.machine_plan.specs.Books.{BookData, free_list, put_of}
use Rattle.call_steps.specs.Ready.{View}

abbrev pub IsOnce : BookData → Type 0
IsOnce b = (q : ℕ) → times q (free_list b) + times q (put_rows (map put_of b.limbo)) ≤ 1

-- Some rows in limbo are free, which nobody reads by what the pass sampled.
pub record IsSweptTo (k : Layout) (v : View) (old m : BookData) : Type 0 where
  pub same : m ≡ record old { free = m.free; limbo = m.limbo }
  pub keep : PutRow → Bool
  pub limbo : map put_of m.limbo ≡ filter keep (map put_of old.limbo)
  pub free : SameRows (free_list m) (free_list old ++ put_rows (filter (λ x. not (keep x)) (map put_of old.limbo)))
  pub unread : (q : ℕ) → Has (put_rows (filter (λ x. not (keep x)) (map put_of old.limbo))) q → IsUnread k.passes (map put_of old.limbo) v.core q
