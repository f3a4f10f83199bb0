use Rattle.std.specs.Prelude.{◌≡◌, ℕ, ◌+◌, ◌≤◌, ◌<◌, true}
use Rattle.page_map.specs.Access.{first_page, page_count}
use Rattle.table_place.specs.Place.{is_user_page}
use Rattle.range_cursor.specs.Reach.{access_of}
use Rattle.range_cursor.proofs.refusing.outside.Given as goal

-- the pages before this one are user pages
abbrev pub invariant-loop-page : goal.invariant-loop-page
invariant-loop-page l = record {
  low : first_page (access_of l.fn.access) ≤ l.page;
  end : l.page-end ≡ first_page (access_of l.fn.access) + page_count (access_of l.fn.access);
  users : (q : ℕ) → first_page (access_of l.fn.access) ≤ q → q < l.page → is_user_page l.fn.access.levels q ≡ true;
}
