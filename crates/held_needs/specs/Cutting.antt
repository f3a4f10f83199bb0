-- The missing tables that ranges of pages cut, counted.
--     IsLowest      the tables of a space above a page that are there are those from this level on
--     IsEnd      so are those of them that a range cuts
--     last_of      the last page of a range
--     meets_at, covers_at, cuts_at      whether the table of a level above a page has a page of a range;  its pages all in the range;  the first and not the second
--     cuts_first      whether a range cuts the table of a level above a page, and none of the ranges before it does
--     counted_in, counted_at      how many missing tables of one level a range cuts that no range before it cuts;  whether the one above one end is counted
--     Adds      how many missing tables a range cuts that no range before it cuts
use Rattle.std.specs.Prelude.{◌≡◌, ℕ, ◌+◌, ◌-◌, ◌*◌, ◌/◌, ◌^◌, ◌<◌, ◌≤◌, Bool, true, cond, not, ◌&&◌, List, [], ◌∷◌, ◌++◌, nat_eq, nat_lt, nat_le}
use Rattle.std.specs.List.{list_any}
use Rattle.std.specs.FinSet.{contains}
use Rattle.table_place.specs.Range.{within, lies_in}
use Rattle.table_place.specs.Place.{place_of, prefix_first, prefix_count}
use Rattle.page_map.specs.Tables.{Tables, need}
use Rattle.plain_counts.specs.declared.cut.Pages.{Pages}
use Rattle.plain_counts.specs.Cut.{cut_by_all}

abbrev pub last_of : Pages → ℕ
last_of r = r.first + r.count - 1

-- The root is always there.
pub record IsLowest (levels space page : ℕ) (t : Tables) (lowest : ℕ) : Type 0 where
  pub some : 1 ≤ lowest
  pub few : lowest ≤ levels
  pub each : (level : ℕ) → 1 ≤ level → level < levels → contains t (place_of space level page) ≡ nat_le lowest level

abbrev pub meets_at : Pages → ℕ → ℕ → Bool
meets_at r level page = within (prefix_first level r.first) (prefix_count level r.first r.count) (page / 512 ^ level)

abbrev pub covers_at : Pages → ℕ → ℕ → Bool
covers_at r level page = lies_in (page / 512 ^ level * 512 ^ level) (512 ^ level) r.first r.count

abbrev pub cuts_at : Pages → ℕ → ℕ → Bool
cuts_at r level page = meets_at r level page && not (covers_at r level page)

pub record IsEnd (levels space : ℕ) (r : Pages) (page : ℕ) (t : Tables) (lowest : ℕ) : Type 0 where
  pub each : (level : ℕ) → 1 ≤ level → level < levels → cuts_at r level page ≡ true → contains t (place_of space level page) ≡ nat_le lowest level

abbrev pub cuts_first : List Pages → Pages → ℕ → ℕ → Bool
cuts_first done r level page = cuts_at r level page && not (list_any (λ d. cuts_at d level page) done)

-- the tables above a page are missing below a level
abbrev pub counted_at : List Pages → Pages → ℕ → ℕ → ℕ → Bool
counted_at done r level page lowest = nat_lt level lowest && cuts_first done r level page

-- one table above both ends counts once
abbrev pub counted_in : List Pages → Pages → ℕ → ℕ → ℕ → ℕ
counted_in done r level near far =
    cond (counted_at done r level r.first near) 1 0
    + cond (not (nat_eq (last_of r / 512 ^ level) (r.first / 512 ^ level)) && counted_at done r level (last_of r) far) 1 0

abbrev pub Adds : ℕ → List Pages → Pages → ℕ → ℕ → ℕ → Type 0
Adds levels done r near far count = (space : ℕ) (t : Tables) → IsEnd levels space r r.first t near → IsEnd levels space r (last_of r) t far
    → need (cut_by_all levels space (done ++ r ∷ [])) t ≡ need (cut_by_all levels space done) t + count
