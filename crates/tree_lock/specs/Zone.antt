-- The pages of zones, and the positions of tables that zones meet, where page tables have so many levels.
--     ZoneHas, IsStrict      a page is one of the zone's;  the zone is strict
--     IsZone      a zone of a space that there is, and of user pages
--     Meets, HasAll, LiesIn      a span has a page of the zone, or all of them;  the zone has each page of a span
--     Spans      a span that may cover the zone: it has all pages, and for a strict zone it is greater
--     MeetsTwo      the zone meets the positions below two entries
--     IsTable, IsMet      the directory or a table of a space;  such a position that the zone meets
use Rattle.std.specs.Prelude.{◌≡◌, ◌≢◌, ℕ, ◌+◌, ◌<◌, ◌≤◌, ◌⊎◌, true}
use Rattle.table_place.specs.declared.Place.{Place}
use Rattle.table_place.specs.Place.{directory, entry_place, is_place, has_page, is_user_range}
use Rattle.tree_lock.specs.declared.zone.Zone.{Zone}
use Rattle.tree_lock.specs.declared.zone.Zone.TheVariants.{Pages, Space, Directory}

abbrev pub ZoneHas : Zone → ℕ → ℕ → Type 0
ZoneHas (Pages space first count strict) s page = (s ≡ space) × (first ≤ page) × (page < first + count)
ZoneHas (Space space) s page = s ≡ space
ZoneHas Directory s page = ⊥

abbrev pub IsStrict : Zone → Type 0
IsStrict (Pages space first count strict) = strict ≡ true
IsStrict (Space space) = ⊥
IsStrict Directory = ⊥

abbrev pub IsZone : ℕ → Zone → Type 0
IsZone levels (Pages space first count strict) = (space < 64) × (1 ≤ count) × (is_user_range levels first count ≡ true)
IsZone levels (Space space) = space < 64
IsZone levels Directory = Unit {0}

pub record Meets (zone : Zone) (p : Place) : Type 0 where
  pub space : ℕ
  pub page : ℕ
  pub of_zone : ZoneHas zone space page
  pub of_span : has_page p space page ≡ true

abbrev pub HasAll : Zone → Place → Type 0
HasAll zone p = (space page : ℕ) → ZoneHas zone space page → has_page p space page ≡ true

abbrev pub LiesIn : Place → Zone → Type 0
LiesIn p zone = (space page : ℕ) → has_page p space page ≡ true → ZoneHas zone space page

pub record Spans (zone : Zone) (p : Place) : Type 0 where
  pub all : HasAll zone p
  pub greater : IsStrict zone → ¬ LiesIn p zone

pub record MeetsTwo (levels : ℕ) (zone : Zone) (p : Place) : Type 0 where
  pub one : ℕ
  pub other : ℕ
  pub one_inside : one < 512
  pub other_inside : other < 512
  pub two : one ≢ other
  pub meets_one : Meets zone (entry_place levels p one)
  pub meets_other : Meets zone (entry_place levels p other)

abbrev pub IsTable : ℕ → Place → Type 0
IsTable levels p = (p ≡ directory) ⊎ (is_place levels p ≡ true)

abbrev pub IsMet : ℕ → Zone → Place → Type 0
IsMet levels zone p = (p ≡ directory) ⊎ ((is_place levels p ≡ true) × Meets zone p)
