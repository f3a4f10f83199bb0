-- The order in which a pass takes positions of page tables.
--     IsSpelled      a position that a position word can spell: it has three bits for the level, six for the space and 45 for the prefix
--     IsBefore      by space, then by the first page of the span, then higher levels first. So the directory is first of all
--     IsAround      a span has each page of another and one more
use Rattle.std.specs.Prelude.{◌≡◌, ℕ, ◌-◌, ◌^◌, ◌<◌, ◌≤◌, true, false}
use Rattle.table_place.specs.declared.Place.{Place}
use Rattle.table_place.specs.Place.{span_first, has_page}

pub record IsSpelled (p : Place) : Type 0 where
  pub level : p.level < 2 ^ 3
  pub space : p.space < 2 ^ 6
  pub prefix : p.prefix < 2 ^ 45

pub record IsBefore (a b : Place) : Type 0 where
  pub space : a.space ≤ b.space
  pub first : a.space ≡ b.space → span_first a ≤ span_first b
  pub level : a.space ≡ b.space → span_first a ≡ span_first b → b.level < a.level

pub record IsAround (a b : Place) : Type 0 where
  pub each : (space page : ℕ) → has_page b space page ≡ true → has_page a space page ≡ true
  pub space : ℕ
  pub page : ℕ
  pub has : has_page a space page ≡ true
  pub has_not : has_page b space page ≡ false
