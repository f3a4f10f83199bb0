-- How a descent to a zone goes on.
--     IsWay      what each answer says of the zone and the position
--     IsHere      the descent ends
--     Cuts      the entries of a table below the directory that lead to pages of a range
use Rattle.std.specs.Prelude.{ℕ, ◌+◌, ◌-◌, ◌*◌, ◌/◌, ◌^◌, ◌<◌, ◌≤◌, ◌↔◌}
use Rattle.table_place.specs.declared.Place.{Place}
use Rattle.tree_lock.specs.declared.zone.Zone.{Zone}
use Rattle.tree_lock.specs.declared.ways.Way.{Way}
use Rattle.tree_lock.specs.declared.ways.Way.TheVariants.{Down, Just, Here}
use Rattle.table_place.specs.Place.{entry_place}
use Rattle.tree_lock.specs.Zone.{IsStrict, HasAll, LiesIn, Spans, MeetsTwo}
use Rattle.tree_lock.specs.Tries.{IsPages}

abbrev pub IsWay : ℕ → Zone → Place → Way → Type 0
IsWay levels zone place (Down index) = (index < 512) × IsPages zone × Spans zone (entry_place levels place index)
IsWay levels zone place (Just index) = (index < 512) × IsStrict zone × HasAll zone (entry_place levels place index) × LiesIn (entry_place levels place index) zone
IsWay levels zone place Here = IsPages zone → MeetsTwo levels zone place

abbrev pub IsHere : Way → Type 0
IsHere (Down index) = ⊥
IsHere (Just index) = index < 512
IsHere Here = Unit {0}

-- the entry's span has a page of the range
abbrev pub Cuts : ℕ → ℕ → Place → ℕ → ℕ → Type 0
Cuts first count place low end = (end ≤ 512) × ((index : ℕ) → index < 512 → ((low ≤ index) × (index < end)) ↔
    ((first / 512 ^ (place.level - 1) ≤ 512 * place.prefix + index) × (512 * place.prefix + index ≤ (first + count - 1) / 512 ^ (place.level - 1))))
