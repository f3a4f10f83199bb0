-- Which tables of the call's space the changes of a call remove.
--     gives_up, any_gives_up      whether a change removes a table;  whether one of several does
--     is_cut      whether the call of a kit removed it
use Rattle.std.specs.Prelude.{ℕ, Bool, false, ◌&&◌, List, nat_lt}
use Rattle.std.specs.List.{list_any}
use Rattle.table_place.specs.declared.Place.{Place}
use Rattle.table_place.specs.Place.{span_first, span_count}
use Rattle.table_place.specs.Range.{lies_in}
use Rattle.machine_plan.specs.declared.kit.Kit.{Kit}
use Rattle.machine_plan.specs.declared.kit.Change.{Change}
use Rattle.machine_plan.specs.declared.kit.Change.TheVariants.{Op, Reset, Move, GiveUp, Spawn, Fork, Exit}

-- where page tables have so many levels. The root stays where pages are given up, and the directory is no table of a space
abbrev pub gives_up : ℕ → Place → Change → Bool
gives_up levels p (GiveUp first count) = nat_lt p.level levels && lies_in (span_first p) (span_count p) first count
gives_up levels p Exit = nat_lt p.level 6
gives_up levels p (Op o) = false
gives_up levels p (Reset first count) = false
gives_up levels p (Move first old to new) = false
gives_up levels p (Spawn space) = false
gives_up levels p (Fork space) = false

abbrev pub any_gives_up : ℕ → Place → List Change → Bool
any_gives_up levels p changes = list_any (λ c. gives_up levels p c) changes

abbrev pub is_cut : ℕ → Kit → Place → Bool
is_cut levels kit p = kit.done && any_gives_up levels p kit.changes.items
