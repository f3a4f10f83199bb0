use Rattle.std.proofs.Common.{◌≡◌, take}
use Rattle.std.specs.List.{flat_map}
use Rattle.std.specs.FinSet as set
use Rattle.table_place.specs.Place.{cut_by}
use Rattle.page_map.specs.Tables.{missing}
use Rattle.plain_counts.proofs.tables.Tables.missing_cut.Given as goal

-- those of the ranges before this one are found
abbrev pub invariant-loop-pages : goal.invariant-loop-pages
invariant-loop-pages l = l.found ≡ set.union set.empty (missing (flat_map (λ r. cut_by l.levels l.space r.first r.count) (take l.pages-index l.ranges)) l.self)
