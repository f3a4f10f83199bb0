-- The missing tables of operations, by those of their ranges.
use Rattle.std.proofs.Common.{◌≡◌, ℕ, List, [], ◌∷◌, ◌++◌, refl, ap}
use Rattle.std.specs.Prelude.{map}
use Rattle.std.specs.List.{All, flat_map}
use Rattle.std.proofs.lemmas.List.Elements.{All-map}
use Rattle.corten_base.specs.declared.calls.TxnOp.{TxnOp}
use Rattle.table_place.specs.Place.{cut_by}
use Rattle.plain_counts.specs.declared.cut.Pages.{Pages}
use Rattle.plain_counts.specs.Cut.{IsShort}
use Rattle.txn_plan.specs.Needs.{IsInSpan, cut_by_ops, range_of}

-- what the ranges of operations cut
pub cut_ranges : (levels space : ℕ) (ops : List TxnOp) → flat_map (λ (r : Pages). cut_by levels space r.first r.count) (map range_of ops) ≡ cut_by_ops levels space ops
cut_ranges levels space [] = refl
cut_ranges levels space (o ∷ os) = ap (λ l. cut_by levels space (range_of o).first (range_of o).count ++ l) (cut_ranges levels space os)

pub short_ranges : (ops : List TxnOp) → All IsInSpan ops → All IsShort (map range_of ops)
short_ranges ops span = All-map IsShort range_of ops (λ k d low. let o = span k d low in record { some = o.some; fits = o.high })
