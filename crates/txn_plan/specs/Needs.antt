-- The page tables that the ranges of operations cut.
--     IsInSpan      whether an operation has a page, and all its pages are among those of five levels
--     range_of      its pages
--     cut_by_ops      the tables that the ranges of operations cut, as page_map has them of a transaction
use Rattle.std.specs.Prelude.{ℕ, ◌+◌, ◌^◌, ◌<◌, ◌≤◌, List}
use Rattle.std.specs.List.{flat_map}
use Rattle.corten_base.specs.declared.calls.TxnOp.{TxnOp}
use Rattle.table_place.specs.declared.Place.{Place}
use Rattle.table_place.specs.Place.{cut_by}
use Rattle.page_map.specs.Mapping.{op_first, op_pages}
use Rattle.plain_counts.specs.declared.cut.Pages.{Pages}

-- a linear address of five levels has 57 bits, 12 of them for the offset
pub record IsInSpan (o : TxnOp) : Type 0 where
  pub some : 0 < op_pages o
  pub high : op_first o + op_pages o ≤ 2 ^ 45

abbrev pub range_of : TxnOp → Pages
range_of o = record { first = op_first o; count = op_pages o }

abbrev pub cut_by_ops : ℕ → ℕ → List TxnOp → List Place
cut_by_ops levels space ops = flat_map (λ o. cut_by levels space (op_first o) (op_pages o)) ops
