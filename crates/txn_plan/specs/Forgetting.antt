-- What is known of full arenas after a transaction.
--     unmaps, is_unmapped      whether an operation unmaps a page;  whether one of some does
--     Forgets      whether the pages of one space that are still known to be full were known before, and none of them is unmapped
use Rattle.std.specs.Prelude.{◌≡◌, ◌≢◌, ℕ, ◌+◌, ◌<◌, ◌≤◌, Bool, false, List}
use Rattle.std.specs.List.{list_any}
use Rattle.corten_base.specs.declared.calls.TxnOp.{TxnOp}
use Rattle.corten_base.specs.declared.calls.TxnOp.TheVariants as op
use Rattle.table_place.specs.Range.{within}
use Rattle.page_map.specs.Mapping.{op_first, op_pages, arena_first}
use Rattle.plain_counts.specs.Fronts.{full_pages}

abbrev pub unmaps : ℕ → TxnOp → Bool
unmaps page (op.Map at fresh len perm what) = false
unmaps page (op.Unmap at len) = within (op_first (op.Unmap at len)) (op_pages (op.Unmap at len)) page
unmaps page (op.Protect at len perm) = false

abbrev pub is_unmapped : List TxnOp → ℕ → Bool
is_unmapped ops page = list_any (unmaps page) ops

pub record Forgets (ops : List TxnOp) (space : ℕ) (old new : List ℕ) : Type 0 where
  pub fewer : (t : ℕ) → t < 8 → full_pages new space t ≤ full_pages old space t
  pub apart : (t page : ℕ) → t < 8 → arena_first t ≤ page → page < arena_first t + full_pages new space t → is_unmapped ops page ≡ false
  pub others : (s t : ℕ) → s ≢ space → t < 8 → full_pages new s t ≡ full_pages old s t
