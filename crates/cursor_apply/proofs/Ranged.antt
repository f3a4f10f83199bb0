-- The range of pages that a change of a call changes, and what it makes of them.
--     made_inside, made_outside      a page of the range, and any other
use Rattle.std.specs.Prelude.{◌≡◌, ℕ, ◌-◌, ◌/◌, true, false, cond, Option, Some, None}
use Rattle.std.specs.Option.{option_map}
use Rattle.std.specs.FinMap.{get}
use Rattle.std.proofs.Common.{sym, refl, ◌∙◌, ap, subst}
use Rattle.corten_base.specs.declared.calls.TxnOp.{TxnOp}
use Rattle.corten_base.specs.declared.calls.TxnOp.TheVariants as op
use Rattle.table_place.specs.Range.{within}
use Rattle.table_place.specs.Place.{pages_of}
use Rattle.page_map.specs.Cell.{AddressSpace, backed, goes_on, with_perm}
use Rattle.page_map.specs.DontNeed.{given_back}
use Rattle.page_map.specs.Mapping.{after_op, op_first, op_pages}
use Rattle.page_map.proofs.Range.{get-change}
use Rattle.machine_plan.specs.declared.kit.Change.{Change}
use Rattle.machine_plan.specs.declared.kit.Change.TheVariants.{Op, Reset, Move, GiveUp, Spawn, Fork, Exit}
use Rattle.machine_plan.specs.Changes.{made_by}
use Rattle.cursor_apply.specs.declared.becoming.RangeChange.{RangeChange}
use Rattle.cursor_apply.specs.Changing.{page_made}
use Rattle.cursor_apply.specs.Changed.{op_change, range_change}

op_made : (o : TxnOp) (cells : AddressSpace) (page : ℕ) → get (after_op o cells) page ≡ cond (within (op_first o) (op_pages o) page) (page_made (op_change o).making (page - op_first o) (get cells page)) (get cells page)
unfolding after_op
op_made (op.Map at fresh len perm what) cells page = get-change cells (at / 4096) (pages_of len) (λ p _. Some (backed what perm (p - at / 4096))) page
op_made (op.Unmap at len) cells page = get-change cells (at / 4096) (pages_of len) (λ p _. None) page
op_made (op.Protect at len perm) cells page = get-change cells (at / 4096) (pages_of len) (λ p. option_map (with_perm perm)) page

given_made : (first count : ℕ) (cells : AddressSpace) (page : ℕ) → get (given_back first count cells) page ≡ cond (within first count page) (option_map (λ c. goes_on c 0) (get cells page)) (get cells page)
unfolding given_back
given_made first count cells page = get-change cells first count (λ p. option_map (λ cell. goes_on cell 0)) page

-- at each page
pub made_at : (c : Change) (r : RangeChange) → range_change c ≡ Some r → (cells : AddressSpace) (page : ℕ) → get (made_by c cells) page ≡ cond (within r.first r.count page) (page_made r.making (page - r.first) (get cells page)) (get cells page)
made_at c r is cells page = go c is
  where
    by : (s : RangeChange) → Some s ≡ Some r → (o : _) → o ≡ cond (within s.first s.count page) (page_made s.making (page - s.first) (get cells page)) (get cells page) → o ≡ cond (within r.first r.count page) (page_made r.making (page - r.first) (get cells page)) (get cells page)
    by s e o h = let same : s ≡ r = cc in h ∙ ap (λ (z : RangeChange). cond (within z.first z.count page) (page_made z.making (page - z.first) (get cells page)) (get cells page)) same

    go : (c : Change) → range_change c ≡ Some r → get (made_by c cells) page ≡ cond (within r.first r.count page) (page_made r.making (page - r.first) (get cells page)) (get cells page)
    go (Op o) e = by (op_change o) e (get (after_op o cells) page) (op_made o cells page)
    go (Reset first count) e = by _ e (get (given_back first count cells) page) (given_made first count cells page)
    go (Move first old to new) e = absurd (cc)
    go (GiveUp first count) e = absurd (cc)
    go (Spawn space) e = absurd (cc)
    go (Fork space) e = absurd (cc)
    go Exit e = absurd (cc)

pub made_inside : (c : Change) (r : RangeChange) → range_change c ≡ Some r → (cells : AddressSpace) (page : ℕ) → within r.first r.count page ≡ true → get (made_by c cells) page ≡ page_made r.making (page - r.first) (get cells page)
made_inside c r is cells page e = made_at c r is cells page ∙ ap (λ t. cond t (page_made r.making (page - r.first) (get cells page)) (get cells page)) e

pub made_outside : (c : Change) (r : RangeChange) → range_change c ≡ Some r → (cells : AddressSpace) (page : ℕ) → within r.first r.count page ≡ false → get (made_by c cells) page ≡ get cells page
made_outside c r is cells page e = made_at c r is cells page ∙ ap (λ t. cond t (page_made r.making (page - r.first) (get cells page)) (get cells page)) e
