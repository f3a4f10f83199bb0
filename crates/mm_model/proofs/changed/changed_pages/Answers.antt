use Rattle.std.proofs.Common.{◌≡◌, ℕ, ◌+◌, ◌-◌, ◌≤◌, true, sym, ap, subst, ◌∙◌, arith}
use mathlib.Core.Bool.{true≢false}
use Rattle.std.specs.Prelude.{Option, Some}
use Rattle.std.specs.Option.{option_map}
use Rattle.std.specs.FinMap.{get}
use Rattle.corten_base.specs.declared.calls.TxnOp.{TxnOp}
use Rattle.table_place.specs.Range.{within}
use Rattle.table_place.proofs.Tables.{to_range}
use Rattle.page_map.specs.declared.cell.Cell.{Cell}
use Rattle.page_map.specs.Cell.{AddressSpace}
use Rattle.page_map.specs.Mapping.{after_op, op_first, op_pages}
use Rattle.plain_counts.specs.declared.cut.Pages.{Pages}
use Rattle.space_cells.specs.Views.{seen}
use Rattle.mm_model.specs.Operations.{made_of}
use Rattle.mm_model.proofs.Found.{IsFoundIn, after_at, stays_found, more_found, found_changes}
use Rattle.mm_model.proofs.changed.changed_pages.Goals as goal
use Rattle.mm_model.proofs.changed.changed_pages.Goals.{After-leaves}

-- what is told of a page is what the operation does to it
module _ (o : TxnOp) (cells : AddressSpace) (first q : ℕ) (view : Option Cell) (first_is : first ≡ op_first o) (view_is : view ≡ get cells q) (w : within (op_first o) (op_pages o) q ≡ true) where
  kept : made_of o (q - first) view ≡ view → get (after_op o cells) q ≡ get cells q
  kept e = after_at o cells q w ∙ (λ i. made_of o (q - sym first_is i) (sym view_is i)) ∙ e ∙ view_is

  told : get (after_op o cells) q ≡ get cells q → made_of o (q - first) view ≡ view
  told same = (λ i. made_of o (q - first_is i) (view_is i)) ∙ sym (after_at o cells q w) ∙ same ∙ sym view_is

abbrev first_is : (c : After-leaves) → c.args.range.first ≡ op_first c.args.op.now
first_is c = ap (λ (p : Pages). p.first) c.requires.range

abbrev count_is : (c : After-leaves) → c.args.range.count ≡ op_pages c.args.op.now
count_is c = ap (λ (p : Pages). p.count) c.requires.range

low : (c : After-leaves) → op_first c.args.op.now ≤ c.loop-next.next
low c = omega (arith, first_is c, c.loop-next.invariant.low)

high : (c : After-leaves) → c.args.range.first + c.args.range.count ≤ op_first c.args.op.now + op_pages c.args.op.now
high c = omega (arith, first_is c, count_is c)

in_it : (c : After-leaves) → within (op_first c.args.op.now) (op_pages c.args.op.now) c.loop-next.next ≡ true
in_it c = to_range (op_first c.args.op.now) (op_pages c.args.op.now) c.loop-next.next (low c) (omega (arith, high c, c.loop-next-test.true))

pub loop-next-preserved-then-not-leaves : goal.loop-next-preserved-then-not-leaves
loop-next-preserved-then-not-leaves c =
    let at = (goal.at.loop-next-preserved-then-not-leaves c).After-leaves in
    record {
      low = omega (arith, c.loop-next.invariant.low);
      high = omega (arith, c.stretch.ensures.fits);
      found = subst (λ pages. IsFoundIn c.args.cells.now (after_op c.args.op.now c.args.cells.now) c.args.range.first (c.loop-next.next + c.stretch.result) (Some pages)) (sym c.up_to.ensures)
          (more_found c.args.op.now c.args.cells.now c.loop-next.next (c.args.range.first + c.args.range.count) c.stretch.result (low at) (high at) c.stretch.ensures c.args.range.first c.loop-next.changed
          c.loop-next.invariant.low c.loop-next.invariant.found
          (λ same. true≢false (sym (c.leaves.ensures.1 (told c.args.op.now c.args.cells.now c.args.range.first c.loop-next.next (option_map seen c.get.result) (first_is at) c.get.ensures (in_it at) same)) ∙ c.if-not-leaves.true)));
    }

pub loop-next-preserved : goal.loop-next-preserved
loop-next-preserved c =
    let at = (goal.at.loop-next-preserved c).After-leaves in
    record {
      low = omega (arith, c.loop-next.invariant.low);
      high = omega (arith, c.stretch.ensures.fits);
      found = stays_found c.args.op.now c.args.cells.now c.loop-next.next (c.args.range.first + c.args.range.count) c.stretch.result (low at) (high at) c.stretch.ensures c.args.range.first c.loop-next.changed
          c.loop-next.invariant.low c.loop-next.invariant.found
          (kept c.args.op.now c.args.cells.now c.args.range.first c.loop-next.next (option_map seen c.get.result) (first_is at) c.get.ensures (in_it at) (c.leaves.ensures.0 c.if-not-leaves.false));
    }

pub returns-clause-some : goal.returns-clause-some
returns-clause-some c =
    let whole = subst (λ n. IsFoundIn c.args.cells.now (after_op c.args.op.now c.args.cells.now) c.args.range.first n c.loop-next.changed)
    (omega (arith, c.loop-next-test.false, c.loop-next.invariant.high)) c.loop-next.invariant.found in
    found_changes c.args.op.now c.args.cells.now c.args.range (ap (λ (p : Pages). p.first) c.requires.range) (ap (λ (p : Pages). p.count) c.requires.range) c.requires.short c.loop-next.changed whole
