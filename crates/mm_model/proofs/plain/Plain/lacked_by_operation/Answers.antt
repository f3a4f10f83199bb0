use Rattle.std.proofs.Common.{◌≡◌, ℕ, true, Some, length, sym, ap, subst, ◌∙◌, arith}
use Rattle.std.specs.Prelude.{IfSome, IfNone}
use Rattle.std.specs.Option.{option_copied, unwrap_or}
use Rattle.std.specs.FinMap as map
use Rattle.table_place.specs.Range.{within}
use Rattle.page_map.specs.Cutting.{Changes}
use Rattle.page_map.specs.Mapping.{after_op}
use Rattle.page_map.specs.State.{State, AddressSpace, IsConsistent, levels, space_at}
use Rattle.page_map.specs.Tables.{Tables, missing}
use Rattle.plain_counts.specs.Cut.{IsShort}
use Rattle.plain_counts.specs.Levels.{Lists}
use Rattle.plain_counts.specs.declared.cut.Pages.{Pages}
use Rattle.txn_plan.specs.Needs.{range_of}
use Rattle.mm_model.specs.Operations.{cut_in, wanted_by}
use Rattle.mm_model.proofs.Lacks.{if_ok, lists_same}
use Rattle.mm_model.proofs.Needs.{changed_missing, none_lacked, short_range}
use Rattle.mm_model.proofs.plain.Plain.lacked_by_operation.Goals as goal
use Rattle.mm_model.proofs.plain.Plain.lacked_by_operation.Goals.{After-changed_pages-changed}

pub missing_in-requires : goal.missing_in-requires
missing_in-requires c =
    subst IsShort (sym c.requires.range) (short_range c.args.self.now c.args.op.now (subst IsConsistent c.self.view_is c.self.invariant.state) c.requires.fits.right)

pub returns-then-is_empty : goal.returns-then-is_empty
returns-then-is_empty c =
    let none : length c.in_ok-cut.cut.items ≡ 0 = search (arith) in
    none_lacked c.args.self.now c.args.space c.args.op.now (subst IsConsistent c.self.view_is c.self.invariant.state) c.requires.fits.right
    c.in_ok-cut.cut.items none
    (subst (λ (r : Pages). Lists (missing (cut_in (levels c.args.self.now) c.args.space (Some r)) c.args.self.now.tables) c.in_ok-cut.cut.items) c.requires.range c.in_ok-cut.ensures)

pub changed_pages-changed-requires-clause-short : goal.changed_pages-changed-requires-clause-short
changed_pages-changed-requires-clause-short c =
    subst IsShort (sym c.requires.range) (short_range c.args.self.now c.args.op.now (subst IsConsistent c.self.view_is c.self.invariant.state) c.requires.fits.right)

-- the cells of the space
abbrev cells_are : (c : After-changed_pages-changed) → c.unwrap-cells.result.now ≡ space_at c.args.self.now c.args.space
cells_are c =
    let here : map.get c.self.inside.spaces c.args.space ≡ Some c.unwrap-cells.result.now = sym c.get.ensures ∙ ap option_copied c.unwrap-cells.ensures in
    sym (ap (λ (st : State). space_at st c.args.space) (sym c.self.view_is) ∙ ap (λ o. unwrap_or o map.empty) here)

-- the range of the pages that change cuts what is lacked
abbrev lacks : (c : After-changed_pages-changed) →
    missing (cut_in (levels c.args.self.now) c.args.space c.changed_pages-changed.result) c.args.self.now.tables ≡ missing (wanted_by c.args.self.now c.args.space c.args.op.now) c.args.self.now.tables
lacks c = changed_missing c.args.self.now c.args.space c.args.op.now (subst IsConsistent c.self.view_is c.self.invariant.state) c.changed_pages-changed.result
    (subst (λ (cells : AddressSpace). IfSome c.changed_pages-changed.result (λ pages. Changes cells (after_op c.args.op.now cells) pages.first pages.count)) (cells_are c) c.changed_pages-changed.ensures.some)
    (subst (λ (cells : AddressSpace). IfNone c.changed_pages-changed.result ((q : ℕ) → within (range_of c.args.op.now).first (range_of c.args.op.now).count q ≡ true → map.get (after_op c.args.op.now cells) q ≡ map.get cells q)) (cells_are c)
    (subst (λ (r : Pages). IfNone c.changed_pages-changed.result ((q : ℕ) → within r.first r.count q ≡ true → map.get (after_op c.args.op.now c.unwrap-cells.result.now) q ≡ map.get c.unwrap-cells.result.now q)) c.requires.range c.changed_pages-changed.ensures.none))

pub returns-then-is_all : goal.returns-then-is_all
returns-then-is_all c =
    let at = (goal.at.returns-then-is_all c).After-changed_pages-changed in
    subst (λ (s : Tables). Lists s c.in_ok-cut.cut.items)
    (ap (λ p. missing (cut_in (levels c.args.self.now) c.args.space p) c.args.self.now.tables) (sym (c.is_all.ensures c.if-is_all.true)) ∙ lacks at) c.in_ok-cut.ensures

pub returns : goal.returns
returns c =
    let at = (goal.at.returns c).After-changed_pages-changed in
    if_ok c.missing_in-2.result (λ found. lists_same c.args.self.now.tables _ (wanted_by c.args.self.now c.args.space c.args.op.now) found.items (lacks at)) c.missing_in-2.ensures
