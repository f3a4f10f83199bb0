use Rattle.std.specs.Prelude.{◌≡◌, false, List, slice_get, slice_index_or, length, Some}
use Rattle.std.proofs.Common.{sym, refl, ◌∙◌, ap, subst, arith}
use Rattle.row_cells.specs.declared.Cell.{Cell}
use Rattle.row_cells.specs.declared.Cell.TheVariants.{Invalid, Table, Anon, File, Mapped, Swapped}
use Rattle.machine_plan.specs.HeldRows.{Row, is_table}
use Rattle.machine_plan.proofs.Asked.{item_there}
use Rattle.range_cursor.proofs.Present.{shown_by, not_shown}
use Rattle.range_cursor.proofs.refusing.is_present.Goals as goal

no_link : (c : Cell) → (c ≡ Table → ⊥) → is_table c ≡ false
no_link Table not = absurd (not refl)
no_link Invalid not = refl
no_link (Anon perm) not = refl
no_link (File perm file index) not = refl
no_link (Mapped perm origin frame) not = refl
no_link (Swapped perm origin slot) not = refl

pub returns-in-Table : goal.returns-in-Table
returns-in-Table c st knows =
    let held = item_there c.rows-row-items.result.now c.args.held.now.rows c.loop-row.row-index c.row-item.result c.rows-row-items.ensures.list c.loop-row-test.true c.row-item.is in
    sym (ap is_table c.in-Table.is)
    ∙ shown_by st c.args.space c.args.held.now.rows knows c.row-item.result c.get.result.now held c.if-row-eq-DIRECTORY.true (omega (arith, c.requires)) (subst (λ n. slice_get c.row-item.result.content n ≡ Some c.get.result.now) c.from.ensures c.get.ensures)

pub returns-in_default : goal.returns-in_default
returns-in_default c st knows =
    let held = item_there c.rows-row-items.result.now c.args.held.now.rows c.loop-row.row-index c.row-item.result c.rows-row-items.ensures.list c.loop-row-test.true c.row-item.is in
    sym (no_link c.get.result.now c.in_default.not-Table)
    ∙ shown_by st c.args.space c.args.held.now.rows knows c.row-item.result c.get.result.now held c.if-row-eq-DIRECTORY.true (omega (arith, c.requires)) (subst (λ n. slice_get c.row-item.result.content n ≡ Some c.get.result.now) c.from.ensures c.get.ensures)

pub returns : goal.returns
returns c st knows = not_shown st c.args.space c.args.held.now.rows knows (λ x held high. c.loop-row.invariant.1 held.0 x (omega (arith, c.loop-row-test.false, ap length c.loop-row.invariant.0, held.1)) (subst (λ (xs : List Row). (slice_index_or xs held.0 x).place.level ≡ 6) (sym c.loop-row.invariant.0) (ap (λ (y : Row). y.place.level) held.2 ∙ high)))
