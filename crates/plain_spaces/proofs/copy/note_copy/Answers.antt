use Rattle.std.proofs.Common.{sym, ap, ◌∙◌, arith}
use Rattle.std.proofs.lemmas.Bool.{and_from, lt-ltb, le-ltb}
use Rattle.std.specs.Prelude.{◌&&◌}
use Rattle.plain_spaces.specs.Copies.{is_used}
use Rattle.plain_spaces.proofs.Copied.{noted_one, noted_not, short_span}
use Rattle.plain_spaces.proofs.copy.note_copy.Goals as goal
use Rattle.plain_spaces.proofs.copy.note_copy.Goals.{else-place-levels-via-then-place-levels+else-is_used, else-place-levels-via-else-place-levels}

pub is_used-requires-clause-span : goal.is_used-requires-clause-span
is_used-requires-clause-span c = omega (arith, short_span c.args.levels c.args.place c.requires.levels c.requires.place)

pub returns-in_ok-insert : goal.returns-in_ok-insert
returns-in_ok-insert c =
    c.in_ok-insert.ensures.ok
    ∙ noted_one c.args.levels c.args.new c.args.cells.now c.args.copies.now c.args.place
    (and_from _ _ (lt-ltb c.args.place.level c.args.levels c.if-place-levels.true) (sym c.is_used.ensures ∙ c.if-is_used.true))

pub returns-else-place-levels : goal.returns-else-place-levels
returns-else-place-levels c = noted_not c.args.levels c.args.new c.args.cells.now c.args.copies.now c.args.place (elim c.else-place-levels.branch [
  | else-place-levels-via-then-place-levels+else-is_used w ↦
      (λ i. lt-ltb c.args.place.level c.args.levels w.if-place-levels.true i && (sym w.is_used.ensures ∙ w.if-is_used.false) i)
  | else-place-levels-via-else-place-levels w ↦ ap (λ b. b && is_used c.args.cells.now c.args.place) (le-ltb c.args.place.level c.args.levels w.if-place-levels.false)
])
