use Rattle.std.proofs.Common.{◌≡◌, ◌<◌, length, take, sym, ap, subst, ◌∙◌, arith}
use Rattle.std.specs.Option.{option_map}
use Rattle.std.proofs.lemmas.Bool.{eqb-true, eqb-false}
use Rattle.page_map.specs.Access.{first_page}
use Rattle.page_map.specs.Change.{change}
use Rattle.space_cells.specs.Cells.{overwritten}
use Rattle.plain_spaces.proofs.Stores.{stored_one, stored_two}
use Rattle.plain_spaces.proofs.access.write.Goals as goal
use Rattle.plain_spaces.proofs.access.write.Goals.{After-write_at}

-- the cells after the first page was written
abbrev written : (c : After-write_at) → c.write_at.new.self ≡ change c.args.cells.now (first_page c.args.access) 1 (λ _. option_map (overwritten c.start-start.result (take c.min.result c.args.bytes.now)))
written c = c.write_at.ensures ∙ (λ i. change c.args.cells.now (c.first.ensures.value i) 1 (λ _. option_map (overwritten c.start-start.result (c.split_at.ensures.front i))))

pub returns-then-not-is_empty : goal.returns-then-not-is_empty
returns-then-not-is_empty c =
    c.write_at-then-not-is_empty.ensures
    ∙ (λ i. change (written (goal.at.returns-then-not-is_empty c).After-write_at i) (c.last.ensures.value i) 1 (λ _. option_map (overwritten 0 (c.split_at.ensures.back i))))
    ∙ stored_two c.args.access c.first.ensures.user.some c.first.ensures.user.few c.args.bytes.now c.requires.len c.args.cells.now c.start-start.result c.min.result c.start-start.ensures.value c.min.ensures
    (subst (λ l. 0 < length l) c.split_at.ensures.back (omega (arith, eqb-false _ 0 (sym c.if-not-is_empty.ensures))))

pub returns-else-not-is_empty : goal.returns-else-not-is_empty
returns-else-not-is_empty c =
    written (goal.at.returns-else-not-is_empty c).After-write_at
    ∙ stored_one c.args.access c.first.ensures.user.some c.first.ensures.user.few c.args.bytes.now c.requires.len c.args.cells.now c.start-start.result c.min.result c.start-start.ensures.value c.min.ensures
    (ap length (sym c.split_at.ensures.back) ∙ eqb-true _ 0 (sym c.if-not-is_empty.ensures))
