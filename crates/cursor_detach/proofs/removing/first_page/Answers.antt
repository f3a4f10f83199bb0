use Rattle.std.proofs.Common.{ℕ, ◌*◌, ◌%◌, ◌^◌, ap, ◌∙◌}
use Rattle.tree_lock.proofs.Positions.{first_shifted}
use Rattle.cursor_detach.proofs.removing.first_page.Goals as goal

pub returns : goal.returns
returns c = ap (λ (n : ℕ). n * 2 ^ (9 * c.args.place.level) % 2 ^ 128) c.from.ensures ∙ first_shifted c.args.place c.requires
