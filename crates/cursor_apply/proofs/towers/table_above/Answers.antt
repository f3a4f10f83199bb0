use Rattle.std.specs.Prelude.{◌*◌, ◌/◌, ◌^◌}
use Rattle.std.proofs.Common.{sym, ap, ◌∙◌}
use Rattle.table_place.proofs.Spans.{level_bits}
use Rattle.cursor_apply.proofs.towers.table_above.Goals as goal

pub returns : goal.returns
returns c = λ i. record { space = c.args.space; level = c.args.level; prefix = c.args.page / (ap (λ n. 2 ^ (9 * n)) c.from.ensures ∙ sym (level_bits c.args.level)) i }
