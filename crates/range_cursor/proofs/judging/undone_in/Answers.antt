use Rattle.std.specs.Prelude.{ℕ}
use Rattle.std.specs.Option.{option_map}
use Rattle.std.proofs.Common.{ap}
use Rattle.corten_base.specs.declared.calls.Reply.TheVariants as reply
use Rattle.corten_base.specs.declared.calls.Why.{Why}
use Rattle.range_cursor.proofs.judging.undone_in.Goals as goal

pub returns-in-Some : goal.returns-in-Some
returns-in-Some c space st asked shown = ap (option_map (λ (u : ℕ × Why). reply.Undone u.0 u.1)) (c.in-Some.ensures space st asked shown)

pub returns-in-None : goal.returns-in-None
returns-in-None c space st asked shown = ap (option_map (λ (u : ℕ × Why). reply.Undone u.0 u.1)) (c.in-None.ensures space st asked shown)
