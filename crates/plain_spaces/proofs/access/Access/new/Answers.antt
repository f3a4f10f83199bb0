use Rattle.std.proofs.Common.{true, false, Some, ◌+◌, ◌-◌, ◌*◌, ◌/◌, sym, ◌∙◌, ap}
use Rattle.corten_base.specs.declared.calls.Reply.TheVariants as reply
use Rattle.table_place.specs.Place.{is_user_page}
use Rattle.plain_spaces.specs.Reach.{reaching}
use Rattle.plain_spaces.proofs.Reach.{outside_first, outside_last}
use Rattle.plain_spaces.proofs.access.Access.new.Goals as goal

pub returns-then-not-is_user-clause-refused : goal.returns-then-not-is_user-clause-refused
returns-then-not-is_user-clause-refused c = outside_first (reaching c.args.at c.args.len c.args.write) c.requires.some c.requires.few c.args.levels (sym c.if-not-is_user.ensures.value)

pub returns-then-not-is_user-2-clause-refused : goal.returns-then-not-is_user-2-clause-refused
returns-then-not-is_user-2-clause-refused c =
    outside_last (reaching c.args.at c.args.len c.args.write) c.requires.some c.requires.few c.args.levels (sym c.if-not-is_user.ensures.value) false
    (ap (λ n. is_user_page c.args.levels ((c.args.at + n - 1) / 4096)) (sym c.from.ensures) ∙ sym c.if-not-is_user-2.ensures.value)
    ∙ ap (λ n. Some (reply.Segv (4096 * ((c.args.at + n - 1) / 4096)))) (sym c.from.ensures)

pub returns-clause-ok : goal.returns-clause-ok
returns-clause-ok c =
    outside_last (reaching c.args.at c.args.len c.args.write) c.requires.some c.requires.few c.args.levels (sym c.if-not-is_user.ensures.value) true
    (ap (λ n. is_user_page c.args.levels ((c.args.at + n - 1) / 4096)) (sym c.from.ensures) ∙ sym c.if-not-is_user-2.ensures.value)
