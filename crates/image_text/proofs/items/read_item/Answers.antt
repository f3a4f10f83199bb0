use Rattle.std.proofs.Common.{refl}
use Rattle.std.proofs.lemmas.Bool.{false≢true}
use Rattle.image_text.proofs.OneItem.{HasTaken, found_whole, none_whole, none_longer}
use Rattle.image_text.proofs.items.read_item.Goals as goal

pub returns-then-is_done-clause-found : goal.returns-then-is_done-clause-found
returns-then-is_done-clause-found c =
    let line = c.args.line.now in
    let taken : HasTaken c.in_ok-item.item line c.next_item.new.words =
    record { found = rw (← c.of-words.ensures) c.in_ok-item.ensures.found; none = rw (← c.of-words.ensures) c.in_ok-item.ensures.none } in
    found_whole c.in_ok-item.item line c.next_item.new.words taken (c.if-is_done.ensures.0 refl)

pub returns-then-is_done-clause-none : goal.returns-then-is_done-clause-none
returns-then-is_done-clause-none c =
    let line = c.args.line.now in
    let taken : HasTaken c.in_ok-item.item line c.next_item.new.words =
    record { found = rw (← c.of-words.ensures) c.in_ok-item.ensures.found; none = rw (← c.of-words.ensures) c.in_ok-item.ensures.none } in
    none_whole c.in_ok-item.item line c.next_item.new.words taken

pub returns-else-is_done-clause-none : goal.returns-else-is_done-clause-none
returns-else-is_done-clause-none c =
    let line = c.args.line.now in
    let taken : HasTaken c.in_ok-item.item line c.next_item.new.words =
    record { found = rw (← c.of-words.ensures) c.in_ok-item.ensures.found; none = rw (← c.of-words.ensures) c.in_ok-item.ensures.none } in
    none_longer c.in_ok-item.item line c.next_item.new.words taken (λ done. false≢true (c.if-is_done.ensures.1 done))
