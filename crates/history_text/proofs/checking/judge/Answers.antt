-- What the machine found is said of the history.
use Rattle.std.proofs.Common.{◌≡◌, ◌+◌, ◌≤◌, length, sym, subst, ◌∙◌}
use Rattle.page_map.specs.State.{State, linked}
use Rattle.page_map.specs.History.{after}
use Rattle.history_lines.specs.declared.history.History.{History}
use Rattle.history_lines.specs.HistoryText.{head_of}
use Rattle.history_lines.proofs.Closings.{final, final_is_consistent}
use Rattle.history_lines.proofs.Verdicts.{Found, found_at_entry, found_at_account, none_found}
use Rattle.history_text.proofs.checking.judge.Goals as goal

pub returns-in-Some-clause-verdict : goal.returns-in-Some-clause-verdict
returns-in-Some-clause-verdict c =
    let h : History = c.args.history.now in
    subst (λ n. Found h (n + c.in-Some.place)) (sym c.first_entry-first.ensures.value)
    (found_at_entry h c.requires.text c.args.plain.now c.list-entries.result.now c.requires.start c.list-entries.ensures c.in-Some.place
    (rw c.in-Some.is at c.in_ok-place.ensures.wrong))

pub returns-in-Some-first_wrong_account-clause-verdict : goal.returns-in-Some-first_wrong_account-clause-verdict
returns-in-Some-first_wrong_account-clause-verdict c =
    let h : History = c.args.history.now in
    let right = none_found c.in_ok-place.field-0 _ c.in_default.not-Some c.in_ok-place.ensures.right in
    subst (λ n. Found h (n + length c.list-entries.result.now + c.in-Some-first_wrong_account.place)) (sym c.first_entry-first.ensures.value)
    (found_at_account h c.requires.text c.args.plain.now c.first_wrong_entry.new.plain c.list-entries.result.now c.requires.start c.list-entries.ensures right.0 right.1
    c.in-Some-first_wrong_account.place c.in-Some-first_wrong_account.ensures.wrong)

pub first_wrong_account-requires : goal.first_wrong_account-requires
first_wrong_account-requires c =
    let h : History = c.args.history.now in
    let right = none_found c.in_ok-place.field-0 _ c.in_default.not-Some c.in_ok-place.ensures.right in
    let state : c.first_wrong_entry.new.plain ≡ final h.limits h.shelf h.entries = right.1 ∙ (λ j. after (c.requires.start j) (c.list-entries.ensures j)) in
    subst (λ (s : State). linked s ≤ s.limits.tables) (sym state) (final_is_consistent (head_of h) h.shelf h.entries c.requires.text.head c.requires.text.entries).tables

-- no legal history has a wrong reply
pub returns-in-Some-clause-machine : goal.returns-in-Some-clause-machine
returns-in-Some-clause-machine c =
    let h : History = c.args.history.now in
    let wrong = found_at_entry h c.requires.text c.args.plain.now c.list-entries.result.now c.requires.start c.list-entries.ensures c.in-Some.place
    (rw c.in-Some.is at c.in_ok-place.ensures.wrong) in
    λ legal. absurd (wrong.0 legal)

pub returns-in-Some-first_wrong_account-clause-machine : goal.returns-in-Some-first_wrong_account-clause-machine
returns-in-Some-first_wrong_account-clause-machine c =
    let right = none_found c.in_ok-place.field-0 _ c.in_default.not-Some c.in_ok-place.ensures.right in
    λ legal. right.1 ∙ (λ j. after (c.requires.start j) (c.list-entries.ensures j))

pub returns-in-None-clause-machine : goal.returns-in-None-clause-machine
returns-in-None-clause-machine c =
    let right = none_found c.in_ok-place.field-0 _ c.in_default.not-Some c.in_ok-place.ensures.right in
    λ legal. right.1 ∙ (λ j. after (c.requires.start j) (c.list-entries.ensures j))
