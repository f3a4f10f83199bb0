-- What was tried is said of the text.
use Rattle.std.proofs.Common.{◌+◌, ℕ, List, ap, arith}
use Rattle.std.proofs.lemmas.Result.{err_from_is_err_and}
use Rattle.mm_script.proofs.Places.{IfBad-weaker}
use Rattle.history_lines.specs.HistoryText.{IsFirstFault}
use Rattle.history_text.specs.Streaming.{IsBegun}
use Rattle.history_text.proofs.Tried.{body_fault, ends_fault, tried_fits, wrong_entry, wrong_account, all_right, is_none}
use Rattle.history_text.proofs.streaming.judge_behind.Goals as goal

pub returns-in_err-tried-clause-bad : goal.returns-in_err-tried-clause-bad
returns-in_err-tried-clause-bad c =
    let p = err_from_is_err_and c.from_residual.result c.from_residual.ensures.1 in
    rw (p.1, p.2) (IfBad-weaker c.in_err-tried.field-0.0 _ (λ n. (bytes : List ℕ) → IsBegun bytes c.args.head c.args.first.now c.args.lines.now c.args.plain.now → IsFirstFault bytes n)
    (λ n fault bytes b. body_fault bytes c.args.head c.args.first.now c.args.lines.now c.args.plain.now n b (fault b.files b.behind b.at))
    c.in_err-tried.ensures.bad)

pub returns-in_err-ends-clause-bad : goal.returns-in_err-ends-clause-bad
returns-in_err-ends-clause-bad c =
    let p = err_from_is_err_and c.from_residual-in_err-ends.result c.from_residual-in_err-ends.ensures.1 in
    let f = c.in_ok-tried.tried.frames in
    rw (p.1, p.2) (IfBad-weaker c.in_err-ends.field-0.0 _ (λ n. (bytes : List ℕ) → IsBegun bytes c.args.head c.args.first.now c.args.lines.now c.args.plain.now → IsFirstFault bytes n)
    (λ n behind bytes b.
    let tried = c.in_ok-tried.ensures.ok b.files b.behind b.at in
    ends_fault bytes c.args.head c.args.first.now c.args.lines.now c.try_entries.new.lines c.args.plain.now c.try_entries.new.plain c.in_ok-tried.tried.wrong f b tried n
    (behind c.args.head b.files tried.entries f b.at.header b.at.are_files tried.are_entries tried.are_counts))
    c.in_err-ends.ensures.bad)

pub returns-in-Some-clause-found : goal.returns-in-Some-clause-found
returns-in-Some-clause-found c = λ bytes b.
    let ends = c.in_ok-ends.ensures.ok in
    let a = c.accounts_of-accounts.ensures in
    wrong_entry bytes c.args.head c.args.first.now c.args.lines.now c.try_entries.new.lines c.args.plain.now c.try_entries.new.plain c.in_ok-tried.tried.wrong c.in_ok-tried.tried.frames b
    (c.in_ok-tried.ensures.ok b.files b.behind b.at) c.read_ends.new.lines c.in_ok-ends.ends.swap c.in_ok-ends.ends.tables c.accounts_of-accounts.result ends.0 ends.1 ends.2 ends.3 a.frames a.swap a.tables
    c.in-Some.line c.in-Some.is

pub first_wrong_account-requires : goal.first_wrong_account-requires
first_wrong_account-requires c =
    let b = c.requires.1 in
    tried_fits c.requires.0 c.args.head c.args.first.now c.args.lines.now c.try_entries.new.lines c.args.plain.now c.try_entries.new.plain c.in_ok-tried.tried.wrong c.in_ok-tried.tried.frames b
    (c.in_ok-tried.ensures.ok b.files b.behind b.at) (is_none c.in_ok-tried.tried.wrong c.in_default.not-Some)

pub overflow_sub-result : goal.overflow_sub-result
overflow_sub-result c =
    let b = c.requires.1 in
    let counted = (c.in_ok-tried.ensures.ok b.files b.behind b.at).counted in
    omega (arith, c.taken-start.ensures.value, c.taken-behind.ensures.value, counted)

pub returns-in-Some-first_wrong_account-clause-found : goal.returns-in-Some-first_wrong_account-clause-found
returns-in-Some-first_wrong_account-clause-found c = λ bytes b.
    let ends = c.in_ok-ends.ensures.ok in
    let a = c.accounts_of-accounts.ensures in
    let place = c.in-Some-first_wrong_account.place in
    wrong_account bytes c.args.head c.args.first.now c.args.lines.now c.try_entries.new.lines c.args.plain.now c.try_entries.new.plain c.in_ok-tried.tried.wrong c.in_ok-tried.tried.frames b
    (c.in_ok-tried.ensures.ok b.files b.behind b.at) c.read_ends.new.lines c.in_ok-ends.ends.swap c.in_ok-ends.ends.tables c.accounts_of-accounts.result ends.0 ends.1 ends.2 ends.3 a.frames a.swap a.tables
    place (c.taken-behind.result + place) (is_none c.in_ok-tried.tried.wrong c.in_default.not-Some) c.in-Some-first_wrong_account.ensures.wrong (ap (λ k. k + place) c.taken-behind.ensures.value)

pub returns-in-None-clause-found : goal.returns-in-None-clause-found
returns-in-None-clause-found c = λ bytes b.
    let ends = c.in_ok-ends.ensures.ok in
    let a = c.accounts_of-accounts.ensures in
    let tried = c.in_ok-tried.ensures.ok b.files b.behind b.at in
    let counted = tried.counted in
    all_right bytes c.args.head c.args.first.now c.args.lines.now c.try_entries.new.lines c.args.plain.now c.try_entries.new.plain c.in_ok-tried.tried.wrong c.in_ok-tried.tried.frames b tried
    c.read_ends.new.lines c.in_ok-ends.ends.swap c.in_ok-ends.ends.tables c.accounts_of-accounts.result ends.0 ends.1 ends.2 ends.3 a.frames a.swap a.tables
    _ (is_none c.in_ok-tried.tried.wrong c.in_default.not-Some) c.in-None.ensures.right (omega (arith, c.taken-start.ensures.value, c.taken-behind.ensures.value, counted))
