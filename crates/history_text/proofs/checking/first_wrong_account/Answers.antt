use Rattle.std.proofs.Common.{◌≡◌, refl, sym, ap, ◌∙◌}
use Rattle.std.proofs.lemmas.Bool.{false≢true}
use Rattle.corten_base.specs.declared.numbers.Accounts.{Accounts}
use Rattle.page_map.specs.State.{accounts}
use Rattle.history_lines.specs.Accounting.{frames_counts, swap_counts}
use Rattle.history_lines.specs.Wrong.{WrongAccount}
use Rattle.history_lines.proofs.Closings.{right_accounts, tables_from_own, own_from_tables}
use Rattle.history_text.proofs.checking.first_wrong_account.Goals as goal

pub returns-then-not-are_tables_right-clause-wrong : goal.returns-then-not-are_tables_right-clause-wrong
returns-then-not-are_tables_right-clause-wrong c =
    let st = c.args.plain.now in
    let a : Accounts = c.args.accounts.now in
    let own : Accounts = c.accounts-own.result in
    let f : frames_counts a ≡ frames_counts (accounts st 0) = sym c.frames_counts.ensures ∙ c.are_same.ensures.0 c.if-not-are_same.false ∙ c.frames_counts-2.ensures ∙ ap frames_counts c.accounts-own.ensures in
    let s : swap_counts a ≡ swap_counts (accounts st 0) =
    sym c.swap_counts.ensures ∙ c.are_same-else-not-are_same.ensures.0 c.if-not-are_same-2.false ∙ c.swap_counts-else-not-are_same.ensures ∙ ap swap_counts c.accounts-own.ensures in
    WrongAccount.tables refl f s (λ right. false≢true (sym c.if-not-are_tables_right.true ∙ c.are_tables_right.ensures.1 (own_from_tables st own a c.accounts-own.ensures right)))

pub returns-else-not-are_tables_right-clause-right : goal.returns-else-not-are_tables_right-clause-right
returns-else-not-are_tables_right-clause-right c =
    let st = c.args.plain.now in
    let a : Accounts = c.args.accounts.now in
    let own : Accounts = c.accounts-own.result in
    let f : frames_counts a ≡ frames_counts (accounts st 0) = sym c.frames_counts.ensures ∙ c.are_same.ensures.0 c.if-not-are_same.false ∙ c.frames_counts-2.ensures ∙ ap frames_counts c.accounts-own.ensures in
    let s : swap_counts a ≡ swap_counts (accounts st 0) =
    sym c.swap_counts.ensures ∙ c.are_same-else-not-are_same.ensures.0 c.if-not-are_same-2.false ∙ c.swap_counts-else-not-are_same.ensures ∙ ap swap_counts c.accounts-own.ensures in
    right_accounts st a f s (tables_from_own st own a c.accounts-own.ensures (c.are_tables_right.ensures.0 c.if-not-are_tables_right.false))
