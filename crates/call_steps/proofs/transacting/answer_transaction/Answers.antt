use Rattle.std.proofs.Common.{Some, ℕ, length, refl, sym, ap, ◌∙◌, subst}
use Rattle.corten_base.specs.declared.calls.Call.TheVariants as call
use Rattle.row_table.specs.Passes.{view_of, layout_of}
use Rattle.call_steps.specs.Ready.{IsCovered}
use Rattle.call_steps.specs.Planned.{HasPlanned}
use Rattle.call_steps.specs.Given.{MayEnter, Outcome}
use Rattle.call_steps.specs.Transacting.{CoversTable}
use Rattle.call_steps.proofs.Chained.{has_origin, covered_then, levels_then, may_enter, outcome_on, is_idle, same_pass}
use Rattle.call_steps.proofs.transacting.answer_transaction.Goals as goal

pub prepare-requires-clause-levels : goal.prepare-requires-clause-levels
prepare-requires-clause-levels g c =
    let first = has_origin c.args.iron.now in
    levels_then (layout_of c.args.iron.now) c.layout.ensures.sizes (call.Txn c.args.space c.args.at c.args.len c.args.ops) (view_of c.args.pass.now) (view_of c.take_book-book.new.pass) c.take_book-book.result c.args.held.now.rows c.args.kit.now first.0 (c.take_book-book.ensures.origin ∙ first.1) c.requires.outside (c.requires.fits first.0 first.1)
    (subst (λ o. CoversTable o (call.Txn c.args.space c.args.at c.args.len c.args.ops) (view_of c.args.pass.now) c.args.held.now.rows) first.1 c.requires.covered) c.take_book-book.ensures.turned

pub prepare-requires-clause-covered : goal.prepare-requires-clause-covered
prepare-requires-clause-covered g c =
    let first = has_origin c.args.iron.now in (
      (view_of c.args.pass.now),
      c.take_book-book.ensures.turned,
      subst (λ (n : ℕ). IsCovered (length c.take_book-book.result.files) n (call.Txn c.args.space c.args.at c.args.len c.args.ops) (view_of c.args.pass.now) c.args.held.now.rows) (sym c.number-number.ensures)
          (covered_then (layout_of c.args.iron.now) c.layout.ensures.sizes (call.Txn c.args.space c.args.at c.args.len c.args.ops) (view_of c.args.pass.now) (view_of c.take_book-book.new.pass) c.take_book-book.result c.args.held.now.rows c.args.kit.now first.0 (c.take_book-book.ensures.origin ∙ first.1) c.requires.outside (c.requires.fits first.0 first.1)
          (subst (λ o. CoversTable o (call.Txn c.args.space c.args.at c.args.len c.args.ops) (view_of c.args.pass.now) c.args.held.now.rows) first.1 c.requires.covered) c.take_book-book.ensures.turned),
    )

pub enter-outcome-requires-clause-may : goal.enter-outcome-requires-clause-may
enter-outcome-requires-clause-may g c =
    let first = has_origin c.args.iron.now in (
      (view_of c.args.pass.now),
      (subst (λ (n : ℕ). MayEnter (layout_of c.args.iron.now) n (call.Txn c.args.space c.args.at c.args.len c.args.ops) (view_of c.args.pass.now) (view_of c.prepare.new.pass) c.prepare.new.book c.prepare.new.held.rows c.prepare.new.kit) (sym c.number-number.ensures)
          (may_enter (layout_of c.args.iron.now) c.layout.ensures.sizes (call.Txn c.args.space c.args.at c.args.len c.args.ops) (view_of c.args.pass.now) (view_of c.take_book-book.new.pass) c.take_book-book.result c.args.held.now.rows c.args.kit.now first.0 (c.take_book-book.ensures.origin ∙ first.1) c.requires.outside (c.requires.fits first.0 first.1)
          (subst (λ o. CoversTable o (call.Txn c.args.space c.args.at c.args.len c.args.ops) (view_of c.args.pass.now) c.args.held.now.rows) first.1 c.requires.covered) c.take_book-book.ensures.turned (view_of c.prepare.new.pass) c.prepare.new.book c.prepare.new.held.rows c.prepare.new.kit (λ st p. refl)
          (subst (λ (n : ℕ). HasPlanned (layout_of c.args.iron.now) n (call.Txn c.args.space c.args.at c.args.len c.args.ops) (view_of c.take_book-book.new.pass) c.take_book-book.result c.args.held.now.rows c.args.kit.now (view_of c.prepare.new.pass) c.prepare.new.book c.prepare.new.held.rows c.prepare.new.kit) c.number-number.ensures c.prepare.ensures.plans))),
    )

pub finish_transaction-requires-clause-given : goal.finish_transaction-requires-clause-given
finish_transaction-requires-clause-given g c =
    let first = has_origin c.args.iron.now in (
      (view_of c.args.pass.now),
      c.number-number.result,
      (call.Txn c.args.space c.args.at c.args.len c.args.ops),
      (c.enter-outcome.ensures.given (view_of c.args.pass.now) (subst (λ (n : ℕ). MayEnter (layout_of c.args.iron.now) n (call.Txn c.args.space c.args.at c.args.len c.args.ops) (view_of c.args.pass.now) (view_of c.prepare.new.pass) c.prepare.new.book c.prepare.new.held.rows c.prepare.new.kit) (sym c.number-number.ensures)
          (may_enter (layout_of c.args.iron.now) c.layout.ensures.sizes (call.Txn c.args.space c.args.at c.args.len c.args.ops) (view_of c.args.pass.now) (view_of c.take_book-book.new.pass) c.take_book-book.result c.args.held.now.rows c.args.kit.now first.0 (c.take_book-book.ensures.origin ∙ first.1) c.requires.outside (c.requires.fits first.0 first.1)
          (subst (λ o. CoversTable o (call.Txn c.args.space c.args.at c.args.len c.args.ops) (view_of c.args.pass.now) c.args.held.now.rows) first.1 c.requires.covered) c.take_book-book.ensures.turned (view_of c.prepare.new.pass) c.prepare.new.book c.prepare.new.held.rows c.prepare.new.kit (λ st p. refl)
          (subst (λ (n : ℕ). HasPlanned (layout_of c.args.iron.now) n (call.Txn c.args.space c.args.at c.args.len c.args.ops) (view_of c.take_book-book.new.pass) c.take_book-book.result c.args.held.now.rows c.args.kit.now (view_of c.prepare.new.pass) c.prepare.new.book c.prepare.new.held.rows c.prepare.new.kit) c.number-number.ensures c.prepare.ensures.plans)))),
      record { at = c.args.at; len = c.args.len; ops = c.args.ops; is = λ i. call.Txn (sym c.number.ensures.value i) c.args.at c.args.len c.args.ops },
    )

pub returns-clause-idle : goal.returns-clause-idle
returns-clause-idle g c =
    let first = has_origin c.args.iron.now in
    is_idle c.number-number.result (call.Txn c.args.space c.args.at c.args.len c.args.ops) (view_of c.args.pass.now) (view_of c.enter-outcome.new.pass) (view_of c.finish_transaction.new.pass) c.finish_transaction.ensures.done (layout_of c.args.iron.now) c.enter-outcome.new.held.rows c.enter-outcome.new.kit c.requires.outside (c.enter-outcome.ensures.given (view_of c.args.pass.now) (subst (λ (n : ℕ). MayEnter (layout_of c.args.iron.now) n (call.Txn c.args.space c.args.at c.args.len c.args.ops) (view_of c.args.pass.now) (view_of c.prepare.new.pass) c.prepare.new.book c.prepare.new.held.rows c.prepare.new.kit) (sym c.number-number.ensures)
    (may_enter (layout_of c.args.iron.now) c.layout.ensures.sizes (call.Txn c.args.space c.args.at c.args.len c.args.ops) (view_of c.args.pass.now) (view_of c.take_book-book.new.pass) c.take_book-book.result c.args.held.now.rows c.args.kit.now first.0 (c.take_book-book.ensures.origin ∙ first.1) c.requires.outside (c.requires.fits first.0 first.1)
    (subst (λ o. CoversTable o (call.Txn c.args.space c.args.at c.args.len c.args.ops) (view_of c.args.pass.now) c.args.held.now.rows) first.1 c.requires.covered) c.take_book-book.ensures.turned (view_of c.prepare.new.pass) c.prepare.new.book c.prepare.new.held.rows c.prepare.new.kit (λ st p. refl)
    (subst (λ (n : ℕ). HasPlanned (layout_of c.args.iron.now) n (call.Txn c.args.space c.args.at c.args.len c.args.ops) (view_of c.take_book-book.new.pass) c.take_book-book.result c.args.held.now.rows c.args.kit.now (view_of c.prepare.new.pass) c.prepare.new.book c.prepare.new.held.rows c.prepare.new.kit) c.number-number.ensures c.prepare.ensures.plans))))

pub returns-clause-pass : goal.returns-clause-pass
returns-clause-pass g c =
    let first = has_origin c.args.iron.now in
    same_pass c.number-number.result (call.Txn c.args.space c.args.at c.args.len c.args.ops) (view_of c.args.pass.now) (view_of c.enter-outcome.new.pass) (view_of c.finish_transaction.new.pass) c.finish_transaction.ensures.done (layout_of c.args.iron.now) c.enter-outcome.new.held.rows c.enter-outcome.new.kit c.requires.outside (c.enter-outcome.ensures.given (view_of c.args.pass.now) (subst (λ (n : ℕ). MayEnter (layout_of c.args.iron.now) n (call.Txn c.args.space c.args.at c.args.len c.args.ops) (view_of c.args.pass.now) (view_of c.prepare.new.pass) c.prepare.new.book c.prepare.new.held.rows c.prepare.new.kit) (sym c.number-number.ensures)
    (may_enter (layout_of c.args.iron.now) c.layout.ensures.sizes (call.Txn c.args.space c.args.at c.args.len c.args.ops) (view_of c.args.pass.now) (view_of c.take_book-book.new.pass) c.take_book-book.result c.args.held.now.rows c.args.kit.now first.0 (c.take_book-book.ensures.origin ∙ first.1) c.requires.outside (c.requires.fits first.0 first.1)
    (subst (λ o. CoversTable o (call.Txn c.args.space c.args.at c.args.len c.args.ops) (view_of c.args.pass.now) c.args.held.now.rows) first.1 c.requires.covered) c.take_book-book.ensures.turned (view_of c.prepare.new.pass) c.prepare.new.book c.prepare.new.held.rows c.prepare.new.kit (λ st p. refl)
    (subst (λ (n : ℕ). HasPlanned (layout_of c.args.iron.now) n (call.Txn c.args.space c.args.at c.args.len c.args.ops) (view_of c.take_book-book.new.pass) c.take_book-book.result c.args.held.now.rows c.args.kit.now (view_of c.prepare.new.pass) c.prepare.new.book c.prepare.new.held.rows c.prepare.new.kit) c.number-number.ensures c.prepare.ensures.plans))))

pub returns-clause-outcome : goal.returns-clause-outcome
returns-clause-outcome g c =
    let first = has_origin c.args.iron.now in
    subst (λ (n : ℕ). Outcome n (call.Txn c.args.space c.args.at c.args.len c.args.ops) (view_of c.args.pass.now) (view_of c.finish_transaction.new.pass) c.enter-outcome.result) c.number-number.ensures
    (outcome_on c.number-number.result (call.Txn c.args.space c.args.at c.args.len c.args.ops) (view_of c.args.pass.now) (view_of c.enter-outcome.new.pass) (view_of c.finish_transaction.new.pass) c.finish_transaction.ensures.done c.enter-outcome.result (c.enter-outcome.ensures.outcome (view_of c.args.pass.now) (subst (λ (n : ℕ). MayEnter (layout_of c.args.iron.now) n (call.Txn c.args.space c.args.at c.args.len c.args.ops) (view_of c.args.pass.now) (view_of c.prepare.new.pass) c.prepare.new.book c.prepare.new.held.rows c.prepare.new.kit) (sym c.number-number.ensures)
    (may_enter (layout_of c.args.iron.now) c.layout.ensures.sizes (call.Txn c.args.space c.args.at c.args.len c.args.ops) (view_of c.args.pass.now) (view_of c.take_book-book.new.pass) c.take_book-book.result c.args.held.now.rows c.args.kit.now first.0 (c.take_book-book.ensures.origin ∙ first.1) c.requires.outside (c.requires.fits first.0 first.1)
    (subst (λ o. CoversTable o (call.Txn c.args.space c.args.at c.args.len c.args.ops) (view_of c.args.pass.now) c.args.held.now.rows) first.1 c.requires.covered) c.take_book-book.ensures.turned (view_of c.prepare.new.pass) c.prepare.new.book c.prepare.new.held.rows c.prepare.new.kit (λ st p. refl)
    (subst (λ (n : ℕ). HasPlanned (layout_of c.args.iron.now) n (call.Txn c.args.space c.args.at c.args.len c.args.ops) (view_of c.take_book-book.new.pass) c.take_book-book.result c.args.held.now.rows c.args.kit.now (view_of c.prepare.new.pass) c.prepare.new.book c.prepare.new.held.rows c.prepare.new.kit) c.number-number.ensures c.prepare.ensures.plans)))))
