-- One change more of a list is made.
use Rattle.std.proofs.Common.{◌≡◌, ℕ, ◌+◌, ◌<◌, List, length, get_or, take, sym, ap, ◌∙◌}
use Rattle.std.specs.List.{All}
use Rattle.std.proofs.lemmas.List.Sums.{fold_more}
use Rattle.std.proofs.lemmas.List.Elements.{All-weaker}
use Rattle.page_runs.specs.declared.change.Change.{Change}
use Rattle.page_runs.specs.Spans.{Spans, Marks, marks, AreRuns, Changes}
use Rattle.page_runs.specs.Changes.{painted, after_change, after_changes, IsChange, IsCut, IsFilled}
use Rattle.page_runs.proofs.Painted.{cut_stays, filled_stays, painted_are_runs, repainted}

module _ (m n : Spans) (list : List Change) (i : ℕ) (d : Change) (less : i < length list) (fits : All IsChange list) (filled : All (IsFilled m) list) (cut : All (IsCut m) list) (runs : AreRuns m)
    (changes : Changes (painted (get_or list i d)) (get_or list i d).first ((get_or list i d).first + (get_or list i d).count) m n) where
  abbrev here : Change
  here = get_or list i d

  pub all_filled : All (IsFilled n) list
  all_filled = All-weaker (IsFilled m) (IsFilled n) (λ other. filled_stays m n here changes other) list filled

  pub all_cut : All (IsCut n) list
  all_cut = All-weaker (IsCut m) (IsCut n) (λ other. cut_stays m n here changes other) list cut

  pub made_are_runs : AreRuns n
  made_are_runs = painted_are_runs m n here changes (fits i d less) runs (cut i d less)

  pub one_made : (old : Marks) → marks m ≡ after_changes old (take i list) → marks n ≡ after_changes old (take (i + 1) list)
  one_made old so_far =
      repainted m n here changes (fits i d less) runs (cut i d less) (filled i d less)
      ∙ ap (λ k. after_change k here) so_far
      ∙ sym (fold_more after_change old list i d less)
