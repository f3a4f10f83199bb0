-- What a pass has seen after it gave a book with an entry of its own.
--     has_entered      what it saw is longer by entries that end with its own, and of its own entries there is one more
use Rattle.std.specs.Prelude.{◌≡◌, ℕ, ◌+◌, ◌==◌, Bool, true, cond, List, [], ◌∷◌, ◌++◌, length}
use Rattle.std.proofs.Common.{sym, ◌∙◌, ap, arith}
use Rattle.std.proofs.lemmas.Bool.{eq-eqb}
use Rattle.corten_base.specs.declared.calls.Entry.{Entry}
use Rattle.row_table.specs.Books.{Learns, gave}
use Rattle.row_table.specs.Rule.{places_from, own_places}
use Rattle.machine_plan.specs.Books.{BookData}
use Rattle.machine_plan.specs.Follows.{machine}
use Rattle.call_steps.specs.Ready.{View}
use Rattle.call_steps.specs.Steps.{HasEntered}

places_push : (own : Entry → Bool) (i : ℕ) (es : List Entry) (e : Entry) → own e ≡ true → places_from own i (es ++ e ∷ []) ≡ places_from own i es ++ (i + length es) ∷ []
places_push own i [] e mine = ap (λ (b : Bool). cond b (i ∷ []) []) mine ∙ (λ j. same j ∷ [])
  where
    same : i ≡ i + 0
    same = omega arith
places_push own i (x ∷ es) e mine = go (own x) (places_push own (i + 1) es e mine)
  where
    at : (i + 1) + length es ≡ i + length (x ∷ es)
    at = omega arith

    go : (b : Bool) → places_from own (i + 1) (es ++ e ∷ []) ≡ places_from own (i + 1) es ++ ((i + 1) + length es) ∷ []
        → cond b (i ∷ places_from own (i + 1) (es ++ e ∷ [])) (places_from own (i + 1) (es ++ e ∷ [])) ≡ cond b (i ∷ places_from own (i + 1) es) (places_from own (i + 1) es) ++ (i + length (x ∷ es)) ∷ []
    go true rest = ap (λ l. i ∷ l) (rest ∙ (λ j. places_from own (i + 1) es ++ at j ∷ []))
    go Rattle.std.specs.Prelude.false rest = rest ∙ (λ j. places_from own (i + 1) es ++ at j ∷ [])

-- v: the pass before the turn that found old, e: the one that gives g, w: after it
pub has_entered : (v e w : View) (count : ℕ) (old g : BookData) (generation : ℕ → ℕ) (entry : Entry) → Learns machine count v old → e.number ≡ v.number → w ≡ gave machine e old g generation → g.journal ≡ old.journal ++ entry ∷ [] → entry.thread ≡ v.number → HasEntered v w entry
has_entered v e w count old g generation entry learns number after journal own = record {
  others = learns.seen.0;
  seen = ap (λ (u : View). u.seen) after ∙ (journal ∙ ap (λ (l : List Entry). l ++ entry ∷ []) learns.seen.1);
  mine = ap (λ (u : View). u.mine) after ∙ ((λ i. own_places machine (number i) (journal i))
      ∙ (places_push (λ x. x.thread == v.number) 0 old.journal entry (eq-eqb entry.thread v.number own)
      ∙ (λ i. sym learns.mine i ++ long i ∷ [])));
}
  where
    long : 0 + length old.journal ≡ length (v.seen ++ learns.seen.0)
    long = let same : length old.journal ≡ length (v.seen ++ learns.seen.0) = ap length learns.seen.1 in omega (arith, same)
