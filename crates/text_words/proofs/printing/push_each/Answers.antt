use Rattle.std.proofs.Common.{◌≡◌, ◌≢◌, ℕ, ◌++◌, ◌+◌, ◌<◌, ◌∷◌, List, [], map, take, length, get_or, arith, sym, ap, ◌∙◌}
use Rattle.std.proofs.lemmas.List.{map_more, length-map, length-take-le}
use Rattle.text_words.specs.declared.printing.Word.{Word}
use Rattle.text_words.specs.Layout.{joined}
use Rattle.text_words.specs.Printed.{spelled}
use Rattle.text_words.proofs.WordLists.{printed_first, printed_next}
use Rattle.text_words.proofs.printing.push_each.Goals as goal
use Rattle.text_words.proofs.printing.push_each.Goals.{then-place-gt0+in_ok-push, else-place-gt0}

-- the words so far, and one more
first_word : (front out between new : List ℕ) (words : List Word) (i : ℕ) (d : Word) → i < length words → i ≡ 0 → out ≡ front ++ joined (map spelled (take i words)) → between ≡ out → new ≡ between ++ spelled (get_or words i d) → new ≡ front ++ joined (map spelled (take (i + 1) words))
first_word front out between new words i d inside first so_far same is =
    is
    ∙ ap (λ cs. cs ++ spelled (get_or words i d)) same
    ∙ printed_first front out (spelled (get_or words i d)) (map spelled (take i words)) (ap (λ k. map spelled (take k words)) first) so_far
    ∙ ap (λ ws. front ++ joined ws) (sym (map_more spelled words i d inside))

next_word : (front out between new : List ℕ) (words : List Word) (i : ℕ) (d : Word) → i < length words → 0 < i → out ≡ front ++ joined (map spelled (take i words)) → between ≡ out ++ 32 ∷ [] → new ≡ between ++ spelled (get_or words i d) → new ≡ front ++ joined (map spelled (take (i + 1) words))
next_word front out between new words i d inside later so_far space is =
    let count : length (map spelled (take i words)) ≡ i = length-map (take i words) spelled ∙ length-take-le i words (omega arith) in
    let some : map spelled (take i words) ≢ [] = λ e. let none : length (map spelled (take i words)) ≡ 0 = ap length e in omega arith in
    is
    ∙ ap (λ cs. cs ++ spelled (get_or words i d)) space
    ∙ printed_next front out (spelled (get_or words i d)) (map spelled (take i words)) some so_far
    ∙ ap (λ ws. front ++ joined ws) (sym (map_more spelled words i d inside))

pub loop-place-preserved : goal.loop-place-preserved
loop-place-preserved c =
    let l = c.loop-place in
    let front : List ℕ = c.args.out.now.items in
    let words : List Word = c.args.words.now in
    let new : List ℕ = c.push_word.new.out.items in
    elim c.if-place-gt0.branch [
      | then-place-gt0+in_ok-push w ↦
          next_word front l.out.items c.if-place-gt0.out.items new words l.place _ c.loop-place-test.true w.if-place-gt0.true l.invariant (ap (λ v. v.items) w.out-is ∙ w.in_ok-push.ensures.items) c.in_ok-push_word.ensures.ok
      | else-place-gt0 w ↦
          first_word front l.out.items c.if-place-gt0.out.items new words l.place _ c.loop-place-test.true (omega (arith, w.if-place-gt0.false)) l.invariant (ap (λ v. v.items) w.out-is) c.in_ok-push_word.ensures.ok
    ]
