use Rattle.std.proofs.Common.{◌≡◌, ℕ, ◌+◌, ◌*◌, ◌<◌, ◌≢◌, List, length, set, get_or-set_same, get_or-set_other, sym, ap, ◌∙◌, arith}
use mathlib.Core.Logic.{inl, inr}
use Rattle.std.proofs.lemmas.Bool.{cases_eq}
use Rattle.page_map.specs.Mapping.{arena_first}
use Rattle.plain_counts.specs.Fronts.{full_pages, full_before}
use Rattle.plain_counts.proofs.fronts.Fronts.forget.Goals as goal

-- one number of the list changes
here : (l : List ℕ) (space thread v : ℕ) → length l ≡ 512 → space < 64 → thread < 8 → full_pages (set l (8 * space + thread) v) space thread ≡ v
here l space thread v long few small = let fits : 8 * space + thread < length l = omega (arith, long) in get_or-set_same l (8 * space + thread) v 0 fits

elsewhere : (l : List ℕ) (space thread v s t : ℕ) → thread < 8 → t < 8 → (s ≡ space → t ≡ thread → ⊥) → full_pages (set l (8 * space + thread) v) s t ≡ full_pages l s t
elsewhere l space thread v s t small few apart = let other : 8 * s + t ≢ 8 * space + thread = λ e. apart (omega (arith, e)) (omega (arith, e)) in get_or-set_other l (8 * space + thread) (8 * s + t) v 0 other

pub loop-thread-preserved : goal.loop-thread-preserved
loop-thread-preserved c =
    let was = c.loop-thread.invariant in
    let l = c.loop-thread.self in
    let thread = c.loop-thread.thread in
    let v = c.known_before.result in
    let small : thread < 8 = c.loop-thread-test.true in
    record {
      done = λ t below. elim (cases_eq t thread) [
        | inl same ↦ ap (λ m. full_pages m c.args.space t) c.set.ensures ∙ ap (full_pages (set l (8 * c.args.space + thread) v) c.args.space) same
            ∙ here l c.args.space thread v c.get-known.ensures.whole c.requires.space small
            ∙ c.known_before.ensures
            ∙ ap (λ known. full_before (arena_first thread) known c.args.first c.args.count) (c.get-known.ensures.value ∙ was.left thread (omega arith) small)
            ∙ ap (λ k. full_before (arena_first k) (full_pages c.args.self.now c.args.space k) c.args.first c.args.count) (sym same)
        | inr apart ↦ ap (λ m. full_pages m c.args.space t) c.set.ensures
            ∙ elsewhere l c.args.space thread v c.args.space t small (omega (arith, below, small)) (λ _ e. apart e)
            ∙ was.done t (omega (arith, below, apart))
      ];
      left = λ t above few. ap (λ m. full_pages m c.args.space t) c.set.ensures
          ∙ elsewhere l c.args.space thread v c.args.space t small few (λ _ e. omega (arith, above, e))
          ∙ was.left t (omega (arith, above)) few;
      others = λ s t apart few. ap (λ m. full_pages m s t) c.set.ensures
          ∙ elsewhere l c.args.space thread v s t small few (λ e _. apart e)
          ∙ was.others s t apart few;
    }
