-- What a step tells, whichever history came before.
--     Told      the answer, what is kept after it, and the sizes
--     map_told, unmap_told, fill_told, reach_told, drop_told, ack_told, free_told      the events
use Rattle.std.proofs.Common.{◌≡◌, ◌<◌, ◌++◌, ◌∷◌, [], ℕ, refl, ap, subst}
use Rattle.tlb_core.specs.declared.events.TlbEvent.{TlbEvent}
use Rattle.tlb_core.specs.declared.events.TlbEvent.TheVariants as events
use Rattle.tlb_core.specs.declared.events.TlbAnswer.{TlbAnswer}
use Rattle.tlb_core.specs.declared.events.TlbAnswer.TheVariants as answers
use Rattle.tlb_core.specs.Histories.{History, answered}
use Rattle.tlb_core.specs.Answers.{IsAnswer}
use Rattle.tlb_core.specs.Shown.{Kept, IsSized, IsShown}
use Rattle.tlb_core.specs.Steps.{MapStep, UnmapStep, FillStep, ReachStep, DropStep, AckStep, FreeStep}
use Rattle.tlb_core.proofs.Shown.{after_map, after_unmap, after_fill, after_reach, after_drop, after_ack, after_free}

pub record Told (old : Kept) (event : TlbEvent) (reply : TlbAnswer) (new : Kept) : Type 0 where
  pub answer : (h : History) → IsShown h old → IsAnswer old.sizes h event reply
  pub shown : (h : History) → IsShown h old → IsShown (h ++ answered event reply ∷ []) new
  pub sizes : new.sizes ≡ old.sizes

told : (old : Kept) (event : TlbEvent) (answer : TlbAnswer) (new : Kept) → new.sizes ≡ old.sizes →
    ((h : History) → IsShown h old → IsShown (h ++ answered event answer ∷ []) new) → Told old event answer new
told old event answer new sizes more = record {
  answer = λ h s. subst (λ z. IsAnswer z h event answer) sizes ((more h s).run h [] (answered event answer) refl).1;
  shown = more;
  sizes = sizes;
}

module _ (old : Kept) (sized : IsSized old) (new : Kept) where
  map_sizes : (page : ℕ) (answer : TlbAnswer) → MapStep old page answer new → new.sizes ≡ old.sizes
  map_sizes page answers.Used step = ap (λ k. k.sizes) step.1
  map_sizes page answers.NoFree step = ap (λ k. k.sizes) step.2
  map_sizes page (answers.At frame) step = ap (λ k. k.sizes) step.2
  map_sizes page _ step = absurd step

  pub map_told : (page : ℕ) → page < 64 → (answer : TlbAnswer) → MapStep old page answer new → Told old (events.Map page) answer new
  map_told page inside answer step = told old (events.Map page) answer new (map_sizes page answer step) (λ h s. after_map h old sized s page inside answer new step)

  unmap_sizes : (page : ℕ) (answer : TlbAnswer) → UnmapStep old page answer new → new.sizes ≡ old.sizes
  unmap_sizes page answers.None step = ap (λ k. k.sizes) step.1
  unmap_sizes page answers.Ok step = ap (λ k. k.sizes) step.4
  unmap_sizes page _ step = absurd step

  pub unmap_told : (page : ℕ) → page < 64 → (answer : TlbAnswer) → UnmapStep old page answer new → Told old (events.Unmap page) answer new
  unmap_told page inside answer step = told old (events.Unmap page) answer new (unmap_sizes page answer step) (λ h s. after_unmap h old sized s page inside answer new step)

  fill_sizes : (cpu page : ℕ) (answer : TlbAnswer) → FillStep old cpu page answer new → new.sizes ≡ old.sizes
  fill_sizes cpu page answers.None step = ap (λ k. k.sizes) step.1
  fill_sizes cpu page answers.Ok step = ap (λ k. k.sizes) step.2
  fill_sizes cpu page _ step = absurd step

  pub fill_told : (cpu page : ℕ) → (cpu < old.sizes.cpus) × (page < 64) → (answer : TlbAnswer) → FillStep old cpu page answer new → Told old (events.Fill cpu page) answer new
  fill_told cpu page there answer step = told old (events.Fill cpu page) answer new (fill_sizes cpu page answer step) (λ h s. after_fill h old sized s cpu page there.0 there.1 answer new step)

  pub drop_told : (cpu page : ℕ) → (cpu < old.sizes.cpus) × (page < 64) → DropStep old cpu page new → Told old (events.Drop cpu page) answers.Ok new
  drop_told cpu page there step = told old (events.Drop cpu page) answers.Ok new (ap (λ k. k.sizes) step.1) (λ h s. after_drop h old sized s cpu page there.0 there.1 new step)

  pub ack_told : (cpu : ℕ) → cpu < old.sizes.cpus → AckStep old cpu new → Told old (events.Ack cpu) answers.Ok new
  ack_told cpu there step = told old (events.Ack cpu) answers.Ok new (ap (λ k. k.sizes) step.1) (λ h s. after_ack h old sized s cpu there new step)

  free_sizes : (frame : ℕ) (answer : TlbAnswer) → FreeStep old frame answer new → new.sizes ≡ old.sizes
  free_sizes frame answers.Idle step = ap (λ k. k.sizes) step.1
  free_sizes frame (answers.Wait cpu) step = ap (λ k. k.sizes) step.5
  free_sizes frame answers.Ok step = ap (λ k. k.sizes) step.4
  free_sizes frame _ step = absurd step

  pub free_told : (frame : ℕ) → frame < old.sizes.frames → (answer : TlbAnswer) → FreeStep old frame answer new → Told old (events.Free frame) answer new
  free_told frame there answer step = told old (events.Free frame) answer new (free_sizes frame answer step) (λ h s. after_free h old sized s frame there answer new step)

pub reach_told : (old : Kept) → IsSized old → (cpu page : ℕ) → (cpu < old.sizes.cpus) × (page < 64) → (answer : TlbAnswer) → ReachStep old cpu page answer → Told old (events.Reach cpu page) answer old
reach_told old sized cpu page there answer step = told old (events.Reach cpu page) answer old refl (λ h s. after_reach h old sized s cpu page there.0 there.1 answer step)
