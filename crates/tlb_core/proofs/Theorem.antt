-- No processor reaches a frame given anew.
--     still_out      from a fill on, the frame is in the table with the page, or pending and the processor was not heard
--     reaches_none_anew      the theorem
use Rattle.std.proofs.Common.{◌≡◌, ◌⊎◌, ◌<◌, ℕ, List, ◌∷◌, ◌++◌, [], refl, sym, ◌∙◌, ap, subst, inl, inr, append_assoc}
use Rattle.std.proofs.lemmas.List.{append-nil}
use Rattle.std.specs.List.{All}
use Rattle.std.proofs.lemmas.List.Elements.{All-nil, All-cons, All-head, All-tail}
use Rattle.tlb_core.specs.declared.events.TlbEvent.TheVariants as events
use Rattle.tlb_core.specs.declared.events.TlbAnswer.{TlbAnswer}
use Rattle.tlb_core.specs.declared.events.TlbAnswer.TheVariants as answers
use Rattle.std.proofs.lemmas.Bool.{cases_eq}
use Rattle.tlb_core.specs.declared.events.TlbEvent.{TlbEvent}
use Rattle.tlb_core.specs.Histories.{Entry, History, Is, answered}
use Rattle.tlb_core.specs.Caches.{IsGive, TableHas, Invalidates, Refills, CacheHas, TakesOut, IsUnheardFrom, IsFree}
use Rattle.tlb_core.specs.Answers.{Sizes, IsEvent, IsAnswer, IsRun, ReachesNoneAnew, CachesNoneFree}
use Rattle.tlb_core.proofs.Histories.{stands_new, stands_again}
use Rattle.tlb_core.proofs.Families.{weaker}

-- whether an entry is an `unmap` of the page that was done
unmaps_it : (page : ℕ) (event : TlbEvent) (answer : TlbAnswer) →
    Is (events.Unmap page) answers.Ok (answered event answer) ⊎ (¬ Is (events.Unmap page) answers.Ok (answered event answer))
unmaps_it page (events.Unmap other) answers.Ok = elim (cases_eq other page) [
  | inl same ↦ inl (ap events.Unmap same, refl)
  | inr apart ↦ inr (λ is. apart (cc is.0))
]
unmaps_it page (events.Unmap other) _ = inr (λ is. cc is.1)
unmaps_it page _ answer = inr (λ is. cc is.0)

module _ (sizes : Sizes) (cpu page frame : ℕ) (within : cpu < sizes.cpus) where
  -- The table has the frame, or it is pending and the processor was not heard.
  abbrev IsOut : History → Type 0
  IsOut h = TableHas h page frame ⊎ IsUnheardFrom h page frame cpu

  never_free : (h : History) → IsOut h → ¬ IsFree sizes.frames h frame
  never_free h (inl has) free = free.unused (page, has)
  never_free h (inr unheard) free = free.settled (page, weaker h page frame cpu unheard)

  answer_of : (h : History) (y : Entry) (event : TlbEvent) (answer : TlbAnswer) → Is event answer y → IsAnswer sizes h y.event y.answer → IsAnswer sizes h event answer
  answer_of h y event answer is found = subst (IsAnswer sizes h event) is.1 (subst (λ e. IsAnswer sizes h e y.answer) is.0 found)

  out_after : (h : History) (y : Entry) → IsAnswer sizes h y.event y.answer → ¬ Refills cpu page y → IsOut h → IsOut (h ++ y ∷ [])
  out_after h y found kept (inl has) = elim (unmaps_it page y.event y.answer) [
    | inl is ↦ inr (stands_new (TakesOut page frame) (λ z. Is (events.Free frame) answers.Ok z ⊎ Invalidates cpu page z) h y (is, has))
    | inr other ↦ inl (stands_again (λ before. Is (events.Map page) (answers.At frame)) (Is (events.Unmap page) answers.Ok) h y has other)
  ]
  out_after h y found kept (inr unheard) =
      inr (stands_again (TakesOut page frame) (λ z. Is (events.Free frame) answers.Ok z ⊎ Invalidates cpu page z) h y unheard undoes_not)
    where
      undoes_not : ¬ (Is (events.Free frame) answers.Ok y ⊎ Invalidates cpu page y)
      undoes_not (inl free) = (answer_of h y (events.Free frame) answers.Ok free found).1 cpu within (page, unheard)
      undoes_not (inr gone) = kept (inr gone)

  gives_it_not : (h : History) (y : Entry) → IsAnswer sizes h y.event y.answer → IsOut h → ¬ IsGive frame y
  gives_it_not h y found out give = never_free h out (answer_of h y (events.Map give.0) (answers.At frame) give.1 found).1

  still_more : (h : History) (y : Entry) (ys : List Entry) → ¬ IsGive frame y → IsOut ((h ++ y ∷ []) ++ ys) × All (λ z. ¬ IsGive frame z) ys →
      IsOut (h ++ y ∷ ys) × All (λ z. ¬ IsGive frame z) (y ∷ ys)
  still_more h y ys first rest = (subst IsOut (append_assoc h (y ∷ []) ys) rest.0, All-cons (λ z. ¬ IsGive frame z) y ys first rest.1)

  still_out : (later h : History) → IsRun sizes (h ++ later) → IsOut h → All (λ y. ¬ Refills cpu page y) later →
      IsOut (h ++ later) × All (λ y. ¬ IsGive frame y) later
  still_out [] h run out kept = (subst IsOut (sym (append-nil h)) out, All-nil (λ y. ¬ IsGive frame y))
  still_out (y ∷ ys) h run out kept = still_more h y ys (gives_it_not h y (run h ys y refl).1 out)
      (still_out ys (h ++ y ∷ []) (subst (IsRun sizes) (sym (append_assoc h (y ∷ []) ys)) run)
      (out_after h y (run h ys y refl).1 (All-head (λ z. ¬ Refills cpu page z) y ys kept) out) (All-tail (λ z. ¬ Refills cpu page z) y ys kept))

  -- from the fill on
  pub since_fill : (h : History) → IsRun sizes h → (fill : CacheHas h cpu page frame) → IsOut h × All (λ y. ¬ IsGive frame y) fill.later
  since_fill h run fill = (subst IsOut (sym whole) both.0, both.1)
    where
      whole : h ≡ (fill.before ++ fill.entry ∷ []) ++ fill.later
      whole = fill.whole ∙ sym (append_assoc fill.before (fill.entry ∷ []) fill.later)

      has : TableHas (fill.before ++ fill.entry ∷ []) page frame
      has = stands_again (λ before. Is (events.Map page) (answers.At frame)) (Is (events.Unmap page) answers.Ok) fill.before fill.entry fill.made.1
          (λ is. let differ : events.Fill cpu page ≡ events.Unmap page = sym fill.made.0.0 ∙ is.0 in cc)

      both : IsOut ((fill.before ++ fill.entry ∷ []) ++ fill.later) × All (λ y. ¬ IsGive frame y) fill.later
      both = still_out fill.later (fill.before ++ fill.entry ∷ []) (subst (IsRun sizes) whole run) (inl has) fill.kept

run_front : (sizes : Sizes) (front rest : History) → IsRun sizes (front ++ rest) → IsRun sizes front
run_front sizes front rest run before later y whole = run before (later ++ rest) y (ap (λ l. l ++ rest) whole ∙ append_assoc before (y ∷ later) rest)

pub reaches_none_anew : (sizes : Sizes) (h : History) → IsRun sizes h → ReachesNoneAnew h
reaches_none_anew sizes h run before later x cpu page frame whole is = (
  answer_of sizes cpu page frame within before x (events.Reach cpu page) (answers.Hit frame) is found.1,
  λ fill. (since_fill sizes cpu page frame within before (run_front sizes before (x ∷ later) (subst (IsRun sizes) whole run)) fill).1,
)
  where
    found : IsEvent sizes x.event × IsAnswer sizes before x.event x.answer
    found = run before later x whole

    there : (cpu < sizes.cpus) × (page < 64)
    there = subst (IsEvent sizes) is.0 found.0

    within : cpu < sizes.cpus
    within = there.0

pub caches_none_free : (sizes : Sizes) (h : History) → IsRun sizes h → CachesNoneFree sizes h
caches_none_free sizes h run cpu page frame within has = never_free sizes cpu page frame within h (since_fill sizes cpu page frame within h run has).0
