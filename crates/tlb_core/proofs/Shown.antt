-- What is kept still tells of the history, once an event was answered.
--     after_map, after_unmap, after_fill, after_reach, after_drop, after_ack, after_free      the events
use Rattle.std.proofs.Common.{◌≡◌, ◌≢◌, ◌⊎◌, ◌↔◌, ◌<◌, ◌≤◌, ℕ, Bool, true, false, cond, ◌&&◌, Option, Some, None, List, ◌∷◌, ◌++◌, [], length, replicate, refl, sym, ◌∙◌, ap, subst, inl, inr, arith}
use Rattle.std.specs.Prelude.{nat_eq, slice_set}
use Rattle.std.specs.Int.{bit_at}
use Rattle.std.proofs.lemmas.Bool.{cases_eq, cases_lt, eqb-false, eqb-true, eq-eqb}
use Rattle.std.proofs.lemmas.List.{get_or-set_same, get_or-set_other, get_or-replicate, get_or_past, length-replicate}
use Rattle.tlb_core.specs.declared.events.TlbEvent.{TlbEvent}
use Rattle.tlb_core.specs.declared.events.TlbEvent.TheVariants as events
use Rattle.tlb_core.specs.declared.events.TlbAnswer.{TlbAnswer}
use Rattle.tlb_core.specs.declared.events.TlbAnswer.TheVariants as answers
use Rattle.tlb_core.specs.declared.uses.FrameUse.{FrameUse}
use Rattle.tlb_core.specs.declared.uses.FrameUse.TheVariants as uses
use Rattle.tlb_core.specs.Histories.{Entry, History, Is, answered}
use Rattle.tlb_core.specs.Caches.{TableHas, HasPage, HasFrame, Invalidates, FillsWith, Refills, CacheHas, TakesOut, IsPendingFrom, IsPending, IsUnheardFrom, IsUnheard, IsFree}
use Rattle.tlb_core.specs.Answers.{Sizes, IsEvent, IsAnswer, IsRun}
use Rattle.tlb_core.specs.Shown.{Kept, IsSized, IsShown, IsFor, IsMapped, IsWaiting, frame_at, cache_of, use_of}
use Rattle.tlb_core.specs.Steps.{IsLeastUnused, MapStep, IsAll, UnmapStep, with_entry, FillStep, ReachStep, concerns, IsHeard, AreHeard, DropStep, AckStep, FreeStep}
use Rattle.tlb_core.proofs.Histories.{split_last, stands_new, stands_before, stands_stays, stands_no_more, stands_nowhere, no_entry}
use Rattle.tlb_core.proofs.Families.{GivesNone, UnmapsNone, FillsNone, FreesNone, LosesNone, SameFrame, Untouched, table_stays, pending_stays, unheard_stays, same_frame, use_stays, same_caches, weaker}

-- one more event with its answer
pub run_more : (sizes : Sizes) (h : History) (x : Entry) → IsRun sizes h → IsEvent sizes x.event → IsAnswer sizes h x.event x.answer → IsRun sizes (h ++ x ∷ [])
run_more sizes h x run event answer before later y whole = elim (split_last h before x y later whole) [
  | inl found ↦ subst (λ z. IsEvent sizes z.event × IsAnswer sizes before z.event z.answer) (sym found.1)
      (subst (λ k. IsEvent sizes x.event × IsAnswer sizes k x.event x.answer) (sym found.0) (event, answer))
  | inr found ↦ run before found.0 y found.2
]

-- no page is there
pub nothing_at : (n p : ℕ) → frame_at (replicate n None) p ≡ None
nothing_at n p = elim (cases_lt p n) [
  | inl below ↦ get_or-replicate n p None None below
  | inr past ↦ get_or_past (replicate n None) p None (omega (arith, length-replicate {A = Option ℕ} n None))
]

-- Which entries an event is not

abbrev tag : TlbEvent → ℕ
tag (events.Map page) = 0
tag (events.Unmap page) = 1
tag (events.Fill cpu page) = 2
tag (events.Free frame) = 3
tag (events.Drop cpu page) = 4
tag (events.Ack cpu) = 4
tag (events.Reach cpu page) = 5

abbrev gave : ℕ → ℕ → Entry
gave page frame = answered (events.Map page) (answers.At frame)

abbrev took : ℕ → Entry
took page = answered (events.Unmap page) answers.Ok

abbrev kept_by : ℕ → ℕ → Entry
kept_by cpu page = answered (events.Fill cpu page) answers.Ok

abbrev dropped_by : ℕ → ℕ → Entry
dropped_by cpu page = answered (events.Drop cpu page) answers.Ok

abbrev acknowledged_by : ℕ → Entry
acknowledged_by cpu = answered (events.Ack cpu) answers.Ok

abbrev let_go : ℕ → Entry
let_go frame = answered (events.Free frame) answers.Ok

module _ (x : Entry) where
  gives_none : (tag x.event ≡ 0 → ⊥) → GivesNone x
  gives_none other page frame is = other (ap tag is.0)

  unmaps_none : (tag x.event ≡ 1 → ⊥) → UnmapsNone x
  unmaps_none other page is = other (ap tag is.0)

  fills_none : (tag x.event ≡ 2 → ⊥) → FillsNone x
  fills_none other cpu page is = other (ap tag is.0)

  frees_none : (tag x.event ≡ 3 → ⊥) → FreesNone x
  frees_none other frame is = other (ap tag is.0)

  loses_none : (tag x.event ≡ 4 → ⊥) → LosesNone x
  loses_none other cpu page (inl drop) = other (ap tag drop)
  loses_none other cpu page (inr ack) = other (ap tag ack)

  entry_stays : (h : History) (page frame : ℕ) → ¬ Is (events.Map page) (answers.At frame) x → ¬ Is (events.Unmap page) answers.Ok x →
      TableHas h page frame ↔ TableHas (h ++ x ∷ []) page frame
  entry_stays h page frame = stands_stays (λ before. Is (events.Map page) (answers.At frame)) (Is (events.Unmap page) answers.Ok) h x

record IsQuiet (x : Entry) : Type 0 where
  no_give : GivesNone x
  no_unmap : UnmapsNone x
  no_fill : FillsNone x
  no_free : FreesNone x
  no_loss : LosesNone x

chain : {A B C : Type 0} → A ↔ B → B ↔ C → A ↔ C
chain ab bc = ((λ a. bc.0 (ab.0 a)), (λ c. ab.1 (bc.1 c)))

along : {B C : Type 0} → (a b c : Option ℕ) → a ≡ b → (b ≡ c) ↔ B → B ↔ C → (a ≡ c) ↔ C
along a b c same old now = ((λ e. now.0 (old.0 (sym same ∙ e))), (λ e. same ∙ old.1 (now.1 e)))

module _ (h : History) (kept : Kept) (sized : IsSized kept) (shown : IsShown h kept) where
  no_page : (page : ℕ) → frame_at kept.table page ≡ None → ¬ HasPage h page
  no_page page none found = let there : frame_at kept.table page ≡ Some found.0 = (shown.table page found.0).1 found.1 in cc

  some_page : (page : ℕ) (entry : Option ℕ) → frame_at kept.table page ≡ entry → frame_at kept.table page ≢ None → HasPage h page
  some_page page None is some = absurd (some is)
  some_page page (Some frame) is some = (frame, (shown.table page frame).0 is)

  one_frame : (page a b : ℕ) → TableHas h page a → TableHas h page b → a ≡ b
  one_frame page a b here there =
      let first : frame_at kept.table page ≡ Some a = (shown.table page a).1 here in
      let second : frame_at kept.table page ≡ Some b = (shown.table page b).1 there in
      cc

  is_for : (frame : ℕ) (u : FrameUse) → use_of kept.uses frame ≡ u → IsFor kept.sizes.cpus h frame u
  is_for frame u is = subst (IsFor kept.sizes.cpus h frame) is (shown.uses frame)

  -- a free frame is used for nothing
  free_use : (frame : ℕ) → IsFree kept.sizes.frames h frame → (u : FrameUse) → use_of kept.uses frame ≡ u → use_of kept.uses frame ≡ uses.Free
  free_use frame free uses.Free is = is
  free_use frame free uses.Mapped is = absurd (free.unused (is_for frame uses.Mapped is).somewhere)
  free_use frame free (uses.Pending page mask) is = absurd (free.settled (page, (is_for frame (uses.Pending page mask) is).pending))

  use_free : (frame : ℕ) → frame < kept.sizes.frames → use_of kept.uses frame ≡ uses.Free → IsFree kept.sizes.frames h frame
  use_free frame there is =
      let is_free : IsFor kept.sizes.cpus h frame uses.Free = is_for frame uses.Free is in
      record { there = there; unused = is_free.0; settled = is_free.1 }

  -- a frame of the table is mapped
  mapped_use : (page frame : ℕ) → TableHas h page frame → (u : FrameUse) → use_of kept.uses frame ≡ u → IsMapped h frame
  mapped_use page frame has uses.Free is = absurd ((is_for frame uses.Free is).0 (page, has))
  mapped_use page frame has uses.Mapped is = is_for frame uses.Mapped is
  mapped_use page frame has (uses.Pending other mask) is = absurd ((is_for frame (uses.Pending other mask) is).unused (page, has))

  quiet : (x : Entry) → IsQuiet x → IsEvent kept.sizes x.event → IsAnswer kept.sizes h x.event x.answer → IsShown (h ++ x ∷ []) kept
  quiet x none event answer = record {
    run = run_more kept.sizes h x shown.run event answer;
    table = λ page frame. chain (shown.table page frame) (table_stays h x frame (untouched frame) page);
    caches = λ cpu page frame there. chain (shown.caches cpu page frame there) (same_caches h x cpu page frame (none.no_fill cpu page) (none.no_loss cpu page));
    uses = λ frame. use_stays kept.sizes.cpus h (h ++ x ∷ []) frame (same_frame h x frame (untouched frame) none.no_loss) (use_of kept.uses frame) (shown.uses frame);
  }
    where
      untouched : (frame : ℕ) → Untouched h x frame
      untouched frame = record { no_give = λ page. none.no_give page frame; no_unmap = λ page has. none.no_unmap page; no_free = none.no_free frame }

  -- one entry of the table, one use, one entry of a cache is changed
  module _ (k : History) where
    table_after : (page : ℕ) (entry : Option ℕ) → page < 64 → ((frame : ℕ) → (entry ≡ Some frame) ↔ TableHas k page frame) →
        ((other frame : ℕ) → other ≢ page → TableHas h other frame ↔ TableHas k other frame) →
        (other frame : ℕ) → (frame_at (slice_set kept.table page entry) other ≡ Some frame) ↔ TableHas k other frame
    table_after page entry inside here others other frame = elim (cases_eq other page) [
      | inl same ↦ subst (λ q. (frame_at (slice_set kept.table page entry) q ≡ Some frame) ↔ TableHas k q frame) (sym same)
          (along _ _ _ (get_or-set_same kept.table page entry None (omega (arith, sized.table))) (here frame) ((λ e. e), (λ e. e)))
      | inr apart ↦ along _ _ _ (get_or-set_other kept.table page other entry None apart) (shown.table other frame) (others other frame apart)
    ]

    uses_after : (frame : ℕ) (u : FrameUse) → frame < 64 → IsFor kept.sizes.cpus k frame u → ((other : ℕ) → other ≢ frame → SameFrame h k other) →
        (other : ℕ) → IsFor kept.sizes.cpus k other (use_of (slice_set kept.uses frame u) other)
    uses_after frame u inside here others other = elim (cases_eq other frame) [
      | inl same ↦ subst (λ q. IsFor kept.sizes.cpus k q (use_of (slice_set kept.uses frame u) q)) (sym same)
          (subst (IsFor kept.sizes.cpus k frame) (sym (get_or-set_same kept.uses frame u uses.Free (omega (arith, sized.uses)))) here)
      | inr apart ↦ subst (IsFor kept.sizes.cpus k other) (sym (get_or-set_other kept.uses frame other u uses.Free apart))
          (use_stays kept.sizes.cpus h k other (others other apart) (use_of kept.uses other) (shown.uses other))
    ]

    cache_after : (cpu page : ℕ) (entry : Option ℕ) → cpu < kept.sizes.cpus → page < 64 → ((frame : ℕ) → (entry ≡ Some frame) ↔ CacheHas k cpu page frame) →
        ((c p frame : ℕ) → (c ≡ cpu → p ≡ page → ⊥) → CacheHas h c p frame ↔ CacheHas k c p frame) →
        (c p frame : ℕ) → c < kept.sizes.cpus → (frame_at (cache_of (with_entry kept.caches cpu page entry) c) p ≡ Some frame) ↔ CacheHas k c p frame
    cache_after cpu page entry there inside here others c p frame within = elim (cases_eq c cpu) [
      | inl same ↦ elim (cases_eq p page) [
        | inl one ↦ subst (λ q. (frame_at (cache_of (with_entry kept.caches cpu page entry) q) p ≡ Some frame) ↔ CacheHas k q p frame) (sym same)
            (subst (λ q. (frame_at (cache_of (with_entry kept.caches cpu page entry) cpu) q ≡ Some frame) ↔ CacheHas k cpu q frame) (sym one)
            (along _ _ _ (ap (λ l. frame_at l page) own ∙ get_or-set_same (cache_of kept.caches cpu) page entry None room) (here frame) ((λ e. e), (λ e. e))))
        | inr apart ↦ along _ _ _ (ap (λ l. frame_at l p) (ap (cache_of (with_entry kept.caches cpu page entry)) same ∙ own) ∙ get_or-set_other (cache_of kept.caches cpu) page p entry None apart ∙ ap (λ q. frame_at (cache_of kept.caches q) p) (sym same))
            (shown.caches c p frame within) (others c p frame (λ e o. apart o))
      ]
      | inr apart ↦ along _ _ _ (ap (λ l. frame_at l p) (get_or-set_other kept.caches cpu c (slice_set (cache_of kept.caches cpu) page entry) [] apart))
          (shown.caches c p frame within) (others c p frame (λ e o. apart e))
    ]
      where
        own : cache_of (with_entry kept.caches cpu page entry) cpu ≡ slice_set (cache_of kept.caches cpu) page entry
        own = get_or-set_same kept.caches cpu (slice_set (cache_of kept.caches cpu) page entry) [] (omega (arith, sized.caches, sized.cpus))

        room : page < length (cache_of kept.caches cpu)
        room = omega (arith, sized.each cpu (omega (arith, sized.cpus)))

  -- map

  no_free_frame : ((frame : ℕ) → frame < kept.sizes.frames → use_of kept.uses frame ≢ uses.Free) → (frame : ℕ) → ¬ IsFree kept.sizes.frames h frame
  no_free_frame none frame free = none frame free.there (free_use frame free (use_of kept.uses frame) refl)

  least_free : (frame : ℕ) → IsLeastUnused kept frame → (other : ℕ) → IsFree kept.sizes.frames h other → frame ≤ other
  least_free frame found other free = elim (cases_lt other frame) [
    | inl below ↦ absurd (found.least other below (free_use other free (use_of kept.uses other) refl))
    | inr above ↦ above
  ]

  quiet_map : (page : ℕ) (answer : TlbAnswer) → ((frame : ℕ) → answer ≢ answers.At frame) → IsQuiet (answered (events.Map page) answer)
  quiet_map page answer other = let x : Entry = answered (events.Map page) answer in record {
    no_give = λ p f is. other f is.1;
    no_unmap = unmaps_none x (eqb-false 0 1 refl);
    no_fill = fills_none x (eqb-false 0 2 refl);
    no_free = frees_none x (eqb-false 0 3 refl);
    no_loss = loses_none x (eqb-false 0 4 refl);
  }

  given : (page frame : ℕ) → page < 64 → frame_at kept.table page ≡ None → IsLeastUnused kept frame →
      IsShown (h ++ answered (events.Map page) (answers.At frame) ∷ []) (record kept { table = slice_set kept.table page (Some frame); uses = slice_set kept.uses frame uses.Mapped })
  given page frame inside none least = record {
    run = run_more kept.sizes h (gave page frame) shown.run inside (no_page page none, use_free frame least.there least.unused, least_free frame least);
    table = table_after (h ++ gave page frame ∷ []) page (Some frame) inside here (λ p f apart. entry_stays (gave page frame) h p f (λ is. apart (same_page p is.0)) (unmaps_none (gave page frame) (eqb-false 0 1 refl) p));
    caches = λ cpu p f there. chain (shown.caches cpu p f there) (same_caches h (gave page frame) cpu p f (fills_none (gave page frame) (eqb-false 0 2 refl) cpu p) (loses_none (gave page frame) (eqb-false 0 4 refl) cpu p));
    uses = uses_after (h ++ gave page frame ∷ []) frame uses.Mapped (omega (arith, sized.frames, least.there)) mapped (λ other apart. same_frame h (gave page frame) other (untouched other apart) (loses_none (gave page frame) (eqb-false 0 4 refl)));
  }
    where
      same_page : (p : ℕ) → events.Map page ≡ events.Map p → p ≡ page
      same_page p e = cc

      same_frame_number : (f : ℕ) → answers.At frame ≡ answers.At f → f ≡ frame
      same_frame_number f e = cc

      is_unused : (¬ HasFrame h frame) × (¬ IsPending h frame)
      is_unused = is_for frame uses.Free least.unused

      here : (f : ℕ) → (Some frame ≡ Some f) ↔ TableHas (h ++ gave page frame ∷ []) page f
      here f = (
        (λ e. let same : answers.At frame ≡ answers.At f = cc in
            stands_new (λ before. Is (events.Map page) (answers.At f)) (Is (events.Unmap page) answers.Ok) h (gave page frame) (refl, same)),
        (λ s. elim (stands_before (λ before. Is (events.Map page) (answers.At f)) (Is (events.Unmap page) answers.Ok) h (gave page frame) s) [
          | inl made ↦ ap Some (sym (same_frame_number f made.1))
          | inr before ↦ absurd (no_page page none (f, before.0))
        ]),
      )

      untouched : (other : ℕ) → other ≢ frame → Untouched h (gave page frame) other
      untouched other apart = record {
        no_give = λ p is. apart (same_frame_number other is.1);
        no_unmap = λ p has. unmaps_none (gave page frame) (eqb-false 0 1 refl) p;
        no_free = frees_none (gave page frame) (eqb-false 0 3 refl) other;
      }

      only : (p : ℕ) → TableHas (h ++ gave page frame ∷ []) p frame → p ≡ page
      only p s = elim (stands_before (λ before. Is (events.Map p) (answers.At frame)) (Is (events.Unmap p) answers.Ok) h (gave page frame) s) [
        | inl made ↦ same_page p made.0
        | inr before ↦ absurd (is_unused.0 (p, before.0))
      ]

      not_pending : ¬ IsPending (h ++ gave page frame ∷ []) frame
      not_pending found = elim (stands_before (TakesOut found.0 frame) (Is (events.Free frame) answers.Ok) h (gave page frame) found.1) [
        | inl made ↦ unmaps_none (gave page frame) (eqb-false 0 1 refl) found.0 made.0
        | inr before ↦ is_unused.1 (found.0, before.0)
      ]

      mapped : IsMapped (h ++ gave page frame ∷ []) frame
      mapped = record {
        somewhere = (page, (here frame).0 refl);
        settled = not_pending;
        once = λ p q here there. only p here ∙ sym (only q there);
      }

  pub after_map : (page : ℕ) → page < 64 → (answer : TlbAnswer) (new : Kept) → MapStep kept page answer new →
      IsShown (h ++ answered (events.Map page) answer ∷ []) new
  after_map page inside answers.Used new step = subst (IsShown (h ++ answered (events.Map page) answers.Used ∷ [])) (sym step.1)
      (quiet (answered (events.Map page) answers.Used) (quiet_map page answers.Used (λ f e. cc)) inside (some_page page (frame_at kept.table page) refl step.0))
  after_map page inside answers.NoFree new step = subst (IsShown (h ++ answered (events.Map page) answers.NoFree ∷ [])) (sym step.2)
      (quiet (answered (events.Map page) answers.NoFree) (quiet_map page answers.NoFree (λ f e. cc)) inside (no_page page step.0, no_free_frame step.1))
  after_map page inside (answers.At frame) new step = subst (IsShown (h ++ answered (events.Map page) (answers.At frame) ∷ [])) (sym step.2)
      (given page frame inside step.0 step.1)
  after_map page inside _ new step = absurd step

  -- unmap

  quiet_unmap : (page : ℕ) → IsQuiet (answered (events.Unmap page) answers.None)
  quiet_unmap page = let x : Entry = answered (events.Unmap page) answers.None in record {
    no_give = gives_none x (eqb-false 1 0 refl);
    no_unmap = λ p is. cc is.1;
    no_fill = fills_none x (eqb-false 1 2 refl);
    no_free = frees_none x (eqb-false 1 3 refl);
    no_loss = loses_none x (eqb-false 1 4 refl);
  }

  taken : (page frame mask : ℕ) → page < 64 → frame_at kept.table page ≡ Some frame → IsAll kept.sizes.cpus mask →
      IsShown (h ++ answered (events.Unmap page) answers.Ok ∷ []) (record kept { table = slice_set kept.table page None; uses = slice_set kept.uses frame (uses.Pending page mask) })
  taken page frame mask inside there all = record {
    run = run_more kept.sizes h (took page) shown.run inside (frame, has);
    table = table_after (h ++ took page ∷ []) page None inside here (λ p f apart. entry_stays (took page) h p f (gives_none (took page) (eqb-false 1 0 refl) p f) (λ is. apart (same_page p is.0)));
    caches = λ cpu p f within. chain (shown.caches cpu p f within) (same_caches h (took page) cpu p f (fills_none (took page) (eqb-false 1 2 refl) cpu p) (loses_none (took page) (eqb-false 1 4 refl) cpu p));
    uses = uses_after (h ++ took page ∷ []) frame (uses.Pending page mask) (omega (arith, sized.frames, sized.in_range page frame there)) waiting
        (λ other apart. same_frame h (took page) other (untouched other apart) (loses_none (took page) (eqb-false 1 4 refl)));
  }
    where
      has : TableHas h page frame
      has = (shown.table page frame).0 there

      mapped : IsMapped h frame
      mapped = mapped_use page frame has (use_of kept.uses frame) refl

      same_page : (p : ℕ) → events.Unmap page ≡ events.Unmap p → p ≡ page
      same_page p e = cc

      here : (f : ℕ) → (None ≡ Some f) ↔ TableHas (h ++ took page ∷ []) page f
      here f = (
        (λ e. absurd (cc e)),
        (λ s. absurd (stands_no_more (λ before. Is (events.Map page) (answers.At f)) (Is (events.Unmap page) answers.Ok) h (took page) (gives_none (took page) (eqb-false 1 0 refl) page f) (refl, refl) s)),
      )

      untouched : (other : ℕ) → other ≢ frame → Untouched h (took page) other
      untouched other apart = record {
        no_give = λ p. gives_none (took page) (eqb-false 1 0 refl) p other;
        no_unmap = λ p found is. apart (one_frame page other frame (subst (λ q. TableHas h q other) (same_page p is.0) found) has);
        no_free = frees_none (took page) (eqb-false 1 3 refl) other;
      }

      gone : ¬ HasFrame (h ++ took page ∷ []) frame
      gone found = elim (stands_before (λ before. Is (events.Map found.0) (answers.At frame)) (Is (events.Unmap found.0) answers.Ok) h (took page) found.1) [
        | inl made ↦ gives_none (took page) (eqb-false 1 0 refl) found.0 frame made
        | inr before ↦ before.1 (ap events.Unmap (mapped.once page found.0 has before.0), refl)
      ]

      only : (other : ℕ) → IsPendingFrom (h ++ took page ∷ []) other frame → other ≡ page
      only other s = elim (stands_before (TakesOut other frame) (Is (events.Free frame) answers.Ok) h (took page) s) [
        | inl made ↦ same_page other made.0.0
        | inr before ↦ absurd (mapped.settled (other, before.0))
      ]

      waiting : IsWaiting kept.sizes.cpus (h ++ took page ∷ []) frame page mask
      waiting = record {
        unused = gone;
        pending = stands_new (TakesOut page frame) (Is (events.Free frame) answers.Ok) h (took page) ((refl, refl), has);
        once = only;
        bits = λ cpu. (
          (λ one. ((all cpu).0 one, stands_new (TakesOut page frame) (λ y. Is (events.Free frame) answers.Ok y ⊎ Invalidates cpu page y) h (took page) ((refl, refl), has))),
          (λ now. (all cpu).1 now.0),
        );
      }

  pub after_unmap : (page : ℕ) → page < 64 → (answer : TlbAnswer) (new : Kept) → UnmapStep kept page answer new →
      IsShown (h ++ answered (events.Unmap page) answer ∷ []) new
  after_unmap page inside answers.None new step = subst (IsShown (h ++ answered (events.Unmap page) answers.None ∷ [])) (sym step.1)
      (quiet (answered (events.Unmap page) answers.None) (quiet_unmap page) inside (no_page page step.0))
  after_unmap page inside answers.Ok new step = subst (IsShown (h ++ answered (events.Unmap page) answers.Ok ∷ [])) (sym step.4)
      (taken page step.0 step.1 inside step.2 step.3)
  after_unmap page inside _ new step = absurd step

  -- fill and reach

  quiet_fill : (cpu page : ℕ) → IsQuiet (answered (events.Fill cpu page) answers.None)
  quiet_fill cpu page = let x : Entry = answered (events.Fill cpu page) answers.None in record {
    no_give = gives_none x (eqb-false 2 0 refl);
    no_unmap = unmaps_none x (eqb-false 2 1 refl);
    no_fill = λ c p is. cc is.1;
    no_free = frees_none x (eqb-false 2 3 refl);
    no_loss = loses_none x (eqb-false 2 4 refl);
  }

  filled : (cpu page frame : ℕ) → cpu < kept.sizes.cpus → page < 64 → frame_at kept.table page ≡ Some frame →
      IsShown (h ++ answered (events.Fill cpu page) answers.Ok ∷ []) (record kept { caches = with_entry kept.caches cpu page (Some frame) })
  filled cpu page frame within inside there = record {
    run = run_more kept.sizes h (kept_by cpu page) shown.run (within, inside) (frame, has);
    table = λ p f. chain (shown.table p f) (entry_stays (kept_by cpu page) h p f (gives_none (kept_by cpu page) (eqb-false 2 0 refl) p f) (unmaps_none (kept_by cpu page) (eqb-false 2 1 refl) p));
    caches = cache_after (h ++ kept_by cpu page ∷ []) cpu page (Some frame) within inside here (λ c p f apart. same_caches h (kept_by cpu page) c p f (λ is. differs c p apart is.0) (loses_none (kept_by cpu page) (eqb-false 2 4 refl) c p));
    uses = λ f. use_stays kept.sizes.cpus h (h ++ kept_by cpu page ∷ []) f (same_frame h (kept_by cpu page) f (untouched f) (loses_none (kept_by cpu page) (eqb-false 2 4 refl))) (use_of kept.uses f) (shown.uses f);
  }
    where
      has : TableHas h page frame
      has = (shown.table page frame).0 there

      differs : (c p : ℕ) → (c ≡ cpu → p ≡ page → ⊥) → events.Fill cpu page ≡ events.Fill c p → ⊥
      differs c p apart e = let one : c ≡ cpu = cc in let two : p ≡ page = cc in apart one two

      untouched : (f : ℕ) → Untouched h (kept_by cpu page) f
      untouched f = record { no_give = λ p. gives_none (kept_by cpu page) (eqb-false 2 0 refl) p f; no_unmap = λ p found. unmaps_none (kept_by cpu page) (eqb-false 2 1 refl) p; no_free = frees_none (kept_by cpu page) (eqb-false 2 3 refl) f }

      here : (f : ℕ) → (Some frame ≡ Some f) ↔ CacheHas (h ++ kept_by cpu page ∷ []) cpu page f
      here f = (
        (λ e. let same : frame ≡ f = cc in stands_new (FillsWith cpu page f) (Refills cpu page) h (kept_by cpu page) ((refl, refl), subst (TableHas h page) same has)),
        (λ s. elim (stands_before (FillsWith cpu page f) (Refills cpu page) h (kept_by cpu page) s) [
          | inl made ↦ ap Some (one_frame page frame f has made.1)
          | inr before ↦ absurd (before.1 (inl (refl, refl)))
        ]),
      )

  pub after_fill : (cpu page : ℕ) → cpu < kept.sizes.cpus → page < 64 → (answer : TlbAnswer) (new : Kept) → FillStep kept cpu page answer new →
      IsShown (h ++ answered (events.Fill cpu page) answer ∷ []) new
  after_fill cpu page within inside answers.None new step = subst (IsShown (h ++ answered (events.Fill cpu page) answers.None ∷ [])) (sym step.1)
      (quiet (answered (events.Fill cpu page) answers.None) (quiet_fill cpu page) (within, inside) (no_page page step.0))
  after_fill cpu page within inside answers.Ok new step = subst (IsShown (h ++ answered (events.Fill cpu page) answers.Ok ∷ [])) (sym step.2)
      (filled cpu page step.0 within inside step.1)
  after_fill cpu page within inside _ new step = absurd step

  quiet_reach : (cpu page : ℕ) (answer : TlbAnswer) → IsQuiet (answered (events.Reach cpu page) answer)
  quiet_reach cpu page answer = let x : Entry = answered (events.Reach cpu page) answer in record {
    no_give = gives_none x (eqb-false 5 0 refl);
    no_unmap = unmaps_none x (eqb-false 5 1 refl);
    no_fill = fills_none x (eqb-false 5 2 refl);
    no_free = frees_none x (eqb-false 5 3 refl);
    no_loss = loses_none x (eqb-false 5 4 refl);
  }

  pub after_reach : (cpu page : ℕ) → cpu < kept.sizes.cpus → page < 64 → (answer : TlbAnswer) → ReachStep kept cpu page answer →
      IsShown (h ++ answered (events.Reach cpu page) answer ∷ []) kept
  after_reach cpu page within inside (answers.Hit frame) step =
      quiet (answered (events.Reach cpu page) (answers.Hit frame)) (quiet_reach cpu page (answers.Hit frame)) (within, inside) ((shown.caches cpu page frame within).0 step)
  after_reach cpu page within inside answers.Miss step =
      quiet (answered (events.Reach cpu page) answers.Miss) (quiet_reach cpu page answers.Miss) (within, inside)
      (λ frame has. let there : frame_at (cache_of kept.caches cpu) page ≡ Some frame = (shown.caches cpu page frame within).1 has in cc)
  after_reach cpu page within inside _ step = absurd step

  -- drop and ack

  module _ (x : Entry) (cpu : ℕ) (dropped : Option ℕ)
      (loses : (page : ℕ) → concerns dropped page ≡ true → Invalidates cpu page x)
      (only : (other page : ℕ) → Invalidates other page x → (other ≡ cpu) × (concerns dropped page ≡ true))
      (no_give : GivesNone x) (no_unmap : UnmapsNone x) (no_fill : FillsNone x) (no_free : FreesNone x) where
    abbrev k : History
    k = h ++ x ∷ []

    lost_nothing : (frame : ℕ) → Untouched h x frame
    lost_nothing frame = record { no_give = λ p. no_give p frame; no_unmap = λ p found. no_unmap p; no_free = no_free frame }

    pub lost_table : (page frame : ℕ) → (frame_at kept.table page ≡ Some frame) ↔ TableHas k page frame
    lost_table page frame = chain (shown.table page frame) (table_stays h x frame (lost_nothing frame) page)

    not_unused : (frame : ℕ) → ¬ HasFrame h frame → ¬ HasFrame k frame
    not_unused frame gone found = gone (found.0, (table_stays h x frame (lost_nothing frame) found.0).1 found.1)

    not_pending : (frame : ℕ) → ¬ IsPending h frame → ¬ IsPending k frame
    not_pending frame settled found = settled (found.0, (pending_stays h x frame (lost_nothing frame) found.0).1 found.1)

    -- a bit is 0 from now on, or as before
    bit_after : (frame page mask left other : ℕ) → IsWaiting kept.sizes.cpus h frame page mask →
        (b : Bool) → concerns dropped page && nat_eq other cpu ≡ b → bit_at left other ≡ cond b 0 (bit_at mask other) →
        (bit_at left other ≡ 1) ↔ ((other < kept.sizes.cpus) × IsUnheardFrom k page frame other)
    bit_after frame page mask left other old true is bit = (
      (λ one. absurd (eqb-false 0 1 refl (sym bit ∙ one))),
      (λ now. absurd (stands_no_more (TakesOut page frame) (λ y. Is (events.Free frame) answers.Ok y ⊎ Invalidates other page y) h x
          (λ made. no_unmap page made.0) (inr (subst (λ c. Invalidates c page x) (sym (same_cpu is)) (loses page (concerned is)))) now.1)),
    )
      where
        concerned : concerns dropped page && nat_eq other cpu ≡ true → concerns dropped page ≡ true
        concerned e = grind (arith, e)

        same_cpu : concerns dropped page && nat_eq other cpu ≡ true → other ≡ cpu
        same_cpu e = eqb-true other cpu (grind (arith, e))
    bit_after frame page mask left other old false is bit = (
      (λ one. let was : (other < kept.sizes.cpus) × IsUnheardFrom h page frame other = (old.bits other).0 (sym bit ∙ one) in (was.0, stays.0 was.1)),
      (λ now. bit ∙ (old.bits other).1 (now.0, stays.1 now.1)),
    )
      where
        keeps : Invalidates other page x → ⊥
        keeps gone = let both : (other ≡ cpu) × (concerns dropped page ≡ true) = only other page gone in
            let same : nat_eq other cpu ≡ true = eq-eqb other cpu both.0 in
            let named : concerns dropped page ≡ true = both.1 in
            grind (arith, is)

        stays : IsUnheardFrom h page frame other ↔ IsUnheardFrom k page frame other
        stays = unheard_stays h x frame (lost_nothing frame) page other keeps

    heard_use : (frame : ℕ) (old new : FrameUse) → IsFor kept.sizes.cpus h frame old → IsHeard dropped cpu old new → IsFor kept.sizes.cpus k frame new
    heard_use frame uses.Free new was is = subst (IsFor kept.sizes.cpus k frame) (sym is) (not_unused frame was.0, not_pending frame was.1)
    heard_use frame uses.Mapped new was is = subst (IsFor kept.sizes.cpus k frame) (sym is) (record {
      somewhere = (was.somewhere.0, (table_stays h x frame (lost_nothing frame) was.somewhere.0).0 was.somewhere.1);
      settled = not_pending frame was.settled;
      once = λ p q here there. was.once p q ((table_stays h x frame (lost_nothing frame) p).1 here) ((table_stays h x frame (lost_nothing frame) q).1 there);
    })
    heard_use frame (uses.Pending page mask) new was is = subst (IsFor kept.sizes.cpus k frame) (sym is.1) (record {
      unused = not_unused frame was.unused;
      pending = (pending_stays h x frame (lost_nothing frame) page).0 was.pending;
      once = λ other s. was.once other ((pending_stays h x frame (lost_nothing frame) other).1 s);
      bits = λ other. bit_after frame page mask is.0 other was (concerns dropped page && nat_eq other cpu) refl (is.2 other);
    })

    pub lost_uses : (new : List FrameUse) → AreHeard dropped cpu kept.uses new → (frame : ℕ) → IsFor kept.sizes.cpus k frame (use_of new frame)
    lost_uses new heard frame = heard_use frame (use_of kept.uses frame) (use_of new frame) (shown.uses frame) (heard frame)

    -- an entry that is gone, and one that is not
    pub lost_entry : (page frame : ℕ) → concerns dropped page ≡ true → ¬ CacheHas k cpu page frame
    lost_entry page frame is = stands_no_more (FillsWith cpu page frame) (Refills cpu page) h x (λ made. no_fill cpu page made.0) (inr (loses page is))

    pub kept_entry : (other page frame : ℕ) → (other ≡ cpu → concerns dropped page ≡ true → ⊥) → CacheHas h other page frame ↔ CacheHas k other page frame
    kept_entry other page frame apart = same_caches h x other page frame (no_fill other page) (λ gone. apart (only other page gone).0 (only other page gone).1)

  none_some : (frame : ℕ) → None ≡ Some frame → ⊥
  none_some frame e = cc

  dropped : (cpu page : ℕ) → cpu < kept.sizes.cpus → page < 64 → (after : List FrameUse) → AreHeard (Some page) cpu kept.uses after →
      IsShown (h ++ answered (events.Drop cpu page) answers.Ok ∷ []) (record kept { caches = with_entry kept.caches cpu page None; uses = after })
  dropped cpu page within inside after heard = record {
    run = run_more kept.sizes h (dropped_by cpu page) shown.run (within, inside) refl;
    table = lost_table (dropped_by cpu page) cpu (Some page) loses only no_give no_unmap no_fill no_free;
    caches = cache_after (h ++ (dropped_by cpu page) ∷ []) cpu page None within inside
        (λ f. ((λ e. absurd (none_some f e)), (λ has. absurd (lost_entry (dropped_by cpu page) cpu (Some page) loses only no_give no_unmap no_fill no_free page f (eq-eqb page page refl) has))))
        (λ c p f apart. kept_entry (dropped_by cpu page) cpu (Some page) loses only no_give no_unmap no_fill no_free c p f (λ e named. apart e (sym (eqb-true page p named))));
    uses = lost_uses (dropped_by cpu page) cpu (Some page) loses only no_give no_unmap no_fill no_free after heard;
  }
    where
      loses : (p : ℕ) → nat_eq page p ≡ true → Invalidates cpu p (dropped_by cpu page)
      loses p named = inl (ap (events.Drop cpu) (eqb-true page p named))

      only : (other p : ℕ) → Invalidates other p (dropped_by cpu page) → (other ≡ cpu) × (nat_eq page p ≡ true)
      only other p (inl drop) = let same : page ≡ p = cc in (cc, eq-eqb page p same)
      only other p (inr ack) = absurd (cc)

      no_give : GivesNone (dropped_by cpu page)
      no_give = gives_none (dropped_by cpu page) (eqb-false 4 0 refl)

      no_unmap : UnmapsNone (dropped_by cpu page)
      no_unmap = unmaps_none (dropped_by cpu page) (eqb-false 4 1 refl)

      no_fill : FillsNone (dropped_by cpu page)
      no_fill = fills_none (dropped_by cpu page) (eqb-false 4 2 refl)

      no_free : FreesNone (dropped_by cpu page)
      no_free = frees_none (dropped_by cpu page) (eqb-false 4 3 refl)

  pub after_drop : (cpu page : ℕ) → cpu < kept.sizes.cpus → page < 64 → (new : Kept) → DropStep kept cpu page new →
      IsShown (h ++ answered (events.Drop cpu page) answers.Ok ∷ []) new
  after_drop cpu page within inside new step = subst (IsShown (h ++ answered (events.Drop cpu page) answers.Ok ∷ [])) (sym step.1)
      (dropped cpu page within inside new.uses step.0)

  acknowledged : (cpu : ℕ) → cpu < kept.sizes.cpus → (after : List FrameUse) → AreHeard None cpu kept.uses after →
      IsShown (h ++ answered (events.Ack cpu) answers.Ok ∷ []) (record kept { caches = slice_set kept.caches cpu (replicate 64 None); uses = after })
  acknowledged cpu within after heard = record {
    run = run_more kept.sizes h (acknowledged_by cpu) shown.run within refl;
    table = lost_table (acknowledged_by cpu) cpu None loses only no_give no_unmap no_fill no_free;
    caches = λ c p f there. elim (cases_eq c cpu) [
      | inl same ↦ subst (λ q. (frame_at (cache_of (slice_set kept.caches cpu (replicate 64 None)) q) p ≡ Some f) ↔ CacheHas (h ++ (acknowledged_by cpu) ∷ []) q p f) (sym same) (
        (λ e. absurd (none_some f (sym (ap (λ l. frame_at l p) own ∙ nothing_at 64 p) ∙ e))),
        (λ has. absurd (lost_entry (acknowledged_by cpu) cpu None loses only no_give no_unmap no_fill no_free p f refl has)),
      )
      | inr apart ↦ along _ _ _ (ap (λ l. frame_at l p) (get_or-set_other kept.caches cpu c (replicate 64 None) [] apart)) (shown.caches c p f there)
          (kept_entry (acknowledged_by cpu) cpu None loses only no_give no_unmap no_fill no_free c p f (λ e named. apart e))
    ];
    uses = lost_uses (acknowledged_by cpu) cpu None loses only no_give no_unmap no_fill no_free after heard;
  }
    where
      own : cache_of (slice_set kept.caches cpu (replicate 64 None)) cpu ≡ replicate 64 None
      own = get_or-set_same kept.caches cpu (replicate 64 None) [] (omega (arith, sized.caches, sized.cpus))

      loses : (p : ℕ) → true ≡ true → Invalidates cpu p (acknowledged_by cpu)
      loses p named = inr refl

      only : (other p : ℕ) → Invalidates other p (acknowledged_by cpu) → (other ≡ cpu) × (true ≡ true)
      only other p (inl drop) = absurd (cc)
      only other p (inr ack) = (cc, refl)

      no_give : GivesNone (acknowledged_by cpu)
      no_give = gives_none (acknowledged_by cpu) (eqb-false 4 0 refl)

      no_unmap : UnmapsNone (acknowledged_by cpu)
      no_unmap = unmaps_none (acknowledged_by cpu) (eqb-false 4 1 refl)

      no_fill : FillsNone (acknowledged_by cpu)
      no_fill = fills_none (acknowledged_by cpu) (eqb-false 4 2 refl)

      no_free : FreesNone (acknowledged_by cpu)
      no_free = frees_none (acknowledged_by cpu) (eqb-false 4 3 refl)

  pub after_ack : (cpu : ℕ) → cpu < kept.sizes.cpus → (new : Kept) → AckStep kept cpu new → IsShown (h ++ answered (events.Ack cpu) answers.Ok ∷ []) new
  after_ack cpu within new step = subst (IsShown (h ++ answered (events.Ack cpu) answers.Ok ∷ [])) (sym step.1) (acknowledged cpu within new.uses step.0)

  -- free

  quiet_free : (frame : ℕ) (answer : TlbAnswer) → answer ≢ answers.Ok → IsQuiet (answered (events.Free frame) answer)
  quiet_free frame answer other = let x : Entry = answered (events.Free frame) answer in record {
    no_give = gives_none x (eqb-false 3 0 refl);
    no_unmap = unmaps_none x (eqb-false 3 1 refl);
    no_fill = fills_none x (eqb-false 3 2 refl);
    no_free = λ f is. other is.1;
    no_loss = loses_none x (eqb-false 3 4 refl);
  }

  not_pending_use : (frame : ℕ) → ((page mask : ℕ) → use_of kept.uses frame ≢ uses.Pending page mask) → (u : FrameUse) → use_of kept.uses frame ≡ u → ¬ IsPending h frame
  not_pending_use frame none uses.Free is = (is_for frame uses.Free is).1
  not_pending_use frame none uses.Mapped is = (is_for frame uses.Mapped is).settled
  not_pending_use frame none (uses.Pending page mask) is = absurd (none page mask is)

  -- the bit of a processor that may still have the frame
  unheard_bit : (frame page mask cpu : ℕ) → IsWaiting kept.sizes.cpus h frame page mask → cpu < kept.sizes.cpus → IsUnheard h frame cpu → bit_at mask cpu ≡ 1
  unheard_bit frame page mask cpu is within found =
      (is.bits cpu).1 (within, subst (λ q. IsUnheardFrom h q frame cpu) (is.once found.0 (weaker h found.0 frame cpu found.1)) found.1)

  freed : (frame page mask : ℕ) → frame < kept.sizes.frames → use_of kept.uses frame ≡ uses.Pending page mask → ((cpu : ℕ) → bit_at mask cpu ≡ 0) →
      IsShown (h ++ answered (events.Free frame) answers.Ok ∷ []) (record kept { uses = slice_set kept.uses frame uses.Free })
  freed frame page mask there is none = record {
    run = run_more kept.sizes h (let_go frame) shown.run there ((page, was.pending), (λ cpu within found. eqb-false 0 1 refl (sym (none cpu) ∙ unheard_bit frame page mask cpu was within found)));
    table = λ p f. chain (shown.table p f) (entry_stays (let_go frame) h p f (gives_none (let_go frame) (eqb-false 3 0 refl) p f) (unmaps_none (let_go frame) (eqb-false 3 1 refl) p));
    caches = λ cpu p f within. chain (shown.caches cpu p f within) (same_caches h (let_go frame) cpu p f (fills_none (let_go frame) (eqb-false 3 2 refl) cpu p) (loses_none (let_go frame) (eqb-false 3 4 refl) cpu p));
    uses = uses_after (h ++ let_go frame ∷ []) frame uses.Free (omega (arith, sized.frames, there)) (gone, settled) (λ other apart. same_frame h (let_go frame) other (untouched other apart) (loses_none (let_go frame) (eqb-false 3 4 refl)));
  }
    where
      was : IsWaiting kept.sizes.cpus h frame page mask
      was = is_for frame (uses.Pending page mask) is

      same_frame_number : (f : ℕ) → events.Free frame ≡ events.Free f → f ≡ frame
      same_frame_number f e = cc

      untouched : (other : ℕ) → other ≢ frame → Untouched h (let_go frame) other
      untouched other apart = record {
        no_give = λ p. gives_none (let_go frame) (eqb-false 3 0 refl) p other;
        no_unmap = λ p found. unmaps_none (let_go frame) (eqb-false 3 1 refl) p;
        no_free = λ e. apart (same_frame_number other e.0);
      }

      gone : ¬ HasFrame (h ++ let_go frame ∷ []) frame
      gone found = was.unused (found.0, (entry_stays (let_go frame) h found.0 frame (gives_none (let_go frame) (eqb-false 3 0 refl) found.0 frame) (unmaps_none (let_go frame) (eqb-false 3 1 refl) found.0)).1 found.1)

      settled : ¬ IsPending (h ++ let_go frame ∷ []) frame
      settled found = stands_no_more (TakesOut found.0 frame) (Is (events.Free frame) answers.Ok) h (let_go frame) (λ made. unmaps_none (let_go frame) (eqb-false 3 1 refl) found.0 made.0) (refl, refl) found.1

  pub after_free : (frame : ℕ) → frame < kept.sizes.frames → (answer : TlbAnswer) (new : Kept) → FreeStep kept frame answer new →
      IsShown (h ++ answered (events.Free frame) answer ∷ []) new
  after_free frame there answers.Idle new step = subst (IsShown (h ++ answered (events.Free frame) answers.Idle ∷ [])) (sym step.1)
      (quiet (answered (events.Free frame) answers.Idle) (quiet_free frame answers.Idle (λ e. cc)) there (not_pending_use frame step.0 (use_of kept.uses frame) refl))
  after_free frame there (answers.Wait cpu) new step = subst (IsShown (h ++ answered (events.Free frame) (answers.Wait cpu) ∷ [])) (sym step.5)
      (quiet (answered (events.Free frame) (answers.Wait cpu)) (quiet_free frame (answers.Wait cpu) (λ e. cc)) there (found.0, (step.0, found.1), least))
    where
      was : IsWaiting kept.sizes.cpus h frame step.0 step.1
      was = is_for frame (uses.Pending step.0 step.1) step.2

      found : (cpu < kept.sizes.cpus) × IsUnheardFrom h step.0 frame cpu
      found = (was.bits cpu).0 step.3

      least : (other : ℕ) → other < kept.sizes.cpus → IsUnheard h frame other → cpu ≤ other
      least other within unheard = elim (cases_lt other cpu) [
        | inl below ↦ absurd (eqb-false 0 1 refl (sym (step.4 other below) ∙ unheard_bit frame step.0 step.1 other was within unheard))
        | inr above ↦ above
      ]
  after_free frame there answers.Ok new step = subst (IsShown (h ++ answered (events.Free frame) answers.Ok ∷ [])) (sym step.4)
      (freed frame step.0 step.1 there step.2 step.3)
  after_free frame there _ new step = absurd step

-- before any event
pub nothing_shown : (sizes : Sizes) → IsShown [] (record { sizes = sizes; table = replicate 64 None; caches = replicate 8 (replicate 64 None); uses = replicate 64 uses.Free })
nothing_shown sizes = record {
  run = λ before later x whole. absurd (no_entry before x later whole);
  table = λ page frame. ((λ e. absurd (none_is (sym (nothing_at 64 page) ∙ e))), (λ s. absurd (stands_nowhere (λ before. Is (events.Map page) (answers.At frame)) (Is (events.Unmap page) answers.Ok) s)));
  caches = λ cpu page frame there. ((λ e. absurd (none_is (sym (nowhere (cases_lt cpu 8) page) ∙ e))), (λ s. absurd (stands_nowhere (FillsWith cpu page frame) (Refills cpu page) s)));
  uses = λ frame. subst (IsFor sizes.cpus [] frame) (sym (unused (cases_lt frame 64))) (
    (λ found. stands_nowhere (λ before. Is (events.Map found.0) (answers.At frame)) (Is (events.Unmap found.0) answers.Ok) found.1),
    (λ found. stands_nowhere (TakesOut found.0 frame) (Is (events.Free frame) answers.Ok) found.1),
  );
}
  where
    none_is : {frame : ℕ} → None ≡ Some frame → ⊥
    none_is e = cc

    nowhere : {cpu : ℕ} → (cpu < 8) ⊎ (8 ≤ cpu) → (page : ℕ) → frame_at (cache_of (replicate 8 (replicate 64 None)) cpu) page ≡ None
    nowhere {cpu} (inl below) page = ap (λ l. frame_at l page) (get_or-replicate 8 cpu (replicate 64 None) [] below) ∙ nothing_at 64 page
    nowhere {cpu} (inr past) page = ap (λ l. frame_at l page) (get_or_past (replicate 8 (replicate 64 None)) cpu [] past)

    unused : {frame : ℕ} → (frame < 64) ⊎ (64 ≤ frame) → use_of (replicate 64 uses.Free) frame ≡ uses.Free
    unused {frame} (inl below) = get_or-replicate 64 frame uses.Free uses.Free below
    unused {frame} (inr past) = get_or_past (replicate 64 uses.Free) frame uses.Free past

module _ (sizes : Sizes) (table : List (Option ℕ)) (caches : List (List (Option ℕ))) (list : List FrameUse)
    (no_entries : table ≡ replicate 64 None) (no_caches : caches ≡ replicate 8 (replicate 64 None)) (no_uses : list ≡ replicate 64 uses.Free) where
  pub new_shown : IsShown [] (record { sizes = sizes; table = table; caches = caches; uses = list })
  new_shown = rw (no_entries, no_caches, no_uses) (nothing_shown sizes)

  pub new_sized : sizes.cpus ≤ 8 → sizes.frames ≤ 64 → IsSized (record { sizes = sizes; table = table; caches = caches; uses = list })
  new_sized cpus frames = record {
    cpus = cpus;
    frames = frames;
    table = ap length no_entries ∙ length-replicate {A = Option ℕ} 64 None;
    caches = ap length no_caches ∙ length-replicate {A = List (Option ℕ)} 8 (replicate 64 None);
    each = λ cpu below. ap (λ l. length (cache_of l cpu)) no_caches ∙ ap length (get_or-replicate 8 cpu (replicate 64 None) [] below) ∙ length-replicate {A = Option ℕ} 64 None;
    uses = ap length no_uses ∙ length-replicate {A = FrameUse} 64 uses.Free;
    in_range = λ page frame e. absurd (none_is frame (sym (nothing_at 64 page) ∙ ap (λ l. frame_at l page) (sym no_entries) ∙ e));
  }
    where
      none_is : (frame : ℕ) → None ≡ Some frame → ⊥
      none_is frame e = cc
