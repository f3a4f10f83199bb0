-- What one more entry leaves as it is.
--     GivesNone, UnmapsNone, FillsNone, FreesNone, LosesNone      what an entry is not
--     SameFrame, same_frame      all that concerns one frame is as before
--     use_stays      and so is what it is used for
--     same_caches      the caches are as before
use Rattle.std.proofs.Common.{◌⊎◌, ◌↔◌, ◌<◌, ℕ, ◌∷◌, ◌++◌, [], inl, inr}
use Rattle.std.proofs.lemmas.List.Elements.{All-weaker}
use Rattle.tlb_core.specs.declared.events.TlbEvent.TheVariants as events
use Rattle.tlb_core.specs.declared.events.TlbAnswer.TheVariants as answers
use Rattle.tlb_core.specs.declared.uses.FrameUse.{FrameUse}
use Rattle.tlb_core.specs.declared.uses.FrameUse.TheVariants as uses
use Rattle.tlb_core.specs.Histories.{Entry, History, Is}
use Rattle.tlb_core.specs.Caches.{TableHas, HasFrame, Invalidates, FillsWith, Refills, CacheHas, TakesOut, IsPendingFrom, IsPending, IsUnheardFrom}
use Rattle.tlb_core.specs.Shown.{IsFor}
use Rattle.tlb_core.proofs.Histories.{stands_again, stands_before, stands_stays}

abbrev pub GivesNone : Entry → Type 0
GivesNone x = (page frame : ℕ) → ¬ Is (events.Map page) (answers.At frame) x

abbrev pub UnmapsNone : Entry → Type 0
UnmapsNone x = (page : ℕ) → ¬ Is (events.Unmap page) answers.Ok x

abbrev pub FillsNone : Entry → Type 0
FillsNone x = (cpu page : ℕ) → ¬ Is (events.Fill cpu page) answers.Ok x

abbrev pub FreesNone : Entry → Type 0
FreesNone x = (frame : ℕ) → ¬ Is (events.Free frame) answers.Ok x

abbrev pub LosesNone : Entry → Type 0
LosesNone x = (cpu page : ℕ) → ¬ Invalidates cpu page x

pub record SameFrame (h k : History) (frame : ℕ) : Type 0 where
  pub table : (page : ℕ) → TableHas h page frame ↔ TableHas k page frame
  pub pending : (page : ℕ) → IsPendingFrom h page frame ↔ IsPendingFrom k page frame
  pub unheard : (page cpu : ℕ) → IsUnheardFrom h page frame cpu ↔ IsUnheardFrom k page frame cpu

pub record Untouched (h : History) (x : Entry) (frame : ℕ) : Type 0 where
  pub no_give : (page : ℕ) → ¬ Is (events.Map page) (answers.At frame) x
  pub no_unmap : (page : ℕ) → TableHas h page frame → ¬ Is (events.Unmap page) answers.Ok x
  pub no_free : ¬ Is (events.Free frame) answers.Ok x

module _ (h : History) (x : Entry) (frame : ℕ) (same : Untouched h x frame) where
  pub table_stays : (page : ℕ) → TableHas h page frame ↔ TableHas (h ++ x ∷ []) page frame
  table_stays page = (
    (λ s. stands_again (λ before. Is (events.Map page) (answers.At frame)) (Is (events.Unmap page) answers.Ok) h x s (same.no_unmap page s)),
    (λ s. elim (stands_before (λ before. Is (events.Map page) (answers.At frame)) (Is (events.Unmap page) answers.Ok) h x s) [
      | inl made ↦ absurd (same.no_give page made)
      | inr before ↦ before.0
    ]),
  )

  pub no_takes_out : (page : ℕ) → ¬ TakesOut page frame h x
  no_takes_out page taken = same.no_unmap page taken.1 taken.0

  pub pending_stays : (page : ℕ) → IsPendingFrom h page frame ↔ IsPendingFrom (h ++ x ∷ []) page frame
  pending_stays page = stands_stays (TakesOut page frame) (Is (events.Free frame) answers.Ok) h x (no_takes_out page) same.no_free

  pub unheard_stays : (page cpu : ℕ) → ¬ Invalidates cpu page x → IsUnheardFrom h page frame cpu ↔ IsUnheardFrom (h ++ x ∷ []) page frame cpu
  unheard_stays page cpu none =
      stands_stays (TakesOut page frame) (λ y. Is (events.Free frame) answers.Ok y ⊎ Invalidates cpu page y) h x (no_takes_out page) undoes_not
    where
      undoes_not : ¬ (Is (events.Free frame) answers.Ok x ⊎ Invalidates cpu page x)
      undoes_not (inl free) = same.no_free free
      undoes_not (inr gone) = none gone

  pub same_frame : LosesNone x → SameFrame h (h ++ x ∷ []) frame
  same_frame none = record { table = table_stays; pending = pending_stays; unheard = λ page cpu. unheard_stays page cpu (none cpu page) }

module _ (cpus : ℕ) (h k : History) (frame : ℕ) (same : SameFrame h k frame) where
  frame_gone : ¬ HasFrame h frame → ¬ HasFrame k frame
  frame_gone gone found = gone (found.0, (same.table found.0).1 found.1)

  settled_still : ¬ IsPending h frame → ¬ IsPending k frame
  settled_still settled found = settled (found.0, (same.pending found.0).1 found.1)

  pub use_stays : (u : FrameUse) → IsFor cpus h frame u → IsFor cpus k frame u
  use_stays uses.Free is = (frame_gone is.0, settled_still is.1)
  use_stays uses.Mapped is = record {
    somewhere = (is.somewhere.0, (same.table is.somewhere.0).0 is.somewhere.1);
    settled = settled_still is.settled;
    once = λ page other here there. is.once page other ((same.table page).1 here) ((same.table other).1 there);
  }
  use_stays (uses.Pending page mask) is = record {
    unused = frame_gone is.unused;
    pending = (same.pending page).0 is.pending;
    once = λ other s. is.once other ((same.pending other).1 s);
    bits = λ cpu. (
      (λ one. let old : (cpu < cpus) × IsUnheardFrom h page frame cpu = (is.bits cpu).0 one in (old.0, (same.unheard page cpu).0 old.1)),
      (λ now. (is.bits cpu).1 (now.0, (same.unheard page cpu).1 now.1)),
    );
  }

pub same_caches : (h : History) (x : Entry) (cpu page frame : ℕ) → ¬ Is (events.Fill cpu page) answers.Ok x → ¬ Invalidates cpu page x →
    CacheHas h cpu page frame ↔ CacheHas (h ++ x ∷ []) cpu page frame
same_caches h x cpu page frame no_fill none = stands_stays (FillsWith cpu page frame) (Refills cpu page) h x (λ made. no_fill made.0) undoes_not
  where
    undoes_not : ¬ Refills cpu page x
    undoes_not (inl fill) = no_fill fill
    undoes_not (inr gone) = none gone

-- a processor that was not heard since the frame is pending
pub weaker : (h : History) (page frame cpu : ℕ) → IsUnheardFrom h page frame cpu → IsPendingFrom h page frame
weaker h page frame cpu s = record {
  before = s.before;
  entry = s.entry;
  later = s.later;
  whole = s.whole;
  made = s.made;
  kept = All-weaker (λ y. ¬ (Is (events.Free frame) answers.Ok y ⊎ Invalidates cpu page y)) (λ y. ¬ Is (events.Free frame) answers.Ok y) (λ y not free. not (inl free)) s.later s.kept;
}
