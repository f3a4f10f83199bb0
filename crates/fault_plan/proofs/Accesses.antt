-- The table's decision is what the page map's access does.
use Rattle.std.proofs.Common.{◌≡◌, ℕ, ◌*◌, ◌≤◌, Bool, true, false, cond, not, ◌&&◌, List, refl, sym, ap, ◌∙◌, arith}
use Rattle.std.specs.Prelude.{Option, Some, None, nat_eq}
use Rattle.std.proofs.lemmas.Bool.{ne_eqb}
use Rattle.corten_base.specs.declared.calls.Backing.TheVariants as backing
use Rattle.corten_base.specs.declared.calls.Reply.{Reply}
use Rattle.corten_base.specs.declared.calls.Reply.TheVariants as reply
use Rattle.page_map.specs.declared.cell.Cell.{Cell}
use Rattle.page_map.specs.declared.cell.Cell.TheVariants.{Anon, File, Mapped, Swapped}
use Rattle.page_map.specs.Cell.{status_of, backing_of, frame_of, is_past_end}
use Rattle.page_map.specs.Takes.{Grant}
use Rattle.page_map.specs.State.{State, frame_owners}
use Rattle.page_map.specs.Access.{Access, allows, refused_at, wants_frame, touched}
use Rattle.fault_plan.specs.declared.rule.Decision.{Decision}
use Rattle.fault_plan.specs.declared.rule.Decision.TheVariants.{Ready, ZeroFill, FromFile, CopyOut, TakeOver, SwapIn, Segv, Denied, Bus}
use Rattle.fault_plan.specs.Access.{Rule, Allows, Lacks, IsInvalid, IsAnon, IsFile, IsMapped, IsSwapped}
use Rattle.fault_plan.specs.Accesses.{lies_past_end, refusal, takes_frame, comes_from}

-- ---- what the table says of a cell, in the page map's words

allowed : (write : Bool) (c : Cell) → Allows write (status_of (Some c)) → allows write c ≡ true
allowed write (Anon perm) h = h
allowed write (File perm file index) h = h
allowed write (Mapped perm origin frame bytes) h = h
allowed write (Swapped perm origin slot bytes) h = h

lacking : (write : Bool) (c : Cell) → Lacks write (status_of (Some c)) → allows write c ≡ false
lacking write (Anon perm) h = h
lacking write (File perm file index) h = h
lacking write (Mapped perm origin frame bytes) h = h
lacking write (Swapped perm origin slot bytes) h = h

there : (c : Cell) → IsInvalid (status_of (Some c)) → ⊥
there (Anon perm) h = h
there (File perm file index) h = h
there (Mapped perm origin frame bytes) h = h
there (Swapped perm origin slot bytes) h = h

module _ (files : List (List ℕ)) where
  anon_within : (c : Cell) → IsAnon (status_of (Some c)) → is_past_end files c ≡ false
  anon_within (Anon perm) h = refl
  anon_within (File perm file index) h = absurd h
  anon_within (Mapped perm origin frame bytes) h = refl
  anon_within (Swapped perm origin slot bytes) h = refl

  mapped_within : (c : Cell) → IsMapped (status_of (Some c)) → is_past_end files c ≡ false
  mapped_within (Anon perm) h = refl
  mapped_within (File perm file index) h = absurd h
  mapped_within (Mapped perm origin frame bytes) h = refl
  mapped_within (Swapped perm origin slot bytes) h = refl

  swapped_within : (c : Cell) → IsSwapped (status_of (Some c)) → is_past_end files c ≡ false
  swapped_within (Anon perm) h = refl
  swapped_within (File perm file index) h = absurd h
  swapped_within (Mapped perm origin frame bytes) h = refl
  swapped_within (Swapped perm origin slot bytes) h = refl

  -- ---- refusals

  module _ (write : Bool) (page : ℕ) (c : Cell) where
    abbrev judged : Bool → Bool → Option Reply
    judged may past = cond may (cond past (Some (reply.Bus (4096 * page))) None) (Some (reply.Denied (4096 * page)))

    denied : Lacks write (status_of (Some c)) → refused_at files write page (Some c) ≡ Some (reply.Denied (4096 * page))
    denied h = ap (λ b. judged b (is_past_end files c)) (lacking write c h)

    past : Allows write (status_of (Some c)) → is_past_end files c ≡ true → refused_at files write page (Some c) ≡ Some (reply.Bus (4096 * page))
    past h e = ap (λ b. judged b (is_past_end files c)) (allowed write c h) ∙ ap (judged true) e

    free : Allows write (status_of (Some c)) → is_past_end files c ≡ false → refused_at files write page (Some c) ≡ None
    free h e = ap (λ b. judged b (is_past_end files c)) (allowed write c h) ∙ ap (judged true) e

  nothing_there : (write : Bool) (page owners : ℕ) (d : Decision) → Rule d (status_of None) write owners false → refused_at files write page None ≡ refusal d page
  nothing_there write page owners Segv r = refl
  nothing_there write page owners Denied r = absurd r
  nothing_there write page owners Bus r = absurd r.0
  nothing_there write page owners ZeroFill r = absurd r.0
  nothing_there write page owners FromFile r = absurd r.0
  nothing_there write page owners SwapIn r = absurd r.0
  nothing_there write page owners Ready r = absurd r.0
  nothing_there write page owners TakeOver r = absurd r.0
  nothing_there write page owners CopyOut r = absurd r.0

  pub same_refusal : (page : ℕ) (at : Option Cell) (write : Bool) (owners : ℕ) (d : Decision) →
      Rule d (status_of at) write owners (lies_past_end files at) → refused_at files write page at ≡ refusal d page
  same_refusal page None write owners d r = nothing_there write page owners d r
  same_refusal page (Some c) write owners Segv r = absurd (there c r)
  same_refusal page (Some c) write owners Denied r = denied write page c r
  same_refusal page (Some c) write owners Bus r = past write page c r.0 r.2
  same_refusal page (Some c) write owners ZeroFill r = free write page c r.0 (anon_within c r.1)
  same_refusal page (Some c) write owners FromFile r = free write page c r.0 r.2
  same_refusal page (Some c) write owners SwapIn r = free write page c r.0 (swapped_within c r.1)
  same_refusal page (Some c) write owners Ready r = free write page c r.0 (mapped_within c r.1)
  same_refusal page (Some c) write owners TakeOver r = free write page c r.0 (mapped_within c r.1)
  same_refusal page (Some c) write owners CopyOut r = free write page c r.0 (mapped_within c r.1)

-- ---- frames

module _ (st : State) (write : Bool) where
  anon_wants : (c : Cell) → IsAnon (status_of (Some c)) → wants_frame st write c ≡ true
  anon_wants (Anon perm) h = refl
  anon_wants (File perm file index) h = refl
  anon_wants (Mapped perm origin frame bytes) h = absurd h
  anon_wants (Swapped perm origin slot bytes) h = refl

  file_wants : (c : Cell) → IsFile (status_of (Some c)) → wants_frame st write c ≡ true
  file_wants (Anon perm) h = refl
  file_wants (File perm file index) h = refl
  file_wants (Mapped perm origin frame bytes) h = absurd h
  file_wants (Swapped perm origin slot bytes) h = refl

  swapped_wants : (c : Cell) → IsSwapped (status_of (Some c)) → wants_frame st write c ≡ true
  swapped_wants (Anon perm) h = refl
  swapped_wants (File perm file index) h = refl
  swapped_wants (Mapped perm origin frame bytes) h = absurd h
  swapped_wants (Swapped perm origin slot bytes) h = refl

  -- a frame is kept by a read and by its only owner
  mapped_wants : (c : Cell) (owners : ℕ) → IsMapped (status_of (Some c)) → ((frame : ℕ) → frame_of c ≡ Some frame → owners ≡ frame_owners st frame) →
      wants_frame st write c ≡ (write && not (nat_eq owners 1))
  mapped_wants (Anon perm) owners h own = absurd h
  mapped_wants (File perm file index) owners h own = absurd h
  mapped_wants (Mapped perm origin frame bytes) owners h own = ap (λ n. write && not (nat_eq n 1)) (sym (own frame refl))
  mapped_wants (Swapped perm origin slot bytes) owners h own = absurd h

shared : (n : ℕ) → 2 ≤ n → not (nat_eq n 1) ≡ true
shared n h = ap not (ne_eqb n 1 (λ e. absurd (omega (arith, h, e))))

some_not_none : {A : Type 0} {x : A} {o : Option A} → o ≡ Some x → o ≡ None → ⊥
some_not_none e f = let same = sym e ∙ f in cc same

pub same_takes : (st : State) (page : ℕ) (c : Cell) (write : Bool) (owners : ℕ) (d : Decision) →
    Rule d (status_of (Some c)) write owners (is_past_end st.files c) → refused_at st.files write page (Some c) ≡ None →
    ((frame : ℕ) → frame_of c ≡ Some frame → owners ≡ frame_owners st frame) → wants_frame st write c ≡ takes_frame d
same_takes st page c write owners Segv r goes own = absurd (there c r)
same_takes st page c write owners Denied r goes own = absurd (some_not_none (denied st.files write page c r) goes)
same_takes st page c write owners Bus r goes own = absurd (some_not_none (past st.files write page c r.0 r.2) goes)
same_takes st page c write owners ZeroFill r goes own = anon_wants st write c r.1
same_takes st page c write owners FromFile r goes own = file_wants st write c r.1
same_takes st page c write owners SwapIn r goes own = swapped_wants st write c r.1
same_takes st page c write owners Ready r goes own = mapped_wants st write c owners r.1 own ∙ ap (λ w. w && not (nat_eq owners 1)) r.2
same_takes st page c write owners TakeOver r goes own =
    mapped_wants st write c owners r.1 own ∙ ap (λ w. w && not (nat_eq owners 1)) r.2 ∙ ap (λ n. not (nat_eq n 1)) r.3
same_takes st page c write owners CopyOut r goes own =
    mapped_wants st write c owners r.1 own ∙ ap (λ w. w && not (nat_eq owners 1)) r.2 ∙ shared owners r.3

-- ---- what a page comes from

anon_zeros : (c : Cell) → IsAnon (status_of (Some c)) → backing_of c ≡ backing.Zero
anon_zeros (Anon perm) h = refl
anon_zeros (File perm file index) h = absurd h
anon_zeros (Mapped perm origin frame bytes) h = absurd h
anon_zeros (Swapped perm origin slot bytes) h = absurd h

file_origin : (c : Cell) → backing_of c ≡ comes_from FromFile c
file_origin (Anon perm) = refl
file_origin (File perm file index) = refl
file_origin (Mapped perm origin frame bytes) = refl
file_origin (Swapped perm origin slot bytes) = refl

pub same_origin : (files : List (List ℕ)) (grants : Grant) (a : Access) (page : ℕ) (c : Cell) (write : Bool) (owners : ℕ) (past_end : Bool) (d : Decision) →
    Rule d (status_of (Some c)) write owners past_end → refusal d page ≡ None → backing_of (touched files grants a page c) ≡ comes_from d c
same_origin files grants a page c write owners past_end Segv r goes = absurd (there c r)
same_origin files grants a page c write owners past_end Denied r goes = cc
same_origin files grants a page c write owners past_end Bus r goes = cc
same_origin files grants a page c write owners past_end ZeroFill r goes = anon_zeros c r.1
same_origin files grants a page c write owners past_end FromFile r goes = file_origin c
same_origin files grants a page c write owners past_end SwapIn r goes = refl
same_origin files grants a page c write owners past_end Ready r goes = refl
same_origin files grants a page c write owners past_end TakeOver r goes = refl
same_origin files grants a page c write owners past_end CopyOut r goes = refl
