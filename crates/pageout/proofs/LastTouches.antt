-- The last touches after one answered call more.
use Rattle.std.proofs.Common.{◌≡◌, ℕ, ◌<◌, Bool, true, false, cond, not, List, [], ◌∷◌, ◌++◌, length, length-append, append_assoc, refl, sym, ap, subst, ◌∙◌, inl, inr, arith}
use mathlib.Core.Bool.{true≢false}
use Rattle.std.specs.Prelude.{Option, Some, None, ◌⊎◌, ◌&&◌, ◌||◌, nat_eq}
use Rattle.std.specs.Cmp.{nat_eq_equiv}
use Rattle.std.proofs.lemmas.Bool.{eqb-true, or_left, or_right}
use Rattle.corten_base.specs.declared.calls.Entry.{Entry}
use Rattle.page_map.specs.State.{State}
use Rattle.page_map.specs.History.{after, entry_step}
use Rattle.page_map.specs.Memory.{is_refusal}
use Rattle.page_map.proofs.Histories.{after_append}
use Rattle.mm_model.specs.Pages.{frame_at}
use Rattle.pageout.specs.declared.marks.Mark.{Mark}
use Rattle.pageout.specs.Touches.{is_reached, is_new_frame, touches, IsTouchedAt, IsLastTouch}
use Rattle.pageout.specs.Work.{refreshed}
use Rattle.pageout.specs.Ages.{IsMark}

-- ---- a list with one element more, in two parts

module _ {A : Type 0} where
  same_head : {x y : A} {xs ys : List A} → x ∷ xs ≡ y ∷ ys → x ≡ y
  same_head e = cc

  same_tail : {x y : A} {xs ys : List A} → x ∷ xs ≡ y ∷ ys → xs ≡ ys
  same_tail e = cc

  not_empty : (x : A) (bs rest : List A) → [] ≡ bs ++ x ∷ rest → ⊥
  not_empty x [] rest e = cc
  not_empty x (b ∷ bs) rest e = cc

  -- the element behind the first part is the last one, or stands before it
  pub parts_of_more : (xs : List A) (e : A) (before : List A) (x : A) (rest : List A) → xs ++ e ∷ [] ≡ before ++ x ∷ rest →
      ((before ≡ xs) × (x ≡ e)) ⊎ ((left : List A) × (xs ≡ before ++ x ∷ left))
  parts_of_more [] e [] x rest h = inl (refl, sym (same_head h))
  parts_of_more [] e (b ∷ bs) x rest h = absurd (not_empty x bs rest (same_tail h))
  parts_of_more (a ∷ ys) e [] x rest h = inr (ys, ap (λ y. y ∷ ys) (same_head h))
  parts_of_more (a ∷ ys) e (b ∷ bs) x rest h = elim (parts_of_more ys e bs x rest (same_tail h)) [
    | inl last ↦ inl (λ i. same_head (sym h) i ∷ last.0 i, last.1)
    | inr found ↦ inr (found.0, λ i. same_head h i ∷ found.1 i)
  ]

-- ---- touches

module _ (st : State) (es : List Entry) (e : Entry) (s p : ℕ) where
  abbrev more : List Entry
  more = es ++ e ∷ []

  pub after_more : after st more ≡ (entry_step (after st es) e).1
  after_more = after_append st es (e ∷ [])

  still_touched : (place : ℕ) → IsTouchedAt st es s p place → IsTouchedAt st more s p place
  still_touched place t = record {
    before = t.before;
    entry = t.entry;
    rest = t.rest ++ e ∷ [];
    parted = ap (λ l. l ++ e ∷ []) t.parted ∙ append_assoc t.before (t.entry ∷ t.rest) (e ∷ []);
    counted = t.counted;
    touched = t.touched;
  }

  now_touched : touches (after st es) e s p ≡ true → IsTouchedAt st more s p (length es)
  now_touched h = record { before = es; entry = e; rest = []; parted = refl; counted = refl; touched = h }

  touched_cases : (place : ℕ) → IsTouchedAt st more s p place → IsTouchedAt st es s p place ⊎ ((place ≡ length es) × (touches (after st es) e s p ≡ true))
  touched_cases place t = elim (parts_of_more es e t.before t.entry t.rest t.parted) [
    | inl last ↦ inr (t.counted ∙ ap length last.0, sym (λ i. touches (after st (last.0 i)) (last.1 i) s p) ∙ t.touched)
    | inr found ↦ inl (record { before = t.before; entry = t.entry; rest = found.0; parted = found.1; counted = t.counted; touched = t.touched })
  ]

  place_below : (place : ℕ) → IsTouchedAt st es s p place → place < length es
  place_below place t = omega (arith, t.counted, ap length t.parted, length-append t.before (t.entry ∷ t.rest))

  pub last_now : touches (after st es) e s p ≡ true → IsLastTouch st more s p (length es)
  last_now h = record {
    there = now_touched h;
    last = λ other t. elim (touched_cases other t) [ inl earlier ↦ omega (arith, place_below other earlier) | inr now ↦ omega (arith, now.0) ];
  }

  pub last_still : (place : ℕ) → touches (after st es) e s p ≡ false → IsLastTouch st es s p place → IsLastTouch st more s p place
  last_still place h l = record {
    there = still_touched place l.there;
    last = λ other t. elim (touched_cases other t) [ inl earlier ↦ l.last other earlier | inr now ↦ absurd (true≢false (sym now.1 ∙ h)) ];
  }

  -- ---- the mark of a page

  abbrev was : Option ℕ
  was = frame_at (after st es) s p

  abbrev now : Option ℕ
  now = frame_at (entry_step (after st es) e).1 s p

  abbrev access : Bool
  access = not (is_refusal e.reply) && is_reached e.call s p

  same_is_old : (f : Option ℕ) → is_new_frame f f ≡ false
  same_is_old None = refl
  same_is_old (Some f) = ap not (nat_eq_equiv.refl f)

  new_by : (a b : Option ℕ) → was ≡ a → now ≡ b → is_new_frame was now ≡ is_new_frame a b
  new_by a b ea eb = λ i. is_new_frame (ea i) (eb i)

  -- a page whose frame stays, and which was not accessed
  quiet : access ≡ false → (f : Option ℕ) → was ≡ f → now ≡ f → touches (after st es) e s p ≡ false
  quiet none f ea eb = (λ i. none i || is_new_frame was now) ∙ new_by f f ea eb ∙ same_is_old f

  framed : (f : Option ℕ) → now ≡ f → frame_at (after st more) s p ≡ f
  framed f h = ap (λ x. frame_at x s p) after_more ∙ h

  pub kept_mark : (o : Option Mark) → access ≡ false → now ≡ was → IsMark st es s p o → IsMark st more s p o
  kept_mark None none stays is = framed None (stays ∙ is)
  kept_mark (Some m) none stays is = (framed (Some m.frame) (stays ∙ is.0), last_still m.touched (quiet none was refl stays) is.1)

  new_mark : (f touched : ℕ) → now ≡ Some f → touched ≡ length es → touches (after st es) e s p ≡ true → IsMark st more s p (Some (record { frame = f; touched = touched }))
  new_mark f touched is same h = (framed (Some f) is, subst (λ n. IsLastTouch st more s p n) (sym same) (last_now h))

  pub next_mark : (is_access : Bool) (o : Option Mark) (f : Option ℕ) → access ≡ is_access → now ≡ f → IsMark st es s p o → IsMark st more s p (refreshed (length es) is_access o f)
  next_mark is_access o None reach is old = framed None is
  next_mark is_access None (Some f) reach is old = new_mark f (length es) is refl (or_right access _ (new_by None (Some f) old is))
  next_mark true (Some m) (Some f) reach is old = new_mark f (length es) is refl (or_left access _ reach)
  next_mark false (Some m) (Some f) reach is old = go (nat_eq m.frame f) refl
    where
      go : (b : Bool) → nat_eq m.frame f ≡ b → IsMark st more s p (Some (record { frame = f; touched = cond (nat_eq m.frame f) m.touched (length es) }))
      go true e =
          let same : m.frame ≡ f = eqb-true m.frame f e in
          (framed (Some f) is, subst (λ n. IsLastTouch st more s p n) (sym (ap (λ b. cond b m.touched (length es)) e)) (last_still m.touched (quiet reach (Some f) (old.0 ∙ ap Some same) is) old.1))
      go false e = new_mark f (cond (nat_eq m.frame f) m.touched (length es)) is (ap (λ b. cond b m.touched (length es)) e)
          (or_right access _ (new_by (Some m.frame) (Some f) old.0 is ∙ ap not e))
