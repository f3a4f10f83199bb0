-- Marks that are looked at again, page by page.
use Rattle.std.proofs.Common.{◌≡◌, ℕ, ◌+◌, ◌<◌, ◌≤◌, Bool, true, false, cond, not, refl, sym, ap, subst, ◌∙◌, inl, inr, arith}
use mathlib.Core.Bool.{true≢false}
use Rattle.std.specs.Prelude.{Option, Some, None, IfSome, ◌&&◌, nat_eq, nat_le, nat_lt}
use Rattle.std.specs.Cmp.{nat_eq_equiv}
use Rattle.std.specs.Ordering.{eq_by_cmp}
use Rattle.std.proofs.lemmas.Bool.{and_parts, and_from, eqb-true, leb-true, ltb-true, le-leb, lt-ltb, false_from_ne_true, cases_lt, and_right}
use Rattle.page_map.specs.State.{State}
use Rattle.page_map.proofs.Owners.{same_some}
use Rattle.mm_model.specs.Pages.{frame_at}
use Rattle.pageout.specs.declared.marks.Mark.{Mark}
use Rattle.pageout.specs.declared.work.Span.{Span}
use Rattle.pageout.specs.Index.{Marks, key_cmp, key_of, mark_at, SetsMark, AreSameMarks}
use Rattle.pageout.specs.Work.{in_span, refreshed}
use Rattle.pageout.specs.Refresh.{kept, is_in, IsNextMark, HaveFrames, IsKeptAt, AreKept, ArePartlyKept, AreRefreshed, Refreshes}
use Rattle.pageout.proofs.Orders.{key_tied}

-- ---- ranges

pub span_parts : (a b q : ℕ) → in_span (record { first = a; end = b }) q ≡ true → (a ≤ q) × (q < b)
span_parts a b q h = let both = and_parts (nat_le a q) (nat_lt q b) h in (leb-true a q both.0, ltb-true q b both.1)

pub in_it : (a b q : ℕ) → a ≤ q → q < b → in_span (record { first = a; end = b }) q ≡ true
in_it a b q low high = and_from (nat_le a q) (nat_lt q b) (le-leb a q low) (lt-ltb q b high)

pub not_in_it : (a b q : ℕ) → (a ≤ q → q < b → ⊥) → in_span (record { first = a; end = b }) q ≡ false
not_in_it a b q h = false_from_ne_true _ (λ is. let at = span_parts a b q is in h at.0 at.1)

-- the pages before `next`, those from there on without the one that is found, and that one
data Where (first next page q : ℕ) : Type 0 where
  earlier : first ≤ q → q < next → Where first next page q
  between : next ≤ q → q < page → Where first next page q
  here : q ≡ page → Where first next page q
  outside : (first ≤ q → q ≤ page → ⊥) → Where first next page q

where_is : (first next page q : ℕ) → first ≤ next → next ≤ page → Where first next page q
where_is first next page q room low = elim (cases_lt q first) [
  | inl below ↦ outside (λ a b. omega (arith, below, a))
  | inr from ↦ elim (cases_lt q next) [
    | inl less ↦ earlier from less
    | inr more ↦ elim (cases_lt q page) [
      | inl less' ↦ between more less'
      | inr more' ↦ elim (cases_lt page q) [
        | inl over ↦ outside (λ a b. omega (arith, over, b))
        | inr under ↦ here (omega (arith, more', under))
      ]
    ]
  ]
]

-- ---- what becomes of one mark

pub kept_none : (f : Option ℕ) → kept None f ≡ None
kept_none None = refl
kept_none (Some f) = refl

module _ (place : ℕ) (is_access : Bool) where
  -- a mark that was looked at is looked at again
  pub refreshed_again : (m : Option Mark) (f : Option ℕ) → refreshed place is_access (refreshed place is_access m f) f ≡ refreshed place is_access m f
  refreshed_again m None = refl
  refreshed_again None (Some f) = ap (λ t. Some (record { frame = f; touched = t })) (both (not is_access && nat_eq f f))
    where
      both : (b : Bool) → cond b place place ≡ place
      both true = refl
      both false = refl
  refreshed_again (Some m) (Some f) =
      ap (λ t. Some (record { frame = f; touched = t }))
      (ap (λ b. cond (not is_access && b) (cond (not is_access && nat_eq m.frame f) m.touched place) place) (nat_eq_equiv.refl f) ∙ go (not is_access) (nat_eq m.frame f) m.touched)
    where
      go : (a b : Bool) (t : ℕ) → cond (a && true) (cond (a && b) t place) place ≡ cond (a && b) t place
      go true b t = refl
      go false b t = refl

  -- a mark that is not right is taken before it is looked at
  pub refreshed_kept : (m : Option Mark) (f : Option ℕ) → refreshed place is_access (kept m f) f ≡ refreshed place is_access m f
  refreshed_kept m None = refl
  refreshed_kept None (Some f) = refl
  refreshed_kept (Some m) (Some f) = go (nat_eq m.frame f) refl
    where
      never : (a : Bool) → cond (a && false) m.touched place ≡ place
      never true = refl
      never false = refl

      go : (b : Bool) → nat_eq m.frame f ≡ b → refreshed place is_access (cond (nat_eq m.frame f) (Some m) None) (Some f) ≡ refreshed place is_access (Some m) (Some f)
      go true e = ap (λ b. refreshed place is_access (cond b (Some m) None) (Some f)) e
      go false e =
          ap (λ b. refreshed place is_access (cond b (Some m) None) (Some f)) e
          ∙ sym (ap (λ t. Some (record { frame = f; touched = t })) (ap (λ b. cond (not is_access && b) m.touched place) e ∙ never (not is_access)))

-- ---- a span

key_at : (space page s q : ℕ) → eq_by_cmp key_cmp (key_of space page) (key_of s q) ≡ (nat_eq space s && nat_eq page q)
key_at space page s q = key_tied (key_of space page) (key_of s q)

symmetric : (a b : ℕ) → nat_eq a b ≡ nat_eq b a
symmetric a b = nat_eq_equiv.symm a b

-- one mark is set
pub set_at : (old new : Marks) (space page : ℕ) (mark : Option Mark) → SetsMark old new (key_of space page) mark → (s q : ℕ) →
    mark_at new (key_of s q) ≡ cond (nat_eq s space && nat_eq q page) mark (mark_at old (key_of s q))
set_at old new space page mark sets s q =
    sets.each (key_of s q)
    ∙ ap (λ b. cond b mark (mark_at old (key_of s q))) (key_at space page s q ∙ (λ i. symmetric space s i && symmetric page q i))

here_alone : (s space q page : ℕ) → (nat_eq s space && nat_eq q page) ≡ true → (s ≡ space) × (q ≡ page)
here_alone s space q page h = let both = and_parts (nat_eq s space) (nat_eq q page) h in (eqb-true s space both.0, eqb-true q page both.1)

-- a page without a frame has no mark that says one
no_mark_of : (m : Option Mark) → IfSome m (λ mark. ◌≡◌ {A = Option ℕ} None (Some mark.frame)) → m ≡ None
no_mark_of None h = refl
no_mark_of (Some m) h = absurd (not h)
  where
    not : ◌≡◌ {A = Option ℕ} None (Some m.frame) → ⊥
    not e = cc

pub no_mark : (st : State) (space : ℕ) (span : Span) (marks : Marks) → HaveFrames st space span marks → (q : ℕ) → span.first ≤ q → q < span.end → frame_at st space q ≡ None → mark_at marks (key_of space q) ≡ None
no_mark st space span marks have q low high none =
    no_mark_of (mark_at marks (key_of space q)) (subst (λ f. IfSome (mark_at marks (key_of space q)) (λ mark. f ≡ Some mark.frame)) none (have.each q (in_it span.first span.end q low high)))

module _ {X : Type 0} (f : X → ℕ → ℕ → X) (old now new : ℕ → ℕ → X) (space first next page : ℕ) (room : first ≤ next) (low : next ≤ page) where
  -- one page more of a span is changed, where those between stay as they are
  pub one_more : ((s q : ℕ) → now s q ≡ cond (is_in space (record { first = first; end = next }) s q) (f (old s q) s q) (old s q))
      → ((q : ℕ) → next ≤ q → q < page → f (old space q) space q ≡ old space q)
      → ((s q : ℕ) → new s q ≡ cond (nat_eq s space && nat_eq q page) (f (now s q) s q) (now s q))
      → (s q : ℕ) → new s q ≡ cond (is_in space (record { first = first; end = page + 1 }) s q) (f (old s q) s q) (old s q)
  one_more was quiet sets s q = go (nat_eq s space) refl
    where
      done : ℕ → Bool
      done b = in_span (record { first = first; end = b }) q

      now_is : (a b : Bool) → nat_eq s space ≡ a → done next ≡ b → now s q ≡ cond (a && b) (f (old s q) s q) (old s q)
      now_is a b ea eb = was s q ∙ (λ i. cond (ea i && eb i) (f (old s q) s q) (old s q))

      new_is : (a b : Bool) → nat_eq s space ≡ a → nat_eq q page ≡ b → new s q ≡ cond (a && b) (f (now s q) s q) (now s q)
      new_is a b ea eb = sets s q ∙ (λ i. cond (ea i && eb i) (f (now s q) s q) (now s q))

      apart : (q ≡ page → ⊥) → nat_eq q page ≡ false
      apart h = false_from_ne_true _ (λ e. h (eqb-true q page e))

      at_q : (w : Where first next page q) → nat_eq s space ≡ true → new s q ≡ cond (nat_eq s space && done (page + 1)) (f (old s q) s q) (old s q)
      at_q (earlier from less) e =
          new_is true false e (apart (λ same. omega (arith, same, less, low))) ∙ now_is true true e (in_it first next q from less)
          ∙ sym (λ i. cond (e i && in_it first (page + 1) q from (omega (arith, less, low)) i) (f (old s q) s q) (old s q))
      at_q (between more less) e =
          new_is true false e (apart (λ same. omega (arith, same, less))) ∙ now_is true false e (not_in_it first next q (λ a b. omega (arith, b, more)))
          ∙ sym (subst (λ t. f (old t q) t q ≡ old t q) (sym (eqb-true s space e)) (quiet q more less))
          ∙ sym (λ i. cond (e i && in_it first (page + 1) q (omega (arith, room, more)) (omega (arith, less)) i) (f (old s q) s q) (old s q))
      at_q (here same) e =
          new_is true true e (ap (λ n. nat_eq n page) same ∙ nat_eq_equiv.refl page) ∙ ap (λ x. f x s q) (now_is true false e (not_in_it first next q (λ a b. omega (arith, b, same, low))))
          ∙ sym (λ i. cond (e i && in_it first (page + 1) q (omega (arith, room, low, same)) (omega (arith, same)) i) (f (old s q) s q) (old s q))
      at_q (outside out) e =
          new_is true false e (apart (λ same. out (omega (arith, same, room, low)) (omega (arith, same))))
          ∙ now_is true false e (not_in_it first next q (λ a b. out a (omega (arith, b, low))))
          ∙ sym (λ i. cond (e i && not_in_it first (page + 1) q (λ a b. out a (omega (arith, b))) i) (f (old s q) s q) (old s q))

      go : (b : Bool) → nat_eq s space ≡ b → new s q ≡ cond (nat_eq s space && done (page + 1)) (f (old s q) s q) (old s q)
      go true e = at_q (where_is first next page q room low) e
      go false e =
          sets s q ∙ (λ i. cond (e i && nat_eq q page) (f (now s q) s q) (now s q)) ∙ was s q ∙ (λ i. cond (e i && done next) (f (old s q) s q) (old s q))
          ∙ sym (λ i. cond (e i && done (page + 1)) (f (old s q) s q) (old s q))

-- all pages of a span are changed, where those from `next` on stay as they are
pub all_done : {X : Type 0} (f : X → ℕ → ℕ → X) (old now : ℕ → ℕ → X) (space first next end : ℕ) → first ≤ next → (first < next → next ≤ end) →
    ((s q : ℕ) → now s q ≡ cond (is_in space (record { first = first; end = next }) s q) (f (old s q) s q) (old s q))
    → ((q : ℕ) → next ≤ q → q < end → f (old space q) space q ≡ old space q)
    → (s q : ℕ) → now s q ≡ cond (is_in space (record { first = first; end = end }) s q) (f (old s q) s q) (old s q)
all_done f old now space first next end room high was quiet s q = go (nat_eq s space) refl
  where
    done : ℕ → Bool
    done b = in_span (record { first = first; end = b }) q

    go : (b : Bool) → nat_eq s space ≡ b → now s q ≡ cond (nat_eq s space && done end) (f (old s q) s q) (old s q)
    go false e = was s q ∙ (λ i. cond (e i && done next) (f (old s q) s q) (old s q)) ∙ sym (λ i. cond (e i && done end) (f (old s q) s q) (old s q))
    go true e = elim (cases_lt q first) [
      | inl below ↦
          was s q ∙ (λ i. cond (e i && not_in_it first next q (λ a b. omega (arith, a, below)) i) (f (old s q) s q) (old s q))
          ∙ sym (λ i. cond (e i && not_in_it first end q (λ a b. omega (arith, a, below)) i) (f (old s q) s q) (old s q))
      | inr from ↦ elim (cases_lt q next) [
        | inl less ↦
            was s q ∙ (λ i. cond (e i && in_it first next q from less i) (f (old s q) s q) (old s q))
            ∙ sym (λ i. cond (e i && in_it first end q from (omega (arith, less, high (omega (arith, from, less)))) i) (f (old s q) s q) (old s q))
        | inr more ↦
            was s q ∙ (λ i. cond (e i && not_in_it first next q (λ a b. omega (arith, b, more)) i) (f (old s q) s q) (old s q))
            ∙ elim (cases_lt q end) [
              | inl inside ↦
                  sym (subst (λ t. f (old t q) t q ≡ old t q) (sym (eqb-true s space e)) (quiet q more inside))
                  ∙ sym (λ i. cond (e i && in_it first end q from inside i) (f (old s q) s q) (old s q))
              | inr past ↦ sym (λ i. cond (e i && not_in_it first end q (λ a b. omega (arith, b, past)) i) (f (old s q) s q) (old s q))
            ]
      ]
    ]

-- ---- marks

abbrev at_key : Marks → ℕ → ℕ → Option Mark
at_key marks s q = mark_at marks (key_of s q)

module _ (st : State) (space first next page : ℕ) (room : first ≤ next) (old now new : Marks) where
  pub next_kept : (end frame : ℕ) → AreKept st space (record { first = first; end = next }) old now → IsNextMark now space next end page frame → IsKeptAt st space page now new →
      AreKept st space (record { first = first; end = page + 1 }) old new
  next_kept end frame was found sets = record {
    each = one_more (λ m s q. kept m (frame_at st s q)) (at_key old) (at_key now) (at_key new) space first next page room found.from_there was.each
        (λ q more less. ap (λ m. kept m (frame_at st space q)) (still q more less) ∙ kept_none (frame_at st space q) ∙ sym (still q more less)) sets.each;
  }
    where
      still : (q : ℕ) → next ≤ q → q < page → at_key old space q ≡ None
      still q more less =
          sym (was.each space q ∙ ap (λ b. cond b (kept (at_key old space q) (frame_at st space q)) (at_key old space q))
          ((λ i. nat_eq_equiv.refl space i && not_in_it first next q (λ a b. omega (arith, b, more)) i)))
          ∙ found.least q more less

  pub next_refreshed : (place : ℕ) (is_access : Bool) (span : Span) → span.first ≡ first → page < span.end → HaveFrames st space span old →
      AreRefreshed st place is_access space (record { first = first; end = next }) old now → next ≤ page →
      ((q : ℕ) → next ≤ q → q < page → frame_at st space q ≡ None) →
      SetsMark now new (key_of space page) (refreshed place is_access (at_key now space page) (frame_at st space page)) →
      AreRefreshed st place is_access space (record { first = first; end = page + 1 }) old new
  next_refreshed place is_access span same high have was low unmapped sets = record {
    each = one_more (λ m s q. refreshed place is_access m (frame_at st s q)) (at_key old) (at_key now) (at_key new) space first next page room low was.each quiet
        (λ s q. set_at now new space page _ sets s q ∙ go s q (nat_eq s space && nat_eq q page) refl);
  }
    where
      quiet : (q : ℕ) → next ≤ q → q < page → refreshed place is_access (at_key old space q) (frame_at st space q) ≡ at_key old space q
      quiet q more less = ap (refreshed place is_access (at_key old space q)) (unmapped q more less) ∙ sym (no_mark st space span old have q (omega (arith, same, room, more)) (omega (arith, less, high)) (unmapped q more less))

      go : (s q : ℕ) (b : Bool) → (nat_eq s space && nat_eq q page) ≡ b →
          cond (nat_eq s space && nat_eq q page) (refreshed place is_access (at_key now space page) (frame_at st space page)) (at_key now s q)
          ≡ cond (nat_eq s space && nat_eq q page) (refreshed place is_access (at_key now s q) (frame_at st s q)) (at_key now s q)
      go s q false e = ap (λ b. cond b (refreshed place is_access (at_key now space page) (frame_at st space page)) (at_key now s q)) e
          ∙ sym (ap (λ b. cond b (refreshed place is_access (at_key now s q) (frame_at st s q)) (at_key now s q)) e)
      go s q true e =
          let at = here_alone s space q page e in
          λ i. cond (nat_eq s space && nat_eq q page) (refreshed place is_access (at_key now (sym at.0 i) (sym at.1 i)) (frame_at st (sym at.0 i) (sym at.1 i))) (at_key now s q)

  -- the page that is found has the mark that it had at first, whose frame it has
  pub same_frame : (place frame : ℕ) (is_access : Bool) (span : Span) → span.first ≡ first → page < span.end → HaveFrames st space span old →
      AreRefreshed st place is_access space (record { first = first; end = next }) old now → next ≤ page → frame_at st space page ≡ Some frame →
      IfSome (at_key now space page) (λ mark. mark.frame ≡ frame)
  same_frame place frame is_access span same high have was low there =
      subst (λ m. IfSome m (λ mark. mark.frame ≡ frame)) (sym now_is)
      (go (at_key old space page) (have.each page (in_it span.first span.end page (omega (arith, same, room, low)) high)))
    where
      now_is : at_key now space page ≡ at_key old space page
      now_is =
          was.each space page ∙ ap (λ b. cond b (refreshed place is_access (at_key old space page) (frame_at st space page)) (at_key old space page))
          (λ i. nat_eq_equiv.refl space i && not_in_it first next page (λ a b. omega (arith, b, low)) i)

      go : (m : Option Mark) → IfSome m (λ mark. frame_at st space page ≡ Some mark.frame) → IfSome m (λ mark. mark.frame ≡ frame)
      go None h = tt
      go (Some m) h = sym (same_some (sym there ∙ h))

-- ---- the beginning and the end of a loop

none_in_it : (space a s q : ℕ) → is_in space (record { first = a; end = a }) s q ≡ false
none_in_it space a s q = and_right (nat_eq s space) _ (not_in_it a a q (λ x y. omega (arith, x, y)))

pub start_kept : (st : State) (space a : ℕ) (marks : Marks) → AreKept st space (record { first = a; end = a }) marks marks
start_kept st space a marks = record { each = λ s q. sym (ap (λ b. cond b (kept (at_key marks s q) (frame_at st s q)) (at_key marks s q)) (none_in_it space a s q)) }

pub start_refreshed : (st : State) (place : ℕ) (is_access : Bool) (space a : ℕ) (marks : Marks) → AreRefreshed st place is_access space (record { first = a; end = a }) marks marks
start_refreshed st place is_access space a marks =
    record { each = λ s q. sym (ap (λ b. cond b (refreshed place is_access (at_key marks s q) (frame_at st s q)) (at_key marks s q)) (none_in_it space a s q)) }

module _ (st : State) (space next : ℕ) (span : Span) (low : span.first ≤ next) (high : span.first < next → next ≤ span.end) (old now : Marks) where
  pub end_kept : AreKept st space (record { first = span.first; end = next }) old now → ((q : ℕ) → next ≤ q → q < span.end → at_key now space q ≡ None) → AreKept st space span old now
  end_kept was none = record {
    each = all_done (λ m s q. kept m (frame_at st s q)) (at_key old) (at_key now) space span.first next span.end low high was.each
        (λ q more less. ap (λ m. kept m (frame_at st space q)) (still q more less) ∙ kept_none (frame_at st space q) ∙ sym (still q more less));
  }
    where
      still : (q : ℕ) → next ≤ q → q < span.end → at_key old space q ≡ None
      still q more less =
          sym (was.each space q ∙ ap (λ b. cond b (kept (at_key old space q) (frame_at st space q)) (at_key old space q))
          (λ i. nat_eq_equiv.refl space i && not_in_it span.first next q (λ a b. omega (arith, b, more)) i))
          ∙ none q more less

  -- a page that is not of the span is not of its part
  not_of_part : (s q : ℕ) → is_in space span s q ≡ false → is_in space (record { first = span.first; end = next }) s q ≡ false
  not_of_part s q out = false_from_ne_true _ (λ is.
      let both = and_parts (nat_eq s space) _ is in
      let at = span_parts span.first next q both.1 in
      true≢false (sym (and_from (nat_eq s space) _ both.0 (in_it span.first span.end q at.0 (omega (arith, at.1, high (omega (arith, at.0, at.1)))))) ∙ out))

  pub part_kept : AreKept st space (record { first = span.first; end = next }) old now → (new : Marks) → AreSameMarks now new → ArePartlyKept st space span old new
  part_kept was new same = record {
    each = λ place is_access. record {
      inside = λ s q. ap (λ m. refreshed place is_access m (frame_at st s q)) (same.each (key_of s q) ∙ was.each s q) ∙ go place is_access s q (is_in space (record { first = span.first; end = next }) s q);
      outside = λ s q out. same.each (key_of s q) ∙ was.each s q ∙ ap (λ b. cond b (kept (at_key old s q) (frame_at st s q)) (at_key old s q)) (not_of_part s q out);
    };
  }
    where
      go : (place : ℕ) (is_access : Bool) (s q : ℕ) (b : Bool) → refreshed place is_access (cond b (kept (at_key old s q) (frame_at st s q)) (at_key old s q)) (frame_at st s q) ≡ refreshed place is_access (at_key old s q) (frame_at st s q)
      go place is_access s q true = refreshed_kept place is_access (at_key old s q) (frame_at st s q)
      go place is_access s q false = refl

  module _ (place : ℕ) (is_access : Bool) (was : AreRefreshed st place is_access space (record { first = span.first; end = next }) old now) where
    pub end_refreshed : HaveFrames st space span old → ((q : ℕ) → next ≤ q → q < span.end → frame_at st space q ≡ None) → AreRefreshed st place is_access space span old now
    end_refreshed have none = record {
      each = all_done (λ m s q. refreshed place is_access m (frame_at st s q)) (at_key old) (at_key now) space span.first next span.end low high was.each
          (λ q more less. ap (refreshed place is_access (at_key old space q)) (none q more less) ∙ sym (no_mark st space span old have q (omega (arith, low, more)) less (none q more less)));
    }

    pub part_refreshes : (new : Marks) → AreSameMarks now new → Refreshes st place is_access space span old new
    part_refreshes new same = record {
      inside = λ s q. ap (λ m. refreshed place is_access m (frame_at st s q)) (same.each (key_of s q) ∙ was.each s q) ∙ go s q (is_in space (record { first = span.first; end = next }) s q);
      outside = λ s q out. same.each (key_of s q) ∙ was.each s q ∙ ap (λ b. cond b (refreshed place is_access (at_key old s q) (frame_at st s q)) (at_key old s q)) (not_of_part s q out);
    }
      where
        go : (s q : ℕ) (b : Bool) → refreshed place is_access (cond b (refreshed place is_access (at_key old s q) (frame_at st s q)) (at_key old s q)) (frame_at st s q) ≡ refreshed place is_access (at_key old s q) (frame_at st s q)
        go s q true = refreshed_again place is_access (at_key old s q) (frame_at st s q)
        go s q false = refl
