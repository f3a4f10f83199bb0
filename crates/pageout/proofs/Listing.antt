-- The pages that are kept in the order of their last touches are the victims.
use Rattle.std.proofs.Common.{◌≡◌, ℕ, true, List, refl, sym, ap, subst, ◌∙◌, arith}
use mathlib.Core.Bool.{true≢false}
use Rattle.std.specs.Prelude.{Option, Some, None}
use Rattle.std.specs.BTreeSet.{IsOrdered}
use Rattle.std.proofs.lemmas.Bool.{eqb-true, eq-eqb}
use Rattle.std.proofs.lemmas.Map.Views.{btree_set_contains_iff}
use Rattle.corten_base.specs.declared.calls.Entry.{Entry}
use Rattle.corten_base.specs.declared.numbers.Limits.{Limits}
use Rattle.page_map.specs.State.{State, start}
use Rattle.page_map.specs.History.{after}
use Rattle.page_map.proofs.Owners.{same_some}
use Rattle.page_map.proofs.Steps.{not_none}
use Rattle.mm_model.specs.Pages.{frame_at}
use Rattle.pageout.specs.declared.ages.Ages.{Ages}
use Rattle.pageout.specs.declared.marks.Mark.{Mark}
use Rattle.pageout.specs.declared.victims.Victim.{Victim}
use Rattle.pageout.specs.Touches.{IsLastTouch}
use Rattle.pageout.specs.Victims.{victim_cmp, IsVictim, AreVictims}
use Rattle.pageout.specs.Index.{IsSole, has_frame, key_of, last_touch, mark_at, page_of}
use Rattle.pageout.specs.Ages.{AreAgesOf, IsMark, mark_of}
use Rattle.pageout.proofs.OneOwner.{one_owner, only_owner}
use Rattle.pageout.proofs.Orders.{victim_total, victim_exact}

-- a last touch is the only one
one_last : (st : State) (es : List Entry) (s p a b : ℕ) → IsLastTouch st es s p a → IsLastTouch st es s p b → a ≡ b
one_last st es s p a b x y = omega (arith, x.last b y.there, y.last a x.there)

-- a page has the frame of its mark
module _ (st : State) (es : List Entry) (s p f : ℕ) where
  framed : (o : Option Mark) → IsMark st es s p o → has_frame o f ≡ true → frame_at (after st es) s p ≡ Some f
  framed None h e = absurd (true≢false (sym e))
  framed (Some m) h e = h.0 ∙ ap Some (eqb-true m.frame f e)

  has_it : (o : Option Mark) → IsMark st es s p o → frame_at (after st es) s p ≡ Some f → has_frame o f ≡ true
  has_it None h e = absurd (not_none (sym e ∙ h))
  has_it (Some m) h e = eq-eqb m.frame f (same_some (sym h.0 ∙ e))

module _ (limits : Limits) (files : List (List ℕ)) (es : List Entry) (ages : Ages) (are : AreAgesOf limits files es ages) (settled : (s p : ℕ) → mark_of ages s p ≡ mark_at ages.index.marks (key_of s p)) where
  abbrev st : State
  st = start limits files

  is_mark : (s p : ℕ) → IsMark st es s p (mark_at ages.index.marks (key_of s p))
  is_mark s p = subst (IsMark st es s p) (settled s p) (are.marks s p)

  victim_from : (v : Victim) → IsSole (mark_at ages.index.marks) v → IsVictim limits files es v
  victim_from v is = go (mark_at ages.index.marks (page_of v)) refl is.touched (is_mark v.space v.page)
    where
      go : (o : Option Mark) → mark_at ages.index.marks (page_of v) ≡ o → last_touch o ≡ Some v.touched → IsMark st es v.space v.page o → IsVictim limits files es v
      go None e touched h = absurd (not_none (sym touched))
      go (Some m) e touched h =
          let has = has_it st es v.space v.page m.frame (mark_at ages.index.marks (page_of v)) (is_mark v.space v.page) h.0 in
          record {
            frame = m.frame;
            mapped = h.0;
            own = one_owner m.frame (after st es) v.space v.page h.0 (λ t q g.
                let same = is.alone (key_of t q) m.frame has (has_it st es t q m.frame (mark_at ages.index.marks (key_of t q)) (is_mark t q) g) in
                (ap (λ k. k.space) same, ap (λ k. k.page) same));
            last = subst (IsLastTouch st es v.space v.page) (same_some touched) h.1;
          }

  sole_from : (v : Victim) → IsVictim limits files es v → IsSole (mark_at ages.index.marks) v
  sole_from v is = record {
    touched = go (mark_at ages.index.marks (page_of v)) (is_mark v.space v.page);
    alone = λ q f h g.
        let here = framed st es v.space v.page f (mark_at ages.index.marks (page_of v)) (is_mark v.space v.page) h in
        let there = framed st es q.space q.page f (mark_at ages.index.marks q) (is_mark q.space q.page) g in
        let same = only_owner is.frame (after st es) q.space v.space q.page v.page (there ∙ sym here ∙ is.mapped) is.mapped is.own in
        λ i. key_of (same.0 i) (same.1 i);
  }
    where
      go : (o : Option Mark) → IsMark st es v.space v.page o → last_touch o ≡ Some v.touched
      go None h = absurd (not_none (sym is.mapped ∙ h))
      go (Some m) h = ap Some (one_last st es v.space v.page m.touched v.touched h.1 is.last)

  pub are_victims : IsOrdered victim_cmp ages.index.order → AreVictims limits files es ages.index.order.keys
  are_victims ordered = record {
    ordered = ordered;
    exact = λ v.
        let there = btree_set_contains_iff victim_total victim_exact ages.index.order v in
        (λ h. victim_from v ((ages.index.sole.each v).0 (there.1 h)), λ is. there.0 ((ages.index.sole.each v).1 (sole_from v is)));
  }
