-- The owners of frames stay the pages with the frames of their marks.
use Rattle.std.proofs.Common.{◌≡◌, ℕ, Bool, true, false, cond, refl, sym, ap, subst, ◌∙◌}
use mathlib.Core.Bool.{true≢false}
use Rattle.std.specs.Prelude.{Option, Some, None, OnOk, OnErr, nat_eq}
use Rattle.std.specs.declared.result.Result.{Result}
use Rattle.std.specs.declared.result.Result.TheVariants.{Ok, Err}
use Rattle.std.specs.Ordering.{eq_by_cmp}
use Rattle.std.specs.Cmp.{eq_by_cmp_equiv, nat_eq_equiv}
use Rattle.std.specs.BTreeMap.{BTreeMap}
use Rattle.std.specs.BTreeMap as tree
use Rattle.std.specs.BTreeSet.{BTreeSet}
use Rattle.std.specs.BTreeSet as set
use Rattle.std.proofs.lemmas.Bool.{eqb-true, false_from_ne_true}
use Rattle.std.proofs.lemmas.Map.Views.{tells_apart}
use Rattle.pageout.specs.declared.marks.Key.{Key}
use Rattle.pageout.specs.declared.marks.Mark.{Mark}
use Rattle.pageout.specs.declared.marks.Owner.{Owner}
use Rattle.pageout.specs.Owners.{AreOwners}
use Rattle.pageout.specs.Index.{key_cmp, has_frame, owner_cmp}
use Rattle.pageout.proofs.Orders.{key_total, owner_total, owner_exact, same_key}

abbrev pub owner_of : ℕ → Key → Owner
owner_of frame key = record { frame = frame; key = key }

abbrev Pages : Type 0
Pages = BTreeMap Key Mark

abbrev mark_in : Pages → Key → Option Mark
mark_in pages q = tree.get key_cmp pages q

-- what is before a mark is taken is what is after one is put in
pub without : (m0 m1 : Key → Option Mark) (key : Key) (mark : Mark) → m1 key ≡ Some mark → ((q : Key) → m0 q ≡ cond (eq_by_cmp key_cmp key q) None (m1 q)) →
    (m0 key ≡ None) × ((q : Key) → m1 q ≡ cond (eq_by_cmp key_cmp key q) (Some mark) (m0 q))
without m0 m1 key mark was takes = (
  takes key ∙ ap (λ b. cond b None (m1 key)) ((eq_by_cmp_equiv key_total).refl key),
  λ q. go q (eq_by_cmp key_cmp key q) refl,
)
  where
    go : (q : Key) (b : Bool) → eq_by_cmp key_cmp key q ≡ b → m1 q ≡ cond (eq_by_cmp key_cmp key q) (Some mark) (m0 q)
    go q true e = sym (ap m1 (same_key key q e)) ∙ was ∙ sym (ap (λ b. cond b (Some mark) (m0 q)) e)
    go q false e = sym (ap (λ b. cond b (Some mark) (m0 q)) e ∙ takes q ∙ ap (λ b. cond b None (m1 q)) e)

-- ---- a page that has no mark gets one, or the other way round

module _ (m0 m1 : Pages) (key : Key) (mark : Mark) (absent : mark_in m0 key ≡ None) (puts : (q : Key) → mark_in m1 q ≡ cond (eq_by_cmp key_cmp key q) (Some mark) (mark_in m0 q)) where
  here : (o : Owner) → eq_by_cmp owner_cmp (owner_of mark.frame key) o ≡ true → has_frame (mark_in m1 o.key) o.frame ≡ true
  here o e =
      let same = tells_apart owner_exact (owner_of mark.frame key) o e in
      subst (λ (x : Owner). has_frame (mark_in m1 x.key) x.frame ≡ true) same
      (ap (λ x. has_frame x mark.frame) (puts key ∙ ap (λ b. cond b (Some mark) (mark_in m0 key)) ((eq_by_cmp_equiv key_total).refl key)) ∙ nat_eq_equiv.refl mark.frame)

  not_yet : (o : Owner) → eq_by_cmp owner_cmp (owner_of mark.frame key) o ≡ true → has_frame (mark_in m0 o.key) o.frame ≡ false
  not_yet o e =
      let same = tells_apart owner_exact (owner_of mark.frame key) o e in
      ap (λ (x : Owner). has_frame (mark_in m0 x.key) x.frame) (sym same) ∙ ap (λ x. has_frame x mark.frame) absent

  beside : (o : Owner) → eq_by_cmp owner_cmp (owner_of mark.frame key) o ≡ false → has_frame (mark_in m1 o.key) o.frame ≡ has_frame (mark_in m0 o.key) o.frame
  beside o e = go (eq_by_cmp key_cmp key o.key) refl
    where
      go : (b : Bool) → eq_by_cmp key_cmp key o.key ≡ b → has_frame (mark_in m1 o.key) o.frame ≡ has_frame (mark_in m0 o.key) o.frame
      go false f = ap (λ x. has_frame x o.frame) (puts o.key ∙ ap (λ b. cond b (Some mark) (mark_in m0 o.key)) f)
      go true f =
          let same = same_key key o.key f in
          ap (λ x. has_frame x o.frame) (puts o.key ∙ ap (λ b. cond b (Some mark) (mark_in m0 o.key)) f)
          ∙ false_from_ne_true (nat_eq mark.frame o.frame) (λ g.
          let is : owner_of mark.frame key ≡ o = λ i. owner_of (eqb-true mark.frame o.frame g i) (same i) in
          true≢false (sym ((eq_by_cmp_equiv owner_total).refl o) ∙ ap (λ x. eq_by_cmp owner_cmp x o) (sym is) ∙ e))
          ∙ sym (ap (λ k. has_frame (mark_in m0 k) o.frame) (sym same) ∙ ap (λ x. has_frame x o.frame) absent)

  module _ (s t : BTreeSet Owner) where
    pub owner_put : AreOwners m0 s → ((o : Owner) → set.contains owner_cmp t o ≡ cond (eq_by_cmp owner_cmp (owner_of mark.frame key) o) true (set.contains owner_cmp s o)) → AreOwners m1 t
    owner_put were put = record { each = λ o. go o (eq_by_cmp owner_cmp (owner_of mark.frame key) o) refl }
      where
        go : (o : Owner) (b : Bool) → eq_by_cmp owner_cmp (owner_of mark.frame key) o ≡ b → set.contains owner_cmp t o ≡ has_frame (mark_in m1 o.key) o.frame
        go o true e = put o ∙ ap (λ b. cond b true (set.contains owner_cmp s o)) e ∙ sym (here o e)
        go o false e = put o ∙ ap (λ b. cond b true (set.contains owner_cmp s o)) e ∙ were.each o ∙ sym (beside o e)

    pub owner_taken : AreOwners m1 s → ((o : Owner) → set.contains owner_cmp t o ≡ cond (eq_by_cmp owner_cmp (owner_of mark.frame key) o) false (set.contains owner_cmp s o)) → AreOwners m0 t
    owner_taken were put = record { each = λ o. go o (eq_by_cmp owner_cmp (owner_of mark.frame key) o) refl }
      where
        go : (o : Owner) (b : Bool) → eq_by_cmp owner_cmp (owner_of mark.frame key) o ≡ b → set.contains owner_cmp t o ≡ has_frame (mark_in m0 o.key) o.frame
        go o true e = put o ∙ ap (λ b. cond b false (set.contains owner_cmp s o)) e ∙ sym (not_yet o e)
        go o false e = put o ∙ ap (λ b. cond b false (set.contains owner_cmp s o)) e ∙ were.each o ∙ beside o e

-- what was put in is taken out again
pub owner_back : (m0 m1 : Pages) (key : Key) (frame : ℕ) (s t u : BTreeSet Owner) → AreOwners m0 s → mark_in m0 key ≡ None → ((q : Key) → mark_in m1 q ≡ mark_in m0 q) →
    ((o : Owner) → set.contains owner_cmp t o ≡ cond (eq_by_cmp owner_cmp (owner_of frame key) o) true (set.contains owner_cmp s o)) →
    ((o : Owner) → set.contains owner_cmp u o ≡ cond (eq_by_cmp owner_cmp (owner_of frame key) o) false (set.contains owner_cmp t o)) → AreOwners m1 u
owner_back m0 m1 key frame s t u were absent same put taken = record {
  each = λ o. go o (eq_by_cmp owner_cmp (owner_of frame key) o) refl ∙ ap (λ x. has_frame x o.frame) (sym (same o.key));
}
  where
    go : (o : Owner) (b : Bool) → eq_by_cmp owner_cmp (owner_of frame key) o ≡ b → set.contains owner_cmp u o ≡ has_frame (mark_in m0 o.key) o.frame
    go o true e =
        taken o ∙ ap (λ b. cond b false (set.contains owner_cmp t o)) e
        ∙ sym (ap (λ (x : Owner). has_frame (mark_in m0 x.key) x.frame) (sym (tells_apart owner_exact (owner_of frame key) o e)) ∙ ap (λ x. has_frame x frame) absent)
    go o false e = taken o ∙ ap (λ b. cond b false (set.contains owner_cmp t o)) e ∙ put o ∙ ap (λ b. cond b true (set.contains owner_cmp s o)) e ∙ were.each o

-- a page gets another mark with the same frame
pub owner_kept : (m m' : Pages) (key : Key) (mark : Mark) (s : BTreeSet Owner) → AreOwners m s → has_frame (mark_in m key) mark.frame ≡ true →
    ((q : Key) → mark_in m' q ≡ cond (eq_by_cmp key_cmp key q) (Some mark) (mark_in m q)) → AreOwners m' s
owner_kept m m' key mark s were has puts = record { each = λ o. were.each o ∙ go o (eq_by_cmp key_cmp key o.key) refl }
  where
    one : (x : Option Mark) (f : ℕ) → has_frame x mark.frame ≡ true → has_frame x f ≡ nat_eq mark.frame f
    one None f h = absurd (true≢false (sym h))
    one (Some x) f h = ap (λ n. nat_eq n f) (eqb-true x.frame mark.frame h)

    go : (o : Owner) (b : Bool) → eq_by_cmp key_cmp key o.key ≡ b → has_frame (mark_in m o.key) o.frame ≡ has_frame (mark_in m' o.key) o.frame
    go o true e =
        one (mark_in m o.key) o.frame (subst (λ k. has_frame (mark_in m k) mark.frame ≡ true) (same_key key o.key e) has)
        ∙ sym (ap (λ x. has_frame x o.frame) (puts o.key ∙ ap (λ b. cond b (Some mark) (mark_in m o.key)) e))
    go o false e = sym (ap (λ x. has_frame x o.frame) (puts o.key ∙ ap (λ b. cond b (Some mark) (mark_in m o.key)) e))

-- a change that wants memory only where something is missing
pub surely : {A B : Type 0} {P Q : Type 0} (r : Result A B) → OnOk r P → OnErr r Q → (Q → ⊥) → P
surely (Ok x) p q f = p
surely (Err x) p q f = absurd (f q)
