-- Pages that have frames that no other page has, where the mark of one page changes.
use Rattle.std.proofs.Common.{◌≡◌, ◌≢◌, ℕ, Bool, true, false, cond, refl, sym, ap, subst, ◌∙◌}
use mathlib.Core.Bool.{true≢false}
use Rattle.std.specs.Prelude.{◌↔◌, Option, Some, None, IfSome, IfNone, MatchOption, nat_eq}
use Rattle.std.specs.Ordering.{eq_by_cmp}
use Rattle.std.specs.Cmp.{eq_by_cmp_equiv, nat_eq_equiv}
use Rattle.std.specs.BTreeSet.{BTreeSet}
use Rattle.std.proofs.lemmas.Bool.{eqb-true, false_from_ne_true}
use Rattle.std.proofs.lemmas.Map.Views.{tells_apart}
use Rattle.pageout.specs.declared.marks.Key.{Key}
use Rattle.pageout.specs.declared.marks.Mark.{Mark}
use Rattle.pageout.specs.declared.victims.Victim.{Victim}
use Rattle.pageout.specs.Victims.{victim_cmp}
use Rattle.pageout.specs.Index.{Marks, AreSole, IsLeftBy, IsSole, IsOnlyOther, AreSameMarks, AreSameVictims, SetsVictim, IsMovedOn, key_cmp, has_frame, is_victim, last_touch, mark_at, page_of, victim_of}
use Rattle.pageout.proofs.Orders.{key_total, victim_total, victim_exact, same_key}
use Rattle.pageout.proofs.Owned.{without}

abbrev pub Look : Type 0
Look = Key → Option Mark

some_is : {A : Type 0} {x y : A} → Some x ≡ Some y → x ≡ y
some_is e = cc

some_not_none : {A : Type 0} {x : A} → ◌≡◌ {A = Option A} (Some x) None → ⊥
some_not_none e = cc

-- a page with one last touch is one victim
pub one_victim : (m : Look) (k : Key) (t : ℕ) (v : Victim) → last_touch (m k) ≡ Some t → last_touch (m (page_of v)) ≡ Some v.touched → k ≡ page_of v → victim_of k t ≡ v
one_victim m k t v h g e =
    let same : t ≡ v.touched = some_is (sym h ∙ ap (λ q. last_touch (m q)) e ∙ g) in
    λ i. victim_of (e i) (same i)

pub differs : (v w : Victim) → eq_by_cmp victim_cmp v w ≡ false → v ≡ w → ⊥
differs v w e same = true≢false (sym ((eq_by_cmp_equiv victim_total).refl w) ∙ ap (λ x. eq_by_cmp victim_cmp x w) (sym same) ∙ e)

pub one_frame : (o : Option Mark) (a b : ℕ) → has_frame o a ≡ true → has_frame o b ≡ true → a ≡ b
one_frame None a b h g = absurd (true≢false (sym h))
one_frame (Some m) a b h g = sym (eqb-true m.frame a h) ∙ eqb-true m.frame b g

false_true : {A : Type 0} (b : Bool) → b ≡ false → b ≡ true → A
false_true b e h = absurd (true≢false (sym h ∙ e))

abbrev pub IsPut : BTreeSet Victim → BTreeSet Victim → Victim → Bool → Type 0
IsPut old new w is = (v : Victim) → is_victim new v ≡ cond (eq_by_cmp victim_cmp w v) is (is_victim old v)

-- one page has a mark in the second and none in the first
module _ (m0 m1 : Look) (key : Key) (mark : Mark) (absent : m0 key ≡ None) (set : (q : Key) → m1 q ≡ cond (eq_by_cmp key_cmp key q) (Some mark) (m0 q)) where
  here : m1 key ≡ Some mark
  here = set key ∙ ap (λ b. cond b (Some mark) (m0 key)) ((eq_by_cmp_equiv key_total).refl key)

  elsewhere : (q : Key) → (q ≡ key → ⊥) → m1 q ≡ m0 q
  elsewhere q apart = set q ∙ ap (λ b. cond b (Some mark) (m0 q)) (false_from_ne_true _ (λ e. apart (sym (same_key key q e))))

  not_here : (q : Key) (f : ℕ) → has_frame (m0 q) f ≡ true → q ≡ key → ⊥
  not_here q f h e = true≢false (sym h ∙ ap (λ k. has_frame (m0 k) f) e ∙ ap (λ o. has_frame o f) absent)

  has_more : (q : Key) (f : ℕ) → has_frame (m0 q) f ≡ true → has_frame (m1 q) f ≡ true
  has_more q f h = ap (λ o. has_frame o f) (elsewhere q (not_here q f h)) ∙ h

  has_less : (q : Key) (f : ℕ) → (q ≡ key → ⊥) → has_frame (m1 q) f ≡ true → has_frame (m0 q) f ≡ true
  has_less q f apart h = sym (ap (λ o. has_frame o f) (elsewhere q apart)) ∙ h

  has_key : has_frame (m1 key) mark.frame ≡ true
  has_key = ap (λ o. has_frame o mark.frame) here ∙ nat_eq_equiv.refl mark.frame

  key_has : (f : ℕ) → has_frame (m1 key) f ≡ true → mark.frame ≡ f
  key_has f h = one_frame (m1 key) mark.frame f has_key h

  -- the page or another
  either : (q : Key) → (b : Bool) → eq_by_cmp key_cmp key q ≡ b → {A : Type 0} → (q ≡ key → A) → ((q ≡ key → ⊥) → A) → A
  either q true e {A} f g = f (sym (same_key key q e))
  either q false e {A} f g = g (λ same. true≢false (sym ((eq_by_cmp_equiv key_total).refl q) ∙ ap (λ k. eq_by_cmp key_cmp k q) same ∙ e))

  sole_before : (v : Victim) → IsSole m1 v → (page_of v ≡ key → ⊥) → IsSole m0 v
  sole_before v is apart = record {
    touched = ap last_touch (sym (elsewhere (page_of v) apart)) ∙ is.touched;
    alone = λ q f h g. is.alone q f (has_more (page_of v) f h) (has_more q f g);
  }

  sole_apart : (v : Victim) → IsSole m1 v → (page_of v ≡ key → ⊥) → has_frame (m0 (page_of v)) mark.frame ≡ true → ⊥
  sole_apart v is apart h = apart (sym (is.alone key mark.frame (has_more (page_of v) mark.frame h) has_key))

  marked : (v : Victim) → last_touch (m0 (page_of v)) ≡ Some v.touched → page_of v ≡ key → ⊥
  marked v is e = some_not_none (sym is ∙ ap (λ k. last_touch (m0 k)) e ∙ ap last_touch absent)

  sole_after : (v : Victim) → IsSole m0 v → (has_frame (m0 (page_of v)) mark.frame ≡ true → ⊥) → IsSole m1 v
  sole_after v is other = record {
    touched = ap last_touch (elsewhere (page_of v) apart) ∙ is.touched;
    alone = λ q f h g. either q (eq_by_cmp key_cmp key q) refl
        (λ e. absurd (other (subst (λ n. has_frame (m0 (page_of v)) n ≡ true) (sym (key_has f (ap (λ k. has_frame (m1 k) f) (sym e) ∙ g))) (has_less (page_of v) f apart h))))
        (λ away. is.alone q f (has_less (page_of v) f apart h) (has_less q f away g));
  }
    where
      apart : page_of v ≡ key → ⊥
      apart = marked v is.touched

  this_victim : (v : Victim) → last_touch (m1 (page_of v)) ≡ Some v.touched → page_of v ≡ key → victim_of key mark.touched ≡ v
  this_victim v h e = one_victim m1 key mark.touched v (ap last_touch here) h (sym e)

  sole_here : ((q : Key) → has_frame (m0 q) mark.frame ≡ false) → IsSole m1 (victim_of key mark.touched)
  sole_here none = record {
    touched = ap last_touch here;
    alone = λ q f h g. either q (eq_by_cmp key_cmp key q) refl (λ e. e)
        (λ away. false_true _ (none q) (has_less q mark.frame away (subst (λ n. has_frame (m1 q) n ≡ true) (sym (key_has f h)) g)));
  }

  module _ (old new : Victim → Bool) where
    abbrev Puts : Victim → Bool → Type 0
    Puts w is = (v : Victim) → new v ≡ cond (eq_by_cmp victim_cmp w v) is (old v)

    put_there : (w v : Victim) (is : Bool) → Puts w is → eq_by_cmp victim_cmp w v ≡ true → new v ≡ is
    put_there w v is put e = put v ∙ ap (λ b. cond b is (old v)) e

    put_beside : (w v : Victim) (is : Bool) → Puts w is → eq_by_cmp victim_cmp w v ≡ false → new v ≡ old v
    put_beside w v is put e = put v ∙ ap (λ b. cond b is (old v)) e

    -- the page gets a mark, with a frame that no page has
    pub alone_entered : ((v : Victim) → (old v ≡ true) ↔ IsSole m0 v) → ((q : Key) → has_frame (m0 q) mark.frame ≡ false) → Puts (victim_of key mark.touched) true → (v : Victim) → (new v ≡ true) ↔ IsSole m1 v
    alone_entered was none put v = go (eq_by_cmp victim_cmp (victim_of key mark.touched) v) refl
      where
        go : (b : Bool) → eq_by_cmp victim_cmp (victim_of key mark.touched) v ≡ b → (new v ≡ true) ↔ IsSole m1 v
        go true e = (λ _. subst (IsSole m1) (tells_apart victim_exact _ v e) (sole_here none), λ _. put_there _ v true put e)
        go false e = (
          λ h. sole_after v ((was v).0 (sym (put_beside _ v true put e) ∙ h)) (false_true _ (none (page_of v))),
          λ is. put_beside _ v true put e ∙ (was v).1 (sole_before v is (λ at. differs _ v e (this_victim v is.touched at))),
        )

    -- the page gets a mark, with a frame that another page has
    pub beside_entered : (other : Key) (touched : ℕ) → ((v : Victim) → (old v ≡ true) ↔ IsSole m0 v) → has_frame (m0 other) mark.frame ≡ true → last_touch (m1 other) ≡ Some touched → Puts (victim_of other touched) false →
        (v : Victim) → (new v ≡ true) ↔ IsSole m1 v
    beside_entered other touched was has at put v = go (eq_by_cmp victim_cmp (victim_of other touched) v) refl
      where
        at_first : last_touch (m0 other) ≡ Some touched
        at_first = ap last_touch (sym (elsewhere other (not_here other mark.frame has))) ∙ at

        go : (b : Bool) → eq_by_cmp victim_cmp (victim_of other touched) v ≡ b → (new v ≡ true) ↔ IsSole m1 v
        go true e =
            let same : other ≡ page_of v = ap page_of (tells_apart victim_exact (victim_of other touched) v e) in
            let there : has_frame (m0 (page_of v)) mark.frame ≡ true = subst (λ k. has_frame (m0 k) mark.frame ≡ true) same has in
            (λ h. false_true _ (put_there _ v false put e) h, λ is. absurd (sole_apart v is (not_here (page_of v) mark.frame there) there))
        go false e = (
          λ h.
              let is = (was v).0 (sym (put_beside _ v false put e) ∙ h) in
              sole_after v is (λ there. differs _ v e (one_victim m0 other touched v at_first is.touched (is.alone other mark.frame there has))),
          λ is. put_beside _ v false put e ∙ (was v).1 (sole_before v is (λ here_too.
              not_here other mark.frame has (is.alone other mark.frame (subst (λ k. has_frame (m1 k) mark.frame ≡ true) (sym here_too) has_key) (has_more other mark.frame has) ∙ here_too))),
        )

    -- the page loses its mark, and no page is left alone with the frame
    pub none_left : ((v : Victim) → (old v ≡ true) ↔ IsSole m1 v) → ((q : Key) → IsOnlyOther m1 mark.frame key q → ⊥) → Puts (victim_of key mark.touched) false → (v : Victim) → (new v ≡ true) ↔ IsSole m0 v
    none_left was nobody put v = go (eq_by_cmp victim_cmp (victim_of key mark.touched) v) refl
      where
        go : (b : Bool) → eq_by_cmp victim_cmp (victim_of key mark.touched) v ≡ b → (new v ≡ true) ↔ IsSole m0 v
        go true e = (λ h. false_true _ (put_there _ v false put e) h, λ is. absurd (marked v is.touched (sym (ap page_of (tells_apart victim_exact (victim_of key mark.touched) v e)))))
        go false e = (
          λ h. let is = (was v).0 (sym (put_beside _ v false put e) ∙ h) in sole_before v is (λ at. differs _ v e (this_victim v is.touched at)),
          λ is. put_beside _ v false put e ∙ (was v).1 (sole_after v is (λ has. nobody (page_of v) (record {
            has = has_more (page_of v) mark.frame has;
            apart = marked v is.touched;
            only = λ q g apart. is.alone q mark.frame has (has_less q mark.frame apart g);
          }))),
        )

  -- the page loses its mark, and one page is left alone with the frame
  module _ (old mid new : Victim → Bool) (left : Victim) (only : IsOnlyOther m1 mark.frame key (page_of left)) (at : last_touch (m1 (page_of left)) ≡ Some left.touched) where
    sole_left : IsSole m0 left
    sole_left =
        let there = has_less (page_of left) mark.frame only.apart only.has in
        record {
          touched = ap last_touch (sym (elsewhere (page_of left) only.apart)) ∙ at;
          alone = λ q f h g.
              let has = subst (λ n. has_frame (m0 q) n ≡ true) (one_frame (m0 (page_of left)) f mark.frame h there) g in
              only.only q (has_more q mark.frame has) (not_here q mark.frame has);
        }

    pub one_left : ((v : Victim) → (old v ≡ true) ↔ IsSole m1 v) → ((v : Victim) → mid v ≡ cond (eq_by_cmp victim_cmp left v) true (old v)) →
        ((v : Victim) → new v ≡ cond (eq_by_cmp victim_cmp (victim_of key mark.touched) v) false (mid v)) → (v : Victim) → (new v ≡ true) ↔ IsSole m0 v
    one_left was come put v = go (eq_by_cmp victim_cmp (victim_of key mark.touched) v) (eq_by_cmp victim_cmp left v) refl refl
      where
        go : (a b : Bool) → eq_by_cmp victim_cmp (victim_of key mark.touched) v ≡ a → eq_by_cmp victim_cmp left v ≡ b → (new v ≡ true) ↔ IsSole m0 v
        go true b e f = (λ h. false_true _ (put_there mid new _ v false put e) h, λ is. absurd (marked v is.touched (sym (ap page_of (tells_apart victim_exact (victim_of key mark.touched) v e)))))
        go false true e f = (
          λ _. subst (IsSole m0) (tells_apart victim_exact left v f) sole_left,
          λ _. put_beside mid new _ v false put e ∙ put_there old mid left v true come f,
        )
        go false false e f =
            let keeps = put_beside mid new _ v false put e ∙ put_beside old mid left v true come f in (
              λ h. let is = (was v).0 (sym keeps ∙ h) in sole_before v is (λ here_too. differs _ v e (this_victim v is.touched here_too)),
              λ is. keeps ∙ (was v).1 (sole_after v is (λ has.
                  let same = only.only (page_of v) (has_more (page_of v) mark.frame has) (marked v is.touched) in
                  differs left v f (one_victim m0 (page_of left) left.touched v sole_left.touched is.touched (sym same)))),
            )

-- a page loses its mark: the page that is left alone with its frame, if there is one, becomes a victim
pub forgotten : (m0 m1 : Look) (key : Key) (mark : Mark) (left : Option Victim) (old mid new : BTreeSet Victim) → m1 key ≡ Some mark → ((q : Key) → m0 q ≡ cond (eq_by_cmp key_cmp key q) None (m1 q)) →
    ((v : Victim) → (is_victim old v ≡ true) ↔ IsSole m1 v) → IfSome left (IsLeftBy m1 mark.frame key) → IfNone left ((q : Key) → ¬ (IsOnlyOther m1 mark.frame key q)) →
    MatchOption left (AreSameVictims old mid) (λ v. SetsVictim old mid v true) → IsPut mid new (victim_of key mark.touched) false → (v : Victim) → (is_victim new v ≡ true) ↔ IsSole m0 v
forgotten m0 m1 key mark None old mid new was takes are some none same put =
    let back = without m0 m1 key mark was takes in
    none_left m0 m1 key mark back.0 back.1 (is_victim mid) (is_victim new) (λ v. subst (λ b. (b ≡ true) ↔ IsSole m1 v) (sym (same.each v)) (are v)) none put
forgotten m0 m1 key mark (Some left) old mid new was takes are some none come put =
    let back = without m0 m1 key mark was takes in
    one_left m0 m1 key mark back.0 back.1 (is_victim old) (is_victim mid) (is_victim new) left some.other some.touched are come.each put

-- ---- a page gets another last touch

-- it is no victim with another last touch than it has
pub not_yet : (m : Look) (key : Key) (before after : Mark) (old : Victim → Bool) → m key ≡ Some before → before.touched ≢ after.touched → ((v : Victim) → (old v ≡ true) ↔ IsSole m v) → old (victim_of key after.touched) ≡ false
not_yet m key before after old was other are = false_from_ne_true _ (λ h. other (some_is (sym (ap last_touch was) ∙ ((are (victim_of key after.touched)).0 h).touched)))

-- where a victim is not there, none comes in its place
pub none_moves : (order : BTreeSet Victim) (from to : Victim) → is_victim order from ≡ false → is_victim order to ≡ false → IsMovedOn order order from to
none_moves order from to absent new = record { each = λ w. go w (eq_by_cmp victim_cmp from w) (eq_by_cmp victim_cmp to w) refl refl }
  where
    go : (w : Victim) (a b : Bool) → eq_by_cmp victim_cmp from w ≡ a → eq_by_cmp victim_cmp to w ≡ b →
        is_victim order w ≡ cond (eq_by_cmp victim_cmp from w) false (cond (eq_by_cmp victim_cmp to w) (is_victim order from) (is_victim order w))
    go w true b e f = sym (ap (is_victim order) (tells_apart victim_exact from w e)) ∙ absent ∙ sym (ap (λ t. cond t false (cond (eq_by_cmp victim_cmp to w) (is_victim order from) (is_victim order w))) e)
    go w false true e f =
        sym (ap (is_victim order) (tells_apart victim_exact to w f)) ∙ new ∙ sym absent ∙ sym (λ i. cond (e i) false (cond (f i) (is_victim order from) (is_victim order w)))
    go w false false e f = sym (λ i. cond (e i) false (cond (f i) (is_victim order from) (is_victim order w)))

module _ (m m' : Look) (key : Key) (before after : Mark) (was : m key ≡ Some before) (set : (q : Key) → m' q ≡ cond (eq_by_cmp key_cmp key q) (Some after) (m q)) (frame : before.frame ≡ after.frame) (other : before.touched ≢ after.touched) where
  now_is : m' key ≡ Some after
  now_is = set key ∙ ap (λ b. cond b (Some after) (m key)) ((eq_by_cmp_equiv key_total).refl key)

  same_frame : (q : Key) (f : ℕ) → has_frame (m' q) f ≡ has_frame (m q) f
  same_frame q f = go (eq_by_cmp key_cmp key q) refl
    where
      go : (b : Bool) → eq_by_cmp key_cmp key q ≡ b → has_frame (m' q) f ≡ has_frame (m q) f
      go true e =
          ap (λ o. has_frame o f) (set q ∙ ap (λ b. cond b (Some after) (m q)) e) ∙ ap (λ n. nat_eq n f) (sym frame)
          ∙ sym (ap (λ k. has_frame (m k) f) (sym (same_key key q e)) ∙ ap (λ o. has_frame o f) was)
      go false e = ap (λ o. has_frame o f) (set q ∙ ap (λ b. cond b (Some after) (m q)) e)

  still : (v : Victim) → (page_of v ≡ key → ⊥) → last_touch (m' (page_of v)) ≡ last_touch (m (page_of v))
  still v apart = ap last_touch (set (page_of v) ∙ ap (λ b. cond b (Some after) (m (page_of v))) (false_from_ne_true _ (λ e. apart (sym (same_key key (page_of v) e)))))

  sole_now : (v w : Victim) → page_of v ≡ page_of w → last_touch (m' (page_of w)) ≡ Some w.touched → IsSole m v → IsSole m' w
  sole_now v w same at is = record {
    touched = at;
    alone = λ q f h g. is.alone q f (ap (λ k. has_frame (m k) f) same ∙ sym (same_frame (page_of w) f) ∙ h) (sym (same_frame q f) ∙ g) ∙ same;
  }

  sole_then : (v w : Victim) → page_of v ≡ page_of w → last_touch (m (page_of w)) ≡ Some w.touched → IsSole m' v → IsSole m w
  sole_then v w same at is = record {
    touched = at;
    alone = λ q f h g. is.alone q f (same_frame (page_of v) f ∙ ap (λ k. has_frame (m k) f) same ∙ h) (same_frame q f ∙ g) ∙ same;
  }

  abbrev from : Victim
  from = victim_of key before.touched

  abbrev to : Victim
  to = victim_of key after.touched

  pub sole_touched : (old new : Victim → Bool) → ((v : Victim) → (old v ≡ true) ↔ IsSole m v) →
      ((v : Victim) → new v ≡ cond (eq_by_cmp victim_cmp from v) false (cond (eq_by_cmp victim_cmp to v) (old from) (old v))) → (v : Victim) → (new v ≡ true) ↔ IsSole m' v
  sole_touched old new are moved v = go (eq_by_cmp victim_cmp from v) (eq_by_cmp victim_cmp to v) refl refl
    where
      is_now : (a b : Bool) → eq_by_cmp victim_cmp from v ≡ a → eq_by_cmp victim_cmp to v ≡ b → new v ≡ cond a false (cond b (old from) (old v))
      is_now a b e f = moved v ∙ (λ i. cond (e i) false (cond (f i) (old from) (old v)))

      go : (a b : Bool) → eq_by_cmp victim_cmp from v ≡ a → eq_by_cmp victim_cmp to v ≡ b → (new v ≡ true) ↔ IsSole m' v
      go true b e f = (
        λ h. false_true _ (is_now true b e f) h,
        λ is.
            let same = tells_apart victim_exact from v e in
            absurd (other (ap (λ (x : Victim). x.touched) same ∙ some_is (sym is.touched ∙ ap (λ k. last_touch (m' k)) (sym (ap page_of same)) ∙ ap last_touch now_is))),
      )
      go false true e f =
          let same = tells_apart victim_exact to v f in (
            λ h. subst (IsSole m') same (sole_now from to refl (ap last_touch now_is) ((are from).0 (sym (is_now false true e f) ∙ h))),
            λ is. is_now false true e f ∙ (are from).1 (sole_then v from (sym (ap page_of same)) (ap last_touch was) is),
          )
      go false false e f = (
        λ h.
            let is = (are v).0 (sym (is_now false false e f) ∙ h) in
            sole_now v v refl (still v (λ at. differs from v e (one_victim m key before.touched v (ap last_touch was) is.touched (sym at))) ∙ is.touched) is,
        λ is. is_now false false e f ∙ (are v).1
            (sole_then v v refl (sym (still v (λ at. differs to v f (one_victim m' key after.touched v (ap last_touch now_is) is.touched (sym at)))) ∙ is.touched) is),
      )

-- ---- nothing changes

pub same_sole : (old new : Marks) (was is : BTreeSet Victim) → AreSole old was → AreSameMarks old new → AreSameVictims was is → AreSole new is
same_sole old new was is are marks victims = record {
  each = λ v. subst (λ b. (b ≡ true) ↔ IsSole (mark_at new) v) (sym (victims.each v))
      (subst (λ m. (is_victim was v ≡ true) ↔ IsSole m v) (sym (λ i q. marks.each q i)) (are.each v));
}

-- what was put in is taken out again, where the page had no mark
pub put_back : (old new : Marks) (was mid is : BTreeSet Victim) (key : Key) (touched : ℕ) → AreSole old was → mark_at old key ≡ None → AreSameMarks old new →
    IsPut was mid (victim_of key touched) true → IsPut mid is (victim_of key touched) false → AreSole new is
put_back old new was mid is key touched are absent marks put taken = same_sole old new was is are marks (record { each = λ v. go v (eq_by_cmp victim_cmp (victim_of key touched) v) refl })
  where
    go : (v : Victim) (b : Bool) → eq_by_cmp victim_cmp (victim_of key touched) v ≡ b → is_victim is v ≡ is_victim was v
    go v false e = taken v ∙ ap (λ b. cond b false (is_victim mid v)) e ∙ put v ∙ ap (λ b. cond b true (is_victim was v)) e
    go v true e =
        taken v ∙ ap (λ b. cond b false (is_victim mid v)) e
        ∙ sym (false_from_ne_true (is_victim was v) (λ h.
        some_not_none (sym ((are.each v).0 h).touched ∙ ap (λ k. last_touch (mark_at old k)) (sym (ap page_of (tells_apart victim_exact (victim_of key touched) v e))) ∙ ap last_touch absent)))
