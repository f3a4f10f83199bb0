-- A pass that releases the rows of a list one after another.
use Rattle.std.proofs.Common.{◌≡◌, ◌≢◌, ℕ, ◌+◌, ◌==◌, Bool, true, false, cond, not, List, [], ◌∷◌, map, length, get_or, sym, refl, ap, subst, ◌∙◌, arith, length-append, eq-eqb, ne_eqb, ⊎_elim}
use Rattle.std.specs.List.{Contains, filter}
use Rattle.std.proofs.lemmas.List.Elements.{All-contains, Contains-append_left, Contains-append_right, Contains-append_cases, Contains-get_or}
use Rattle.std.proofs.lemmas.Bool.{false≢true}
use mathlib.Core.Logic.{dite}
use native.Mathlib.Decide.{ℕ_discrete}
use Rattle.walk_core.specs.Lists.{times, without, IsDistinct}
use Rattle.walk_core.proofs.RowLists.{times-nil, times-cons_same, times_without_same, times_without_other, head_or_later, in_head, in_tail}
use Rattle.row_table.specs.declared.view.PassView.{PassView}
use Rattle.row_table.specs.declared.view.HeldRow.{HeldRow as KnownRow}
use Rattle.row_table.specs.Plan.{Meaning}
use Rattle.row_table.specs.Rule.{row_part}
use Rattle.row_table.specs.Moves.{released, NotInHand, Fits}
use Rattle.row_table.proofs.Beside.{not_part}
use Rattle.tree_lock.specs.declared.held.HeldRow.{HeldRow}
use Rattle.tree_lock.specs.Held.{row_number, row_numbers, IsRemoved}
use Rattle.tree_lock.specs.Release.{HoldsExactly, MayReleaseAll, emptied}
use Rattle.tree_lock.proofs.Rows.{numbers_inserted, once_removed}

-- the rows of known rows, where some are left out by their row
map_without : {R : Type 0} (row : ℕ) (hs : List (KnownRow R)) → map row_part (filter (λ h. not (h.row == row)) hs) ≡ without row (map row_part hs)
map_without row [] = refl
map_without {R} row (h ∷ hs) = go (map_without row hs) (not (h.row == row))
  where
    go : map row_part (filter (λ x. not (x.row == row)) hs) ≡ without row (map row_part hs)
        → (b : Bool) → map row_part (cond b (h ∷ filter (λ x. not (x.row == row)) hs) (filter (λ x. not (x.row == row)) hs)) ≡ cond b (h.row ∷ without row (map row_part hs)) (without row (map row_part hs))
    go rest true = ap (λ (l : List ℕ). h.row ∷ l) rest
    go rest false = rest

still_there : {X : Type 0} (t : X → Bool) (xs : List X) (y : X) → t y ≡ true → Contains xs y → Contains (filter t xs) y
still_there t [] y passes c = let h = c.1 in absurd (omega arith)
still_there {X} t (x ∷ xs) y passes c = go (still_there t xs y passes) (t x) refl
  where
    go : (Contains xs y → Contains (filter t xs) y) → (b : Bool) → t x ≡ b → Contains (cond b (x ∷ filter t xs) (filter t xs)) y
    go rest true e = ⊎_elim (λ (z : x ≡ y). subst (λ (u : X). Contains (x ∷ filter t xs) u) z (in_head x (filter t xs))) (λ (z : Contains xs y). in_tail x (filter t xs) y (rest z)) (head_or_later x xs y c)
    go rest false e = ⊎_elim (λ (z : x ≡ y). absurd (false≢true (sym e ∙ (ap t z ∙ passes)))) rest (head_or_later x xs y c)

none_stand : (xs : List ℕ) → ((r : ℕ) → 0 ≡ times r xs) → xs ≡ []
none_stand [] none = refl
none_stand (x ∷ xs) none = let here = times-cons_same x x xs refl in let no = none x in absurd (omega arith)

no_length : {X : Type 0} (xs : List X) → length xs ≡ 0 → xs ≡ []
no_length [] e = refl
no_length (x ∷ xs) e = absurd (omega arith)

none_shown : {X : Type 0} (f : X → ℕ) (xs : List X) → map f xs ≡ [] → xs ≡ []
none_shown f [] e = refl
none_shown f (x ∷ xs) e = absurd (cc)

module _ {R B E : Type 0} (M : Meaning R B E) where
  -- so many rows of the list are released, and the pass holds exactly the others
  pub record Releasing (v0 v : PassView R B E) (rows0 rows : List (HeldRow R)) (done : ℕ) : Type 0 where
    pub count : length rows + done ≡ length rows0
    pub once : IsDistinct (row_numbers rows)
    pub exact : HoldsExactly rows v.core.held v.rows
    pub each : MayReleaseAll M rows v
    pub others : v ≡ record v0 { core = record v0.core { held = v.core.held }; rows = v.rows }

  pub started : (v : PassView R B E) (rows : List (HeldRow R)) → IsDistinct (row_numbers rows) → HoldsExactly rows v.core.held v.rows → MayReleaseAll M rows v → Releasing v v rows rows 0
  started v rows once exact each = record { count = omega arith; once = once; exact = exact; each = each; others = refl }

  removed_row : (n : ℕ) (h : HeldRow R) (old new : List (HeldRow R)) → IsRemoved n h old new → Contains old h
  removed_row n h old new i = subst (λ (l : List (HeldRow R)). Contains l h) (sym i.was) (Contains-append_right i.before (h ∷ i.after) h (in_head h i.after))

  pub may_release : (n : ℕ) (h : HeldRow R) (old new : List (HeldRow R)) (v : PassView R B E) → IsRemoved n h old new → MayReleaseAll M old v → NotInHand v h.row × Fits M v h.row h.content
  may_release n h old new v i each = All-contains (λ x. NotInHand v x.row × Fits M v x.row x.content) old h each (removed_row n h old new i)

  module _ (n : ℕ) (h : HeldRow R) (old new : List (HeldRow R)) (v : PassView R B E) (i : IsRemoved n h old new) (once : IsDistinct (row_numbers old)) where
    counted : (r : ℕ) → times r (row_numbers old) ≡ cond (h.row == r) 1 0 + times r (row_numbers new)
    counted r = numbers_inserted h new old (record { before = i.before; after = i.after; was = i.is; is = i.was }) r

    gone : times h.row (row_numbers new) ≡ 0
    gone = let all = counted h.row in let one : cond {A = ℕ} (h.row == h.row) 1 0 ≡ 1 = ap (λ (b : Bool). cond {A = ℕ} b 1 0) (eq-eqb h.row h.row refl) in let most = once h.row in omega arith

    shorter : length new + 1 ≡ length old
    shorter = let a = ap length i.was in let b = ap length i.is in let f = length-append i.before (h ∷ i.after) in let k = length-append i.before i.after in omega arith

    stays : (x : HeldRow R) → Contains new x → Contains old x
    stays x c = subst (λ (l : List (HeldRow R)). Contains l x) (sym i.was) (⊎_elim
        (λ (z : Contains i.before x). Contains-append_left i.before (h ∷ i.after) x z)
        (λ (z : Contains i.after x). Contains-append_right i.before (h ∷ i.after) x (in_tail h i.after x z))
        (Contains-append_cases i.before i.after x (subst (λ (l : List (HeldRow R)). Contains l x) i.is c)))

    exact_after : HoldsExactly old v.core.held v.rows → HoldsExactly new (released v h.row).core.held (released v h.row).rows
    exact_after exact = record {
      held = λ r. dite (ℕ_discrete r h.row)
          (λ e. subst (λ (q : ℕ). times q (row_numbers new) ≡ times q (without h.row v.core.held)) (sym e) (gone ∙ sym (times_without_same h.row h.row v.core.held refl)))
          (λ ne. let all = counted r in let no : cond {A = ℕ} (h.row == r) 1 0 ≡ 0 = ap (λ (b : Bool). cond {A = ℕ} b 1 0) (ne_eqb h.row r (λ e. ne (sym e))) in
          let same = exact.held r in let other = times_without_other h.row r v.core.held ne in omega arith);
      shown = map_without h.row v.rows ∙ ap (without h.row) exact.shown;
    }

    each_after : MayReleaseAll M old v → MayReleaseAll M new (released v h.row)
    each_after each k d within =
        let x : HeldRow R = get_or new k d in
        let there : Contains new x = Contains-get_or new k d within in
        let may : NotInHand v x.row × Fits M v x.row x.content = All-contains (λ y. NotInHand v y.row × Fits M v y.row y.content) old x each (stays x there) in
        let fits = may.1 in
        let other : x.row ≢ h.row = not_part row_number new (row_numbers new) h.row refl gone x there in (
          may.0,
          record {
            known = fits.known;
            held = still_there (λ y. not (y.row == h.row)) v.rows fits.known (ap not (ne_eqb fits.known.row h.row (λ e. other (sym fits.same_row ∙ e)))) fits.held;
            same_row = fits.same_row;
            content_fits = fits.content_fits;
          },
        )

  pub released_next : (v0 v w : PassView R B E) (rows0 old new : List (HeldRow R)) (done n : ℕ) (h : HeldRow R) → Releasing v0 v rows0 old done → IsRemoved n h old new → w ≡ released v h.row → Releasing v0 w rows0 new (done + 1)
  released_next v0 v w rows0 old new done n h was i e = subst (λ (u : PassView R B E). Releasing v0 u rows0 new (done + 1)) (sym e) (record {
    count = let less = shorter n h old new v i was.once in let all = was.count in omega arith;
    once = once_removed n h old new i was.once;
    exact = exact_after n h old new v i was.once was.exact;
    each = each_after n h old new v i was.once was.each;
    others = ap (λ (u : PassView R B E). released_so u) was.others;
  })
    where
      released_so : PassView R B E → PassView R B E
      released_so u = record u { core = record u.core { held = without h.row v.core.held }; rows = filter (λ x. not (x.row == h.row)) v.rows }

  pub all_released : (v0 v : PassView R B E) (rows0 rows : List (HeldRow R)) (done : ℕ) → Releasing v0 v rows0 rows done → length rows0 ≡ done → (rows ≡ []) × (v ≡ emptied v0)
  all_released v0 v rows0 rows done now all =
      let rows_none : rows ≡ [] = no_length rows (let c = now.count in omega arith) in
      let held_none : v.core.held ≡ [] = none_stand v.core.held (λ r. sym (times-nil r) ∙ (ap (λ (l : List (HeldRow R)). times r (row_numbers l)) (sym rows_none) ∙ now.exact.held r)) in
      let shown_none : v.rows ≡ [] = none_shown row_part v.rows (now.exact.shown ∙ held_none) in
      (rows_none, now.others ∙ λ j. record v0 { core = record v0.core { held = held_none j }; rows = shown_none j })
