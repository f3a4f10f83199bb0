-- What becomes of a list of held rows.
use Rattle.std.proofs.Common.{◌≡◌, ◌≢◌, ℕ, zero, suc, ◌+◌, ◌-◌, ◌==◌, ◌<◌, ◌≤◌, ◌^◌, ◌⊎◌, inl, inr, cond, List, [], ◌∷◌, ◌++◌, length, get_or, set, take, drop, sym, refl, ap, subst, ◌∙◌, arith, length-append, ne_eqb, Bool, true, false, get_or-set_other}
use Rattle.std.specs.List.{All, SameBelow, ShiftedDown}
use Rattle.std.proofs.lemmas.List.{take-append-drop, map-append, get_or-set_same, length-set, length-take, length-drop}
use Rattle.std.proofs.lemmas.List.Elements.{All-append, All-cons, All-take, All-drop}
use mathlib.Core.Logic.{dite}
use native.Mathlib.Decide.{ℕ_discrete}
use Rattle.table_place.specs.declared.Place.{Place}
use Rattle.walk_core.specs.Lists.{times, IsDistinct}
use Rattle.walk_core.proofs.RowLists.{times-nil, times-cons, times-cons_other, times-append, get_or_any}
use Rattle.tree_lock.specs.declared.held.HeldRow.{HeldRow}
use Rattle.tree_lock.specs.Order.{IsSpelled, IsBefore}
use Rattle.tree_lock.specs.Held.{HeldList, row_number, row_numbers, IsInOrder, IsHeldList, IsRank, IsInserted, IsRemoved, with_content}
use Rattle.tree_lock.proofs.Positions.{before_next, before_or_after}
use Rattle.tree_lock.proofs.Lists.{pairs_insert, pairs_remove}

module _ {R : Type 0} where
  pub empty_list : (rows : List (HeldRow R)) (room : ℕ) → rows ≡ [] → room < 2 ^ 32 → IsHeldList rows room
  empty_list rows room none few = subst (λ (l : List (HeldRow R)). IsHeldList l room) (sym none)
      (record { order = λ i j d less within. absurd (omega arith); spelled = λ k d within. absurd (omega arith); once = λ r. let n = times-nil r in omega arith; few = few })

  -- ---- a row more

  pub numbers_inserted : (h : HeldRow R) (old new : List (HeldRow R)) → IsInserted h old new → (r : ℕ) → times r (row_numbers new) ≡ cond (h.row == r) 1 0 + times r (row_numbers old)
  numbers_inserted h old new i r =
      let now = ap (λ (l : List (HeldRow R)). times r (row_numbers l)) i.is ∙ (ap (times r) (map-append row_number i.before (h ∷ i.after)) ∙ times-append r (row_numbers i.before) (h.row ∷ row_numbers i.after)) in
      let was = ap (λ (l : List (HeldRow R)). times r (row_numbers l)) i.was ∙ (ap (times r) (map-append row_number i.before i.after) ∙ times-append r (row_numbers i.before) (row_numbers i.after)) in
      let here = times-cons r h.row (row_numbers i.after) in omega arith

  pub not_there : (rows : List (HeldRow R)) (r : ℕ) → All (λ h. h.row ≢ r) rows → times r (row_numbers rows) ≡ 0
  not_there [] r none = times-nil r
  not_there (h ∷ hs) r none = times-cons_other r h.row (row_numbers hs) (none 0 h (omega arith)) ∙ not_there hs r (λ k d within. none (suc k) d (omega arith))

  pub once_inserted : (h : HeldRow R) (old new : List (HeldRow R)) → IsInserted h old new → All (λ x. x.row ≢ h.row) old → IsDistinct (row_numbers old) → IsDistinct (row_numbers new)
  once_inserted h old new i none once r = dite (ℕ_discrete h.row r)
      (λ e. let more = numbers_inserted h old new i r in let one = at_most_one (h.row == r) in
      let gone = subst (λ (n : ℕ). times n (row_numbers old) ≡ 0) e (not_there old h.row none) in omega arith)
      (λ ne. let more = numbers_inserted h old new i r in let no_more : cond (h.row == r) 1 0 ≡ 0 = ap (λ (b : Bool). cond {A = ℕ} b 1 0) (ne_eqb h.row r ne) in let few = once r in omega arith)
    where
      at_most_one : (b : Bool) → cond b 1 0 ≤ 1
      at_most_one true = omega arith
      at_most_one false = omega arith

  pub inserted_list : (n : ℕ) (h : HeldRow R) (old new : List (HeldRow R)) (room : ℕ) → IsHeldList old room → IsRank h.place old n → new ≡ take n old ++ h ∷ drop n old
      → ((d : HeldRow R) → get_or new n d ≡ h) → SameBelow old new n → ((k : ℕ) (d : HeldRow R) → n < k → get_or new k d ≡ get_or old (k - 1) d)
      → IsSpelled h.place → All (λ x. x.row ≢ h.row) old → IsInserted h old new × IsHeldList new room
  inserted_list n h old new room good rank is here below above spelled none =
      let within = rank.within in let long : length new ≡ length old + 1 = let e = ap length is in let f = length-append (take n old) (h ∷ drop n old) in let g = length-take n old in let k = length-drop n old in omega arith in
      let i : IsInserted h old new = record { before = take n old; after = drop n old; was = sym (take-append-drop n old); is = is } in (
        i,
        record {
          order = pairs_insert (λ a b. IsBefore a.place b.place) old new n h rank.within long here below above good.order rank.before rank.after;
          spelled = subst (λ (l : List (HeldRow R)). All (λ x. IsSpelled x.place) l) (sym is)
              (All-append (λ x. IsSpelled x.place) (take n old) (h ∷ drop n old) (All-take (λ x. IsSpelled x.place) n old good.spelled) (All-cons (λ x. IsSpelled x.place) h (drop n old) spelled (All-drop (λ x. IsSpelled x.place) n old good.spelled)));
          once = once_inserted h old new i none good.once;
          few = good.few;
        },
      )

  -- a search from the end for the place of a position: it ends behind the last row before it, and goes on where that is not before it
  pub rank_found : (place : Place) (rows : List (HeldRow R)) (n : ℕ) (x : HeldRow R) → IsInOrder rows → 0 < n → n ≤ length rows → IsBefore (get_or rows (n - 1) x).place place
      → ((k : ℕ) (d : HeldRow R) → n ≤ k → k < length rows → IsBefore place (get_or rows k d).place) → IsRank place rows n
  rank_found place rows n x order some within here after = record {
    within = within;
    before = λ k d less. dite (ℕ_discrete k (n - 1))
        (λ e. subst (λ (y : HeldRow R). IsBefore y.place place) (get_or_any rows (n - 1) x d (omega arith) ∙ ap (λ (i : ℕ). get_or rows i d) (sym e)) here)
        (λ ne. before_next (get_or rows k d).place (get_or rows (n - 1) d).place place (order k (n - 1) d (omega arith) (omega arith))
        (subst (λ (y : HeldRow R). IsBefore y.place place) (get_or_any rows (n - 1) x d (omega arith)) here));
    after = after;
  }

  pub rank_further : (place : Place) (rows : List (HeldRow R)) (n : ℕ) (x : HeldRow R) → All (λ h. h.place ≢ place) rows → 0 < n → n ≤ length rows → ¬ IsBefore (get_or rows (n - 1) x).place place
      → ((k : ℕ) (d : HeldRow R) → n ≤ k → k < length rows → IsBefore place (get_or rows k d).place) → (k : ℕ) (d : HeldRow R) → n - 1 ≤ k → k < length rows → IsBefore place (get_or rows k d).place
  rank_further place rows n x new some within not_here after k d from inside = dite (ℕ_discrete k (n - 1))
      (λ e. subst (λ (y : HeldRow R). IsBefore place y.place) (get_or_any rows (n - 1) x d (omega arith) ∙ ap (λ (i : ℕ). get_or rows i d) (sym e))
      (later (before_or_after (get_or rows (n - 1) x).place place (new (n - 1) x (omega arith)))))
      (λ ne. after k d (omega arith) inside)
    where
      later : IsBefore (get_or rows (n - 1) x).place place ⊎ IsBefore place (get_or rows (n - 1) x).place → IsBefore place (get_or rows (n - 1) x).place
      later (inl before) = absurd (not_here before)
      later (inr behind) = behind

  -- what an insert into a vector with room has done
  pub insert_done : (ok : Bool) (n : ℕ) (h : HeldRow R) (old new : List (HeldRow R)) (room : ℕ) (was : HeldList R) → record { rows = old; room = room } ≡ was → ok ≡ true → new ≡ cond ok (take n old ++ h ∷ drop n old) old
      → IsHeldList old room → IsRank h.place old n → ((d : HeldRow R) → ok ≡ true → get_or new n d ≡ h) → SameBelow old new n → ((k : ℕ) (d : HeldRow R) → ok ≡ true → n < k → get_or new k d ≡ get_or old (k - 1) d)
      → IsSpelled h.place → All (λ x. x.row ≢ h.row) was.rows → IsInserted h was.rows new × IsHeldList new room
  insert_done ok n h old new room was same succeeds items good rank here below above spelled none =
      let done = inserted_list n h old new room good rank (items ∙ ap (λ (b : Bool). cond b (take n old ++ h ∷ drop n old) old) succeeds) (λ d. here d succeeds) below (λ k d past. above k d succeeds past) spelled
      (subst (λ (l : HeldList R). All (λ x. x.row ≢ h.row) l.rows) (sym same) none) in
      (subst (λ (l : HeldList R). IsInserted h l.rows new) same done.0, done.1)

  -- ---- a row less

  pub split_at : (rows : List (HeldRow R)) (n : ℕ) (d : HeldRow R) → n < length rows → rows ≡ take n rows ++ get_or rows n d ∷ drop (n + 1) rows
  split_at [] n d within = absurd (omega arith)
  split_at (h ∷ hs) zero d within = refl
  split_at (h ∷ hs) (suc n) d within =
      let next : suc n + 1 ≡ suc (n + 1) = omega arith in
      ap (λ (l : List (HeldRow R)). h ∷ l) (split_at hs n d (omega arith)) ∙ ap (λ (m : ℕ). h ∷ take n hs ++ get_or hs n d ∷ drop m (h ∷ hs)) (sym next)

  pub once_removed : (n : ℕ) (h : HeldRow R) (old new : List (HeldRow R)) → IsRemoved n h old new → IsDistinct (row_numbers old) → IsDistinct (row_numbers new)
  once_removed n h old new i once r =
      let less = numbers_inserted h new old (record { before = i.before; after = i.after; was = i.is; is = i.was }) r in let few = once r in omega arith

  pub removed_list : (n : ℕ) (h : HeldRow R) (old new : List (HeldRow R)) (room : ℕ) → IsHeldList old room → n < length old → h ≡ get_or old n h → new ≡ take n old ++ drop (n + 1) old
      → SameBelow old new n → ShiftedDown old new n → IsRemoved n h old new × IsHeldList new room
  removed_list n h old new room good within here is below above =
      let long : length new + 1 ≡ length old = let e = ap length is in let f = length-append (take n old) (drop (n + 1) old) in let g = length-take n old in let k = length-drop (n + 1) old in omega arith in
      let i : IsRemoved n h old new = record {
        before = take n old;
        after = drop (n + 1) old;
        was = split_at old n h within ∙ ap (λ (x : HeldRow R). take n old ++ x ∷ drop (n + 1) old) (sym here);
        is = is;
        at = let l = length-take n old in omega arith;
      } in (
        i,
        record {
          order = pairs_remove (λ a b. IsBefore a.place b.place) old new n long below above good.order;
          spelled = subst (λ (l : List (HeldRow R)). All (λ x. IsSpelled x.place) l) (sym is)
              (All-append (λ x. IsSpelled x.place) (take n old) (drop (n + 1) old) (All-take (λ x. IsSpelled x.place) n old good.spelled) (All-drop (λ x. IsSpelled x.place) (n + 1) old good.spelled));
          once = once_removed n h old new i good.once;
          few = good.few;
        },
      )

  -- ---- another content

  pub content_set : (rows : List (HeldRow R)) (n : ℕ) (h : HeldRow R) (w : R) → n < length rows → h ≡ get_or rows n h → set rows n (record h { content = w }) ≡ with_content rows n w
  content_set [] n h w within here = absurd (omega arith)
  content_set (x ∷ xs) zero h w within here = ap (λ (y : HeldRow R). record y { content = w } ∷ xs) here
  content_set (x ∷ xs) (suc n) h w within here = ap (λ (l : List (HeldRow R)). x ∷ l) (content_set xs n h w (omega arith) here)

  -- what the list is once the content w is behind the borrow of row n
  pub content_done : (rows : List (HeldRow R)) (room n : ℕ) (h : HeldRow R) (w : R) (was : HeldList R) → record { rows = rows; room = room } ≡ was → n < length was.rows → h ≡ get_or rows n h
      → ◌≡◌ {A = HeldList R} (record { rows = set rows n (record h { content = w }); room = room }) (record was { rows = with_content was.rows n w })
  content_done rows room n h w was same within here =
      let inside = subst (λ (l : HeldList R). n < length l.rows) (sym same) within in
      let moved : ◌≡◌ {A = HeldList R} (record { rows = set rows n (record h { content = w }); room = room }) (record { rows = with_content rows n w; room = room }) = λ i. record { rows = content_set rows n h w inside here i; room = room } in
      let met : ◌≡◌ {A = HeldList R} (record { rows = with_content rows n w; room = room }) (record was { rows = with_content was.rows n w }) = λ i. record { rows = with_content (same i).rows n w; room = (same i).room } in
      moved ∙ met

  pub content_found : (rows : List (HeldRow R)) (room n : ℕ) (h d : HeldRow R) (was : HeldList R) → record { rows = rows; room = room } ≡ was → n < length was.rows → h ≡ get_or rows n h → (get_or was.rows n d).content ≡ h.content
  content_found rows room n h d was same within here =
      let inside = subst (λ (l : HeldList R). n < length l.rows) (sym same) within in
      let found : get_or rows n d ≡ h = get_or_any rows n d h inside ∙ sym here in
      subst (λ (l : HeldList R). (get_or l.rows n d).content ≡ h.content) same (ap (λ (x : HeldRow R). x.content) found)

  same_at : {A : Type 0} (f : HeldRow R → A) (rows : List (HeldRow R)) (n k : ℕ) (x d : HeldRow R) → n < length rows → ((e : HeldRow R) → f x ≡ f (get_or rows n e)) → f (get_or (set rows n x) k d) ≡ f (get_or rows k d)
  same_at f rows n k x d within same = dite (ℕ_discrete k n)
      (λ e. ap (λ (i : ℕ). f (get_or (set rows n x) i d)) e ∙ (ap f (get_or-set_same rows n x d within) ∙ (same d ∙ ap (λ (i : ℕ). f (get_or rows i d)) (sym e))))
      (λ ne. ap f (get_or-set_other rows n k x d ne))

  pub content_list : (rows : List (HeldRow R)) (room n : ℕ) (h x : HeldRow R) → IsHeldList rows room → n < length rows → h ≡ get_or rows n h → x.row ≡ h.row → x.place ≡ h.place → IsHeldList (set rows n x) room
  content_list rows room n h x good within here row place =
      let at : (d : HeldRow R) → h ≡ get_or rows n d = λ d. here ∙ get_or_any rows n h d within in
      let places : (k : ℕ) (d : HeldRow R) → (get_or (set rows n x) k d).place ≡ (get_or rows k d).place = λ k d. same_at (λ y. y.place) rows n k x d within (λ e. place ∙ ap (λ (y : HeldRow R). y.place) (at e)) in
      let long = length-set rows n x in
      record {
        order = λ i j d less inside. subst (λ (p : Place). IsBefore p (get_or (set rows n x) j d).place) (sym (places i d)) (subst (λ (p : Place). IsBefore (get_or rows i d).place p) (sym (places j d)) (good.order i j d less (omega arith)));
        spelled = λ k d inside. subst (λ (p : Place). IsSpelled p) (sym (places k d)) (good.spelled k d (omega arith));
        once = subst (λ (l : List ℕ). IsDistinct l) (sym (numbers rows n within (λ d. row ∙ ap (λ (y : HeldRow R). y.row) (at d)))) good.once;
        few = good.few;
      }
    where
      numbers : (rows : List (HeldRow R)) (n : ℕ) → n < length rows → ((d : HeldRow R) → x.row ≡ (get_or rows n d).row) → row_numbers (set rows n x) ≡ row_numbers rows
      numbers [] n within same = absurd (omega arith)
      numbers (y ∷ ys) zero within same = ap (λ (m : ℕ). m ∷ row_numbers ys) (same y)
      numbers (y ∷ ys) (suc n) within same = ap (λ (l : List ℕ). y.row ∷ l) (numbers ys n (omega arith) same)

  pub length_with_content : (rows : List (HeldRow R)) (n : ℕ) (w : R) → length (with_content rows n w) ≡ length rows
  length_with_content [] n w = refl
  length_with_content (h ∷ hs) zero w = refl
  length_with_content (h ∷ hs) (suc n) w = ap suc (length_with_content hs n w)

  -- the only row
  pub only_row : (h : HeldRow R) (old new : List (HeldRow R)) → old ≡ [] → IsInserted h old new → new ≡ h ∷ []
  only_row h old new none i = go i.before i.after (sym none ∙ i.was) i.is
    where
      go : (before after : List (HeldRow R)) → [] ≡ before ++ after → new ≡ before ++ h ∷ after → new ≡ h ∷ []
      go [] [] e is = is
      go [] (x ∷ after) e is = absurd (cc)
      go (x ∷ before) after e is = absurd (cc)
