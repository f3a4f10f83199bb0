-- A step on a word of a row, other than its lock word, while no other pass has the row: what the words show of the other rows stays.
use Rattle.std.proofs.Common.{◌≡◌, ◌≢◌, ℕ, zero, suc, ◌+◌, ◌*◌, ◌<◌, ◌≤◌, List, [], ◌∷◌, map, length, get_or, set, sym, refl, ap, ◌∙◌, subst, ⊎_elim, arith, get_or-set_other}
use Rattle.std.specs.List.{Contains, sum_by}
use Rattle.std.proofs.lemmas.List.Sums.{sum_by-cons, get_or-le-sum_by}
use mathlib.Core.Option.{some}
use mathlib.Core.Logic.{dite}
use native.Mathlib.Decide.{ℕ_discrete}
use lib.ListN.{get_elem?}
use Rattle.walk_core.specs.declared.event.Event.{Event}
use Rattle.walk_core.specs.declared.pass.PassCore.{PassCore}
use Rattle.walk_core.specs.Words.{lock_at, epoch_at, book_at, stale}
use Rattle.walk_core.specs.Lists.{times, Has}
use Rattle.walk_core.specs.Core.{Core, word, pass_at, idle, granted_rows, times_in_hand, times_out, IsLinked}
use Rattle.walk_core.specs.Events.{pass_of, place_of, pass_after, free_after, limbo_after}
use Rattle.walk_core.specs.Guards.{Guard}
use Rattle.walk_core.specs.Good.{Good, LockSays, says_free, says_held, says_stale}
use Rattle.walk_core.proofs.RowLists.{times-cons, times-cons_same, has_part, head_or_later}
use Rattle.walk_core.proofs.Facts.{hand-le-out, out-le-one, hand_there, held_alone, stale_unheld}
use Rattle.row_layout.specs.declared.places.Layout.{Layout}
use Rattle.row_table.specs.declared.view.PassView.{PassView}
use Rattle.row_table.specs.declared.view.HandRow.{HandRow}
use Rattle.row_table.specs.Plan.{Meaning}
use Rattle.row_table.specs.Rows.{lock_of, generation_of}
use Rattle.row_table.specs.Rule.{Homes, Table, row_part, hand_part, core_of, Contents, Knows, Holds}
use Rattle.row_table.proofs.Shown.{ShowsSame, shows_same}
use Rattle.row_table.proofs.Hands.{rows_granted}
use Rattle.row_table.proofs.Frames.{RowHome, words_after, moved, home_of, home_moves}
use Rattle.row_table.proofs.Views.{pass_is, not_in_hand}
use Rattle.row_table.proofs.Known.{held_below}

-- Hands

two_parts : {A : Type 0} (f : A → ℕ) (xs : List A) (p q : ℕ) (d : A) → p ≢ q → p < length xs → q < length xs → f (get_or xs p d) + f (get_or xs q d) ≤ sum_by f xs
two_parts f [] p q d ne a b = absurd (omega arith)
two_parts f (x ∷ xs) zero zero d ne a b = absurd (ne refl)
two_parts f (x ∷ xs) zero (suc q) d ne a b = let one = get_or-le-sum_by f xs q d (omega arith) in let all = sum_by-cons f x xs in omega arith
two_parts f (x ∷ xs) (suc p) zero d ne a b = let one = get_or-le-sum_by f xs p d (omega arith) in let all = sum_by-cons f x xs in omega arith
two_parts f (x ∷ xs) (suc p) (suc q) d ne a b = let both = two_parts f xs p q d (λ e. ne (ap suc e)) (omega arith) (omega arith) in let all = sum_by-cons f x xs in omega arith

two_hands : (c : Core) (r p q : ℕ) → p ≢ q → p < length c.passes → q < length c.passes → times_in_hand r (pass_at c p) + times_in_hand r (pass_at c q) ≤ times_out c r
unfolding times_out
two_hands c r p q ne a b = let both = two_parts (times_in_hand r) c.passes p q idle ne a b in omega arith

-- no two passes have one row in their hands
pub one_hand : (c : Core) (r p q : ℕ) → Good c → p ≢ q → p < c.count → q < c.count → 1 ≤ times_in_hand r (pass_at c p) → times_in_hand r (pass_at c q) ≡ 0
one_hand c r p q g ne a b mine = let all = g.sizes.passes in let both = two_hands c r p q ne (omega arith) (omega arith) in let most = out-le-one g.states r in omega arith

-- a row of the hand that the pass does not hold is one that nobody may take
pub hand_stale : (c : Core) (p r : ℕ) → Good c → p < c.count → 1 ≤ times_in_hand r (pass_at c p) → times r (pass_at c p).held ≡ 0 → word c (lock_at r) ≡ stale
hand_stale c p r g there mine closed = says (word c (lock_at r)) refl (g.locks.rows.each r (hand_there g p r there mine))
  where
    says : (n : ℕ) → word c (lock_at r) ≡ n → LockSays c r n → word c (lock_at r) ≡ stale
    says n is (says_free z none) = let all = g.sizes.passes in let hand = hand-le-out c p r (omega arith) in absurd (omega arith)
    says n is (says_held q shown has) = dite (ℕ_discrete p q)
        (λ e. let same = ap (λ (x : ℕ). times r (pass_at c x).held) e in absurd (omega arith))
        (λ ne. let all = g.sizes.passes in let hand = hand-le-out c p r (omega arith) in let its = (g.locks.rows.held q r has).in_hand in
        let none = one_hand c r p q g ne there (held_below c q r g has) mine in absurd (omega arith))
    says n is (says_stale shown out) = is ∙ shown

-- the rows of a list

pub not_part : {X : Type 0} (f : X → ℕ) (xs : List X) (rows : List ℕ) (r : ℕ) → map f xs ≡ rows → times r rows ≡ 0 → (x : X) → Contains xs x → f x ≢ r
not_part f xs rows r same none x i e = let has = has_part f xs x i in let a = ap (times (f x)) same in let b = ap (λ (q : ℕ). times q rows) e in omega arith

-- where no row stands twice, an element is known by its row
pub unique_part : {X : Type 0} (f : X → ℕ) (xs : List X) (x y : X) → Contains xs x → Contains xs y → f x ≡ f y → times (f x) (map f xs) ≤ 1 → x ≡ y
unique_part f [] x y cx cy same few = let h = cx.1 in absurd (omega arith)
unique_part f (z ∷ zs) x y cx cy same few = ⊎_elim
    (λ (zx : z ≡ x). ⊎_elim (λ (zy : z ≡ y). sym zx ∙ zy)
    (λ (ly : Contains zs y). let one = times-cons_same (f x) (f z) (map f zs) (ap f zx) in let has = has_part f zs y ly in let e = ap (λ (q : ℕ). times q (map f zs)) same in absurd (omega arith))
    (head_or_later z zs y cy))
    (λ (lx : Contains zs x). ⊎_elim
    (λ (zy : z ≡ y). let one = times-cons_same (f x) (f z) (map f zs) (ap f zy ∙ sym same) in let has = has_part f zs x lx in absurd (omega arith))
    (λ (ly : Contains zs y). let n = times-cons (f x) (f z) (map f zs) in unique_part f zs x y lx ly same (omega arith))
    (head_or_later z zs y cy))
    (head_or_later z zs x cx)

module _ {R B E : Type 0} (M : Meaning R B E) where
  module _ (k : Layout) (ws : List ℕ) (r j n : ℕ) (less : r < k.rows) (near : j < 515) (no_lock : j ≢ 512) where
    abbrev pub us : List ℕ
    us = set ws (515 * r + j) n

    pub others_show : (q : ℕ) → q ≢ r → ShowsSame ws us q
    others_show q ne = shows_same ws (515 * r + j) n q (λ i h ni e. ne (omega arith))

    locks_stay : (q : ℕ) → lock_of us q ≡ lock_of ws q
    locks_stay q = get_or-set_other ws (515 * r + j) (lock_at q) n 0 (λ e. omega arith)

    pub epochs_stay : (p : ℕ) → get_or us (epoch_at k.rows p) 0 ≡ get_or ws (epoch_at k.rows p) 0
    epochs_stay p = get_or-set_other ws (515 * r + j) (epoch_at k.rows p) n 0 (λ e. omega arith)

    contents_beside : (b : B) (homes : Homes R B) → lock_of ws r ≢ 0 → Contents M k ws b homes → Contents M k us b homes
    contents_beside b homes taken old =
        let each : (q : ℕ) → q < k.rows → RowHome M k us b homes q (lock_of us q) = λ q l. dite (ℕ_discrete q r)
        (λ e. record { linked = λ z. absurd (taken (ap (lock_of ws) (sym e) ∙ (sym (locks_stay q) ∙ z))); others = λ z. old.others q l (sym (locks_stay q) ∙ z) })
        (λ ne. subst (RowHome M k us b homes q) (sym (locks_stay q)) (home_moves M k ws us b b homes homes q (lock_of ws q) (others_show q ne) refl (λ _ _ a. a) (home_of M old q l))) in
        record {
          linked = λ q l z. (each q l).linked z;
          others = λ q l z. (each q l).others z;
          book_home = λ z. old.book_home (sym (get_or-set_other ws (515 * r + j) (book_at k.rows k.passes) n 0 (λ e. omega arith)) ∙ z);
        }

    -- what a pass knows that does not have the row
    knows_beside : (first b : B) (u : PassView R B E) → times r u.core.held ≡ 0 → times r (granted_rows u.core) ≡ 0 → Knows M k first ws b u → Knows M k first us b u
    knows_beside first b u unheld not_granted old =
        let hand_other : (x : HandRow) → Contains u.hand x → x.row ≢ r = λ x i. not_part hand_part u.hand (granted_rows u.core) r (rows_granted u.hand u.core.granted old.granted) not_granted x i in
        record {
          there = old.there;
          layout = old.layout;
          epoch = epochs_stay u.number ∙ old.epoch;
          held = old.held;
          rows = λ x i. let o = old.rows x i in let z = others_show x.row (not_part row_part u.rows u.core.held r old.held unheld x i) in
              record { there = o.there; shown = z.words ∙ o.shown; place = z.place ∙ o.place; generation = z.generation ∙ o.generation; agrees = o.agrees };
          granted = old.granted;
          hand = λ x i. let o = old.hand x i in record { there = o.there; shown = (others_show x.row (hand_other x i)).generation ∙ o.shown; below = o.below; fresh = o.fresh };
          vacant = old.vacant;
          placed = λ x i p e. (others_show x.row (hand_other x i)).place ∙ old.placed x i p e;
          found = old.found;
          origin = old.origin;
          seen = old.seen;
          mine = old.mine;
        }

  -- no other pass has the row
  abbrev pub NoOther : List (PassView R B E) → ℕ → ℕ → Type 0
  NoOther passes number r = (p : ℕ) (u : PassView R B E) → p ≢ number → get_elem? passes p ≡ some u → (times r u.core.held ≡ 0) × (times r (granted_rows u.core) ≡ 0)

  pub moved_beside : (k : Layout) (first : B) (s : Table R B E) (h : Holds M k first s) (id : ℕ) (v w : PassView R B E) (e : Event) (r j n : ℕ)
      → get_elem? s.views id ≡ some (v ∷ []) → pass_of e ≡ v.number → w.number ≡ v.number → Guard (core_of M k s.words h.passes h.free h.book) v.core e
      → w.core ≡ pass_after k.levels e (get_or s.words (place_of k.rows k.passes e) 0) v.core
      → free_after e h.free ≡ h.free → M.limbo h.book ≡ limbo_after e (M.limbo h.book)
      → words_after k s.words e ≡ set s.words (515 * r + j) n → r < k.rows → j < 515 → j ≢ 512
      → lock_of s.words r ≢ 0 → generation_of (set s.words (515 * r + j) n) r < M.next_generation h.book → NoOther h.passes v.number r
      → Knows M k first (set s.words (515 * r + j) n) h.book w
      → Holds M k first (record { words = set s.words (515 * r + j) n; homes = s.homes; views = set s.views id (w ∷ []) })
  moved_beside k first s h id v w e r j n me by same guard is free limbo path less near no_lock taken low none knows =
      let ws : List ℕ = set s.words (515 * r + j) n in
      subst (λ (us : List ℕ). Holds M k first (record { words = us; homes = s.homes; views = set s.views id (w ∷ []) })) path
      (moved M k first s h id v w e h.book s.homes me by same guard is (λ q. ap (times q) free ∙ h.same_free q) limbo refl
      (subst (λ (us : List ℕ). Contents M k us h.book s.homes) (sym path) (contents_beside k s.words r j n less near no_lock h.book s.homes taken h.contents))
      (λ q l. subst (λ (us : List ℕ). generation_of us q < M.next_generation h.book) (sym path) (dite (ℕ_discrete q r)
      (λ z. subst (λ (y : ℕ). generation_of ws y < M.next_generation h.book) (sym z) low)
      (λ ne. subst (λ (y : ℕ). y < M.next_generation h.book) (sym (others_show k s.words r j n less near no_lock q ne).generation) (h.generations q l))))
      h.fixed
      (subst (λ (us : List ℕ). Knows M k first us h.book w) (sym path) knows)
      (λ p u ne at. let out = none p u ne at in subst (λ (us : List ℕ). Knows M k first us h.book u) (sym path)
      (knows_beside k s.words r j n less near no_lock first h.book u out.0 out.1 (h.knows p u at))))

  module _ (k : Layout) (first : B) (s : Table R B E) (h : Holds M k first s) (v : PassView R B E) (mine : get_elem? h.passes v.number ≡ some v) where
    abbrev c : Core
    c = core_of M k s.words h.passes h.free h.book

    -- the view of another pass
    its_place : (p : ℕ) (u : PassView R B E) → get_elem? h.passes p ≡ some u → get_elem? h.passes u.number ≡ some u
    its_place p u at = ap (λ (q : ℕ). get_elem? h.passes q) (h.numbers p u at) ∙ at

    -- of a linked row that the pass holds
    pub no_other_held : (r : ℕ) → Has (pass_at c v.number).held r → IsLinked c r → NoOther h.passes v.number r
    no_other_held r has linked p u ne at =
        let its = its_place p u at in let number = h.numbers p u at in
        let alone = held_alone h.good.locks.rows v.number r has u.number (λ e. ne (sym number ∙ e)) in
        let hand = not_in_hand M k first s h u its r linked in
        (sym (ap (λ (y : PassCore). times r y.held) (pass_is M k first s h u its)) ∙ alone, omega arith)

    -- of a row in the pass's hand that it does not hold
    pub no_other_hand : (r : ℕ) → 1 ≤ times_in_hand r (pass_at c v.number) → word c (lock_at r) ≡ stale → NoOther h.passes v.number r
    no_other_hand r has closed p u ne at =
        let its = its_place p u at in let number = h.numbers p u at in
        let know = h.knows p u at in let me = h.knows v.number v mine in
        let is = pass_is M k first s h u its in
        let none = one_hand c r v.number u.number h.good (λ e. ne (sym number ∙ sym e)) me.there know.there has in
        let same = ap (times_in_hand r) is in
        (sym (ap (λ (y : PassCore). times r y.held) is) ∙ stale_unheld h.good r closed u.number, omega arith)

    -- no row stands twice in the hand, and none twice among the held rows
    pub hand_once : (r : ℕ) → times r (map hand_part v.hand) ≤ 1
    hand_once r = let know = h.knows v.number v mine in let all = h.good.sizes.passes in let there = know.there in
        let part = hand-le-out c v.number r (omega arith) in let most = out-le-one h.good.states r in
        let same = ap (times r) (rows_granted v.hand v.core.granted know.granted) in let is = ap (times_in_hand r) (pass_is M k first s h v mine) in omega arith

    pub held_once : (r : ℕ) → times r (map row_part v.rows) ≤ 1
    held_once r = let know = h.knows v.number v mine in let once = h.good.locks.rows.once v.number r in
        let same = ap (times r) know.held in let is = ap (λ (u : PassCore). times r u.held) (pass_is M k first s h v mine) in omega arith
