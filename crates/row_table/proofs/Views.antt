-- What a view says of the core for which the table stands.
use Rattle.std.proofs.Common.{◌≡◌, ℕ, ◌⊎◌, true, false, not, cond, Bool, List, [], ◌∷◌, map, length, get_or, sym, refl, ap, ◌∙◌, subst, inl, inr, ⊎_elim, arith, eqb}
use Rattle.std.specs.List.{Contains, filter}
use mathlib.Core.Option.{some}
use mathlib.Core.Logic.{dite}
use native.Mathlib.Decide.{ℕ_discrete}
use lib.ListN.{get_elem?}
use Rattle.atomic_table.proofs.Lists.{at_map}
use Rattle.walk_core.specs.declared.pass.PassCore.{PassCore}
use Rattle.walk_core.specs.Words.{entry_at, is_link, link_row}
use Rattle.walk_core.specs.Lists.{Has, without}
use Rattle.walk_core.specs.Core.{Core, pass_at, idle, times_in_hand, IsLinked}
use Rattle.walk_core.specs.Guards.{StandsOn, HoldsLinker}
use Rattle.walk_core.proofs.RowLists.{times-nil, times-cons, times-cons_same, times-cons_other, head_or_later, in_head, in_tail}
use Rattle.walk_core.proofs.Facts.{hand-le-out, held_linked}
use Rattle.walk_core.proofs.Keeps.{found_is}
use Rattle.row_layout.specs.declared.places.Layout.{Layout}
use Rattle.row_table.specs.declared.view.PassView.{PassView}
use Rattle.row_table.specs.declared.view.HeldRow.{HeldRow}
use Rattle.row_table.specs.Plan.{Meaning}
use Rattle.row_table.specs.Rule.{Table, core_part, row_part, core_of, Knows, Holds}
use Rattle.row_table.specs.Known.{LinksRow}
use Rattle.row_table.specs.Moves.{NotInHand, MayGrab}
use Rattle.row_table.proofs.Shown.{word_at}

-- Lists

pub kept : {X : Type 0} (t : X → Bool) (xs : List X) (y : X) → Contains (filter t xs) y → (t y ≡ true) × Contains xs y
kept t [] y c = let h = c.1 in absurd (omega arith)
kept {X} t (x ∷ xs) y c = go (kept t xs y) (t x) refl
  where
    go : (Contains (filter t xs) y → (t y ≡ true) × Contains xs y) → (b : Bool) → t x ≡ b → (t y ≡ true) × Contains (x ∷ xs) y
    go rest true e = ⊎_elim (λ (z : x ≡ y). (subst (λ (u : X). t u ≡ true) z e, subst (λ (u : X). Contains (x ∷ xs) u) z (in_head x xs)))
        (λ (z : Contains (filter t xs) y). let o = rest z in (o.0, in_tail x xs y o.1))
        (head_or_later x (filter t xs) y (subst (λ (b : Bool). Contains (cond b (x ∷ filter t xs) (filter t xs)) y) e c))
    go rest false e = let o = rest (subst (λ (b : Bool). Contains (cond b (x ∷ filter t xs) (filter t xs)) y) e c) in (o.0, in_tail x xs y o.1)

module _ {R : Type 0} where
  pub has_row : (hs : List (HeldRow R)) (h : HeldRow R) → Contains hs h → Has (map row_part hs) h.row
  has_row [] h c = let z = c.1 in absurd (omega arith)
  has_row (x ∷ xs) h c = let n = times-cons h.row x.row (map row_part xs) in ⊎_elim
      (λ (z : x ≡ h). let one = times-cons_same h.row x.row (map row_part xs) (ap (λ (u : HeldRow R). u.row) z) in omega arith)
      (λ (z : Contains xs h). let o = has_row xs h z in omega arith) (head_or_later x xs h c)

  pub row_had : (hs : List (HeldRow R)) (r : ℕ) → Has (map row_part hs) r → (h : HeldRow R) × Contains hs h × (h.row ≡ r)
  row_had [] r i = let z = times-nil r in absurd (omega arith)
  row_had (x ∷ xs) r i = dite (ℕ_discrete x.row r)
      (λ e. (x, in_head x xs, e))
      (λ ne. let n = times-cons_other r x.row (map row_part xs) ne in let o = row_had xs r (omega arith) in (o.0, in_tail x xs o.0 o.1, o.2))

  -- the rows without one
  pub rows_without : (r : ℕ) (hs : List (HeldRow R)) → map row_part (filter (λ h. not (eqb h.row r)) hs) ≡ without r (map row_part hs)
  rows_without r [] = refl
  rows_without r (x ∷ xs) = go (rows_without r xs) (eqb x.row r) refl
    where
      go : map row_part (filter (λ h. not (eqb h.row r)) xs) ≡ without r (map row_part xs) → (b : Bool) → eqb x.row r ≡ b
          → map row_part (filter (λ h. not (eqb h.row r)) (x ∷ xs)) ≡ without r (map row_part (x ∷ xs))
      go rest true e = ap (λ (b : Bool). map row_part (cond (not b) (x ∷ filter (λ h. not (eqb h.row r)) xs) (filter (λ h. not (eqb h.row r)) xs))) e
          ∙ (rest ∙ ap (λ (b : Bool). cond (not b) (x.row ∷ without r (map row_part xs)) (without r (map row_part xs))) (sym e))
      go rest false e = ap (λ (b : Bool). map row_part (cond (not b) (x ∷ filter (λ h. not (eqb h.row r)) xs) (filter (λ h. not (eqb h.row r)) xs))) e
          ∙ (ap (λ (l : List ℕ). x.row ∷ l) rest ∙ ap (λ (b : Bool). cond (not b) (x.row ∷ without r (map row_part xs)) (without r (map row_part xs))) (sym e))

-- What a pass that knows v may rely on

module _ {R B E : Type 0} (M : Meaning R B E) (k : Layout) (first : B) (s : Table R B E) (h : Holds M k first s) (v : PassView R B E) (mine : get_elem? h.passes v.number ≡ some v) where
  abbrev pub core_now : Core
  core_now = core_of M k s.words h.passes h.free h.book

  pub pass_is : pass_at core_now v.number ≡ v.core
  pass_is = found_is (map core_part h.passes) v.number v.core idle (at_map core_part h.passes v.number v mine)

  pub count_is : length h.passes ≡ k.passes
  count_is = let all = h.good.sizes.passes in sym (Rattle.std.proofs.lemmas.List.length-map h.passes core_part) ∙ all

  pub knows_it : Knows M k first s.words h.book v
  knows_it = h.knows v.number v mine

  pub has_held : (r : ℕ) → Has v.core.held r → Has (pass_at core_now v.number).held r
  has_held r i = subst (λ (u : PassCore). Has u.held r) (sym pass_is) i

  pub held_of_row : (x : HeldRow R) → Contains v.rows x → Has v.core.held x.row
  held_of_row x i = subst (λ (l : List ℕ). Has l x.row) knows_it.held (has_row v.rows x i)

  -- a row that the pass holds and that is not in its hand is linked
  pub is_linked : (r : ℕ) → Has v.core.held r → NotInHand v r → IsLinked core_now r
  is_linked r i out = held_linked h.good.locks.rows v.number r (has_held r i) (ap (times_in_hand r) pass_is ∙ out)

  -- a linked row is in no hand
  pub not_in_hand : (r : ℕ) → IsLinked core_now r → NotInHand v r
  not_in_hand r l = let tree = l.in_tree in let there = knows_it.there in let all = h.good.sizes.passes in
      let most = hand-le-out core_now v.number r (omega arith) in let same = ap (times_in_hand r) pass_is in omega arith

  pub guard_grab : (r : ℕ) → MayGrab v r → StandsOn v.core r ⊎ HoldsLinker core_now v.core r
  guard_grab r may = ⊎_elim (λ (z : StandsOn v.core r). inl z)
      (λ (l : LinksRow v r). let x : HeldRow R = l.linker in let o = knows_it.rows x l.held in
      let at : get_or s.words (entry_at x.row l.index) 0 ≡ get_or x.words l.index 0 = sym (word_at s.words x.row l.index l.inside) ∙ ap (λ (ws : List ℕ). get_or ws l.index 0) o.shown in
      inr (record { row = x.row; held = held_of_row x l.held; names = record { index = l.index; inside = l.inside; link = ap is_link at ∙ l.link; to_row = ap link_row at ∙ l.to_row } })) may
