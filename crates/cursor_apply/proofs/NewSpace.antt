-- A call that makes an empty space lacks its root alone.
--     root_next      the root may be linked
--     root_there      then all tables are there
use Rattle.std.specs.Prelude.{◌≡◌, ℕ, ◌&&◌, ◌||◌, not, Bool, true, false, cond, List, [], ◌∷◌, Option, is_some}
use Rattle.std.specs.Option.{unwrap_or, option_map_or}
use Rattle.std.specs.FinSet as set
use Rattle.std.specs.FinSet.{contains-union, contains-retain, contains-empty}
use Rattle.std.proofs.Common.{sym, refl, ◌∙◌, ap, subst, arith, inl, inr, eq-eqb}
use Rattle.std.proofs.lemmas.Bool.{true≢false}
use Rattle.corten_base.specs.declared.calls.Call.{Call}
use Rattle.page_map.specs.Effect.{wanted_tables, is_given_up}
use Rattle.page_map.specs.Spaces.{least_absent}
use Rattle.page_map.specs.State.{State, IsConsistent, levels}
use Rattle.page_map.specs.Tables.{Tables, changed_tables}
use Rattle.page_map.proofs.Evaluate.{alike}
use Rattle.page_map.proofs.OwnCalls.{made_is_other}
use Rattle.page_map.proofs.Places.{place_total, place_exact}
use Rattle.table_place.specs.Place.{place_cmp}
use Rattle.row_cells.specs.declared.Cell.{Cell}
use Rattle.row_table.specs.declared.view.PassView.{PassView}
use Rattle.table_place.specs.declared.Place.{Place}
use Rattle.table_place.specs.Place.{directory, parent, root}
use Rattle.machine_plan.specs.declared.kit.Kit.{Kit}
use Rattle.machine_plan.specs.Agrees.{IsTableOf}
use Rattle.machine_plan.specs.Books.{BookData, state_of}
use Rattle.machine_plan.specs.Held.{ListHolds}
use Rattle.machine_plan.specs.HeldRows.{Row}
use Rattle.machine_plan.proofs.Whole.{book_is_consistent}
use Rattle.cursor_apply.specs.Applying.{IsApplicable}
use Rattle.cursor_apply.specs.Linking.{IsNext, LinkedSoFar, MakesSpace}
use Rattle.cursor_apply.specs.Staging.{with_tables}
use Rattle.cursor_apply.proofs.StagedCells.{now_there, came_there}
use Rattle.cursor_apply.proofs.StagedStart.{as_set, changed, is_accepted}

module _ {B E : Type 0} (a b : BookData) (thread : ℕ) (c : Call) (v : PassView (List Cell) B E) (rows : List Row) (kit : Kit) (ready : IsApplicable a b thread c v rows kit) (done : kit.done ≡ true) (space : ℕ) (makes : MakesSpace a c rows space) where
  L : ℕ
  L = levels (state_of a)

  before : IsConsistent (state_of a)
  before = book_is_consistent a ready.books.0

  wanted_is : wanted_tables (state_of a) thread c ≡ root (levels (state_of a)) space ∷ []
  wanted_is = ap (wanted_tables (state_of a) thread) makes.spawns ∙ ap (λ (o : Option ℕ). option_map_or (λ new. root (levels (state_of a)) new ∷ []) o []) makes.new

  keeps : (p : Place) → is_given_up (state_of a) c p ≡ false
  keeps p = ap (λ (x : Call). is_given_up (state_of a) x p) makes.spawns

  tables_now : (p : Place) → set.contains (state_of b).tables p ≡ (set.contains (state_of a).tables p || set.contains (as_set (root (levels (state_of a)) space ∷ [])) p)
  tables_now p =
      ap (λ (s : State). set.contains s.tables p) (is_accepted a b thread c v rows kit ready done).state
      ∙ (ap (λ (s : Tables). set.contains s p) (changed (state_of a) thread c ∙ ap (λ l. changed_tables (is_given_up (state_of a) c) l (state_of a).tables) wanted_is)
      ∙ (contains-union place_total (set.retain (state_of a).tables (λ q. not (is_given_up (state_of a) c q))) (as_set (root (levels (state_of a)) space ∷ [])) p
      ∙ ap (λ t. t || set.contains (as_set (root (levels (state_of a)) space ∷ [])) p) (contains-retain (state_of a).tables (λ q. not (is_given_up (state_of a) c q)) p (alike place_total place_exact (λ q. not (is_given_up (state_of a) c q)) p)
      ∙ (ap (λ t. set.contains (state_of a).tables p && not t) (keeps p) ∙ plain (set.contains (state_of a).tables p)))))
    where
      plain : (t : Bool) → (t && true) ≡ t
      plain true = refl
      plain false = refl

  listed : set.contains (as_set (root (levels (state_of a)) space ∷ [])) (root (levels (state_of a)) space) ≡ true
  listed = now_there set.empty (root (levels (state_of a)) space)

  is_wanted_now : set.contains (state_of b).tables (root (levels (state_of a)) space) ≡ true
  is_wanted_now = tables_now (root (levels (state_of a)) space) ∙ (ap (λ t. set.contains (state_of a).tables (root (levels (state_of a)) space) || t) listed ∙ either (set.contains (state_of a).tables (root (levels (state_of a)) space)))
    where
      either : (t : Bool) → (t || true) ≡ true
      either true = refl
      either false = refl

  -- the space is new
  not_before : set.contains (state_of a).tables (root (levels (state_of a)) space) ≡ true → ⊥
  not_before there =
      let present = before.absent (root (levels (state_of a)) space) there in
      let other = made_is_other (state_of a) 0 0 space present (ap (λ (o : Option ℕ). is_some o) makes.new) in
      true≢false (sym (eq-eqb space (unwrap_or (least_absent (state_of a)) 0) (ap (λ (o : Option ℕ). unwrap_or o 0) (sym makes.new))) ∙ other)

  module _ (so : LinkedSoFar a b thread c kit 0 v rows v rows) where
    absent : set.contains so.tables (root (levels (state_of a)) space) ≡ false
    absent = go (set.contains so.tables (root (levels (state_of a)) space)) refl
      where
        none : (t : Bool) → set.contains (state_of a).tables (root (levels (state_of a)) space) ≡ t → set.contains so.tables (root (levels (state_of a)) space) ≡ true → ⊥
        none true e there = not_before e
        none false e there =
            let l = so.made (root (levels (state_of a)) space) e there in
            let is = ready.rows_left l.0 l.1 in
            by l.0.place l.2 (subst (IsTableOf (state_of a)) is.same_place is.agreed.shown.table)
          where
            by : (p : Place) → p ≡ root (levels (state_of a)) space → IsTableOf (state_of a) p → ⊥
            by p same (inl top) = let few = before.few_levels in let six : 6 ≡ levels (state_of a) = ap (λ (q : Place). q.level) (sym top ∙ same) in absurd (omega (arith, few, six))
            by p same (inr has) = not_before (subst (λ q. set.contains (state_of a).tables q ≡ true) same has)

        go : (t : Bool) → set.contains so.tables (root (levels (state_of a)) space) ≡ t → set.contains so.tables (root (levels (state_of a)) space) ≡ false
        go false e = e
        go true e = absurd (none (set.contains (state_of a).tables (root (levels (state_of a)) space)) refl e)

    pub root_next : IsNext a b thread c kit 0 v rows v rows (root (levels (state_of a)) space)
    root_next = record {
      so_far = so;
      wanted = is_wanted_now;
      absent = absent;
      up = (makes.top.0, makes.top.1, makes.top.2 ∙ sym (ap (λ t. cond t directory (parent (root (levels (state_of a)) space))) (eq-eqb (levels (state_of a)) (levels (state_of a)) refl)));
    }

  pub root_there : (next : ℕ) (w : PassView (List Cell) B E) (rows' : List Row) (so : LinkedSoFar a b thread c kit next v rows w rows') → ListHolds rows' (root (levels (state_of a)) space) → (p : Place) → set.contains (state_of b).tables p ≡ true → set.contains so.tables p ≡ true
  root_there next w rows' so holds p there = go (set.contains (state_of a).tables p) refl
    where
      at_root : (x : Row) → x.place ≡ root (levels (state_of a)) space → IsTableOf (with_tables (state_of a) so.tables) x.place → set.contains so.tables (root (levels (state_of a)) space) ≡ true
      at_root x same (inl top) = let few = before.few_levels in let six : 6 ≡ levels (state_of a) = ap (λ (q : Place). q.level) (sym top ∙ same) in absurd (omega (arith, few, six))
      at_root x same (inr has) = subst (λ q. set.contains so.tables q ≡ true) same has

      is_root : set.contains (state_of a).tables p ≡ false → p ≡ root (levels (state_of a)) space
      is_root none = elim (came_there set.empty (root (levels (state_of a)) space) p (sym (ap (λ t. t || set.contains (as_set (root (levels (state_of a)) space ∷ [])) p) none) ∙ (sym (tables_now p) ∙ there))) [
        | inl e ↦ e
        | inr old ↦ absurd (true≢false (sym old ∙ contains-empty place_cmp p))
      ]

      go : (t : Bool) → set.contains (state_of a).tables p ≡ t → set.contains so.tables p ≡ true
      go true e = so.left p e there
      go false e = ap (set.contains so.tables) (is_root e) ∙ at_root holds.0 holds.2 (so.staged holds.0 holds.1).table
