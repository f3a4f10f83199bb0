-- An attempt to cover a zone, once the covering row was tried.
use Rattle.std.proofs.Common.{◌≡◌, ◌≢◌, ℕ, ◌<◌, true, sym, ap, ◌∙◌, subst, refl, arith, inl, inr, ⊎_elim, None, List, [], ◌∷◌, map}
use Rattle.std.specs.List.{Contains}
use Rattle.std.proofs.lemmas.List.Elements.{Contains-append_cases}
use Rattle.table_place.specs.declared.Place.{Place}
use Rattle.table_place.specs.Place.{directory, entry_place, is_place}
use Rattle.walk_core.specs.Lists.{times}
use Rattle.row_table.specs.declared.view.PassView.{PassView}
use Rattle.row_table.specs.declared.view.HeldRow.{HeldRow as KnownRow}
use Rattle.row_table.specs.Plan.{Meaning}
use Rattle.row_table.specs.Rule.{row_part}
use Rattle.row_table.specs.Known.{IsPlaced}
use Rattle.row_table.specs.Moves.{NotInHand, Fits}
use Rattle.tree_lock.specs.declared.zone.Zone.{Zone}
use Rattle.tree_lock.specs.declared.zone.Zone.TheVariants.{Pages, Space, Directory}
use Rattle.tree_lock.specs.declared.held.HeldRow.{HeldRow}
use Rattle.tree_lock.specs.declared.below.Taken.{Taken}
use Rattle.tree_lock.specs.Held.{row_numbers, IsInserted}
use Rattle.tree_lock.specs.Order.{IsSpelled}
use Rattle.tree_lock.specs.Release.{MayReleaseAll, emptied}
use Rattle.tree_lock.specs.Zone.{IsTable, IsMet, IsZone}
use Rattle.tree_lock.specs.Reached.{IsOnTheWay, IsTaken}
use Rattle.tree_lock.specs.Covers.{IsTop as IsTopOfZone}
use Rattle.std.specs.Prelude.{slice_index}
use Rattle.walk_core.specs.Words.{is_link}
use Rattle.std.proofs.Common.{false}
use Rattle.tree_lock.specs.Covers.{HoldsAt, LinksHeld, LinkedBy, CoversZone, AreInTree, IsListed, IsListOf}
use Rattle.tree_lock.specs.Tries.{during, IsSameBut}
use Rattle.tree_lock.specs.Descents.{IsOver, IsGot}
use Rattle.tree_lock.specs.Stages.{IsStaged, IsStage, IsFresh, Grew, IsBarred}
use Rattle.tree_lock.specs.Covered.{IsOff}
use Rattle.tree_lock.proofs.Positions.{spelled_directory, spelled_table}
use Rattle.tree_lock.proofs.Rows.{only_row}
use Rattle.tree_lock.proofs.Meeting.{placed, child_is}
use Rattle.tree_lock.proofs.Toppings.{meets_all, none_in, alone}
use Rattle.tree_lock.proofs.Taking.{all_of}

module _ (levels : ℕ) where
  -- a position that may cover a zone is one that the zone meets, or the directory
  met_over : (zone : Zone) (row : ℕ) (place : Place) → IsZone levels zone → IsOver levels zone row place → IsMet levels zone place
  met_over (Pages s f c b) row place z over = ⊎_elim (λ (e : place ≡ directory). inl e) (λ (h : is_place levels place ≡ true). inr (h, meets_all levels s f c b place z over.spans.all)) over.table
  met_over (Space s) row place z over = inl over.from_top.1
  met_over Directory row place z over = inl over.from_top.1

  -- a position is below none of its own entries
  own_child : levels < 6 → (p : Place) (i : ℕ) → IsTable levels p → p ≢ entry_place levels p i
  own_child few p i (inl e) same = let l = ap (λ (q : Place). q.level) (sym e ∙ same ∙ ap (λ (q : Place). entry_place levels q i) e) in absurd (omega arith)
  own_child few p i (inr h) same = let at = placed levels few p h in let low = at.low in let high = at.high in let l = ap (λ (q : Place). q.level) (same ∙ child_is levels p i (omega arith)) in absurd (omega arith)

  pub spelled_over : (zone : Zone) (row : ℕ) (place : Place) → IsOver levels zone row place → IsSpelled place
  spelled_over zone row place over = ⊎_elim (λ (e : place ≡ directory). subst IsSpelled (sym e) spelled_directory) (λ (h : is_place levels place ≡ true). spelled_table levels place over.few h) over.table

  top_lowest : {R : Type 0} (zone : Zone) (h : KnownRow R) → IsTopOfZone levels zone h → (index : ℕ) → index < 512 → IsOnTheWay zone (entry_place levels h.place index) → is_link (slice_index h.words index) ≡ false
  top_lowest (Pages s f c b) h is index few way = is.1 index few way
  top_lowest (Space s) h is index few way = absurd way
  top_lowest Directory h is index few way = absurd way

  module _ {R B E : Type 0} where
    -- ---- the covering row alone

    module _ (zone : Zone) (v : PassView R B E) (x : HeldRow R) (got : IsGot levels zone v x) where
      only_is : (h : KnownRow R) → Contains v.rows h → h ≡ got.only
      only_is h has = alone h got.only (subst (λ (l : List (KnownRow R)). Contains l h) got.rows has)

      pub only_there : Contains v.rows got.only
      only_there = subst (λ (l : List (KnownRow R)). Contains l got.only) (sym got.rows) (0, omega arith, refl)

      pub holds_top : HoldsAt v.rows x.row x.place
      holds_top = record { known = got.only; held = only_there; same_row = got.same_row; same_place = got.same_place }

      pub fresh_top : IsFresh levels v.rows x.place 0
      fresh_top h has index low few same = own_child got.over.few x.place index got.over.table (sym got.same_place ∙ ap (λ (y : KnownRow R). y.place) (sym (only_is h has)) ∙ same)

      pub stage_top : (xs ys : List (HeldRow R)) → IsZone levels zone → v.core.stand ≡ None → xs ≡ [] → IsInserted x xs ys → IsStage levels zone got.only v ys
      stage_top xs ys z out empty inserted = record {
        outside = out;
        list = record {
          exact = record {
            held = λ r. ap (λ (l : List (HeldRow R)). times r (row_numbers l)) list ∙ ap (λ (q : ℕ). times r (q ∷ [])) (sym got.same_row) ∙ ap (times r) (sym got.held);
            shown = ap (map row_part) got.rows ∙ sym got.held;
          };
          each = λ y has. subst (IsListed v.rows) (sym (alone y x (subst (λ (l : List (HeldRow R)). Contains l y) list has))) got.listed;
        };
        below = [];
        rows = got.rows;
        each = λ h has. subst (IsStaged levels zone got.only v) (sym (only_is h has)) staged;
        linked = λ h has. absurd (none_in [] h refl has);
      }
        where
          list : ys ≡ x ∷ []
          list = only_row x xs ys empty inserted

          taken : IsTaken levels zone v.findings 0 got.only.row got.only.place
          taken = subst (λ (p : Place). IsTaken levels zone v.findings 0 got.only.row p) (sym got.same_place) (subst (λ (r : ℕ). IsTaken levels zone v.findings 0 r x.place) (sym got.same_row) (got.reached, got.grabbed))

          staged : IsStaged levels zone got.only v got.only
          staged = record {
            of_cover = record {
              met = subst (IsMet levels zone) (sym got.same_place) (met_over zone x.row x.place z got.over);
              level = omega arith;
              there = subst (λ (r : ℕ). r < v.layout.rows) (sym got.same_row) got.there;
              placed = subst (λ (p : Place). IsPlaced levels got.only.row p) (sym got.same_place) (subst (λ (r : ℕ). IsPlaced levels r x.place) (sym got.same_row) got.placed);
            };
            in_tree = subst (NotInHand v) (sym got.same_row) got.in_tree;
            links = 0;
            taken = taken;
            lowest = top_lowest zone got.only got.is_top;
          }

      -- ---- the cover

      pub covers_zone : (w : PassView R B E) (ys : List (HeldRow R)) → IsStage levels zone got.only w ys → Grew levels zone (record { row = x.row; place = x.place }) v.rows w.rows → CoversZone levels w.layout.rows zone w.rows
      covers_zone w ys s grew = record {
        top = got.only;
        held = subst (λ (l : List (KnownRow R)). Contains l got.only) (sym s.rows) (0, omega arith, refl);
        is_top = got.is_top;
        each = λ h has. (s.each h has).of_cover;
        links = λ h has. ⊎_elim (λ (old : Contains v.rows h). subst (LinksHeld levels zone w.rows) (sym (only_is h old)) (grew.here got.only only_there got.same_row got.same_place)) (λ (new : Contains grew.more h). grew.done h new)
            (Contains-append_cases v.rows grew.more h (subst (λ (l : List (KnownRow R)). Contains l h) grew.rows has));
        linked = λ h has ne. ⊎_elim (λ (one : Contains (got.only ∷ []) h). absurd (ne (ap (λ (y : KnownRow R). y.row) (alone h got.only one)))) (λ (back : Contains s.below h). s.linked h back)
            (Contains-append_cases (got.only ∷ []) s.below h (subst (λ (l : List (KnownRow R)). Contains l h) s.rows has));
      }

    pub in_the_tree : (zone : Zone) (top : KnownRow R) (w : PassView R B E) (ys : List (HeldRow R)) → IsStage levels zone top w ys → AreInTree w
    in_the_tree zone top w ys s h has = (s.each h has).in_tree

    -- ---- the list is given back

    pub may_release : (M : Meaning R B E) (v : PassView R B E) (xs : List (HeldRow R)) → IsListOf v.core.held v.rows xs → AreInTree v → MayReleaseAll M xs v
    may_release M v xs list tree = all_of (λ x. NotInHand v x.row × Fits M v x.row x.content) xs (λ x has. let l = list.each x has in
        (subst (NotInHand v) l.same_row (tree l.known l.held), record { known = l.known; held = l.held; same_row = l.same_row; content_fits = inl (l.not_given, l.found, l.same_words) }))

    pub barred_emptied : (zone : Zone) (v w : PassView R B E) (taken : Taken) → IsBarred levels zone v taken → w ≡ emptied v → IsBarred levels zone w taken
    barred_emptied zone v w taken b e = subst (λ (y : PassView R B E). IsBarred levels zone y taken) (sym e) (record { another = record { there = b.another.there; other = b.another.other }; place = b.place; last = b.last; is_below = b.is_below })

    pub off_emptied : (u v w : PassView R B E) → IsSameBut u v → v.core.stand ≡ None → v.epoch ≡ u.epoch → w ≡ emptied v → IsOff u w
    off_emptied u v w same out epoch e = record {
      same = e ∙ ap emptied same ∙ (λ j. during u (ap (λ (y : PassView R B E). y.core.stand) (sym e) j) (ap (λ (y : PassView R B E). y.epoch) (sym e) j) (ap (λ (y : PassView R B E). y.core.held) (sym e) j) (ap (λ (y : PassView R B E). y.rows) (sym e) j) (ap (λ (y : PassView R B E). y.findings) (sym e) j));
      outside = ap (λ (y : PassView R B E). y.core.stand) e ∙ out;
      epoch = ap (λ (y : PassView R B E). y.epoch) e ∙ epoch;
      holds_none = ap (λ (y : PassView R B E). y.core.held) e;
      no_rows = ap (λ (y : PassView R B E). y.rows) e;
    }
