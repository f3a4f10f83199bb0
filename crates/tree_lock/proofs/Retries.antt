-- A pass that tries again: where another pass held a row, and from the top of the tree.
use Rattle.std.proofs.Common.{◌≡◌, ℕ, ◌≤◌, None, sym, ap, ◌∙◌, subst, refl, arith, List, []}
use Rattle.table_place.specs.declared.Place.{Place}
use Rattle.row_table.specs.declared.view.PassView.{PassView}
use Rattle.row_table.specs.declared.view.Finding.{Finding}
use Rattle.row_table.specs.Known.{IsRight}
use Rattle.row_table.specs.Crossings.{entered, left}
use Rattle.row_table.specs.Close.{HasNothing, IsIdle}
use Rattle.tree_lock.specs.declared.zone.Zone.{Zone}
use Rattle.tree_lock.specs.declared.held.HeldRow.{HeldRow}
use Rattle.tree_lock.specs.declared.below.Spot.{Spot}
use Rattle.tree_lock.specs.Held.{IsInserted}
use Rattle.tree_lock.specs.Release.{emptied}
use Rattle.tree_lock.specs.Zone.{IsZone}
use Rattle.tree_lock.specs.Covers.{HoldsAt, IsListOf}
use Rattle.tree_lock.specs.Tries.{during, IsSameBut, IsFree}
use Rattle.tree_lock.specs.Descents.{HasLevels, IsGot, IsMissed}
use Rattle.tree_lock.specs.Stages.{IsStage, AreThere, IsFresh, Grew}
use Rattle.tree_lock.specs.Waits.{has_found, IsStill, TopHeld, CoverHeld}
use Rattle.tree_lock.proofs.Going.{Going, Walked}
use Rattle.tree_lock.proofs.Growing.{same_on, stage_found}
use Rattle.tree_lock.proofs.Covering.{stage_top, covers_zone, in_the_tree}
use Rattle.tree_lock.proofs.Trying.{no_rows}

module _ {R B E : Type 0} where
  -- ---- findings more

  -- a pass that found more, and its list
  module _ (v w : PassView R B E) (more : List Finding) (found : w ≡ has_found v more) where
    pub list_since : (xs ys : List (HeldRow R)) → ys ≡ xs → IsListOf v.core.held v.rows xs → IsListOf w.core.held w.rows ys
    list_since xs ys same list = subst (λ (y : PassView R B E). IsListOf y.core.held y.rows ys) (sym found) (subst (λ (l : List (HeldRow R)). IsListOf v.core.held v.rows l) (sym same) list)

    pub there_since : AreThere v → AreThere w
    there_since there = subst (λ (y : PassView R B E). AreThere y) (sym found) there

    pub at_since : (row : ℕ) (place : Place) → HoldsAt v.rows row place → HoldsAt w.rows row place
    at_since row place h = subst (λ (y : PassView R B E). HoldsAt y.rows row place) (sym found) h

    pub fresh_since : (levels : ℕ) (place : Place) (first : ℕ) → IsFresh levels v.rows place first → IsFresh levels w.rows place first
    fresh_since levels place first fresh = subst (λ (y : PassView R B E). IsFresh levels y.rows place first) (sym found) fresh

    pub levels_since : (levels : ℕ) → HasLevels levels v → HasLevels levels w
    levels_since levels has = subst (λ (y : PassView R B E). HasLevels levels y) (sym found) has

    pub outside_since : v.core.stand ≡ None → w.core.stand ≡ None
    outside_since outside = ap (λ (y : PassView R B E). y.core.stand) found ∙ outside

  -- ---- a walk that waited at an entry

  pub walked_found : (levels : ℕ) (zone : Zone) (at : Spot) (v w : PassView R B E) (more : List Finding) (xs ys : List (HeldRow R)) (i : ℕ) → Walked levels zone at v xs w ys i → Walked levels zone at v xs (has_found w more) ys i
  walked_found levels zone at v w more xs ys i k = record {
    kept = same_on v w (has_found w more) k.kept refl;
    epoch = k.epoch;
    stage = λ top s. stage_found levels zone top w (has_found w more) ys ys more refl refl (k.stage top s);
    going = k.going;
  }

  -- ---- the covering row

  pub free_still : (v w : PassView R B E) → IsFree v → IsStill v w → IsFree w
  free_still v w free still = record { outside = ap (λ (y : PassView R B E). y.core.stand) still ∙ free.outside; holds_none = ap (λ (y : PassView R B E). y.core.held) still ∙ free.holds_none }

  got_left : (levels : ℕ) (zone : Zone) (t : PassView R B E) (x : HeldRow R) → IsGot levels zone t x → IsGot levels zone (left t) x
  got_left levels zone t x got = record {
    only = got.only;
    rows = got.rows;
    held = got.held;
    same_row = got.same_row;
    same_place = got.same_place;
    listed = got.listed;
    in_tree = got.in_tree;
    is_top = got.is_top;
    over = got.over;
    there = got.there;
    placed = got.placed;
    reached = got.reached;
    grabbed = got.grabbed;
  }

  -- the pass at first, before this descent, inside, where the descent ended, and outside again
  module _ (v w u t x : PassView R B E) (still : IsStill v w) (enters : u ≡ entered w) (kept : IsSameBut u t) (epoch : t.epoch ≡ u.epoch) (leaves : x ≡ left t) where
    same_all : IsSameBut v x
    same_all = same_on v t x (same_on v u t (same_on v w u (subst (IsSameBut v) (sym still) refl) (subst (IsSameBut w) (sym enters) refl)) kept) (subst (IsSameBut t) (sym leaves) refl)

    pub later : v.epoch ≤ w.epoch → v.epoch ≤ x.epoch
    later low = let a = ap (λ (y : PassView R B E). y.epoch) enters in let b = ap (λ (y : PassView R B E). y.epoch) leaves in omega arith

    pub still_missed : (levels : ℕ) (zone : Zone) (row word : ℕ) → IsFree v → IsRight w → IsMissed levels zone t row word → IsStill v x
    still_missed levels zone row word free right missed = same_all ∙ (λ j. during v
        ((ap (λ (y : PassView R B E). y.core.stand) leaves ∙ sym free.outside) j) x.epoch
        ((ap (λ (y : PassView R B E). y.core.held) leaves ∙ missed.holds_none ∙ sym free.holds_none) j)
        ((ap (λ (y : PassView R B E). y.rows) leaves ∙ missed.no_rows ∙ sym none) j) x.findings)
      where
        none : v.rows ≡ []
        none = sym (ap (λ (y : PassView R B E). y.rows) still) ∙ no_rows w right (free_still v w free still).holds_none

    pub top_held : (levels : ℕ) (zone : Zone) (row : HeldRow R) → v.epoch ≤ w.epoch → IsGot levels zone t row → TopHeld levels zone v x row
    top_held levels zone row low got = record {
      same = same_all;
      outside = ap (λ (y : PassView R B E). y.core.stand) leaves;
      rises = let a = ap (λ (y : PassView R B E). y.epoch) enters in let b = ap (λ (y : PassView R B E). y.epoch) leaves in omega arith;
      got = subst (λ (y : PassView R B E). IsGot levels zone y row) (sym leaves) (got_left levels zone t row got);
    }

  -- ---- the cover

  pub first_stage : (levels : ℕ) (zone : Zone) (v w : PassView R B E) (x : HeldRow R) (xs ys : List (HeldRow R)) (h : TopHeld levels zone v w x) → IsZone levels zone → xs ≡ [] → IsInserted x xs ys → IsStage levels zone h.got.only w ys
  first_stage levels zone v w x xs ys h z empty inserted = stage_top levels zone w x h.got xs ys z h.outside empty inserted

  pub cover_held : (levels : ℕ) (zone : Zone) (v w u : PassView R B E) (x : HeldRow R) (ys : List (HeldRow R)) (h : TopHeld levels zone v w x) → IsSameBut w u → u.epoch ≡ w.epoch → IsStage levels zone h.got.only u ys
      → Grew levels zone (record { row = x.row; place = x.place }) w.rows u.rows → CoverHeld levels zone v u ys
  cover_held levels zone v w u x ys h kept epoch last grew = record {
    same = same_on v w u h.same kept;
    outside = last.outside;
    rises = let r = h.rises in omega arith;
    listed = last.list;
    in_tree = in_the_tree levels zone h.got.only u ys last;
    covers = covers_zone levels zone w x h.got u ys last grew;
  }

  -- ---- a pass that gave a cover back

  pub free_of : (v : PassView R B E) → IsIdle v → IsFree v
  free_of v idle = record { outside = idle.outside; holds_none = idle.held }

  pub idle_still : (v w : PassView R B E) → IsStill v w → IsIdle v → IsIdle w
  idle_still v w still idle = subst HasNothing (sym (ap (λ (y : PassView R B E). y.core) still)) idle

  pub idle_again : (levels : ℕ) (zone : Zone) (v w u : PassView R B E) (list : List (HeldRow R)) → CoverHeld levels zone v w list → u ≡ emptied w → IsIdle v → IsIdle u
  idle_again levels zone v w u list held releases idle = record {
    outside = ap (λ (y : PassView R B E). y.core.stand) releases ∙ held.outside;
    held = ap (λ (y : PassView R B E). y.core.held) releases;
    granted = ap (λ (y : PassView R B E). y.core.granted) releases ∙ ap (λ (y : PassView R B E). y.core.granted) held.same ∙ idle.granted;
    unlinked = ap (λ (y : PassView R B E). y.core.unlinked) releases ∙ ap (λ (y : PassView R B E). y.core.unlinked) held.same ∙ idle.unlinked;
    has_not = ap (λ (y : PassView R B E). y.core.has_book) releases ∙ ap (λ (y : PassView R B E). y.core.has_book) held.same ∙ idle.has_not;
  }
