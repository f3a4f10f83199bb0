-- An attempt to cover a zone as a whole.
use Rattle.std.proofs.Common.{◌≡◌, ◌≢◌, ℕ, ◌+◌, ◌^◌, ◌<◌, sym, ap, ◌∙◌, subst, refl, arith, inl, inr, None, List, [], ◌∷◌, map, length}
use Rattle.walk_core.specs.Words.{held_by, stale}
use Rattle.walk_core.specs.Events.{top}
use Rattle.row_table.specs.declared.view.PassView.{PassView}
use Rattle.row_table.specs.declared.view.HeldRow.{HeldRow as KnownRow}
use Rattle.row_table.specs.Rule.{row_part}
use Rattle.row_table.specs.Known.{IsRight, IsAnother}
use Rattle.row_table.specs.Crossings.{entered, left}
use Rattle.tree_lock.specs.declared.zone.Zone.{Zone}
use Rattle.tree_lock.specs.declared.held.HeldRow.{HeldRow}
use Rattle.tree_lock.specs.declared.attempt.Tried.{Tried}
use Rattle.tree_lock.specs.declared.attempt.Tried.TheVariants.{Held, Busy, Stale, Worn}
use Rattle.tree_lock.specs.Reached.{LastGrab, IsReached}
use Rattle.tree_lock.specs.Tries.{during, IsSameBut, IsFree, IsAway, IsPages, Tries, OnHeld}
use Rattle.tree_lock.specs.Descents.{Stands, IsMissed}
use Rattle.tree_lock.specs.Covered.{TakesAll}
use Rattle.row_table.specs.Plan.{Meaning}
use Rattle.tree_lock.specs.Release.{MayReleaseAll}
use Rattle.tree_lock.proofs.Growing.{same_on}
use Rattle.tree_lock.proofs.Covering.{may_release}

module _ {R B E : Type 0} where
  -- a pass that holds nothing has no rows in its view
  pub no_rows : (v : PassView R B E) → IsRight v → v.core.held ≡ [] → v.rows ≡ []
  no_rows v right none = go v.rows (right.rows ∙ none)
    where
      go : (rows : List (KnownRow R)) → map row_part rows ≡ [] → rows ≡ []
      go [] e = refl
      go (h ∷ hs) e = absurd (let n = ap length e in cc)

  pub stands_inside : (v u : PassView R B E) → IsFree v → IsRight v → u ≡ entered v → Stands u top
  stands_inside v u free right e = subst (λ (y : PassView R B E). Stands y top) (sym e) (record { on = refl; holds_none = free.holds_none; no_rows = no_rows v right free.holds_none })

  -- the pass before, inside, where the descent ended, and outside again
  module _ (v u w x : PassView R B E) (free : IsFree v) (right : IsRight v) (enters : u ≡ entered v) (kept : IsSameBut u w) (epoch : w.epoch ≡ u.epoch) (leaves : x ≡ left w) (levels : ℕ) where
    same_all : IsSameBut v x
    same_all = same_on v w x (same_on v u w (subst (IsSameBut v) (sym enters) refl) kept) (subst (IsSameBut w) (sym leaves) refl)

    epoch_all : x.epoch ≡ v.epoch + 2
    epoch_all = let a = ap (λ (y : PassView R B E). y.epoch) enters in let b = ap (λ (y : PassView R B E). y.epoch) leaves in omega arith

    away : (y : PassView R B E) → IsSameBut v y → y.core.stand ≡ None → y.epoch ≡ v.epoch + 2 → y.core.held ≡ [] → y.rows ≡ [] → IsAway v y
    away y same out count none rows = same ∙ (λ j. during v ((out ∙ sym free.outside) j) (count j) ((none ∙ sym free.holds_none) j) ((rows ∙ sym (no_rows v right free.holds_none)) j) y.findings)

    another_all : (y : PassView R B E) (seat : ℕ) → IsSameBut v y → IsAnother y seat → IsAnother v seat
    another_all y seat same a = record {
      there = subst (λ (k : _). seat < k.passes) (ap (λ (z : PassView R B E). z.layout) same) a.there;
      other = subst (λ (n : ℕ). seat ≢ n) (ap (λ (z : PassView R B E). z.number) same) a.other;
    }

    away_missed : (zone : Zone) (row word : ℕ) → IsMissed levels zone w row word → IsAway v x
    away_missed zone row word m = away x same_all (ap (λ (y : PassView R B E). y.core.stand) leaves) epoch_all (ap (λ (y : PassView R B E). y.core.held) leaves ∙ m.holds_none) (ap (λ (y : PassView R B E). y.rows) leaves ∙ m.no_rows)

    pub tried_busy : (zone : Zone) (row seat : ℕ) (list : List (HeldRow R)) → v.epoch < 2 ^ 62 → IsAnother w seat → IsMissed levels zone w row (held_by seat) → list ≡ [] → Tries levels zone v (Busy row seat) x list
    tried_busy zone row seat list few a m empty = (
      few,
      away_missed zone row (held_by seat) m,
      record {
        another = another_all w seat (same_on v u w (subst (IsSameBut v) (sym enters) refl) kept) a;
        place = m.place;
        last = subst (λ (y : PassView R B E). LastGrab y.findings row m.place (held_by seat)) (sym leaves) m.last;
        where_it_is = inl (subst (λ (y : PassView R B E). IsReached levels zone y.findings row m.place) (sym leaves) m.reached);
      },
      empty,
    )

    pub tried_stale : (zone : Zone) (row : ℕ) (list : List (HeldRow R)) → v.epoch < 2 ^ 62 → IsPages zone → IsMissed levels zone w row stale → list ≡ [] → Tries levels zone v (Stale row) x list
    tried_stale zone row list few pages m empty = (
      few,
      away_missed zone row stale m,
      record {
        pages = pages;
        place = m.place;
        last = subst (λ (y : PassView R B E). LastGrab y.findings row m.place stale) (sym leaves) m.last;
        reached = subst (λ (y : PassView R B E). IsReached levels zone y.findings row m.place) (sym leaves) m.reached;
      },
      empty,
    )

    pub tried_all : (zone : Zone) (answer : Tried) (y : PassView R B E) (list : List (HeldRow R)) → v.epoch < 2 ^ 62 → TakesAll levels zone x answer y list → Tries levels zone v answer y list
    tried_all zone Held y list few t = (few, record { same = same_on v x y same_all t.same; outside = t.outside; twice = t.epoch ∙ epoch_all; listed = t.listed; covers = t.covers; in_tree = t.in_tree })
    tried_all zone (Busy row seat) y list few t = (
      few,
      away y (same_on v x y same_all t.0.same) t.0.outside (t.0.epoch ∙ epoch_all) t.0.holds_none t.0.no_rows,
      record { another = another_all y seat (same_on v x y same_all t.0.same) t.1.another; place = t.1.place; last = t.1.last; where_it_is = inr t.1.is_below },
      t.2,
    )
    tried_all zone (Stale row) y list few t = absurd t
    tried_all zone Worn y list few t = absurd t

  -- the list of a cover may be given back as it is
  pub released_after : (M : Meaning R B E) (levels : ℕ) (zone : Zone) (v w : PassView R B E) (answer : Tried) (list : List (HeldRow R)) → TakesAll levels zone v answer w list → OnHeld answer (MayReleaseAll M list w)
  released_after M levels zone v w Held list t = may_release levels M w list t.listed t.in_tree
  released_after M levels zone v w (Busy row seat) list t = tt
  released_after M levels zone v w (Stale row) list t = tt
  released_after M levels zone v w Worn list t = tt
