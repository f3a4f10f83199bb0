-- The beginning and the end of a transaction.
use Rattle.std.proofs.Common.{◌≡◌, ℕ, ◌≤◌, List, [], Option, Some, None, sym, refl, ap, ◌∙◌, subst}
use Rattle.std.proofs.lemmas.List.Elements.{All-nil}
use Rattle.std.proofs.lemmas.Option.{same_Some}
use Rattle.corten_base.specs.Pages.{PageRange}
use Rattle.row_cells.specs.declared.Cell.{Cell}
use Rattle.row_table.specs.Passes.{TableModel, model_of, view_of, kit_of, table_of}
use Rattle.row_layout.specs.declared.places.Layout.{Layout}
use Rattle.row_table.specs.Close.{IsIdle, HasNothing}
use Rattle.row_table.specs.Moves.{NotInHand, Fits}
use Rattle.tree_lock.specs.Held.{HeldList}
use Rattle.tree_lock.specs.Release.{MayReleaseAll}
use Rattle.tree_lock.specs.declared.attempt.Tried.{Tried}
use Rattle.tree_lock.specs.declared.zone.Zone.{Zone}
use Rattle.tree_lock.specs.Covers.{CoversZone, AreInTree, IsListOf}
use Rattle.tree_lock.specs.Zone.{IsZone}
use Rattle.tree_lock.specs.Tries.{IsSameBut, IsFree, Tries}
use Rattle.tree_lock.specs.Waits.{IsWorn}
use Rattle.machine_plan.specs.declared.kit.Kit.{Kit}
use Rattle.machine_plan.specs.Cover.{View}
use Rattle.machine_plan.specs.HeldRows.{Row}
use Rattle.machine_plan.specs.Follows.{machine}
use Rattle.mm_txn.specs.Starting.{IsReadyKit}
use Rattle.mm_txn.specs.Machines.{MachineModel, MachinePass, IsReady}
use Rattle.mm_txn.specs.Txns.{HeldRange, TxnModel, range_of, range_zone, IsCover, IsOpen}
use Rattle.mm_txn.specs.Beginning.{IsBegun, IsBack, Misses}

-- the kit that is taken out of a pass that is ready
pub kit_ready : (rows : ℕ) (p : MachinePass) (k : Kit × HeldList (List Cell)) → IsReady rows p → kit_of p ≡ Some k → IsReadyKit rows k
kit_ready rows p k ready taken = subst (IsReadyKit rows) (same_Some ready.1.0 k (sym ready.1.1 ∙ taken)) ready.1.2

pub is_free : (v : View) → IsIdle v → IsFree v
is_free v idle = record { outside = idle.outside; holds_none = idle.held }

-- of a pass that was idle, and now stands, holds and has found other things
pub idle_again : (v w : View) → IsIdle v → IsSameBut v w → w.core.stand ≡ None → w.core.held ≡ [] → IsIdle w
idle_again v w idle same outside held = record {
  outside = outside;
  held = held;
  granted = ap (λ (u : View). u.core.granted) same ∙ idle.granted;
  unlinked = ap (λ (u : View). u.core.unlinked) same ∙ idle.unlinked;
  has_not = ap (λ (u : View). u.core.has_book) same ∙ idle.has_not;
}

module _ (m : MachineModel) (v : View) (q : MachinePass) (k : Kit × HeldList (List Cell)) (space at len : ℕ)
    (member : table_of q ≡ m.table) (no_kit : kit_of q ≡ None) (idle : IsIdle v) where
  abbrev pub held_range : Option PageRange → HeldRange
  held_range r = record { machine = m; pass = q; kit = k.0; list = k.1; space = space; range = r; at = at; len = len }

  pub open_none : IsReadyKit m.table.layout.rows k → view_of q ≡ v → range_of m.table.layout.levels at len ≡ None → IsOpen (held_range None)
  open_none ready same none =
      let now : IsIdle (view_of q) = subst IsIdle (sym same) idle in
      record {
        member = member;
        no_kit = no_kit;
        outside = now.outside;
        granted = now.granted;
        unlinked = now.unlinked;
        has_not = now.has_not;
        plain = (ready.0, ready.1, ready.2, ready.3);
        room = ready.5;
        pages = sym none;
        holds = (now.held, ready.4);
        release = subst (λ (xs : List Row). MayReleaseAll machine xs (view_of q)) (sym ready.4) (All-nil (λ (h : Row). NotInHand (view_of q) h.row × Fits machine (view_of q) h.row h.content));
      }

  module _ (old : Kit × HeldList (List Cell)) (ready : IsReadyKit m.table.layout.rows old) (same_kit : k.0 ≡ old.0) (same_room : k.1.room ≡ old.1.room)
      (same : IsSameBut v (view_of q)) (outside : (view_of q).core.stand ≡ None) (release : MayReleaseAll machine k.1.rows (view_of q)) where
    pub open_some : (r : PageRange) → range_of m.table.layout.levels at len ≡ Some r → IsCover space r (view_of q) k.1.rows → IsOpen (held_range (Some r))
    open_some r some covers = record {
      member = member;
      no_kit = no_kit;
      outside = outside;
      granted = ap (λ (u : View). u.core.granted) same ∙ idle.granted;
      unlinked = ap (λ (u : View). u.core.unlinked) same ∙ idle.unlinked;
      has_not = ap (λ (u : View). u.core.has_book) same ∙ idle.has_not;
      plain = subst (λ (x : Kit). Rattle.mm_txn.specs.Txns.IsPlainKit x) (sym same_kit) (ready.0, ready.1, ready.2, ready.3);
      room = subst (λ n. m.table.layout.rows ≤ n) (sym same_room) ready.5;
      pages = sym some;
      holds = covers;
      release = release;
    }

-- the sizes of the table and the book at its start, as a pass knows them
pub layout_known : (p : MachinePass) → (view_of p).layout ≡ (table_of p).layout
unfolding model_of
layout_known p = refl

-- a kit whose list was filled and emptied again
pub ready_again : (rows : ℕ) (old new : Kit × HeldList (List Cell)) → IsReadyKit rows old → new.0 ≡ old.0 → new.1.rows ≡ [] → new.1.room ≡ old.1.room → IsReadyKit rows new
ready_again rows old new ready same empty room = (
  subst (λ (x : Kit). Rattle.machine_plan.specs.Kits.HasRoom x) (sym same) ready.0,
  subst (λ (x : Kit). Rattle.machine_plan.specs.Kits.IsUngranted x) (sym same) ready.1,
  subst (λ (x : Kit). Rattle.machine_plan.specs.Kits.IsIdle x) (sym same) ready.2,
  subst (λ (x : Kit). Rattle.machine_plan.specs.Kits.IsUnplanned x) (sym same) ready.3,
  empty,
  subst (λ n. rows ≤ n) (sym room) ready.5,
)

-- From a pass that is ready, whose kit was taken out

module _ (m : MachineModel) (p q0 : MachinePass) (old : Kit × HeldList (List Cell)) (space at len : ℕ) (member : table_of p ≡ m.table) (ready : IsReady m.table.layout.rows p)
    (taken : (kit_of p ≡ Some old) × (kit_of q0 ≡ None)) (same0 : (view_of q0 ≡ view_of p) × (table_of q0 ≡ table_of p)) where
  pub kit0 : IsReadyKit m.table.layout.rows old
  kit0 = kit_ready m.table.layout.rows p old ready taken.0

  pub member0 : table_of q0 ≡ m.table
  member0 = same0.1 ∙ member

  pub idle0 : IsIdle (view_of q0)
  idle0 = subst IsIdle (sym same0.0) ready.0

  pub same_but : (w : View) → IsSameBut (view_of q0) w → IsSameBut (view_of p) w
  same_but w same = subst (λ (v : View). IsSameBut v w) same0.0 same

  abbrev pub held_of : MachinePass → Kit × HeldList (List Cell) → Option PageRange → HeldRange
  held_of q k r = record { machine = m; pass = q; kit = k.0; list = k.1; space = space; range = r; at = at; len = len }

  pub made : (E : Option PageRange → ℕ → ℕ → Type 0) (t : TxnModel) (q : MachinePass) (k : Kit × HeldList (List Cell)) (o s : Option PageRange) → t ≡ record { held = held_of q k o; ops = [] } → o ≡ s
      → IsOpen (held_of q k s) → IsSameBut (view_of p) (view_of q) → E s (view_of p).epoch (view_of q).epoch → IsBegun m p space at len t × E t.held.range (view_of p).epoch (view_of t.held.pass).epoch
  made E t q k o s is same opened but counted =
      let all : t ≡ record { held = held_of q k s; ops = [] } = is ∙ ap (λ (r : Option PageRange). record { held = held_of q k r; ops = [] }) same in
      subst (λ (x : TxnModel). IsBegun m p space at len x × E x.held.range (view_of p).epoch (view_of x.held.pass).epoch) (sym all)
      (record { is_open = opened; machine = refl; same = but; space_is = refl; at_is = refl; len_is = refl; no_ops = refl }, counted)

  -- without pages
  pub begun_none : (E : Option PageRange → ℕ → ℕ → Type 0) (t : TxnModel) (o : Option PageRange) → t ≡ record { held = held_of q0 old o; ops = [] } → o ≡ range_of m.table.layout.levels at len → o ≡ None
      → E None (view_of p).epoch (view_of q0).epoch → IsBegun m p space at len t × E t.held.range (view_of p).epoch (view_of t.held.pass).epoch
  begun_none E t o is range none counted =
      made E t q0 old o None is none (open_none m (view_of q0) q0 old space at len member0 taken.1 idle0 kit0 refl (sym range ∙ none)) (subst (λ (u : View). IsSameBut (view_of p) u) (sym same0.0) refl) counted

  module _ (q : MachinePass) (new : Kit × HeldList (List Cell)) (table : table_of q ≡ table_of q0) (same_kit : new.0 ≡ old.0) (same_room : new.1.room ≡ old.1.room) where
    pub begun_some : (E : Option PageRange → ℕ → ℕ → Type 0) (t : TxnModel) (o : Option PageRange) (r : PageRange) (zone : Zone) → t ≡ record { held = held_of q new o; ops = [] } → o ≡ range_of m.table.layout.levels at len → o ≡ Some r
        → zone ≡ range_zone space r → IsZone m.table.layout.levels zone → kit_of q ≡ kit_of q0 → IsSameBut (view_of q0) (view_of q) → (view_of q).core.stand ≡ None → IsListOf (view_of q).core.held (view_of q).rows new.1.rows
        → CoversZone m.table.layout.levels (view_of q).layout.rows zone (view_of q).rows → AreInTree (view_of q) → MayReleaseAll machine new.1.rows (view_of q) → E (Some r) (view_of p).epoch (view_of q).epoch
        → IsBegun m p space at len t × E t.held.range (view_of p).epoch (view_of t.held.pass).epoch
    begun_some E t o r zone is range some zoned is_zone kit same outside listed covers in_tree release counted =
        let depth : m.table.layout.levels ≡ (view_of q).layout.levels = sym (ap (λ (k : Layout). k.levels) (layout_known q ∙ ap (λ (u : TableModel _). u.layout) (table ∙ member0))) in
        let cover : IsCover space r (view_of q) new.1.rows = record {
          listed = listed;
          shows = record {
            is_zone = subst (λ (n : ℕ). IsZone n (range_zone space r)) depth (subst (λ (z : Zone). IsZone m.table.layout.levels z) zoned is_zone);
            covers = subst (λ (n : ℕ). CoversZone n (view_of q).layout.rows (range_zone space r) (view_of q).rows) depth (subst (λ (z : Zone). CoversZone m.table.layout.levels (view_of q).layout.rows z (view_of q).rows) zoned covers);
            in_tree = in_tree;
          };
        } in
        made E t q new o (Some r) is some
        (open_some m (view_of q0) q new space at len (table ∙ member0) (kit ∙ taken.1) idle0 old kit0 same_kit same_room same outside release r (sym range ∙ some) cover)
        (same_but (view_of q) same) counted

    -- and with its kit in place again
    module _ (q' : MachinePass) (empty : new.1.rows ≡ []) (put : kit_of q' ≡ Some new) (same : (view_of q' ≡ view_of q) × (table_of q' ≡ table_of q)) where
      pub back : (view_of q).core ≡ (view_of q0).core → IsBack m q'
      back core = (same.1 ∙ (table ∙ member0), (subst HasNothing (sym (ap (λ (u : View). u.core) same.0 ∙ core)) idle0, (new, put, ready_again m.table.layout.rows old new kit0 same_kit empty same_room)))

      pub worn_out : (o : Option PageRange) (r : PageRange) → o ≡ range_of m.table.layout.levels at len → o ≡ Some r → IsWorn (view_of q0) (view_of q)
          → IsBack m q' × ((s : PageRange) × (range_of m.table.layout.levels at len ≡ Some s)) × IsWorn (view_of p) (view_of q')
      worn_out o r range some worn = (
        back (ap (λ (u : View). u.core) worn.1),
        (r, sym range ∙ some),
        subst (λ (v : View). IsWorn v (view_of q')) same0.0 (subst (λ (w : View). IsWorn (view_of q0) w) (sym same.0) worn),
      )

      pub missed : (found : Tried) (o : Option PageRange) (r : PageRange) (zone : Zone) → (view_of q).core ≡ (view_of q0).core → o ≡ range_of m.table.layout.levels at len → o ≡ Some r → zone ≡ range_zone space r
          → Tries m.table.layout.levels zone (view_of q0) found (view_of q) new.1.rows → Misses m p space at len found q'
      missed found o r zone core range some zoned tries = (
        back core,
        (
          r,
          sym range ∙ some,
          subst (λ (z : Zone). Tries m.table.layout.levels z (view_of p) found (view_of q') []) zoned
              (subst (λ (v : View). Tries m.table.layout.levels zone v found (view_of q') []) same0.0
              (subst (λ (w : View). Tries m.table.layout.levels zone (view_of q0) found w []) (sym same.0)
              (subst (λ (xs : List Row). Tries m.table.layout.levels zone (view_of q0) found (view_of q) xs) empty tries))),
        ),
      )
