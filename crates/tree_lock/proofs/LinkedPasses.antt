-- What the passes that cover zones hold, wherever the rule holds.
use Rattle.std.proofs.Common.{◌≡◌, ℕ, ◌<◌, ◌≤◌, ◌↔◌, true, false, List, map, get_or, sym, ap, ◌∙◌, subst, ⊎_elim, arith}
use Rattle.std.specs.List.{Contains}
use Rattle.std.proofs.lemmas.Bool.{cases_lt, false≢true}
use Rattle.table_place.specs.declared.Place.{Place}
use Rattle.table_place.specs.Place.{entry_place, is_place}
use Rattle.walk_core.specs.Words.{entry_at, is_link, link_row, held_by}
use Rattle.walk_core.specs.Lists.{Has}
use Rattle.row_layout.specs.declared.places.Layout.{Layout}
use Rattle.row_table.specs.declared.view.PassView.{PassView}
use Rattle.row_table.specs.declared.view.HeldRow.{HeldRow as KnownRow}
use Rattle.row_table.specs.Plan.{Meaning}
use Rattle.row_table.specs.Rows.{place_at, lock_of}
use Rattle.row_table.specs.Rule.{Table, row_part, Holds}
use Rattle.row_table.specs.Close.{IsReached}
use Rattle.row_table.specs.Tree.{IsTree}
use Rattle.row_table.specs.Holding.{HeldTrue}
use Rattle.row_table.proofs.Shown.{word_at}
use Rattle.row_table.proofs.Tree.{is_tree}
use Rattle.row_table.proofs.Views.{has_row, row_had}
use Rattle.row_table.proofs.Holding.{rows_true, rows_shown}
use Rattle.tree_lock.specs.declared.zone.Zone.{Zone}
use Rattle.tree_lock.specs.declared.zone.Zone.TheVariants.{Pages, Space, Directory}
use Rattle.tree_lock.specs.Zone.{Meets, Spans}
use Rattle.tree_lock.specs.Covers.{LinkedBy, CoversZone, AreInTree}
use Rattle.tree_lock.specs.Linked.{Links, IsInCover, ShowsCover, ShownAreHeld, ListsAreCovers, CoversAreApart}
use Rattle.tree_lock.proofs.LinkedTree.{IsLinkTree, level_at}
use Rattle.tree_lock.proofs.LinkedCover.{IsClosed, IsTopped, cover_pages, cover_space, cover_directory}
use Rattle.tree_lock.proofs.LinkedTops.{full_to}

module _ {R B E : Type 0} (M : Meaning R B E) (k : Layout) (first : B) (s : Table R B E) (h : Holds M k first s) where
  abbrev levels : ℕ
  levels = k.levels

  pub link_tree : IsLinkTree levels s.words
  link_tree = record {
    few = ⊎_elim (λ (four : levels ≡ 4). omega arith) (λ (five : levels ≡ 5). omega arith) h.good.sizes.bounds.some_levels;
    top = tree.top;
    apart = tree.apart;
    named = λ r ne o. let n = tree.named r ne o in (n.linker, n.reached, record { index = n.index; inside = n.inside; link = n.link; to_row = n.to_row });
    leads = λ p r o l. let down = tree.leads p l.index o l.inside l.link in (
      λ e. down.not_root (l.to_row ∙ e),
      ap (place_at s.words) (sym l.to_row) ∙ down.place,
    );
    tables = tree.tables;
  }
    where
      tree : IsTree k s.words
      tree = is_tree M k first s h

  -- One pass

  module _ (seat : List (PassView R B E)) (in_views : Contains s.views seat) (v : PassView R B E) (in_seat : Contains seat v) where
    abbrev holds : ℕ → Type 0
    holds r = Has v.core.held r

    shown : (x : KnownRow R) → Contains v.rows x → HeldTrue k s.words v x
    shown x has = rows_true M k first s h seat in_views v in_seat x has

    rows_are : map row_part v.rows ≡ v.core.held
    rows_are = rows_shown M k first s h seat in_views v in_seat

    known : (r : ℕ) → holds r → (x : KnownRow R) × Contains v.rows x × (x.row ≡ r)
    known r has = row_had v.rows r (subst (λ (l : List ℕ). Has l r) (sym rows_are) has)

    holds_row : (x : KnownRow R) → Contains v.rows x → holds x.row
    holds_row x has = subst (λ (l : List ℕ). Has l x.row) rows_are (has_row v.rows x has)

    locked : (r : ℕ) → holds r → lock_of s.words r ≡ held_by v.number
    locked r has = let x = known r has in ap (lock_of s.words) (sym x.2) ∙ (shown x.0 x.1).locked

    -- an entry of a held row is the word of the table
    entry : (x : KnownRow R) → Contains v.rows x → (i : ℕ) → i < 512 → get_or x.words i 0 ≡ get_or s.words (entry_at x.row i) 0
    entry x has i inside = ap (λ (ws : List ℕ). get_or ws i 0) (sym (shown x has).words_are) ∙ word_at s.words x.row i inside

    module _ (zone : Zone) (covers : CoversZone levels k.rows zone v.rows) (in_tree : AreInTree v) where
      reached : (r : ℕ) → holds r → IsReached s.words r
      reached r has = let x = known r has in subst (IsReached s.words) x.2 ((shown x.0 x.1).reached (in_tree x.0 x.1))

      links_from : (x : KnownRow R) → Contains v.rows x → (r : ℕ) → Links s.words x.row r → Meets zone (place_at s.words r) → holds r
      links_from x has r l m =
          let same = entry x has l.index l.inside in
          let place : place_at s.words r ≡ entry_place levels x.place l.index = (link_tree.leads x.row r (reached x.row (holds_row x has)) l).1 ∙ ap (λ (p : Place). entry_place levels p l.index) (shown x has).place in
          let at = covers.links x has l.index l.inside (ap is_link same ∙ l.link) (subst (Meets zone) place m) in
          subst holds (at.same_row ∙ (ap link_row same ∙ l.to_row)) (holds_row at.known at.held)

      linked_from : (x : KnownRow R) → Contains v.rows x → LinkedBy levels zone v.rows x.row x.place → (p : ℕ) × holds p × Links s.words p x.row × Meets zone (place_at s.words x.row)
      linked_from x has by =
          let same = entry by.linker by.held by.index by.inside in (
            by.linker.row,
            holds_row by.linker by.held,
            record { index = by.index; inside = by.inside; link = ap is_link (sym same) ∙ by.link; to_row = ap link_row (sym same) ∙ by.to_row },
            subst (Meets zone) (sym (shown x has).place) by.meets,
          )

      is_closed : IsClosed zone s.words holds covers.top.row
      is_closed = record {
        reached = reached;
        top_held = holds_row covers.top covers.held;
        links = λ p r has l m. let x = known p has in links_from x.0 x.1 r (subst (λ (q : ℕ). Links s.words q r) (sym x.2) l) m;
        linked = λ r has ne. let x = known r has in
            subst (λ (q : ℕ). (p : ℕ) × holds p × Links s.words p q × Meets zone (place_at s.words q)) x.2 (linked_from x.0 x.1 (covers.linked x.0 x.1 (λ e. ne (sym x.2 ∙ e))));
      }

      is_topped : (spans : Spans zone covers.top.place) → ((i : ℕ) → i < 512 → Spans zone (entry_place levels covers.top.place i) → is_link (get_or covers.top.words i 0) ≡ false) → IsTopped zone s.words covers.top.row
      is_topped spans lowest = record {
        spans = subst (Spans zone) (sym (shown covers.top covers.held).place) spans;
        lowest = λ r l below.
            let place : place_at s.words r ≡ entry_place levels covers.top.place l.index = (link_tree.leads covers.top.row r (reached covers.top.row (holds_row covers.top covers.held)) l).1 ∙ ap (λ (p : Place). entry_place levels p l.index) (shown covers.top covers.held).place in
            false≢true (sym (lowest l.index l.inside (subst (Spans zone) place below)) ∙ (ap is_link (entry covers.top covers.held l.index l.inside) ∙ l.link));
      }

    cover_held : (zone : Zone) → ShowsCover k zone v → (r : ℕ) → holds r ↔ IsInCover zone s.words r
    cover_held (Pages space f n b) shows =
        cover_pages s.words link_tree space f n b holds shows.covers.top.row shows.is_zone (is_closed (Pages space f n b) shows.covers shows.in_tree) (is_topped (Pages space f n b) shows.covers shows.in_tree shows.covers.is_top.0 shows.covers.is_top.1)
    cover_held (Space space) shows = cover_space s.words link_tree space holds (subst (IsClosed (Space space) s.words holds) shows.covers.is_top.0 (is_closed (Space space) shows.covers shows.in_tree))
    cover_held Directory shows = cover_directory s.words link_tree holds (subst (IsClosed Directory s.words holds) shows.covers.is_top.0 (is_closed Directory shows.covers shows.in_tree))

  pub shown_are_held : ShownAreHeld k s
  shown_are_held seat in_views v in_seat zone shows r = cover_held seat in_views v in_seat zone shows r

  pub lists_are_covers : ListsAreCovers k s
  lists_are_covers seat in_views v in_seat zone shows xs listed r =
      let held = cover_held seat in_views v in_seat zone shows r in let same = listed.exact.held r in
      (λ has. held.0 (omega arith), λ cover. let has = held.1 cover in omega arith)

  -- a row that two passes hold
  one_holder : (one other : List (PassView R B E)) (in_one : Contains s.views one) (in_other : Contains s.views other) (u v : PassView R B E) (of_one : Contains one u) (of_other : Contains other v)
      → (r : ℕ) → Has u.core.held r → Has v.core.held r → u.number ≡ v.number
  one_holder one other in_one in_other u v of_one of_other r i j = let both = sym (locked one in_one u of_one r i) ∙ locked other in_other v of_other r j in omega arith

  pub covers_are_apart : CoversAreApart k s
  covers_are_apart one other in_one in_other u v of_one of_other ne y z hu hv space page a b =
      let p = full_to s.words link_tree y space page hu.is_zone a in let q = full_to s.words link_tree z space page hv.is_zone b in
      let low : level_at s.words p.0 ≤ level_at s.words p.0 = omega arith in let low_other : level_at s.words q.0 ≤ level_at s.words q.0 = omega arith in
      ne (⊎_elim
      (λ (less : level_at s.words p.0 < level_at s.words q.0).
      one_holder one other in_one in_other u v of_one of_other p.0 (hu.all p.0 (p.1.full p.0 p.1.reached low p.1.has)) (hv.all p.0 (q.1.full p.0 p.1.reached (omega arith) p.1.has)))
      (λ (high : level_at s.words q.0 ≤ level_at s.words p.0).
      one_holder one other in_one in_other u v of_one of_other q.0 (hu.all q.0 (p.1.full q.0 q.1.reached high q.1.has)) (hv.all q.0 (q.1.full q.0 q.1.reached low_other q.1.has)))
      (cases_lt (level_at s.words p.0) (level_at s.words q.0)))
