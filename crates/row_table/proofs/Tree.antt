-- The rows that links reach from row 0 are the linked ones of a good core, and make one tree.
use Rattle.std.proofs.Common.{◌≡◌, ◌≢◌, ◌↔◌, ℕ, zero, suc, ◌+◌, ◌<◌, ◌≤◌, true, sym, ap, ◌∙◌, subst, arith}
use mathlib.Core.Logic.{dite}
use native.Mathlib.Decide.{ℕ_discrete}
use Rattle.table_place.specs.declared.Place.{Place}
use Rattle.table_place.specs.Place.{entry_place}
use Rattle.table_place.proofs.Entries.{level_of, below_is}
use Rattle.walk_core.specs.Words.{entry_at, is_link, link_row}
use Rattle.walk_core.specs.Core.{Core, word, place_in, generation_in, IsLinked}
use Rattle.walk_core.specs.Good.{Good}
use Rattle.walk_core.proofs.Tree.{names_linked, linker_linked, names_no_root}
use Rattle.walk_core.proofs.Facts.{root_linked}
use Rattle.walk_core.proofs.Spellings.{zero_no_link}
use Rattle.row_layout.specs.declared.places.Layout.{Layout}
use Rattle.row_table.specs.Plan.{Meaning}
use Rattle.row_table.specs.Rule.{Table, core_of, Holds}
use Rattle.row_table.specs.Rows.{place_at}
use Rattle.row_table.specs.Close.{IsReachedIn, IsReached}
use Rattle.row_table.specs.Tree.{IsNamedOnce, LeadsDown, IsTree}
use Rattle.row_table.proofs.Spans.{Parent, parent_of, row_low, above_level, same_parents, same_place}

module _ {c : Core} (g : Good c) where
  reached_in : (n r : ℕ) → IsReachedIn c.words n r → IsLinked c r
  reached_in zero r z = subst (IsLinked c) (sym z) (root_linked g)
  reached_in (suc n) r t = let l = reached_in n t.0 t.1 in subst (IsLinked c) t.2.3 (names_linked g.links t.0 t.2.0 l.there t.2.1 t.2.2)

  pub reached_linked : (r : ℕ) → IsReached c.words r → IsLinked c r
  reached_linked r i = reached_in i.0 r i.1

  reached_up : (n q : ℕ) → 6 ≤ (place_in c q).level + n → IsLinked c q → IsReached c.words q
  reached_up zero q high l = dite (ℕ_discrete q 0) (λ z. (0, z)) (λ nz. let low = row_low g q nz l in absurd (omega arith))
  reached_up (suc n) q high l = dite (ℕ_discrete q 0) (λ z. (0, z))
      (λ nz. let p = parent_of g q nz l in let o = reached_up n p.row (let more = above_level g q p in omega arith) p.linked in
      (suc o.0, (p.row, o.1, (p.index, p.inside, p.link, p.to_row))))

  pub linked_reached : (q : ℕ) → IsLinked c q → IsReached c.words q
  linked_reached q l = reached_up 6 q (omega arith) l

  -- an entry that links a row, as its parent
  parent_by : (q r i : ℕ) → r < c.rows → i < 512 → is_link (word c (entry_at r i)) ≡ true → link_row (word c (entry_at r i)) ≡ q → Parent c q
  parent_by q r i less inside link to_row = record {
    row = r;
    index = i;
    inside = inside;
    there = less;
    link = link;
    to_row = to_row;
    linked = linker_linked g.links r i less inside link zero_no_link;
    place = ap (place_in c) (sym to_row) ∙ (g.links.links_true r i less inside link).place;
  }

  one_parent : (q r i : ℕ) (p : Parent c q) → r < c.rows → i < 512 → is_link (word c (entry_at r i)) ≡ true → link_row (word c (entry_at r i)) ≡ q → (r ≡ p.row) × (i ≡ p.index)
  unfolding parent_by
  one_parent q r i p less inside link to_row = let other = parent_by q r i less inside link to_row in
      same_parents g q q other p (λ j. place_in c q) (λ e. same_place g other.row p.row other.linked p.linked e)

module _ {R B E : Type 0} (M : Meaning R B E) (k : Layout) (first : B) (s : Table R B E) (h : Holds M k first s) where
  abbrev c : Core
  c = core_of M k s.words h.passes h.free h.book

  is_named : (r : ℕ) → r ≢ 0 → IsReached s.words r → IsNamedOnce k s.words r
  is_named r ne i = let p : Parent c r = parent_of h.good r ne (reached_linked h.good r i) in record {
    linker = p.row;
    reached = linked_reached h.good p.row p.linked;
    index = p.index;
    inside = p.inside;
    link = p.link;
    to_row = p.to_row;
    place = p.place;
    generation = ap (generation_in c) (sym p.to_row) ∙ (h.good.links.links_true p.row p.index p.there p.inside p.link).generation;
    only = λ q j less inside link to_row. one_parent h.good r q j p less inside link to_row;
  }

  leads_down : (r i : ℕ) → IsReached s.words r → i < 512 → is_link (word c (entry_at r i)) ≡ true → LeadsDown k s.words r i
  leads_down r i o inside link = let there = (reached_linked h.good r o).there in record {
    not_root = names_no_root h.good.links r i there inside link;
    place = (h.good.links.links_true r i there inside link).place;
  }

  -- where an entry leads to a root, it is one of the directory
  is_root : (r i : ℕ) → IsReached s.words r → i < 512 → is_link (word c (entry_at r i)) ≡ true → (r ≡ 0) ↔ ((place_at s.words (link_row (word c (entry_at r i)))).level ≡ k.levels)
  is_root r i o inside link =
      let l = reached_linked h.good r o in let is = (leads_down r i o inside link).place in (
        λ e. ap (λ (p : Place). p.level) (is ∙ ap (λ (p : Place). entry_place k.levels p i) (ap (place_at s.words) e ∙ h.good.links.root_place)),
        λ at. dite (ℕ_discrete r 0) (λ e. e) (λ ne.
            let some_level = level_of k.levels (place_at s.words r) (h.good.links.places r ne l) in
            let lower = ap (λ (p : Place). p.level) (is ∙ below_is k.levels (place_at s.words r) i (row_low h.good r ne l)) in absurd (omega arith)),
      )

  pub is_tree : IsTree k s.words
  is_tree = record {
    there = λ r i. (reached_linked h.good r i).there;
    top = h.good.links.root_place;
    apart = λ a b i j e. same_place h.good a b (reached_linked h.good a i) (reached_linked h.good b j) e;
    named = is_named;
    leads = leads_down;
    roots = is_root;
    tables = λ r ne o. h.good.links.places r ne (reached_linked h.good r o);
  }
