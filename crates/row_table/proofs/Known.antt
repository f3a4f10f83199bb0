-- What the rule says of a row that a pass looks at or grabs, and which rows a pass keeps as there.
use Rattle.std.proofs.Common.{◌≡◌, ◌≢◌, ℕ, ◌%◌, ◌<◌, ◌≤◌, true, List, length, get_or, sym, ap, ◌∙◌, subst, inl, inr, ⊎_elim, arith}
use Rattle.std.specs.List.{Contains}
use Rattle.std.proofs.lemmas.Bool.{cases_lt}
use Rattle.std.proofs.lemmas.List.{get_or_past}
use mathlib.Core.Option.{some}
use mathlib.Core.Logic.{dite}
use native.Mathlib.Decide.{ℕ_discrete}
use lib.ListN.{get_elem?}
use Rattle.table_place.specs.Place.{entry_place, is_place}
use Rattle.walk_core.specs.declared.pass.PassCore.{PassCore}
use Rattle.walk_core.specs.Words.{entry_at, lock_at, is_link, link_row, link_generation, held_by, stale}
use Rattle.walk_core.specs.Lists.{Has, times}
use Rattle.walk_core.specs.Core.{Core, pass_at, idle, IsLinked}
use Rattle.walk_core.specs.Good.{inside, Good, LockSays, says_free, says_held, says_stale}
use Rattle.walk_core.proofs.RowLists.{times-nil}
use Rattle.walk_core.proofs.Facts.{root_linked}
use Rattle.walk_core.proofs.Tree.{names_there, names_linked, names_no_root}
use Rattle.row_layout.specs.declared.places.Layout.{Layout}
use Rattle.row_table.specs.declared.view.PassView.{PassView}
use Rattle.row_table.specs.declared.view.HeldRow.{HeldRow}
use Rattle.row_table.specs.Plan.{Meaning}
use Rattle.row_table.specs.Rows.{row_words, place_at, generation_of}
use Rattle.row_table.specs.Rule.{Table, core_of, Holds}
use Rattle.row_table.specs.Known.{LinksRow, IsKnownPlace, IsKnownGeneration, IsHolder, IsLoose, LinksBelow, LinksLead, LinksDown, IsPlaced, IsRight}
use Rattle.row_table.proofs.Shown.{word_at, words_long}
use Rattle.row_table.proofs.Hands.{rows_granted}
use Rattle.row_table.proofs.Views.{pass_is, has_held}

-- a pass that holds a row is there
pub held_below : (c : Core) (p r : ℕ) → Good c → Has (pass_at c p).held r → p < c.count
held_below c p r g has = ⊎_elim (λ (less : p < c.count). less)
    (λ past. let all = g.sizes.passes in let none = ap (λ (u : PassCore). times r u.held) (get_or_past c.passes p idle (omega arith)) ∙ times-nil r in absurd (omega arith)) (cases_lt p c.count)

module _ {R B E : Type 0} (M : Meaning R B E) (k : Layout) (first : B) (s : Table R B E) (h : Holds M k first s) (v : PassView R B E) (mine : get_elem? h.passes v.number ≡ some v) where
  abbrev c : Core
  c = core_of M k s.words h.passes h.free h.book

  -- an entry of a held row is the word of the table
  entry_is : (x : HeldRow R) → Contains v.rows x → (i : ℕ) → i < 512 → get_or s.words (entry_at x.row i) 0 ≡ get_or x.words i 0
  entry_is x j i inside = sym (word_at s.words x.row i inside) ∙ ap (λ (ws : List ℕ). get_or ws i 0) ((h.knows v.number v mine).rows x j).shown

  pub place_known : (r : ℕ) → IsKnownPlace v r (place_at s.words r)
  place_known r =
      let know = h.knows v.number v mine in record {
        of_stand = λ t is same. let stand = h.good.stands.stand v.number t (ap (λ (u : PassCore). u.stand) (pass_is M k first s h v mine) ∙ is) in ap (place_at s.words) (sym same) ∙ stand.place;
        of_held = λ x j same. ap (place_at s.words) (sym same) ∙ (know.rows x j).place;
        of_entry = λ l. let o = know.rows l.linker l.held in let at = entry_is l.linker l.held l.index l.inside in
            let t = h.good.links.links_true l.linker.row l.index o.there l.inside (ap is_link at ∙ l.link) in
            ap (place_at s.words) (sym (ap link_row at ∙ l.to_row)) ∙ (t.place ∙ (λ j. entry_place (sym know.layout j).levels (o.place j) l.index));
      }

  pub generation_known : (r : ℕ) → IsKnownGeneration v r (generation_of s.words r)
  generation_known r =
      let know = h.knows v.number v mine in record {
        of_stand = λ t is same. let stand = h.good.stands.stand v.number t (ap (λ (u : PassCore). u.stand) (pass_is M k first s h v mine) ∙ is) in ap (generation_of s.words) (sym same) ∙ stand.generation;
        of_held = λ x j same. ap (generation_of s.words) (sym same) ∙ (know.rows x j).generation;
        of_entry = λ l. let o = know.rows l.linker l.held in let at = entry_is l.linker l.held l.index l.inside in
            let t = h.good.links.links_true l.linker.row l.index o.there l.inside (ap is_link at ∙ l.link) in
            ap (generation_of s.words) (sym (ap link_row at ∙ l.to_row)) ∙ (t.generation ∙ ap link_generation at);
      }

  -- the rows that the entries of a row link are there
  pub links_below : (r : ℕ) → r < k.rows → LinksBelow v.layout.rows (row_words s.words r)
  links_below r less i inside link =
      let at = word_at s.words r i inside in let know = h.knows v.number v mine in
      let there = names_there h.good.links r i less inside (ap is_link (sym at) ∙ link) in
      subst (λ (y : Layout). link_row (get_or (row_words s.words r) i 0) < y.rows) (sym know.layout) (subst (λ (n : ℕ). link_row n < k.rows) (sym at) there)

  pub link_below : (r i : ℕ) → r < k.rows → i < 512 → is_link (get_or s.words (entry_at r i) 0) ≡ true → link_row (get_or s.words (entry_at r i) 0) < v.layout.rows
  link_below r i less inside link = let know = h.knows v.number v mine in
      subst (λ (y : Layout). link_row (get_or s.words (entry_at r i) 0) < y.rows) (sym know.layout) (names_there h.good.links r i less inside link)

  -- a link leads to the position of a table
  pub link_leads : (r i : ℕ) → r < k.rows → i < 512 → is_link (get_or s.words (entry_at r i) 0) ≡ true → is_place v.layout.levels (entry_place v.layout.levels (place_at s.words r) i) ≡ true
  link_leads r i less inside link =
      let q : ℕ = link_row (get_or s.words (entry_at r i) 0) in
      let l = names_linked h.good.links r i less inside link in
      let t = h.good.links.links_true r i less inside link in
      let there = h.good.links.places q (names_no_root h.good.links r i less inside link) l in
      subst (λ (y : Layout). is_place y.levels (entry_place y.levels (place_at s.words r) i) ≡ true) (sym (h.knows v.number v mine).layout) (ap (is_place k.levels) (sym t.place) ∙ there)

  pub links_lead : (r : ℕ) → r < k.rows → LinksLead v.layout.levels (place_at s.words r) (row_words s.words r)
  links_lead r less i inside link = link_leads r i less inside (ap is_link (sym (word_at s.words r i inside)) ∙ link)

  pub links_down : (r : ℕ) → r < k.rows → LinksDown (row_words s.words r)
  links_down r less i inside link = let at = word_at s.words r i inside in
      subst (λ (n : ℕ). link_row n ≢ 0) (sym at) (names_no_root h.good.links r i less inside (ap is_link (sym at) ∙ link))

  -- a row in the tree
  pub placed_now : (r : ℕ) → IsLinked c r → IsPlaced v.layout.levels r (place_at s.words r)
  placed_now r l = subst (λ (y : Layout). IsPlaced y.levels r (place_at s.words r)) (sym (h.knows v.number v mine).layout) (dite (ℕ_discrete r 0)
      (λ e. inl (e, ap (place_at s.words) e ∙ h.good.links.root_place))
      (λ ne. inr (ne, h.good.links.places r ne l)))

  pub right_now : IsRight v
  right_now =
      let know = h.knows v.number v mine in let is = pass_is M k first s h v mine in record {
        levels = subst (λ (y : Layout). (4 ≤ y.levels) × (y.levels ≤ 5)) (sym know.layout) (⊎_elim (λ (e : k.levels ≡ 4). (omega arith, omega arith)) (λ (e : k.levels ≡ 5). (omega arith, omega arith)) h.good.sizes.bounds.some_levels);
        number = subst (λ (y : Layout). v.number < y.passes) (sym know.layout) know.there;
        rows = know.held;
        once = λ r. subst (λ (u : PassCore). times r u.held ≤ 1) is (h.good.locks.rows.once v.number r);
        long = λ y i. ap length (sym (know.rows y i).shown) ∙ words_long s.words y.row;
        hand = rows_granted v.hand v.core.granted know.granted;
        parity = ap (λ (e : ℕ). e % 2) (sym know.epoch) ∙ (h.good.stands.parity v.number know.there ∙ ap (λ (u : PassCore). inside u.stand) is);
        bounded = (let low = h.good.stands.bounded v.number know.there in let e = know.epoch in omega arith);
      }

  -- a row that a held row links is in the tree
  linked_row : (r : ℕ) → LinksRow v r → IsLinked c r
  linked_row r l = let o = (h.knows v.number v mine).rows l.linker l.held in let at = entry_is l.linker l.held l.index l.inside in
      subst (IsLinked c) (ap link_row at ∙ l.to_row) (names_linked h.good.links l.linker.row l.index o.there l.inside (ap is_link at ∙ l.link))

  pub loose_row : (r : ℕ) → r < k.rows → get_or s.words (lock_at r) 0 ≡ stale → IsLoose v r
  loose_row r less shown =
      let few = h.good.sizes.bounds.count_high in record {
        not_held = λ has. let on = has_held M k first s h v mine r has in let one = (h.good.locks.rows.held v.number r on).shown in let there = held_below c v.number r h.good on in omega arith;
        not_root = λ z. says (subst (IsLinked c) (sym z) (root_linked h.good)) (get_or s.words (lock_at r) 0) shown (h.good.locks.rows.each r less);
        unlinked = λ l. says (linked_row r l) (get_or s.words (lock_at r) 0) shown (h.good.locks.rows.each r less);
      }
    where
      says : IsLinked c r → (n : ℕ) → n ≡ stale → LockSays c r n → ⊥
      says l n is (says_free z t) = let clash : 0 ≡ stale = sym z ∙ is in omega arith
      says l n is (says_held p is_held has) = let there = held_below c p r h.good has in let few = h.good.sizes.bounds.count_high in omega arith
      says l n is (says_stale z out) = let tree = l.in_tree in omega arith

  -- the row is held by a pass
  pub holder_of : (r n : ℕ) → r < k.rows → n ≡ get_or s.words (lock_at r) 0 → n ≢ 0 → n ≢ stale → (q : ℕ) × (n ≡ held_by q) × IsHolder v r q
  holder_of r n less is some_one no_stale = says n is (subst (LockSays c r) (sym is) (h.good.locks.rows.each r less)) some_one no_stale
    where
      says : (n : ℕ) → n ≡ get_or s.words (lock_at r) 0 → LockSays c r n → n ≢ 0 → n ≢ stale → (q : ℕ) × (n ≡ held_by q) × IsHolder v r q
      says n is (says_free z t) nz ns = absurd (nz z)
      says n is (says_stale z out) nz ns = absurd (ns z)
      says n is (says_held p is_held has) nz ns = (
        p,
        is_held,
        record {
          there = subst (λ (y : Layout). p < y.passes) (sym (h.knows v.number v mine).layout) (held_below c p r h.good has);
          own = λ mine_too. let one = (h.good.locks.rows.held v.number r (has_held M k first s h v mine r mine_too)).shown in omega arith;
          other = dite (ℕ_discrete p v.number)
              (λ e. inr (subst (λ (u : PassCore). Has u.held r) (pass_is M k first s h v mine) (subst (λ (q : ℕ). Has (pass_at c q).held r) e has)))
              (λ ne. inl ne);
        },
      )
