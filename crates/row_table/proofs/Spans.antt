-- Spans of the rows of the tree: no two linked rows have one position, and where a held row is in reach.
use Rattle.std.proofs.Common.{◌≡◌, ◌≢◌, ℕ, zero, suc, ◌+◌, ◌-◌, ◌*◌, ◌/◌, ◌^◌, ◌<◌, ◌≤◌, ◌⊎◌, true, sym, ap, ◌∙◌, subst, inl, inr, ⊎_elim, arith}
use Rattle.std.proofs.Math.Nat.{div-div-eq-div-mul}
use Rattle.std.proofs.Math.Pow.{pow-add}
use mathlib.Core.Logic.{dite}
use native.Mathlib.Decide.{ℕ_discrete}
use Rattle.table_place.specs.declared.Place.{Place}
use Rattle.table_place.specs.Place.{root, directory, entry_place, has_page}
use Rattle.table_place.proofs.Entries.{page_parts, page_from, level_of, below_is, entry_page, same_span}
use Rattle.walk_core.specs.Words.{entry_at, is_link, link_row}
use Rattle.walk_core.specs.Core.{Core, word, place_in, IsLinked}
use Rattle.walk_core.specs.Good.{Good}
use Rattle.walk_core.proofs.Spellings.{zero_no_link}
use Rattle.walk_core.proofs.Tree.{linker_linked, named_by}
use Rattle.row_table.specs.Plan.{Covers}

-- Places

-- of two spans with a common page the one of the lower level lies in the other
pub nested : (p q : Place) (space page : ℕ) → p.level < 6 → p.level ≤ q.level → (q.level < 6) ⊎ (q ≡ directory) → has_page p space page ≡ true → has_page q space page ≡ true → Covers q p
nested p q space page low less (inr top) a b s x h = ap (λ (y : Place). has_page y s x) top
nested p q space page low less (inl lower) a b s x h =
    let one = page_parts p space page low a in let two = page_parts q space page lower b in let three = page_parts p s x low h in
    let whole : p.level + (q.level - p.level) ≡ q.level = omega arith in
    let split : (y : ℕ) → y / 512 ^ q.level ≡ y / 512 ^ p.level / 512 ^ (q.level - p.level)
    = λ y. ap (λ (n : ℕ). y / 512 ^ n) (sym whole) ∙ (ap (λ (d : ℕ). y / d) (pow-add 512 p.level (q.level - p.level)) ∙ sym (div-div-eq-div-mul y (512 ^ p.level) (512 ^ (q.level - p.level)))) in
    page_from q s x lower (two.0 ∙ (sym one.0 ∙ three.0))
    (split x ∙ (ap (λ (n : ℕ). n / 512 ^ (q.level - p.level)) (three.1 ∙ sym one.1) ∙ (sym (split page) ∙ two.1)))

-- The tree

-- the row that links a row
pub record Parent (c : Core) (q : ℕ) : Type 0 where
  pub row : ℕ
  pub index : ℕ
  pub inside : index < 512
  pub there : row < c.rows
  pub link : is_link (word c (entry_at row index)) ≡ true
  pub to_row : link_row (word c (entry_at row index)) ≡ q
  pub linked : IsLinked c row
  pub place : place_in c q ≡ entry_place c.levels (place_in c row) index

module _ {c : Core} (g : Good c) where
  pub parent_of : (q : ℕ) → q ≢ 0 → IsLinked c q → Parent c q
  parent_of q ne l = let n = named_by g.links q ne l in record {
    row = n.0;
    index = n.1;
    there = n.2;
    inside = n.3;
    link = n.4;
    to_row = n.5;
    linked = linker_linked g.links n.0 n.1 n.2 n.3 n.4 zero_no_link;
    place = ap (place_in c) (sym n.5) ∙ (g.links.links_true n.0 n.1 n.2 n.3 n.4).place;
  }

  levels_few : c.levels < 6
  levels_few = ⊎_elim (λ (e : c.levels ≡ 4). omega arith) (λ (e : c.levels ≡ 5). omega arith) g.sizes.bounds.some_levels

  levels_some : 4 ≤ c.levels
  levels_some = ⊎_elim (λ (e : c.levels ≡ 4). omega arith) (λ (e : c.levels ≡ 5). omega arith) g.sizes.bounds.some_levels

  row_level : (q : ℕ) → q ≢ 0 → IsLinked c q → (1 ≤ (place_in c q).level) × ((place_in c q).level ≤ c.levels)
  row_level q ne l = level_of c.levels (place_in c q) (g.links.places q ne l)

  pub row_low : (q : ℕ) → q ≢ 0 → IsLinked c q → (place_in c q).level < 6
  row_low q ne l = let h = (row_level q ne l).1 in let few = levels_few in omega arith

  top_level : (place_in c 0).level ≡ 6
  top_level = ap (λ (p : Place). p.level) g.links.root_place

  -- a row below the directory
  below_top : (q : ℕ) (p : Parent c q) → p.row ≡ 0 → place_in c q ≡ root c.levels p.index
  below_top q p e = p.place ∙ (ap (λ (x : Place). entry_place c.levels x p.index) (ap (place_in c) e ∙ g.links.root_place))

  below_row : (q : ℕ) (p : Parent c q) → p.row ≢ 0 → place_in c q ≡ record { space = (place_in c p.row).space; level = (place_in c p.row).level - 1; prefix = 512 * (place_in c p.row).prefix + p.index }
  below_row q p ne = p.place ∙ below_is c.levels (place_in c p.row) p.index (row_low p.row ne p.linked)

  -- a parent's level is greater
  pub above_level : (q : ℕ) (p : Parent c q) → (place_in c q).level < (place_in c p.row).level
  above_level q p = dite (ℕ_discrete p.row 0)
      (λ e. let a = ap (λ (x : Place). x.level) (below_top q p e) in let b = ap (λ (r : ℕ). (place_in c r).level) e in let t = top_level in let few = levels_few in omega arith)
      (λ ne. let a = ap (λ (x : Place). x.level) (below_row q p ne) in let h = (row_level p.row ne p.linked).0 in omega arith)

  -- a page of a row is one of its parent
  pub above_page : (q : ℕ) (p : Parent c q) → q ≢ 0 → IsLinked c q → (space page : ℕ) → has_page (place_in c q) space page ≡ true → has_page (place_in c p.row) space page ≡ true
  above_page q p nz l space page h = dite (ℕ_discrete p.row 0)
      (λ e. ap (λ (r : ℕ). has_page (place_in c r) space page) e ∙ ap (λ (x : Place). has_page x space page) g.links.root_place)
      (λ ne. let a = ap (λ (x : Place). x.level) (below_row q p ne) in let one = (row_level q nz l).0 in
      entry_page c.levels (place_in c p.row) p.index space page (omega arith) (row_low p.row ne p.linked) p.inside (ap (λ (x : Place). has_page x space page) (sym p.place) ∙ h))

  -- the parents of two rows at one position, where the rows above them are told apart by their positions
  pub same_parents : (a b : ℕ) → (p : Parent c a) (q : Parent c b) → place_in c a ≡ place_in c b → (place_in c p.row ≡ place_in c q.row → p.row ≡ q.row) → (p.row ≡ q.row) × (p.index ≡ q.index)
  same_parents a b p q same rec =
      let i = p.inside in let j = q.inside in let level = ap (λ (x : Place). x.level) same in
      dite (ℕ_discrete p.row 0)
      (λ e. let one = below_top a p e in dite (ℕ_discrete q.row 0)
      (λ f. (e ∙ sym f, ap (λ (x : Place). x.space) (sym one ∙ (same ∙ below_top b q f))))
      (λ nf. let x = ap (λ (y : Place). y.level) one in let z = ap (λ (y : Place). y.level) (below_row b q nf) in let h = row_level q.row nf q.linked in let low = h.0 in let high = h.1 in absurd (omega arith)))
      (λ ne. let one = below_row a p ne in dite (ℕ_discrete q.row 0)
      (λ f. let x = ap (λ (y : Place). y.level) one in let z = ap (λ (y : Place). y.level) (below_top b q f) in let h = row_level p.row ne p.linked in let low = h.0 in let high = h.1 in absurd (omega arith))
      (λ nf. let two = below_row b q nf in let all = sym one ∙ (same ∙ two) in
      let space : (place_in c p.row).space ≡ (place_in c q.row).space = ap (λ (y : Place). y.space) all in
      let levels = ap (λ (y : Place). y.level) all in let number = ap (λ (y : Place). y.prefix) all in
      let h = (row_level p.row ne p.linked).0 in let k = (row_level q.row nf q.linked).0 in
      let level_same : (place_in c p.row).level ≡ (place_in c q.row).level = omega arith in
      let prefix_same : (place_in c p.row).prefix ≡ (place_in c q.row).prefix = omega arith in
      (rec (λ k. record { space = space k; level = level_same k; prefix = prefix_same k }), omega arith)))

  -- two linked rows at one position are one, where so many levels may be above them
  one_more : (n : ℕ) → ((a b : ℕ) → 6 ≤ (place_in c a).level + n → IsLinked c a → IsLinked c b → place_in c a ≡ place_in c b → a ≡ b)
      → (a b : ℕ) → 6 ≤ (place_in c a).level + suc n → IsLinked c a → IsLinked c b → place_in c a ≡ place_in c b → a ≡ b
  one_more n rec a b high la lb same =
      let level = ap (λ (x : Place). x.level) same in let t = top_level in
      dite (ℕ_discrete a 0)
      (λ za. dite (ℕ_discrete b 0) (λ zb. za ∙ sym zb) (λ nb. let low = row_low b nb lb in let at = ap (λ (r : ℕ). (place_in c r).level) za in absurd (omega arith)))
      (λ na. dite (ℕ_discrete b 0) (λ zb. let low = row_low a na la in let at = ap (λ (r : ℕ). (place_in c r).level) zb in absurd (omega arith))
      (λ nb. let p = parent_of a na la in let q = parent_of b nb lb in let more = above_level a p in
      let both = same_parents a b p q same (λ e. rec p.row q.row (omega arith) p.linked q.linked e) in
      sym p.to_row ∙ ((λ i. link_row (word c (entry_at (both.0 i) (both.1 i)))) ∙ q.to_row)))

  one_place : (n a b : ℕ) → 6 ≤ (place_in c a).level + n → IsLinked c a → IsLinked c b → place_in c a ≡ place_in c b → a ≡ b
  one_place zero a b high la lb same =
      let level = ap (λ (x : Place). x.level) same in
      dite (ℕ_discrete a 0)
      (λ za. dite (ℕ_discrete b 0) (λ zb. za ∙ sym zb) (λ nb. let low = row_low b nb lb in absurd (omega arith)))
      (λ na. let low = row_low a na la in absurd (omega arith))
  one_place (suc n) a b high la lb same = one_more n (one_place n) a b high la lb same

  pub same_place : (a b : ℕ) → IsLinked c a → IsLinked c b → place_in c a ≡ place_in c b → a ≡ b
  same_place a b la lb same = one_place 6 a b (omega arith) la lb same

  -- Held rows above a row

  module _ (held : ℕ → Type 0) (decide : (r : ℕ) → held r ⊎ ¬ held r) where
    -- a held row links a row that is not held and has the row q in its span
    pub record Below (q : ℕ) : Type 0 where
      pub row : ℕ
      pub index : ℕ
      pub inside : index < 512
      pub link : is_link (word c (entry_at row index)) ≡ true
      pub is_held : held row
      pub linked : IsLinked c row
      pub child_held : ¬ held (link_row (word c (entry_at row index)))
      pub child_place : place_in c (link_row (word c (entry_at row index))) ≡ entry_place c.levels (place_in c row) index
      pub covers : Covers (place_in c (link_row (word c (entry_at row index)))) (place_in c q)

    -- a held row with a page of q is of a lower level
    abbrev pub Clear : ℕ → Type 0
    Clear q = (a : ℕ) → IsLinked c a → held a → (space page : ℕ) → has_page (place_in c a) space page ≡ true → has_page (place_in c q) space page ≡ true → (place_in c a).level < (place_in c q).level

    clear_top : (q : ℕ) → q ≡ 0 → ¬ held q → Clear q
    clear_top q z out a l has s x _ _ = let at = ap (λ (r : ℕ). (place_in c r).level) z in let t = top_level in
        let low = row_low a (λ e. out (subst held (e ∙ sym z) has)) l in omega arith

    climb_more : (q : ℕ) → q ≢ 0 → IsLinked c q → ¬ held q → (p : Parent c q) → (¬ held p.row → Below p.row ⊎ Clear p.row) → Below q ⊎ Clear q
    climb_more q nz l out p rec = ⊎_elim
        (λ (has : held p.row). inl (record {
          row = p.row;
          index = p.index;
          inside = p.inside;
          link = p.link;
          is_held = has;
          linked = p.linked;
          child_held = subst (λ (r : ℕ). ¬ held r) (sym p.to_row) out;
          child_place = ap (place_in c) p.to_row ∙ p.place;
          covers = λ s x h. ap (λ (r : ℕ). has_page (place_in c r) s x) p.to_row ∙ h;
        }))
        (λ (none : ¬ held p.row). ⊎_elim
        (λ (b : Below p.row). inl (record {
          row = b.row;
          index = b.index;
          inside = b.inside;
          link = b.link;
          is_held = b.is_held;
          linked = b.linked;
          child_held = b.child_held;
          child_place = b.child_place;
          covers = λ s x h. b.covers s x (above_page q p nz l s x h);
        }))
        (λ (f : Clear p.row). inr (λ a la has s x ha hq.
        let above = f a la has s x ha (above_page q p nz l s x hq) in
        let at_most : (place_in c a).level ≤ (place_in c q).level = dite (ℕ_discrete p.row 0)
        (λ e. let one = ap (λ (y : Place). y.level) (below_top q p e) in let h = (row_level a (λ z. none (subst held (z ∙ sym e) has)) la).1 in omega arith)
        (λ ne. let one = ap (λ (y : Place). y.level) (below_row q p ne) in omega arith) in
        dite (ℕ_discrete (place_in c a).level (place_in c q).level)
        (λ same. absurd (out (subst held (same_place a q la l (same_span (place_in c a) (place_in c q) s x (let low = row_low q nz l in omega arith) same ha hq)) has)))
        (λ ne. omega arith)))
        (rec none)) (decide p.row)

    climb : (n q : ℕ) → 6 ≤ (place_in c q).level + n → IsLinked c q → ¬ held q → Below q ⊎ Clear q
    climb zero q high l out = dite (ℕ_discrete q 0) (λ z. inr (clear_top q z out)) (λ nz. let low = row_low q nz l in absurd (omega arith))
    climb (suc n) q high l out = dite (ℕ_discrete q 0) (λ z. inr (clear_top q z out))
        (λ nz. let p = parent_of q nz l in climb_more q nz l out p (λ none. climb n p.row (let more = above_level q p in omega arith) p.linked none))

    pub looked_up : (q : ℕ) → IsLinked c q → ¬ held q → Below q ⊎ Clear q
    looked_up q l out = climb 6 q (omega arith) l out
