-- Rows that are below others along links: their levels fall, and their spans lie in one another.
use Rattle.std.proofs.Common.{◌≡◌, ◌≢◌, ℕ, zero, suc, ◌+◌, ◌-◌, ◌<◌, ◌≤◌, ◌⊎◌, true, List, sym, refl, ap, ◌∙◌, subst, inl, inr, ⊎_elim, arith}
use mathlib.Core.Logic.{dite}
use native.Mathlib.Decide.{ℕ_discrete}
use Rattle.table_place.specs.declared.Place.{Place}
use Rattle.table_place.specs.Place.{directory, entry_place, is_place, has_page}
use Rattle.table_place.proofs.Entries.{level_of, below_is, entry_page, same_span}
use Rattle.row_table.specs.Plan.{Covers}
use Rattle.row_table.specs.Rows.{place_at}
use Rattle.row_table.specs.Close.{IsReached}
use Rattle.tree_lock.specs.Linked.{Links, IsBelowIn, IsBelow}

-- what the links make of the rows that they reach from row 0
pub record IsLinkTree (levels : ℕ) (words : List ℕ) : Type 0 where
  pub few : levels < 6
  pub top : place_at words 0 ≡ directory
  pub apart : (a b : ℕ) → IsReached words a → IsReached words b → place_at words a ≡ place_at words b → a ≡ b
  pub named : (r : ℕ) → r ≢ 0 → IsReached words r → (p : ℕ) × IsReached words p × Links words p r
  pub leads : (p r : ℕ) → IsReached words p → (l : Links words p r) → (r ≢ 0) × (place_at words r ≡ entry_place levels (place_at words p) l.index)
  pub tables : (r : ℕ) → r ≢ 0 → IsReached words r → is_place levels (place_at words r) ≡ true

-- a reached row below another: its level is lower, and its span lies in the other's
pub record IsUnder (words : List ℕ) (a b : ℕ) : Type 0 where
  pub reached : IsReached words b
  pub not_root : b ≢ 0
  pub level : (place_at words b).level < (place_at words a).level
  pub covers : Covers (place_at words a) (place_at words b)

abbrev pub level_at : List ℕ → ℕ → ℕ
level_at words r = (place_at words r).level

module _ {levels : ℕ} (words : List ℕ) (t : IsLinkTree levels words) where
  pub reached_on : (p r : ℕ) → IsReached words p → Links words p r → IsReached words r
  reached_on p r o l = (suc o.0, (p, o.1, (l.index, l.inside, l.link, l.to_row)))

  root_reached : IsReached words 0
  root_reached = (0, refl)

  pub top_level : level_at words 0 ≡ 6
  top_level = ap (λ (p : Place). p.level) t.top

  pub low_level : (r : ℕ) → r ≢ 0 → IsReached words r → (1 ≤ level_at words r) × (level_at words r ≤ levels)
  low_level r ne o = level_of levels (place_at words r) (t.tables r ne o)

  -- a row of a level above all tables is row 0
  pub root_by_level : (r : ℕ) → IsReached words r → levels < level_at words r → r ≡ 0
  root_by_level r o high = dite (ℕ_discrete r 0) (λ e. e) (λ ne. let low = low_level r ne o in absurd (omega arith))

  -- One link

  root_child : (r : ℕ) → Links words 0 r → level_at words r ≡ levels
  root_child r l = ap (λ (p : Place). p.level) ((t.leads 0 r root_reached l).1 ∙ ap (λ (p : Place). entry_place levels p l.index) t.top)

  table_child : (p r : ℕ) → p ≢ 0 → IsReached words p → Links words p r → level_at words r ≡ level_at words p - 1
  table_child p r ne o l = let low = low_level p ne o in ap (λ (x : Place). x.level) ((t.leads p r o l).1 ∙ below_is levels (place_at words p) l.index (omega arith))

  pub one_under : (p r : ℕ) → IsReached words p → Links words p r → IsUnder words p r
  one_under p r o l = record { reached = there; not_root = other; level = lower; covers = covers }
    where
      there : IsReached words r
      there = reached_on p r o l

      other : r ≢ 0
      other = (t.leads p r o l).0

      lower : level_at words r < level_at words p
      lower = let at = low_level r other there in dite (ℕ_discrete p 0)
          (λ e. let up = top_level in let same = ap (level_at words) e in omega arith)
          (λ ne. let down = table_child p r ne o l in omega arith)

      covers : Covers (place_at words p) (place_at words r)
      covers s x h = dite (ℕ_discrete p 0)
          (λ e. ap (λ (r : ℕ). has_page (place_at words r) s x) e ∙ ap (λ (q : Place). has_page q s x) t.top)
          (λ ne. let at = low_level p ne o in let below = low_level r other there in let down = table_child p r ne o l in
          entry_page levels (place_at words p) l.index s x (omega arith) (omega arith) l.inside (ap (λ (q : Place). has_page q s x) (sym (t.leads p r o l).1) ∙ h))

  -- Several links

  under_in : (n a b : ℕ) → IsReached words a → IsBelowIn words n a b → IsUnder words a b
  under_in zero a b o l = one_under a b o l
  under_in (suc n) a b o way =
      let up = under_in n a way.0 o way.1 in let down = one_under way.0 b up.reached way.2 in
      record { reached = down.reached; not_root = down.not_root; level = (let one = up.level in let two = down.level in omega arith); covers = λ s x h. up.covers s x (down.covers s x h) }

  pub under : (a b : ℕ) → IsReached words a → IsBelow words a b → IsUnder words a b
  under a b o way = under_in way.0 a b o way.1

  -- the first link of a way down leads to a row whose span has the last row's
  first_in : (n a b : ℕ) → IsReached words a → IsBelowIn words n a b → (c : ℕ) × Links words a c × Covers (place_at words c) (place_at words b)
  first_in zero a b o l = (b, l, λ s x h. h)
  first_in (suc n) a b o way =
      let up = first_in n a way.0 o way.1 in let at = under_in n a way.0 o way.1 in let down = one_under way.0 b at.reached way.2 in
      (up.0, up.1, λ s x h. up.2 s x (down.covers s x h))

  pub first_link : (a b : ℕ) → IsReached words a → IsBelow words a b → (c : ℕ) × Links words a c × Covers (place_at words c) (place_at words b)
  first_link a b o way = first_in way.0 a b o way.1

  -- Rows with a common page

  pub one_row : (a b s x : ℕ) → IsReached words a → IsReached words b → level_at words a ≡ level_at words b → has_page (place_at words a) s x ≡ true → has_page (place_at words b) s x ≡ true → a ≡ b
  one_row a b s x o q same h k = dite (ℕ_discrete a 0)
      (λ e. let up = top_level in let at = ap (level_at words) e in e ∙ sym (root_by_level b q (omega arith)))
      (λ ne. let at = low_level a ne o in t.apart a b o q (same_span (place_at words a) (place_at words b) s x (omega arith) same h k))

  -- the linker of a row below the level of another is at most of that level
  linker_level : (a b p : ℕ) → IsReached words a → level_at words b < level_at words a → IsReached words p → Links words p b → level_at words p ≤ level_at words a
  linker_level a b p o lower q l = dite (ℕ_discrete p 0)
      (λ e. let down = root_child b (subst (λ (r : ℕ). Links words r b) e l) in let same = ap (level_at words) (e ∙ sym (root_by_level a o (omega arith))) in omega arith)
      (λ ne. let down = table_child p b ne q l in let low = low_level p ne q in omega arith)

  lower_not_root : (a b : ℕ) → IsReached words a → level_at words b < level_at words a → b ≢ 0
  lower_not_root a b o lower e = let up = top_level in let at = ap (level_at words) e in let same = ap (level_at words) (root_by_level a o (omega arith)) in omega arith

  climb : (n a b s x : ℕ) → level_at words a ≤ level_at words b + n → IsReached words a → IsReached words b → level_at words b ≤ level_at words a → has_page (place_at words a) s x ≡ true → has_page (place_at words b) s x ≡ true → (b ≡ a) ⊎ IsBelow words a b
  climb zero a b s x near o q high h k = inl (one_row b a s x q o (omega arith) k h)
  climb (suc n) a b s x near o q high h k = dite (ℕ_discrete (level_at words b) (level_at words a))
      (λ e. inl (one_row b a s x q o e k h))
      (λ ne. let lower : level_at words b < level_at words a = omega arith in let p = t.named b (lower_not_root a b o lower) q in let up = one_under p.0 b p.1 p.2 in inr (⊎_elim
      (λ (e : p.0 ≡ a). (0, subst (λ (r : ℕ). Links words r b) e p.2))
      (λ (way : IsBelow words a p.0). (suc way.0, (p.0, way.1, p.2)))
      (climb n a p.0 s x (let less = up.level in omega arith) o p.1 (linker_level a b p.0 o lower p.1 p.2) h (up.covers s x k))))

  -- of two reached rows with a common page the one of the lower level is below the other
  pub below_or_same : (a b s x : ℕ) → IsReached words a → IsReached words b → level_at words b ≤ level_at words a → has_page (place_at words a) s x ≡ true → has_page (place_at words b) s x ≡ true → (b ≡ a) ⊎ IsBelow words a b
  below_or_same a b s x o q high h k = climb (level_at words a) a b s x (omega arith) o q high h k
