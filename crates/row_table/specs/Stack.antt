-- A seat's slots that are all out.
use Rattle.std.specs.Prelude.{◌≡◌, ℕ, ◌≤◌, List, [], ◌∷◌, Bool, cond, map, length, ◌++◌, Option, None}
use Rattle.walk_core.specs.Lists.{times, Has}

abbrev pub outs : {T : Type 0} → List ℕ → List (ℕ × Option T)
outs rows = map (λ r. (r, None)) rows

-- the slots that a pass carries: its rows, and the slot of the book while it has the book
abbrev pub carried : ℕ → List ℕ → Bool → List ℕ
carried rows held has_book = held ++ cond has_book (rows ∷ []) []

-- rows that stand once in the list, where there are so many
abbrev pub AreRows : ℕ → List ℕ → Type 0
AreRows rows held = (r : ℕ) → (times r held ≤ 1) × (rows ≤ r → times r held ≡ 0)

-- Among the last ones, behind the first n, the row does not stand
pub record Ahead (row n : ℕ) (items : List ℕ) : Type 0 where
  pub front : List ℕ
  pub back : List ℕ
  pub split : items ≡ front ++ back
  pub count : length front ≡ n
  pub none_behind : times row back ≡ 0
  pub there : Has items row
