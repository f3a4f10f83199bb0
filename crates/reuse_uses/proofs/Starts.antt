-- What a table of blank rows may start with.
use Rattle.std.proofs.Common.{◌≡◌, ℕ, ◌-◌, ◌<◌, ◌≤◌, cond, leb, ltb, List, [], ◌∷◌, ◌++◌, length, map, Some, sym, refl, ap, ◌∙◌, subst, inl, inr, ⊎_elim, arith}
use Rattle.std.specs.List.{All, range_with_len}
use Rattle.std.specs.FinSet as set
use Rattle.std.proofs.lemmas.Bool.{lt-ltb, le-ltb, lt-leb, le-leb, cases_lt, and_from, and_left, and_right}
use Rattle.std.proofs.lemmas.List.Elements.{All-pop}
use mathlib.Core.Option.{some}
use lib.ListN.{get_elem?}
use Rattle.atomic_table.proofs.Lists.{at_snoc}
use Rattle.walk_core.proofs.Keeps.{found_there}
use Rattle.walk_core.proofs.Boot.{times-range_in, times-range_out}
use Rattle.walk_core.proofs.RowLists.{times-filter}
use Rattle.walk_core.specs.Lists.{times}
use Rattle.row_cells.specs.declared.Cell.{Cell}
use Rattle.row_cells.specs.Cells.{blank}
use Rattle.row_layout.specs.declared.places.Layout.{Layout}
use Rattle.row_table.specs.Start.{MayStart}
use Rattle.reuse_plan.specs.Stock.{StockData, free_list, put_of, store, IsNew}

-- the last two of a list of which each is of this kind
pub last_two : {X : Type 0} (P : X → Type 0) (xs ys zs : List X) (x y : X) → All P xs → xs ≡ ys ++ x ∷ [] → ys ≡ zs ++ y ∷ [] → P x × P y
last_two P xs ys zs x y all one two = let last = All-pop P xs ys (Some x) one all in let next = All-pop P ys zs (Some y) two last.0 in (last.1, next.1)

abbrev pub AreBlank : List (List Cell) → Type 0
AreBlank xs = (i : ℕ) (x : List Cell) → get_elem? xs i ≡ some x → x ≡ blank

pub blank_none : (xs : List (List Cell)) → xs ≡ [] → AreBlank xs
blank_none xs none i x at = let less = found_there [] i x (subst (λ (l : List (List Cell)). get_elem? l i ≡ some x) none at) in absurd (omega arith)

pub blank_more : (xs ys : List (List Cell)) (y : List Cell) → AreBlank xs → y ≡ blank → ys ≡ xs ++ y ∷ [] → AreBlank ys
blank_more xs ys y blanks is more i x at = ⊎_elim (λ (old : get_elem? xs i ≡ some x). blanks i x old) (λ (last : y ≡ x). sym last ∙ is) (at_snoc xs y x i (subst (λ (l : List (List Cell)). get_elem? l i ≡ some x) more at))

-- the rows from 2 on, in two forms
same_rows : (rows : ℕ) (b : StockData) → 2 ≤ rows → IsNew rows b → (q : ℕ) → times q (range_with_len 2 (rows - 2)) ≡ times q (free_list b)
same_rows rows b low new q =
    let is = times-filter (λ r. set.contains b.free.numbers r) q (range_with_len 0 b.free.limit) in let limit = new.limit in let at = new.free q in
    ⊎_elim
    (λ (under : q < 2).
    let none = times-range_out q 2 (rows - 2) (inl under) in
    let out : times q (free_list b) ≡ 0 = is ∙ ap (λ c. cond c (times q (range_with_len 0 b.free.limit)) 0) (at ∙ and_left (leb 2 q) (ltb q rows) (lt-leb 2 q under)) in omega arith)
    (λ over. ⊎_elim
    (λ (inside : q < rows).
    let one = times-range_in q 2 (rows - 2) over (omega arith) in let one_too = times-range_in q 0 b.free.limit (omega arith) (omega arith) in
    let here : times q (free_list b) ≡ times q (range_with_len 0 b.free.limit) = is ∙ ap (λ c. cond c (times q (range_with_len 0 b.free.limit)) 0) (at ∙ and_from (leb 2 q) (ltb q rows) (le-leb 2 q over) (lt-ltb q rows inside)) in omega arith)
    (λ past.
    let none = times-range_out q 2 (rows - 2) (inr (omega arith)) in
    let out : times q (free_list b) ≡ 0 = is ∙ ap (λ c. cond c (times q (range_with_len 0 b.free.limit)) 0) (at ∙ and_right (leb 2 q) (ltb q rows) (le-ltb q rows past)) in omega arith)
    (cases_lt q rows))
    (cases_lt q 2)

pub may_start : (k : Layout) (rows : List (List Cell)) (b : StockData) → length rows ≡ k.rows → AreBlank rows → 2 ≤ k.rows → IsNew k.rows b → MayStart store k rows b
may_start k rows b long blanks low new = record {
  each_row = long;
  linked = λ r x _ at _. blanks r x at;
  others = λ r x _ at. blanks r x at;
  journal = refl;
  free = same_rows k.rows b low new;
  limbo = ap (map put_of) new.limbo;
  generation = (let is = new.next in omega arith);
}
