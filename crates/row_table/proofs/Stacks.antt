-- A seat's slots, turned until a row's slot is in front.
use Rattle.std.proofs.Common.{◌≡◌, ◌≢◌, ℕ, ◌+◌, List, [], ◌∷◌, ◌++◌, length, sym, refl, ap, ◌∙◌, arith, append-nil, append_assoc, Option, None}
use Rattle.atomic_table.specs.Table.{turned}
use Rattle.walk_core.specs.Lists.{times, Has}
use Rattle.walk_core.proofs.RowLists.{times-nil, times-append, times_one_other}
use Rattle.row_table.specs.Stack.{outs, Ahead}

pub ahead_all : (row n : ℕ) (xs : List ℕ) → length xs ≡ n → Has xs row → Ahead row n xs
ahead_all row n xs all i = record { front = xs; back = []; split = sym (append-nil xs); count = all; none_behind = times-nil row; there = i }

pub times_turned : (row first : ℕ) (rest : List ℕ) → times row (rest ++ first ∷ []) ≡ times row (first ∷ rest)
times_turned row first rest = let a = times-append row rest (first ∷ []) in let b = times-append row (first ∷ []) rest in omega arith

pub ahead_turned : (row n left first : ℕ) (rest : List ℕ) → left ≡ n + 1 → first ≢ row → Ahead row left (first ∷ rest) → Ahead row n (rest ++ first ∷ [])
ahead_turned row n left first rest more ne a = go a.front a.split a.count
  where
    go : (f : List ℕ) → first ∷ rest ≡ f ++ a.back → length f ≡ left → Ahead row n (rest ++ first ∷ [])
    go [] e c = absurd (omega arith)
    go (y ∷ ys) e c =
        let tails : rest ≡ ys ++ a.back = cc in
        record {
          front = ys;
          back = a.back ++ first ∷ [];
          split = ap (λ (x : List ℕ). x ++ first ∷ []) tails ∙ append_assoc ys a.back (first ∷ []);
          count = omega arith;
          none_behind = (let p = times-append row a.back (first ∷ []) in let q = times_one_other row first ne in let z = a.none_behind in omega arith);
          there = (let t = times_turned row first rest in let i = a.there in omega arith);
        }

pub ahead_none : (row : ℕ) (items : List ℕ) → Ahead row 0 items → ⊥
ahead_none row items a = go a.front a.split a.count
  where
    go : (f : List ℕ) → items ≡ f ++ a.back → length f ≡ 0 → ⊥
    go [] e c = let same = ap (times row) e in let i = a.there in let z = a.none_behind in omega arith
    go (y ∷ ys) e c = omega arith

outs_both : {T : Type 0} (xs ys : List ℕ) → outs {T = T} (xs ++ ys) ≡ outs xs ++ outs ys
outs_both [] ys = refl
outs_both (x ∷ xs) ys = ap (λ l. (x, None) ∷ l) (outs_both xs ys)

pub outs_turned : {T : Type 0} (first : ℕ) (rest : List ℕ) (cs : List (ℕ × Option T)) → cs ≡ outs (first ∷ rest) → turned cs ≡ outs (rest ++ first ∷ [])
outs_turned first rest cs e = ap turned e ∙ sym (outs_both rest (first ∷ []))
