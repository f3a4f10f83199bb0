-- The map that items stand for, page by page.
use Rattle.std.proofs.Common.{◌≡◌, ◌≢◌, ℕ, ◌+◌, ◌-◌, ◌<◌, ◌≤◌, Bool, true, false, cond, List, [], ◌∷◌, ◌++◌, refl, sym, ap, subst, ◌∙◌, arith, ◌⊎◌, inl, inr}
use Rattle.std.specs.Prelude.{Option, Some, None}
use Rattle.std.specs.List.{All}
use Rattle.std.specs.Ordering.{nat_cmp}
use Rattle.std.specs.FinMap as fin
use Rattle.std.proofs.lemmas.Bool.{false_from_ne_true}
use Rattle.std.proofs.lemmas.List.Elements.{All-head, All-tail}
use Rattle.table_place.specs.Range.{within}
use Rattle.table_place.proofs.Tables.{in_range, to_range}
use Rattle.page_map.specs.declared.cell.Cell.{Cell}
use Rattle.page_map.specs.Cell.{AddressSpace}
use Rattle.page_map.proofs.Range.{get-change}
use Rattle.image_text.specs.declared.image.Item.{Item}
use Rattle.image_text.specs.Items.{first_of, count_of, end_of, cell_at, put, put_all, cells_of}

pub no_range : (first count q : ℕ) → (first ≤ q → q < first + count → ⊥) → within first count q ≡ false
no_range first count q none = false_from_ne_true _ (λ w. let both = in_range first count q w in none both.0 both.1)

pub put_all_append : (xs ys : List Item) (cells : AddressSpace) → put_all (xs ++ ys) cells ≡ put_all ys (put_all xs cells)
put_all_append [] ys cells = refl
put_all_append (x ∷ xs) ys cells = put_all_append xs ys (put x cells)

pub cells_push : (items : List Item) (item : Item) → cells_of (items ++ item ∷ []) ≡ put item (cells_of items)
cells_push items item = put_all_append items (item ∷ []) fin.empty

pub put_in : (item : Item) (cells : AddressSpace) (q : ℕ) → first_of item ≤ q → q < end_of item → fin.get (put item cells) q ≡ Some (cell_at item q)
put_in item cells q low high =
    get-change cells (first_of item) (count_of item) (λ page _. Some (cell_at item page)) q
    ∙ ap (λ b. cond b (Some (cell_at item q)) (fin.get cells q)) (to_range (first_of item) (count_of item) q low high)

pub put_out : (item : Item) (cells : AddressSpace) (q : ℕ) → (first_of item ≤ q → q < end_of item → ⊥) → fin.get (put item cells) q ≡ fin.get cells q
put_out item cells q none =
    get-change cells (first_of item) (count_of item) (λ page _. Some (cell_at item page)) q
    ∙ ap (λ b. cond b (Some (cell_at item q)) (fin.get cells q)) (no_range (first_of item) (count_of item) q none)

-- behind all items no page has a cell
pub put_past : (items : List Item) (cells : AddressSpace) (n q : ℕ) → All (λ item. end_of item ≤ n) items → n ≤ q → fin.get cells q ≡ None → fin.get (put_all items cells) q ≡ None
put_past [] cells n q h past none = none
put_past (item ∷ items) cells n q h past none =
    put_past items (put item cells) n q (All-tail (λ (i : Item). end_of i ≤ n) item items h) past
    (put_out item cells q (λ low high. let ends : end_of item ≤ n = All-head (λ (i : Item). end_of i ≤ n) item items h in omega (arith, ends, high, past)) ∙ none)

pub none_past : (items : List Item) (n q : ℕ) → All (λ item. end_of item ≤ n) items → n ≤ q → fin.get (cells_of items) q ≡ None
none_past items n q h past = put_past items fin.empty n q h past (fin.get-empty nat_cmp q)
