-- What follows from what a step told, for the seat and for the slots that it carries.
use Rattle.std.proofs.Common.{◌≡◌, ◌≢◌, ℕ, ◌+◌, ◌<◌, ◌≤◌, Bool, true, false, cond, List, [], ◌∷◌, ◌++◌, length, sym, refl, ap, ◌∙◌, subst, get_or, arith, Some}
use mathlib.Core.Logic.{dite}
use native.Mathlib.Decide.{ℕ_discrete}
use Rattle.atomic_table.specs.Table.{rest}
use Rattle.atomic_table.specs.Seated.{TableId}
use Rattle.walk_core.specs.Lists.{times, Has, without}
use Rattle.walk_core.proofs.RowLists.{times-nil, times-cons_same, times-cons_other, times-append, times_one_same, times_one_other, times_without_same, times_without_other}
use Rattle.walk_core.proofs.Stepped.{length-missing}
use Rattle.row_table.specs.declared.view.PassView.{PassView}
use Rattle.row_table.specs.declared.plan.Content.TheVariants.{Row, Book}
use Rattle.row_table.specs.Rule.{Slot, Seat, view, IsOne, SameRows}
use Rattle.row_table.specs.Known.{IsSized}
use Rattle.row_table.specs.Stack.{outs, carried, AreRows}
use Rattle.row_table.specs.Passes.{TableModel, table_known}

-- the contents in front of two stacks
pub same_front : {S : Type 0} (x y : ℕ × S) (cs ds : List (ℕ × S)) → x ∷ cs ≡ y ∷ ds → x.1 ≡ y.1
same_front {S} x y cs ds e = ap (λ (l : List (ℕ × S)). (get_or l 0 x).1) e

module _ {R B E : Type 0} where
  pub one_of : (n : ℕ) (m : Seat R B E) (w : PassView R B E) (cs : List (ℕ × Slot R B)) → m ≡ (w ∷ [], cs) → w.number ≡ n → IsOne n m
  one_of n m w cs e is = subst (IsOne n) (sym e) (refl, is)

  pub view_of : (m : Seat R B E) (w : PassView R B E) (cs : List (ℕ × Slot R B)) → m ≡ (w ∷ [], cs) → view m ≡ w
  view_of m w cs e = ap view e

  pub slots_of : (m : Seat R B E) (vs : List (PassView R B E)) (cs : List (ℕ × Slot R B)) → m ≡ (vs, cs) → m.1 ≡ cs
  slots_of m vs cs e = ap (λ (y : Seat R B E). y.1) e

  pub front_of : (m : Seat R B E) (vs : List (PassView R B E)) (x : ℕ × Slot R B) (cs : List (ℕ × Slot R B)) → m ≡ (vs, x ∷ cs) → m.1 ≡ x ∷ rest m.1
  front_of m vs x cs e = subst (λ (y : Seat R B E). y.1 ≡ x ∷ rest y.1) (sym e) refl

  pub swapped : (m m' : Seat R B E) (vs : List (PassView R B E)) (x y : ℕ × Slot R B) (cs : List (ℕ × Slot R B)) → m ≡ (vs, x ∷ cs) → m' ≡ (m.0, y ∷ rest m.1) → m' ≡ (vs, y ∷ cs)
  swapped m m' vs x y cs e f = f ∙ ap (λ (z : Seat R B E). (z.0, y ∷ rest z.1)) e

  pub filled : (n : ℕ) (m m' : Seat R B E) (x : ℕ × Slot R B) (cs : List (ℕ × Slot R B)) → IsOne n m → m' ≡ (m.0, x ∷ cs) → m' ≡ (view m ∷ [], x ∷ cs)
  filled n m m' x cs one e = e ∙ ap (λ (z : List (PassView R B E)). (z, x ∷ cs)) one.0

  -- the content that came out is the one of which the step told
  pub came_out : (m : Seat R B E) (vs : List (PassView R B E)) (r : ℕ) (x y : R) (cs : List (ℕ × Slot R B)) → m ≡ (vs, (r, Some (Row x)) ∷ cs) → m.1 ≡ (r, Some (Row y)) ∷ rest m.1 → x ≡ y
  came_out m vs r x y cs e f = let opt = same_front _ _ _ _ (sym (slots_of m vs ((r, Some (Row x)) ∷ cs) e) ∙ f) in cc

-- Slots that are out

-- a slot is not carried
pub not_carried : (rows r : ℕ) (held items : List ℕ) (has : Bool) → SameRows items (carried rows held has) → times r held ≡ 0 → ((has ≡ true) → r ≢ rows) → times r items ≡ 0
not_carried rows r held items false same none other = let s = same r in let a = times-append r held [] in let n = times-nil r in omega arith
not_carried rows r held items true same none other = let s = same r in let a = times-append r held (rows ∷ []) in let n = times_one_other r rows (λ e. other refl (sym e)) in omega arith

-- how often a slot is carried
carried_once : (rows r : ℕ) (held : List ℕ) (has : Bool) → AreRows rows held → (times r (carried rows held has) ≤ 1) × (rows + 1 ≤ r → times r (carried rows held has) ≡ 0)
carried_once rows r held false are = let h = are r in let past = h.1 in let a = times-append r held [] in let n = times-nil r in (omega arith, λ p. let z = past (omega arith) in omega arith)
carried_once rows r held true are = let h = are r in let past = h.1 in let a = times-append r held (rows ∷ []) in dite (ℕ_discrete rows r)
    (λ e. let n = times_one_same r rows e in let z = past (omega arith) in (omega arith, λ p. absurd (omega arith)))
    (λ ne. let n = times_one_other r rows ne in (omega arith, λ p. let z = past (omega arith) in omega arith))

-- there is room for one slot more
pub room_left : (rows r : ℕ) (held items : List ℕ) (has : Bool) → SameRows items (carried rows held has) → AreRows rows held → r < rows + 1 → times r items ≡ 0 → length items < rows + 1
room_left rows r held items has same are less none = length-missing items (rows + 1) r
    (λ q. let s = same q in let c = (carried_once rows q held has are).0 in omega arith)
    (λ q past. let s = same q in let c = (carried_once rows q held has are).1 past in omega arith) less none

pub carries_row : (rows r : ℕ) (held items : List ℕ) (has : Bool) → SameRows items (carried rows held has) → SameRows (r ∷ items) (carried rows (held ++ r ∷ []) has)
carries_row rows r held items has same q =
    let s = same q in let a = times-append q held (cond has (rows ∷ []) []) in let b = times-append q (held ++ r ∷ []) (cond has (rows ∷ []) []) in let c = times-append q held (r ∷ []) in
    let d = times-append q (r ∷ []) items in omega arith

pub rows_with : (rows r : ℕ) (held : List ℕ) → AreRows rows held → r < rows → times r held ≡ 0 → AreRows rows (held ++ r ∷ [])
rows_with rows r held are less none q = let h = are q in let past = h.1 in let c = times-append q held (r ∷ []) in dite (ℕ_discrete r q)
    (λ e. let n = times_one_same q r e in let z : times q held ≡ 0 = subst (λ (y : ℕ). times y held ≡ 0) e none in (omega arith, λ p. absurd (omega arith)))
    (λ ne. let n = times_one_other q r ne in (omega arith, λ p. let z = past p in omega arith))

pub carries_less : (rows r : ℕ) (held more : List ℕ) (has : Bool) → AreRows rows held → Has held r → SameRows (r ∷ more) (carried rows held has) → SameRows more (carried rows (without r held) has)
carries_less rows r held more has are i same q =
    let s = same q in let a = times-append q held (cond has (rows ∷ []) []) in let b = times-append q (without r held) (cond has (rows ∷ []) []) in let h = are q in dite (ℕ_discrete q r)
    (λ e. let n = times_without_same r q held e in let c = times-cons_same q r more (sym e) in let has_it : Has held q = subst (Has held) (sym e) i in omega arith)
    (λ ne. let n = times_without_other r q held ne in let c = times-cons_other q r more (λ e. ne (sym e)) in omega arith)

pub rows_less : (rows r : ℕ) (held : List ℕ) → AreRows rows held → AreRows rows (without r held)
rows_less rows r held are q = let h = are q in let past = h.1 in dite (ℕ_discrete q r)
    (λ e. let n = times_without_same r q held e in (omega arith, λ p. n))
    (λ ne. let n = times_without_other r q held ne in (omega arith, λ p. let z = past p in omega arith))

-- what a pass keeps of its seat at the table of this number and of the slots that it carries
pub record Kept {R B E : Type 0} (n rows epoch : ℕ) (id : TableId) (m : Seat R B E) (items : List ℕ) : Type 0 where
  pub one : IsOne n m
  pub sized : IsSized n rows epoch id (view m)
  pub stacked : m.1 ≡ outs items
  pub carries : SameRows items (carried rows (view m).core.held (view m).core.has_book)
  pub held : AreRows rows (view m).core.held

pub kept_by : {R B E : Type 0} (n rows epoch : ℕ) (id to : TableId) (m : Seat R B E) (items : List ℕ) (w : PassView R B E) → to ≡ id → m ≡ (w ∷ [], outs items) → w.number ≡ n
    → IsSized n rows epoch id w → SameRows items (carried rows w.core.held w.core.has_book) → AreRows rows w.core.held → Kept n rows epoch to m items
kept_by {R} {B} {E} n rows epoch id to m items w table e number sized same are = subst (λ (i : TableId). Kept n rows epoch i m items) (sym table)
    (subst (λ (y : Seat R B E). Kept n rows epoch id y items) (sym e) (record { one = (refl, number); sized = sized; stacked = refl; carries = same; held = are }))

-- which table it is: the same number, and by what the pass knows now
pub same_id : {B : Type 0} {a b : TableModel B} → a ≡ b → a.id ≡ b.id
same_id same = ap (λ y. y.id) same

pub same_table : {R B E : Type 0} (id to : TableId) (v w u : PassView R B E) → to ≡ id → w ≡ u → u.layout ≡ v.layout → u.origin ≡ v.origin → table_known to w ≡ table_known id v
same_table {R} {B} {E} id to v w u ids is layouts origins = λ i. record { id = ids i; layout = (ap (λ (y : PassView R B E). y.layout) is ∙ layouts) i; origin = (ap (λ (y : PassView R B E). y.origin) is ∙ origins) i }

-- a row that is held is carried
pub carried_row : (rows r : ℕ) (held items : List ℕ) (has : Bool) → SameRows items (carried rows held has) → Has held r → Has items r
carried_row rows r held items has same i = let s = same r in let a = times-append r held (cond has (rows ∷ []) []) in omega arith

-- the seat with the value that was put into the slot in front
pub put_in : {R B E : Type 0} (n : ℕ) (m0 m1 m2 : Seat R B E) (x y : ℕ × Slot R B) (cs : List (ℕ × Slot R B)) → IsOne n m0 → m1.0 ≡ m0.0 → m1.1 ≡ y ∷ cs → m2 ≡ (m1.0, x ∷ rest m1.1) → m2 ≡ (view m0 ∷ [], x ∷ cs)
put_in n m0 m1 m2 x y cs one same front is = is ∙ (λ i. ((same ∙ one.0) i, x ∷ ap rest front i))

-- the book that came out is the one of which the step told
pub book_came_out : {R B E : Type 0} (m : Seat R B E) (vs : List (PassView R B E)) (r q : ℕ) (x y : B) (cs : List (ℕ × Slot R B)) → m ≡ (vs, (r, Some (Book x)) ∷ cs) → m.1 ≡ (q, Some (Book y)) ∷ rest m.1 → x ≡ y
book_came_out m vs r q x y cs e f = let opt = same_front _ _ _ _ (sym (slots_of m vs ((r, Some (Book x)) ∷ cs) e) ∙ f) in cc

-- the book's slot

pub carries_book : (rows : ℕ) (held items : List ℕ) (has : Bool) → has ≡ false → SameRows items (carried rows held has) → SameRows (rows ∷ items) (carried rows held true)
carries_book rows held items has none same q =
    let s = subst (λ (b : Bool). times q items ≡ times q (carried rows held b)) none (same q) in let a = times-append q held [] in let b = times-append q held (rows ∷ []) in
    let c = times-append q (rows ∷ []) items in let d = times-nil q in omega arith

pub carried_book : (rows : ℕ) (held items : List ℕ) (has : Bool) → has ≡ true → SameRows items (carried rows held has) → Has items rows
carried_book rows held items has some_book same =
    let s = subst (λ (b : Bool). times rows items ≡ times rows (carried rows held b)) some_book (same rows) in let b = times-append rows held (rows ∷ []) in let c = times_one_same rows rows refl in omega arith

pub carries_no_book : (rows : ℕ) (held more : List ℕ) (has : Bool) → has ≡ true → SameRows (rows ∷ more) (carried rows held has) → SameRows more (carried rows held false)
carries_no_book rows held more has some_book same q =
    let s = subst (λ (b : Bool). times q (rows ∷ more) ≡ times q (carried rows held b)) some_book (same q) in let a = times-append q held [] in let b = times-append q held (rows ∷ []) in
    let c = times-append q (rows ∷ []) more in let d = times-nil q in omega arith

-- while no book is carried, its slot has room
pub no_book : (rows : ℕ) (held items : List ℕ) (has : Bool) → has ≡ false → AreRows rows held → SameRows items (carried rows held has) → times rows items ≡ 0
no_book rows held items has none are same = let past = (are rows).1 in not_carried rows rows held items has same (past (omega arith)) (λ e. let clash : true ≡ false = sym e ∙ none in absurd (cc))

-- a pass that holds nothing and has no book carries nothing
pub nothing_out : (rows : ℕ) (held items : List ℕ) (has : Bool) → SameRows items (carried rows held has) → held ≡ [] → has ≡ false → items ≡ []
nothing_out rows held [] has same none no_book = refl
nothing_out rows held (x ∷ xs) has same none no_book =
    let s = same x in let one = times-cons_same x x xs refl in let n = times-nil x in
    let z : times x (carried rows held has) ≡ times x [] = λ i. times x (carried rows (none i) (no_book i)) in absurd (omega arith)
