-- References taken out of the rows of a range of pages.
--     draws_none      none of no pages
--     draws_more      those of one page more
--     draws_on      those of one range and then of the next
--     draws_nothing      none where no row has the pages;  none where the cells have none
--     few_one      there is room for one more
use Rattle.std.specs.Prelude.{◌≡◌, ℕ, zero, suc, ◌+◌, ◌-◌, ◌*◌, ◌/◌, ◌%◌, ◌^◌, ◌<◌, ◌≤◌, ◌&&◌, ◌||◌, Bool, true, false, cond, List, [], ◌∷◌, ◌++◌, length, nat_eq, slice_get, slice_index_or, Some}
use Rattle.std.proofs.Common.{sym, refl, ◌∙◌, ap, subst, arith, inl, inr, get_or}
use Rattle.std.proofs.lemmas.Bool.{cases_eq, cases_lt, eqb-true, false≢true}
use Rattle.std.proofs.lemmas.Option.{slice_get-get_or, slice_get_within}
use Rattle.std.proofs.lemmas.List.{length-append}
use Rattle.std.proofs.lemmas.List.Sums.{sum_by-cons}
use Rattle.corten_base.specs.declared.calls.Backing.TheVariants as backing
use Rattle.counted_pages.specs.Pages.{CountedPage}
use Rattle.page_map.proofs.Owners.{same_some}
use Rattle.page_map.proofs.Range.{inside, outside}
use Rattle.row_cells.specs.Cells.{is_used, used_count}
use Rattle.row_cells.specs.declared.Cell.{Cell}
use Rattle.row_cells.specs.declared.Cell.TheVariants.{Invalid, Table, Anon, File, Mapped, Swapped}
use Rattle.table_place.specs.declared.Place.{Place}
use Rattle.table_place.specs.Place.{span_first}
use Rattle.table_place.specs.Range.{within}
use Rattle.tree_lock.specs.Held.{IsInOrder}
use Rattle.machine_plan.specs.HeldRows.{Row}
use Rattle.range_cursor.specs.declared.drawing.Drawn.{Drawn}
use Rattle.range_cursor.specs.Drawing.{drawn_cell, frames_in, slots_in, frame_part, slot_part, leaf_place, IsAtPlace, CellOf, IsTaken, page_at, AreDrawn, reaches, IsPartOf, ArePartsOf, DrawsPages}
use Rattle.range_cursor.specs.Ranges.{AddsParts, DrawsOn, FewMore, HasFewRefs, NoneFrom, IsRowOf, IsBehind}
use Rattle.range_cursor.proofs.Taken.{any_default, drawn_more, parts_more, taken_frames, taken_slots, none_drawn, is_leaf_place, only_one}

Refs : Type 0
Refs = List (ℕ × CountedPage)

assoc : (xs ys zs : List (ℕ × CountedPage)) → (xs ++ ys) ++ zs ≡ xs ++ (ys ++ zs)
assoc [] ys zs = refl
assoc (x ∷ xs) ys zs = ap (λ l. x ∷ l) (assoc xs ys zs)

append_nil : (xs : List (ℕ × CountedPage)) → xs ≡ xs ++ []
append_nil [] = refl
append_nil (x ∷ xs) = ap (λ l. x ∷ l) (append_nil xs)

-- ---- one page more

pub draws_none : (space first : ℕ) (rows : List Row) (frames slots : List (ℕ × CountedPage)) → DrawsOn space first 0 rows rows frames frames slots slots
draws_none space first rows frames slots = record {
  drawn = none_drawn space first rows;
  frames_are = record { refs = []; are = refl; new_is = append_nil frames };
  slots_are = record { refs = []; are = refl; new_is = append_nil slots };
}

pub draws_more : (space first n : ℕ) (rows0 rows1 rows2 : List Row) (f0 f1 f2 s0 s1 s2 : List (ℕ × CountedPage)) (taken : Drawn) → DrawsOn space first n rows0 rows1 f0 f1 s0 s1 → IsTaken space (first + n) rows1 rows2 taken
    → f2 ≡ f1 ++ frames_in (first + n) taken → s2 ≡ s1 ++ slots_in (first + n) taken → DrawsOn space first (suc n) rows0 rows2 f0 f2 s0 s2
draws_more space first n rows0 rows1 rows2 f0 f1 f2 s0 s1 s2 taken was is f s = record {
  drawn = drawn_more space first n rows0 rows1 rows2 was.drawn taken is;
  frames_are = record {
    refs = was.frames_are.refs ++ frames_in (first + n) taken;
    are = parts_more frame_part space first n rows0 rows1 was.drawn was.frames_are.refs (frames_in (first + n) taken) _ was.frames_are.are (taken_frames space (first + n) rows1 rows2 taken is) refl;
    new_is = f ∙ ap (λ l. l ++ frames_in (first + n) taken) was.frames_are.new_is ∙ assoc f0 was.frames_are.refs (frames_in (first + n) taken);
  };
  slots_are = record {
    refs = was.slots_are.refs ++ slots_in (first + n) taken;
    are = parts_more slot_part space first n rows0 rows1 was.drawn was.slots_are.refs (slots_in (first + n) taken) _ was.slots_are.are (taken_slots space (first + n) rows1 rows2 taken is) refl;
    new_is = s ∙ ap (λ l. l ++ slots_in (first + n) taken) was.slots_are.new_is ∙ assoc s0 was.slots_are.refs (slots_in (first + n) taken);
  };
}

-- the row of a page stays where it is
pub at_on : (uses : ℕ → ℕ → Bool) (rows0 rows1 : List Row) (p : Place) (k : ℕ) → AreDrawn uses rows0 rows1 → IsAtPlace rows0 p k → IsAtPlace rows1 p k
at_on uses rows0 rows1 p k drawn at = record {
  inside = omega (arith, at.inside, drawn.as_many);
  here = λ d. (drawn.each k d at.inside).same_place ∙ at.here d;
  only = λ j d h e. at.only j d (omega (arith, h, drawn.as_many)) (sym (drawn.each j d (omega (arith, h, drawn.as_many))).same_place ∙ e);
}

-- so a list with one reference more than it has is not full
pub room_for_one : (part : ℕ → Cell → List (ℕ × CountedPage)) (space : ℕ) (rows : List Row) (first count n : ℕ) (old now here : List (ℕ × CountedPage)) → FewMore part space rows first count old → (adds : AddsParts part space rows first n old now) → n < count
    → IsPartOf part space rows (first + n) here → length now + length here ≤ 4096
room_for_one part space rows first count n old now here few adds less is =
    let all = few (suc n) (adds.refs ++ here) (omega (arith, less)) (adds.refs, adds.are, record { here = here; is_part = is; refs_are = refl }) in
    omega (arith, all, length-append adds.refs here, ap length adds.new_is, length-append old adds.refs)

-- what is there was there at first, where no reference of the page was taken
pub part_back : (part : ℕ → Cell → List (ℕ × CountedPage)) (uses : ℕ → ℕ → Bool) (space page : ℕ) (rows0 rows1 : List Row) (refs : List (ℕ × CountedPage)) → AreDrawn uses rows0 rows1 → uses space page ≡ false → IsPartOf part space rows1 page refs → IsPartOf part space rows0 page refs
part_back part uses space page rows0 rows1 refs drawn unused (inl (none, is)) = inl (
  λ x held e. none (slice_index_or rows1 held.0 x) (held.0, omega (arith, held.1, drawn.as_many), any_default rows1 held.0 _ x (omega (arith, held.1, drawn.as_many)))
      ((drawn.each held.0 x held.1).same_place ∙ (ap (λ (y : Row). y.place) held.2 ∙ e)),
  is,
)
part_back part uses space page rows0 rows1 refs drawn unused (inr (at, is)) = inr (cell_at_first, is)
  where
    within0 : at.place < length rows0
    within0 = omega (arith, at.is_leaf.inside, drawn.as_many)

    i : ℕ
    i = page % 512

    small : (page : ℕ) → page % 512 < 512
    small page = omega arith

    some_row : Row
    some_row = record { row = 0; place = leaf_place space 0; generation = 0; content = [] }

    cells : List Cell
    cells = (slice_index_or rows0 at.place some_row).content

    there : slice_get cells i ≡ Some at.cell
    there =
        let was = drawn.each at.place some_row within0 in
        let x0 = slice_index_or rows0 at.place some_row in
        let content_is = at.content_is some_row in
        let leaf : x0.place ≡ leaf_place space page = sym was.same_place ∙ at.is_leaf.here some_row in
        let long : i < length cells = omega (arith, slice_get_within at.content i at.cell at.there, ap length content_is, was.whole) in
        let c0 : Cell = get_or cells i at.cell in
        let found : slice_get cells i ≡ Some c0 = slice_get-get_or cells i at.cell long in
        let at_page : page_at x0 i ≡ page = whole x0.place.prefix page (ap (λ (p : Place). p.prefix) leaf) in
        let test : (nat_eq x0.place.level 1 && uses x0.place.space (page_at x0 i)) ≡ false =
        (λ j. nat_eq x0.place.level 1 && uses ((leaf j).space) (at_page j)) ∙ ap (λ b. nat_eq x0.place.level 1 && b) unused ∙ and_false (nat_eq x0.place.level 1) in
        let now = was.each i c0 (small page) found ∙ ap (λ b. Some (cond b (drawn_cell c0) c0)) test in
        found ∙ (sym now ∙ (ap (λ c. slice_get c i) content_is ∙ at.there))
      where
        whole : (q page : ℕ) → q ≡ page / 512 → 512 * q + page % 512 ≡ page
        whole q page e = omega (arith, e)

        and_false : (b : Bool) → (b && false) ≡ false
        and_false true = refl
        and_false false = refl

    cell_at_first : CellOf space page rows0
    cell_at_first = record {
      place = at.place;
      is_leaf = record {
        inside = within0;
        here = λ d. sym (drawn.each at.place d within0).same_place ∙ at.is_leaf.here d;
        only = λ j d h e. at.is_leaf.only j d (omega (arith, h, drawn.as_many)) ((drawn.each j d h).same_place ∙ e);
      };
      cell = at.cell;
      content = cells;
      content_is = λ d. ap (λ (x : Row). x.content) (any_default rows0 at.place d some_row within0);
      there = there;
    }

-- ---- ranges one behind another

drawn_twice : (c : Cell) → drawn_cell (drawn_cell c) ≡ drawn_cell c
drawn_twice Invalid = refl
drawn_twice Table = refl
drawn_twice (Anon perm) = refl
drawn_twice (File perm file index) = refl
drawn_twice (Mapped perm backing.Zero frame) = refl
drawn_twice (Mapped perm (backing.File file index) frame) = refl
drawn_twice (Swapped perm backing.Zero slot) = refl
drawn_twice (Swapped perm (backing.File file index) slot) = refl

drawn_either : (a b : Bool) (c : Cell) → cond b (drawn_cell (cond a (drawn_cell c) c)) (cond a (drawn_cell c) c) ≡ cond (a || b) (drawn_cell c) c
drawn_either true true c = drawn_twice c
drawn_either true false c = refl
drawn_either false true c = refl
drawn_either false false c = refl

within_on : (first n m q : ℕ) → within first (n + m) q ≡ (within first n q || within (first + n) m q)
within_on first n m q = go (within first n q) refl (within (first + n) m q) refl (within first (n + m) q) refl
  where
    go : (a : Bool) → within first n q ≡ a → (b : Bool) → within (first + n) m q ≡ b → (c : Bool) → within first (n + m) q ≡ c → c ≡ (a || b)
    go true e b f true g = refl
    go false e true f true g = refl
    go false e false f false g = refl
    go true e b f false g = absurd (outside first (n + m) q g (inside first n q e).0 (omega (arith, (inside first n q e).1)))
    go false e true f false g = absurd (outside first (n + m) q g (omega (arith, (inside (first + n) m q f).0)) (omega (arith, (inside (first + n) m q f).1)))
    go false e false f true g = absurd (neither (inside first (n + m) q g) (outside first n q e) (outside (first + n) m q f))
      where
        neither : (first ≤ q) × (q < first + (n + m)) → (first ≤ q → q < first + n → ⊥) → (first + n ≤ q → q < first + n + m → ⊥) → ⊥
        neither h a b = elim (cases_lt q (first + n)) [ inl less ↦ a h.0 less | inr not ↦ b (omega (arith, not)) (omega (arith, h.1)) ]

test_on : (level space first n m s q : ℕ) → ((nat_eq level 1 && reaches space first n s q) || (nat_eq level 1 && reaches space (first + n) m s q)) ≡ (nat_eq level 1 && reaches space first (n + m) s q)
test_on level space first n m s q = spread (nat_eq level 1) (nat_eq s space) (within first n q) (within (first + n) m q) ∙ ap (λ b. nat_eq level 1 && (nat_eq s space && b)) (sym (within_on first n m q))
  where
    spread : (a b c d : Bool) → ((a && (b && c)) || (a && (b && d))) ≡ (a && (b && (c || d)))
    spread false b c d = refl
    spread true false c d = refl
    spread true true c d = refl

drawn_on : (space first n m : ℕ) (rows0 rows1 rows2 : List Row) → AreDrawn (reaches space first n) rows0 rows1 → AreDrawn (reaches space (first + n) m) rows1 rows2 → AreDrawn (reaches space first (n + m)) rows0 rows2
drawn_on space first n m rows0 rows1 rows2 one two = record {
  as_many = two.as_many ∙ one.as_many;
  each = λ k d h.
      let a = one.each k d h in
      let b = two.each k d (omega (arith, h, one.as_many)) in
      let x0 = slice_index_or rows0 k d in
      let x1 = slice_index_or rows1 k d in
      record {
        same_row = b.same_row ∙ a.same_row;
        same_place = b.same_place ∙ a.same_place;
        same_generation = b.same_generation ∙ a.same_generation;
        whole = b.whole ∙ a.whole;
        each = λ index cell small there.
            let at = a.each index cell small there in
            let t1 : Bool = nat_eq x0.place.level 1 && reaches space first n x0.place.space (page_at x0 index) in
            let t2 : Bool = nat_eq x0.place.level 1 && reaches space (first + n) m x0.place.space (page_at x0 index) in
            b.each index (cond t1 (drawn_cell cell) cell) small at
            ∙ ap (λ (p : Place). Some (cond (nat_eq p.level 1 && reaches space (first + n) m p.space (512 * p.prefix + index)) (drawn_cell (cond t1 (drawn_cell cell) cell)) (cond t1 (drawn_cell cell) cell))) a.same_place
            ∙ ap Some (drawn_either t1 t2 cell)
            ∙ ap (λ t. Some (cond t (drawn_cell cell) cell)) (test_on x0.place.level space first n m x0.place.space (page_at x0 index));
      };
}

parts_on : (part : ℕ → Cell → List (ℕ × CountedPage)) (space first n m : ℕ) (rows0 rows1 : List Row) → AreDrawn (reaches space first n) rows0 rows1 → (before refs : List (ℕ × CountedPage)) → ArePartsOf part space rows0 first n before → ArePartsOf part space rows1 (first + n) m refs
    → ArePartsOf part space rows0 first (n + m) (before ++ refs)
parts_on part space first n zero rows0 rows1 drawn before refs are is = subst (λ k. ArePartsOf part space rows0 first k (before ++ refs)) (zero_more n) (subst (λ l. ArePartsOf part space rows0 first n (before ++ l)) (sym is) (subst (ArePartsOf part space rows0 first n) (append_nil before) are))
  where
    zero_more : (n : ℕ) → n ≡ n + 0
    zero_more n = omega arith
parts_on part space first n (suc m) rows0 rows1 drawn before refs are (first_ones, was, more) =
    subst (λ k. ArePartsOf part space rows0 first k (before ++ refs)) (sym (one_more n m)) (
      before ++ first_ones,
      parts_on part space first n m rows0 rows1 drawn before first_ones are was,
      record {
        here = more.here;
        is_part = subst (λ q. IsPartOf part space rows0 q more.here) (together first n m) (part_back part (reaches space first n) space (first + n + m) rows0 rows1 more.here drawn (beyond first n m) more.is_part);
        refs_are = ap (λ l. before ++ l) more.refs_are ∙ sym (assoc before first_ones more.here);
      },
    )
  where
    one_more : (n m : ℕ) → n + suc m ≡ suc (n + m)
    one_more n m = omega arith

    together : (first n m : ℕ) → first + n + m ≡ first + (n + m)
    together first n m = omega arith

    beyond : (first n m : ℕ) → reaches space first n space (first + n + m) ≡ false
    beyond first n m = ap (λ b. nat_eq space space && b) (go (within first n (first + n + m)) refl) ∙ and_false (nat_eq space space)
      where
        go : (b : Bool) → within first n (first + n + m) ≡ b → within first n (first + n + m) ≡ false
        go false e = e
        go true e = absurd (omega (arith, (inside first n (first + n + m) e).1))

        and_false : (b : Bool) → (b && false) ≡ false
        and_false true = refl
        and_false false = refl

adds_on : (part : ℕ → Cell → List (ℕ × CountedPage)) (space first n m : ℕ) (rows0 rows1 : List Row) → AreDrawn (reaches space first n) rows0 rows1 → (l0 l1 l2 : List (ℕ × CountedPage)) → AddsParts part space rows0 first n l0 l1 → AddsParts part space rows1 (first + n) m l1 l2
    → AddsParts part space rows0 first (n + m) l0 l2
adds_on part space first n m rows0 rows1 drawn l0 l1 l2 one two = record {
  refs = one.refs ++ two.refs;
  are = parts_on part space first n m rows0 rows1 drawn one.refs two.refs one.are two.are;
  new_is = two.new_is ∙ ap (λ l. l ++ two.refs) one.new_is ∙ assoc l0 one.refs two.refs;
}

pub draws_on : (space first n m : ℕ) (rows0 rows1 rows2 : List Row) (f0 f1 f2 s0 s1 s2 : List (ℕ × CountedPage)) → DrawsOn space first n rows0 rows1 f0 f1 s0 s1 → DrawsOn space (first + n) m rows1 rows2 f1 f2 s1 s2 → DrawsOn space first (n + m) rows0 rows2 f0 f2 s0 s2
draws_on space first n m rows0 rows1 rows2 f0 f1 f2 s0 s1 s2 one two = record {
  drawn = drawn_on space first n m rows0 rows1 rows2 one.drawn two.drawn;
  frames_are = adds_on frame_part space first n m rows0 rows1 one.drawn f0 f1 f2 one.frames_are two.frames_are;
  slots_are = adds_on slot_part space first n m rows0 rows1 one.drawn s0 s1 s2 one.slots_are two.slots_are;
}

-- ---- pages without references

-- rows stay where no cell of the range has a reference
pub drawn_same : (uses : ℕ → ℕ → Bool) (rows : List Row)
    → ((k : ℕ) (d : Row) (index : ℕ) (cell : Cell) → k < length rows → index < 512 → slice_get (slice_index_or rows k d).content index ≡ Some cell → (slice_index_or rows k d).place.level ≡ 1 → uses (slice_index_or rows k d).place.space (page_at (slice_index_or rows k d) index) ≡ true
    → drawn_cell cell ≡ cell) → AreDrawn uses rows rows
drawn_same uses rows none = record {
  as_many = refl;
  each = λ k d h. record {
    same_row = refl;
    same_place = refl;
    same_generation = refl;
    whole = refl;
    each = λ index cell small there. there ∙ ap Some (sym (go index cell (slice_index_or rows k d) (λ level used. none k d index cell h small there level used) (nat_eq (slice_index_or rows k d).place.level 1) refl (uses (slice_index_or rows k d).place.space (page_at (slice_index_or rows k d) index)) refl));
  };
}
  where
    go : (index : ℕ) (cell : Cell) (x : Row) → (x.place.level ≡ 1 → uses x.place.space (page_at x index) ≡ true → drawn_cell cell ≡ cell) → (a : Bool) → nat_eq x.place.level 1 ≡ a → (b : Bool) → uses x.place.space (page_at x index) ≡ b
        → cond (nat_eq x.place.level 1 && uses x.place.space (page_at x index)) (drawn_cell cell) cell ≡ cell
    go index cell x same a e b f = ap (λ t. cond t (drawn_cell cell) cell) ((λ i. e i && f i)) ∙ step a b (λ g h. same (eqb-true x.place.level 1 (e ∙ g)) (f ∙ h))
      where
        step : (a b : Bool) → (a ≡ true → b ≡ true → drawn_cell cell ≡ cell) → cond (a && b) (drawn_cell cell) cell ≡ cell
        step true true s = s refl refl
        step true false s = refl
        step false b s = refl

pub reached_page : (space first n s q : ℕ) → reaches space first n s q ≡ true → (s ≡ space) × (first ≤ q) × (q < first + n)
reached_page space first n s q h = go (nat_eq s space) refl (within first n q) refl h
  where
    go : (a : Bool) → nat_eq s space ≡ a → (b : Bool) → within first n q ≡ b → (nat_eq s space && within first n q) ≡ true → (s ≡ space) × (first ≤ q) × (q < first + n)
    go true e true f h = (eqb-true s space e, (inside first n q f).0, (inside first n q f).1)
    go false e b f h = absurd (false≢true (sym (ap (λ x. x && within first n q) e) ∙ h))
    go true e false f h = absurd (false≢true (sym (λ i. e i && f i) ∙ h))

no_parts : (part : ℕ → Cell → List (ℕ × CountedPage)) (space first n : ℕ) (rows : List Row) → NoneFrom space rows first (first + n) → ArePartsOf part space rows first n []
no_parts part space first zero rows none = refl
no_parts part space first (suc n) rows none = ([], no_parts part space first n rows (λ q x low high. none q x low (omega (arith, high))), record { here = []; is_part = inl (λ x held. none (first + n) x (omega arith) (omega arith) held, refl); refs_are = refl })

-- no row has one of the pages
pub draws_nothing : (space first n : ℕ) (rows : List Row) (frames slots : List (ℕ × CountedPage)) → NoneFrom space rows first (first + n) → DrawsOn space first n rows rows frames frames slots slots
draws_nothing space first n rows frames slots none = record {
  drawn = drawn_same (reaches space first n) rows (λ k d index cell h small there level used.
      let x : Row = slice_index_or rows k d in
      let at = reached_page space first n x.place.space (page_at x index) used in
      absurd (none (page_at x index) x at.1 at.2 (k, h, any_default rows k x d h) (is_leaf_place x.place space (page_at x index) index small level at.0 refl)));
  frames_are = record { refs = []; are = no_parts frame_part space first n rows none; new_is = append_nil frames };
  slots_are = record { refs = []; are = no_parts slot_part space first n rows none; new_is = append_nil slots };
}

-- ---- a row that the range meets

-- the pages that one row has
pub one_row : (rows : List Row) (k space prefix page : ℕ) → IsInOrder rows → k < length rows → IsRowOf rows k space prefix → page / 512 ≡ prefix → IsAtPlace rows (leaf_place space page) k
one_row rows k space prefix page order inside is at = only_one rows (leaf_place space page) k order inside (λ d. is d ∙ (λ i. record { space = space; level = 1; prefix = sym at i }))

none_used : (x : Cell) (xs : List Cell) → used_count (x ∷ xs) ≡ 0 → (x ≡ Invalid) × (used_count xs ≡ 0)
none_used x xs none = (here x both, omega (arith, both))
  where
    both : cond (is_used x) 1 0 + used_count xs ≡ 0
    both = sym (sum_by-cons (λ y. cond (is_used y) 1 0) x xs) ∙ none

    here : (y : Cell) → cond (is_used y) 1 0 + used_count xs ≡ 0 → y ≡ Invalid
    here Invalid e = refl
    here Table e = absurd (omega (arith, e))
    here (Anon perm) e = absurd (omega (arith, e))
    here (File perm file index) e = absurd (omega (arith, e))
    here (Mapped perm origin frame) e = absurd (omega (arith, e))
    here (Swapped perm origin slot) e = absurd (omega (arith, e))

unused : (cells : List Cell) (i : ℕ) (c : Cell) → used_count cells ≡ 0 → slice_get cells i ≡ Some c → c ≡ Invalid
unused [] i c none there = absurd (cc there)
unused (x ∷ xs) zero c none there = sym (same_some there) ∙ (none_used x xs none).0
unused (x ∷ xs) (suc i) c none there = unused xs i c (none_used x xs none).1 there

module _ (space start m : ℕ) (rows : List Row) (k : ℕ) (cells : List Cell) (row : (page : ℕ) → start ≤ page → page < start + m → IsAtPlace rows (leaf_place space page) k) (whole : length cells ≡ 512) (content : (d : Row) → (slice_index_or rows k d).content ≡ cells) (empty : used_count cells ≡ 0) where
  empty_parts : (part : ℕ → Cell → List (ℕ × CountedPage)) → ((q : ℕ) → part q Invalid ≡ []) → (n : ℕ) → n ≤ m → ArePartsOf part space rows start n []
  empty_parts part lacks zero h = refl
  empty_parts part lacks (suc n) h = (
    [],
    empty_parts part lacks n (omega (arith, h)),
    record {
      here = [];
      is_part = inr (
        record {
          place = k;
          is_leaf = row (start + n) (omega arith) (omega (arith, h));
          cell = c;
          content = cells;
          content_is = content;
          there = there;
        },
        sym (ap (part (start + n)) (unused cells i c empty there) ∙ lacks (start + n)),
      );
      refs_are = refl;
    },
  )
    where
      i : ℕ
      i = (start + n) % 512

      small : (q : ℕ) → q % 512 < 512
      small q = omega arith

      c : Cell
      c = get_or cells i Invalid

      there : slice_get cells i ≡ Some c
      there = slice_get-get_or cells i Invalid (omega (arith, small (start + n), whole))

  pub draws_empty : (frames slots : List (ℕ × CountedPage)) → DrawsOn space start m rows rows frames frames slots slots
  draws_empty frames slots = record {
    drawn = drawn_same (reaches space start m) rows (λ j d index cell h small there level used.
        let x : Row = slice_index_or rows j d in
        let at = reached_page space start m x.place.space (page_at x index) used in
        let same = (row (page_at x index) at.1 at.2).only j d h (is_leaf_place x.place space (page_at x index) index small level at.0 refl) in
        let is : cell ≡ Invalid = unused cells index cell empty (subst (λ l. slice_get l index ≡ Some cell) (ap (λ n. (slice_index_or rows n d).content) same ∙ content d) there) in
        ap drawn_cell is ∙ sym is);
    frames_are = record { refs = []; are = empty_parts frame_part (λ q. refl) m (omega arith); new_is = append_nil frames };
    slots_are = record { refs = []; are = empty_parts slot_part (λ q. refl) m (omega arith); new_is = append_nil slots };
  }

-- behind pages that no row has
pub draws_behind : (space next start stop : ℕ) (rows rows' : List Row) (f f' s s' : List (ℕ × CountedPage)) → next ≤ start → start ≤ stop → NoneFrom space rows next start → DrawsOn space start (stop - start) rows rows' f f' s s' → DrawsOn space next (stop - next) rows rows' f f' s s'
draws_behind space next start stop rows rows' f f' s s' low high none draws =
    let at : next + (start - next) ≡ start = omega (arith, low) in
    let all : start - next + (stop - start) ≡ stop - next = omega (arith, low, high) in
    subst (λ n. DrawsOn space next n rows rows' f f' s s') all
    (draws_on space next (start - next) (stop - start) rows rows rows' f f f' s s s' (draws_nothing space next (start - next) rows f s (subst (NoneFrom space rows next) (sym at) none)) (subst (λ q. DrawsOn space q (stop - start) rows rows' f f' s s') (sym at) draws))

few_behind : (part : ℕ → Cell → List (ℕ × CountedPage)) (space next start stop end : ℕ) (rows : List Row) (old : List (ℕ × CountedPage)) → next ≤ start → start ≤ stop → stop ≤ end → NoneFrom space rows next start → FewMore part space rows next (end - next) old → FewMore part space rows start (stop - start) old
few_behind part space next start stop end rows old low high last none few n refs less are =
    let at : next + (start - next) ≡ start = omega (arith, low) in
    let none' : NoneFrom space rows next (next + (start - next)) = subst (NoneFrom space rows next) (sym at) none in
    few (start - next + n) refs (omega (arith, low, high, last, less))
    (parts_on part space next (start - next) n rows rows (draws_nothing space next (start - next) rows [] [] none').drawn [] refs (no_parts part space next (start - next) rows none') (subst (λ q. ArePartsOf part space rows q n refs) (sym at) are))

pub few_frames_behind : (space next start stop end : ℕ) (rows : List Row) (old : List (ℕ × CountedPage)) → next ≤ start → start ≤ stop → stop ≤ end → NoneFrom space rows next start → FewMore frame_part space rows next (end - next) old → FewMore frame_part space rows start (stop - start) old
few_frames_behind = few_behind frame_part

pub few_slots_behind : (space next start stop end : ℕ) (rows : List Row) (old : List (ℕ × CountedPage)) → next ≤ start → start ≤ stop → stop ≤ end → NoneFrom space rows next start → FewMore slot_part space rows next (end - next) old → FewMore slot_part space rows start (stop - start) old
few_slots_behind = few_behind slot_part

-- ---- the rows of a list one by one

pub behind_on : (uses : ℕ → ℕ → Bool) (space k next end : ℕ) (rows0 rows1 : List Row) → AreDrawn uses rows0 rows1 → IsBehind space rows0 k next end → IsBehind space rows1 k next end
behind_on uses space k next end rows0 rows1 drawn behind j d page less inside low high e =
    let within : j < length rows0 = omega (arith, inside, drawn.as_many) in
    behind j d page less within low high (sym (drawn.each j d within).same_place ∙ e)

-- a row of the list is the one at this place, or comes before or behind it
module _ (space : ℕ) (rows : List Row) (k : ℕ) (next end : ℕ) (d : Row) (order : IsInOrder rows) (inside : k < length rows) (behind : IsBehind space rows k next end) where
  abbrev pub x : Row
  x = slice_index_or rows k d

  pub none_before : x.place.level ≡ 1 → x.place.space ≡ space → x.place.prefix * 512 < end → NoneFrom space rows next (x.place.prefix * 512)
  none_before level of_space less page y low high held e = elim (cases_lt held.0 k) [
    | inl before ↦ behind held.0 y page before held.1 low (omega (arith, high, less)) (ap (λ (z : Row). z.place) held.2 ∙ e)
    | inr not_before ↦ elim (cases_eq held.0 k) [
      | inl same ↦
          let is : x.place ≡ leaf_place space page = sym (ap (λ (z : Row). z.place) (any_default rows k y d inside)) ∙ (ap (λ n. (slice_index_or rows n y).place) (sym same) ∙ (ap (λ (z : Row). z.place) held.2 ∙ e)) in
          absurd (not_in x.place.prefix page (ap (λ (p : Place). p.prefix) is) high)
      | inr other ↦
          let after = order k held.0 d (more held.0 k other not_before) held.1 in
          let there : (slice_index_or rows held.0 d).place ≡ leaf_place space page = ap (λ (z : Row). z.place) (any_default rows held.0 d y held.1) ∙ (ap (λ (z : Row). z.place) held.2 ∙ e) in
          let first = subst (λ (p : Place). x.place.space ≡ p.space → span_first x.place ≤ span_first p) there after.first of_space in
          absurd (not_after x.place.prefix page (subst (λ l. x.place.prefix * 512 ^ l ≤ page / 512 * 512 ^ 1) level first) high)
    ]
  ]
    where
      more : (j k : ℕ) → (j ≡ k → ⊥) → k ≤ j → k < j
      more j k other h = omega arith

      not_in : (q page : ℕ) → q ≡ page / 512 → page < q * 512 → ⊥
      not_in q page e h = omega (arith, e, h)

      not_after : (q page : ℕ) → q * 512 ^ 1 ≤ page / 512 * 512 ^ 1 → page < q * 512 → ⊥
      not_after q page e h = omega (arith, e, h)

  -- one row more
  pub behind_more : (next' : ℕ) → next ≤ next' → ((page : ℕ) → next' ≤ page → page < end → x.place ≡ leaf_place space page → ⊥) → IsBehind space rows (k + 1) next' end
  behind_more next' on here j e page less within low high is = elim (cases_eq j k) [
    | inl same ↦ here page low high (ap (λ (z : Row). z.place) (any_default rows k d e inside) ∙ (ap (λ n. (slice_index_or rows n e).place) (sym same) ∙ is))
    | inr other ↦ behind j e page (earlier j k other less) within (omega (arith, on, low)) high is
  ]
    where
      earlier : (j k : ℕ) → (j ≡ k → ⊥) → j < k + 1 → j < k
      earlier j k other h = omega arith

-- the whole range was gone over
pub draws_end : (space first next end : ℕ) (rows0 rows1 : List Row) (f1 s1 : List (ℕ × CountedPage)) → first ≤ next → next ≤ end → DrawsOn space first (next - first) rows0 rows1 [] f1 [] s1 → IsBehind space rows1 (length rows1) next end
    → DrawsPages space first (end - first) rows0 rows1 f1 s1
draws_end space first next end rows0 rows1 f1 s1 low high draws behind =
    let at : first + (next - first) ≡ next = omega (arith, low) in
    let all : next - first + (end - next) ≡ end - first = omega (arith, low, high) in
    let rest_at : next + (end - next) ≡ end = omega (arith, high) in
    let none : NoneFrom space rows1 next (next + (end - next)) = subst (NoneFrom space rows1 next) (sym rest_at) (λ page x low' high' held e. behind held.0 x page held.1 held.1 low' high' (ap (λ (z : Row). z.place) held.2 ∙ e)) in
    let rest = draws_nothing space next (end - next) rows1 f1 s1 none in
    let whole = subst (λ n. DrawsOn space first n rows0 rows1 [] f1 [] s1) all (draws_on space first (next - first) (end - next) rows0 rows1 rows1 [] f1 f1 [] s1 s1 draws (subst (λ q. DrawsOn space q (end - next) rows1 rows1 f1 f1 s1 s1) (sym at) rest)) in
    record {
      drawn = whole.drawn;
      frames_are = subst (ArePartsOf frame_part space rows0 first (end - first)) (sym whole.frames_are.new_is) whole.frames_are.are;
      slots_are = subst (ArePartsOf slot_part space rows0 first (end - first)) (sym whole.slots_are.new_is) whole.slots_are.are;
    }

few_on : (part : ℕ → Cell → List (ℕ × CountedPage)) (space first next end : ℕ) (rows0 rows1 : List Row) (old now : List (ℕ × CountedPage)) → ((n : ℕ) (refs : List (ℕ × CountedPage)) → ArePartsOf part space rows0 first n refs → length refs ≤ 4096) → old ≡ [] → first ≤ next
    → AreDrawn (reaches space first (next - first)) rows0 rows1 → AddsParts part space rows0 first (next - first) old now → FewMore part space rows1 next (end - next) now
few_on part space first next end rows0 rows1 old now few none low drawn adds n refs less are =
    let at : first + (next - first) ≡ next = omega (arith, low) in
    let all = few (next - first + n) (adds.refs ++ refs) (parts_on part space first (next - first) n rows0 rows1 drawn adds.refs refs adds.are (subst (λ q. ArePartsOf part space rows1 q n refs) (sym at) are)) in
    omega (arith, all, length-append adds.refs refs, ap length adds.new_is, length-append old adds.refs, ap length none)

pub few_frames_on : (space first next end : ℕ) (rows0 rows1 : List Row) (old now : List (ℕ × CountedPage)) → HasFewRefs rows0 → old ≡ [] → first ≤ next → AreDrawn (reaches space first (next - first)) rows0 rows1 → AddsParts frame_part space rows0 first (next - first) old now
    → FewMore frame_part space rows1 next (end - next) now
few_frames_on space first next end rows0 rows1 old now few = few_on frame_part space first next end rows0 rows1 old now (few.frames space first)

pub few_slots_on : (space first next end : ℕ) (rows0 rows1 : List Row) (old now : List (ℕ × CountedPage)) → HasFewRefs rows0 → old ≡ [] → first ≤ next → AreDrawn (reaches space first (next - first)) rows0 rows1 → AddsParts slot_part space rows0 first (next - first) old now
    → FewMore slot_part space rows1 next (end - next) now
few_slots_on space first next end rows0 rows1 old now few = few_on slot_part space first next end rows0 rows1 old now (few.slots space first)
