-- The cells after the pages of an access got their frames.
use Rattle.std.proofs.Common.{◌≡◌, ℕ, ◌+◌, ◌<◌, ◌≤◌, Bool, true, false, cond, not, ◌&&◌, ◌||◌, List, [], ◌∷◌, ◌++◌, length, refl, sym, ap, subst, ◌∙◌, arith}
use mathlib.Core.Logic.{◌⊎◌, inl, inr}
use Rattle.std.specs.Prelude.{Option, Some, None, IsSome, IfSome, IfNone, is_some, nat_eq}
use Rattle.std.specs.Option.{option_map}
use Rattle.std.specs.List.{zip}
use Rattle.std.specs.Cmp.{unsigned_tied, nat_eq_equiv}
use Rattle.std.proofs.lemmas.Bool.{cases_eq, eq-eqb, ne_eqb, cond-true, cond-false, false≢true}
use Rattle.std.specs.FinMap as fin
use Rattle.std.specs.FinMap.{get}
use Rattle.table_place.specs.Range.{within}
use Rattle.page_map.specs.declared.cell.Cell.{Cell}
use Rattle.page_map.specs.declared.cell.Cell.TheVariants.{Anon, File, Mapped, Swapped}
use Rattle.page_map.specs.Cell.{backing_of, perm_of, contents}
use Rattle.page_map.specs.Change.{change, set_at}
use Rattle.page_map.specs.State.{AddressSpace}
use Rattle.page_map.specs.Takes.{Grant, grant, granted}
use Rattle.page_map.specs.Access.{Access, first_page, page_count}
use Rattle.page_map.proofs.Range.{inside, outside, get-change, change_is}
use Rattle.page_map.proofs.Owners.{same_some}
use Rattle.space_cells.specs.declared.held.Number.TheVariants.{Frame}
use Rattle.space_cells.specs.Cells.{with_held}
use Rattle.plain_spaces.specs.Reach.{last_page, beyond, given, brought, wanting}
use Rattle.plain_spaces.specs.Wants.{moving, want_of, in_frame, laid}
use Rattle.plain_spaces.specs.declared.plan.Want.{Want}
use Rattle.plain_spaces.proofs.Moves.{change_one, put_back}
use Rattle.plain_spaces.proofs.Plans.{wanting_is}
use Rattle.plain_spaces.proofs.Reach.{one_or_two}

-- a page that wants nothing is on its frame, and another gets the bytes that it has
abbrev pub Fits : List (List ℕ) → Option Want → Cell → Type 0
Fits files None cell = given files None cell ≡ cell
Fits files (Some want) cell = want.body ≡ contents files cell

fits : (files : List (List ℕ)) (owners : ℕ → ℕ) (write : Bool) (cell : Cell) → Fits files (want_of files owners write cell) cell
fits files owners write (Mapped perm origin frame bytes) = go (write && not (nat_eq (owners frame) 1))
  where
    go : (b : Bool) → Fits files (cond b (Some (moving files (Mapped perm origin frame bytes))) None) (Mapped perm origin frame bytes)
    go true = refl
    go false = refl
fits files owners write (Anon perm) = refl
fits files owners write (File perm file index) = refl
fits files owners write (Swapped perm origin slot bytes) = refl

module _ (files : List (List ℕ)) (owners : ℕ → ℕ) (write : Bool) where
  pub wanted_there : (o : Option Cell) (want : Option Want) → option_map (want_of files owners write) o ≡ Some want → IsSome o
  wanted_there None want e = absurd (none e)
    where
      none : ◌≡◌ {A = Option (Option Want)} None (Some want) → ⊥
      none h = cc
  wanted_there (Some cell) want e = refl

  pub wanted_fits : (o : Option Cell) (want : Option Want) → option_map (want_of files owners write) o ≡ Some want → IfSome o (Fits files want)
  wanted_fits None want e = tt
  wanted_fits (Some cell) want e = subst (λ w. Fits files w cell) (same_some e) (fits files owners write cell)

-- a page that wants nothing stays, and another is laid on its frame
pub laid_is : (files : List (List ℕ)) (cells : AddressSpace) (page : ℕ) (frame : Option ℕ) (want : Option Want) → IsSome (get cells page) → IfSome (get cells page) (Fits files want) → is_some frame ≡ is_some want →
    laid (in_frame page frame want) cells ≡ change cells page 1 (λ _. option_map (given files frame))
laid_is files cells page frame want there fits taken = go (get cells page) refl there fits
  where
    at : (cell : Cell) → get cells page ≡ Some cell → (f : Cell → Cell) → change cells page 1 (λ _. option_map f) ≡ fin.insert cells page (f cell)
    at cell here f = change_one cells page (λ _. option_map f) ∙ ap (λ o. set_at cells page (option_map f o)) here

    each : (cell : Cell) → get cells page ≡ Some cell → (frame : Option ℕ) (want : Option Want) → Fits files want cell → is_some frame ≡ is_some want →
        laid (in_frame page frame want) cells ≡ change cells page 1 (λ _. option_map (given files frame))
    each cell here None None fits e = sym (at cell here (given files None) ∙ ap (fin.insert cells page) fits ∙ put_back cells page cell here)
    each cell here (Some n) (Some w) fits e =
        at cell here (with_held (record { number = Frame n; bytes = w.body }))
        ∙ ap (λ b. fin.insert cells page (Mapped (perm_of cell) (backing_of cell) n b)) fits
        ∙ sym (at cell here (given files (Some n)))
    each cell here None (Some w) fits e = absurd (false≢true e)
    each cell here (Some n) None fits e = absurd (false≢true (sym e))

    go : (o : Option Cell) → get cells page ≡ o → IsSome o → IfSome o (Fits files want) → laid (in_frame page frame want) cells ≡ change cells page 1 (λ _. option_map (given files frame))
    go None here there fits = absurd (false≢true there)
    go (Some cell) here there fits = each cell here frame want fits taken

-- the last page has a cell, where it is not the first
pub last_there : (files : List (List ℕ)) (cells : AddressSpace) (owners : ℕ → ℕ) (a : Access) (far : Option Want) → beyond a (Some None) (option_map (want_of files owners a.write) (get cells (last_page a))) ≡ Some far →
    (last_page a ≡ first_page a → ⊥) → IsSome (get cells (last_page a))
last_there files cells owners a far e f =
    wanted_there files owners a.write (get cells (last_page a)) far
    (sym (cond-false _ (Some None) (option_map (want_of files owners a.write) (get cells (last_page a))) (ne_eqb (last_page a) (first_page a) f)) ∙ e)

pub within_one : (k q : ℕ) → within k 1 q ≡ nat_eq q k
within_one k q = go (within k 1 q) refl
  where
    go : (b : Bool) → within k 1 q ≡ b → b ≡ nat_eq q k
    go true h = sym (eq-eqb q k (omega (arith, (inside k 1 q h).0, (inside k 1 q h).1)))
    go false h = sym (ne_eqb q k (λ e. outside k 1 q h (omega (arith, e)) (omega (arith, e))))

pub within_two : (k q : ℕ) → within k 2 q ≡ (nat_eq q k || nat_eq q (k + 1))
within_two k q = go (cases_eq q k) (cases_eq q (k + 1)) (within k 2 q) refl
  where
    go : (q ≡ k) ⊎ (q ≡ k → ⊥) → (q ≡ k + 1) ⊎ (q ≡ k + 1 → ⊥) → (b : Bool) → within k 2 q ≡ b → b ≡ (nat_eq q k || nat_eq q (k + 1))
    go (inl e) r true h = sym (ap (λ b. b || nat_eq q (k + 1)) (eq-eqb q k e))
    go (inl e) r false h = absurd (outside k 2 q h (omega (arith, e)) (omega (arith, e)))
    go (inr f) (inl e) true h = sym (λ i. ne_eqb q k f i || eq-eqb q (k + 1) e i)
    go (inr f) (inl e) false h = absurd (outside k 2 q h (omega (arith, e)) (omega (arith, e)))
    go (inr f) (inr g) true h = absurd (omega (arith, f, g, (inside k 2 q h).0, (inside k 2 q h).1))
    go (inr f) (inr g) false h = sym (λ i. ne_eqb q k f i || ne_eqb q (k + 1) g i)

twice : (files : List (List ℕ)) (frame : Option ℕ) (o : Option Cell) → option_map (given files None) (option_map (given files frame) o) ≡ option_map (given files frame) o
twice files frame None = refl
twice files frame (Some cell) = refl

module _ (files : List (List ℕ)) (cells : AddressSpace) (owners : ℕ → ℕ) (a : Access) (some : 0 < a.len) (few : a.len ≤ 4096) (near far : Option Want) (first last : Option ℕ)
    (far_is : beyond a (Some None) (option_map (want_of files owners a.write) (get cells (last_page a))) ≡ Some far) where
  abbrev settled : AddressSpace
  settled = change cells (first_page a) 1 (λ _. option_map (given files first))

  settled_at : (q : ℕ) → get settled q ≡ cond (nat_eq q (first_page a)) (option_map (given files first) (get cells q)) (get cells q)
  settled_at q = get-change cells (first_page a) 1 (λ _. option_map (given files first)) q ∙ ap (λ b. cond b (option_map (given files first) (get cells q)) (get cells q)) (within_one (first_page a) q)

  pub settled_same : last_page a ≡ first_page a → get settled (last_page a) ≡ option_map (given files first) (get cells (first_page a))
  settled_same e = settled_at (last_page a) ∙ cond-true _ _ _ (eq-eqb (last_page a) (first_page a) e) ∙ ap (λ q. option_map (given files first) (get cells q)) e

  pub settled_next : (last_page a ≡ first_page a → ⊥) → get settled (last_page a) ≡ get cells (last_page a)
  settled_next f = settled_at (last_page a) ∙ cond-false _ _ _ (ne_eqb (last_page a) (first_page a) f)

  pub far_nothing : last_page a ≡ first_page a → far ≡ None
  far_nothing e = sym (same_some (sym (cond-true _ (Some None) (option_map (want_of files owners a.write) (get cells (last_page a))) (eq-eqb (last_page a) (first_page a) e)) ∙ far_is))

  pub far_wanted : (last_page a ≡ first_page a → ⊥) → option_map (want_of files owners a.write) (get cells (last_page a)) ≡ Some far
  far_wanted f = sym (cond-false _ (Some None) (option_map (want_of files owners a.write) (get cells (last_page a))) (ne_eqb (last_page a) (first_page a) f)) ∙ far_is

  -- what the last page is once the first has moved
  pub far_there : IsSome (get cells (first_page a)) → IsSome (get settled (last_page a))
  far_there there = go (cases_eq (last_page a) (first_page a))
    where
      moved : (o : Option Cell) → IsSome o → IsSome (option_map (given files first) o)
      moved None h = h
      moved (Some cell) h = refl

      go : (last_page a ≡ first_page a) ⊎ (last_page a ≡ first_page a → ⊥) → IsSome (get settled (last_page a))
      go (inl e) = subst (λ o. IsSome o) (sym (settled_same e)) (moved (get cells (first_page a)) there)
      go (inr f) = subst (λ o. IsSome o) (sym (settled_next f)) (wanted_there files owners a.write (get cells (last_page a)) far (far_wanted f))

  pub far_fits : IfSome (get settled (last_page a)) (Fits files far)
  far_fits = go (cases_eq (last_page a) (first_page a))
    where
      moved : (o : Option Cell) → IfSome (option_map (given files first) o) (Fits files None)
      moved None = tt
      moved (Some cell) = refl

      go : (last_page a ≡ first_page a) ⊎ (last_page a ≡ first_page a → ⊥) → IfSome (get settled (last_page a)) (Fits files far)
      go (inl e) = subst (λ o. IfSome o (Fits files far)) (sym (settled_same e)) (subst (λ w. IfSome (option_map (given files first) (get cells (first_page a))) (Fits files w)) (sym (far_nothing e)) (moved (get cells (first_page a))))
      go (inr f) = subst (λ o. IfSome o (Fits files far)) (sym (settled_next f)) (wanted_fits files owners a.write (get cells (last_page a)) far (far_wanted f))

  -- both pages have moved to the frames that were granted
  pub both_settled : (grants : Grant) → granted grants (first_page a) ≡ first → ((last_page a ≡ first_page a → ⊥) → granted grants (last_page a) ≡ last) → is_some last ≡ is_some far →
      change settled (last_page a) 1 (λ _. option_map (given files last)) ≡ brought files grants a cells
  both_settled grants g h w = change_is cells (first_page a) (page_count a) (λ page. option_map (given files (granted grants page))) _ (λ q. at q (one_or_two a some few))
    where
      new : ℕ → Option Cell
      new q = option_map (given files (granted grants q)) (get cells q)

      last_none : last_page a ≡ first_page a → last ≡ None
      last_none e = none last (w ∙ ap is_some (far_nothing e))
        where
          none : (o : Option ℕ) → is_some o ≡ false → o ≡ None
          none None h = refl
          none (Some n) h = absurd (false≢true (sym h))

      left : (q : ℕ) → get (change settled (last_page a) 1 (λ _. option_map (given files last))) q ≡ cond (nat_eq q (last_page a)) (option_map (given files last) (get settled q)) (get settled q)
      left q = get-change settled (last_page a) 1 (λ _. option_map (given files last)) q ∙ ap (λ b. cond b (option_map (given files last) (get settled q)) (get settled q)) (within_one (last_page a) q)

      at : (q : ℕ) → ((last_page a ≡ first_page a) × (page_count a ≡ 1)) ⊎ ((last_page a ≡ first_page a + 1) × (page_count a ≡ 2)) →
          get (change settled (last_page a) 1 (λ _. option_map (given files last))) q ≡ cond (within (first_page a) (page_count a) q) (new q) (get cells q)
      at q (inl e) = left q ∙ go (cases_eq q (first_page a)) ∙ ap (λ b. cond b (new q) (get cells q)) (sym (ap (λ n. within (first_page a) n q) e.1 ∙ within_one (first_page a) q))
        where
          go : (q ≡ first_page a) ⊎ (q ≡ first_page a → ⊥) → cond (nat_eq q (last_page a)) (option_map (given files last) (get settled q)) (get settled q) ≡ cond (nat_eq q (first_page a)) (new q) (get cells q)
          go (inl s) =
              cond-true _ _ _ (eq-eqb q (last_page a) (s ∙ sym e.0))
              ∙ (λ i. option_map (given files (last_none e.0 i)) ((settled_at q ∙ cond-true _ _ _ (eq-eqb q (first_page a) s)) i))
              ∙ twice files first (get cells q)
              ∙ ap (λ o. option_map (given files o) (get cells q)) (sym g ∙ ap (granted grants) (sym s))
              ∙ sym (cond-true _ _ _ (eq-eqb q (first_page a) s))
          go (inr f) =
              cond-false _ _ _ (ne_eqb q (last_page a) (λ s. f (s ∙ e.0)))
              ∙ settled_at q ∙ cond-false _ _ _ (ne_eqb q (first_page a) f)
              ∙ sym (cond-false _ _ _ (ne_eqb q (first_page a) f))
      at q (inr e) = left q ∙ go (cases_eq q (first_page a)) (cases_eq q (last_page a)) ∙ ap (λ b. cond b (new q) (get cells q)) (sym (ap (λ n. within (first_page a) n q) e.1 ∙ within_two (first_page a) q ∙ ap (λ k. nat_eq q (first_page a) || nat_eq q k) (sym e.0)))
        where
          apart : last_page a ≡ first_page a → ⊥
          apart s = omega (arith, e.0, s)

          go : (q ≡ first_page a) ⊎ (q ≡ first_page a → ⊥) → (q ≡ last_page a) ⊎ (q ≡ last_page a → ⊥) →
              cond (nat_eq q (last_page a)) (option_map (given files last) (get settled q)) (get settled q) ≡ cond (nat_eq q (first_page a) || nat_eq q (last_page a)) (new q) (get cells q)
          go (inl s) (inl t) = absurd (apart (sym t ∙ s))
          go (inl s) (inr t) =
              cond-false _ _ _ (ne_eqb q (last_page a) t)
              ∙ settled_at q ∙ cond-true _ _ _ (eq-eqb q (first_page a) s)
              ∙ ap (λ o. option_map (given files o) (get cells q)) (sym g ∙ ap (granted grants) (sym s))
              ∙ sym (cond-true (nat_eq q (first_page a) || nat_eq q (last_page a)) (new q) (get cells q) (ap (λ b. b || nat_eq q (last_page a)) (eq-eqb q (first_page a) s)))
          go (inr f) (inl t) =
              cond-true _ _ _ (eq-eqb q (last_page a) t)
              ∙ ap (option_map (given files last)) (settled_at q ∙ cond-false _ _ _ (ne_eqb q (first_page a) f))
              ∙ ap (λ o. option_map (given files o) (get cells q)) (sym (h apart) ∙ ap (granted grants) (sym t))
              ∙ sym (cond-true (nat_eq q (first_page a) || nat_eq q (last_page a)) (new q) (get cells q) (λ i. ne_eqb q (first_page a) f i || eq-eqb q (last_page a) t i))
          go (inr f) (inr t) =
              cond-false _ _ _ (ne_eqb q (last_page a) t)
              ∙ settled_at q ∙ cond-false _ _ _ (ne_eqb q (first_page a) f)
              ∙ sym (cond-false (nat_eq q (first_page a) || nat_eq q (last_page a)) (new q) (get cells q) (λ i. ne_eqb q (first_page a) f i || ne_eqb q (last_page a) t i))

-- Numbers that were taken one after another from the unused ones are those that are granted.
at_head : (k n : ℕ) (rest : List (ℕ × ℕ)) → granted ((k, n) ∷ rest) k ≡ Some n
at_head k n rest = ap (λ b. cond b (Some n) (granted rest k)) (unsigned_tied k k ∙ nat_eq_equiv.refl k)

past_head : (k j n : ℕ) (rest : List (ℕ × ℕ)) → (j ≡ k → ⊥) → granted ((k, n) ∷ rest) j ≡ granted rest j
past_head k j n rest f = ap (λ b. cond b (Some n) (granted rest j)) (unsigned_tied j k ∙ ne_eqb j k f)

abbrev pub two_pages : ℕ → ℕ → Bool → Bool → List ℕ
two_pages p q near far = cond near (p ∷ []) [] ++ cond far (q ∷ []) []

-- what the last page gets from the numbers that are left
last_gets : (q : ℕ) (far : Bool) (last : Option ℕ) (v w : List ℕ) → is_some last ≡ far → IfSome last (λ n. v ≡ n ∷ w) → granted (zip (cond far (q ∷ []) []) v) q ≡ last
last_gets q true (Some n) v w t e = ap (λ l. granted (zip (q ∷ []) l) q) e ∙ at_head q n (zip [] w)
last_gets q false None v w t e = refl
last_gets q true None v w t e = absurd (false≢true t)
last_gets q false (Some n) v w t e = absurd (false≢true (sym t))

pub granted_first : (p q : ℕ) (near far : Bool) (first last : Option ℕ) (u v w : List ℕ) → is_some first ≡ near → is_some last ≡ far → (q ≡ p → far ≡ false) →
    IfSome first (λ n. u ≡ n ∷ v) → IfNone first (v ≡ u) → IfSome last (λ n. v ≡ n ∷ w) → granted (grant (two_pages p q near far) u) p ≡ first
granted_first p q true far (Some n) last u v w s t one taken kept then = ap (λ l. granted (zip (p ∷ cond far (q ∷ []) []) l) p) taken ∙ at_head p n (zip (cond far (q ∷ []) []) v)
granted_first p q false false None last u v w s t one taken kept then = refl
granted_first p q false true None (Some m) u v w s t one taken kept then =
    ap (λ l. granted (zip (q ∷ []) l) p) (sym kept ∙ then) ∙ past_head q p m (zip [] w) (λ e. false≢true (sym (one (sym e))))
granted_first p q false true None None u v w s t one taken kept then = absurd (false≢true t)
granted_first p q true far None last u v w s t one taken kept then = absurd (false≢true s)
granted_first p q false far (Some n) last u v w s t one taken kept then = absurd (false≢true (sym s))

pub granted_last : (p q : ℕ) (near far : Bool) (first last : Option ℕ) (u v w : List ℕ) → is_some first ≡ near → is_some last ≡ far → (q ≡ p → ⊥) →
    IfSome first (λ n. u ≡ n ∷ v) → IfNone first (v ≡ u) → IfSome last (λ n. v ≡ n ∷ w) → granted (grant (two_pages p q near far) u) q ≡ last
granted_last p q true far (Some n) last u v w s t f taken kept then =
    ap (λ l. granted (zip (p ∷ cond far (q ∷ []) []) l) q) taken ∙ past_head p q n (zip (cond far (q ∷ []) []) v) f ∙ last_gets q far last v w t then
granted_last p q false far None last u v w s t f taken kept then = ap (λ l. granted (zip (cond far (q ∷ []) []) l) q) (sym kept) ∙ last_gets q far last v w t then
granted_last p q true far None last u v w s t f taken kept then = absurd (false≢true s)
granted_last p q false far (Some n) last u v w s t f taken kept then = absurd (false≢true (sym s))

-- there is a number for the first page, and once it has taken one there is one for the last
pub enough_near : (near far : Bool) (n : ℕ) → cond near 1 0 + cond far 1 0 ≤ n → near ≡ true → 0 < n
enough_near true far n enough e = omega (arith, enough)
enough_near false far n enough e = absurd (false≢true e)

pub enough_far : (near far : Bool) (first : Option ℕ) (u v : List ℕ) → is_some first ≡ near → IfSome first (λ n. u ≡ n ∷ v) → IfNone first (v ≡ u) → cond near 1 0 + cond far 1 0 ≤ length u → far ≡ true → 0 < length v
enough_far near false first u v s taken kept enough e = absurd (false≢true e)
enough_far true true (Some n) u v s taken kept enough e = omega (arith, ap length taken, enough)
enough_far false true None u v s taken kept enough e = omega (arith, ap length kept, enough)
enough_far true true None u v s taken kept enough e = absurd (false≢true s)
enough_far false true (Some n) u v s taken kept enough e = absurd (false≢true (sym s))

-- where no number was taken, what is made of the counts stays
pub none_taken : {A : Type 0} (o : Option ℕ) (f : A → List ℕ) (x y : A) → IfNone o (x ≡ y) → IfNone o (f x ≡ f y)
none_taken None f x y e = ap f e
none_taken (Some n) f x y e = tt

-- ---- both pages

-- a page that is laid has a cell
pub laid_there : (cells : AddressSpace) (page : ℕ) (frame : Option ℕ) (want : Option Want) → IsSome (get cells page) → IfSome (in_frame page frame want) (λ e. IsSome (get cells e.0))
laid_there cells page (Some n) (Some w) there = there
laid_there cells page (Some n) None there = tt
laid_there cells page None (Some w) there = tt
laid_there cells page None None there = tt

module _ (files : List (List ℕ)) (cells : AddressSpace) (owners : ℕ → ℕ) (a : Access) (some : 0 < a.len) (few : a.len ≤ 4096) (near far : Option Want) (first last : Option ℕ)
    (near_is : option_map (want_of files owners a.write) (get cells (first_page a)) ≡ Some near)
    (far_is : beyond a (Some None) (option_map (want_of files owners a.write) (get cells (last_page a))) ≡ Some far)
    (near_takes : is_some first ≡ is_some near) (far_takes : is_some last ≡ is_some far) where
  pub near_there : IsSome (get cells (first_page a))
  near_there = wanted_there files owners a.write (get cells (first_page a)) near near_is

  pub last_is_there : IsSome (get cells (last_page a))
  last_is_there = go (cases_eq (last_page a) (first_page a))
    where
      go : (last_page a ≡ first_page a) ⊎ (last_page a ≡ first_page a → ⊥) → IsSome (get cells (last_page a))
      go (inl e) = subst (λ q. IsSome (get cells q)) (sym e) near_there
      go (inr f) = last_there files cells owners a far far_is f

  -- laid one after the other
  pub both_laid : laid (in_frame (last_page a) last far) (laid (in_frame (first_page a) first near) cells)
      ≡ change (change cells (first_page a) 1 (λ _. option_map (given files first))) (last_page a) 1 (λ _. option_map (given files last))
  both_laid =
      ap (laid (in_frame (last_page a) last far)) (laid_is files cells (first_page a) first near near_there (wanted_fits files owners a.write (get cells (first_page a)) near near_is) near_takes)
      ∙ laid_is files (change cells (first_page a) 1 (λ _. option_map (given files first))) (last_page a) last far
      (far_there files cells owners a some few near far first last far_is near_there) (far_fits files cells owners a some few near far first last far_is) far_takes

  -- the pages have the frames that they are granted
  pub all_brought : (u v w : List ℕ) → IfSome first (λ n. u ≡ n ∷ v) → IfNone first (v ≡ u) → IfSome last (λ n. v ≡ n ∷ w) →
      laid (in_frame (last_page a) last far) (laid (in_frame (first_page a) first near) cells) ≡ brought files (grant (wanting owners cells a) u) a cells
  all_brought u v w taken kept then =
      let pages = wanting_is files cells owners a some few near far near_is far_is in
      both_laid
      ∙ both_settled files cells owners a some few near far first last far_is (grant (wanting owners cells a) u)
      (ap (λ l. granted (grant l u) (first_page a)) pages
      ∙ granted_first (first_page a) (last_page a) (is_some near) (is_some far) first last u v w near_takes far_takes (λ e. ap is_some (far_nothing files cells owners a some few near far first last far_is e)) taken kept then)
      (λ f. ap (λ l. granted (grant l u) (last_page a)) pages
      ∙ granted_last (first_page a) (last_page a) (is_some near) (is_some far) first last u v w near_takes far_takes f taken kept then)
      far_takes
