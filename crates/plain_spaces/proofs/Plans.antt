-- What the pages of an access want, and why it is refused.
use Rattle.std.proofs.Common.{◌≡◌, ℕ, ◌+◌, ◌<◌, ◌≤◌, Bool, true, false, cond, ◌&&◌, List, [], ◌∷◌, ◌++◌, length, get_or, refl, sym, ap, ◌∙◌, arith}
use Rattle.std.specs.Prelude.{Option, Some, None, IfSome, is_some, nat_eq, map}
use Rattle.std.specs.Option.{option_map, option_or, option_map_or}
use Rattle.std.specs.List.{filter}
use Rattle.std.specs.Ordering.{nat_cmp}
use mathlib.Core.Logic.{◌⊎◌, inl, inr}
use Rattle.std.specs.Cmp.{nat_eq_equiv}
use Rattle.std.proofs.lemmas.Bool.{eq-eqb, ne_eqb, cond-true, cond-false}
use Rattle.std.proofs.lemmas.List.{append-nil}
use Rattle.std.specs.FinMap as fin
use Rattle.std.specs.FinMap.{FinMap, get}
use Rattle.corten_base.specs.declared.calls.Reply.{Reply}
use Rattle.table_place.specs.Range.{within}
use Rattle.page_map.specs.declared.cell.Cell.{Cell}
use Rattle.page_map.specs.Change.{keys_in, earliest}
use Rattle.page_map.specs.State.{AddressSpace, carries}
use Rattle.page_map.specs.Access.{Access, first_page, page_count, refused_at, refused_access}
use Rattle.page_map.proofs.Range.{inside}
use Rattle.page_map.proofs.Keys.{keys_in_more, chosen}
use Rattle.page_map.proofs.Owners.{one_weight, same_some}
use Rattle.plain_counts.specs.Counts.{carried, IsCounted}
use Rattle.plain_spaces.specs.Reach.{last_page, beyond, wants, wanting}
use Rattle.plain_spaces.specs.Wants.{moving, want_of}
use Rattle.plain_spaces.specs.declared.plan.Want.{Want}
use Rattle.plain_spaces.proofs.Reach.{earliest_one, earliest_two, one_or_two}
use Rattle.plain_counts.proofs.Tally.{counted}

-- a cell that carries a number is one of its owners
pub carried_here : (number_of : Cell → Option ℕ) (n : ℕ) (cells : AddressSpace) (page : ℕ) (cell : Cell) → get cells page ≡ Some cell → number_of cell ≡ Some n → 1 ≤ carried number_of n cells
carried_here number_of n cells page cell h is =
    let one = one_weight (λ c. cond (carries number_of n c) 1 0) cells page cell h in
    let here : ◌≡◌ {A = ℕ} (cond (carries number_of n cell) 1 0) 1 = ap (λ b. cond b 1 0) (ap (λ o. option_map_or (λ m. nat_eq m n) o false) is ∙ nat_eq_equiv.refl n) in
    omega (arith, one, here)

-- and the counts have it
pub has_count : (number_of : Cell → Option ℕ) (counts : List ℕ) (cells : AddressSpace) → IsCounted number_of counts cells → (page : ℕ) (cell : Cell) → get cells page ≡ Some cell →
    IfSome (number_of cell) (λ n. 0 < get_or counts n 0)
has_count number_of counts cells ok page cell h = go (number_of cell) refl
  where
    go : (o : Option ℕ) → number_of cell ≡ o → IfSome o (λ n. 0 < get_or counts n 0)
    go None e = tt
    go (Some n) e = omega (arith, ok.each n, carried_here number_of n cells page cell h e)

pub is_counted : (number_of : Cell → Option ℕ) (counts : List ℕ) (cells : AddressSpace) → IsCounted number_of counts cells → (page : ℕ) (cell : Cell) → get cells page ≡ Some cell →
    IfSome (number_of cell) (λ n. n < length counts)
is_counted number_of counts cells ok page cell h = each (number_of cell) (has_count number_of counts cells ok page cell h)
  where
    each : (o : Option ℕ) → IfSome o (λ n. 0 < get_or counts n 0) → IfSome o (λ n. n < length counts)
    each None h = tt
    each (Some n) h = counted counts n h

-- a page wants something where it wants a frame
pub wants_it : (files : List (List ℕ)) (owners : ℕ → ℕ) (write : Bool) (cell : Cell) → is_some (want_of files owners write cell) ≡ wants owners write cell
wants_it files owners write cell = go (wants owners write cell)
  where
    go : (b : Bool) → is_some (cond b (Some (moving files cell)) None) ≡ b
    go true = refl
    go false = refl

module _ (files : List (List ℕ)) (owners : ℕ → ℕ) (write : Bool) where
  pub chosen_wants : (page : ℕ) (o : Option Cell) (want : Option Want) → option_map (want_of files owners write) o ≡ Some want → chosen (wants owners write) page o ≡ cond (is_some want) (page ∷ []) []
  unfolding chosen
  chosen_wants page None want e = absurd (none e)
    where
      none : ◌≡◌ {A = Option (Option Want)} None (Some want) → ⊥
      none h = cc
  chosen_wants page (Some cell) want e = ap (λ b. cond b (page ∷ []) []) (sym (wants_it files owners write cell) ∙ ap is_some (same_some e))

module _ {X : Type 0} (passes : X → Bool) (m : FinMap nat_cmp X) (low : ℕ) where
  pub no_keys : keys_in m low 0 passes ≡ []
  no_keys = go (fin.entries m)
    where
      go : (es : List (ℕ × X)) → map (λ e. e.0) (filter (λ e. within low 0 e.0 && passes e.1) es) ≡ []
      go [] = refl
      go (e ∷ es) = ap (λ b. map (λ e. e.0) (cond (b && passes e.1) (e ∷ filter (λ e. within low 0 e.0 && passes e.1) es) (filter (λ e. within low 0 e.0 && passes e.1) es))) (out (within low 0 e.0) refl) ∙ go es
        where
          out : (b : Bool) → within low 0 e.0 ≡ b → b ≡ false
          out false h = refl
          out true h = absurd (omega (arith, (inside low 0 e.0 h).0, (inside low 0 e.0 h).1))

  pub keys_in_one : keys_in m low 1 passes ≡ chosen passes low (get m low)
  keys_in_one = keys_in_more passes m low 0 ∙ ap (λ l. l ++ chosen passes (low + 0) (get m (low + 0))) no_keys ∙ ap (λ k. chosen passes k (get m k)) (same low)
    where
      same : (k : ℕ) → k + 0 ≡ k
      same k = omega arith

  pub keys_in_two : keys_in m low 2 passes ≡ chosen passes low (get m low) ++ chosen passes (low + 1) (get m (low + 1))
  keys_in_two = keys_in_more passes m low 1 ∙ ap (λ l. l ++ chosen passes (low + 1) (get m (low + 1))) keys_in_one

module _ (files : List (List ℕ)) (cells : AddressSpace) (owners : ℕ → ℕ) (a : Access) (some : 0 < a.len) (few : a.len ≤ 4096) where
  abbrev at : ℕ → Option Reply
  at page = refused_at files a.write page (get cells page)

  -- the refusal of the first page, or else that of another last one
  pub refused_either : refused_access files cells a ≡ option_or (at (first_page a)) (beyond a None (at (last_page a)))
  refused_either = go (one_or_two a some few)
    where
      or_none : (o : Option Reply) → o ≡ option_or o None
      or_none None = refl
      or_none (Some r) = refl

      go : ((last_page a ≡ first_page a) × (page_count a ≡ 1)) ⊎ ((last_page a ≡ first_page a + 1) × (page_count a ≡ 2)) → refused_access files cells a ≡ option_or (at (first_page a)) (beyond a None (at (last_page a)))
      go (inl e) = ap (λ n. earliest (first_page a) n at) e.1 ∙ earliest_one (first_page a) at ∙ or_none (at (first_page a))
          ∙ ap (option_or (at (first_page a))) (sym (cond-true _ None (at (last_page a)) (eq-eqb (last_page a) (first_page a) e.0)))
      go (inr e) = ap (λ n. earliest (first_page a) n at) e.1 ∙ earliest_two (first_page a) at
          ∙ ap (λ page. option_or (at (first_page a)) (at page)) (sym e.0)
          ∙ ap (option_or (at (first_page a))) (sym (cond-false _ None (at (last_page a)) (ne_eqb (last_page a) (first_page a) (λ f. omega (arith, e.0, f)))))

  -- the pages that want a frame, from what the two pages want
  pub wanting_is : (near far : Option Want) → option_map (want_of files owners a.write) (get cells (first_page a)) ≡ Some near →
      beyond a (Some None) (option_map (want_of files owners a.write) (get cells (last_page a))) ≡ Some far →
      wanting owners cells a ≡ cond (is_some near) (first_page a ∷ []) [] ++ cond (is_some far) (last_page a ∷ []) []
  wanting_is near far n f = go (one_or_two a some few)
    where
      go : ((last_page a ≡ first_page a) × (page_count a ≡ 1)) ⊎ ((last_page a ≡ first_page a + 1) × (page_count a ≡ 2)) →
          wanting owners cells a ≡ cond (is_some near) (first_page a ∷ []) [] ++ cond (is_some far) (last_page a ∷ []) []
      go (inl e) =
          ap (λ k. keys_in cells (first_page a) k (wants owners a.write)) e.1 ∙ keys_in_one (wants owners a.write) cells (first_page a)
          ∙ chosen_wants files owners a.write (first_page a) (get cells (first_page a)) near n
          ∙ sym (append-nil (cond (is_some near) (first_page a ∷ []) []))
          ∙ ap (λ w. cond (is_some near) (first_page a ∷ []) [] ++ cond (is_some w) (last_page a ∷ []) []) (same_some (sym (cond-true _ (Some None) (option_map (want_of files owners a.write) (get cells (last_page a))) (eq-eqb (last_page a) (first_page a) e.0)) ∙ f))
      go (inr e) =
          ap (λ k. keys_in cells (first_page a) k (wants owners a.write)) e.1 ∙ keys_in_two (wants owners a.write) cells (first_page a)
          ∙ (λ i. chosen_wants files owners a.write (first_page a) (get cells (first_page a)) near n i
          ++ (ap (λ page. chosen (wants owners a.write) page (get cells page)) (sym e.0)
          ∙ chosen_wants files owners a.write (last_page a) (get cells (last_page a)) far (sym (cond-false _ (Some None) (option_map (want_of files owners a.write) (get cells (last_page a))) (ne_eqb (last_page a) (first_page a) (λ g. omega (arith, e.0, g)))) ∙ f)) i)

  pub count_wanting : (near far : Option Want) → option_map (want_of files owners a.write) (get cells (first_page a)) ≡ Some near →
      beyond a (Some None) (option_map (want_of files owners a.write) (get cells (last_page a))) ≡ Some far →
      length (wanting owners cells a) ≡ cond (is_some near) 1 0 + cond (is_some far) 1 0
  count_wanting near far n f = ap length (wanting_is near far n f) ∙ go (is_some near) (is_some far)
    where
      go : (b d : Bool) → length (cond b (first_page a ∷ []) [] ++ cond d (last_page a ∷ []) []) ≡ cond b 1 0 + cond d 1 0
      go true true = refl
      go true false = refl
      go false true = refl
      go false false = refl

  -- the first page refuses, or the last, or none
  pub refused_by_near : (r : Reply) → at (first_page a) ≡ Some r → refused_access files cells a ≡ Some r
  refused_by_near r e = refused_either ∙ ap (λ o. option_or o (beyond a None (at (last_page a)))) e

  pub refused_by_far : (r : Reply) → at (first_page a) ≡ None → beyond a None (at (last_page a)) ≡ Some r → refused_access files cells a ≡ Some r
  refused_by_far r n e = refused_either ∙ (λ i. option_or (n i) (e i))

  pub refused_by_none : at (first_page a) ≡ None → beyond a None (at (last_page a)) ≡ None → refused_access files cells a ≡ None
  refused_by_none n e = refused_either ∙ (λ i. option_or (n i) (e i))
