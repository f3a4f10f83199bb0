-- Grab and release keep the rule.
use Rattle.std.proofs.Common.{◌≡◌, ℕ, ◌+◌, ◌<◌, ◌≤◌, ◌⊎◌, eqb, not, cond, true, false, List, [], ◌∷◌, ◌++◌, length, get_or, set, sym, refl, ap, ◌∙◌, subst, ⊎_elim, arith, length-set, eq-eqb, ne_eqb, Some, None}
use Rattle.std.specs.List.{Contains}
use Rattle.std.proofs.lemmas.List.{map-append}
use Rattle.std.proofs.lemmas.List.Elements.{Contains-push_cases}
use mathlib.Core.Option.{some, none}
use native.Mathlib.Decide.{ℕ_discrete}
use mathlib.Core.Logic.{dite}
use mathlib.Core.Path.{Path}
use prog.Atomic.{either}
use lib.ListN.{get_elem?}
use Rattle.atomic_table.specs.Table.{rest, Allows, step, takes, keeps, gives}
use Rattle.atomic_table.proofs.Lists.{set_else}
use Rattle.atomic_table.proofs.Lists as lists
use Rattle.table_place.specs.declared.Place.{Place}
use Rattle.walk_core.specs.declared.event.Event.TheVariants.{Grab, Release}
use Rattle.walk_core.specs.declared.pass.PassCore.{PassCore}
use Rattle.walk_core.specs.Words.{lock_at, stale}
use Rattle.walk_core.specs.Lists.{Has, without}
use Rattle.walk_core.specs.Core.{Core, pass_at, times_in_hand}
use Rattle.walk_core.specs.Guards.{StandsOn, HoldsLinker}
use Rattle.walk_core.proofs.RowLists.{times-nil}
use Rattle.walk_core.specs.Good.{LockSays, says_free, says_held, says_stale}
use Rattle.walk_core.proofs.Facts.{free_unheld, free_linked}
use Rattle.walk_core.proofs.KeepsLocks.{grabbed_there}
use Rattle.row_layout.specs.declared.places.Layout.{Layout}
use Rattle.row_table.specs.declared.view.PassView.{PassView}
use Rattle.row_table.specs.declared.view.HeldRow.{HeldRow}
use Rattle.row_table.specs.declared.plan.Content.TheVariants.{Row}
use Rattle.row_table.specs.Plan.{Meaning}
use Rattle.row_table.specs.Rows.{row_words, place_at, generation_of}
use Rattle.row_table.specs.Rule.{Slot, Homes, Seat, Table, view, IsOne, row_part, core_of, Contents, Agrees, IsHeldRow, Knows, Holds}
use Rattle.row_table.specs.Vacant.{KeepsVacant}
use Rattle.row_table.specs.Moves.{grabbed, looked, got, released, NotInHand, GrabSays, GrabTells, ReleaseTells, MayGrab, Fits}
use Rattle.row_table.proofs.Shown.{words_long, ShowSame, lock_shows}
use Rattle.row_table.proofs.Frames.{RowHome, moved_here, knows_shown, contents_locked, home_of, home_moves}
use Rattle.row_table.proofs.Known.{held_below, place_known, generation_known, links_below, links_lead, links_down, placed_now, right_now, loose_row, holder_of}
use Rattle.row_table.proofs.Views.{kept, rows_without, pass_is, is_linked, not_in_hand, guard_grab, has_held}

-- a row's lock word is at most that of a row that nobody may take
lock_small : (c : Core) (r w few : ℕ) → few < 256 → ((p : ℕ) → Has (pass_at c p).held r → p < few) → LockSays c r w → w ≤ stale
lock_small c r w few small there (says_free z t) = omega arith
lock_small c r w few small there (says_held p shown has) = let h = there p has in omega arith
lock_small c r w few small there (says_stale shown out) = omega arith

module _ {R B E : Type 0} (M : Meaning R B E) where
  -- what a pass that holds one row more knows
  holds_more : (k : Layout) (first : B) (ws us : List ℕ) (b : B) (v : PassView R B E) (r : ℕ) (x : R) → ShowSame k ws us → r < k.rows → M.agrees b (place_at ws r) (row_words ws r) x
      → Knows M k first ws b v → Knows M k first us b (got v r (place_at ws r) (generation_of ws r) (row_words ws r) x)
  holds_more k first ws us b v r x shows less agrees old =
      let now = knows_shown M k first ws us b v shows old in
      let g : HeldRow R = grabbed r (place_at ws r) (generation_of ws r) (row_words ws r) x in
      let w : PassView R B E = got v r (place_at ws r) (generation_of ws r) (row_words ws r) x in
      let z = shows.rows r less in record {
        there = now.there;
        layout = now.layout;
        epoch = now.epoch;
        held = map-append row_part v.rows (g ∷ []) ∙ ap (λ (l : List ℕ). l ++ r ∷ []) now.held;
        rows = λ y i. ⊎_elim
            (λ (j : Contains v.rows y). let o = now.rows y j in record { there = o.there; shown = o.shown; place = o.place; generation = o.generation; agrees = o.agrees })
            (λ (e : g ≡ y). subst (λ (u : HeldRow R). IsHeldRow M k us b w u) e (record { there = less; shown = z.words; place = z.place; generation = z.generation; agrees = λ _. record { found = λ _ y is. (let same : x ≡ y = cc in subst (λ (u : R). M.agrees b (place_at ws r) (row_words ws r) u) same agrees); given = λ f. absurd (cc) } }))
            (Contains-push_cases v.rows g y i);
        granted = now.granted;
        hand = now.hand;
        vacant = λ y i. ⊎_elim (now.vacant y)
            (λ (e : g ≡ y). subst (λ (u : HeldRow R). times_in_hand u.row v.core ≡ 0 → KeepsVacant M k.levels b v.last u) e
            (λ _. record { vacant = λ j has. let n = times-nil j in absurd (omega arith); keeps = λ j has. let n = times-nil j in absurd (omega arith) }))
            (Contains-push_cases v.rows g y i);
        placed = now.placed;
        found = now.found;
        origin = now.origin;
        seen = now.seen;
        mine = now.mine;
      }

  -- what a pass that holds one row less knows
  pub holds_less : (k : Layout) (first : B) (ws us : List ℕ) (b : B) (v : PassView R B E) (r : ℕ) → ShowSame k ws us → Knows M k first ws b v → Knows M k first us b (released v r)
  holds_less k first ws us b v r shows old =
      let now = knows_shown M k first ws us b v shows old in record {
        there = now.there;
        layout = now.layout;
        epoch = now.epoch;
        held = rows_without r v.rows ∙ ap (without r) now.held;
        rows = λ y i. let o = now.rows y (kept (λ (u : HeldRow R). not (eqb u.row r)) v.rows y i).1 in record { there = o.there; shown = o.shown; place = o.place; generation = o.generation; agrees = o.agrees };
        granted = now.granted;
        hand = now.hand;
        vacant = λ y i. now.vacant y (kept (λ (u : HeldRow R). not (eqb u.row r)) v.rows y i).1;
        placed = now.placed;
        found = now.found;
        origin = now.origin;
        seen = now.seen;
        mine = now.mine;
      }

  -- what a pass may leave in a row agrees with the book
  fitting : (k : Layout) (first : B) (ws : List ℕ) (b : B) (v : PassView R B E) (r : ℕ) (x : R) → Knows M k first ws b v → NotInHand v r → Fits M v r x → M.agrees b (place_at ws r) (row_words ws r) x
  fitting k first ws b v r x know linked fits =
      let y : HeldRow R = fits.known in let o = know.rows y fits.held in
      let agrees : Agrees M b v.last y = o.agrees (ap (λ (q : ℕ). times_in_hand q v.core) fits.same_row ∙ linked) in
      let at : M.agrees b y.place y.words x = ⊎_elim
      (λ (z : (y.is_given ≡ false) × (y.found ≡ Some x) × (y.words ≡ y.words_found)). subst (λ (ws : List ℕ). M.agrees b y.place ws x) (sym z.2) (agrees.found z.0 x z.1))
      (λ (z : (y.is_given ≡ true) × ((book : B) × (v.last ≡ Some book) × M.agrees book y.place y.words x)). agrees.given z.0 z.1.0 z.1.1 y.words x z.1.2)
      fits.content_fits in
      subst (λ (q : ℕ). M.agrees b (place_at ws q) (row_words ws q) x) fits.same_row
      (subst (λ (p : Place). M.agrees b p (row_words ws y.row) x) (sym o.place) (subst (λ (xs : List ℕ). M.agrees b y.place xs x) (sym o.shown) at))

  pub grabs : (k : Layout) (first : B) (slots id : ℕ) (m : Seat R B E) (n r : ℕ) → IsOne n m → MayGrab (view m) r
      → Allows (Holds M k first) slots id m (lock_at r) (λ x. either (eqb x 0) (n + 1) x) (GrabTells (step slots (lock_at r) 0 (n + 1) none) m)
  grabs k first slots id m n r one may s h long me _ =
      let v : PassView R B E = view m in
      let me' : get_elem? s.views id ≡ some (v ∷ []) = me ∙ ap some one.0 in
      let mine : get_elem? h.passes v.number ≡ some v = (h.seats id (v ∷ []) me' 0 v refl).0 in
      let c : Core = core_of M k s.words h.passes h.free h.book in
      let found : ℕ = get_or s.words (lock_at r) 0 in
      let guard : StandsOn v.core r ⊎ HoldsLinker c v.core r = guard_grab M k first s h v mine r may in
      let is = pass_is M k first s h v mine in
      let less : r < k.rows = grabbed_there c v.number r h.good (subst (λ (u : PassCore). StandsOn u r ⊎ HoldsLinker c u r) (sym is) guard) in
      let wide = h.good.sizes.words in let few = h.good.sizes.bounds.count_high in
      let near : lock_at r < length s.words = omega arith in
      let slots_are = h.slots in
      let know = h.knows v.number v mine in
      let place : Place = place_at s.words r in let words : List ℕ = row_words s.words r in
      dite (ℕ_discrete found 0)
      (λ hit. let t = h.contents.linked r less hit in let w : PassView R B E = got v r place (generation_of s.words r) words t.0 in
      let number : either (eqb found 0) (n + 1) found ≡ n + 1 = ap (λ b. either b (n + 1) found) (eq-eqb found 0 hit) in
      let linked = free_linked h.good.locks.rows r less hit in
      let unheld = free_unheld h.good.locks.rows r hit v.number in
      let few_passes = know.there in let same_number = one.1 in (
        w ∷ [],
        takes r (Some (Row t.0)),
        t.1,
        moved_here M k first s h id v w (Grab n r) (set s.homes r none) me' (sym one.1) refl guard
            (sym (ap (λ b. cond b w.core v.core) (eq-eqb found 0 hit)))
            refl refl (length-set s.homes r none)
            (contents_locked M k s.words h.book r (either (eqb found 0) (n + 1) found) s.homes (set s.homes r none) less near h.contents
            (λ q ne. set_else s.homes r q none ne)
            (record { linked = λ z. absurd (omega arith); others = λ z. absurd (omega arith) }))
            (lock_shows k s.words r (either (eqb found 0) (n + 1) found) less)
            (holds_more k first s.words (set s.words (lock_at r) (either (eqb found 0) (n + 1) found)) h.book v r t.0 (lock_shows k s.words r (either (eqb found 0) (n + 1) found) less) less t.2 know),
        λ q same. let e : r ≡ q = omega arith in
            subst (GrabSays m found (w ∷ [], (r, Some (Row t.0)) ∷ m.1)) e (
              (λ _. (
                record {
                  right = right_now M k first s h v mine;
                  there = subst (λ (y : Layout). r < y.rows) (sym know.layout) less;
                  place = place;
                  known = place_known M k first s h v mine r;
                  generation = generation_of s.words r;
                  known_generation = generation_known M k first s h v mine r;
                  words = words;
                  all = words_long s.words r;
                  below = links_below M k first s h v mine r less;
                  placed = placed_now M k first s h v mine r linked;
                  down = links_down M k first s h v mine r less;
                  leads = links_lead M k first s h v mine r less;
                  content = t.0;
                  linked = not_in_hand M k first s h v mine r linked;
                  once = λ has. let there = has_held M k first s h v mine r has in omega arith;
                },
                refl,
              )),
              λ z. absurd (z hit),
            ),
      ))
      (λ miss. let w : PassView R B E = looked v r place None found in
      let number : either (eqb found 0) (n + 1) found ≡ found = ap (λ b. either b (n + 1) found) (ne_eqb found 0 miss) in
      let shows = lock_shows k s.words r (either (eqb found 0) (n + 1) found) less in
      let now = knows_shown M k first s.words (set s.words (lock_at r) (either (eqb found 0) (n + 1) found)) h.book v shows know in (
        w ∷ [],
        keeps,
        tt,
        moved_here M k first s h id v w (Grab n r) s.homes me' (sym one.1) refl guard
            (sym (ap (λ b. cond b (record v.core { held = v.core.held ++ r ∷ [] }) v.core) (ne_eqb found 0 miss)))
            refl refl refl
            (contents_locked M k s.words h.book r (either (eqb found 0) (n + 1) found) s.homes s.homes less near h.contents
            (λ q ne. refl)
            (subst (RowHome M k (set s.words (lock_at r) (either (eqb found 0) (n + 1) found)) h.book s.homes r) (sym number)
            (home_moves M k s.words (set s.words (lock_at r) (either (eqb found 0) (n + 1) found)) h.book h.book s.homes s.homes r found (shows.rows r less) refl (λ _ _ a. a) (home_of M h.contents r less))))
            shows
            (record { there = now.there; layout = now.layout; epoch = now.epoch; held = now.held; rows = λ y i. let o = now.rows y i in record { there = o.there; shown = o.shown; place = o.place; generation = o.generation; agrees = o.agrees }; granted = now.granted; hand = now.hand; vacant = now.vacant; placed = now.placed; found = now.found; origin = now.origin; seen = now.seen; mine = now.mine }),
        λ q same. let e : r ≡ q = omega arith in
            subst (GrabSays m found (w ∷ [], m.1)) e (
              (λ z. absurd (miss z)),
              λ _. (
                record {
                  right = right_now M k first s h v mine;
                  place = place;
                  known = place_known M k first s h v mine r;
                  small = lock_small c r found k.passes (omega arith) (λ p has. held_below c p r h.good has) (h.good.locks.rows.each r less);
                  loose = λ z. loose_row M k first s h v mine r less z;
                  taken = λ ns. holder_of M k first s h v mine r found less refl miss ns;
                },
                refl,
              ),
            ),
      ))

  -- a row's content comes home while its lock word is written: a step of either kind shows what the word says of the row, and that the rule holds then
  pub comes_home : (k : Layout) (first : B) (slots id : ℕ) (m : Seat R B E) (n r word : ℕ) (x : R) → IsOne n m → Has (view m).core.held r → m.1 ≡ (r, Some (Row x)) ∷ rest m.1
      → ((s : Table R B E) (h : Holds M k first s) → get_elem? s.views id ≡ some (view m ∷ []) → get_elem? h.passes (view m).number ≡ some (view m) → r < k.rows → r < length s.homes
      → let us : List ℕ = set s.words (lock_at r) word in let homes : Homes R B = set s.homes r (some (Some (Row x))) in
      RowHome M k us h.book homes r word
      × (Contents M k us h.book homes → ShowSame k s.words us → Knows M k first us h.book (released (view m) r) → Holds M k first (record { words = us; homes = homes; views = set s.views id (released (view m) r ∷ []) })))
      → Allows (Holds M k first) slots id m (lock_at r) (λ _. word) (λ _. ReleaseTells (step slots (lock_at r) word 0 none) m word)
  comes_home k first slots id m n r word x one held front kind =
      let v : PassView R B E = view m in let cs : List (ℕ × Slot R B) = rest m.1 in
      let is : Path (Seat R B E) (v ∷ [], (r, Some (Row x)) ∷ cs) m = λ i. (sym one.0 i, sym front i) in
      subst (λ (y : Seat R B E). Allows (Holds M k first) slots id y (lock_at r) (λ _. word) (λ _. ReleaseTells (step slots (lock_at r) word 0 none) y word)) is
      (λ s h long me _.
      let mine : get_elem? h.passes v.number ≡ some v = (h.seats id (v ∷ []) me 0 v refl).0 in
      let less : r < k.rows = (h.good.locks.rows.held v.number r (has_held M k first s h v mine r held)).there in
      let wide = h.good.sizes.words in let few = h.good.sizes.bounds.count_high in let slots_are = h.slots in
      let homes : Homes R B = set s.homes r (some (Some (Row x))) in
      let shows = lock_shows k s.words r word less in
      let t = kind s h me mine less (omega arith) in (
        released v r ∷ [],
        gives,
        tt,
        t.1 (contents_locked M k s.words h.book r word s.homes homes less (omega arith) h.contents (λ q ne. set_else s.homes r q (some (Some (Row x))) ne) t.0) shows
            (holds_less k first s.words (set s.words (lock_at r) word) h.book v r shows (h.knows v.number v mine)),
        λ q same. let e : r ≡ q = omega arith in ap (λ (y : ℕ). (released v y ∷ [], cs)) e,
      ))

  pub releases : (k : Layout) (first : B) (slots id : ℕ) (m : Seat R B E) (n r : ℕ) (x : R) → IsOne n m → Has (view m).core.held r → NotInHand (view m) r → Fits M (view m) r x → m.1 ≡ (r, Some (Row x)) ∷ rest m.1
      → Allows (Holds M k first) slots id m (lock_at r) (λ _. 0) (λ _. ReleaseTells (step slots (lock_at r) 0 0 none) m 0)
  releases k first slots id m n r x one held linked fits front = comes_home k first slots id m n r 0 x one held front (λ s h me mine less inside.
      let v : PassView R B E = view m in let z = (lock_shows k s.words r 0 less).rows r less in (
        record {
          linked = λ _. (
            x,
            lists.set_here s.homes r (some (Some (Row x))) inside,
            subst (λ (p : Place). M.agrees h.book p (row_words (set s.words (lock_at r) 0) r) x) (sym z.place)
                (subst (λ (xs : List ℕ). M.agrees h.book (place_at s.words r) xs x) (sym z.words) (fitting k first s.words h.book v r x (h.knows v.number v mine) linked fits)),
          );
          others = λ z. absurd (omega arith);
        },
        moved_here M k first s h id v (released v r) (Release n r) (set s.homes r (some (Some (Row x)))) me (sym one.1) refl (held, is_linked M k first s h v mine r held linked) refl refl refl (length-set s.homes r (some (Some (Row x)))),
      ))

  -- the same where the place and the number are known by equations
  pub grabs_at : (k : Layout) (first : B) (slots id : ℕ) (m : Seat R B E) (n r i a : ℕ) → i ≡ lock_at r → a ≡ n → IsOne n m → MayGrab (view m) r
      → Allows (Holds M k first) slots id m i (λ x. either (eqb x 0) (a + 1) x) (GrabTells (step slots i 0 (a + 1) none) m)
  grabs_at k first slots id m n r i a at is one may =
      subst (λ (j : ℕ). Allows (Holds M k first) slots id m j (λ x. either (eqb x 0) (a + 1) x) (GrabTells (step slots j 0 (a + 1) none) m)) (sym at)
      (subst (λ (b : ℕ). Allows (Holds M k first) slots id m (lock_at r) (λ x. either (eqb x 0) (b + 1) x) (GrabTells (step slots (lock_at r) 0 (b + 1) none) m)) (sym is)
      (grabs k first slots id m n r one may))

  pub releases_at : (k : Layout) (first : B) (slots id : ℕ) (m : Seat R B E) (n r i : ℕ) (x : R) → i ≡ lock_at r → IsOne n m → Has (view m).core.held r → NotInHand (view m) r → Fits M (view m) r x → m.1 ≡ (r, Some (Row x)) ∷ rest m.1
      → Allows (Holds M k first) slots id m i (λ _. 0) (λ _. ReleaseTells (step slots i 0 0 none) m 0)
  releases_at k first slots id m n r i x at one held linked fits front =
      subst (λ (j : ℕ). Allows (Holds M k first) slots id m j (λ _. 0) (λ _. ReleaseTells (step slots j 0 0 none) m 0)) (sym at) (releases k first slots id m n r x one held linked fits front)
