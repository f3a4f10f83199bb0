-- What every kind of step shares: one word, one pass and what stands at home change, and all else stays.
use Rattle.std.proofs.Common.{◌≡◌, ◌≢◌, ℕ, zero, suc, ◌<◌, List, [], ◌∷◌, map, length, get_or, set, sym, refl, ap, ◌∙◌, subst, ⊎_elim, arith, get_or-set_other, get_or-set_same, Some}
use mathlib.Core.Option.{some, some-injective, some-ne-none}
use mathlib.Core.Logic.{dite}
use native.Mathlib.Decide.{ℕ_discrete}
use lib.ListN.{get_elem?}
use lib.Seq.{map-set, set-get_or}
use Rattle.atomic_table.proofs.Lists.{at_map, at_set, set_again, set_else}
use Rattle.atomic_table.proofs.Lists as lists
use Rattle.table_place.specs.declared.Place.{Place}
use Rattle.walk_core.specs.declared.event.Event.{Event}
use Rattle.walk_core.specs.declared.pass.PassCore.{PassCore}
use Rattle.walk_core.specs.Words.{lock_at, book_at, stale}
use Rattle.walk_core.specs.Core.{Core, idle}
use Rattle.walk_core.specs.Events.{pass_of, place_of, number_after, pass_after, free_after, limbo_after, after}
use Rattle.walk_core.specs.Guards.{Guard}
use Rattle.walk_core.specs.Good.{Good}
use Rattle.walk_core.proofs.Keeps.{keeps_at, found_there, found_is}
use Rattle.row_layout.specs.declared.places.Layout.{Layout}
use Rattle.row_table.specs.declared.view.PassView.{PassView}
use Rattle.row_table.specs.declared.plan.Content.TheVariants.{Row, Book}
use Rattle.row_table.specs.Plan.{Meaning}
use Rattle.row_table.specs.Rows.{row_words, place_at, lock_of, generation_of}
use Rattle.row_table.specs.Rule.{Homes, Table, SameRows, core_part, Seats, core_of, Contents, Knows, Holds}
use Rattle.row_table.proofs.Shown.{ShowsSame, ShowSame, lock_shows, book_shows}

at_here : {A : Type 0} (l : List A) (i : ℕ) (a b : A) → get_elem? l i ≡ some b → get_elem? (set l i a) i ≡ some a
at_here l i a b e = lists.set_here l i a (found_there l i b e)

-- the words after the event
abbrev pub words_after : Layout → List ℕ → Event → List ℕ
words_after k ws e = set ws (place_of k.rows k.passes e) (number_after e (get_or ws (place_of k.rows k.passes e) 0))

module _ {R B E : Type 0} where
  -- one pass's view changes
  pub seats_moved : (views : List (List (PassView R B E))) (passes : List (PassView R B E)) (owner : ℕ → ℕ × ℕ) (id : ℕ) (v w : PassView R B E)
      → Seats views passes owner → get_elem? views id ≡ some (v ∷ []) → w.number ≡ v.number → Seats (set views id (w ∷ [])) (set passes v.number w) owner
  seats_moved views passes owner id v w seats me same j vs e i u f =
      let mine = seats id (v ∷ []) me 0 v refl in
      let here = at_here passes v.number w v mine.0 in
      ⊎_elim
      (λ (t : (j ≡ id) × (w ∷ [] ≡ vs)). one i (subst (λ (x : List (PassView R B E)). get_elem? x i ≡ some u) (sym t.1) f) (λ (z : w ≡ u) (y : i ≡ 0).
      subst (λ (x : PassView R B E). (get_elem? (set passes v.number w) x.number ≡ some x) × (owner x.number ≡ (j, i))) z
      (ap (λ (n : ℕ). get_elem? (set passes v.number w) n) same ∙ here, ap owner same ∙ (mine.1 ∙ (λ k. (sym t.0 k, sym y k))))))
      (λ (t : (j ≢ id) × (get_elem? views j ≡ some vs)). let old = seats j vs t.1 i u f in
      (set_else passes v.number u.number w (λ z. t.0 (ap (λ (x : ℕ × ℕ). x.0) (sym old.1 ∙ (ap owner z ∙ mine.1)))) ∙ old.0, old.1))
      (at_set views id j (w ∷ []) vs e)
    where
      one : (i : ℕ) → get_elem? (w ∷ []) i ≡ some u → {G : Type 0} → (w ≡ u → i ≡ 0 → G) → G
      one zero e k = k (some-injective w u e) refl
      one (suc i) e k = absurd (some-ne-none u (sym e))

  module _ (M : Meaning R B E) where
    -- the core of the state after a step is what the event makes of the core
    pub core_moves : (k : Layout) (ws : List ℕ) (ps : List (PassView R B E)) (free : List ℕ) (b b' : B) (v w : PassView R B E) (e : Event) → get_elem? ps (pass_of e) ≡ some v
        → w.core ≡ pass_after k.levels e (get_or ws (place_of k.rows k.passes e) 0) v.core → M.limbo b' ≡ limbo_after e (M.limbo b)
        → after (core_of M k ws ps free b) e ≡ core_of M k (words_after k ws e) (set ps (pass_of e) w) (free_after e free) b'
    core_moves k ws ps free b b' v w e at is limbo =
        let found : ℕ = get_or ws (place_of k.rows k.passes e) 0 in
        let cs : List PassCore = map core_part ps in
        let before : get_or cs (pass_of e) idle ≡ v.core = found_is cs (pass_of e) v.core idle (at_map core_part ps (pass_of e) v at) in
        let path : set cs (pass_of e) (pass_after k.levels e found (get_or cs (pass_of e) idle)) ≡ map core_part (set ps (pass_of e) w)
        = ap (λ (x : PassCore). set cs (pass_of e) x) (ap (pass_after k.levels e found) before ∙ sym is) ∙ sym (map-set core_part ps (pass_of e) w) in
        λ i. record { levels = k.levels; rows = k.rows; count = k.passes; words = set ws (place_of k.rows k.passes e) (number_after e found); passes = path i; free = free_after e free; limbo = sym limbo i }

    -- A step of the pass v by the event e, after which it is w, the book is b, and this stands at home
    pub moved : (k : Layout) (first : B) (s : Table R B E) (h : Holds M k first s) (id : ℕ) (v w : PassView R B E) (e : Event) (b : B) (homes : Homes R B)
        → get_elem? s.views id ≡ some (v ∷ []) → pass_of e ≡ v.number → w.number ≡ v.number → Guard (core_of M k s.words h.passes h.free h.book) v.core e
        → w.core ≡ pass_after k.levels e (get_or s.words (place_of k.rows k.passes e) 0) v.core
        → SameRows (free_after e h.free) (M.free b) → M.limbo b ≡ limbo_after e (M.limbo h.book)
        → length homes ≡ length s.homes
        → Contents M k (words_after k s.words e) b homes
        → ((r : ℕ) → r < k.rows → generation_of (words_after k s.words e) r < M.next_generation b) → M.same_fixed first b
        → Knows M k first (words_after k s.words e) b w
        → ((p : ℕ) (u : PassView R B E) → p ≢ v.number → get_elem? h.passes p ≡ some u → Knows M k first (words_after k s.words e) b u)
        → Holds M k first (record { words = words_after k s.words e; homes = homes; views = set s.views id (w ∷ []) })
    moved k first s h id v w e b homes me by same guard is free limbo long contents generations fixed knows others =
        let mine : get_elem? h.passes v.number ≡ some v = (h.seats id (v ∷ []) me 0 v refl).0 in
        let at : get_elem? h.passes (pass_of e) ≡ some v = ap (λ (n : ℕ). get_elem? h.passes n) by ∙ mine in
        let ps : List (PassView R B E) = set h.passes v.number w in
        let c : Core = core_of M k s.words h.passes h.free h.book in
        record {
          passes = ps;
          owner = h.owner;
          book = b;
          free = free_after e h.free;
          same_free = free;
          slots = long ∙ h.slots;
          seats = seats_moved s.views h.passes h.owner id v w h.seats me same;
          numbers = λ p u f. ⊎_elim (λ (t : (p ≡ v.number) × (w ≡ u)). ap (λ (x : PassView R B E). x.number) (sym t.1) ∙ (same ∙ sym t.0)) (λ (t : (p ≢ v.number) × (get_elem? h.passes p ≡ some u)). h.numbers p u t.1) (at_set h.passes v.number p w u f);
          good = subst (λ (n : ℕ). Good (core_of M k (words_after k s.words e) (set h.passes n w) (free_after e h.free) b)) by
              (subst Good (core_moves k s.words h.passes h.free h.book b v w e at is limbo) (keeps_at c e v.core h.good (at_map core_part h.passes (pass_of e) v at) guard));
          contents = contents;
          generations = generations;
          fixed = fixed;
          knows = λ p u f. ⊎_elim (λ (t : (p ≡ v.number) × (w ≡ u)). subst (Knows M k first (words_after k s.words e) b) t.1 knows) (λ (t : (p ≢ v.number) × (get_elem? h.passes p ≡ some u)). others p u t.0 t.1) (at_set h.passes v.number p w u f);
        }

    -- what a pass knows, where the words show the same
    pub knows_shown : (k : Layout) (first : B) (ws us : List ℕ) (b : B) (u : PassView R B E) → ShowSame k ws us → Knows M k first ws b u → Knows M k first us b u
    knows_shown k first ws us b u same old = record {
      there = old.there;
      layout = old.layout;
      epoch = same.epochs u.number old.there ∙ old.epoch;
      held = old.held;
      rows = λ x i. let o = old.rows x i in let z = same.rows x.row o.there in record { there = o.there; shown = z.words ∙ o.shown; place = z.place ∙ o.place; generation = z.generation ∙ o.generation; agrees = o.agrees };
      granted = old.granted;
      hand = λ x i. let o = old.hand x i in record { there = o.there; shown = (same.rows x.row o.there).generation ∙ o.shown; below = o.below; fresh = o.fresh };
      vacant = old.vacant;
      placed = λ x i p e. (same.rows x.row (old.hand x i).there).place ∙ old.placed x i p e;
      found = old.found;
      origin = old.origin;
      seen = old.seen;
      mine = old.mine;
    }

    -- a step that leaves the book, and what the words show of rows and passes
    pub moved_here : (k : Layout) (first : B) (s : Table R B E) (h : Holds M k first s) (id : ℕ) (v w : PassView R B E) (e : Event) (homes : Homes R B)
        → get_elem? s.views id ≡ some (v ∷ []) → pass_of e ≡ v.number → w.number ≡ v.number → Guard (core_of M k s.words h.passes h.free h.book) v.core e
        → w.core ≡ pass_after k.levels e (get_or s.words (place_of k.rows k.passes e) 0) v.core
        → free_after e h.free ≡ h.free → M.limbo h.book ≡ limbo_after e (M.limbo h.book)
        → length homes ≡ length s.homes
        → Contents M k (words_after k s.words e) h.book homes
        → ShowSame k s.words (words_after k s.words e)
        → Knows M k first (words_after k s.words e) h.book w
        → Holds M k first (record { words = words_after k s.words e; homes = homes; views = set s.views id (w ∷ []) })
    moved_here k first s h id v w e homes me by same guard is free limbo long contents shows knows =
        moved k first s h id v w e h.book homes me by same guard is (λ r. ap (λ (xs : List ℕ). Rattle.walk_core.specs.Lists.times r xs) free ∙ h.same_free r) limbo long contents
        (λ r less. subst (λ (n : ℕ). n < M.next_generation h.book) (sym (shows.rows r less).generation) (h.generations r less)) h.fixed knows
        (λ p u _ at. knows_shown k first s.words (words_after k s.words e) h.book u shows (h.knows p u at))

    -- a step that changes nothing
    pub unchanged : (k : Layout) (first : B) (s : Table R B E) (id i x : ℕ) (vs : List (PassView R B E)) → Holds M k first s → get_elem? s.views id ≡ some vs → x ≡ get_or s.words i 0
        → Holds M k first (record { words = set s.words i x; homes = s.homes; views = set s.views id vs })
    unchanged k first s id i x vs h me is = subst (Holds M k first)
        (λ j. record { words = (sym (set-get_or s.words i 0) ∙ ap (λ (y : ℕ). set s.words i y) (sym is)) j; homes = s.homes; views = sym (set_again s.views id vs me) j }) h

    -- What stands at home

    -- what stands in the slot of a row that nobody holds and in that of one that nobody may take, by the lock word n
    pub record RowHome (k : Layout) (words : List ℕ) (book : B) (homes : Homes R B) (r n : ℕ) : Type 0 where
      pub linked : n ≡ 0 → (x : R) × (get_elem? homes r ≡ some (some (Some (Row x)))) × M.agrees book (place_at words r) (row_words words r) x
      pub others : n ≡ stale → (x : R) × (get_elem? homes r ≡ some (some (Some (Row x)))) × M.is_blank x

    pub home_of : {k : Layout} {ws : List ℕ} {b : B} {homes : Homes R B} → Contents M k ws b homes → (r : ℕ) → r < k.rows → RowHome k ws b homes r (lock_of ws r)
    home_of c r less = record { linked = c.linked r less; others = c.others r less }

    -- the same row with other words that show the same, another book and other homes
    pub home_moves : (k : Layout) (ws us : List ℕ) (b b' : B) (homes homes' : Homes R B) (r n : ℕ) → ShowsSame ws us r → get_elem? homes' r ≡ get_elem? homes r
        → (n ≡ 0 → (x : R) → M.agrees b (place_at ws r) (row_words ws r) x → M.agrees b' (place_at ws r) (row_words ws r) x) → RowHome k ws b homes r n → RowHome k us b' homes' r n
    home_moves k ws us b b' homes homes' r n same there agree old = record {
      linked = λ z. let t = old.linked z in (t.0, there ∙ t.1, subst (λ (p : Place). M.agrees b' p (row_words us r) t.0) (sym same.place) (subst (λ (xs : List ℕ). M.agrees b' (place_at ws r) xs t.0) (sym same.words) (agree z t.0 t.2)));
      others = λ z. let t = old.others z in (t.0, there ∙ t.1, t.2);
    }

    -- after a step on the lock word of the row r
    pub contents_locked : (k : Layout) (ws : List ℕ) (b : B) (r n : ℕ) (homes homes' : Homes R B) → r < k.rows → lock_at r < length ws → Contents M k ws b homes
        → ((q : ℕ) → q ≢ r → get_elem? homes' q ≡ get_elem? homes q) → RowHome k (set ws (lock_at r) n) b homes' r n
        → Contents M k (set ws (lock_at r) n) b homes'
    contents_locked k ws b r n homes homes' less wide old others here =
        let us : List ℕ = set ws (lock_at r) n in
        let shows = lock_shows k ws r n less in
        let each : (q : ℕ) → q < k.rows → RowHome k us b homes' q (lock_of us q) = λ q l. dite (ℕ_discrete q r)
        (λ e. subst (λ (y : ℕ). RowHome k us b homes' y (lock_of us y)) (sym e) (subst (RowHome k us b homes' r) (sym (get_or-set_same ws (lock_at r) n 0 wide)) here))
        (λ ne. subst (RowHome k us b homes' q) (sym (get_or-set_other ws (lock_at r) (lock_at q) n 0 (λ e. ne (omega arith))))
        (home_moves k ws us b b homes homes' q (lock_of ws q) (shows.rows q l) (others q ne) (λ _ _ a. a) (home_of old q l))) in
        record {
          linked = λ q l z. (each q l).linked z;
          others = λ q l z. (each q l).others z;
          book_home = λ z. others k.rows (λ e. omega arith) ∙ old.book_home (sym (get_or-set_other ws (lock_at r) (book_at k.rows k.passes) n 0 (λ e. omega arith)) ∙ z);
        }

    -- after a step on the lock word of the book, after which the book is b'
    pub contents_booked : (k : Layout) (ws : List ℕ) (b b' : B) (n : ℕ) (homes homes' : Homes R B) → book_at k.rows k.passes < length ws → Contents M k ws b homes
        → ((q : ℕ) → q ≢ k.rows → get_elem? homes' q ≡ get_elem? homes q)
        → ((q : ℕ) (x : R) → q < k.rows → lock_of ws q ≡ 0 → M.agrees b (place_at ws q) (row_words ws q) x → M.agrees b' (place_at ws q) (row_words ws q) x)
        → (n ≡ 0 → get_elem? homes' k.rows ≡ some (some (Some (Book b'))))
        → Contents M k (set ws (book_at k.rows k.passes) n) b' homes'
    contents_booked k ws b b' n homes homes' wide old others agree here =
        let us : List ℕ = set ws (book_at k.rows k.passes) n in
        let shows = book_shows k ws n in
        let each : (q : ℕ) → q < k.rows → RowHome k us b' homes' q (lock_of us q) = λ q l.
        subst (RowHome k us b' homes' q) (sym (get_or-set_other ws (book_at k.rows k.passes) (lock_at q) n 0 (λ e. omega arith)))
        (home_moves k ws us b b' homes homes' q (lock_of ws q) (shows.rows q l) (others q (λ e. omega arith)) (λ z x a. agree q x l z a) (home_of old q l)) in
        record {
          linked = λ q l z. (each q l).linked z;
          others = λ q l z. (each q l).others z;
          book_home = λ z. here (sym (get_or-set_same ws (book_at k.rows k.passes) n 0 wide) ∙ z);
        }
