-- Enter and leave keep the rule.
use Rattle.std.proofs.Common.{◌≡◌, ◌≢◌, ℕ, ◌+◌, ◌%◌, ◌^◌, ◌<◌, ◌≤◌, List, [], ◌∷◌, length, get_or, set, sym, refl, ap, ◌∙◌, subst, arith, get_or-set_other, get_or-set_same, None, IsSome}
use mathlib.Core.Option.{some}
use lib.ListN.{get_elem?}
use Rattle.atomic_table.specs.Table.{Allows, keeps}
use Rattle.walk_core.specs.declared.event.Event.{Event}
use Rattle.walk_core.specs.declared.event.Event.TheVariants.{Enter, Leave}
use Rattle.walk_core.specs.Words.{lock_at, epoch_at, book_at}
use Rattle.walk_core.specs.Events.{place_of, number_after, pass_after, pass_of, free_after, limbo_after}
use Rattle.walk_core.specs.Guards.{Guard}
use Rattle.row_layout.specs.declared.places.Layout.{Layout}
use Rattle.row_table.specs.declared.view.PassView.{PassView}
use Rattle.row_table.specs.Plan.{Meaning}
use Rattle.row_table.specs.Rows.{lock_of, generation_of}
use Rattle.row_table.specs.Rule.{Homes, Seat, Table, view, IsOne, core_of, Contents, Knows, Holds}
use Rattle.row_table.specs.Crossings.{entered, left, CrossTells}
use Rattle.row_table.proofs.Shown.{ShowsSame, shows_same}
use Rattle.row_table.proofs.Frames.{RowHome, words_after, moved, home_of, home_moves}

module _ {R B E : Type 0} (M : Meaning R B E) where
  module _ (k : Layout) (ws : List ℕ) (n x : ℕ) (less : n < k.passes) (few : k.passes ≤ 8) where
    abbrev us : List ℕ
    us = set ws (epoch_at k.rows n) x

    rows_show : (r : ℕ) → r < k.rows → ShowsSame ws us r
    rows_show r h = shows_same ws (epoch_at k.rows n) x r (λ j i ne e. omega arith)

    -- what a pass knows, where its epoch word is e now
    knows_epoch : (first b : B) (u : PassView R B E) (e : ℕ) → get_or us (epoch_at k.rows u.number) 0 ≡ e → Knows M k first ws b u → Knows M k first us b (record u { epoch = e })
    knows_epoch first b u e is old = record {
      there = old.there;
      layout = old.layout;
      epoch = is;
      held = old.held;
      rows = λ y i. let o = old.rows y i in let z = rows_show y.row o.there in record { there = o.there; shown = z.words ∙ o.shown; place = z.place ∙ o.place; generation = z.generation ∙ o.generation; agrees = o.agrees };
      granted = old.granted;
      hand = λ y i. let o = old.hand y i in record { there = o.there; shown = (rows_show y.row o.there).generation ∙ o.shown; below = o.below; fresh = o.fresh };
      vacant = old.vacant;
      placed = λ y i p z. (rows_show y.row (old.hand y i).there).place ∙ old.placed y i p z;
      found = old.found;
      origin = old.origin;
      seen = old.seen;
      mine = old.mine;
    }

    others_know : (first b : B) (u : PassView R B E) → u.number ≢ n → Knows M k first ws b u → Knows M k first us b u
    others_know first b u ne old = knows_epoch first b u u.epoch (get_or-set_other ws (epoch_at k.rows n) (epoch_at k.rows u.number) x 0 (λ e. ne (omega arith)) ∙ old.epoch) old

    contents_crossed : (b : B) (homes : Homes R B) → Contents M k ws b homes → Contents M k us b homes
    contents_crossed b homes old =
        let each : (q : ℕ) → q < k.rows → RowHome M k us b homes q (lock_of us q) = λ q l.
        subst (RowHome M k us b homes q) (sym (get_or-set_other ws (epoch_at k.rows n) (lock_at q) x 0 (λ e. omega arith)))
        (home_moves M k ws us b b homes homes q (lock_of ws q) (rows_show q l) refl (λ _ _ a. a) (home_of M old q l)) in
        record {
          linked = λ q l z. (each q l).linked z;
          others = λ q l z. (each q l).others z;
          book_home = λ z. old.book_home (sym (get_or-set_other ws (epoch_at k.rows n) (book_at k.rows k.passes) x 0 (λ e. omega arith)) ∙ z);
        }

  -- a step of e on the own epoch word, after which the pass has another stand
  crosses : (k : Layout) (first : B) (slots id : ℕ) (m : Seat R B E) (n : ℕ) (e : ℕ → Event) (f : PassView R B E → PassView R B E) → IsOne n m
      → ((p : ℕ) → pass_of (e p) ≡ p) → ((p : ℕ) → place_of k.rows k.passes (e p) ≡ epoch_at k.rows p) → ((p y : ℕ) → number_after (e p) y ≡ (y + 1) % 2 ^ 64)
      → ((p : ℕ) (free : List ℕ) → free_after (e p) free ≡ free) → ((p : ℕ) (limbo : List _) → limbo_after (e p) limbo ≡ limbo)
      → ((f (view m)).number ≡ (view m).number) → ((p y : ℕ) → (f (view m)).core ≡ pass_after k.levels (e p) y (view m).core)
      → ((s : Table R B E) (h : Holds M k first s) → get_or s.words (epoch_at k.rows (view m).number) 0 ≡ (view m).epoch → Guard (core_of M k s.words h.passes h.free h.book) (view m).core (e (view m).number))
      → ((b : B) (ws : List ℕ) → get_or ws (epoch_at k.rows (view m).number) 0 ≡ (view m).epoch + 1 → Knows M k first ws b (record (view m) { epoch = (view m).epoch + 1 }) → Knows M k first ws b (f (view m)))
      → Allows (Holds M k first) slots id m (epoch_at k.rows n) (λ y. (y + 1) % 2 ^ 64) (CrossTells f m)
  crosses k first slots id m n e f one by at number free limbo same is guard again s h long me _ =
      let v : PassView R B E = view m in
      let me' : get_elem? s.views id ≡ some (v ∷ []) = me ∙ ap some one.0 in
      let mine : get_elem? h.passes v.number ≡ some v = (h.seats id (v ∷ []) me' 0 v refl).0 in
      let know = h.knows v.number v mine in
      let p : ℕ = v.number in
      let found : ℕ = get_or s.words (epoch_at k.rows p) 0 in
      let few = h.good.sizes.bounds.count_high in
      let wide = h.good.sizes.words in
      let there = know.there in
      let near : epoch_at k.rows p < length s.words = omega arith in
      let low = h.good.stands.bounded p there in
      let next : (found + 1) % 2 ^ 64 ≡ v.epoch + 1 = (let is_epoch = know.epoch in omega arith) in
      let path : words_after k s.words (e p) ≡ set s.words (epoch_at k.rows p) ((found + 1) % 2 ^ 64)
      = λ i. set s.words (at p i) ((number p (get_or s.words (at p i) 0)) i) in
      let ws : List ℕ = set s.words (epoch_at k.rows p) ((found + 1) % 2 ^ 64) in
      let mine_knows : Knows M k first ws h.book (f v) = again h.book ws (get_or-set_same s.words (epoch_at k.rows p) ((found + 1) % 2 ^ 64) 0 near ∙ next)
      (knows_epoch k s.words p ((found + 1) % 2 ^ 64) there few first h.book v (v.epoch + 1) (get_or-set_same s.words (epoch_at k.rows p) ((found + 1) % 2 ^ 64) 0 near ∙ next) know) in
      let now : Holds M k first (record { words = words_after k s.words (e p); homes = s.homes; views = set s.views id (f v ∷ []) })
      = moved M k first s h id v (f v) (e p) h.book s.homes me' (by p) same (guard s h know.epoch) (is p _)
      (λ r. ap (λ (xs : List ℕ). Rattle.walk_core.specs.Lists.times r xs) (free p h.free) ∙ h.same_free r) (sym (limbo p (M.limbo h.book))) refl
      (subst (λ (us : List ℕ). Contents M k us h.book s.homes) (sym path) (contents_crossed k s.words p ((found + 1) % 2 ^ 64) there few h.book s.homes h.contents))
      (λ r less. subst (λ (us : List ℕ). generation_of us r < M.next_generation h.book) (sym path) (subst (λ (g : ℕ). g < M.next_generation h.book) (sym (rows_show k s.words p ((found + 1) % 2 ^ 64) there few r less).generation) (h.generations r less)))
      h.fixed
      (subst (λ (us : List ℕ). Knows M k first us h.book (f v)) (sym path) mine_knows)
      (λ q u ne its. subst (λ (us : List ℕ). Knows M k first us h.book u) (sym path)
      (others_know k s.words p ((found + 1) % 2 ^ 64) there few first h.book u (λ z. ne (sym (h.numbers q u its) ∙ z)) (h.knows q u its))) in (
        f v ∷ [],
        keeps,
        tt,
        subst (λ (us : List ℕ). Holds M k first (record { words = us; homes = s.homes; views = set s.views id (f v ∷ []) }))
            (path ∙ ap (λ (q : ℕ). set s.words (epoch_at k.rows q) ((get_or s.words (epoch_at k.rows q) 0 + 1) % 2 ^ 64)) one.1) now,
        (ap (λ (q : ℕ). get_or s.words (epoch_at k.rows q) 0) (sym one.1) ∙ know.epoch, refl),
      )

  pub enters : (k : Layout) (first : B) (slots id : ℕ) (m : Seat R B E) (n : ℕ) → IsOne n m → (view m).core.stand ≡ None → (view m).epoch < 2 ^ 62
      → Allows (Holds M k first) slots id m (epoch_at k.rows n) (λ y. (y + 1) % 2 ^ 64) (CrossTells entered m)
  enters k first slots id m n one outside low = crosses k first slots id m n (λ p. Enter p) entered one (λ p. refl) (λ p. refl) (λ p y. refl) (λ p free. refl) (λ p limbo. refl) refl (λ p y. refl)
      (λ s h is. (outside, subst (λ (y : ℕ). y < 2 ^ 62) (sym is) low))
      (λ b ws is old. record { there = old.there; layout = old.layout; epoch = old.epoch; held = old.held; rows = λ y i. let o = old.rows y i in record { there = o.there; shown = o.shown; place = o.place; generation = o.generation; agrees = o.agrees }; granted = old.granted; hand = old.hand; vacant = old.vacant; placed = old.placed; found = old.found; origin = old.origin; seen = old.seen; mine = old.mine })

  pub leaves : (k : Layout) (first : B) (slots id : ℕ) (m : Seat R B E) (n : ℕ) → IsOne n m → IsSome (view m).core.stand
      → Allows (Holds M k first) slots id m (epoch_at k.rows n) (λ y. (y + 1) % 2 ^ 64) (CrossTells left m)
  leaves k first slots id m n one inside = crosses k first slots id m n (λ p. Leave p) left one (λ p. refl) (λ p. refl) (λ p y. refl) (λ p free. refl) (λ p limbo. refl) refl (λ p y. refl)
      (λ s h is. inside)
      (λ b ws is old. record { there = old.there; layout = old.layout; epoch = old.epoch; held = old.held; rows = λ y i. let o = old.rows y i in record { there = o.there; shown = o.shown; place = o.place; generation = o.generation; agrees = o.agrees }; granted = old.granted; hand = old.hand; vacant = old.vacant; placed = old.placed; found = old.found; origin = old.origin; seen = old.seen; mine = old.mine })

  -- the same where the place is known by an equation
  pub enters_at : (k : Layout) (first : B) (slots id : ℕ) (m : Seat R B E) (n i : ℕ) → i ≡ epoch_at k.rows n → IsOne n m → (view m).core.stand ≡ None → (view m).epoch < 2 ^ 62
      → Allows (Holds M k first) slots id m i (λ y. (y + 1) % 2 ^ 64) (CrossTells entered m)
  enters_at k first slots id m n i at one outside low = subst (λ (j : ℕ). Allows (Holds M k first) slots id m j (λ y. (y + 1) % 2 ^ 64) (CrossTells entered m)) (sym at) (enters k first slots id m n one outside low)

  pub leaves_at : (k : Layout) (first : B) (slots id : ℕ) (m : Seat R B E) (n i : ℕ) → i ≡ epoch_at k.rows n → IsOne n m → IsSome (view m).core.stand
      → Allows (Holds M k first) slots id m i (λ y. (y + 1) % 2 ^ 64) (CrossTells left m)
  leaves_at k first slots id m n i at one inside = subst (λ (j : ℕ). Allows (Holds M k first) slots id m j (λ y. (y + 1) % 2 ^ 64) (CrossTells left m)) (sym at) (leaves k first slots id m n one inside)
