-- Sample keeps the rule.
use Rattle.std.proofs.Common.{◌≡◌, ℕ, ◌+◌, ◌<◌, Bool, true, false, cond, List, [], ◌∷◌, map, get_or, set, sym, refl, ap, ◌∙◌, subst, arith, Option, None, length, length-set}
use Rattle.std.specs.List.{Contains}
use mathlib.Core.Option.{some, none}
use lib.ListN.{get_elem?}
use lib.Seq.{set-get_or}
use Rattle.atomic_table.specs.Table.{Allows, step, keeps}
use Rattle.atomic_table.specs.Seated.{TableId}
use Rattle.walk_core.specs.declared.event.Event.TheVariants.{Sample}
use Rattle.walk_core.specs.declared.pass.PassCore.{PassCore}
use Rattle.walk_core.specs.declared.pass.UnlinkedRow.{UnlinkedRow}
use Rattle.walk_core.specs.declared.pass.SampleBounds.{SampleBounds}
use Rattle.walk_core.specs.Words.{epoch_at}
use Rattle.walk_core.specs.Lists.{times, among}
use Rattle.walk_core.specs.Core.{sample_of, granted_rows, times_in_hand}
use Rattle.walk_core.specs.Events.{bounds_with, samples_with, unlinked_after_sample}
use Rattle.row_layout.specs.declared.places.Layout.{Layout}
use Rattle.row_table.specs.declared.view.PassView.{PassView}
use Rattle.row_table.specs.Plan.{Meaning}
use Rattle.row_table.specs.Rows.{generation_of}
use Rattle.row_table.specs.Rule.{Seat, Table, view, IsOne, Contents, Knows, Holds}
use Rattle.row_table.specs.Known.{HasPlaces, IsSized}
use Rattle.walk_core.proofs.KeepsSamples.{of_map}
use Rattle.row_table.specs.Books.{Learns}
use Rattle.row_table.specs.Stepping.{IsEvent}
use Rattle.row_table.specs.Sampling.{sampled, IsSample, SampleSays, SampleTells, Samples}
use Rattle.row_table.proofs.Frames.{moved}
use Rattle.row_table.proofs.Views.{pass_is}
use Rattle.row_table.proofs.Known.{right_now}
use Rattle.row_table.proofs.Turns.{learned}

abbrev after_sample : ℕ → ℕ → List ℕ → UnlinkedRow → UnlinkedRow
after_sample x n held u = cond (among held u.row) u (record u { samples = samples_with x n u.samples })

-- a sample leaves which rows a pass has unlinked
rows_same : (x n : ℕ) (held : List ℕ) (us : List UnlinkedRow) → map (λ (u : UnlinkedRow). u.row) (unlinked_after_sample x n held us) ≡ map (λ (u : UnlinkedRow). u.row) us
rows_same x n held [] = refl
rows_same x n held (u ∷ us) = λ i. row_same (among held u.row) i ∷ rows_same x n held us i
  where
    row_same : (b : Bool) → (cond b u (record u { samples = samples_with x n u.samples })).row ≡ u.row
    row_same true = refl
    row_same false = refl

-- and the places for the samples
places_stay : (x n : ℕ) (held : List ℕ) (samples : List (Option SampleBounds)) (us : List UnlinkedRow) → HasPlaces samples us → HasPlaces (samples_with x n samples) (unlinked_after_sample x n held us)
places_stay x n held samples us old = (
  length-set samples x (bounds_with n (sample_of samples x)) ∙ old.0,
  λ u has. let t = of_map (after_sample x n held) us u has in ap (λ (y : UnlinkedRow). length y.samples) (sym t.2) ∙ (go (among held t.0.row) t.0 ∙ old.1 t.0 t.1),
)
  where
    go : (b : Bool) (u : UnlinkedRow) → length (cond b u (record u { samples = samples_with x n u.samples })).samples ≡ length u.samples
    go true u = refl
    go false u = length-set u.samples x (bounds_with n (sample_of u.samples x))

module _ {R B E : Type 0} where
  pub hand_same : (v : PassView R B E) (x n r : ℕ) → times_in_hand r (sampled v x n).core ≡ times_in_hand r v.core
  hand_same v x n r = ap (λ (l : List ℕ). times r (granted_rows v.core) + times r l) (rows_same x n v.core.held v.core.unlinked)

  pub sized_sample : {n rows epoch : ℕ} {id : TableId} {v : PassView R B E} → IsSized n rows epoch id v → (x w : ℕ) → IsSized n rows epoch id (sampled v x w)
  sized_sample {v = v} old x w = record { slots = old.slots; words = old.words; rows_are = old.rows_are; number = old.number; same_epoch = old.same_epoch; counted = old.counted; long = old.long; held_rows = old.held_rows; stand = old.stand; links = old.links; granted = old.granted; places = places_stay x w v.core.held v.core.samples v.core.unlinked old.places }

  module _ (M : Meaning R B E) where
    sample_is : (k : Layout) (first : B) (s : Table R B E) (h : Holds M k first s) (v : PassView R B E) → get_elem? h.passes v.number ≡ some v → (x : ℕ) → x < k.passes
        → IsSample M v x (get_or s.words (epoch_at k.rows x) 0)
    sample_is k first s h v mine x less =
        let know = h.knows v.number v mine in let is = pass_is M k first s h v mine in record {
          right = right_now M k first s h v mine;
          own = λ e. ap (λ (q : ℕ). get_or s.words (epoch_at k.rows q) 0) e ∙ know.epoch;
          bounded = h.good.stands.bounded x less;
          since_turn = λ b at. h.good.samples.of_turn v.number x b less (ap (λ (u : PassCore). sample_of u.samples x) is ∙ at);
          since_mark = λ u has b at. h.good.samples.of_marked v.number x u b less (subst (λ (y : PassCore). Contains y.unlinked u) (sym is) has) at;
          with_book = λ has. record {
            book = h.book;
            found = know.found has;
            learns = subst (λ (y : Layout). Learns M y.rows v h.book) (sym know.layout) (learned M k first s h v mine);
            in_limbo = λ y i. h.good.samples.of_limbo x y less i;
          };
        }

    pub samples : (k : Layout) (first : B) (slots id : ℕ) (m : Seat R B E) (n x : ℕ) → IsOne n m → x < k.passes → (view m).core.stand ≡ None
        → Allows (Holds M k first) slots id m (epoch_at k.rows x) (λ y. y) (SampleTells M (step slots (epoch_at k.rows x) 0 0 none) m)
    samples k first slots id m n x one less out s h long me _ =
        let v : PassView R B E = view m in
        let me' : get_elem? s.views id ≡ some (v ∷ []) = me ∙ ap some one.0 in
        let mine : get_elem? h.passes v.number ≡ some v = (h.seats id (v ∷ []) me' 0 v refl).0 in
        let know = h.knows v.number v mine in
        let found : ℕ = get_or s.words (epoch_at k.rows x) 0 in
        let is : IsSample M v x found = sample_is k first s h v mine x less in
        let w : PassView R B E = sampled v x found in
        let path : set s.words (epoch_at k.rows x) found ≡ s.words = set-get_or s.words (epoch_at k.rows x) 0 in
        let knows : Knows M k first s.words h.book w = record {
          there = know.there;
          layout = know.layout;
          epoch = know.epoch;
          held = know.held;
          rows = λ y j. let o = know.rows y j in record { there = o.there; shown = o.shown; place = o.place; generation = o.generation; agrees = λ none. o.agrees (sym (hand_same v x found y.row) ∙ none) };
          granted = know.granted;
          hand = know.hand;
          vacant = λ y j none. know.vacant y j (sym (hand_same v x found y.row) ∙ none);
          placed = know.placed;
          found = know.found;
          origin = know.origin;
          seen = know.seen;
          mine = know.mine;
        } in (
          w ∷ [],
          keeps,
          tt,
          moved M k first s h id v w (Sample n x) h.book s.homes me' (sym one.1) refl (out, less) refl h.same_free refl refl
              (subst (λ (us : List ℕ). Contents M k us h.book s.homes) (sym path) h.contents)
              (λ q low. subst (λ (us : List ℕ). generation_of us q < M.next_generation h.book) (sym path) (h.generations q low))
              h.fixed
              (subst (λ (us : List ℕ). Knows M k first us h.book w) (sym path) knows)
              (λ p u ne at. subst (λ (us : List ℕ). Knows M k first us h.book u) (sym path) (h.knows p u at)),
          λ y same. let rows_are = ap (λ (l : Layout). l.rows) know.layout in let e : x ≡ y = omega arith in
              subst (SampleSays M m found (w ∷ [], m.1)) e (is, refl),
        )

    -- the same where the place is known by an equation
    pub samples_at : (k : Layout) (first : B) (slots id : ℕ) (m : Seat R B E) (n x place : ℕ) → place ≡ epoch_at k.rows x → IsOne n m → x < k.passes → (view m).core.stand ≡ None
        → Allows (Holds M k first) slots id m place (λ y. y) (SampleTells M (step slots place 0 0 none) m)
    samples_at k first slots id m n x place at one less out =
        subst (λ (j : ℕ). Allows (Holds M k first) slots id m j (λ y. y) (SampleTells M (step slots j 0 0 none) m)) (sym at) (samples k first slots id m n x one less out)

    pub samples_event : (v w : PassView R B E) (x n : ℕ) → Samples M x v n w → IsEvent (Sample v.number x) (epoch_at v.layout.rows x) n n v w
    samples_event v w x n t = record { own = refl; at = refl; now = refl; after = ap (λ (y : PassView R B E). y.core) t.1 }
