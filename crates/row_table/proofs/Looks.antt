-- Look keeps the rule.
use Rattle.std.proofs.Common.{◌≡◌, ℕ, ◌<◌, List, [], ◌∷◌, get_or, set, sym, refl, ap, ◌∙◌, subst, ⊎_elim, arith}
use mathlib.Core.Option.{some, none}
use lib.ListN.{get_elem?}
use lib.Seq.{set-get_or}
use Rattle.atomic_table.specs.Table.{Allows, step, keeps}
use Rattle.walk_core.specs.declared.event.Event.TheVariants.{Look}
use Rattle.walk_core.specs.declared.pass.PassCore.{PassCore}
use Rattle.walk_core.specs.Words.{entry_at}
use Rattle.walk_core.specs.Lists.{Has}
use Rattle.walk_core.specs.Events.{pass_after}
use Rattle.walk_core.specs.Guards.{StandsOn}
use Rattle.row_layout.specs.declared.places.Layout.{Layout}
use Rattle.row_table.specs.declared.view.PassView.{PassView}
use Rattle.row_table.specs.Plan.{Meaning}
use Rattle.row_table.specs.Rows.{place_at, generation_of}
use Rattle.row_table.specs.Rule.{Seat, Table, view, IsOne, Contents, Knows, Holds}
use Rattle.row_table.specs.Looks.{looked_at, Reads, LookSays, LookTells, MayLook}
use Rattle.row_table.proofs.Shown.{word_at}
use Rattle.walk_core.proofs.Tree.{names_no_root}
use Rattle.row_table.proofs.Frames.{moved}
use Rattle.row_table.proofs.Views.{pass_is, has_held}
use Rattle.row_table.proofs.Known.{place_known, generation_known, link_below, link_leads, right_now}

module _ {R B E : Type 0} (M : Meaning R B E) where
  read_is : (k : Layout) (first : B) (s : Table R B E) (h : Holds M k first s) (v : PassView R B E) → get_elem? h.passes v.number ≡ some v → (r i : ℕ) → r < k.rows → i < 512 → Reads v r i (get_or s.words (entry_at r i) 0)
  read_is k first s h v mine r i less inside =
      let know = h.knows v.number v mine in record {
        right = right_now M k first s h v mine;
        place = place_at s.words r;
        known = place_known M k first s h v mine r;
        generation = generation_of s.words r;
        known_generation = generation_known M k first s h v mine r;
        holds = λ x j same. let o = know.rows x j in
            ap (λ (q : ℕ). get_or s.words (entry_at q i) 0) (sym same) ∙ (sym (word_at s.words x.row i inside) ∙ ap (λ (ws : List ℕ). get_or ws i 0) o.shown);
        below = λ link. link_below M k first s h v mine r i less inside link;
        down = λ link. names_no_root h.good.links r i less inside link;
        leads = λ link. link_leads M k first s h v mine r i less inside link;
      }

  -- a row that a pass may look at is there
  look_there : (k : Layout) (first : B) (s : Table R B E) (h : Holds M k first s) (v : PassView R B E) → get_elem? h.passes v.number ≡ some v → (r : ℕ) → MayLook v r → r < k.rows
  look_there k first s h v mine r may = ⊎_elim
      (λ (on : StandsOn v.core r). let stand = h.good.stands.stand v.number on.0 (ap (λ (u : PassCore). u.stand) (pass_is M k first s h v mine) ∙ on.1) in let there = stand.there in let same = on.2 in omega arith)
      (λ (has : Has v.core.held r). (h.good.locks.rows.held v.number r (has_held M k first s h v mine r has)).there) may

  pub looks : (k : Layout) (first : B) (slots id : ℕ) (m : Seat R B E) (n r i : ℕ) → IsOne n m → i < 512 → MayLook (view m) r
      → Allows (Holds M k first) slots id m (entry_at r i) (λ y. y) (LookTells (step slots (entry_at r i) 0 0 none) m)
  looks k first slots id m n r i one inside may s h long me _ =
      let v : PassView R B E = view m in
      let me' : get_elem? s.views id ≡ some (v ∷ []) = me ∙ ap some one.0 in
      let mine : get_elem? h.passes v.number ≡ some v = (h.seats id (v ∷ []) me' 0 v refl).0 in
      let know = h.knows v.number v mine in
      let found : ℕ = get_or s.words (entry_at r i) 0 in
      let reads : Reads v r i found = read_is k first s h v mine r i (look_there k first s h v mine r may) inside in
      let w : PassView R B E = looked_at v r reads.place i found in
      let path : set s.words (entry_at r i) found ≡ s.words = set-get_or s.words (entry_at r i) 0 in
      let knows : Knows M k first s.words h.book w = record {
        there = know.there;
        layout = know.layout;
        epoch = know.epoch;
        held = know.held;
        rows = λ y j. let o = know.rows y j in record { there = o.there; shown = o.shown; place = o.place; generation = o.generation; agrees = o.agrees };
        granted = know.granted;
        hand = know.hand;
        vacant = know.vacant;
        placed = know.placed;
        found = know.found;
        origin = know.origin;
        seen = know.seen;
        mine = know.mine;
      } in (
        w ∷ [],
        keeps,
        tt,
        moved M k first s h id v w (Look n r i) h.book s.homes me' (sym one.1) refl (inside, may) (ap (λ (y : Layout). pass_after y.levels (Look n r i) found v.core) know.layout) h.same_free refl refl
            (subst (λ (us : List ℕ). Contents M k us h.book s.homes) (sym path) h.contents)
            (λ q less. subst (λ (us : List ℕ). generation_of us q < M.next_generation h.book) (sym path) (h.generations q less))
            h.fixed
            (subst (λ (us : List ℕ). Knows M k first us h.book w) (sym path) knows)
            (λ p u ne at. subst (λ (us : List ℕ). Knows M k first us h.book u) (sym path) (h.knows p u at)),
        λ row index low same. let e : r ≡ row = omega arith in let f : i ≡ index = omega arith in
            subst (λ (x : ℕ). LookSays m found (w ∷ [], m.1) x index) e (subst (LookSays m found (w ∷ [], m.1) r) f (reads, refl)),
      )

  -- the same where the place is known by an equation
  pub looks_at : (k : Layout) (first : B) (slots id : ℕ) (m : Seat R B E) (n r i place : ℕ) → place ≡ entry_at r i → IsOne n m → i < 512 → MayLook (view m) r
      → Allows (Holds M k first) slots id m place (λ y. y) (LookTells (step slots place 0 0 none) m)
  looks_at k first slots id m n r i place at one inside may = subst (λ (j : ℕ). Allows (Holds M k first) slots id m j (λ y. y) (LookTells (step slots j 0 0 none) m)) (sym at) (looks k first slots id m n r i one inside may)
