-- What a caller of a pass knows after looks and grabs, from the public clauses alone.
use Rattle.std.proofs.Common.{◌≡◌, ◌≢◌, ℕ, ◌+◌, ◌&&◌, Option, Some, None, Ok, Err, eqb, length, map, Bool, true, false, cond, not, List, [], ◌∷◌, ◌++◌, sym, refl, ap, ◌∙◌, subst, inl, ⊎_elim, arith, eq-eqb}
use Rattle.std.specs.List.{Contains, filter}
use Rattle.std.proofs.lemmas.List.Elements.{Contains-append_right}
use Rattle.table_place.specs.declared.Place.{Place}
use Rattle.table_place.specs.Place.{entry_place}
use Rattle.walk_core.specs.declared.pass.Stand.{Stand}
use Rattle.walk_core.specs.Words.{is_link, link_row, link_generation, held_by, stale}
use Rattle.walk_core.specs.Lists.{times, Has, without}
use Rattle.walk_core.specs.Events.{top, stand_after_look}
use Rattle.walk_core.proofs.RowLists.{times-nil}
use Rattle.row_table.specs.declared.view.PassView.{PassView}
use Rattle.row_table.specs.declared.view.HeldRow.{HeldRow}
use Rattle.row_table.specs.Plan.{Meaning}
use Rattle.row_table.specs.Rule.{unmoved, row_part}
use Rattle.row_layout.specs.declared.places.Layout.{Layout}
use Rattle.row_table.specs.Known.{IsKnownPlace, IsHolder, IsLoose, LinksRow}
use Rattle.row_table.specs.declared.view.Finding.{Finding}
use Rattle.row_table.specs.Moves.{finding, grabbed, looked, got, released, Finds, Fits}
use Rattle.row_table.specs.Looks.{looked_at, Reads}
use Rattle.row_table.specs.Crossings.{entered, left}
use Rattle.row_table.specs.Close.{IsIdle}
use Rattle.row_uses.specs.declared.uses.Visit.{Visit}
use Rattle.row_uses.specs.declared.uses.Visit.TheVariants.{Got, Held, Stale, Worn}
use Rattle.row_uses.specs.declared.uses.Holder.{Holder}
use Rattle.row_uses.specs.declared.uses.Unseen.{Unseen}
use Rattle.row_uses.specs.Takes.{Takes, Peeks}
use Rattle.row_uses.specs.Uses.{IsStanding, Notes, came, WentDown, Touched, Went, LookedIn}
use Rattle.std.proofs.lemmas.Option.{same_Some}

-- where a look leads
came_is : (levels index n : ℕ) (s : Stand) → stand_after_look levels s.row index n (Some s) ≡ Some (came levels s index n)
came_is levels index n s = ap (λ (b : Bool). cond (b && is_link n) (Some (record { row = link_row n; place = entry_place levels s.place index; generation = link_generation n })) (Some s)) (eq-eqb s.row s.row refl) ∙ go (is_link n)
  where
    go : (b : Bool) → cond b (Some (record { row = link_row n; place = entry_place levels s.place index; generation = link_generation n })) (Some s)
        ≡ Some (cond b (record { row = link_row n; place = entry_place levels s.place index; generation = link_generation n }) s)
    go true = refl
    go false = refl

pub empty_map : {X Y : Type 0} (f : X → Y) (xs : List X) → map f xs ≡ [] → xs ≡ []
empty_map f [] e = refl
empty_map f (x ∷ xs) e = let long = ap length e in absurd (omega arith)

module _ {R B E : Type 0} where
  last_row : (v : PassView R B E) (row : ℕ) (place : Place) (generation : ℕ) (words : List ℕ) (x : R) → Contains (v.rows ++ grabbed row place generation words x ∷ []) (grabbed row place generation words x)
  last_row v row place generation words x = Contains-append_right v.rows (grabbed row place generation words x ∷ []) (grabbed row place generation words x) (0, omega arith, refl)

  -- a pass that got the row
  pub record HasGot (v : PassView R B E) (row : ℕ) (x : R) : Type 0 where
    pub place : Place
    pub generation : ℕ
    pub words : List ℕ
    pub row_there : Contains v.rows (grabbed row place generation words x)

  pub got_it : (v u : PassView R B E) (row : ℕ) (place : Place) (generation : ℕ) (words : List ℕ) (x : R) → u ≡ got v row place generation words x → HasGot u row x
  got_it v u row place generation words x e = subst (λ (y : PassView R B E). HasGot y row x) (sym e) (record { place = place; generation = generation; words = words; row_there = last_row v row place generation words x })

  -- and left
  pub has_got : (v u w : PassView R B E) (row : ℕ) (place : Place) (generation : ℕ) (words : List ℕ) (x : R) → u ≡ got v row place generation words x → w ≡ left u → HasGot w row x
  has_got v u w row place generation words x e f = let g = got_it v u row place generation words x e in
      record { place = g.place; generation = g.generation; words = g.words; row_there = subst (λ (l : List (HeldRow R)). Contains l (grabbed row g.place g.generation g.words x)) (sym (ap (λ (y : PassView R B E). y.rows) f)) g.row_there }

  pub fits_it : (M : Meaning R B E) {v : PassView R B E} {row : ℕ} {x : R} → HasGot v row x → Fits M v row x
  fits_it M {v} {row} {x} g = record { known = grabbed row g.place g.generation g.words x; held = g.row_there; same_row = refl; content_fits = inl (refl, refl, refl) }

  -- a pass that has nothing is not the holder
  pub another : {v : PassView R B E} {row s : ℕ} → IsStanding v row → IsHolder v row s → s ≢ v.number
  another {v} {row} {s} stands holder = ⊎_elim (λ (ne : s ≢ v.number). ne)
      (λ (has : Has v.core.held row). let none = ap (times row) stands.held ∙ times-nil row in absurd (omega arith)) holder.other

  -- a finding on the row is one of the row and the position of the stand
  note_is : (v : PassView R B E) (row word : ℕ) (place : Place) (index : Option ℕ) (at : IsStanding v row) → IsKnownPlace v row place
      → v.findings ++ finding row place index word ∷ [] ≡ v.findings ++ finding at.stand.row at.stand.place index word ∷ []
  note_is v row word place index at known = λ j. v.findings ++ finding (sym at.same_row j) (known.of_stand at.stand at.on at.same_row j) index word ∷ []

  -- after a grab that took the row, where the pass left and gave it back
  pub noted_got : (v u w y : PassView R B E) (row : ℕ) (f : Finds row v) (x : R) (at : IsStanding v row) → u ≡ got v row f.place f.generation f.words x → w ≡ left u → y ≡ released w row → Notes v at.stand None 0 y
  noted_got v u w y row f x at e g r = ap (λ (z : PassView R B E). z.findings) (r ∙ ap (λ (z : PassView R B E). released z row) (g ∙ ap left e)) ∙ note_is v row 0 f.place None at f.known

  -- after one that did not take it, where the pass left
  pub noted_missed : (v u w : PassView R B E) (row n : ℕ) (place : Place) (at : IsStanding v row) → IsKnownPlace v row place → u ≡ looked v row place None n → w ≡ left u → Notes v at.stand None n w
  noted_missed v u w row n place at known e g = ap (λ (z : PassView R B E). z.findings) (g ∙ ap left e) ∙ note_is v row n place None at known

  pub went_down : (v w : PassView R B E) (row index n : ℕ) (r : Reads v row index n) (at : IsStanding v row) → w ≡ looked_at v row r.place index n → WentDown v at.stand index w
  went_down v w row index n r at e = record {
    word = n;
    found = ap (λ (z : PassView R B E). z.findings) e ∙ note_is v row n r.place (Some index) at r.known;
    stands = ap (λ (z : PassView R B E). z.core.stand) e ∙ ((λ j. stand_after_look v.layout.levels (sym at.same_row j) index n (at.on j)) ∙ came_is v.layout.levels index n at.stand);
    layout = ap (λ (z : PassView R B E). z.layout) e;
  }

  -- where the word is a link the pass stands on the linked row
  pub stands_below : (v w : PassView R B E) (row index n next : ℕ) (r : Reads v row index n) → IsStanding v row → w ≡ looked_at v row r.place index n → is_link n ≡ true → next ≡ link_row n → IsStanding w next
  stands_below v w row index n next r at e link same = record {
    stand = came v.layout.levels at.stand index n;
    on = ap (λ (z : PassView R B E). z.core.stand) e ∙ ((λ j. stand_after_look v.layout.levels (sym at.same_row j) index n (at.on j)) ∙ came_is v.layout.levels index n at.stand);
    same_row = ap (λ (b : Bool). (cond b (record { row = link_row n; place = entry_place v.layout.levels at.stand.place index; generation = link_generation n }) at.stand).row) link ∙ sym same;
    held = ap (λ (z : PassView R B E). z.core.held) e ∙ at.held;
    granted = ap (λ (z : PassView R B E). z.core.granted) e ∙ at.granted;
    unlinked = ap (λ (z : PassView R B E). z.core.unlinked) e ∙ at.unlinked;
    has_not = ap (λ (z : PassView R B E). z.core.has_book) e ∙ at.has_not;
  }

  -- the same pass, where its stand is known
  abbrev pub stands_on : {v : PassView R B E} {row : ℕ} (at : IsStanding v row) (s : Stand) → v.core.stand ≡ Some s → IsStanding v row
  stands_on at s e = record { stand = s; on = e; same_row = ap (λ (y : Stand). y.row) (same_Some s at.stand (sym e ∙ at.on)) ∙ at.same_row; held = at.held; granted = at.granted; unlinked = at.unlinked; has_not = at.has_not }

  abbrev pub stands_at_top : (v u : PassView R B E) → IsIdle v → u ≡ entered v → IsStanding u 0
  stands_at_top v u idle e = record {
    stand = top;
    on = ap (λ (z : PassView R B E). z.core.stand) e;
    same_row = refl;
    held = ap (λ (z : PassView R B E). z.core.held) e ∙ idle.held;
    granted = ap (λ (z : PassView R B E). z.core.granted) e ∙ idle.granted;
    unlinked = ap (λ (z : PassView R B E). z.core.unlinked) e ∙ idle.unlinked;
    has_not = ap (λ (z : PassView R B E). z.core.has_book) e ∙ idle.has_not;
  }

  -- a pass of a table at its start has nothing
  pub new_idle : (k : Layout) (book : B) (n : ℕ) (v : PassView R B E) → v ≡ unmoved k (Some book) n → IsIdle v
  new_idle k book n v e = subst (λ (u : PassView R B E). IsIdle u) (sym e) (record { outside = refl; held = refl; granted = refl; unlinked = refl; has_not = refl })

  -- the whole way
  went : (v u0 u1 u2 w : PassView R B E) (first second word : ℕ) → u0 ≡ entered v → (one : WentDown u0 top first u1) (two : WentDown u1 (came u0.layout.levels top first one.word) second u2)
      → Notes u2 (came u1.layout.levels (came u0.layout.levels top first one.word) second two.word) None word w → Went v first second word w
  went v u0 u1 u2 w first second word e one two touched =
      let layout : u0.layout ≡ v.layout = ap (λ (z : PassView R B E). z.layout) e in
      let between : Stand = came u0.layout.levels top first one.word in
      let last : Stand = came u1.layout.levels between second two.word in record {
        link = one.word;
        between = between;
        is_between = ap (λ (k : Layout). came k.levels top first one.word) layout;
        next = two.word;
        last = last;
        is_last = ap (λ (k : Layout). came k.levels between second two.word) (one.layout ∙ layout);
        found = touched ∙ ap (λ (l : List Finding). l ++ finding last.row last.place None word ∷ []) (two.found ∙ ap (λ (l : List Finding). l ++ finding between.row between.place (Some second) two.word ∷ [])
            (one.found ∙ ap (λ (l : List Finding). l ++ finding top.row top.place (Some first) one.word ∷ []) (ap (λ (z : PassView R B E). z.findings) e)));
      }

  pub looked_in : (v u0 u1 u2 w : PassView R B E) (first second : ℕ) (answer : Visit) → u0 ≡ entered v → (one : WentDown u0 top first u1) (two : WentDown u1 (came u0.layout.levels top first one.word) second u2)
      → Touched u2 (came u1.layout.levels (came u0.layout.levels top first one.word) second two.word) answer w → w.epoch ≡ v.epoch + 2 → LookedIn first second v answer w
  unfolding went
  looked_in v u0 u1 u2 w first second (Got row) e one two touched epoch = (epoch, (went v u0 u1 u2 w first second 0 e one two touched.1, touched.0))
  looked_in v u0 u1 u2 w first second (Held holder) e one two touched epoch = (epoch, went v u0 u1 u2 w first second (held_by holder) e one two touched)
  looked_in v u0 u1 u2 w first second Stale e one two touched epoch = (epoch, went v u0 u1 u2 w first second stale e one two touched)
  looked_in v u0 u1 u2 w first second Worn e one two touched epoch = absurd touched

  -- a row that a held row links
  pub took_child : (v w : PassView R B E) (row : ℕ) (f : Finds row v) (x : R) → f.content ≡ x → w ≡ got v row f.place f.generation f.words x → (l : LinksRow v row) → Takes v row (entry_place v.layout.levels l.linker.place l.index) (Ok x) w
  took_child v w row f x is e l = (f, is, e ∙ ap (λ (p : Place). got v row p f.generation f.words x) (f.known.of_entry l))

  pub missed_child : (v w : PassView R B E) (row : ℕ) (place : Place) (holder : Holder) → IsKnownPlace v row place → IsHolder v row holder.0 → w ≡ looked v row place None (held_by holder.0) → (l : LinksRow v row)
      → Takes v row (entry_place v.layout.levels l.linker.place l.index) (Err holder) w
  missed_child v w row place holder known holds e l = (holds, e ∙ ap (λ (p : Place). looked v row p None (held_by holder.0)) (known.of_entry l))

  -- a row on which the pass stands
  pub peeked : (v u w : PassView R B E) (row : ℕ) (f : Finds row v) (x : R) (at : IsStanding v row) → f.content ≡ x → u ≡ got v row f.place f.generation f.words x → w ≡ released u row → Peeks v row at.stand.place (Ok x) w
  peeked v u w row f x at is e r = ((f, is), r ∙ (ap (λ (y : PassView R B E). released y row) e ∙ back))
    where
      same : f.place ≡ at.stand.place
      same = f.known.of_stand at.stand at.on at.same_row

      none : v.rows ≡ []
      none = empty_map row_part v.rows (f.right.rows ∙ at.held)

      held : without row (v.core.held ++ row ∷ []) ≡ v.core.held
      held = ap (λ (l : List ℕ). without row (l ++ row ∷ [])) at.held ∙ (ap (λ (b : Bool). cond (not b) (row ∷ []) []) (eq-eqb row row refl) ∙ sym at.held)

      rows : filter (λ (h : HeldRow R). not (eqb h.row row)) (v.rows ++ grabbed row f.place f.generation f.words x ∷ []) ≡ v.rows
      rows = ap (λ (l : List (HeldRow R)). filter (λ (h : HeldRow R). not (eqb h.row row)) (l ++ grabbed row f.place f.generation f.words x ∷ [])) none
          ∙ (ap (λ (b : Bool). cond (not b) (grabbed row f.place f.generation f.words x ∷ []) []) (eq-eqb row row refl) ∙ sym none)

      back : released (got v row f.place f.generation f.words x) row ≡ looked v row at.stand.place None 0
      back = λ j. record v { core = record v.core { held = held j }; rows = rows j; findings = v.findings ++ finding row (same j) None 0 ∷ [] }

  pub peeked_held : (v w : PassView R B E) (row s : ℕ) (place : Place) (at : IsStanding v row) → IsKnownPlace v row place → IsHolder v row s → w ≡ looked v row place None (held_by s) → Peeks v row at.stand.place (Err (Unseen.Held s)) w
  peeked_held v w row s place at known holds e = (
    record { there = holds.there; other = another at holds },
    e ∙ ap (λ (p : Place). looked v row p None (held_by s)) (known.of_stand at.stand at.on at.same_row),
  )

  pub peeked_stale : (v w : PassView R B E) (row : ℕ) (place : Place) (at : IsStanding v row) → IsKnownPlace v row place → IsLoose v row → w ≡ looked v row place None stale → Peeks v row at.stand.place (Err Unseen.Stale) w
  peeked_stale v w row place at known loose e = (loose, e ∙ ap (λ (p : Place). looked v row p None stale) (known.of_stand at.stand at.on at.same_row))

  -- a pass that stands on a row stands on it after it had it for a moment, and after it missed it
  pub stands_again : (v u w : PassView R B E) (row : ℕ) (place : Place) (generation : ℕ) (words : List ℕ) (x : R) → IsStanding v row → u ≡ got v row place generation words x → w ≡ released u row → IsStanding w row
  stands_again v u w row place generation words x s e f = subst (λ (y : PassView R B E). IsStanding y row) (sym (f ∙ ap (λ (y : PassView R B E). released y row) e)) (record {
    stand = s.stand;
    on = s.on;
    same_row = s.same_row;
    held = ap (λ (l : List ℕ). without row (l ++ row ∷ [])) s.held ∙ ap (λ (b : Bool). cond (not b) (row ∷ []) []) (eq-eqb row row refl);
    granted = s.granted;
    unlinked = s.unlinked;
    has_not = s.has_not;
  })

  pub stands_still : (v w : PassView R B E) (row n : ℕ) (place : Place) → IsStanding v row → w ≡ looked v row place None n → IsStanding w row
  stands_still v w row n place s e = subst (λ (y : PassView R B E). IsStanding y row) (sym e)
      (record { stand = s.stand; on = s.on; same_row = s.same_row; held = s.held; granted = s.granted; unlinked = s.unlinked; has_not = s.has_not })
