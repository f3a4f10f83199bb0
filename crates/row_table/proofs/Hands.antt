-- The rows of a hand are those that the core counts as granted, and their positions are set up alike.
use Rattle.std.proofs.Common.{◌≡◌, ℕ, eqb, not, cond, Bool, true, false, List, [], ◌∷◌, map, sym, refl, ap, ◌∙◌, arith, eq-eqb, ne_eqb, Option, Some, None}
use Rattle.std.specs.Prelude.{is_some}
use Rattle.std.specs.List.{Contains, filter, find}
use mathlib.Core.Logic.{dite}
use native.Mathlib.Decide.{ℕ_discrete}
use Rattle.table_place.specs.declared.Place.{Place}
use Rattle.walk_core.specs.declared.event.SetPart.TheVariants.{Position, Generation}
use Rattle.walk_core.specs.declared.pass.GrantedRow.{GrantedRow}
use Rattle.walk_core.specs.Lists.{Has}
use Rattle.walk_core.specs.Core.{set_up}
use Rattle.walk_core.specs.Events.{with_part, granted_after_part}
use Rattle.walk_core.proofs.RowLists.{times-nil, times-cons_other, in_head, in_tail}
use Rattle.row_table.specs.declared.view.HandRow.{HandRow}
use Rattle.row_table.specs.Rule.{hand_part, hand_state, granted_state}
use Rattle.row_table.specs.Openings.{with_place, with_number}

-- Maps

pub same_maps : {X Y Z : Type 0} (f : X → Y) (g : Y → Z) (h : X → Z) → ((x : X) → g (f x) ≡ h x) → (xs : List X) → map g (map f xs) ≡ map h xs
same_maps f g h same [] = refl
same_maps f g h same (x ∷ xs) = λ i. same x i ∷ same_maps f g h same xs i

map_kept : {X Y : Type 0} (f : X → Y) (t : Y → Bool) (xs : List X) → map f (filter (λ x. t (f x)) xs) ≡ filter t (map f xs)
map_kept f t [] = refl
map_kept {X} {Y} f t (x ∷ xs) = go (t (f x)) (map_kept f t xs)
  where
    go : (b : Bool) → map f (filter (λ y. t (f y)) xs) ≡ filter t (map f xs) → map f (cond b (x ∷ filter (λ y. t (f y)) xs) (filter (λ y. t (f y)) xs)) ≡ cond b (f x ∷ filter t (map f xs)) (filter t (map f xs))
    go true e = ap (λ (l : List Y). f x ∷ l) e
    go false e = e

-- The rows alone

pub rows_granted : (hand : List HandRow) (gs : List GrantedRow) → map hand_state hand ≡ map granted_state gs → map hand_part hand ≡ map (λ (g : GrantedRow). g.row) gs
rows_granted hand gs e = sym (same_maps hand_state (λ (p : ℕ × Bool). p.0) hand_part (λ x. refl) hand)
    ∙ (ap (map (λ (p : ℕ × Bool). p.0)) e ∙ same_maps granted_state (λ (p : ℕ × Bool). p.0) (λ (g : GrantedRow). g.row) (λ g. refl) gs)

pub rows_placed : (r : ℕ) (q : Place) (hand : List HandRow) → map hand_part (map (with_place r q) hand) ≡ map hand_part hand
rows_placed r q = same_maps (with_place r q) hand_part hand_part (λ x. same x (eqb x.row r))
  where
    same : (x : HandRow) (b : Bool) → (cond b (record x { place = Some q }) x).row ≡ x.row
    same x true = refl
    same x false = refl

pub rows_numbered : (r n : ℕ) (hand : List HandRow) → map hand_part (map (with_number r n) hand) ≡ map hand_part hand
rows_numbered r n = same_maps (with_number r n) hand_part hand_part (λ x. same x (eqb x.row r))
  where
    same : (x : HandRow) (b : Bool) → (cond b (record x { generation = n }) x).row ≡ x.row
    same x true = refl
    same x false = refl

-- What changes both

states_changed : (f : HandRow → HandRow) (t : GrantedRow → GrantedRow) (c : ℕ × Bool → ℕ × Bool) → ((x : HandRow) → hand_state (f x) ≡ c (hand_state x)) → ((g : GrantedRow) → granted_state (t g) ≡ c (granted_state g))
    → (hand : List HandRow) (gs : List GrantedRow) → map hand_state hand ≡ map granted_state gs → map hand_state (map f hand) ≡ map granted_state (map t gs)
states_changed f t c ours its hand gs e =
    same_maps f hand_state (λ (x : HandRow). c (hand_state x)) ours hand ∙ (sym (same_maps hand_state c (λ (x : HandRow). c (hand_state x)) (λ x. refl) hand)
    ∙ (ap (map c) e ∙ (same_maps granted_state c (λ (g : GrantedRow). c (granted_state g)) (λ g. refl) gs ∙ sym (same_maps t granted_state (λ (g : GrantedRow). c (granted_state g)) its gs))))

pub states_placed : (r : ℕ) (q : Place) (hand : List HandRow) (gs : List GrantedRow) → map hand_state hand ≡ map granted_state gs → map hand_state (map (with_place r q) hand) ≡ map granted_state (granted_after_part r (Position q) gs)
states_placed r q = states_changed (with_place r q) (λ (g : GrantedRow). cond (eqb g.row r) (with_part (Position q) g) g) (λ (p : ℕ × Bool). cond (eqb p.0 r) (p.0, true) p) (λ x. ours x (eqb x.row r)) (λ g. its g (eqb g.row r))
  where
    ours : (x : HandRow) (b : Bool) → hand_state (cond b (record x { place = Some q }) x) ≡ cond b (x.row, true) (hand_state x)
    ours x true = refl
    ours x false = refl

    its : (g : GrantedRow) (b : Bool) → granted_state (cond b (record g { has_position = true }) g) ≡ cond b (g.row, true) (granted_state g)
    its g true = refl
    its g false = refl

pub states_numbered : (r n : ℕ) (hand : List HandRow) (gs : List GrantedRow) → map hand_state hand ≡ map granted_state gs → map hand_state (map (with_number r n) hand) ≡ map granted_state (granted_after_part r (Generation n) gs)
states_numbered r n = states_changed (with_number r n) (λ (g : GrantedRow). cond (eqb g.row r) (with_part (Generation n) g) g) (λ (p : ℕ × Bool). p) (λ x. ours x (eqb x.row r)) (λ g. its g (eqb g.row r))
  where
    ours : (x : HandRow) (b : Bool) → hand_state (cond b (record x { generation = n }) x) ≡ hand_state x
    ours x true = refl
    ours x false = refl

    its : (g : GrantedRow) (b : Bool) → granted_state (cond b (record g { has_generation = true }) g) ≡ granted_state g
    its g true = refl
    its g false = refl

-- without a row
pub states_kept : (child : ℕ) (hand : List HandRow) (gs : List GrantedRow) → map hand_state hand ≡ map granted_state gs
    → map hand_state (filter (λ (x : HandRow). not (eqb x.row child)) hand) ≡ map granted_state (filter (λ (g : GrantedRow). not (eqb g.row child)) gs)
states_kept child hand gs e = map_kept hand_state (λ (p : ℕ × Bool). not (eqb p.0 child)) hand
    ∙ (ap (filter (λ (p : ℕ × Bool). not (eqb p.0 child))) e ∙ sym (map_kept granted_state (λ (p : ℕ × Bool). not (eqb p.0 child)) gs))

-- A granted row is set up after both of its words were written

pub found_set_up : (r n : ℕ) (q : Place) (gs : List GrantedRow) → Has (map (λ (g : GrantedRow). g.row) gs) r → find (λ (g : GrantedRow). eqb g.row r) (granted_after_part r (Generation n) (granted_after_part r (Position q) gs)) ≡ set_up r
found_set_up r n q [] has = let z = times-nil r in absurd (omega arith)
found_set_up r n q (g ∷ gs) has =
    let rest : List GrantedRow = granted_after_part r (Generation n) (granted_after_part r (Position q) gs) in
    let all : GrantedRow → Option GrantedRow = λ y. cond (eqb y.row r) (Some y) (find (λ (x : GrantedRow). eqb x.row r) rest) in
    let one : GrantedRow = record g { has_position = true } in let both : GrantedRow = record one { has_generation = true } in
    dite (ℕ_discrete g.row r)
    (λ z. let here : eqb g.row r ≡ true = eq-eqb g.row r z in
    ap (λ (b : Bool). all (cond (eqb (cond b one g).row r) (record (cond b one g) { has_generation = true }) (cond b one g))) here
    ∙ (ap (λ (b : Bool). all (cond b both one)) here ∙ (ap (λ (b : Bool). cond b (Some both) (find (λ (x : GrantedRow). eqb x.row r) rest)) here
    ∙ ap (λ (y : ℕ). Some (record { row = y; has_position = true; has_generation = true })) z)))
    (λ ne. let other : eqb g.row r ≡ false = ne_eqb g.row r ne in
    ap (λ (b : Bool). all (cond (eqb (cond b one g).row r) (record (cond b one g) { has_generation = true }) (cond b one g))) other
    ∙ (ap (λ (b : Bool). all (cond b (record g { has_generation = true }) g)) other ∙ (ap (λ (b : Bool). cond b (Some g) (find (λ (x : GrantedRow). eqb x.row r) rest)) other
    ∙ found_set_up r n q gs (let t = times-cons_other r g.row (map (λ (x : GrantedRow). x.row) gs) ne in omega arith))))

-- A row that was set up is in the hand, with a position

some_place : (o : Option Place) → is_some o ≡ true → (p : Place) × (o ≡ Some p)
some_place None e = absurd (cc)
some_place (Some p) e = (p, refl)

pub set_in_hand : (r : ℕ) (hand : List HandRow) (gs : List GrantedRow) → map hand_state hand ≡ map granted_state gs → find (λ (g : GrantedRow). eqb g.row r) gs ≡ set_up r
    → (x : HandRow) × Contains hand x × (x.row ≡ r) × ((p : Place) × (x.place ≡ Some p))
set_in_hand r [] [] e found = absurd (cc)
set_in_hand r [] (g ∷ gs) e found = absurd (cc)
set_in_hand r (x ∷ hand) [] e found = absurd (cc)
set_in_hand r (x ∷ hand) (g ∷ gs) e found =
    let here : hand_state x ≡ granted_state g = cc in let later : map hand_state hand ≡ map granted_state gs = cc in
    dite (ℕ_discrete g.row r)
    (λ z. let is : Some g ≡ set_up r = ap (λ (b : Bool). cond b (Some g) (find (λ (y : GrantedRow). eqb y.row r) gs)) (sym (eq-eqb g.row r z)) ∙ found in
    let same : g ≡ record { row = r; has_position = true; has_generation = true } = cc in
    let state : hand_state x ≡ (r, true) = here ∙ ap granted_state same in
    (x, in_head x hand, ap (λ (p : ℕ × Bool). p.0) state, some_place x.place (ap (λ (p : ℕ × Bool). p.1) state)))
    (λ ne. let o = set_in_hand r hand gs later (ap (λ (b : Bool). cond b (Some g) (find (λ (y : GrantedRow). eqb y.row r) gs)) (sym (ne_eqb g.row r ne)) ∙ found) in
    (o.0, in_tail x hand o.0 o.1, o.2, o.3))
