-- A frame that one page has, and no other, has one owner.
use Rattle.std.proofs.Common.{◌≡◌, ℕ, Bool, true, false, cond, refl, sym, ap, ◌∙◌, arith}
use mathlib.Core.Bool.{true≢false}
use Rattle.std.specs.Prelude.{Option, Some, None, nat_eq}
use Rattle.std.specs.List.{sum_by, count_by}
use Rattle.std.specs.Option.{option_and_then, option_map_or, unwrap_or}
use Rattle.std.specs.Ordering.{nat_cmp}
use Rattle.std.specs.Cmp.{nat_cmp_total, unsigned_tied, nat_eq_equiv}
use Rattle.std.proofs.lemmas.Bool.{eqb-true}
use Rattle.std.specs.FinMap as fin
use Rattle.std.specs.FinMap.{FinMap, get-empty, get-remove}
use Rattle.page_map.specs.declared.cell.Cell.{Cell}
use Rattle.page_map.specs.Cell.{AddressSpace, frame_of}
use Rattle.page_map.specs.State.{State, carries, cell_at, frame_owners, owners}
use Rattle.page_map.proofs.Owners.{two_owners, weight_at}
use Rattle.page_map.proofs.Steps.{not_none}
use Rattle.mm_model.specs.Pages.{frame_at}
use Rattle.mm_model.proofs.Carried.{no_values}

-- where all other keys weigh nothing, the sum is the key's weight
weighs_alone : {X : Type 0} (w : X → ℕ) (m : FinMap nat_cmp X) (k : ℕ) (v : X) → fin.get m k ≡ Some v → ((q : ℕ) (x : X) → fin.get m q ≡ Some x → (q ≡ k → ⊥) → w x ≡ 0) → sum_by w (fin.values m) ≡ w v
weighs_alone {X} w m k v there light = omega (arith, weight_at w m k v there, no_values w (fin.remove m k) (λ q x h. rest q x h (nat_eq q k) refl))
  where
    rest : (q : ℕ) (x : X) → fin.get (fin.remove m k) q ≡ Some x → (b : Bool) → nat_eq q k ≡ b → w x ≡ 0
    rest q x h true e = absurd (not_none (sym h ∙ get-remove nat_cmp_total m k q ∙ ap (λ b. cond b None (fin.get m q)) (unsigned_tied q k ∙ e)))
    rest q x h false e =
        light q x (sym (get-remove nat_cmp_total m k q ∙ ap (λ b. cond b None (fin.get m q)) (unsigned_tied q k ∙ e)) ∙ h)
        (λ same. true≢false (sym (nat_eq_equiv.refl k) ∙ ap (λ n. nat_eq n k) (sym same) ∙ e))

module _ (n : ℕ) where
  light : (c : Cell) → (frame_of c ≡ Some n → ⊥) → ◌≡◌ {A = ℕ} (cond (carries frame_of n c) 1 0) 0
  light c f = go (frame_of c) refl
    where
      go : (o : Option ℕ) → frame_of c ≡ o → ◌≡◌ {A = ℕ} (cond (option_map_or (λ m. nat_eq m n) o false) 1 0) 0
      go None e = refl
      go (Some m) e = each (nat_eq m n) refl
        where
          each : (b : Bool) → nat_eq m n ≡ b → ◌≡◌ {A = ℕ} (cond b 1 0) 0
          each false t = refl
          each true t = absurd (f (e ∙ ap Some (eqb-true m n t)))

  once : (c : Cell) → frame_of c ≡ Some n → ◌≡◌ {A = ℕ} (cond (carries frame_of n c) 1 0) 1
  once c h = ap (λ o. cond (option_map_or (λ m. nat_eq m n) o false) 1 0) h ∙ ap (λ b. cond b 1 0) (nat_eq_equiv.refl n)

  space_of_cell : (st : State) (s p : ℕ) (c : Cell) → cell_at st s p ≡ Some c → (cells : AddressSpace) × (fin.get st.spaces s ≡ Some cells) × (fin.get cells p ≡ Some c)
  space_of_cell st s p c h = go (fin.get st.spaces s) refl h
    where
      go : (o : Option AddressSpace) → fin.get st.spaces s ≡ o → fin.get (unwrap_or o fin.empty) p ≡ Some c → (cells : AddressSpace) × (fin.get st.spaces s ≡ Some cells) × (fin.get cells p ≡ Some c)
      go None e g = absurd (not_none (sym g ∙ get-empty nat_cmp p))
      go (Some cells) e g = (cells, e, g)

  in_cell : (st : State) (s p : ℕ) → frame_at st s p ≡ Some n → (c : Cell) × (cell_at st s p ≡ Some c) × (frame_of c ≡ Some n)
  in_cell st s p h = go (cell_at st s p) refl h
    where
      go : (o : Option Cell) → cell_at st s p ≡ o → option_and_then frame_of o ≡ Some n → (c : Cell) × (cell_at st s p ≡ Some c) × (frame_of c ≡ Some n)
      go None e g = absurd (not_none (sym g))
      go (Some c) e g = (c, e, g)

  framed : (st : State) (s p : ℕ) (c : Cell) → cell_at st s p ≡ Some c → frame_of c ≡ Some n → frame_at st s p ≡ Some n
  framed st s p c h is = ap (option_and_then frame_of) h ∙ is

  pub one_owner : (st : State) (s p : ℕ) → frame_at st s p ≡ Some n → ((t q : ℕ) → frame_at st t q ≡ Some n → (t ≡ s) × (q ≡ p)) → frame_owners st n ≡ 1
  unfolding owners
  one_owner st s p h others =
      let c = in_cell st s p h in
      let at = space_of_cell st s p c.0 c.1 in
      weighs_alone (λ (cells : AddressSpace). count_by (carries frame_of n) (fin.values cells)) st.spaces s at.0 at.1 (λ t cells there apart.
      no_values (λ c. cond (carries frame_of n c) 1 0) cells (λ q d g. light d (λ also.
      apart (others t q (framed st t q d (ap (λ (o : Option AddressSpace). fin.get (unwrap_or o fin.empty) q) there ∙ g) also)).0)))
      ∙ weighs_alone (λ c. cond (carries frame_of n c) 1 0) at.0 p c.0 at.2 (λ q d g apart. light d (λ also.
      apart (others s q (framed st s q d (ap (λ (o : Option AddressSpace). fin.get (unwrap_or o fin.empty) q) at.1 ∙ g) also)).1))
      ∙ once c.0 c.2

  pub only_owner : (st : State) (s t p q : ℕ) → frame_at st s p ≡ Some n → frame_at st t q ≡ Some n → frame_owners st n ≡ 1 → (s ≡ t) × (p ≡ q)
  only_owner st s t p q h g one =
      let c = in_cell st s p h in
      let d = in_cell st t q g in
      two_owners frame_of n st s t p q c.0 d.0 c.1 d.1 c.2 d.2 one
