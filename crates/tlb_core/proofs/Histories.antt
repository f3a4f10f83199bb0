-- One more entry: what stands, and what a run is.
--     split_last      a place in a list that ends in x is its last place or one before
--     stands_new, stands_again, stands_before      what stands after one more entry
use Rattle.std.proofs.Common.{◌≡◌, ◌⊎◌, ◌↔◌, [], ◌∷◌, ◌++◌, refl, ◌∙◌, ap, subst, inl, inr, append_assoc, Some}
use Rattle.std.specs.List.{All}
use Rattle.std.proofs.lemmas.List.Elements.{All-nil, All-push, All-pop}
use Rattle.tlb_core.specs.Histories.{Entry, History, Stands}

pub split_last : (h before : History) (x e : Entry) (later : History) → h ++ x ∷ [] ≡ before ++ e ∷ later →
    ((before ≡ h) × (e ≡ x) × (later ≡ [])) ⊎ ((rest : History) × (later ≡ rest ++ x ∷ []) × (h ≡ before ++ e ∷ rest))
split_last [] [] x e later eq = inl (refl, cc, cc)
split_last [] (b ∷ []) x e later eq = absurd (cc)
split_last [] (b ∷ c ∷ bs) x e later eq = absurd (cc)
split_last (y ∷ h) [] x e later eq = inr (h, cc, cc)
split_last (y ∷ h) (b ∷ bs) x e later eq = elim (split_last h bs x e later cc) [
  | inl found ↦ inl (cc, found.1, found.2)
  | inr found ↦ inr (found.0, found.1, cc)
]

pub no_entry : (before : History) (e : Entry) (later : History) → [] ≡ before ++ e ∷ later → ⊥
no_entry [] e later eq = cc
no_entry (b ∷ bs) e later eq = cc

module _ (makes : History → Entry → Type 0) (undoes : Entry → Type 0) where
  pub stands_new : (h : History) (x : Entry) → makes h x → Stands makes undoes (h ++ x ∷ [])
  stands_new h x made = record { before = h; entry = x; later = []; whole = refl; made = made; kept = All-nil (λ y. ¬ undoes y) }

  pub stands_again : (h : History) (x : Entry) → Stands makes undoes h → ¬ undoes x → Stands makes undoes (h ++ x ∷ [])
  stands_again h x s apart = record {
    before = s.before;
    entry = s.entry;
    later = s.later ++ x ∷ [];
    whole = ap (λ k. k ++ x ∷ []) s.whole ∙ append_assoc s.before (s.entry ∷ s.later) (x ∷ []);
    made = s.made;
    kept = All-push (λ y. ¬ undoes y) s.later x s.kept apart;
  }

  pub stands_before : (h : History) (x : Entry) → Stands makes undoes (h ++ x ∷ []) → makes h x ⊎ (Stands makes undoes h × ¬ undoes x)
  stands_before h x s = elim (split_last h s.before x s.entry s.later s.whole) [
    | inl found ↦ inl (subst (λ k. makes k x) found.0 (subst (makes s.before) found.1 s.made))
    | inr found ↦
        let parts : All (λ y. ¬ undoes y) found.0 × (¬ undoes x) = All-pop (λ y. ¬ undoes y) s.later found.0 (Some x) found.1 s.kept in
        inr (record { before = s.before; entry = s.entry; later = found.0; whole = found.2; made = s.made; kept = parts.0 }, parts.1)
  ]

  -- an entry that neither makes nor undoes it changes nothing
  pub stands_stays : (h : History) (x : Entry) → ¬ makes h x → ¬ undoes x → Stands makes undoes h ↔ Stands makes undoes (h ++ x ∷ [])
  stands_stays h x new apart = (
    (λ s. stands_again h x s apart),
    (λ s. elim (stands_before h x s) [ inl made ↦ absurd (new made) | inr before ↦ before.0 ]),
  )

  -- what an entry undoes stands no more, unless it makes it anew
  pub stands_no_more : (h : History) (x : Entry) → ¬ makes h x → undoes x → ¬ Stands makes undoes (h ++ x ∷ [])
  stands_no_more h x new undone s = elim (stands_before h x s) [ inl made ↦ new made | inr before ↦ before.1 undone ]

  pub stands_nowhere : ¬ Stands makes undoes []
  stands_nowhere s = no_entry s.before s.entry s.later s.whole
