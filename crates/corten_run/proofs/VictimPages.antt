-- The pages of victims are user pages.
use Rattle.std.proofs.Common.{◌<◌, ◌^◌, ℕ, List, take, get_or, length, length-take, subst, sym, ap, ◌∙◌, inl, inr, arith}
use Rattle.std.specs.List.{All}
use Rattle.std.proofs.lemmas.Bool.{cases_lt}
use Rattle.std.proofs.lemmas.List.{get_or-take}
use Rattle.std.proofs.lemmas.List.Elements.{Contains-get_or}
use Rattle.corten_base.specs.declared.calls.Entry.{Entry}
use Rattle.corten_base.specs.declared.numbers.Limits.{Limits}
use Rattle.page_map.proofs.Steps.{not_none}
use Rattle.mm_model.specs.Pages.{frame_at}
use Rattle.mm_model.proofs.Framed.{high_unmapped}
use Rattle.pageout.specs.declared.ages.Ages.{Ages}
use Rattle.pageout.specs.declared.victims.Victim.{Victim}
use Rattle.pageout.specs.Victims.{AreVictims, IsVictim}
use Rattle.pageout.specs.Ages.{AreAgesOf}

module _ (limits : Limits) (files : List (List ℕ)) (es : List Entry) (ages : Ages) (are : AreAgesOf limits files es ages) where
  low_page : (v : Victim) → IsVictim limits files es v → v.page < 2 ^ 44
  low_page v is = elim (cases_lt v.page (2 ^ 44)) [
    | inl low ↦ low
    | inr high ↦ absurd (not_none (sym (ap (λ s. frame_at s v.space v.page) are.state ∙ is.mapped) ∙ high_unmapped ages.plain v.space v.page are.facts high))
  ]

  pub low_pages : (all : List Victim) (n : ℕ) → AreVictims limits files es all → All (λ (v : Victim). v.page < 2 ^ 44) (take n all)
  low_pages all n victims = λ k d inside.
      let short : k < length all = omega (arith, inside, length-take n all) in
      let below : k < n = omega (arith, inside, length-take n all) in
      subst (λ (v : Victim). v.page < 2 ^ 44) (sym (get_or-take n all k d below)) (low_page (get_or all k d) ((victims.exact (get_or all k d)).0 (Contains-get_or all k d short)))
