-- The links that words spell.
use Rattle.std.proofs.Common.{◌≡◌, ◌≢◌, ℕ, ◌↔◌, Bool, true, false, refl, Result, Ok}
use Rattle.pte_word.specs.declared.Pte.{Pte}
use Rattle.pte_word.specs.declared.Pte.TheVariants.{Table}
use Rattle.pte_word.specs.declared.Strange.{Strange}
use Rattle.pte_word.specs.Entries.{Spells}
use Rattle.walk_core.specs.Words.{is_link, link_row, link_generation}

-- a word whose reading is no link is no link
pub no_link : (word : ℕ) (answer : Result Pte Strange) → ((entry : Pte) → Spells entry word → answer ≡ Ok entry)
    → ((row generation : ℕ) → Spells (Table row generation) word ↔ ((is_link word ≡ true) × (link_row word ≡ row) × (link_generation word ≡ generation)))
    → ((row generation : ℕ) → answer ≢ Ok (Table row generation)) → is_link word ≡ false
no_link word answer only links other = go (is_link word) refl
  where
    go : (b : Bool) → is_link word ≡ b → is_link word ≡ false
    go false e = e
    go true e = absurd (other (link_row word) (link_generation word) (only (Table (link_row word) (link_generation word)) ((links (link_row word) (link_generation word)).1 (e, refl, refl))))
