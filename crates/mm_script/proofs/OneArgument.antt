-- Words begin with the words of one place and of one backing at most.
use Rattle.std.proofs.Common.{◌≡◌, ◌≢◌, ℕ, ◌≤◌, List, ◌∷◌, ◌++◌, codes, refl, sym, ap, ◌∙◌, arith}
use Rattle.corten_base.specs.declared.calls.MapPlace.{MapPlace}
use Rattle.corten_base.specs.declared.calls.MapPlace.TheVariants as place
use Rattle.corten_base.specs.declared.calls.Backing.{Backing}
use Rattle.corten_base.specs.declared.calls.Backing.TheVariants as backing
use Rattle.text_words.specs.Spelling.{number}
use Rattle.text_words.proofs.OneValue.{number_injective, address_injective}
use Rattle.mm_script.specs.CallLine.{place_words, backing_words, IsPlace, IsBacking}
use Rattle.mm_script.proofs.CallForms.{other_word}

pub same_number : (m n high : ℕ) → m ≤ high → n ≤ high → high ≤ 4096 → number m ≡ number n → m ≡ n
same_number m n high hm hn small same = number_injective m n (omega arith) (omega arith) same

-- the same place, and the same words behind it
pub same_place : (a b : MapPlace) (x y : List (List ℕ)) → IsPlace a → IsPlace b → place_words a ++ x ≡ place_words b ++ y → (a ≡ b) × (x ≡ y)
same_place place.Any place.Any x y ha hb same = (refl, cc)
same_place (place.At at) (place.At at') x y ha hb same = (ap place.At (address_injective at at' ha hb (cc)), cc)
same_place (place.New at) (place.New at') x y ha hb same = (ap place.New (address_injective at at' ha hb (cc)), cc)
same_place place.Any (place.At at') x y ha hb same = absurd (other_word (codes "any") (codes "at") _ _ refl same)
same_place place.Any (place.New at') x y ha hb same = absurd (other_word (codes "any") (codes "new") _ _ refl same)
same_place (place.At at) place.Any x y ha hb same = absurd (other_word (codes "at") (codes "any") _ _ refl same)
same_place (place.At at) (place.New at') x y ha hb same = absurd (other_word (codes "at") (codes "new") _ _ refl same)
same_place (place.New at) place.Any x y ha hb same = absurd (other_word (codes "new") (codes "any") _ _ refl same)
same_place (place.New at) (place.At at') x y ha hb same = absurd (other_word (codes "new") (codes "at") _ _ refl same)

-- what stands behind a place is no other words
pub no_behind_place : (words behind_space behind_place rest : List (List ℕ)) (space space' : ℕ) (at at' : MapPlace) → IsPlace at → IsPlace at' → words ≡ number space ∷ behind_space → behind_space ≡ place_words at ++ behind_place
    → behind_place ≢ rest → words ≢ number space' ∷ (place_words at' ++ rest)
no_behind_place words behind_space behind_place rest space space' at at' ha hb space_is place_is none are =
    let both : number space ∷ (place_words at ++ behind_place) ≡ number space' ∷ (place_words at' ++ rest) = ap (λ ws. number space ∷ ws) (sym place_is) ∙ sym space_is ∙ are in
    none (same_place at at' behind_place rest ha hb (cc both)).1

-- words as they are behind the first
pub behind_first : (word word' : List ℕ) (rest rest' words : List (List ℕ)) → words ≡ word ∷ rest → words ≡ word' ∷ rest' → rest ≡ rest'
behind_first word word' rest rest' words is are = cc

same_file : (file index file' index' : ℕ) → file ≡ file' → index ≡ index' → backing.File file index ≡ backing.File file' index'
same_file file index file' index' f n = λ i. backing.File (f i) (n i)

-- the same backing, and the same words behind it
pub same_backing : (a b : Backing) (x y : List (List ℕ)) → IsBacking a → IsBacking b → backing_words a ++ x ≡ backing_words b ++ y → (a ≡ b) × (x ≡ y)
same_backing backing.Zero backing.Zero x y ha hb same = (refl, cc)
same_backing (backing.File file index) (backing.File file' index') x y ha hb same =
    (same_file file index file' index' (same_number file file' 15 ha.0.1 hb.0.1 (omega arith) (cc)) (number_injective index index' ha.1 hb.1 (cc)), cc)
same_backing backing.Zero (backing.File file' index') x y ha hb same = absurd (other_word (codes "zero") (codes "file") _ _ refl same)
same_backing (backing.File file index) backing.Zero x y ha hb same = absurd (other_word (codes "file") (codes "zero") _ _ refl same)
