-- A line is that of one item at most, and its words are the item's.
use Rattle.std.proofs.Common.{◌≡◌, ◌≢◌, ℕ, ◌*◌, ◌^◌, ◌<◌, ◌≤◌, List, [], ◌∷◌, ◌++◌, length, codes, refl, sym, ap, subst, ◌∙◌, arith}
use Rattle.std.specs.Prelude.{Option, Some, None, IfSome, IfNone}
use Rattle.std.specs.List.{All}
use Rattle.std.proofs.lemmas.List.{append-nil, append_assoc}
use Rattle.std.proofs.lemmas.List.Elements.{All-nil, All-cons, All-append}
use Rattle.corten_base.specs.declared.permissions.Perm.{Perm}
use Rattle.corten_base.specs.declared.calls.Backing.{Backing}
use Rattle.corten_base.specs.declared.calls.Backing.TheVariants as backing
use Rattle.text_words.specs.Layout.{HasNo, IsLine, joined, words_of}
use Rattle.text_words.specs.Spelling.{number, address, permission}
use Rattle.text_words.proofs.OneValue.{number_injective, address_injective, permission_injective}
use Rattle.text_words.proofs.SpelledBytes.{IsNoDigit-below, HasNo-number, HasNo-address, HasNo-hex, HasNo-permission, HasNo-joined}
use Rattle.text_words.proofs.WordLists.{joined-words_of, words_of-joined}
use Rattle.mm_script.specs.CallLine.{backing_words, IsBacking}
use Rattle.mm_script.specs.ScriptText.{file_word, IsFile}
use Rattle.mm_script.proofs.CallForms.{other_word}
use Rattle.mm_script.proofs.FileLines.{file_line_injective}
use Rattle.mm_script.proofs.OneArgument.{same_backing}
use Rattle.mm_script.proofs.OneCall.{HasNo_letters}
use Rattle.image_text.specs.declared.image.Item.{Item}
use Rattle.image_text.specs.declared.image.Item.TheVariants.{Run, Page}
use Rattle.image_text.specs.declared.image.Residence.{Residence}
use Rattle.image_text.specs.declared.image.Residence.TheVariants.{Live, Out}
use Rattle.image_text.specs.ImageText.{residence_word, head_words, item_words, item_line}
use Rattle.image_text.specs.Reading.{IsSpelled}

same_first : (a b : List ℕ) (x y : List (List ℕ)) → a ∷ x ≡ b ∷ y → a ≡ b
same_first a b x y same = cc

same_behind : (a b : List ℕ) (x y : List (List ℕ)) → a ∷ x ≡ b ∷ y → x ≡ y
same_behind a b x y same = cc

pub first_words : (a b : List ℕ) (x y words : List (List ℕ)) → words ≡ a ∷ x → words ≡ b ∷ y → a ≡ b
first_words a b x y words is are = cc

pub same_page : (p q : ℕ) → p < 2 ^ 52 → q < 2 ^ 52 → address (4096 * p) ≡ address (4096 * q) → p ≡ q
same_page p q hp hq same =
    let at : 4096 * p ≡ 4096 * q = address_injective (4096 * p) (4096 * q) (omega arith) (omega arith) same in
    omega arith

pub same_residence : (a b : Residence) (x y : List (List ℕ)) → residence_word a ∷ x ≡ residence_word b ∷ y → (a ≡ b) × (x ≡ y)
same_residence Live Live x y same = (refl, cc)
same_residence Out Out x y same = (refl, cc)
same_residence Live Out x y same = absurd (other_word (codes "live") (codes "out") x y refl same)
same_residence Out Live x y same = absurd (other_word (codes "out") (codes "live") x y refl same)

pub same_bytes : (xs ys : List ℕ) → length xs ≤ 4096 → length ys ≤ 4096 → All (λ b. b < 256) xs → All (λ b. b < 256) ys → file_word xs ≡ file_word ys → xs ≡ ys
same_bytes xs ys hx hy fx fy same =
    let one : IsFile xs = record { size = omega arith; fit = fx } in
    let two : IsFile ys = record { size = omega arith; fit = fy } in
    file_line_injective xs ys one two (ap (λ w. joined (codes "file" ∷ w ∷ [])) same)

-- the words of a run and of a page, with others behind them
abbrev pub run_words : ℕ → ℕ → Perm → Backing → List (List ℕ) → List (List ℕ)
run_words first count perm what x = codes "run" ∷ address (4096 * first) ∷ number count ∷ permission perm ∷ (backing_words what ++ x)

abbrev pub page_words : ℕ → Perm → Backing → Residence → List ℕ → List (List ℕ) → List (List ℕ)
page_words page perm origin residence bytes x = codes "page" ∷ head_words page perm origin residence (file_word bytes ∷ x)

pub page_words_are : (page : ℕ) (perm : Perm) (origin : Backing) (residence : Residence) (bytes : List ℕ) (x : List (List ℕ)) →
    item_words (Page page perm origin residence bytes) ++ x ≡ page_words page perm origin residence bytes x
page_words_are page perm origin residence bytes x =
    ap (λ ws. codes "page" ∷ address (4096 * page) ∷ permission perm ∷ ws) (append_assoc (backing_words origin) (residence_word residence ∷ file_word bytes ∷ []) x)

-- the same item, and the same words behind it
pub record SameItem (a b : Item) (x y : List (List ℕ)) : Type 0 where
  pub items : a ≡ b
  pub rest : x ≡ y

pub record SameHead (p q : ℕ) (perm other : Perm) (origin what : Backing) (r s : Residence) (x y : List (List ℕ)) : Type 0 where
  pub pages : p ≡ q
  pub perms : perm ≡ other
  pub origins : origin ≡ what
  pub residences : r ≡ s
  pub rest : x ≡ y

pub same_head : (p q : ℕ) (perm other : Perm) (origin what : Backing) (r s : Residence) (x y : List (List ℕ)) → p < 2 ^ 52 → q < 2 ^ 52 → IsBacking origin → IsBacking what →
    head_words p perm origin r x ≡ head_words q other what s y → SameHead p q perm other origin what r s x y
same_head p q perm other origin what r s x y hp hq ho hw same =
    let behind : List (List ℕ) = backing_words origin ++ residence_word r ∷ x in
    let behind' : List (List ℕ) = backing_words what ++ residence_word s ∷ y in
    let one : address (4096 * p) ≡ address (4096 * q) = same_first _ _ (permission perm ∷ behind) (permission other ∷ behind') same in
    let two : permission perm ∷ behind ≡ permission other ∷ behind' = same_behind _ _ (permission perm ∷ behind) (permission other ∷ behind') same in
    let origins = same_backing origin what (residence_word r ∷ x) (residence_word s ∷ y) ho hw (same_behind _ _ behind behind' two) in
    let homes = same_residence r s x y origins.1 in
    record { pages = same_page p q hp hq one; perms = permission_injective perm other (same_first _ _ behind behind' two); origins = origins.0; residences = homes.0; rest = homes.1 }

pub one_run : (p q m n : ℕ) (perm other : Perm) (what backing : Backing) (x y : List (List ℕ)) → p < 2 ^ 52 → q < 2 ^ 52 → m < 2 ^ 64 → n < 2 ^ 64 → IsBacking what → IsBacking backing →
    run_words p m perm what x ≡ run_words q n other backing y → SameItem (Run p m perm what) (Run q n other backing) x y
one_run p q m n perm other what backing x y hp hq hm hn hw hb same =
    let behind : List (List ℕ) = backing_words what ++ x in
    let behind' : List (List ℕ) = backing_words backing ++ y in
    let whole : address (4096 * p) ∷ number m ∷ permission perm ∷ behind ≡ address (4096 * q) ∷ number n ∷ permission other ∷ behind' =
    same_behind (codes "run") (codes "run") (address (4096 * p) ∷ number m ∷ permission perm ∷ behind) (address (4096 * q) ∷ number n ∷ permission other ∷ behind') same in
    let one : number m ∷ permission perm ∷ behind ≡ number n ∷ permission other ∷ behind' = same_behind _ _ (number m ∷ permission perm ∷ behind) (number n ∷ permission other ∷ behind') whole in
    let two : permission perm ∷ behind ≡ permission other ∷ behind' = same_behind _ _ (permission perm ∷ behind) (permission other ∷ behind') one in
    let pages : p ≡ q = same_page p q hp hq (same_first _ _ (number m ∷ permission perm ∷ behind) (number n ∷ permission other ∷ behind') whole) in
    let counts : m ≡ n = number_injective m n hm hn (same_first _ _ (permission perm ∷ behind) (permission other ∷ behind') one) in
    let perms : perm ≡ other = permission_injective perm other (same_first _ _ behind behind' two) in
    let both = same_backing what backing x y hw hb (same_behind _ _ behind behind' two) in
    record { items = λ i. Run (pages i) (counts i) (perms i) (both.0 i); rest = both.1 }

pub one_page : (p q : ℕ) (perm other : Perm) (origin what : Backing) (r s : Residence) (bytes more : List ℕ) (x y : List (List ℕ)) → p < 2 ^ 52 → q < 2 ^ 52 → IsBacking origin → IsBacking what →
    length bytes ≤ 4096 → length more ≤ 4096 → All (λ b. b < 256) bytes → All (λ b. b < 256) more →
    page_words p perm origin r bytes x ≡ page_words q other what s more y → SameItem (Page p perm origin r bytes) (Page q other what s more) x y
one_page p q perm other origin what r s bytes more x y hp hq ho hw sb sm fb fm same =
    let heads = same_head p q perm other origin what r s (file_word bytes ∷ x) (file_word more ∷ y) hp hq ho hw
    (same_behind (codes "page") (codes "page") (head_words p perm origin r (file_word bytes ∷ x)) (head_words q other what s (file_word more ∷ y)) same) in
    let all : bytes ≡ more = same_bytes bytes more sb sm fb fm (same_first _ _ x y heads.rest) in
    record { items = λ i. Page (heads.pages i) (heads.perms i) (heads.origins i) (heads.residences i) (all i); rest = same_behind _ _ x y heads.rest }

-- words begin with the words of one item at most
pub one_item : (a b : Item) (x y : List (List ℕ)) → IsSpelled a → IsSpelled b → item_words a ++ x ≡ item_words b ++ y → SameItem a b x y
one_item (Run p m perm what) (Run q n other backing) x y ha hb same = one_run p q m n perm other what backing x y ha.0 hb.0 ha.1 hb.1 ha.2 hb.2 same
one_item (Page p perm origin r bytes) (Page q other what s more) x y ha hb same =
    one_page p q perm other origin what r s bytes more x y ha.0 hb.0 ha.1 hb.1 ha.2 hb.2 ha.3 hb.3
    (sym (page_words_are p perm origin r bytes x) ∙ same ∙ page_words_are q other what s more y)
one_item (Run p m perm what) (Page q other origin s more) x y ha hb same = absurd (other_word (codes "run") (codes "page") _ _ refl same)
one_item (Page p perm origin r bytes) (Run q n other what) x y ha hb same = absurd (other_word (codes "page") (codes "run") _ _ refl same)

-- no word of an item has a space or a newline
module _ (byte : ℕ) (low : byte < 45) where
  abbrev P : List ℕ → Type 0
  P = HasNo byte

  backing_has_no : (what : Backing) → IsBacking what → All P (backing_words what)
  backing_has_no backing.Zero h = All-cons P (codes "zero") [] (HasNo_letters byte (codes "zero") low refl) (All-nil P)
  backing_has_no (backing.File file index) h =
      All-cons P (codes "file") (number file ∷ number index ∷ []) (HasNo_letters byte (codes "file") low refl)
      (All-cons P (number file) (number index ∷ []) (HasNo-number byte file (omega (arith, h.0.1)) (IsNoDigit-below byte (omega arith)))
      (All-cons P (number index) [] (HasNo-number byte index h.1 (IsNoDigit-below byte (omega arith))) (All-nil P)))

  residence_has_no : (r : Residence) → P (residence_word r)
  residence_has_no Live = HasNo_letters byte (codes "live") low refl
  residence_has_no Out = HasNo_letters byte (codes "out") low refl

  bytes_have_no : (bytes : List ℕ) → All (λ b. b < 256) bytes → P (file_word bytes)
  bytes_have_no [] fit = All-cons (λ b. b ≢ byte) 45 [] (λ e. omega arith) (All-nil (λ b. b ≢ byte))
  bytes_have_no (b ∷ bytes) fit = HasNo-hex byte (b ∷ bytes) fit (IsNoDigit-below byte (omega arith))

  address_has_no : (page : ℕ) → page < 2 ^ 52 → P (address (4096 * page))
  address_has_no page fits = HasNo-address byte (4096 * page) (omega arith) (IsNoDigit-below byte (omega arith)) (λ e. omega arith)

  item_has_no : (item : Item) → IsSpelled item → All P (item_words item)
  item_has_no (Run first count perm what) h =
      All-cons P (codes "run") (address (4096 * first) ∷ number count ∷ permission perm ∷ backing_words what) (HasNo_letters byte (codes "run") low refl)
      (All-cons P (address (4096 * first)) (number count ∷ permission perm ∷ backing_words what) (address_has_no first h.0)
      (All-cons P (number count) (permission perm ∷ backing_words what) (HasNo-number byte count h.1 (IsNoDigit-below byte (omega arith)))
      (All-cons P (permission perm) (backing_words what) (HasNo-permission byte perm low) (backing_has_no what h.2))))
  item_has_no (Page page perm origin r bytes) h =
      let last : List (List ℕ) = residence_word r ∷ file_word bytes ∷ [] in
      All-cons P (codes "page") (address (4096 * page) ∷ permission perm ∷ (backing_words origin ++ last)) (HasNo_letters byte (codes "page") low refl)
      (All-cons P (address (4096 * page)) (permission perm ∷ (backing_words origin ++ last)) (address_has_no page h.0)
      (All-cons P (permission perm) (backing_words origin ++ last) (HasNo-permission byte perm low)
      (All-append P (backing_words origin) last (backing_has_no origin h.1)
      (All-cons P (residence_word r) (file_word bytes ∷ []) (residence_has_no r) (All-cons P (file_word bytes) [] (bytes_have_no bytes h.3) (All-nil P))))))

some_words : (item : Item) → item_words item ≢ []
some_words (Run first count perm what) none = cc
some_words (Page page perm origin r bytes) none = cc

pub words_of-item_line : (item : Item) → IsSpelled item → words_of (item_line item) ≡ item_words item
words_of-item_line item h = words_of-joined (item_words item) (some_words item) (item_has_no 32 (omega arith) item h)

pub item_line_IsLine : (item : Item) → IsSpelled item → IsLine (item_line item)
item_line_IsLine item h = HasNo-joined 10 (item_words item) (λ is. omega arith) (item_has_no 10 (omega arith) item h)

pub item_line_injective : (a b : Item) → IsSpelled a → IsSpelled b → item_line a ≡ item_line b → a ≡ b
item_line_injective a b ha hb same =
    let words : item_words a ≡ item_words b = sym (words_of-item_line a ha) ∙ ap words_of same ∙ words_of-item_line b hb in
    (one_item a b [] [] ha hb (ap (λ ws. ws ++ []) words)).items

-- A reader took the words of an item from the front of a line's words, or found none there; more are left behind them.
pub record HasTaken (read : Option Item) (line : List ℕ) (more : List (List ℕ)) : Type 0 where
  pub found : IfSome read (λ item. IsSpelled item × (words_of line ≡ item_words item ++ more))
  pub none : IfNone read ((item : Item) (rest : List (List ℕ)) → IsSpelled item → words_of line ≢ item_words item ++ rest)

words_from_line : (line : List ℕ) (item : Item) → IsSpelled item → line ≡ item_line item → words_of line ≡ item_words item ++ []
words_from_line line item h is = ap words_of is ∙ words_of-item_line item h ∙ sym (append-nil (item_words item))

pub found_whole : (read : Option Item) (line : List ℕ) (more : List (List ℕ)) → HasTaken read line more → more ≡ [] → IfSome read (λ item. IsSpelled item × (line ≡ item_line item))
found_whole None line more taken done = tt
found_whole (Some item) line more taken done =
    (taken.found.0, sym (joined-words_of line) ∙ ap joined (taken.found.1 ∙ ap (λ ws. item_words item ++ ws) done ∙ append-nil (item_words item)))

pub none_whole : (read : Option Item) (line : List ℕ) (more : List (List ℕ)) → HasTaken read line more → IfNone read ((item : Item) → IsSpelled item → line ≢ item_line item)
none_whole None line more taken = λ item h is. taken.none item [] h (words_from_line line item h is)
none_whole (Some a) line more taken = tt

pub none_longer : (read : Option Item) (line : List ℕ) (more : List (List ℕ)) → HasTaken read line more → more ≢ [] → (item : Item) → IsSpelled item → line ≢ item_line item
none_longer None line more taken some = λ item h is. taken.none item [] h (words_from_line line item h is)
none_longer (Some a) line more taken some = λ item h is. some (one_item a item more [] taken.found.0 h (sym taken.found.1 ∙ words_from_line line item h is)).rest
