-- Words behind the name of a reply, of which no such reply is read.
use Rattle.std.proofs.Common.{◌≡◌, ◌≢◌, ℕ, ◌<◌, ◌^◌, List, ◌∷◌, ◌++◌, codes, refl, arith}
use Rattle.corten_base.specs.declared.calls.Reply.TheVariants as reply
use Rattle.corten_base.specs.declared.calls.Why.{Why}
use Rattle.text_words.specs.Spelling.{number, address}
use Rattle.mm_script.specs.CallLine.{IsWithin}
use Rattle.mm_script.proofs.CallForms.{other_word}
use Rattle.mm_script.proofs.OneArgument.{behind_first}
use Rattle.history_lines.specs.Replies.{why_words, IsWhy, IsCount}
use Rattle.history_lines.specs.Reading.{ReadsNone}

abbrev NoAddress : List (List ℕ) → Type 0
NoAddress words = (at : ℕ) (rest : List (List ℕ)) → at < 2 ^ 64 → words ≢ address at ∷ rest

abbrev NoCount : List (List ℕ) → Type 0
NoCount words = (n : ℕ) (rest : List (List ℕ)) → IsCount n → words ≢ number n ∷ rest

abbrev NoPair : List (List ℕ) → Type 0
NoPair words = (m n : ℕ) (rest : List (List ℕ)) → IsCount m → IsCount n → words ≢ number m ∷ number n ∷ rest

behind_name : (word : List ℕ) (rest words : List (List ℕ)) → word ∷ words ≡ word ∷ rest → words ≡ rest
behind_name word rest words are = behind_first word word words rest (word ∷ words) refl are

pub no_at : (words : List (List ℕ)) → NoAddress words → ReadsNone (codes "at") words
no_at words none (reply.At at) rest h are = none at rest h (behind_name (codes "at") (address at ∷ rest) words are)
no_at words none _ rest h are = other_word (codes "at") _ _ _ refl are

pub no_exists : (words : List (List ℕ)) → NoAddress words → ReadsNone (codes "exists") words
no_exists words none (reply.Exists at) rest h are = none at rest h (behind_name (codes "exists") (address at ∷ rest) words are)
no_exists words none _ rest h are = other_word (codes "exists") _ _ _ refl are

pub no_hole : (words : List (List ℕ)) → NoAddress words → ReadsNone (codes "hole") words
no_hole words none (reply.Hole at) rest h are = none at rest h (behind_name (codes "hole") (address at ∷ rest) words are)
no_hole words none _ rest h are = other_word (codes "hole") _ _ _ refl are

pub no_segv : (words : List (List ℕ)) → NoAddress words → ReadsNone (codes "segv") words
no_segv words none (reply.Segv at) rest h are = none at rest h (behind_name (codes "segv") (address at ∷ rest) words are)
no_segv words none _ rest h are = other_word (codes "segv") _ _ _ refl are

pub no_denied : (words : List (List ℕ)) → NoAddress words → ReadsNone (codes "denied") words
no_denied words none (reply.Denied at) rest h are = none at rest h (behind_name (codes "denied") (address at ∷ rest) words are)
no_denied words none _ rest h are = other_word (codes "denied") _ _ _ refl are

pub no_bus : (words : List (List ℕ)) → NoAddress words → ReadsNone (codes "bus") words
no_bus words none (reply.Bus at) rest h are = none at rest h (behind_name (codes "bus") (address at ∷ rest) words are)
no_bus words none _ rest h are = other_word (codes "bus") _ _ _ refl are

pub no_space : (words : List (List ℕ)) → ((n : ℕ) (rest : List (List ℕ)) → IsWithin 0 63 n → words ≢ number n ∷ rest) → ReadsNone (codes "space") words
no_space words none (reply.Space space) rest h are = none space rest (omega arith, omega (arith, h)) (behind_name (codes "space") (number space ∷ rest) words are)
no_space words none _ rest h are = other_word (codes "space") _ _ _ refl are

pub no_moved : (words : List (List ℕ)) → NoCount words → ReadsNone (codes "moved") words
no_moved words none (reply.Moved pages) rest h are = none pages rest h (behind_name (codes "moved") (number pages ∷ rest) words are)
no_moved words none _ rest h are = other_word (codes "moved") _ _ _ refl are

pub no_noframes : (words : List (List ℕ)) → NoPair words → ReadsNone (codes "noframes") words
no_noframes words none (reply.NoFrames free need) rest h are = none free need rest h.0 h.1 (behind_name (codes "noframes") (number free ∷ number need ∷ rest) words are)
no_noframes words none _ rest h are = other_word (codes "noframes") _ _ _ refl are

pub no_noswap : (words : List (List ℕ)) → NoPair words → ReadsNone (codes "noswap") words
no_noswap words none (reply.NoSwap free need) rest h are = none free need rest h.0 h.1 (behind_name (codes "noswap") (number free ∷ number need ∷ rest) words are)
no_noswap words none _ rest h are = other_word (codes "noswap") _ _ _ refl are

-- by the words behind the name: neither a first pair and a number behind it, nor a number and a cause behind it
pub no_notables : (words : List (List ℕ)) → ((linked limbo need : ℕ) (rest : List (List ℕ)) → IsCount linked → IsCount limbo → need < 2 ^ 64 → words ≢ number linked ∷ number limbo ∷ number need ∷ rest) → ReadsNone (codes "notables") words
no_notables words none (reply.NoTables linked limbo need) rest h are =
    none linked limbo need rest h.0 h.1 h.2 (behind_name (codes "notables") (number linked ∷ number limbo ∷ number need ∷ rest) words are)
no_notables words none _ rest h are = other_word (codes "notables") _ _ _ refl are

pub no_undone : (words : List (List ℕ)) → ((operation : ℕ) (reason : Why) (rest : List (List ℕ)) → IsWithin 1 16 operation → IsWhy reason → words ≢ number operation ∷ (why_words reason ++ rest)) → ReadsNone (codes "undone") words
no_undone words none (reply.Undone operation reason) rest h are =
    none operation reason rest h.0 h.1 (behind_name (codes "undone") (number operation ∷ (why_words reason ++ rest)) words are)
no_undone words none _ rest h are = other_word (codes "undone") _ _ _ refl are

-- behind what was read there is nothing more of the reply
pub no_need : (words behind : List (List ℕ)) (m n : ℕ) → words ≡ number m ∷ number n ∷ behind → ((need : ℕ) (rest : List (List ℕ)) → need < 2 ^ 64 → behind ≢ number need ∷ rest)
    → (linked limbo need : ℕ) (rest : List (List ℕ)) → IsCount linked → IsCount limbo → need < 2 ^ 64 → words ≢ number linked ∷ number limbo ∷ number need ∷ rest
no_need words behind m n is none linked limbo need rest a b fits are =
    none need rest fits (behind_first (number n) (number limbo) behind (number need ∷ rest) _ refl (behind_first (number m) (number linked) (number n ∷ behind) (number limbo ∷ number need ∷ rest) words is are))

pub no_cause : (words behind : List (List ℕ)) (m : ℕ) → words ≡ number m ∷ behind → ((reason : Why) (rest : List (List ℕ)) → IsWhy reason → behind ≢ why_words reason ++ rest)
    → (operation : ℕ) (reason : Why) (rest : List (List ℕ)) → IsWithin 1 16 operation → IsWhy reason → words ≢ number operation ∷ (why_words reason ++ rest)
no_cause words behind m is none operation reason rest within is_why are =
    none reason rest is_why (behind_first (number m) (number operation) behind (why_words reason ++ rest) words is are)
