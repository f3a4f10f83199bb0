-- The words of each form of call, taken apart: what no words of a call are.
use Rattle.std.proofs.Common.{◌≡◌, ◌≢◌, ℕ, ◌<◌, Bool, false, List, [], ◌∷◌, ◌++◌, length, codes, refl, sym, ap, ◌∙◌}
use Rattle.std.specs.List.{All}
use Rattle.std.specs.Str.{bytes_eq}
use Rattle.std.proofs.lemmas.Bool.{false≢true}
use Rattle.std.proofs.lemmas.List.{append_assoc}
use Rattle.std.proofs.lemmas.Slice.Eq.{bytes_eq-Decides}
use Rattle.corten_base.specs.declared.permissions.Perm.{Perm}
use Rattle.corten_base.specs.declared.calls.MapPlace.{MapPlace}
use Rattle.corten_base.specs.declared.calls.Backing.{Backing}
use Rattle.corten_base.specs.declared.calls.TxnOp.{TxnOp}
use Rattle.corten_base.specs.declared.calls.Call.{Call}
use Rattle.corten_base.specs.declared.calls.Call.TheVariants as call
use Rattle.text_words.specs.Spelling.{number, address, hex, permission}
use Rattle.mm_script.specs.CallLine.{place_words, backing_words, access_word, call_words, IsSpace, IsNumber, IsPlace, IsBacking, IsAccess, IsCall, AreOps, IsNoMore, EndsCall, ops_words}
use Rattle.mm_script.specs.declared.call_names.CallName.{CallName}
use Rattle.mm_script.specs.declared.call_names.CallName.TheVariants as name
use Rattle.mm_script.specs.CallNames.{name_word}

-- words whose first differ
pub other_word : (a b : List ℕ) (x y : List (List ℕ)) → bytes_eq a b ≡ false → a ∷ x ≢ b ∷ y
other_word a b x y differ same =
    let first : a ≡ b = cc same in
    false≢true (sym differ ∙ (bytes_eq-Decides a b).1 first)

pub map_words-append : (space len : ℕ) (at : MapPlace) (perm : Perm) (what : Backing) (rest : List (List ℕ)) → call_words (call.Map space at len perm what) ++ rest ≡ codes "map" ∷ number space ∷ (place_words at ++ (number len ∷ permission perm ∷ (backing_words what ++ rest)))
map_words-append space len at perm what rest =
    ap (λ ws. codes "map" ∷ number space ∷ ws) (append_assoc (place_words at) (number len ∷ permission perm ∷ backing_words what) rest)

-- words in which no arguments of a call stand behind its name
pub no_map : (words : List (List ℕ))
    → ((space len : ℕ) (at : MapPlace) (perm : Perm) (what : Backing) (rest : List (List ℕ)) → IsSpace space → IsPlace at → IsNumber len → IsBacking what → words ≢ number space ∷ (place_words at ++ (number len ∷ permission perm ∷ (backing_words what ++ rest))))
    → (c : Call) (rest : List (List ℕ)) → IsCall c → codes "map" ∷ words ≢ call_words c ++ rest
no_map words none (call.Map space at len perm what) rest h are =
    let whole = are ∙ map_words-append space len at perm what rest in
    none space len at perm what rest h.0 h.1 h.2 h.3 (cc whole)
no_map words none _ rest h are = other_word (codes "map") _ _ _ refl are

pub no_unmap : (words : List (List ℕ))
    → ((space at len : ℕ) (rest : List (List ℕ)) → IsSpace space → IsNumber at → IsNumber len → words ≢ number space ∷ address at ∷ number len ∷ rest)
    → (c : Call) (rest : List (List ℕ)) → IsCall c → codes "unmap" ∷ words ≢ call_words c ++ rest
no_unmap words none (call.Unmap space at len) rest h are = none space at len rest h.0 h.1 h.2 (cc)
no_unmap words none _ rest h are = other_word (codes "unmap") _ _ _ refl are

pub no_protect : (words : List (List ℕ))
    → ((space at len : ℕ) (perm : Perm) (rest : List (List ℕ)) → IsSpace space → IsNumber at → IsNumber len → words ≢ number space ∷ address at ∷ number len ∷ permission perm ∷ rest)
    → (c : Call) (rest : List (List ℕ)) → IsCall c → codes "protect" ∷ words ≢ call_words c ++ rest
no_protect words none (call.Protect space at len perm) rest h are = none space at len perm rest h.0 h.1 h.2 (cc)
no_protect words none _ rest h are = other_word (codes "protect") _ _ _ refl are

pub no_load : (words : List (List ℕ))
    → ((space at len : ℕ) (rest : List (List ℕ)) → IsSpace space → IsNumber at → IsAccess len → words ≢ number space ∷ address at ∷ number len ∷ rest)
    → (c : Call) (rest : List (List ℕ)) → IsCall c → codes "load" ∷ words ≢ call_words c ++ rest
no_load words none (call.Load space at len) rest h are = none space at len rest h.0 h.1 h.2 (cc)
no_load words none _ rest h are = other_word (codes "load") _ _ _ refl are

pub no_store : (words : List (List ℕ))
    → ((space at : ℕ) (bytes : List ℕ) (rest : List (List ℕ)) → IsSpace space → IsNumber at → IsAccess (length bytes) → All (λ b. b < 256) bytes → words ≢ number space ∷ address at ∷ hex bytes ∷ rest)
    → (c : Call) (rest : List (List ℕ)) → IsCall c → codes "store" ∷ words ≢ call_words c ++ rest
no_store words none (call.Store space at bytes) rest h are = none space at bytes rest h.0 h.1 h.2 h.3 (cc)
no_store words none _ rest h are = other_word (codes "store") _ _ _ refl are

pub no_fault : (words : List (List ℕ))
    → ((space at : ℕ) (write : Bool) (rest : List (List ℕ)) → IsSpace space → IsNumber at → words ≢ number space ∷ address at ∷ access_word write ∷ rest)
    → (c : Call) (rest : List (List ℕ)) → IsCall c → codes "fault" ∷ words ≢ call_words c ++ rest
no_fault words none (call.Fault space at write) rest h are = none space at write rest h.0 h.1 (cc)
no_fault words none _ rest h are = other_word (codes "fault") _ _ _ refl are

pub no_fork : (words : List (List ℕ)) → ((space : ℕ) (rest : List (List ℕ)) → IsSpace space → words ≢ number space ∷ rest) → (c : Call) (rest : List (List ℕ)) → IsCall c → codes "fork" ∷ words ≢ call_words c ++ rest
no_fork words none (call.Fork space) rest h are = none space rest h (cc)
no_fork words none _ rest h are = other_word (codes "fork") _ _ _ refl are

pub no_exit : (words : List (List ℕ)) → ((space : ℕ) (rest : List (List ℕ)) → IsSpace space → words ≢ number space ∷ rest) → (c : Call) (rest : List (List ℕ)) → IsCall c → codes "exit" ∷ words ≢ call_words c ++ rest
no_exit words none (call.Exit space) rest h are = none space rest h (cc)
no_exit words none _ rest h are = other_word (codes "exit") _ _ _ refl are

pub no_out : (words : List (List ℕ))
    → ((space at len : ℕ) (rest : List (List ℕ)) → IsSpace space → IsNumber at → IsNumber len → words ≢ number space ∷ address at ∷ number len ∷ rest)
    → (c : Call) (rest : List (List ℕ)) → IsCall c → codes "out" ∷ words ≢ call_words c ++ rest
no_out words none (call.SwapOut space at len) rest h are = none space at len rest h.0 h.1 h.2 (cc)
no_out words none _ rest h are = other_word (codes "out") _ _ _ refl are

pub no_in : (words : List (List ℕ))
    → ((space at len : ℕ) (rest : List (List ℕ)) → IsSpace space → IsNumber at → IsNumber len → words ≢ number space ∷ address at ∷ number len ∷ rest)
    → (c : Call) (rest : List (List ℕ)) → IsCall c → codes "in" ∷ words ≢ call_words c ++ rest
no_in words none (call.SwapIn space at len) rest h are = none space at len rest h.0 h.1 h.2 (cc)
no_in words none _ rest h are = other_word (codes "in") _ _ _ refl are

pub no_txn : (words : List (List ℕ))
    → ((space at len : ℕ) (ops : List TxnOp) (rest : List (List ℕ)) → IsSpace space → IsNumber at → IsNumber len → AreOps ops → IsNoMore rest → words ≢ number space ∷ address at ∷ number len ∷ (ops_words ops ++ rest))
    → (c : Call) (rest : List (List ℕ)) → IsCall c → EndsCall c rest → codes "txn" ∷ words ≢ call_words c ++ rest
no_txn words none (call.Txn space at len ops) rest h ends are = none space at len ops rest h.0 h.1 h.2 h.3 ends (cc)
no_txn words none _ rest h ends are = other_word (codes "txn") _ _ _ refl are

pub no_dontneed : (words : List (List ℕ))
    → ((space at len : ℕ) (rest : List (List ℕ)) → IsSpace space → IsNumber at → IsNumber len → words ≢ number space ∷ address at ∷ number len ∷ rest)
    → (c : Call) (rest : List (List ℕ)) → IsCall c → codes "dontneed" ∷ words ≢ call_words c ++ rest
no_dontneed words none (call.DontNeed space at len) rest h are = none space at len rest h.0 h.1 h.2 (cc)
no_dontneed words none _ rest h are = other_word (codes "dontneed") _ _ _ refl are

pub no_remap : (words : List (List ℕ))
    → ((space at old_len new_len : ℕ) (rest : List (List ℕ)) → IsSpace space → IsNumber at → IsNumber old_len → IsNumber new_len → words ≢ number space ∷ address at ∷ number old_len ∷ number new_len ∷ rest)
    → (c : Call) (rest : List (List ℕ)) → IsCall c → codes "remap" ∷ words ≢ call_words c ++ rest
no_remap words none (call.Remap space at old_len new_len) rest h are = none space at old_len new_len rest h.0 h.1 h.2 h.3 (cc)
no_remap words none _ rest h are = other_word (codes "remap") _ _ _ refl are

-- a call has words
pub no_words : (c : Call) (rest : List (List ℕ)) → [] ≢ call_words c ++ rest
no_words (call.Map space at len perm what) rest are = cc
no_words (call.Unmap space at len) rest are = cc
no_words (call.Protect space at len perm) rest are = cc
no_words (call.Load space at len) rest are = cc
no_words (call.Store space at bytes) rest are = cc
no_words (call.Fault space at write) rest are = cc
no_words call.Spawn rest are = cc
no_words (call.Fork space) rest are = cc
no_words (call.Exit space) rest are = cc
no_words (call.SwapOut space at len) rest are = cc
no_words (call.SwapIn space at len) rest are = cc
no_words (call.Txn space at len ops) rest are = cc
no_words (call.DontNeed space at len) rest are = cc
no_words (call.Remap space at old_len new_len) rest are = cc

-- words that begin with no name are no call's
pub no_name : (word : List ℕ) (words : List (List ℕ)) → ((n : CallName) → word ≢ name_word n) → (c : Call) (rest : List (List ℕ)) → IsCall c → word ∷ words ≢ call_words c ++ rest
no_name word words none (call.Map space at len perm what) rest h are = none name.Map (cc)
no_name word words none (call.Unmap space at len) rest h are = none name.Unmap (cc)
no_name word words none (call.Protect space at len perm) rest h are = none name.Protect (cc)
no_name word words none (call.Load space at len) rest h are = none name.Load (cc)
no_name word words none (call.Store space at bytes) rest h are = none name.Store (cc)
no_name word words none (call.Fault space at write) rest h are = none name.Fault (cc)
no_name word words none call.Spawn rest h are = none name.Spawn (cc)
no_name word words none (call.Fork space) rest h are = none name.Fork (cc)
no_name word words none (call.Exit space) rest h are = none name.Exit (cc)
no_name word words none (call.SwapOut space at len) rest h are = none name.SwapOut (cc)
no_name word words none (call.SwapIn space at len) rest h are = none name.SwapIn (cc)
no_name word words none (call.Txn space at len ops) rest h are = none name.Txn (cc)
no_name word words none (call.DontNeed space at len) rest h are = none name.DontNeed (cc)
no_name word words none (call.Remap space at old_len new_len) rest h are = none name.Remap (cc)
