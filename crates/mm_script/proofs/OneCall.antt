-- A line is that of one call at most, and its words are the call's.
use Rattle.std.proofs.Common.{◌≡◌, ◌≢◌, ℕ, ◌<◌, ◌^◌, Bool, true, false, ltb, List, [], ◌∷◌, ◌++◌, codes, refl, sym, ap, ◌∙◌, arith}
use Rattle.std.specs.Prelude.{Option, Some, None, IfSome, IfNone}
use Rattle.std.specs.List.{All, list_all}
use Rattle.std.proofs.lemmas.Bool.{and_parts, ltb-true}
use Rattle.std.proofs.lemmas.List.{append-nil}
use Rattle.std.proofs.lemmas.List.Elements.{All-nil, All-cons, All-head, All-tail, All-append}
use Rattle.corten_base.specs.declared.permissions.Perm.{Perm}
use Rattle.corten_base.specs.declared.calls.MapPlace.{MapPlace}
use Rattle.corten_base.specs.declared.calls.MapPlace.TheVariants as place
use Rattle.corten_base.specs.declared.calls.Backing.{Backing}
use Rattle.corten_base.specs.declared.calls.Backing.TheVariants as backing
use Rattle.corten_base.specs.declared.calls.TxnOp.{TxnOp}
use Rattle.corten_base.specs.declared.calls.TxnOp.TheVariants as op
use Rattle.corten_base.specs.declared.calls.Call.{Call}
use Rattle.corten_base.specs.declared.calls.Call.TheVariants as call
use Rattle.text_words.specs.Layout.{HasNo, IsLine, joined, words_of}
use Rattle.text_words.specs.Spelling.{number, address, permission}
use Rattle.text_words.proofs.OneValue.{number_injective, address_injective, hex_injective, permission_injective}
use Rattle.text_words.proofs.SpelledBytes.{IsNoDigit-below, HasNo-number, HasNo-address, HasNo-hex, HasNo-permission, HasNo-joined}
use Rattle.text_words.proofs.WordLists.{joined-words_of, words_of-joined}
use Rattle.mm_script.specs.CallLine.{place_words, backing_words, access_word, fresh_word, op_words, more_ops_words, ops_words, call_words, call_line, IsNoMore, EndsCall, IsOp, IsSpace, IsNumber, IsPlace, IsBacking, IsCall}
use Rattle.mm_script.proofs.CallForms.{other_word, map_words-append, no_words}
use Rattle.mm_script.proofs.OneArgument.{same_number, same_place, same_backing}
use Rattle.mm_script.proofs.OneOp.{same_ops}

-- the same call, and the same words behind it
pub record SameCall (a b : Call) (x y : List (List ℕ)) : Type 0 where
  pub calls : a ≡ b
  pub rest : x ≡ y

same_space : (a b : ℕ) → IsSpace a → IsSpace b → number a ≡ number b → a ≡ b
same_space a b ha hb same = number_injective a b (omega arith) (omega arith) same

access_word_injective : (a b : Bool) → access_word a ≡ access_word b → a ≡ b
access_word_injective true true same = refl
access_word_injective false false same = refl
access_word_injective true false same = absurd (other_word (codes "w") (codes "r") [] [] refl (ap (λ w. w ∷ []) same))
access_word_injective false true same = absurd (other_word (codes "r") (codes "w") [] [] refl (ap (λ w. w ∷ []) same))

same_map : (space space' len len' : ℕ) (at at' : MapPlace) (perm perm' : Perm) (what what' : Backing) → space ≡ space' → at ≡ at' → len ≡ len' → perm ≡ perm' → what ≡ what' → call.Map space at len perm what ≡ call.Map space' at' len' perm' what'
same_map space space' len len' at at' perm perm' what what' s a l p w = λ i. call.Map (s i) (a i) (l i) (p i) (w i)

one_map : (space len : ℕ) (at : MapPlace) (perm : Perm) (what : Backing) (b : Call) (x y : List (List ℕ)) → IsCall (call.Map space at len perm what) → IsCall b → call_words (call.Map space at len perm what) ++ x ≡ call_words b ++ y → SameCall (call.Map space at len perm what) b x y
one_map space len at perm what (call.Map space' at' len' perm' what') x y ha hb same =
    let behind : List (List ℕ) = number len ∷ permission perm ∷ (backing_words what ++ x) in
    let behind' : List (List ℕ) = number len' ∷ permission perm' ∷ (backing_words what' ++ y) in
    let whole : codes "map" ∷ number space ∷ (place_words at ++ behind) ≡ codes "map" ∷ number space' ∷ (place_words at' ++ behind') =
    sym (map_words-append space len at perm what x) ∙ same ∙ map_words-append space' len' at' perm' what' y in
    let places = same_place at at' behind behind' ha.1 hb.1 (cc whole) in
    let spaces : space ≡ space' = same_space space space' ha.0 hb.0 (cc whole) in
    let lengths : len ≡ len' = number_injective len len' ha.2 hb.2 (cc (places.1)) in
    let perms : perm ≡ perm' = permission_injective perm perm' (cc (places.1)) in
    let backings = same_backing what what' x y ha.3 hb.3 (cc (places.1)) in
    record { calls = same_map space space' len len' at at' perm perm' what what' spaces places.0 lengths perms backings.0; rest = backings.1 }
one_map space len at perm what _ x y ha hb same = absurd (other_word (codes "map") _ _ _ refl same)

one_unmap : (space at len : ℕ) (b : Call) (x y : List (List ℕ)) → IsCall (call.Unmap space at len) → IsCall b → call_words (call.Unmap space at len) ++ x ≡ call_words b ++ y → SameCall (call.Unmap space at len) b x y
one_unmap space at len (call.Unmap space' at' len') x y ha hb same =
    let spaces : space ≡ space' = same_space space space' ha.0 hb.0 (cc) in
    let places : at ≡ at' = address_injective at at' ha.1 hb.1 (cc) in
    let lengths : len ≡ len' = number_injective len len' ha.2 hb.2 (cc) in
    record { calls = λ i. call.Unmap (spaces i) (places i) (lengths i); rest = cc }
one_unmap space at len _ x y ha hb same = absurd (other_word (codes "unmap") _ _ _ refl same)

one_protect : (space at len : ℕ) (perm : Perm) (b : Call) (x y : List (List ℕ)) → IsCall (call.Protect space at len perm) → IsCall b → call_words (call.Protect space at len perm) ++ x ≡ call_words b ++ y → SameCall (call.Protect space at len perm) b x y
one_protect space at len perm (call.Protect space' at' len' perm') x y ha hb same =
    let spaces : space ≡ space' = same_space space space' ha.0 hb.0 (cc) in
    let places : at ≡ at' = address_injective at at' ha.1 hb.1 (cc) in
    let lengths : len ≡ len' = number_injective len len' ha.2 hb.2 (cc) in
    let perms : perm ≡ perm' = permission_injective perm perm' (cc) in
    record { calls = λ i. call.Protect (spaces i) (places i) (lengths i) (perms i); rest = cc }
one_protect space at len perm _ x y ha hb same = absurd (other_word (codes "protect") _ _ _ refl same)

one_load : (space at len : ℕ) (b : Call) (x y : List (List ℕ)) → IsCall (call.Load space at len) → IsCall b → call_words (call.Load space at len) ++ x ≡ call_words b ++ y → SameCall (call.Load space at len) b x y
one_load space at len (call.Load space' at' len') x y ha hb same =
    let spaces : space ≡ space' = same_space space space' ha.0 hb.0 (cc) in
    let places : at ≡ at' = address_injective at at' ha.1 hb.1 (cc) in
    let lengths : len ≡ len' = same_number len len' 4096 ha.2.1 hb.2.1 (omega arith) (cc) in
    record { calls = λ i. call.Load (spaces i) (places i) (lengths i); rest = cc }
one_load space at len _ x y ha hb same = absurd (other_word (codes "load") _ _ _ refl same)

one_store : (space at : ℕ) (bytes : List ℕ) (b : Call) (x y : List (List ℕ)) → IsCall (call.Store space at bytes) → IsCall b → call_words (call.Store space at bytes) ++ x ≡ call_words b ++ y → SameCall (call.Store space at bytes) b x y
one_store space at bytes (call.Store space' at' bytes') x y ha hb same =
    let spaces : space ≡ space' = same_space space space' ha.0 hb.0 (cc) in
    let places : at ≡ at' = address_injective at at' ha.1 hb.1 (cc) in
    let all : bytes ≡ bytes' = hex_injective bytes bytes' ha.3 hb.3 (cc) in
    record { calls = λ i. call.Store (spaces i) (places i) (all i); rest = cc }
one_store space at bytes _ x y ha hb same = absurd (other_word (codes "store") _ _ _ refl same)

one_fault : (space at : ℕ) (write : Bool) (b : Call) (x y : List (List ℕ)) → IsCall (call.Fault space at write) → IsCall b → call_words (call.Fault space at write) ++ x ≡ call_words b ++ y → SameCall (call.Fault space at write) b x y
one_fault space at write (call.Fault space' at' write') x y ha hb same =
    let spaces : space ≡ space' = same_space space space' ha.0 hb.0 (cc) in
    let places : at ≡ at' = address_injective at at' ha.1 hb.1 (cc) in
    let accesses : write ≡ write' = access_word_injective write write' (cc) in
    record { calls = λ i. call.Fault (spaces i) (places i) (accesses i); rest = cc }
one_fault space at write _ x y ha hb same = absurd (other_word (codes "fault") _ _ _ refl same)

one_spawn : (b : Call) (x y : List (List ℕ)) → IsCall b → call_words call.Spawn ++ x ≡ call_words b ++ y → SameCall call.Spawn b x y
one_spawn call.Spawn x y hb same = record { calls = refl; rest = cc }
one_spawn _ x y hb same = absurd (other_word (codes "spawn") _ _ _ refl same)

one_fork : (space : ℕ) (b : Call) (x y : List (List ℕ)) → IsCall (call.Fork space) → IsCall b → call_words (call.Fork space) ++ x ≡ call_words b ++ y → SameCall (call.Fork space) b x y
one_fork space (call.Fork space') x y ha hb same =
    let spaces : space ≡ space' = same_space space space' ha hb (cc) in
    record { calls = ap call.Fork spaces; rest = cc }
one_fork space _ x y ha hb same = absurd (other_word (codes "fork") _ _ _ refl same)

one_exit : (space : ℕ) (b : Call) (x y : List (List ℕ)) → IsCall (call.Exit space) → IsCall b → call_words (call.Exit space) ++ x ≡ call_words b ++ y → SameCall (call.Exit space) b x y
one_exit space (call.Exit space') x y ha hb same =
    let spaces : space ≡ space' = same_space space space' ha hb (cc) in
    record { calls = ap call.Exit spaces; rest = cc }
one_exit space _ x y ha hb same = absurd (other_word (codes "exit") _ _ _ refl same)

one_out : (space at len : ℕ) (b : Call) (x y : List (List ℕ)) → IsCall (call.SwapOut space at len) → IsCall b → call_words (call.SwapOut space at len) ++ x ≡ call_words b ++ y → SameCall (call.SwapOut space at len) b x y
one_out space at len (call.SwapOut space' at' len') x y ha hb same =
    let spaces : space ≡ space' = same_space space space' ha.0 hb.0 (cc) in
    let places : at ≡ at' = address_injective at at' ha.1 hb.1 (cc) in
    let lengths : len ≡ len' = number_injective len len' ha.2 hb.2 (cc) in
    record { calls = λ i. call.SwapOut (spaces i) (places i) (lengths i); rest = cc }
one_out space at len _ x y ha hb same = absurd (other_word (codes "out") _ _ _ refl same)

one_in : (space at len : ℕ) (b : Call) (x y : List (List ℕ)) → IsCall (call.SwapIn space at len) → IsCall b → call_words (call.SwapIn space at len) ++ x ≡ call_words b ++ y → SameCall (call.SwapIn space at len) b x y
one_in space at len (call.SwapIn space' at' len') x y ha hb same =
    let spaces : space ≡ space' = same_space space space' ha.0 hb.0 (cc) in
    let places : at ≡ at' = address_injective at at' ha.1 hb.1 (cc) in
    let lengths : len ≡ len' = number_injective len len' ha.2 hb.2 (cc) in
    record { calls = λ i. call.SwapIn (spaces i) (places i) (lengths i); rest = cc }
one_in space at len _ x y ha hb same = absurd (other_word (codes "in") _ _ _ refl same)

one_dontneed : (space at len : ℕ) (b : Call) (x y : List (List ℕ)) → IsCall (call.DontNeed space at len) → IsCall b → call_words (call.DontNeed space at len) ++ x ≡ call_words b ++ y → SameCall (call.DontNeed space at len) b x y
one_dontneed space at len (call.DontNeed space' at' len') x y ha hb same =
    let spaces : space ≡ space' = same_space space space' ha.0 hb.0 (cc) in
    let places : at ≡ at' = address_injective at at' ha.1 hb.1 (cc) in
    let lengths : len ≡ len' = number_injective len len' ha.2 hb.2 (cc) in
    record { calls = λ i. call.DontNeed (spaces i) (places i) (lengths i); rest = cc }
one_dontneed space at len _ x y ha hb same = absurd (other_word (codes "dontneed") _ _ _ refl same)

one_remap : (space at old_len new_len : ℕ) (b : Call) (x y : List (List ℕ)) → IsCall (call.Remap space at old_len new_len) → IsCall b → call_words (call.Remap space at old_len new_len) ++ x ≡ call_words b ++ y
    → SameCall (call.Remap space at old_len new_len) b x y
one_remap space at old_len new_len (call.Remap space' at' old_len' new_len') x y ha hb same =
    let spaces : space ≡ space' = same_space space space' ha.0 hb.0 (cc) in
    let places : at ≡ at' = address_injective at at' ha.1 hb.1 (cc) in
    let old_lengths : old_len ≡ old_len' = number_injective old_len old_len' ha.2 hb.2 (cc) in
    let new_lengths : new_len ≡ new_len' = number_injective new_len new_len' ha.3 hb.3 (cc) in
    record { calls = λ i. call.Remap (spaces i) (places i) (old_lengths i) (new_lengths i); rest = cc }
one_remap space at old_len new_len _ x y ha hb same = absurd (other_word (codes "remap") _ _ _ refl same)

one_txn : (space at len : ℕ) (ops : List TxnOp) (b : Call) (x y : List (List ℕ)) → IsCall (call.Txn space at len ops) → IsCall b → IsNoMore x → EndsCall b y → call_words (call.Txn space at len ops) ++ x ≡ call_words b ++ y → SameCall (call.Txn space at len ops) b x y
one_txn space at len ops (call.Txn space' at' len' ops') x y ha hb ends_a ends_b same =
    let spaces : space ≡ space' = same_space space space' ha.0 hb.0 (cc) in
    let places : at ≡ at' = address_injective at at' ha.1 hb.1 (cc) in
    let lengths : len ≡ len' = number_injective len len' ha.2 hb.2 (cc) in
    let all = same_ops ops ops' x y ha.3 hb.3 ends_a ends_b (cc) in
    record { calls = λ i. call.Txn (spaces i) (places i) (lengths i) (all.0 i); rest = all.1 }
one_txn space at len ops _ x y ha hb ends_a ends_b same = absurd (other_word (codes "txn") _ _ _ refl same)

-- words begin with the words of one call at most
pub one_call : (a b : Call) (x y : List (List ℕ)) → IsCall a → IsCall b → EndsCall a x → EndsCall b y → call_words a ++ x ≡ call_words b ++ y → SameCall a b x y
one_call (call.Map space at len perm what) b x y ha hb ends_a ends_b same = one_map space len at perm what b x y ha hb same
one_call (call.Unmap space at len) b x y ha hb ends_a ends_b same = one_unmap space at len b x y ha hb same
one_call (call.Protect space at len perm) b x y ha hb ends_a ends_b same = one_protect space at len perm b x y ha hb same
one_call (call.Load space at len) b x y ha hb ends_a ends_b same = one_load space at len b x y ha hb same
one_call (call.Store space at bytes) b x y ha hb ends_a ends_b same = one_store space at bytes b x y ha hb same
one_call (call.Fault space at write) b x y ha hb ends_a ends_b same = one_fault space at write b x y ha hb same
one_call call.Spawn b x y ha hb ends_a ends_b same = one_spawn b x y hb same
one_call (call.Fork space) b x y ha hb ends_a ends_b same = one_fork space b x y ha hb same
one_call (call.Exit space) b x y ha hb ends_a ends_b same = one_exit space b x y ha hb same
one_call (call.SwapOut space at len) b x y ha hb ends_a ends_b same = one_out space at len b x y ha hb same
one_call (call.SwapIn space at len) b x y ha hb ends_a ends_b same = one_in space at len b x y ha hb same
one_call (call.Txn space at len ops) b x y ha hb ends_a ends_b same = one_txn space at len ops b x y ha hb ends_a ends_b same
one_call (call.DontNeed space at len) b x y ha hb ends_a ends_b same = one_dontneed space at len b x y ha hb same
one_call (call.Remap space at old_len new_len) b x y ha hb ends_a ends_b same = one_remap space at old_len new_len b x y ha hb same

-- a byte below the letters does not occur in a word of letters
pub HasNo_letters : (byte : ℕ) (bytes : List ℕ) → byte < 45 → list_all (λ b. ltb 96 b) bytes ≡ true → HasNo byte bytes
HasNo_letters byte [] low h = All-nil (λ b. b ≢ byte)
HasNo_letters byte (b ∷ bytes) low h =
    let parts = and_parts (ltb 96 b) (list_all (λ c. ltb 96 c) bytes) h in
    All-cons (λ c. c ≢ byte) b bytes (λ e. omega (arith, ltb-true 96 b parts.0)) (HasNo_letters byte bytes low parts.1)

pub length_word_has_no : (byte len : ℕ) → byte < 45 → len < 2 ^ 64 → HasNo byte (number len)
length_word_has_no byte len low h = HasNo-number byte len h (IsNoDigit-below byte (omega arith))

space_word_has_no : (byte space : ℕ) → byte < 45 → IsSpace space → HasNo byte (number space)
space_word_has_no byte space low h = length_word_has_no byte space low (omega arith)

address_word_has_no : (byte at : ℕ) → byte < 45 → at < 2 ^ 64 → HasNo byte (address at)
address_word_has_no byte at low h = HasNo-address byte at h (IsNoDigit-below byte (omega arith)) (λ e. omega arith)

access_word_has_no : (byte : ℕ) (write : Bool) → byte < 45 → HasNo byte (access_word write)
access_word_has_no byte true low = HasNo_letters byte (codes "w") low refl
access_word_has_no byte false low = HasNo_letters byte (codes "r") low refl

-- no word of a call has a space or a newline
module _ (byte : ℕ) (low : byte < 45) where
  abbrev P : List ℕ → Type 0
  P = HasNo byte

  record Clean (words : List (List ℕ)) : Type 0 where
    pub all : All P words

  one : (w : List ℕ) (ws : List (List ℕ)) → P w → Clean ws → Clean (w ∷ ws)
  one w ws h hs = record { all = All-cons P w ws h hs.all }

  none : Clean []
  none = record { all = All-nil P }

  both : (xs ys : List (List ℕ)) → Clean xs → Clean ys → Clean (xs ++ ys)
  both xs ys h g = record { all = All-append P xs ys h.all g.all }

  place_words_have_no : (at : MapPlace) → IsPlace at → Clean (place_words at)
  place_words_have_no place.Any h = one _ _ (HasNo_letters byte (codes "any") low refl) none
  place_words_have_no (place.At at) h = one _ _ (HasNo_letters byte (codes "at") low refl) (one _ _ (address_word_has_no byte at low h) none)
  place_words_have_no (place.New at) h = one _ _ (HasNo_letters byte (codes "new") low refl) (one _ _ (address_word_has_no byte at low h) none)

  backing_words_have_no : (what : Backing) → IsBacking what → Clean (backing_words what)
  backing_words_have_no backing.Zero h = one _ _ (HasNo_letters byte (codes "zero") low refl) none
  backing_words_have_no (backing.File file index) h =
      one _ _ (HasNo_letters byte (codes "file") low refl)
      (one _ _ (length_word_has_no byte file low (omega (arith, h.0.1))) (one _ _ (length_word_has_no byte index low h.1) none))

  range_words_have_no : (name : List ℕ) (space at len : ℕ) (ws : List (List ℕ)) → P name → IsSpace space → IsNumber at → len < 2 ^ 64 → Clean ws → Clean (name ∷ number space ∷ address at ∷ number len ∷ ws)
  range_words_have_no name space at len ws hn hs ha hl h =
      one _ _ hn (one _ _ (space_word_has_no byte space low hs) (one _ _ (address_word_has_no byte at low ha) (one _ _ (length_word_has_no byte len low hl) h)))

  fresh_word_has_no : (fresh : Bool) → P (fresh_word fresh)
  fresh_word_has_no true = HasNo_letters byte (codes "new") low refl
  fresh_word_has_no false = HasNo_letters byte (codes "at") low refl

  op_words_have_no : (o : TxnOp) → IsOp o → Clean (op_words o)
  op_words_have_no (op.Map at fresh len perm what) h =
      one _ _ (HasNo_letters byte (codes "map") low refl) (one _ _ (fresh_word_has_no fresh) (one _ _ (address_word_has_no byte at low h.0)
      (one _ _ (length_word_has_no byte len low h.1) (one _ _ (HasNo-permission byte perm low) (backing_words_have_no what h.2)))))
  op_words_have_no (op.Unmap at len) h =
      one _ _ (HasNo_letters byte (codes "unmap") low refl) (one _ _ (address_word_has_no byte at low h.0) (one _ _ (length_word_has_no byte len low h.1) none))
  op_words_have_no (op.Protect at len perm) h =
      one _ _ (HasNo_letters byte (codes "protect") low refl) (one _ _ (address_word_has_no byte at low h.0) (one _ _ (length_word_has_no byte len low h.1)
      (one _ _ (HasNo-permission byte perm low) none)))

  -- 59 is `;`
  semicolon_has_no : P (codes ";")
  semicolon_has_no = All-cons (λ b. b ≢ byte) 59 [] (λ e. omega arith) (All-nil (λ b. b ≢ byte))

  more_ops_words_have_no : (ops : List TxnOp) → All IsOp ops → Clean (more_ops_words ops)
  more_ops_words_have_no [] h = none
  more_ops_words_have_no (o ∷ ops) h =
      both (codes ";" ∷ op_words o) (more_ops_words ops) (one _ _ semicolon_has_no (op_words_have_no o (All-head IsOp o ops h))) (more_ops_words_have_no ops (All-tail IsOp o ops h))

  ops_words_have_no : (ops : List TxnOp) → All IsOp ops → Clean (ops_words ops)
  ops_words_have_no [] h = none
  ops_words_have_no (o ∷ ops) h = both (op_words o) (more_ops_words ops) (op_words_have_no o (All-head IsOp o ops h)) (more_ops_words_have_no ops (All-tail IsOp o ops h))

  words_have_no : (c : Call) → IsCall c → Clean (call_words c)
  words_have_no (call.Map space at len perm what) h =
      one _ _ (HasNo_letters byte (codes "map") low refl) (one _ _ (space_word_has_no byte space low h.0)
      (both (place_words at) (number len ∷ permission perm ∷ backing_words what) (place_words_have_no at h.1)
      (one _ _ (length_word_has_no byte len low h.2) (one _ _ (HasNo-permission byte perm low) (backing_words_have_no what h.3)))))
  words_have_no (call.Unmap space at len) h = range_words_have_no (codes "unmap") space at len [] (HasNo_letters byte (codes "unmap") low refl) h.0 h.1 h.2 none
  words_have_no (call.Protect space at len perm) h =
      range_words_have_no (codes "protect") space at len (permission perm ∷ []) (HasNo_letters byte (codes "protect") low refl) h.0 h.1 h.2 (one _ _ (HasNo-permission byte perm low) none)
  words_have_no (call.Load space at len) h = range_words_have_no (codes "load") space at len [] (HasNo_letters byte (codes "load") low refl) h.0 h.1 (omega (arith, h.2.1)) none
  words_have_no (call.Store space at bytes) h =
      one _ _ (HasNo_letters byte (codes "store") low refl) (one _ _ (space_word_has_no byte space low h.0) (one _ _ (address_word_has_no byte at low h.1)
      (one _ _ (HasNo-hex byte bytes h.3 (IsNoDigit-below byte (omega arith))) none)))
  words_have_no (call.Fault space at write) h =
      one _ _ (HasNo_letters byte (codes "fault") low refl) (one _ _ (space_word_has_no byte space low h.0) (one _ _ (address_word_has_no byte at low h.1)
      (one _ _ (access_word_has_no byte write low) none)))
  words_have_no call.Spawn h = one _ _ (HasNo_letters byte (codes "spawn") low refl) none
  words_have_no (call.Fork space) h = one _ _ (HasNo_letters byte (codes "fork") low refl) (one _ _ (space_word_has_no byte space low h) none)
  words_have_no (call.Exit space) h = one _ _ (HasNo_letters byte (codes "exit") low refl) (one _ _ (space_word_has_no byte space low h) none)
  words_have_no (call.SwapOut space at len) h = range_words_have_no (codes "out") space at len [] (HasNo_letters byte (codes "out") low refl) h.0 h.1 h.2 none
  words_have_no (call.SwapIn space at len) h = range_words_have_no (codes "in") space at len [] (HasNo_letters byte (codes "in") low refl) h.0 h.1 h.2 none
  words_have_no (call.DontNeed space at len) h = range_words_have_no (codes "dontneed") space at len [] (HasNo_letters byte (codes "dontneed") low refl) h.0 h.1 h.2 none
  words_have_no (call.Remap space at old_len new_len) h =
      range_words_have_no (codes "remap") space at old_len (number new_len ∷ []) (HasNo_letters byte (codes "remap") low refl) h.0 h.1 h.2 (one _ _ (length_word_has_no byte new_len low h.3) none)
  words_have_no (call.Txn space at len ops) h = range_words_have_no (codes "txn") space at len (ops_words ops) (HasNo_letters byte (codes "txn") low refl) h.0 h.1 h.2 (ops_words_have_no ops h.3.1)

pub call_words_have_no : (byte : ℕ) (c : Call) → byte < 45 → IsCall c → All (HasNo byte) (call_words c)
call_words_have_no byte c low h = (words_have_no byte low c h).all

pub call_words_some : (c : Call) → call_words c ≢ []
call_words_some c = λ none. no_words c [] (sym (append-nil (call_words c) ∙ none))

pub words_of-call_line : (c : Call) → IsCall c → words_of (call_line c) ≡ call_words c
words_of-call_line c h = words_of-joined (call_words c) (call_words_some c) (call_words_have_no 32 c (omega arith) h)

pub call_line_IsLine : (c : Call) → IsCall c → IsLine (call_line c)
call_line_IsLine c h = HasNo-joined 10 (call_words c) (λ e. cc) (call_words_have_no 10 c (omega arith) h)

-- what stands behind a call's words at the end, and before a word that is not `;`
pub ends_at_end : (c : Call) → EndsCall c []
ends_at_end (call.Txn space at len ops) = λ rest same. cc same
ends_at_end _ = tt

pub ends_before : (c : Call) (word : List ℕ) (words : List (List ℕ)) → word ≢ codes ";" → EndsCall c (word ∷ words)
ends_before (call.Txn space at len ops) word words other = λ rest same. other (cc same)
ends_before _ word words other = tt

pub call_line_injective : (a b : Call) → IsCall a → IsCall b → call_line a ≡ call_line b → a ≡ b
call_line_injective a b ha hb same =
    let words : call_words a ≡ call_words b = sym (words_of-call_line a ha) ∙ ap words_of same ∙ words_of-call_line b hb in
    (one_call a b [] [] ha hb (ends_at_end a) (ends_at_end b) (ap (λ ws. ws ++ []) words)).calls

-- A reader took the words of a call from the front of a line's words, or found none there; more are left behind them.
pub record HasTaken (read : Option Call) (line : List ℕ) (more : List (List ℕ)) : Type 0 where
  pub found : IfSome read (λ c. IsCall c × EndsCall c more × (words_of line ≡ call_words c ++ more))
  pub none : IfNone read ((c : Call) (rest : List (List ℕ)) → IsCall c → EndsCall c rest → words_of line ≢ call_words c ++ rest)

line_from_words : (line : List ℕ) (c : Call) → words_of line ≡ call_words c ++ [] → line ≡ call_line c
line_from_words line c are = sym (joined-words_of line) ∙ ap joined (are ∙ append-nil (call_words c))

words_from_line : (line : List ℕ) (c : Call) → IsCall c → line ≡ call_line c → words_of line ≡ call_words c ++ []
words_from_line line c h is = ap words_of is ∙ words_of-call_line c h ∙ sym (append-nil (call_words c))

pub found_whole : (read : Option Call) (line : List ℕ) (more : List (List ℕ)) → HasTaken read line more → more ≡ [] → IfSome read (λ c. IsCall c × (line ≡ call_line c))
found_whole None line more taken done = tt
found_whole (Some c) line more taken done = (taken.found.0, line_from_words line c (taken.found.2 ∙ ap (λ ws. call_words c ++ ws) done))

pub none_whole : (read : Option Call) (line : List ℕ) (more : List (List ℕ)) → HasTaken read line more → IfNone read ((c : Call) → IsCall c → line ≢ call_line c)
none_whole None line more taken = λ c h is. taken.none c [] h (ends_at_end c) (words_from_line line c h is)
none_whole (Some c) line more taken = tt

pub none_longer : (read : Option Call) (line : List ℕ) (more : List (List ℕ)) → HasTaken read line more → more ≢ [] → (c : Call) → IsCall c → line ≢ call_line c
none_longer None line more taken some = λ c h is. taken.none c [] h (ends_at_end c) (words_from_line line c h is)
none_longer (Some a) line more taken some =
    λ c h is. some (one_call a c more [] taken.found.0 h taken.found.1 (ends_at_end c) (sym taken.found.2 ∙ words_from_line line c h is)).rest
