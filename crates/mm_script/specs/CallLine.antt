-- The lines of calls.
--     call_words, call_line      the words of a call's line, and the line
--     op_words, ops_words      the words of an operation of a transaction, and of all of them
--     IsCall      the calls that have a line
--     IsNoMore, EndsCall      what can stand behind a call's words
use Rattle.std.specs.Prelude.{◌≢◌, ℕ, ◌<◌, ◌≤◌, ◌^◌, Bool, ⊤, List, [], ◌∷◌, ◌++◌, length, codes, All, if◌then◌else◌}
use Rattle.std.specs.List.{flat_map}
use Rattle.corten_base.specs.declared.calls.MapPlace.{MapPlace}
use Rattle.corten_base.specs.declared.calls.MapPlace.TheVariants as place
use Rattle.corten_base.specs.declared.calls.Backing.{Backing}
use Rattle.corten_base.specs.declared.calls.Backing.TheVariants as backing
use Rattle.corten_base.specs.declared.calls.TxnOp.{TxnOp}
use Rattle.corten_base.specs.declared.calls.TxnOp.TheVariants as op
use Rattle.corten_base.specs.declared.calls.Call.{Call}
use Rattle.corten_base.specs.declared.calls.Call.TheVariants as call
use Rattle.text_words.specs.Spelling.{number, address, hex, permission}
use Rattle.text_words.specs.Layout.{joined}

abbrev pub place_words : MapPlace → List (List ℕ)
place_words place.Any = codes "any" ∷ []
place_words (place.At at) = codes "at" ∷ address at ∷ []
place_words (place.New at) = codes "new" ∷ address at ∷ []

abbrev pub backing_words : Backing → List (List ℕ)
backing_words backing.Zero = codes "zero" ∷ []
backing_words (backing.File file index) = codes "file" ∷ number file ∷ number index ∷ []

-- whether a mapping replaces pages or needs an empty place
abbrev pub fresh_word : Bool → List ℕ
fresh_word fresh = if fresh then codes "new" else codes "at"

abbrev pub op_words : TxnOp → List (List ℕ)
op_words (op.Map at fresh len perm what) =
    codes "map" ∷ fresh_word fresh ∷ address at ∷ number len ∷ permission perm ∷ backing_words what
op_words (op.Unmap at len) = codes "unmap" ∷ address at ∷ number len ∷ []
op_words (op.Protect at len perm) = codes "protect" ∷ address at ∷ number len ∷ permission perm ∷ []

-- each operation behind the word `;`
abbrev pub more_ops_words : List TxnOp → List (List ℕ)
more_ops_words ops = flat_map (λ o. codes ";" ∷ op_words o) ops

-- the word `;` between two
abbrev pub ops_words : List TxnOp → List (List ℕ)
ops_words [] = []
ops_words (o ∷ ops) = op_words o ++ more_ops_words ops

-- what a touched page is touched for
abbrev pub access_word : Bool → List ℕ
access_word write = if write then codes "w" else codes "r"

abbrev pub call_words : Call → List (List ℕ)
call_words (call.Map space at len perm what) =
    codes "map" ∷ number space ∷ (place_words at ++ (number len ∷ permission perm ∷ backing_words what))
call_words (call.Unmap space at len) = codes "unmap" ∷ number space ∷ address at ∷ number len ∷ []
call_words (call.Protect space at len perm) = codes "protect" ∷ number space ∷ address at ∷ number len ∷ permission perm ∷ []
call_words (call.Load space at len) = codes "load" ∷ number space ∷ address at ∷ number len ∷ []
call_words (call.Store space at bytes) = codes "store" ∷ number space ∷ address at ∷ hex bytes ∷ []
call_words (call.Fault space at write) = codes "fault" ∷ number space ∷ address at ∷ access_word write ∷ []
call_words call.Spawn = codes "spawn" ∷ []
call_words (call.Fork space) = codes "fork" ∷ number space ∷ []
call_words (call.Exit space) = codes "exit" ∷ number space ∷ []
call_words (call.SwapOut space at len) = codes "out" ∷ number space ∷ address at ∷ number len ∷ []
call_words (call.SwapIn space at len) = codes "in" ∷ number space ∷ address at ∷ number len ∷ []
call_words (call.Txn space at len ops) = codes "txn" ∷ number space ∷ address at ∷ number len ∷ ops_words ops
call_words (call.DontNeed space at len) = codes "dontneed" ∷ number space ∷ address at ∷ number len ∷ []
call_words (call.Remap space at old_len new_len) = codes "remap" ∷ number space ∷ address at ∷ number old_len ∷ number new_len ∷ []

-- each word behind a space
abbrev pub spaced : List (List ℕ) → List ℕ
spaced words = flat_map (λ word. 32 ∷ word) words

abbrev pub call_line : Call → List ℕ
call_line c = joined (call_words c)

abbrev pub IsWithin : ℕ → ℕ → ℕ → Type 0
IsWithin low high n = (low ≤ n) × (n ≤ high)

abbrev pub IsSpace : ℕ → Type 0
IsSpace space = space < 64

-- addresses, lengths and the numbers of a file's pages
abbrev pub IsNumber : ℕ → Type 0
IsNumber n = n < 2 ^ 64

abbrev pub IsPlace : MapPlace → Type 0
IsPlace place.Any = ⊤
IsPlace (place.At at) = IsNumber at
IsPlace (place.New at) = IsNumber at

abbrev pub IsBacking : Backing → Type 0
IsBacking backing.Zero = ⊤
IsBacking (backing.File file index) = IsWithin 0 15 file × IsNumber index

-- the number of bytes of a load or a store
abbrev pub IsAccess : ℕ → Type 0
IsAccess bytes = IsWithin 1 4096 bytes

abbrev pub IsOp : TxnOp → Type 0
IsOp (op.Map at fresh len perm what) = IsNumber at × IsNumber len × IsBacking what
IsOp (op.Unmap at len) = IsNumber at × IsNumber len
IsOp (op.Protect at len perm) = IsNumber at × IsNumber len

-- the operations of a transaction
abbrev pub AreOps : List TxnOp → Type 0
AreOps ops = IsWithin 1 16 (length ops) × All IsOp ops

abbrev pub IsCall : Call → Type 0
IsCall (call.Map space at len perm what) = IsSpace space × IsPlace at × IsNumber len × IsBacking what
IsCall (call.Unmap space at len) = IsSpace space × IsNumber at × IsNumber len
IsCall (call.Protect space at len perm) = IsSpace space × IsNumber at × IsNumber len
IsCall (call.Load space at len) = IsSpace space × IsNumber at × IsAccess len
IsCall (call.Store space at bytes) = IsSpace space × IsNumber at × IsAccess (length bytes) × All (λ b. b < 256) bytes
IsCall (call.Fault space at write) = IsSpace space × IsNumber at
IsCall call.Spawn = ⊤
IsCall (call.Fork space) = IsSpace space
IsCall (call.Exit space) = IsSpace space
IsCall (call.SwapOut space at len) = IsSpace space × IsNumber at × IsNumber len
IsCall (call.SwapIn space at len) = IsSpace space × IsNumber at × IsNumber len
IsCall (call.Txn space at len ops) = IsSpace space × IsNumber at × IsNumber len × AreOps ops
IsCall (call.DontNeed space at len) = IsSpace space × IsNumber at × IsNumber len
IsCall (call.Remap space at old_len new_len) = IsSpace space × IsNumber at × IsNumber old_len × IsNumber new_len

-- words that do not go on with a further operation
abbrev pub IsNoMore : List (List ℕ) → Type 0
IsNoMore words = (rest : List (List ℕ)) → words ≢ codes ";" ∷ rest

-- a transaction has all operations that stand there
abbrev pub EndsCall : Call → List (List ℕ) → Type 0
EndsCall (call.Txn space at len ops) rest = IsNoMore rest
EndsCall _ rest = ⊤
