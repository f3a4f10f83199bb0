-- Words begin with the words of one list of operations at most.
use Rattle.std.proofs.Common.{◌≡◌, ◌≢◌, ℕ, ◌+◌, ◌<◌, ◌≤◌, Bool, true, false, List, [], ◌∷◌, ◌++◌, length, codes, refl, sym, ap, subst, ◌∙◌, arith}
use Rattle.std.specs.List.{All}
use Rattle.std.proofs.lemmas.List.{append_assoc, append-nil, length-append}
use Rattle.std.proofs.lemmas.List.Elements.{All-head, All-tail, All-push}
use Rattle.corten_base.specs.declared.permissions.Perm.{Perm}
use Rattle.corten_base.specs.declared.calls.Backing.{Backing}
use Rattle.corten_base.specs.declared.calls.TxnOp.{TxnOp}
use Rattle.corten_base.specs.declared.calls.TxnOp.TheVariants as op
use Rattle.text_words.specs.Spelling.{number, address, permission}
use Rattle.text_words.proofs.OneValue.{number_injective, address_injective, permission_injective}
use Rattle.mm_script.specs.declared.op_names.OpName.{OpName}
use Rattle.mm_script.specs.declared.op_names.OpName.TheVariants as name
use Rattle.mm_script.specs.CallNames.{op_name_word}
use Rattle.mm_script.specs.CallLine.{backing_words, fresh_word, op_words, more_ops_words, ops_words, IsNumber, IsBacking, IsOp, AreOps, IsNoMore}
use Rattle.mm_script.proofs.CallForms.{other_word}
use Rattle.mm_script.proofs.OneArgument.{same_backing}

fresh_word_injective : (a b : Bool) → fresh_word a ≡ fresh_word b → a ≡ b
fresh_word_injective true true same = refl
fresh_word_injective false false same = refl
fresh_word_injective true false same = absurd (other_word (codes "new") (codes "at") [] [] refl (ap (λ w. w ∷ []) same))
fresh_word_injective false true same = absurd (other_word (codes "at") (codes "new") [] [] refl (ap (λ w. w ∷ []) same))

same_map : (at at' len len' : ℕ) (fresh fresh' : Bool) (perm perm' : Perm) (what what' : Backing) → at ≡ at' → fresh ≡ fresh' → len ≡ len' → perm ≡ perm' → what ≡ what' → op.Map at fresh len perm what ≡ op.Map at' fresh' len' perm' what'
same_map at at' len len' fresh fresh' perm perm' what what' a f l p w = λ i. op.Map (a i) (f i) (l i) (p i) (w i)

-- the same operation, and the same words behind it
pub one_op : (a b : TxnOp) (x y : List (List ℕ)) → IsOp a → IsOp b → op_words a ++ x ≡ op_words b ++ y → (a ≡ b) × (x ≡ y)
one_op (op.Map at fresh len perm what) (op.Map at' fresh' len' perm' what') x y ha hb same =
    let places : at ≡ at' = address_injective at at' ha.0 hb.0 (cc) in
    let freshes : fresh ≡ fresh' = fresh_word_injective fresh fresh' (cc) in
    let lengths : len ≡ len' = number_injective len len' ha.1 hb.1 (cc) in
    let perms : perm ≡ perm' = permission_injective perm perm' (cc) in
    let backings = same_backing what what' x y ha.2 hb.2 (cc) in
    (same_map at at' len len' fresh fresh' perm perm' what what' places freshes lengths perms backings.0, backings.1)
one_op (op.Unmap at len) (op.Unmap at' len') x y ha hb same =
    let places : at ≡ at' = address_injective at at' ha.0 hb.0 (cc) in
    let lengths : len ≡ len' = number_injective len len' ha.1 hb.1 (cc) in
    (λ i. op.Unmap (places i) (lengths i), cc)
one_op (op.Protect at len perm) (op.Protect at' len' perm') x y ha hb same =
    let places : at ≡ at' = address_injective at at' ha.0 hb.0 (cc) in
    let lengths : len ≡ len' = number_injective len len' ha.1 hb.1 (cc) in
    let perms : perm ≡ perm' = permission_injective perm perm' (cc) in
    (λ i. op.Protect (places i) (lengths i) (perms i), cc)
one_op (op.Map at fresh len perm what) _ x y ha hb same = absurd (other_word (codes "map") _ _ _ refl same)
one_op (op.Unmap at len) _ x y ha hb same = absurd (other_word (codes "unmap") _ _ _ refl same)
one_op (op.Protect at len perm) _ x y ha hb same = absurd (other_word (codes "protect") _ _ _ refl same)

-- words in which no arguments of an operation stand behind its name
pub no_map_op : (words : List (List ℕ))
    → ((at len : ℕ) (fresh : Bool) (perm : Perm) (what : Backing) (rest : List (List ℕ)) → IsNumber at → IsNumber len → IsBacking what → words ≢ fresh_word fresh ∷ address at ∷ number len ∷ permission perm ∷ (backing_words what ++ rest))
    → (o : TxnOp) (rest : List (List ℕ)) → IsOp o → codes "map" ∷ words ≢ op_words o ++ rest
no_map_op words none (op.Map at fresh len perm what) rest h are = none at len fresh perm what rest h.0 h.1 h.2 (cc)
no_map_op words none _ rest h are = other_word (codes "map") _ _ _ refl are

pub no_unmap_op : (words : List (List ℕ)) → ((at len : ℕ) (rest : List (List ℕ)) → IsNumber at → IsNumber len → words ≢ address at ∷ number len ∷ rest) → (o : TxnOp) (rest : List (List ℕ)) → IsOp o → codes "unmap" ∷ words ≢ op_words o ++ rest
no_unmap_op words none (op.Unmap at len) rest h are = none at len rest h.0 h.1 (cc)
no_unmap_op words none _ rest h are = other_word (codes "unmap") _ _ _ refl are

pub no_protect_op : (words : List (List ℕ))
    → ((at len : ℕ) (perm : Perm) (rest : List (List ℕ)) → IsNumber at → IsNumber len → words ≢ address at ∷ number len ∷ permission perm ∷ rest)
    → (o : TxnOp) (rest : List (List ℕ)) → IsOp o → codes "protect" ∷ words ≢ op_words o ++ rest
no_protect_op words none (op.Protect at len perm) rest h are = none at len perm rest h.0 h.1 (cc)
no_protect_op words none _ rest h are = other_word (codes "protect") _ _ _ refl are

pub no_op_name : (word : List ℕ) (words : List (List ℕ)) → ((n : OpName) → word ≢ op_name_word n) → (o : TxnOp) (rest : List (List ℕ)) → word ∷ words ≢ op_words o ++ rest
no_op_name word words none (op.Map at fresh len perm what) rest are = none name.Map (cc)
no_op_name word words none (op.Unmap at len) rest are = none name.Unmap (cc)
no_op_name word words none (op.Protect at len perm) rest are = none name.Protect (cc)

pub no_op_words : (o : TxnOp) (rest : List (List ℕ)) → [] ≢ op_words o ++ rest
no_op_words (op.Map at fresh len perm what) rest are = cc
no_op_words (op.Unmap at len) rest are = cc
no_op_words (op.Protect at len perm) rest are = cc

-- the words of an operation behind others, and what follows them
more_ops : (o : TxnOp) (ops : List TxnOp) (rest : List (List ℕ)) → more_ops_words (o ∷ ops) ++ rest ≡ codes ";" ∷ (op_words o ++ (more_ops_words ops ++ rest))
more_ops o ops rest = append_assoc (codes ";" ∷ op_words o) (more_ops_words ops) rest

pub first_op : (o : TxnOp) (ops : List TxnOp) (rest : List (List ℕ)) → ops_words (o ∷ ops) ++ rest ≡ op_words o ++ (more_ops_words ops ++ rest)
first_op o ops rest = append_assoc (op_words o) (more_ops_words ops) rest

-- operations that begin with these, where all that stand there are taken
pub record GoesOn (xs ys : List TxnOp) (words rest : List (List ℕ)) : Type 0 where
  pub more : List TxnOp
  pub are : ys ≡ xs ++ more
  pub words_are : words ≡ more_ops_words more ++ rest

one_front : (a b : TxnOp) (xs ys : List TxnOp) (words rest : List (List ℕ)) → a ≡ b → GoesOn xs ys words rest → GoesOn (a ∷ xs) (b ∷ ys) words rest
one_front a b xs ys words rest same on = record { more = on.more; are = ap (λ o. o ∷ ys) (sym same) ∙ ap (λ os. a ∷ os) on.are; words_are = on.words_are }

more_go_on : (xs ys : List TxnOp) (words rest : List (List ℕ)) → All IsOp xs → All IsOp ys → IsNoMore rest → more_ops_words xs ++ words ≡ more_ops_words ys ++ rest → GoesOn xs ys words rest
more_go_on [] ys words rest hx hy ends same = record { more = ys; are = refl; words_are = same }
more_go_on (x ∷ xs) [] words rest hx hy ends same = absurd (ends (op_words x ++ (more_ops_words xs ++ words)) (sym same ∙ more_ops x xs words))
more_go_on (x ∷ xs) (y ∷ ys) words rest hx hy ends same =
    let whole : codes ";" ∷ (op_words x ++ (more_ops_words xs ++ words)) ≡ codes ";" ∷ (op_words y ++ (more_ops_words ys ++ rest)) = sym (more_ops x xs words) ∙ same ∙ more_ops y ys rest in
    let one = one_op x y (more_ops_words xs ++ words) (more_ops_words ys ++ rest) (All-head IsOp x xs hx) (All-head IsOp y ys hy) (cc whole) in
    one_front x y xs ys words rest one.0 (more_go_on xs ys words rest (All-tail IsOp x xs hx) (All-tail IsOp y ys hy) ends one.1)

pub ops_go_on : (xs ys : List TxnOp) (words rest : List (List ℕ)) → AreOps xs → AreOps ys → IsNoMore rest → ops_words xs ++ words ≡ ops_words ys ++ rest → GoesOn xs ys words rest
ops_go_on [] ys words rest hx hy ends same = absurd (omega (arith, hx.0.0))
ops_go_on (x ∷ xs) [] words rest hx hy ends same = absurd (omega (arith, hy.0.0))
ops_go_on (x ∷ xs) (y ∷ ys) words rest hx hy ends same =
    let whole : op_words x ++ (more_ops_words xs ++ words) ≡ op_words y ++ (more_ops_words ys ++ rest) = sym (first_op x xs words) ∙ same ∙ first_op y ys rest in
    let one = one_op x y (more_ops_words xs ++ words) (more_ops_words ys ++ rest) (All-head IsOp x xs hx.1) (All-head IsOp y ys hy.1) whole in
    one_front x y xs ys words rest one.0 (more_go_on xs ys words rest (All-tail IsOp x xs hx.1) (All-tail IsOp y ys hy.1) ends one.1)

-- the same operations, and the same words behind them
pub same_ops : (xs ys : List TxnOp) (words rest : List (List ℕ)) → AreOps xs → AreOps ys → IsNoMore words → IsNoMore rest → ops_words xs ++ words ≡ ops_words ys ++ rest → (xs ≡ ys) × (words ≡ rest)
same_ops xs ys words rest hx hy ends_words ends_rest same = let on = ops_go_on xs ys words rest hx hy ends_rest same in none_more on.more on.are on.words_are
  where
    none_more : (more : List TxnOp) → ys ≡ xs ++ more → words ≡ more_ops_words more ++ rest → (xs ≡ ys) × (words ≡ rest)
    none_more [] are words_are = (sym (are ∙ append-nil xs), words_are)
    none_more (o ∷ more) are words_are = absurd (ends_words (op_words o ++ (more_ops_words more ++ rest)) (words_are ∙ more_ops o more rest))

All-behind : (xs ys : List TxnOp) → All IsOp (xs ++ ys) → All IsOp ys
All-behind [] ys h = h
All-behind (x ∷ xs) ys h = All-behind xs ys (All-tail IsOp x (xs ++ ys) h)

-- a further operation that can't be one
pub no_further : (xs ys : List TxnOp) (words rest : List (List ℕ)) → AreOps xs → AreOps ys → IsNoMore rest → (length xs < 16 → (o : TxnOp) (more : List (List ℕ)) → IsOp o → words ≢ op_words o ++ more) → ops_words xs ++ codes ";" ∷ words ≢ ops_words ys ++ rest
no_further xs ys words rest hx hy ends none same = let on = ops_go_on xs ys (codes ";" ∷ words) rest hx hy ends same in some_more on.more on.are on.words_are
  where
    some_more : (more : List TxnOp) → ys ≡ xs ++ more → codes ";" ∷ words ≡ more_ops_words more ++ rest → ⊥
    some_more [] are words_are = ends words (sym words_are)
    some_more (o ∷ more) are words_are =
        let whole : codes ";" ∷ words ≡ codes ";" ∷ (op_words o ++ (more_ops_words more ++ rest)) = words_are ∙ more_ops o more rest in
        let behind : All IsOp (o ∷ more) = All-behind xs (o ∷ more) (subst (All IsOp) are hy.1) in
        let count : length ys ≡ length xs + length (o ∷ more) = ap length are ∙ length-append xs (o ∷ more) in
        none (omega (arith, count, hy.0.1)) o (more_ops_words more ++ rest) (All-head IsOp o more behind) (cc whole)

-- no first operation
pub no_first : (ys : List TxnOp) (words rest : List (List ℕ)) → AreOps ys → ((o : TxnOp) (more : List (List ℕ)) → IsOp o → words ≢ op_words o ++ more) → words ≢ ops_words ys ++ rest
no_first [] words rest hy none same = absurd (omega (arith, hy.0.0))
no_first (y ∷ ys) words rest hy none same = none y (more_ops_words ys ++ rest) (All-head IsOp y ys hy.1) (same ∙ first_op y ys rest)

-- one more operation behind others
pub ops_push : (ops : List TxnOp) (o : TxnOp) → 1 ≤ length ops → ops_words (ops ++ o ∷ []) ≡ ops_words ops ++ codes ";" ∷ op_words o
ops_push [] o some = absurd (omega arith)
ops_push (p ∷ ops) o some =
    ap (λ ws. op_words p ++ ws) (flat_map-push ops o) ∙ sym (append_assoc (op_words p) (more_ops_words ops) (codes ";" ∷ op_words o))
  where
    flat_map-push : (ops : List TxnOp) (o : TxnOp) → more_ops_words (ops ++ o ∷ []) ≡ more_ops_words ops ++ codes ";" ∷ op_words o
    flat_map-push [] o = append-nil (codes ";" ∷ op_words o)
    flat_map-push (p ∷ ops) o = ap (λ ws. (codes ";" ∷ op_words p) ++ ws) (flat_map-push ops o) ∙ sym (append_assoc (codes ";" ∷ op_words p) (more_ops_words ops) (codes ";" ∷ op_words o))

-- one more operation behind others is read
pub one_more : (words behind rest : List (List ℕ)) (ops : List TxnOp) (o : TxnOp) → 1 ≤ length ops → words ≡ ops_words ops ++ codes ";" ∷ behind → behind ≡ op_words o ++ rest → words ≡ ops_words (ops ++ o ∷ []) ++ rest
one_more words behind rest ops o some first then =
    first ∙ ap (λ ws. ops_words ops ++ codes ";" ∷ ws) then ∙ sym (append_assoc (ops_words ops) (codes ";" ∷ op_words o) rest) ∙ ap (λ ws. ws ++ rest) (sym (ops_push ops o some))

pub AreOps-push : (ops : List TxnOp) (o : TxnOp) → AreOps ops → length ops < 16 → IsOp o → AreOps (ops ++ o ∷ [])
AreOps-push ops o h room is_op =
    let count : length (ops ++ o ∷ []) ≡ length ops + 1 = length-append ops (o ∷ []) in
    ((omega (arith, count), omega (arith, count, room)), All-push IsOp ops o h.1 is_op)
