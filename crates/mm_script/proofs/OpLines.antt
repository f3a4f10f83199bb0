-- Operations of a transaction, printed one after another.
use Rattle.std.proofs.Common.{◌≡◌, ℕ, ◌+◌, ◌<◌, List, [], ◌∷◌, ◌++◌, take, drop, length, get_or, codes, refl, sym, ap, ◌∙◌}
use Rattle.std.specs.Prelude.{Result, Ok, Err, OnOk, OnErr}
use Rattle.std.proofs.Math.Seq.{take-append_seam}
use Rattle.std.proofs.lemmas.List.{append-nil, append_assoc, take_more, take-append-drop}
use Rattle.corten_base.specs.declared.calls.TxnOp.{TxnOp}
use Rattle.corten_base.specs.declared.calls.TxnOp.TheVariants as op
use Rattle.text_words.specs.Spelling.{number, address, permission}
use Rattle.text_words.specs.Layout.{joined}
use Rattle.mm_script.specs.CallLine.{backing_words, fresh_word, op_words, more_ops_words, spaced}

-- joined words are a first one and the others, each behind a space
pub joined_spaced : (word : List ℕ) (words : List (List ℕ)) → joined (word ∷ words) ≡ word ++ spaced words
joined_spaced word [] = sym (append-nil word)
joined_spaced word (next ∷ words) = ap (λ bs. word ++ 32 ∷ bs) (joined_spaced next words)

pub spaced-append : (xs ys : List (List ℕ)) → spaced (xs ++ ys) ≡ spaced xs ++ spaced ys
spaced-append [] ys = refl
spaced-append (x ∷ xs) ys = ap (λ bs. (32 ∷ x) ++ bs) (spaced-append xs ys) ∙ sym (append_assoc (32 ∷ x) (spaced xs) (spaced ys))

pub joined_more : (word : List ℕ) (xs ys : List (List ℕ)) → joined (word ∷ (xs ++ ys)) ≡ joined (word ∷ xs) ++ spaced ys
joined_more word xs ys =
    joined_spaced word (xs ++ ys) ∙ ap (λ bs. word ++ bs) (spaced-append xs ys) ∙ sym (append_assoc word (spaced xs) (spaced ys)) ∙ ap (λ bs. bs ++ spaced ys) (sym (joined_spaced word xs))

pub op_spaced : (o : TxnOp) → 32 ∷ joined (op_words o) ≡ spaced (op_words o)
op_spaced (op.Map at fresh len perm what) = ap (λ bs. 32 ∷ bs) (joined_spaced (codes "map") (fresh_word fresh ∷ address at ∷ number len ∷ permission perm ∷ backing_words what))
op_spaced (op.Unmap at len) = ap (λ bs. 32 ∷ bs) (joined_spaced (codes "unmap") (address at ∷ number len ∷ []))
op_spaced (op.Protect at len perm) = ap (λ bs. 32 ∷ bs) (joined_spaced (codes "protect") (address at ∷ number len ∷ permission perm ∷ []))

more_ops-push : (ops : List TxnOp) (o : TxnOp) → more_ops_words (ops ++ o ∷ []) ≡ more_ops_words ops ++ codes ";" ∷ op_words o
more_ops-push [] o = append-nil (codes ";" ∷ op_words o)
more_ops-push (p ∷ ops) o = ap (λ ws. (codes ";" ∷ op_words p) ++ ws) (more_ops-push ops o) ∙ sym (append_assoc (codes ";" ∷ op_words p) (more_ops_words ops) (codes ";" ∷ op_words o))

-- one more operation is printed
pub printed_op : (front out : List ℕ) (ops : List TxnOp) (o : TxnOp) → out ≡ front ++ spaced (more_ops_words ops) → (out ++ 32 ∷ joined (codes ";" ∷ [])) ++ 32 ∷ joined (op_words o) ≡ front ++ spaced (more_ops_words (ops ++ o ∷ []))
printed_op front out ops o so_far =
    append_assoc out (32 ∷ joined (codes ";" ∷ [])) (32 ∷ joined (op_words o))
    ∙ ap (λ bs. bs ++ ((32 ∷ joined (codes ";" ∷ [])) ++ 32 ∷ joined (op_words o))) so_far
    ∙ append_assoc front (spaced (more_ops_words ops)) ((32 ∷ joined (codes ";" ∷ [])) ++ 32 ∷ joined (op_words o))
    ∙ ap (λ bs. front ++ (spaced (more_ops_words ops) ++ ((32 ∷ joined (codes ";" ∷ [])) ++ bs))) (op_spaced o)
    ∙ ap (λ bs. front ++ bs) (sym (spaced-append (more_ops_words ops) (codes ";" ∷ op_words o)) ∙ ap spaced (sym (more_ops-push ops o)))

-- the operations are printed behind a first word and others
pub printed_behind : (front out new word : List ℕ) (words more : List (List ℕ)) → out ≡ front ++ joined (word ∷ words) → new ≡ out ++ spaced more → new ≡ front ++ joined (word ∷ (words ++ more))
printed_behind front out new word words more first then =
    then ∙ ap (λ bs. bs ++ spaced more) first ∙ append_assoc front (joined (word ∷ words)) (spaced more) ∙ ap (λ bs. front ++ bs) (sym (joined_more word words more))

-- the front stays where what stands behind it was cut off
pub front_stays : (front more out new : List ℕ) → out ≡ front ++ more → take (length out) new ≡ out → take (length front) new ≡ front
front_stays front more out new is stays =
    ap (take (length front)) (sym (take-append-drop (length out) new) ∙ ap (λ bs. bs ++ drop (length out) new) (stays ∙ is) ∙ append_assoc front more (drop (length out) new))
    ∙ take-append_seam front (more ++ drop (length out) new)

pub printed_next_op : (front out between new : List ℕ) (ops : List TxnOp) (i : ℕ) (d : TxnOp) → i < length ops → out ≡ front ++ spaced (more_ops_words (take i ops)) → between ≡ out ++ 32 ∷ joined (codes ";" ∷ []) → new ≡ between ++ 32 ∷ joined (op_words (get_or ops i d)) → new ≡ front ++ spaced (more_ops_words (take (i + 1) ops))
printed_next_op front out between new ops i d inside so_far first then =
    then
    ∙ ap (λ bs. bs ++ 32 ∷ joined (op_words (get_or ops i d))) first
    ∙ printed_op front out (take i ops) (get_or ops i d) so_far
    ∙ ap (λ os. front ++ spaced (more_ops_words os)) (sym (take_more ops i d inside))

-- what holds in any case holds where a call succeeds or fails
pub on_ok_from : (A E : Type 0) (r : Result A E) (P Q : Type 0) → (P → Q) → OnOk r P → OnOk r Q
on_ok_from A E (Ok x) P Q so h = so h
on_ok_from A E (Err e) P Q so h = tt

pub on_err_from : (A E : Type 0) (r : Result A E) (P Q : Type 0) → (P → Q) → OnErr r P → OnErr r Q
on_err_from A E (Ok x) P Q so h = tt
on_err_from A E (Err e) P Q so h = so h

pub on_err : (A E : Type 0) (r : Result A E) (P : Type 0) → P → OnErr r P
on_err A E (Ok x) P h = tt
on_err A E (Err e) P h = h
