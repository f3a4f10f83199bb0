-- A reply's words are those of one reply, and no word of a reply has a space or a newline.
use Rattle.std.proofs.Common.{◌≡◌, ℕ, ◌<◌, ◌^◌, List, [], ◌∷◌, ◌++◌, codes, refl, sym, ap, subst, arith}
use Rattle.std.specs.List.{All}
use Rattle.std.proofs.lemmas.List.Elements.{All-nil, All-cons}
use Rattle.corten_base.specs.declared.calls.Reply.{Reply}
use Rattle.corten_base.specs.declared.calls.Reply.TheVariants as reply
use Rattle.corten_base.specs.declared.calls.Why.{Why}
use Rattle.corten_base.specs.declared.calls.Why.TheVariants as why
use Rattle.text_words.specs.Layout.{HasNo}
use Rattle.text_words.specs.Spelling.{number, address, hex}
use Rattle.text_words.proofs.OneValue.{number_injective, address_injective, hex_injective}
use Rattle.text_words.proofs.SpelledBytes.{IsNoDigit-below, HasNo-number, HasNo-address, HasNo-hex}
use Rattle.mm_script.proofs.CallForms.{other_word}
use Rattle.mm_script.proofs.OneCall.{HasNo_letters}
use Rattle.history_lines.specs.declared.reply_names.ReplyName.{ReplyName}
use Rattle.history_lines.specs.declared.reply_names.ReplyName.TheVariants as name
use Rattle.history_lines.specs.Replies.{reply_words, why_words, IsReply, IsWhy, IsCount}
use Rattle.history_lines.specs.ReplyNames.{name_word}
use Rattle.history_lines.proofs.Names.{name_of, words_behind, words_are, same_name, same_behind}

-- the same reply, and the same words behind it
pub record SameReply (a b : Reply) (x y : List (List ℕ)) : Type 0 where
  pub replies : a ≡ b
  pub rest : x ≡ y

same_count : (m n : ℕ) → IsCount m → IsCount n → number m ≡ number n → m ≡ n
same_count m n hm hn same = number_injective m n (omega arith) (omega arith) same

-- why an operation was refused
record SameWhy (a b : Why) (x y : List (List ℕ)) : Type 0 where
  reasons : a ≡ b
  rest : x ≡ y

one_why : (a b : Why) (x y : List (List ℕ)) → IsWhy a → IsWhy b → why_words a ++ x ≡ why_words b ++ y → SameWhy a b x y
one_why why.Einval why.Einval x y ha hb same = record { reasons = refl; rest = cc }
one_why (why.Exists at) (why.Exists at') x y ha hb same = let places : at ≡ at' = address_injective at at' ha hb (cc) in record { reasons = ap why.Exists places; rest = cc }
one_why (why.Hole at) (why.Hole at') x y ha hb same = let places : at ≡ at' = address_injective at at' ha hb (cc) in record { reasons = ap why.Hole places; rest = cc }
one_why why.Einval (why.Exists at') x y ha hb same = absurd (other_word (codes "einval") (codes "exists") _ _ refl same)
one_why why.Einval (why.Hole at') x y ha hb same = absurd (other_word (codes "einval") (codes "hole") _ _ refl same)
one_why (why.Exists at) why.Einval x y ha hb same = absurd (other_word (codes "exists") (codes "einval") _ _ refl same)
one_why (why.Exists at) (why.Hole at') x y ha hb same = absurd (other_word (codes "exists") (codes "hole") _ _ refl same)
one_why (why.Hole at) why.Einval x y ha hb same = absurd (other_word (codes "hole") (codes "einval") _ _ refl same)
one_why (why.Hole at) (why.Exists at') x y ha hb same = absurd (other_word (codes "hole") (codes "exists") _ _ refl same)

-- a reply of the same name, with the same words behind the name
one_ok : (b : Reply) (x y : List (List ℕ)) → IsReply reply.Ok → IsReply b → name.Ok ≡ name_of b → words_behind reply.Ok ++ x ≡ words_behind b ++ y → SameReply reply.Ok b x y
one_ok reply.Ok x y ha hb names same = record { replies = refl; rest = same }
one_ok _ x y ha hb names same = absurd (cc names)

one_at : (at : ℕ) (b : Reply) (x y : List (List ℕ)) → IsReply (reply.At at) → IsReply b → name.At ≡ name_of b → words_behind (reply.At at) ++ x ≡ words_behind b ++ y → SameReply (reply.At at) b x y
one_at at (reply.At at') x y ha hb names same =
    let same_at : at ≡ at' = address_injective at at' ha hb (cc) in
    record { replies = λ i. reply.At (same_at i); rest = cc }
one_at at _ x y ha hb names same = absurd (cc names)

one_bytes : (bytes : List ℕ) (b : Reply) (x y : List (List ℕ)) → IsReply (reply.Bytes bytes) → IsReply b → name.Bytes ≡ name_of b → words_behind (reply.Bytes bytes) ++ x ≡ words_behind b ++ y → SameReply (reply.Bytes bytes) b x y
one_bytes bytes (reply.Bytes bytes') x y ha hb names same =
    let same_bytes : bytes ≡ bytes' = hex_injective bytes bytes' ha.1 hb.1 (cc) in
    record { replies = λ i. reply.Bytes (same_bytes i); rest = cc }
one_bytes bytes _ x y ha hb names same = absurd (cc names)

one_space : (space : ℕ) (b : Reply) (x y : List (List ℕ)) → IsReply (reply.Space space) → IsReply b → name.Space ≡ name_of b → words_behind (reply.Space space) ++ x ≡ words_behind b ++ y → SameReply (reply.Space space) b x y
one_space space (reply.Space space') x y ha hb names same =
    let same_space : space ≡ space' = number_injective space space' (omega (arith, ha)) (omega (arith, hb)) (cc) in
    record { replies = λ i. reply.Space (same_space i); rest = cc }
one_space space _ x y ha hb names same = absurd (cc names)

one_moved : (pages : ℕ) (b : Reply) (x y : List (List ℕ)) → IsReply (reply.Moved pages) → IsReply b → name.Moved ≡ name_of b → words_behind (reply.Moved pages) ++ x ≡ words_behind b ++ y → SameReply (reply.Moved pages) b x y
one_moved pages (reply.Moved pages') x y ha hb names same =
    let same_pages : pages ≡ pages' = same_count pages pages' ha hb (cc) in
    record { replies = λ i. reply.Moved (same_pages i); rest = cc }
one_moved pages _ x y ha hb names same = absurd (cc names)

one_done : (b : Reply) (x y : List (List ℕ)) → IsReply reply.Done → IsReply b → name.Done ≡ name_of b → words_behind reply.Done ++ x ≡ words_behind b ++ y → SameReply reply.Done b x y
one_done reply.Done x y ha hb names same = record { replies = refl; rest = same }
one_done _ x y ha hb names same = absurd (cc names)

one_undone : (operation : ℕ) (reason : Why) (b : Reply) (x y : List (List ℕ)) → IsReply (reply.Undone operation reason) → IsReply b → name.Undone ≡ name_of b → words_behind (reply.Undone operation reason) ++ x ≡ words_behind b ++ y → SameReply (reply.Undone operation reason) b x y
one_undone operation reason (reply.Undone operation' reason') x y ha hb names same =
    let same_operation : operation ≡ operation' = number_injective operation operation' (omega (arith, ha.0.1)) (omega (arith, hb.0.1)) (cc) in
    let whys = one_why reason reason' x y ha.1 hb.1 (cc) in
    record { replies = λ i. reply.Undone (same_operation i) (whys.reasons i); rest = whys.rest }
one_undone operation reason _ x y ha hb names same = absurd (cc names)

one_einval : (b : Reply) (x y : List (List ℕ)) → IsReply reply.Einval → IsReply b → name.Einval ≡ name_of b → words_behind reply.Einval ++ x ≡ words_behind b ++ y → SameReply reply.Einval b x y
one_einval reply.Einval x y ha hb names same = record { replies = refl; rest = same }
one_einval _ x y ha hb names same = absurd (cc names)

one_nospace : (b : Reply) (x y : List (List ℕ)) → IsReply reply.NoSpace → IsReply b → name.NoSpace ≡ name_of b → words_behind reply.NoSpace ++ x ≡ words_behind b ++ y → SameReply reply.NoSpace b x y
one_nospace reply.NoSpace x y ha hb names same = record { replies = refl; rest = same }
one_nospace _ x y ha hb names same = absurd (cc names)

one_nospaces : (b : Reply) (x y : List (List ℕ)) → IsReply reply.NoSpaces → IsReply b → name.NoSpaces ≡ name_of b → words_behind reply.NoSpaces ++ x ≡ words_behind b ++ y → SameReply reply.NoSpaces b x y
one_nospaces reply.NoSpaces x y ha hb names same = record { replies = refl; rest = same }
one_nospaces _ x y ha hb names same = absurd (cc names)

one_noroom : (b : Reply) (x y : List (List ℕ)) → IsReply reply.NoRoom → IsReply b → name.NoRoom ≡ name_of b → words_behind reply.NoRoom ++ x ≡ words_behind b ++ y → SameReply reply.NoRoom b x y
one_noroom reply.NoRoom x y ha hb names same = record { replies = refl; rest = same }
one_noroom _ x y ha hb names same = absurd (cc names)

one_exists : (at : ℕ) (b : Reply) (x y : List (List ℕ)) → IsReply (reply.Exists at) → IsReply b → name.Exists ≡ name_of b → words_behind (reply.Exists at) ++ x ≡ words_behind b ++ y → SameReply (reply.Exists at) b x y
one_exists at (reply.Exists at') x y ha hb names same =
    let same_at : at ≡ at' = address_injective at at' ha hb (cc) in
    record { replies = λ i. reply.Exists (same_at i); rest = cc }
one_exists at _ x y ha hb names same = absurd (cc names)

one_hole : (at : ℕ) (b : Reply) (x y : List (List ℕ)) → IsReply (reply.Hole at) → IsReply b → name.Hole ≡ name_of b → words_behind (reply.Hole at) ++ x ≡ words_behind b ++ y → SameReply (reply.Hole at) b x y
one_hole at (reply.Hole at') x y ha hb names same =
    let same_at : at ≡ at' = address_injective at at' ha hb (cc) in
    record { replies = λ i. reply.Hole (same_at i); rest = cc }
one_hole at _ x y ha hb names same = absurd (cc names)

one_segv : (at : ℕ) (b : Reply) (x y : List (List ℕ)) → IsReply (reply.Segv at) → IsReply b → name.Segv ≡ name_of b → words_behind (reply.Segv at) ++ x ≡ words_behind b ++ y → SameReply (reply.Segv at) b x y
one_segv at (reply.Segv at') x y ha hb names same =
    let same_at : at ≡ at' = address_injective at at' ha hb (cc) in
    record { replies = λ i. reply.Segv (same_at i); rest = cc }
one_segv at _ x y ha hb names same = absurd (cc names)

one_denied : (at : ℕ) (b : Reply) (x y : List (List ℕ)) → IsReply (reply.Denied at) → IsReply b → name.Denied ≡ name_of b → words_behind (reply.Denied at) ++ x ≡ words_behind b ++ y → SameReply (reply.Denied at) b x y
one_denied at (reply.Denied at') x y ha hb names same =
    let same_at : at ≡ at' = address_injective at at' ha hb (cc) in
    record { replies = λ i. reply.Denied (same_at i); rest = cc }
one_denied at _ x y ha hb names same = absurd (cc names)

one_bus : (at : ℕ) (b : Reply) (x y : List (List ℕ)) → IsReply (reply.Bus at) → IsReply b → name.Bus ≡ name_of b → words_behind (reply.Bus at) ++ x ≡ words_behind b ++ y → SameReply (reply.Bus at) b x y
one_bus at (reply.Bus at') x y ha hb names same =
    let same_at : at ≡ at' = address_injective at at' ha hb (cc) in
    record { replies = λ i. reply.Bus (same_at i); rest = cc }
one_bus at _ x y ha hb names same = absurd (cc names)

one_notables : (linked : ℕ) (limbo : ℕ) (need : ℕ) (b : Reply) (x y : List (List ℕ)) → IsReply (reply.NoTables linked limbo need) → IsReply b → name.NoTables ≡ name_of b → words_behind (reply.NoTables linked limbo need) ++ x ≡ words_behind b ++ y → SameReply (reply.NoTables linked limbo need) b x y
one_notables linked limbo need (reply.NoTables linked' limbo' need') x y ha hb names same =
    let same_linked : linked ≡ linked' = same_count linked linked' ha.0 hb.0 (cc) in
    let same_limbo : limbo ≡ limbo' = same_count limbo limbo' ha.1 hb.1 (cc) in
    let same_need : need ≡ need' = number_injective need need' ha.2 hb.2 (cc) in
    record { replies = λ i. reply.NoTables (same_linked i) (same_limbo i) (same_need i); rest = cc }
one_notables linked limbo need _ x y ha hb names same = absurd (cc names)

one_noframes : (free : ℕ) (need : ℕ) (b : Reply) (x y : List (List ℕ)) → IsReply (reply.NoFrames free need) → IsReply b → name.NoFrames ≡ name_of b → words_behind (reply.NoFrames free need) ++ x ≡ words_behind b ++ y → SameReply (reply.NoFrames free need) b x y
one_noframes free need (reply.NoFrames free' need') x y ha hb names same =
    let same_free : free ≡ free' = same_count free free' ha.0 hb.0 (cc) in
    let same_need : need ≡ need' = same_count need need' ha.1 hb.1 (cc) in
    record { replies = λ i. reply.NoFrames (same_free i) (same_need i); rest = cc }
one_noframes free need _ x y ha hb names same = absurd (cc names)

one_noswap : (free : ℕ) (need : ℕ) (b : Reply) (x y : List (List ℕ)) → IsReply (reply.NoSwap free need) → IsReply b → name.NoSwap ≡ name_of b → words_behind (reply.NoSwap free need) ++ x ≡ words_behind b ++ y → SameReply (reply.NoSwap free need) b x y
one_noswap free need (reply.NoSwap free' need') x y ha hb names same =
    let same_free : free ≡ free' = same_count free free' ha.0 hb.0 (cc) in
    let same_need : need ≡ need' = same_count need need' ha.1 hb.1 (cc) in
    record { replies = λ i. reply.NoSwap (same_free i) (same_need i); rest = cc }
one_noswap free need _ x y ha hb names same = absurd (cc names)

one_named : (a b : Reply) (x y : List (List ℕ)) → IsReply a → IsReply b → name_of a ≡ name_of b → words_behind a ++ x ≡ words_behind b ++ y → SameReply a b x y
one_named reply.Ok b x y ha hb names same = one_ok b x y ha hb names same
one_named (reply.At at) b x y ha hb names same = one_at at b x y ha hb names same
one_named (reply.Bytes bytes) b x y ha hb names same = one_bytes bytes b x y ha hb names same
one_named (reply.Space space) b x y ha hb names same = one_space space b x y ha hb names same
one_named (reply.Moved pages) b x y ha hb names same = one_moved pages b x y ha hb names same
one_named reply.Done b x y ha hb names same = one_done b x y ha hb names same
one_named (reply.Undone operation reason) b x y ha hb names same = one_undone operation reason b x y ha hb names same
one_named reply.Einval b x y ha hb names same = one_einval b x y ha hb names same
one_named reply.NoSpace b x y ha hb names same = one_nospace b x y ha hb names same
one_named reply.NoSpaces b x y ha hb names same = one_nospaces b x y ha hb names same
one_named reply.NoRoom b x y ha hb names same = one_noroom b x y ha hb names same
one_named (reply.Exists at) b x y ha hb names same = one_exists at b x y ha hb names same
one_named (reply.Hole at) b x y ha hb names same = one_hole at b x y ha hb names same
one_named (reply.Segv at) b x y ha hb names same = one_segv at b x y ha hb names same
one_named (reply.Denied at) b x y ha hb names same = one_denied at b x y ha hb names same
one_named (reply.Bus at) b x y ha hb names same = one_bus at b x y ha hb names same
one_named (reply.NoTables linked limbo need) b x y ha hb names same = one_notables linked limbo need b x y ha hb names same
one_named (reply.NoFrames free need) b x y ha hb names same = one_noframes free need b x y ha hb names same
one_named (reply.NoSwap free need) b x y ha hb names same = one_noswap free need b x y ha hb names same

-- words begin with the words of one reply at most
pub one_reply : (a b : Reply) (x y : List (List ℕ)) → IsReply a → IsReply b → reply_words a ++ x ≡ reply_words b ++ y → SameReply a b x y
one_reply a b x y ha hb same = one_named a b x y ha hb (same_name a b x y same) (same_behind a b x y same)

-- no word of a reply has a space or a newline
count_has_no : (byte n : ℕ) → byte < 45 → IsCount n → HasNo byte (number n)
count_has_no byte n low h = HasNo-number byte n (omega arith) (IsNoDigit-below byte (omega arith))

address_has_no : (byte at : ℕ) → byte < 45 → at < 2 ^ 64 → HasNo byte (address at)
address_has_no byte at low h = HasNo-address byte at h (IsNoDigit-below byte (omega arith)) (λ e. omega arith)

one_word : (byte : ℕ) (word : List ℕ) → HasNo byte word → All (HasNo byte) (word ∷ [])
one_word byte word h = All-cons (HasNo byte) word [] h (All-nil (HasNo byte))

two_words : (byte : ℕ) (first second : List ℕ) → HasNo byte first → HasNo byte second → All (HasNo byte) (first ∷ second ∷ [])
two_words byte first second h g = All-cons (HasNo byte) first (second ∷ []) h (one_word byte second g)

why_has_no : (byte : ℕ) (reason : Why) → byte < 45 → IsWhy reason → All (HasNo byte) (why_words reason)
why_has_no byte why.Einval low h = one_word byte (codes "einval") (HasNo_letters byte (codes "einval") low refl)
why_has_no byte (why.Exists at) low h = two_words byte (codes "exists") (address at) (HasNo_letters byte (codes "exists") low refl) (address_has_no byte at low h)
why_has_no byte (why.Hole at) low h = two_words byte (codes "hole") (address at) (HasNo_letters byte (codes "hole") low refl) (address_has_no byte at low h)

behind_has_no : (byte : ℕ) (r : Reply) → byte < 45 → IsReply r → All (HasNo byte) (words_behind r)
behind_has_no byte reply.Ok low h = All-nil (HasNo byte)
behind_has_no byte (reply.At at) low h = one_word byte (address at) (address_has_no byte at low h)
behind_has_no byte (reply.Bytes bytes) low h = one_word byte (hex bytes) (HasNo-hex byte bytes h.1 (IsNoDigit-below byte (omega arith)))
behind_has_no byte (reply.Space space) low h = one_word byte (number space) (HasNo-number byte space (omega (arith, h)) (IsNoDigit-below byte (omega arith)))
behind_has_no byte (reply.Moved pages) low h = one_word byte (number pages) (count_has_no byte pages low h)
behind_has_no byte reply.Done low h = All-nil (HasNo byte)
behind_has_no byte (reply.Undone operation reason) low h = All-cons (HasNo byte) (number operation) (why_words reason) (HasNo-number byte operation (omega (arith, h.0.1)) (IsNoDigit-below byte (omega arith))) (why_has_no byte reason low h.1)
behind_has_no byte reply.Einval low h = All-nil (HasNo byte)
behind_has_no byte reply.NoSpace low h = All-nil (HasNo byte)
behind_has_no byte reply.NoSpaces low h = All-nil (HasNo byte)
behind_has_no byte reply.NoRoom low h = All-nil (HasNo byte)
behind_has_no byte (reply.Exists at) low h = one_word byte (address at) (address_has_no byte at low h)
behind_has_no byte (reply.Hole at) low h = one_word byte (address at) (address_has_no byte at low h)
behind_has_no byte (reply.Segv at) low h = one_word byte (address at) (address_has_no byte at low h)
behind_has_no byte (reply.Denied at) low h = one_word byte (address at) (address_has_no byte at low h)
behind_has_no byte (reply.Bus at) low h = one_word byte (address at) (address_has_no byte at low h)
behind_has_no byte (reply.NoTables linked limbo need) low h = All-cons (HasNo byte) (number linked) (number limbo ∷ number need ∷ []) (count_has_no byte linked low h.0) (two_words byte (number limbo) (number need) (count_has_no byte limbo low h.1) (HasNo-number byte need h.2 (IsNoDigit-below byte (omega arith))))
behind_has_no byte (reply.NoFrames free need) low h = two_words byte (number free) (number need) (count_has_no byte free low h.0) (count_has_no byte need low h.1)
behind_has_no byte (reply.NoSwap free need) low h = two_words byte (number free) (number need) (count_has_no byte free low h.0) (count_has_no byte need low h.1)

name_has_no : (byte : ℕ) (n : ReplyName) → byte < 45 → HasNo byte (name_word n)
name_has_no byte name.Ok low = HasNo_letters byte (codes "ok") low refl
name_has_no byte name.At low = HasNo_letters byte (codes "at") low refl
name_has_no byte name.Bytes low = HasNo_letters byte (codes "bytes") low refl
name_has_no byte name.Space low = HasNo_letters byte (codes "space") low refl
name_has_no byte name.Moved low = HasNo_letters byte (codes "moved") low refl
name_has_no byte name.Done low = HasNo_letters byte (codes "done") low refl
name_has_no byte name.Undone low = HasNo_letters byte (codes "undone") low refl
name_has_no byte name.Einval low = HasNo_letters byte (codes "einval") low refl
name_has_no byte name.NoSpace low = HasNo_letters byte (codes "nospace") low refl
name_has_no byte name.NoSpaces low = HasNo_letters byte (codes "nospaces") low refl
name_has_no byte name.NoRoom low = HasNo_letters byte (codes "noroom") low refl
name_has_no byte name.Exists low = HasNo_letters byte (codes "exists") low refl
name_has_no byte name.Hole low = HasNo_letters byte (codes "hole") low refl
name_has_no byte name.Segv low = HasNo_letters byte (codes "segv") low refl
name_has_no byte name.Denied low = HasNo_letters byte (codes "denied") low refl
name_has_no byte name.Bus low = HasNo_letters byte (codes "bus") low refl
name_has_no byte name.NoTables low = HasNo_letters byte (codes "notables") low refl
name_has_no byte name.NoFrames low = HasNo_letters byte (codes "noframes") low refl
name_has_no byte name.NoSwap low = HasNo_letters byte (codes "noswap") low refl

pub reply_words_have_no : (byte : ℕ) (r : Reply) → byte < 45 → IsReply r → All (HasNo byte) (reply_words r)
reply_words_have_no byte r low h =
    subst (All (HasNo byte)) (sym (words_are r)) (All-cons (HasNo byte) (name_word (name_of r)) (words_behind r) (name_has_no byte (name_of r) low) (behind_has_no byte r low h))
