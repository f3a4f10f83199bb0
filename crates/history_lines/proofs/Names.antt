-- Each reply's words begin with its name, and no two names have one word.
use Rattle.std.proofs.Common.{◌≡◌, ◌≢◌, ℕ, cond, List, [], ◌∷◌, ◌++◌, codes, refl, sym, ap, ◌∙◌}
use Rattle.std.specs.Str.{bytes_eq}
use Rattle.corten_base.specs.declared.calls.Reply.{Reply}
use Rattle.corten_base.specs.declared.calls.Reply.TheVariants as reply
use Rattle.corten_base.specs.declared.calls.Why.{Why}
use Rattle.corten_base.specs.declared.calls.Why.TheVariants as why
use Rattle.text_words.specs.Spelling.{number, address, hex}
use Rattle.history_lines.specs.declared.reply_names.ReplyName.{ReplyName}
use Rattle.history_lines.specs.declared.reply_names.ReplyName.TheVariants as name
use Rattle.history_lines.specs.Replies.{reply_words, why_words, IsReply, IsWhy}
use Rattle.history_lines.specs.ReplyNames.{name_word}
use Rattle.history_lines.specs.Reading.{ReadsNone}

abbrev pub name_of : Reply → ReplyName
name_of reply.Ok = name.Ok
name_of (reply.At at) = name.At
name_of (reply.Bytes bytes) = name.Bytes
name_of (reply.Space space) = name.Space
name_of (reply.Moved pages) = name.Moved
name_of reply.Done = name.Done
name_of (reply.Undone operation reason) = name.Undone
name_of reply.Einval = name.Einval
name_of reply.NoSpace = name.NoSpace
name_of reply.NoSpaces = name.NoSpaces
name_of reply.NoRoom = name.NoRoom
name_of (reply.Exists at) = name.Exists
name_of (reply.Hole at) = name.Hole
name_of (reply.Segv at) = name.Segv
name_of (reply.Denied at) = name.Denied
name_of (reply.Bus at) = name.Bus
name_of (reply.NoTables linked limbo need) = name.NoTables
name_of (reply.NoFrames free need) = name.NoFrames
name_of (reply.NoSwap free need) = name.NoSwap

-- the words behind the name
abbrev pub words_behind : Reply → List (List ℕ)
words_behind reply.Ok = []
words_behind (reply.At at) = address at ∷ []
words_behind (reply.Bytes bytes) = hex bytes ∷ []
words_behind (reply.Space space) = number space ∷ []
words_behind (reply.Moved pages) = number pages ∷ []
words_behind reply.Done = []
words_behind (reply.Undone operation reason) = number operation ∷ why_words reason
words_behind reply.Einval = []
words_behind reply.NoSpace = []
words_behind reply.NoSpaces = []
words_behind reply.NoRoom = []
words_behind (reply.Exists at) = address at ∷ []
words_behind (reply.Hole at) = address at ∷ []
words_behind (reply.Segv at) = address at ∷ []
words_behind (reply.Denied at) = address at ∷ []
words_behind (reply.Bus at) = address at ∷ []
words_behind (reply.NoTables linked limbo need) = number linked ∷ number limbo ∷ number need ∷ []
words_behind (reply.NoFrames free need) = number free ∷ number need ∷ []
words_behind (reply.NoSwap free need) = number free ∷ number need ∷ []

pub words_are : (r : Reply) → reply_words r ≡ name_word (name_of r) ∷ words_behind r
words_are reply.Ok = refl
words_are (reply.At at) = refl
words_are (reply.Bytes bytes) = refl
words_are (reply.Space space) = refl
words_are (reply.Moved pages) = refl
words_are reply.Done = refl
words_are (reply.Undone operation reason) = refl
words_are reply.Einval = refl
words_are reply.NoSpace = refl
words_are reply.NoSpaces = refl
words_are reply.NoRoom = refl
words_are (reply.Exists at) = refl
words_are (reply.Hole at) = refl
words_are (reply.Segv at) = refl
words_are (reply.Denied at) = refl
words_are (reply.Bus at) = refl
words_are (reply.NoTables linked limbo need) = refl
words_are (reply.NoFrames free need) = refl
words_are (reply.NoSwap free need) = refl

-- the name that a word spells, where it spells one
named : List ℕ → ReplyName
named word =
    cond (bytes_eq word (codes "ok")) name.Ok (
    cond (bytes_eq word (codes "at")) name.At (
    cond (bytes_eq word (codes "bytes")) name.Bytes (
    cond (bytes_eq word (codes "space")) name.Space (
    cond (bytes_eq word (codes "moved")) name.Moved (
    cond (bytes_eq word (codes "done")) name.Done (
    cond (bytes_eq word (codes "undone")) name.Undone (
    cond (bytes_eq word (codes "einval")) name.Einval (
    cond (bytes_eq word (codes "nospace")) name.NoSpace (
    cond (bytes_eq word (codes "nospaces")) name.NoSpaces (
    cond (bytes_eq word (codes "noroom")) name.NoRoom (
    cond (bytes_eq word (codes "exists")) name.Exists (
    cond (bytes_eq word (codes "hole")) name.Hole (
    cond (bytes_eq word (codes "segv")) name.Segv (
    cond (bytes_eq word (codes "denied")) name.Denied (
    cond (bytes_eq word (codes "bus")) name.Bus (
    cond (bytes_eq word (codes "notables")) name.NoTables (
    cond (bytes_eq word (codes "noframes")) name.NoFrames (
    name.NoSwap))))))))))))))))))

named_word : (n : ReplyName) → named (name_word n) ≡ n
unfolding named
named_word name.Ok = refl
named_word name.At = refl
named_word name.Bytes = refl
named_word name.Space = refl
named_word name.Moved = refl
named_word name.Done = refl
named_word name.Undone = refl
named_word name.Einval = refl
named_word name.NoSpace = refl
named_word name.NoSpaces = refl
named_word name.NoRoom = refl
named_word name.Exists = refl
named_word name.Hole = refl
named_word name.Segv = refl
named_word name.Denied = refl
named_word name.Bus = refl
named_word name.NoTables = refl
named_word name.NoFrames = refl
named_word name.NoSwap = refl

pub one_name : (m n : ReplyName) → name_word m ≡ name_word n → m ≡ n
one_name m n same = sym (named_word m) ∙ ap named same ∙ named_word n

first_is : (a b : List ℕ) (x y : List (List ℕ)) → a ∷ x ≡ b ∷ y → a ≡ b
first_is a b x y same = cc

rest_is : (a b : List ℕ) (x y : List (List ℕ)) → a ∷ x ≡ b ∷ y → x ≡ y
rest_is a b x y same = cc

-- a reply's words, and more behind them
pub words_with : (r : Reply) (more : List (List ℕ)) → reply_words r ++ more ≡ name_word (name_of r) ∷ (words_behind r ++ more)
words_with r more = ap (λ ws. ws ++ more) (words_are r)

pub same_name : (a b : Reply) (x y : List (List ℕ)) → reply_words a ++ x ≡ reply_words b ++ y → name_of a ≡ name_of b
same_name a b x y same =
    one_name (name_of a) (name_of b) (first_is _ _ (words_behind a ++ x) (words_behind b ++ y) (sym (words_with a x) ∙ same ∙ words_with b y))

pub same_behind : (a b : Reply) (x y : List (List ℕ)) → reply_words a ++ x ≡ reply_words b ++ y → words_behind a ++ x ≡ words_behind b ++ y
same_behind a b x y same = rest_is (name_word (name_of a)) (name_word (name_of b)) _ _ (sym (words_with a x) ∙ same ∙ words_with b y)

-- words that begin with no name are no reply's
pub no_reply : (word : List ℕ) (words : List (List ℕ)) → ((n : ReplyName) → word ≢ name_word n) → (r : Reply) (rest : List (List ℕ)) → IsReply r → word ∷ words ≢ reply_words r ++ rest
no_reply word words none r rest h is = none (name_of r) (first_is word (name_word (name_of r)) words (words_behind r ++ rest) (is ∙ words_with r rest))

-- nor are they those of why an operation was refused
pub no_why : (word : List ℕ) (words : List (List ℕ)) → ((n : ReplyName) → word ≢ name_word n) → (reason : Why) (rest : List (List ℕ)) → IsWhy reason → word ∷ words ≢ why_words reason ++ rest
no_why word words none why.Einval rest h is = none name.Einval (first_is _ _ _ _ is)
no_why word words none (why.Exists at) rest h is = none name.Exists (first_is _ _ _ _ is)
no_why word words none (why.Hole at) rest h is = none name.Hole (first_is _ _ _ _ is)

-- words behind a name that are behind no reply of that name
pub reads_none : (n : ReplyName) (words : List (List ℕ)) → ((r : Reply) (rest : List (List ℕ)) → name_of r ≡ n → IsReply r → words ≢ words_behind r ++ rest) → ReadsNone (name_word n) words
reads_none n words none r rest h is =
    let whole : name_word n ∷ words ≡ name_word (name_of r) ∷ (words_behind r ++ rest) = is ∙ words_with r rest in
    none r rest (sym (one_name n (name_of r) (first_is _ _ _ _ whole))) h (rest_is _ _ _ _ whole)

pub reply_words_some : (r : Reply) → reply_words r ≢ []
reply_words_some r none = let some : name_word (name_of r) ∷ words_behind r ≡ [] = sym (words_are r) ∙ none in cc some
