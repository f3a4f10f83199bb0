-- What a reader found.
--     Reads      the words behind a reply's name are those of this reply, and these are left behind them
--     ReadsNone      they are those of no reply
--     HasNoLevels      no line of levels goes on behind a version and limits
use Rattle.std.specs.Prelude.{◌≡◌, ◌≢◌, ℕ, List, ◌∷◌, ◌++◌}
use Rattle.text_words.specs.Layout.{ended}
use Rattle.corten_base.specs.declared.calls.Reply.{Reply}
use Rattle.history_lines.specs.Replies.{reply_words, IsReply}
use Rattle.history_lines.specs.Accounting.{levels_line}

abbrev pub Reads : List ℕ → List (List ℕ) → List (List ℕ) → Reply → Type 0
Reads name words rest reply = IsReply reply × (name ∷ words ≡ reply_words reply ++ rest)

abbrev pub ReadsNone : List ℕ → List (List ℕ) → Type 0
ReadsNone name words = (reply : Reply) (rest : List (List ℕ)) → IsReply reply → name ∷ words ≢ reply_words reply ++ rest

-- the version has no such line, or it was taken, or another line stands there
abbrev pub HasNoLevels : ℕ → ℕ → List ℕ → Type 0
HasNoLevels version levels bytes = version ≡ 2 → levels ≡ 4 → (more : List ℕ) → bytes ≢ ended levels_line ++ more
