-- How replies are spelled on a line of a history text.
--     reply_words      a reply's words
--     IsWhy, IsReply      the bounds of the numbers in a reply that has a line
use Rattle.std.specs.Prelude.{ℕ, ◌<◌, ◌^◌, ⊤, List, [], ◌∷◌, length, codes, All}
use Rattle.text_words.specs.Spelling.{number, address, hex}
use Rattle.corten_base.specs.declared.calls.Reply.{Reply}
use Rattle.corten_base.specs.declared.calls.Reply.TheVariants.{Ok, At, Bytes, Space, Moved, Done, Undone, Einval, NoSpace, NoSpaces, NoRoom, Exists, Hole, Segv, Denied, Bus, NoTables, NoFrames, NoSwap}
use Rattle.corten_base.specs.declared.calls.Why.{Why}
use Rattle.corten_base.specs.declared.calls.Why.TheVariants as why
use Rattle.mm_script.specs.CallLine.{IsAccess, IsWithin}

-- why an operation of a transaction was refused
abbrev pub why_words : Why → List (List ℕ)
why_words why.Einval = codes "einval" ∷ []
why_words (why.Exists at) = codes "exists" ∷ address at ∷ []
why_words (why.Hole at) = codes "hole" ∷ address at ∷ []

abbrev pub reply_words : Reply → List (List ℕ)
reply_words Ok = codes "ok" ∷ []
reply_words (At at) = codes "at" ∷ address at ∷ []
reply_words (Bytes bytes) = codes "bytes" ∷ hex bytes ∷ []
reply_words (Space space) = codes "space" ∷ number space ∷ []
reply_words (Moved pages) = codes "moved" ∷ number pages ∷ []
reply_words Done = codes "done" ∷ []
reply_words (Undone operation reason) = codes "undone" ∷ number operation ∷ why_words reason
reply_words Einval = codes "einval" ∷ []
reply_words NoSpace = codes "nospace" ∷ []
reply_words NoSpaces = codes "nospaces" ∷ []
reply_words NoRoom = codes "noroom" ∷ []
reply_words (Exists at) = codes "exists" ∷ address at ∷ []
reply_words (Hole at) = codes "hole" ∷ address at ∷ []
reply_words (Segv at) = codes "segv" ∷ address at ∷ []
reply_words (Denied at) = codes "denied" ∷ address at ∷ []
reply_words (Bus at) = codes "bus" ∷ address at ∷ []
reply_words (NoTables linked limbo need) = codes "notables" ∷ number linked ∷ number limbo ∷ number need ∷ []
reply_words (NoFrames free need) = codes "noframes" ∷ number free ∷ number need ∷ []
reply_words (NoSwap free need) = codes "noswap" ∷ number free ∷ number need ∷ []

-- a number of frames, of swap slots or of page tables, at most 4294967295
abbrev pub IsCount : ℕ → Type 0
IsCount n = n < 2 ^ 32

-- addresses, and the page tables that a call wants, are below 2 ^ 64
abbrev pub IsWhy : Why → Type 0
IsWhy why.Einval = ⊤
IsWhy (why.Exists at) = at < 2 ^ 64
IsWhy (why.Hole at) = at < 2 ^ 64

-- spaces are numbered from 0 to 63, and the operations of a transaction from 1 to 16
abbrev pub IsReply : Reply → Type 0
IsReply Ok = ⊤
IsReply (At at) = at < 2 ^ 64
IsReply (Bytes bytes) = IsAccess (length bytes) × All (λ b. b < 256) bytes
IsReply (Space space) = space < 64
IsReply (Moved pages) = IsCount pages
IsReply Done = ⊤
IsReply (Undone operation reason) = IsWithin 1 16 operation × IsWhy reason
IsReply Einval = ⊤
IsReply NoSpace = ⊤
IsReply NoSpaces = ⊤
IsReply NoRoom = ⊤
IsReply (Exists at) = at < 2 ^ 64
IsReply (Hole at) = at < 2 ^ 64
IsReply (Segv at) = at < 2 ^ 64
IsReply (Denied at) = at < 2 ^ 64
IsReply (Bus at) = at < 2 ^ 64
IsReply (NoTables linked limbo need) = IsCount linked × IsCount limbo × (need < 2 ^ 64)
IsReply (NoFrames free need) = IsCount free × IsCount need
IsReply (NoSwap free need) = IsCount free × IsCount need
