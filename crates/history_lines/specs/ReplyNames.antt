-- The first words of replies.
--     name_word      the word of a name
use Rattle.std.specs.Prelude.{ℕ, List, codes}
use Rattle.history_lines.specs.declared.reply_names.ReplyName.{ReplyName}
use Rattle.history_lines.specs.declared.reply_names.ReplyName.TheVariants.{Ok, At, Bytes, Space, Moved, Done, Undone, Einval, NoSpace, NoSpaces, NoRoom, Exists, Hole, Segv, Denied, Bus, NoTables, NoFrames, NoSwap}

abbrev pub name_word : ReplyName → List ℕ
name_word Ok = codes "ok"
name_word At = codes "at"
name_word Bytes = codes "bytes"
name_word Space = codes "space"
name_word Moved = codes "moved"
name_word Done = codes "done"
name_word Undone = codes "undone"
name_word Einval = codes "einval"
name_word NoSpace = codes "nospace"
name_word NoSpaces = codes "nospaces"
name_word NoRoom = codes "noroom"
name_word Exists = codes "exists"
name_word Hole = codes "hole"
name_word Segv = codes "segv"
name_word Denied = codes "denied"
name_word Bus = codes "bus"
name_word NoTables = codes "notables"
name_word NoFrames = codes "noframes"
name_word NoSwap = codes "noswap"
