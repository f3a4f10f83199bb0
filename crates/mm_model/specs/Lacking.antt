-- Calls that are refused, and page tables that are too few.
--     stopped      the reply to a call that is refused; without memory there is none
--     lack, lack_of, tables_lack      the refusal where there are too few page tables, by their numbers;  in a state, of so many more;  of those
--         that are wanted
use Rattle.std.specs.Prelude.{ℕ, ◌+◌, cond, nat_lt, List, Option, Some, None, Result, Ok, Err, alloc_error}
use Rattle.std.specs.declared.alloc.AllocError.{AllocError}
use Rattle.corten_base.specs.declared.calls.Reply.{Reply}
use Rattle.corten_base.specs.declared.calls.Reply.TheVariants as reply
use Rattle.table_place.specs.declared.Place.{Place}
use Rattle.page_map.specs.State.{State, linked}
use Rattle.page_map.specs.Tables.{need}
use Rattle.plain_spaces.specs.declared.access.Stop.{Stop}
use Rattle.plain_spaces.specs.declared.access.Stop.TheVariants.{Refused, NoMemory}

abbrev pub stopped : Stop → Result Reply AllocError
stopped (Refused reply) = Ok reply
stopped NoMemory = Err alloc_error

-- the tables that are linked, in limbo and needed are more than there are
abbrev pub lack : ℕ → ℕ → ℕ → ℕ → Option Reply
lack tables linked_now limbo n = cond (nat_lt tables (linked_now + n + limbo)) (Some (reply.NoTables linked_now limbo n)) None

abbrev pub lack_of : State → ℕ → ℕ → Option Reply
lack_of st n limbo = lack st.limits.tables (linked st) limbo n

-- the wanted ones that are missing are too many
abbrev pub tables_lack : State → List Place → ℕ → Option Reply
tables_lack st wanted limbo = lack_of st (need wanted st.tables) limbo
