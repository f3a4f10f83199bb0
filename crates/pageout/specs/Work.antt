-- The pages whose marks are looked at again after a call.
--     in_span, in_work      whether a page is one of a span;  of those of the work
--     refreshed      the mark of a page after it was looked at
--     settled      the mark that a page has once the work is done
--     span_of, access_span, no_span      the pages of so many bytes from an address on;  of an access;  none
--     placed, made_space      the address and the space of a reply
--     work_of      the work after a call with a reply
use Rattle.std.specs.Prelude.{ℕ, ◌+◌, ◌-◌, ◌/◌, ◌^◌, Bool, true, false, cond, not, ◌&&◌, ◌||◌, length, nat_eq, nat_le, nat_lt, Option, Some, None}
use Rattle.corten_base.specs.declared.calls.Call.{Call}
use Rattle.corten_base.specs.declared.calls.Call.TheVariants as call
use Rattle.corten_base.specs.declared.calls.Reply.{Reply}
use Rattle.corten_base.specs.declared.calls.Reply.TheVariants as reply
use Rattle.table_place.specs.Place.{pages_of}
use Rattle.page_map.specs.State.{State}
use Rattle.page_map.specs.Memory.{is_refusal}
use Rattle.mm_model.specs.Pages.{frame_at}
use Rattle.pageout.specs.declared.marks.Mark.{Mark}
use Rattle.pageout.specs.declared.work.Span.{Span}
use Rattle.pageout.specs.declared.work.Work.{Work}
use Rattle.pageout.specs.Index.{Marks, mark_at, key_of}

abbrev pub in_span : Span → ℕ → Bool
in_span s page = nat_le s.first page && nat_lt page s.end

abbrev pub in_work : Work → ℕ → ℕ → Bool
in_work w space page = nat_eq space w.space && (in_span w.near page || in_span w.far page)

-- A page without a frame has no mark. One that has another frame than its mark says is touched, and after an access each is.
abbrev pub refreshed : ℕ → Bool → Option Mark → Option ℕ → Option Mark
refreshed place is_access mark None = None
refreshed place is_access None (Some frame) = Some (record { frame = frame; touched = place })
refreshed place is_access (Some mark) (Some frame) =
    Some (record { frame = frame; touched = cond (not is_access && nat_eq mark.frame frame) mark.touched place })

abbrev pub settled : Marks → Work → State → ℕ → ℕ → Option Mark
settled marks w st space page =
    cond (in_work w space page) (refreshed w.place w.is_access (mark_at marks (key_of space page)) (frame_at st space page)) (mark_at marks (key_of space page))

-- ---- after a call

abbrev pub no_span : Span
no_span = record { first = 0; end = 0 }

-- all user pages lie below 2 ^ 44
abbrev pub whole_span : Span
whole_span = record { first = 0; end = 2 ^ 44 }

abbrev pub span_of : ℕ → ℕ → Span
span_of at len = record { first = at / 4096; end = at / 4096 + pages_of len }

abbrev pub access_span : ℕ → ℕ → Span
access_span at len = record { first = at / 4096; end = (at + len - 1) / 4096 + 1 }

abbrev pub placed : Reply → ℕ
placed (reply.At at) = at
placed _ = 0

abbrev pub made_space : Reply → ℕ
made_space (reply.Space space) = space
made_space _ = 0

abbrev pub over : ℕ → Span → ℕ → Work
over space span place = record { space = space; near = span; far = no_span; place = place; is_access = false }

abbrev pub no_work : ℕ → Work
no_work place = over 0 no_span place

abbrev pub accessing : ℕ → Span → ℕ → Work
accessing space span place = record { space = space; near = span; far = no_span; place = place; is_access = true }

-- a space has a number below 64
abbrev pub made_work : ℕ → ℕ → Work
made_work space place = cond (nat_lt space 64) (over space whole_span place) (no_work place)

abbrev pub answered_work : Call → Reply → ℕ → Work
answered_work (call.Map space where_to len perm what) r place = over space (span_of (placed r) len) place
answered_work (call.Unmap space at len) r place = over space (span_of at len) place
answered_work (call.Protect space at len perm) r place = over space (span_of at len) place
answered_work (call.Load space at len) r place = accessing space (access_span at len) place
answered_work (call.Store space at bytes) r place = accessing space (access_span at (length bytes)) place
answered_work (call.Fault space at write) r place = accessing space (access_span at 1) place
answered_work call.Spawn r place = no_work place
answered_work (call.Fork space) r place = made_work (made_space r) place
answered_work (call.Exit space) r place = over space whole_span place
answered_work (call.SwapOut space at len) r place = over space (span_of at len) place
answered_work (call.SwapIn space at len) r place = over space (span_of at len) place
answered_work (call.Txn space at len ops) r place = over space (span_of at len) place
answered_work (call.DontNeed space at len) r place = over space (span_of at len) place
answered_work (call.Remap space at old_len new_len) r place =
    record { space = space; near = span_of at old_len; far = span_of (placed r) new_len; place = place; is_access = false }

abbrev pub work_of : Call → Reply → ℕ → Work
work_of c r place = cond (is_refusal r) (no_work place) (answered_work c r place)
