-- Steps of the plain machine.
--     IsStep      a call that takes a state to another with a reply, whichever thread makes it and however many tables are in limbo
--     IsStepBeside, IsStepOf      the same beside so many tables in limbo;  and if this thread makes it
--     PassesBeside, Refuses      nothing refuses a call beside so many tables in limbo;  it is refused with a reply, whichever thread makes it
--     IsRefusedFor, IsRefused      a call is refused with a reply if this thread makes it;  whichever makes it
use Rattle.std.specs.Prelude.{◌≡◌, ℕ, ◌+◌, ◌≤◌, Some, None}
use Rattle.corten_base.specs.declared.calls.Call.{Call}
use Rattle.corten_base.specs.declared.calls.Reply.{Reply}
use Rattle.page_map.specs.State.{State, linked}
use Rattle.page_map.specs.Step.{refusal, step}

abbrev pub IsStep : State → State → Call → Reply → Type 0
IsStep old new c r = (thread limbo : ℕ) → linked old + limbo ≤ old.limits.tables → (r, new) ≡ step old thread c limbo

abbrev pub IsStepBeside : ℕ → State → State → Call → Reply → Type 0
IsStepBeside limbo old new c r = (thread : ℕ) → (r, new) ≡ step old thread c limbo

abbrev pub IsStepOf : ℕ → ℕ → State → State → Call → Reply → Type 0
IsStepOf thread limbo old new c r = (r, new) ≡ step old thread c limbo

abbrev pub PassesBeside : ℕ → State → Call → Type 0
PassesBeside limbo st c = (thread : ℕ) → refusal st thread c limbo ≡ None

abbrev pub Refuses : State → ℕ → Call → Reply → Type 0
Refuses st limbo c r = (thread : ℕ) → refusal st thread c limbo ≡ Some r

abbrev pub IsRefusedFor : ℕ → State → Call → Reply → Type 0
IsRefusedFor thread st c r = (limbo : ℕ) → refusal st thread c limbo ≡ Some r

abbrev pub IsRefused : State → Call → Reply → Type 0
IsRefused st c r = (thread : ℕ) → IsRefusedFor thread st c r
