use Rattle.std.proofs.Common.{◌≡◌, ℕ, List, Some, None, sym, ap, subst, ◌∙◌}
use Rattle.std.specs.Prelude.{length, slice_index}
use Rattle.std.specs.Option.{option_copied}
use Rattle.std.specs.FinMap as map
use Rattle.std.specs.FinSet as set
use Rattle.std.proofs.lemmas.Result.{err_from_is_err_and}
use Rattle.std.proofs.lemmas.Option.{IfSome_then}
use Rattle.corten_base.specs.declared.calls.Call.{Call}
use Rattle.corten_base.specs.declared.calls.Reply.{Reply}
use Rattle.corten_base.specs.declared.calls.Reply.TheVariants as reply
use Rattle.page_map.specs.Access.{outside_user_pages, refused_access}
use Rattle.page_map.specs.State.{State, levels, linked}
use Rattle.page_map.specs.Tables.{missing}
use Rattle.plain_counts.specs.Levels.{Lists}
use Rattle.plain_spaces.specs.Reach.{above_pages, making, wanting}
use Rattle.mm_model.specs.Lacking.{lack, tables_lack}
use Rattle.mm_model.proofs.Lacks.{lack_listed}
use Rattle.mm_model.specs.Accesses.{IsAccess, IsAllowed, IsReady}
use Rattle.mm_model.specs.Steps.{Refuses}
use Rattle.mm_model.proofs.AccessCalls.{none_missing, stops_pages, stops_tables, stops_frames, is_allowed, plan_is}
use Rattle.mm_model.proofs.AccessSteps.{refused_absent}
use Rattle.mm_model.proofs.Kept.{counted_here}
use Rattle.mm_model.proofs.plain.Plain.claim.Goals as goal
use Rattle.mm_model.proofs.plain.Plain.claim.Goals.{After-get, After-frames-need, After-free-free, In-Some}

-- the state of the machine
abbrev now : After-get → State
now c = record { spaces = c.self.inside.spaces; tables = c.self.inside.tables; limits = c.self.inside.limits; files = c.self.inside.shelf }

abbrev here : (c : In-Some) → map.get c.self.inside.spaces c.args.space ≡ Some c.in-Some.cells.now
here c = sym c.in-Some.ensures

-- the access has user pages alone
user : (c : After-get) → outside_user_pages (levels (now c)) c.args.access ≡ None
user c = ap (λ st. outside_user_pages (levels st) c.args.access) c.self.view_is ∙ c.requires.user

pub returns-in_default-clause-refused : goal.returns-in_default-clause-refused
returns-in_default-clause-refused c = λ stored call is.
    refused_absent c.args.self.now call c.args.space (making c.args.access stored) is c.args.limbo c.requires.user
    (ap (λ (st : State). map.get st.spaces c.args.space) (sym c.self.view_is) ∙ sym c.get.ensures ∙ ap option_copied c.in_default.is)

pub plan-requires : goal.plan-requires
plan-requires c =
    let at = goal.at.plan-requires c in
    (counted_here (now at.After-get) _ _ c.self.invariant c.args.space c.in-Some.cells.now (here at.In-Some)).frames

pub returns-in_err-plan-clause-refused : goal.returns-in_err-plan-clause-refused
returns-in_err-plan-clause-refused c =
    let at = goal.at.returns-in_err-plan-clause-refused c in
    let refuses : (r : Reply) → refused_access c.self.inside.shelf c.in-Some.cells.now c.args.access ≡ Some r → (stored : List ℕ) (call : Call) → IsAccess c.args.self.now call c.args.space (making c.args.access stored) → Refuses c.args.self.now c.args.limbo call r =
    λ r e. subst (λ st. (stored : List ℕ) (call : Call) → IsAccess st call c.args.space (making c.args.access stored) → Refuses st c.args.limbo call r) c.self.view_is
    (stops_pages (now at.After-get) _ _ c.self.invariant c.args.space c.in-Some.cells.now (here at.In-Some) c.args.access (user at.After-get) r e c.args.limbo) in
    let p = err_from_is_err_and c.from_residual.result c.from_residual.ensures.1 in rw (p.1, p.2) (IfSome_then _ c.in_err-plan.ensures.refused refuses)

-- there are enough page tables
room : (c : After-free-free) → tables_lack (record { spaces = c.self.inside.spaces; tables = c.self.inside.tables; limits = c.self.inside.limits; files = c.self.inside.shelf }) (above_pages c.self.inside.limits.levels c.args.space c.args.access) c.args.limbo ≡ None
room c =
    let st : State = record { spaces = c.self.inside.spaces; tables = c.self.inside.tables; limits = c.self.inside.limits; files = c.self.inside.shelf } in
    sym (lack_listed st (above_pages (levels st) c.args.space c.args.access) c.in_ok-found.found.items c.args.limbo (subst (λ (st : State). Lists (missing (above_pages (levels st) c.args.space c.args.access) st.tables) c.in_ok-found.found.items) (sym c.self.view_is) c.in_ok-found.ensures))
    ∙ subst (λ (st : State). lack st.limits.tables (linked st) c.args.limbo (length c.in_ok-found.found.items) ≡ None) (sym c.self.view_is) c.in_ok-missing.ensures.enough

-- how many frames are wanted
abbrev need_is : (c : After-frames-need) → c.frames-need.result ≡ length (wanting (slice_index c.self.inside.counts.frames) c.in-Some.cells.now c.args.access)
need_is c =
    c.frames-need.ensures c.self.inside.shelf c.in-Some.cells.now (slice_index c.self.inside.counts.frames) c.in_ok-plan.ensures.plan
    ∙ ap (λ a. length (wanting (slice_index c.self.inside.counts.frames) c.in-Some.cells.now a)) c.in_ok-plan.ensures.access

-- where none is, all page tables are there
pub lacked_by-requires : goal.lacked_by-requires
lacked_by-requires c =
    let at = goal.at.lacked_by-requires c in
    record {
      there = λ none. subst (λ (st : State). missing (above_pages (levels st) c.args.space c.args.access) st.tables ≡ set.empty) c.self.view_is
          (none_missing (now at.After-get) _ _ c.self.invariant c.args.space c.in-Some.cells.now (here at.In-Some) c.args.access (user at.After-get) c.in_ok-plan.ensures.ok (sym (need_is at.After-frames-need) ∙ none));
    }

pub returns-in_err-missing-clause-refused : goal.returns-in_err-missing-clause-refused
returns-in_err-missing-clause-refused c =
    let at = goal.at.returns-in_err-missing-clause-refused c in
    let st = now at.After-get in
    let self = c.args.self.now in
    let refuses : (r : Reply) → lack self.limits.tables (linked self) c.args.limbo (length c.in_ok-found.found.items) ≡ Some r → (stored : List ℕ) (call : Call) → IsAccess self call c.args.space (making c.args.access stored) → Refuses self c.args.limbo call r =
    λ r e. subst (λ st. (stored : List ℕ) (call : Call) → IsAccess st call c.args.space (making c.args.access stored) → Refuses st c.args.limbo call r) c.self.view_is
    (stops_tables st _ _ c.self.invariant c.args.space c.in-Some.cells.now (here at.In-Some) c.args.access (user at.After-get) c.in_ok-plan.ensures.ok c.args.limbo r
    (sym (lack_listed st (above_pages (levels st) c.args.space c.args.access) c.in_ok-found.found.items c.args.limbo (subst (λ (st : State). Lists (missing (above_pages (levels st) c.args.space c.args.access) st.tables) c.in_ok-found.found.items) (sym c.self.view_is) c.in_ok-found.ensures))
    ∙ subst (λ (st : State). lack st.limits.tables (linked st) c.args.limbo (length c.in_ok-found.found.items) ≡ Some r) (sym c.self.view_is) e)) in
    let p = err_from_is_err_and c.from_residual-in_err-missing.result c.from_residual-in_err-missing.ensures.1 in rw (p.1, p.2) (IfSome_then _ c.in_err-missing.ensures.refused refuses)

pub returns-then-free-need-clause-refused : goal.returns-then-free-need-clause-refused
returns-then-free-need-clause-refused c =
    let at = goal.at.returns-then-free-need-clause-refused c in
    subst (λ st. (stored : List ℕ) (call : Call) → IsAccess st call c.args.space (making c.args.access stored) → Refuses st c.args.limbo call (reply.NoFrames c.free-free.result c.frames-need.result)) c.self.view_is
    (stops_frames (now at.After-get) _ _ c.self.invariant c.args.space c.in-Some.cells.now (here at.In-Some) c.args.access (user at.After-get) c.in_ok-plan.ensures.ok c.free-free.result c.frames-need.result c.free-free.ensures (need_is at.After-frames-need)
    c.args.limbo (room at.After-free-free) c.if-free-need.true)

pub returns-clause-ready : goal.returns-clause-ready
returns-clause-ready c =
    let at = goal.at.returns-clause-ready c in
    let st = now at.After-get in
    subst (λ st. IsReady st c.args.space c.args.limbo c.in_ok-plan.plan c.in_ok-missing.missing.items) c.self.view_is
    (record {
      allowed = subst (IsAllowed st c.args.space c.args.limbo) (sym c.in_ok-plan.ensures.access)
          (is_allowed st _ _ c.self.invariant c.args.space c.in-Some.cells.now (here at.In-Some) c.args.access (user at.After-get) c.in_ok-plan.ensures.ok c.free-free.result c.frames-need.result c.free-free.ensures (need_is at.After-frames-need)
          c.args.limbo (room at.After-free-free) c.if-free-need.false);
      planned = plan_is st _ _ c.self.invariant c.args.space c.in-Some.cells.now (here at.In-Some) c.in_ok-plan.plan c.in_ok-plan.ensures.plan;
      lists = subst (λ a. Lists (missing (above_pages (levels st) c.args.space a) st.tables) c.in_ok-missing.missing.items) (sym c.in_ok-plan.ensures.access)
          (subst (Lists (missing (above_pages (levels st) c.args.space c.args.access) st.tables)) (sym (λ i. (c.in_ok-missing.ensures.missing i).items)) (subst (λ (st : State). Lists (missing (above_pages (levels st) c.args.space c.args.access) st.tables) c.in_ok-found.found.items) (sym c.self.view_is) c.in_ok-found.ensures));
    })
