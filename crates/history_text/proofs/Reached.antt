-- The answered calls of a legal history whose calls have lines: each has one.
use Rattle.std.proofs.Common.{◌≡◌, ℕ, ◌<◌, List, [], ◌∷◌, refl, sym, ap, subst, ◌∙◌, arith}
use Rattle.std.specs.Prelude.{Option, Some, None}
use Rattle.std.specs.Option.{unwrap_or}
use Rattle.std.specs.List.{All}
use Rattle.std.specs.Ordering.{nat_cmp}
use Rattle.std.specs.FinMap as fin
use Rattle.std.specs.FinMap.{get-empty}
use Rattle.std.specs.FinSet as set
use Rattle.std.proofs.lemmas.List.Elements.{All-nil, All-cons, All-head, All-tail, All-weaker}
use Rattle.corten_base.specs.declared.calls.Call.{Call}
use Rattle.corten_base.specs.declared.calls.Call.TheVariants as call
use Rattle.corten_base.specs.declared.calls.Entry.{Entry}
use Rattle.corten_base.specs.declared.numbers.Limits.{Limits}
use Rattle.table_place.specs.Place.{root}
use Rattle.page_map.specs.declared.cell.Cell.{Cell}
use Rattle.page_map.specs.State.{State, AddressSpace, IsConsistent, IsWithinLimits, levels_of, cell_at, start}
use Rattle.page_map.specs.History.{IsLegal, IsHistory, entry_step, limbo_of}
use Rattle.page_map.proofs.Steps.{not_none}
use Rattle.page_map.proofs.Cells.{each_cell}
use Rattle.page_map.proofs.StepKeeps.{step_keeps}
use Rattle.mm_script.specs.CallLine.{IsCall}
use Rattle.mm_script.specs.ScriptText.{IsFile, AreLimits, AreFiles}
use Rattle.history_lines.specs.Replies.{IsReply}
use Rattle.history_lines.specs.HistoryText.{IsEntry, IsEntryOf, IsAsked}
use Rattle.history_lines.specs.Accounting.{IsHeader}
use Rattle.history_text.proofs.ByteCells.{AreBytes, AreAllBytes, stored_by, step_bytes}
use Rattle.history_lines.proofs.Closings.{few_levels, step_limits, start_limits, final_is_consistent}
use Rattle.history_text.proofs.Spelled.{spelled_step}

-- the bytes that a call with a line stores
pub stored_bytes : (c : Call) → IsCall c → AreBytes (stored_by c)
stored_bytes (call.Store space at bytes) h = h.3
stored_bytes _ h = All-nil (λ b. b < 256)

pub asked_entries : (st : State) (es : List Entry) → IsConsistent st → AreLimits st.limits → AreAllBytes st → All IsAsked es → IsLegal st es → All IsEntry es
asked_entries st [] ok hl all asked legal = All-nil IsEntry
asked_entries st (e ∷ es) ok hl all asked legal =
    let here : IsAsked e = All-head IsAsked e es asked in
    let few : e.thread < 8 = let thread = here.thread in omega (arith, thread.1) in
    let limbo : ℕ = limbo_of e.reply in
    let said : IsReply e.reply = subst IsReply (sym legal.1) (spelled_step st e.thread limbo ok hl legal.0 e.call few all here.call) in
    All-cons IsEntry e es (record { thread = here.thread; call = here.call; reply = said })
    (asked_entries (entry_step st e).1 es (step_keeps st e.thread limbo e.call few ok) (subst AreLimits (sym (step_limits st e.thread e.call limbo)) hl)
    (step_bytes st e.thread limbo e.call (stored_bytes e.call here.call) all) (All-tail IsAsked e es asked) legal.2)

start_files : (limits : Limits) (files : List (List ℕ)) → (start limits files).files ≡ files
unfolding start
start_files limits files = refl

-- no cell stands at the start
abbrev none_there : Limits → List (List ℕ) → State
none_there limits files = record { spaces = fin.empty; tables = set.empty; limits = limits; files = files }

nothing : (limits : Limits) (files : List (List ℕ)) (s p : ℕ) → cell_at (none_there limits files) s p ≡ None
nothing limits files s p = ap (λ (o : Option AddressSpace). fin.get (unwrap_or o fin.empty) p) (get-empty nat_cmp s) ∙ get-empty nat_cmp p

pub start_cells : (limits : Limits) (files : List (List ℕ)) (s p : ℕ) (c : Cell) → cell_at (start limits files) s p ≡ Some c → ⊥
unfolding start
start_cells limits files =
    each_cell (none_there limits files) 0 fin.empty (set.insert set.empty (root (levels_of limits) 0)) (λ s p c. ⊥)
    (λ p c f. not_none (sym f ∙ get-empty nat_cmp p)) (λ s p c other f. not_none (sym f ∙ nothing limits files s p))

pub start_bytes : (limits : Limits) (files : List (List ℕ)) → AreFiles files → AreAllBytes (start limits files)
start_bytes limits files h = record {
  files = subst (All AreBytes) (sym (start_files limits files)) (All-weaker IsFile AreBytes (λ f is. is.fit) files h.each);
  cells = λ s p c e. absurd (start_cells limits files s p c e);
}

-- a machine may have the limits of a history
pub within_limits : (version : ℕ) (limits : Limits) → IsHeader (record { version = version; limits = limits }) → IsWithinLimits limits
within_limits version limits h =
    let levels = few_levels version limits.levels h.levels in
    let within = h.limits in
    record {
      some_levels = levels.0;
      few_levels = levels.1;
      some_frame = within.frames.0;
      frames = within.frames.1;
      some_table = within.tables.0;
      tables = within.tables.1;
      swap = within.swap.1;
    }

pub history_entries : (version : ℕ) (limits : Limits) (files : List (List ℕ)) (es : List Entry) → IsHeader (record { version = version; limits = limits }) → AreFiles files → All IsAsked es → IsHistory limits files es → All IsEntry es
history_entries version limits files es hh hfs asked legal =
    asked_entries (start limits files) es (final_is_consistent (record { version = version; limits = limits }) files [] hh (All-nil (IsEntryOf version))) (subst AreLimits (sym (start_limits limits files)) hh.limits)
    (start_bytes limits files hfs) asked legal
