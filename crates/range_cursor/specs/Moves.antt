-- What pages that move to swap or back want.
--     is_move      whether a call moves pages to swap or back
--     want_out, want_back      the want of a page with a frame that goes out;  of one with a slot that comes back
use Rattle.std.specs.Prelude.{ℕ, Bool, true, false}
use Rattle.corten_base.specs.declared.calls.Call.{Call}
use Rattle.corten_base.specs.declared.calls.Call.TheVariants as call
use Rattle.counted_pages.specs.Pages.{CountedPage}
use Rattle.machine_plan.specs.declared.kit.Want.{Want}
use Rattle.machine_plan.specs.declared.kit.Want.TheVariants as want

abbrev pub want_out : ℕ × CountedPage → ℕ × Want
want_out r = (r.0, want.Out r.1.number)

abbrev pub want_back : ℕ × CountedPage → ℕ × Want
want_back r = (r.0, want.Back r.1.number)

abbrev pub is_move : Call → Bool
is_move (call.SwapOut space at len) = true
is_move (call.SwapIn space at len) = true
is_move _ = false
