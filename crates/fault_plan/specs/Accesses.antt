-- What a decision means to an access of the page map.
--     lies_past_end      whether a page is a file's, past the file's end
--     refusal      what the access is refused for
--     takes_frame      whether the access takes a frame
--     comes_from      what the page came from, once it is touched
use Rattle.std.specs.Prelude.{ℕ, ◌*◌, Bool, true, false, List, Option, Some, None}
use Rattle.corten_base.specs.declared.calls.Reply.{Reply}
use Rattle.corten_base.specs.declared.calls.Reply.TheVariants as reply
use Rattle.corten_base.specs.declared.calls.Backing.{Backing}
use Rattle.corten_base.specs.declared.calls.Backing.TheVariants as backing
use Rattle.page_map.specs.declared.cell.Cell.{Cell}
use Rattle.page_map.specs.declared.cell.Cell.TheVariants.{File}
use Rattle.page_map.specs.Cell.{is_past_end, backing_of}
use Rattle.fault_plan.specs.declared.rule.Decision.{Decision}
use Rattle.fault_plan.specs.declared.rule.Decision.TheVariants.{Ready, ZeroFill, FromFile, CopyOut, TakeOver, SwapIn, Segv, Denied, Bus}

abbrev pub lies_past_end : List (List ℕ) → Option Cell → Bool
lies_past_end files None = false
lies_past_end files (Some cell) = is_past_end files cell

abbrev pub refusal : Decision → ℕ → Option Reply
refusal Segv page = Some (reply.Segv (4096 * page))
refusal Denied page = Some (reply.Denied (4096 * page))
refusal Bus page = Some (reply.Bus (4096 * page))
refusal Ready page = None
refusal TakeOver page = None
refusal ZeroFill page = None
refusal FromFile page = None
refusal SwapIn page = None
refusal CopyOut page = None

abbrev pub takes_frame : Decision → Bool
takes_frame ZeroFill = true
takes_frame FromFile = true
takes_frame SwapIn = true
takes_frame CopyOut = true
takes_frame Ready = false
takes_frame TakeOver = false
takes_frame Segv = false
takes_frame Denied = false
takes_frame Bus = false

-- A page that was not touched before came from zeros or from its file, and any other from what it came from before.
abbrev pub comes_from : Decision → Cell → Backing
comes_from ZeroFill cell = backing.Zero
comes_from FromFile (File perm file index) = backing.File file index
comes_from decision cell = backing_of cell
