-- The access rule of one page: what an access to it does first, or why it is refused.
--     Allows, Lacks      whether the page's permissions allow the access, or lack what it needs
--     IsAnon, IsFile, IsMapped, IsSwapped      what stands at the page
--     Rule      the rule's table: when each decision is the right one
use Rattle.std.specs.Prelude.{◌≡◌, ℕ, ◌≤◌, Bool, true, false, cond}
use Rattle.page_map.specs.Cell.{can_read, can_write}
use Rattle.corten_base.specs.declared.permissions.Perm.{Perm}
use Rattle.corten_base.specs.declared.numbers.Status.{Status}
use Rattle.corten_base.specs.declared.numbers.Status.TheVariants.{Invalid, Anon, File, Mapped, Swapped}
use Rattle.fault_plan.specs.declared.rule.Decision.{Decision}
use Rattle.fault_plan.specs.declared.rule.Decision.TheVariants.{Ready, ZeroFill, FromFile, CopyOut, TakeOver, SwapIn, Segv, Denied, Bus}

-- a write needs the write permission, a read needs the read permission
abbrev pub permits : Bool → Perm → Bool
permits write perm = cond write (can_write perm) (can_read perm)

abbrev pub Allows : Bool → Status → Type 0
Allows write Invalid = ⊥
Allows write (Anon perm) = permits write perm ≡ true
Allows write (File perm file index) = permits write perm ≡ true
Allows write (Mapped perm frame) = permits write perm ≡ true
Allows write (Swapped perm slot) = permits write perm ≡ true

abbrev pub Lacks : Bool → Status → Type 0
Lacks write Invalid = ⊥
Lacks write (Anon perm) = permits write perm ≡ false
Lacks write (File perm file index) = permits write perm ≡ false
Lacks write (Mapped perm frame) = permits write perm ≡ false
Lacks write (Swapped perm slot) = permits write perm ≡ false

abbrev pub IsInvalid : Status → Type 0
IsInvalid Invalid = Unit {0}
IsInvalid (Anon perm) = ⊥
IsInvalid (File perm file index) = ⊥
IsInvalid (Mapped perm frame) = ⊥
IsInvalid (Swapped perm slot) = ⊥

abbrev pub IsAnon : Status → Type 0
IsAnon Invalid = ⊥
IsAnon (Anon perm) = Unit {0}
IsAnon (File perm file index) = ⊥
IsAnon (Mapped perm frame) = ⊥
IsAnon (Swapped perm slot) = ⊥

abbrev pub IsFile : Status → Type 0
IsFile Invalid = ⊥
IsFile (Anon perm) = ⊥
IsFile (File perm file index) = Unit {0}
IsFile (Mapped perm frame) = ⊥
IsFile (Swapped perm slot) = ⊥

abbrev pub IsMapped : Status → Type 0
IsMapped Invalid = ⊥
IsMapped (Anon perm) = ⊥
IsMapped (File perm file index) = ⊥
IsMapped (Mapped perm frame) = Unit {0}
IsMapped (Swapped perm slot) = ⊥

abbrev pub IsSwapped : Status → Type 0
IsSwapped Invalid = ⊥
IsSwapped (Anon perm) = ⊥
IsSwapped (File perm file index) = ⊥
IsSwapped (Mapped perm frame) = ⊥
IsSwapped (Swapped perm slot) = Unit {0}

-- The table: Rule d cell write owners past_end says that d is the decision for an access to a page where the cell
-- stands, whose frame has so many owners, and whose page of a file lies past the file's end.
abbrev pub Rule : Decision → Status → Bool → ℕ → Bool → Type 0
-- nothing is mapped
Rule Segv cell write owners past_end = IsInvalid cell
-- the permission is missing
Rule Denied cell write owners past_end = Lacks write cell
-- a page of a file past its end
Rule Bus cell write owners past_end = Allows write cell × IsFile cell × (past_end ≡ true)
-- a first touch brings zeros, or the file's page
Rule ZeroFill cell write owners past_end = Allows write cell × IsAnon cell
Rule FromFile cell write owners past_end = Allows write cell × IsFile cell × (past_end ≡ false)
-- a page in swap comes back
Rule SwapIn cell write owners past_end = Allows write cell × IsSwapped cell
-- a frame is read as it is, written in place by its only owner, and copied before one of several owners writes
Rule Ready cell write owners past_end = Allows write cell × IsMapped cell × (write ≡ false)
Rule TakeOver cell write owners past_end = Allows write cell × IsMapped cell × (write ≡ true) × (owners ≡ 1)
Rule CopyOut cell write owners past_end = Allows write cell × IsMapped cell × (write ≡ true) × (2 ≤ owners)
