-- The access rule's table has a decision for each case.
use Rattle.std.proofs.Common.{◌≡◌, ℕ, zero, suc, ◌≤◌, Bool, true, false, refl, arith, inl, inr}
use Rattle.std.specs.Prelude.{◌⊎◌}
use Rattle.corten_base.specs.declared.numbers.Status.{Status}
use Rattle.corten_base.specs.declared.numbers.Status.TheVariants.{Invalid, Anon, File, Mapped, Swapped}
use Rattle.fault_plan.specs.declared.rule.Decision.{Decision}
use Rattle.fault_plan.specs.declared.rule.Decision.TheVariants.{Ready, ZeroFill, FromFile, CopyOut, TakeOver, SwapIn, Segv, Denied, Bus}
use Rattle.fault_plan.specs.Access.{Rule, IsMapped, permits}

choice : (b : Bool) → (b ≡ true) ⊎ (b ≡ false)
choice true = inl refl
choice false = inr refl

pub covers : (cell : Status) (write : Bool) (owners : ℕ) (past_end : Bool) → (IsMapped cell → 1 ≤ owners) → (d : Decision) × Rule d cell write owners past_end
covers Invalid write owners past_end h = (Segv, tt)
covers (Anon perm) write owners past_end h = elim (choice (permits write perm)) [ inl a ↦ (ZeroFill, (a, tt)) | inr l ↦ (Denied, l) ]
covers (File perm file index) write owners true h = elim (choice (permits write perm)) [ inl a ↦ (Bus, (a, tt, refl)) | inr l ↦ (Denied, l) ]
covers (File perm file index) write owners false h = elim (choice (permits write perm)) [ inl a ↦ (FromFile, (a, tt, refl)) | inr l ↦ (Denied, l) ]
covers (Swapped perm slot) write owners past_end h = elim (choice (permits write perm)) [ inl a ↦ (SwapIn, (a, tt)) | inr l ↦ (Denied, l) ]
covers (Mapped perm frame) false owners past_end h = elim (choice (permits false perm)) [ inl a ↦ (Ready, (a, tt, refl)) | inr l ↦ (Denied, l) ]
covers (Mapped perm frame) true zero past_end h = absurd (omega (arith, h tt))
covers (Mapped perm frame) true (suc zero) past_end h = elim (choice (permits true perm)) [ inl a ↦ (TakeOver, (a, tt, refl, refl)) | inr l ↦ (Denied, l) ]
covers (Mapped perm frame) true (suc (suc n)) past_end h =
    elim (choice (permits true perm)) [ inl a ↦ (CopyOut, (a, tt, refl, omega arith)) | inr l ↦ (Denied, l) ]
