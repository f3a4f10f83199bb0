-- What a page that is looked at refuses.
use Rattle.std.proofs.Common.{◌≡◌, ℕ, ◌+◌, ◌*◌, Bool, false, cond, ◌&&◌, List, length, refl, ap, arith}
use Rattle.std.specs.Prelude.{Option, Some, None, is_none, nat_le}
use Rattle.corten_base.specs.declared.calls.Backing.{Backing}
use Rattle.corten_base.specs.declared.calls.Backing.TheVariants as backing
use Rattle.corten_base.specs.declared.calls.Reply.TheVariants as reply
use Rattle.corten_base.specs.declared.permissions.Perm.{Perm}
use Rattle.page_map.specs.Cell.{can_read, can_write, contents, file_bytes, file_page, is_past_end}
use Rattle.page_map.specs.Access.{refused_at}
use Rattle.page_map.specs.Mapping.{backed}
use Rattle.page_runs.specs.declared.mark.Mark.{Mark}
use Rattle.space_cells.specs.declared.held.Number.{Number}
use Rattle.space_cells.specs.declared.held.Number.TheVariants.{Frame, Slot}
use Rattle.space_cells.specs.declared.held.HeldPage.{HeldPage}
use Rattle.space_cells.specs.Cells.{cell_of, numbered}
use Rattle.space_cells.proofs.Seen.{perm_of_cell}
use Rattle.plain_spaces.specs.Wants.{backing_bytes, lies_past}

module _ (files : List (List ℕ)) where
  past_backed : (what : Backing) (perm : Perm) → is_past_end files (backed what perm 0) ≡ lies_past files what
  past_backed backing.Zero perm = refl
  past_backed (backing.File file index) perm = ap (λ n. nat_le (length (file_bytes files file)) (4096 * n)) (same index)
    where
      same : (n : ℕ) → n + 0 ≡ n
      same n = omega arith

  past_numbered : (perm : Perm) (origin : Backing) (number : Number) (bytes : List ℕ) → is_past_end files (numbered perm origin number bytes) ≡ false
  past_numbered perm origin (Frame frame) bytes = refl
  past_numbered perm origin (Slot slot) bytes = refl

  past_seen : (mark : Mark) (held : Option HeldPage) → is_past_end files (cell_of mark held) ≡ (is_none held && lies_past files mark.backing)
  past_seen mark None = past_backed mark.backing mark.perm
  past_seen mark (Some held) = past_numbered mark.perm mark.backing held.number held.bytes

  pub refused_seen : (write : Bool) (page : ℕ) (mark : Mark) (held : Option HeldPage) →
      refused_at files write page (Some (cell_of mark held))
      ≡ cond (cond write (can_write mark.perm) (can_read mark.perm)) (cond (is_none held && lies_past files mark.backing) (Some (reply.Bus (4096 * page))) None) (Some (reply.Denied (4096 * page)))
  refused_seen write page mark held =
      (λ i. cond (cond write (can_write (perm_of_cell mark held i)) (can_read (perm_of_cell mark held i))) (cond (past_seen mark held i) (Some (reply.Bus (4096 * page))) None) (Some (reply.Denied (4096 * page))))

  bytes_backed : (what : Backing) (perm : Perm) → backing_bytes files what ≡ contents files (backed what perm 0)
  bytes_backed backing.Zero perm = refl
  bytes_backed (backing.File file index) perm = ap (file_page files file) (same index)
    where
      same : (n : ℕ) → n ≡ n + 0
      same n = omega arith

  pub bytes_seen : (mark : Mark) → backing_bytes files mark.backing ≡ contents files (cell_of mark None)
  bytes_seen mark = bytes_backed mark.backing mark.perm

  pub bytes_held : (mark : Mark) (held : HeldPage) → held.bytes ≡ contents files (cell_of mark (Some held))
  bytes_held mark held = go held.number
    where
      go : (number : Number) → held.bytes ≡ contents files (numbered mark.perm mark.backing number held.bytes)
      go (Frame frame) = refl
      go (Slot slot) = refl
