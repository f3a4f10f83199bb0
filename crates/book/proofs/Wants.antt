-- A frame that is to be copied has an owner.
use Rattle.std.proofs.Common.{◌≡◌, ℕ, ◌≤◌, ◌/◌, Bool, true, false, cond, List, [], ◌∷◌, ◌++◌, refl, sym, subst}
use Rattle.std.specs.Prelude.{Option, Some, None, length}
use Rattle.std.specs.List.{All, AllByRecursion, filter, flat_map}
use Rattle.std.specs.Option.{option_map_or}
use Rattle.std.specs.FinMap as fin
use Rattle.std.proofs.lemmas.List.Elements.{All-nil, All-cons}
use Rattle.corten_base.specs.declared.calls.Call.{Call}
use Rattle.corten_base.specs.declared.calls.Call.TheVariants as call
use Rattle.table_place.specs.Range.{within}
use Rattle.table_place.specs.Place.{pages_of}
use Rattle.page_map.specs.declared.cell.Cell.{Cell}
use Rattle.page_map.specs.declared.cell.Cell.TheVariants.{Anon, File, Mapped, Swapped}
use Rattle.page_map.specs.Access.{Access, first_page, page_count}
use Rattle.page_map.specs.Cell.{frame_of}
use Rattle.page_map.specs.State.{AddressSpace, space_at, cell_at}
use Rattle.page_map.proofs.Few.{each_entry}
use Rattle.page_map.proofs.Owners.{an_owner, same_some}
use Rattle.page_map.proofs.Steps.{not_none}
use Rattle.machine_plan.specs.declared.kit.Want.{Want}
use Rattle.machine_plan.specs.Books.{BookData, state_of}
use Rattle.machine_plan.specs.Whole.{IsBook}
use Rattle.machine_plan.specs.Uses.{access_want, out_want, in_want, wanted_at, wants_in, wants_of}
use Rattle.book.specs.Granting.{is_used, AreUsed}

module _ (counts : List ℕ) where
  abbrev Used : ℕ × Want → Type 0
  Used w = is_used counts w.1

  abbrev UsedSo : (Cell → Option Want) → Cell → Type 0
  UsedSo wants c = (w : Want) → wants c ≡ Some w → is_used counts w

  each_want : (wants : Cell → Option Want) (first count : ℕ) (es : List (ℕ × Cell)) → AllByRecursion (λ (e : ℕ × Cell). UsedSo wants e.1) es → All Used (flat_map (wanted_at wants) (filter (λ e. within first count e.0) es))
  each_want wants first count [] h = All-nil Used
  each_want wants first count (e ∷ es) h = go (within first count e.0) (each_want wants first count es h.1)
    where
      one : (o : Option Want) (more : List (ℕ × Want)) → ((w : Want) → o ≡ Some w → is_used counts w) → All Used more → All Used (option_map_or (λ w. (e.0, w) ∷ []) o [] ++ more)
      one None more h rest = rest
      one (Some w) more h rest = All-cons Used (e.0, w) more (h w refl) rest

      go : (b : Bool) → All Used (flat_map (wanted_at wants) (filter (λ e. within first count e.0) es)) → All Used (flat_map (wanted_at wants) (cond b (e ∷ filter (λ e. within first count e.0) es) (filter (λ e. within first count e.0) es)))
      go true rest = one (wants e.1) _ h.0 rest
      go false rest = rest

  used_in_space : (wants : Cell → Option Want) (cells : AddressSpace) (first count : ℕ) → ((k : ℕ) (c : Cell) → fin.get cells k ≡ Some c → UsedSo wants c) → AreUsed counts (wants_in cells first count wants)
  used_in_space wants cells first count each = each_want wants first count (fin.entries cells) (each_entry (λ k c. UsedSo wants c) cells each)

module _ (b : BookData) (is : IsBook b) where
  access_used : (write : Bool) (space page : ℕ) (c : Cell) → cell_at (state_of b) space page ≡ Some c → UsedSo b.frames.counts (access_want write) c
  access_used write space page (Anon perm) there w e = subst (λ (w : Want). is_used b.frames.counts w) (same_some e) tt
  access_used write space page (File perm file index) there w e = subst (λ (w : Want). is_used b.frames.counts w) (same_some e) tt
  access_used true space page (Mapped perm origin frame bytes) there w e =
      subst (λ (w : Want). is_used b.frames.counts w) (same_some e) (subst (λ n. 1 ≤ n) (sym (is.counts.frames frame)) (an_owner frame_of frame (state_of b) space page (Mapped perm origin frame bytes) there refl))
  access_used false space page (Mapped perm origin frame bytes) there w e = absurd (not_none (sym e))
  access_used write space page (Swapped perm origin slot bytes) there w e = subst (λ (w : Want). is_used b.frames.counts w) (same_some e) tt

  out_used : (c : Cell) → UsedSo b.frames.counts out_want c
  out_used (Mapped perm origin frame bytes) w e = subst (λ (w : Want). is_used b.frames.counts w) (same_some e) tt
  out_used (Anon perm) w e = absurd (not_none (sym e))
  out_used (File perm file index) w e = absurd (not_none (sym e))
  out_used (Swapped perm origin slot bytes) w e = absurd (not_none (sym e))

  in_used : (c : Cell) → UsedSo b.frames.counts in_want c
  in_used (Swapped perm origin slot bytes) w e = subst (λ (w : Want). is_used b.frames.counts w) (same_some e) tt
  in_used (Anon perm) w e = absurd (not_none (sym e))
  in_used (File perm file index) w e = absurd (not_none (sym e))
  in_used (Mapped perm origin frame bytes) w e = absurd (not_none (sym e))

  by_access : (space : ℕ) (a : Access) → AreUsed b.frames.counts (wants_in (space_at (state_of b) space) (first_page a) (page_count a) (access_want a.write))
  by_access space a = used_in_space b.frames.counts (access_want a.write) (space_at (state_of b) space) (first_page a) (page_count a) (λ k c. access_used a.write space k c)

  pub used_wants : (c : Call) → AreUsed b.frames.counts (wants_of (state_of b) c)
  unfolding wants_of
  used_wants (call.SwapOut space at len) = used_in_space b.frames.counts out_want (space_at (state_of b) space) (at / 4096) (pages_of len) (λ k c there. out_used c)
  used_wants (call.SwapIn space at len) = used_in_space b.frames.counts in_want (space_at (state_of b) space) (at / 4096) (pages_of len) (λ k c there. in_used c)
  used_wants (call.Load space at len) = by_access space (record { at = at; len = len; write = false; stored = [] })
  used_wants (call.Store space at bytes) = by_access space (record { at = at; len = length bytes; write = true; stored = bytes })
  used_wants (call.Fault space at write) = by_access space (record { at = at; len = 1; write = write; stored = [] })
  used_wants (call.Map space where_to len perm what) = All-nil (Used b.frames.counts)
  used_wants (call.Unmap space at len) = All-nil (Used b.frames.counts)
  used_wants (call.Protect space at len perm) = All-nil (Used b.frames.counts)
  used_wants call.Spawn = All-nil (Used b.frames.counts)
  used_wants (call.Fork space) = All-nil (Used b.frames.counts)
  used_wants (call.Exit space) = All-nil (Used b.frames.counts)
  used_wants (call.Txn space at len ops) = All-nil (Used b.frames.counts)
  used_wants (call.DontNeed space at len) = All-nil (Used b.frames.counts)
  used_wants (call.Remap space at old_len new_len) = All-nil (Used b.frames.counts)
