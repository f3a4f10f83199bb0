-- Which wants of a call take a number.
--     wants_take      those by whose pages the page map grants frames and slots
use Rattle.std.specs.Prelude.{◌≡◌, ℕ, ◌/◌, Bool, true, false, cond, ◌&&◌, List, [], ◌∷◌, ◌++◌, map, length, Option, Some, None}
use Rattle.std.specs.Option.{option_map_or}
use Rattle.std.specs.List.{filter, flat_map}
use Rattle.std.specs.FinMap as fin
use Rattle.std.proofs.Common.{sym, refl, ◌∙◌, ap}
use Rattle.corten_base.specs.declared.calls.Call.TheVariants as call
use Rattle.table_place.specs.Range.{within}
use Rattle.page_map.specs.declared.cell.Cell.{Cell}
use Rattle.page_map.specs.declared.cell.Cell.TheVariants.{Anon, File, Mapped, Swapped}
use Rattle.page_map.specs.Access.{Access, first_page, page_count, wants_frame, wanting_frames}
use Rattle.page_map.specs.State.{State, AddressSpace, space_at}
use Rattle.page_map.specs.Swap.{goes_out, comes_in}
use Rattle.table_place.specs.Place.{pages_of}
use Rattle.machine_plan.specs.declared.kit.Want.{Want}
use Rattle.machine_plan.specs.Uses.{access_want, out_want, in_want, wanted_at, wants_in, wants_of}
use Rattle.machine_plan.specs.Wanting.{takes_frame, takes_slot, taking, WantsTake}

abbrev any_taken : (Want → Bool) → Option Want → Bool
any_taken takes wanted = option_map_or takes wanted false

firsts : {A : Type 0} (b : Bool) (e : ℕ × A) (es : List (ℕ × A)) → map (λ x. x.0) (cond b (e ∷ es) es) ≡ cond b (e.0 ∷ map (λ x. x.0) es) (map (λ x. x.0) es)
firsts true e es = refl
firsts false e es = refl

module _ (takes : Want → Bool) where
  one_more : (page : ℕ) (wanted : Option Want) (more : List (ℕ × Want))
      → taking takes (option_map_or (λ w. (page, w) ∷ []) wanted [] ++ more) ≡ cond (any_taken takes wanted) (page ∷ taking takes more) (taking takes more)
  one_more page None more = refl
  one_more page (Some w) more = firsts (takes w) (page, w) (filter (λ w. takes w.1) more)

  module _ (wants : Cell → Option Want) where
    none_taken : ((c : Cell) → any_taken takes (wants c) ≡ false) → (es : List (ℕ × Cell)) → taking takes (flat_map (wanted_at wants) es) ≡ []
    none_taken untaken [] = refl
    none_taken untaken (e ∷ es) =
        let rest = taking takes (flat_map (wanted_at wants) es) in
        one_more e.0 (wants e.1) (flat_map (wanted_at wants) es) ∙ ap (λ b. cond b (e.0 ∷ rest) rest) (untaken e.1) ∙ none_taken untaken es

    module _ (passes : Cell → Bool) (same : (c : Cell) → any_taken takes (wants c) ≡ passes c) where
      next_taken : (inside : Bool) (e : ℕ × Cell) (xs ys : List (ℕ × Cell)) → taking takes (flat_map (wanted_at wants) xs) ≡ map (λ x. x.0) ys
          → taking takes (flat_map (wanted_at wants) (cond inside (e ∷ xs) xs)) ≡ map (λ x. x.0) (cond (inside && passes e.1) (e ∷ ys) ys)
      next_taken false e xs ys rest = rest
      next_taken true e xs ys rest =
          let before = taking takes (flat_map (wanted_at wants) xs) in
          one_more e.0 (wants e.1) (flat_map (wanted_at wants) xs)
          ∙ ap (λ b. cond b (e.0 ∷ before) before) (same e.1)
          ∙ ap (λ (t : List ℕ). cond (passes e.1) (e.0 ∷ t) t) rest
          ∙ sym (firsts (passes e.1) e ys)

      taken : (first count : ℕ) (es : List (ℕ × Cell))
          → taking takes (flat_map (wanted_at wants) (filter (λ e. within first count e.0) es)) ≡ map (λ e. e.0) (filter (λ e. within first count e.0 && passes e.1) es)
      taken first count [] = refl
      taken first count (e ∷ es) =
          next_taken (within first count e.0) e (filter (λ x. within first count x.0) es) (filter (λ x. within first count x.0 && passes x.1) es) (taken first count es)

-- A cell's want

module _ (st : State) where
  access_frame : (write : Bool) (c : Cell) → any_taken (takes_frame st) (access_want write c) ≡ wants_frame st write c
  access_frame write (Anon perm) = refl
  access_frame write (File perm file index) = refl
  access_frame true (Mapped perm origin frame bytes) = refl
  access_frame false (Mapped perm origin frame bytes) = refl
  access_frame write (Swapped perm origin slot bytes) = refl

  access_slot : (write : Bool) (c : Cell) → any_taken (takes_slot st) (access_want write c) ≡ false
  access_slot write (Anon perm) = refl
  access_slot write (File perm file index) = refl
  access_slot true (Mapped perm origin frame bytes) = refl
  access_slot false (Mapped perm origin frame bytes) = refl
  access_slot write (Swapped perm origin slot bytes) = refl

  out_frame : (c : Cell) → any_taken (takes_frame st) (out_want c) ≡ false
  out_frame (Anon perm) = refl
  out_frame (File perm file index) = refl
  out_frame (Mapped perm origin frame bytes) = refl
  out_frame (Swapped perm origin slot bytes) = refl

  out_slot : (c : Cell) → any_taken (takes_slot st) (out_want c) ≡ goes_out st c
  out_slot (Anon perm) = refl
  out_slot (File perm file index) = refl
  out_slot (Mapped perm origin frame bytes) = refl
  out_slot (Swapped perm origin slot bytes) = refl

  in_frame : (c : Cell) → any_taken (takes_frame st) (in_want c) ≡ comes_in c
  in_frame (Anon perm) = refl
  in_frame (File perm file index) = refl
  in_frame (Mapped perm origin frame bytes) = refl
  in_frame (Swapped perm origin slot bytes) = refl

  in_slot : (c : Cell) → any_taken (takes_slot st) (in_want c) ≡ false
  in_slot (Anon perm) = refl
  in_slot (File perm file index) = refl
  in_slot (Mapped perm origin frame bytes) = refl
  in_slot (Swapped perm origin slot bytes) = refl

  -- Calls

  inside : (cells : AddressSpace) (first count : ℕ) → List (ℕ × Cell)
  inside cells first count = filter (λ e. within first count e.0) (fin.entries cells)

  abbrev accessed : ℕ → Access → List (ℕ × Want)
  accessed space a = wants_in (space_at st space) (first_page a) (page_count a) (access_want a.write)

  access_takes : (space : ℕ) (a : Access) → (taking (takes_frame st) (accessed space a) ≡ wanting_frames st (space_at st space) a) × (taking (takes_slot st) (accessed space a) ≡ [])
  unfolding inside
  access_takes space a = (
    taken (takes_frame st) (access_want a.write) (wants_frame st a.write) (access_frame a.write) (first_page a) (page_count a) (fin.entries (space_at st space)),
    none_taken (takes_slot st) (access_want a.write) (access_slot a.write) (inside (space_at st space) (first_page a) (page_count a)),
  )

pub wants_take : WantsTake
unfolding wants_of inside
wants_take st (call.Map space where_to len perm what) = (refl, refl)
wants_take st (call.Unmap space at len) = (refl, refl)
wants_take st (call.Protect space at len perm) = (refl, refl)
wants_take st (call.Load space at len) = access_takes st space (record { at = at; len = len; write = false; stored = [] })
wants_take st (call.Store space at bytes) = access_takes st space (record { at = at; len = length bytes; write = true; stored = bytes })
wants_take st (call.Fault space at write) = access_takes st space (record { at = at; len = 1; write = write; stored = [] })
wants_take st call.Spawn = (refl, refl)
wants_take st (call.Fork space) = (refl, refl)
wants_take st (call.Exit space) = (refl, refl)
wants_take st (call.SwapOut space at len) = (
  none_taken (takes_frame st) out_want (out_frame st) (inside st (space_at st space) (at / 4096) (pages_of len)),
  taken (takes_slot st) out_want (goes_out st) (out_slot st) (at / 4096) (pages_of len) (fin.entries (space_at st space)),
)
wants_take st (call.SwapIn space at len) = (
  taken (takes_frame st) in_want comes_in (in_frame st) (at / 4096) (pages_of len) (fin.entries (space_at st space)),
  none_taken (takes_slot st) in_want (in_slot st) (inside st (space_at st space) (at / 4096) (pages_of len)),
)
wants_take st (call.Txn space at len ops) = (refl, refl)
wants_take st (call.DontNeed space at len) = (refl, refl)
wants_take st (call.Remap space at old_len new_len) = (refl, refl)
