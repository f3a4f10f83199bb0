-- No reply but that page tables are wanting says so, and it comes where the free rows within the limit are too few.
use Rattle.std.proofs.Common.{◌≡◌, ℕ, ◌*◌, Bool, true, false, cond, List, [], ◌∷◌, length, refl, sym, ap, ◌∙◌}
use Rattle.std.specs.Prelude.{Option, Some, None}
use Rattle.std.specs.Option.{option_map, option_and_then}
use Rattle.std.specs.List.{AllByRecursion}
use Rattle.corten_base.specs.declared.calls.Call.{Call}
use Rattle.corten_base.specs.declared.calls.Call.TheVariants as call
use Rattle.corten_base.specs.declared.calls.MapPlace.TheVariants as place
use Rattle.corten_base.specs.declared.calls.Reply.{Reply}
use Rattle.corten_base.specs.declared.calls.Reply.TheVariants as reply
use Rattle.corten_base.specs.declared.calls.Why.{Why}
use Rattle.corten_base.specs.declared.calls.Why.TheVariants as why
use Rattle.page_map.specs.declared.cell.Cell.{Cell}
use Rattle.page_map.specs.State.{State, AddressSpace, is_present}
use Rattle.page_map.specs.Cell.{is_past_end}
use Rattle.page_map.specs.Access.{Access, allows, refused_at, refused_access}
use Rattle.page_map.specs.Effect.{answer, space_of}
use Rattle.machine_plan.specs.Limbo.{is_short}
use Rattle.page_map.specs.Step.{first_refusal, refused_unless, reply_why, arguments, no_space, no_spaces, no_place, pages, no_frames, no_swap}
use Rattle.machine_plan.specs.Uses.{early_refusal}
use Rattle.page_map.proofs.Steps.{not_none}
use Rattle.page_map.proofs.Owners.{same_some}
use Rattle.page_map.proofs.Least.{answered}

abbrev ShowsNone : Option Reply → Type 0
ShowsNone o = (r : Reply) → o ≡ Some r → is_short r ≡ false

shows_not : ShowsNone None
shows_not r e = absurd (not_none (sym e))

shows_by : (r : Reply) → is_short r ≡ false → ShowsNone (Some r)
shows_by r h s e = ap is_short (sym (same_some e)) ∙ h

shows_unless : (b : Bool) (r : Reply) → is_short r ≡ false → ShowsNone (refused_unless b r)
shows_unless true r h = shows_not
shows_unless false r h = shows_by r h

shows_where : (b : Bool) (r : Reply) → is_short r ≡ false → ShowsNone (cond b (Some r) None)
shows_where true r h = shows_by r h
shows_where false r h = shows_not

shows_each : {A : Type 0} (f : A → Reply) (o : Option A) → ((x : A) → is_short (f x) ≡ false) → ShowsNone (option_map f o)
shows_each f None h = shows_not
shows_each f (Some x) h = shows_by (f x) (h x)

shows_then : {A : Type 0} (f : A → Option Reply) (o : Option A) → ((x : A) → ShowsNone (f x)) → ShowsNone (option_and_then f o)
shows_then f None h = shows_not
shows_then f (Some x) h = h x

shows_at : (files : List (List ℕ)) (write : Bool) (page : ℕ) (o : Option Cell) → ShowsNone (refused_at files write page o)
shows_at files write page None = shows_by (reply.Segv (4096 * page)) refl
shows_at files write page (Some cell) = go (allows write cell)
  where
    go : (b : Bool) → ShowsNone (cond b (cond (is_past_end files cell) (Some (reply.Bus (4096 * page))) None) (Some (reply.Denied (4096 * page))))
    go true = shows_where (is_past_end files cell) (reply.Bus (4096 * page)) refl
    go false = shows_by (reply.Denied (4096 * page)) refl

shows_access : (files : List (List ℕ)) (cells : AddressSpace) (a : Access) → ShowsNone (refused_access files cells a)
shows_access files cells a r e = let at = answered _ _ _ r e in shows_at files a.write at.0 _ r at.1.2

shows_why : (w : Why) → is_short (reply_why w) ≡ false
shows_why why.Einval = refl
shows_why (why.Exists at) = refl
shows_why (why.Hole at) = refl

module _ (st : State) (thread : ℕ) where
  shows_arguments : (c : Call) → ShowsNone (arguments st c)
  shows_arguments (call.Map space place.Any len perm what) = shows_unless _ reply.Einval refl
  shows_arguments (call.Map space (place.At at) len perm what) = shows_unless _ reply.Einval refl
  shows_arguments (call.Map space (place.New at) len perm what) = shows_unless _ reply.Einval refl
  shows_arguments (call.Unmap space at len) = shows_unless _ reply.Einval refl
  shows_arguments (call.Protect space at len perm) = shows_unless _ reply.Einval refl
  shows_arguments (call.SwapOut space at len) = shows_unless _ reply.Einval refl
  shows_arguments (call.SwapIn space at len) = shows_unless _ reply.Einval refl
  shows_arguments (call.Txn space at len ops) = shows_unless _ reply.Einval refl
  shows_arguments (call.DontNeed space at len) = shows_unless _ reply.Einval refl
  shows_arguments (call.Remap space at old_len new_len) = shows_unless _ reply.Einval refl
  shows_arguments (call.Load space at len) = shows_each (λ page. reply.Segv (4096 * page)) _ (λ page. refl)
  shows_arguments (call.Store space at bytes) = shows_each (λ page. reply.Segv (4096 * page)) _ (λ page. refl)
  shows_arguments (call.Fault space at write) = shows_each (λ page. reply.Segv (4096 * page)) _ (λ page. refl)
  shows_arguments call.Spawn = shows_not
  shows_arguments (call.Fork space) = shows_not
  shows_arguments (call.Exit space) = shows_not

  shows_spaces : (c : Call) → ShowsNone (no_spaces st c)
  shows_spaces call.Spawn = shows_unless _ reply.NoSpaces refl
  shows_spaces (call.Fork space) = shows_unless _ reply.NoSpaces refl
  shows_spaces (call.Map space where_to len perm what) = shows_not
  shows_spaces (call.Unmap space at len) = shows_not
  shows_spaces (call.Protect space at len perm) = shows_not
  shows_spaces (call.SwapOut space at len) = shows_not
  shows_spaces (call.SwapIn space at len) = shows_not
  shows_spaces (call.Txn space at len ops) = shows_not
  shows_spaces (call.DontNeed space at len) = shows_not
  shows_spaces (call.Remap space at old_len new_len) = shows_not
  shows_spaces (call.Load space at len) = shows_not
  shows_spaces (call.Store space at bytes) = shows_not
  shows_spaces (call.Fault space at write) = shows_not
  shows_spaces (call.Exit space) = shows_not

  shows_place : (c : Call) → ShowsNone (no_place st thread c)
  shows_place (call.Map space place.Any len perm what) = shows_unless _ reply.NoRoom refl
  shows_place (call.Map space (place.At at) len perm what) = shows_not
  shows_place (call.Map space (place.New at) len perm what) = shows_each reply_why _ shows_why
  shows_place (call.Unmap space at len) = shows_not
  shows_place (call.Protect space at len perm) = shows_not
  shows_place (call.SwapOut space at len) = shows_not
  shows_place (call.SwapIn space at len) = shows_not
  shows_place (call.Txn space at len ops) = shows_not
  shows_place (call.DontNeed space at len) = shows_not
  shows_place (call.Remap space at old_len new_len) = shows_unless _ reply.NoRoom refl
  shows_place (call.Load space at len) = shows_not
  shows_place (call.Store space at bytes) = shows_not
  shows_place (call.Fault space at write) = shows_not
  shows_place call.Spawn = shows_not
  shows_place (call.Fork space) = shows_not
  shows_place (call.Exit space) = shows_not

  shows_pages : (c : Call) → ShowsNone (pages st c)
  shows_pages (call.Protect space at len perm) = shows_each reply_why _ shows_why
  shows_pages (call.Txn space at len ops) = shows_each (λ (u : ℕ × Why). reply.Undone u.0 u.1) _ (λ u. refl)
  shows_pages (call.DontNeed space at len) = shows_each (λ page. reply.Hole (4096 * page)) _ (λ page. refl)
  shows_pages (call.Remap space at old_len new_len) = shows_each (λ page. reply.Hole (4096 * page)) _ (λ page. refl)
  shows_pages (call.Load space at len) = shows_access st.files _ (record { at = at; len = len; write = false; stored = [] })
  shows_pages (call.Store space at bytes) = shows_access st.files _ (record { at = at; len = length bytes; write = true; stored = bytes })
  shows_pages (call.Fault space at write) = shows_access st.files _ (record { at = at; len = 1; write = write; stored = [] })
  shows_pages (call.Map space where_to len perm what) = shows_not
  shows_pages (call.Unmap space at len) = shows_not
  shows_pages (call.SwapOut space at len) = shows_not
  shows_pages (call.SwapIn space at len) = shows_not
  shows_pages call.Spawn = shows_not
  shows_pages (call.Fork space) = shows_not
  shows_pages (call.Exit space) = shows_not

  first_shows : (rs : List (Option Reply)) → AllByRecursion ShowsNone rs → ShowsNone (first_refusal rs)
  first_shows [] h = shows_not
  first_shows (None ∷ rs) h = first_shows rs h.1
  first_shows (Some r ∷ rs) h = h.0

  -- the steps before the tables
  pub early_shows : (c : Call) (r : Reply) → early_refusal st thread c ≡ Some r → is_short r ≡ false
  early_shows c = first_shows (arguments st c ∷ no_space st c ∷ no_spaces st c ∷ no_place st thread c ∷ pages st c ∷ []) (
    shows_arguments c,
    (
      shows_then (λ space. refused_unless (is_present st space) reply.NoSpace) (space_of c) (λ space. shows_unless (is_present st space) reply.NoSpace refl),
      (shows_spaces c, (shows_place c, (shows_pages c, tt))),
    ),
  )

  -- the steps after them
  pub late_shows : (c : Call) (r : Reply) → first_refusal (no_frames st c ∷ no_swap st c ∷ []) ≡ Some r → is_short r ≡ false
  late_shows c = first_shows (no_frames st c ∷ no_swap st c ∷ []) (shows_where _ (reply.NoFrames _ _) refl, (shows_where _ (reply.NoSwap _ _) refl, tt))

pub answer_shows : (st : State) (thread : ℕ) (c : Call) → is_short (answer st thread c) ≡ false
unfolding answer
answer_shows st thread (call.Map space where_to len perm what) = refl
answer_shows st thread (call.Unmap space at len) = refl
answer_shows st thread (call.Protect space at len perm) = refl
answer_shows st thread (call.Load space at len) = refl
answer_shows st thread (call.Store space at bytes) = refl
answer_shows st thread (call.Fault space at write) = refl
answer_shows st thread call.Spawn = refl
answer_shows st thread (call.Fork space) = refl
answer_shows st thread (call.Exit space) = refl
answer_shows st thread (call.SwapOut space at len) = refl
answer_shows st thread (call.SwapIn space at len) = refl
answer_shows st thread (call.Txn space at len ops) = refl
answer_shows st thread (call.DontNeed space at len) = refl
answer_shows st thread (call.Remap space at old_len new_len) = refl
