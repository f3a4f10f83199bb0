-- The replies of steps have lines: their addresses, numbers and bytes are within the bounds of the grammar.
use Rattle.std.proofs.Common.{◌≡◌, ℕ, zero, suc, ◌+◌, ◌*◌, ◌/◌, ◌%◌, ◌^◌, ◌<◌, ◌≤◌, Bool, true, false, cond, not, List, [], ◌∷◌, length, get_or, refl, sym, ap, subst, ◌∙◌, arith, inl, inr}
use mathlib.Core.Bool.{true≢false}
use Rattle.std.specs.Prelude.{Option, Some, None, is_some, is_none, nat_lt}
use Rattle.std.specs.Option.{unwrap_or, option_map, option_map_or, option_and_then, option_or}
use Rattle.std.specs.List.{All, range_with_len}
use Rattle.std.specs.FinMap as fin
use Rattle.std.specs.FinMap.{get-empty}
use Rattle.std.specs.Ordering.{nat_cmp}
use Rattle.std.proofs.lemmas.Bool.{and_parts, cases_eq}
use Rattle.std.proofs.lemmas.List.FromFn.{length-map-range_with_len}
use Rattle.std.proofs.lemmas.List.Elements.{All-nil, All-cons, All-head, All-tail, All-map}
use Rattle.corten_base.specs.declared.calls.Call.{Call}
use Rattle.corten_base.specs.declared.calls.Call.TheVariants as call
use Rattle.corten_base.specs.declared.permissions.Perm.{Perm}
use Rattle.corten_base.specs.declared.calls.Backing.{Backing}
use Rattle.corten_base.specs.declared.calls.MapPlace.{MapPlace}
use Rattle.corten_base.specs.declared.calls.MapPlace.TheVariants as place
use Rattle.corten_base.specs.declared.calls.Reply.{Reply}
use Rattle.corten_base.specs.declared.calls.Reply.TheVariants as reply
use Rattle.corten_base.specs.declared.calls.Why.{Why}
use Rattle.corten_base.specs.declared.calls.Why.TheVariants as why
use Rattle.corten_base.specs.declared.calls.TxnOp.{TxnOp}
use Rattle.corten_base.specs.declared.calls.TxnOp.TheVariants as op
use Rattle.table_place.specs.Range.{lies_in}
use Rattle.table_place.specs.Place.{root, is_user_page, is_page_range, pages_of}
use Rattle.page_map.specs.declared.cell.Cell.{Cell}
use Rattle.page_map.specs.declared.cell.Cell.TheVariants.{Anon, File, Mapped, Swapped}
use Rattle.page_map.specs.Cell.{frame_of, slot_of, contents, is_past_end}
use Rattle.page_map.specs.Alike.{unlike_tables}
use Rattle.page_map.specs.Change.{keys_in, least}
use Rattle.page_map.specs.Tables.{need}
use Rattle.page_map.specs.Access.{Access, first_page, page_count, allows, outside_user_pages, refused_at, refused_access, wants_frame, after_access}
use Rattle.page_map.specs.Mapping.{is_length, is_mappable, is_right, is_right_within, op_first, op_pages, hole, refused_op, why_undone, undone, after_op, gap}
use Rattle.page_map.specs.Remap.{Resize, resize_of, moves, put_at, remapped}
use Rattle.page_map.specs.Effect.{answer, space_of, placed_at, wanted_tables, frame_grants, wanting_frames_of, wanting_slots_of}
use Rattle.page_map.specs.Spaces.{least_absent, copied_tables}
use Rattle.page_map.specs.Swap.{goes_out, comes_in}
use Rattle.page_map.specs.Memory.{byte_at, bytes_at}
use Rattle.page_map.specs.Takes.{Grant}
use Rattle.page_map.specs.State.{State, AddressSpace, IsConsistent, SharersAgree, levels, linked, cell_at, is_present, space_at, unused_frames, unused_slots, frame_owners, slot_owners}
use Rattle.page_map.specs.Step.{step, refusal, first_refusal, refused_unless, reply_why, arguments, no_space, no_spaces, no_place, hole_reply, pages, no_tables, no_frames, no_swap}
use Rattle.page_map.proofs.Steps.{Passed, passed, not_none, refused, accepted}
use Rattle.page_map.proofs.Unmapped.{held_of}
use Rattle.page_map.proofs.Owners.{same_some}
use Rattle.page_map.proofs.Least.{answered, least_passes, none_below_least, unanswered}
use Rattle.page_map.proofs.Mappings.{page_range, user_few, gap_user}
use Rattle.page_map.proofs.NeedLaws.{dont_need_none, out_none, in_none}
use Rattle.page_map.proofs.Memory.{loaded_is}
use Rattle.page_map.proofs.Bounds.{few_pass}
use Rattle.mm_script.specs.CallLine.{IsCall, IsPlace, IsAccess}
use Rattle.mm_script.specs.ScriptText.{AreLimits}
use Rattle.history_lines.specs.Replies.{IsReply, IsWhy}
use Rattle.history_text.proofs.Amounts.{Below, nothing_needed, pages_few, need_listed, unlike_needs, copied_needs, ops_need, op_below, access_below, remapped_below, keys_below, keys_few, keys_nowhere}
use Rattle.history_text.proofs.ByteCells.{AreBytes, AreAllBytes}
use Rattle.history_lines.proofs.Closings.{few_unused}

-- ---- what a step may answer

abbrev Spelled : Option Reply → Type 0
Spelled o = (r : Reply) → o ≡ Some r → IsReply r

spelled_not : Spelled None
spelled_not r e = absurd (not_none (sym e))

spelled_by : (r : Reply) → IsReply r → Spelled (Some r)
spelled_by r h s e = subst IsReply (same_some e) h

spelled_unless : (b : Bool) (r : Reply) → IsReply r → Spelled (refused_unless b r)
spelled_unless true r h = spelled_not
spelled_unless false r h = spelled_by r h

spelled_where : (b : Bool) (r : Reply) → IsReply r → Spelled (cond b (Some r) None)
spelled_where true r h = spelled_by r h
spelled_where false r h = spelled_not

spelled_each : {A : Type 0} (f : A → Reply) (o : Option A) → ((x : A) → o ≡ Some x → IsReply (f x)) → Spelled (option_map f o)
spelled_each f None h = spelled_not
spelled_each f (Some x) h = spelled_by (f x) (h x refl)

-- ---- addresses

not_false : (b : Bool) → not b ≡ false → b ≡ true
not_false true h = refl
not_false false h = absurd (true≢false h)

-- an access touches two pages at most
record IsBounded (a : Access) : Type 0 where
  at : a.at < 2 ^ 64
  some : 1 ≤ a.len
  few : a.len ≤ 4096

two_pages : (a : Access) → IsBounded a → page_count a ≤ 2
two_pages a h = let few = h.few in omega (arith, few)

unmapped : {A B : Type 0} (f : A → B) (o : Option A) → option_map f o ≡ None → o ≡ None
unmapped f None e = refl
unmapped f (Some x) e = absurd (not_none e)

unless_found : (b : Bool) (n : ℕ) → cond b (Some n) None ≡ None → b ≡ false
unless_found false n e = refl
unless_found true n e = absurd (not_none e)

spelled_at : (files : List (List ℕ)) (write : Bool) (page : ℕ) (o : Option Cell) → page < 2 ^ 44 → Spelled (refused_at files write page o)
spelled_at files write page None small = spelled_by (reply.Segv (4096 * page)) (omega (arith, small))
spelled_at files write page (Some cell) small = go (allows write cell)
  where
    go : (b : Bool) → Spelled (cond b (cond (is_past_end files cell) (Some (reply.Bus (4096 * page))) None) (Some (reply.Denied (4096 * page))))
    go true = spelled_where (is_past_end files cell) (reply.Bus (4096 * page)) (omega (arith, small))
    go false = spelled_by (reply.Denied (4096 * page)) (omega (arith, small))

why_reply : (w : Why) → IsWhy w → IsReply (reply_why w)
why_reply why.Einval h = tt
why_reply (why.Exists at) h = h
why_reply (why.Hole at) h = h

-- the address of a page that was found in a range of user pages
module _ (levels : ℕ) (five : levels ≤ 5) where
  user_small : (page : ℕ) → is_user_page levels page ≡ true → page < 2 ^ 44
  user_small page h = omega (arith, user_few levels page 1 five h)

  outside_small : (a : Access) (page : ℕ) → IsBounded a → least (first_page a) (page_count a) (λ page. not (is_user_page levels page)) ≡ Some page → 4096 * page < 2 ^ 64
  outside_small a page h e = elim (cases_eq page (first_page a)) [
    | inl same ↦ let at = h.at in omega (arith, same, at)
    | inr other ↦ after other
  ]
    where
      after : (page ≡ first_page a → ⊥) → 4096 * page < 2 ^ 64
      after other =
          let found = least_passes (first_page a) (page_count a) (λ page. not (is_user_page levels page)) page e in
          let count = two_pages a h in
          let low : first_page a < page = omega (arith, found.0, other) in
          let first = user_small (first_page a) (not_false _ (none_below_least (λ page. not (is_user_page levels page)) (first_page a) (page_count a) page (first_page a) e (omega arith) low)) in
          omega (arith, found.1, count, first)

  spelled_outside : (a : Access) → IsBounded a → Spelled (outside_user_pages levels a)
  spelled_outside a h = spelled_each (λ page. reply.Segv (4096 * page)) (least (first_page a) (page_count a) (λ page. not (is_user_page levels page))) (λ page e. outside_small a page h e)

  -- where no page is outside, each page touched is a user page
  touched_user : (a : Access) (page : ℕ) → outside_user_pages levels a ≡ None → first_page a ≤ page → page < first_page a + page_count a → is_user_page levels page ≡ true
  touched_user a page none low high =
      not_false (is_user_page levels page) (unless_found (not (is_user_page levels page)) page
      (unanswered (λ n. cond (not (is_user_page levels n)) (Some n) None) (first_page a) (page_count a) (unmapped (λ page. reply.Segv (4096 * page)) _ none) page low high))

  spelled_access : (files : List (List ℕ)) (cells : AddressSpace) (a : Access) → outside_user_pages levels a ≡ None → Spelled (refused_access files cells a)
  spelled_access files cells a none r e =
      let at = answered _ _ _ r e in
      spelled_at files a.write at.0 _ (user_small at.0 (touched_user a at.0 none at.1.0 at.1.1)) r at.1.2

  -- a page of a range of user pages
  page_in : (at len page : ℕ) → is_page_range levels at len ≡ true → page < at / 4096 + pages_of len → 4096 * page < 2 ^ 64
  page_in at len page right inside = omega (arith, user_few levels (at / 4096) (pages_of len) five (page_range levels at len right).0, inside)

  found_spelled : (f : ℕ → Why) (at len : ℕ) (passes : ℕ → Bool) (w : Why) → ((page : ℕ) → 4096 * page < 2 ^ 64 → IsWhy (f page)) → is_page_range levels at len ≡ true
      → option_map f (least (at / 4096) (pages_of len) passes) ≡ Some w → IsWhy w
  found_spelled f at len passes w each right e = go (least (at / 4096) (pages_of len) passes) refl e
    where
      go : (o : Option ℕ) → least (at / 4096) (pages_of len) passes ≡ o → option_map f o ≡ Some w → IsWhy w
      go None is e = absurd (not_none (sym e))
      go (Some page) is e = subst IsWhy (same_some e) (each page (page_in at len page right (least_passes (at / 4096) (pages_of len) passes page is).1))

  -- why an operation with right arguments is refused
  op_spelled : (files : List (List ℕ)) (o : TxnOp) (cells : AddressSpace) (w : Why) → is_right levels files o ≡ true → refused_op o cells ≡ Some w → IsWhy w
  op_spelled files (op.Map at true len perm what) cells w right e =
      found_spelled (λ page. why.Exists (4096 * page)) at len (λ page. is_some (fin.get cells page)) w (λ page h. h) (and_parts (is_mappable levels files len what) (is_page_range levels at len) right).1 e
  op_spelled files (op.Map at false len perm what) cells w right e = absurd (not_none (sym e))
  op_spelled files (op.Unmap at len) cells w right e = absurd (not_none (sym e))
  op_spelled files (op.Protect at len perm) cells w right e = found_spelled (λ page. why.Hole (4096 * page)) at len (λ page. is_none (fin.get cells page)) w (λ page h. h) right e

  -- the first page of a range that has no cell
  hole_spelled : (cells : AddressSpace) (at len : ℕ) → is_page_range levels at len ≡ true → Spelled (hole_reply (hole cells at len))
  hole_spelled cells at len right =
      spelled_each (λ page. reply.Hole (4096 * page)) (hole cells at len) (λ page e. page_in at len page right (least_passes (at / 4096) (pages_of len) (λ page. is_none (fin.get cells page)) page e).1)

  -- the first operation of a transaction that is refused
  module _ (files : List (List ℕ)) (first count : ℕ) where
    why_spelled : (o : TxnOp) (cells : AddressSpace) (w : Why) → why_undone (is_right_within levels files first count) o cells ≡ Some w → IsWhy w
    why_spelled o cells w e = go (is_right_within levels files first count o) refl e
      where
        go : (b : Bool) → is_right_within levels files first count o ≡ b → cond b (refused_op o cells) (Some why.Einval) ≡ Some w → IsWhy w
        go false is e = subst IsWhy (same_some e) tt
        go true is e = op_spelled files o cells w (and_parts (is_right levels files o) (lies_in (op_first o) (op_pages o) first count) is).0 e

    undone_here : (o : TxnOp) (k : ℕ) (cells : AddressSpace) (rest : Option (ℕ × Why)) (u : ℕ × Why) → 1 ≤ k → k ≤ 16 → (rest ≡ Some u → IsReply (reply.Undone u.0 u.1))
        → (w : Option Why) → why_undone (is_right_within levels files first count) o cells ≡ w → option_or (option_map {U = ℕ × Why} (λ v. (k, v)) w) rest ≡ Some u → IsReply (reply.Undone u.0 u.1)
    undone_here o k cells rest u some few later None is e = later e
    undone_here o k cells rest u some few later (Some w) is e = subst (λ (v : ℕ × Why). IsReply (reply.Undone v.0 v.1)) (same_some e) ((some, few), why_spelled o cells w is)

    undone_spelled : (ops : List TxnOp) (k : ℕ) (cells : AddressSpace) (u : ℕ × Why) → 1 ≤ k → k + length ops ≤ 17 → undone (is_right_within levels files first count) k ops cells ≡ Some u → IsReply (reply.Undone u.0 u.1)
    undone_spelled [] k cells u some few e = absurd (not_none (sym e))
    undone_spelled (o ∷ ops) k cells u some few e =
        undone_here o k cells (undone (is_right_within levels files first count) (k + 1) ops (after_op o cells)) u some (omega (arith, few))
        (λ f. undone_spelled ops (k + 1) (after_op o cells) u (omega arith) (omega (arith, few)) f) (why_undone (is_right_within levels files first count) o cells) refl e

-- ---- a call that is refused

module _ (st : State) (thread limbo : ℕ) (ok : IsConsistent st) (hl : AreLimits st.limits) (room : linked st + limbo ≤ st.limits.tables) where
  spelled_arguments : (c : Call) → IsCall c → Spelled (arguments st c)
  spelled_arguments (call.Map space place.Any len perm what) h = spelled_unless _ reply.Einval tt
  spelled_arguments (call.Map space (place.At at) len perm what) h = spelled_unless _ reply.Einval tt
  spelled_arguments (call.Map space (place.New at) len perm what) h = spelled_unless _ reply.Einval tt
  spelled_arguments (call.Unmap space at len) h = spelled_unless _ reply.Einval tt
  spelled_arguments (call.Protect space at len perm) h = spelled_unless _ reply.Einval tt
  spelled_arguments (call.Load space at len) h = spelled_outside (levels st) ok.few_levels (record { at = at; len = len; write = false; stored = [] }) (record { at = h.1; some = h.2.0; few = h.2.1 })
  spelled_arguments (call.Store space at bytes) h = spelled_outside (levels st) ok.few_levels (record { at = at; len = length bytes; write = true; stored = bytes }) (record { at = h.1; some = h.2.0; few = h.2.1 })
  spelled_arguments (call.Fault space at write) h = spelled_outside (levels st) ok.few_levels (record { at = at; len = 1; write = write; stored = [] }) (record { at = h.1; some = omega arith; few = omega arith })
  spelled_arguments call.Spawn h = spelled_not
  spelled_arguments (call.Fork space) h = spelled_not
  spelled_arguments (call.Exit space) h = spelled_not
  spelled_arguments (call.SwapOut space at len) h = spelled_unless _ reply.Einval tt
  spelled_arguments (call.SwapIn space at len) h = spelled_unless _ reply.Einval tt
  spelled_arguments (call.Txn space at len ops) h = spelled_unless _ reply.Einval tt
  spelled_arguments (call.DontNeed space at len) h = spelled_unless _ reply.Einval tt
  spelled_arguments (call.Remap space at old_len new_len) h = spelled_unless _ reply.Einval tt

  spelled_space : (c : Call) → Spelled (no_space st c)
  spelled_space c = go (space_of c)
    where
      go : (o : Option ℕ) → Spelled (option_and_then (λ space. refused_unless (is_present st space) reply.NoSpace) o)
      go None = spelled_not
      go (Some space) = spelled_unless (is_present st space) reply.NoSpace tt

  spelled_spaces : (c : Call) → IsCall c → Spelled (no_spaces st c)
  spelled_spaces (call.Map space where_to len perm what) h = spelled_not
  spelled_spaces (call.Unmap space at len) h = spelled_not
  spelled_spaces (call.Protect space at len perm) h = spelled_not
  spelled_spaces (call.Load space at len) h = spelled_not
  spelled_spaces (call.Store space at bytes) h = spelled_not
  spelled_spaces (call.Fault space at write) h = spelled_not
  spelled_spaces call.Spawn h = spelled_unless _ reply.NoSpaces tt
  spelled_spaces (call.Fork space) h = spelled_unless _ reply.NoSpaces tt
  spelled_spaces (call.Exit space) h = spelled_not
  spelled_spaces (call.SwapOut space at len) h = spelled_not
  spelled_spaces (call.SwapIn space at len) h = spelled_not
  spelled_spaces (call.Txn space at len ops) h = spelled_not
  spelled_spaces (call.DontNeed space at len) h = spelled_not
  spelled_spaces (call.Remap space at old_len new_len) h = spelled_not

  spelled_place : (c : Call) → IsCall c → arguments st c ≡ None → Spelled (no_place st thread c)
  spelled_place (call.Map space place.Any len perm what) h right = spelled_unless _ reply.NoRoom tt
  spelled_place (call.Map space (place.At at) len perm what) h right = spelled_not
  spelled_place (call.Map space (place.New at) len perm what) h right =
      spelled_each reply_why (refused_op (op.Map at true len perm what) (space_at st space))
      (λ w e. why_reply w (op_spelled (levels st) ok.few_levels st.files (op.Map at true len perm what) (space_at st space) w (held_of _ _ right) e))
  spelled_place (call.Unmap space at len) h right = spelled_not
  spelled_place (call.Protect space at len perm) h right = spelled_not
  spelled_place (call.Load space at len) h right = spelled_not
  spelled_place (call.Store space at bytes) h right = spelled_not
  spelled_place (call.Fault space at write) h right = spelled_not
  spelled_place call.Spawn h right = spelled_not
  spelled_place (call.Fork space) h right = spelled_not
  spelled_place (call.Exit space) h right = spelled_not
  spelled_place (call.SwapOut space at len) h right = spelled_not
  spelled_place (call.SwapIn space at len) h right = spelled_not
  spelled_place (call.Txn space at len ops) h right = spelled_not
  spelled_place (call.DontNeed space at len) h right = spelled_not
  spelled_place (call.Remap space at old_len new_len) h right = spelled_unless _ reply.NoRoom tt

  spelled_pages : (c : Call) → IsCall c → arguments st c ≡ None → Spelled (pages st c)
  spelled_pages (call.Protect space at len perm) h right =
      spelled_each reply_why (refused_op (op.Protect at len perm) (space_at st space))
      (λ w e. why_reply w (op_spelled (levels st) ok.few_levels st.files (op.Protect at len perm) (space_at st space) w (held_of _ _ right) e))
  spelled_pages (call.Load space at len) h right = spelled_access (levels st) ok.few_levels st.files _ (record { at = at; len = len; write = false; stored = [] }) right
  spelled_pages (call.Store space at bytes) h right = spelled_access (levels st) ok.few_levels st.files _ (record { at = at; len = length bytes; write = true; stored = bytes }) right
  spelled_pages (call.Fault space at write) h right = spelled_access (levels st) ok.few_levels st.files _ (record { at = at; len = 1; write = write; stored = [] }) right
  spelled_pages (call.Map space where_to len perm what) h right = spelled_not
  spelled_pages (call.Unmap space at len) h right = spelled_not
  spelled_pages (call.DontNeed space at len) h right = hole_spelled (levels st) ok.few_levels (space_at st space) at len (held_of _ _ right)
  spelled_pages (call.Remap space at old_len new_len) h right =
      hole_spelled (levels st) ok.few_levels (space_at st space) at old_len (and_parts (is_page_range (levels st) at old_len) (is_length (levels st) new_len) (held_of _ _ right)).0
  spelled_pages call.Spawn h right = spelled_not
  spelled_pages (call.Fork space) h right = spelled_not
  spelled_pages (call.Exit space) h right = spelled_not
  spelled_pages (call.SwapOut space at len) h right = spelled_not
  spelled_pages (call.SwapIn space at len) h right = spelled_not
  spelled_pages (call.Txn space at len ops) h right =
      let many = h.3.0 in
      spelled_each (λ (u : ℕ × Why). reply.Undone u.0 u.1) (undone (is_right_within (levels st) st.files (at / 4096) (pages_of len)) 1 ops (space_at st space))
      (λ u e. undone_spelled (levels st) ok.few_levels st.files (at / 4096) (pages_of len) ops 1 (space_at st space) u (omega arith) (omega (arith, many.1)) e)

  no_tables_wanted : need [] st.tables < 2 ^ 64
  no_tables_wanted = omega (arith, nothing_needed st.tables)

  -- a space has fewer than 2 ^ 44 pages
  few_pages : (space : ℕ) → Below (2 ^ 44) (space_at st space)
  few_pages space p c e = user_small (levels st) ok.few_levels p (ok.pages space p c e)

  -- after a call of 2 ^ 52 pages it has no page above 2 ^ 54
  pages_before : (space : ℕ) → Below (2 ^ 54) (space_at st space)
  pages_before space p c e = omega (arith, few_pages space p c e)

  needs_few : (space : ℕ) (cells : AddressSpace) → Below (2 ^ 54) cells → need (unlike_tables (levels st) space cells) st.tables < 2 ^ 64
  needs_few space cells below = unlike_needs (levels st) space cells st.tables ok.some_levels ok.few_levels (keys_below cells (2 ^ 54) below)

  op_needs : (space : ℕ) (o : TxnOp) → op_first o + op_pages o ≤ 2 ^ 54 → need (unlike_tables (levels st) space (after_op o (space_at st space))) st.tables < 2 ^ 64
  op_needs space o inside = needs_few space (after_op o (space_at st space)) (op_below (2 ^ 54) o (space_at st space) inside (pages_before space))

  access_needs : (space : ℕ) (grants : Grant) (a : Access) → IsBounded a → need (unlike_tables (levels st) space (after_access st.files grants a (space_at st space))) st.tables < 2 ^ 64
  access_needs space grants a h =
      let at = h.at in
      needs_few space (after_access st.files grants a (space_at st space)) (access_below (2 ^ 54) st.files grants a (space_at st space) (omega (arith, at, two_pages a h)) (pages_before space))

  -- where a range may go: to a gap of an arena, or where it stands
  gap_small : thread < 8 → (space count : ℕ) → unwrap_or (gap thread (space_at st space) count) 0 < 2 ^ 44
  gap_small slow space count = go (gap thread (space_at st space) count) refl
    where
      go : (o : Option ℕ) → gap thread (space_at st space) count ≡ o → unwrap_or o 0 < 2 ^ 44
      go None e = omega arith
      go (Some first) e = omega (arith, user_few (levels st) first count ok.few_levels (gap_user (levels st) thread (space_at st space) count first ok.some_levels slow e))

  put_small : thread < 8 → (space : ℕ) (r : Resize) → r.first < 2 ^ 52 → put_at (levels st) thread (space_at st space) r < 2 ^ 52
  put_small slow space r low = go (moves (levels st) (space_at st space) r)
    where
      go : (b : Bool) → cond b (unwrap_or (gap thread (space_at st space) r.new) 0) r.first < 2 ^ 52
      go true = omega (arith, gap_small slow space r.new)
      go false = low

  map_needs : thread < 8 → (space len : ℕ) (where_to : MapPlace) (perm : Perm) (what : Backing) → IsPlace where_to → len < 2 ^ 64 → need (wanted_tables st thread (call.Map space where_to len perm what)) st.tables < 2 ^ 64
  map_needs slow space len place.Any perm what h long =
      let at : ℕ = placed_at st thread space place.Any len in
      op_needs space (op.Map at false len perm what) (omega (arith, gap_small slow space (pages_of len), pages_few len long))
  map_needs slow space len (place.At at) perm what h long = op_needs space (op.Map at false len perm what) (omega (arith, h, pages_few len long))
  map_needs slow space len (place.New at) perm what h long = op_needs space (op.Map at true len perm what) (omega (arith, h, pages_few len long))

  few_wanted_tables : (c : Call) → thread < 8 → IsCall c → need (wanted_tables st thread c) st.tables < 2 ^ 64
  few_wanted_tables (call.Map space where_to len perm what) slow h = map_needs slow space len where_to perm what h.1 h.2
  few_wanted_tables (call.Unmap space at len) slow h = op_needs space (op.Unmap at len) (omega (arith, h.1, pages_few len h.2))
  few_wanted_tables (call.Protect space at len perm) slow h = op_needs space (op.Protect at len perm) (omega (arith, h.1, pages_few len h.2))
  few_wanted_tables (call.Load space at len) slow h =
      access_needs space (frame_grants st (call.Load space at len)) (record { at = at; len = len; write = false; stored = [] }) (record { at = h.1; some = h.2.0; few = h.2.1 })
  few_wanted_tables (call.Store space at bytes) slow h =
      access_needs space (frame_grants st (call.Store space at bytes)) (record { at = at; len = length bytes; write = true; stored = bytes }) (record { at = h.1; some = h.2.0; few = h.2.1 })
  few_wanted_tables (call.Fault space at write) slow h =
      access_needs space (frame_grants st (call.Fault space at write)) (record { at = at; len = 1; write = write; stored = [] }) (record { at = h.1; some = omega arith; few = omega arith })
  few_wanted_tables call.Spawn slow h = go (least_absent st)
    where
      go : (o : Option ℕ) → need (option_map_or (λ new. root (levels st) new ∷ []) o []) st.tables < 2 ^ 64
      go None = no_tables_wanted
      go (Some new) = omega (arith, need_listed (root (levels st) new ∷ []) st.tables)
  few_wanted_tables (call.Fork space) slow h = go (least_absent st)
    where
      go : (o : Option ℕ) → need (option_map_or (copied_tables st space) o []) st.tables < 2 ^ 64
      go None = no_tables_wanted
      go (Some new) = copied_needs st space new ok.some_levels ok.few_levels (keys_below (space_at st space) (2 ^ 54) (pages_before space))
  few_wanted_tables (call.Exit space) slow h = no_tables_wanted
  few_wanted_tables (call.SwapOut space at len) slow h = omega (arith, out_none st thread space at len ok)
  few_wanted_tables (call.SwapIn space at len) slow h = omega (arith, in_none st thread space at len ok)
  few_wanted_tables (call.Txn space at len ops) slow h = ops_need st space ops ok.some_levels ok.few_levels h.3.0.1 h.3.1
  few_wanted_tables (call.DontNeed space at len) slow h = omega (arith, dont_need_none st thread space at len ok)
  few_wanted_tables (call.Remap space at old_len new_len) slow h =
      let r : Resize = resize_of at old_len new_len in
      let low : r.first < 2 ^ 52 = omega (arith, h.1) in
      needs_few space (remapped (levels st) thread r (space_at st space))
      (remapped_below (2 ^ 54) (levels st) thread r (space_at st space) (omega (arith, put_small slow space r low, pages_few new_len h.3)) (omega (arith, low, pages_few old_len h.2, pages_few new_len h.3)) (pages_before space))

  spelled_tables : (c : Call) → thread < 8 → IsCall c → Spelled (no_tables st thread c limbo)
  spelled_tables c slow h =
      let n = need (wanted_tables st thread c) st.tables in
      let tables = hl.tables in
      let there : linked st < 2 ^ 32 = omega (arith, room, tables.1) in
      let in_limbo : limbo < 2 ^ 32 = omega (arith, room, tables.1) in
      spelled_where (nat_lt st.limits.tables (linked st + n + limbo)) (reply.NoTables (linked st) limbo n) (there, in_limbo, few_wanted_tables c slow h)

  -- a number stands at one page of a space, so no more pages move than there are numbers
  few_move : (number_of : Cell → Option ℕ) (limit space first count : ℕ) (passes : Cell → Bool) → SharersAgree number_of st
      → ((p : ℕ) (c : Cell) → cell_at st space p ≡ Some c → passes c ≡ true → (m : ℕ) × (number_of c ≡ Some m) × (m < limit)) → length (keys_in (space_at st space) first count passes) ≤ limit
  few_move number_of limit space first count passes shared numbered = go (fin.get st.spaces space) refl
    where
      go : (o : Option AddressSpace) → fin.get st.spaces space ≡ o → length (keys_in (space_at st space) first count passes) ≤ limit
      go None e =
          let here : space_at st space ≡ fin.empty = ap (λ (o : Option AddressSpace). unwrap_or o fin.empty) e in
          let none = keys_nowhere passes fin.empty (get-empty nat_cmp) first count in
          subst (λ (m : AddressSpace). length (keys_in m first count passes) ≤ limit) (sym here) (omega (arith, none))
      go (Some cells) e =
          let here : space_at st space ≡ cells = ap (λ (o : Option AddressSpace). unwrap_or o fin.empty) e in
          subst (λ (m : AddressSpace). length (keys_in m first count passes) ≤ limit) (sym here)
          (few_pass number_of limit first count passes st space cells e shared (λ q c f. numbered q c (ap (λ (m : AddressSpace). fin.get m q) here ∙ f)))

  few_wanted_frames : (c : Call) → IsCall c → length (wanting_frames_of st c) ≤ 4096
  few_wanted_frames (call.Map space where_to len perm what) h = omega arith
  few_wanted_frames (call.Unmap space at len) h = omega arith
  few_wanted_frames (call.Protect space at len perm) h = omega arith
  few_wanted_frames (call.Load space at len) h =
      let a : Access = record { at = at; len = len; write = false; stored = [] } in
      omega (arith, keys_few (wants_frame st false) (space_at st space) (first_page a) (page_count a), two_pages a (record { at = h.1; some = h.2.0; few = h.2.1 }))
  few_wanted_frames (call.Store space at bytes) h =
      let a : Access = record { at = at; len = length bytes; write = true; stored = bytes } in
      omega (arith, keys_few (wants_frame st true) (space_at st space) (first_page a) (page_count a), two_pages a (record { at = h.1; some = h.2.0; few = h.2.1 }))
  few_wanted_frames (call.Fault space at write) h =
      let a : Access = record { at = at; len = 1; write = write; stored = [] } in
      omega (arith, keys_few (wants_frame st write) (space_at st space) (first_page a) (page_count a), two_pages a (record { at = h.1; some = omega arith; few = omega arith }))
  few_wanted_frames call.Spawn h = omega arith
  few_wanted_frames (call.Fork space) h = omega arith
  few_wanted_frames (call.Exit space) h = omega arith
  few_wanted_frames (call.SwapOut space at len) h = omega arith
  few_wanted_frames (call.SwapIn space at len) h =
      let swap = hl.swap in
      omega (arith, swap.1, few_move slot_of st.limits.swap space (at / 4096) (pages_of len) comes_in ok.shared_slots (λ p c e. numbered p c e))
    where
      numbered : (p : ℕ) (c : Cell) → cell_at st space p ≡ Some c → comes_in c ≡ true → (m : ℕ) × (slot_of c ≡ Some m) × (m < st.limits.swap)
      numbered p (Swapped perm origin slot bytes) e h = (slot, refl, ok.slots space p slot (Swapped perm origin slot bytes) e refl)
      numbered p (Anon perm) e h = absurd (true≢false (sym h))
      numbered p (File perm file index) e h = absurd (true≢false (sym h))
      numbered p (Mapped perm origin frame bytes) e h = absurd (true≢false (sym h))
  few_wanted_frames (call.Txn space at len ops) h = omega arith
  few_wanted_frames (call.DontNeed space at len) h = omega arith
  few_wanted_frames (call.Remap space at old_len new_len) h = omega arith

  few_wanted_slots : (c : Call) → IsCall c → length (wanting_slots_of st c) ≤ 4096
  few_wanted_slots (call.Map space where_to len perm what) h = omega arith
  few_wanted_slots (call.Unmap space at len) h = omega arith
  few_wanted_slots (call.Protect space at len perm) h = omega arith
  few_wanted_slots (call.Load space at len) h = omega arith
  few_wanted_slots (call.Store space at bytes) h = omega arith
  few_wanted_slots (call.Fault space at write) h = omega arith
  few_wanted_slots call.Spawn h = omega arith
  few_wanted_slots (call.Fork space) h = omega arith
  few_wanted_slots (call.Exit space) h = omega arith
  few_wanted_slots (call.SwapIn space at len) h = omega arith
  few_wanted_slots (call.SwapOut space at len) h =
      let frames = hl.frames in
      omega (arith, frames.1, few_move frame_of st.limits.frames space (at / 4096) (pages_of len) (goes_out st) ok.shared_frames (λ p c e. numbered p c e))
    where
      numbered : (p : ℕ) (c : Cell) → cell_at st space p ≡ Some c → goes_out st c ≡ true → (m : ℕ) × (frame_of c ≡ Some m) × (m < st.limits.frames)
      numbered p (Mapped perm origin frame bytes) e h = (frame, refl, ok.frames space p frame (Mapped perm origin frame bytes) e refl)
      numbered p (Anon perm) e h = absurd (true≢false (sym h))
      numbered p (File perm file index) e h = absurd (true≢false (sym h))
      numbered p (Swapped perm origin slot bytes) e h = absurd (true≢false (sym h))
  few_wanted_slots (call.Txn space at len ops) h = omega arith
  few_wanted_slots (call.DontNeed space at len) h = omega arith
  few_wanted_slots (call.Remap space at old_len new_len) h = omega arith

  few_free_frames : length (unused_frames st) < 2 ^ 32
  few_free_frames = let few = few_unused (frame_owners st) st.limits.frames in let frames = hl.frames in omega (arith, few, frames.1)

  few_free_slots : length (unused_slots st) < 2 ^ 32
  few_free_slots = let few = few_unused (slot_owners st) st.limits.swap in let swap = hl.swap in omega (arith, few, swap.1)

  spelled_frames : (c : Call) → IsCall c → Spelled (no_frames st c)
  spelled_frames c h =
      let wanted : length (wanting_frames_of st c) < 2 ^ 32 = omega (arith, few_wanted_frames c h) in
      spelled_where _ (reply.NoFrames (length (unused_frames st)) (length (wanting_frames_of st c))) (few_free_frames, wanted)

  spelled_swap : (c : Call) → IsCall c → Spelled (no_swap st c)
  spelled_swap c h =
      let wanted : length (wanting_slots_of st c) < 2 ^ 32 = omega (arith, few_wanted_slots c h) in
      spelled_where _ (reply.NoSwap (length (unused_slots st)) (length (wanting_slots_of st c))) (few_free_slots, wanted)

  spelled_or : (o p : Option Reply) → Spelled o → Spelled p → Spelled (option_or o p)
  spelled_or None p ho hp = hp
  spelled_or (Some r) p ho hp = ho

  spelled_refusal : (c : Call) → thread < 8 → IsCall c → Spelled (refusal st thread c limbo)
  unfolding refusal
  spelled_refusal c slow h = go (arguments st c) refl
    where
      go : (o : Option Reply) → arguments st c ≡ o
          → Spelled (option_or o (first_refusal (no_space st c ∷ no_spaces st c ∷ no_place st thread c ∷ pages st c ∷ no_tables st thread c limbo ∷ no_frames st c ∷ no_swap st c ∷ [])))
      go (Some r) e = spelled_by r (spelled_arguments c h r e)
      go None e =
          spelled_or (no_space st c) _ (spelled_space c) (spelled_or (no_spaces st c) _ (spelled_spaces c h) (spelled_or (no_place st thread c) _ (spelled_place c h e) (spelled_or (pages st c) _ (spelled_pages c h e)
          (spelled_or (no_tables st thread c limbo) _ (spelled_tables c slow h) (spelled_or (no_frames st c) _ (spelled_frames c h) (spelled_or (no_swap st c) _ (spelled_swap c h) spelled_not))))))

  -- ---- a call that is made

  byte_small : (bytes : List ℕ) (i : ℕ) → AreBytes bytes → get_or bytes i 0 < 256
  byte_small [] i h = omega arith
  byte_small (b ∷ bytes) zero h = All-head (λ c. c < 256) b bytes h
  byte_small (b ∷ bytes) (suc i) h = byte_small bytes i (All-tail (λ c. c < 256) b bytes h)

  stands_small : AreAllBytes st → (space x : ℕ) → byte_at st space x < 256
  stands_small all space x = go (cell_at st space (x / 4096)) refl
    where
      go : (o : Option Cell) → cell_at st space (x / 4096) ≡ o → get_or (option_map_or (contents st.files) o []) (x % 4096) 0 < 256
      go None e = omega arith
      go (Some c) e = byte_small (contents st.files c) (x % 4096) (all.cells space (x / 4096) c e)

  each_small : (P : ℕ → Type 0) → ((n : ℕ) → P n) → (ns : List ℕ) → All P ns
  each_small P h [] = All-nil P
  each_small P h (n ∷ ns) = All-cons P n ns (h n) (each_small P h ns)

  abbrev IsBytes : List ℕ → Type 0
  IsBytes bytes = IsAccess (length bytes) × All (λ b. b < 256) bytes

  spelled_load : (space at len : ℕ) → AreAllBytes st → IsAccess len → Passed st thread (call.Load space at len) limbo → IsReply (answer st thread (call.Load space at len))
  unfolding answer
  spelled_load space at len all few passed =
      let a : Access = record { at = at; len = len; write = false; stored = [] } in
      let long : length (bytes_at st space at len) ≡ len = length-map-range_with_len (byte_at st space) at len in
      let small : All (λ b. b < 256) (bytes_at st space at len) = All-map (λ b. b < 256) (byte_at st space) (range_with_len at len) (each_small _ (stands_small all space) (range_with_len at len)) in
      subst IsBytes (sym (loaded_is st ok space a passed.pages)) (subst IsAccess (sym long) few, small)

  -- the number of a new space
  new_space : unwrap_or (least_absent st) 0 < 64
  new_space = go (least_absent st) refl
    where
      go : (o : Option ℕ) → least_absent st ≡ o → unwrap_or o 0 < 64
      go None e = omega arith
      go (Some new) e = let found = least_passes 0 64 (λ space. not (is_present st space)) new e in omega (arith, found.1)

  spelled_answer : (c : Call) → thread < 8 → AreAllBytes st → IsCall c → Passed st thread c limbo → IsReply (answer st thread c)
  unfolding answer
  spelled_answer (call.Map space place.Any len perm what) few all h passed = omega (arith, gap_small few space (pages_of len))
  spelled_answer (call.Map space (place.At at) len perm what) few all h passed = h.1
  spelled_answer (call.Map space (place.New at) len perm what) few all h passed = h.1
  spelled_answer (call.Unmap space at len) few all h passed = tt
  spelled_answer (call.Protect space at len perm) few all h passed = tt
  spelled_answer (call.Load space at len) few all h passed = spelled_load space at len all h.2 passed
  spelled_answer (call.Store space at bytes) few all h passed = tt
  spelled_answer (call.Fault space at write) few all h passed = tt
  spelled_answer call.Spawn few all h passed = new_space
  spelled_answer (call.Fork space) few all h passed = new_space
  spelled_answer (call.Exit space) few all h passed = tt
  spelled_answer (call.SwapOut space at len) few all h passed = omega (arith, few_wanted_slots (call.SwapOut space at len) h)
  spelled_answer (call.SwapIn space at len) few all h passed = omega (arith, few_wanted_frames (call.SwapIn space at len) h)
  spelled_answer (call.Txn space at len ops) few all h passed = tt
  spelled_answer (call.DontNeed space at len) few all h passed = tt
  spelled_answer (call.Remap space at old_len new_len) few all h passed =
      let r : Resize = resize_of at old_len new_len in
      omega (arith, put_small few space r (omega (arith, h.1)))

  pub spelled_step : (c : Call) → thread < 8 → AreAllBytes st → IsCall c → IsReply (step st thread c limbo).0
  spelled_step c few all h = go (refusal st thread c limbo) refl
    where
      go : (o : Option Reply) → refusal st thread c limbo ≡ o → IsReply (step st thread c limbo).0
      go (Some r) e = subst IsReply (sym (ap (λ (p : Reply × State). p.0) (refused st thread c limbo r e))) (spelled_refusal c few h r e)
      go None e = subst IsReply (sym (ap (λ (p : Reply × State). p.0) (accepted st thread c limbo e))) (spelled_answer c few all h (passed st thread c limbo e))
