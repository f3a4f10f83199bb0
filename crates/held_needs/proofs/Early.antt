-- What held rows tell of a call that nothing refuses before its tables.
use Rattle.std.proofs.Common.{◌≡◌, ℕ, ◌*◌, Bool, true, false, cond, not, List, [], ◌∷◌, refl, sym, ap, ◌∙◌, arith}
use Rattle.std.specs.Prelude.{Option, Some, None}
use Rattle.std.specs.Option.{option_map, option_and_then}
use Rattle.std.specs.FinMap as fin
use Rattle.corten_base.specs.declared.calls.Call.{Call}
use Rattle.corten_base.specs.declared.calls.Reply.{Reply}
use Rattle.corten_base.specs.declared.calls.Reply.TheVariants as reply
use Rattle.corten_base.specs.declared.calls.TxnOp.{TxnOp}
use Rattle.table_place.specs.Range.{within}
use Rattle.table_place.specs.Place.{is_page_range, is_user_page}
use Rattle.table_place.proofs.Tables.{in_range, to_range, user_page}
use Rattle.page_map.specs.Access.{Access, first_page, page_count, outside_user_pages, refused_access, refused_at}
use Rattle.page_map.specs.Change.{least}
use Rattle.page_map.specs.Effect.{space_of}
use Rattle.page_map.specs.Mapping.{op_at, op_len, op_first, op_pages}
use Rattle.page_map.specs.State.{State, levels, space_at, is_present}
use Rattle.page_map.specs.Step.{first_refusal, refused_unless, arguments, no_space, no_spaces, no_place, pages}
use Rattle.page_map.proofs.Least.{unanswered}
use Rattle.page_map.proofs.Mappings.{page_range}
use Rattle.page_map.proofs.Steps.{not_none}
use Rattle.page_map.proofs.Unmapped.{held_of}
use Rattle.tree_lock.specs.declared.zone.Zone.TheVariants as zone
use Rattle.tree_lock.specs.Zone.{ZoneHas}
use Rattle.machine_plan.specs.HeldRows.{Row, IsAsked}
use Rattle.machine_plan.specs.Uses.{early_refusal, zone_of}
use Rattle.machine_plan.proofs.Telling.{cover_is_asked}
use Rattle.held_needs.specs.Cutting.{last_of}
use Rattle.held_needs.specs.Operation.{range_of}
use Rattle.held_needs.specs.Several.{IsReached, IsWithin}
use Rattle.held_needs.specs.Calls.{IsHeldFor}

pub record Early (st : State) (thread : ℕ) (c : Call) : Type 0 where
  pub arguments : arguments st c ≡ None
  pub space : no_space st c ≡ None
  pub spaces : no_spaces st c ≡ None
  pub place : no_place st thread c ≡ None
  pub pages : pages st c ≡ None

pub early : (st : State) (thread : ℕ) (c : Call) → early_refusal st thread c ≡ None → Early st thread c
early st thread c h =
    let p = five (arguments st c) (no_space st c) (no_spaces st c) (no_place st thread c) (pages st c) h in
    record { arguments = p.0; space = p.1; spaces = p.2; place = p.3; pages = p.4 }
  where
    five : (a b d e f : Option Reply) → first_refusal (a ∷ b ∷ d ∷ e ∷ f ∷ []) ≡ None → (a ≡ None) × (b ≡ None) × (d ≡ None) × (e ≡ None) × (f ≡ None)
    five None None None None None h = (refl, refl, refl, refl, refl)
    five (Some r) b d e f h = absurd (not_none h)
    five None (Some r) d e f h = absurd (not_none h)
    five None None (Some r) e f h = absurd (not_none h)
    five None None None (Some r) f h = absurd (not_none h)
    five None None None None (Some r) h = absurd (not_none h)

module _ (number : ℕ) (rows : List Row) (thread : ℕ) (c : Call) (st : State) (h : IsHeldFor number rows thread c st) where
  pub told : Early st thread c
  told = early st thread c h.passed

  pub present : (s : ℕ) → space_of c ≡ Some s → is_present st s ≡ true
  present s e = held_of (is_present st s) reply.NoSpace (sym (ap (option_and_then (λ space. refused_unless (is_present st space) reply.NoSpace)) e) ∙ told.space)

  -- each user page of the zone is told of
  pub page_told : (s page : ℕ) → space_of c ≡ Some s → is_user_page number page ≡ true → ZoneHas (zone_of thread c) s page → IsAsked s rows page
  page_told s page e user of_zone =
      cover_is_asked (zone_of thread c) st rows s page h.state.consistent h.state.shown (h.one_space s e) h.cover
      (h.state.consistent.roots s (present s e)) (ap (λ n. is_user_page n page) h.state.same_levels ∙ user) of_zone

  -- an operation whose pages are those of the zone
  pub op_told : (s : ℕ) (o : TxnOp) → space_of c ≡ Some s → is_page_range number (op_at o) (op_len o) ≡ true
      → ((page : ℕ) → within (op_first o) (op_pages o) page ≡ true → ZoneHas (zone_of thread c) s page) → IsWithin number rows s o
  op_told s o e right of_zone =
      let user = page_range number (op_at o) (op_len o) right in
      let near = to_range (op_first o) (op_pages o) (op_first o) (omega arith) (omega (arith, user.1)) in
      let far = to_range (op_first o) (op_pages o) (last_of (range_of o)) (omega (arith, user.1)) (omega (arith, user.1)) in
      record {
        right = right;
        near = page_told s (op_first o) e (user_page number (op_first o) (op_pages o) (op_first o) user.0 near) (of_zone (op_first o) near);
        far = page_told s (last_of (range_of o)) e (user_page number (op_first o) (op_pages o) (last_of (range_of o)) user.0 far) (of_zone (last_of (range_of o)) far);
      }

  -- an access whose pages are those of the zone
  pub access_told : (s : ℕ) (a : Access) → space_of c ≡ Some s → outside_user_pages (levels st) a ≡ None → refused_access st.files (space_at st s) a ≡ None
      → ((page : ℕ) → within (first_page a) (page_count a) page ≡ true → ZoneHas (zone_of thread c) s page) → IsReached number rows s st a
  access_told s a e user mapped of_zone = record {
    asked = λ page w. page_told s page e (user_at page w) (of_zone page w);
    user = user_at;
    mapped = λ page w none. not_none (sym (ap (refused_at st.files a.write page) none) ∙ unanswered (λ q. refused_at st.files a.write q (fin.get (space_at st s) q)) (first_page a) (page_count a) mapped page (in_range (first_page a) (page_count a) page w).0 (in_range (first_page a) (page_count a) page w).1);
  }
    where
      none_left : (o : Option ℕ) → option_map {U = Reply} (λ page. reply.Segv (4096 * page)) o ≡ None → o ≡ None
      none_left None h = refl
      none_left (Some n) h = absurd (not_none h)

      inside : (b : Bool) (n : ℕ) → cond (not b) (Some n) None ≡ None → b ≡ true
      inside true n h = refl
      inside false n h = absurd (not_none h)

      user_at : (page : ℕ) → within (first_page a) (page_count a) page ≡ true → is_user_page number page ≡ true
      user_at page w =
          let at = in_range (first_page a) (page_count a) page w in
          ap (λ n. is_user_page n page) (sym h.state.same_levels)
          ∙ inside (is_user_page (levels st) page) page (unanswered (λ q. cond (not (is_user_page (levels st) q)) (Some q) None) (first_page a) (page_count a) (none_left (least (first_page a) (page_count a) (λ q. not (is_user_page (levels st) q))) user) page at.0 at.1)

-- the pages of a range
pub in_pages : (space first count : ℕ) (strict : Bool) (page : ℕ) → within first count page ≡ true → ZoneHas (zone.Pages space first count strict) space page
in_pages space first count strict page w = let at = in_range first count page w in (refl, at.0, at.1)
