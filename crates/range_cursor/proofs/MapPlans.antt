-- Mappings at an address, in the page map's words.
--     taken_place      what refuses a mapping for a page that is mapped
--     fixed_early      the refusals of one whose length and backing are right;  of one whose are not
--     taken_told      the refusal as the rows tell it
--     fixed_uses, fixed_changes      the pages that it uses;  its one change
use Rattle.std.specs.Prelude.{◌≡◌, ℕ, ◌*◌, ◌/◌, ◌&&◌, Bool, true, false, cond, List, [], ◌∷◌, is_some, Option, Some, None}
use Rattle.std.specs.Option.{option_map, option_or}
use Rattle.std.proofs.Common.{sym, refl, ◌∙◌, ap, subst}
use Rattle.corten_base.specs.declared.calls.Backing.{Backing}
use Rattle.corten_base.specs.declared.calls.Call.TheVariants as call
use Rattle.corten_base.specs.declared.calls.Reply.{Reply}
use Rattle.corten_base.specs.declared.calls.Reply.TheVariants as reply
use Rattle.corten_base.specs.declared.calls.TxnOp.TheVariants as op
use Rattle.corten_base.specs.declared.calls.Why.TheVariants as why
use Rattle.corten_base.specs.declared.permissions.Perm.{Perm}
use Rattle.page_map.specs.Change.{least}
use Rattle.page_map.specs.Mapping.{is_mappable, refused_op}
use Rattle.page_map.specs.State.{State, levels, space_at, cell_at, is_present}
use Rattle.page_map.specs.Step.{refused_unless, reply_why}
use Rattle.table_place.specs.Place.{is_page_range, pages_of}
use Rattle.machine_plan.specs.declared.kit.Change.TheVariants as change
use Rattle.machine_plan.specs.HeldRows.{Row, AreAsked, RowsShown}
use Rattle.machine_plan.specs.Uses.{early_refusal, uses_page, wants_of, changes_of}
use Rattle.range_cursor.specs.Drawing.{reaches}
use Rattle.range_cursor.specs.Mapped.{fixed, AnswersMapped}
use Rattle.range_cursor.specs.PageRanges.{range_refusal}
use Rattle.range_cursor.proofs.Asking.{first_two_and}

abbrev pub taken_place : State → ℕ → ℕ → Bool → ℕ → Perm → Backing → Option Reply
taken_place st space at fresh len perm what = option_map reply_why (refused_op (op.Map at fresh len perm what) (space_at st space))

module _ (st : State) (thread space at len : ℕ) (perm : Perm) (what : Backing) where
  all : Bool → Option Reply → Option Reply
  all m p = option_or (refused_unless (m && is_page_range (levels st) at len) reply.Einval) (option_or (refused_unless (is_present st space) reply.NoSpace) (option_or None (option_or p (option_or None None))))

  pub fixed_early : (fresh : Bool) → is_mappable (levels st) st.files len what ≡ true
      → early_refusal st thread (call.Map space (fixed fresh at) len perm what) ≡ option_or (range_refusal st (levels st) space at len) (taken_place st space at fresh len perm what)
  unfolding all
  fixed_early true right = ap (λ m. all m (taken_place st space at true len perm what)) right ∙ first_two_and (refused_unless (is_page_range (levels st) at len) reply.Einval) (refused_unless (is_present st space) reply.NoSpace) (taken_place st space at true len perm what)
  fixed_early false right = ap (λ m. all m None) right ∙ first_two_and (refused_unless (is_page_range (levels st) at len) reply.Einval) (refused_unless (is_present st space) reply.NoSpace) None

  pub fixed_wrong : (fresh : Bool) → is_mappable (levels st) st.files len what ≡ false → early_refusal st thread (call.Map space (fixed fresh at) len perm what) ≡ Some reply.Einval
  unfolding all
  fixed_wrong true wrong = ap (λ m. all m (taken_place st space at true len perm what)) wrong
  fixed_wrong false wrong = ap (λ m. all m None) wrong

  pub fixed_uses : (fresh : Bool) (s page : ℕ) → uses_page st thread (call.Map space (fixed fresh at) len perm what) s page ≡ reaches space (at / 4096) (pages_of len) s page
  fixed_uses true s page = refl
  fixed_uses false s page = refl

  pub fixed_changes : (fresh : Bool) → change.Op (op.Map at fresh len perm what) ∷ [] ≡ changes_of st thread (call.Map space (fixed fresh at) len perm what)
  unfolding changes_of
  fixed_changes true = refl
  fixed_changes false = refl

  pub fixed_wants : (fresh : Bool) → [] ≡ wants_of st (call.Map space (fixed fresh at) len perm what)
  unfolding wants_of
  fixed_wants true = refl
  fixed_wants false = refl

  as_reply : (o : Option ℕ) → option_map reply_why (option_map (λ page. why.Exists (4096 * page)) o) ≡ option_map (λ page. reply.Exists (4096 * page)) o
  as_reply None = refl
  as_reply (Some page) = refl

  pub taken_told : (rows : List Row) (first n : ℕ) (fresh : Bool) (o : Option Reply) → first ≡ at / 4096 → n ≡ pages_of len → AnswersMapped rows fresh first n o → AreAsked space rows (at / 4096) (pages_of len) → RowsShown st rows → taken_place st space at fresh len perm what ≡ o
  taken_told rows first n fresh o a b answers asked shown =
      by_fresh fresh ∙ sym (subst (λ x. AnswersMapped rows fresh (at / 4096) x o) b (subst (λ x. AnswersMapped rows fresh x n o) a answers) st space asked shown)
    where
      by_fresh : (f : Bool) → taken_place st space at f len perm what ≡ option_map (λ page. reply.Exists (4096 * page)) (cond f (least (at / 4096) (pages_of len) (λ page. is_some (cell_at st space page))) None)
      by_fresh true = as_reply (least (at / 4096) (pages_of len) (λ page. is_some (cell_at st space page)))
      by_fresh false = refl
