-- The held rows agree with the book, from the turn to the release.
--     turn_agrees, may_release, list_is_cover      the laws of `specs/Held.antt`
use Rattle.std.specs.Prelude.{Some, ◌≡◌, ℕ, ◌<◌, ◌≤◌, List, [], ◌∷◌, slice_index_or}
use Rattle.std.specs.List.{All, Contains}
use Rattle.std.proofs.Common.{sym, ◌∙◌, ap, subst, arith, inr}
use Rattle.std.proofs.lemmas.List.{get_or_default}
use Rattle.row_cells.specs.declared.Cell.{Cell}
use Rattle.row_table.specs.declared.view.HeldRow.{HeldRow as KnownRow}
use Rattle.row_table.specs.Books.{turned, given}
use Rattle.row_table.proofs.Turns.{contained_map}
use Rattle.row_table.specs.Moves.{NotInHand, Fits}
use Rattle.row_table.specs.Rule.{row_part}
use Rattle.row_table.proofs.Beside.{unique_part}
use Rattle.row_table.proofs.Views.{has_row}
use Rattle.tree_lock.specs.Held.{row_numbers}
use mathlib.Core.Logic.{dite}
use native.Mathlib.Decide.{ℕ_discrete}
use Rattle.walk_core.proofs.RowLists.{times-nil, times-cons_other, in_head, in_tail}
use Rattle.walk_core.specs.Lists.{Has, times, IsDistinct}
use Rattle.machine_plan.specs.Books.{BookData}
use Rattle.machine_plan.specs.Agrees.{Agrees}
use Rattle.machine_plan.specs.Follows.{machine}
use Rattle.machine_plan.specs.Cover.{View, HeldAgree}
use Rattle.machine_plan.specs.HeldRows.{Row}
use Rattle.machine_plan.specs.Held.{HeldWith, TurnAgrees, MayRelease, GiveGivesAll, ListIsCover}
use Rattle.machine_plan.proofs.Covering.{cover_is_held}

pub turn_agrees : TurnAgrees
turn_agrees count v rows b in_tree listed learns = record {
  exact = record { held = listed.exact.held; shown = listed.exact.shown };
  each = λ x has.
      let l = listed.each x has in
      let known = learns.agree l.known l.held (in_tree l.known l.held) in
      record {
        known = l.known;
        held = l.held;
        same_row = l.same_row;
        same_place = l.same_place;
        linked = subst (NotInHand v) l.same_row (in_tree l.known l.held);
        agrees = subst (λ ws. Agrees b l.known.place ws x.content) (sym l.same_words) (known.found l.not_given x.content l.found);
      };
}

each_of : {X : Type 0} (P : X → Type 0) (xs : List X) → ((x : X) → Contains xs x → P x) → All P xs
each_of P xs f k d inside = f (slice_index_or xs k d) (k, inside, get_or_default xs k (slice_index_or xs k d) d inside)

pub may_release : MayRelease
may_release b v rows held given last = each_of (λ (x : Row). NotInHand v x.row × Fits machine v x.row x.content) rows (λ x has.
    let h = held.each x has in
    (h.linked, record { known = h.known; held = h.held; same_row = h.same_row; content_fits = inr (given h.known h.held, (b, last, h.agrees)) }))

-- a number of the list is that of one of its rows
row_with : (rows : List Row) (r : ℕ) → Has (row_numbers rows) r → (x : Row) × Contains rows x × (x.row ≡ r)
row_with [] r has = absurd (omega (arith, has, times-nil r))
row_with (x ∷ xs) r has = dite (ℕ_discrete x.row r)
    (λ e. (x, in_head x xs, e))
    (λ ne. let n = times-cons_other r x.row (row_numbers xs) ne in let o = row_with xs r (omega (arith, has, n)) in (o.0, in_tail x xs o.0 o.1, o.2))

held_agree : (b : BookData) (v : View) (rows : List Row) → IsDistinct v.core.held → HeldWith b v rows → (h : KnownRow (List Cell)) → Contains v.rows h → (x : Row) × Contains rows x × (x.place ≡ h.place) × Agrees b h.place h.words x.content
held_agree b v rows once held h has =
    let in_held = subst (λ rs. Has rs h.row) held.exact.shown (has_row v.rows h has) in
    let x = row_with rows h.row (subst (λ n. 0 < n) (sym (held.exact.held h.row)) in_held) in
    let k = held.each x.0 x.1 in
    let same : k.known ≡ h = unique_part row_part v.rows k.known h k.held has (k.same_row ∙ x.2)
    (subst (λ rs. times k.known.row rs ≤ 1) (sym held.exact.shown) (once k.known.row)) in
    (x.0, x.1, sym k.same_place ∙ ap (λ (y : KnownRow (List Cell)). y.place) same, subst (λ (y : KnownRow (List Cell)). Agrees b y.place y.words x.0.content) same k.agrees)

pub list_is_cover : ListIsCover
list_is_cover zone count v rows b is same shows listed learns =
    let held = turn_agrees count v rows b shows.in_tree listed learns in
    let each = held_agree b (turned machine v b) rows learns.right.once held in
    let agree : HeldAgree b v = λ h has. let e = each h has in (e.0.content, e.3) in
    let all = cover_is_held zone b v is same agree shows in
    (λ p in_cover. let at = all p in_cover in (at.0, at.1, at.2, at.3), λ p in_cover. let at = all p in_cover in let e = each at.0 at.1 in (e.0, e.1, e.2 ∙ at.3))

pub give_gives_all : GiveGivesAll
give_gives_all v a b generation = (λ h has. let o = contained_map given v.rows h has in ap (λ (y : KnownRow (List Cell)). y.is_given) (sym o.2), λ i. Some b)
