-- What stays of a pass over several steps.
--     words_more, rows_more      one step and then another
--     rows_of_words, rows_emptied      only rows are new where only words are, and where the granted rows were linked
--     word_written      a leaf was written
--     applied_after      an apply behind another step
use Rattle.std.specs.Prelude.{◌≡◌, ℕ, ◌⊎◌, true, cond, List, []}
use Rattle.std.specs.List.{Contains}
use Rattle.std.proofs.Common.{sym, ◌∙◌, ap}
use Rattle.corten_base.specs.declared.calls.Call.{Call}
use Rattle.row_cells.specs.declared.Cell.{Cell}
use Rattle.row_table.specs.declared.view.PassView.{PassView}
use Rattle.row_table.specs.declared.view.HeldRow.{HeldRow as KnownRow}
use Rattle.row_table.specs.Links.{word_set, link_set, Sets}
use Rattle.walk_core.specs.Words.{is_leaf}
use Rattle.machine_plan.specs.declared.kit.Kit.{Kit}
use Rattle.machine_plan.specs.Books.{BookData}
use Rattle.machine_plan.specs.HeldRows.{Row}
use Rattle.cursor_apply.specs.Applying.{OnlyWords, OnlyRows, Applied}
use Rattle.cursor_apply.proofs.Writing.{kind_no_link}

module _ {B E : Type 0} where
  pub words_more : (u v w : PassView (List Cell) B E) → OnlyWords u v → OnlyWords v w → OnlyWords u w
  words_more u v w first second = second ∙ ap (λ (x : PassView (List Cell) B E). record x { rows = w.rows }) first

  pub rows_more : (u v w : PassView (List Cell) B E) → OnlyRows u v → OnlyRows v w → OnlyRows u w
  rows_more u v w first second = second ∙ ap (λ (x : PassView (List Cell) B E). record x { core = record x.core { held = w.core.held; granted = w.core.granted }; rows = w.rows; hand = w.hand }) first

  pub rows_of_words : (v w : PassView (List Cell) B E) → OnlyWords v w → OnlyRows v w
  rows_of_words v w is = is ∙ (λ i. record v { core = record v.core { held = held i; granted = granted i }; rows = w.rows; hand = hand i })
    where
      held : v.core.held ≡ w.core.held
      held = sym (ap (λ (x : PassView (List Cell) B E). x.core.held) is)

      granted : v.core.granted ≡ w.core.granted
      granted = sym (ap (λ (x : PassView (List Cell) B E). x.core.granted) is)

      hand : v.hand ≡ w.hand
      hand = sym (ap (λ (x : PassView (List Cell) B E). x.hand) is)

  pub rows_emptied : (v w : PassView (List Cell) B E) → w ≡ record v { core = record v.core { held = w.core.held; granted = [] }; rows = w.rows; hand = [] } → OnlyRows v w
  rows_emptied v w is = is ∙ (λ i. record v { core = record v.core { held = w.core.held; granted = granted i }; rows = w.rows; hand = hand i })
    where
      granted : [] ≡ w.core.granted
      granted = sym (ap (λ (x : PassView (List Cell) B E). x.core.granted) is)

      hand : [] ≡ w.hand
      hand = sym (ap (λ (x : PassView (List Cell) B E). x.hand) is)

  pub word_written : (v w : PassView (List Cell) B E) (row index word : ℕ) (h : KnownRow (List Cell)) → Contains v.rows h → h.row ≡ row → (word ≡ 0) ⊎ (is_leaf word ≡ true) → Sets row index word v w → OnlyWords v w
  word_written v w row index word h has same kind sets =
      let is = sets h has same ∙ ap (λ t. cond t (link_set v h index word) (word_set v h.row index word)) (kind_no_link word kind) in
      is ∙ ap (λ (l : List (KnownRow (List Cell))). record v { rows = l }) (sym (ap (λ (x : PassView (List Cell) B E). x.rows) is))

  pub applied_after : (b : BookData) (thread : ℕ) (c : Call) (u v w : PassView (List Cell) B E) (rows' : List Row) (kit kit' : Kit) → OnlyRows u v → Applied b thread c v w rows' kit kit' → Applied b thread c u w rows' kit kit'
  applied_after b thread c u v w rows' kit kit' first is = record {
    view = rows_more u v w first is.view;
    held = is.held;
    given = is.given;
    hand = is.hand;
    stored = is.stored;
    room = is.room;
    idle = is.idle;
    ungranted = is.ungranted;
    seconds = is.seconds;
  }
