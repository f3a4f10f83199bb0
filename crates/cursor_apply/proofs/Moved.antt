-- An access or a move, step by step: leaves are written, leaves are taken away, references come into their cells.
--     may_show_new, may_show_own, may_hide      what each step asks
--     is_applied      what is left
use Rattle.std.specs.Prelude.{◌≡◌, ℕ, Bool, true, List, [], ◌++◌, map, Some}
use Rattle.std.proofs.Common.{sym, ◌∙◌, subst}
use Rattle.std.proofs.lemmas.List.{append-nil}
use Rattle.corten_base.specs.declared.calls.Call.{Call}
use Rattle.page_map.specs.Cell.{frame_of, slot_of}
use Rattle.page_map.specs.Effect.{space_of, frame_grants, slot_grants}
use Rattle.walk_core.specs.Lists.{IsDistinct}
use Rattle.tree_lock.specs.Held.{row_numbers}
use Rattle.machine_plan.specs.declared.kit.Kit.{Kit}
use Rattle.machine_plan.specs.Books.{BookData, state_of}
use Rattle.machine_plan.specs.HeldRows.{Row}
use Rattle.machine_plan.specs.Kits.{HasRoom, IsIdle, IsUngranted}
use Rattle.machine_plan.specs.Uses.{uses_page}
use Rattle.cursor_apply.specs.Applying.{is_store, OnlyWords, Applied}
use Rattle.cursor_apply.specs.Moving.{IsMove, AreLinked, AreLacking}
use Rattle.cursor_apply.specs.Putting.{AreAgreed, pages_of, row_place}
use Rattle.cursor_apply.specs.Showing.{AreWritable, AreSole, AreSlots, own_pages, MayShow, Shows, MayHide, Hides}
use Rattle.cursor_apply.proofs.Begun.{move_space, made, backed, seconds, begun, new_sole, own_sole, new_slots}
use Rattle.cursor_apply.proofs.Finished.{lacking, is_finished}
use Rattle.cursor_apply.proofs.Kept.{words_more, rows_of_words}
use Rattle.cursor_apply.proofs.KitLists.{fresh, stayed, refs_now, frames_of, slots_of, own_frames_of, own_slots_of}
use Rattle.cursor_apply.proofs.WrittenRows.{View}

module _ {B E : Type 0} (a b : BookData) (thread : ℕ) (c : Call) (v : View B E) (rows : List Row) (kit : Kit) (ready : AreLinked a b thread c v rows kit) (move : IsMove c) (writes : Bool) (same : writes ≡ is_store c) where
  abbrev s : ℕ
  s = (move_space c move).0

  abbrev here : space_of c ≡ Some s
  here = (move_space c move).1

  abbrev frames : List ℕ
  frames = pages_of kit.own_frames.items ++ pages_of kit.frames.items

  abbrev slots : List ℕ
  slots = pages_of kit.own_slots.items ++ pages_of kit.slots.items

  abbrev hide : List ℕ
  hide = pages_of kit.slots.items

  abbrev NewSole : BookData → ℕ → Type 0
  NewSole b space = AreSole (state_of b) space kit.frames.items

  abbrev OwnSole : BookData → ℕ → Type 0
  OwnSole b space = writes ≡ true → AreSole (state_of b) space kit.own_frames.items

  abbrev InSwap : BookData → ℕ → Type 0
  InSwap b space = AreSlots (state_of b) space kit.slots.items

  first : AreWritable b thread c s frames slots (pages_of kit.frames.items ++ own_pages writes kit.own_frames.items) hide v rows
  first = subst (λ t. AreWritable b thread c s frames slots (pages_of kit.frames.items ++ own_pages t kit.own_frames.items) hide v rows) (sym same) (begun a b thread c v rows kit ready move s here)

  sole_new : NewSole b s
  sole_new = new_sole a b thread c v rows kit ready move s here

  sole_own : OwnSole b s
  sole_own w = own_sole a b thread c v rows kit ready move s here (sym same ∙ w)

  in_swap : InSwap b s
  in_swap = new_slots a b thread c v rows kit ready move s here

  pub may_show_new : MayShow (pages_of kit.frames.items) NewSole v rows
  may_show_new = (b, thread, c, s, frames, slots, own_pages writes kit.own_frames.items, hide, first, sole_new)

  module _ (v1 : View B E) (new_shown : Shows (pages_of kit.frames.items) NewSole v v1 rows) where
    second : AreWritable b thread c s frames slots (own_pages writes kit.own_frames.items ++ []) hide v1 rows
    second = subst (λ (l : List ℕ). AreWritable b thread c s frames slots l hide v1 rows) (sym (append-nil (own_pages writes kit.own_frames.items)))
        (new_shown b thread c s frames slots (own_pages writes kit.own_frames.items) hide first sole_new)

    pub may_show_own : MayShow (own_pages writes kit.own_frames.items) OwnSole v1 rows
    may_show_own = (b, thread, c, s, frames, slots, [], hide, second, sole_own)

    module _ (v2 : View B E) (own_shown : Shows (own_pages writes kit.own_frames.items) OwnSole v1 v2 rows) where
      third : AreWritable b thread c s frames slots [] (hide ++ []) v2 rows
      third = subst (λ (l : List ℕ). AreWritable b thread c s frames slots [] l v2 rows) (sym (append-nil hide)) (own_shown b thread c s frames slots [] hide second sole_own)

      pub may_hide : MayHide hide InSwap v2 rows
      may_hide = (b, thread, c, s, frames, slots, [], [], third, in_swap)

      module _ (w : View B E) (hidden : Hides hide InSwap v2 w rows) where
        last : AreWritable b thread c s frames slots [] [] w rows
        last = hidden b thread c s frames slots [] [] third in_swap

        abbrev uses : ℕ → Bool
        uses p = uses_page (state_of a) thread c s p

        lacks : AreLacking b s w.rows rows kit
        lacks =
            let m = made a b thread c v rows kit ready move in
            record {
              consistent = ready.consistent;
              of_space = ready.one_space s here;
              own_frames = refs_now (state_of b) uses (stayed (frame_grants (state_of a) c)) s frame_of kit.own_frames.items (own_frames_of a b thread c kit m move s here);
              own_slots = refs_now (state_of b) uses (stayed (slot_grants (state_of a) c)) s slot_of kit.own_slots.items (own_slots_of a b thread c kit m move s here);
              frames = refs_now (state_of b) uses (fresh (frame_grants (state_of a) c)) s frame_of kit.frames.items (frames_of a b thread c kit m move s here);
              slots = refs_now (state_of b) uses (fresh (slot_grants (state_of a) c)) s slot_of kit.slots.items (slots_of a b thread c kit m move s here);
              backed = backed a b thread c v rows kit ready move;
              seconds = seconds a b thread c v rows kit ready move;
              short = lacking b thread c s frames slots w rows last;
            }

        pub is_applied : OnlyWords v v1 → OnlyWords v1 v2 → OnlyWords v2 w → IsDistinct (row_numbers rows) → (rows' : List Row) (kit' : Kit) → (AreLacking b s w.rows rows kit → AreAgreed b w.rows rows') → map row_place rows' ≡ map row_place rows
            → HasRoom kit' → IsIdle kit' → IsUngranted kit' → (kit'.second_frames.items ≡ []) × (kit'.second_slots.items ≡ []) → Applied b thread c v w rows' kit kit'
        is_applied one two three once rows' kit' back places room idle ungranted none =
            is_finished b thread c s frames slots w rows last once v (rows_of_words v w (words_more v v1 w one (words_more v1 v2 w two three))) rows' kit kit' (back lacks) places room idle ungranted none
