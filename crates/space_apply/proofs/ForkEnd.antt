-- A copy of a space, from the linked tables to the end.
--     may_share_own, may_share_new      the leaves of both spaces may be written
--     applied      what is left
use Rattle.std.specs.Prelude.{◌≡◌, ◌≢◌, ℕ, ◌<◌, ◌⊎◌, true, List, [], ◌++◌, map, length}
use Rattle.std.specs.List.{Contains}
use Rattle.std.proofs.Common.{refl, ◌∙◌, ap, arith, inl, inr}
use Rattle.corten_base.specs.declared.calls.Call.{Call}
use Rattle.page_map.specs.Cell.{frame_of, slot_of}
use Rattle.page_map.specs.Effect.{space_of}
use Rattle.page_map.specs.State.{IsConsistent}
use Rattle.row_cells.specs.declared.Cell.{Cell}
use Rattle.row_table.specs.declared.view.PassView.{PassView}
use Rattle.row_table.specs.declared.view.HeldRow.{HeldRow as KnownRow}
use Rattle.table_place.specs.declared.Place.{Place}
use Rattle.machine_plan.specs.declared.kit.Kit.{Kit}
use Rattle.machine_plan.specs.Agrees.{IsTableOf}
use Rattle.machine_plan.specs.Books.{BookData, state_of}
use Rattle.machine_plan.specs.Held.{ListHolds}
use Rattle.machine_plan.specs.HeldRows.{Row}
use Rattle.machine_plan.specs.Kits.{HasRoom, IsIdle, IsUngranted, Refs, AreBacked}
use Rattle.cursor_apply.specs.Applying.{is_store, IsApplicable, OnlyWords, Applied}
use Rattle.space_apply.specs.Copying.{CopiesSpace, copy_at}
use Rattle.cursor_apply.specs.Linking.{IsLinkable}
use Rattle.space_apply.specs.Marking.{MarksCopied}
use Rattle.cursor_apply.specs.Placing.{AreShortIn}
use Rattle.cursor_apply.specs.Putting.{AreRefs, pages_of, row_place}
use Rattle.cursor_apply.specs.Sharing.{AreFramesAt, AreSharing, MayShare, Shares}
use Rattle.cursor_apply.specs.Staging.{with_tables, Staged}
use Rattle.cursor_apply.proofs.Begun.{few_frames}
use Rattle.space_apply.proofs.CopyTables.{is_fork}
use Rattle.space_apply.proofs.ForkCells.{IsFork}
use Rattle.space_apply.proofs.ForkLists.{frames_at}
use Rattle.cursor_apply.proofs.Kept.{words_more, rows_more, rows_of_words, rows_emptied}
use Rattle.space_apply.proofs.ForkRows.{two_spaces, first_shared, then_shared, then_short, other_short, two_still, is_applied}

abbrev pub PlacesFrames : ℕ → Refs → List Row → List Row → Type 0
PlacesFrames space refs old new = (b : BookData) (known : List (KnownRow (List Cell))) (more slots : List ℕ) (rest : List ℕ × List ℕ)
    → IsConsistent (state_of b) → AreRefs (state_of b) space frame_of refs → AreBacked b.frames refs → AreShortIn b known space (more ++ pages_of refs) slots rest old → AreShortIn b known space more slots rest new

abbrev pub PlacesSlots : ℕ → Refs → List Row → List Row → Type 0
PlacesSlots space refs old new = (b : BookData) (known : List (KnownRow (List Cell))) (more frames : List ℕ) (rest : List ℕ × List ℕ)
    → IsConsistent (state_of b) → AreRefs (state_of b) space slot_of refs → AreBacked b.slots refs → AreShortIn b known space frames (more ++ pages_of refs) rest old → AreShortIn b known space frames more rest new

module _ {B E : Type 0} (a b : BookData) (thread : ℕ) (c : Call) (v : PassView (List Cell) B E) (rows : List Row) (kit : Kit) (ready : IsApplicable a b thread c v rows kit) (done : kit.done ≡ true) (further : IsLinkable a b thread c v rows kit)
    (space new : ℕ) (copies : CopiesSpace a c rows space new) where
  fork : IsFork a b thread c kit rows space new
  fork = is_fork a b thread c v rows kit ready done further space new copies

  pub two : space ≢ new
  two = fork.two

  module _ (w1 : PassView (List Cell) B E) (rows1 : List Row) (staged : Staged a b thread c kit v w1 rows rows1) where
    -- each row of the copy has its source
    pub sources : (x : Row) → Contains rows1 x → x.place.space ≡ new → x.place.level < 6 → ListHolds rows1 (copy_at space x.place)
    sources x has own low = by (staged.staged x has).table
      where
        by : IsTableOf (with_tables (state_of a) (state_of b).tables) x.place → ListHolds rows1 (copy_at space x.place)
        by (inl top) = absurd (let e = ap (λ (p : Place). p.level) top in omega (arith, e, low))
        by (inr there) =
            let l = fork.tables.held (copy_at space x.place) (fork.back x.place there own) refl in
            let o = staged.kept l.0 l.1 in
            (o.0, o.1, o.3 ∙ l.2)

    module _ (rows2 : List Row) (marks : MarksCopied space new (length rows1) rows1 rows2) where
      first : AreSharing b space (pages_of kit.own_frames.items ++ []) (new, pages_of kit.frames.items) w1 rows2
      first = first_shared a b thread c kit rows space new fork v w1 rows1 rows2 staged marks (ready.one_space space (ap space_of copies.forks)) (few_frames b ready.books.1)

      of_two : (y : Row) → Contains rows2 y → y.place.level < 6 → (y.place.space ≡ space) ⊎ (y.place.space ≡ new)
      of_two = two_spaces a b thread c kit rows space new fork v w1 rows1 rows2 staged marks (ready.one_space space (ap space_of copies.forks)) (few_frames b ready.books.1)

      pub may_share_own : MayShare space (pages_of kit.own_frames.items) (λ k. AreFramesAt (state_of k) space kit.own_frames.items) w1 rows2
      may_share_own = (b, [], (new, pages_of kit.frames.items), first, frames_at (state_of b) space kit.own_frames.items fork.lists.own_frames)

      module _ (w2 : PassView (List Cell) B E) (own : Shares space (pages_of kit.own_frames.items) (λ k. AreFramesAt (state_of k) space kit.own_frames.items) w1 w2 rows2) where
        third : AreSharing b new (pages_of kit.frames.items ++ []) (space, []) w2 rows2
        third = then_shared b space new (pages_of kit.frames.items) w2 rows2 (own b [] (new, pages_of kit.frames.items) first (frames_at (state_of b) space kit.own_frames.items fork.lists.own_frames))

        pub may_share_new : MayShare new (pages_of kit.frames.items) (λ k. AreFramesAt (state_of k) new kit.frames.items) w2 rows2
        may_share_new = (b, [], (space, []), third, frames_at (state_of b) new kit.frames.items fork.lists.frames)

        module _ (w3 : PassView (List Cell) B E) (theirs : Shares new (pages_of kit.frames.items) (λ k. AreFramesAt (state_of k) new kit.frames.items) w2 w3 rows2) where
          last : AreSharing b new [] (space, []) w3 rows2
          last = theirs b [] (space, []) third (frames_at (state_of b) new kit.frames.items fork.lists.frames)

          pub applied : OnlyWords w1 w2 → OnlyWords w2 w3 → (rows3 rows4 rows5 rows6 : List Row) → PlacesFrames space kit.own_frames.items rows2 rows3 → PlacesSlots space kit.own_slots.items rows3 rows4 → PlacesFrames new kit.frames.items rows4 rows5 → PlacesSlots new kit.slots.items rows5 rows6
              → map row_place rows3 ≡ map row_place rows2 → map row_place rows4 ≡ map row_place rows3 → map row_place rows5 ≡ map row_place rows4 → map row_place rows6 ≡ map row_place rows5
              → (kit' : Kit) → HasRoom kit' → IsIdle kit' → IsUngranted kit' → (kit'.second_frames.items ≡ []) × (kit'.second_slots.items ≡ []) → Applied b thread c v w3 rows6 kit kit'
          applied words words' rows3 rows4 rows5 rows6 one two_of three four e3 e4 e5 e6 kit' room idle ungranted seconds =
              let l = fork.lists in
              let so = one b w3.rows [] (pages_of kit.own_slots.items) (pages_of kit.frames.items, pages_of kit.slots.items) fork.after l.own_frames l.backed.0
              (then_short b space new fork.two w3 rows2 last of_two ((pages_of kit.own_frames.items, pages_of kit.own_slots.items), (pages_of kit.frames.items, pages_of kit.slots.items)) l.own_frames_listed l.own_slots_listed l.frames_listed l.slots_listed) in
              let mine = two_of b w3.rows [] [] (pages_of kit.frames.items, pages_of kit.slots.items) fork.after l.own_slots l.backed.2 so in
              let of_two4 = two_still rows3 rows4 space new e4 (two_still rows2 rows3 space new e3 of_two) in
              let turned = other_short b fork.after space new fork.two w3.rows (pages_of kit.frames.items) (pages_of kit.slots.items) rows4 of_two4 mine in
              let fifth = three b w3.rows [] (pages_of kit.slots.items) ([], []) fork.after l.frames l.backed.1 turned in
              let sixth = four b w3.rows [] [] ([], []) fork.after l.slots l.backed.3 fifth in
              let view = rows_more v w1 w3 (rows_emptied v w1 staged.view) (rows_of_words w1 w3 (words_more w1 w2 w3 words words')) in
              is_applied b thread c space new v w3 rows2 rows6 kit kit' view last (ap is_store copies.forks) sixth (e6 ∙ (e5 ∙ (e4 ∙ e3))) room idle ungranted seconds
