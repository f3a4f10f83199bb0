-- The rows of the list are gone through from the last to the first, as the loop counts them.
--     begun, may_step, few_gone, stepped, ended      before the first;  what a step asks, and leaves;  after the last
use Rattle.std.specs.Prelude.{◌≡◌, ℕ, ◌+◌, ◌<◌, true, List, length, slice_index_or}
use Rattle.std.proofs.Common.{sym, refl, ◌∙◌, ap, subst, arith}
use Rattle.corten_base.specs.declared.calls.Call.{Call}
use Rattle.page_map.specs.State.{levels}
use Rattle.walk_core.specs.Lists.{IsDistinct}
use Rattle.row_layout.specs.declared.places.Layout.{Layout}
use Rattle.tree_lock.specs.Held.{row_numbers, IsInOrder}
use Rattle.machine_plan.specs.declared.kit.Kit.{Kit}
use Rattle.machine_plan.specs.Books.{BookData, state_of}
use Rattle.machine_plan.specs.HeldRows.{Row}
use Rattle.machine_plan.proofs.Levels.{has_levels}
use Rattle.cursor_detach.specs.Removing.{is_cut}
use Rattle.cursor_detach.specs.Cutting.{MayCut}
use Rattle.cursor_detach.specs.Detaching.{IsDetachable, Detached, StepsBack, Cutting}
use Rattle.cursor_detach.proofs.Empty.{View}
use Rattle.cursor_detach.proofs.Lists.{any_default}
use Rattle.cursor_detach.proofs.Started.{started, tables, few, some}
use Rattle.cursor_detach.proofs.Ready.{may_go, has_place}
use Rattle.cursor_detach.proofs.Further.{further}
use Rattle.cursor_detach.proofs.Finished.{detached}

module _ {B E : Type 0} (a b : BookData) (thread : ℕ) (c : Call) (v : View B E) (rows : List Row) (kit : Kit) (ready : IsDetachable a b thread c v rows kit) (order : IsInOrder rows) (once : IsDistinct (row_numbers rows))
    (k : Layout) (L : ℕ) (known : v.layout ≡ k) (levels_are : k.levels ≡ L) where
  same_levels : L ≡ levels (state_of a)
  same_levels = sym levels_are ∙ (ap (λ (y : Layout). y.levels) (sym known) ∙ (ready.same_levels ∙ sym (has_levels a)))

  pub begun : (n : ℕ) → n ≡ length rows → Cutting L n v rows kit v rows kit
  begun n all = subst (λ m. Cutting L m v rows kit v rows kit) (sym all) (subst (λ m. Cutting m (length rows) v rows kit v rows kit) (sym same_levels) (started a b thread c v rows kit ready order once kit refl))

  module _ (at n : ℕ) (w : View B E) (rows' : List Row) (kit' : Kit) (last : n ≡ at + 1) (is : Cutting L n v rows kit w rows' kit') where
    so_far : Cutting (levels (state_of a)) (at + 1) v rows kit w rows' kit'
    so_far = subst (λ m. Cutting m (at + 1) v rows kit w rows' kit') same_levels (subst (λ m. Cutting L m v rows kit w rows' kit') last is)

    pub inside : at < length rows'
    inside = let most = is.within in omega arith

    pub may_step : IsInOrder rows' → IsDistinct (row_numbers rows') → (x d : Row) → slice_index_or rows' at d ≡ x → is_cut L kit' x.place ≡ true → MayCut L at x rows' w
    may_step order' once' x d here cut =
        subst (λ m. MayCut m at x rows' w) (sym same_levels) (may_go a b thread c v rows kit ready order once at w rows' kit' so_far order' once' x inside (λ e. any_default rows' at e d inside ∙ here) (subst (λ m. is_cut m kit' x.place ≡ true) same_levels cut))

    pub few_gone : IsInOrder rows' → IsDistinct (row_numbers rows') → (x d : Row) → slice_index_or rows' at d ≡ x → is_cut L kit' x.place ≡ true → length kit'.gone.items < 1023
    few_gone order' once' x d here cut =
        has_place a b thread c v rows kit ready order once at w rows' kit' so_far order' once' x inside (λ e. any_default rows' at e d inside ∙ here) (subst (λ m. is_cut m kit' x.place ≡ true) same_levels cut)

    pub stepped : (m : ℕ) (w'' : View B E) (rows'' : List Row) (kit'' : Kit) → m ≡ at → StepsBack L at rows' w kit' rows'' w'' kit'' → Cutting L m v rows kit w'' rows'' kit''
    stepped m w'' rows'' kit'' next steps = subst (λ q. Cutting L q v rows kit w'' rows'' kit'') (sym next) (subst (λ m. Cutting m at v rows kit w'' rows'' kit'') (sym same_levels)
        (further (levels (state_of a)) (few a b thread c v rows kit ready order once) (some a b thread c v rows kit ready order once) v rows kit order once (tables a b thread c v rows kit ready order once) at w rows' kit' so_far w'' rows'' kit''
        (subst (λ m. StepsBack m at rows' w kit' rows'' w'' kit'') same_levels steps)))

  pub ended : (n : ℕ) (w : View B E) (rows' : List Row) (kit' : Kit) → n ≡ 0 → Cutting L n v rows kit w rows' kit' → Detached a b thread c v w rows rows' kit kit'
  ended n w rows' kit' none is = detached a b thread c v rows kit ready order once w rows' kit' (subst (λ m. Cutting m 0 v rows kit w rows' kit') same_levels (subst (λ m. Cutting L m v rows kit w rows' kit') none is))
