-- The first refusal of a call, step by step.
use Rattle.std.proofs.Common.{◌≡◌, ℕ, Some, None, [], ◌∷◌}
use Rattle.corten_base.specs.declared.calls.Call.{Call}
use Rattle.corten_base.specs.declared.calls.Reply.{Reply}
use Rattle.page_map.specs.State.{State}
use Rattle.page_map.specs.Step.{refusal, first_refusal, arguments, no_space, no_spaces, no_place, pages, no_tables, no_frames, no_swap}

module _ (st : State) (thread : ℕ) (c : Call) (limbo : ℕ) where
  -- no place
  pub by_place : (r : Reply) → arguments st c ≡ None → no_space st c ≡ None → no_spaces st c ≡ None → no_place st thread c ≡ Some r → refusal st thread c limbo ≡ Some r
  unfolding refusal
  by_place r a b d e i = first_refusal (a i ∷ b i ∷ d i ∷ e i ∷ pages st c ∷ no_tables st thread c limbo ∷ no_frames st c ∷ no_swap st c ∷ [])

  -- no page tables
  pub by_tables : (r : Reply) → arguments st c ≡ None → no_space st c ≡ None → no_spaces st c ≡ None → no_place st thread c ≡ None → pages st c ≡ None →
      no_tables st thread c limbo ≡ Some r → refusal st thread c limbo ≡ Some r
  unfolding refusal
  by_tables r a b d e f g i = first_refusal (a i ∷ b i ∷ d i ∷ e i ∷ f i ∷ g i ∷ no_frames st c ∷ no_swap st c ∷ [])
