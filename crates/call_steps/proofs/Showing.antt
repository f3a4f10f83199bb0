-- Where an entry says that page tables are wanting, the rows in limbo were swept.
--     few_free      the reply says it only where the free rows within the limit are fewer than the rows needed
--     all_blocked      so the rows in limbo have readers
use Rattle.std.specs.Prelude.{◌≡◌, ℕ, ◌+◌, ◌<◌, Bool, true, false, cond, List, [], ◌∷◌, ◌++◌, map, length, nat_lt, is_some, Option, Some, None}
use Rattle.std.specs.List.{Contains}
use Rattle.std.specs.Option.{option_or}
use Rattle.std.proofs.Common.{sym, refl, ◌∙◌, ap, subst, arith}
use Rattle.std.proofs.lemmas.Bool.{true≢false, ltb-true}
use Rattle.corten_base.specs.declared.numbers.Limits.{Limits}
use Rattle.corten_base.specs.declared.calls.Call.{Call}
use Rattle.corten_base.specs.declared.calls.Entry.{Entry}
use Rattle.corten_base.specs.declared.calls.Reply.{Reply}
use Rattle.corten_base.specs.declared.calls.Reply.TheVariants as reply
use Rattle.page_map.specs.Effect.{wanted_tables}
use Rattle.page_map.specs.State.{State, linked}
use Rattle.page_map.specs.Step.{refusal, step, first_refusal, no_tables, no_frames, no_swap}
use Rattle.page_map.specs.Tables.{need}
use Rattle.page_map.proofs.Steps.{accepted, refused}
use Rattle.walk_core.specs.declared.lists.PutRow.{PutRow}
use Rattle.row_layout.specs.declared.limbo.Sampled.{Sampled}
use Rattle.row_table.specs.Blocked.{IsBlocked}
use Rattle.machine_plan.specs.declared.kit.Kit.{Kit}
use Rattle.machine_plan.specs.Books.{BookData, state_of, free_rows_within, RowSum, put_of, unblocked}
use Rattle.machine_plan.specs.Kits.{IsFilled, Commits}
use Rattle.machine_plan.specs.Limbo.{is_short, ends_short, shows_limbo}
use Rattle.machine_plan.specs.Uses.{early_refusal}
use Rattle.machine_plan.specs.Whole.{IsBook}
use Rattle.book.proofs.Counted.{state_limits}
use Rattle.book.proofs.Refusing.{in_parts}
use Rattle.call_steps.specs.Ready.{View}
use Rattle.call_steps.proofs.Short.{early_shows, late_shows, answer_shows}

abbrev is_over : State → ℕ → Call → ℕ → Bool
is_over st thread c limbo = nat_lt st.limits.tables (linked st + need (wanted_tables st thread c) st.tables + limbo)

record IsLacking (st : State) (thread : ℕ) (c : Call) (limbo : ℕ) : Type 0 where
  pub not_early : early_refusal st thread c ≡ None
  pub over : st.limits.tables < linked st + need (wanted_tables st thread c) st.tables + limbo

lacking : (st : State) (thread : ℕ) (c : Call) (limbo : ℕ) (r : Reply) → refusal st thread c limbo ≡ Some r → is_short r ≡ true → IsLacking st thread c limbo
lacking st thread c limbo r e short = go (early_refusal st thread c) refl (sym (in_parts st thread c limbo) ∙ e)
  where
    tables : early_refusal st thread c ≡ None → (b : Bool) → is_over st thread c limbo ≡ b → option_or (cond b (Some (reply.NoTables (linked st) limbo (need (wanted_tables st thread c) st.tables))) None) (first_refusal (no_frames st c ∷ no_swap st c ∷ [])) ≡ Some r → IsLacking st thread c limbo
    tables none true is g = record { not_early = none; over = ltb-true _ _ is }
    tables none false is g = absurd (true≢false (sym short ∙ late_shows st thread c r g))

    go : (o : Option Reply) → early_refusal st thread c ≡ o → option_or o (first_refusal (no_tables st thread c limbo ∷ no_frames st c ∷ no_swap st c ∷ [])) ≡ Some r → IsLacking st thread c limbo
    go (Some s) is h = absurd (true≢false (sym short ∙ early_shows st thread c r (is ∙ h)))
    go None is h = tables is (is_over st thread c limbo) refl h

ends_with : (es : List Entry) (e : Entry) → ends_short (es ++ e ∷ []) ≡ is_short e.reply
ends_with [] e = refl
ends_with (x ∷ []) e = refl
ends_with (x ∷ y ∷ es) e = ends_with (y ∷ es) e

maps : (xs : List Sampled) → map put_of (map unblocked xs) ≡ map put_of xs
maps [] = refl
maps (x ∷ xs) = let rest = maps xs in λ i. put_of x ∷ rest i

module _ (m b : BookData) (thread : ℕ) (c : Call) (kit kit' : Kit) (r : Reply) (is : IsBook m) (sum : RowSum m) (filled : IsFilled m thread c kit) (commits : Commits m thread c kit r b kit') where
  pub few_free : is_short r ≡ true → free_rows_within m < kit.rows_needed
  few_free short = go (refusal (state_of m) thread c (length m.limbo)) refl
    where
      reply_is : r ≡ (step (state_of m) thread c (length m.limbo)).0
      reply_is = ap (λ (x : Reply × State). x.0) commits.is_step

      go : (o : Option Reply) → refusal (state_of m) thread c (length m.limbo) ≡ o → free_rows_within m < kit.rows_needed
      go None e = absurd (true≢false (sym short ∙ (ap is_short (reply_is ∙ ap (λ (x : Reply × State). x.0) (accepted (state_of m) thread c (length m.limbo) e)) ∙ answer_shows (state_of m) thread c)))
      go (Some s) e =
          let same : r ≡ s = reply_is ∙ ap (λ (x : Reply × State). x.0) (refused (state_of m) thread c (length m.limbo) s e) in
          let lacks = lacking (state_of m) thread c (length m.limbo) s e (sym (ap is_short same) ∙ short) in
          let needed = (filled.planned (ap is_some (filled.early ∙ lacks.not_early))).rows in
          let tables : m.limits.tables ≡ (state_of m).limits.tables = sym (ap (λ (l : Limits). l.tables) (state_limits m)) in
          let over = lacks.over in
          omega (arith, over, needed, tables, sum)

  -- a call that was given no row to put into limbo: where the free rows were too few, a sweep found a reader of each row
  pub all_blocked : (old g : BookData) (passes : ℕ) (v : View) → g.journal ≡ old.journal ++ record { thread = thread; call = c; reply = r } ∷ [] → map put_of g.limbo ≡ map put_of m.limbo
      → (free_rows_within m < kit.rows_needed → (x : PutRow) → Contains (map put_of m.limbo) x → IsBlocked passes v.core x)
      → shows_limbo g ≡ true → (entry : Entry) → g.journal ≡ old.journal ++ entry ∷ [] → (x : PutRow) → Contains (map put_of g.limbo) x → IsBlocked passes v.core x
  all_blocked old g passes v journal same swept shown entry _ x has =
      let short : is_short r ≡ true = sym (ap ends_short journal ∙ ends_with old.journal (record { thread = thread; call = c; reply = r })) ∙ shown in
      swept (few_free short) x (subst (λ (l : List PutRow). Contains l x) same has)

  -- the limbo after a commit has the same rows
  pub same_limbo : map put_of b.limbo ≡ map put_of m.limbo
  same_limbo = ap (map put_of) commits.limbo ∙ maps m.limbo
