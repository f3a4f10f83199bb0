-- Page tables that a call lacks, as a list of those of its wanted ones that are missing.
use Rattle.std.proofs.Common.{◌≡◌, ℕ, Bool, true, false, not, ◌&&◌, List, [], length, refl, sym, ap, subst, ◌∙◌}
use Rattle.std.specs.Prelude.{Result, Ok, Err, IfOk, IfErr, IfSome}
use Rattle.std.specs.FinSet as set
use Rattle.std.specs.FinSet.{same_set, contains-difference}
use Rattle.corten_base.specs.declared.calls.Reply.{Reply}
use Rattle.table_place.specs.declared.Place.{Place}
use Rattle.page_map.specs.State.{State, linked}
use Rattle.page_map.specs.Tables.{Tables, missing}
use Rattle.page_map.proofs.Evaluate.{difference_empty}
use Rattle.page_map.proofs.LoadReplies.{need_none}
use Rattle.page_map.proofs.Places.{place_total, place_exact}
use Rattle.plain_counts.specs.Levels.{Lists}
use Rattle.plain_spaces.specs.Wants.{refusal_of}
use Rattle.plain_spaces.specs.declared.access.Stop.{Stop}
use Rattle.plain_spaces.specs.declared.access.Stop.TheVariants.{Refused, NoMemory}
use Rattle.mm_model.specs.Lacking.{lack, tables_lack}

-- none of them is there
pub apart : (tables : Tables) (wanted items : List Place) → Lists (missing wanted tables) items → set.difference tables (set.from_list items) ≡ tables
apart tables wanted items lists = ap (set.difference tables) lists.same ∙ same_set place_total place_exact _ _ (λ p.
    contains-difference place_total tables (missing wanted tables) p
    ∙ ap (λ b. set.contains tables p && not b) (contains-difference place_total (set.from_list wanted) tables p)
    ∙ go (set.contains tables p) (set.contains (set.from_list wanted) p))
  where
    go : (t w : Bool) → (t && not (w && not t)) ≡ t
    go true true = refl
    go true false = refl
    go false w = refl

-- two lists of which the same are missing
pub lack_same : (st : State) (a b : List Place) (limbo : ℕ) → missing a st.tables ≡ missing b st.tables → tables_lack st a limbo ≡ tables_lack st b limbo
lack_same st a b limbo e = ap (λ s. lack st.limits.tables (linked st) limbo (set.len s)) e

pub lists_same : (tables : Tables) (a b items : List Place) → missing a tables ≡ missing b tables → Lists (missing a tables) items → Lists (missing b tables) items
lists_same tables a b items e lists = subst (λ s. Lists s items) e lists

-- judged by the length of the list
pub lack_listed : (st : State) (wanted items : List Place) (limbo : ℕ) → Lists (missing wanted st.tables) items → lack st.limits.tables (linked st) limbo (length items) ≡ tables_lack st wanted limbo
lack_listed st wanted items limbo lists = ap (lack st.limits.tables (linked st) limbo) lists.once

-- nothing is wanted
pub nothing_lists : (tables : Tables) → Lists (missing [] tables) []
nothing_lists tables = record { same = sym (difference_empty place_total place_exact tables); once = sym (need_none tables) }

-- a fact from another
pub if_ok : {A E : Type 0} (r : Result A E) {P Q : A → Type 0} → ((x : A) → P x → Q x) → IfOk r P → IfOk r Q
if_ok (Ok x) f h = f x h
if_ok (Err e) f h = tt

pub if_refused : {A : Type 0} (r : Result A Stop) {P Q : Reply → Type 0} → ((x : Reply) → P x → Q x) → IfErr r (λ stop. IfSome (refusal_of stop) P) → IfErr r (λ stop. IfSome (refusal_of stop) Q)
if_refused (Ok x) f h = tt
if_refused (Err (Refused reply)) f h = f reply h
if_refused (Err NoMemory) f h = tt
