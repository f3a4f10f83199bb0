-- What a pass has after a call is what the event of that name makes of it.
use Rattle.std.proofs.Common.{◌≡◌, ℕ, ◌+◌, ◌%◌, ◌^◌, Bool, true, false, cond, not, List, [], ◌∷◌, ◌++◌, get_or, sym, refl, ap, ◌∙◌, arith, eqb, ne_eqb, Ok}
use prog.Atomic.{either}
use Rattle.std.specs.List.{Contains, filter}
use Rattle.walk_core.specs.declared.event.Event.{Event}
use Rattle.walk_core.specs.declared.event.Event.TheVariants.{Enter, Leave, Look, Grab, Release, Turn, Give, SetEntry, Unlink, MarkStale, SetUp, OpenRow, Sample}
use Rattle.walk_core.specs.declared.lists.PutRow.{PutRow}
use Rattle.walk_core.specs.declared.pass.GrantedRow.{GrantedRow}
use Rattle.walk_core.specs.Words.{entry_at, lock_at, epoch_at, book_at, is_link, link_row, held_by, stale}
use Rattle.walk_core.specs.Core.{no_samples}
use Rattle.walk_core.specs.Events.{pass_of, place_of, number_after, pass_after, granted_after_entry}
use Rattle.row_table.specs.declared.answers.Grabbed.TheVariants.{Got, Held, Stale}
use Rattle.row_table.specs.declared.answers.Turned.TheVariants as turn
use Rattle.row_table.specs.declared.view.PassView.{PassView}
use Rattle.row_table.specs.declared.view.HeldRow.{HeldRow}
use Rattle.row_table.specs.Plan.{Meaning}
use Rattle.row_table.specs.Crossings.{Enters, left}
use Rattle.row_table.specs.Known.{IsRight}
use Rattle.row_table.specs.Looks.{Looks}
use Rattle.row_table.specs.Calls.{Grabs}
use Rattle.row_table.specs.Books.{Turns, Gives, give_of}
use Rattle.row_table.specs.Openings.{Opens}
use Rattle.row_table.specs.Links.{link_set, word_set, Sets, Unlinks}
use Rattle.row_table.specs.Stepping.{IsEvent, KeepsLists}

-- a lock word that holds another number is left as it was
stays : (p n : ℕ) → either (eqb (n + 1) 0) (held_by p) (n + 1) ≡ n + 1
stays p n = ap (λ (b : Bool). either b (held_by p) (n + 1)) (ne_eqb (n + 1) 0 (λ e. omega arith))

module _ {R B E : Type 0} where
  -- a view whose core is that of the event
  by_view : (e : Event) (place found number : ℕ) (v u w : PassView R B E) → pass_of e ≡ v.number → place_of v.layout.rows v.layout.passes e ≡ place → number_after e found ≡ number
      → u.core ≡ pass_after v.layout.levels e found v.core → w ≡ u → IsEvent e place found number v w
  by_view e place found number v u w own at number_left after is = record { own = own; at = at; now = number_left; after = ap (λ (y : PassView R B E). y.core) is ∙ after }

  pub enters_event : (v w : PassView R B E) → Enters v (Ok tt) w → IsEvent (Enter v.number) (epoch_at v.layout.rows v.number) v.epoch w.epoch v w
  enters_event v w t = by_view _ _ _ _ v _ w refl refl (let less = t.0 in let next : (v.epoch + 1) % 2 ^ 64 ≡ v.epoch + 1 = omega arith in next ∙ sym (ap (λ (y : PassView R B E). y.epoch) t.1)) refl t.1

  pub leaves_event : (v : PassView R B E) → IsRight v → IsEvent (Leave v.number) (epoch_at v.layout.rows v.number) v.epoch (left v).epoch v (left v)
  leaves_event v right = by_view _ _ _ _ v _ (left v) refl refl (let most = right.bounded in omega arith) refl refl

  pub looks_event : (v w : PassView R B E) (row index n : ℕ) → Looks row index v n w → IsEvent (Look v.number row index) (entry_at row index) n n v w
  looks_event v w row index n t = by_view _ _ _ _ v _ w refl refl refl refl t.1

  pub got_event : (v w : PassView R B E) (row : ℕ) (x : R) → Grabs row v (Got x) w → IsEvent (Grab v.number row) (lock_at row) 0 (held_by v.number) v w
  got_event v w row x t = by_view _ _ 0 _ v _ w refl refl refl refl t.2

  pub held_event : (v w : PassView R B E) (row s : ℕ) → Grabs row v (Held s) w → IsEvent (Grab v.number row) (lock_at row) (held_by s) (held_by s) v w
  held_event v w row s t = by_view _ _ (held_by s) _ v _ w refl refl (stays v.number s)
      (sym (ap (λ (b : Bool). cond b (record v.core { held = v.core.held ++ row ∷ [] }) v.core) (ne_eqb (held_by s) 0 (λ e. omega arith)))) t.4

  pub stale_event : (v w : PassView R B E) (row : ℕ) → Grabs row v Stale w → IsEvent (Grab v.number row) (lock_at row) stale stale v w
  stale_event v w row t = by_view _ _ stale _ v _ w refl refl refl refl t.4

  pub opens_event : (M : Meaning R B E) (v w : PassView R B E) (row n : ℕ) (x : R) → Opens M row v x w → IsEvent (OpenRow v.number row) (lock_at row) n (held_by v.number) v w
  opens_event M v w row n x t = by_view _ _ n _ v _ w refl refl refl refl t.2

  pub book_event : (M : Meaning R B E) (v w : PassView R B E) (rows : ℕ) (book : B) → Turns M rows v (turn.Got book) w
      → IsEvent (Turn v.number) (book_at v.layout.rows v.layout.passes) 0 (held_by v.number) v w
  book_event M v w rows book t = by_view _ _ 0 _ v _ w refl refl refl refl t.1

  pub wait_event : (M : Meaning R B E) (v w : PassView R B E) (rows s : ℕ) → Turns M rows v (turn.Held s) w
      → IsEvent (Turn v.number) (book_at v.layout.rows v.layout.passes) (held_by s) (held_by s) v w
  wait_event M v w rows s t = by_view _ _ (held_by s) _ v _ w refl refl (stays v.number s)
      (sym (ap (λ (b : Bool). cond b (record v.core { has_book = true; samples = no_samples }) v.core) (ne_eqb (held_by s) 0 (λ e. omega arith)))) t.2

  pub gives_event : (M : Meaning R B E) (v w : PassView R B E) (new : B) (n : ℕ) (g : Gives M v new w)
      → IsEvent (give_of M v.number g.old new) (book_at v.layout.rows v.layout.passes) n 0 v w
  gives_event M v w new n g = by_view _ _ n _ v _ w refl refl refl refl g.after

  pub sets_event : (v w : PassView R B E) (linker : HeldRow R) (index x n : ℕ) → Contains v.rows linker → Sets linker.row index x v w
      → IsEvent (SetEntry v.number linker.row index x) (entry_at linker.row index) n x v w
  sets_event v w linker index x n held sets = by_view _ _ n _ v _ w refl refl refl (go (is_link x) refl) (sets linker held refl)
    where
      go : (t : Bool) → is_link x ≡ t → (cond t (link_set v linker index x) (word_set v linker.row index x)).core ≡ record v.core { granted = granted_after_entry x v.core.granted }
      go true e = refl
      go false e = sym (ap (λ (t : Bool). record v.core { granted = cond t (filter (λ (g : GrantedRow). not (eqb g.row (link_row x))) v.core.granted) v.core.granted }) e)

  pub unlinks_event : (v w : PassView R B E) (linker : HeldRow R) (index : ℕ) → Contains v.rows linker → Unlinks linker.row index v w
      → IsEvent (Unlink v.number linker.row index) (entry_at linker.row index) (get_or linker.words index 0) 0 v w
  unlinks_event v w linker index held cuts = by_view _ _ _ _ v _ w refl refl refl refl (cuts linker held refl)

-- the kinds of step but give
pub keeps_lists : (e : Event) → ((p : ℕ) (put : List PutRow) (swept taken : List ℕ) → ¬ (e ≡ Give p put swept taken)) → KeepsLists e
keeps_lists (Enter p) no_give free limbo = (refl, refl)
keeps_lists (Leave p) no_give free limbo = (refl, refl)
keeps_lists (Look p r i) no_give free limbo = (refl, refl)
keeps_lists (Grab p r) no_give free limbo = (refl, refl)
keeps_lists (Release p r) no_give free limbo = (refl, refl)
keeps_lists (Turn p) no_give free limbo = (refl, refl)
keeps_lists (Give p put swept taken) no_give free limbo = absurd (no_give p put swept taken refl)
keeps_lists (SetEntry p r i w) no_give free limbo = (refl, refl)
keeps_lists (Unlink p r i) no_give free limbo = (refl, refl)
keeps_lists (MarkStale p r) no_give free limbo = (refl, refl)
keeps_lists (SetUp p r part) no_give free limbo = (refl, refl)
keeps_lists (OpenRow p r) no_give free limbo = (refl, refl)
keeps_lists (Sample p x) no_give free limbo = (refl, refl)
