-- What a caller of a pass knows of it, in the public words alone.
--     IsStanding      a pass that stands on this row and has nothing
--     Notes      one finding more, of the row and at the position of a stand
--     came, WentDown      where a look leads, and what one has done
--     Touched, Went, LookedIn      what a grab has done that was given back, the way from row 0 on, and what a pass that came and went has done
--     HasAdded, HasReturned, Adds      what a pass has done that took the book for an entry
--     Remembers      what a closed table's journal tells of a pass
use Rattle.std.specs.Prelude.{◌≡◌, ℕ, ◌+◌, ◌^◌, cond, false, List, [], ◌∷◌, ◌++◌, length, Option, Some, None}
use Rattle.table_place.specs.Place.{entry_place}
use Rattle.walk_core.specs.declared.pass.Stand.{Stand}
use Rattle.walk_core.specs.Words.{is_link, link_row, link_generation, held_by, stale}
use Rattle.walk_core.specs.Events.{top}
use Rattle.row_table.specs.declared.view.PassView.{PassView}
use Rattle.row_uses.specs.declared.uses.Visit.{Visit}
use Rattle.row_uses.specs.declared.uses.Visit.TheVariants.{Got, Held, Stale, Worn}
use Rattle.row_uses.specs.declared.uses.Addition.{Addition}
use Rattle.row_uses.specs.declared.uses.Addition.TheVariants.{Added, Busy, NoMemory}
use Rattle.row_table.specs.Plan.{Meaning}
use Rattle.row_table.specs.Rule.{StartsWith, own_places}
use Rattle.row_table.specs.Known.{IsAnother}
use Rattle.row_table.specs.Moves.{finding}
use Rattle.row_table.specs.Books.{waited, Learns}

-- where a pass stands that read this word in an entry of the row on which it stood
abbrev pub came : ℕ → Stand → ℕ → ℕ → Stand
came levels s index word = cond (is_link word) (record { row = link_row word; place = entry_place levels s.place index; generation = link_generation word }) s

module _ {R B E : Type 0} where
  pub record IsStanding (v : PassView R B E) (row : ℕ) : Type 0 where
    pub stand : Stand
    pub on : v.core.stand ≡ Some stand
    pub same_row : stand.row ≡ row
    pub held : v.core.held ≡ []
    pub granted : v.core.granted ≡ []
    pub unlinked : v.core.unlinked ≡ []
    pub has_not : v.core.has_book ≡ false

  abbrev pub Notes : PassView R B E → Stand → Option ℕ → ℕ → PassView R B E → Type 0
  Notes v s index word w = w.findings ≡ v.findings ++ finding s.row s.place index word ∷ []

  -- a look at an entry of the row on which the pass stood
  pub record WentDown (v : PassView R B E) (s : Stand) (index : ℕ) (w : PassView R B E) : Type 0 where
    pub word : ℕ
    pub found : Notes v s (Some index) word w
    pub stands : w.core.stand ≡ Some (came v.layout.levels s index word)
    pub layout : w.layout ≡ v.layout

  -- a grab of the row on which the pass stood
  abbrev pub Touched : PassView R B E → Stand → Visit → PassView R B E → Type 0
  Touched v s (Got row) w = (row ≡ s.row) × Notes v s None 0 w
  Touched v s (Held holder) w = Notes v s None (held_by holder) w
  Touched v s Stale w = Notes v s None stale w
  Touched v s Worn w = ⊥

  -- since it entered the pass looked at the first entry of row 0, at the second entry of the row on which it stood then, and tried the row to which that led, in whose lock word it found this
  pub record Went (v : PassView R B E) (first second word : ℕ) (w : PassView R B E) : Type 0 where
    pub link : ℕ
    pub between : Stand
    pub is_between : between ≡ came v.layout.levels top first link
    pub next : ℕ
    pub last : Stand
    pub is_last : last ≡ came v.layout.levels between second next
    pub found : w.findings ≡ finding top.row top.place (Some first) link ∷ finding between.row between.place (Some second) next ∷ finding last.row last.place None word ∷ []

  -- a pass that came inside and went out again, or could not come
  abbrev pub LookedIn : ℕ → ℕ → PassView R B E → Visit → PassView R B E → Type 0
  LookedIn first second v (Got row) w = (w.epoch ≡ v.epoch + 2) × ((way : Went v first second 0 w) × (row ≡ way.last.row))
  LookedIn first second v (Held holder) w = (w.epoch ≡ v.epoch + 2) × Went v first second (held_by holder) w
  LookedIn first second v Stale w = (w.epoch ≡ v.epoch + 2) × Went v first second stale w
  LookedIn first second v Worn w = (v.epoch ≡ 2 ^ 62) × (w ≡ v)

  -- the journal goes on from what the pass had seen, the entry stands at its end, and the pass knows the entry's place
  pub record HasAdded (v : PassView R B E) (entry : E) (w : PassView R B E) : Type 0 where
    pub before : List E
    pub goes_on : StartsWith before v.seen
    pub seen : w.seen ≡ before ++ entry ∷ []
    pub mine : w.mine ≡ v.mine ++ length before ∷ []

  module _ (M : Meaning R B E) where
    -- the pass has seen the journal that its turn found, and gave a book back with this journal, in which its own entries are those before
    pub record HasReturned (v w : PassView R B E) : Type 0 where
      pub found : B
      pub learned : Learns M v.layout.rows v found
      pub seen : w.seen ≡ M.journal found
      pub mine : w.mine ≡ v.mine
      pub book : B
      pub last : w.last ≡ Some book
      pub same : M.journal book ≡ M.journal found

    -- no memory needs no cause
    abbrev pub Adds : PassView R B E → E → Addition → PassView R B E → Type 0
    Adds v entry Added w = HasAdded v entry w
    Adds v entry (Busy holder) w = IsAnother v holder × (w ≡ waited v (held_by holder))
    Adds v entry NoMemory w = HasReturned v w

  -- the journal goes on from what the pass has seen of it, and the pass's own entries stand at the places that it knows
  pub record Remembers (M : Meaning R B E) (journal : List E) (v : PassView R B E) : Type 0 where
    pub seen : StartsWith journal v.seen
    pub mine : v.mine ≡ own_places M v.number journal
