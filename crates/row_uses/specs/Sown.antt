-- A small plan: a book of free rows, rows in limbo, the next generation and a list of positions, and rows that hold whether their position is listed; and what a sowing asks and does.
--     lists, KeepsListed      whether a book lists a position, and a book that lists untouched positions as another does
--     sown, lawful      the plan and its laws
--     View, HoldsAlone      what a pass knows, and one that holds this row and has nothing else
--     MaySow      a new row may be linked at an entry of the only row that the pass holds, at this position
--     SameSeeds, Draws      a book that is as it was, and one from which a row and a generation were taken and that lists one position more
--     IsLacking      what a book lacks for so many rows
--     KeepsRow, IsSown      the pass still holds the row, and a new row is linked
--     IsUnsown, Fails, Sows      the book lacked something, nothing was sown, and what a sowing does
--     MaySowBoth, DrawsBoth, AreSown, SowsBoth      the same of two rows at once
use Rattle.std.specs.Prelude.{◌≡◌, ◌≢◌, ℕ, ◌+◌, ◌^◌, ◌<◌, ◌≤◌, ⊤, Bool, true, false, ◌&&◌, List, [], ◌∷◌, ◌++◌, length, slice_index, slice_set, nat_eq, None, Some, Result, Ok, Err}
use Rattle.std.specs.List.{list_any}
use Rattle.std.proofs.Common.{sym, refl, inl, ◌∙◌}
use Rattle.table_place.specs.declared.Place.{Place}
use Rattle.table_place.specs.Place.{directory, entry_place, is_place}
use Rattle.walk_core.specs.Words.{is_link, link_row, held_by}
use Rattle.row_table.specs.declared.view.PassView.{PassView}
use Rattle.row_table.specs.declared.view.HeldRow.{HeldRow}
use Rattle.row_uses.specs.declared.sowing.Seeds.{Seeds}
use Rattle.row_uses.specs.declared.sowing.Bed.{Bed}
use Rattle.row_uses.specs.declared.sowing.Lack.{Lack}
use Rattle.row_uses.specs.declared.sowing.Lack.TheVariants.{Rows, Generations, Memory}
use Rattle.row_uses.specs.declared.sowing.Unsown.{Unsown}
use Rattle.row_uses.specs.declared.sowing.Unsown.TheVariants.{Busy, Lacks}
use Rattle.row_table.specs.Plan.{Region, IsUntouched, Meaning, IsLawful}
use Rattle.row_table.specs.Known.{IsAnother}
use Rattle.row_table.specs.Moves.{Fits}
use Rattle.row_table.specs.Books.{waited, Learns}

-- The plan

abbrev pub same_place : Place → Place → Bool
same_place p q = nat_eq p.space q.space && (nat_eq p.level q.level && nat_eq p.prefix q.prefix)

abbrev pub lists : Seeds → Place → Bool
lists b p = list_any (same_place p) b.listed.items

abbrev pub KeepsListed : Region → Seeds → Seeds → Type 0
KeepsListed region a b = (p : Place) → IsUntouched region p → lists b p ≡ lists a p

-- a row agrees with the book where it holds whether its position is listed
abbrev pub sown : Meaning Bool Seeds (Unit {0})
sown = record {
  journal = λ _. [];
  thread = λ _. 0;
  free = λ b. b.free.items;
  limbo = λ b. b.limbo.items;
  next_generation = λ b. b.next;
  agrees = λ b p _ x. x ≡ lists b p;
  is_blank = λ x. x ≡ false;
  may_follow = λ region a b. (a.next ≤ b.next) × KeepsListed region a b;
  same_fixed = λ _ _. ⊤;
  shows_limbo = λ _. false;
}

pub lawful : IsLawful sown
lawful = record {
  keeps_agreement = λ _ _ _ f p out _ _ agrees. agrees ∙ sym (f.1 p out);
  grows = λ _ _ _ _. inl refl;
  rises = λ _ _ _ f. f.0;
  keeps_fixed = λ _ _ _ _. tt;
  fixed_same = λ _. tt;
  fixed_back = λ _ _ _. tt;
  fixed_on = λ _ _ _ _ _. tt;
}

-- What a sowing asks

abbrev pub View : Type 0
View = PassView Bool Seeds (Unit {0})

pub record HoldsAlone (v : View) (h : HeldRow Bool) : Type 0 where
  pub rows : v.rows ≡ h ∷ []
  pub held : v.core.held ≡ h.row ∷ []
  pub granted : v.core.granted ≡ []
  pub unlinked : v.core.unlinked ≡ []
  pub has_not : v.core.has_book ≡ false

pub record MaySow (v : View) (row index : ℕ) (place : Place) : Type 0 where
  pub known : HeldRow Bool
  pub alone : HoldsAlone v known
  pub same_row : known.row ≡ row
  pub inside : index < 512
  pub no_link : is_link (slice_index known.words index) ≡ false
  pub below : place ≡ entry_place v.layout.levels known.place index
  pub is_place : is_place v.layout.levels place ≡ true

-- What it does

pub record SameSeeds (old new : Seeds) : Type 0 where
  pub free : new.free.items ≡ old.free.items
  pub limbo : new.limbo.items ≡ old.limbo.items
  pub next : new.next ≡ old.next
  pub listed : new.listed.items ≡ old.listed.items

pub record Draws (old : Seeds) (place : Place) (child generation : ℕ) (new : Seeds) : Type 0 where
  pub free : old.free.items ≡ new.free.items ++ child ∷ []
  pub limbo : new.limbo.items ≡ old.limbo.items
  pub number : generation ≡ old.next
  pub next : new.next ≡ old.next + 1
  pub listed : new.listed.items ≡ old.listed.items ++ place ∷ []
  pub few : generation < 2 ^ 30

-- why a book has not so many rows for new tables; memory may be wanting at any time
abbrev pub IsLacking : ℕ → Lack → Seeds → Type 0
IsLacking count Rows b = length b.free.items < count
IsLacking count Generations b = (count ≤ length b.free.items) × (2 ^ 30 < b.next + count)
IsLacking count Memory b = (count ≤ length b.free.items) × (b.next + count ≤ 2 ^ 30)

-- The pass holds the row alone at its position, with these entry words, and stands where it stood. What it could give the row back with, it can give it back with.
pub record KeepsRow (v : View) (h : HeldRow Bool) (words : List ℕ) (w : View) : Type 0 where
  pub after : HeldRow Bool
  pub alone : HoldsAlone w after
  pub same_row : after.row ≡ h.row
  pub same_place : after.place ≡ h.place
  pub words_are : after.words ≡ words
  pub layout : w.layout ≡ v.layout
  pub stand : w.core.stand ≡ v.core.stand
  pub fits : (x : Bool) → Fits sown v h.row x → Fits sown w h.row x

-- the entry links the new row, and the book lists its position
pub record IsSown (v : View) (h : HeldRow Bool) (index : ℕ) (place : Place) (child : ℕ) (w : View) : Type 0 where
  pub word : ℕ
  pub link : is_link word ≡ true
  pub to_child : link_row word ≡ child
  pub keeps : KeepsRow v h (slice_set h.words index word) w
  pub book : Seeds
  pub last : w.last ≡ Some book
  pub listed : lists book place ≡ true

-- the book that the turn found lacks this for so many rows, and was given back as it was; the pass holds the row as before
pub record IsUnsown (count : ℕ) (lack : Lack) (v : View) (h : HeldRow Bool) (w : View) : Type 0 where
  pub found : Seeds
  pub learned : Learns sown v.layout.rows v found
  pub lacks : IsLacking count lack found
  pub book : Seeds
  pub last : w.last ≡ Some book
  pub same : SameSeeds found book
  pub keeps : KeepsRow v h h.words w

-- another pass has the book, and nothing has changed but what the turn found; or the book lacks something
abbrev pub Fails : ℕ → View → HeldRow Bool → Unsown → View → Type 0
Fails count v h (Busy holder) w = IsAnother v holder × (w ≡ waited v (held_by holder))
Fails count v h (Lacks lack) w = IsUnsown count lack v h w

abbrev pub Sows : (v : View) (row index : ℕ) → Place → Result ℕ Unsown → View → Type 0
Sows v row index place (Err why) w = (may : MaySow v row index place) → Fails 1 v may.known why w
Sows v row index place (Ok child) w = (may : MaySow v row index place) → IsSown v may.known index place child w

-- Two rows at once

-- two entries of the only row are no links, and tables at these positions may be put there
pub record MaySowBoth (v : View) (row : ℕ) (first second : Bed) : Type 0 where
  pub one : MaySow v row first.index first.place
  pub inside : second.index < 512
  pub no_link : is_link (slice_index one.known.words second.index) ≡ false
  pub below : second.place ≡ entry_place v.layout.levels one.known.place second.index
  pub is_place : is_place v.layout.levels second.place ≡ true
  pub apart : first.index ≢ second.index

pub record DrawsBoth (old : Seeds) (first second : Place) (a b : ℕ × ℕ) (new : Seeds) : Type 0 where
  pub free : old.free.items ≡ new.free.items ++ b.0 ∷ a.0 ∷ []
  pub limbo : new.limbo.items ≡ old.limbo.items
  pub number : a.1 ≡ old.next
  pub number_after : b.1 ≡ old.next + 1
  pub next : new.next ≡ old.next + 2
  pub listed : new.listed.items ≡ old.listed.items ++ first ∷ second ∷ []
  pub few : b.1 < 2 ^ 30

-- the entries link the new rows, and the book lists their positions
pub record AreSown (v : View) (h : HeldRow Bool) (first second : Bed) (a b : ℕ) (w : View) : Type 0 where
  pub one : ℕ
  pub link : is_link one ≡ true
  pub to_row : link_row one ≡ a
  pub two : ℕ
  pub link_after : is_link two ≡ true
  pub to_row_after : link_row two ≡ b
  pub keeps : KeepsRow v h (slice_set (slice_set h.words first.index one) second.index two) w
  pub book : Seeds
  pub last : w.last ≡ Some book
  pub listed : lists book first.place ≡ true
  pub listed_after : lists book second.place ≡ true

abbrev pub SowsBoth : (v : View) (row : ℕ) → Bed → Bed → Result (ℕ × ℕ) Unsown → View → Type 0
SowsBoth v row first second (Err why) w = (may : MaySowBoth v row first second) → Fails 2 v may.one.known why w
SowsBoth v row first second (Ok r) w = (may : MaySowBoth v row first second) → AreSown v may.one.known first second r.0 r.1 w
