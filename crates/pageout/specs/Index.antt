-- The marks of pages: each page that has a frame, with its frame and its last touch.
--     key_of, page_of, victim_of      a page of a space;  the page of a victim;  a page with a last touch
--     mark_at, last_touch      the mark of a page;  the last touch that a mark says
--     IsBehind, first_behind      a page behind another, and any where there is none;  where the owners of a frame begin that are
--     IsNextOwner, IsNextOther      the least owner of a frame behind a page;  the least but one page
--     IsOnlyOther, IsLeftBy      the only owner of a frame beside a page;  it as a victim, with its last touch
--     IsSole, is_victim, AreSole      a page has a frame that no other page has, with its last touch;  it is in the order;  all that do are
--     SetsVictim, AreSameVictims, IsMovedOn      one is there or not, and all others as before;  all as before;  one comes in the place of another
--     SetsMark, AreSameMarks      one page has this mark and each other page keeps its own;  all keep their own
use Rattle.std.specs.Prelude.{◌≡◌, ◌≢◌, ◌↔◌, ℕ, Bool, true, false, cond, Option, Some, None, ⊤}
use Rattle.std.specs.Option.{option_map}
use Rattle.std.specs.Ordering.{eq_by_cmp, is_gt}
use Rattle.std.specs.BTreeMap as tree
use Rattle.std.specs.BTreeSet.{BTreeSet}
use Rattle.std.specs.BTreeSet as set
use Rattle.std.specs.declared.cmp.Ordering.TheVariants.{Less}
use Rattle.std.specs.declared.ops.Bound.{Bound}
use Rattle.std.specs.declared.ops.Bound.TheVariants.{Included, Excluded}
use Rattle.pageout.specs.declared.marks.Key.{Key}
use Rattle.pageout.specs.declared.marks.Mark.{Mark}
use Rattle.pageout.specs.declared.marks.Owner.{Owner}
pub use Rattle.pageout.specs.declared.marks.Marks.{Marks}
use Rattle.pageout.specs.declared.victims.Victim.{Victim}
use Rattle.pageout.specs.Victims.{victim_cmp}
pub use Rattle.pageout.specs.Owners.{key_cmp, owner_cmp, has_frame}

abbrev pub key_of : ℕ → ℕ → Key
key_of space page = record { space = space; page = page }

abbrev pub page_of : Victim → Key
page_of v = key_of v.space v.page

abbrev pub victim_of : Key → ℕ → Victim
victim_of key touched = record { touched = touched; space = key.space; page = key.page }

abbrev pub mark_at : Marks → Key → Option Mark
mark_at marks key = tree.get key_cmp marks.by_page key

abbrev pub last_touch : Option Mark → Option ℕ
last_touch mark = option_map (λ m. m.touched) mark

-- ---- the owners of a frame

abbrev pub IsBehind : Option Key → Key → Type 0
IsBehind None q = ⊤
IsBehind (Some key) q = key_cmp key q ≡ Less

abbrev pub first_behind : ℕ → Option Key → Bound Owner
first_behind frame None = Included (record { frame = frame; key = key_of 0 0 })
first_behind frame (Some key) = Excluded (record { frame = frame; key = key })

pub record IsNextOwner (mark : Key → Option Mark) (frame : ℕ) (behind : Option Key) (key : Key) : Type 0 where
  pub there : IsBehind behind key
  pub has : has_frame (mark key) frame ≡ true
  pub least : (q : Key) → IsBehind behind q → has_frame (mark q) frame ≡ true → is_gt (key_cmp key q) ≡ false

pub record IsNextOther (mark : Key → Option Mark) (frame : ℕ) (but : Key) (behind : Option Key) (key : Key) : Type 0 where
  pub there : IsBehind behind key
  pub has : has_frame (mark key) frame ≡ true
  pub apart : key ≢ but
  pub least : (q : Key) → IsBehind behind q → has_frame (mark q) frame ≡ true → q ≢ but → is_gt (key_cmp key q) ≡ false

pub record IsOnlyOther (mark : Key → Option Mark) (frame : ℕ) (but key : Key) : Type 0 where
  pub has : has_frame (mark key) frame ≡ true
  pub apart : key ≢ but
  pub only : (q : Key) → has_frame (mark q) frame ≡ true → q ≢ but → q ≡ key

-- ---- victims

pub record IsSole (mark : Key → Option Mark) (v : Victim) : Type 0 where
  pub touched : last_touch (mark (page_of v)) ≡ Some v.touched
  pub alone : (q : Key) (frame : ℕ) → has_frame (mark (page_of v)) frame ≡ true → has_frame (mark q) frame ≡ true → q ≡ page_of v

abbrev pub is_victim : BTreeSet Victim → Victim → Bool
is_victim order v = set.contains victim_cmp order v

-- with the last touch of its mark
pub record IsLeftBy (mark : Key → Option Mark) (frame : ℕ) (key : Key) (v : Victim) : Type 0 where
  pub other : IsOnlyOther mark frame key (page_of v)
  pub touched : last_touch (mark (page_of v)) ≡ Some v.touched

pub record AreSole (marks : Marks) (order : BTreeSet Victim) : Type 0 where
  pub each : (v : Victim) → (is_victim order v ≡ true) ↔ IsSole (mark_at marks) v

-- ---- changes

pub record SetsVictim (old new : BTreeSet Victim) (v : Victim) (is : Bool) : Type 0 where
  pub each : (w : Victim) → is_victim new w ≡ cond (eq_by_cmp victim_cmp v w) is (is_victim old w)

pub record AreSameVictims (old new : BTreeSet Victim) : Type 0 where
  pub each : (w : Victim) → is_victim new w ≡ is_victim old w

-- nothing moves where it was not there
pub record IsMovedOn (old new : BTreeSet Victim) (from to : Victim) : Type 0 where
  pub each : (w : Victim) → is_victim new w ≡ cond (eq_by_cmp victim_cmp from w) false (cond (eq_by_cmp victim_cmp to w) (is_victim old from) (is_victim old w))

pub record SetsMark (old new : Marks) (key : Key) (mark : Option Mark) : Type 0 where
  pub each : (q : Key) → mark_at new q ≡ cond (eq_by_cmp key_cmp key q) mark (mark_at old q)

pub record AreSameMarks (old new : Marks) : Type 0 where
  pub each : (q : Key) → mark_at new q ≡ mark_at old q
