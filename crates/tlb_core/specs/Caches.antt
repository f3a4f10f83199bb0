-- What the table of pages and the translation caches of the processors have after a history, and which frames are pending or free.
-- The events are those of Intel's Software Developer's Manual, Volume 3A, 4.10: a processor may keep a translation that it used
-- (4.10.2), also after the table changed, until it invalidates it (4.10.4), and software waits for the other processors (4.10.5).
--     IsGive      an entry gives the frame
--     TableHas, HasPage, HasFrame      the table has a page with a frame; a page; a frame
--     Invalidates, CacheHas      a processor drops what its cache has of a page; its cache has the page with a frame
--     TakesOut, IsPendingFrom, IsPending      an entry takes a frame out of the table; the frame is pending from there on
--     IsUnheardFrom, IsUnheard      the frame is pending, and a processor may still have it in its cache
--     IsFree      a frame may be given
use Rattle.std.specs.Prelude.{◌≡◌, ◌<◌, ◌⊎◌, ℕ}
use Rattle.tlb_core.specs.declared.events.TlbEvent.TheVariants as events
use Rattle.tlb_core.specs.declared.events.TlbAnswer.TheVariants as answers
use Rattle.tlb_core.specs.Histories.{Entry, History, Is, Stands}

-- `map PAGE = at FRAME`, of any page
abbrev pub IsGive : ℕ → Entry → Type 0
IsGive frame x = (page : ℕ) × Is (events.Map page) (answers.At frame) x

-- A `map` of the page at the frame stands, and no later `unmap` of the page.
abbrev pub TableHas : History → ℕ → ℕ → Type 0
TableHas h page frame = Stands (λ before. Is (events.Map page) (answers.At frame)) (Is (events.Unmap page) answers.Ok) h

abbrev pub HasPage : History → ℕ → Type 0
HasPage h page = (frame : ℕ) × TableHas h page frame

abbrev pub HasFrame : History → ℕ → Type 0
HasFrame h frame = (page : ℕ) × TableHas h page frame

-- `drop` of the page by the processor, or its `ack`
abbrev pub Invalidates : ℕ → ℕ → Entry → Type 0
Invalidates cpu page x = (x.event ≡ events.Drop cpu page) ⊎ (x.event ≡ events.Ack cpu)

-- the processor filled its cache while the table had the page with the frame
abbrev pub FillsWith : ℕ → ℕ → ℕ → History → Entry → Type 0
FillsWith cpu page frame before x = Is (events.Fill cpu page) answers.Ok x × TableHas before page frame

abbrev pub Refills : ℕ → ℕ → Entry → Type 0
Refills cpu page x = Is (events.Fill cpu page) answers.Ok x ⊎ Invalidates cpu page x

-- Such a `fill` stands, and no later `fill` or `drop` of the page by the processor, and no `ack` of its.
abbrev pub CacheHas : History → ℕ → ℕ → ℕ → Type 0
CacheHas h cpu page frame = Stands (FillsWith cpu page frame) (Refills cpu page) h

-- an `unmap` of the page, which the table had with the frame
abbrev pub TakesOut : ℕ → ℕ → History → Entry → Type 0
TakesOut page frame before x = Is (events.Unmap page) answers.Ok x × TableHas before page frame

-- Such an `unmap` stands, and the frame was not freed since.
abbrev pub IsPendingFrom : History → ℕ → ℕ → Type 0
IsPendingFrom h page frame = Stands (TakesOut page frame) (Is (events.Free frame) answers.Ok) h

abbrev pub IsPending : History → ℕ → Type 0
IsPending h frame = (page : ℕ) × IsPendingFrom h page frame

-- Such an `unmap` stands, the frame was not freed since, and the processor neither dropped the page nor acknowledged.
abbrev pub IsUnheardFrom : History → ℕ → ℕ → ℕ → Type 0
IsUnheardFrom h page frame cpu = Stands (TakesOut page frame) (λ x. Is (events.Free frame) answers.Ok x ⊎ Invalidates cpu page x) h

abbrev pub IsUnheard : History → ℕ → ℕ → Type 0
IsUnheard h frame cpu = (page : ℕ) × IsUnheardFrom h page frame cpu

-- One of the frames, neither in the table nor pending.
pub record IsFree (frames : ℕ) (h : History) (frame : ℕ) : Type 0 where
  pub there : frame < frames
  pub unused : ¬ HasFrame h frame
  pub settled : ¬ IsPending h frame
