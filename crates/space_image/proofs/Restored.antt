-- The history of an image.
--     restored      its entries are legal, none is refused, and each has a line
use Rattle.std.proofs.Common.{◌≡◌, ℕ, ◌+◌, ◌*◌, ◌^◌, ◌<◌, ◌≤◌, Bool, true, false, cond, List, [], ◌∷◌, ◌++◌, length, drop, map, refl, sym, ap, subst, ◌∙◌, arith, inl, inr}
use mathlib.Core.Bool.{true≢false}
use Rattle.std.specs.Prelude.{All}
use Rattle.std.specs.List.{flat_map}
use Rattle.std.proofs.lemmas.List.Elements.{All-append, All-cons, All-drop, All-head, All-nil, All-replicate, All-tail}
use Rattle.corten_base.specs.declared.permissions.Perm.{Perm}
use Rattle.corten_base.specs.declared.calls.Backing.{Backing}
use Rattle.corten_base.specs.declared.calls.Backing.TheVariants as backing
use Rattle.corten_base.specs.declared.calls.Call.{Call}
use Rattle.corten_base.specs.declared.calls.Call.TheVariants as call
use Rattle.corten_base.specs.declared.calls.Entry.{Entry}
use Rattle.corten_base.specs.declared.calls.Reply.{Reply}
use Rattle.corten_base.specs.declared.calls.Reply.TheVariants as reply
use Rattle.mm_script.specs.CallLine.{IsBacking, IsCall}
use Rattle.page_map.specs.Alike.{same_perm}
use Rattle.page_map.specs.Cell.{zeros}
use Rattle.page_map.specs.History.{IsLegal, after, limbo_of}
use Rattle.page_map.specs.Memory.{is_refusal}
use Rattle.page_map.specs.State.{IsConsistent, State, accounts, space_at, start}
use Rattle.page_map.specs.Step.{step}
use Rattle.page_map.proofs.Mappings.{user_few}
use Rattle.page_map.proofs.StepKeeps.{step_keeps}
use Rattle.history_lines.specs.declared.history.History.{History}
use Rattle.history_lines.specs.HistoryText.{IsAsked}
use Rattle.image_text.specs.declared.image.Item.{Item}
use Rattle.image_text.specs.declared.image.Item.TheVariants.{Run, Page}
use Rattle.image_text.specs.declared.image.Residence.{Residence}
use Rattle.image_text.specs.declared.image.Residence.TheVariants.{Live, Out}
use Rattle.image_text.specs.Items.{AreEqualButForNumbers, cells_of, count_of, end_of, first_of, whole}
use Rattle.image_text.specs.Images.{ImageParts, IsImage, IsPageOrigin, IsRunBacking}
use Rattle.space_image.specs.Calls.{calls_of, in_turn, item_calls, left_by, map_call, move_calls, protect_calls, read_write, replies_of}
use Rattle.space_image.specs.Restoring.{IsBuildable, IsRestored, entered, left_at_start}
use Rattle.space_image.proofs.Beginning.{file_few, of, start_holds}
use Rattle.space_image.proofs.Covered.{In}
use Rattle.space_image.proofs.InTurn.{back_in_items, none_refused, restores}
use Rattle.space_image.proofs.PageCells.{length_whole}

-- ---- entries

calls_are : (st : State) (cs : List Call) → map (λ e. e.call) (entered st cs) ≡ cs
calls_are st [] = refl
calls_are st (c ∷ cs) = ap (λ ds. c ∷ ds) (calls_are (step st 0 c 0).1 cs)

threads_are : (st : State) (cs : List Call) → All (λ (e : Entry). e.thread ≡ 0) (entered st cs)
threads_are st [] = All-nil (λ (e : Entry). e.thread ≡ 0)
threads_are st (c ∷ cs) = All-cons (λ (e : Entry). e.thread ≡ 0) _ (entered (step st 0 c 0).1 cs) refl (threads_are (step st 0 c 0).1 cs)

replies_are : (st : State) (cs : List Call) → All (λ r. is_refusal r ≡ false) (replies_of st cs) → All (λ (e : Entry). is_refusal e.reply ≡ false) (entered st cs)
replies_are st [] h = All-nil (λ (e : Entry). is_refusal e.reply ≡ false)
replies_are st (c ∷ cs) h =
    All-cons (λ (e : Entry). is_refusal e.reply ≡ false) _ (entered (step st 0 c 0).1 cs) (All-head (λ r. is_refusal r ≡ false) (step st 0 c 0).0 (replies_of (step st 0 c 0).1 cs) h)
    (replies_are (step st 0 c 0).1 cs (All-tail (λ r. is_refusal r ≡ false) (step st 0 c 0).0 (replies_of (step st 0 c 0).1 cs) h))

asked_are : (st : State) (cs : List Call) → All IsCall cs → All IsAsked (entered st cs)
asked_are st [] h = All-nil IsAsked
asked_are st (c ∷ cs) h =
    All-cons IsAsked _ (entered (step st 0 c 0).1 cs) (record { thread = (omega arith, omega arith); call = All-head IsCall c cs h }) (asked_are (step st 0 c 0).1 cs (All-tail IsCall c cs h))

no_limbo : (r : Reply) → is_refusal r ≡ false → limbo_of r ≡ 0
no_limbo (reply.NoTables linked limbo need) h = absurd (true≢false h)
no_limbo reply.Ok h = refl
no_limbo (reply.At at) h = refl
no_limbo (reply.Bytes bytes) h = refl
no_limbo (reply.Space space) h = refl
no_limbo (reply.Moved pages) h = refl
no_limbo reply.Done h = refl
no_limbo (reply.Undone k w) h = refl
no_limbo reply.Einval h = refl
no_limbo reply.NoSpace h = refl
no_limbo reply.NoSpaces h = refl
no_limbo reply.NoRoom h = refl
no_limbo (reply.Exists at) h = refl
no_limbo (reply.Hole at) h = refl
no_limbo (reply.Segv at) h = refl
no_limbo (reply.Denied at) h = refl
no_limbo (reply.Bus at) h = refl
no_limbo (reply.NoFrames free need) h = refl
no_limbo (reply.NoSwap free need) h = refl

pub legal_are : (st : State) → IsConsistent st → (cs : List Call) → All (λ r. is_refusal r ≡ false) (replies_of st cs) → IsLegal st (entered st cs) × (after st (entered st cs) ≡ left_by st cs)
legal_are st ok [] h = (tt, refl)
legal_are st ok (c ∷ cs) h =
    let r = (step st 0 c 0).0 in
    let zero : limbo_of r ≡ 0 = no_limbo r (All-head (λ r. is_refusal r ≡ false) r (replies_of (step st 0 c 0).1 cs) h) in
    let few = ok.tables in
    let rest = legal_are (step st 0 c 0).1 (step_keeps st 0 0 c (omega arith) ok) cs (All-tail (λ r. is_refusal r ≡ false) r (replies_of (step st 0 c 0).1 cs) h) in (
      (
        omega (arith, zero, few),
        ap (λ n. (step st 0 c n).0) (sym zero),
        subst (λ n. IsLegal (step st 0 c n).1 (entered (step st 0 c 0).1 cs)) (sym zero) rest.0,
      ),
      ap (λ n. after (step st 0 c n).1 (entered (step st 0 c 0).1 cs)) zero ∙ rest.1,
    )

-- ---- calls that have lines

all_flat : (xs : List Item) → ((x : Item) → In x xs → All IsCall (item_calls x)) → All IsCall (flat_map item_calls xs)
all_flat [] h = All-nil IsCall
all_flat (x ∷ xs) h = All-append IsCall (item_calls x) (flat_map item_calls xs) (h x (inl refl)) (all_flat xs (λ y later. h y (inr later)))

module _ (image : ImageParts) (right : IsImage image) where
  small : (x : Item) → In x image.items → end_of x < 2 ^ 44
  small x h = user_few image.limits.levels (first_of x) (count_of x) right.levels.1 (of image right x h).1.bounds.user

  pub buildable : (x : Item) → In x image.items → IsBuildable x
  buildable x h = record { small = (let low = small x h in omega (arith, low)); size = (of image right x h).1.bounds.size }

  -- files and their pages have numbers
  file_number : (file index : ℕ) → file < length image.files → index ≤ 2 ^ 40 → IsBacking (backing.File file index)
  file_number file index there low = (let few = right.files.count in ((omega arith, omega (arith, there, few)), omega (arith, low)))

  run_number : (what : Backing) → IsRunBacking image.files what → IsBacking what
  run_number backing.Zero h = tt
  run_number (backing.File file index) h = file_number file index h.0 h.1

  page_number : (what : Backing) → IsPageOrigin image.files what → IsBacking what
  page_number backing.Zero h = tt
  page_number (backing.File file index) h = (let few = file_few image right file in file_number file index h.0 (omega (arith, h.1, few)))

  bytes_fit : (bytes : List ℕ) → All (λ b. b < 256) bytes → All (λ b. b < 256) (whole bytes)
  unfolding zeros
  bytes_fit bytes h = All-append (λ b. b < 256) bytes (drop (length bytes) zeros) h (All-drop (λ b. b < 256) (length bytes) zeros (All-replicate (λ b. b < 256) 4096 0 (omega arith)))

  map_right : (first count : ℕ) (perm : Perm) (what : Backing) → first + count < 2 ^ 44 → IsBacking what → IsCall (map_call first count perm what)
  map_right first count perm what low number = (omega arith, omega (arith, low), omega (arith, low), number)

  protect_right : (page : ℕ) (perm : Perm) → page < 2 ^ 44 → All IsCall (protect_calls page perm)
  protect_right page perm low = go (same_perm perm read_write)
    where
      go : (b : Bool) → All IsCall (cond b [] (call.Protect 0 (4096 * page) 4096 perm ∷ []))
      go true = All-nil IsCall
      go false = All-cons IsCall (call.Protect 0 (4096 * page) 4096 perm) [] (omega arith, omega (arith, low), omega arith) (All-nil IsCall)

  move_right : (page : ℕ) (residence : Residence) → page < 2 ^ 44 → All IsCall (move_calls page residence)
  move_right page Live low = All-nil IsCall
  move_right page Out low = All-cons IsCall (call.SwapOut 0 (4096 * page) 4096) [] (omega arith, omega (arith, low), omega arith) (All-nil IsCall)

  store_right : (page : ℕ) (bytes : List ℕ) → page < 2 ^ 44 → length bytes ≤ 4096 → All (λ b. b < 256) bytes → IsCall (call.Store 0 (4096 * page) (whole bytes))
  store_right page bytes low few fit = (let full = length_whole bytes few in (omega arith, omega (arith, low), (omega (arith, full), omega (arith, full)), bytes_fit bytes fit))

  item_right : (x : Item) → In x image.items → All IsCall (item_calls x)
  item_right (Run first count perm what) h =
      let at = of image right (Run first count perm what) h in
      All-cons IsCall (map_call first count perm what) [] (map_right first count perm what (small (Run first count perm what) h) (run_number what at.1.bounds.backed)) (All-nil IsCall)
  item_right (Page page perm origin residence bytes) h =
      let at = of image right (Page page perm origin residence bytes) h in
      let end = small (Page page perm origin residence bytes) h in
      let low : page < 2 ^ 44 = omega (arith, end) in
      let rest = All-append IsCall (protect_calls page perm) (move_calls page residence) (protect_right page perm low) (move_right page residence low) in
      let store = call.Store 0 (4096 * page) (whole bytes) in
      All-cons IsCall (map_call page 1 read_write origin) (store ∷ (protect_calls page perm ++ move_calls page residence))
      (map_right page 1 read_write origin end (page_number origin at.1.bounds.backed))
      (All-cons IsCall store (protect_calls page perm ++ move_calls page residence) (store_right page bytes low at.1.bounds.size at.1.bounds.fit) rest)

  calls_right : All IsCall (calls_of image.items)
  calls_right = all_flat (in_turn image.items) (λ x h. item_right x (back_in_items image right x h))

  pub restored : (h : History) → h.version ≡ 2 → h.limits ≡ image.limits → h.shelf ≡ image.files → h.entries ≡ entered (start image.limits image.files) (calls_of image.items) →
      h.accounts ≡ accounts (left_at_start image) 0 → IsRestored image h
  restored h version limits files entries counts =
      let st = start image.limits image.files in
      let cs = calls_of image.items in
      let legal = legal_are st (start_holds image right).ok cs (none_refused image right) in
      let left : after st h.entries ≡ left_at_start image = ap (after st) entries ∙ legal.1 in
      record {
        version = version;
        limits = limits;
        files = files;
        calls = ap (map (λ e. e.call)) entries ∙ calls_are st cs;
        threads = subst (All (λ (e : Entry). e.thread ≡ 0)) (sym entries) (threads_are st cs);
        legal = subst (IsLegal st) (sym entries) legal.0;
        not_refused = subst (All (λ (e : Entry). is_refusal e.reply ≡ false)) (sym entries) (replies_are st cs (none_refused image right));
        accounts = counts ∙ ap (λ s. accounts s 0) (sym left);
        same_map = subst (λ s. AreEqualButForNumbers (cells_of image.items) (space_at s 0)) (sym left) (restores image right);
        asked = subst (All IsAsked) (sym entries) (asked_are st cs calls_right);
      }
