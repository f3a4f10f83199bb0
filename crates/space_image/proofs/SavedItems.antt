-- The items of a space's pages, run by run.
--     not_begun      no longest run begins behind the first page of another
--     none_deep_yet, first_deep      no longest run that begins too far into its file so far;  the first one
--     AreSaved      the items of all pages before one of them
--     none_saved, one_more, all_saved      no page yet;  one more run;  all pages
use Rattle.std.proofs.Common.{◌≡◌, ℕ, zero, suc, ◌+◌, ◌-◌, ◌*◌, ◌<◌, ◌≤◌, true, false, List, [], ◌∷◌, ◌++◌, length, map, refl, sym, ap, subst, ◌∙◌, arith, ◌⊎◌, inl, inr}
use mathlib.Core.Bool.{true≢false}
use Rattle.std.specs.Prelude.{Option, Some, None, IsSome, All}
use Rattle.std.specs.Option.{option_map}
use Rattle.std.specs.FinMap.{get}
use Rattle.std.proofs.lemmas.Bool.{cases_lt, cases_eq}
use Rattle.std.proofs.lemmas.List.{append-nil, append_assoc}
use Rattle.std.proofs.lemmas.List.Elements.{All-nil, All-push, All-head, All-tail, All-weaker}
use Rattle.corten_base.specs.declared.permissions.Perm.{Perm}
use Rattle.corten_base.specs.declared.calls.Backing.{Backing}
use Rattle.corten_base.specs.declared.calls.Backing.TheVariants as backing
use Rattle.page_map.specs.declared.cell.Cell.{Cell}
use Rattle.page_map.specs.declared.cell.Cell.TheVariants.{Anon, File, Mapped, Swapped}
use Rattle.page_map.specs.Cell.{AddressSpace, backed, status_of}
use Rattle.page_map.specs.Alike.{continues}
use Rattle.page_map.proofs.Alike.{backed_twice, backed_unnumbered, continues_from, continues_is, has_no_number, onward}
use Rattle.space_cells.specs.Longest.{AreLike, IsLongestFrom, own_bytes}
use Rattle.text_words.specs.Layout.{ended, text}
use Rattle.mm_model.specs.declared.runs.Run as runs
use Rattle.image_text.specs.declared.image.Item.{Item}
use Rattle.image_text.specs.declared.image.Item.TheVariants.{Run, Page}
use Rattle.image_text.specs.declared.image.Residence.{Residence}
use Rattle.image_text.specs.declared.image.Residence.TheVariants.{Live, Out}
use Rattle.image_text.specs.Items.{IsTrimmed, Joins, cell_at, cells_of, end_of, first_of, kept, trimmed, whole, without_number}
use Rattle.image_text.specs.Images.{AreInOrder, IsNext}
use Rattle.image_text.specs.ImageText.{item_line}
use Rattle.image_text.proofs.Maps.{cells_push, none_past, put_in, put_out}
use Rattle.image_text.proofs.Orders.{last_or_earlier}
use Rattle.space_image.specs.Saving.{HasItems, IsDeep, AreNoneDeep, IsFirstDeep, IsPut, is_deep, item_of}
use Rattle.space_image.proofs.TrimmedBytes.{is_trimmed, whole_trimmed}

-- ---- runs that begin too far into their file

pub not_begun : (cells : AddressSpace) (first end q : ℕ) → AreLike cells first end → first < q → q < end → ((p : ℕ) → p + 1 ≡ q → continues (get cells p) 1 (get cells q) ≡ false) → ⊥
not_begun cells first end q like low high starts =
    let back : q - 1 + 1 ≡ q = omega (arith, low) in
    true≢false (sym (like (q - 1) (omega (arith, low)) (omega (arith, low, high))) ∙ ap (λ p. continues (get cells (q - 1)) 1 (get cells p)) back ∙ starts (q - 1) back)

deep_there : (cells : AddressSpace) (q : ℕ) → IsDeep cells q → get cells q ≡ None → ⊥
deep_there cells q deep none = true≢false (sym deep.deep ∙ ap (λ o. is_deep (status_of o)) none)

module _ (cells : AddressSpace) (next first count : ℕ) (from : IsLongestFrom cells next first count) (before : (q : ℕ) → q < next → ¬ (IsDeep cells q)) where
  none_below : (q : ℕ) → q < first → ¬ (IsDeep cells q)
  none_below q low deep = elim (cases_lt q next) [
    | inl less ↦ before q less deep
    | inr more ↦ deep_there cells q deep (from.none_before q more low)
  ]

  pub none_deep_yet : is_deep (status_of (get cells first)) ≡ false → (q : ℕ) → q < first + count → ¬ (IsDeep cells q)
  none_deep_yet shallow q low deep = elim (cases_lt q first) [
    | inl less ↦ none_below q less deep
    | inr more ↦ elim (cases_eq q first) [
      | inl same ↦ true≢false (sym deep.deep ∙ ap (λ p. is_deep (status_of (get cells p))) same ∙ shallow)
      | inr other ↦ not_begun cells first (first + count) q from.run.like (omega (arith, more, other)) low deep.longest.starts
    ]
  ]

  pub first_deep : is_deep (status_of (get cells first)) ≡ true → IsFirstDeep cells (4096 * first)
  first_deep deep = record {
    page = first;
    at = refl;
    deep = record { count = count; longest = from.run; deep = deep };
    least = none_below;
  }

pub none_deep : (cells : AddressSpace) (next : ℕ) → ((q : ℕ) → q < next → ¬ (IsDeep cells q)) → ((q : ℕ) → next ≤ q → get cells q ≡ None) → AreNoneDeep cells
none_deep cells next before none q deep = elim (cases_lt q next) [
  | inl less ↦ before q less deep
  | inr more ↦ deep_there cells q deep (none q more)
]

-- ---- items so far

abbrev pub plain_at : AddressSpace → ℕ → Option Cell
plain_at cells q = option_map without_number (get cells q)

pub record AreSaved (cells : AddressSpace) (next : ℕ) (old now : List ℕ) : Type 0 where
  pub items : List Item
  pub in_order : AreInOrder items
  pub ends : All (λ item. end_of item ≤ next) items
  pub same : (q : ℕ) → q < next → plain_at (cells_of items) q ≡ plain_at cells q
  pub cut : (q : ℕ) → q + 1 ≡ next → continues (get cells q) 1 (get cells next) ≡ false
  pub text : now ≡ old ++ text (map item_line items)

no_middle : (before after : List Item) (item : Item) → [] ≡ before ++ item ∷ after → ⊥
no_middle [] after item e = cc
no_middle (x ∷ before) after item e = cc

pub none_saved : (cells : AddressSpace) (old : List ℕ) → AreSaved cells 0 old old
none_saved cells old = record {
  items = [];
  in_order = λ before after item is. absurd (no_middle before after item is);
  ends = All-nil (λ (item : Item). end_of item ≤ 0);
  same = λ q low. absurd (omega (arith, low));
  cut = λ q is. absurd (omega (arith, is));
  text = sym (append-nil old);
}

lines_push : (items : List Item) (item : Item) → text (map item_line (items ++ item ∷ [])) ≡ text (map item_line items) ++ ended (item_line item)
lines_push [] item = append-nil (ended (item_line item))
lines_push (x ∷ items) item = ap (λ t. ended (item_line x) ++ t) (lines_push items item) ∙ sym (append_assoc (ended (item_line x)) (text (map item_line items)) (ended (item_line item)))

order_push : (items : List Item) (item : Item) → AreInOrder items → IsNext items item → AreInOrder (items ++ item ∷ [])
order_push items item order next before after other is = go (last_or_earlier items before after item other is)
  where
    go : ((before ≡ items) × (other ≡ item)) ⊎ ((rest : List Item) × (items ≡ before ++ other ∷ rest)) → IsNext before other
    go (inl both) = subst (λ xs. IsNext xs other) (sym both.0) (subst (IsNext items) (sym both.1) next)
    go (inr more) = order before more.0 other more.1

module _ (cells : AddressSpace) (next : ℕ) (old now : List ℕ) (so_far : AreSaved cells next old now) where
  -- one more item
  push : (item : Item) → next ≤ first_of item → ((q : ℕ) → next ≤ q → q < first_of item → get cells q ≡ None) → IsNext so_far.items item
      → ((q : ℕ) → first_of item ≤ q → q < end_of item → ◌≡◌ {A = Option Cell} (Some (without_number (cell_at item q))) (plain_at cells q))
      → ((q : ℕ) → q + 1 ≡ end_of item → continues (get cells q) 1 (get cells (end_of item)) ≡ false)
      → (new : List ℕ) → new ≡ now ++ ended (item_line item) → AreSaved cells (end_of item) old new
  push item far none right same cut new is = record {
    items = so_far.items ++ item ∷ [];
    in_order = order_push so_far.items item so_far.in_order right;
    ends = All-push (λ (i : Item). end_of i ≤ end_of item) so_far.items item
        (All-weaker (λ (i : Item). end_of i ≤ next) (λ (i : Item). end_of i ≤ end_of item) (λ i less. omega (arith, far, less)) so_far.items so_far.ends)
        (omega arith);
    same = λ q low. ap (λ m. plain_at m q) (cells_push so_far.items item) ∙ elim (cases_lt q (first_of item)) [
      | inl less ↦ ap (option_map without_number) (put_out item (cells_of so_far.items) q (λ near _. omega (arith, less, near))) ∙ elim (cases_lt q next) [
        | inl before ↦ so_far.same q before
        | inr after ↦ ap (option_map without_number) (none_past so_far.items next q so_far.ends after ∙ sym (none q after less))
      ]
      | inr more ↦ ap (option_map without_number) (put_in item (cells_of so_far.items) q more low) ∙ same q more low
    ];
    cut = cut;
    text = is ∙ ap (λ t. t ++ ended (item_line item)) so_far.text ∙ append_assoc old (text (map item_line so_far.items)) (ended (item_line item)) ∙ ap (λ t. old ++ t) (sym (lines_push so_far.items item));
  }

  pub all_saved : ((q : ℕ) → next ≤ q → get cells q ≡ None) → HasItems cells old now
  all_saved none = record {
    items = so_far.items;
    in_order = so_far.in_order;
    same_map = λ q. elim (cases_lt q next) [
      | inl before ↦ so_far.same q before
      | inr after ↦ ap (option_map without_number) (none_past so_far.items next q so_far.ends after ∙ sym (none q after))
    ];
    text = so_far.text;
  }

-- ---- the item of a run

-- the pages of a run go on from its first one
along : (cells : AddressSpace) (first end : ℕ) (what : Backing) (perm : Perm) → AreLike cells first end → get cells first ≡ Some (backed what perm 0) → (k : ℕ) → first + k < end → get cells (first + k) ≡ Some (backed what perm k)
along cells first end what perm like is zero low = ap (get cells) at ∙ is
  where
    at : first + 0 ≡ first
    at = omega arith
along cells first end what perm like is (suc k) low =
    let here = along cells first end what perm like is k (omega (arith, low)) in
    let more = like (first + k) (omega arith) (omega (arith, low)) in
    ap (get cells) (at k)
    ∙ continues_is (get cells (first + k)) 1 (get cells (first + k + 1)) more
    ∙ ap (onward 1) here
    ∙ ap Some (backed_twice what perm k 1 ∙ ap (backed what perm) (one k))
  where
    at : (k : ℕ) → first + suc k ≡ first + k + 1
    at k = omega arith

    one : (k : ℕ) → k + 1 ≡ suc k
    one k = omega arith

in_run : (cells : AddressSpace) (first count : ℕ) (what : Backing) (perm : Perm) → AreLike cells first (first + count) → get cells first ≡ Some (backed what perm 0) → (q : ℕ) → first ≤ q → q < first + count → get cells q ≡ Some (backed what perm (q - first))
in_run cells first count what perm like is q low high =
    let at : first + (q - first) ≡ q = omega (arith, low) in
    sym (ap (get cells) at) ∙ along cells first (first + count) what perm like is (q - first) (omega (arith, low, high))

unnumbered : (what : Backing) (perm : Perm) (k : ℕ) → without_number (backed what perm k) ≡ backed what perm k
unnumbered backing.Zero perm k = refl
unnumbered (backing.File file index) perm k = refl

-- a cell that is like one without a number is that one
numberless : (o : Option Cell) (what : Backing) (perm : Perm) (k : ℕ) → ◌≡◌ {A = Option Cell} (Some (without_number (backed what perm k))) (option_map without_number o) → o ≡ Some (backed what perm k)
numberless None what perm k e = absurd (none e)
  where
    none : {c : Cell} → ◌≡◌ {A = Option Cell} (Some c) None → ⊥
    none e = cc
numberless (Some (Anon p)) what perm k e = sym e ∙ ap Some (unnumbered what perm k)
numberless (Some (File p file index)) what perm k e = sym e ∙ ap Some (unnumbered what perm k)
numberless (Some (Mapped p origin frame bytes)) backing.Zero perm k e = absurd (not e)
  where
    not : ◌≡◌ {A = Option Cell} (Some (Anon perm)) (Some (Mapped p origin 0 bytes)) → ⊥
    not e = cc
numberless (Some (Mapped p origin frame bytes)) (backing.File file index) perm k e = absurd (not e)
  where
    not : ◌≡◌ {A = Option Cell} (Some (File perm file (index + k))) (Some (Mapped p origin 0 bytes)) → ⊥
    not e = cc
numberless (Some (Swapped p origin slot bytes)) backing.Zero perm k e = absurd (not e)
  where
    not : ◌≡◌ {A = Option Cell} (Some (Anon perm)) (Some (Swapped p origin 0 bytes)) → ⊥
    not e = cc
numberless (Some (Swapped p origin slot bytes)) (backing.File file index) perm k e = absurd (not e)
  where
    not : ◌≡◌ {A = Option Cell} (Some (File perm file (index + k))) (Some (Swapped p origin 0 bytes)) → ⊥
    not e = cc

numberless_kept : (residence : Residence) (perm : Perm) (origin : Backing) (bytes : List ℕ) → without_number (kept residence perm origin bytes) ≡ kept residence perm origin bytes
numberless_kept Live perm origin bytes = refl
numberless_kept Out perm origin bytes = refl

no_bytes : IsTrimmed []
no_bytes [] e = cc
no_bytes (x ∷ front) e = cc

ends_at : (P : Item → Type 0) (earlier : List Item) (last : Item) → All P (earlier ++ last ∷ []) → P last
ends_at P [] last h = All-head P last [] h
ends_at P (x ∷ earlier) last h = ends_at P earlier last (All-tail P x (earlier ++ last ∷ []) h)

module _ (cells : AddressSpace) (next first count : ℕ) (old now : List ℕ) (so_far : AreSaved cells next old now) (from : IsLongestFrom cells next first count) where
  behind : next ≤ first
  behind = elim (cases_lt first next) [
    | inl less ↦ absurd (not_begun cells first (first + count) next from.run.like less from.reaches so_far.cut)
    | inr more ↦ more
  ]

  all_behind : All (λ item. end_of item ≤ first) so_far.items
  all_behind = All-weaker (λ (i : Item). end_of i ≤ next) (λ (i : Item). end_of i ≤ first) (λ i less. omega (arith, behind, less)) so_far.items so_far.ends

  -- the run was not begun by the one before it
  apart : (what : Backing) (perm : Perm) → get cells first ≡ Some (backed what perm 0) → (earlier : List Item) (last : Item) → so_far.items ≡ earlier ++ last ∷ [] → Joins last (Run first count perm what) → ⊥
  apart what perm is earlier (Page page other origin residence bytes) e joins = joins
  apart what perm is earlier (Run f c p b) e joins =
      let some : 1 ≤ c = (so_far.in_order earlier [] (Run f c p b) e).some in
      let end : f + c ≤ next = ends_at (λ (i : Item). end_of i ≤ next) earlier (Run f c p b) (subst (All (λ (i : Item). end_of i ≤ next)) e so_far.ends) in
      let at : f + c - 1 + 1 ≡ first = omega (arith, some, joins.0) in
      let low : f + c - 1 < next = omega (arith, some, behind, joins.0) in
      let index : f + c - 1 - f ≡ c - 1 = omega (arith, some) in
      let back : c - 1 + 1 ≡ c = omega (arith, some) in
      let there : ◌≡◌ {A = Option Cell} (get (cells_of so_far.items) (f + c - 1)) (Some (backed b p (f + c - 1 - f))) =
      ap (λ xs. get (cells_of xs) (f + c - 1)) e ∙ ap (λ m. get m (f + c - 1)) (cells_push earlier (Run f c p b)) ∙ put_in (Run f c p b) (cells_of earlier) (f + c - 1) (omega (arith, some)) (omega (arith, some)) in
      let like = sym (ap (option_map without_number) there) ∙ so_far.same (f + c - 1) low in
      let cell : get cells (f + c - 1) ≡ Some (backed b p (c - 1)) = numberless (get cells (f + c - 1)) b p (f + c - 1 - f) like ∙ ap (λ k. Some (backed b p k)) index in
      true≢false (sym (continues_from (get cells (f + c - 1)) 1 (get cells first)
      (ap has_no_number cell ∙ backed_unnumbered b p (c - 1))
      (is ∙ ap Some (joins.1 ∙ sym (backed_twice b p (c - 1) 1 ∙ ap (backed b p) back)) ∙ ap (onward 1) (sym cell)))
      ∙ from.run.starts (f + c - 1) at)

  cut_behind : (q : ℕ) → q + 1 ≡ first + count → continues (get cells q) 1 (get cells (first + count)) ≡ false
  cut_behind q at =
      let is : q ≡ first + count - 1 = omega (arith, at) in
      ap (λ p. continues (get cells p) 1 (get cells (first + count))) is ∙ from.run.stops

  more_run : (what : Backing) (perm : Perm) → get cells first ≡ Some (backed what perm 0) → (new : List ℕ) → new ≡ now ++ ended (item_line (Run first count perm what)) → AreSaved cells (first + count) old new
  more_run what perm is new line =
      let some = from.run.some in
      push cells next old now so_far (Run first count perm what) behind from.none_before
      (record { some = omega (arith, some); behind = all_behind; apart = apart what perm is; trimmed = no_bytes })
      (λ q low high. ap Some (unnumbered what perm (q - first)) ∙ sym (ap (option_map without_number) (in_run cells first count what perm from.run.like is q low high) ∙ ap Some (unnumbered what perm (q - first))))
      cut_behind new line

  -- a page from which none goes on is alone
  alone : (c : Cell) → get cells first ≡ Some c → ((o : Option Cell) → continues (Some c) 1 o ≡ false) → first + count ≡ first + 1
  alone c is none = elim (cases_lt 1 count) [
    | inl more ↦ absurd (true≢false (sym (from.run.like first (omega arith) (omega (arith, more))) ∙ ap (λ o. continues o 1 (get cells (first + 1))) is ∙ none (get cells (first + 1))))
    | inr less ↦ (let some = from.run.some in omega (arith, some, less))
  ]

  page_apart : (perm : Perm) (origin : Backing) (residence : Residence) (bytes : List ℕ) (last : Item) → Joins last (Page first perm origin residence bytes) → ⊥
  page_apart perm origin residence bytes (Run f c p b) joins = joins
  page_apart perm origin residence bytes (Page f p o r b) joins = joins

  more_page : (c : Cell) → get cells first ≡ Some c → ((o : Option Cell) → continues (Some c) 1 o ≡ false) → (perm : Perm) (origin : Backing) (residence : Residence) (bytes : List ℕ) → length bytes ≡ 4096
      → kept residence perm origin bytes ≡ without_number c → (new : List ℕ) → new ≡ now ++ ended (item_line (Page first perm origin residence (trimmed bytes))) → AreSaved cells (first + count) old new
  more_page c is none perm origin residence bytes full same new line =
      let one = alone c is none in
      subst (λ n. AreSaved cells n old new) (sym one)
      (push cells next old now so_far (Page first perm origin residence (trimmed bytes)) behind from.none_before
      (record { some = omega arith; behind = all_behind; apart = λ earlier last e joins. page_apart perm origin residence (trimmed bytes) last joins; trimmed = is_trimmed bytes })
      (λ q low high.
      let at : q ≡ first = omega (arith, low, high) in
      ap Some (numberless_kept residence perm origin (whole (trimmed bytes)) ∙ ap (kept residence perm origin) (whole_trimmed bytes full) ∙ same) ∙ sym (ap (plain_at cells) at ∙ ap (option_map without_number) is))
      (λ q at. ap (λ n. continues (get cells q) 1 (get cells n)) (sym one) ∙ cut_behind q (at ∙ sym one))
      new line)

  -- one more run
  pub one_more : (cell : Cell) → get cells first ≡ Some cell → ((bytes : List ℕ) → own_bytes (Some cell) ≡ Some bytes → length bytes ≡ 4096)
      → (new : List ℕ) → new ≡ now ++ ended (item_line (item_of first count cell)) → AreSaved cells (first + count) old new
  one_more (Anon perm) is full new line = more_run backing.Zero perm is new line
  one_more (File perm file index) is full new line = more_run (backing.File file index) perm (is ∙ ap (λ n. Some (File perm file n)) (at index)) new line
    where
      at : (n : ℕ) → n ≡ n + 0
      at n = omega arith
  one_more (Mapped perm origin frame bytes) is full new line = more_page (Mapped perm origin frame bytes) is (λ o. refl) perm origin Live bytes (full bytes refl) refl new line
  one_more (Swapped perm origin slot bytes) is full new line = more_page (Swapped perm origin slot bytes) is (λ o. refl) perm origin Out bytes (full bytes refl) refl new line

no_cell : IsSome {T = Cell} None → ⊥
no_cell there = true≢false (sym there)

-- the line of one more run was added
pub line_added : (cells : AddressSpace) (next : ℕ) (run : runs.Run) (old now new : List ℕ) → AreSaved cells next old now → IsLongestFrom cells next run.first run.count
    → IsPut (get cells run.first) run now new → AreSaved cells (run.first + run.count) old new
line_added cells next run old now new so_far from put = go (get cells run.first) refl
  where
    go : (o : Option Cell) → get cells run.first ≡ o → AreSaved cells (run.first + run.count) old new
    go None e = absurd (no_cell (subst (λ (o : Option Cell). IsSome o) e from.run.there))
    go (Some cell) e = one_more cells next run.first run.count old now so_far from cell e (λ bytes own. put.full bytes (ap own_bytes e ∙ own)) new (put.line cell e)
