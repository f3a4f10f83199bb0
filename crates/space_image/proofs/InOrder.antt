-- Items in order: no two of them have a page in common, and what stands behind a run does not go on from it.
--     Follows, InOrder      an item behind the one before it;  each item of a list
--     in_order      the items of an image
--     all_apart      no two have a page in common
--     run_stops      what stands behind a run does not go on from it
use Rattle.std.proofs.Common.{◌≡◌, ℕ, ◌+◌, ◌-◌, ◌<◌, ◌≤◌, true, false, cond, List, [], ◌∷◌, ◌++◌, refl, sym, ap, subst, ◌∙◌, arith, inl, inr}
use Rattle.std.specs.Prelude.{Option, Some, None, All}
use Rattle.std.specs.Option.{option_or}
use Rattle.std.proofs.lemmas.Bool.{false_from_ne_true}
use Rattle.std.proofs.lemmas.List.{append_assoc}
use Rattle.std.proofs.lemmas.List.Elements.{All-head, All-tail}
use Rattle.corten_base.specs.declared.permissions.Perm.{Perm}
use Rattle.corten_base.specs.declared.calls.Backing.{Backing}
use Rattle.page_map.specs.declared.cell.Cell.{Cell}
use Rattle.page_map.specs.declared.cell.Cell.TheVariants.{Anon, File, Mapped, Swapped}
use Rattle.page_map.specs.Cell.{backed}
use Rattle.page_map.specs.Alike.{continues}
use Rattle.page_map.proofs.Alike.{backed_twice, continues_is}
use Rattle.page_map.proofs.Range.{inside}
use Rattle.image_text.specs.declared.image.Item.{Item}
use Rattle.image_text.specs.declared.image.Item.TheVariants.{Run, Page}
use Rattle.image_text.specs.declared.image.Residence.{Residence}
use Rattle.image_text.specs.declared.image.Residence.TheVariants.{Live, Out}
use Rattle.image_text.specs.Items.{Joins, cell_at, count_of, end_of, first_of, kept, whole}
use Rattle.image_text.specs.Images.{AreInOrder}
use Rattle.space_image.proofs.Covered.{AreApart, In, covers, found, found_item, has_at}

pub record Follows (prev : Option Item) (i : Item) : Type 0 where
  pub some : 1 ≤ count_of i
  pub behind : (p : Item) → prev ≡ Some p → end_of p ≤ first_of i
  pub apart : (p : Item) → prev ≡ Some p → Joins p i → ⊥

abbrev pub InOrder : Option Item → List Item → Type 0
InOrder prev [] = Unit {0}
InOrder prev (i ∷ is) = Follows prev i × InOrder (Some i) is

at_end : (P : Item → Type 0) (earlier : List Item) (p : Item) → All P (earlier ++ p ∷ []) → P p
at_end P [] p h = All-head P p [] h
at_end P (x ∷ earlier) p h = at_end P earlier p (All-tail P x (earlier ++ p ∷ []) h)

IsLast : Option Item → List Item → Type 0
IsLast prev before = (p : Item) → prev ≡ Some p → (earlier : List Item) × (before ≡ earlier ++ p ∷ [])

some_some : {x y : Item} → ◌≡◌ {A = Option Item} (Some x) (Some y) → x ≡ y
some_some e = cc

none_some : {A : Type 0} {x : A} → ◌≡◌ {A = Option A} None (Some x) → ⊥
none_some e = cc

order_from : (items before rest : List Item) (prev : Option Item) → AreInOrder items → items ≡ before ++ rest → IsLast prev before → InOrder prev rest
unfolding IsLast
order_from items before [] prev right are last = tt
order_from items before (i ∷ rest) prev right are last =
    let next = right before rest i are in (
      record {
        some = next.some;
        behind = λ p is. (let e = last p is in at_end (λ other. end_of other ≤ first_of i) e.0 p (subst (All (λ other. end_of other ≤ first_of i)) e.1 next.behind));
        apart = λ p is. (let e = last p is in next.apart e.0 p e.1);
      },
      order_from items (before ++ i ∷ []) rest (Some i) right (are ∙ sym (append_assoc before (i ∷ []) rest)) (λ p is. (before, ap (λ x. before ++ x ∷ []) (some_some is))),
    )

pub in_order : (items : List Item) → AreInOrder items → InOrder None items
unfolding IsLast
in_order items right = order_from items [] items None right refl (λ p is. absurd (none_some is))

-- ---- no two have a page in common

pub after_all : (p : Item) (is : List Item) → InOrder (Some p) is → (x : Item) → In x is → end_of p ≤ first_of x
after_all p [] order x h = absurd h
after_all p (i ∷ is) order x (inl same) = let h = order.0.behind p refl in omega (arith, h, ap first_of same)
after_all p (i ∷ is) order x (inr later) =
    let h = order.0.behind p refl in
    let g = after_all i is order.1 x later in
    omega (arith, h, g)

pub starts_in : (x : Item) (q : ℕ) → covers x q ≡ true → (first_of x ≤ q) × (q < end_of x)
starts_in x q cov = inside (first_of x) (count_of x) q cov

pub all_apart : (prev : Option Item) (is : List Item) → InOrder prev is → AreApart is
all_apart prev [] order x y q a b cx cy = absurd a
all_apart prev (i ∷ is) order x y q (inl a) (inl b) cx cy = a ∙ sym b
all_apart prev (i ∷ is) order x y q (inl a) (inr b) cx cy =
    let far = after_all i is order.1 y b in
    absurd (omega (arith, far, (starts_in x q cx).1, (starts_in y q cy).0, ap end_of a))
all_apart prev (i ∷ is) order x y q (inr a) (inl b) cx cy =
    let far = after_all i is order.1 x a in
    absurd (omega (arith, far, (starts_in y q cy).1, (starts_in x q cx).0, ap end_of b))
all_apart prev (i ∷ is) order x y q (inr a) (inr b) cx cy = all_apart (Some i) is order.1 x y q a b cx cy

-- ---- what stands behind a run

-- a page with a frame or a slot goes on from none
pub no_start : (c : Cell) (residence : Residence) (perm : Perm) (origin : Backing) (bytes : List ℕ) → continues (Some c) 1 (Some (kept residence perm origin bytes)) ≡ false
no_start (Anon p) Live perm origin bytes = refl
no_start (Anon p) Out perm origin bytes = refl
no_start (File p file index) Live perm origin bytes = refl
no_start (File p file index) Out perm origin bytes = refl
no_start (Mapped p o frame old) Live perm origin bytes = refl
no_start (Mapped p o frame old) Out perm origin bytes = refl
no_start (Swapped p o slot old) Live perm origin bytes = refl
no_start (Swapped p o slot old) Out perm origin bytes = refl

pub none_on : (c : Cell) → continues (Some c) 1 None ≡ false
none_on (Anon p) = refl
none_on (File p file index) = refl
none_on (Mapped p o frame old) = refl
none_on (Swapped p o slot old) = refl

not_at : (i : Item) (q : ℕ) → end_of i ≤ q → has_at i q ≡ None
not_at i q far = ap (λ b. cond b (Some (cell_at i q)) None) (false_from_ne_true (covers i q) (λ cov. absurd (omega (arith, far, (starts_in i q cov).1))))

or_none : (o : Option Cell) → option_or o None ≡ o
or_none None = refl
or_none (Some c) = refl

passed_over : (i : Item) (is : List Item) (q : ℕ) → end_of i ≤ q → found (i ∷ is) q ≡ found is q
unfolding found
passed_over i is q far = ap (option_or (found is q)) (not_at i q far) ∙ or_none (found is q)

-- the item that stands at the end of a run is the next one, and does not join it
next_apart : (first count : ℕ) (perm : Perm) (what : Backing) (j : Item) → 1 ≤ count → Follows (Some (Run first count perm what)) j → covers j (first + count) ≡ true →
    continues (Some (backed what perm (count - 1))) 1 (Some (cell_at j (first + count))) ≡ false
next_apart first count perm what (Page page other origin residence bytes) some follows cov = no_start (backed what perm (count - 1)) residence other origin (whole bytes)
next_apart first count perm what (Run next many other origin) some follows cov = false_from_ne_true _ (λ t.
    let low = follows.behind (Run first count perm what) refl in
    let at : next ≡ first + count = omega (arith, low, (starts_in (Run next many other origin) (first + count) cov).0) in
    let zero : first + count - next ≡ 0 = omega (arith, at) in
    let sum : count - 1 + 1 ≡ count = omega (arith, some) in
    follows.apart (Run first count perm what) refl
    (at, ap (backed origin other) (sym zero) ∙ one (continues_is (Some (backed what perm (count - 1))) 1 (Some (backed origin other (first + count - next))) t) ∙ backed_twice what perm (count - 1) 1 ∙ ap (backed what perm) sum))
  where
    one : {c d : Cell} → ◌≡◌ {A = Option Cell} (Some c) (Some d) → c ≡ d
    one e = cc

behind_run : (first count : ℕ) (perm : Perm) (what : Backing) (is : List Item) → 1 ≤ count → InOrder (Some (Run first count perm what)) is →
    continues (Some (backed what perm (count - 1))) 1 (found is (first + count)) ≡ false
behind_run first count perm what is some order = go (found is (first + count)) refl
  where
    at_item : (is : List Item) → InOrder (Some (Run first count perm what)) is → (y : Item) → In y is → covers y (first + count) ≡ true →
        continues (Some (backed what perm (count - 1))) 1 (Some (cell_at y (first + count))) ≡ false
    at_item [] order y listed cov = absurd listed
    at_item (j ∷ is) order y (inl same) cov =
        ap (λ z. continues (Some (backed what perm (count - 1))) 1 (Some (cell_at z (first + count)))) same
        ∙ next_apart first count perm what j some order.0 (ap (λ z. covers z (first + count)) (sym same) ∙ cov)
    at_item (j ∷ is) order y (inr later) cov =
        let low = order.0.behind (Run first count perm what) refl in
        let far = after_all j is order.1 y later in
        let one = order.0.some in
        absurd (omega (arith, low, far, one, (starts_in y (first + count) cov).0))

    go : (o : Option Cell) → found is (first + count) ≡ o → continues (Some (backed what perm (count - 1))) 1 (found is (first + count)) ≡ false
    go None e = ap (continues (Some (backed what perm (count - 1))) 1) e ∙ none_on (backed what perm (count - 1))
    go (Some c) e =
        let at = found_item is (first + count) c e in
        ap (continues (Some (backed what perm (count - 1))) 1) (e ∙ ap Some (sym at.is)) ∙ at_item is order at.item at.listed at.covering

pub run_stops : (prev : Option Item) (is : List Item) → InOrder prev is → (first count : ℕ) (perm : Perm) (what : Backing) → In (Run first count perm what) is → 1 ≤ count →
    continues (Some (backed what perm (count - 1))) 1 (found is (first + count)) ≡ false
run_stops prev [] order first count perm what listed some = absurd listed
run_stops prev (i ∷ is) order first count perm what (inl same) some =
    ap (continues (Some (backed what perm (count - 1))) 1) (passed_over i is (first + count) (omega (arith, ap end_of same)))
    ∙ behind_run first count perm what is some (subst (λ (j : Item). InOrder (Some j) is) (sym same) order.1)
run_stops prev (i ∷ is) order first count perm what (inr later) some =
    let far = after_all i is order.1 (Run first count perm what) later in
    ap (continues (Some (backed what perm (count - 1))) 1) (passed_over i is (first + count) (omega (arith, far)))
    ∙ run_stops (Some i) is order.1 first count perm what later some

-- each item has a page
pub some_pages : (prev : Option Item) (is : List Item) → InOrder prev is → (x : Item) → In x is → 1 ≤ count_of x
some_pages prev [] order x listed = absurd listed
some_pages prev (i ∷ is) order x (inl same) = subst (λ n. 1 ≤ n) (ap count_of (sym same)) order.0.some
some_pages prev (i ∷ is) order x (inr later) = some_pages (Some i) is order.1 x later
