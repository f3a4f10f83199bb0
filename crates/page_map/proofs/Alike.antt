-- Spans whose pages are alike: what stands at each page follows from the first one, so parts of them are alike too.
use Rattle.std.proofs.Common.{◌≡◌, ℕ, zero, suc, ◌+◌, ◌-◌, ◌<◌, ◌≤◌, Bool, true, false, not, ◌&&◌, refl, sym, ap, ◌∙◌, arith}
use mathlib.Core.Bool.{true≢false}
use Rattle.std.specs.Prelude.{Option, Some, None, nat_eq}
use Rattle.std.specs.Option.{option_map}
use Rattle.std.specs.List.{list_all, range_with_len}
use Rattle.std.proofs.lemmas.Bool.{and_parts, and_from, eqb-true, eq-eqb, not_from_false, false_from_ne_true}
use Rattle.std.specs.FinMap as fin
use Rattle.corten_base.specs.declared.permissions.Perm.{Perm}
use Rattle.corten_base.specs.Permissions.{bits_of, perm_of_bits}
use Rattle.corten_base.specs.declared.calls.Backing.{Backing}
use Rattle.corten_base.specs.declared.calls.Backing.TheVariants as backing
use Rattle.table_place.specs.Range.{within}
use Rattle.page_map.specs.declared.cell.Cell.{Cell}
use Rattle.page_map.specs.declared.cell.Cell.TheVariants.{Anon, File, Mapped, Swapped}
use Rattle.page_map.specs.Cell.{AddressSpace, with_perm, perm_of, backed, backing_of, goes_on}
use Rattle.page_map.specs.Alike.{same_perm, continues, is_alike}
use Rattle.page_map.proofs.Steps.{not_none}

-- ---- all numbers of a range

all_low : (t : ℕ → Bool) (low n : ℕ) → list_all t (range_with_len low (suc n)) ≡ true → (t low ≡ true) × (list_all t (range_with_len (low + 1) n) ≡ true)
all_low t low n h = and_parts (t low) (list_all t (range_with_len (low + 1) n)) h

pub each_in : (t : ℕ → Bool) (low n q : ℕ) → list_all t (range_with_len low n) ≡ true → low ≤ q → q < low + n → t q ≡ true
each_in t low zero q h a b = absurd (omega (arith, a, b))
each_in t low (suc n) q h a b = go (nat_eq q low) refl (each_in t (low + 1) n q)
  where
    later : (q low : ℕ) → low ≤ q → (q ≡ low → ⊥) → low + 1 ≤ q
    later q low a ne = omega arith

    differs : nat_eq q low ≡ false → q ≡ low → ⊥
    differs e same = true≢false (sym (eq-eqb q low same) ∙ e)

    go : (b : Bool) → nat_eq q low ≡ b → (list_all t (range_with_len (low + 1) n) ≡ true → low + 1 ≤ q → q < low + 1 + n → t q ≡ true) → t q ≡ true
    go true e rest = ap t (eqb-true q low e) ∙ (all_low t low n h).0
    go false e rest = rest (all_low t low n h).1 (later q low a (differs e)) (omega (arith, b))

pub all_in : (t : ℕ → Bool) (low n : ℕ) → ((q : ℕ) → low ≤ q → q < low + n → t q ≡ true) → list_all t (range_with_len low n) ≡ true
all_in t low zero h = refl
all_in t low (suc n) h = and_from _ _ (h low (omega arith) (omega arith)) (all_in t (low + 1) n (λ q a b. h q (omega (arith, a)) (omega (arith, b))))

-- ---- permissions, and cells that go on

perm_back : (p : Perm) → perm_of_bits (bits_of p) ≡ p
perm_back p = go p.read p.write p.exec
  where
    go : (r w x : Bool) → perm_of_bits (bits_of (record { read = r; write = w; exec = x })) ≡ record { read = r; write = w; exec = x }
    go true true true = refl
    go true true false = refl
    go true false true = refl
    go true false false = refl
    go false true true = refl
    go false true false = refl
    go false false true = refl
    go false false false = refl

pub same_perms : (p q : Perm) → same_perm p q ≡ true → p ≡ q
same_perms p q h = sym (perm_back p) ∙ ap perm_of_bits (eqb-true (bits_of p) (bits_of q) h) ∙ perm_back q

pub perm_itself : (p : Perm) → same_perm p p ≡ true
perm_itself p = eq-eqb (bits_of p) (bits_of p) refl

-- whether a cell can stand for a span: it has no number
abbrev pub has_no_number : Option Cell → Bool
has_no_number None = true
has_no_number (Some (Anon perm)) = true
has_no_number (Some (File perm file index)) = true
has_no_number (Some (Mapped perm origin frame bytes)) = false
has_no_number (Some (Swapped perm origin slot bytes)) = false

abbrev pub onward : ℕ → Option Cell → Option Cell
onward i o = option_map (λ c. goes_on c i) o

pub continues_unnumbered : (a : Option Cell) (i : ℕ) (b : Option Cell) → continues a i b ≡ true → has_no_number a ≡ true
continues_unnumbered None i b h = refl
continues_unnumbered (Some (Anon perm)) i b h = refl
continues_unnumbered (Some (File perm file index)) i b h = refl
continues_unnumbered (Some (Mapped perm origin frame bytes)) i b h = absurd (true≢false (sym h))
continues_unnumbered (Some (Swapped perm origin slot bytes)) i b h = absurd (true≢false (sym h))

pub continues_is : (a : Option Cell) (i : ℕ) (b : Option Cell) → continues a i b ≡ true → b ≡ onward i a
continues_is None i None h = refl
continues_is None i (Some c) h = absurd (true≢false (sym h))
continues_is (Some (Anon perm)) i None h = absurd (true≢false (sym h))
continues_is (Some (Anon perm)) i (Some (Anon later)) h = ap (λ p. Some (Anon p)) (sym (same_perms perm later h))
continues_is (Some (Anon perm)) i (Some (File later file index)) h = absurd (true≢false (sym h))
continues_is (Some (Anon perm)) i (Some (Mapped later origin frame bytes)) h = absurd (true≢false (sym h))
continues_is (Some (Anon perm)) i (Some (Swapped later origin slot bytes)) h = absurd (true≢false (sym h))
continues_is (Some (File perm file index)) i None h = absurd (true≢false (sym h))
continues_is (Some (File perm file index)) i (Some (Anon later)) h = absurd (true≢false (sym h))
continues_is (Some (File perm file index)) i (Some (File later other at)) h =
    let parts = and_parts (same_perm perm later) (nat_eq file other && nat_eq (index + i) at) h in
    let more = and_parts (nat_eq file other) (nat_eq (index + i) at) parts.1 in
    sym (λ j. Some (File (same_perms perm later parts.0 j) (eqb-true file other more.0 j) (eqb-true (index + i) at more.1 j)))
continues_is (Some (File perm file index)) i (Some (Mapped later origin frame bytes)) h = absurd (true≢false (sym h))
continues_is (Some (File perm file index)) i (Some (Swapped later origin slot bytes)) h = absurd (true≢false (sym h))
continues_is (Some (Mapped perm origin frame bytes)) i b h = absurd (true≢false (sym h))
continues_is (Some (Swapped perm origin slot bytes)) i b h = absurd (true≢false (sym h))

itself : (a : Option Cell) (i : ℕ) → has_no_number a ≡ true → continues a i (onward i a) ≡ true
itself None i h = refl
itself (Some (Anon perm)) i h = perm_itself perm
itself (Some (File perm file index)) i h = and_from _ _ (perm_itself perm) (and_from _ _ (eq-eqb file file refl) (eq-eqb (index + i) (index + i) refl))
itself (Some (Mapped perm origin frame bytes)) i h = absurd (true≢false (sym h))
itself (Some (Swapped perm origin slot bytes)) i h = absurd (true≢false (sym h))

pub continues_from : (a : Option Cell) (i : ℕ) (b : Option Cell) → has_no_number a ≡ true → b ≡ onward i a → continues a i b ≡ true
continues_from a i b h e = ap (continues a i) e ∙ itself a i h

pub backed_twice : (what : Backing) (perm : Perm) (i k : ℕ) → goes_on (backed what perm i) k ≡ backed what perm (i + k)
backed_twice backing.Zero perm i k = refl
backed_twice (backing.File file index) perm i k = ap (File perm file) (grouped index)
  where
    grouped : (n : ℕ) → n + i + k ≡ n + (i + k)
    grouped n = omega arith

pub backed_perm : (what : Backing) (old new : Perm) (i : ℕ) → with_perm new (backed what old i) ≡ backed what new i
backed_perm backing.Zero old new i = refl
backed_perm (backing.File file index) old new i = refl

pub backed_unnumbered : (what : Backing) (perm : Perm) (i : ℕ) → has_no_number (Some (backed what perm i)) ≡ true
backed_unnumbered backing.Zero perm i = refl
backed_unnumbered (backing.File file index) perm i = refl

onward_unnumbered : (a : Option Cell) (i : ℕ) → has_no_number (onward i a) ≡ true
onward_unnumbered None i = refl
onward_unnumbered (Some c) i = backed_unnumbered (backing_of c) (perm_of c) i

pub onward_twice : (a : Option Cell) (i k j : ℕ) → i + k ≡ j → onward k (onward i a) ≡ onward j a
onward_twice None i k j e = refl
onward_twice (Some c) i k j e = ap Some (backed_twice (backing_of c) (perm_of c) i k ∙ ap (backed (backing_of c) (perm_of c)) e)

-- of two cells that go on from one, the later goes on from the earlier
continues_between : (a b c : Option Cell) (i k j : ℕ) → i + k ≡ j → continues a i b ≡ true → continues a j c ≡ true → continues b k c ≡ true
continues_between a b c i k j e h g =
    let is = continues_is a i b h in
    continues_from b k c (ap has_no_number is ∙ onward_unnumbered a i) (continues_is a j c g ∙ sym (ap (onward k) is ∙ onward_twice a i k j e))

-- new permissions for all leave it so
with_perm_onward : (new : Perm) (a : Option Cell) (i : ℕ) → has_no_number a ≡ true → option_map (with_perm new) (onward i a) ≡ onward i (option_map (with_perm new) a)
with_perm_onward new None i h = refl
with_perm_onward new (Some (Anon perm)) i h = refl
with_perm_onward new (Some (File perm file index)) i h = refl
with_perm_onward new (Some (Mapped perm origin frame bytes)) i h = absurd (true≢false (sym h))
with_perm_onward new (Some (Swapped perm origin slot bytes)) i h = absurd (true≢false (sym h))

with_perm_unnumbered : (new : Perm) (a : Option Cell) → has_no_number a ≡ true → has_no_number (option_map (with_perm new) a) ≡ true
with_perm_unnumbered new None h = refl
with_perm_unnumbered new (Some (Anon perm)) h = refl
with_perm_unnumbered new (Some (File perm file index)) h = refl
with_perm_unnumbered new (Some (Mapped perm origin frame bytes)) h = absurd (true≢false (sym h))
with_perm_unnumbered new (Some (Swapped perm origin slot bytes)) h = absurd (true≢false (sym h))

with_perm_continues : (new : Perm) (a : Option Cell) (i : ℕ) (b : Option Cell) → continues a i b ≡ true → continues (option_map (with_perm new) a) i (option_map (with_perm new) b) ≡ true
with_perm_continues new a i b h =
    let plain = continues_unnumbered a i b h in
    continues_from (option_map (with_perm new) a) i (option_map (with_perm new) b) (with_perm_unnumbered new a plain)
    (ap (option_map (with_perm new)) (continues_is a i b h) ∙ with_perm_onward new a i plain)

-- ---- spans

module _ (cells : AddressSpace) (first count : ℕ) where
  pub alike_at : is_alike cells first count ≡ true → (q : ℕ) → first ≤ q → q < first + count → continues (fin.get cells first) (q - first) (fin.get cells q) ≡ true
  unfolding is_alike
  alike_at h q a b = each_in (λ page. continues (fin.get cells first) (page - first) (fin.get cells page)) first count q h a b

  pub alike_from : ((q : ℕ) → first ≤ q → q < first + count → continues (fin.get cells first) (q - first) (fin.get cells q) ≡ true) → is_alike cells first count ≡ true
  unfolding is_alike
  alike_from h = all_in (λ page. continues (fin.get cells first) (page - first) (fin.get cells page)) first count h

  -- a page that has a number is not alike with others, nor with itself
  pub alike_unnumbered : is_alike cells first count ≡ true → (q : ℕ) → first ≤ q → q < first + count → has_no_number (fin.get cells q) ≡ true
  alike_unnumbered h q a b =
      let here = alike_at h q a b in
      ap has_no_number (continues_is (fin.get cells first) (q - first) (fin.get cells q) here) ∙ onward_unnumbered (fin.get cells first) (q - first)

  pub none_alike : ((q : ℕ) → first ≤ q → q < first + count → fin.get cells q ≡ None) → is_alike cells first count ≡ true
  none_alike h = alike_from (λ q a b. (λ i. continues (h first (omega arith) (omega (arith, a, b)) i) (q - first) (h q a b i)))

  -- a mapping is alike
  pub backed_alike : (what : Backing) (perm : Perm) (start : ℕ) → start ≤ first → ((q : ℕ) → first ≤ q → q < first + count → fin.get cells q ≡ Some (backed what perm (q - start))) → is_alike cells first count ≡ true
  backed_alike what perm start low h = alike_from (λ q a b.
      let at_first = h first (omega arith) (omega (arith, a, b)) in
      continues_from (fin.get cells first) (q - first) (fin.get cells q) (ap has_no_number at_first ∙ backed_unnumbered what perm (first - start))
      (h q a b ∙ sym (ap (onward (q - first)) at_first ∙ ap Some (backed_twice what perm (first - start) (q - first) ∙ ap (backed what perm) (grouped q a low)))))
    where
      grouped : (q : ℕ) → first ≤ q → start ≤ first → first - start + (q - first) ≡ q - start
      grouped q a low = omega arith

  -- a part of a span that is alike is alike
  pub part_alike : (low n : ℕ) → ((q : ℕ) → low ≤ q → q < low + n → (first ≤ q) × (q < first + count)) → is_alike cells first count ≡ true → is_alike cells low n ≡ true
  unfolding is_alike
  part_alike low n within h = all (λ q a b.
      let here = within low (omega arith) (omega (arith, a, b)) in
      let there = within q a b in
      continues_between (fin.get cells first) (fin.get cells low) (fin.get cells q) (low - first) (q - low) (q - first) (grouped q a here.0)
      (alike_at h low here.0 here.1) (alike_at h q there.0 there.1))
    where
      all : ((q : ℕ) → low ≤ q → q < low + n → continues (fin.get cells low) (q - low) (fin.get cells q) ≡ true) → is_alike cells low n ≡ true
      all g = all_in (λ page. continues (fin.get cells low) (page - low) (fin.get cells page)) low n g

      grouped : (q : ℕ) → low ≤ q → first ≤ low → low - first + (q - low) ≡ q - first
      grouped q a l = omega arith

module _ (cells other : AddressSpace) (first count : ℕ) where
  -- the same cells are as alike
  pub same_alike : ((q : ℕ) → first ≤ q → q < first + count → fin.get other q ≡ fin.get cells q) → is_alike cells first count ≡ true → is_alike other first count ≡ true
  same_alike same h = alike_from other first count (λ q a b.
      (λ i. continues (same first (omega arith) (omega (arith, a, b)) i) (q - first) (same q a b i)) ∙ alike_at cells first count h q a b)

  pub protected_alike : (new : Perm) → ((q : ℕ) → first ≤ q → q < first + count → fin.get other q ≡ option_map (with_perm new) (fin.get cells q)) → is_alike cells first count ≡ true → is_alike other first count ≡ true
  protected_alike new same h = alike_from other first count (λ q a b.
      (λ i. continues (same first (omega arith) (omega (arith, a, b)) i) (q - first) (same q a b i))
      ∙ with_perm_continues new (fin.get cells first) (q - first) (fin.get cells q) (alike_at cells first count h q a b))

-- a span with a cell at one page and none at another is not alike
pub gap_unlike : (cells : AddressSpace) (first count q r : ℕ) (c : Cell) → first ≤ q → q < first + count → first ≤ r → r < first + count → fin.get cells q ≡ Some c → fin.get cells r ≡ None → not (is_alike cells first count) ≡ true
gap_unlike cells first count q r c a b a' b' here none = not_from_false _ (false_from_ne_true _ (λ alike.
    clash (fin.get cells first) (q - first) (r - first)
    (sym here ∙ continues_is (fin.get cells first) (q - first) (fin.get cells q) (alike_at cells first count alike q a b))
    (sym none ∙ continues_is (fin.get cells first) (r - first) (fin.get cells r) (alike_at cells first count alike r a' b'))))
  where
    clash : (o : Option Cell) (i j : ℕ) → Some c ≡ onward i o → None ≡ onward j o → ⊥
    clash None i j e f = not_none e
    clash (Some d) i j e f = not_none (sym f)

-- and so is one with a page that has a number
pub number_unlike : (cells : AddressSpace) (first count q : ℕ) → first ≤ q → q < first + count → has_no_number (fin.get cells q) ≡ false → not (is_alike cells first count) ≡ true
number_unlike cells first count q a b numbered = not_from_false _ (false_from_ne_true _ (λ alike. true≢false (sym (alike_unnumbered cells first count alike q a b) ∙ numbered)))
