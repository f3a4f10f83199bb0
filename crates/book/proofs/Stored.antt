-- A page's bytes after those of a store, and those of a load, page by page.
use Rattle.std.proofs.Common.{◌≡◌, ℕ, ◌+◌, ◌-◌, ◌*◌, ◌/◌, ◌%◌, ◌<◌, ◌≤◌, Bool, true, false, cond, min, List, ◌∷◌, ◌++◌, length, take, drop, get_or, refl, sym, ap, subst, ◌∙◌, ◌⊎◌, inl, inr, arith}
use mathlib.Core.Bool.{true≢false}
use Rattle.std.specs.Prelude.{Some, nat_eq}
use Rattle.std.specs.Option.{option_map_or}
use Rattle.std.specs.Cmp.{unsigned_tied}
use Rattle.std.proofs.lemmas.Bool.{cases_lt, eq-eqb, eqb-true}
use Rattle.std.proofs.lemmas.List.{length-take, length-drop, length-append, get_or_append_left, get_or-append_right, get_or-take, get_or-drop, drop_all, take_all}
use Rattle.corten_base.specs.Bytes.{bytes_after_write}
use Rattle.page_map.specs.Cell.{written}
use Rattle.counted_pages.specs.Pages.{CountedPage}
use Rattle.machine_plan.specs.Kits.{Refs}
use Rattle.book.specs.Filling.{Sources, bytes_at, bytes_of}
use Rattle.book.specs.Storing.{IsTouched, stored_in, byte_from}
use Rattle.book.proofs.Filled.{back_step}

-- the shared part of a list that is no longer than the rest of the page
take_short : (m n : ℕ) (xs : List ℕ) → n ≡ min m (length xs) → take n xs ≡ take m xs
take_short m n xs e = ap (λ k. take k xs) e ∙ go m xs
  where
    go : (m : ℕ) (xs : List ℕ) → take (min m (length xs)) xs ≡ take m xs
    go m xs = elim (cases_lt m (length xs)) [
      | inl lt ↦ ap (λ k. take k xs) (low m (length xs) lt)
      | inr le ↦ ap (λ k. take k xs) (high m (length xs) le) ∙ take_all (length xs) xs (omega arith) ∙ sym (take_all m xs le)
    ]
      where
        low : (a b : ℕ) → a < b → min a b ≡ a
        low a b h = omega (arith, h)

        high : (a b : ℕ) → b ≤ a → min a b ≡ b
        high a b h = omega (arith, h)

same_drop : (m n : ℕ) (xs : List ℕ) → (m ≡ n) ⊎ ((length xs ≤ m) × (length xs ≤ n)) → drop m xs ≡ drop n xs
same_drop m n xs (inl e) = ap (λ k. drop k xs) e
same_drop m n xs (inr h) = drop_all m xs h.0 ∙ sym (drop_all n xs h.1)

module _ (at page : ℕ) (stored old : List ℕ) (touched : IsTouched at (length stored) page) (whole : length old ≡ 4096) where
  abbrev start : ℕ
  start = at - 4096 * page

  abbrev place : ℕ
  place = 4096 * page - at

  abbrev len : ℕ
  len = min (4096 - start) (length stored - place)

  abbrev part : List ℕ
  part = take len (drop place stored)

  part_is : part ≡ take (4096 - start) (drop place stored)
  part_is = take_short (4096 - start) len (drop place stored) (ap (min (4096 - start)) (sym (length-drop place stored)))

  long : length part ≡ len
  long = omega (arith, length-take len (drop place stored), length-drop place stored)

  pub fits_page : start + length part ≤ 4096
  fits_page = omega (arith, long, touched.begins)

  pub written_is : bytes_after_write old start part ≡ written at stored page old
  written_is = λ i. take start old ++ part_is i ++ after i
    where
      ends : (start + length part ≡ at + length stored - 4096 * page) ⊎ ((length old ≤ start + length part) × (length old ≤ at + length stored - 4096 * page))
      ends = elim (cases_lt (length stored - place) (4096 - start)) [
        | inl lt ↦ inl (omega (arith, lt, long, touched.begins, touched.ends))
        | inr le ↦ inr (omega (arith, le, long, whole, touched.begins), omega (arith, le, whole, touched.begins, touched.ends))
      ]

      after : drop (start + length part) old ≡ drop (at + length stored - 4096 * page) old
      after = same_drop _ _ old ends

-- bytes that were written over others, one by one
module _ (cur part : List ℕ) (place : ℕ) (fits : place + length part ≤ length cur) (i : ℕ) (lt : i < length cur) where
  abbrev all : List ℕ
  all = bytes_after_write cur place part

  low : length (take place cur) ≡ place
  low = omega (arith, length-take place cur, fits)

  front : length (take place cur ++ part) ≡ place + length part
  front = length-append (take place cur) part ∙ ap (λ n. n + length part) low

  pub byte_before : i < place → get_or all i 0 ≡ get_or cur i 0
  byte_before h =
      get_or_append_left (take place cur ++ part) (drop (place + length part) cur) 0 i (omega (arith, front, h))
      ∙ get_or_append_left (take place cur) part 0 i (omega (arith, low, h))
      ∙ get_or-take place cur i 0 h

  pub byte_among : place ≤ i → i < place + length part → get_or all i 0 ≡ get_or part (i - place) 0
  byte_among h g =
      get_or_append_left (take place cur ++ part) (drop (place + length part) cur) 0 i (omega (arith, front, g))
      ∙ get_or-append_right (take place cur) part place i 0 low h

  pub byte_behind : place + length part ≤ i → get_or all i 0 ≡ get_or cur i 0
  byte_behind h =
      get_or-append_right (take place cur ++ part) (drop (place + length part) cur) (place + length part) i 0 front h
      ∙ get_or-drop (place + length part) cur (i - (place + length part)) 0
      ∙ ap (λ n. get_or cur n 0) (back (place + length part) i h)
    where
      back : (n i : ℕ) → n ≤ i → n + (i - n) ≡ i
      back n i h = omega (arith, h)

-- the bytes of a page are copied to their places in a load
module _ (at page : ℕ) (cur bytes : List ℕ) (touched : IsTouched at (length cur) page) (whole : length bytes ≡ 4096) where
  abbrev first : ℕ
  first = at - 4096 * page

  abbrev to : ℕ
  to = 4096 * page - at

  abbrev many : ℕ
  many = min (4096 - first) (length cur - to)

  abbrev piece : List ℕ
  piece = take many (drop first bytes)

  piece_long : length piece ≡ many
  piece_long = omega (arith, length-take many (drop first bytes), length-drop first bytes, whole)

  pub fits_list : to + length piece ≤ length cur
  fits_list = omega (arith, piece_long, touched.ends)

  pub byte_copied : (i : ℕ) → i < length cur → (b : Bool) → nat_eq ((at + i) / 4096) page ≡ b → get_or (bytes_after_write cur to piece) i 0 ≡ cond b (get_or bytes ((at + i) % 4096) 0) (get_or cur i 0)
  byte_copied i lt true e =
      let here : (at + i) / 4096 ≡ page = eqb-true _ _ e in
      byte_among cur piece to fits_list i lt (omega (arith, here)) (omega (arith, here, piece_long, lt, touched.begins))
      ∙ get_or-take many (drop first bytes) (i - to) 0 (omega (arith, here, lt, touched.begins))
      ∙ get_or-drop first bytes (i - to) 0
      ∙ ap (λ n. get_or bytes n 0) (place_is here)
    where
      place_is : (at + i) / 4096 ≡ page → first + (i - to) ≡ (at + i) % 4096
      place_is here = omega (arith, here)
  byte_copied i lt false e = elim (cases_lt i to) [
    | inl low ↦ byte_before cur piece to fits_list i lt low
    | inr high ↦ elim (cases_lt i (to + length piece)) [
      | inl among ↦ absurd (true≢false (sym (eq-eqb ((at + i) / 4096) page (is_here high among)) ∙ e))
      | inr behind ↦ byte_behind cur piece to fits_list i lt behind
    ]
  ]
    where
      is_here : to ≤ i → i < to + length piece → (at + i) / 4096 ≡ page
      is_here high among = omega (arith, high, among, piece_long, touched.begins)

  -- one page more is loaded
  pub load_step : (sources : Sources) (old new : List ℕ) (i : ℕ) → i < length cur → get_or cur i 0 ≡ byte_from sources (get_or old i 0) (at + i) → new ≡ bytes_after_write cur to piece →
      get_or new i 0 ≡ byte_from ((page, bytes) ∷ sources) (get_or old i 0) (at + i)
  load_step sources old new i lt was then =
      ap (λ l. get_or l i 0) then
      ∙ byte_copied i lt (nat_eq ((at + i) / 4096) page) refl
      ∙ ap (λ n. cond (nat_eq ((at + i) / 4096) page) (get_or bytes ((at + i) % 4096) 0) n) was
      ∙ parted (nat_eq ((at + i) / 4096) page)
      ∙ ap (λ t. option_map_or (λ (l : List ℕ). get_or l ((at + i) % 4096) 0) (cond t (Some bytes) (bytes_at sources ((at + i) / 4096))) (get_or old i 0)) (sym (unsigned_tied ((at + i) / 4096) page))
    where
      parted : (t : Bool) → cond t (get_or bytes ((at + i) % 4096) 0) (byte_from sources (get_or old i 0) (at + i))
          ≡ option_map_or (λ (l : List ℕ). get_or l ((at + i) % 4096) 0) (cond t (Some bytes) (bytes_at sources ((at + i) / 4096))) (get_or old i 0)
      parted true = refl
      parted false = refl

whole_part : (s n : ℕ) → s + n - s ≡ n
whole_part s n = omega arith

pub stored_frame : (at : ℕ) (stored : List ℕ) (r : ℕ × CountedPage) (frame : CountedPage) (s p n : ℕ) → IsTouched at (length stored) r.0 → length r.1.body.bytes ≡ 4096 →
    s ≡ at - 4096 * r.0 → p ≡ 4096 * r.0 - at → n ≡ min (4096 - (at - 4096 * r.0)) (length stored - (4096 * r.0 - at)) →
    frame ≡ record { number = r.1.number; body = record { bytes = bytes_after_write r.1.body.bytes s (take (p + n - p) (drop p stored)); own = true } } → (r.0, frame) ≡ stored_in at stored r
stored_frame at stored r frame s p n touched whole es ep en made = λ i. (r.0, (made ∙ (λ j. record { number = r.1.number; body = record { bytes = bytes_is j; own = true } })) i)
  where
    bytes_is : bytes_after_write r.1.body.bytes s (take (p + n - p) (drop p stored)) ≡ written at stored r.0 r.1.body.bytes
    bytes_is = (λ i. bytes_after_write r.1.body.bytes (es i) (take ((whole_part p n ∙ en) i) (drop (ep i) stored))) ∙ written_is at r.0 stored r.1.body.bytes touched whole

pub same_long : (cur part : List ℕ) (place : ℕ) → place + length part ≤ length cur → length (bytes_after_write cur place part) ≡ length cur
same_long cur part place fits =
    omega (arith, length-append (take place cur ++ part) (drop (place + length part) cur), length-append (take place cur) part, length-take place cur, length-drop (place + length part) cur, fits)

module _ (at : ℕ) (r : ℕ × CountedPage) (cur old new b : List ℕ) (s p n len : ℕ) (touched : IsTouched at (length cur) r.0) (same : b ≡ r.1.body.bytes) (whole : length r.1.body.bytes ≡ 4096) (el : len ≡ length cur)
    (es : s ≡ at - 4096 * r.0) (ep : p ≡ 4096 * r.0 - at) (en : n ≡ min (4096 - (at - 4096 * r.0)) (len - (4096 * r.0 - at))) (then : new ≡ bytes_after_write cur p (take (s + n - s) (drop s b))) where
  then_is : new ≡ bytes_after_write cur (4096 * r.0 - at) (take (min (4096 - (at - 4096 * r.0)) (length cur - (4096 * r.0 - at))) (drop (at - 4096 * r.0) r.1.body.bytes))
  then_is = then ∙ (λ i. bytes_after_write cur (ep i) (take ((whole_part s n ∙ en ∙ ap (λ m. min (4096 - (at - 4096 * r.0)) (m - (4096 * r.0 - at))) el) i) (drop (es i) (same i))))

  pub loaded_long : length new ≡ length cur
  loaded_long = ap length then_is ∙ same_long cur _ (4096 * r.0 - at) (fits_list at r.0 cur r.1.body.bytes touched whole)

  pub loaded_step : (frames : Refs) (done : ℕ) → done < length frames → r ≡ get_or frames (length frames - 1 - done) r → length cur ≡ length old →
      ((i : ℕ) → i < length old → get_or cur i 0 ≡ byte_from (bytes_of (drop (length frames - done) frames)) (get_or old i 0) (at + i)) →
      (i : ℕ) → i < length old → get_or new i 0 ≡ byte_from (bytes_of (drop (length frames - (done + 1)) frames)) (get_or old i 0) (at + i)
  loaded_step frames done lt is long was i inside =
      load_step at r.0 cur r.1.body.bytes touched whole (bytes_of (drop (length frames - done) frames)) old new i (subst (λ m. i < m) (sym long) inside) (was i inside) then_is
      ∙ ap (λ (refs : Refs). byte_from (bytes_of refs) (get_or old i 0) (at + i)) (sym (back_step frames done r r lt is))
