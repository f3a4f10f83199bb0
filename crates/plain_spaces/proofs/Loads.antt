-- The bytes that are read from the pages of an access.
use Rattle.std.proofs.Common.{◌≡◌, ℕ, ◌+◌, ◌-◌, ◌%◌, min, ◌<◌, ◌≤◌, List, [], ◌++◌, length, take, drop, refl, sym, ap, ◌∙◌, arith}
use mathlib.Core.Logic.{◌⊎◌, inl, inr}
use Rattle.std.specs.Prelude.{Option, Some, None}
use Rattle.std.specs.Option.{option_map_or}
use Rattle.std.specs.List.{flat_map, range_with_len}
use Rattle.std.proofs.lemmas.List.{append-nil, drop-append-le, drop_all, take_all, take_at, length-take-le, length-drop, length-append}
use Rattle.std.proofs.Math.Seq.{take-append-add}
use Rattle.std.specs.FinMap.{get}
use Rattle.corten_base.specs.Bytes.{bytes_after_write}
use Rattle.page_map.specs.declared.cell.Cell.{Cell}
use Rattle.page_map.specs.declared.cell.Cell.TheVariants.{Anon, File, Mapped, Swapped}
use Rattle.page_map.specs.Cell.{contents}
use Rattle.page_map.specs.State.{AddressSpace}
use Rattle.page_map.specs.Access.{Access, first_page, page_count, loaded}
use Rattle.space_cells.specs.Cells.{bytes_of}
use Rattle.plain_spaces.specs.Reach.{last_page, IsResident}
use Rattle.plain_spaces.proofs.Reach.{one_or_two, here_first, here_last}

-- a page with 4,096 bytes of its own has these as its contents
own_bytes : (files : List (List ℕ)) (o : Option Cell) → length (bytes_of o) ≡ 4096 → option_map_or (contents files) o [] ≡ bytes_of o
own_bytes files None e = refl
own_bytes files (Some (Mapped perm origin frame bytes)) e = refl
own_bytes files (Some (Anon perm)) e = absurd (omega (arith, e))
own_bytes files (Some (File perm file index)) e = absurd (omega (arith, e))
own_bytes files (Some (Swapped perm origin slot bytes)) e = absurd (omega (arith, e))

module _ (files : List (List ℕ)) (cells : AddressSpace) (a : Access) (some : 0 < a.len) (few : a.len ≤ 4096) (resident : IsResident cells a) where
  abbrev of_page : ℕ → List ℕ
  of_page page = option_map_or (contents files) (get cells page) []

  first_bytes : of_page (first_page a) ≡ bytes_of (get cells (first_page a))
  first_bytes = own_bytes files (get cells (first_page a)) (resident.pages (first_page a) (here_first a some few))

  last_bytes : of_page (last_page a) ≡ bytes_of (get cells (last_page a))
  last_bytes = own_bytes files (get cells (last_page a)) (resident.pages (last_page a) (here_last a some few))

  pub first_long : length (bytes_of (get cells (first_page a))) ≡ 4096
  first_long = resident.pages (first_page a) (here_first a some few)

  pub last_long : length (bytes_of (get cells (last_page a))) ≡ 4096
  last_long = resident.pages (last_page a) (here_last a some few)

  loaded_one : page_count a ≡ 1 → loaded files cells a ≡ take a.len (drop (a.at % 4096) (bytes_of (get cells (first_page a))))
  unfolding loaded
  loaded_one e =
      ap (λ n. take a.len (drop (a.at % 4096) (flat_map of_page (range_with_len (first_page a) n)))) e
      ∙ ap (λ l. take a.len (drop (a.at % 4096) l)) (append-nil (of_page (first_page a)) ∙ first_bytes)

  loaded_two : last_page a ≡ first_page a + 1 → page_count a ≡ 2 →
      loaded files cells a ≡ take a.len (drop (a.at % 4096) (bytes_of (get cells (first_page a)) ++ bytes_of (get cells (last_page a))))
  unfolding loaded
  loaded_two next e =
      ap (λ n. take a.len (drop (a.at % 4096) (flat_map of_page (range_with_len (first_page a) n)))) e
      ∙ (λ i. take a.len (drop (a.at % 4096) (first_bytes i ++ (append-nil (of_page (first_page a + 1)) ∙ ap of_page (sym next) ∙ last_bytes) i)))

  module _ (out : List ℕ) (room : length out ≡ a.len) (start n : ℕ) (s : start ≡ a.at % 4096) (m : n ≡ min a.len (4096 - start)) where
    abbrev one : List ℕ
    one = bytes_of (get cells (first_page a))

    abbrev two : List ℕ
    two = bytes_of (get cells (last_page a))

    abbrev head : List ℕ
    head = take (start + n - start) (drop start one)

    head_is : head ≡ take n (drop start one)
    head_is = ap (λ k. take k (drop start one)) (same start n)
      where
        same : (x y : ℕ) → x + y - x ≡ y
        same x y = omega arith

    head_long : length head ≡ n
    head_long = ap length head_is ∙ length-take-le n (drop start one) (omega (arith, length-drop start one, first_long, s, m))

    -- the bytes of one page
    pub read_one : a.len ≤ n → bytes_after_write out 0 head ≡ loaded files cells a
    read_one all = go (one_or_two a some few)
      where
        whole : n ≡ a.len
        whole = omega (arith, all, m)

        go : ((last_page a ≡ first_page a) × (page_count a ≡ 1)) ⊎ ((last_page a ≡ first_page a + 1) × (page_count a ≡ 2)) → bytes_after_write out 0 head ≡ loaded files cells a
        go (inl e) =
            ap (λ l. head ++ l) (drop_all (0 + length head) out (omega (arith, room, head_long, whole)))
            ∙ append-nil head ∙ head_is ∙ (λ i. take (whole i) (drop (s i) one)) ∙ sym (loaded_one e.1)
        go (inr e) = absurd (omega (arith, e.0, s, m, all))

    -- and of two
    pub read_two : n < a.len → (k : ℕ) → k ≡ a.len - n → bytes_after_write (bytes_after_write out 0 head) n (take k two) ≡ loaded files cells a
    read_two more k rest = go (one_or_two a some few)
      where
        edge : n ≡ 4096 - start
        edge = omega (arith, more, m)

        head_all : head ≡ drop start one
        head_all = head_is ∙ take_all n (drop start one) (omega (arith, length-drop start one, first_long, edge))

        tail_long : length (take k two) ≡ k
        tail_long = length-take-le k two (omega (arith, last_long, rest, few))

        after : List ℕ
        after = bytes_after_write out 0 head

        front : take n after ≡ head
        front = take_at head (drop (0 + length head) out) n head_long

        back : drop (n + length (take k two)) after ≡ []
        back = drop_all (n + length (take k two)) after (omega (arith, length-append head (drop (0 + length head) out), length-drop (0 + length head) out, room, head_long, tail_long, rest, more))

        go : ((last_page a ≡ first_page a) × (page_count a ≡ 1)) ⊎ ((last_page a ≡ first_page a + 1) × (page_count a ≡ 2)) → bytes_after_write after n (take k two) ≡ loaded files cells a
        go (inl e) = absurd (omega (arith, e.0, s, m, more))
        go (inr e) =
            (λ i. front i ++ take k two ++ back i)
            ∙ append-nil (head ++ take k two)
            ∙ (λ i. head_all i ++ take k two)
            ∙ sym (take-append-add (drop start one) two k)
            ∙ (λ i. take (length_is i) (sym (drop-append-le start one two (omega (arith, first_long, s))) i))
            ∙ (λ i. take a.len (drop (s i) (one ++ two)))
            ∙ sym (loaded_two e.0 e.1)
          where
            length_is : length (drop start one) + k ≡ a.len
            length_is = omega (arith, length-drop start one, first_long, edge, rest, more, s)
