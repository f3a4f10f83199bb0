-- The bytes of the frames that were taken for an access are those that its pages had.
use Rattle.std.proofs.Common.{◌≡◌, ℕ, Bool, List, [], ◌∷◌, ◌++◌, refl, sym, ap, ◌∙◌}
use Rattle.std.specs.Prelude.{Option, Some, None, T, map}
use Rattle.std.specs.List.{All, AllByRecursion, flat_map}
use Rattle.std.specs.Option.{unwrap_or, option_map, option_map_or, option_and_then}
use Rattle.std.specs.Ordering.{nat_cmp}
use Rattle.std.specs.FinMap.{find, is_sorted}
use Rattle.std.proofs.lemmas.List.Elements.{All-head, All-tail}
use Rattle.corten_base.specs.Body.{PageBody}
use Rattle.corten_base.specs.Bytes.{zeros as own_zeros}
use Rattle.counted_pages.specs.Pages.{PageCounts, CountedPage}
use Rattle.page_map.specs.declared.cell.Cell.{Cell}
use Rattle.page_map.specs.declared.cell.Cell.TheVariants.{Anon, File, Mapped, Swapped}
use Rattle.page_map.specs.Cell.{zeros, file_page, frame_of, slot_of, contents}
use Rattle.machine_plan.specs.declared.kit.Want.{Want}
use Rattle.machine_plan.specs.Kits.{Refs}
use Rattle.machine_plan.specs.Uses.{Ref, refs_of, shown_ref, shown_refs, access_want, wanted_at}
use Rattle.book.specs.Granting.{numbered}
use Rattle.book.specs.Filling.{Sources, bytes_at, refilled, with_source, bytes_of, file_wanted, file_sources, IsFresh}
use Rattle.book.proofs.CameRefs.{find_some, found_itself}

-- References as they are shown, with the bytes of sources

abbrev shown_with : Sources → Ref → Ref
shown_with sources s = (s.0, (s.1.0, unwrap_or (bytes_at sources s.0) s.1.1))

one_shown : (sources : Sources) (r : ℕ × CountedPage) → shown_ref (with_source sources r) ≡ shown_with sources (shown_ref r)
one_shown sources r = go (bytes_at sources r.0)
  where
    go : (o : Option (List ℕ)) → shown_ref (option_map_or (refilled r) o r) ≡ (r.0, (r.1.number, unwrap_or o r.1.body.bytes))
    go None = refl
    go (Some bytes) = refl

all_shown : (sources : Sources) (refs : Refs) → shown_refs (map (with_source sources) refs) ≡ map (shown_with sources) (shown_refs refs)
all_shown sources [] = refl
all_shown sources (r ∷ refs) = λ i. one_shown sources r i ∷ all_shown sources refs i

abbrev pub bytes_in_turn : Sources → Sources → Sources → ℕ → List ℕ
bytes_in_turn files own slots page = unwrap_or (bytes_at slots page) (unwrap_or (bytes_at own page) (unwrap_or (bytes_at files page) own_zeros))

fresh_shown : (counts : PageCounts) (taken : Refs) → All (IsFresh counts) taken → shown_refs taken ≡ map (λ (g : ℕ × ℕ). (g.0, (g.1, own_zeros))) (map numbered taken)
fresh_shown counts [] h = refl
fresh_shown counts (r ∷ taken) h =
    λ i. (r.0, (r.1.number, ap (λ (b : PageBody). b.bytes) (All-head (IsFresh counts) r taken h).zero i)) ∷ fresh_shown counts taken (All-tail (IsFresh counts) r taken h) i

thrice : (files own slots : Sources) (gs : List (ℕ × ℕ)) →
    map (shown_with slots) (map (shown_with own) (map (shown_with files) (map (λ (g : ℕ × ℕ). (g.0, (g.1, own_zeros))) gs))) ≡ map (λ (g : ℕ × ℕ). (g.0, (g.1, bytes_in_turn files own slots g.0))) gs
thrice files own slots [] = refl
thrice files own slots (g ∷ gs) = ap (λ (rs : List Ref). (g.0, (g.1, bytes_in_turn files own slots g.0)) ∷ rs) (thrice files own slots gs)

pub filled_shown : (counts : PageCounts) (files own slots : Sources) (taken frames : Refs) → All (IsFresh counts) taken → frames ≡ map (with_source slots) (map (with_source own) (map (with_source files) taken)) →
    shown_refs frames ≡ map (λ (g : ℕ × ℕ). (g.0, (g.1, bytes_in_turn files own slots g.0))) (map numbered taken)
filled_shown counts files own slots taken frames fresh is =
    ap shown_refs is
    ∙ all_shown slots (map (with_source own) (map (with_source files) taken))
    ∙ ap (map (shown_with slots)) (all_shown own (map (with_source files) taken) ∙ ap (map (shown_with own)) (all_shown files taken ∙ ap (map (shown_with files)) (fresh_shown counts taken fresh)))
    ∙ thrice files own slots (map numbered taken)

-- The sources of a list of pages with their cells

abbrev pub value_of : (Cell → Option ℕ) → Cell → Option (List ℕ)
value_of number_of c = option_map (λ n. contents [] c) (number_of c)

abbrev pub with_value : (Cell → Option (List ℕ)) → ℕ × Cell → Sources
with_value value e = option_map_or (λ y. (e.0, y) ∷ []) (value e.1) []

pub shown_sources : (refs : Refs) → bytes_of refs ≡ map (λ (s : Ref). (s.0, s.1.1)) (shown_refs refs)
shown_sources [] = refl
shown_sources (r ∷ refs) = ap (λ (ss : Sources). (r.0, r.1.body.bytes) ∷ ss) (shown_sources refs)

pub cell_sources : (number_of : Cell → Option ℕ) (es : List (ℕ × Cell)) → map (λ (s : Ref). (s.0, s.1.1)) (refs_of number_of es) ≡ flat_map (with_value (value_of number_of)) es
cell_sources number_of [] = refl
cell_sources number_of (e ∷ es) = go (number_of e.1) (cell_sources number_of es)
  where
    go : (o : Option ℕ) → map (λ (s : Ref). (s.0, s.1.1)) (refs_of number_of es) ≡ flat_map (with_value (value_of number_of)) es →
        map (λ (s : Ref). (s.0, s.1.1)) (option_map_or (λ n. (e.0, (n, contents [] e.1)) ∷ []) o [] ++ refs_of number_of es)
        ≡ option_map_or (λ y. (e.0, y) ∷ []) (option_map (λ n. contents [] e.1) o) [] ++ flat_map (with_value (value_of number_of)) es
    go None rest = rest
    go (Some n) rest = ap (λ (ss : Sources). (e.0, contents [] e.1) ∷ ss) rest

abbrev file_value : List (List ℕ) → Bool → Cell → Option (List ℕ)
file_value files write c = option_and_then (λ w. option_map (λ (f : ℕ × ℕ). file_page files f.0 f.1) (file_wanted w)) (access_want write c)

file_cells : (files : List (List ℕ)) (write : Bool) (es : List (ℕ × Cell)) → file_sources files (flat_map (wanted_at (access_want write)) es) ≡ flat_map (with_value (file_value files write)) es
file_cells files write [] = refl
file_cells files write (e ∷ es) = go (access_want write e.1) (file_cells files write es)
  where
    inner : (w : Want) (o : Option (ℕ × ℕ)) → file_sources files (flat_map (wanted_at (access_want write)) es) ≡ flat_map (with_value (file_value files write)) es →
        option_map_or (λ (f : ℕ × ℕ). (e.0, file_page files f.0 f.1) ∷ []) o [] ++ file_sources files (flat_map (wanted_at (access_want write)) es)
        ≡ option_map_or (λ y. (e.0, y) ∷ []) (option_map (λ (f : ℕ × ℕ). file_page files f.0 f.1) o) [] ++ flat_map (with_value (file_value files write)) es
    inner w None rest = rest
    inner w (Some f) rest = ap (λ (ss : Sources). (e.0, file_page files f.0 f.1) ∷ ss) rest

    go : (o : Option Want) → file_sources files (flat_map (wanted_at (access_want write)) es) ≡ flat_map (with_value (file_value files write)) es →
        file_sources files (option_map_or (λ w. (e.0, w) ∷ []) o [] ++ flat_map (wanted_at (access_want write)) es)
        ≡ option_map_or (λ y. (e.0, y) ∷ []) (option_and_then (λ w. option_map (λ (f : ℕ × ℕ). file_page files f.0 f.1) (file_wanted w)) o) [] ++ flat_map (with_value (file_value files write)) es
    go None rest = rest
    go (Some w) rest = inner w (file_wanted w) rest

same_zeros : own_zeros ≡ zeros
unfolding own_zeros zeros
same_zeros = refl

-- each page's bytes are those that an access finds there
of_cell : (files : List (List ℕ)) (write : Bool) (c : Cell) → unwrap_or (value_of slot_of c) (unwrap_or (value_of frame_of c) (unwrap_or (file_value files write c) own_zeros)) ≡ contents files c
of_cell files write (Anon perm) = same_zeros
of_cell files write (File perm file index) = refl
of_cell files write (Mapped perm origin frame bytes) = refl
of_cell files write (Swapped perm origin slot bytes) = refl

pub bytes_found : (files : List (List ℕ)) (write : Bool) (es : List (ℕ × Cell)) (own slots : Refs) (wants : List (ℕ × Want)) → T (is_sorted nat_cmp es) → shown_refs own ≡ refs_of frame_of es → shown_refs slots ≡ refs_of slot_of es → wants ≡ flat_map (wanted_at (access_want write)) es →
    AllByRecursion (λ (e : ℕ × Cell). contents files e.1 ≡ bytes_in_turn (file_sources files wants) (bytes_of own) (bytes_of slots) e.0) es
bytes_found files write es own slots wants sorted of_frames of_slots of_wants = each es (found_itself es sorted)
  where
    by_frames : (k : ℕ) → bytes_at (bytes_of own) k ≡ option_and_then (value_of frame_of) (find nat_cmp k es)
    by_frames k = ap (λ (ss : Sources). find nat_cmp k ss) (shown_sources own ∙ ap (map (λ (s : Ref). (s.0, s.1.1))) of_frames ∙ cell_sources frame_of es) ∙ find_some (value_of frame_of) k es sorted

    by_slots : (k : ℕ) → bytes_at (bytes_of slots) k ≡ option_and_then (value_of slot_of) (find nat_cmp k es)
    by_slots k = ap (λ (ss : Sources). find nat_cmp k ss) (shown_sources slots ∙ ap (map (λ (s : Ref). (s.0, s.1.1))) of_slots ∙ cell_sources slot_of es) ∙ find_some (value_of slot_of) k es sorted

    by_files : (k : ℕ) → bytes_at (file_sources files wants) k ≡ option_and_then (file_value files write) (find nat_cmp k es)
    by_files k = ap (λ (ss : Sources). find nat_cmp k ss) (ap (file_sources files) of_wants ∙ file_cells files write es) ∙ find_some (file_value files write) k es sorted

    each : (fs : List (ℕ × Cell)) → AllByRecursion (λ (e : ℕ × Cell). find nat_cmp e.0 es ≡ Some e.1) fs → AllByRecursion (λ (e : ℕ × Cell). contents files e.1 ≡ bytes_in_turn (file_sources files wants) (bytes_of own) (bytes_of slots) e.0) fs
    each [] h = tt
    each (e ∷ fs) h = (
      sym (of_cell files write e.1)
          ∙ (λ i. unwrap_or (sym (by_slots e.0 ∙ ap (option_and_then (value_of slot_of)) h.0) i) (unwrap_or (sym (by_frames e.0 ∙ ap (option_and_then (value_of frame_of)) h.0) i)
          (unwrap_or (sym (by_files e.0 ∙ ap (option_and_then (file_value files write)) h.0) i) own_zeros))),
      each fs h.1,
    )
