-- Frames get the bytes of the sources of their pages, source by source.
use Rattle.std.proofs.Common.{◌≡◌, ◌≢◌, ℕ, zero, suc, ◌+◌, ◌-◌, ◌<◌, Bool, true, false, cond, List, [], ◌∷◌, ◌++◌, length, take, drop, get_or, set, refl, sym, ap, subst, ◌∙◌, arith}
use mathlib.Core.Bool.{true≢false}
use Rattle.std.specs.Prelude.{Option, Some, None, map, is_some, nat_eq}
use Rattle.std.specs.Option.{option_map_or}
use Rattle.std.specs.Ordering.{nat_cmp, eq_by_cmp}
use Rattle.std.specs.Cmp.{unsigned_tied, nat_eq_equiv}
use Rattle.std.specs.FinMap.{find}
use Rattle.std.proofs.lemmas.Bool.{eq-eqb, ne_eqb}
use Rattle.std.proofs.lemmas.List.{drop_more, drop_all, get_or-append_right, get_or-take, length-take, append-nil}
use Rattle.std.proofs.lemmas.List.Elements.{All-map, All-weaker}
use Rattle.corten_base.specs.Bytes.{bytes_after_write}
use Rattle.page_map.specs.Cell.{file_page}
use Rattle.counted_pages.specs.Pages.{CountedPage, PageCounts}
use Rattle.machine_plan.specs.declared.kit.Want.{Want}
use Rattle.machine_plan.specs.Kits.{Refs}
use Rattle.book.specs.Filling.{Sources, bytes_at, refilled, with_source, bytes_of, file_wanted, file_source, file_sources, has_page, IsSole, AreSole}

one_source : (p : ℕ) (b : List ℕ) (sources : Sources) (r : ℕ × CountedPage) → with_source ((p, b) ∷ []) (with_source sources r) ≡ with_source ((p, b) ∷ sources) r
one_source p b sources r = go (bytes_at sources r.0)
  where
    last : (x : List ℕ) (t : Bool) → option_map_or (refilled (refilled r x)) (cond t (Some b) None) (refilled r x) ≡ option_map_or (refilled r) (cond t (Some b) (Some x)) r
    last x true = refl
    last x false = refl

    go : (o : Option (List ℕ)) → with_source ((p, b) ∷ []) (option_map_or (refilled r) o r) ≡ option_map_or (refilled r) (cond (eq_by_cmp nat_cmp r.0 p) (Some b) o) r
    go None = refl
    go (Some x) = last x (eq_by_cmp nat_cmp r.0 p)

pub more_sources : (p : ℕ) (b : List ℕ) (sources : Sources) (frames : Refs) → map (with_source ((p, b) ∷ [])) (map (with_source sources) frames) ≡ map (with_source ((p, b) ∷ sources)) frames
more_sources p b sources [] = refl
more_sources p b sources (r ∷ frames) = λ i. one_source p b sources r i ∷ more_sources p b sources frames i

pub no_sources : (frames : Refs) → map (with_source []) frames ≡ frames
no_sources [] = refl
no_sources (r ∷ frames) = ap (λ (rs : Refs). r ∷ rs) (no_sources frames)

-- a source whose page the list lacks changes nothing
pub absent_source : (p : ℕ) (b : List ℕ) (frames : Refs) → has_page frames p ≡ false → map (with_source ((p, b) ∷ [])) frames ≡ frames
absent_source p b [] absent = refl
absent_source p b (r ∷ frames) absent = go (nat_eq p r.0) refl (sym (ap (λ t. is_some (cond t (Some r.1) (find nat_cmp p frames))) (unsigned_tied p r.0)) ∙ absent) (absent_source p b frames)
  where
    flipped : eq_by_cmp nat_cmp r.0 p ≡ nat_eq p r.0
    flipped = unsigned_tied r.0 p ∙ nat_eq_equiv.symm r.0 p

    go : (t : Bool) → nat_eq p r.0 ≡ t → is_some (cond t (Some r.1) (find nat_cmp p frames)) ≡ false → (has_page frames p ≡ false → map (with_source ((p, b) ∷ [])) frames ≡ frames) → map (with_source ((p, b) ∷ [])) (r ∷ frames) ≡ r ∷ frames
    go true e h rest = absurd (true≢false h)
    go false e h rest = λ i. ap (λ t. option_map_or (refilled r) (cond t (Some b) None) r) (flipped ∙ e) i ∷ rest h i

module _ (counts : PageCounts) (p : ℕ) (b : List ℕ) (whole : length b ≡ 4096) where
  one_sole : (r : ℕ × CountedPage) → IsSole counts r → IsSole counts (with_source ((p, b) ∷ []) r)
  one_sole r h = go (eq_by_cmp nat_cmp r.0 p)
    where
      go : (t : Bool) → IsSole counts (option_map_or (refilled r) (cond t (Some b) None) r)
      go true = record { own = refl; whole = whole; one = h.one }
      go false = h

  pub still_sole : (frames : Refs) → AreSole counts frames → AreSole counts (map (with_source ((p, b) ∷ [])) frames)
  still_sole frames h = All-map (IsSole counts) (with_source ((p, b) ∷ [])) frames (All-weaker (IsSole counts) (λ r. IsSole counts (with_source ((p, b) ∷ []) r)) one_sole frames h)

-- A loop that changes each element in its turn
module _ {X : Type 0} (f : X → X) where
  at_set : (i : ℕ) (xs : List X) (r d : X) → i < length xs → r ≡ get_or (map f (take i xs) ++ drop i xs) i d → set (map f (take i xs) ++ drop i xs) i (f r) ≡ map f (take (suc i) xs) ++ drop (suc i) xs
  at_set i [] r d lt e = absurd (omega (arith, lt))
  at_set zero (x ∷ xs) r d lt e = ap (λ y. f y ∷ xs) e
  at_set (suc i) (x ∷ xs) r d lt e = ap (λ ys. f x ∷ ys) (at_set i xs r d (omega (arith, lt)) e)

  at_skip : (i : ℕ) (xs : List X) (r d : X) → i < length xs → r ≡ get_or (map f (take i xs) ++ drop i xs) i d → f r ≡ r → map f (take i xs) ++ drop i xs ≡ map f (take (suc i) xs) ++ drop (suc i) xs
  at_skip i [] r d lt e same = absurd (omega (arith, lt))
  at_skip zero (x ∷ xs) r d lt e same = ap (λ y. y ∷ xs) (sym e ∙ sym same ∙ ap f e)
  at_skip (suc i) (x ∷ xs) r d lt e same = ap (λ ys. f x ∷ ys) (at_skip i xs r d (omega (arith, lt)) e same)

  next_one : (i : ℕ) → suc i ≡ i + 1
  next_one i = omega arith

  pub mapped_step : (xs ys zs : List X) (i : ℕ) (r d v : X) → i < length xs → ys ≡ map f (take i xs) ++ drop i xs → r ≡ get_or ys i d → v ≡ f r → zs ≡ set ys i v → zs ≡ map f (take (i + 1) xs) ++ drop (i + 1) xs
  mapped_step xs ys zs i r d v lt is read made then =
      then ∙ (λ j. set (is j) i (made j)) ∙ at_set i xs r d lt (read ∙ ap (λ l. get_or l i d) is) ∙ ap (λ n. map f (take n xs) ++ drop n xs) (next_one i)

  pub mapped_skip : (xs ys zs : List X) (i : ℕ) (r d : X) → i < length xs → ys ≡ map f (take i xs) ++ drop i xs → r ≡ get_or ys i d → f r ≡ r → zs ≡ ys → zs ≡ map f (take (i + 1) xs) ++ drop (i + 1) xs
  mapped_skip xs ys zs i r d lt is read same then = then ∙ is ∙ at_skip i xs r d lt (read ∙ ap (λ l. get_or l i d) is) same ∙ ap (λ n. map f (take n xs) ++ drop n xs) (next_one i)

  pub still_there : (i : ℕ) (xs ys : List X) (d : X) → ys ≡ map f (take i xs) ++ drop i xs → get_or ys i d ≡ get_or xs i d
  still_there i xs ys d is = ap (λ l. get_or l i d) is ∙ there i xs
    where
      there : (i : ℕ) (xs : List X) → get_or (map f (take i xs) ++ drop i xs) i d ≡ get_or xs i d
      there zero xs = refl
      there (suc i) [] = refl
      there (suc i) (x ∷ xs) = there i xs

pub with_this : (p : ℕ) (b : List ℕ) (r : ℕ × CountedPage) → r.0 ≡ p → with_source ((p, b) ∷ []) r ≡ refilled r b
with_this p b r same = ap (λ t. option_map_or (refilled r) (cond t (Some b) None) r) (unsigned_tied r.0 p ∙ eq-eqb r.0 p same)

pub without_this : (p : ℕ) (b : List ℕ) (r : ℕ × CountedPage) → r.0 ≢ p → with_source ((p, b) ∷ []) r ≡ r
without_this p b r other = ap (λ t. option_map_or (refilled r) (cond t (Some b) None) r) (unsigned_tied r.0 p ∙ ne_eqb r.0 p other)

whole_write : (old b : List ℕ) → length old ≡ 4096 → length b ≡ 4096 → bytes_after_write old 0 b ≡ b
whole_write old b long whole = ap (λ l. b ++ l) (drop_all (0 + length b) old (omega (arith, long, whole))) ∙ append-nil b

-- the page of a place is written
pub written_page : (counts : PageCounts) (xs ys zs : Refs) (i : ℕ) (r d : ℕ × CountedPage) (frame : CountedPage) (p : ℕ) (b : List ℕ) → length b ≡ 4096 → AreSole counts xs → i < length xs →
    ys ≡ map (with_source ((p, b) ∷ [])) (take i xs) ++ drop i xs → r ≡ get_or ys i d → r.0 ≡ p → frame ≡ record { number = r.1.number; body = record { bytes = bytes_after_write r.1.body.bytes 0 b; own = true } } →
    zs ≡ set ys i (r.0, frame) → zs ≡ map (with_source ((p, b) ∷ [])) (take (i + 1) xs) ++ drop (i + 1) xs
written_page counts xs ys zs i r d frame p b whole sole lt is read here made then =
    mapped_step (with_source ((p, b) ∷ [])) xs ys zs i r d (r.0, frame) lt is read value then
  where
    at : IsSole counts r
    at = subst (λ (x : ℕ × CountedPage). IsSole counts x) (sym (read ∙ still_there (with_source ((p, b) ∷ [])) i xs ys d is)) (sole i d lt)

    same : frame ≡ (refilled r b).1
    same = made ∙ (λ j. record { number = r.1.number; body = record { bytes = whole_write r.1.body.bytes b at.whole whole j; own = true } })

    value : (r.0, frame) ≡ with_source ((p, b) ∷ []) r
    value = (λ j. (r.0, same j)) ∙ sym (with_this p b r here)

pub own_body : (counts : PageCounts) (xs ys : Refs) (i : ℕ) (r d : ℕ × CountedPage) (p : ℕ) (b : List ℕ) → AreSole counts xs → i < length xs → ys ≡ map (with_source ((p, b) ∷ [])) (take i xs) ++ drop i xs → r ≡ get_or ys i d → r.1.body.own ≡ true
own_body counts xs ys i r d p b sole lt is read = ap (λ (x : ℕ × CountedPage). x.1.body.own) (read ∙ still_there (with_source ((p, b) ∷ [])) i xs ys d is) ∙ (sole i d lt).own

-- A loop from the end of a list to its front
module _ {X : Type 0} where
  pub back_step : (xs : List X) (done : ℕ) (r d : X) → done < length xs → r ≡ get_or xs (length xs - 1 - done) d → drop (length xs - (done + 1)) xs ≡ r ∷ drop (length xs - done) xs
  back_step xs done r d lt is =
      ap (λ n. drop n xs) (here (length xs) done lt)
      ∙ drop_more xs (length xs - 1 - done) d (omega (arith, lt))
      ∙ (λ i. sym is i ∷ drop (next (length xs) done lt i) xs)
    where
      here : (n done : ℕ) → done < n → n - (done + 1) ≡ n - 1 - done
      here n done lt = omega (arith, lt)

      next : (n done : ℕ) → done < n → n - 1 - done + 1 ≡ n - done
      next n done lt = omega (arith, lt)

  -- the element that was taken from the end
  pub popped_is : (xs cur rest : List X) (done : ℕ) (r : X) → done < length xs → cur ≡ take (length xs - done) xs → cur ≡ rest ++ r ∷ [] → rest ≡ take (length xs - (done + 1)) xs → r ≡ get_or xs (length xs - 1 - done) r
  popped_is xs cur rest done r lt was parts left =
      sym (get_or-append_right rest (r ∷ []) (length xs - 1 - done) (length xs - 1 - done) r long (omega arith) ∙ ap (λ n. get_or (r ∷ []) n r) (zero_is (length xs - 1 - done)))
      ∙ ap (λ l. get_or l (length xs - 1 - done) r) (sym parts ∙ was)
      ∙ get_or-take (length xs - done) xs (length xs - 1 - done) r (omega (arith, lt))
    where
      long : length rest ≡ length xs - 1 - done
      long = omega (arith, ap length left, length-take (length xs - (done + 1)) xs, lt)

      zero_is : (n : ℕ) → n - n ≡ 0
      zero_is n = omega arith

pub sources_step : (old cur new : Refs) (p : ℕ) (b : List ℕ) (before after : Sources) → cur ≡ map (with_source before) old → new ≡ map (with_source ((p, b) ∷ [])) cur → after ≡ (p, b) ∷ before → new ≡ map (with_source after) old
sources_step old cur new p b before after was written more =
    written ∙ ap (λ (rs : Refs). map (with_source ((p, b) ∷ [])) rs) was ∙ more_sources p b before old ∙ ap (λ (s : Sources). map (with_source s) old) (sym more)

pub copied_step : (own old cur new : Refs) (done : ℕ) (r : ℕ × CountedPage) (b : List ℕ) → done < length own → r ≡ get_or own (length own - 1 - done) r → b ≡ r.1.body.bytes → cur ≡ map (with_source (bytes_of (drop (length own - done) own))) old →
    new ≡ map (with_source ((r.0, b) ∷ [])) cur → new ≡ map (with_source (bytes_of (drop (length own - (done + 1)) own))) old
copied_step own old cur new done r b lt is same was written =
    sources_step old cur new r.0 b _ (bytes_of (drop (length own - (done + 1)) own)) was written (ap bytes_of (back_step own done r r lt is) ∙ (λ i. (r.0, sym same i) ∷ bytes_of (drop (length own - done) own)))

pub files_step : (files : List (List ℕ)) (wants : List (ℕ × Want)) (done : ℕ) (w d : ℕ × Want) → done < length wants → w ≡ get_or wants (length wants - 1 - done) d →
    file_sources files (drop (length wants - (done + 1)) wants) ≡ file_source files w.0 w.1 ++ file_sources files (drop (length wants - done) wants)
files_step files wants done w d lt is = ap (file_sources files) (back_step wants done w d lt is)

pub none_yet : {X : Type 0} (xs : List X) → drop (length xs - 0) xs ≡ []
none_yet xs = drop_all (length xs - 0) xs (omega arith)

pub sole_so : (counts next : PageCounts) (p : ℕ) (b : List ℕ) → length b ≡ 4096 → (frames new : Refs) → AreSole counts frames → next ≡ counts → new ≡ map (with_source ((p, b) ∷ [])) frames → AreSole next new
sole_so counts next p b whole frames new h same written = subst (λ (x : PageCounts × Refs). AreSole x.0 x.1) (λ i. (sym same i, sym written i)) (still_sole counts p b whole frames h)

pub file_step : (shelf : List (List ℕ)) (wants : List (ℕ × Want)) (done : ℕ) (w d : ℕ × Want) (file index : ℕ) (b : List ℕ) → done < length wants → w ≡ get_or wants (length wants - 1 - done) d → file_wanted w.1 ≡ Some (file, index) → b ≡ file_page shelf file index →
    file_sources shelf (drop (length wants - (done + 1)) wants) ≡ (w.0, b) ∷ file_sources shelf (drop (length wants - done) wants)
file_step shelf wants done w d file index b lt is wanted same =
    files_step shelf wants done w d lt is
    ∙ ap (λ (o : Option (ℕ × ℕ)). option_map_or (λ (f : ℕ × ℕ). (w.0, file_page shelf f.0 f.1) ∷ []) o [] ++ file_sources shelf (drop (length wants - done) wants)) wanted
    ∙ (λ i. (w.0, sym same i) ∷ file_sources shelf (drop (length wants - done) wants))

pub no_file_step : (shelf : List (List ℕ)) (wants : List (ℕ × Want)) (done : ℕ) (w d : ℕ × Want) → done < length wants → w ≡ get_or wants (length wants - 1 - done) d → file_wanted w.1 ≡ None →
    file_sources shelf (drop (length wants - (done + 1)) wants) ≡ file_sources shelf (drop (length wants - done) wants)
no_file_step shelf wants done w d lt is wanted =
    files_step shelf wants done w d lt is
    ∙ ap (λ (o : Option (ℕ × ℕ)). option_map_or (λ (f : ℕ × ℕ). (w.0, file_page shelf f.0 f.1) ∷ []) o [] ++ file_sources shelf (drop (length wants - done) wants)) wanted

pub same_sources : (old cur new : Refs) (before after : Sources) → cur ≡ map (with_source before) old → new ≡ cur → after ≡ before → new ≡ map (with_source after) old
same_sources old cur new before after was same e = same ∙ was ∙ ap (λ (s : Sources). map (with_source s) old) (sym e)

pub sole_same : (counts next : PageCounts) (frames new : Refs) → AreSole counts frames → next ≡ counts → new ≡ frames → AreSole next new
sole_same counts next frames new h same e = subst (λ (x : PageCounts × Refs). AreSole x.0 x.1) (λ i. (sym same i, sym e i)) h
