-- What is kept where frames are taken for some pages.
use Rattle.std.proofs.Common.{◌≡◌, ℕ, suc, ◌≤◌, List, [], ◌∷◌, ◌++◌, take, drop, length, sym, ap, ◌∙◌, refl, subst, arith}
use Rattle.std.specs.Prelude.{map}
use Rattle.std.specs.List.{All}
use Rattle.std.proofs.lemmas.List.{length-replicate, take-append-le, take_all}
use Rattle.std.proofs.lemmas.List.Elements.{All-weaker, All-nil, All-cons, All-head, All-tail}
use Rattle.corten_base.specs.Body.{PageBody}
use Rattle.corten_base.specs.Bytes.{zeros}
use Rattle.counted_pages.specs.Pages.{PageCounts}
use Rattle.shares.specs.Counts.{count_of}
use Rattle.machine_plan.specs.Kits.{Refs, AreBacked}
use Rattle.machine_plan.specs.Uses.{shown_refs}
use Rattle.book.specs.Balance.{times, AreHeld}
use Rattle.book.specs.Granting.{Takes}
use Rattle.machine_plan.specs.declared.kit.Want.{Want}
use Rattle.book.specs.Filling.{with_source, bytes_of, file_sources, IsFresh, IsSole, AreSole}
use Rattle.book.specs.Pieces.{GivesBack}
use Rattle.book.specs.Taking.{takes_frame, wanting}
use Rattle.book.proofs.Overwritten.{times_first, one_itself}
use Rattle.book.proofs.Released.{Backed}

long_zeros : length zeros ≡ 4096
unfolding zeros
long_zeros = length-replicate {A = ℕ} 4096 0

pub fresh_sole : (counts : PageCounts) (frames : Refs) → All (IsFresh counts) frames → AreSole counts frames
fresh_sole counts frames h =
    All-weaker (IsFresh counts) (IsSole counts) (λ r f. record { own = ap (λ (b : PageBody). b.own) f.zero; whole = ap (λ (b : PageBody). length b.bytes) f.zero ∙ long_zeros; one = f.one }) frames h

module _ (old mid : PageCounts) (pages left : List ℕ) (taken : Refs) (takes : Takes old mid pages left taken) where
  pub still_held : (refs : Refs) → AreHeld old (shown_refs refs) → AreHeld mid (shown_refs refs)
  still_held refs held = record { each = λ n. omega (arith, held.each n, takes.balance.counts n, zero_more n) }
    where
      zero_more : (n : ℕ) → times n [] ≤ 0
      zero_more n = omega arith

  pub still_backed : (refs : Refs) → AreHeld old (shown_refs refs) → AreBacked old refs → AreBacked mid refs
  still_backed refs held backed = go refs (λ n. held.each n) backed
    where
      go : (refs : Refs) → ((n : ℕ) → times n (shown_refs refs) ≤ count_of old.counts n) → AreBacked old refs → AreBacked mid refs
      go [] fewer h = All-nil (Backed mid)
      go (r ∷ refs) fewer h =
          All-cons (Backed mid) r refs
          (λ shared. takes.spares r.1.number (omega (arith, fewer r.1.number, times_first r.1.number r refs, one_itself r.1.number)) (All-head (Backed old) r refs h shared))
          (go refs (λ n. omega (arith, fewer n, times_first n r refs)) (All-tail (Backed old) r refs h))

pub sole_at : (mid now : PageCounts) (frames more : Refs) → AreSole mid frames → now ≡ mid → more ≡ frames → AreSole now more
sole_at mid now frames more h same e = subst (λ (x : PageCounts × Refs). AreSole x.0 x.1) (λ i. (sym same i, sym e i)) h

pub backed_at : (mid now : PageCounts) (refs : Refs) → AreBacked mid refs → now ≡ mid → AreBacked now refs
backed_at mid now refs h same = subst (λ (x : PageCounts). AreBacked x refs) (sym same) h

pub held_at : (mid now : PageCounts) (refs : Refs) → AreHeld mid (shown_refs refs) → now ≡ mid → AreHeld now (shown_refs refs)
held_at mid now refs h same = subst (λ (x : PageCounts). AreHeld x (shown_refs refs)) (sym same) h

pub takes_at : (old mid : PageCounts) (wants given : List (ℕ × Want)) (taken : Refs) → given ≡ wants → Takes old mid (wanting (takes_frame old.counts) given) [] taken → Takes old mid (wanting (takes_frame old.counts) wants) [] taken
takes_at old mid wants given taken e h = subst (λ (ws : List (ℕ × Want)). Takes old mid (wanting (takes_frame old.counts) ws) [] taken) e h

pub gives_at : (mid now new : PageCounts) (refs left : Refs) → now ≡ mid → GivesBack now new refs left → GivesBack mid new refs left
gives_at mid now new refs left e h = subst (λ (x : PageCounts). GivesBack x new refs left) e h

-- the bytes come from files, then from frames, then from slots
pub in_turn : (files : List (List ℕ)) (wants given : List (ℕ × Want)) (own lent slots taken first second second' third third' last : Refs) → given ≡ wants → lent ≡ own → first ≡ taken →
    second ≡ map (with_source (file_sources files given)) first → second' ≡ second → third ≡ map (with_source (bytes_of lent)) second' → third' ≡ third → last ≡ map (with_source (bytes_of slots)) third' →
    last ≡ map (with_source (bytes_of slots)) (map (with_source (bytes_of own)) (map (with_source (file_sources files wants)) taken))
in_turn files wants given own lent slots taken first second second' third third' last e l a b b' d d' f =
    f ∙ ap (map (with_source (bytes_of slots))) (d' ∙ d ∙ (λ i. map (with_source (bytes_of (l i))) ((b' ∙ b ∙ (λ j. map (with_source (file_sources files (e j))) (a j))) i)))

-- a vector's elements after they were changed in place
pub back_in : {X : Type 0} (new old : List X) (n : ℕ) → length new ≡ n → take n (new ++ drop (length new) old) ≡ new
back_in new old n e = ap (λ m. take m (new ++ drop (length new) old)) (sym e) ∙ take-append-le (length new) new (drop (length new) old) (omega arith) ∙ take_all (length new) new (omega arith)

pub as_long : {X Y : Type 0} (f : X → Y) (xs : List X) (ys : List Y) → ys ≡ map f xs → length ys ≡ length xs
as_long {X} f xs ys e = ap length e ∙ go xs
  where
    go : (xs : List X) → length (map f xs) ≡ length xs
    go [] = refl
    go (x ∷ xs) = ap suc (go xs)
