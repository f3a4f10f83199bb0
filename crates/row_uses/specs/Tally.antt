-- A small plan for tests: a book of pairs of a thread and a number, to which a hold adds at most one.
use Rattle.std.specs.Prelude.{ℕ, ◌≤◌, ⊤, false, []}
use Rattle.std.specs.Global.{Vec}
use Rattle.row_table.specs.Plan.{Meaning, IsLawful, HasGrown}

abbrev pub Notes : Type 0
Notes = Vec (ℕ × ℕ)

abbrev pub tally : Meaning ℕ Notes (ℕ × ℕ)
tally = record {
  journal = λ b. b.items;
  thread = λ e. e.0;
  free = λ _. [];
  limbo = λ _. [];
  next_generation = λ _. 2;
  agrees = λ _ _ _ _. ⊤;
  is_blank = λ _. ⊤;
  may_follow = λ _ a b. (2 ≤ 2) × HasGrown a.items b.items;
  same_fixed = λ _ _. ⊤;
  shows_limbo = λ _. false;
}

pub lawful : IsLawful tally
lawful = record {
  keeps_agreement = λ _ _ _ _ _ _ _ _ a. a;
  grows = λ _ _ _ f. f.1;
  rises = λ _ _ _ f. f.0;
  keeps_fixed = λ _ _ _ _. tt;
  fixed_same = λ _. tt;
  fixed_back = λ _ _ _. tt;
  fixed_on = λ _ _ _ _ _. tt;
}
