-- The names before the place where the loop stands were tried, and each name stands at a place of the table.
use Rattle.std.proofs.Common.{◌≡◌, ◌≢◌, ℕ, ◌+◌, ◌<◌, ◌≤◌, ltb, true, List, length, get_or, refl, sym, ap, ◌∙◌, subst, ⊎_elim, arith, false}
use Rattle.std.specs.Prelude.{◌↔◌, IsTrue}
use Rattle.std.proofs.lemmas.Bool.{false≢true, ltb-true, cases_lt}
use Rattle.history_lines.specs.declared.reply_names.ReplyName.{ReplyName}
use Rattle.history_lines.specs.declared.reply_names.ReplyName.TheVariants as name
use Rattle.history_lines.specs.declared.reply_names.TheConstants.{NAMES}
use Rattle.history_lines.specs.ReplyNames.{name_word}
use Rattle.history_lines.proofs.reply_names.reply_name.Goals as goal

differs : (word tested other : List ℕ) → (IsTrue false ↔ (word ≡ tested)) → tested ≡ other → word ≢ other
differs word tested other apart same are = false≢true (apart.1 (are ∙ sym same))

abbrev named : List ReplyName → ℕ → List ℕ
named names k = name_word (get_or names k name.Ok)

one_more : (word : List ℕ) (names : List ReplyName) (index : ℕ) → ((k : ℕ) → k < index → word ≢ named names k) → word ≢ named names index → (k : ℕ) → k < index + 1 → word ≢ named names k
one_more word names index before here k below are =
    ⊎_elim (λ (less : k < index). before k less are) (λ (past : index ≤ k). let same : k ≡ index = omega arith in here (are ∙ ap (λ i. named names i) same)) (cases_lt k index)

pub loop-name-init : goal.loop-name-init
loop-name-init c = λ k below are. omega (arith, below)

pub loop-name-preserved : goal.loop-name-preserved
loop-name-preserved c =
    let index : ℕ = c.loop-name.name-index in
    let is : c.word_of.result.now ≡ named NAMES index = cc (c.word_of.ensures, c.as_slice-name-items.ensures) in
    one_more c.args.word.now NAMES index c.loop-name.invariant (differs c.args.word.now c.word_of.result.now (named NAMES index) c.if-same_word.ensures is)

pub returns-clause-none : goal.returns-clause-none
returns-clause-none c = go
  where
    all : length NAMES ≤ c.loop-name.name-index
    all = subst (λ (names : List ReplyName). length names ≤ c.loop-name.name-index) c.as_slice-name-items.ensures c.loop-name-test.false

    tried : (k : ℕ) → ltb k (length NAMES) ≡ true → c.args.word.now ≢ named NAMES k
    tried k below = c.loop-name.invariant k (omega (arith, all, ltb-true k (length NAMES) below))

    go : (n : ReplyName) → c.args.word.now ≢ name_word n
    go name.Ok = tried 0 refl
    go name.At = tried 1 refl
    go name.Bytes = tried 2 refl
    go name.Space = tried 3 refl
    go name.Moved = tried 4 refl
    go name.Done = tried 5 refl
    go name.Undone = tried 6 refl
    go name.Einval = tried 7 refl
    go name.NoSpace = tried 8 refl
    go name.NoSpaces = tried 9 refl
    go name.NoRoom = tried 10 refl
    go name.Exists = tried 11 refl
    go name.Hole = tried 12 refl
    go name.Segv = tried 13 refl
    go name.Denied = tried 14 refl
    go name.Bus = tried 15 refl
    go name.NoTables = tried 16 refl
    go name.NoFrames = tried 17 refl
    go name.NoSwap = tried 18 refl
