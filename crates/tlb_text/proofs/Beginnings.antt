-- With which lines a text of events begins, and with which it doesn't.
use Rattle.std.proofs.Common.{◌≡◌, ◌≢◌, ◌<◌, ◌^◌, ℕ, List, [], ◌∷◌, ◌++◌, map, codes, refl, sym, ◌∙◌, ap, subst, arith}
use Rattle.std.specs.List.{All}
use Rattle.std.proofs.lemmas.List.{append-nil, append_assoc}
use Rattle.std.proofs.lemmas.List.Elements.{All-nil, All-head, All-tail}
use Rattle.text_words.specs.Spelling.{number}
use Rattle.text_words.specs.Layout.{IsWord, joined, words_of}
use Rattle.text_words.specs.Grammar.{Begins}
use Rattle.text_words.proofs.OneValue.{number_injective}
use Rattle.mm_script.specs.CallLine.{IsWithin}
use Rattle.mm_script.specs.ScriptText.{limit_words}
use Rattle.mm_script.proofs.Beginnings.{limit_words_are, frames_IsWord}
use Rattle.mm_script.proofs.OneCall.{HasNo_letters}
use Rattle.tlb_core.specs.declared.events.TlbEvent.{TlbEvent}
use Rattle.tlb_core.specs.Answers.{Sizes, IsEvent}
use Rattle.tlb_text.specs.EventText.{event_line, event_lines, AreSizes, AreEventLines}

abbrev pub cpus_line : ℕ → List ℕ
cpus_line n = joined (limit_words (codes "cpus") n)

abbrev pub frames_line : ℕ → List ℕ
frames_line n = joined (limit_words (codes "frames") n)

sizes_of : ℕ → ℕ → Sizes
sizes_of cpus frames = record { cpus = cpus; frames = frames }

pub begins_none : Begins AreEventLines []
begins_none = record {
  more = cpus_line 1 ∷ frames_line 1 ∷ [];
  goes_on = record {
    sizes = record { cpus = 1; frames = 1 };
    list = [];
    are_sizes = record { cpus = (omega arith, omega arith); frames = (omega arith, omega arith) };
    are_events = All-nil (IsEvent (record { cpus = 1; frames = 1 }));
    are = refl;
  };
}

pub begins_cpus : (n : ℕ) → IsWithin 1 8 n → Begins AreEventLines (cpus_line n ∷ [])
begins_cpus n within = record {
  more = frames_line 1 ∷ [];
  goes_on = record {
    sizes = record { cpus = n; frames = 1 };
    list = [];
    are_sizes = record { cpus = within; frames = (omega arith, omega arith) };
    are_events = All-nil (IsEvent (record { cpus = n; frames = 1 }));
    are = refl;
  };
}

pub begins_events : (sizes : Sizes) (list : List TlbEvent) → AreSizes sizes → All (IsEvent sizes) list → Begins AreEventLines (event_lines sizes list)
begins_events sizes list are_sizes are_events = record {
  more = [];
  goes_on = record { sizes = sizes; list = list; are_sizes = are_sizes; are_events = are_events; are = append-nil (event_lines sizes list) };
}

is_within : (line name : List ℕ) (n low high : ℕ) → IsWord name → n < 2 ^ 64 → IsWithin low high n → ((m : ℕ) → IsWithin low high m → words_of line ≢ limit_words name m) → line ≢ joined (limit_words name n)
is_within line name n low high is_word fits within none is = none n within (ap words_of is ∙ limit_words_are name n is_word fits)

pub no_cpus : (line : List ℕ) → ((n : ℕ) → IsWithin 1 8 n → words_of line ≢ limit_words (codes "cpus") n) → ¬ (Begins AreEventLines ([] ++ line ∷ []))
no_cpus line none b =
    let g = b.goes_on in
    let within = g.are_sizes.cpus in
    let are = g.are in
    is_within line (codes "cpus") g.sizes.cpus 1 8 (HasNo_letters 32 (codes "cpus") (omega arith) refl) (omega (arith, within.1)) within none (cc are)

pub no_frames : (first line : List ℕ) → ((n : ℕ) → IsWithin 1 64 n → words_of line ≢ limit_words (codes "frames") n) → ¬ (Begins AreEventLines ((first ∷ []) ++ line ∷ []))
no_frames first line none b =
    let g = b.goes_on in
    let within = g.are_sizes.frames in
    let are = g.are in
    is_within line (codes "frames") g.sizes.frames 1 64 frames_IsWord (omega (arith, within.1)) within none (cc are)

-- lines that are not all
pub wants_cpus : ¬ (AreEventLines [])
wants_cpus g = let are = g.are in cc are

pub wants_frames : (first : List ℕ) → ¬ (AreEventLines (first ∷ []))
wants_frames first g = let are = g.are in cc are

joined_line : (name : List ℕ) (m n : ℕ) → IsWord name → m < 2 ^ 64 → n < 2 ^ 64 → joined (limit_words name m) ≡ joined (limit_words name n) → m ≡ n
joined_line name m n is_word m_fits n_fits same =
    let words : limit_words name m ≡ limit_words name n = sym (limit_words_are name m is_word m_fits) ∙ ap words_of same ∙ limit_words_are name n is_word n_fits in
    let numbers : number m ≡ number n = cc words in
    number_injective m n m_fits n_fits numbers

same_sizes : (a b : Sizes) → a.cpus ≡ b.cpus → a.frames ≡ b.frames → a ≡ b
same_sizes a b cpus frames = λ i. record { cpus = cpus i; frames = frames i }

-- the line behind those of some events is that of an event
next_event : (P : TlbEvent → Type 0) (list whole : List TlbEvent) (line : List ℕ) (more : List (List ℕ)) → All P whole →
    map event_line list ++ line ∷ more ≡ map event_line whole → (e : TlbEvent) × P e × (line ≡ event_line e)
next_event P [] [] line more all same = absurd (cc)
next_event P [] (e ∷ whole) line more all same = (e, All-head P e whole all, cc)
next_event P (x ∷ list) [] line more all same = absurd (cc)
next_event P (x ∷ list) (e ∷ whole) line more all same = next_event P list whole line more (All-tail P e whole all) cc

pub no_next_event : (sizes : Sizes) (list : List TlbEvent) (line : List ℕ) → AreSizes sizes → ((e : TlbEvent) → IsEvent sizes e → line ≢ event_line e) →
    ¬ (Begins AreEventLines (event_lines sizes list ++ line ∷ []))
no_next_event sizes list line are_sizes none b =
    let g = b.goes_on in
    let whole : cpus_line sizes.cpus ∷ frames_line sizes.frames ∷ (map event_line list ++ line ∷ b.more) ≡ cpus_line g.sizes.cpus ∷ frames_line g.sizes.frames ∷ map event_line g.list
    = ap (λ ls. cpus_line sizes.cpus ∷ frames_line sizes.frames ∷ ls) (sym (append_assoc (map event_line list) (line ∷ []) b.more)) ∙ g.are in
    let one : cpus_line sizes.cpus ≡ cpus_line g.sizes.cpus = cc whole in
    let two : frames_line sizes.frames ≡ frames_line g.sizes.frames = cc whole in
    let rest : map event_line list ++ line ∷ b.more ≡ map event_line g.list = cc whole in
    let cpus : sizes.cpus ≡ g.sizes.cpus = joined_line (codes "cpus") sizes.cpus g.sizes.cpus (HasNo_letters 32 (codes "cpus") (omega arith) refl)
    (omega (arith, are_sizes.cpus.1)) (omega (arith, g.are_sizes.cpus.1)) one in
    let frames : sizes.frames ≡ g.sizes.frames = joined_line (codes "frames") sizes.frames g.sizes.frames frames_IsWord
    (omega (arith, are_sizes.frames.1)) (omega (arith, g.are_sizes.frames.1)) two in
    let found = next_event (IsEvent sizes) list g.list line b.more (subst (λ s. All (IsEvent s) g.list) (sym (same_sizes sizes g.sizes cpus frames)) g.are_events) rest in
    none found.0 found.1 found.2
