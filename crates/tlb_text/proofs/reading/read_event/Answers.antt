use Rattle.std.proofs.Common.{refl, sym, ◌∙◌}
use Rattle.std.proofs.lemmas.Bool.{false≢true}
use Rattle.tlb_text.proofs.Spelled.{none_named, none_read, found_whole, found_longer}
use Rattle.tlb_text.proofs.reading.read_event.Goals as goal

pub returns-in_default-event_name-clause-none : goal.returns-in_default-event_name-clause-none
returns-in_default-event_name-clause-none c =
    none_named (record { cpus = c.args.counts.cpus; frames = c.args.counts.frames }) (record { cpus = c.requires.few; frames = c.requires.some })
    c.args.line.now c.in-Some.word.now c.next_word.new.self (sym c.of-words.ensures ∙ c.in-Some.ensures.word) c.in_default-event_name.ensures.none

pub returns-in_default-next_event-clause-none : goal.returns-in_default-next_event-clause-none
returns-in_default-next_event-clause-none c =
    none_read (record { cpus = c.args.counts.cpus; frames = c.args.counts.frames }) (record { cpus = c.requires.few; frames = c.requires.some })
    c.args.line.now c.in-Some.word.now c.next_word.new.self (sym c.of-words.ensures ∙ c.in-Some.ensures.word)
    c.in-Some-event_name.name c.in-Some-event_name.ensures.found c.in_default-next_event.ensures.none

pub returns-then-is_done-clause-found : goal.returns-then-is_done-clause-found
returns-then-is_done-clause-found c =
    let found = c.in-Some-next_event.ensures.found in (
      found.0,
      found_whole (record { cpus = c.args.counts.cpus; frames = c.args.counts.frames }) (record { cpus = c.requires.few; frames = c.requires.some })
          c.args.line.now c.in-Some.word.now c.next_word.new.self (sym c.of-words.ensures ∙ c.in-Some.ensures.word)
          c.in-Some-event_name.name c.in-Some-event_name.ensures.found c.in-Some-next_event.event c.next_event.new.words found.1 (c.if-is_done.ensures.0 refl),
    )

pub returns-else-is_done-clause-none : goal.returns-else-is_done-clause-none
returns-else-is_done-clause-none c =
    let found = c.in-Some-next_event.ensures.found in
    found_longer (record { cpus = c.args.counts.cpus; frames = c.args.counts.frames }) (record { cpus = c.requires.few; frames = c.requires.some })
    c.args.line.now c.in-Some.word.now c.next_word.new.self (sym c.of-words.ensures ∙ c.in-Some.ensures.word)
    c.in-Some-event_name.name c.in-Some-event_name.ensures.found c.in-Some-next_event.event c.next_event.new.words found.1
    (λ done. false≢true (c.if-is_done.ensures.1 done))
