-- The first words of event lines.
--     name_word      the word of a name
use Rattle.std.specs.Prelude.{ℕ, List, codes}
use Rattle.tlb_text.specs.declared.names.EventName.{EventName}
use Rattle.tlb_text.specs.declared.names.EventName.TheVariants.{Map, Unmap, Fill, Reach, Drop, Ack, Free}

abbrev pub name_word : EventName → List ℕ
name_word Map = codes "map"
name_word Unmap = codes "unmap"
name_word Fill = codes "fill"
name_word Reach = codes "reach"
name_word Drop = codes "drop"
name_word Ack = codes "ack"
name_word Free = codes "free"
