-- Room for what a table is closed into.
--     IsRoom      empty vectors with room for the words, the epoch words and the rows
--     HasRooms      what a table with one slot keeps there
use Rattle.std.specs.Prelude.{◌≡◌, ◌≤◌, []}
use Rattle.std.specs.Vec.{vec_capacity}
use mathlib.Core.Option.{some}
use lib.ListN.{get_elem?}
use Rattle.atomic_table.specs.Table.{State}
use Rattle.row_layout.specs.declared.places.Layout.{Layout}
use Rattle.row_layout.specs.Places.{word_count}
use Rattle.row_table.specs.declared.rooms.Rooms.{Rooms}

pub record IsRoom {R : Type 0} (k : Layout) (x : Rooms R) : Type 0 where
  pub words : x.words.items ≡ []
  pub epochs : x.epochs.items ≡ []
  pub rows : x.rows.items ≡ []
  pub word_room : word_count k ≤ vec_capacity x.words
  pub epoch_room : k.passes ≤ vec_capacity x.epochs
  pub row_room : k.rows ≤ vec_capacity x.rows

abbrev pub HasRooms : {R : Type 0} → Layout → State (Rooms R) (Unit {0}) → Type 0
HasRooms {R} k s = (x : Rooms R) × (get_elem? s.homes 0 ≡ some (some x)) × IsRoom k x
