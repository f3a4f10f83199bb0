-- Runs of like pages, as callers are told of them.
--     IsRunOf      what is told of these pages
--     IsRunFrom      the first longest run that has a page from a page on
use Rattle.std.specs.Prelude.{◌≡◌, ℕ, Some}
use Rattle.std.specs.Option.{option_map}
use Rattle.std.specs.FinMap.{get}
use Rattle.page_map.specs.Cell.{AddressSpace, backing_of, status_of}
use Rattle.plain_counts.specs.declared.cut.Pages.{Pages}
use Rattle.space_cells.specs.Longest.{IsLongestFrom}
use Rattle.mm_model.specs.declared.runs.Run.{Run}

pub record IsRunOf (cells : AddressSpace) (pages : Pages) (run : Run) : Type 0 where
  pub first : run.first ≡ pages.first
  pub count : run.count ≡ pages.count
  pub status : run.status ≡ status_of (get cells pages.first)
  pub origin : option_map backing_of (get cells pages.first) ≡ Some run.origin

pub record IsRunFrom (cells : AddressSpace) (page : ℕ) (run : Run) : Type 0 where
  pub longest : IsLongestFrom cells page run.first run.count
  pub status : run.status ≡ status_of (get cells run.first)
  pub origin : option_map backing_of (get cells run.first) ≡ Some run.origin
