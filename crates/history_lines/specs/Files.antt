-- Lines of files before the entries.
--     IsNoFile      a line that is no file's
--     IsNextFile      a line that is a file's, which goes onto a shelf
--     NoFileHere      why no file's line goes on behind files and entries
use Rattle.std.specs.Prelude.{◌≡◌, ◌≢◌, ℕ, ◌<◌, ◌≤◌, List, [], ◌∷◌, ◌++◌, length}
use Rattle.corten_base.specs.declared.calls.Entry.{Entry}
use Rattle.mm_script.specs.ScriptText.{file_line, IsFile}

abbrev pub IsNoFile : List ℕ → Type 0
IsNoFile line = (bytes : List ℕ) → IsFile bytes → line ≢ file_line bytes

-- there is room for one more, and no entry yet
pub record IsNextFile (line : List ℕ) (entries : List Entry) (files files_now : List (List ℕ)) : Type 0 where
  pub bytes : List ℕ
  pub is_file : IsFile bytes
  pub is_line : line ≡ file_line bytes
  pub none : entries ≡ []
  pub room : length files < 16
  pub after : files_now ≡ files ++ bytes ∷ []

-- there are as many files as may be, or there is an entry, or the line is no file's
pub data NoFileHere (files : List (List ℕ)) (entries : List Entry) (line : List ℕ) : Type 0 where
  full : 16 ≤ length files → NoFileHere files entries line
  late : entries ≢ [] → NoFileHere files entries line
  other : IsNoFile line → NoFileHere files entries line
