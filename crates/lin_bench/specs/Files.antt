-- The files of a bench script.
use Rattle.std.specs.Prelude.{ℕ, zero, suc, ◌+◌, ◌==◌, if◌then◌else◌, List, [], ◌∷◌, ◌++◌, codes, reverse, slice_get, slice_index}
use Rattle.std.specs.Prelude.{Option, Some, None}
use Rattle.std.specs.Fmt.{decimal}
use Rattle.std.specs.Option.{option_map_or}
use Rattle.std.specs.Str.{bytes_eq}
use Rattle.lin_bench.specs.declared.files.FileText.{FileText}
use Rattle.lin_bench.specs.declared.files.ScriptFile.{ScriptFile}
use Rattle.lin_bench.specs.declared.files.Source.{Source}
use Rattle.lin_bench.specs.declared.parameters.GivenParameter.{GivenParameter}
use Rattle.lin_bench.specs.declared.place.LinePlace.{LinePlace}

-- a script: the name of its file, its text, the files that it includes, and the parameters that are given
-- with it
pub record SourceData : Type 0 where
  pub name : List ℕ
  pub text : List ℕ
  pub files : List ScriptFile
  pub given : List GivenParameter

abbrev pub source_data : Source → SourceData
source_data s = record {
  name = s.name.now;
  text = s.text.now;
  files = s.files.now;
  given = s.given.now;
}

-- a text alone, from standard input
abbrev pub source_of : List ℕ → SourceData
source_of text = record { name = []; text = text; files = []; given = [] }

-- ---- names
-- the folder of a file: its name up to the last `/`
abbrev pub from_slash : List ℕ → List ℕ
from_slash [] = []
from_slash (b ∷ bs) = if b == 47 then b ∷ bs else from_slash bs

abbrev pub folder : List ℕ → List ℕ
folder name = reverse (from_slash (reverse name))

-- the name of a file that a line of another one includes: a relative name starts at that one's folder
abbrev pub included_name : List ℕ → List ℕ → List ℕ
included_name includer name = if slice_index name 0 == 47 then name else folder includer ++ name

-- the file with a number, which is 0 for the script's own one, of this name
abbrev pub file_name : List ℕ → List ScriptFile → ℕ → List ℕ
file_name script fs zero = script
file_name script fs (suc i) = option_map_or (λ (f : ScriptFile). f.name) (slice_get fs i) script

-- the number and the text of the first file with a name, by the number of the first one of these files
abbrev pub find_from : ℕ → List ScriptFile → List ℕ → Option (ℕ × FileText)
find_from n [] name = None
find_from n (f ∷ fs) name =
    if bytes_eq f.name name then Some (n, f.text) else find_from (n + 1) fs name

abbrev pub find_file : List ScriptFile → List ℕ → Option (ℕ × FileText)
find_file fs name = find_from 1 fs name

-- the number of a line, in an included file after its name
abbrev pub file_mark : List ScriptFile → ℕ → List ℕ
file_mark fs zero = []
file_mark fs (suc i) = file_name [] fs (suc i) ++ codes ":"

abbrev pub place_number_text : List ScriptFile → LinePlace → List ℕ
place_number_text fs p = file_mark fs p.file ++ decimal p.line
