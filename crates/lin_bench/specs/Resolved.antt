-- The lines of a bench script, with long lines, files, parameters and repetition resolved.
use Rattle.std.specs.Prelude.{ℕ, zero, suc, ◌+◌, ◌-◌, ◌==◌, ◌&&◌, ◌||◌, Bool, false, true, nat_le, nat_lt, if◌then◌else◌}
use Rattle.std.specs.Prelude.{List, [], ◌∷◌, ◌++◌, codes, drop, find, is_some, length, map, not, option_map, reverse, slice_index}
use Rattle.std.specs.Prelude.{Option, Some, None, Result, Ok, Err}
use Rattle.std.specs.List.{list_any, slice_split, take_while}
use Rattle.std.specs.Option.{option_map_or, option_or}
use Rattle.std.specs.Str.{bytes_eq}
use Rattle.lin_log.specs.Said.{is_comment, is_number}
use Rattle.lin_log.specs.declared.reason.Reason.TheVariants.{Takes}
use Rattle.lin_bench.specs.Fields.{◌>>=◌, all_fields, count_field, line_fields}
use Rattle.lin_bench.specs.LineWords.{fields_text}
use Rattle.lin_bench.specs.RuleLines.{is_name, is_name_sign}
use Rattle.lin_bench.specs.Files.{SourceData, file_name, find_file, included_name}
use Rattle.lin_bench.specs.Written.{Written, written_fields, written_lines}
use Rattle.lin_bench.specs.declared.files.FileText.{FileText}
use Rattle.lin_bench.specs.declared.files.FileText.TheVariants as texts
use Rattle.lin_bench.specs.declared.files.ScriptFile.{ScriptFile}
use Rattle.lin_bench.specs.declared.place.LinePlace.{LinePlace}
use Rattle.lin_bench.specs.declared.reason.Reason.{Reason}
use Rattle.lin_bench.specs.declared.reason.Reason.TheVariants.{Step, HashField, LongLine, NoName, NoParameter}
use Rattle.lin_bench.specs.declared.reason.Reason.TheVariants.{EndWithoutRepeat, RepeatForm, RepeatWithoutEnd}
use Rattle.lin_bench.specs.declared.reason.Reason.TheVariants.{SetForm, TooManyLines}
use Rattle.lin_bench.specs.declared.reason.Reason.TheVariants.{IncludeForm, IncludeDepth, Unread, LongFile}
use Rattle.lin_bench.specs.declared.parameters.GivenParameter.{GivenParameter}
use Rattle.lin_bench.specs.declared.parameters.Parameter.{Parameter}

-- ---- parameters
-- the name with which a text begins; empty where none does
abbrev pub first_name : List ℕ → List ℕ
first_name text = if is_number text then [] else take_while is_name_sign text

-- the text of a parameter: that which is given with the script, or else that of the lines before
abbrev pub text_given : List GivenParameter → List ℕ → Option (List ℕ)
text_given gs name =
    option_map (λ (g : GivenParameter). g.text.now) (find (λ (g : GivenParameter). bytes_eq g.name.now name) gs)

abbrev pub text_among : List Parameter → List ℕ → Option (List ℕ)
text_among ps name = option_map (λ (p : Parameter). p.text) (find (λ (p : Parameter). bytes_eq p.name name) ps)

abbrev pub text_of : List GivenParameter → List Parameter → List ℕ → Option (List ℕ)
text_of given sets name = option_or (text_given given name) (text_among sets name)

-- a line sets one: a later line changes it
abbrev pub with_parameter : List Parameter → List ℕ → List ℕ → List Parameter
with_parameter [] name text = record { name = name; text = text } ∷ []
with_parameter (p ∷ ps) name text =
    if bytes_eq p.name name then record { name = name; text = text } ∷ ps
    else p ∷ with_parameter ps name text

-- what stands for a piece of a field after `$`: the text of the parameter with whose name it begins, and
-- the rest of it; or `$` and the piece where it begins with no name
abbrev pub with_text : List ℕ → List ℕ → Option (List ℕ) → Result (List ℕ) Reason
with_text name rest None = Err (NoParameter name)
with_text name rest (Some text) = Ok (text ++ rest)

abbrev pub replaced_piece : List GivenParameter → List Parameter → List ℕ → Result (List ℕ) Reason
replaced_piece given sets piece =
    let name = first_name piece
    in if length name == 0 then Ok (36 ∷ piece)
    else with_text name (drop (length name) piece) (text_of given sets name)

abbrev pub replaced_pieces : List GivenParameter → List Parameter → List (List ℕ) → Result (List ℕ) Reason
replaced_pieces given sets [] = Ok []
replaced_pieces given sets (p ∷ ps) = do
  text ← replaced_piece given sets p
  rest ← replaced_pieces given sets ps
  Ok (text ++ rest)

-- a field with what stands for its parameters: its pieces are parted by `$`
abbrev pub replaced_after_first : List GivenParameter → List Parameter → List (List ℕ) → Result (List ℕ) Reason
replaced_after_first given sets [] = Ok []
replaced_after_first given sets (p ∷ ps) = replaced_pieces given sets ps >>= (λ rest. Ok (p ++ rest))

abbrev pub replaced_field : List GivenParameter → List Parameter → List ℕ → Result (List ℕ) Reason
replaced_field given sets f = replaced_after_first given sets (slice_split (λ b. b == 36) f)

abbrev pub replaced_fields : List GivenParameter → List Parameter → List (List ℕ) → Result (List (List ℕ)) Reason
replaced_fields given sets [] = Ok []
replaced_fields given sets (f ∷ fs) = do
  text ← replaced_field given sets f
  rest ← replaced_fields given sets fs
  Ok (text ∷ rest)

-- whether a parameter stands in a field
abbrev pub names_parameter : List ℕ → Bool
names_parameter f =
    list_any (λ p. nat_lt 0 (length (first_name p))) (drop 1 (slice_split (λ b. b == 36) f))

-- ---- a line as it is read
-- a line in which parameters were replaced isn't too long, and no text begins a comment
abbrev pub hash_or_text : Option (List ℕ) → List ℕ → Result (List ℕ) Reason
hash_or_text None text = Ok text
hash_or_text (Some f) text = Err (HashField f)

abbrev pub without_comments : List ℕ → Result (List ℕ) Reason
without_comments text = hash_or_text (find (is_comment true) (all_fields text)) text

abbrev pub within_length : List ℕ → Result (List ℕ) Reason
within_length text = if nat_le (length text) 65536 then without_comments text else Err LongLine

abbrev pub replaced_text : List GivenParameter → List Parameter → List (List ℕ) → Result (List ℕ) Reason
replaced_text given sets fs =
    replaced_fields given sets fs >>= (λ texts. within_length (fields_text texts))

-- the text of the line: as it is written where it is one line without parameters
abbrev pub alone_or_joined : List (List ℕ) → List (List ℕ) → List ℕ
alone_or_joined (l ∷ []) fs = l
alone_or_joined ls fs = fields_text fs

abbrev pub resolved_text : List GivenParameter → List Parameter → Written → Result (List ℕ) Reason
resolved_text given sets w =
    if list_any names_parameter (written_fields w) then replaced_text given sets (written_fields w)
    else Ok (alone_or_joined w.parts (written_fields w))

-- a line of a session, whose lines each stand alone: a reply of a log is as it is written
abbrev pub has_parameters : List ℕ → Bool
has_parameters line =
    not (slice_index line 0 == 62) && list_any names_parameter (line_fields line)

abbrev pub replaced_line : List Parameter → List ℕ → Result (List ℕ) Reason
replaced_line sets line =
    if has_parameters line then replaced_text [] sets (line_fields line) else Ok line

-- ---- what a line does while the script is read
-- the parameter that a line sets, by the fields after `set`
abbrev pub parameter_said : List (List ℕ) → Result Parameter Reason
parameter_said (name ∷ f ∷ fs) =
    if is_name name then Ok (record { name = name; text = fields_text (f ∷ fs) })
    else Err (NoName name)
parameter_said fs = Err SetForm

pub data Act : Type 0 where
  Say : (text : List ℕ) → Act
  SetParameter : (name text : List ℕ) → Act
  RepeatBlock : (times : ℕ) → Act
  EndBlock : Act
  IncludeFile : (name : List ℕ) → Act
  -- a bad line, and what becomes of the blocks: nothing, one begins, one ends
  BadLine : (why : Reason) → Act
  BadRepeat : (why : Reason) → Act
  BadEnd : (why : Reason) → Act

abbrev pub set_act : Result Parameter Reason → Act
set_act (Ok p) = SetParameter p.name p.text
set_act (Err why) = BadLine why

abbrev pub times_act : Result ℕ Reason → Act
times_act (Ok n) = RepeatBlock n
times_act (Err why) = BadRepeat why

abbrev pub repeat_act : List (List ℕ) → Act
repeat_act (f ∷ []) = times_act (count_field f)
repeat_act fs = BadRepeat RepeatForm

abbrev pub end_act : List (List ℕ) → Act
end_act [] = EndBlock
end_act fs = BadEnd (Step (Takes (codes "end") 0))

abbrev pub include_act : List (List ℕ) → Act
include_act [] = BadLine IncludeForm
include_act (f ∷ fs) = IncludeFile (fields_text (f ∷ fs))

abbrev pub act_of_fields : List ℕ → List (List ℕ) → Act
act_of_fields text [] = Say text
act_of_fields text (word ∷ fs) =
    if bytes_eq word (codes "set") then set_act (parameter_said fs)
    else if bytes_eq word (codes "repeat") then repeat_act fs
    else if bytes_eq word (codes "end") then end_act fs
    else if bytes_eq word (codes "include") then include_act fs
    else Say text

-- a line whose parameters can't be replaced begins or ends a block by its first field
abbrev pub bad_act : List (List ℕ) → Reason → Act
bad_act [] why = BadLine why
bad_act (word ∷ fs) why =
    if bytes_eq word (codes "repeat") then BadRepeat why
    else if bytes_eq word (codes "end") then BadEnd why
    else BadLine why

abbrev pub act_of_text : List (List ℕ) → Result (List ℕ) Reason → Act
act_of_text fs (Ok text) = act_of_fields text (line_fields text)
act_of_text fs (Err why) = bad_act fs why

abbrev pub act_of : List GivenParameter → List Parameter → Written → Act
act_of given sets w = act_of_text (written_fields w) (resolved_text given sets w)

-- ---- the files that are open
-- a block that is open: the number of its `repeat`, the lines from its first one on, and how many times
-- it is read again
pub record Block : Type 0 where
  pub number : ℕ
  pub lines : List Written
  pub again : ℕ

-- a file that is read: its number, the line of the script's own file that includes it, if it is included,
-- the blocks that are open, the innermost first, and the lines that are left
pub record OpenFile : Type 0 where
  pub file : ℕ
  pub by : Option ℕ
  pub blocks : List Block
  pub lines : List Written

-- the line of the script's own file by which line n of a file is read, and the place of line n, in no test
abbrev pub own_line : OpenFile → ℕ → ℕ
own_line f n = option_map_or (λ k. k) f.by n

abbrev pub place_in : OpenFile → ℕ → LinePlace
place_in f n = record { file = f.file; line = n; own = own_line f n; test = 0 }

-- a block begins
abbrev pub begun : OpenFile → ℕ → ℕ → OpenFile
begun f n again = record f { blocks = record { number = n; lines = f.lines; again = again } ∷ f.blocks }

-- the innermost block ends; its lines are read again, or those after it
abbrev pub blocks_after_end : List Block → List Block
blocks_after_end [] = []
blocks_after_end (b ∷ bs) = if b.again == 0 then bs else record b { again = b.again - 1 } ∷ bs

abbrev pub lines_after_end : List Block → List Written → List Written
lines_after_end [] ws = ws
lines_after_end (b ∷ bs) ws = if b.again == 0 then ws else b.lines

abbrev pub ended : OpenFile → OpenFile
ended f = record f { blocks = blocks_after_end f.blocks; lines = lines_after_end f.blocks f.lines }

-- a file that a line includes
abbrev pub opened_file : ℕ → ℕ → List ℕ → OpenFile
opened_file file by text = record { file = file; by = Some by; blocks = []; lines = written_lines text }

-- a script that is read: how many bytes may still be included, the parameters that its lines set, the file
-- whose lines are next, and those that include it, the innermost first
pub record Reading : Type 0 where
  pub room : ℕ
  pub sets : List Parameter
  pub file : OpenFile
  pub outer : List OpenFile

-- the number and the text of the file that a line includes, or why it isn't read
abbrev pub text_within : ℕ → List ℕ → ℕ → FileText → Result (ℕ × List ℕ) Reason
text_within room name n (texts.Read text) =
    if nat_le (length text) room then Ok (n, text) else Err (LongFile name)
text_within room name n texts.Unread = Err (Unread name)
text_within room name n texts.TooLong = Err (LongFile name)

abbrev pub found_within : ℕ → List ℕ → Option (ℕ × FileText) → Result (ℕ × List ℕ) Reason
found_within room name None = Err (Unread name)
found_within room name (Some f) = text_within room name f.0 f.1

abbrev pub included : SourceData → ℕ → ℕ → List ℕ → Result (ℕ × List ℕ) Reason
included s room includer name =
    let whole = included_name (file_name s.name s.files includer) name
    in found_within room whole (find_file s.files whole)

-- ---- the whole
abbrev pub Item : Type 0
Item = LinePlace × Result (List ℕ) Reason

abbrev pub bad_item : LinePlace → Reason → Item
bad_item p why = (p, Err why)

abbrev pub unless_open : LinePlace → List Block → List Item
unless_open p [] = bad_item p EndWithoutRepeat ∷ []
unless_open p bs = []

-- the blocks that are open at the end of a file, the outermost first
abbrev pub unended : OpenFile → List Item
unended f = map (λ (b : Block). bad_item (place_in f b.number) RepeatWithoutEnd) (reverse f.blocks)

-- the reading after a file was included by line n; nothing is read after one that isn't read
abbrev pub with_file : Reading → ℕ → ℕ × List ℕ → Reading
with_file r n f = record r {
  room = r.room - length f.1;
  file = opened_file f.0 (own_line r.file n) f.1;
  outer = r.file ∷ r.outer;
}

abbrev pub items_included : (Reading → List Item) → Reading → ℕ → Result (ℕ × List ℕ) Reason → List Item
items_included go r n (Ok f) = go (with_file r n f)
items_included go r n (Err why) = bad_item (place_in r.file n) why ∷ []

-- what a line says that does this, and those after it, which say what `go` tells of the reading
abbrev pub items_by : SourceData → (Reading → List Item) → Reading → ℕ → Act → List Item
items_by s go r n (Say text) = (place_in r.file n, Ok text) ∷ go r
items_by s go r n (SetParameter name text) = go (record r { sets = with_parameter r.sets name text })
items_by s go r n (RepeatBlock times) = go (record r { file = begun r.file n (times - 1) })
items_by s go r n EndBlock =
    unless_open (place_in r.file n) r.file.blocks ++ go (record r { file = ended r.file })
items_by s go r n (IncludeFile name) =
    if length r.outer == 16 then bad_item (place_in r.file n) IncludeDepth ∷ go r
    else items_included go r n (included s r.room r.file.file name)
items_by s go r n (BadLine why) = bad_item (place_in r.file n) why ∷ go r
items_by s go r n (BadRepeat why) =
    bad_item (place_in r.file n) why ∷ go (record r { file = begun r.file n 0 })
items_by s go r n (BadEnd why) =
    bad_item (place_in r.file n) why ∷ go (record r { file = record r.file { blocks = drop 1 r.file.blocks } })

-- what is said at the ends of the files that have no lines left, and the first one that has a line, with that,
-- its other lines and the files that include it
abbrev pub at_ends : OpenFile → List Written → List OpenFile → List Item
at_ends f (w ∷ ws) fs = []
at_ends f [] [] = unended f
at_ends f [] (g ∷ gs) = unended f ++ at_ends g g.lines gs

pub record NextLine : Type 0 where
  pub line : Written
  pub file : OpenFile
  pub outer : List OpenFile

abbrev pub next_line : OpenFile → List Written → List OpenFile → Option NextLine
next_line f (w ∷ ws) fs = Some (record { line = w; file = record f { lines = ws }; outer = fs })
next_line f [] [] = None
next_line f [] (g ∷ gs) = next_line g g.lines gs

-- what the lines say that are left, each at its place, or why it is bad, where so many lines may still be read
abbrev pub items_next : SourceData → (Reading → List Item) → Reading → Option NextLine → List Item
items_next s go r None = []
items_next s go r (Some l) =
    items_by s go (record r { file = l.file; outer = l.outer }) l.line.number (act_of s.given r.sets l.line)

abbrev pub too_many : Option NextLine → List Item
too_many None = []
too_many (Some l) = bad_item (place_in l.file l.line.number) TooManyLines ∷ []

abbrev pub items_from : ℕ → SourceData → Reading → List Item
items_from zero s r =
    at_ends r.file r.file.lines r.outer ++ too_many (next_line r.file r.file.lines r.outer)
items_from (suc n) s r =
    at_ends r.file r.file.lines r.outer
    ++ items_next s (items_from n s) r (next_line r.file r.file.lines r.outer)

-- a script: 1,000,000 lines may be read beside those that it has, and 16,777,216 bytes with its own ones
abbrev pub items : SourceData → List Item
items s =
    let ws = written_lines s.text
    in items_from (length ws + 1000000) s
    (record {
      room = 16777216 - length s.text;
      sets = [];
      file = record { file = 0; by = None; blocks = []; lines = ws };
      outer = [];
    })

-- ---- files that aren't among those of a script
-- the name of the file that a bad line includes, if the line is bad because that file can't be read
abbrev pub unread_file : Reason → Option (List ℕ)
unread_file (Unread name) = Some name
unread_file why = None

-- a name, if no file among these has it
abbrev pub unless_found : List ScriptFile → Option (List ℕ) → Option (List ℕ)
unless_found fs None = None
unless_found fs (Some name) = if is_some (find_file fs name) then None else Some name

-- the name under which a line includes a file that isn't among these
abbrev pub missing_in : List ScriptFile → Result (List ℕ) Reason → Option (List ℕ)
missing_in fs (Err why) = unless_found fs (unread_file why)
missing_in fs (Ok text) = None

abbrev pub first_missing : List ScriptFile → List Item → Option (List ℕ)
first_missing fs [] = None
first_missing fs (i ∷ is) = option_or (missing_in fs i.1) (first_missing fs is)

abbrev pub missing_file : SourceData → Option (List ℕ)
missing_file s = first_missing s.files (items s)

-- ---- the parameters that lines use
-- whether a text begins with this name, and whether a parameter with it stands in a field
abbrev pub is_first_name : List ℕ → List ℕ → Bool
is_first_name name text = nat_lt 0 (length (first_name text)) && bytes_eq (first_name text) name

abbrev pub has_name : List ℕ → List ℕ → Bool
has_name name f = list_any (is_first_name name) (drop 1 (slice_split (λ b. b == 36) f))

abbrev pub sets_name : List ℕ → List (List ℕ) → Bool
sets_name name (word ∷ f ∷ fs) = bytes_eq word (codes "set") && bytes_eq f name
sets_name name fs = false

-- whether a line sets a parameter with a name, or has it in a field
abbrev pub uses_in : List ℕ → List (List ℕ) → Bool
uses_in name fs = sets_name name fs || list_any (has_name name) fs

abbrev pub uses_name : List ℕ → Written → Bool
uses_name name w = uses_in name (written_fields w)

abbrev pub text_uses : List ℕ → List ℕ → Bool
text_uses text name = list_any (uses_name name) (written_lines text)

abbrev pub text_of_uses : List ℕ → FileText → Bool
text_of_uses name (texts.Read text) = nat_le (length text) 16777216 && text_uses text name
text_of_uses name text = false

abbrev pub file_uses : List ℕ → ScriptFile → Bool
file_uses name f = text_of_uses name f.text

abbrev pub is_used : SourceData → List ℕ → Bool
is_used s name = text_uses s.text name || list_any (file_uses name) s.files
