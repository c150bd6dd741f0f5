-- What reading the lines of a bench script answers, beside what the definition resolves.
use Rattle.std.specs.Prelude.{◌≡◌, ◌+◌, ◌≤◌, ℕ, Bool, true, false, if◌then◌else◌, List, [], ◌∷◌, ◌++◌, drop, length, map, reverse, Option, Some, None, Result, Ok, Err}
use Rattle.std.specs.Borrow.{Bor}
use Rattle.std.specs.Str.Lines.{strip_carriage_return}
use Rattle.lin_log.specs.Judged.{lines_left}
use Rattle.lin_bench.specs.Fields.{line_fields}
use Rattle.lin_bench.specs.Files.{source_data}
use Rattle.lin_bench.specs.Resolved.{Act, Block, Item, OpenFile, Reading, bad_item, items_by, items_from, place_in, unended}
use Rattle.lin_bench.specs.Written.{Written, goes_on, lines_of, part_fields, written_after, written_lines}
use Rattle.lin_bench.specs.Resolved.Act.{BadEnd, BadLine, BadRepeat, EndBlock, IncludeFile, RepeatBlock, Say as SayText, SetParameter}
use Rattle.lin_bench.specs.declared.place.LinePlace.{LinePlace}
use Rattle.lin_bench.specs.declared.reason.Reason.{Reason}
use Rattle.lin_bench.specs.declared.reason.Reason.TheVariants.{EndWithoutRepeat}
use Rattle.lin_bench.specs.declared.resolving.Act.{Act as LineAct}
use Rattle.lin_bench.specs.declared.resolving.Act.TheVariants.{Say, Set, Repeat, End, Include}
use Rattle.lin_bench.specs.declared.resolving.Block.{Block as OpenBlock}
use Rattle.lin_bench.specs.declared.resolving.Item.{Item as LineItem}
use Rattle.lin_bench.specs.declared.resolving.Item.TheVariants.{Line, Bad}
use Rattle.lin_bench.specs.declared.resolving.LineText.{LineText}
use Rattle.lin_bench.specs.declared.resolving.OpenFile.{OpenFile as ReadFile}
use Rattle.lin_bench.specs.declared.resolving.LineText.TheVariants.{Written as AsWritten, Resolved}
use Rattle.lin_bench.specs.declared.resolving.ScriptReader.{ScriptReader}
use Rattle.lin_bench.specs.declared.resolving.Undone.{Undone}
use Rattle.lin_bench.specs.declared.resolving.Undone.TheVariants as undone
use Rattle.lin_bench.specs.declared.resolving.WrittenLine.{WrittenLine}

abbrev pub written_of : WrittenLine → Written
written_of w = record { number = w.number; parts = lines_of w.text.now }

-- the lines of the text that is left after a line
abbrev pub lines_after : Option (Bor (List ℕ)) → List (List ℕ)
lines_after rest = map strip_carriage_return (lines_left rest)

-- the text after a line, if the line goes on there
abbrev pub following : List ℕ → Option (List ℕ) → Option (List ℕ)
following l rest = if goes_on (strip_carriage_return l) then rest else None

-- the first line of a text with those that follow it, how many lines these are, and the text after them
abbrev pub IsWhole : List ℕ → List ℕ → ℕ → Option (Bor (List ℕ)) → Type 0
IsWhole text line count rest =
    (n : ℕ) → written_after (Some (record { number = n; parts = [] })) n (lines_of text)
    ≡ record { number = n; parts = lines_of line } ∷ written_after None (n + count) (lines_after rest)

-- the line of these parts, if no other one follows it
abbrev pub alone : List (List ℕ) → Option (List ℕ)
alone (l ∷ []) = Some l
alone ls = None

abbrev pub text_of_line : LineText → List ℕ
text_of_line (AsWritten text) = text.now
text_of_line (Resolved text) = text.items

-- the fields of a line, without `\` at its end where it is as it is written
abbrev pub fields_of_line : LineText → List (List ℕ)
fields_of_line (AsWritten text) = part_fields text.now
fields_of_line (Resolved text) = line_fields text.items

abbrev pub item_of : LineItem → Result (List ℕ) Reason
item_of (Line text) = Ok (text_of_line text)
item_of (Bad why) = Err why

-- the lines from an index on, and a block that is open
abbrev pub lines_from : List WrittenLine → ℕ → List Written
lines_from ls i = map written_of (drop i ls)

abbrev pub block_of : List WrittenLine → OpenBlock → Block
block_of ls b = record { number = b.number; lines = lines_from ls b.first; again = b.again }

-- a file that is read
abbrev pub open_file_of : ReadFile → OpenFile
open_file_of f = record {
  file = f.file;
  by = f.by;
  blocks = reverse (map (block_of f.lines.items) f.blocks.items);
  lines = lines_from f.lines.items f.next;
}

-- the beginning of one
abbrev pub file_opened : ℕ → Option ℕ → List ℕ → OpenFile
file_opened file by text = record { file = file; by = by; blocks = []; lines = written_lines text }

abbrev pub IsAtEnd : ReadFile → Type 0
IsAtEnd f = ((open_file_of f).lines ≡ []) × ((open_file_of f).blocks ≡ [])

-- what taking the next line answers, by the file before and after it; and the next block that isn't ended
abbrev pub TakesLine : Option WrittenLine → OpenFile → OpenFile → Type 0
TakesLine None old new = (old.lines ≡ []) × (new ≡ old)
TakesLine (Some w) old new = old ≡ record new { lines = written_of w ∷ new.lines }

abbrev pub TakesUnended : Option (LinePlace × LineItem) → OpenFile → OpenFile → Type 0
TakesUnended None old new = (old.blocks ≡ []) × (new ≡ old)
TakesUnended (Some i) old new =
    (unended old ≡ (i.0, item_of i.1) ∷ unended new) × (new ≡ record old { blocks = new.blocks })

-- what an `end` says that ends a block or doesn't
abbrev pub bad_unless : Bool → LinePlace → List Item
bad_unless true p = []
bad_unless false p = bad_item p EndWithoutRepeat ∷ []

-- a script that is read, and what the lines say that are left
abbrev pub reading_of : ScriptReader → Reading
reading_of r = record {
  room = r.room;
  sets = r.sets;
  file = open_file_of r.file;
  outer = reverse (map open_file_of r.outer.items);
}

abbrev pub items_left : ScriptReader → List Item
items_left r = items_from r.left (source_data r.source) (reading_of r)

-- what doing the line with a number answers that does this: what it says, before what is left
abbrev pub item_if : {X : Type 0} → (X → Result (List ℕ) Reason) → LinePlace → Option X → List Item
item_if view p None = []
item_if view p (Some x) = (p, view x) ∷ []

abbrev pub DoesLine : {X E : Type 0} → Result (Option X) E → (X → Result (List ℕ) Reason) → ScriptReader
    → ScriptReader → ℕ → Act → Type 0
DoesLine (Ok said) view old new n act =
    items_by (source_data old.source) (items_from old.left (source_data old.source)) (reading_of old) n act
    ≡ item_if view (place_in (open_file_of old.file) n) said ++ items_left new
DoesLine (Err e) view old new n act = Unit {0}

-- what going on with the file that includes the one that is at its end answers
abbrev pub LeavesFile : Bool → ScriptReader → ScriptReader → Type 0
LeavesFile true old new = items_left old ≡ items_left new
LeavesFile false old new = items_left old ≡ []

-- what asking for the next item answers, by those that were left, and those that are left after it
abbrev pub GivesItem : {E : Type 0} → Result (Option (LinePlace × LineItem)) E → List Item → List Item → Type 0
GivesItem (Ok None) old new = old ≡ []
GivesItem (Ok (Some i)) old new = old ≡ (i.0, item_of i.1) ∷ new
GivesItem (Err e) old new = Unit {0}

-- the same up to the end of a file
abbrev pub GivesItemOrEnd : {E : Type 0} → Result (Option (LinePlace × LineItem)) E → ScriptReader → ScriptReader → Type 0
GivesItemOrEnd (Ok None) old new = (items_left old ≡ items_left new) × IsAtEnd new.file
GivesItemOrEnd (Ok (Some i)) old new = items_left old ≡ (i.0, item_of i.1) ∷ items_left new
GivesItemOrEnd (Err e) old new = Unit {0}

-- how many lines and files are left: a line goes on to one file at most
abbrev pub steps_left : ScriptReader → ℕ
steps_left r = r.left + length r.outer.items

abbrev pub KeepsLeft : ScriptReader → ScriptReader → Type 0
KeepsLeft old new = (new.left ≡ old.left) × (length new.outer.items ≤ length old.outer.items + 1)

-- what a line of this text does
abbrev pub act_done : LineAct → List ℕ → Act
act_done Say text = SayText text
act_done (Set p) text = SetParameter p.name p.text
act_done (Repeat times) text = RepeatBlock times
act_done End text = EndBlock
act_done (Include name) text = IncludeFile name

abbrev pub NotDone : Undone → Act → Type 0
NotDone (undone.Line why) act = act ≡ BadLine why
NotDone (undone.Repeat why) act = act ≡ BadRepeat why
NotDone (undone.End why) act = act ≡ BadEnd why
NotDone undone.OutOfMemory act = Unit {0}

abbrev pub DoesAct : Result LineAct Undone → List ℕ → Act → Type 0
DoesAct (Ok a) text act = act ≡ act_done a text
DoesAct (Err e) text act = NotDone e act

abbrev pub GivesAct : Result (LineAct × LineText) Undone → Act → Type 0
GivesAct (Ok a) act = act ≡ act_done a.0 (text_of_line a.1)
GivesAct (Err e) act = NotDone e act
