-- What a campaign answers and writes. A row is the play of the script under its faults.
use Rattle.std.specs.Prelude.{◌≡◌, ◌<◌, ℕ, suc, ◌-◌, ◌==◌, Bool, true, false, not, if◌then◌else◌, List, [], ◌∷◌, ◌++◌}
use Rattle.std.specs.Prelude.{◌⊎◌, codes, filter, flat_map, length, map, reverse, Option, Some, None}
use Rattle.std.specs.Prelude.{Result, Ok, Err}
use Rattle.std.specs.Borrow.{Bor}
use Rattle.std.specs.Io.KnownBytes.{Appends, Keeps}
use Rattle.lin_parts.specs.declared.parts.Parts.{Parts}
use Rattle.lin_text.specs.Written.{WritesText}
use Rattle.lin_values.specs.Coded.{CodedData}
use Rattle.lin_bench.specs.Files.{SourceData}
use Rattle.lin_bench.specs.Scripts.{read}
use Rattle.lin_bench.specs.Played.{Run, some_unmet}
use Rattle.lin_bench.specs.Plays.{ComesUnder, OverfillsUnder}
use Rattle.lin_bench.specs.declared.files.ScriptFile.{ScriptFile}
use Rattle.lin_bench.specs.declared.line.ScriptLine.{ScriptLine}
use Rattle.lin_bench.specs.declared.place.LinePlace.{LinePlace}
use Rattle.lin_bench.specs.declared.playing.PlayedUnder.{PlayedUnder}
use Rattle.lin_bench.specs.declared.rules.NodeLimits.{NodeLimits}
use Rattle.lin_tool.specs.Formats.{Begins}
use Rattle.lin_tool.specs.Opening.{room_for}
use Rattle.lin_tool.specs.Playing.{ComesTo, IsReadScript, IsUnread, RefusesReading, WritesTextOrPart}
use Rattle.lin_tool.specs.Playing.{judgements_with_meanings, limit_fault, unmet_with_counts, unused_parameter}
use Rattle.lin_tool.specs.campaign.Csv.{row_text as csv_text}
use Rattle.lin_tool.specs.campaign.Jsonl.{head_object, row_object}
use Rattle.lin_tool.specs.campaign.Junit.{report_end, report_head, row_case}
use Rattle.lin_tool.specs.campaign.Page.{data_head, object_text}
use Rattle.lin_tool.specs.campaign.Row.{row_of}
use Rattle.lin_tool.specs.campaign.Rows.{bound, part_of, places_of, rows}
use Rattle.lin_tool.specs.campaign.Shown.{RowData}
use Rattle.lin_tool.specs.campaign.Singles.{faults_at, only_single, singles}
use Rattle.lin_tool.specs.campaign.Summary.{NumberedRow, is_denied, lines_text, numbers_text, rows_of}
use Rattle.lin_tool.specs.campaign.Text.{row_text}
use Rattle.lin_tool.specs.declared.campaign.csv_rows.TheConstants.{HEAD}
use Rattle.lin_tool.specs.declared.campaign.pieces.TheConstants.{HEAD as PAGE, TAIL as PAGE_END}
use Rattle.lin_tool.specs.declared.fault.Fault.{Fault}
use Rattle.lin_tool.specs.declared.fault.Fault.TheVariants.{BadBenchLine, Denied, LogFull, OutOfMemory, UnusedParameter}
use Rattle.lin_tool.specs.declared.fault.Fault.TheVariants.{LongFile, SlotLimit, Unmet, UnreadFile, WriteFailed}
use Rattle.lin_tool.specs.declared.campaign.plan.CampaignPlan.{CampaignPlan}
use Rattle.lin_tool.specs.declared.campaign.plan.RowFormat.{RowFormat}
use Rattle.lin_tool.specs.declared.campaign.plan.RowFormat.TheVariants.{Text, Csv, Jsonl, Junit, Html}
use Rattle.lin_tool.specs.declared.campaign.row.LostMessage.{LostMessage}
use Rattle.lin_tool.specs.declared.campaign.row.RefusedStep.{RefusedStep}
use Rattle.lin_tool.specs.declared.campaign.rows.Rows.{Rows}
use Rattle.lin_tool.specs.declared.campaign.singles.Single.{Single}
use Rattle.lin_tool.specs.declared.opening.Opened.{Opened}

-- ---- plays
-- what a script is played with
pub record PlaySetup : Type 0 where
  pub strict : Bool
  pub cluster : Parts
  pub coded : Option CodedData
  pub opening : ℕ
  pub capacity : ℕ
  pub lines : List (LinePlace × ScriptLine)

-- the play of row n, which has the single faults at these places
pub record IsRowOf (on : PlaySetup) (ss : List Single) (n : ℕ) (places : List ℕ) (p : RowData)
    : Type 0 where
  pub it : PlayedUnder
  pub comes
      : ComesUnder on.strict on.cluster on.opening on.capacity (faults_at ss places) on.lines it
  pub number : p.number ≡ n
  pub faults : p.faults ≡ faults_at ss places
  pub single : p.single ≡ only_single ss places
  pub row : p.row ≡ row_of it
  pub log : p.log ≡ it.core.log
  pub judgements : p.judgements ≡ judgements_with_meanings on.coded it.judgements

-- the plays of rows, of which the first has number n
abbrev pub AreRowsFrom : PlaySetup → List Single → ℕ → List (List ℕ) → List RowData → Type 0
AreRowsFrom on ss n [] [] = Unit {0}
AreRowsFrom on ss n (places ∷ more) (p ∷ ps) =
    IsRowOf on ss n places p × AreRowsFrom on ss (suc n) more ps
AreRowsFrom on ss n more ps = ⊥

-- ---- texts
-- a row, without these messages among those that were lost, and without these refused steps
abbrev pub row_as : RowFormat → List ℕ → List ScriptFile → Parts → List LostMessage → List RefusedStep → RowData → List ℕ
row_as Text script fs c lost refused p = row_text c lost refused p
row_as Csv script fs c lost refused p = csv_text c p
row_as Jsonl script fs c lost refused p = row_object c p
row_as Html script fs c lost refused p = object_text (row_object c p)
row_as Junit script fs c lost refused p = row_case script fs c p

-- a row; what the undisturbed play lost and refused isn't repeated in another one
abbrev pub row_in_output : RowFormat → List ℕ → List ScriptFile → Parts → RowData → RowData → List ℕ
row_in_output format script fs c calm p =
    if p.number == 0 then row_as format script fs c [] [] p
    else row_as format script fs c calm.row.lost calm.row.refused p

-- all rows of a part, of which the first has number `from`: of a page also the undisturbed play
abbrev pub rows_in_output : RowFormat → List ℕ → List ScriptFile → Parts → RowData → List RowData → List ℕ
rows_in_output format script fs c calm ps = flat_map (row_in_output format script fs c calm) ps

-- what stands before the rows, and after them. Of the parts of a table, and of objects, the first
-- alone has it
abbrev pub object_of : List ℕ → Rows → Parts → RowData → List ℕ
object_of script t c calm = head_object c script t.singles (length (rows t)) calm

abbrev pub text_before_rows : RowFormat → Bool → List ℕ → List ℕ → List ℕ → ℕ → Rows → Parts → RowData
    → List ℕ
text_before_rows Text first script file bytes cases t c calm = []
text_before_rows Csv first script file bytes cases t c calm = if first then HEAD.now else []
text_before_rows Jsonl first script file bytes cases t c calm = if first then object_of script t c calm else []
text_before_rows Junit first script file bytes cases t c calm = report_head script cases
text_before_rows Html first script file bytes cases t c calm =
    PAGE.now ++ (data_head file bytes c calm.log ++ object_text (object_of script t c calm))

abbrev pub text_after_rows : RowFormat → List ℕ
text_after_rows Junit = report_end
text_after_rows Html = PAGE_END.now
text_after_rows format = []

-- ---- the whole
-- the plays of a campaign: the undisturbed one, of which each judgement is met, and those of the rows of
-- a part
pub record PlaysOfCampaign (on : PlaySetup) (plan : CampaignPlan) : Type 0 where
  pub calm : RowData
  pub undisturbed : IsRowOf on [] 0 [] calm
  pub met : some_unmet calm.judgements ≡ false
  pub singles_are : List Single
  pub all : singles_are ≡ singles on.cluster plan.kinds calm.log
  pub table : Rows
  pub made : table
      ≡ record { singles = length singles_are; pairs = plan.pairs; random = plan.random }
  pub played : List RowData
  pub rows_are : AreRowsFrom on singles_are
      (bound (length (rows table)) (plan.part.number - 1) plan.part.count)
      (part_of plan.part (rows table)) played

-- the plays that are written: those of the part, and of a page also the undisturbed one before them
abbrev pub plays_in_output : RowFormat → RowData → List RowData → List RowData
plays_in_output Html calm (p ∷ ps) = if p.number == 0 then p ∷ ps else calm ∷ p ∷ ps
plays_in_output Html calm [] = calm ∷ []
plays_in_output format calm ps = ps

-- those that count
abbrev pub rows_with_faults : List RowData → List RowData
rows_with_faults ps = filter (λ (p : RowData). not (p.number == 0)) ps

abbrev pub campaign_output : {on : PlaySetup} {plan : CampaignPlan} → List ℕ → List ScriptFile → List ℕ → List ℕ → PlaysOfCampaign on plan → List ℕ
campaign_output {on} {plan} script fs file bytes it =
    text_before_rows plan.format (plan.part.number == 1) script file bytes (length (rows_with_faults it.played))
    it.table on.cluster it.calm
    ++ (rows_in_output plan.format script fs on.cluster it.calm (plays_in_output plan.format it.calm it.played)
    ++ text_after_rows plan.format)

abbrev pub numbered_row : RowData → NumberedRow
numbered_row p = record {
  number = p.number;
  faults = p.faults;
  row = p.row;
}

abbrev pub numbered_rows : List RowData → List NumberedRow
numbered_rows ps = map numbered_row (rows_with_faults ps)

abbrev pub counts : {on : PlaySetup} {plan : CampaignPlan} → List ℕ → PlaysOfCampaign on plan → List ℕ
counts {on} script it =
    lines_text script on.cluster it.calm.judgements (rows_of (numbered_rows it.played))
    ++ numbers_text on.cluster (numbered_rows it.played)

abbrev pub denies : {on : PlaySetup} {plan : CampaignPlan} → PlaysOfCampaign on plan → Bool
denies {on} {plan} it =
    is_denied plan.denies_broken plan.denies_never it.calm.judgements
    (rows_of (numbered_rows it.played))

-- What writing the plays of a campaign answers: all was written, and nothing is denied or something is;
-- or a beginning. Where rows are watched, the writer of errors also gets how many are done.
abbrev pub Ends : Bool → Result Unit Fault → Bool → List ℕ → List ℕ → Option (List ℕ)
    → Option (List ℕ) → Option (List ℕ) → Option (List ℕ) → Type 0
Ends watched (Ok done) denied text told old new silent heard =
    (denied ≡ false) × Appends old new text × (watched ≡ false → WritesTextOrPart silent heard told)
Ends watched (Err Denied) denied text told old new silent heard =
    (denied ≡ true) × Appends old new text × (watched ≡ false → WritesTextOrPart silent heard told)
Ends watched (Err WriteFailed) denied text told old new silent heard = Begins old new text
Ends watched (Err OutOfMemory) denied text told old new silent heard = Begins old new text
Ends watched (Err LogFull) denied text told old new silent heard = Begins old new text
Ends watched (Err fault) denied text told old new silent heard = ⊥

-- the log is full in some row: it would have more entries than a log takes
abbrev pub SomeRowOverfills : {on : PlaySetup} {plan : CampaignPlan} → PlaysOfCampaign on plan → Type 0
SomeRowOverfills {on} it =
    (n : ℕ) × (n < length (rows it.table))
    × OverfillsUnder on.cluster on.opening on.capacity
    (faults_at it.singles_are (places_of it.table n)) on.lines

abbrev pub is_full : Result Unit Fault → Bool
is_full (Err LogFull) = true
is_full result = false

-- the lines of a script that is read, and what is written of their plays
abbrev pub WritesPlays : PlaySetup → CampaignPlan → Bool → List ℕ → List ScriptFile → List ℕ → List ℕ → Result Unit Fault
    → Option (List ℕ) → Option (List ℕ) → Option (List ℕ) → Option (List ℕ) → Type 0
WritesPlays on plan watched script fs file bytes result old new silent heard =
    (it : PlaysOfCampaign on plan) × (is_full result ≡ true → SomeRowOverfills it)
    × Ends watched result (denies it) (campaign_output script fs file bytes it) (counts script it) old new
    silent heard

-- ---- the answer
abbrev pub name_or : Option (Bor (List ℕ)) → List ℕ → List ℕ
name_or None other = other
name_or (Some name) other = name.now

-- a script was read, and this is written of its plays
abbrev pub WritesPlaysOfScript : CampaignPlan → Option CodedData → List NodeLimits → SourceData → Option (Bor (List ℕ))
    → Option (Bor (List ℕ)) → Bool → Parts → ℕ → ℕ → Result Unit Fault
    → Option (List ℕ) → Option (List ℕ) → Option (List ℕ) → Option (List ℕ) → Type 0
WritesPlaysOfScript plan k limits s file named strict c opening capacity result old new silent heard =
    (ls : List (LinePlace × ScriptLine)) × (read c k limits s ≡ Ok ls)
    × WritesPlays (record {
      strict = strict;
      cluster = c;
      coded = k;
      opening = opening;
      capacity = capacity;
      lines = ls;
    })
    plan plan.is_watched (name_or named (codes "-")) s.files (name_or file []) s.text result old new silent heard

-- What a campaign answers, what the writer took (from old to new), and what the writer of errors took
-- (from silent to heard). If the undisturbed play has a judgement that isn't met, or the script can't be
-- played, the writer gets nothing.
abbrev pub WritesCampaign : CampaignPlan → Option CodedData → List NodeLimits → SourceData → Option (Bor (List ℕ))
    → Option (Bor (List ℕ)) → Bool → Parts → ℕ → ℕ → Result Unit Fault
    → Option (List ℕ) → Option (List ℕ) → Option (List ℕ) → Option (List ℕ) → Type 0
WritesCampaign plan k limits s file named strict c opening capacity (Err (BadBenchLine n outcome)) old new silent heard =
    IsUnread named c k limits s (BadBenchLine n outcome) silent heard × Keeps old new
WritesCampaign plan k limits s file named strict c opening capacity (Err (UnreadFile outcome)) old new silent heard =
    IsUnread named c k limits s (UnreadFile outcome) silent heard × Keeps old new
WritesCampaign plan k limits s file named strict c opening capacity (Err (LongFile outcome)) old new silent heard =
    IsUnread named c k limits s (LongFile outcome) silent heard × Keeps old new
WritesCampaign plan k limits s file named strict c opening capacity (Err (UnusedParameter name)) old new silent heard =
    (ls : List (LinePlace × ScriptLine)) × (read c k limits s ≡ Ok ls)
    × (unused_parameter s ≡ Some name) × Keeps old new × Keeps silent heard
WritesCampaign plan k limits s file named strict c opening capacity (Err (SlotLimit n at)) old new silent heard =
    ComesTo [] strict k limits s c opening capacity (Err n) × (SlotLimit n at ≡ limit_fault s.files n)
    × Keeps old new × Keeps silent heard
WritesCampaign plan k limits s file named strict c opening capacity (Err (Unmet outcome)) old new silent heard =
    (run : Run) × ComesTo [] strict k limits s c opening capacity (Ok run)
    × (some_unmet (judgements_with_meanings k run.judgements) ≡ true) × Keeps old new
    × WritesText silent heard outcome
    (unmet_with_counts named s.files strict 0 0 c (reverse run.bench.past) (judgements_with_meanings k run.judgements))
WritesCampaign plan k limits s file named strict c opening capacity (Err OutOfMemory) old new silent heard =
    (Keeps old new × Keeps silent heard)
    ⊎ WritesPlaysOfScript plan k limits s file named strict c opening capacity (Err OutOfMemory) old new silent heard
WritesCampaign plan k limits s file named strict c opening capacity (Err LogFull) old new silent heard =
    ((ls : List (LinePlace × ScriptLine)) × (read c k limits s ≡ Ok ls) × OverfillsUnder c opening capacity [] ls
    × Keeps old new × Keeps silent heard)
    ⊎ WritesPlaysOfScript plan k limits s file named strict c opening capacity (Err LogFull) old new silent heard
WritesCampaign plan k limits s file named strict c opening capacity (Err WriteFailed) old new silent heard =
    WritesPlaysOfScript plan k limits s file named strict c opening capacity (Err WriteFailed) old new silent heard
WritesCampaign plan k limits s file named strict c opening capacity (Err Denied) old new silent heard =
    WritesPlaysOfScript plan k limits s file named strict c opening capacity (Err Denied) old new silent heard
WritesCampaign plan k limits s file named strict c opening capacity (Ok done) old new silent heard =
    WritesPlaysOfScript plan k limits s file named strict c opening capacity (Ok done) old new silent heard
WritesCampaign plan k limits s file named strict c opening capacity (Err _) old new silent heard = ⊥

-- the same with what was opened
abbrev pub WritesSource : CampaignPlan → SourceData → Opened → Option (Bor (List ℕ)) → Result Unit Fault
    → Option (List ℕ) → Option (List ℕ) → Option (List ℕ) → Option (List ℕ) → Type 0
WritesSource plan s o named result old new silent heard =
    WritesCampaign plan o.coded o.limits s o.settings.file named o.settings.is_strict o.cluster o.table
    (room_for o.settings.capacity) result old new silent heard

-- without files and parameters: a script that a reader gives
abbrev pub WritesOpened : CampaignPlan → Opened → Option (Bor (List ℕ)) → Result Unit Fault → Option (List ℕ)
    → Option (List ℕ) → Option (List ℕ) → Option (List ℕ) → Option (List ℕ) → Type 0
WritesOpened plan o named result told old new silent heard =
    RefusesReading result told old new silent heard
    ⊎ ((s : SourceData) × IsReadScript told s × WritesSource plan s o named result old new silent heard)
