-- What the parts of a campaign's writing promise: a row is the play of the script under its faults, and
-- rows are written in order, each whole before the next one.
use Rattle.std.specs.Prelude.{◌≡◌, ◌≤◌, ◌<◌, ℕ, suc, ◌+◌, ◌-◌, ◌==◌, ◌&&◌, ◌||◌, Bool, true, false, if◌then◌else◌}
use Rattle.std.specs.Prelude.{List, [], ◌∷◌, ◌++◌, flat_map, length, map, max, nat_lt, None, Result, Ok, Err, Option}
use Rattle.std.specs.Borrow.{Bor}
use Rattle.std.specs.Io.KnownBytes.{Appends}
use Rattle.std.specs.Option.{option_map_or}
use Rattle.lin_parts.specs.declared.parts.Parts.{Parts}
use Rattle.lin_core.specs.Core.{CoreData}
use Rattle.lin_bench.specs.Played.{some_unmet}
use Rattle.lin_bench.specs.Plays.{OverfillsUnder}
use Rattle.lin_bench.specs.Files.{source_data}
use Rattle.lin_bench.specs.Scripts.{read}
use Rattle.lin_bench.specs.declared.faults.SlotFault.{SlotFault}
use Rattle.lin_bench.specs.declared.got.Judgement.{Judgement}
use Rattle.lin_bench.specs.declared.line.ScriptLine.{ScriptLine}
use Rattle.lin_bench.specs.declared.place.LinePlace.{LinePlace}
use Rattle.lin_export.specs.WhereTold.{given_coding}
use Rattle.lin_tool.specs.Formats.{Begins}
use Rattle.lin_tool.specs.Playing.{WritesTextOrPart}
use Rattle.lin_tool.specs.campaign.Rows.{IsPart, bound, places_of, rows}
use Rattle.lin_tool.specs.campaign.Shown.{RowData, row_data}
use Rattle.lin_tool.specs.campaign.Singles.{faults_at, singles}
use Rattle.lin_tool.specs.campaign.Summary.{AreCountsOf, RowCountsData, NumberedRow, is_denied, lines_text, numbers_text}
use Rattle.lin_tool.specs.campaign.Summary.{rows_of, worst_faults}
use Rattle.lin_tool.specs.campaign.Text.{known_losses, known_refusals}
use Rattle.lin_tool.specs.campaign.Written.{IsRowOf, PlaySetup, WritesPlays, text_before_rows, numbered_row, object_of, row_as}
use Rattle.lin_tool.specs.declared.campaign.Campaign.{Campaign}
use Rattle.lin_tool.specs.declared.campaign.plan.CampaignPlan.{CampaignPlan}
use Rattle.lin_tool.specs.declared.campaign.Play.{Play}
use Rattle.lin_tool.specs.declared.campaign.plan.RowFormat.{RowFormat}
use Rattle.lin_tool.specs.declared.campaign.plan.RowFormat.TheVariants.{Html}
use Rattle.lin_tool.specs.declared.campaign.row_source.RowSource.{RowSource}
use Rattle.lin_tool.specs.declared.campaign.row.Row.{Row}
use Rattle.lin_tool.specs.declared.campaign.rows.Rows.{Rows}
use Rattle.lin_tool.specs.declared.campaign.shown.ShownRow.{ShownRow}
use Rattle.lin_tool.specs.declared.campaign.singles.Single.{Single}
use Rattle.lin_tool.specs.declared.campaign.summary.Worst.{Worst}
use Rattle.lin_tool.specs.declared.fault.Fault.{Fault}
use Rattle.lin_tool.specs.declared.fault.Fault.TheVariants.{LogFull, OutOfMemory, WriteFailed}

-- ---- what is played
-- the campaign's table is one of the cluster, and its queues and its script have the sizes that a play takes
abbrev pub IsCampaignReady : Campaign → Parts → Type 0
IsCampaignReady on c =
    (on.table < length c.tables) × (1 ≤ on.capacity) × (on.capacity ≤ 1024)
    × (length on.source.text.now ≤ 16777216)

-- the script of a campaign says these lines
abbrev pub SaysLines : Campaign → Parts → List (LinePlace × ScriptLine) → Type 0
SaysLines on c ls = read c (given_coding on.coded) on.limits.now (source_data on.source) ≡ Ok ls

-- what the plays of these lines have in common
abbrev pub stage_of : Campaign → Parts → List (LinePlace × ScriptLine) → PlaySetup
stage_of on c ls = record {
  strict = on.is_strict;
  cluster = c;
  coded = given_coding on.coded;
  opening = on.table;
  capacity = on.capacity;
  lines = ls;
}

-- ---- the rows of a part
abbrev pub IsTable : RowSource → Type 0
IsTable t = IsPart t.part × (t.rows.now.singles ≤ 33000000)

abbrev pub first_part_row : RowSource → ℕ
first_part_row t = bound (length (rows t.rows.now)) (t.part.number - 1) t.part.count

-- the one after the last row
abbrev pub end_part_row : RowSource → ℕ
end_part_row t = bound (length (rows t.rows.now)) t.part.number t.part.count

-- row 0 has no faults
abbrev pub first_disturbed : ℕ → ℕ
first_disturbed from = max from 1

-- how many rows of the part aren't row 0
abbrev pub cases_of : RowSource → ℕ
cases_of t = end_part_row t - first_disturbed (first_part_row t)

-- the plays of rows from number n on
abbrev pub AreRowsOf : PlaySetup → List Single → Rows → ℕ → List RowData → Type 0
AreRowsOf on ss t n [] = Unit {0}
AreRowsOf on ss t n (p ∷ ps) = IsRowOf on ss n (places_of t n) p × AreRowsOf on ss t (suc n) ps

-- these are rows of a table, with their faults
abbrev pub IsTableRow : RowSource → NumberedRow → Type 0
IsTableRow t r =
    (r.number < length (rows t.rows.now))
    × (r.faults ≡ faults_at t.singles.now (places_of t.rows.now r.number))

abbrev pub AreTableRows : RowSource → List NumberedRow → Type 0
AreTableRows t [] = Unit {0}
AreTableRows t (r ∷ rs) = IsTableRow t r × AreTableRows t rs

-- the places of the single faults of the worst row
abbrev pub worst_places : RowSource → Option Worst → List ℕ
worst_places t worst = option_map_or (λ (w : Worst). places_of t.rows.now w.row) worst []

-- ---- what is written of them
abbrev pub is_page : RowFormat → Bool
is_page Html = true
is_page format = false

-- whether the undisturbed play is written: as row 0 of the part, or in a page
abbrev pub shows_calm : RowFormat → RowSource → Bool
shows_calm format t = (first_part_row t == 0) && nat_lt 0 (end_part_row t) || is_page format

-- the undisturbed play, as row 0
abbrev pub calm_row : RowSource → CoreData → RowData
calm_row t core = record {
  number = 0;
  faults = [];
  single = None;
  row = t.calm.now;
  log = core.log;
  judgements = t.judgements.now;
}

abbrev pub head_of : Campaign → RowSource → Parts → RowData → List ℕ
head_of on t c calm =
    text_before_rows on.format (t.part.number == 1) on.script.now on.file.now on.source.text.now (cases_of t)
    t.rows.now c calm

-- what stands before the rows with faults
abbrev pub head_with_calm : Campaign → RowSource → Parts → RowData → List ℕ
head_with_calm on t c calm =
    head_of on t c calm
    ++ (if shows_calm on.format t then row_as on.format on.script.now on.source.files.now c [] [] calm else [])

-- a row with faults
abbrev pub disturbed_row : Campaign → RowSource → Parts → RowData → List ℕ
disturbed_row on t c p = row_as on.format on.script.now on.source.files.now c t.calm.now.lost t.calm.now.refused p

-- a row; what the undisturbed play, if it is given, lost and refused isn't repeated
abbrev pub row_without : Campaign → ShownRow → Option (Bor Row) → List ℕ
row_without on shown calm =
    row_as on.format on.script.now on.source.files.now shown.core.now.cluster (known_losses calm) (known_refusals calm)
    (row_data shown)

-- the object of the campaign, of which this row is the undisturbed play
abbrev pub object_with : Campaign → Rows → ShownRow → List ℕ
object_with on t shown = object_of on.script.now t shown.core.now.cluster (row_data shown)

-- the first part has it, the others don't
abbrev pub object_if : Bool → Campaign → Rows → ShownRow → List ℕ
object_if first on t shown = if first then object_with on t shown else []

abbrev pub counts_text : Campaign → RowSource → Parts → List NumberedRow → List ℕ
counts_text on t c rows =
    lines_text on.script.now c t.judgements.now (rows_of rows) ++ numbers_text c rows

-- ---- the counts of rows
-- these are the faults of the worst row, if the counters count rows of the table
abbrev pub AreWorstFaults : RowSource → RowCountsData → List SlotFault → Type 0
AreWorstFaults t counts fs =
    (js : List Judgement) → (rows : List NumberedRow) → AreCountsOf js rows counts → AreTableRows t rows
    → worst_faults rows ≡ fs

-- the counts of the rows of a table were written, as far as the writer took them
abbrev pub WritesCounts : Campaign → RowSource → Parts → RowCountsData → Option (List ℕ)
    → Option (List ℕ) → Type 0
WritesCounts on t c counts silent heard =
    (rows : List NumberedRow) → AreCountsOf t.judgements.now rows counts → AreTableRows t rows
    → WritesTextOrPart silent heard (counts_text on t c rows)

-- whether the plan denies what these counters count
abbrev pub IsDenial : CampaignPlan → RowCountsData → List Judgement → Bool → Type 0
IsDenial plan counts judgements answer =
    (js : List Judgement) → (rows : List NumberedRow) → AreCountsOf js rows counts
    → answer ≡ is_denied plan.denies_broken plan.denies_never judgements (rows_of rows)

-- ---- what is answered
-- why only a beginning was written: the log of some row would have more entries than a log takes, memory
-- ran out, or the writer failed
abbrev pub BreaksOff : Campaign → RowSource → Parts → List (LinePlace × ScriptLine) → Fault → Type 0
BreaksOff on t c ls LogFull =
    (n : ℕ) × (n < length (rows t.rows.now))
    × OverfillsUnder c on.table on.capacity (faults_at t.singles.now (places_of t.rows.now n)) ls
BreaksOff on t c ls OutOfMemory = Unit {0}
BreaksOff on t c ls WriteFailed = Unit {0}
BreaksOff on t c ls fault = ⊥

-- counters that count these rows more
abbrev pub CountsMore : List RowData → RowCountsData → RowCountsData → Type 0
CountsMore ps old new =
    (js : List Judgement) → (counted : List NumberedRow) → AreCountsOf js counted old
    → AreCountsOf js (counted ++ map numbered_row ps) new

-- row n was played, written and counted, or a beginning of it was written
abbrev pub WritesRow : Campaign → RowSource → Parts → List (LinePlace × ScriptLine) → ℕ → Result Parts Fault
    → RowCountsData → RowCountsData → Option (List ℕ) → Option (List ℕ) → Type 0
WritesRow on t c ls n (Ok handed) counts more old new =
    (p : RowData) × IsRowOf (stage_of on c ls) t.singles.now n (places_of t.rows.now n) p
    × Appends old new (disturbed_row on t c p) × CountsMore (p ∷ []) counts more
WritesRow on t c ls n (Err fault) counts more old new =
    (p : RowData) × IsRowOf (stage_of on c ls) t.singles.now n (places_of t.rows.now n) p
    × Begins old new (disturbed_row on t c p) × BreaksOff on t c ls fault

-- likewise all rows of the part but row 0
abbrev pub WritesRows : Campaign → RowSource → Parts → List (LinePlace × ScriptLine) → Result Parts Fault
    → RowCountsData → RowCountsData → Option (List ℕ) → Option (List ℕ) → Type 0
WritesRows on t c ls (Ok handed) counts more old new =
    (ps : List RowData) × AreRowsOf (stage_of on c ls) t.singles.now t.rows.now (first_disturbed (first_part_row t)) ps
    × (length ps ≡ cases_of t) × Appends old new (flat_map (disturbed_row on t c) ps)
    × CountsMore ps counts more
WritesRows on t c ls (Err fault) counts more old new =
    (ps : List RowData) × AreRowsOf (stage_of on c ls) t.singles.now t.rows.now (first_disturbed (first_part_row t)) ps
    × (length ps ≡ cases_of t) × Begins old new (flat_map (disturbed_row on t c) ps)
    × BreaksOff on t c ls fault

-- the same, whatever lines the script says
abbrev pub PlaysAndWritesRow : Campaign → RowSource → Parts → ℕ → Result Parts Fault → RowCountsData → RowCountsData
    → Option (List ℕ) → Option (List ℕ) → Type 0
PlaysAndWritesRow on t c n result counts more old new =
    (ls : List (LinePlace × ScriptLine)) → SaysLines on c ls → WritesRow on t c ls n result counts more old new

abbrev pub PlaysAndWritesRows : Campaign → RowSource → Parts → Result Parts Fault → RowCountsData → RowCountsData
    → Option (List ℕ) → Option (List ℕ) → Type 0
PlaysAndWritesRows on t c result counts more old new =
    (ls : List (LinePlace × ScriptLine)) → SaysLines on c ls → WritesRows on t c ls result counts more old new

-- a play that is row 0 of a campaign
abbrev pub row_of_play : Play → RowData
row_of_play p = record {
  number = 0;
  faults = [];
  single = None;
  row = p.row;
  log = p.core.log;
  judgements = p.judgements;
}

-- the script's lines were played undisturbed, and each judgement is met
pub record IsCampaignBegun (on : Campaign) (plan : CampaignPlan) (calm : Play) (ls : List (LinePlace × ScriptLine)) : Type 0 where
  pub says : SaysLines on calm.core.cluster ls
  pub undisturbed : IsRowOf (stage_of on calm.core.cluster ls) [] 0 [] (row_of_play calm)
  pub met : some_unmet calm.judgements ≡ false
  pub format : on.format ≡ plan.format

-- likewise, and the table has what the plan wants of that play
pub record IsPlanned (on : Campaign) (plan : CampaignPlan) (t : RowSource) (core : CoreData) (ls : List (LinePlace × ScriptLine)) : Type 0 where
  pub says : SaysLines on core.cluster ls
  pub undisturbed : IsRowOf (stage_of on core.cluster ls) [] 0 [] (calm_row t core)
  pub met : some_unmet t.judgements.now ≡ false
  pub format : on.format ≡ plan.format
  pub part : t.part ≡ plan.part
  pub singles_are : t.singles.now ≡ singles core.cluster plan.kinds core.log
  pub table
      : t.rows.now
      ≡ record { singles = length t.singles.now; pairs = plan.pairs; random = plan.random }

-- the plays of the campaign's lines are written, where the undisturbed play and the table are these
abbrev pub WritesTable : Campaign → CampaignPlan → RowSource → CoreData → Result Unit Fault → Option (List ℕ)
    → Option (List ℕ) → Option (List ℕ) → Option (List ℕ) → Type 0
WritesTable on plan t core result old new silent heard =
    (ls : List (LinePlace × ScriptLine)) → IsPlanned on plan t core ls
    → WritesPlays (stage_of on core.cluster ls) plan t.is_watched on.script.now on.source.files.now on.file.now on.source.text.now
    result old new silent heard

-- likewise, where the undisturbed play is this
abbrev pub WritesAfter : Campaign → CampaignPlan → Play → Result Unit Fault → Option (List ℕ)
    → Option (List ℕ) → Option (List ℕ) → Option (List ℕ) → Type 0
WritesAfter on plan calm result old new silent heard =
    (ls : List (LinePlace × ScriptLine)) → IsCampaignBegun on plan calm ls
    → WritesPlays (stage_of on calm.core.cluster ls) plan plan.is_watched on.script.now on.source.files.now on.file.now
    on.source.text.now result old new silent heard
