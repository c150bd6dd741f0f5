-- The rows of a campaign as lines of values between commas (RFC 4180). No cell needs a quote: names of
-- LDFs are words.
use Rattle.std.specs.Prelude.{ℕ, List, [], ◌∷◌, ◌++◌, codes, map, Option, Some, None}
use Rattle.std.specs.Fmt.{decimal}
use Rattle.lin_parts.specs.Cluster.{named_table}
use Rattle.lin_parts.specs.declared.parts.Parts.{Parts}
use Rattle.lin_export.specs.Csv.{csv_line}
use Rattle.lin_tool.specs.campaign.FaultNames.{faults_text}
use Rattle.lin_tool.specs.campaign.Shown.{RowData}
use Rattle.lin_tool.specs.Separated.{with_separators}
use Rattle.lin_tool.specs.campaign.Text.{frame_of_single, loss_text, refusal_text}
use Rattle.lin_tool.specs.declared.campaign.row.Row.{Row}
use Rattle.lin_tool.specs.declared.campaign.row.RowVerdict.{RowVerdict}
use Rattle.lin_tool.specs.declared.campaign.row.RowVerdict.TheVariants.{Tolerated, Broken, Limit}
use Rattle.lin_tool.specs.declared.campaign.singles.Single.{Single}

-- items of one cell
abbrev pub items : List (List ℕ) → List ℕ
items texts = with_separators [] (codes ";") texts

-- the place of a single fault
abbrev pub place_cells : Parts → Option Single → List (List ℕ)
place_cells c None = [] ∷ [] ∷ [] ∷ []
place_cells c (Some s) =
    (named_table c s.table).name ∷ decimal s.entry ∷ frame_of_single c s ∷ []

-- the verdict, and what came of a row that isn't at the limit
abbrev pub outcome_cells : Parts → List ℕ → Row → List (List ℕ)
outcome_cells c word r =
    word
    ∷ items (map decimal r.lines)
    ∷ items (map (loss_text c) r.lost)
    ∷ items (map refusal_text r.refused)
    ∷ decimal r.slots
    ∷ decimal r.time_us
    ∷ decimal r.waiting
    ∷ []

abbrev pub verdict_cells : Parts → Row → RowVerdict → List (List ℕ)
verdict_cells c r Tolerated = outcome_cells c (codes "tolerated") r
verdict_cells c r Broken = outcome_cells c (codes "broken") r
verdict_cells c r (Limit n) = codes "limit" ∷ decimal n ∷ [] ∷ [] ∷ [] ∷ [] ∷ [] ∷ []

abbrev pub row_text : Parts → RowData → List ℕ
row_text c p =
    csv_line
    (decimal p.number
    ∷ faults_text c p.faults
    ∷ place_cells c p.single ++ decimal p.row.missed ∷ verdict_cells c p.row p.row.verdict)
