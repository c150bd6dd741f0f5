-- The rows of a campaign as lines of text.
use Rattle.std.specs.Prelude.{ℕ, suc, zero, ◌==◌, Bool, not, if◌then◌else◌, List, [], ◌∷◌, ◌++◌, codes}
use Rattle.std.specs.Prelude.{filter, flat_map, length, map, Option, Some, None}
use Rattle.std.specs.Borrow.{Bor}
use Rattle.std.specs.Fmt.{decimal}
use Rattle.std.specs.List.{list_any}
use Rattle.lin_core.specs.Tables.{cause_word, refusal_word}
use Rattle.lin_parts.specs.Cluster.{named_table, node_of}
use Rattle.lin_parts.specs.declared.parts.Parts.{Parts}
use Rattle.lin_tool.specs.campaign.FaultNames.{faults_text}
use Rattle.lin_tool.specs.campaign.Row.{is_same_loss, is_same_refusal}
use Rattle.lin_tool.specs.campaign.Shown.{RowData}
use Rattle.lin_tool.specs.Separated.{with_separators}
use Rattle.lin_tool.specs.campaign.Slots.{frame_or_entry_name}
use Rattle.lin_tool.specs.declared.campaign.row.LostMessage.{LostMessage}
use Rattle.lin_tool.specs.declared.campaign.row.RefusedStep.{RefusedStep}
use Rattle.lin_tool.specs.declared.campaign.row.Row.{Row}
use Rattle.lin_tool.specs.declared.campaign.row.RowVerdict.{RowVerdict}
use Rattle.lin_tool.specs.declared.campaign.row.RowVerdict.TheVariants.{Tolerated, Broken, Limit}
use Rattle.lin_tool.specs.declared.campaign.singles.Single.{Single}

-- ---- what a row is called
abbrev pub frame_of_single : Parts → Single → List ℕ
frame_of_single c s = frame_or_entry_name c s.table s.entry s.frame

-- the place of a single fault: its table, its entry and its frame
abbrev pub single_text : Parts → Option Single → List ℕ
single_text c None = []
single_text c (Some s) =
    codes " ("
    ++ ((named_table c s.table).name
    ++ (codes " " ++ (decimal s.entry ++ (codes " " ++ (frame_of_single c s ++ codes ")")))))

abbrev pub row_name : Parts → RowData → List ℕ
row_name c p = faults_text c p.faults ++ single_text c p.single

-- ---- what came of it
abbrev pub failed_lines : List ℕ → List ℕ
failed_lines lines =
    decimal (length lines)
    ++ ((if length lines == 1 then codes " unmet in line" else codes " unmet in lines")
    ++ flat_map (λ n. codes " " ++ decimal n) lines)

abbrev pub loss_text : Parts → LostMessage → List ℕ
loss_text c l =
    (node_of c l.host).name
    ++ (codes " " ++ (decimal l.number ++ (codes " " ++ cause_word l.cause)))

abbrev pub refusal_text : RefusedStep → List ℕ
refusal_text r = decimal r.line ++ (codes " " ++ refusal_word r.refusal)

-- the items that another row hasn't
abbrev pub without : {X : Type 0} → (X → X → Bool) → List X → List X → List X
without same others xs = filter (λ x. not (list_any (λ y. same y x) others)) xs

abbrev pub missed_text : ℕ → List ℕ
missed_text zero = []
missed_text (suc n) = codes "; " ++ (decimal (suc n) ++ codes " missed")

-- what the undisturbed play, if it is given, lost and refused isn't repeated
abbrev pub known_losses : Option (Bor Row) → List LostMessage
known_losses None = []
known_losses (Some r) = r.now.lost

abbrev pub known_refusals : Option (Bor Row) → List RefusedStep
known_refusals None = []
known_refusals (Some r) = r.now.refused

abbrev pub losses_text : Parts → List LostMessage → List LostMessage → List ℕ
losses_text c known lost =
    with_separators (codes "; lost ") (codes ", ") (map (loss_text c) (without is_same_loss known lost))

abbrev pub refusals_text : List RefusedStep → List RefusedStep → List ℕ
refusals_text known refused =
    with_separators (codes "; refused ") (codes ", ")
    (map refusal_text (without is_same_refusal known refused))

abbrev pub rest_text : Parts → List LostMessage → List RefusedStep → Row → List ℕ
rest_text c lost refused r =
    missed_text r.missed ++ (losses_text c lost r.lost ++ refusals_text refused r.refused)

abbrev pub outcome_text : Parts → List LostMessage → List RefusedStep → Row → RowVerdict → List ℕ
outcome_text c lost refused r Tolerated = codes "tolerated" ++ rest_text c lost refused r
outcome_text c lost refused r Broken = failed_lines r.lines ++ rest_text c lost refused r
outcome_text c lost refused r (Limit n) = codes "slot limit in line " ++ decimal n

-- a row; these messages were lost, and these steps refused, in the undisturbed play
abbrev pub row_text : Parts → List LostMessage → List RefusedStep → RowData → List ℕ
row_text c lost refused p =
    row_name c p
    ++ (codes ": " ++ (outcome_text c lost refused p.row p.row.verdict ++ 10 ∷ []))
