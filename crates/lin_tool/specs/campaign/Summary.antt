-- What is counted over the rows of a campaign. The undisturbed play isn't one of these.
use Rattle.std.specs.Prelude.{◌≡◌, ℕ, suc, zero, ◌+◌, ◌≤◌, ◌==◌, ◌&&◌, ◌||◌, Bool, true, false, not, max}
use Rattle.std.specs.Prelude.{nat_lt, if◌then◌else◌, List, [], ◌∷◌, ◌++◌, All, codes, count_by}
use Rattle.std.specs.Prelude.{filter, find, flat_map, fold, length, map, slice_index_or, Option}
use Rattle.std.specs.Prelude.{Some, None, option_map}
use Rattle.std.specs.Fmt.{decimal}
use Rattle.std.specs.List.{list_all, list_any}
use Rattle.std.specs.Option.{option_map_or, option_or}
use Rattle.lin_frame.specs.Words.{numbers}
use Rattle.lin_core.specs.History.{is_in}
use Rattle.lin_log.specs.Words.{spaced_word}
use Rattle.lin_parts.specs.declared.parts.Parts.{Parts}
use Rattle.lin_bench.specs.Texts.{what_text}
use Rattle.lin_bench.specs.declared.faults.SlotFault.{SlotFault}
use Rattle.lin_bench.specs.declared.got.Judgement.{Judgement}
use Rattle.lin_tool.specs.campaign.FaultNames.{faults_text}
use Rattle.lin_tool.specs.declared.campaign.summary.JudgedScript.{JudgedScript}
use Rattle.lin_tool.specs.declared.campaign.summary.LineCount.{LineCount}
use Rattle.lin_tool.specs.declared.campaign.summary.Worst.{Worst}
use Rattle.lin_tool.specs.declared.campaign.row.Row.{Row}
use Rattle.lin_tool.specs.declared.campaign.row.RowVerdict.{RowVerdict}
use Rattle.lin_tool.specs.declared.campaign.row.RowVerdict.TheVariants.{Tolerated, Broken, Limit}

-- ---- verdicts
abbrev pub is_tolerated : RowVerdict → Bool
is_tolerated Tolerated = true
is_tolerated verdict = false

abbrev pub is_broken_verdict : RowVerdict → Bool
is_broken_verdict Broken = true
is_broken_verdict verdict = false

abbrev pub is_limited : RowVerdict → Bool
is_limited (Limit n) = true
is_limited verdict = false

-- ---- lines
-- the lines that a row breaks
abbrev pub broken_lines : Row → List ℕ
broken_lines r = if is_broken_verdict r.verdict then r.lines else []

abbrev pub breaks : ℕ → Row → Bool
breaks n r = is_in (broken_lines r) n

abbrev pub has_judgement : List Judgement → ℕ → Bool
has_judgement js n = list_any (λ (j : Judgement). j.place.own == n) js

abbrev pub judged_lines : List Judgement → List ℕ
judged_lines js = map (λ (j : Judgement). j.place.own) js

-- a number that is above these
abbrev pub bound_of : List ℕ → ℕ
bound_of ns = fold (λ m n. max m (n + 1)) 0 ns

-- the lines that are counted, by rising number: those with a judgement of the undisturbed play, and
-- those that some row breaks
abbrev pub is_counted : List Judgement → List Row → ℕ → Bool
is_counted js rows n = has_judgement js n || list_any (breaks n) rows

abbrev pub counted_lines : List Judgement → List Row → List ℕ
counted_lines js rows =
    filter (is_counted js rows)
    (numbers (bound_of (judged_lines js ++ flat_map broken_lines rows)))

-- what line n expects in the undisturbed play
abbrev pub expectation : Parts → List Judgement → ℕ → List ℕ
expectation c js n =
    option_map_or (λ (j : Judgement). codes ":" ++ spaced_word (what_text c j.judged))
    (find (λ (j : Judgement). j.place.own == n) js) []

abbrev pub broken_mark : ℕ → ℕ → List ℕ
broken_mark zero all = codes " (never broken)"
broken_mark (suc n) all = if suc n == all then codes " (always broken)" else []

abbrev pub line_count_text : List ℕ → Parts → List Judgement → List Row → ℕ → List ℕ
line_count_text script c js rows n =
    let count = count_by (breaks n) rows
    in script
    ++ (codes ":"
    ++ (decimal n
    ++ (codes ": "
    ++ (decimal count
    ++ (codes " of "
    ++ (decimal (length rows)
    ++ (expectation c js n ++ (broken_mark count (length rows) ++ 10 ∷ []))))))))

-- nothing for a line that isn't counted
abbrev pub line_if_counted : List ℕ → Parts → List Judgement → List Row → ℕ → List ℕ
line_if_counted script c js rows n =
    if is_counted js rows n then line_count_text script c js rows n else []

abbrev pub lines_text : List ℕ → Parts → List Judgement → List Row → List ℕ
lines_text script c js rows = flat_map (line_count_text script c js rows) (counted_lines js rows)

-- ---- the last line
-- a row with its number and its faults
pub record NumberedRow : Type 0 where
  pub number : ℕ
  pub faults : List SlotFault
  pub row : Row

abbrev pub rows_of : List NumberedRow → List Row
rows_of rows = map (λ (r : NumberedRow). r.row) rows

abbrev pub lines_broken : Row → ℕ
lines_broken r = length (broken_lines r)

-- the first row with the most lines, if a row breaks one
abbrev pub worse : Option NumberedRow → NumberedRow → Option NumberedRow
worse None r = if nat_lt 0 (lines_broken r.row) then Some r else None
worse (Some w) r = if nat_lt (lines_broken w.row) (lines_broken r.row) then Some r else Some w

abbrev pub worst_after : Option NumberedRow → List NumberedRow → Option NumberedRow
worst_after w [] = w
worst_after w (r ∷ rs) = worst_after (worse w r) rs

-- the faults of the worst row
abbrev pub worst_faults : List NumberedRow → List SlotFault
worst_faults rows = option_map_or (λ (w : NumberedRow). w.faults) (worst_after None rows) []

abbrev pub line_or_lines : ℕ → List ℕ
line_or_lines count = if count == 1 then codes " line" else codes " lines"

abbrev pub worst_lines : Parts → List SlotFault → ℕ → List ℕ
worst_lines c faults count =
    codes "; worst "
    ++ (faults_text c faults
    ++ (codes ", " ++ (decimal count ++ line_or_lines count)))

abbrev pub worst_text : Parts → Option NumberedRow → List ℕ
worst_text c None = []
worst_text c (Some w) = worst_lines c w.faults (lines_broken w.row)

abbrev pub numbers_text : Parts → List NumberedRow → List ℕ
numbers_text c rows =
    let rs = rows_of rows
    in codes "campaign: "
    ++ (decimal (length rs)
    ++ (codes " rows, "
    ++ (decimal (count_by (λ (r : Row). is_tolerated r.verdict) rs)
    ++ (codes " tolerated, "
    ++ (decimal (count_by (λ (r : Row). is_broken_verdict r.verdict) rs)
    ++ (codes " broken, "
    ++ (decimal (count_by (λ (r : Row). is_limited r.verdict) rs)
    ++ (codes " at the slot limit, "
    ++ (decimal (count_by (λ (r : Row). nat_lt 0 r.missed) rs)
    ++ (codes " with faults that missed"
    ++ (worst_text c (worst_after None rows) ++ 10 ∷ [])))))))))))

-- ---- counters
pub record RowCountsData : Type 0 where
  pub lines : List LineCount
  pub rows : ℕ
  pub tolerated : ℕ
  pub broken : ℕ
  pub limited : ℕ
  pub missed : ℕ
  pub worst : Option Worst

-- what is counted of line n
abbrev pub line_at : List LineCount → ℕ → LineCount
line_at counts n = slice_index_or counts n (record { judgement = None; broken = 0; last = 0 })

-- the place of the first judgement on line n, where these begin at place i
abbrev pub place_from : ℕ → ℕ → List Judgement → Option ℕ
place_from i n [] = None
place_from i n (j ∷ js) = if j.place.own == n then Some i else place_from (i + 1) n js

-- a count of line n: the place of its judgement among those of the undisturbed play, and how many of
-- these rows break it
pub record IsCountOf (js : List Judgement) (rows : List Row) (n : ℕ) (l : LineCount) : Type 0 where
  pub judgement : l.judgement ≡ place_from 0 n js
  pub broken : l.broken ≡ count_by (breaks n) rows

abbrev pub worst_of : NumberedRow → Worst
worst_of w = record { row = w.number; lines = lines_broken w.row }

-- the counts of these rows
pub record AreCountsOf (js : List Judgement) (rows : List NumberedRow) (c : RowCountsData) : Type 0 where
  pub lines : (n : ℕ) → IsCountOf js (rows_of rows) n (line_at c.lines n)
  pub rows_are : c.rows ≡ length (rows_of rows)
  pub tolerated : c.tolerated ≡ count_by (λ (r : Row). is_tolerated r.verdict) (rows_of rows)
  pub broken : c.broken ≡ count_by (λ (r : Row). is_broken_verdict r.verdict) (rows_of rows)
  pub limited : c.limited ≡ count_by (λ (r : Row). is_limited r.verdict) (rows_of rows)
  pub missed : c.missed ≡ count_by (λ (r : Row). nat_lt 0 r.missed) (rows_of rows)
  pub worst : c.worst ≡ option_map worst_of (worst_after None rows)

-- one more row is counted, whatever its faults are
abbrev pub CountsRow : ℕ → Row → RowCountsData → RowCountsData → Type 0
CountsRow number row old new =
    (js : List Judgement) → (rows : List NumberedRow) → (faults : List SlotFault)
    → AreCountsOf js rows old
    → AreCountsOf js (rows ++ record { number = number; faults = faults; row = row } ∷ []) new

-- a line with its judgement, the one at this place if it has none yet
abbrev pub first_at : ℕ → LineCount → LineCount
first_at place l = record l { judgement = option_or l.judgement (Some place) }

-- a line as one more row breaks it, the `row`-th that is counted: each row counts once
abbrev pub counted_by : ℕ → LineCount → LineCount
counted_by row l =
    if l.last == row then l
    else record l {
      broken = l.broken + 1;
      last = row;
    }

-- what holds of all rows by which this line of a script is counted so, by which the counters are so, and of
-- which the worst row has these faults
abbrev pub WhereLineIs : JudgedScript → RowCountsData → ℕ → LineCount → (List Row → Type 0) → Type 0
WhereLineIs script counts n one Holds =
    (rows : List Row) → IsCountOf script.judgements.now rows n one → counts.rows ≡ length rows → Holds rows

abbrev pub WhereCounted : JudgedScript → RowCountsData → (List Row → Type 0) → Type 0
WhereCounted script counts Holds =
    (rows : List NumberedRow) → AreCountsOf script.judgements.now rows counts → Holds (rows_of rows)

abbrev pub WhereWorst : RowCountsData → List SlotFault → (List NumberedRow → Type 0) → Type 0
WhereWorst counts faults Holds =
    (js : List Judgement) → (rows : List NumberedRow) → AreCountsOf js rows counts
    → worst_faults rows ≡ faults → Holds rows

-- the line of a line of such a script, the same if it is counted, and all these lines
abbrev pub script_count_line : JudgedScript → List Row → ℕ → List ℕ
script_count_line s rows n = line_count_text s.name.now s.cluster.now s.judgements.now rows n

abbrev pub script_line_if_counted : JudgedScript → List Row → ℕ → List ℕ
script_line_if_counted s rows n = line_if_counted s.name.now s.cluster.now s.judgements.now rows n

abbrev pub script_lines : JudgedScript → List Row → List ℕ
script_lines s rows = lines_text s.name.now s.cluster.now s.judgements.now rows

-- lines that a test passes are changed, and the others are as they were
abbrev pub AreChanged : (ℕ → Bool) → (LineCount → LineCount) → List LineCount → List LineCount → Type 0
AreChanged test change old new =
    (n : ℕ) → line_at new n ≡ (if test n then change (line_at old n) else line_at old n)

-- 1 for what passes a test
abbrev pub one_if : Bool → ℕ
one_if test = if test then 1 else 0

-- the worst row, after one more that breaks so many lines
abbrev pub worse_of : Option Worst → ℕ → ℕ → Option Worst
worse_of worst row count =
    if nat_lt (option_map_or (λ (w : Worst). w.lines) worst 0) count
    then Some (record { row = row; lines = count }) else worst

-- no counter is above the number of rows
abbrev pub IsLineCount : ℕ → LineCount → Type 0
IsLineCount rows l = (l.broken ≤ l.last) × (l.last ≤ rows)

pub record AreRowCounts (c : RowCountsData) : Type 0 where
  pub tolerated : c.tolerated ≤ c.rows
  pub broken : c.broken ≤ c.rows
  pub limited : c.limited ≤ c.rows
  pub missed : c.missed ≤ c.rows
  pub lines : All (IsLineCount c.rows) c.lines

-- ---- what is denied
abbrev pub some_not_tolerated : List Row → Bool
some_not_tolerated rows = list_any (λ (r : Row). not (is_tolerated r.verdict)) rows

-- no row breaks some line with a judgement of the undisturbed play
abbrev pub some_never_broken : List Judgement → List Row → Bool
some_never_broken js rows =
    list_any (λ (j : Judgement). list_all (λ r. not (breaks j.place.own r)) rows) js

abbrev pub is_denied : Bool → Bool → List Judgement → List Row → Bool
is_denied broken never js rows =
    broken && some_not_tolerated rows || never && some_never_broken js rows
