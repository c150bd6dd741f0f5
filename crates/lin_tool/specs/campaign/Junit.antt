-- The rows of a campaign as a report for what reads those of tests (JUnit's, in XML 1.0).
use Rattle.std.specs.Prelude.{ℕ, ◌==◌, if◌then◌else◌, List, [], ◌∷◌, ◌++◌, codes, length, map, true}
use Rattle.std.specs.Fmt.{decimal}
use Rattle.lin_parts.specs.declared.parts.Parts.{Parts}
use Rattle.lin_core.specs.declared.log.LogEntry.{LogEntry}
use Rattle.lin_bench.specs.declared.files.ScriptFile.{ScriptFile}
use Rattle.lin_bench.specs.declared.got.Judgement.{Judgement}
use Rattle.lin_tool.specs.Junit.{xml_text}
use Rattle.lin_tool.specs.Placing.{placed_missed}
use Rattle.lin_tool.specs.Separated.{with_separators}
use Rattle.lin_tool.specs.campaign.Checks.{first_checks}
use Rattle.lin_tool.specs.campaign.Shown.{RowData}
use Rattle.lin_tool.specs.campaign.Text.{row_name}
use Rattle.lin_tool.specs.declared.campaign.row.RowVerdict.{RowVerdict}
use Rattle.lin_tool.specs.declared.campaign.row.RowVerdict.TheVariants.{Tolerated, Broken, Limit}

-- what stands before so many cases
abbrev pub report_head : List ℕ → ℕ → List ℕ
report_head script cases =
    codes "<?xml version=\"1.0\" encoding=\"UTF-8\"?>\n<testsuites>\n<testsuite name=\""
    ++ (xml_text script ++ (codes "\" tests=\"" ++ (decimal cases ++ codes "\">\n")))

abbrev pub report_end : List ℕ
report_end = codes "</testsuite>\n</testsuites>\n"

-- the lines of `play --where` for the first failures of lines, without the end of the last one
abbrev pub failure_lines : List ℕ → List ScriptFile → Parts → List LogEntry → List Judgement → List ℕ
failure_lines script fs c log js =
    with_separators [] (10 ∷ [])
    (map (λ j. xml_text (placed_missed script fs c log j)) (first_checks c true js))

abbrev pub failure : List ℕ → List ℕ → List ℕ
failure message lines =
    codes ">\n<failure message=\""
    ++ (message ++ (codes "\">" ++ (lines ++ codes "</failure>\n</testcase>\n")))

-- the failure of a row with failed expectations
abbrev pub broken_failure : List ℕ → List ScriptFile → Parts → RowData → List ℕ
broken_failure script fs c p =
    failure (decimal (length p.row.lines) ++ codes " unmet")
    (failure_lines script fs c p.log p.judgements)

abbrev pub case_end : List ℕ → List ScriptFile → Parts → RowData → RowVerdict → List ℕ
case_end script fs c p Tolerated = codes "/>\n"
case_end script fs c p Broken = broken_failure script fs c p
case_end script fs c p (Limit n) =
    failure (codes "slot limit")
    (xml_text script ++ (codes ":" ++ (decimal n ++ codes ": slot limit")))

abbrev pub case_text : List ℕ → List ScriptFile → Parts → RowData → List ℕ
case_text script fs c p =
    codes "<testcase classname=\""
    ++ (xml_text script
    ++ (codes "\" name=\""
    ++ (xml_text (row_name c p) ++ (codes "\"" ++ case_end script fs c p p.row.verdict))))

-- row 0 has none
abbrev pub row_case : List ℕ → List ScriptFile → Parts → RowData → List ℕ
row_case script fs c p = if p.number == 0 then [] else case_text script fs c p
