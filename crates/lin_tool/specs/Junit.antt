-- The judgements of a play as a report for what reads those of tests (JUnit's, in XML 1.0).
use Rattle.std.specs.Prelude.{ℕ, zero, suc, ◌+◌, ◌-◌, ◌==◌, ◌&&◌, ◌||◌, Bool, not, nat_le, nat_lt, if◌then◌else◌}
use Rattle.std.specs.Prelude.{List, [], ◌∷◌, ◌++◌, filter, flat_map, length, map, slice_index, slice_index_or, take, codes}
use Rattle.std.specs.Prelude.{Option, Some, None}
use Rattle.std.specs.List.{count_by, slice_split}
use Rattle.std.specs.Str.{is_utf8}
use Rattle.std.specs.Fmt.{decimal}
use Rattle.lin_parts.specs.declared.parts.Parts.{Parts}
use Rattle.lin_core.specs.Core.{CoreData}
use Rattle.lin_core.specs.declared.log.LogEntry.{LogEntry}
use Rattle.lin_log.specs.Words.{spaced_word}
use Rattle.lin_bench.specs.Files.{file_name}
use Rattle.lin_bench.specs.Played.{is_unmet}
use Rattle.lin_bench.specs.Texts.{found_text, what_text}
use Rattle.lin_bench.specs.Tests.{test_text}
use Rattle.lin_bench.specs.declared.files.ScriptFile.{ScriptFile}
use Rattle.lin_bench.specs.declared.got.Judgement.{Judgement}
use Rattle.lin_bench.specs.declared.place.LinePlace.{LinePlace}
use Rattle.lin_bench.specs.declared.tests.TestName.{TestName}
use Rattle.lin_tool.specs.Separated.{with_separators}
use Rattle.lin_tool.specs.declared.formats.Shown.{Shown}
use Rattle.lin_tool.specs.declared.junit.TestCase.{TestCase}
use Rattle.lin_tool.specs.declared.junit.TheConstants.{HEAD, SUITE_TAIL, TAIL}
use Rattle.lin_tool.specs.Placing.{placed_missed}

-- a byte as it stands in XML: `&`, `<`, `>` and `"` are escaped, and `?` stands for one that isn't
-- printable; those above 7F stand for themselves in a text that is UTF-8
abbrev pub xml_byte : Bool → ℕ → List ℕ
xml_byte is_text b =
    if b == 38 then codes "&amp;"
    else if b == 60 then codes "&lt;"
    else if b == 62 then codes "&gt;"
    else if b == 34 then codes "&quot;"
    else if nat_le 32 b && nat_le b 126 || is_text && nat_le 128 b then b ∷ []
    else codes "?"

abbrev pub xml_text : List ℕ → List ℕ
xml_text text = flat_map (xml_byte (is_utf8 text)) text

-- ---- a check that is in no test
-- the place of a line: in a file that the script includes after its name
abbrev pub case_mark : List ScriptFile → ℕ → List ℕ
case_mark fs zero = codes "line "
case_mark fs (suc i) = xml_text (file_name [] fs (suc i)) ++ codes ":"

abbrev pub case_place : List ScriptFile → LinePlace → List ℕ
case_place fs p = case_mark fs p.file ++ decimal p.line

-- what was judged of a line, under the script's name
abbrev pub case_name : List ℕ → List ScriptFile → LinePlace → List ℕ → List ℕ
case_name file fs p what =
    codes "<testcase classname=\""
    ++ (xml_text file
    ++ (codes "\" name=\""
    ++ (case_place fs p ++ (codes ":" ++ (xml_text (spaced_word what) ++ codes "\"")))))

-- where it isn't so, what is, and the line of `play --where`
abbrev pub case_end : List ℕ → Option (List ℕ) → List ℕ
case_end missed None = codes "/>\n"
case_end missed (Some found) =
    codes ">\n<failure message=\""
    ++ (xml_text found
    ++ (codes "\">" ++ (xml_text missed ++ codes "</failure>\n</testcase>\n")))

-- a judgement
abbrev pub case_text : List ℕ → List ScriptFile → Parts → List LogEntry → Judgement → List ℕ
case_text file fs c log j =
    case_name file fs j.place (what_text c j.judged)
    ++ case_end (placed_missed file fs c log j) (found_text c j.judged)

-- a check that is in no test, and one that failed
abbrev pub is_untested : Judgement → Bool
is_untested j = j.place.test == 0

abbrev pub is_failed_untested : Judgement → Bool
is_failed_untested j = is_untested j && is_unmet j.judged

abbrev pub untested_text : List ℕ → List ScriptFile → Parts → List LogEntry → Judgement → List ℕ
untested_text file fs c log j = if is_untested j then case_text file fs c log j else []

-- ---- a test
-- the checks of test t
abbrev pub in_test : ℕ → List Judgement → List Judgement
in_test t js = filter (λ (j : Judgement). j.place.test == t) js

-- the checks that failed, as `play --where` says them, without the ends of the lines
abbrev pub missed_texts : List ℕ → List ScriptFile → Parts → List LogEntry → List Judgement → List (List ℕ)
missed_texts file fs c log js =
    map (placed_missed file fs c log) (filter (λ (j : Judgement). is_unmet j.judged) js)

-- how many checks a test has, and what is said of those that failed
abbrev pub test_case : List ℕ → List ScriptFile → Parts → List LogEntry → List Judgement → TestCase
test_case file fs c log js = record { checks = length js; missed = missed_texts file fs c log js }

-- those of so many tests, of which the first has number t
abbrev pub test_cases : List ℕ → List ScriptFile → Parts → List LogEntry → ℕ → ℕ → List Judgement → List TestCase
test_cases file fs c log t zero js = []
test_cases file fs c log t (suc n) js =
    test_case file fs c log (in_test t js) ∷ test_cases file fs c log (t + 1) n js

abbrev pub has_failed : TestCase → Bool
has_failed case = nat_lt 0 (length case.missed)

-- texts with a line feed between two
abbrev pub xml_texts : List (List ℕ) → List ℕ
xml_texts texts = with_separators [] (10 ∷ []) (map xml_text texts)

abbrev pub test_end : TestCase → List ℕ
test_end case =
    if length case.missed == 0 then codes "/>\n"
    else codes ">\n<failure message=\""
    ++ (decimal (length case.missed)
    ++ (codes " of "
    ++ (decimal case.checks
    ++ (codes " not met\">" ++ (xml_texts case.missed ++ codes "</failure>\n</testcase>\n")))))

abbrev pub test_case_text : List ℕ → TestName → TestCase → List ℕ
test_case_text file name case =
    codes "<testcase classname=\""
    ++ (xml_text file
    ++ (codes "\" name=\"" ++ (xml_text (test_text name) ++ (codes "\"" ++ test_end case))))

abbrev pub test_case_texts : List ℕ → List TestName → List TestCase → List ℕ
test_case_texts file (n ∷ ns) (k ∷ ks) = test_case_text file n k ++ test_case_texts file ns ks
test_case_texts file ns ks = []

-- ---- the report
-- what stands before so many cases, of which so many failed and so many have an error
abbrev pub suite_head : List ℕ → ℕ → ℕ → ℕ → List ℕ
suite_head file cases failed errors =
    codes "<testsuite name=\""
    ++ (xml_text file
    ++ (codes "\" tests=\""
    ++ (decimal cases
    ++ (codes "\" failures=\""
    ++ (decimal failed
    ++ (codes "\" errors=\"" ++ (decimal errors ++ codes "\" skipped=\"0\">\n")))))))

-- the judgements on this log, under the script's name: a case for each that is in no test, and then a case
-- for each test
abbrev pub suite : List ℕ → List ScriptFile → Parts → List LogEntry → List TestName → List Judgement → List ℕ
suite file fs c log names js =
    let cases = test_cases file fs c log 1 (length names) js
    in suite_head file (count_by is_untested js + length names)
    (count_by is_failed_untested js + count_by has_failed cases) 0
    ++ (flat_map (untested_text file fs c log) js ++ (test_case_texts file names cases ++ SUITE_TAIL.now))

abbrev pub junit : List ℕ → List ScriptFile → Parts → List LogEntry → List TestName → List Judgement → List ℕ
junit file fs c log names js = HEAD.now ++ (suite file fs c log names js ++ TAIL.now)

-- the same of a core whose log is shown so, in a play of a script of this name
abbrev pub shown_suite : Shown → List ℕ → CoreData → List ℕ
shown_suite s script core = suite script s.files.now core.cluster core.log s.tests.now s.judgements.now

abbrev pub shown_junit : Shown → List ℕ → CoreData → List ℕ
shown_junit s script core = junit script s.files.now core.cluster core.log s.tests.now s.judgements.now

-- ---- a script that wasn't played, by the lines about that, each with its end
abbrev pub without_last_end : List ℕ → List ℕ
without_last_end lines =
    if slice_index lines (length lines - 1) == 10 then take (length lines - 1) lines else lines

abbrev pub xml_lines : List ℕ → List ℕ
xml_lines lines = xml_texts (slice_split (λ b. b == 10) (without_last_end lines))

abbrev pub first_of_lines : List ℕ → List ℕ
first_of_lines lines = slice_index_or (slice_split (λ b. b == 10) lines) 0 []

-- one case with an error
abbrev pub error_suite : List ℕ → List ℕ → List ℕ
error_suite file lines =
    suite_head file 1 0 1
    ++ (codes "<testcase classname=\""
    ++ (xml_text file
    ++ (codes "\" name=\"script\">\n<error message=\""
    ++ (xml_text (first_of_lines lines)
    ++ (codes "\">" ++ (xml_lines lines ++ (codes "</error>\n</testcase>\n" ++ SUITE_TAIL.now)))))))

-- a report with suites
abbrev pub report_of : List ℕ → List ℕ
report_of suites = HEAD.now ++ (suites ++ TAIL.now)
