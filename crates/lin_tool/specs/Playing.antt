-- What the program's play answers.
use Rattle.std.specs.Prelude.{◌≡◌, ◌≢◌, ◌⊎◌, ◌++◌, ◌==◌, ◌&&◌, ◌||◌, ℕ, zero, suc, ◌≤◌, Bool, true, false, not, nat_lt, if◌then◌else◌}
use Rattle.std.specs.Prelude.{List, [], ◌∷◌, count_by, filter, fold, length, map, reverse, Option, Some, None, IfSome, Result, Ok, Err}
use Rattle.std.specs.Borrow.{Bor}
use Rattle.std.specs.Io.KnownBytes.{Appends, Keeps}
use Rattle.lin_text.specs.Written.{WritesText}
use Rattle.lin_parts.specs.declared.parts.Parts.{Parts}
use Rattle.lin_log.specs.declared.fault.ScriptFault.TheVariants as script
use Rattle.lin_values.specs.Coded.{CodedData}
use Rattle.lin_bench.specs.Files.{SourceData, file_name, source_data, source_of}
use Rattle.lin_bench.specs.Scripts.{bad_lines, read}
use Rattle.lin_bench.specs.Meanings.{with_meanings}
use Rattle.lin_bench.specs.Played.{Run, played_under, some_unmet}
use Rattle.lin_bench.specs.Plays.{OverfillsUnder, has_rule}
use Rattle.lin_bench.specs.Tests.{test_names}
use Rattle.lin_bench.specs.Resolved.{is_used, missing_file}
use Rattle.lin_bench.specs.declared.faults.SlotFault.{SlotFault}
use Rattle.lin_bench.specs.declared.parameters.GivenParameter.{GivenParameter}
use Rattle.lin_bench.specs.declared.fault.PlayFault.{PlayFault}
use Rattle.lin_bench.specs.declared.fault.PlayFault.TheVariants as play
use Rattle.lin_bench.specs.declared.got.Judgement.{Judgement}
use Rattle.lin_bench.specs.declared.line.ScriptLine.{ScriptLine}
use Rattle.lin_bench.specs.declared.place.LinePlace.{LinePlace}
use Rattle.lin_bench.specs.declared.files.ScriptFile.{ScriptFile}
use Rattle.lin_bench.specs.declared.reason.Reason.{Reason}
use Rattle.lin_bench.specs.declared.reason.Reason.TheVariants as reason
use Rattle.lin_bench.specs.declared.rules.NodeLimits.{NodeLimits}
use Rattle.lin_bench.specs.declared.tests.TestName.{TestName}
use Rattle.lin_tool.specs.FaultText.{fault_line, given_faults}
use Rattle.lin_tool.specs.Formats.{Begins, log_in_format, shown_log}
use Rattle.lin_tool.specs.Opening.{room_for}
use Rattle.lin_tool.specs.Placing.{bad_text, missed_text}
use Rattle.lin_core.specs.Core.{CoreData}
use Rattle.lin_core.specs.declared.log.LogEntry.{LogEntry}
use Rattle.lin_text.specs.declared.fault.WriteFailed.{WriteFailed as Failed}
use Rattle.lin_tool.specs.Replaying.{RefusesScript}
use Rattle.lin_tool.specs.Tally.{missed_faults, tally_text}
use Rattle.lin_tool.specs.declared.fault.Fault.{Fault}
use Rattle.lin_tool.specs.declared.fault.Fault.TheVariants.{BadBenchLine, BadFaults, SlotLimit, LogFull, Unmet}
use Rattle.lin_tool.specs.declared.fault.Fault.TheVariants.{ScriptTooLong, OutOfMemory, UnusedParameter}
use Rattle.lin_tool.specs.declared.fault.Fault.TheVariants.{ReadFailed, WriteFailed, UnreadFile, LongFile}
use Rattle.lin_tool.specs.declared.fault_text.FaultReason.{FaultReason}
use Rattle.lin_tool.specs.declared.formats.Format.{Format}
use Rattle.lin_tool.specs.declared.formats.Format.TheVariants.{Log}
use Rattle.lin_tool.specs.declared.formats.Shown.{Shown}
use Rattle.lin_tool.specs.declared.opening.Opened.{Opened}
use Rattle.lin_tool.specs.declared.play_command.Script.{Script as PlayedScript}

-- the program's fault for one of playing
abbrev pub play_fault : PlayFault → Fault
play_fault (play.SlotLimit n) = SlotLimit n None
play_fault play.LogFull = LogFull
play_fault play.OutOfMemory = OutOfMemory

-- the program's fault for a line that makes more slots than a play may have, in a script with these files
abbrev pub included_file : List ScriptFile → ℕ → Option (List ℕ)
included_file fs zero = None
included_file fs (suc i) = Some (file_name [] fs (suc i))

abbrev pub limit_fault : List ScriptFile → LinePlace → Fault
limit_fault fs p = SlotLimit p (included_file fs p.file)

-- the program's fault for a bad line, which was told; where each bad line is told, the last one may include a
-- file that isn't read
abbrev pub fault_of_bad : LinePlace → Reason → Result Unit Failed → Fault
fault_of_bad p (reason.Unread name) told = UnreadFile told
fault_of_bad p (reason.LongFile name) told = LongFile told
fault_of_bad p why told = BadBenchLine p told

abbrev pub last_reason : Reason → List (LinePlace × Reason) → Reason
last_reason why [] = why
last_reason why (b ∷ bs) = last_reason b.1 bs

abbrev pub bad_fault : Option (Bor (List ℕ)) → Parts → Option CodedData → List NodeLimits → SourceData → LinePlace × Reason
    → Result Unit Failed → Fault
bad_fault None c k limits s first told = fault_of_bad first.0 first.1 told
bad_fault (Some file) c k limits s first told = fault_of_bad first.0 (last_reason first.1 (bad_lines c k limits s)) told

-- a bench script without files and parameters, of some bytes: where the reader tells bytes, they are those
pub record IsReadScript (told : Option (List ℕ)) (s : SourceData) : Type 0 where
  pub bytes : List ℕ
  pub known : IfSome told (λ b. bytes ≡ b)
  pub short : length bytes ≤ 16777216
  pub is : s ≡ source_of bytes

-- the order of bytes
abbrev pub goes_before : List ℕ → List ℕ → Bool
goes_before ms [] = false
goes_before [] (n ∷ ns) = true
goes_before (m ∷ ms) (n ∷ ns) = nat_lt m n || m == n && goes_before ms ns

-- the first of the parameters, in this order, that no line of a script uses
abbrev pub least_name : List ℕ → List ℕ → List ℕ
least_name m n = if goes_before n m then n else m

abbrev pub first_of_names : List (List ℕ) → Option (List ℕ)
first_of_names [] = None
first_of_names (n ∷ ns) = Some (fold least_name n ns)

abbrev pub given_names : List GivenParameter → List (List ℕ)
given_names gs = map (λ (g : GivenParameter). g.name.now) gs

abbrev pub unused_names : SourceData → List (List ℕ) → List (List ℕ)
unused_names s ns = filter (λ n. not (is_used s n)) ns

abbrev pub unused_parameter : SourceData → Option (List ℕ)
unused_parameter s = first_of_names (unused_names s (given_names s.given))

-- of several scripts one may leave to others what it doesn't use
abbrev pub unused_alone : PlayedScript → Option (List ℕ)
unused_alone script = if script.is_alone then unused_parameter (source_data script.source) else None

-- the files that are read for a script, one after another: each is the first one that is missing if it has only those
-- before it
abbrev pub AreMissing : SourceData → List ScriptFile → List ScriptFile → Type 0
AreMissing s before [] = Unit
AreMissing s before (f ∷ fs) =
    (missing_file (record s { files = before }) ≡ Some f.name) × AreMissing s (before ++ f ∷ []) fs

-- a script that was read with them
pub record ReadScriptData : Type 0 where
  pub text : List ℕ
  pub files : List ScriptFile

-- none is missing after them, or so many are read at most
abbrev pub AreIncluded : SourceData → List ScriptFile → Type 0
AreIncluded s fs =
    AreMissing s [] fs × ((missing_file (record s { files = fs }) ≡ None) ⊎ (length fs ≡ 1000000))

abbrev pub ChecksUsed : Result Unit Fault → Option (List ℕ) → Type 0
ChecksUsed (Ok done) unused = unused ≡ None
ChecksUsed (Err (UnusedParameter name)) unused = unused ≡ Some name
ChecksUsed (Err OutOfMemory) unused = Unit {0}
ChecksUsed (Err fault) unused = ⊥

-- the lines of a bench script, played under faults, strictly or not, come to this
abbrev pub ComesTo : List SlotFault → Bool → Option CodedData → List NodeLimits → SourceData → Parts → ℕ → ℕ
    → Result Run LinePlace → Type 0
ComesTo fs strict k limits s c opening capacity end =
    (ls : List (LinePlace × ScriptLine)) × (read c k limits s ≡ Ok ls)
    × (played_under strict c opening capacity fs ls ≡ end)

-- judgements; where what values mean is known, with that
abbrev pub judgements_with_meanings : Option CodedData → List Judgement → List Judgement
judgements_with_meanings None js = js
judgements_with_meanings (Some k) js = with_meanings k js

-- what signals mean, where values are shown as that
abbrev pub coding_if_physical : Option CodedData → Bool → Option CodedData
coding_if_physical k is_physical = if is_physical then k else None

-- the log of a run with these tests in a format, with what signals mean, where that is shown
abbrev pub run_as : Format → Option CodedData → Bool → Option (Bor (List ℕ)) → List ScriptFile → Parts → ℕ → ℕ
    → List TestName → Run → List ℕ
run_as format k is_physical named files c opening capacity ts run =
    log_in_format format named files c (coding_if_physical k is_physical) opening capacity (reverse run.bench.past) ts
    (judgements_with_meanings k run.judgements)

-- a text was written, as far as the writer took it
abbrev pub WritesTextOrPart : Option (List ℕ) → Option (List ℕ) → List ℕ → Type 0
WritesTextOrPart silent heard text = (outcome : Result Unit Failed) × WritesText silent heard outcome text

-- what is told of a play beside its judgements: how many of its faults changed no slot, if there are such,
-- and of a strict one a line of numbers
abbrev pub counts_text : Bool → ℕ → ℕ → Parts → List LogEntry → List Judgement → List ℕ
counts_text strict faults missed c log js =
    missed_faults faults missed ++ (if strict then tally_text c log js else [])

-- what is told of a play with this log: a line for each judgement that isn't met, and then counts
abbrev pub unmet_with_counts : Option (Bor (List ℕ)) → List ScriptFile → Bool → ℕ → ℕ → Parts → List LogEntry
    → List Judgement → List ℕ
unmet_with_counts named files strict faults missed c log js =
    missed_text named files c log js ++ counts_text strict faults missed c log js

abbrev pub script_counts : PlayedScript → CoreData → List Judgement → List ℕ
script_counts script core js =
    counts_text script.is_strict script.faults script.missed core.cluster core.log js

-- what is told of a play of this script
abbrev pub script_verdict : PlayedScript → CoreData → List Judgement → List ℕ
script_verdict script core js =
    unmet_with_counts script.name script.source.files.now script.is_strict script.faults script.missed core.cluster core.log js

-- A play fails where a judgement isn't met, or where it has faults and none of them changed a slot.
abbrev pub play_fails : ℕ → ℕ → List Judgement → Bool
play_fails faults missed js =
    if some_unmet js then true else (if faults == 0 then false else missed == faults)

-- how many faults of a run changed no slot
abbrev pub missed_in : Run → ℕ
missed_in run = count_by (λ f. not f.has_struck) run.bench.rules.faults

-- What is written of a run: its log (this is the whole of it), and then to errors what is told of it, which
-- didn't fail where the answer is Ok; or writing the log stopped at some place. (The log's own text takes no
-- memory.)
abbrev pub WritesPlayed : Format → List ℕ → Bool → List ℕ → Result Unit Fault
    → Option (List ℕ) → Option (List ℕ) → Option (List ℕ) → Option (List ℕ) → Type 0
WritesPlayed format whole failed text (Ok done) old new silent heard =
    Appends old new whole × (failed ≡ false) × WritesTextOrPart silent heard text
WritesPlayed format whole failed text (Err (Unmet outcome)) old new silent heard =
    Appends old new whole × (failed ≡ true) × WritesText silent heard outcome text
WritesPlayed format whole failed text (Err WriteFailed) old new silent heard =
    Begins old new whole × Keeps silent heard
WritesPlayed format whole failed text (Err OutOfMemory) old new silent heard =
    (format ≢ Log) × Begins old new whole × Keeps silent heard
WritesPlayed format whole failed text (Err _) old new silent heard = ⊥

-- What is written of a run: the log of its core as it is to be shown, and the judgements beside it
abbrev pub WritesShown : Shown → CoreData → PlayedScript → Result Unit Fault → Option (List ℕ) → Option (List ℕ)
    → Option (List ℕ) → Option (List ℕ) → Type 0
WritesShown s core script result old new silent heard =
    WritesPlayed s.format (shown_log s core) (play_fails script.faults script.missed s.judgements.now)
    (script_verdict script core s.judgements.now) result old new silent heard

-- the lines of a bench script came to a run, and this was written of it
abbrev pub WritesRunOf : List SlotFault → Format → Option CodedData → List NodeLimits → SourceData → Bool → Option (Bor (List ℕ)) → Bool → Parts
    → ℕ → ℕ → Result Unit Fault → Option (List ℕ) → Option (List ℕ) → Option (List ℕ) → Option (List ℕ) → Type 0
WritesRunOf fs format k limits s shows named strict c opening capacity result old new silent heard =
    (run : Run) × (ls : List (LinePlace × ScriptLine)) × (read c k limits s ≡ Ok ls)
    × (played_under strict c opening capacity fs ls ≡ Ok run)
    × WritesPlayed format (run_as format k shows named s.files c opening capacity (test_names ls) run)
    (play_fails (length fs) (missed_in run) (judgements_with_meanings k run.judgements))
    (unmet_with_counts named s.files strict (length fs) (missed_in run) c (reverse run.bench.past)
    (judgements_with_meanings k run.judgements)) result old new silent heard

-- the lines of a bench script aren't read: which fault that is, and what the writer of errors took
abbrev pub IsUnread : Option (Bor (List ℕ)) → Parts → Option CodedData → List NodeLimits → SourceData → Fault
    → Option (List ℕ) → Option (List ℕ) → Type 0
IsUnread named c k limits s fault silent heard =
    (first : LinePlace × Reason) × (outcome : Result Unit Failed) × (read c k limits s ≡ Err first)
    × (fault ≡ bad_fault named c k limits s first outcome)
    × WritesText silent heard outcome (bad_text named c k limits s first)

-- What a play under faults answers in this format, what the writer took (from old to new), and what the writer
-- of errors took (from silent to heard). Of a log that was written, the play didn't fail exactly where the
-- answer is Ok.
abbrev pub PlaysScriptUnder : List SlotFault → Format → Option CodedData → List NodeLimits → SourceData → Bool → Option (Bor (List ℕ)) → Bool → Parts
    → ℕ → ℕ → Result Unit Fault → Option (List ℕ) → Option (List ℕ) → Option (List ℕ) → Option (List ℕ) → Type 0
PlaysScriptUnder fs format k limits s shows named strict c opening capacity (Ok done) old new silent heard =
    WritesRunOf fs format k limits s shows named strict c opening capacity (Ok done) old new silent heard
PlaysScriptUnder fs format k limits s shows named strict c opening capacity (Err (Unmet outcome)) old new silent heard =
    WritesRunOf fs format k limits s shows named strict c opening capacity (Err (Unmet outcome)) old new silent heard
PlaysScriptUnder fs format k limits s shows named strict c opening capacity (Err (BadBenchLine n outcome)) old new silent heard =
    IsUnread named c k limits s (BadBenchLine n outcome) silent heard × Keeps old new
PlaysScriptUnder fs format k limits s shows named strict c opening capacity (Err (UnreadFile outcome)) old new silent heard =
    IsUnread named c k limits s (UnreadFile outcome) silent heard × Keeps old new
PlaysScriptUnder fs format k limits s shows named strict c opening capacity (Err (LongFile outcome)) old new silent heard =
    IsUnread named c k limits s (LongFile outcome) silent heard × Keeps old new
PlaysScriptUnder fs format k limits s shows named strict c opening capacity (Err (UnusedParameter name)) old new silent heard =
    (ls : List (LinePlace × ScriptLine)) × (read c k limits s ≡ Ok ls)
    × (unused_parameter s ≡ Some name) × Keeps old new × Keeps silent heard
PlaysScriptUnder fs format k limits s shows named strict c opening capacity (Err (SlotLimit n file)) old new silent heard =
    ComesTo fs strict k limits s c opening capacity (Err n) × (SlotLimit n file ≡ limit_fault s.files n)
    × Keeps old new × Keeps silent heard
PlaysScriptUnder fs format k limits s shows named strict c opening capacity (Err LogFull) old new silent heard =
    (ls : List (LinePlace × ScriptLine)) × (read c k limits s ≡ Ok ls) × OverfillsUnder c opening capacity fs ls
    × (has_rule ls ≡ true) × Keeps old new × Keeps silent heard
PlaysScriptUnder fs format k limits s shows named strict c opening capacity (Err OutOfMemory) old new silent heard =
    (Keeps old new × Keeps silent heard)
    ⊎ WritesRunOf fs format k limits s shows named strict c opening capacity (Err OutOfMemory) old new silent heard
PlaysScriptUnder fs format k limits s shows named strict c opening capacity (Err WriteFailed) old new silent heard =
    WritesRunOf fs format k limits s shows named strict c opening capacity (Err WriteFailed) old new silent heard
PlaysScriptUnder fs format k limits s shows named strict c opening capacity (Err _) old new silent heard = ⊥

-- the same with what was opened
abbrev pub PlaysSource : List SlotFault → SourceData → Opened → Option (Bor (List ℕ)) → Result Unit Fault
    → Option (List ℕ) → Option (List ℕ) → Option (List ℕ) → Option (List ℕ) → Type 0
PlaysSource fs s o named result old new silent heard =
    PlaysScriptUnder fs o.settings.format o.coded o.limits s o.settings.is_physical named o.settings.is_strict o.cluster o.table
    (room_for o.settings.capacity) result old new silent heard

-- a script isn't read from a reader, and nothing was written
abbrev pub RefusesReading : Result Unit Fault → Option (List ℕ) → Option (List ℕ) → Option (List ℕ)
    → Option (List ℕ) → Option (List ℕ) → Type 0
RefusesReading (Err ScriptTooLong) told old new silent heard =
    RefusesScript script.TooLong told old new × Keeps silent heard
RefusesReading (Err ReadFailed) told old new silent heard = Keeps old new × Keeps silent heard
RefusesReading (Err OutOfMemory) told old new silent heard = Keeps old new × Keeps silent heard
RefusesReading result told old new silent heard = ⊥

-- without faults, files and parameters: a script that a reader gives is read and played, or isn't read
abbrev pub PlaysOpened : Opened → Option (Bor (List ℕ)) → Result Unit Fault → Option (List ℕ) → Option (List ℕ)
    → Option (List ℕ) → Option (List ℕ) → Option (List ℕ) → Type 0
PlaysOpened o named result told old new silent heard =
    RefusesReading result told old new silent heard
    ⊎ ((s : SourceData) × IsReadScript told s × PlaysSource [] s o named result old new silent heard)

-- what is reported of the bad lines of a script, of which this is the first
abbrev pub script_errors : PlayedScript → Opened → LinePlace × Reason → List ℕ
script_errors script o first = bad_text script.name o.cluster o.coded o.limits (source_data script.source) first

-- what reading the faults of an option answers; of one that isn't valid it is told why
abbrev pub TakesFaults : {X : Type 0} → (X → List SlotFault) → Parts → Option (Bor (List ℕ))
    → Result X Fault → Option (List ℕ) → Option (List ℕ) → Type 0
TakesFaults view c given (Ok x) silent heard =
    (given_faults c given ≡ Ok (view x)) × Keeps silent heard
TakesFaults view c given (Err (BadFaults told)) silent heard =
    (bad : List ℕ × FaultReason) × (given_faults c given ≡ Err bad)
    × WritesText silent heard told (fault_line bad.0 bad.1)
TakesFaults view c given (Err fault) silent heard = Keeps silent heard

-- what telling the bad lines of a script answers, of which this is the first
abbrev pub TellsBad : {E : Type 0} → Result Fault E → PlayedScript → Opened → LinePlace × Reason → Option (List ℕ)
    → Option (List ℕ) → Type 0
TellsBad (Ok fault) script o first silent heard =
    (outcome : Result Unit Failed)
    × (fault ≡ bad_fault script.name o.cluster o.coded o.limits (source_data script.source) first outcome)
    × WritesText silent heard outcome (script_errors script o first)
TellsBad (Err fault) script o first silent heard = Keeps silent heard

-- what reading the lines of a bench script answers, and what the writer of errors took
abbrev pub ReadsLines : {X : Type 0} → Option (Bor (List ℕ)) → Parts → Option CodedData → List NodeLimits
    → SourceData → (X → List (LinePlace × ScriptLine)) → Result X Fault → Option (List ℕ) → Option (List ℕ) → Type 0
ReadsLines named c k limits s view (Ok x) silent heard = (read c k limits s ≡ Ok (view x)) × Keeps silent heard
ReadsLines named c k limits s view (Err OutOfMemory) silent heard = Keeps silent heard
ReadsLines named c k limits s view (Err fault) silent heard = IsUnread named c k limits s fault silent heard

-- the same of a script
abbrev pub ReadsScriptLines : {X : Type 0} → PlayedScript → Opened → (X → List (LinePlace × ScriptLine)) → Result X Fault
    → Option (List ℕ) → Option (List ℕ) → Type 0
ReadsScriptLines script o view result silent heard =
    ReadsLines script.name o.cluster o.coded o.limits (source_data script.source) view result silent heard

-- what judging a play answers that failed or didn't, of which this is told
abbrev pub ReportsJudgements : Result Unit Fault → Bool → List ℕ
    → Option (List ℕ) → Option (List ℕ) → Type 0
ReportsJudgements (Ok done) failed text silent heard = (failed ≡ false) × WritesTextOrPart silent heard text
ReportsJudgements (Err (Unmet outcome)) failed text silent heard =
    (failed ≡ true) × WritesText silent heard outcome text
ReportsJudgements (Err _) failed text silent heard = ⊥

-- the failed expectations of a play of this script and its counts were written, and whether it fails
abbrev pub ReportsPlay : Result Unit Fault → PlayedScript → CoreData → List Judgement → Option (List ℕ)
    → Option (List ℕ) → Type 0
ReportsPlay result script core js silent heard =
    ReportsJudgements result (play_fails script.faults script.missed js) (script_verdict script core js) silent heard
