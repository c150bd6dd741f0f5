-- What was written of a bench script that was played.
use Rattle.std.proofs.Common.{◌≡◌, refl, inl, inr, ℕ, Bool, true, length, List, ◌++◌, Option, Some, None, Result, Ok, Err, ap, ◌∙◌, reverse, subst, sym}
use Rattle.std.specs.Borrow.{Bor}
use Rattle.std.specs.Io.KnownBytes.{Appends, Keeps}
use Rattle.lin_text.specs.Written.{WritesText}
use Rattle.lin_bench.specs.Files.{SourceData}
use Rattle.lin_bench.specs.Scripts.{bad_lines, read}
use Rattle.lin_bench.specs.Played.{Run, played_under}
use Rattle.lin_bench.specs.Plays.{EndsWithFullLog, PlaysUnder, has_rule}
use Rattle.lin_bench.specs.Tests.{test_names}
use Rattle.lin_bench.specs.declared.reason.Reason.{Reason}
use Rattle.lin_bench.specs.declared.reason.Reason.TheVariants as reason
use Rattle.lin_bench.specs.declared.faults.SlotFault.{SlotFault}
use Rattle.lin_bench.specs.declared.playing.PlayedUnder.{PlayedUnder}
use Rattle.lin_bench.specs.declared.fault.PlayFault.{PlayFault}
use Rattle.lin_bench.specs.declared.fault.PlayFault.TheVariants as play
use Rattle.lin_parts.specs.declared.parts.Parts.{Parts}
use Rattle.lin_bench.specs.declared.line.ScriptLine.{ScriptLine}
use Rattle.lin_bench.specs.declared.place.LinePlace.{LinePlace}
use Rattle.lin_bench.specs.declared.rules.NodeLimits.{NodeLimits}
use Rattle.lin_values.specs.Coded.{CodedData}
use Rattle.lin_text.specs.declared.fault.WriteFailed.{WriteFailed as Failed}
use Rattle.lin_tool.specs.Playing.{ChecksUsed, IsUnread, PlaysScriptUnder, ReadsLines, WritesPlayed, bad_fault, fault_of_bad, judgements_with_meanings, last_reason, limit_fault, missed_in, play_fault, run_as, unmet_with_counts, unused_parameter}
use Rattle.lin_tool.specs.Playing.{play_fails as is_failed}
use Rattle.lin_tool.specs.declared.fault.Fault.{Fault}
use Rattle.lin_tool.specs.declared.fault.Fault.TheVariants.{OutOfMemory, Unmet, UnusedParameter, WriteFailed}
use Rattle.lin_tool.specs.declared.formats.Format.{Format}

-- what was kept at first
keeps-more : (a b c : Option (List ℕ)) → Keeps a b → Keeps b c → Keeps a c
keeps-more None b c h k = tt
keeps-more (Some x) None c h k = absurd h
keeps-more (Some x) (Some y) None h k = absurd k
keeps-more (Some x) (Some y) (Some z) h k = k ∙ h

appends-after : (a b c : Option (List ℕ)) (part : List ℕ) → Keeps a b → Appends b c part → Appends a c part
appends-after None b c part h k = tt
appends-after (Some x) None c part h k = absurd h
appends-after (Some x) (Some y) None part h k = absurd k
appends-after (Some x) (Some y) (Some z) part h k = k ∙ ap (λ l. l ++ part) h

pub writes-after : {E : Type 0} {a b c : Option (List ℕ)} {r : Result Unit E} {text : List ℕ} → Keeps a b → WritesText b c r text → WritesText a c r text
writes-after {a = a} {b = b} {c = c} h k = record {
  part = k.part;
  rest = k.rest;
  written = appends-after a b c k.part h k.written;
  whole = k.whole;
  all = k.all;
}

pub keeps-same : (a : Option (List ℕ)) → Keeps a a
keeps-same None = tt
keeps-same (Some x) = refl

-- a script whose lines weren't read
module _ (fs : List SlotFault) (format : Format) (k : Option CodedData) (limits : List NodeLimits) (s : SourceData) (shows : Bool) (named : Option (Bor (List ℕ))) (strict : Bool) (c : Parts) (opening capacity : ℕ) (old silent heard : Option (List ℕ)) where
  abbrev Answers : Fault → Type 0
  Answers fault = PlaysScriptUnder fs format k limits s shows named strict c opening capacity (Err fault) old old silent heard

  told : (p : LinePlace) (why : Reason) (outcome : Result Unit Failed) → IsUnread named c k limits s (fault_of_bad p why outcome) silent heard → Answers (fault_of_bad p why outcome)
  told p (reason.Unread name) outcome h = (h, keeps-same old)
  told p (reason.LongFile name) outcome h = (h, keeps-same old)
  told p why outcome h = (h, keeps-same old)

  bad-by : (n : Option (Bor (List ℕ))) (first : LinePlace × Reason) (outcome : Result Unit Failed)
      → IsUnread named c k limits s (bad_fault n c k limits s first outcome) silent heard → Answers (bad_fault n c k limits s first outcome)
  bad-by None first outcome h = told first.0 first.1 outcome h
  bad-by (Some file) first outcome h = told first.0 (last_reason first.1 (bad_lines c k limits s)) outcome h

  by-fault : (fault : Fault) → IsUnread named c k limits s fault silent heard → Answers fault
  by-fault fault (first, outcome, is, same, text) =
      subst Answers (sym same) (bad-by named first outcome (first, outcome, is, refl, text))

  unread-by : {X : Type 0} (view : X → List (LinePlace × ScriptLine)) (fault : Fault) → ReadsLines named c k limits s view (Err fault) silent heard → Answers fault
  unread-by view OutOfMemory h = inl (keeps-same old, h)
  unread-by view fault h = by-fault fault h

pub unread : {X : Type 0} (view : X → List (LinePlace × ScriptLine)) (fs : List SlotFault) (format : Format) (k : Option CodedData) (limits : List NodeLimits) (s : SourceData) (shows : Bool) (named : Option (Bor (List ℕ))) (strict : Bool) (c : Parts) (opening capacity : ℕ) (fault : Fault)
    (old silent heard : Option (List ℕ)) → ReadsLines named c k limits s view (Err fault) silent heard
    → PlaysScriptUnder fs format k limits s shows named strict c opening capacity (Err fault) old old silent heard
unread view fs format k limits s shows named strict c opening capacity fault old silent heard h =
    unread-by fs format k limits s shows named strict c opening capacity old silent heard view fault h

-- a parameter that no line uses
pub unused : (fs : List SlotFault) (format : Format) (k : Option CodedData) (limits : List NodeLimits) (s : SourceData) (shows : Bool) (named : Option (Bor (List ℕ))) (strict : Bool) (c : Parts) (opening capacity : ℕ) (fault : Fault)
    (old silent heard : Option (List ℕ)) (ls : List (LinePlace × ScriptLine)) → read c k limits s ≡ Ok ls → ChecksUsed (Err fault) (unused_parameter s) → Keeps silent heard
    → PlaysScriptUnder fs format k limits s shows named strict c opening capacity (Err fault) old old silent heard
unused fs format k limits s shows named strict c opening capacity (UnusedParameter name) old silent heard ls says h kept = (ls, says, h, keeps-same old, kept)
unused fs format k limits s shows named strict c opening capacity OutOfMemory old silent heard ls says h kept = inl (keeps-same old, kept)
unused fs format k limits s shows named strict c opening capacity fault old silent heard ls says h kept = absurd h

-- lines that can't be played
pub unplayed : (fs : List SlotFault) (format : Format) (k : Option CodedData) (limits : List NodeLimits) (s : SourceData) (shows : Bool) (named : Option (Bor (List ℕ))) (strict : Bool) (c : Parts) (opening capacity : ℕ) (fault : PlayFault)
    (old silent heard : Option (List ℕ)) (ls : List (LinePlace × ScriptLine)) → read c k limits s ≡ Ok ls → PlaysUnder strict c opening capacity fs ls (Err fault)
    → (EndsWithFullLog {X = PlayedUnder} (Err fault) → has_rule ls ≡ true) → Keeps silent heard
    → PlaysScriptUnder fs format k limits s shows named strict c opening capacity (Err (play_fault fault)) old old silent heard
unplayed fs format k limits s shows named strict c opening capacity (play.SlotLimit n) old silent heard ls says fails few kept = absurd fails
unplayed fs format k limits s shows named strict c opening capacity play.LogFull old silent heard ls says fails few kept = (ls, says, fails, few tt, keeps-same old, kept)
unplayed fs format k limits s shows named strict c opening capacity play.OutOfMemory old silent heard ls says fails few kept = inl (keeps-same old, kept)

-- lines that reach the slot limit
pub limited : (fs : List SlotFault) (format : Format) (k : Option CodedData) (limits : List NodeLimits) (s : SourceData) (shows : Bool) (named : Option (Bor (List ℕ))) (strict : Bool) (c : Parts) (opening capacity : ℕ) (n : LinePlace) (fault : Fault)
    (old silent heard : Option (List ℕ)) (ls : List (LinePlace × ScriptLine)) → read c k limits s ≡ Ok ls → played_under strict c opening capacity fs ls ≡ Err n → Keeps silent heard → fault ≡ limit_fault s.files n
    → PlaysScriptUnder fs format k limits s shows named strict c opening capacity (Err fault) old old silent heard
limited fs format k limits s shows named strict c opening capacity n fault old silent heard ls says comes kept same =
    subst (λ f. PlaysScriptUnder fs format k limits s shows named strict c opening capacity (Err f) old old silent heard) (sym same)
    ((ls, says, comes), refl, keeps-same old, kept)

-- memory that runs out before anything is written
pub unwritten : (fs : List SlotFault) (format : Format) (k : Option CodedData) (limits : List NodeLimits) (s : SourceData) (shows : Bool) (named : Option (Bor (List ℕ))) (strict : Bool) (c : Parts) (opening capacity : ℕ)
    (old silent heard : Option (List ℕ)) → Keeps silent heard
    → PlaysScriptUnder fs format k limits s shows named strict c opening capacity (Err OutOfMemory) old old silent heard
unwritten fs format k limits s shows named strict c opening capacity old silent heard kept = inl (keeps-same old, kept)

-- a run of these lines was written, where nothing was told before
pub plays : (fs : List SlotFault) (format : Format) (k : Option CodedData) (limits : List NodeLimits) (s : SourceData) (shows : Bool) (named : Option (Bor (List ℕ))) (strict : Bool) (c : Parts) (opening capacity : ℕ) (result : Result Unit Fault)
    (old new silent mid heard : Option (List ℕ)) (ls : List (LinePlace × ScriptLine)) (run : Run) → read c k limits s ≡ Ok ls → played_under strict c opening capacity fs ls ≡ Ok run
    → Keeps silent mid
    → WritesPlayed format (run_as format k shows named s.files c opening capacity (test_names ls) run) (is_failed (length fs) (missed_in run) (judgements_with_meanings k run.judgements))
    (unmet_with_counts named s.files strict (length fs) (missed_in run) c (reverse run.bench.past) (judgements_with_meanings k run.judgements)) result old new mid heard
    → PlaysScriptUnder fs format k limits s shows named strict c opening capacity result old new silent heard
plays fs format k limits s shows named strict c opening capacity (Ok done) old new silent mid heard ls run says comes kept (shown, met, (outcome, said)) =
    (run, ls, says, comes, (shown, met, (outcome, writes-after kept said)))
plays fs format k limits s shows named strict c opening capacity (Err (Unmet outcome)) old new silent mid heard ls run says comes kept (shown, missed, said) =
    (run, ls, says, comes, (shown, missed, writes-after kept said))
plays fs format k limits s shows named strict c opening capacity (Err WriteFailed) old new silent mid heard ls run says comes kept (begun, quiet) =
    (run, ls, says, comes, (begun, keeps-more silent mid heard kept quiet))
plays fs format k limits s shows named strict c opening capacity (Err OutOfMemory) old new silent mid heard ls run says comes kept (other, begun, quiet) =
    inr (run, ls, says, comes, (other, begun, keeps-more silent mid heard kept quiet))
plays fs format k limits s shows named strict c opening capacity (Err _) old new silent mid heard ls run says comes kept h = absurd h
