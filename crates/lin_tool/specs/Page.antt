-- The page of a run: what its cluster has and the log itself, between the pieces of a page whose
-- scripts draw them.
use Rattle.std.specs.Prelude.{ℕ, ◌≡◌, ◌==◌, Bool, true, false, if◌then◌else◌, Option}
use Rattle.std.specs.Prelude.{List, [], ◌∷◌, ◌++◌, length, flat_map, reverse, sum_by, codes}
use Rattle.std.specs.Borrow.{Bor}
use Rattle.std.specs.List.{count_by}
use Rattle.std.specs.Fmt.{decimal}
use Rattle.lin_frame.specs.Words.{numbers}
use Rattle.lin_parts.specs.Cluster.{frames_with, signal_of}
use Rattle.lin_parts.specs.declared.parts.Parts.{Parts}
use Rattle.lin_core.specs.Core.{CoreData}
use Rattle.lin_core.specs.History.{events, time}
use Rattle.lin_core.specs.Tables.{look_number, look_of, look_word, looks}
use Rattle.lin_core.specs.declared.event.Event.{Event}
use Rattle.lin_core.specs.declared.event.Event.TheVariants.{Lost, Seen}
use Rattle.lin_core.specs.declared.event.Look.{Look}
use Rattle.lin_core.specs.declared.log.LogEntry.{LogEntry}
use Rattle.lin_core.specs.declared.reply.Reply.{Reply}
use Rattle.lin_core.specs.declared.reply.Reply.TheVariants.{Done, Refused}
use Rattle.lin_log.specs.Words.{line, text, value_word}
use Rattle.lin_export.specs.ListedFrames.{frame_listing}
use Rattle.lin_export.specs.Listing.{listing}
use Rattle.lin_export.specs.ListedSlots.{slots}
use Rattle.lin_export.specs.FirstSlots.{first_slots}
use Rattle.lin_export.specs.WhereTold.{given_coding}
use Rattle.lin_bench.specs.Played.{is_unmet}
use Rattle.lin_bench.specs.declared.files.ScriptFile.{ScriptFile}
use Rattle.lin_bench.specs.declared.got.Judgement.{Judgement}
use Rattle.lin_tool.specs.PageFields.{field, guarded_text, is_inert}
use Rattle.lin_tool.specs.PageMeanings.{coded_lines}
use Rattle.lin_tool.specs.Placing.{missed_line}
use Rattle.lin_values.specs.Coded.{CodedData}
use Rattle.lin_tool.specs.declared.page.pieces.TheConstants.{HEAD, MIDDLE, TAIL}
use Rattle.lin_tool.specs.declared.formats.Shown.{Shown}

-- what the data begin with: the version of these lines, the LDF's name and the speed
abbrev pub data_head : Parts → List ℕ → List ℕ
data_head c file =
    line (codes "page" ∷ codes "1" ∷ [])
    ++ (line (codes "file" ∷ field file ∷ []) ++ line (codes "speed" ∷ decimal c.speed ∷ []))

-- what the cluster has
abbrev pub cluster_lines : Parts → List ℕ
cluster_lines c = listing c ++ frame_listing c ++ slots c

-- a signal that no frame has, with its initial value
abbrev pub alone_line : Parts → ℕ → List ℕ
alone_line c s =
    if length (frames_with c s) == 0
    then line (codes "alone" ∷ decimal s ∷ value_word (signal_of c s).initial ∷ []) else []

-- what stands between the listing and the log
abbrev pub log_head : Parts → Option CodedData → List ℕ
log_head c k =
    flat_map (alone_line c) (numbers (length c.signals))
    ++ (coded_lines c k ++ line (codes "log" ∷ []))

-- a judgement after so many entries, where it isn't met, with what is said of it; where the script's
-- file has a name, as `play --where` says it
abbrev pub unmet_data_line : Option (Bor (List ℕ)) → List ScriptFile → Parts → List LogEntry → Judgement → List ℕ
unmet_data_line named fs c log j =
    if is_unmet j.judged
    then line (codes "unmet" ∷ decimal j.entries ∷ field (missed_line named fs c log j) ∷ []) else []

-- how many events of a log pass a test, and how many of its steps were refused
abbrev pub events_so : (Event → Bool) → List LogEntry → ℕ
events_so test log = sum_by (λ e. count_by test (events e)) log

abbrev pub is_seen : Event → Bool
is_seen (Seen how) = true
is_seen event = false

abbrev pub is_look : Look → Event → Bool
is_look look (Seen how) = look_number (look_of how) == look_number look
is_look look event = false

abbrev pub is_lost_event : Event → Bool
is_lost_event (Lost host number why) = true
is_lost_event event = false

abbrev pub is_refusal : Reply → Bool
is_refusal (Done events) = false
is_refusal (Refused refusal) = true

-- what a reader without scripts sees first: how many slots there were and how they were seen, how
-- many steps were refused and messages lost, and the time at the end
abbrev pub labeled_number : List ℕ → List ℕ → List ℕ
labeled_number word number = word ++ (codes ": " ++ number)

abbrev pub look_count : List LogEntry → Look → List ℕ
look_count log look =
    codes ", " ++ labeled_number (look_word look) (decimal (events_so (is_look look) log))

abbrev pub summary : Parts → List LogEntry → List ℕ
summary c log =
    codes "<p>" ++ labeled_number (codes "slots") (decimal (events_so is_seen log))
    ++ flat_map (look_count log) looks
    ++ labeled_number (codes ", refused") (decimal (count_by (λ e. is_refusal e.reply) log))
    ++ labeled_number (codes ", lost") (decimal (events_so is_lost_event log))
    ++ labeled_number (codes ", time_us") (decimal (time c (reverse log)))
    ++ (codes "</p>" ++ 10 ∷ [])

abbrev pub unmet_data : Option (Bor (List ℕ)) → List ScriptFile → Parts → List LogEntry → List Judgement → List ℕ
unmet_data named fs c log judgements = flat_map (unmet_data_line named fs c log) judgements

-- the data that the page's scripts read
abbrev pub page_data : Option (Bor (List ℕ)) → List ScriptFile → Parts → Option CodedData → List ℕ → List LogEntry
    → List Judgement → List ℕ
page_data named fs c k file log judgements =
    data_head c file ++ guarded_text (cluster_lines c) ++ log_head c k ++ text log
    ++ unmet_data named fs c log judgements

-- the page of a log of a cluster, with what its values mean, the name of its LDF, and the judgements
-- of its play, whose script has this name
abbrev pub page : Option (Bor (List ℕ)) → List ScriptFile → Parts → Option CodedData → List ℕ → List LogEntry
    → List Judgement → List ℕ
page named fs c k file log judgements =
    HEAD.now ++ page_data named fs c k file log judgements ++ (MIDDLE.now ++ summary c log)
    ++ first_slots c log ++ TAIL.now

-- the same of a core whose log is shown so
abbrev pub shown_unmet_data : Shown → CoreData → List ℕ
shown_unmet_data s core = unmet_data s.script s.files.now core.cluster core.log s.judgements.now

abbrev pub shown_page_data : Shown → List ℕ → CoreData → List ℕ
shown_page_data s file core =
    page_data s.script s.files.now core.cluster (given_coding s.coded) file core.log s.judgements.now

abbrev pub shown_page : Shown → List ℕ → CoreData → List ℕ
shown_page s file core =
    page s.script s.files.now core.cluster (given_coding s.coded) file core.log s.judgements.now

-- Whatever the names, the texts and the lines are, nothing in the data ends them: what stands in
-- them is never a script's.
abbrev pub DataAreInert : Type 0
DataAreInert =
    (named : Option (Bor (List ℕ))) (fs : List ScriptFile) (c : Parts) (k : Option CodedData) (file : List ℕ)
    (log : List LogEntry) (judgements : List Judgement)
    → is_inert (page_data named fs c k file log judgements) ≡ true
