-- A play in numbers, as the last line of a strict one says them.
use Rattle.std.specs.Prelude.{ℕ, ◌==◌, if◌then◌else◌, List, [], ◌++◌, length, reverse, sum_by, codes}
use Rattle.std.specs.List.{count_by}
use Rattle.std.specs.Fmt.{decimal}
use Rattle.lin_frame.specs.Words.{numbers}
use Rattle.lin_parts.specs.Cluster.{nodes}
use Rattle.lin_parts.specs.declared.parts.Parts.{Parts}
use Rattle.lin_core.specs.History.{time}
use Rattle.lin_core.specs.Links.{waiting}
use Rattle.lin_core.specs.declared.log.LogEntry.{LogEntry}
use Rattle.lin_bench.specs.Played.{is_unmet}
use Rattle.lin_bench.specs.declared.got.Judgement.{Judgement}
use Rattle.lin_tool.specs.Page.{events_so, is_lost_event, is_refusal, is_seen}

-- how many messages wait, of all hosts
abbrev pub waiting_in : Parts → List LogEntry → ℕ
waiting_in c past = sum_by (λ h. length (waiting c past h)) (numbers (nodes c))

-- a number, and what it counts
abbrev pub count_with_word : ℕ → List ℕ → List ℕ
count_with_word count word = decimal count ++ word

abbrev pub tally_text : Parts → List LogEntry → List Judgement → List ℕ
tally_text c log js =
    codes "play: "
    ++ (count_with_word (length js) (codes " expected, ")
    ++ (count_with_word (count_by (λ (j : Judgement). is_unmet j.judged) js) (codes " unmet, ")
    ++ (count_with_word (events_so is_seen log) (codes " slots, ")
    ++ (count_with_word (time c (reverse log)) (codes " us, ")
    ++ (count_with_word (count_by (λ (e : LogEntry). is_refusal e.reply) log) (codes " refused, ")
    ++ (count_with_word (events_so is_lost_event log) (codes " lost, ")
    ++ count_with_word (waiting_in c (reverse log)) (codes " waiting\n")))))))

-- how many of the faults of a play changed no slot
abbrev pub missed_line : ℕ → ℕ → List ℕ
missed_line faults missed =
    codes "faults: "
    ++ (count_with_word missed (codes " of ") ++ count_with_word faults (codes " changed no slot\n"))

-- the same, if there are such
abbrev pub missed_faults : ℕ → ℕ → List ℕ
missed_faults faults missed = if missed == 0 then [] else missed_line faults missed
