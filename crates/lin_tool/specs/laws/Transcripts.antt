-- Transcripts of lines on a bench in hand, as texts.
use Rattle.std.specs.Prelude.{◌≡◌, ◌≤◌, ℕ, ◌==◌, Bool, true, false, not, filter, flat_map, List, [], ◌∷◌}
use Rattle.std.specs.Prelude.{◌++◌, length, map, Ok, reverse, slice_index, IfSome}
use Rattle.std.specs.List.{All, AllByRecursion}
use Rattle.std.specs.Str.Lines.{strip_carriage_return}
use Rattle.lin_core.specs.Runs.{steps_of}
use Rattle.lin_core.specs.declared.log.LogEntry.{LogEntry}
use Rattle.lin_log.specs.Language.{named_language}
use Rattle.lin_log.specs.Laws.{FitsEntry, HasNames}
use Rattle.lin_log.specs.Script.{script}
use Rattle.lin_bench.specs.Plain.{HasNoMarks, HasPlainNames, SaysSteps}
use Rattle.lin_live.specs.Answers.{KeepsLog, answers}
use Rattle.lin_live.specs.Lines.{HasNoLf, but_last, lines, pieces_at_lf, after_last_lf}
use Rattle.lin_live.specs.Play.{in_hand_of, empty_run}
use Rattle.lin_live.specs.Told.{AllHeard, HandData, entries_text, is_text, last_line, reply, shown_coding}
use Rattle.lin_live.specs.Transcript.{state_after, most_bytes, transcript}
use Rattle.lin_live.specs.declared.answer_format.AnswerFormat.TheVariants.{Log}

-- the lines of a text, each with the LF that ends it, and what stands after the last LF
abbrev pub with_line_end : List ℕ → List ℕ
with_line_end line = line ++ 10 ∷ []

abbrev pub lines_with_ends : List ℕ → List (List ℕ)
lines_with_ends bytes = map with_line_end (but_last (pieces_at_lf bytes)) ++ after_last_lf bytes ∷ []

-- a text without its lines that begin with `#`
abbrev pub is_said : List ℕ → Bool
is_said line = not (slice_index line 0 == 35)

abbrev pub without_remarks : List ℕ → List ℕ
without_remarks bytes = flat_map (λ line. line) (filter is_said (lines_with_ends bytes))

-- a session that answers in texts begins, and none of its lines goes back to a mark
pub record IsTranscript (h : HandData) (ls : List (List ℕ)) : Type 0 where
  pub of_text : is_text h.format ≡ true
  pub begins : h.bench.past ≡ []
  pub forward : AllHeard KeepsLog h ls

abbrev pub log_after : HandData → List (List ℕ) → List LogEntry
log_after h ls = reverse (state_after reply h ls).bench.past

-- without the lines that begin with `#`, a transcript is the text of the log, byte for byte
abbrev pub TranscriptsAreLogs : Type 0
TranscriptsAreLogs = (h : HandData) (ls : List (List ℕ)) → IsTranscript h ls
    → without_remarks (transcript reply h ls)
    ≡ entries_text h.format h.cluster (shown_coding h) [] (log_after h ls)

-- a transcript by numbers is a script of its run
abbrev pub TranscriptsAreScripts : Type 0
TranscriptsAreScripts = (h : HandData) (ls : List (List ℕ)) → IsTranscript h ls
    → All FitsEntry (log_after h ls) → h.format ≡ Log
    → script (transcript reply h ls) ≡ Ok (steps_of (log_after h ls))

-- where names are words without `$` and `\`, each transcript is a bench script of its run: it has no bad
-- line, makes no slots of its own, and expects nothing
abbrev pub TranscriptsAreBenchScripts : Type 0
TranscriptsAreBenchScripts = (h : HandData) (ls : List (List ℕ)) (opening capacity : ℕ)
    → IsTranscript h ls → HasNames (named_language h.cluster) → HasPlainNames h.cluster
    → All FitsEntry (log_after h ls)
    → SaysSteps h.cluster opening capacity (transcript reply h ls) (steps_of (log_after h ls))

-- a bench in hand that begins, with the same cluster, meanings and settings and without rules
abbrev pub anew : HandData → HandData
anew h =
    record (in_hand_of h.format h.coded h.limits h.is_physical h.cluster h.opening h.capacity empty_run) {
      begun = false;
    }

-- no line of an input is longer than is read
abbrev pub AreShort : List ℕ → Type 0
AreShort bytes =
    AllByRecursion (λ p. length (strip_carriage_return p) ≤ most_bytes) (pieces_at_lf bytes)

-- where names are words without `$` and `\`, and where what signals mean is known, none is called as a mark,
-- each transcript is an input again: answered in hand, its lines come to the same log, and none of them is bad
abbrev pub TranscriptsAreInputs : Type 0
TranscriptsAreInputs = (h : HandData) (ls : List (List ℕ))
    → IsTranscript h ls → HasNames (named_language h.cluster) → HasPlainNames h.cluster
    → IfSome h.coded (λ k. HasNoMarks h.cluster)
    → All FitsEntry (log_after h ls) → AreShort (transcript reply h ls)
    → (log_after (anew h) (lines (transcript reply h ls)) ≡ log_after h ls)
    × ((state_after reply (anew h) (lines (transcript reply h ls))).was_bad ≡ false)

-- the last line of each answer in a text is one line, which begins with `#`
pub record IsRemark (t : List ℕ) : Type 0 where
  pub words : List ℕ
  pub has_no_lf : HasNoLf words
  pub whole : t ≡ 35 ∷ (words ++ 10 ∷ [])

abbrev pub LastLinesAreRemarks : Type 0
LastLinesAreRemarks = (h : HandData) (ls : List (List ℕ)) → is_text h.format ≡ true
    → AllByRecursion (λ a. IsRemark (last_line h.format h.cluster (shown_coding h) a.ending)) (answers h ls)

-- the lines of an input have no LF in them
abbrev pub LinesHaveNoLf : Type 0
LinesHaveNoLf = (bytes : List ℕ) → AllByRecursion HasNoLf (lines bytes)
