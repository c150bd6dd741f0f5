-- What is put of an entry with names.
use Rattle.std.specs.Prelude.{ℕ, List, [], ◌++◌, Option}
use Rattle.std.specs.Option.{option_map_or}
use Rattle.lin_parts.specs.declared.parts.Parts.{Parts}
use Rattle.lin_core.specs.History.{Slot}
use Rattle.lin_core.specs.declared.event.Event.{Event}
use Rattle.lin_core.specs.declared.log.LogEntry.{LogEntry}
use Rattle.lin_core.specs.declared.step.Step.{Step}
use Rattle.lin_log.specs.Language.{named_language}
use Rattle.lin_log.specs.Words.{Word, step_line}
use Rattle.lin_values.specs.Coded.{CodedData}
use Rattle.lin_export.specs.Named.{lines_with_names, named_event, named_line, reply_lines, told_values, words_after_event, written_values}
use Rattle.lin_export.specs.WhereTold.{where_told}

-- a line, where there is one
abbrev pub line_or_none : Parts → Option (List Word) → List ℕ
line_or_none c o = option_map_or (named_line c) o []

-- what the values of an event, and of a write that was done, mean
abbrev pub event_meanings : Parts → Option CodedData → Option Slot → Event → List ℕ
event_meanings c k o e = lines_with_names c (told_values c k o e)

abbrev pub write_meanings : Parts → Option CodedData → Step → List ℕ
write_meanings c k step = lines_with_names c (where_told k (λ d. written_values c d step))

-- an event, what stands behind it, and what its values mean
abbrev pub event_text : Parts → Option CodedData → Option Slot → Event → List ℕ
event_text c k o e =
    named_line c (named_event c e)
    ++ (line_or_none c (words_after_event c o e)
    ++ event_meanings c k o e)

abbrev pub named_entry : Parts → Option CodedData → LogEntry → List LogEntry → List ℕ
named_entry c k e past =
    step_line (named_language c) e.port e.step ++ lines_with_names c (reply_lines c k e past)
