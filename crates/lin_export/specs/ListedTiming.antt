-- What schedule tables promise if they run undisturbed (ISO 17987-3, schedule tables; ISO 17987-2,
-- segmented messages), as lines.
use Rattle.std.specs.Prelude.{ℕ, ◌+◌, List, [], ◌∷◌, ◌++◌, Option, Some, None, Result, IsErr}
use Rattle.std.specs.Prelude.{codes, nat_lt, if◌then◌else◌, option_map}
use Rattle.std.specs.Option.{option_map_or}
use Rattle.std.specs.Fmt.{decimal}
use Rattle.std.specs.Io.KnownBytes.{Appends}
use Rattle.lin_cluster.specs.SlotTimes.{slot_need}
use Rattle.lin_parts.specs.Cluster.{frame_of, named_table, signal_of, table_of}
use Rattle.lin_parts.specs.declared.parts.Line.{Line}
use Rattle.lin_parts.specs.declared.parts.Parts.{Parts}
use Rattle.lin_log.specs.CallerTexts.{seen_text}
use Rattle.lin_log.specs.Words.{line}
use Rattle.lin_schedule.specs.Cycles.{longest_cycle}
use Rattle.lin_schedule.specs.Schedule.{total}
use Rattle.lin_text.specs.Written.{WritesText}
use Rattle.lin_export.specs.ListedSlots.{bits_of, permille, slack}
use Rattle.lin_export.specs.Listing.{numbered_lines}
use Rattle.lin_export.specs.Timings.{AreTimings, frames_of_message, occurs}
use Rattle.lin_export.specs.declared.cluster_lists.timings.FrameTiming.{FrameTiming}
use Rattle.lin_export.specs.declared.cluster_lists.timings.Latency.{Latency}
use Rattle.lin_export.specs.declared.cluster_lists.timings.TableTiming.{TableTiming}

-- a time, and `-` for none
abbrev pub time_word : Option ℕ → List ℕ
time_word None = codes "-"
time_word (Some time) = decimal time

-- ---- a table: its cycle, its longest cycle, its load, and its least slack

-- the delay of an entry, and the time that its slot needs
abbrev pub slot_times : Parts → Line → ℕ × ℕ
slot_times c l = (l.delay_us, slot_need c l.entry)

-- the one of two slots with less slack
abbrev pub tighter : ℕ × ℕ → ℕ × ℕ → ℕ × ℕ
tighter a b = if nat_lt (b.0 + a.1) (a.0 + b.1) then b else a

abbrev pub tightest_of : Parts → ℕ × ℕ → List Line → ℕ × ℕ
tightest_of c least [] = least
tightest_of c least (l ∷ lines) = tightest_of c (tighter least (slot_times c l)) lines

abbrev pub tightest_in : Parts → List Line → ℕ × ℕ
tightest_in c [] = (0, 0)
tightest_in c (l ∷ lines) = tightest_of c (slot_times c l) lines

abbrev pub tightest_slot : Parts → ℕ → ℕ × ℕ
tightest_slot c t = tightest_in c (table_of c t)

abbrev pub table_line : Parts → ℕ → List ℕ
table_line c t =
    line
    (codes "timing"
    ∷ decimal t
    ∷ seen_text (named_table c t).name
    ∷ decimal (total (table_of c t))
    ∷ decimal (longest_cycle c t)
    ∷ decimal (permille (bits_of c t) c.speed (total (table_of c t)))
    ∷ slack (tightest_slot c t).0 (tightest_slot c t).1
    ∷ [])

-- ---- a frame: its own and its shared entries, and the shortest and the longest time between its
-- ---- own slots

abbrev pub frame_line : Parts → ℕ → ℕ → FrameTiming → List ℕ
frame_line c t f timing =
    line
    (codes "occurs"
    ∷ decimal t
    ∷ seen_text (frame_of c f).name
    ∷ decimal timing.own
    ∷ decimal timing.shared
    ∷ time_word (option_map (λ times. times.shortest) timing.gaps)
    ∷ time_word (option_map (λ times. times.longest) timing.gaps)
    ∷ [])

abbrev pub frame_timing_text : Parts → ℕ → ℕ → FrameTiming → List ℕ
frame_timing_text c t f timing =
    if occurs timing.own timing.shared then frame_line c t f timing else []

-- ---- a signal: its longest wait, and that if no frame above it in rank goes twice before it

abbrev pub latency_line : Parts → ℕ → ℕ → Latency → List ℕ
latency_line c t s latency =
    line (codes "latency" ∷ decimal t ∷ seen_text (signal_of c s).name ∷ time_word latency.worst
    ∷ time_word latency.once ∷ [])

abbrev pub signal_timing_text : Parts → ℕ → ℕ → Option Latency → List ℕ
signal_timing_text c t s latency = option_map_or (latency_line c t s) latency []

-- ---- messages in a direction: their data bytes, their frames, and their longest wait

abbrev pub transfer_line : ℕ → List ℕ → ℕ → ℕ → List ℕ
transfer_line t direction bytes worst =
    line (codes "transfer" ∷ decimal t ∷ seen_text direction ∷ decimal bytes
    ∷ decimal (frames_of_message bytes) ∷ decimal worst ∷ [])

abbrev pub transfer_text : ℕ → List ℕ → ℕ → Option ℕ → List ℕ
transfer_text t direction bytes worst = option_map_or (transfer_line t direction bytes) worst []

-- ---- all tables

abbrev pub table_text : Parts → ℕ → ℕ → TableTiming → List ℕ
table_text c bytes t timing =
    table_line c t ++ numbered_lines (frame_timing_text c t) 0 timing.frames.items
    ++ numbered_lines (signal_timing_text c t) 0 timing.signals.items
    ++ transfer_text t (codes "down") bytes timing.down
    ++ transfer_text t (codes "up") bytes timing.up

abbrev pub timing_text : Parts → ℕ → List TableTiming → List ℕ
timing_text c bytes all = numbered_lines (table_text c bytes) 0 all

-- nothing was written at an error, or a beginning of the lines of what the tables promise, and after Ok
-- all of them
pub data WritesTimings {E : Type 0} (c : Parts) (bytes : ℕ) (old new : Option (List ℕ))
    (result : Result Unit E) : Type 0 where
  nothing : IsErr result → Appends old new [] → WritesTimings c bytes old new result
  some_lines : (all : List TableTiming) → AreTimings c bytes all
      → WritesText old new result (timing_text c bytes all) → WritesTimings c bytes old new result
