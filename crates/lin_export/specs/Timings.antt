-- What schedule tables promise if they run undisturbed: no node leaves out an answer that is due, and
-- nothing but collisions changes the order of the entries (ISO 17987-3, schedule tables).
use Rattle.std.specs.Prelude.{◌≡◌, ℕ, ◌+◌, ◌/◌, ◌<◌, ◌≤◌, Bool, true, false, List, [], ◌∷◌, length}
use Rattle.std.specs.Prelude.{Option, None, MatchOption, if◌then◌else◌, nat_le, nat_lt}
use Rattle.std.specs.Prelude.{slice_index, slice_index_or}
use Rattle.std.specs.List.{list_any}
use Rattle.lin_parts.specs.Cluster.{frames_with}
use Rattle.lin_parts.specs.declared.parts.Parts.{Parts}
use Rattle.lin_schedule.specs.Carriers.{carriers_of_frames, carriers_of_requests}
use Rattle.lin_schedule.specs.Carriers.{carriers_of_responses}
use Rattle.lin_schedule.specs.Occurs.{own_entries, shared_entries}
use Rattle.lin_schedule.specs.Once.{IsLeastBound}
use Rattle.lin_schedule.specs.Spacing.{AreGaps, HasNoOwn}
use Rattle.lin_schedule.specs.Walk.{IsWorst}
use Rattle.lin_export.specs.declared.cluster_lists.timings.FrameTiming.{FrameTiming}
use Rattle.lin_export.specs.declared.cluster_lists.timings.Latency.{Latency}
use Rattle.lin_export.specs.declared.cluster_lists.timings.TableTiming.{TableTiming}

-- ---- frames

-- some entry carries the frame, or may carry it
abbrev pub occurs : ℕ → ℕ → Bool
occurs own shared = nat_lt 0 (own + shared)

abbrev pub occurs_in : Parts → ℕ → ℕ → Bool
occurs_in c t f = occurs (own_entries c t f) (shared_entries c t f)

-- the entries of a frame, and the shortest and the longest time between its own slots over all walks
pub record IsFrameTiming (c : Parts) (t f : ℕ) (timing : FrameTiming) : Type 0 where
  pub own : timing.own ≡ own_entries c t f
  pub shared : timing.shared ≡ shared_entries c t f
  pub gaps : MatchOption timing.gaps (HasNoOwn c t f)
      (λ times. AreGaps c t f times.shortest times.longest)

-- a frame that no entry carries
abbrev pub no_frame : FrameTiming
no_frame = record { own = 0; shared = 0; gaps = None }

-- whether such timings tell that an entry carries the frame
abbrev pub occurs_by : List FrameTiming → ℕ → Bool
occurs_by all f = occurs (slice_index_or all f no_frame).own (slice_index_or all f no_frame).shared

pub record AreFrameTimings (c : Parts) (t : ℕ) (all : List FrameTiming) : Type 0 where
  pub number : length all ≡ length c.frames
  pub each : (f : ℕ) → f < length all → IsFrameTiming c t f (slice_index_or all f no_frame)

-- ---- signals

-- the longest wait over all walks for a slot that surely carries one of these frames, and the least
-- bound if no frame above it in rank goes twice
pub record IsLatency (c : Parts) (t : ℕ) (frames : List ℕ) (latency : Latency) : Type 0 where
  pub worst : IsWorst c t (carriers_of_frames c frames) 1 latency.worst
  pub once : IsLeastBound c t frames latency.once

-- a signal has a latency if one of its frames occurs
abbrev pub IsSignalLatency : Parts → ℕ → ℕ → Option Latency → Type 0
IsSignalLatency c t s latency =
    MatchOption latency (list_any (occurs_in c t) (frames_with c s) ≡ false)
    (λ found. (list_any (occurs_in c t) (frames_with c s) ≡ true)
    × IsLatency c t (frames_with c s) found)

-- those of the first signals, by their numbers
abbrev pub AreLatencies : Parts → ℕ → List (Option Latency) → Type 0
AreLatencies c t all =
    (s : ℕ) → s < length all → IsSignalLatency c t s (slice_index_or all s None)

-- a signal for each signal, up to it, that the same frames have
pub record HaveSameFrames (c : Parts) (all : List ℕ) : Type 0 where
  pub number : length all ≡ length c.signals
  pub alike : (s : ℕ) → s < length all → frames_with c (slice_index all s) ≡ frames_with c s
  pub earlier : (s : ℕ) → s < length all → slice_index all s ≤ s

-- ---- messages

-- how many frames a message with so many data bytes has: one, or a first frame with 5 bytes and
-- consecutive frames with 6
abbrev pub frames_of_message : ℕ → ℕ
frames_of_message bytes = if nat_le bytes 6 then 1 else 1 + bytes / 6

-- ---- tables

pub record IsTiming (c : Parts) (t bytes : ℕ) (timing : TableTiming) : Type 0 where
  pub frames : AreFrameTimings c t timing.frames.items
  pub number : length timing.signals.items ≡ length c.signals
  pub signals : AreLatencies c t timing.signals.items
  pub down : IsWorst c t carriers_of_requests (frames_of_message bytes) timing.down
  pub up : IsWorst c t carriers_of_responses (frames_of_message bytes) timing.up

-- those of all tables, by their numbers
pub data AreTimingsFrom (c : Parts) (bytes : ℕ) : ℕ → List TableTiming → Type 0 where
  none : (t : ℕ) → AreTimingsFrom c bytes t []
  more : (t : ℕ) (timing : TableTiming) (all : List TableTiming) → IsTiming c t bytes timing
      → AreTimingsFrom c bytes (t + 1) all → AreTimingsFrom c bytes t (timing ∷ all)

abbrev pub AreTimings : Parts → ℕ → List TableTiming → Type 0
AreTimings c bytes all = (length all ≡ length c.tables) × AreTimingsFrom c bytes 0 all
