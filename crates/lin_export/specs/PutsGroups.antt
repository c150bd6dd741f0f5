-- Changes that are put, each group after its time.
use Rattle.std.specs.Prelude.{◌≡◌, ℕ, ◌<◌, List, slice_index, Option}
use Rattle.lin_parts.specs.declared.parts.Parts.{Parts}
use Rattle.lin_core.specs.declared.log.LogEntry.{LogEntry}
use Rattle.lin_text.specs.Written.{Grows}
use Rattle.lin_text.specs.declared.buffered.TextWriter.{TextWriter}
use Rattle.lin_values.specs.Coded.{CodedData}
use Rattle.lin_export.specs.Vcd.{Group, latest, shown_at, timed_groups, waiting_count}

-- Groups were put after a time that stands in the text, which is now another one.
pub record PutsGroups {W : Type 0} (contents : W → Option (List ℕ)) (old : TextWriter W)
    (new : TextWriter W) (last : ℕ) (next : ℕ) (groups : List Group) : Type 0 where
  pub text : Grows contents old new (timed_groups last groups)
  pub shown : next ≡ latest last groups

-- The counts of the hosts are those that a function says.
abbrev pub AreCounts : (ℕ → ℕ) → List ℕ → Type 0
AreCounts count kept = (h : ℕ) → h < 256 → slice_index kept h ≡ count h

abbrev pub IfCounts : List ℕ → ((ℕ → ℕ) → Type 0) → Type 0
IfCounts kept holds = (count : ℕ → ℕ) → AreCounts count kept → holds count

-- What is kept of the entries that were read: the last time in the text, and how many messages of
-- each host wait.
pub record KeepsChanges (c : Parts) (k : Option CodedData) (past : List LogEntry) (last : ℕ)
    (counts : List ℕ) : Type 0 where
  pub shown : last ≡ shown_at c k past
  pub waiting : AreCounts (waiting_count past) counts
