-- How long the finished slots of a history take, and how many there are at most.
use Rattle.std.proofs.Common.{◌≡◌, ℕ, suc, ◌+◌, ◌*◌, ◌^◌, ◌≤◌, ◌<◌, List, [], ◌∷◌, All, ap, arith, length, reverse, take}
use Rattle.std.proofs.lemmas.List.{length-reverse, length-take}
use Rattle.std.specs.Prelude.{Option, Some, None}
use Rattle.std.specs.Option.{option_map_or}
use Rattle.std.proofs.lemmas.List.Elements.{All-nil}
use Rattle.lin_parts.proofs.SoundClusters.{at-any}
use Rattle.lin_parts.specs.Cluster.{line_of, table_of}
use Rattle.lin_parts.specs.Rules.{IsCluster, IsDelay}
use Rattle.lin_parts.specs.declared.parts.Entry.TheVariants.{Quiet}
use Rattle.lin_parts.specs.declared.parts.Line.{Line}
use Rattle.lin_parts.specs.declared.parts.Parts.{Parts}
use Rattle.lin_parts.specs.declared.parts.Table.{Table}
use Rattle.lin_core.specs.History.{Slot, finished_slot, time}
use Rattle.lin_core.specs.declared.log.LogEntry.{LogEntry}
use Rattle.lin_export.specs.Track.{TrackData, finished_slot_count, track_of}

delay-few : (c : Parts) → IsCluster c → (t e : ℕ) → (line_of c t e).delay_us ≤ 1000000000
delay-few c is t e =
    let IsLine : Line → Type 0 = λ line. IsDelay line.delay_us in
    let there : All IsLine (table_of c t) =
    at-any (λ (x : Table). All IsLine x.lines) c.tables (record { name = []; lines = [] }) is.tables.delays (All-nil IsLine) t in
    (at-any IsLine (table_of c t) (record { entry = Quiet; delay_us = 1 }) there (omega arith, omega arith) e).1

time-more : (c : Parts) → IsCluster c → (o : Option Slot) (before n : ℕ) → before ≤ 1000000000 * n
    → option_map_or (λ s. before + (line_of c s.table s.entry).delay_us) o before ≤ 1000000000 * suc n
time-more c is None before n h = omega arith
time-more c is (Some s) before n h = let d = delay-few c is s.table s.entry in omega arith

pub time-few : (c : Parts) → IsCluster c → (past : List LogEntry) → time c past ≤ 1000000000 * length past
time-few c is [] = omega arith
time-few c is (e ∷ past) = time-more c is (finished_slot e past) (time c past) (length past) (time-few c is past)

slots-more : (o : Option Slot) (before n : ℕ) → before ≤ n → option_map_or (λ s. before + 1) o before ≤ suc n
slots-more None before n h = omega arith
slots-more (Some s) before n h = omega arith

pub slots-few : (past : List LogEntry) → finished_slot_count past ≤ length past
slots-few [] = omega arith
slots-few (e ∷ past) = slots-more (finished_slot e past) (finished_slot_count past) (length past) (slots-few past)

-- what is kept of entries of a log
pub early : (c : Parts) → IsCluster c → (es : List LogEntry) (i : ℕ) (t : TrackData) → t ≡ track_of c (reverse (take i es)) → length es < 2 ^ 32
    → (t.time < 2 ^ 63) × (t.slots < 2 ^ 63)
early c is es i t e few =
    let past : List LogEntry = reverse (take i es) in
    let short : length past ≤ length es = omega (arith, length-reverse (take i es), length-take i es) in
    let a : t.time ≡ time c past = ap (λ (d : TrackData). d.time) e in
    let b : t.slots ≡ finished_slot_count past = ap (λ (d : TrackData). d.slots) e in
    let f = time-few c is past in
    let g = slots-few past in
    (omega arith, omega arith)
