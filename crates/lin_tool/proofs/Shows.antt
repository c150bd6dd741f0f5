-- What was written of a log in a format.
use Rattle.std.proofs.Common.{◌≡◌, refl, inl, inr, ℕ, List, Option, Some, None, IfSome, Result, Ok, Err, subst}
use Rattle.std.specs.Io.KnownBytes.{Appends}
use Rattle.lin_text.specs.Written.{WritesText}
use Rattle.lin_parts.specs.declared.parts.Parts.{Parts}
use Rattle.lin_core.specs.declared.log.LogEntry.{LogEntry}
use Rattle.lin_core.specs.declared.port.PortId.{PortId}
use Rattle.lin_core.specs.declared.step.Step.{Step}
use Rattle.lin_log.specs.Replay.{IsReplay, IsScriptOf, log_of}
use Rattle.lin_log.specs.declared.fault.ReplayFault.{ReplayFault}
use Rattle.lin_log.specs.declared.fault.ReplayFault.TheVariants as replay
use Rattle.lin_log.specs.declared.fault.ScriptFault.TheVariants as script
use Rattle.lin_export.specs.Vcd.{vcd}
use Rattle.lin_export.specs.declared.fault.ExportFault.{ExportFault}
use Rattle.lin_export.specs.declared.fault.ExportFault.TheVariants as export
use Rattle.lin_values.specs.Coded.{CodedData}
use Rattle.lin_tool.specs.Formats.{Begins, export_fault}
use Rattle.lin_tool.specs.Replaying.{IsLogOf, Replays, StopsReplay, fault_of_replay}
use Rattle.lin_tool.specs.declared.formats.Format.{Format}
use Rattle.lin_tool.specs.declared.formats.Format.TheVariants.{Log}

pub shows : (E : Type 0) (old new : Option (List ℕ)) (whole : List ℕ)
    → WritesText {E = E} old new (Ok tt) whole → Appends old new whole
shows E old new whole h =
    let P : List ℕ → Type 0 = λ b. Appends old new b in subst P h.all h.written

pub begins : {E : Type 0} (old new : Option (List ℕ)) (whole : List ℕ) (fault : E)
    → WritesText old new (Err fault) whole → Begins old new whole
begins old new whole fault h = (h.part, h.rest, h.whole, h.written)

-- a dump of a log over the same cluster
pub shows-dump : {E : Type 0} (old new : Option (List ℕ)) (result : Result Unit E)
    (a b : Parts) (k : Option CodedData) (xs ys : List LogEntry) → a ≡ b → xs ≡ ys
    → WritesText old new result (vcd a k xs) → WritesText old new result (vcd b k ys)
shows-dump old new result a b k xs ys cluster log h =
    let P : List LogEntry → Type 0 = λ l. WritesText old new result (vcd a k l) in
    let Q : Parts → Type 0 = λ c. WritesText old new result (vcd c k ys) in
    subst Q cluster (subst P log h)

-- the log of a script whose bytes were read
pub log-of : (c : Parts) (opening capacity : ℕ) (told : Option (List ℕ)) (bytes : List ℕ)
    (log : List LogEntry) → IfSome told (λ b. bytes ≡ b) → (said : List (PortId × Step))
    → IsScriptOf bytes said → log ≡ log_of c opening capacity said
    → IsLogOf c opening capacity told log
log-of c opening capacity None bytes log is said script made = (said, tt, made)
log-of c opening capacity (Some b) bytes log is said script made =
    let P : List ℕ → Type 0 = λ x. IsScriptOf x said in (said, subst P is script, made)

-- writing stopped early
pub stopped : (format : Format) (k : Option CodedData) (c : Parts) (opening capacity : ℕ)
    (told old new : Option (List ℕ)) (fault : ExportFault)
    → (format ≡ Log → fault ≡ export.WriteFailed) → StopsReplay format k c opening capacity told old new
    → Replays format k c opening capacity (Err (export_fault fault)) told old new
stopped format k c opening capacity told old new export.OutOfMemory memory stops =
    inr ((λ is. let bad : export.OutOfMemory ≡ export.WriteFailed = memory is in cc), stops)
stopped format k c opening capacity told old new export.WriteFailed memory stops = stops

-- a replay that stopped early, in the log's own text
pub replay-stopped : {X : Type 0} (k : Option CodedData) (c : Parts) (opening capacity : ℕ) (view : X → List LogEntry)
    (fault : ReplayFault) (told old new : Option (List ℕ))
    → IsReplay c opening capacity view (Err fault) told old new
    → Replays Log k c opening capacity (Err (fault_of_replay fault)) told old new
replay-stopped k c opening capacity view (replay.Script (script.BadLine n)) told old new h = h
replay-stopped k c opening capacity view (replay.Script script.TooLong) told old new h = h
replay-stopped k c opening capacity view (replay.Script script.ReadFailed) told old new h = h.1
replay-stopped k c opening capacity view (replay.Script script.OutOfMemory) told old new h = inl h.1
replay-stopped k c opening capacity view replay.OutOfMemory told old new h = inl h
replay-stopped k c opening capacity view replay.WriteFailed told old new h =
    let (said, read, part, rest, whole, written) = h in
    (log_of c opening capacity said, (said, read, refl), (part, rest, whole, written))
