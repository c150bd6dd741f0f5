-- What every cluster has, by the numbers of its parts.
use Rattle.std.proofs.Common.{◌≡◌, ℕ, ◌<◌, ◌≤◌, Bool, true, false, [], length, Some, None, sym}
use Rattle.std.specs.Prelude.{All, if◌then◌else◌}
use Rattle.std.proofs.lemmas.List.Elements.{All-get_or}
use Rattle.std.proofs.lemmas.Option.{none-some}
use Rattle.lin_parts.specs.Cluster.{event_of, table_of, line_of}
use Rattle.lin_parts.specs.Rules.{IsCluster, IsEntry, IsDelay}
use Rattle.lin_parts.specs.declared.parts.Parts.{Parts}
use Rattle.lin_frame.specs.declared.sums.SumKind.TheVariants.{Enhanced}
use Rattle.lin_parts.specs.declared.parts.Table.{Table}
use Rattle.lin_parts.specs.declared.parts.EventFrame.{EventFrame}
use Rattle.lin_parts.specs.declared.parts.Line.{Line}
use Rattle.lin_parts.specs.declared.parts.Entry.{Entry}
use Rattle.lin_parts.specs.declared.parts.Entry.TheVariants.{Frame, Sporadic, Event, MasterReq, SlaveResp, Fixed, Quiet}
use Rattle.lin_schedule.specs.Schedule.{resolving}
use Rattle.lin_schedule.specs.Walker.{HasEntry}
use Rattle.lin_schedule.proofs.Times.{AreDelays, no_line}
use Rattle.lin_schedule.proofs.Standings.{AreWalkable}

no_table : Table
no_table = record { name = []; lines = [] }

no_event : EventFrame
no_event = record { name = []; pid = 0x80; model = Enhanced; table = 0; frames = [] }

-- a table has 1 to 1,024 entries
pub table-length : (c : Parts) → IsCluster c → (t : ℕ) → t < length c.tables → (1 ≤ length (table_of c t)) × (length (table_of c t) ≤ 1024)
unfolding no_table
table-length c rules t lt = All-get_or (λ table. (1 ≤ length table.lines) × (length table.lines ≤ 1024)) c.tables t no_table lt rules.tables.lengths

pub table-start : (c : Parts) → IsCluster c → (t : ℕ) → t < length c.tables → HasEntry c (t, 0)
table-start c rules t lt = (lt, (table-length c rules t lt).0)

-- no delay is 0
pub table-delays : (c : Parts) → IsCluster c → (t : ℕ) → t < length c.tables → AreDelays (table_of c t)
unfolding no_table
table-delays c rules t lt k in_table =
    let lines : All (λ line. IsDelay line.delay_us) (table_of c t) =
    All-get_or (λ table. All (λ line. IsDelay line.delay_us) table.lines) c.tables t no_table lt rules.tables.delays in
    (All-get_or (λ (line : Line). IsDelay line.delay_us) (table_of c t) k no_line in_table lines).0

-- what an entry names is there
pub line-entry : (c : Parts) → IsCluster c → (place : ℕ × ℕ) → HasEntry c place → IsEntry c (line_of c place.0 place.1).entry
unfolding no_table
line-entry c rules place has =
    let lines : All (λ line. IsEntry c line.entry) (table_of c place.0) =
    All-get_or (λ table. All (λ line. IsEntry c line.entry) table.lines) c.tables place.0 no_table has.0 rules.tables.entries in
    All-get_or (λ (line : Line). IsEntry c line.entry) (table_of c place.0) place.1 no_line has.1 lines

-- the resolving table of an event-triggered frame is there
pub event-table : (c : Parts) → IsCluster c → (e : ℕ) → e < length c.events → (event_of c e).table < length c.tables
unfolding no_event
event-table c rules e lt =
    All-get_or (λ (event : EventFrame). event.table < length c.tables) c.events e no_event lt rules.events.tables

-- so a slot for such an entry can start it
pub resolving-start : (c : Parts) → IsCluster c → (entry : Entry) → IsEntry c entry → (clash : Bool) (t : ℕ)
    → Some t ≡ (if clash then resolving c entry else None) → HasEntry c (t, 0)
resolving-start c rules (Event e) has true t is =
    let found : t ≡ (event_of c e).table = cc in
    rw found (table-start c rules (event_of c e).table (event-table c rules e has))
resolving-start c rules (Event e) has false t is = absurd (none-some t (sym is))
resolving-start c rules (Frame f) has true t is = absurd (none-some t (sym is))
resolving-start c rules (Frame f) has false t is = absurd (none-some t (sym is))
resolving-start c rules (Sporadic k) has true t is = absurd (none-some t (sym is))
resolving-start c rules (Sporadic k) has false t is = absurd (none-some t (sym is))
resolving-start c rules MasterReq has true t is = absurd (none-some t (sym is))
resolving-start c rules MasterReq has false t is = absurd (none-some t (sym is))
resolving-start c rules SlaveResp has true t is = absurd (none-some t (sym is))
resolving-start c rules SlaveResp has false t is = absurd (none-some t (sym is))
resolving-start c rules (Fixed b) has true t is = absurd (none-some t (sym is))
resolving-start c rules (Fixed b) has false t is = absurd (none-some t (sym is))
resolving-start c rules Quiet has true t is = absurd (none-some t (sym is))
resolving-start c rules Quiet has false t is = absurd (none-some t (sym is))

-- so times tell entries
pub cluster-AreWalkable : (c : Parts) → IsCluster c → AreWalkable c
cluster-AreWalkable c rules = λ t lt. ((table-length c rules t lt).0, table-delays c rules t lt)
