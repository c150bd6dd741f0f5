-- Each response that is put in a history has bytes.
use Rattle.std.proofs.Common.{◌≡◌, ℕ, ◌≤◌, List, [], ◌∷◌, ◌++◌, length, refl, arith}
use Rattle.std.specs.Prelude.{⊤, Bool, true, false, Option, Some, None, option_map}
use Rattle.std.proofs.lemmas.List.{length-append}
use Rattle.std.specs.Option.{option_map_or}
use Rattle.lin_parts.specs.declared.parts.Entry.{Entry}
use Rattle.lin_parts.specs.declared.parts.Entry.TheVariants.{Frame, Sporadic, Event, MasterReq, SlaveResp, Fixed, Quiet}
use Rattle.lin_parts.specs.declared.parts.Parts.{Parts}
use Rattle.lin_parts.specs.Cluster.{line_of}
use Rattle.lin_core.specs.History.{Slot, slot_after_hurt, leave, open_slot, slot_after_events}
use Rattle.lin_core.specs.Slots.{due_nodes, header, is_service, next_due, put_bytes, put_by, ready_responses, service_bytes}
use Rattle.lin_core.specs.Replies.{done_events, put_event, refusal, reply}
use Rattle.lin_core.specs.Runs.{history}
use Rattle.lin_core.specs.declared.event.Event.TheVariants.{Put}
use Rattle.lin_core.specs.declared.log.LogEntry.{LogEntry}
use Rattle.lin_core.specs.declared.port.PortId.{PortId}
use Rattle.lin_core.specs.declared.reply.Refusal.{Refusal}
use Rattle.lin_core.specs.declared.reply.Reply.{Reply}
use Rattle.lin_core.specs.declared.reply.Reply.TheVariants.{Done, Refused}
use Rattle.lin_core.specs.declared.step.Step.{Step}
use Rattle.lin_core.specs.declared.step.Step.TheVariants.{Send, Write, Open, Answer, Leave, Hurt, Finish, Timeout, Switch, AskSleep, Wake, Close}
use Rattle.lin_core.proofs.steps.Steps.{told-open}

-- the reply to a step that is refused for this reason, if there is one
abbrev pub given : Parts → ℕ → List LogEntry → PortId → Step → Option Refusal → Reply
given c opening past port step r = option_map_or Refused r (Done (done_events c opening past port step))

-- an entry under which responses of messages and signals are put
abbrev pub IsPut : Entry → Type 0
IsPut (Fixed request) = ⊥
IsPut Quiet = ⊥
IsPut entry = ⊤

-- a slot with a header that is for no service has such an entry
abbrev pub HasEntry : Bool → Option ℕ → Entry → Type 0
HasEntry true o entry = ⊤
HasEntry false None entry = ⊤
HasEntry false (Some header) entry = IsPut entry

-- responses with bytes
abbrev pub AreWhole : List (ℕ × List ℕ) → Type 0
AreWhole [] = ⊤
AreWhole (p ∷ ps) = (1 ≤ length p.1) × AreWhole ps

-- a slot with a header has an entry under which responses are put, if it is for no service, and those that
-- were put have bytes
pub record IsWhole (c : Parts) (s : Slot) : Type 0 where
  pub puts : AreWhole s.puts
  pub entry : HasEntry s.service s.header (line_of c s.table s.entry).entry

abbrev pub SlotWhole : Parts → Option Slot → Type 0
SlotWhole c None = ⊤
SlotWhole c (Some s) = IsWhole c s

one-more : (xs : List ℕ) (n : ℕ) → 1 ≤ length (xs ++ n ∷ [])
one-more xs n = simp length-append (omega arith)

put-whole : (c : Parts) (past : List LogEntry) (entry : Entry) (h n : ℕ) → IsPut entry → 1 ≤ length (put_bytes c past entry h n)
put-whole c past (Frame f) h n i = one-more _ _
put-whole c past (Sporadic k) h n i = one-more _ _
put-whole c past (Event e) h n i = one-more _ _
put-whole c past MasterReq h n i = one-more _ _
put-whole c past SlaveResp h n i = one-more _ _
put-whole c past (Fixed request) h n i = absurd i
put-whole c past Quiet h n i = absurd i

slot-put : (c : Parts) (past : List LogEntry) (s : Slot) (h n : ℕ) (b : Bool) → s.service ≡ b → HasEntry b (Some h) (line_of c s.table s.entry).entry → 1 ≤ length (put_by c past s h n)
slot-put c past s h n true e i = rw e (one-more (service_bytes (ready_responses c past) (line_of c s.table s.entry).entry n) _)
slot-put c past s h n false e i = rw e (put-whole c past (line_of c s.table s.entry).entry h n i)

whole-more : (ps : List (ℕ × List ℕ)) (p : ℕ × List ℕ) → AreWhole ps → 1 ≤ length p.1 → AreWhole (ps ++ p ∷ [])
whole-more [] p h k = (k, tt)
whole-more (q ∷ ps) p h k = (h.0, whole-more ps p h.1 k)

any-header : (b : Bool) (o : Option ℕ) (entry : Entry) → IsPut entry → HasEntry b o entry
any-header true o entry i = tt
any-header false None entry i = tt
any-header false (Some h) entry i = i

open-whole : (c : Parts) (past : List LogEntry) (entry : Entry) → HasEntry (is_service c past entry) (header c past entry) entry
open-whole c past (Frame f) = tt
open-whole c past (Sporadic k) = any-header false (header c past (Sporadic k)) (Sporadic k) tt
open-whole c past (Event e) = tt
open-whole c past MasterReq = any-header false (header c past MasterReq) MasterReq tt
open-whole c past SlaveResp = any-header (is_service c past SlaveResp) (Some 0x7D) SlaveResp tt
open-whole c past (Fixed request) = tt
open-whole c past Quiet = tt

answer-whole : (c : Parts) (past : List LogEntry) (node : ℕ) (s : Slot) (o : Option ℕ) → s.header ≡ o → IsWhole c s
    → IsWhole c (slot_after_events (option_map_or (λ h. Put node (put_by c past s h node) ∷ []) o []) s)
answer-whole c past node s None e w = w
answer-whole c past node s (Some h) e w = record {
  puts = whole-more s.puts _ w.puts (slot-put c past s h node s.service refl (rw e at w.entry));
  entry = w.entry;
}

answered-whole : (c : Parts) (past : List LogEntry) (node : ℕ) (o : Option Slot) → SlotWhole c o
    → SlotWhole c (option_map (slot_after_events (option_map_or (put_event c past node) o [])) o)
answered-whole c past node None w = tt
answered-whole c past node (Some s) w = answer-whole c past node s s.header refl w

left-whole : (c : Parts) (node : ℕ) (o : Option Slot) → SlotWhole c o → SlotWhole c (option_map (leave node) o)
left-whole c node None w = tt
left-whole c node (Some s) w = record { puts = w.puts; entry = w.entry }

hurt-whole : (c : Parts) (o : Option Slot) → SlotWhole c o → SlotWhole c (option_map slot_after_hurt o)
hurt-whole c None w = tt
hurt-whole c (Some s) w = record { puts = w.puts; entry = w.entry }

step-whole : (c : Parts) (opening : ℕ) (past : List LogEntry) (port : PortId) (step : Step) (r : Option Refusal) → SlotWhole c (open_slot past)
    → SlotWhole c (open_slot (record { port = port; step = step; reply = given c opening past port step r } ∷ past))
step-whole c o past port step (Some r) w = w
step-whole c o past port (Send from to message) None w = w
step-whole c o past port (Write by signal value) None w = w
step-whole c o past port Open None w =
    let at : ℕ × ℕ = next_due c o past in
    let entry : Entry = (line_of c at.0 at.1).entry in
    rw (told-open (is_service c past entry) (due_nodes c past entry) at.0 at.1 (header c past entry)) (record { puts = tt; entry = open-whole c past entry })
step-whole c o past port (Answer node) None w = answered-whole c past node (open_slot past) w
step-whole c o past port (Leave node) None w = left-whole c node (open_slot past) w
step-whole c o past port (Hurt bytes) None w = hurt-whole c (open_slot past) w
step-whole c o past port Finish None w = tt
step-whole c o past port (Timeout node dir) None w = w
step-whole c o past port (Switch table) None w = w
step-whole c o past port AskSleep None w = w
step-whole c o past port Wake None w = w
step-whole c o past port (Close host) None w = w

pub history-whole : (c : Parts) (opening capacity : ℕ) (steps : List (PortId × Step)) → SlotWhole c (open_slot (history c opening capacity steps))
unfolding reply
history-whole c opening capacity [] = tt
history-whole c opening capacity (s ∷ earlier) =
    let past = history c opening capacity earlier in
    step-whole c opening past s.0 s.1 (refusal c capacity past s.0 s.1) (history-whole c opening capacity earlier)
