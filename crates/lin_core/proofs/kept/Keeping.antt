-- What a core keeps stays that of its log, one more entry on.
use Rattle.std.proofs.Common.{◌≡◌, ℕ, suc, ◌+◌, ◌*◌, ◌^◌, ◌<◌, ◌≤◌, Bool, true, false, List, [], ◌∷◌, ◌++◌, reverse, map, length, refl, ap, sym, ◌∙◌, subst, arith, inl, inr}
use Rattle.std.specs.Prelude.{Option, Some, None, slice_get, slice_set, slice_index_or, is_some, ◌==◌, if◌then◌else◌, nat_le, All, option_map}
use Rattle.std.proofs.lemmas.List.{length-map, map-append, append-nil, length-append, length-reverse}
use Rattle.std.proofs.lemmas.Option.{slice_get_read, slice_get_within, get_or_from_slice_get}
use Rattle.lin_parts.specs.Cluster.{nodes, line_of}
use Rattle.lin_parts.specs.declared.parts.Parts.{Parts}
use Rattle.lin_core.specs.kept.Hosts.{message_at, sent_in, KeepsHost, message_of, host_after_send, new_host}
use Rattle.lin_core.specs.kept.State.{Keeps}
use Rattle.lin_core.specs.kept.Signals.{KeepsSignals, EndsSlot}
use Rattle.lin_core.specs.declared.signals.Signals.{Signals}
use Rattle.lin_core.proofs.kept.SignalKeeping.{Writes, Answers, set-at, signals-same, open-signals, write-signals, write-fits, answer-signals, finish-signals}
use Rattle.lin_core.proofs.slots.Opening.{with_put, put-open, answer-free}
use Rattle.lin_core.specs.kept.Slots.{IsOpen, opening_slot, put_in, slot_in}
use Rattle.lin_frame.specs.declared.value.Value.{Value}
use Rattle.lin_core.specs.Links.{Message, waiting, link_of, accepted_from, sent_from}
use Rattle.lin_core.specs.Core.{CoreData, IsRefused, entry_with_reply, IsAllowed, past_of}
use Rattle.lin_core.specs.Replies.{reply, refusal, refusals, opening_events, service_events, done_events, put_event, finish_events}
use Rattle.lin_core.specs.declared.log.LogEntry.{LogEntry}
use Rattle.lin_core.specs.declared.port.PortId.{PortId}
use Rattle.lin_core.specs.declared.step.Step.{Step}
use Rattle.lin_core.specs.declared.reply.Refusal.{Refusal}
use Rattle.lin_core.specs.declared.reply.Reply.TheVariants.{Refused, Done}
use Rattle.lin_core.specs.declared.host.Host.{Host}
use Rattle.lin_core.proofs.kept.Entries.{messages-stay, messages-more}
use Rattle.std.proofs.lemmas.Bool.{ne_eqb}
use Rattle.std.proofs.lemmas.Bool.Decides.{nat_tests}
use Rattle.std.proofs.Math.ListN.{length-set}
use Rattle.lin_schedule.specs.Walker.{Position, Stands, Walks}
use Rattle.lin_core.specs.declared.slot.OpenSlot.{OpenSlot}
use Rattle.std.proofs.lemmas.List.Elements.{All-get_or}
use Rattle.std.specs.Option.{option_map_or}
use Rattle.lin_core.specs.declared.slot.Put.{Put}
use Rattle.lin_core.specs.History.{Slot, done, open_slot, time, is_clash, slot_after_events}
use Rattle.lin_parts.specs.Sound.{IsSound}
use Rattle.lin_core.specs.declared.event.Event.TheVariants.{Accepted, Slot as SlotEvent, Due, Put as PutEvent}
use Rattle.lin_core.specs.declared.step.Step.TheVariants.{Send, Write, Open, Answer, Finish, Switch}
use Rattle.lin_core.proofs.sendings.Hosts.{HostState}
use Rattle.lin_core.proofs.steps.Known.{Known, write-known, switch-known}
use Rattle.lin_core.proofs.steps.Steps.{AllFalse, none-of, both-false, more_if, send-known, open-known, answer-known, told-open}
use Rattle.lin_core.proofs.sendings.Queues.{waiting-are}
use Rattle.lin_parts.specs.declared.parts.Entry.{Entry}
use Rattle.lin_core.specs.Slots.{header, due_nodes, is_service, next_due, moves}
use Rattle.lin_core.specs.declared.event.Event.{Event}
use Rattle.lin_schedule.specs.Schedule.Move.{Slot as SlotMove, Switch as SwitchMove}

-- as many messages of a host wait as its queue has places
pub queue-length : (c : Parts) (capacity : ℕ) (log past : List LogEntry) (h : ℕ) (host : Host) → KeepsHost c capacity log past h host → length host.queue.items ≡ length (waiting c past h)
queue-length c capacity log past h host k =
    sym (length-map host.queue.items (message_at log)) ∙ ap length k.queue ∙ length-map (map message_of (waiting c past h)) Some ∙ length-map (waiting c past h) message_of

-- == a step that is refused
abbrev pub refused_entry : PortId → Step → Refusal → LogEntry
refused_entry by step r = record { port = by; step = step; reply = Refused r }

pub refused-answered : (core : CoreData) (by : PortId) (step : Step) (r : Refusal) → IsRefused core by step r → refused_entry by step r ≡ entry_with_reply core by step
unfolding reply
refused-answered core by step r h = rw h

pub refused-keeps : (c : Parts) (opening capacity : ℕ) (log past : List LogEntry) (slot : Option OpenSlot) (clock : ℕ) (walker : Position) (hosts : List Host) (signals : Signals) (by : PortId) (step : Step) (r : Refusal)
    → Keeps c opening capacity log past slot clock walker hosts signals → Keeps c opening capacity (log ++ refused_entry by step r ∷ []) (refused_entry by step r ∷ past) slot clock walker hosts signals
refused-keeps c opening capacity log past slot clock walker hosts signals by step r k = record {
  slot_is = k.slot_is;
  slot_there = k.slot_there;
  clock_is = k.clock_is;
  clock_few = let t = k.clock_few in omega arith;
  stands = k.stands;
  walks = k.walks;
  hosts_count = k.hosts_count;
  each_host = λ h host at. let x = k.each_host h host at in record {
    queue = messages-stay log (refused_entry by step r) host.queue.items (map message_of (waiting c past h)) x.queue;
    count = x.count;
    capacity_is = x.capacity_is;
  };
  signals_are = signals-same c past (refused_entry by step r) slot signals (λ n. refl) (λ n. refl) (λ f. refl) (λ f. refl) k.signals_are;
}

-- == a send
-- no more messages are accepted than steps made
accepted-by : (n : ℕ) (ms : List Message) (o : Option Message) → length ms ≤ n → length (option_map_or (λ m. ms ++ m ∷ []) o ms) ≤ suc n
accepted-by n ms None h = omega arith
accepted-by n ms (Some m) h = simp length-append (omega arith)

pub accepted-few : (past : List LogEntry) (h : ℕ) → length (accepted_from past h) ≤ length past
accepted-few [] h = omega arith
accepted-few (e ∷ past) h = accepted-by (length past) (accepted_from past h) (option_map_or (sent_from h) (done e) None) (accepted-few past h)

abbrev pub send_entry : PortId → ℕ → ℕ → List ℕ → ℕ → LogEntry
send_entry by from to message number = record { port = by; step = Send from to message; reply = Done (Accepted from number ∷ []) }

-- the sender is a node, and there is room in its queue
pub send-room : (c : Parts) (capacity : ℕ) (past : List LogEntry) (by : PortId) (from to : ℕ) (message : List ℕ) → refusal c capacity past by (Send from to message) ≡ None
    → (from < nodes c) × (length (waiting c past from) < capacity)
send-room c capacity past by from to message h =
    let all : AllFalse (refusals c capacity past by (Send from to message)) = none-of (refusals c capacity past by (Send from to message)) h
    in let two : nat_le capacity (length (waiting c past from)) ≡ false = all.1.1.1.1.0
    in let far : nat_le (nodes c) from ≡ false = (both-false (nat_le (nodes c) from) _ all.0).0
    in (grind (arith, nat_tests, far), grind (arith, nat_tests, two))

accepted-one : (past : List LogEntry) (e : LogEntry) (from x : ℕ) (m : Message) (b : Bool) → (from == x) ≡ b → option_map_or (sent_from x) (done e) None ≡ (if from == x then Some m else None)
    → length (accepted_from (e ∷ past) x) ≡ length (accepted_from past x) + (if b then 1 else 0)
accepted-one past e from x m true t s = rw (s, t) (length-append (accepted_from past x) (m ∷ []))
accepted-one past e from x m false t s = rw (s, t) (omega arith)

rest-more : (b : Bool) (m : Message) (s : HostState) → (more_if b m s).rest ≡ s.rest ++ (if b then m ∷ [] else [])
rest-more true m s = refl
rest-more false m s = sym (append-nil s.rest)

send-own : (c : Parts) (capacity : ℕ) (log past : List LogEntry) (from x : ℕ) (host other : Host) (m : Message) (e : LogEntry) → (from == x) ≡ true → other ≡ host_after_send host (length log)
    → map message_of (waiting c (e ∷ past) x) ≡ map message_of (waiting c past x) ++ (if from == x then m ∷ [] else []) → length (accepted_from (e ∷ past) x) ≡ length (accepted_from past x) + 1 → sent_in e.step ≡ Some m
    → KeepsHost c capacity log past x host → KeepsHost c capacity (log ++ e ∷ []) (e ∷ past) x other
send-own c capacity log past from x host other m e t is more count s k =
    let ms : map message_of (waiting c (e ∷ past) x) ≡ map message_of (waiting c past x) ++ m ∷ [] = rw t at more
    in let old = k.count
    in rw is (record {
      queue = messages-more log e host.queue.items (map message_of (waiting c past x)) m s k.queue ∙ sym (ap (map Some) ms);
      count = simp length-append (omega arith);
      capacity_is = k.capacity_is;
    })

send-other : (c : Parts) (capacity : ℕ) (log past : List LogEntry) (from x : ℕ) (host : Host) (m : Message) (e : LogEntry) → (from == x) ≡ false
    → map message_of (waiting c (e ∷ past) x) ≡ map message_of (waiting c past x) ++ (if from == x then m ∷ [] else []) → length (accepted_from (e ∷ past) x) ≡ length (accepted_from past x) + 0
    → KeepsHost c capacity log past x host → KeepsHost c capacity (log ++ e ∷ []) (e ∷ past) x host
send-other c capacity log past from x host m e t more count k =
    let ms : map message_of (waiting c (e ∷ past) x) ≡ map message_of (waiting c past x) ++ [] = rw t at more
    in let old = k.count
    in record {
      queue = messages-stay log e host.queue.items (map message_of (waiting c past x)) k.queue ∙ sym (ap (map Some) (ms ∙ append-nil (map message_of (waiting c past x))));
      count = omega arith;
      capacity_is = k.capacity_is;
    }

eqb_true : (a b : ℕ) → a ≡ b → (a == b) ≡ true
eqb_true a b e = grind (arith, nat_tests, e)

pub send-keeps : (c : Parts) (opening capacity : ℕ) (log past : List LogEntry) (slot : Option OpenSlot) (clock : ℕ) (walker : Position) (hosts hosts' : List Host) (signals : Signals) (host : Host) (by : PortId) (from to : ℕ) (message : List ℕ) (number : ℕ)
    → IsSound c → Known c past → refusal c capacity past by (Send from to message) ≡ None → slice_get hosts from ≡ Some host → hosts' ≡ slice_set hosts from (host_after_send host (length log))
    → Keeps c opening capacity log past slot clock walker hosts signals → Keeps c opening capacity (log ++ send_entry by from to message number ∷ []) (send_entry by from to message number ∷ past) slot clock walker hosts' signals
send-keeps c opening capacity log past slot clock walker hosts hosts' signals host by from to message number sound known allowed at set k =
    let e : LogEntry = send_entry by from to message number
    in let m : Message = record { link = link_of from to; bytes = message }
    in let known' : Known c (e ∷ past) = send-known c capacity past by from to message (Accepted from number ∷ []) sound allowed known
    in let more : (x : ℕ) → map message_of (waiting c (e ∷ past) x) ≡ map message_of (waiting c past x) ++ (if from == x then m ∷ [] else [])
    = λ x. waiting-are c (e ∷ past) x sound known' ∙ rest-more (from == x) m (known.states x) ∙ ap (λ (ms : List Message). ms ++ (if from == x then m ∷ [] else [])) (sym (waiting-are c past x sound known))
    in record {
      slot_is = k.slot_is;
      slot_there = k.slot_there;
      clock_is = k.clock_is;
      clock_few = let t = k.clock_few in omega arith;
      stands = k.stands;
      walks = k.walks;
      hosts_count = rw set (length-set hosts from (host_after_send host (length log)) ∙ k.hosts_count);
      each_host = λ x other there.
          elim (set-at hosts from x (host_after_send host (length log)) other (let t : slice_get (slice_set hosts from (host_after_send host (length log))) x ≡ Some other = rw set at there in t)) [
            | inl same ↦ send-own c capacity log past from x host other m e (eqb_true from x same.0) same.1 (more x) (accepted-one past e from x m true (eqb_true from x same.0) refl) refl
                (subst (λ (y : ℕ). KeepsHost c capacity log past y host) same.0 (k.each_host from host at))
            | inr differ ↦ send-other c capacity log past from x other m e (ne_eqb from x differ.0) (more x) (accepted-one past e from x m false (ne_eqb from x differ.0) refl) (k.each_host x other differ.1)
          ];
      signals_are = signals-same c past e slot signals (λ n. refl) (λ n. refl) (λ f. refl) (λ f. refl) k.signals_are;
    }

pub host-few : (c : Parts) (capacity : ℕ) (log : List LogEntry) (h : ℕ) (host : Host) → KeepsHost c capacity log (reverse log) h host → host.settled + length host.queue.items ≤ length log
host-few c capacity log h host k = let n = k.count in let few = accepted-few (reverse log) h in let same = length-reverse log in omega arith

-- the host of an allowed send
pub host-at : (c : Parts) (capacity : ℕ) (past : List LogEntry) (hosts : List Host) (host : Host) (by : PortId) (from to : ℕ) (message : List ℕ) → refusal c capacity past by (Send from to message) ≡ None
    → length hosts ≡ nodes c → host ≡ slice_index_or hosts from host → slice_get hosts from ≡ Some host
host-at c capacity past hosts host by from to message h n e = slice_get_read hosts (nodes c) from host (sym n) (send-room c capacity past by from to message h).0 e

-- == steps by which no host gains or settles a message
pub same-hosts : (c : Parts) (capacity : ℕ) (log past : List LogEntry) (e : LogEntry) → IsSound c → (k : Known c past) (k' : Known c (e ∷ past)) → ((x : ℕ) → (k'.states x).rest ≡ (k.states x).rest)
    → ((x : ℕ) → accepted_from (e ∷ past) x ≡ accepted_from past x) → (h : ℕ) (host : Host) → KeepsHost c capacity log past h host → KeepsHost c capacity (log ++ e ∷ []) (e ∷ past) h host
same-hosts c capacity log past e sound k k' same accepted h host x =
    let ms : map message_of (waiting c (e ∷ past) h) ≡ map message_of (waiting c past h) = waiting-are c (e ∷ past) h sound k' ∙ same h ∙ sym (waiting-are c past h sound k)
    in record {
      queue = messages-stay log e host.queue.items (map message_of (waiting c past h)) x.queue ∙ sym (ap (map Some) ms);
      count = x.count ∙ sym (ap length (accepted h));
      capacity_is = x.capacity_is;
    }

-- an entry of a step that is done with these events
abbrev pub done_entry : PortId → Step → List Event → LogEntry
done_entry by step es = record { port = by; step = step; reply = Done es }

-- == a write
pub write-keeps : (c : Parts) (opening capacity : ℕ) (log past : List LogEntry) (slot : Option OpenSlot) (clock : ℕ) (walker : Position) (hosts : List Host) (signals signals' : Signals) (by : PortId) (node signal : ℕ) (v : Value)
    → IsSound c → Known c past → refusal c capacity past by (Write node signal v) ≡ None → Writes c signals signals' signal v
    → Keeps c opening capacity log past slot clock walker hosts signals
    → Keeps c opening capacity (log ++ done_entry by (Write node signal v) [] ∷ []) (done_entry by (Write node signal v) [] ∷ past) slot clock walker hosts signals'
write-keeps c opening capacity log past slot clock walker hosts signals signals' by node signal v sound known allowed written k =
    let e : LogEntry = done_entry by (Write node signal v) []
    in let known' : Known c (e ∷ past) = write-known c past by node signal v known
    in record {
      slot_is = k.slot_is;
      slot_there = k.slot_there;
      clock_is = k.clock_is;
      clock_few = let t = k.clock_few in omega arith;
      stands = k.stands;
      walks = k.walks;
      hosts_count = k.hosts_count;
      each_host = λ h host there. same-hosts c capacity log past e sound known known' (λ x. refl) (λ x. refl) h host (k.each_host h host there);
      signals_are = write-signals c past by node signal v slot signals signals' (write-fits c capacity past by node signal v allowed) written k.signals_are;
    }

-- == a switch
pub switch-there : (c : Parts) (capacity : ℕ) (past : List LogEntry) (by : PortId) (table : ℕ) → refusal c capacity past by (Switch table) ≡ None → table < length c.tables
switch-there c capacity past by table h =
    let all : AllFalse (refusals c capacity past by (Switch table)) = none-of (refusals c capacity past by (Switch table)) h
    in let there : nat_le (length c.tables) table ≡ false = all.0
    in grind (arith, nat_tests, there)

pub switch-keeps : (c : Parts) (opening capacity : ℕ) (log past : List LogEntry) (slot : Option OpenSlot) (clock : ℕ) (walker walker' : Position) (hosts : List Host) (signals : Signals) (by : PortId) (table : ℕ)
    → IsSound c → Known c past → Stands c opening walker' (SwitchMove table ∷ moves past) → Walks c walker'
    → Keeps c opening capacity log past slot clock walker hosts signals
    → Keeps c opening capacity (log ++ done_entry by (Switch table) [] ∷ []) (done_entry by (Switch table) [] ∷ past) slot clock walker' hosts signals
switch-keeps c opening capacity log past slot clock walker walker' hosts signals by table sound known stands walks k =
    let e : LogEntry = done_entry by (Switch table) []
    in let known' : Known c (e ∷ past) = switch-known c past by table known
    in record {
      slot_is = k.slot_is;
      slot_there = k.slot_there;
      clock_is = k.clock_is;
      clock_few = let t = k.clock_few in omega arith;
      stands = stands;
      walks = walks;
      hosts_count = k.hosts_count;
      each_host = λ h host there. same-hosts c capacity log past e sound known known' (λ x. refl) (λ x. refl) h host (k.each_host h host there);
      signals_are = signals-same c past e slot signals (λ n. refl) (λ n. refl) (λ f. refl) (λ f. refl) k.signals_are;
    }

-- == an open
abbrev pub events_of_open : OpenSlot → List Event
events_of_open s = SlotEvent s.table s.entry s.header ∷ (service_events s.service ++ map Due s.due.items)

-- a slot that opens where the schedule stands
pub record Opens (c : Parts) (opening : ℕ) (past : List LogEntry) (slot : OpenSlot) : Type 0 where
  pub at : (slot.table, slot.entry) ≡ next_due c opening past
  pub is_open : IsOpen c slot
  pub header_is : slot.header ≡ header c past (line_of c slot.table slot.entry).entry
  pub service_is : slot.service ≡ is_service c past (line_of c slot.table slot.entry).entry
  pub due_is : slot.due.items ≡ due_nodes c past (line_of c slot.table slot.entry).entry
  pub empty : slot.puts.items ≡ []
  pub none_left : slot.left.items ≡ []
  pub calm : slot.hurt ≡ false

abbrev opened_events : Parts → List LogEntry → ℕ × ℕ → List Event
opened_events c past at =
    SlotEvent at.0 at.1 (header c past (line_of c at.0 at.1).entry)
    ∷ (service_events (is_service c past (line_of c at.0 at.1).entry) ++ map Due (due_nodes c past (line_of c at.0 at.1).entry))

pub opening-is : (c : Parts) (opening : ℕ) (past : List LogEntry) (slot : OpenSlot) → Opens c opening past slot → events_of_open slot ≡ opening_events c opening past
opening-is c opening past slot o =
    let kind : Entry = (line_of c slot.table slot.entry).entry
    in let told : events_of_open slot ≡ opened_events c past (slot.table, slot.entry)
    = ap (λ (h : Option ℕ). SlotEvent slot.table slot.entry h ∷ (service_events slot.service ++ map Due slot.due.items)) o.header_is
    ∙ ap (λ (b : Bool). SlotEvent slot.table slot.entry (header c past kind) ∷ (service_events b ++ map Due slot.due.items)) o.service_is
    ∙ ap (λ (ns : List ℕ). SlotEvent slot.table slot.entry (header c past kind) ∷ (service_events (is_service c past kind) ++ map Due ns)) o.due_is
    in subst (λ (at : ℕ × ℕ). events_of_open slot ≡ opened_events c past at) o.at told

abbrev slot_at : Parts → List LogEntry → ℕ × ℕ → Slot
slot_at c past at = opening_slot at.0 at.1 (header c past (line_of c at.0 at.1).entry) (is_service c past (line_of c at.0 at.1).entry) (due_nodes c past (line_of c at.0 at.1).entry)

opened-slot : (c : Parts) (opening : ℕ) (past : List LogEntry) (slot : OpenSlot) → Opens c opening past slot → slot_in slot ≡ slot_at c past (slot.table, slot.entry)
opened-slot c opening past slot o = rw (o.header_is, o.service_is, o.due_is, o.empty, o.none_left, o.calm) refl

-- no slot is open where one may be opened
shut-by : (o : Option OpenSlot) → is_some (option_map slot_in o) ≡ false → o ≡ None
shut-by None e = refl
shut-by (Some s) e = cc

pub shut-slot : (c : Parts) (capacity : ℕ) (past : List LogEntry) (by : PortId) (old : Option OpenSlot) → refusal c capacity past by Open ≡ None → option_map slot_in old ≡ open_slot past → old ≡ None
shut-slot c capacity past by old h is =
    let all : AllFalse (refusals c capacity past by Open) = none-of (refusals c capacity past by Open) h
    in let closed : is_some (open_slot past) ≡ false = all.1.0
    in shut-by old (ap is_some is ∙ closed)

pub done-answered : (core : CoreData) (by : PortId) (step : Step) (es : List Event) → IsAllowed core by step → es ≡ done_events core.cluster core.opening (past_of core) by step → done_entry by step es ≡ entry_with_reply core by step
unfolding reply
done-answered core by step es h e = rw (h, e)

pub open-keeps : (c : Parts) (opening capacity : ℕ) (log past : List LogEntry) (old : Option OpenSlot) (slot : OpenSlot) (clock : ℕ) (walker : Position) (hosts : List Host) (signals : Signals) (by : PortId)
    → IsSound c → Known c past → refusal c capacity past by Open ≡ None → Opens c opening past slot
    → Keeps c opening capacity log past old clock walker hosts signals → Keeps c opening capacity (log ++ done_entry by Open (opening_events c opening past) ∷ []) (done_entry by Open (opening_events c opening past) ∷ past) (Some slot) clock walker hosts signals
open-keeps c opening capacity log past old slot clock walker hosts signals by sound known allowed o k =
    let at : ℕ × ℕ = next_due c opening past
    in let e : LogEntry = done_entry by Open (opening_events c opening past)
    in let known' : Known c (e ∷ past) = open-known c opening capacity past by sound allowed known
    in let shut : KeepsSignals c past None signals = subst (λ (x : Option OpenSlot). KeepsSignals c past x signals) (shut-slot c capacity past by old allowed k.slot_is) k.signals_are
    in record {
      slot_is = ap Some (
          opened-slot c opening past slot o
          ∙ ap (slot_at c past) o.at
          ∙ sym (told-open (is_service c past (line_of c at.0 at.1).entry) (due_nodes c past (line_of c at.0 at.1).entry) at.0 at.1 (header c past (line_of c at.0 at.1).entry)));
      slot_there = o.is_open;
      clock_is = k.clock_is;
      clock_few = let t = k.clock_few in omega arith;
      stands = k.stands;
      walks = k.walks;
      hosts_count = k.hosts_count;
      each_host = λ h host there. same-hosts c capacity log past e sound known known' (λ x. refl) (λ x. refl) h host (k.each_host h host there);
      signals_are = open-signals c past e slot signals o.empty (λ n. refl) (λ n. refl) (λ f. refl) shut;
    }

-- == an answer
pub answer-keeps : (c : Parts) (opening capacity : ℕ) (log past : List LogEntry) (slot : OpenSlot) (clock : ℕ) (walker : Position) (hosts : List Host) (signals signals' : Signals) (by : PortId) (node : ℕ) (p : Put)
    → IsSound c → Known c past → refusal c capacity past by (Answer node) ≡ None → p.node ≡ node
    → PutEvent node p.answer ∷ [] ≡ option_map_or (put_event c past node) (open_slot past) [] → Answers c slot (with_put slot p) p signals signals'
    → Keeps c opening capacity log past (Some slot) clock walker hosts signals
    → Keeps c opening capacity (log ++ done_entry by (Answer node) (option_map_or (put_event c past node) (open_slot past) []) ∷ []) (done_entry by (Answer node) (option_map_or (put_event c past node) (open_slot past) []) ∷ past)
    (Some (with_put slot p)) clock walker hosts signals'
answer-keeps c opening capacity log past slot clock walker hosts signals signals' by node p sound known allowed own told a k =
    let e : LogEntry = done_entry by (Answer node) (option_map_or (put_event c past node) (open_slot past) [])
    in let known' : Known c (e ∷ past) = answer-known c capacity past by node sound allowed known
    in let is : open_slot past ≡ Some (slot_in slot) = sym k.slot_is
    in let put : Some (slot_in (with_put slot p)) ≡ option_map (slot_after_events (PutEvent node p.answer ∷ [])) (open_slot past)
    = rw (is, ← own) (ap (λ (ps : List (ℕ × List ℕ)). Some (record (slot_in slot) { puts = ps })) (map-append put_in slot.puts.items (p ∷ [])))
    in record {
      slot_is = subst (λ (es : List Event). Some (slot_in (with_put slot p)) ≡ option_map (slot_after_events es) (open_slot past)) told put;
      slot_there = put-open c slot p k.slot_there (answer-free c capacity past by node slot p own allowed is);
      clock_is = k.clock_is;
      clock_few = let t = k.clock_few in omega arith;
      stands = k.stands;
      walks = k.walks;
      hosts_count = k.hosts_count;
      each_host = λ h host there. same-hosts c capacity log past e sound known known' (λ x. refl) (λ x. refl) h host (k.each_host h host there);
      signals_are = answer-signals c past by node (option_map_or (put_event c past node) (open_slot past) []) slot (with_put slot p) p signals signals' a k.signals_are;
    }

-- == a finish
abbrev pub finished_entry : Parts → List LogEntry → PortId → LogEntry
finished_entry c past by = done_entry by Finish (finish_events c by past)

-- what is kept after a finish: the slot is over, its delay is added, and the schedule goes on
pub record Finishes (c : Parts) (opening : ℕ) (past : List LogEntry) (slot : OpenSlot) (clock clock' : ℕ) (walker walker' : Position) : Type 0 where
  pub clock_is : clock' ≡ clock + (line_of c slot.table slot.entry).delay_us
  pub few : (line_of c slot.table slot.entry).delay_us ≤ 1000000000
  pub stands : Stands c opening walker' (SlotMove (is_clash (slot_in slot)) ∷ moves past)
  pub walks : Walks c walker'

clock-few : (d n t : ℕ) → d ≤ 1000000000 → t ≤ 10 ^ 9 * n → t + d ≤ 10 ^ 9 * suc n
clock-few d n t a b = omega arith

pub finish-keeps : (c : Parts) (opening capacity : ℕ) (log past : List LogEntry) (slot : OpenSlot) (clock clock' : ℕ) (walker walker' : Position) (hosts hosts' : List Host) (signals signals' : Signals) (by : PortId)
    → Finishes c opening past slot clock clock' walker walker' → EndsSlot c slot signals signals' → length hosts' ≡ length hosts
    → ((h : ℕ) (host : Host) → slice_get hosts' h ≡ Some host → KeepsHost c capacity (log ++ finished_entry c past by ∷ []) (finished_entry c past by ∷ past) h host)
    → Keeps c opening capacity log past (Some slot) clock walker hosts signals
    → Keeps c opening capacity (log ++ finished_entry c past by ∷ []) (finished_entry c past by ∷ past) None clock' walker' hosts' signals'
finish-keeps c opening capacity log past slot clock clock' walker walker' hosts hosts' signals signals' by f ends count each k = record {
  slot_is = refl;
  slot_there = tt;
  clock_is = rw (← k.slot_is, f.clock_is, k.clock_is) refl;
  clock_few = rw (← k.slot_is) (clock-few (line_of c slot.table slot.entry).delay_us (length past) (time c past) f.few k.clock_few);
  stands = rw (← k.slot_is) f.stands;
  walks = f.walks;
  hosts_count = count ∙ k.hosts_count;
  each_host = each;
  signals_are = finish-signals c past by (finish_events c by past) slot signals signals' (sym k.slot_is) ends k.signals_are;
}

-- == the empty log
pub all-at : {X : Type 0} (P : X → Type 0) (xs : List X) (i : ℕ) (x : X) → All P xs → slice_get xs i ≡ Some x → P x
all-at P xs i x a h = subst P (get_or_from_slice_get xs i x x h) (All-get_or P xs i x (slice_get_within xs i x h) a)

pub start-keeps : (c : Parts) (opening capacity : ℕ) (walker : Position) (hosts : List Host) (signals : Signals) → Stands c opening walker [] → Walks c walker → length hosts ≡ nodes c → All (λ (host : Host). host ≡ new_host capacity) hosts → KeepsSignals c [] None signals
    → Keeps c opening capacity [] [] None 0 walker hosts signals
start-keeps c opening capacity walker hosts signals stands walks count all kept = record {
  slot_is = refl;
  slot_there = tt;
  clock_is = refl;
  clock_few = omega arith;
  stands = stands;
  walks = walks;
  hosts_count = count;
  each_host = λ h host at.
      let is : host ≡ new_host capacity = all-at (λ (x : Host). x ≡ new_host capacity) hosts h host all at
      in rw is (record { queue = refl; count = refl; capacity_is = refl });
  signals_are = kept;
}
