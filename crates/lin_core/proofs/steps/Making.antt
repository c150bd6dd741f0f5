-- What stands inside a core as it makes a step.
use Rattle.std.proofs.Common.{◌≡◌, ℕ, zero, suc, ◌+◌, ◌-◌, ◌^◌, ◌<◌, ◌≤◌, List, [], ◌∷◌, reverse, length, map, refl, ap, sym, ◌∙◌, subst, arith}
use Rattle.std.specs.Prelude.{Some, None, slice_get, slice_index_or, Bool, not, ◌==◌, nat_lt, Option, option_map, true, false, is_some, filter, if◌then◌else◌, ◌||◌}
use Rattle.lin_parts.specs.Cluster.{nodes, line_of}
use Rattle.lin_core.specs.History.{is_sleep_asked, Slot, open_slot}
use Rattle.lin_core.specs.kept.Hosts.{KeepsHost}
use Rattle.lin_core.specs.kept.Slots.{slot_in, opening_slot, header_of, is_due_of, served_by}
use Rattle.lin_core.specs.kept.Ready.{node_in, response_in}
use Rattle.lin_core.specs.declared.ready.Response.{Response}
use Rattle.lin_core.specs.kept.Signals.{is_cleared_in}
use Rattle.lin_core.specs.Links.{waiting}
use Rattle.lin_core.specs.Replies.{refusal, refusals}
use Rattle.lin_core.specs.Runs.{steps_of}
use Rattle.lin_core.specs.kept.State.{IsConsistent, IsStepReady, Stage}
use Rattle.lin_core.specs.declared.host.Host.{Host}
use Rattle.lin_core.specs.declared.log.LogEntry.{LogEntry}
use Rattle.lin_core.specs.declared.port.PortId.{PortId}
use Rattle.lin_core.specs.declared.step.Step.{Step}
use Rattle.lin_core.specs.declared.step.Step.TheVariants.{Send, Finish, Open}
use Rattle.lin_core.proofs.kept.Keeping.{host-few, host-at, send-room, queue-length, Opens, shut-slot}
use Rattle.std.proofs.lemmas.Bool.Decides.{nat_tests}
use Rattle.std.proofs.lemmas.Option.{slice_get_read}
use Rattle.lin_parts.specs.declared.parts.Entry.{Entry}
use Rattle.lin_core.specs.Slots.{header, due_nodes, is_service, plain_nodes, ready_responses, served_nodes}
use Rattle.lin_core.specs.declared.slot.OpenSlot.{OpenSlot}
use Rattle.lin_core.proofs.steps.Known.{Known}
use Rattle.lin_core.proofs.slots.OpenSlots.{or-false}
use Rattle.lin_core.proofs.slots.Opening.{header-due, nodes-due, new-open, responder_now, served-due}
use Rattle.lin_core.specs.Signals.{is_pending}
use Rattle.lin_frame.specs.Words.{numbers}
use Rattle.lin_schedule.specs.Due.{due_for}
use Rattle.lin_schedule.specs.Walker.{HasEntry, Position}
use Rattle.lin_schedule.proofs.Clusters.{line-entry}
use Rattle.lin_schedule.specs.declared.due.Due.{Due}
use Rattle.lin_core.proofs.kept.Places.{get-there}
use Rattle.lin_core.proofs.steps.Steps.{not-false, none-of, history-known}

abbrev pub past_in : Stage → List LogEntry
past_in a = reverse a.log

pub known-inside : (a : Stage) → IsConsistent a → Known a.cluster (past_in a)
known-inside a w = subst (λ (past : List LogEntry). Known a.cluster past) (sym w.history) (history-known a.cluster a.opening a.capacity (steps_of (past_in a)) w.sound)

-- what is known inside, of a step that is allowed
pub record Allowed (a : Stage) (by : PortId) (step : Step) : Type 0 where
  pub known : Known a.cluster (past_in a)
  pub allowed : refusal a.cluster a.capacity (past_in a) by step ≡ None
  pub few : length a.log < 2 ^ 32 - 1

pub allowed-ready : (a : Stage) (by : PortId) (step : Step) → IsStepReady a by step → Allowed a by step
allowed-ready a by step r = record { known = known-inside a r.whole; allowed = r.allowed; few = r.few }

-- the sender of a send that is allowed
pub record Sender (a : Stage) (from : ℕ) (host : Host) : Type 0 where
  pub at : slice_get a.state.hosts.items from ≡ Some host
  pub number : host.settled + length host.queue.items + 1 < 2 ^ 32
  pub room : length host.queue.items < host.queue.capacity

pub sender-inside : (a : Stage) (by : PortId) (from to : ℕ) (message : List ℕ) (host : Host) → IsConsistent a → Allowed a by (Send from to message) → host ≡ slice_index_or a.state.hosts.items from host → Sender a from host
sender-inside a by from to message host w s e =
    let at : slice_get a.state.hosts.items from ≡ Some host = host-at a.cluster a.capacity (past_in a) a.state.hosts.items host by from to message s.allowed w.kept.hosts_count e
    in let k : KeepsHost a.cluster a.capacity a.log (past_in a) from host = w.kept.each_host from host at
    in let few : host.settled + length host.queue.items ≤ length a.log = host-few a.cluster a.capacity a.log from host k
    in let small = s.few
    in let waits = queue-length a.cluster a.capacity a.log (past_in a) from host k
    in let free = (send-room a.cluster a.capacity (past_in a) by from to message s.allowed).1
    in let full = k.capacity_is
    in record { at = at; number = omega arith; room = omega arith }

-- == an open
pub waits-by : (n k : ℕ) → n ≡ k → nat_lt 0 k ≡ not (n == 0)
waits-by zero k e = rw (← e) refl
waits-by (suc n) k e = rw (← e) (grind (arith, nat_tests))

pub commander-at : (a : Stage) (host : Host) → IsConsistent a → host ≡ slice_index_or a.state.hosts.items 0 host → slice_get a.state.hosts.items 0 ≡ Some host
commander-at a host w e = let n = w.rules.nodes.number.0 in slice_get_read a.state.hosts.items (nodes a.cluster) 0 host (sym w.kept.hosts_count) (omega arith) e

-- where no slot is open, the frames that are kept as pending are those that are
pub flags-inside : (a : Stage) → IsConsistent a → a.state.slot ≡ None → (f : ℕ) → slice_index_or a.state.signals.pending.items f false ≡ is_pending a.cluster (past_in a) f
flags-inside a w shut f =
    sym (or-false (slice_index_or a.state.signals.pending.items f false))
    ∙ (let t : (slice_index_or a.state.signals.pending.items f false || is_cleared_in None f) ≡ is_pending a.cluster (past_in a) f = subst (λ (o : Option OpenSlot). (slice_index_or a.state.signals.pending.items f false || is_cleared_in o f) ≡ is_pending a.cluster (past_in a) f) shut (w.kept.signals_are.each_pending f) in t)

nodes-ready : (ready : List Response) → map node_in ready ≡ map (λ (x : ℕ × List ℕ). x.0) (map response_in ready)
nodes-ready [] = refl
nodes-ready (r ∷ rs) = ap (λ (ns : List ℕ). r.node ∷ ns) (nodes-ready rs)

pub opens-inside : (a : Stage) (by : PortId) (host : Host) (slot : OpenSlot) (served : List ℕ) (waits : Bool) (responder : Option ℕ) (place : ℕ × ℕ) (due : Due) → IsConsistent a → Allowed a by Open → host ≡ slice_index_or a.state.hosts.items 0 host
    → waits ≡ (not (length host.queue.items == 0) || a.state.bus.asked) → responder ≡ responder_now a.cluster (past_in a) → place ≡ a.state.walker.place → due ≡ due_for a.cluster a.state.signals.pending.items (line_of a.cluster a.state.walker.place.0 a.state.walker.place.1).entry
    → served ≡ served_by due (map node_in a.state.ready.items)
    → slot_in slot ≡ opening_slot place.0 place.1 (header_of a.cluster waits due) (nat_lt 0 (length served)) (if nat_lt 0 (length served) then served else filter (is_due_of a.cluster a.state.signals.pending.items waits responder due) (numbers (nodes a.cluster)))
    → slot.kind ≡ (line_of a.cluster slot.table slot.entry).entry → length slot.due.items ≤ 16 → slot.puts.items ≡ [] → slot.left.items ≡ [] → slot.hurt ≡ false → Opens a.cluster a.opening (past_in a) slot
opens-inside a by host slot served waits responder place due w s e b r at d serves is own few empty none calm =
    let past : List LogEntry = past_in a
    in let kept : KeepsHost a.cluster a.capacity a.log past 0 host = w.kept.each_host 0 host (commander-at a host w e)
    in let n = queue-length a.cluster a.capacity a.log past 0 host kept
    in let waiting_is : (nat_lt 0 (length (waiting a.cluster past 0)) || is_sleep_asked past) ≡ waits
    = ap (λ (x : Bool). x || is_sleep_asked past) (waits-by (length host.queue.items) (length (waiting a.cluster past 0)) n) ∙ ap (λ (x : Bool). not (length host.queue.items == 0) || x) (sym w.late.bus_is.asked_is) ∙ sym b
    in let shut : a.state.slot ≡ None = shut-slot a.cluster a.capacity past by a.state.slot s.allowed w.kept.slot_is
    in let flags = flags-inside a w shut
    in let kind : Entry = (line_of a.cluster a.state.walker.place.0 a.state.walker.place.1).entry
    in let table : slot.table ≡ place.0 = ap (λ (x : Slot). x.table) is
    in let entry : slot.entry ≡ place.1 = ap (λ (x : Slot). x.entry) is
    in let pair : (slot.table, slot.entry) ≡ a.state.walker.place = (let t : (slot.table, slot.entry) ≡ place = rw (table, entry) refl in t) ∙ at
    in let line : (line_of a.cluster slot.table slot.entry).entry ≡ kind = ap (λ (p : ℕ × ℕ). (line_of a.cluster p.0 p.1).entry) pair
    in let head : slot.header ≡ header a.cluster past kind = ap (λ (x : Slot). x.header) is ∙ ap (header_of a.cluster waits) d ∙ header-due a.cluster past a.state.signals.pending.items waits kind flags waiting_is
    in let ready : map node_in a.state.ready.items ≡ map (λ (x : ℕ × List ℕ). x.0) (ready_responses a.cluster past) = nodes-ready a.state.ready.items ∙ ap (map (λ (x : ℕ × List ℕ). x.0)) w.ready.0
    in let serving : served ≡ served_nodes a.cluster past kind = serves ∙ ap (λ (x : Due). served_by x (map node_in a.state.ready.items)) d ∙ served-due a.cluster past a.state.signals.pending.items kind (map node_in a.state.ready.items) ready
    in let service : slot.service ≡ is_service a.cluster past kind = ap (λ (x : Slot). x.service) is ∙ ap (λ (ns : List ℕ). nat_lt 0 (length ns)) serving
    in let plain : filter (is_due_of a.cluster a.state.signals.pending.items waits responder due) (numbers (nodes a.cluster)) ≡ plain_nodes a.cluster past kind
    = ap (λ (x : Due). filter (is_due_of a.cluster a.state.signals.pending.items waits responder x) (numbers (nodes a.cluster))) d ∙ nodes-due a.cluster past a.state.signals.pending.items waits responder kind flags waiting_is r
    in let dues : slot.due.items ≡ due_nodes a.cluster past kind
    = ap (λ (x : Slot). x.due) is ∙ ap (λ (ns : List ℕ). if nat_lt 0 (length served) then served else ns) plain ∙ ap (λ (ns : List ℕ). if nat_lt 0 (length ns) then ns else plain_nodes a.cluster past kind) serving
    in let there : HasEntry a.cluster (slot.table, slot.entry) = subst (HasEntry a.cluster) (sym pair) w.kept.walks.place
    in record {
      at = pair ∙ ap (λ (p : Position). p.place) w.kept.stands;
      is_open = new-open a.cluster past slot kind w.sound there own (rw own (line-entry a.cluster w.rules (slot.table, slot.entry) there)) line head service dues empty none few;
      header_is = rw line head;
      service_is = rw line service;
      due_is = rw line dues;
      empty = empty;
      none_left = none;
      calm = calm;
    }

-- == a finish
pub open-some : (o : Option OpenSlot) (p : Option Slot) → option_map slot_in o ≡ p → is_some p ≡ true → (k : OpenSlot) × (o ≡ Some k) × (p ≡ Some (slot_in k))
open-some None p e h = absurd (let bad : false ≡ true = rw (← e) at h in cc)
open-some (Some k) p e h = (k, refl, sym e)

pub record OpenIs (a : Stage) (by : PortId) : Type 0 where
  pub step : Allowed a by Finish
  pub slot : OpenSlot
  pub at : a.state.slot ≡ Some slot
  pub is : open_slot (past_in a) ≡ Some (slot_in slot)

pub open-ready : (a : Stage) (by : PortId) → IsStepReady a by Finish → OpenIs a by
open-ready a by r =
    let s : Allowed a by Finish = allowed-ready a by Finish r
    in let open_is : is_some (open_slot (past_in a)) ≡ true = not-false (is_some (open_slot (past_in a))) (none-of (refusals a.cluster a.capacity (past_in a) by Finish) s.allowed).0
    in let k = open-some a.state.slot (open_slot (past_in a)) r.whole.kept.slot_is open_is
    in record { step = s; slot = k.0; at = k.1; is = k.2 }

-- == a refusal
pub queued-inside : (a : Stage) (hosts : List Host) (from n : ℕ) → IsConsistent a → hosts ≡ a.state.hosts.items → ((host : Host) → slice_get hosts from ≡ Some host → n ≡ length host.queue.items) → from < nodes a.cluster → length (waiting a.cluster (past_in a) from) ≡ n
queued-inside a hosts from n w e counts below =
    let count = w.kept.hosts_count
    in let x = get-there a.state.hosts.items from (omega arith)
    in let at : slice_get hosts from ≡ Some x.0 = rw e x.1
    in sym (counts x.0 at ∙ queue-length a.cluster a.capacity a.log (past_in a) from x.0 (w.kept.each_host from x.0 x.1))
