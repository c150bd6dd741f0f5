-- What a timeout finds, and what it leaves.
use Rattle.std.proofs.Common.{◌≡◌, ℕ, zero, suc, ◌+◌, ◌^◌, ◌<◌, ◌≤◌, Bool, true, false, List, [], ◌∷◌, ◌++◌, length, map, refl, ap, sym, ◌∙◌, subst, arith}
use Rattle.std.specs.Prelude.{Option, Some, None, is_none, is_some, ◌&&◌, nat_le, slice_get, slice_index_or, slice_set}
use Rattle.std.proofs.lemmas.Bool.Decides.{nat_tests}
use Rattle.std.proofs.lemmas.List.{length-map}
use Rattle.lin_transport.specs.Sender.{SenderData as Sender}
use Rattle.lin_parts.specs.Cluster.{nad, nodes}
use Rattle.lin_parts.specs.declared.parts.Parts.{Parts}
use Rattle.lin_core.specs.History.{open_slot}
use Rattle.lin_core.specs.kept.State.{Keeps, KeepsLate, IsConsistent, Stage}
use Rattle.lin_core.specs.kept.Hosts.{KeepsHost, message_at, message_of, host_after_settling}
use Rattle.lin_core.specs.Links.{Link, Message, accepted_from, heard_on, host_of, is_to_all, same_link, signs, waiting}
use Rattle.lin_core.specs.Replies.{all_reports, begun_on, link_at, quiet_entry, refusals}
use Rattle.lin_core.specs.declared.event.Event.{Event}
use Rattle.lin_core.specs.declared.event.Event.TheVariants.{Lost as LostEvent}
use Rattle.lin_core.specs.declared.host.Host.{Host}
use Rattle.lin_core.specs.declared.link.Cause.TheVariants.{TimedOut}
use Rattle.lin_core.specs.declared.link.Direction.{Direction}
use Rattle.lin_core.specs.declared.log.LogEntry.{LogEntry}
use Rattle.lin_core.specs.declared.port.PortId.{PortId}
use Rattle.lin_core.specs.declared.step.Step.TheVariants.{Timeout}
use Rattle.lin_core.proofs.steps.FinishEvents.{lost-one, timeout-told}
use Rattle.lin_core.proofs.sendings.Hosts.{CanGo, IsCount}
use Rattle.lin_core.proofs.kept.Keeping.{host-few, queue-length}
use Rattle.lin_core.proofs.steps.Known.{Known, entry_is}
use Rattle.lin_core.proofs.steps.Allowed.{host-of}
use Rattle.lin_core.proofs.steps.Making.{Allowed, known-inside, past_in}
use Rattle.lin_core.proofs.sendings.Moves.{same-is}
use Rattle.lin_core.proofs.sendings.Queues.{accepted-count, waiting-are}
use Rattle.lin_core.proofs.sendings.Senders.{sender-is, sender_for}
use Rattle.lin_core.proofs.kept.Settling.{Settles, marked-other, marked-own, settled-hosts, settled-late}
use Rattle.lin_core.proofs.kept.SignalKeeping.{signals-same}
use Rattle.std.proofs.Math.ListN.{length-set}
use Rattle.lin_parts.specs.Sound.{IsSound}
use Rattle.lin_schedule.specs.Walker.{Position}
use Rattle.lin_core.specs.declared.link.Direction.TheVariants.{Down, Up}
use Rattle.lin_core.specs.declared.bus_state.BusState.{BusState}
use Rattle.lin_core.specs.declared.signals.Signals.{Signals}
use Rattle.lin_core.specs.declared.slot.OpenSlot.{OpenSlot}
use Rattle.lin_core.proofs.steps.Steps.{first-go, is_open-false, none-of, timeout-known}
use Rattle.lin_core.proofs.sendings.Turns.{begun-is, begun_at}

-- the place of the first message that waits
pub next-of : (log : List LogEntry) (is : List ℕ) (m : Message) (ms : List Message) → map (message_at log) is ≡ map Some (m ∷ ms) → (p : ℕ) × (slice_get is 0 ≡ Some p) × (message_at log p ≡ Some m)
next-of log [] m ms e = absurd (cc)
next-of log (i ∷ is) m ms e = (i, refl, cc)

-- whether a message is begun on a link, by its host's sender and the link of the first message that waits
begun-by : (c : Parts) (rest : List Message) (count : ℕ) (sender : Option Sender) (l : Link) (over : Bool) → sender ≡ sender_for c rest count
    → ((m : Message) (ms : List Message) → rest ≡ m ∷ ms → over ≡ same_link m.link l) → begun_at rest count l ≡ (is_some sender && over)
begun-by c rest zero sender l over s at = rw s refl
begun-by c [] (suc j) sender l over s at = rw s refl
begun-by c (m ∷ ms) (suc j) sender l over s at = rw (s, at m ms refl) refl

pub begun-inside : (a : Stage) (node : ℕ) (dir : Direction) (host : Host) (place : ℕ) (over : Bool) → IsConsistent a → open_slot (past_in a) ≡ None → slice_get a.state.hosts.items (host_of (link_at node dir)) ≡ Some host
    → ((p : ℕ) → slice_get host.queue.items 0 ≡ Some p → place ≡ p) → ((m : Message) → message_at a.log place ≡ Some m → over ≡ same_link m.link (link_at node dir))
    → is_some (begun_on a.cluster (past_in a) node dir) ≡ (is_some host.sender && over)
begun-inside a node dir host place over w none here at goes =
    let c : Parts = a.cluster
    in let past : List LogEntry = past_in a
    in let h : ℕ = host_of (link_at node dir)
    in let k : Known c past = known-inside a w
    in let kept : KeepsHost c a.capacity a.log past h host = w.kept.each_host h host here
    in let late = w.late.each_sender h host here
    in begun-is c past node dir none k
    ∙ begun-by c (k.states h).rest (k.states h).count host.sender (link_at node dir) over (late.sender_is ∙ sender-is c past h w.sound k)
    (λ m ms first.
    let q = next-of a.log host.queue.items m ms (kept.queue ∙ ap (map Some) (waiting-are c past h w.sound k ∙ first))
    in goes m (rw (at q.0 q.1) q.2))

-- nothing is begun where the host has no sender
not-begun : (c : Parts) (rest : List Message) (count : ℕ) (sender : Option Sender) (l : Link) → sender ≡ sender_for c rest count → is_some sender ≡ false → begun_at rest count l ≡ false
not-begun c rest zero sender l s e = refl
not-begun c [] (suc j) sender l s e = refl
not-begun c (m ∷ ms) (suc j) sender l s e = absurd (let bad : true ≡ false = rw s at e in cc)

pub none-inside : (a : Stage) (node : ℕ) (dir : Direction) (host : Host) → IsConsistent a → open_slot (past_in a) ≡ None → slice_get a.state.hosts.items (host_of (link_at node dir)) ≡ Some host → is_some host.sender ≡ false
    → is_some (begun_on a.cluster (past_in a) node dir) ≡ false
none-inside a node dir host w none here e =
    let c : Parts = a.cluster
    in let past : List LogEntry = past_in a
    in let h : ℕ = host_of (link_at node dir)
    in let k : Known c past = known-inside a w
    in begun-is c past node dir none k
    ∙ not-begun c (k.states h).rest (k.states h).count host.sender (link_at node dir) ((w.late.each_sender h host here).sender_is ∙ sender-is c past h w.sound k) e

-- a timeout that is allowed
record FirstIs (rest : List Message) (count : ℕ) (l : Link) : Type 0 where
  message : Message
  later : List Message
  good : ℕ
  first : rest ≡ message ∷ later
  begun : count ≡ suc good
  over : same_link message.link l ≡ true

first-is : (rest : List Message) (count : ℕ) (l : Link) → begun_at rest count l ≡ true → FirstIs rest count l
first-is rest zero l e = absurd (let bad : false ≡ true = e in cc)
first-is [] (suc j) l e = absurd (let bad : false ≡ true = e in cc)
first-is (m ∷ ms) (suc j) l e = record { message = m; later = ms; good = j; first = refl; begun = refl; over = e }

not-none : {X : Type 0} (o : Option X) → is_none o ≡ false → is_some o ≡ true
not-none None e = cc
not-none (Some x) e = refl

pub record TimesOut (a : Stage) (by : PortId) (node : ℕ) (dir : Direction) (host : Host) : Type 0 where
  pub known : Known a.cluster (past_in a)
  pub none : open_slot (past_in a) ≡ None
  pub there : node < nodes a.cluster
  pub address : is_some (nad a.cluster node) ≡ true
  pub here : slice_get a.state.hosts.items (host_of (link_at node dir)) ≡ Some host
  pub small : host.settled + 1 < 2 ^ 32
  pub told : LostEvent (host_of (link_at node dir)) (host.settled + 1) TimedOut ∷ [] ≡ all_reports a.cluster (quiet_entry by (Timeout node dir)) (past_in a)
  pub settles : (es : List Event) → Settles a.cluster (past_in a) (entry_is by (Timeout node dir) es) known (timeout-known a.cluster (past_in a) by node dir es none known) (host_of (link_at node dir))

-- the host of a link is a node
pub over-node : (c : Parts) (node : ℕ) (dir : Direction) → node < nodes c → host_of (link_at node dir) < nodes c
over-node c node Down l = omega arith
over-node c node Up l = l

pub times-out : (a : Stage) (by : PortId) (node : ℕ) (dir : Direction) (host : Host) → IsConsistent a → Allowed a by (Timeout node dir) → host ≡ slice_index_or a.state.hosts.items (host_of (link_at node dir)) host → TimesOut a by node dir host
times-out a by node dir host w n e =
    let c : Parts = a.cluster
    in let past : List LogEntry = past_in a
    in let l : Link = link_at node dir
    in let h : ℕ = host_of l
    in let t : Link → Bool = λ x. same_link x l
    in let k : Known c past = n.known
    in let all = none-of (refusals c a.capacity past by (Timeout node dir)) n.allowed
    in let far : nat_le (nodes c) node ≡ false = all.0
    in let none : open_slot past ≡ None = is_open-false (open_slot past) all.1.0
    in let there : node < nodes c = grind (arith, nat_tests, far)
    in let here : slice_get a.state.hosts.items h ≡ Some host = host-of a h host w (over-node c node dir there) e
    in let begun : begun_at (k.states h).rest (k.states h).count l ≡ true = sym (begun-is c past node dir none k) ∙ not-none (begun_on c past node dir) all.1.1.1.0
    in let f : FirstIs (k.states h).rest (k.states h).count l = first-is (k.states h).rest (k.states h).count l begun
    in let go : CanGo c h f.message = first-go c h (accepted_from past h) (heard_on c past) (signs c past) (k.states h) f.message f.later f.first (k.hosts h)
    in let one : is_to_all f.message.link ≡ false = subst (λ (n : ℕ). IsCount (f.message ∷ f.later) n) f.begun (subst (λ (r : List Message). IsCount r (k.states h).count) f.first (k.hosts h).counts)
    in let own : (x : Link) → t x ≡ true → host_of x ≡ h = λ x s. ap host_of (same-is x l s)
    in let kept : KeepsHost c a.capacity a.log past h host = w.kept.each_host h host here
    in let few : host.settled + length host.queue.items ≤ length a.log = host-few c a.capacity a.log h host kept
    in let small = n.few
    in let q = queue-length c a.capacity a.log past h host kept
    in let rest : length (waiting c past h) ≡ length (k.states h).rest = sym (length-map (waiting c past h) message_of) ∙ ap length (waiting-are c past h w.sound k)
    in let more = ap length f.first
    in let accepted = accepted-count c past h k
    in let count = kept.count
    in let number : host.settled + 1 ≡ suc (length (k.states h).done) = omega arith
    in record {
      known = k;
      none = none;
      there = there;
      address = subst (λ (x : Link). is_some (nad c x.node) ≡ true) (same-is f.message.link l f.over) (go.one one).address;
      here = here;
      small = omega arith;
      told = ap (λ (x : ℕ). LostEvent h x TimedOut ∷ []) number
          ∙ sym (timeout-told c past by node dir w.sound none k ∙ lost-one c past k t TimedOut h f.message f.later f.good f.first f.begun f.over own (go.one one));
      settles = λ es.
          let m = marked-own t TimedOut (k.states h) f.message f.later f.good f.first f.begun f.over
          in record {
            message = f.message;
            later = f.later;
            first = f.first;
            rest = m.0;
            count = m.1;
            others = λ x differ. marked-other c t TimedOut (k.states x).done (k.states x).rest (k.states x).count h x (k.hosts x).can_go own differ;
            accepted = λ x. refl;
          };
    }

pub timeout-keeps : (c : Parts) (opening capacity : ℕ) (log past : List LogEntry) (slot : Option OpenSlot) (clock : ℕ) (walker : Position) (hosts : List Host) (signals : Signals) (host : Host) (by : PortId) (node : ℕ) (dir : Direction) (es : List Event)
    → IsSound c → (k : Known c past) (none : open_slot past ≡ None) → slice_get hosts (host_of (link_at node dir)) ≡ Some host
    → Settles c past (entry_is by (Timeout node dir) es) k (timeout-known c past by node dir es none k) (host_of (link_at node dir)) → Keeps c opening capacity log past slot clock walker hosts signals
    → Keeps c opening capacity (log ++ entry_is by (Timeout node dir) es ∷ []) (entry_is by (Timeout node dir) es ∷ past) slot clock walker (slice_set hosts (host_of (link_at node dir)) (host_after_settling host)) signals
timeout-keeps c opening capacity log past slot clock walker hosts signals host by node dir es sound known none here s k =
    let e : LogEntry = entry_is by (Timeout node dir) es
    in let h : ℕ = host_of (link_at node dir)
    in let known' : Known c (e ∷ past) = timeout-known c past by node dir es none known
    in record {
      slot_is = k.slot_is;
      slot_there = k.slot_there;
      clock_is = k.clock_is;
      clock_few = let t = k.clock_few in omega arith;
      stands = k.stands;
      walks = k.walks;
      hosts_count = length-set hosts h (host_after_settling host) ∙ k.hosts_count;
      each_host = settled-hosts c capacity log past e h host hosts sound known known' s here k.each_host;
      signals_are = signals-same c past e slot signals (λ n. refl) (λ n. refl) (λ f. refl) (λ f. refl) k.signals_are;
    }

pub timeout-late : (c : Parts) (past : List LogEntry) (bus : BusState) (hosts : List Host) (host : Host) (by : PortId) (node : ℕ) (dir : Direction) (es : List Event)
    → IsSound c → (k : Known c past) (none : open_slot past ≡ None) → slice_get hosts (host_of (link_at node dir)) ≡ Some host
    → Settles c past (entry_is by (Timeout node dir) es) k (timeout-known c past by node dir es none k) (host_of (link_at node dir)) → KeepsLate c past bus hosts
    → KeepsLate c (entry_is by (Timeout node dir) es ∷ past) bus (slice_set hosts (host_of (link_at node dir)) (host_after_settling host))
timeout-late c past bus hosts host by node dir es sound known none here s late =
    settled-late c past (entry_is by (Timeout node dir) es) (host_of (link_at node dir)) host bus bus hosts sound known (timeout-known c past by node dir es none known) s here (λ x. refl)
    (record { asleep_is = late.bus_is.asleep_is; asked_is = late.bus_is.asked_is; selected_is = late.bus_is.selected_is }) late
