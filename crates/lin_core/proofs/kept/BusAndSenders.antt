-- The bus and the hosts' begun messages stay those of the log, one more entry on.
use Rattle.std.proofs.Common.{◌≡◌, ℕ, zero, suc, ◌<◌, ◌≤◌, Bool, true, false, List, [], ◌∷◌, ◌++◌, length, refl, ap, sym, ◌∙◌, subst, arith, inl, inr}
use Rattle.std.specs.Prelude.{Option, Some, None, ◌==◌, if◌then◌else◌, slice_get, slice_set, ◌||◌, not, filter, cond, IfSome, All}
use Rattle.std.proofs.lemmas.Bool.{ne_eqb}
use Rattle.std.proofs.lemmas.Bool.Decides.{nat_tests, eqb_tells}
use Rattle.lin_frame.specs.declared.value.Value.{Value}
use Rattle.lin_parts.specs.declared.parts.Parts.{Parts}
use Rattle.lin_parts.specs.Sound.{IsSound}
use Rattle.lin_core.specs.History.{is_host_closed, Slot, has_decided, is_in, leave, open_slot}
use Rattle.lin_core.specs.kept.Hosts.{new_host, host_after_send, KeepsHost, KeepsSender, sender_now}
use Rattle.lin_core.specs.kept.State.{KeepsLate, Keeps}
use Rattle.lin_core.specs.kept.Bus.{KeepsBus}
use Rattle.lin_core.specs.Links.{Message, link_of}
use Rattle.lin_core.specs.Replies.{refusal, in_slot, refusals, opening_events, put_event}
use Rattle.lin_core.specs.declared.event.Event.{Event}
use Rattle.lin_core.specs.declared.host.Host.{Host}
use Rattle.lin_core.specs.declared.log.LogEntry.{LogEntry}
use Rattle.lin_core.specs.declared.bus_state.BusState.{BusState}
use Rattle.lin_core.specs.declared.port.PortId.{PortId}
use Rattle.lin_core.specs.declared.reply.Refusal.{Refusal}
use Rattle.lin_core.specs.declared.reply.Reply.TheVariants.{Refused}
use Rattle.lin_core.specs.declared.step.Step.{Step}
use Rattle.lin_core.specs.declared.step.Step.TheVariants.{Send, Write, Leave, Hurt, Switch, AskSleep, Wake, Close, Answer, Open}
use Rattle.std.specs.List.{list_any}
use Rattle.std.proofs.Math.ListN.{length-set}
use Rattle.std.proofs.lemmas.List.{length-append}
use Rattle.std.specs.Option.{option_map_or}
use Rattle.lin_core.specs.kept.Signals.{KeepsSignals}
use Rattle.lin_core.specs.kept.Slots.{slot_in}
use Rattle.lin_core.specs.Signals.{carried_frame, carried_by}
use Rattle.lin_parts.specs.Cluster.{line_of}
use Rattle.lin_parts.specs.declared.parts.Entry.{Entry}
use Rattle.lin_parts.specs.declared.parts.Entry.TheVariants.{Frame, Sporadic, Event as EventEntry, MasterReq, SlaveResp, Fixed, Quiet}
use Rattle.lin_core.specs.declared.slot.Put.{Put}
use Rattle.lin_core.proofs.sendings.Hosts.{eqb-self, HostState, IsCount}
use Rattle.lin_core.proofs.slots.OpenSlots.{or-assoc, or-false}
use Rattle.lin_core.proofs.steps.Steps.{both-false, none-of, not-false, answer-known, open-known, more_if, send-known}
use Rattle.lin_schedule.specs.Schedule.Move.{Restart}
use Rattle.lin_schedule.specs.Walker.{Position, Stands, Walks}
use Rattle.lin_core.specs.Slots.{moves}
use Rattle.lin_core.specs.declared.signals.Signals.{Signals}
use Rattle.lin_core.specs.declared.slot.OpenSlot.{OpenSlot}
use Rattle.lin_core.proofs.kept.Keeping.{all-at, same-hosts}
use Rattle.lin_core.proofs.kept.SignalKeeping.{signals-same, set-at}
use Rattle.lin_core.proofs.steps.Known.{Known, ask-known, close-known, entry_is, hurt-known, leave-known, refused-known, switch-known, wake-known, write-known}
use Rattle.lin_core.proofs.sendings.Senders.{sender-is, sender_for}

-- the sender of a host that neither gains nor settles a message nor gets on with one
pub sender-stays : (c : Parts) (past : List LogEntry) (e : LogEntry) (h : ℕ) → IsSound c → (k : Known c past) (k' : Known c (e ∷ past)) → (k'.states h).rest ≡ (k.states h).rest → (k'.states h).count ≡ (k.states h).count
    → sender_now c (e ∷ past) h ≡ sender_now c past h
sender-stays c past e h sound k k' rest count = sender-is c (e ∷ past) h sound k' ∙ rw (rest, count) (sym (sender-is c past h sound k))

-- an entry by which no host's messages change
pub still-late : (c : Parts) (past : List LogEntry) (e : LogEntry) (bus bus' : BusState) (hosts : List Host) → IsSound c → (k : Known c past) (k' : Known c (e ∷ past)) → ((x : ℕ) → k'.states x ≡ k.states x)
    → ((x : ℕ) → is_host_closed (e ∷ past) x ≡ is_host_closed past x) → KeepsBus c (e ∷ past) bus' → KeepsLate c past bus hosts → KeepsLate c (e ∷ past) bus' hosts
still-late c past e bus bus' hosts sound k k' same shut kept late = record {
  bus_is = kept;
  each_sender = λ h host at.
      let x : KeepsSender c past h host = late.each_sender h host at
      in record {
        closed_is = x.closed_is ∙ sym (shut h);
        sender_is = x.sender_is ∙ sym (sender-stays c past e h sound k k' (ap (λ (s : HostState). s.rest) (same h)) (ap (λ (s : HostState). s.count) (same h)));
      };
}

pub refused-late : (c : Parts) (past : List LogEntry) (by : PortId) (step : Step) (r : Refusal) (bus : BusState) (hosts : List Host) → IsSound c → (k : Known c past) → KeepsLate c past bus hosts
    → KeepsLate c (record { port = by; step = step; reply = Refused r } ∷ past) bus hosts
refused-late c past by step r bus hosts sound k late =
    still-late c past (record { port = by; step = step; reply = Refused r }) bus bus hosts sound k (refused-known c past by step r k) (λ x. refl) (λ x. refl)
    (record { asleep_is = late.bus_is.asleep_is; asked_is = late.bus_is.asked_is; selected_is = late.bus_is.selected_is }) late

pub write-late : (c : Parts) (past : List LogEntry) (by : PortId) (node signal : ℕ) (v : Value) (bus : BusState) (hosts : List Host) → IsSound c → (k : Known c past) → KeepsLate c past bus hosts
    → KeepsLate c (entry_is by (Write node signal v) [] ∷ past) bus hosts
write-late c past by node signal v bus hosts sound k late =
    still-late c past (entry_is by (Write node signal v) []) bus bus hosts sound k (write-known c past by node signal v k) (λ x. refl) (λ x. refl)
    (record { asleep_is = late.bus_is.asleep_is; asked_is = late.bus_is.asked_is; selected_is = late.bus_is.selected_is }) late

pub switch-late : (c : Parts) (past : List LogEntry) (by : PortId) (table : ℕ) (bus : BusState) (hosts : List Host) → IsSound c → (k : Known c past) → KeepsLate c past bus hosts
    → KeepsLate c (entry_is by (Switch table) [] ∷ past) bus hosts
switch-late c past by table bus hosts sound k late =
    still-late c past (entry_is by (Switch table) []) bus bus hosts sound k (switch-known c past by table k) (λ x. refl) (λ x. refl)
    (record { asleep_is = late.bus_is.asleep_is; asked_is = late.bus_is.asked_is; selected_is = late.bus_is.selected_is }) late

pub leave-late : (c : Parts) (past : List LogEntry) (by : PortId) (node : ℕ) (bus : BusState) (hosts : List Host) → IsSound c → (k : Known c past) → KeepsLate c past bus hosts
    → KeepsLate c (entry_is by (Leave node) [] ∷ past) bus hosts
leave-late c past by node bus hosts sound k late =
    still-late c past (entry_is by (Leave node) []) bus bus hosts sound k (leave-known c past by node [] k) (λ x. refl) (λ x. refl)
    (record { asleep_is = late.bus_is.asleep_is; asked_is = late.bus_is.asked_is; selected_is = late.bus_is.selected_is }) late

pub hurt-late : (c : Parts) (past : List LogEntry) (by : PortId) (bytes : List ℕ) (bus : BusState) (hosts : List Host) → IsSound c → (k : Known c past) → KeepsLate c past bus hosts
    → KeepsLate c (entry_is by (Hurt bytes) [] ∷ past) bus hosts
hurt-late c past by bytes bus hosts sound k late =
    still-late c past (entry_is by (Hurt bytes) []) bus bus hosts sound k (hurt-known c past by bytes [] k) (λ x. refl) (λ x. refl)
    (record { asleep_is = late.bus_is.asleep_is; asked_is = late.bus_is.asked_is; selected_is = late.bus_is.selected_is }) late

pub ask-late : (c : Parts) (past : List LogEntry) (by : PortId) (bus : BusState) (hosts : List Host) → IsSound c → (k : Known c past) → KeepsLate c past bus hosts
    → KeepsLate c (entry_is by AskSleep [] ∷ past) (record bus { asked = true }) hosts
ask-late c past by bus hosts sound k late =
    still-late c past (entry_is by AskSleep []) bus (record bus { asked = true }) hosts sound k (ask-known c past by [] k) (λ x. refl) (λ x. refl)
    (record { asleep_is = late.bus_is.asleep_is; asked_is = refl; selected_is = late.bus_is.selected_is }) late

pub wake-late : (c : Parts) (past : List LogEntry) (by : PortId) (bus : BusState) (hosts : List Host) → IsSound c → (k : Known c past) → KeepsLate c past bus hosts
    → KeepsLate c (entry_is by Wake [] ∷ past) (record bus { asleep = false }) hosts
wake-late c past by bus hosts sound k late =
    still-late c past (entry_is by Wake []) bus (record bus { asleep = false }) hosts sound k (wake-known c past by [] k) (λ x. refl) (λ x. refl)
    (record { asleep_is = refl; asked_is = late.bus_is.asked_is; selected_is = late.bus_is.selected_is }) late

-- == a close
closed-by : (c : Parts) (past : List LogEntry) (by : PortId) (host x : ℕ) (b : Bool) → (host == x) ≡ b → is_host_closed (entry_is by (Close host) [] ∷ past) x ≡ (if b then true else is_host_closed past x)
closed-by c past by host x true e = rw e refl
closed-by c past by host x false e = rw e refl

pub close-late : (c : Parts) (past : List LogEntry) (by : PortId) (host : ℕ) (kept : Host) (bus : BusState) (hosts : List Host) → IsSound c → (k : Known c past) → slice_get hosts host ≡ Some kept → KeepsLate c past bus hosts
    → KeepsLate c (entry_is by (Close host) [] ∷ past) bus (slice_set hosts host (record kept { closed = true }))
close-late c past by host kept bus hosts sound k here late =
    let e : LogEntry = entry_is by (Close host) []
    in record {
      bus_is = record { asleep_is = late.bus_is.asleep_is; asked_is = late.bus_is.asked_is; selected_is = late.bus_is.selected_is };
      each_sender = λ h x at.
          elim (set-at hosts host h (record kept { closed = true }) x at) [
            | inl same ↦
                let own : KeepsSender c past host kept = late.each_sender host kept here
                in let yes : (host == h) ≡ true = let z = same.0 in grind (arith, nat_tests, z)
                in let sender : kept.sender ≡ sender_now c (e ∷ past) h
                = subst (λ (y : ℕ). kept.sender ≡ sender_now c (e ∷ past) y) same.0 (own.sender_is ∙ sym (sender-stays c past e host sound k (close-known c past by host [] k) refl refl))
                in rw same.1 (record { closed_is = sym (closed-by c past by host h true yes); sender_is = sender })
            | inr differ ↦
                let own : KeepsSender c past h x = late.each_sender h x differ.1
                in record {
                  closed_is = own.closed_is ∙ sym (closed-by c past by host h false (ne_eqb host h differ.0));
                  sender_is = own.sender_is ∙ sym (sender-stays c past e h sound k (close-known c past by host [] k) refl refl);
                }
          ];
    }

-- == a send
for-more : (c : Parts) (rest : List Message) (m : Message) (j : ℕ) (b : Bool) → IsCount rest j → sender_for c (rest ++ (if b then m ∷ [] else [])) j ≡ sender_for c rest j
for-more c rest m zero b i = refl
for-more c [] m (suc j) b i = absurd i
for-more c (x ∷ rest) m (suc j) b i = refl

state-more : (c : Parts) (b : Bool) (m : Message) (s : HostState) → IsCount s.rest s.count → sender_for c (more_if b m s).rest (more_if b m s).count ≡ sender_for c s.rest s.count
state-more c true m s i = for-more c s.rest m s.count true i
state-more c false m s i = refl

same-sender : (c : Parts) (past : List LogEntry) (h place : ℕ) (host : Host) → KeepsSender c past h host → KeepsSender c past h (host_after_send host place)
same-sender c past h place host k = record { closed_is = k.closed_is; sender_is = k.sender_is }

pub send-late : (c : Parts) (capacity : ℕ) (past : List LogEntry) (by : PortId) (from to : ℕ) (message : List ℕ) (es : List Event) (place : ℕ) (host : Host) (bus : BusState) (hosts hosts' : List Host) → IsSound c → (k : Known c past)
    → refusal c capacity past by (Send from to message) ≡ None → slice_get hosts from ≡ Some host → hosts' ≡ slice_set hosts from (host_after_send host place) → KeepsLate c past bus hosts
    → KeepsLate c (entry_is by (Send from to message) es ∷ past) bus hosts'
send-late c capacity past by from to message es place host bus hosts hosts' sound k allowed here set late =
    let e : LogEntry = entry_is by (Send from to message) es
    in let m : Message = record { link = link_of from to; bytes = message }
    in let k' : Known c (e ∷ past) = send-known c capacity past by from to message es sound allowed k
    in let stays : (h : ℕ) (x : Host) → KeepsSender c past h x → KeepsSender c (e ∷ past) h x
    = λ h x own. record { closed_is = own.closed_is; sender_is = own.sender_is ∙ sym (sender-is c (e ∷ past) h sound k' ∙ state-more c (from == h) m (k.states h) (k.hosts h).counts ∙ sym (sender-is c past h sound k)) }
    in record {
      bus_is = record { asleep_is = late.bus_is.asleep_is; asked_is = late.bus_is.asked_is; selected_is = late.bus_is.selected_is };
      each_sender = λ h x at.
          elim (set-at hosts from h (host_after_send host place) x (let t : slice_get (slice_set hosts from (host_after_send host place)) h ≡ Some x = rw set at at in t)) [
            | inl same ↦
                rw same.1 (subst (λ (y : ℕ). KeepsSender c (e ∷ past) y (host_after_send host place)) same.0 (stays from (host_after_send host place) (same-sender c past from place host (late.each_sender from host here))))
            | inr differ ↦ stays h x (late.each_sender h x differ.1)
          ];
    }

-- == slots, queues and signals after steps without events
pub close-keeps : (c : Parts) (opening capacity : ℕ) (log past : List LogEntry) (slot : Option OpenSlot) (clock : ℕ) (walker : Position) (hosts : List Host) (signals : Signals) (kept : Host) (by : PortId) (host : ℕ)
    → IsSound c → (k : Known c past) → slice_get hosts host ≡ Some kept → Keeps c opening capacity log past slot clock walker hosts signals
    → Keeps c opening capacity (log ++ entry_is by (Close host) [] ∷ []) (entry_is by (Close host) [] ∷ past) slot clock walker (slice_set hosts host (record kept { closed = true })) signals
close-keeps c opening capacity log past slot clock walker hosts signals kept by host sound known here k =
    let e : LogEntry = entry_is by (Close host) []
    in let known' : Known c (e ∷ past) = close-known c past by host [] known
    in record {
      slot_is = k.slot_is;
      slot_there = k.slot_there;
      clock_is = k.clock_is;
      clock_few = let t = k.clock_few in omega arith;
      stands = k.stands;
      walks = k.walks;
      hosts_count = length-set hosts host (record kept { closed = true }) ∙ k.hosts_count;
      each_host = λ h x at.
          elim (set-at hosts host h (record kept { closed = true }) x at) [
            | inl same ↦
                let own : KeepsHost c capacity (log ++ e ∷ []) (e ∷ past) host kept = same-hosts c capacity log past e sound known known' (λ y. refl) (λ y. refl) host kept (k.each_host host kept here)
                in rw same.1 (subst (λ (y : ℕ). KeepsHost c capacity (log ++ e ∷ []) (e ∷ past) y (record kept { closed = true })) same.0 (record { queue = own.queue; count = own.count; capacity_is = own.capacity_is }))
            | inr differ ↦ same-hosts c capacity log past e sound known known' (λ y. refl) (λ y. refl) h x (k.each_host h x differ.1)
          ];
      signals_are = signals-same c past e slot signals (λ n. refl) (λ n. refl) (λ f. refl) (λ f. refl) k.signals_are;
    }

pub ask-keeps : (c : Parts) (opening capacity : ℕ) (log past : List LogEntry) (slot : Option OpenSlot) (clock : ℕ) (walker : Position) (hosts : List Host) (signals : Signals) (by : PortId)
    → IsSound c → (k : Known c past) → Keeps c opening capacity log past slot clock walker hosts signals
    → Keeps c opening capacity (log ++ entry_is by AskSleep [] ∷ []) (entry_is by AskSleep [] ∷ past) slot clock walker hosts signals
ask-keeps c opening capacity log past slot clock walker hosts signals by sound known k =
    let e : LogEntry = entry_is by AskSleep []
    in let known' : Known c (e ∷ past) = ask-known c past by [] known
    in record {
      slot_is = k.slot_is;
      slot_there = k.slot_there;
      clock_is = k.clock_is;
      clock_few = let t = k.clock_few in omega arith;
      stands = k.stands;
      walks = k.walks;
      hosts_count = k.hosts_count;
      each_host = λ h host there. same-hosts c capacity log past e sound known known' (λ x. refl) (λ x. refl) h host (k.each_host h host there);
      signals_are = signals-same c past e slot signals (λ n. refl) (λ n. refl) (λ f. refl) (λ f. refl) k.signals_are;
    }

pub wake-keeps : (c : Parts) (opening capacity : ℕ) (log past : List LogEntry) (slot : Option OpenSlot) (clock : ℕ) (walker walker' : Position) (hosts : List Host) (signals : Signals) (by : PortId)
    → IsSound c → (k : Known c past) → Stands c opening walker' (Restart ∷ moves past) → Walks c walker' → Keeps c opening capacity log past slot clock walker hosts signals
    → Keeps c opening capacity (log ++ entry_is by Wake [] ∷ []) (entry_is by Wake [] ∷ past) slot clock walker' hosts signals
wake-keeps c opening capacity log past slot clock walker walker' hosts signals by sound known stands walks k =
    let e : LogEntry = entry_is by Wake []
    in let known' : Known c (e ∷ past) = wake-known c past by [] known
    in record {
      slot_is = k.slot_is;
      slot_there = k.slot_there;
      clock_is = k.clock_is;
      clock_few = let t = k.clock_few in omega arith;
      stands = stands;
      walks = walks;
      hosts_count = k.hosts_count;
      each_host = λ h host there. same-hosts c capacity log past e sound known known' (λ x. refl) (λ x. refl) h host (k.each_host h host there);
      signals_are = signals-same c past e slot signals (λ n. refl) (λ n. refl) (λ f. refl) (λ f. refl) k.signals_are;
    }

-- == a leave and a hurt
fewer-by : (a b : Bool) (x : ℕ) (ps qs : List ℕ) → (b ≡ true → a ≡ true) → length qs ≤ length ps → length (cond b (x ∷ qs) qs) ≤ length (cond a (x ∷ ps) ps)
fewer-by true true x ps qs h l = omega arith
fewer-by true false x ps qs h l = omega arith
fewer-by false true x ps qs h l = absurd (let bad : false ≡ true = h refl in cc)
fewer-by false false x ps qs h l = l

fewer : (p q : ℕ → Bool) (xs : List ℕ) → ((x : ℕ) → q x ≡ true → p x ≡ true) → length (filter q xs) ≤ length (filter p xs)
fewer p q [] h = omega arith
fewer p q (x ∷ xs) h = fewer-by (p x) (q x) x (filter p xs) (filter q xs) (h x) (fewer p q xs h)

less-by : (a b : Bool) (x : ℕ) (ps qs : List ℕ) → (b ≡ true → a ≡ true) → suc (length qs) ≤ length ps → suc (length (cond b (x ∷ qs) qs)) ≤ length (cond a (x ∷ ps) ps)
less-by true true x ps qs h l = omega arith
less-by true false x ps qs h l = omega arith
less-by false true x ps qs h l = absurd (let bad : false ≡ true = h refl in cc)
less-by false false x ps qs h l = l

-- one item less passes
less : (p q : ℕ → Bool) (xs : List ℕ) (n : ℕ) → ((x : ℕ) → q x ≡ true → p x ≡ true) → is_in xs n ≡ true → p n ≡ true → q n ≡ false → suc (length (filter q xs)) ≤ length (filter p xs)
less p q [] n h at passes fails = absurd (let bad : false ≡ true = at in cc)
less p q (x ∷ xs) n h at passes fails =
    elim (eqb_tells x n) [
      | inl same ↦
          let a : p x ≡ true = rw same.1 passes
          in let b : q x ≡ false = rw same.1 fails
          in let l = fewer p q xs h
          in rw (a, b) (omega arith)
      | inr differ ↦ less-by (p x) (q x) x (filter p xs) (filter q xs) (h x) (less p q xs n h (let t : is_in xs n ≡ true = rw differ.0 at at in t) passes fails)
    ]

in-more : (xs : List ℕ) (y n : ℕ) → is_in (xs ++ y ∷ []) n ≡ (is_in xs n || (y == n))
in-more [] y n = or-false (y == n)
in-more (x ∷ xs) y n = ap (λ (b : Bool). (x == n) || b) (in-more xs y n) ∙ sym (or-assoc (x == n) (is_in xs n) (y == n))

still-not : (a b d : Bool) → not (a || (b || d)) ≡ true → not (a || b) ≡ true
still-not true b d h = h
still-not false true d h = h
still-not false false d h = refl

no-more : (a b : Bool) → not (a || (b || true)) ≡ false
no-more true b = refl
no-more false true = refl
no-more false false = refl

pub leave-fewer : (s : Slot) (node : ℕ) → is_in s.due node ≡ true → has_decided s node ≡ false → suc (length (filter (λ n. not (has_decided (leave node s) n)) s.due)) ≤ length (filter (λ n. not (has_decided s n)) s.due)
leave-fewer s node due decided =
    less (λ n. not (has_decided s n)) (λ n. not (has_decided (leave node s) n)) s.due node
    (λ x h. still-not (list_any (λ (p : ℕ × List ℕ). p.0 == x) s.puts) (is_in s.left x) (node == x) (let t : not (list_any (λ (p : ℕ × List ℕ). p.0 == x) s.puts || (is_in s.left x || (node == x))) ≡ true = rw (← in-more s.left node x) h in t))
    due (rw decided refl) (rw (in-more s.left node node, eqb-self node) (no-more (list_any (λ (p : ℕ × List ℕ). p.0 == node) s.puts) (is_in s.left node)))

pub leave-allowed : (c : Parts) (capacity : ℕ) (past : List LogEntry) (port : PortId) (node : ℕ) → refusal c capacity past port (Leave node) ≡ None
    → (in_slot past (λ s. is_in s.due node) ≡ true) × (in_slot past (λ s. has_decided s node) ≡ false)
leave-allowed c capacity past port node h =
    let all = none-of (refusals c capacity past port (Leave node)) h
    in (not-false _ (both-false _ _ all.1.1.0).1, all.1.1.1.0)

-- the frame that a slot carries hangs on its header and its responses
carried-same : (c : Parts) (entry : Entry) (s t : Slot) → s.header ≡ t.header → s.puts ≡ t.puts → carried_by c entry s ≡ carried_by c entry t
carried-same c (Frame f) s t h p = refl
carried-same c (Sporadic k) s t h p = rw h refl
carried-same c (EventEntry e) s t h p = rw p refl
carried-same c MasterReq s t h p = refl
carried-same c SlaveResp s t h p = refl
carried-same c (Fixed request) s t h p = refl
carried-same c Quiet s t h p = refl

-- what is kept of signals, where the slot's responses are the same
slot-signals : (c : Parts) (past : List LogEntry) (slot slot' : OpenSlot) (signals : Signals) → slot'.puts ≡ slot.puts → carried_frame c (slot_in slot') ≡ carried_frame c (slot_in slot) → KeepsSignals c past (Some slot) signals → KeepsSignals c past (Some slot') signals
slot-signals c past slot slot' signals puts carries k = record {
  values_count = k.values_count;
  each_value = k.each_value;
  heard_count = k.heard_count;
  each_heard = k.each_heard;
  pending_count = k.pending_count;
  each_pending = λ f. rw puts (k.each_pending f);
  one = λ s p is only.
      let same : slot' ≡ s = cc
      in let own : slot.puts.items ≡ p ∷ [] = (let t : slot'.puts.items ≡ p ∷ [] = ap (λ (x : OpenSlot). x.puts.items) same ∙ only in rw puts at t)
      in let o = k.one slot p refl own
      in let carried_is : carried_frame c (slot_in s) ≡ carried_frame c (slot_in slot) = ap (λ (x : OpenSlot). carried_frame c (slot_in x)) (sym same) ∙ carries
      in record { written = λ f h. o.written f (sym carried_is ∙ h); own = λ f h. carried_is ∙ o.own f h };
  cleared = λ s is.
      let same : slot' ≡ s = cc
      in let t = k.cleared slot refl
      in subst (λ (x : OpenSlot). All (λ (p : Put). IfSome p.cleared (λ f. f < length signals.pending.items)) x.puts.items) same (rw puts t);
  fits = k.fits;
  room_empty = k.room_empty;
  room_enough = k.room_enough;
}

pub leave-keeps : (c : Parts) (opening capacity : ℕ) (log past : List LogEntry) (slot : OpenSlot) (clock : ℕ) (walker : Position) (hosts : List Host) (signals : Signals) (by : PortId) (node : ℕ)
    → IsSound c → (k : Known c past) → refusal c capacity past by (Leave node) ≡ None → open_slot past ≡ Some (slot_in slot) → Keeps c opening capacity log past (Some slot) clock walker hosts signals
    → Keeps c opening capacity (log ++ entry_is by (Leave node) [] ∷ []) (entry_is by (Leave node) [] ∷ past) (Some (record slot { left = record { items = slot.left.items ++ node ∷ [] } })) clock walker hosts signals
leave-keeps c opening capacity log past slot clock walker hosts signals by node sound known allowed is k =
    let e : LogEntry = entry_is by (Leave node) []
    in let known' : Known c (e ∷ past) = leave-known c past by node [] known
    in let may = leave-allowed c capacity past by node allowed
    in let due : is_in slot.due.items node ≡ true = rw is at may.0
    in let decided : has_decided (slot_in slot) node ≡ false = rw is at may.1
    in let l = leave-fewer (slot_in slot) node due decided
    in let r = k.slot_there.room
    in record {
      slot_is = rw (← k.slot_is) refl;
      slot_there = record { there = k.slot_there.there; kind_is = k.slot_there.kind_is; known = k.slot_there.known; request = k.slot_there.request; answers = k.slot_there.answers; served = k.slot_there.served; room = simp length-append (omega arith) };
      clock_is = k.clock_is;
      clock_few = let t = k.clock_few in omega arith;
      stands = k.stands;
      walks = k.walks;
      hosts_count = k.hosts_count;
      each_host = λ h host there. same-hosts c capacity log past e sound known known' (λ x. refl) (λ x. refl) h host (k.each_host h host there);
      signals_are = slot-signals c (e ∷ past) slot (record slot { left = record { items = slot.left.items ++ node ∷ [] } }) signals refl (carried-same c (line_of c slot.table slot.entry).entry _ (slot_in slot) refl refl) (signals-same c past e (Some slot) signals (λ n. refl) (λ n. refl) (λ f. refl) (λ f. refl) k.signals_are);
    }

pub hurt-keeps : (c : Parts) (opening capacity : ℕ) (log past : List LogEntry) (slot : OpenSlot) (clock : ℕ) (walker : Position) (hosts : List Host) (signals : Signals) (by : PortId) (bytes : List ℕ)
    → IsSound c → (k : Known c past) → Keeps c opening capacity log past (Some slot) clock walker hosts signals
    → Keeps c opening capacity (log ++ entry_is by (Hurt bytes) [] ∷ []) (entry_is by (Hurt bytes) [] ∷ past) (Some (record slot { hurt = true })) clock walker hosts signals
hurt-keeps c opening capacity log past slot clock walker hosts signals by bytes sound known k =
    let e : LogEntry = entry_is by (Hurt bytes) []
    in let known' : Known c (e ∷ past) = hurt-known c past by bytes [] known
    in record {
      slot_is = rw (← k.slot_is) refl;
      slot_there = record { there = k.slot_there.there; kind_is = k.slot_there.kind_is; known = k.slot_there.known; request = k.slot_there.request; answers = k.slot_there.answers; served = k.slot_there.served; room = k.slot_there.room };
      clock_is = k.clock_is;
      clock_few = let t = k.clock_few in omega arith;
      stands = k.stands;
      walks = k.walks;
      hosts_count = k.hosts_count;
      each_host = λ h host there. same-hosts c capacity log past e sound known known' (λ x. refl) (λ x. refl) h host (k.each_host h host there);
      signals_are = slot-signals c (e ∷ past) slot (record slot { hurt = true }) signals refl (carried-same c (line_of c slot.table slot.entry).entry _ (slot_in slot) refl refl) (signals-same c past e (Some slot) signals (λ n. refl) (λ n. refl) (λ f. refl) (λ f. refl) k.signals_are);
    }

-- == the empty log
pub start-late : (c : Parts) (capacity : ℕ) (bus : BusState) (hosts : List Host) → bus ≡ record { asleep = false; asked = false; selected = None } → All (λ (host : Host). host ≡ new_host capacity) hosts → KeepsLate c [] bus hosts
start-late c capacity bus hosts is all = record {
  bus_is = rw is (record { asleep_is = refl; asked_is = refl; selected_is = refl });
  each_sender = λ h host at.
      let fresh_is : host ≡ new_host capacity = all-at (λ (x : Host). x ≡ new_host capacity) hosts h host all at
      in rw fresh_is (record { closed_is = refl; sender_is = refl });
}

-- == an open and an answer
pub open-late : (c : Parts) (opening capacity : ℕ) (past : List LogEntry) (by : PortId) (bus : BusState) (hosts : List Host) → IsSound c → (k : Known c past) → refusal c capacity past by Open ≡ None → KeepsLate c past bus hosts
    → KeepsLate c (entry_is by Open (opening_events c opening past) ∷ past) bus hosts
open-late c opening capacity past by bus hosts sound k allowed late =
    still-late c past (entry_is by Open (opening_events c opening past)) bus bus hosts sound k (open-known c opening capacity past by sound allowed k) (λ x. refl) (λ x. refl)
    (record { asleep_is = late.bus_is.asleep_is; asked_is = late.bus_is.asked_is; selected_is = late.bus_is.selected_is }) late

pub answer-late : (c : Parts) (capacity : ℕ) (past : List LogEntry) (by : PortId) (node : ℕ) (bus : BusState) (hosts : List Host) → IsSound c → (k : Known c past) → refusal c capacity past by (Answer node) ≡ None → KeepsLate c past bus hosts
    → KeepsLate c (entry_is by (Answer node) (option_map_or (put_event c past node) (open_slot past) []) ∷ past) bus hosts
answer-late c capacity past by node bus hosts sound k allowed late =
    still-late c past (entry_is by (Answer node) (option_map_or (put_event c past node) (open_slot past) [])) bus bus hosts sound k (answer-known c capacity past by node sound allowed k) (λ x. refl) (λ x. refl)
    (record { asleep_is = late.bus_is.asleep_is; asked_is = late.bus_is.asked_is; selected_is = late.bus_is.selected_is }) late
