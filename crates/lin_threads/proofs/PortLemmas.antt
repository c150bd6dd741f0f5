-- What of a log is a port's, as the log grows.
use Rattle.std.proofs.Common.{◌≡◌, ◌≢◌, ◌≤◌, ◌-◌, ℕ, List, [], ◌∷◌, ◌++◌, length, take, drop, nat_lt, if◌then◌else◌, refl, sym, ap, eq-eqb, length-drop, append-nil, ◌∙◌, arith, Bool, true, false}
use Rattle.std.proofs.lemmas.List.{take-append-le, drop-append-le}
use Rattle.std.proofs.lemmas.List.Elements.{filter_map-append}
use Rattle.std.proofs.lemmas.Bool.{eqb-true}
use Rattle.std.proofs.lemmas.Grind.{common_steps, flat_map-append}
use Rattle.lin_core.specs.declared.port.PortId.{PortId}
use Rattle.lin_core.specs.declared.port.PortId.TheVariants.{Bus, Host, Node}
use Rattle.lin_core.specs.declared.log.LogEntry.{LogEntry}
use Rattle.lin_core.specs.declared.reply.Reply.{Reply}
use Rattle.lin_core.specs.declared.reply.Reply.TheVariants.{Done, Refused}
use Rattle.std.specs.declared.alloc.Global.{Global}
use Rattle.rtrb.specs.Ring.{IsPair, SameProducer, SameConsumer}
use Rattle.rtrb.specs.declared.producer.Producer.{Producer}
use Rattle.rtrb.specs.declared.consumer.Consumer.{Consumer}
use Rattle.lin_threads.specs.Ports.{Wiring, RingId, ring_into, ring_from, ring_out, port_out}
use Rattle.lin_threads.specs.Lanes.{port_in}
use Rattle.lin_threads.specs.declared.ports.Outgoing.{Outgoing}
use Rattle.lin_threads.specs.declared.ports.steps.Note.{Note}
use Rattle.lin_threads.specs.declared.ports.Outgoing.TheVariants as out
use Rattle.lin_threads.specs.declared.ports.incoming.Incoming.{Incoming}
use Rattle.lin_threads.specs.declared.ports.incoming.Incoming.TheVariants as into
use Rattle.lin_threads.specs.Steps.{port_at, same_port, step_by, logged, notes_in, notes, part_notes, first_notes, notes_told}

pub into_same : {T P : Type 0} (a b : Producer T Global P) → SameProducer a b → ring_into b ≡ ring_into a
into_same a b h = rw (h.0.0, h.0.1, h.0.2, h.0.3) refl

pub from_same : {T P : Type 0} (a b : Consumer T Global P) → SameConsumer a b → ring_from b ≡ ring_from a
from_same a b h = rw (h.0.0, h.0.1, h.0.2, h.0.3) refl

pub same_port-refl : (p : PortId) → same_port p p ≡ true
same_port-refl Bus = refl
same_port-refl (Host n) = eq-eqb n n refl
same_port-refl (Node n) = eq-eqb n n refl

pub same_port-true : (p q : PortId) → same_port p q ≡ true → p ≡ q
same_port-true Bus Bus h = refl
same_port-true Bus (Host n) h = absurd (cc)
same_port-true Bus (Node n) h = absurd (cc)
same_port-true (Host m) Bus h = absurd (cc)
same_port-true (Host m) (Host n) h = ap Host (eqb-true m n h)
same_port-true (Host m) (Node n) h = absurd (cc)
same_port-true (Node m) Bus h = absurd (cc)
same_port-true (Node m) (Host n) h = absurd (cc)
same_port-true (Node m) (Node n) h = ap Node (eqb-true m n h)

not_true : (p q : PortId) (b : Bool) → same_port p q ≡ b → p ≢ q → b ≡ false
not_true p q true h n = absurd (n (same_port-true p q h))
not_true p q false h n = refl

pub same_port-false : (p q : PortId) → p ≢ q → same_port p q ≡ false
same_port-false p q n = not_true p q (same_port p q) refl n

abbrev number_of : PortId → ℕ
number_of Bus = 0
number_of (Host n) = n
number_of (Node n) = n

abbrev is_host : PortId → Bool
is_host Bus = false
is_host (Host n) = true
is_host (Node n) = false

-- no two places have one port
abbrev port_of_bool : Bool → ℕ → ℕ → PortId
port_of_bool b nodes i = if b then Host i else Node (i - nodes)

apart : (b c : Bool) (nodes i j : ℕ) → nat_lt i nodes ≡ b → nat_lt j nodes ≡ c → port_of_bool b nodes i ≡ port_of_bool c nodes j → i ≡ j
apart true true nodes i j p q e = ap number_of e
apart true false nodes i j p q e = (let f : true ≡ false = ap is_host e in absurd (cc))
apart false true nodes i j p q e = (let f : false ≡ true = ap is_host e in absurd (cc))
apart false false nodes i j p q e = (let f : i - nodes ≡ j - nodes = ap number_of e in grind (arith, common_steps))

pub port_at-apart : (nodes i j : ℕ) → port_at nodes i ≡ port_at nodes j → i ≡ j
port_at-apart nodes i j e = apart (nat_lt i nodes) (nat_lt j nodes) nodes i j refl refl e

abbrev is_bus : PortId → Bool
is_bus Bus = true
is_bus (Host n) = false
is_bus (Node n) = false

no_bus : (b : Bool) (nodes i : ℕ) → is_bus (port_of_bool b nodes i) ≡ false
no_bus true nodes i = refl
no_bus false nodes i = refl

pub port_at-no_bus : (nodes i : ℕ) → port_at nodes i ≢ Bus
port_at-no_bus nodes i e = let f : true ≡ false = sym (ap is_bus e) ∙ no_bus (nat_lt i nodes) nodes i in absurd (cc)

pub logged-own : (es : List LogEntry) (e : LogEntry) (port : PortId) → e.port ≡ port → logged (es ++ e ∷ []) port ≡ logged es port ++ e.step ∷ []
logged-own es e port is =
    filter_map-append (step_by port) es (e ∷ []) ∙ ap (λ xs. logged es port ++ xs) (rw (is, same_port-refl port) refl)

pub logged-other : (es : List LogEntry) (e : LogEntry) (port : PortId) → e.port ≢ port → logged (es ++ e ∷ []) port ≡ logged es port
logged-other es e port not =
    filter_map-append (step_by port) es (e ∷ []) ∙ ap (λ xs. logged es port ++ xs) (rw (same_port-false e.port port not) refl) ∙ append-nil (logged es port)

pub notes-append : (xs ys : List LogEntry) (port : PortId) → notes (xs ++ ys) port ≡ notes xs port ++ notes ys port
notes-append xs ys port = flat_map-append (notes_in port) xs ys

none_part : (port : PortId) (r : Reply) → part_notes port 0 r ≡ []
none_part port (Done events) = refl
none_part port (Refused r) = refl

first_more : (port : PortId) (part : ℕ) (es : List LogEntry) (e : LogEntry) → (length es ≡ 0 → part ≡ 0) → first_notes port part (es ++ e ∷ []) ≡ first_notes port part es
first_more port part [] e h = rw (h refl) (none_part port e.reply)
first_more port part (x ∷ es) e h = refl

-- what was told of a log, it was told of a longer one
pub told_more : (port : PortId) (base seen part : ℕ) (log : List LogEntry) (e : LogEntry) → seen ≤ length log → (seen ≡ length log → part ≡ 0)
    → notes_told port base seen part (log ++ e ∷ []) ≡ notes_told port base seen part log
told_more port base seen part log e within whole =
    rw (take-append-le seen log (e ∷ []) within, drop-append-le seen log (e ∷ []) within)
    (ap (λ xs. notes (drop base (take seen log)) port ++ xs) (first_more port part (drop seen log) e (λ z. whole (let q = length-drop seen log in omega arith))))

pub pair_of : {T P : Type 0} (p : Producer T Global P) (c : Consumer T Global P) → ring_from c ≡ ring_into p → IsPair p c
pair_of p c h = (ap (λ r. r.words) h, ap (λ r. r.slots) h, ap (λ r. r.names) h, ap (λ r. r.heap) h)

pub ring_of_pair : {T P : Type 0} (p : Producer T Global P) (c : Consumer T Global P) → IsPair p c → ring_from c ≡ ring_into p
ring_of_pair p c h = rw (h.0, h.1, h.2, h.3) refl

-- the two ends of one port's ring of steps have one kind and one number
pub one_port : (m n : ℕ) (o : Outgoing) (i : Incoming) → port_out m o ≡ port_in n i → (m ≡ n) × (port_out 0 o ≡ port_in 0 i)
one_port m n (out.Host a) (into.Host b) h = (ap number_of h, refl)
one_port m n (out.Host a) (into.Node b) h = (let f : true ≡ false = ap is_host h in absurd (cc))
one_port m n (out.Node a) (into.Host b) h = (let f : false ≡ true = ap is_host h in absurd (cc))
one_port m n (out.Node a) (into.Node b) h = (ap number_of h, refl)

abbrev wired : PortId → RingId → RingId → Wiring
wired port steps notes = record { port = port; steps = steps; notes = notes }

pub same_port_wiring : {P : Type 0} (n : ℕ) (o o' : Outgoing) (c c' : Consumer Note Global P) → port_out n o' ≡ port_out n o → ring_out o' ≡ ring_out o → ring_from c' ≡ ring_from c
    → wired (port_out n o') (ring_out o') (ring_from c') ≡ wired (port_out n o) (ring_out o) (ring_from c)
same_port_wiring n o o' c c' port steps notes = rw (port, steps, notes) refl
