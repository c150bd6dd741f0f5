-- Rules of bench scripts: which messages a responder answers by itself, and with what. A rule is in
-- force for the lines after its own.
use Rattle.std.specs.Prelude.{ℕ, ◌==◌, ◌+◌, ◌*◌, ◌&&◌, ◌||◌, Bool, true, false, not, nat_le, if◌then◌else◌}
use Rattle.std.specs.Prelude.{List, [], ◌∷◌, ◌++◌, drop, filter, find, length, map, slice_get, slice_index}
use Rattle.std.specs.Prelude.{codes, take, zip, Option, Some, None, option_and_then, option_map}
use Rattle.std.specs.List.{list_all, list_any}
use Rattle.std.specs.Cmp.Lexicographic.{pointwise, slice_cmp}
use Rattle.std.specs.Option.{option_map_or}
use Rattle.std.specs.Ordering.{is_lt, nat_cmp}
use Rattle.std.specs.Str.{bytes_eq}
use Rattle.lin_frame.specs.declared.value.Value.{Value}
use Rattle.lin_frame.specs.declared.value.Value.TheVariants.{Scalar, Bytes}
use Rattle.lin_parts.specs.Cluster.{nad, response_of}
use Rattle.lin_parts.specs.declared.parts.Parts.{Parts}
use Rattle.lin_core.specs.History.{is_in}
use Rattle.lin_core.specs.Tables.{look_number}
use Rattle.lin_core.specs.declared.event.Event.{Event}
use Rattle.lin_core.specs.declared.event.Event.TheVariants.{Message}
use Rattle.lin_core.specs.declared.event.Look.{Look}
use Rattle.lin_core.specs.declared.link.Direction.{Direction}
use Rattle.lin_core.specs.declared.link.Direction.TheVariants.{Down, Up}
use Rattle.lin_core.specs.declared.port.PortId.{PortId}
use Rattle.lin_core.specs.declared.port.PortId.TheVariants.{Bus, Host, Node}
use Rattle.lin_core.specs.declared.step.Step.{Step}
use Rattle.lin_core.specs.declared.step.Step.TheVariants.{Send, Write}
use Rattle.lin_bench.specs.declared.rules.RuleAnswer.{RuleAnswer}
use Rattle.lin_bench.specs.declared.rules.Noted.{Noted}
use Rattle.lin_bench.specs.declared.rules.NodeState.{NodeState}
use Rattle.lin_bench.specs.declared.rules.Limit.{Limit}
use Rattle.lin_bench.specs.declared.rules.Limit.TheVariants.{Ldf, Milliseconds}
use Rattle.lin_bench.specs.declared.rules.NodeLimits.{NodeLimits}
use Rattle.lin_bench.specs.declared.rules.OwnLimit.{OwnLimit}
use Rattle.lin_bench.specs.declared.rules.Part.{Part}
use Rattle.lin_bench.specs.declared.rules.Part.TheVariants.{Byte, Copied}
use Rattle.lin_log.specs.declared.line_words.Carried.{Carried}
use Rattle.lin_log.specs.declared.line_words.Carried.TheVariants.{Signals, Request as RequestFrame, Response}
use Rattle.lin_log.specs.declared.pattern.Pattern.{Pattern}
use Rattle.lin_bench.specs.declared.expected.Condition.{Condition}
use Rattle.lin_bench.specs.declared.expected.Condition.TheVariants as condition
use Rattle.lin_bench.specs.declared.rules.Form.{Form}
use Rattle.lin_bench.specs.declared.rules.Watched.{Watched}
use Rattle.lin_bench.specs.declared.rules.Repeated.{Repeated}
use Rattle.lin_bench.specs.declared.rules.Rule.{Rule}
use Rattle.lin_bench.specs.declared.rules.Rule.TheVariants as rule
use Rattle.lin_bench.specs.declared.rules.RuleEnd.{RuleEnd}
use Rattle.lin_bench.specs.declared.rules.RuleEnd.TheVariants as end
use Rattle.lin_bench.specs.declared.rules.Rules.{Rules}
use Rattle.lin_bench.specs.declared.rules.When.{When}

-- no rule, and no fault
abbrev pub no_rules : Rules
no_rules = record {
  whens = [];
  limit = None;
  own_limits = [];
  everies = [];
  ons = [];
  errors = false;
  services = false;
  states = [];
  offs = [];
  noted = [];
  faults = [];
}

-- ---- patterns
abbrev pub fits_byte : Option ℕ → ℕ → Bool
fits_byte None byte = true
fits_byte (Some b) byte = b == byte

-- a length of exactly the pattern's, or where more may follow of at least that
abbrev pub has_length : Pattern → ℕ → Bool
has_length p n = if p.more then nat_le (length p.bytes) n else length p.bytes == n

-- a message of such a length, whose bytes are those of the pattern
abbrev pub fits : Pattern → List ℕ → Bool
fits p message =
    has_length p (length message)
    && list_all (λ (x : Option ℕ × ℕ). fits_byte x.0 x.1) (zip p.bytes message)

-- ---- states: names, at first `default`. Those that aren't are kept, each node's once
abbrev pub default_state : List ℕ
default_state = codes "default"

abbrev pub is_state_of : ℕ → NodeState → Bool
is_state_of node s = s.node == node

abbrev pub state_of : List NodeState → ℕ → List ℕ
state_of states node = option_map_or (λ s. s.name) (find (is_state_of node) states) default_state

-- the states after a node entered one
abbrev pub with_state : List NodeState → ℕ → List ℕ → List NodeState
with_state states node name =
    filter (λ s. not (is_state_of node s)) states
    ++ (if bytes_eq name default_state then [] else record { node = node; name = name } ∷ [])

-- a rule is for one state, or for every state
abbrev pub is_for_state : Option (List ℕ) → List ℕ → Bool
is_for_state None state = true
is_for_state (Some name) state = bytes_eq name state

-- ---- the rule that applies
-- how specific a rule is: one for a state goes before one for every state. Then its pattern is compared,
-- place by place from the left: a byte is more specific than any byte, any byte more than the end of a
-- pattern with `*`, and the end of one without `*` more than that of one with it
abbrev pub state_rank : Option (List ℕ) → ℕ
state_rank None = 0
state_rank (Some name) = 1

abbrev pub byte_rank : Option ℕ → ℕ
byte_rank None = 2
byte_rank (Some b) = 3

abbrev pub end_rank : Bool → ℕ
end_rank true = 0
end_rank false = 1

abbrev pub ranks : Pattern → List ℕ
ranks p = map byte_rank p.bytes ++ end_rank p.more ∷ []

abbrev pub rank : When → List ℕ
rank w = state_rank w.state ∷ ranks w.pattern

-- the place of a pattern with this number, from 0; the end stands behind the bytes
abbrev pub rank_at : Pattern → ℕ → ℕ
rank_at p i = option_map_or byte_rank (slice_get p.bytes i) (end_rank p.more)

-- the first place where two differ decides which one is less specific
abbrev pub is_below_pattern : Pattern → Pattern → Bool
is_below_pattern p q = is_lt (slice_cmp nat_cmp (ranks p) (ranks q))

abbrev pub is_below : When → When → Bool
is_below v w = is_lt (slice_cmp nat_cmp (rank v) (rank w))

abbrev pub more_specific : When → When → When
more_specific v w = if is_below v w then w else v

abbrev pub most_specific : List When → Option When
most_specific [] = None
most_specific (w ∷ ws) = Some (option_map_or (more_specific w) (most_specific ws) w)

-- the rule of a node in a state for a message: of those that match, the most specific one
abbrev pub is_rule_for : ℕ → List ℕ → List ℕ → When → Bool
is_rule_for node state message w =
    w.node == node && is_for_state w.state state && fits w.pattern message

abbrev pub rule_for : List When → ℕ → List ℕ → List ℕ → Option When
rule_for whens node state message = most_specific (filter (is_rule_for node state message) whens)

-- ---- answers
abbrev pub part_byte : List ℕ → Part → Option ℕ
part_byte message (Byte b) = Some b
part_byte message (Copied k) = slice_get message k

-- the bytes of an answer to a message; none where it takes a byte that the message hasn't
abbrev pub answer_bytes : List ℕ → List Part → Option (List ℕ)
answer_bytes message [] = Some []
answer_bytes message (p ∷ ps) =
    option_map_or
    (λ b. option_map (λ bytes. b ∷ bytes) (answer_bytes message ps)) (part_byte message p) None

abbrev pub note_of : ℕ → ℕ → Option (List ℕ) → List Noted
note_of time node None = []
note_of time node (Some bytes) = record { time = time; node = node; bytes = bytes } ∷ []

-- What a node's answers to a message come to, from a time in microseconds on: each its wait after
-- the one before it. One that takes a byte which the message hasn't is left out; its wait counts all
-- the same.
abbrev pub noted_answers : ℕ → ℕ → List ℕ → List RuleAnswer → List Noted
noted_answers time node message [] = []
noted_answers time node message (a ∷ more) =
    let at = time + 1000 * a.wait_ms
    in note_of at node (answer_bytes message a.parts) ++ noted_answers at node message more

-- ---- services of node configuration (LIN 2.2A, section 4.2)
-- the request that a message of one to six bytes is to a node with this NAD: a service identifier and its
-- data, FF in place of those that are missing
abbrev pub request_byte : List ℕ → ℕ → ℕ
request_byte message k = option_map_or (λ b. b) (slice_get message k) 0xFF

abbrev pub request_of : ℕ → List ℕ → List ℕ
request_of own message =
    own ∷ length message ∷ request_byte message 0 ∷ request_byte message 1 ∷ request_byte message 2
    ∷ request_byte message 3 ∷ request_byte message 4 ∷ request_byte message 5 ∷ []

-- the service identifier and the data of a response by the configured NAD
abbrev pub data_by : ℕ → List ℕ → Option (List ℕ)
data_by own response =
    if slice_index response 0 == own then Some (take (slice_index response 1) (drop 2 response)) else None

-- what a node responds to a message by itself
abbrev pub service_data : Parts → ℕ → ℕ → List ℕ → Option (List ℕ)
service_data c node own message =
    option_and_then
    (λ i. option_and_then (data_by own) (response_of c i (request_of own message)))
    (find (λ i. i.node == node) c.identities)

abbrev pub service_answer : Parts → ℕ → List ℕ → Option (List ℕ)
service_answer c node message =
    if nat_le 1 (length message) && nat_le (length message) 6
    then option_and_then (λ own. service_data c node own message) (nad c node) else None

-- the cluster whose responders respond so, if they do
abbrev pub serving : Parts → Bool → Option Parts
serving c is_on = if is_on then Some c else None

abbrev pub service_notes : Option Parts → ℕ → ℕ → List ℕ → List Noted
service_notes None time node message = []
service_notes (Some c) time node message = note_of time node (service_answer c node message)

-- noted answers stand by their time, and those of one time as they were noted
abbrev pub noted_with : List Noted → Noted → List Noted
noted_with [] n = n ∷ []
noted_with (m ∷ ms) n = if nat_le m.time n.time then m ∷ noted_with ms n else n ∷ m ∷ ms

abbrev pub all_noted : List Noted → List Noted → List Noted
all_noted noted [] = noted
all_noted noted (n ∷ ns) = all_noted (noted_with noted n) ns

-- ---- what an event of a finish at a time changes: a message from host 0 is answered by the rule for it,
-- and its responder enters the state that the rule names; if no rule is for it, the responder answers by
-- itself. A message to all responders isn't answered, and one to a responder that is off changes nothing
abbrev pub states_after_entering : List NodeState → ℕ → Option (List ℕ) → List NodeState
states_after_entering states node None = states
states_after_entering states node (Some name) = with_state states node name

abbrev pub with_answers : Bool → List Noted → List Noted → List Noted
with_answers is_to_all noted more = if is_to_all then noted else all_noted noted more

abbrev pub rules_after_reaction : Option Parts → Bool → ℕ → Rules → ℕ → List ℕ → Option When → Rules
rules_after_reaction served is_to_all time rules node message None =
    record rules { noted = with_answers is_to_all rules.noted (service_notes served time node message) }
rules_after_reaction served is_to_all time rules node message (Some w) = record rules {
  states = states_after_entering rules.states node w.enter;
  noted = with_answers is_to_all rules.noted (noted_answers time node message w.answers);
}

abbrev pub rules_after_message : Option Parts → Bool → ℕ → Rules → ℕ → List ℕ → Rules
rules_after_message served is_to_all time rules node message =
    rules_after_reaction served is_to_all time rules node message
    (rule_for rules.whens node (state_of rules.states node) message)

abbrev pub after_event : Option Parts → Bool → ℕ → Rules → Event → Rules
after_event served is_to_all time rules (Message from to message) =
    if from == 0 && not (is_in rules.offs to)
    then rules_after_message served is_to_all time rules to message
    else rules
after_event served is_to_all time rules event = rules

-- and what all events change, each on what those before it left
abbrev pub after_events : Option Parts → Bool → ℕ → Rules → List Event → Rules
after_events served is_to_all time rules [] = rules
after_events served is_to_all time rules (e ∷ es) =
    after_events served is_to_all time (after_event served is_to_all time rules e) es

-- those that go at a time, and those that are still to come
abbrev pub is_due_at : ℕ → Noted → Bool
is_due_at time n = nat_le n.time time

abbrev pub sent_at : ℕ → List Noted → List Noted
sent_at time noted = filter (is_due_at time) noted

abbrev pub kept_at : ℕ → List Noted → List Noted
kept_at time noted = filter (λ n. not (is_due_at time n)) noted

-- ---- lines of rules
abbrev pub same_byte : Option ℕ → Option ℕ → Bool
same_byte None None = true
same_byte None (Some b) = false
same_byte (Some a) None = false
same_byte (Some a) (Some b) = a == b

abbrev pub same_pattern : Pattern → Pattern → Bool
same_pattern p q =
    (if p.more then q.more else not q.more) && pointwise same_byte p.bytes q.bytes

abbrev pub same_state : Option (List ℕ) → Option (List ℕ) → Bool
same_state None None = true
same_state None (Some b) = false
same_state (Some a) None = false
same_state (Some a) (Some b) = bytes_eq a b

-- two rules are for the same node, state and pattern
abbrev pub same_rule : When → When → Bool
same_rule w v =
    v.node == w.node && same_state v.state w.state && same_pattern v.pattern w.pattern

-- a rule with the node, the state and the pattern of an earlier one takes its place
abbrev pub whens_with : List When → When → List When
whens_with [] w = w ∷ []
whens_with (v ∷ vs) w = if same_rule w v then w ∷ vs else v ∷ whens_with vs w

-- ---- the end of single rules: the rule of a node for a state and a pattern, all rules of a node, each step
-- that is repeated by this port, or each step that a form calls for
abbrev pub same_port : PortId → PortId → Bool
same_port Bus Bus = true
same_port (Host m) (Host n) = m == n
same_port (Node m) (Node n) = m == n
same_port by other = false

abbrev pub same_value : Value → Value → Bool
same_value (Scalar a) (Scalar b) = a == b
same_value (Scalar a) (Bytes b) = false
same_value (Bytes a) (Scalar b) = false
same_value (Bytes a) (Bytes b) = bytes_eq a b

abbrev pub is_send : ℕ → ℕ → List ℕ → Step → Bool
is_send from to message (Send f t m) = from == f && to == t && bytes_eq message m
is_send from to message other = false

abbrev pub is_write : ℕ → ℕ → Value → Step → Bool
is_write node signal value (Write n s v) = node == n && signal == s && same_value value v
is_write node signal value other = false

abbrev pub same_step : Step → Step → Bool
same_step (Send from to message) other = is_send from to message other
same_step (Write node signal value) other = is_write node signal value other
same_step step other = false

-- ---- the same form: that the same condition holds, or doesn't. Where words say values, they are the same
abbrev pub same_frame : Carried → Carried → Bool
same_frame (Signals f) (Signals g) = f == g
same_frame RequestFrame RequestFrame = true
same_frame Response Response = true
same_frame frame other = false

abbrev pub same_data : Option Pattern → Option Pattern → Bool
same_data None None = true
same_data None (Some b) = false
same_data (Some a) None = false
same_data (Some a) (Some b) = same_pattern a b

abbrev pub is_value_of : ℕ → ℕ → Value → Condition → Bool
is_value_of node signal value (condition.Signal n s v) = node == n && signal == s && same_value value v
is_value_of node signal value other = false

abbrev pub is_value_within : ℕ → ℕ → ℕ → ℕ → Condition → Bool
is_value_within node signal low high (condition.SignalWithin n s l h) =
    node == n && signal == s && low == l && high == h
is_value_within node signal low high other = false

abbrev pub is_meant_by : ℕ → ℕ → List ℕ → Condition → Bool
is_meant_by node signal text (condition.SignalMeans n s t values) =
    node == n && signal == s && bytes_eq text t
is_meant_by node signal text other = false

abbrev pub is_look : Look → Condition → Bool
is_look how (condition.Seen l) = look_number how == look_number l
is_look how other = false

abbrev pub is_pattern_of : Carried → Option Pattern → Condition → Bool
is_pattern_of frame pattern (condition.Frame f p) = same_frame frame f && same_data pattern p
is_pattern_of frame pattern other = false

abbrev pub is_entry : ℕ → ℕ → Condition → Bool
is_entry table entry (condition.Slot t e) = table == t && entry == e
is_entry table entry other = false

abbrev pub is_change_of : ℕ → ℕ → Condition → Bool
is_change_of node signal (condition.Changed n s first) = node == n && signal == s
is_change_of node signal other = false

abbrev pub same_condition : Condition → Condition → Bool
same_condition (condition.Signal node signal value) other = is_value_of node signal value other
same_condition (condition.SignalWithin node signal low high) other =
    is_value_within node signal low high other
same_condition (condition.SignalMeans node signal text values) other = is_meant_by node signal text other
same_condition (condition.Seen how) other = is_look how other
same_condition (condition.Frame frame pattern) other = is_pattern_of frame pattern other
same_condition (condition.Slot table entry) other = is_entry table entry other
same_condition (condition.Changed node signal first) other = is_change_of node signal other
same_condition what other = false

abbrev pub same_form : Form → Form → Bool
same_form f g = (if f.wanted then g.wanted else not g.wanted) && same_condition f.what g.what

abbrev pub is_ended_when : RuleEnd → When → Bool
is_ended_when (end.When node state pattern) w =
    w.node == node && same_state w.state state && same_pattern w.pattern pattern
is_ended_when (end.WhensOf node) w = w.node == node
is_ended_when ending w = false

abbrev pub is_ended_every : RuleEnd → Repeated → Bool
is_ended_every (end.Every by step) r = same_port r.every.by by && same_step r.every.step step
is_ended_every ending r = false

abbrev pub is_ended_on : RuleEnd → Watched → Bool
is_ended_on (end.On form) w = same_form w.on.form form
is_ended_on ending w = false

abbrev pub has_rule : Rules → RuleEnd → Bool
has_rule rules e =
    list_any (is_ended_when e) rules.whens
    || (list_any (is_ended_every e) rules.everies || list_any (is_ended_on e) rules.ons)

abbrev pub without_rule : Rules → RuleEnd → Rules
without_rule rules e = record rules {
  whens = filter (λ w. not (is_ended_when e w)) rules.whens;
  everies = filter (λ r. not (is_ended_every e r)) rules.everies;
  ons = filter (λ w. not (is_ended_on e w)) rules.ons;
}

-- ---- limits of transfers (ISO 17987-2, N_As and N_Cr): in microseconds that of a message to a responder, and
-- of one from it, which an LDF may have (LIN 2.2A, 9.2.2.2); without that a second
abbrev pub one_way : Direction → NodeLimits → ℕ
one_way Down l = l.down_us
one_way Up l = l.up_us

abbrev pub ldf_limit : List NodeLimits → ℕ → Direction → ℕ
ldf_limit limits node dir =
    option_map_or (one_way dir) (find (λ l. l.node == node) limits) 1000000

abbrev pub limit_us : ℕ → Direction → Limit → ℕ
limit_us node dir (Milliseconds ms) = 1000 * ms
limit_us node dir (Ldf limits) = ldf_limit limits node dir

-- the limit of all responders, and those of single ones, which go before it
abbrev pub is_limit_of : ℕ → OwnLimit → Bool
is_limit_of node o = o.node == node

abbrev pub own_limit_us : OwnLimit → Option ℕ
own_limit_us o = option_map (λ ms. 1000 * ms) o.limit_ms

abbrev pub limit_for : Rules → ℕ → Direction → Option ℕ
limit_for rules node dir =
    option_map_or own_limit_us (find (is_limit_of node) rules.own_limits)
    (option_map (limit_us node dir) rules.limit)

abbrev pub with_own_limit : List OwnLimit → ℕ → Option ℕ → List OwnLimit
with_own_limit own node limit =
    filter (λ o. not (is_limit_of node o)) own ++ record { node = node; limit_ms = limit } ∷ []

-- the limit of all responders ends those of single ones
abbrev pub with_limit : Rules → Option Limit → Rules
with_limit rules limit = record rules { limit = limit; own_limits = [] }

-- ---- responders that are off. By that a responder loses its noted answers, and its state is `default`
abbrev pub without_node : List ℕ → ℕ → List ℕ
without_node nodes node = filter (λ n. not (n == node)) nodes

abbrev pub is_noted_of : ℕ → Noted → Bool
is_noted_of node m = m.node == node

abbrev pub switched_off : Rules → ℕ → Rules
switched_off rules node = record rules {
  states = with_state rules.states node default_state;
  offs = without_node rules.offs node ++ node ∷ [];
  noted = filter (λ m. not (is_noted_of node m)) rules.noted;
}

abbrev pub switched_on : Rules → ℕ → Rules
switched_on rules node = record rules { offs = without_node rules.offs node }

abbrev pub with_power : Rules → ℕ → Bool → Rules
with_power rules node is_on = if is_on then switched_on rules node else switched_off rules node

-- the rules after a line that is made at a time. What is noted stays, and so do states, unless a responder
-- loses its power
unfoldable pub ruled : ℕ → Rules → Rule → Rules
ruled time rules (rule.When w) = record rules { whens = whens_with rules.whens w }
ruled time rules rule.WhenOff = record rules { whens = [] }
ruled time rules (rule.Timeouts ms) = with_limit rules (Some (Milliseconds ms))
ruled time rules (rule.TimeoutsLdf limits) = with_limit rules (Some (Ldf limits))
ruled time rules rule.TimeoutsOff = with_limit rules None
ruled time rules (rule.TimeoutsOf node limit) =
    record rules { own_limits = with_own_limit rules.own_limits node limit }
ruled time rules (rule.Every every) =
    record rules { everies = rules.everies ++ record { began = time; every = every } ∷ [] }
ruled time rules rule.EveryOff = record rules { everies = [] }
ruled time rules (rule.On w) = record rules { ons = rules.ons ++ w ∷ [] }
ruled time rules rule.OnOff = record rules { ons = [] }
ruled time rules (rule.Errors on) = record rules { errors = on }
ruled time rules (rule.Services on) = record rules { services = on }
ruled time rules (rule.End e) = without_rule rules e
ruled time rules (rule.State node name) =
    record rules { states = with_state rules.states node name }
ruled time rules (rule.Power node is_on) = with_power rules node is_on
