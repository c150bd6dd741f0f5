-- The steps that rules add after a finish that is done. They are told by the history with that
-- finish and by the rules, and by nothing else.
use Rattle.std.specs.Prelude.{ℕ, ◌==◌, ◌-◌, ◌*◌, ◌/◌, ◌&&◌, Bool, false, nat_le, nat_lt, not}
use Rattle.std.specs.Prelude.{if◌then◌else◌, List, [], ◌∷◌, ◌++◌, filter, flat_map, length, map}
use Rattle.std.specs.Prelude.{slice_index, Option, Some, None, is_some}
use Rattle.std.specs.Option.{option_map_or}
use Rattle.lin_frame.specs.Words.{numbers}
use Rattle.lin_transport.specs.Transport.{functional}
use Rattle.lin_parts.specs.Cluster.{nad, nodes}
use Rattle.lin_parts.specs.declared.parts.Parts.{Parts}
use Rattle.lin_core.specs.History.{Slot, events, finished_slot, good, is_in, time}
use Rattle.lin_core.specs.Links.{Link, put_on}
use Rattle.lin_core.specs.Replies.{begun_on, link_at}
use Rattle.lin_core.specs.declared.link.Direction.TheVariants.{Down, Up}
use Rattle.lin_core.specs.declared.log.LogEntry.{LogEntry}
use Rattle.lin_core.specs.declared.port.PortId.{PortId}
use Rattle.lin_core.specs.declared.port.PortId.TheVariants.{Bus, Host}
use Rattle.lin_core.specs.declared.step.Step.{Step}
use Rattle.lin_core.specs.declared.step.Step.TheVariants.{Send, Timeout, Write}
use Rattle.lin_bench.specs.Errors.{errors_told}
use Rattle.lin_bench.specs.Rules.{after_events, kept_at, limit_for, sent_at, serving}
use Rattle.lin_bench.specs.declared.rules.Noted.{Noted}
use Rattle.lin_bench.specs.declared.rules.Repeated.{Repeated}
use Rattle.lin_bench.specs.declared.rules.Rules.{Rules}

-- ---- transfers that are given up (ISO 17987-2, N_As and N_Cr)
-- a slot was seen good and put a frame on a link
abbrev pub is_good_on : Parts → Link → Slot → Bool
is_good_on c l s = is_some (good s) && nat_lt 0 (length (put_on c l s))

-- the end of the slot of a link's last good frame, in microseconds; 0 where it had none
abbrev pub last_good : Parts → List LogEntry → Link → ℕ
last_good c [] l = 0
last_good c (e ∷ past) l =
    if option_map_or (is_good_on c l) (finished_slot e past) false then time c (e ∷ past)
    else last_good c past l

-- the links by rising node, down before up
abbrev pub links_at : ℕ → List Link
links_at n = link_at n Down ∷ link_at n Up ∷ []

abbrev pub links_in_turn : Parts → List Link
links_in_turn c = flat_map links_at (filter (λ n. is_some (nad c n)) (numbers (nodes c)))

-- a message is begun on a link, and the last good frame there is so many microseconds ago
abbrev pub is_given_up : Parts → List LogEntry → ℕ → Link → Bool
is_given_up c past us l =
    is_some (begun_on c past l.node l.dir)
    && nat_le us (time c past - last_good c past l)

abbrev pub timeout_step : Link → PortId × Step
timeout_step l = (Bus, Timeout l.node l.dir)

-- likewise by the limit for the link, if there is one
abbrev pub is_late : Parts → List LogEntry → Rules → Link → Bool
is_late c past rules l =
    option_map_or (λ us. is_given_up c past us l) (limit_for rules l.node l.dir) false

abbrev pub timeouts : Parts → List LogEntry → Rules → List (PortId × Step)
timeouts c past rules = map timeout_step (filter (is_late c past rules) (links_in_turn c))

-- ---- messages that arrive (ISO 17987-2, functional requests go to all responders)
abbrev pub went_to_all : Slot → Bool
went_to_all s = option_map_or (λ bytes. slice_index bytes 0 == functional) (good s) false

-- the rules after the messages of a finish arrived
abbrev pub rules_after_arrivals : Parts → LogEntry → List LogEntry → Rules → Rules
rules_after_arrivals c e past rules =
    after_events (serving c rules.services) (option_map_or went_to_all (finished_slot e past) false)
    (time c (e ∷ past)) rules (events e)

abbrev pub send_of : Noted → PortId × Step
send_of n = (Host n.node, Send n.node 0 n.bytes)

-- ---- what is repeated: at its line's time and one, two, three periods, and so on
abbrev pub times_until : Repeated → ℕ → ℕ
times_until r time = (time - r.began) / (1000 * r.every.period_ms)

-- one of these times is after a time and not after another
abbrev pub has_time : ℕ → ℕ → Repeated → Bool
has_time from to r = nat_lt (times_until r from) (times_until r to)

-- a node that is off sends no message, and writes no signal
abbrev pub is_by_off : List ℕ → Step → Bool
is_by_off offs (Send from to message) = is_in offs from
is_by_off offs (Write node signal value) = is_in offs node
is_by_off offs step = false

abbrev pub is_repeated : ℕ → ℕ → List ℕ → Repeated → Bool
is_repeated from to offs r = has_time from to r && not (is_by_off offs r.every.step)

abbrev pub step_to_repeat : Repeated → PortId × Step
step_to_repeat r = (r.every.by, r.every.step)

-- what has a time that isn't after a finish, and is after the one before it
abbrev pub repeated_steps : Parts → LogEntry → List LogEntry → Rules → List (PortId × Step)
repeated_steps c e past rules =
    map step_to_repeat
    (filter (is_repeated (time c past) (time c (e ∷ past)) rules.offs) rules.everies)

-- ---- the steps after a finish, in their order: what takes too long, the errors that are told, the
-- answers whose time has come, and what is repeated
abbrev pub added_after : Parts → LogEntry → List LogEntry → Rules → List (PortId × Step)
added_after c e past rules =
    timeouts c (e ∷ past) rules
    ++ (errors_told c e past rules.offs rules.errors
    ++ (map send_of (sent_at (time c (e ∷ past)) (rules_after_arrivals c e past rules).noted)
    ++ repeated_steps c e past rules))

-- and after any other entry none
abbrev pub added_steps : Parts → LogEntry → List LogEntry → Rules → List (PortId × Step)
added_steps c e past rules =
    if is_some (finished_slot e past) then added_after c e past rules else []

-- the states after an entry, and the answers that are still to come; those that are sent are noted no
-- longer, whatever their sending is answered
abbrev pub with_kept : ℕ → Rules → Rules
with_kept time rules = record rules { noted = kept_at time rules.noted }

abbrev pub rules_after : Parts → LogEntry → List LogEntry → Rules → Rules
rules_after c e past rules =
    if is_some (finished_slot e past) then with_kept (time c (e ∷ past)) (rules_after_arrivals c e past rules)
    else rules
