-- The hosts that the events of a step name are nodes.
use Rattle.std.proofs.Common.{◌≡◌, ℕ, zero, suc, ◌≤◌, ◌<◌, Bool, true, false, List, [], ◌∷◌, ◌++◌, flat_map, map, arith}
use Rattle.std.specs.Prelude.{if◌then◌else◌, ⊤, Option, Some, None, zip}
use Rattle.std.specs.Option.{option_map_or}
use Rattle.std.proofs.lemmas.Grind.{flat_map-append}
use Rattle.lin_frame.specs.Words.{numbers}
use Rattle.lin_parts.specs.Cluster.{line_of, nodes}
use Rattle.lin_parts.specs.declared.parts.Parts.{Parts}
use Rattle.lin_core.specs.History.{Slot, open_slot, reply_events, seen_of}
use Rattle.lin_core.specs.Links.{Fate, Link, Sending, fate_of, is_waiting, sendings}
use Rattle.lin_core.specs.Links.Fate.{Waiting, Sent as IsSent, Lost as IsLost}
use Rattle.lin_core.specs.Replies.{all_links, new_messages, put_event, quiet_entry, refusal, report, reports, service_events, sleeps}
use Rattle.lin_core.specs.Slots.{is_service, next_due, put_by}
use Rattle.lin_core.specs.declared.event.Event.{Event}
use Rattle.lin_core.specs.declared.event.Event.TheVariants as event
use Rattle.lin_core.specs.declared.log.LogEntry.{LogEntry}
use Rattle.lin_core.specs.declared.port.PortId.{PortId}
use Rattle.lin_core.specs.declared.reply.Refusal.{Refusal}
use Rattle.lin_core.specs.declared.step.Step.{Step}
use Rattle.lin_core.specs.declared.step.Step.TheVariants.{Send, Write, Open, Answer, Leave, Hurt, Finish, Timeout, Switch, AskSleep, Wake, Close}
use Rattle.lin_core.proofs.kept.Keeping.{send-room}
use Rattle.lin_export.proofs.Wholes.{given}

-- an event names a node, where it names a host
abbrev pub HostIs : Parts → Event → Type 0
HostIs c (event.Accepted host number) = host < nodes c
HostIs c (event.Sent host number) = host < nodes c
HostIs c (event.Lost host number why) = host < nodes c
HostIs c e = ⊤

abbrev pub HostsAre : Parts → List Event → Type 0
HostsAre c [] = ⊤
HostsAre c (e ∷ es) = HostIs c e × HostsAre c es

hosts-both : (c : Parts) (es fs : List Event) → HostsAre c es → HostsAre c fs → HostsAre c (es ++ fs)
hosts-both c [] fs h k = k
hosts-both c (e ∷ es) fs h k = (h.0, hosts-both c es fs h.1 k)

report-hosts : (c : Parts) (h number : ℕ) (f : Fate) → h < nodes c → HostsAre c (report h number f)
report-hosts c h number Waiting l = tt
report-hosts c h number IsSent l = (l, tt)
report-hosts c h number (IsLost cause) l = (l, tt)

reports-by : (c : Parts) (h : ℕ) (b : Bool) (number : ℕ) (f : Fate) → h < nodes c → HostsAre c (if b then report h number f else [])
reports-by c h true number f l = report-hosts c h number f l
reports-by c h false number f l = tt

reports-hosts : (c : Parts) (h : ℕ) (ss : List (Sending × Sending)) → h < nodes c
    → HostsAre c (flat_map (λ (s : Sending × Sending). if is_waiting (fate_of c s.0) then report h s.1.number (fate_of c s.1) else []) ss)
reports-hosts c h [] l = tt
reports-hosts c h (s ∷ ss) l = hosts-both c _ _ (reports-by c h (is_waiting (fate_of c s.0)) s.1.number (fate_of c s.1) l) (reports-hosts c h ss l)

all-reports : (c : Parts) (e : LogEntry) (past : List LogEntry) (n : ℕ) → n ≤ nodes c → HostsAre c (flat_map (reports c e past) (numbers n))
all-reports c e past zero l = tt
all-reports c e past (suc n) l =
    rw (flat_map-append (reports c e past) (numbers n) (n ∷ []))
    (hosts-both c (flat_map (reports c e past) (numbers n)) (reports c e past n ++ []) (all-reports c e past n (omega arith))
    (hosts-both c (reports c e past n) [] (reports-hosts c n (zip (sendings c past n) (sendings c (e ∷ past) n)) (omega arith)) tt))

messages-hosts : (c : Parts) (from to : ℕ) (ms : List (List ℕ)) → HostsAre c (map (λ m. event.Message from to m) ms)
messages-hosts c from to [] = tt
messages-hosts c from to (m ∷ ms) = (tt, messages-hosts c from to ms)

new-hosts : (c : Parts) (e : LogEntry) (past : List LogEntry) (ls : List Link) → HostsAre c (flat_map (new_messages c e past) ls)
new-hosts c e past [] = tt
new-hosts c e past (l ∷ ls) = hosts-both c (new_messages c e past l) (flat_map (new_messages c e past) ls) (messages-hosts c _ _ _) (new-hosts c e past ls)

due-hosts : (c : Parts) (ns : List ℕ) → HostsAre c (map (λ n. event.Due n) ns)
due-hosts c [] = tt
due-hosts c (n ∷ ns) = (tt, due-hosts c ns)

service-hosts : (c : Parts) (b : Bool) → HostsAre c (service_events b)
service-hosts c true = (tt, tt)
service-hosts c false = tt

seen-hosts : (c : Parts) (o : Option Slot) → HostsAre c (option_map_or (λ s. event.Seen (seen_of s) ∷ []) o [])
seen-hosts c None = tt
seen-hosts c (Some s) = (tt, tt)

asleep-hosts : (c : Parts) (b : Bool) → HostsAre c (if b then event.Asleep ∷ [] else [])
asleep-hosts c true = (tt, tt)
asleep-hosts c false = tt

put-by : (c : Parts) (past : List LogEntry) (node : ℕ) (s : Slot) (o : Option ℕ) → HostsAre c (option_map_or (λ h. event.Put node (put_by c past s h node) ∷ []) o [])
put-by c past node s None = tt
put-by c past node s (Some h) = (tt, tt)

put-hosts : (c : Parts) (past : List LogEntry) (node : ℕ) (o : Option Slot) → HostsAre c (option_map_or (put_event c past node) o [])
put-hosts c past node None = tt
put-hosts c past node (Some s) = put-by c past node s s.header

pub done-hosts : (c : Parts) (opening capacity : ℕ) (past : List LogEntry) (port : PortId) (step : Step) (r : Option Refusal) → refusal c capacity past port step ≡ r
    → HostsAre c (reply_events (given c opening past port step r))
done-hosts c o n past port step (Some r) is = tt
done-hosts c o n past port (Send from to message) None is = ((send-room c n past port from to message is).0, tt)
done-hosts c o n past port (Write by signal v) None is = tt
done-hosts c o n past port Open None is =
    let at : ℕ × ℕ = next_due c o past in
    (tt, hosts-both c _ _ (service-hosts c (is_service c past (line_of c at.0 at.1).entry)) (due-hosts c _))
done-hosts c o n past port (Answer node) None is = put-hosts c past node (open_slot past)
done-hosts c o n past port (Leave node) None is = tt
done-hosts c o n past port (Hurt bytes) None is = tt
done-hosts c o n past port Finish None is =
    let e : LogEntry = quiet_entry port Finish in
    hosts-both c _ _ (hosts-both c _ _ (hosts-both c _ _ (seen-hosts c (open_slot past)) (new-hosts c e past (all_links c))) (asleep-hosts c (sleeps past)))
    (all-reports c e past (nodes c) (omega arith))
done-hosts c o n past port (Timeout node dir) None is = all-reports c (quiet_entry port (Timeout node dir)) past (nodes c) (omega arith)
done-hosts c o n past port (Switch table) None is = tt
done-hosts c o n past port AskSleep None is = tt
done-hosts c o n past port Wake None is = tt
done-hosts c o n past port (Close host) None is = tt
