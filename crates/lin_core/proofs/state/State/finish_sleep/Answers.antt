use Rattle.std.proofs.Common.{refl, ◌≡◌, List, [], ◌∷◌, ◌++◌, ap, sym, ◌∙◌}
use Rattle.lin_core.specs.History.{seen_of}
use Rattle.lin_core.specs.kept.State.{Keeps, Stage, stage, KeepsLate, ClosesSlot}
use Rattle.lin_core.specs.kept.Slots.{slot_in, pdu_of}
use Rattle.lin_core.specs.Replies.{finish_events}
use Rattle.lin_core.specs.declared.event.Event.{Event}
use Rattle.lin_core.specs.declared.event.Event.TheVariants.{Asleep as SleepEvent, Seen}
use Rattle.lin_core.specs.declared.log.LogEntry.{LogEntry}
use Rattle.std.specs.Prelude.{false, is_some}
use Rattle.lin_core.specs.kept.Hosts.{losses}
use Rattle.lin_core.specs.declared.pdu.Pdu.TheVariants.{Sleep}
use Rattle.lin_core.proofs.steps.FinishCases.{Sleeps, finishes-asleep, known_after}
use Rattle.lin_core.proofs.kept.Sleeping.{losses-are, settled-small, sleeping-hosts, sleeping-late}
use Rattle.lin_core.specs.kept.Bus.{KeepsBus}
use Rattle.lin_core.proofs.kept.Passing.{finish_of, passed-keeps, passed-bus, passed-ready}
use Rattle.lin_core.proofs.steps.Making.{OpenIs, open-ready, past_in}
use Rattle.lin_core.specs.kept.Receivers.{KeepsHeard}
use Rattle.lin_core.proofs.kept.Receiving.{heard-reset, sleep-heard}
use Rattle.lin_core.proofs.state.State.finish_sleep.Goals.{After-sleep_events}
use Rattle.lin_core.proofs.state.State.finish_sleep.Goals as goal

abbrev here : After-sleep_events → Stage
here c = stage c.args.setup.now c.args.log.now c.args.self.now

pub sleep_events-requires-clause-small : goal.sleep_events-requires-clause-small
sleep_events-requires-clause-small c =
    let a = stage c.args.setup.now c.args.log.now c.args.self.now in
    let o = open-ready a c.args.by c.requires.ready in
    λ h kept there. settled-small a c.requires.ready.whole o.step.few h kept (rw c.pass_slot-seen.ensures.hosts at there)

pub pass_slot-seen-requires-clause-open : goal.pass_slot-seen-requires-clause-open
pass_slot-seen-requires-clause-open c = ap is_some (open-ready (stage c.args.setup.now c.args.log.now c.args.self.now) c.args.by c.requires.ready).at

opened : (c : After-sleep_events) → OpenIs (here c) c.args.by
opened c = open-ready (here c) c.args.by c.requires.ready

asleep : (c : After-sleep_events) → (pdu_of (slot_in (opened c).slot) ≡ Sleep) × ((slot_in (opened c).slot).hurt ≡ false)
asleep c =
    let o = opened c in
    c.requires.asleep (slot_in o.slot) o.is

sleeps : (c : After-sleep_events) → Sleeps (here c).cluster (past_in (here c)) c.args.by (slot_in (opened c).slot) c.requires.ready.whole.sound (opened c).step.known
sleeps c =
    let a = here c in
    let o = opened c in
    let s = asleep c in
    finishes-asleep a.cluster (past_in a) c.args.by (slot_in o.slot) c.requires.ready.whole.sound o.step.known o.is s.0 s.1

abbrev entry : (c : After-sleep_events) → LogEntry
entry c = finish_of (here c) c.args.by

passes : (c : After-sleep_events) → ClosesSlot (here c).cluster (opened c).slot (here c).state c.pass_slot-seen.new.self
passes c = c.pass_slot-seen.ensures.passes (opened c).slot (opened c).at

kept : (c : After-sleep_events) → Keeps (here c).cluster (here c).opening (here c).capacity ((here c).log ++ entry c ∷ []) (entry c ∷ past_in (here c)) c.pass_slot-seen.new.self.slot c.pass_slot-seen.new.self.time c.pass_slot-seen.new.self.walker c.sleep_events.new.hosts.items c.pass_slot-seen.new.self.signals
kept c =
    let a = here c in
    let w = c.requires.ready.whole in
    let o = opened c in
    let es = finish_events a.cluster c.args.by (past_in a) in
    (passed-keeps a c.args.by o c.pass_slot-seen.new.self c.sleep_events.new.hosts.items w (passes c)
    (rw c.pass_slot-seen.ensures.hosts at c.sleep_events.ensures.count)
    (sleeping-hosts a.cluster a.capacity a.log (past_in a) (entry c) a.state.bus a.state.hosts.items c.sleep_events.new.hosts.items w.sound o.step.known (known_after a.cluster (past_in a) c.args.by es w.sound o.step.known) ((sleeps c).states_are es) (λ x. refl) (rw c.pass_slot-seen.ensures.hosts at c.sleep_events.ensures.hosts) w.kept.each_host w.late))

bus_is : (c : After-sleep_events) → KeepsBus (here c).cluster (entry c ∷ past_in (here c)) c.pass_slot-seen.new.self.bus
bus_is c = passed-bus (here c) c.args.by (opened c) c.pass_slot-seen.new.self c.requires.ready.whole (passes c)

late : (c : After-sleep_events) → KeepsLate (here c).cluster (entry c ∷ past_in (here c)) c.pass_slot-seen.new.self.bus c.sleep_events.new.hosts.items
late c =
    let a = here c in
    let w = c.requires.ready.whole in
    let o = opened c in
    let es = finish_events a.cluster c.args.by (past_in a) in
    sleeping-late a.cluster a.capacity a.log (past_in a) (entry c) a.state.bus c.pass_slot-seen.new.self.bus a.state.hosts.items c.sleep_events.new.hosts.items w.sound o.step.known (known_after a.cluster (past_in a) c.args.by es w.sound o.step.known) ((sleeps c).states_are es) (λ x. refl) (λ x. refl) (rw c.pass_slot-seen.ensures.hosts at c.sleep_events.ensures.hosts) w.kept.each_host (bus_is c) w.late

heard : (c : After-sleep_events) → KeepsHeard (here c).cluster (entry c ∷ past_in (here c)) c.reset_all.new.receivers.items
heard c =
    let a = here c in
    let w = c.requires.ready.whole in
    let o = opened c in
    let past = past_in a in
    heard-reset a.cluster past (entry c ∷ past) a.state.receivers.items c.reset_all.new.receivers.items (rw c.pass_slot-seen.ensures.receivers at c.reset_all.ensures.count) (rw c.pass_slot-seen.ensures.receivers at c.reset_all.ensures.each)
    (sleep-heard a.cluster past c.args.by (finish_events a.cluster c.args.by past) w.sound o.step.known (slot_in o.slot) o.is (asleep c).0 (asleep c).1) w.heard

told : (c : After-sleep_events) → c.sleep_events.result ≡ finish_events (here c).cluster c.args.by (past_in (here c))
told c =
    let a = here c in
    let s = (opened c).slot in
    (rw c.pass_slot-seen.ensures.hosts at c.sleep_events.ensures.events) ∙ ap (λ (x : _). Seen x ∷ SleepEvent ∷ losses a.state.hosts.items) (c.pass_slot-seen.ensures.seen s (opened c).at)
    ∙ ap (λ (es : List Event). Seen (seen_of (slot_in s)) ∷ SleepEvent ∷ es) (losses-are a c.requires.ready.whole (opened c).step.known) ∙ sym (sleeps c).told

pub returns : goal.returns
returns c = record { told = told c; kept = kept c; late = late c; heard = heard c; ready = passed-ready (here c) c.args.by (opened c) c.pass_slot-seen.new.self c.requires.ready.whole (passes c) }
