use Rattle.std.proofs.Common.{refl, ◌≡◌, ◌+◌, [], ◌∷◌, ◌++◌, ap, sym, ◌∙◌, arith}
use Rattle.lin_core.specs.kept.State.{Keeps, Stage, stage, KeepsLate, ClosesSlot}
use Rattle.lin_core.specs.kept.Slots.{slot_in, pdu_of}
use Rattle.lin_core.specs.Replies.{finish_events}
use Rattle.lin_core.specs.declared.event.Event.TheVariants.{Seen, Lost}
use Rattle.lin_core.specs.declared.log.LogEntry.{LogEntry}
use Rattle.std.specs.Prelude.{slice_set, true, is_some}
use Rattle.std.proofs.Math.ListN.{length-set}
use Rattle.lin_core.specs.kept.Hosts.{host_after_settling}
use Rattle.lin_core.specs.declared.link.Cause.TheVariants.{Damaged}
use Rattle.lin_core.specs.declared.pdu.Pdu.TheVariants.{OfMessage}
use Rattle.lin_core.proofs.steps.Settled.{DamagedIs, damaged-inside}
use Rattle.lin_core.proofs.kept.Settling.{settled-hosts, settled-late}
use Rattle.lin_core.proofs.steps.FinishCases.{host-carried, known_after}
use Rattle.lin_core.specs.kept.Bus.{KeepsBus}
use Rattle.lin_core.proofs.kept.Passing.{finish_of, passed-keeps, passed-bus, passed-ready}
use Rattle.lin_core.proofs.steps.Making.{OpenIs, open-ready, past_in}
use Rattle.lin_core.specs.kept.Receivers.{KeepsHeard}
use Rattle.lin_core.proofs.kept.Receiving.{carries-frame, heard-same, hurt-heard}
use Rattle.lin_core.proofs.state.State.finish_damaged.Goals.{After-two_events}
use Rattle.lin_core.proofs.state.State.finish_damaged.Goals as goal

abbrev here : After-two_events → Stage
here c = stage c.args.setup.now c.args.log.now c.args.self.now

pub index_mut-host-requires : goal.index_mut-host-requires
index_mut-host-requires c =
    let a = stage c.args.setup.now c.args.log.now c.args.self.now in
    let w = c.requires.ready.whole in
    let o = open-ready a c.args.by c.requires.ready in
    let carries = c.requires.carried (slot_in o.slot) o.is in
    let i = host-carried a.cluster (past_in a) c.args.by (slot_in o.slot) w.sound o.step.known c.args.sender o.is carries.0 in
    let count = w.kept.hosts_count in
    let below = i.below in
    rw c.pass_slot-seen.ensures.hosts (omega arith)

pub overflow_add-number : goal.overflow_add-number
overflow_add-number c =
    let a = stage c.args.setup.now c.args.log.now c.args.self.now in
    let o = open-ready a c.args.by c.requires.ready in
    let carries = c.requires.carried (slot_in o.slot) o.is in
    let x = damaged-inside a c.args.by o c.args.sender c.index_mut-host.result.now c.requires.ready.whole carries.0 carries.1 (rw c.pass_slot-seen.ensures.hosts at c.index_mut-host.ensures.value) in
    let small = x.own.small in
    omega arith

pub settle-requires : goal.settle-requires
settle-requires c =
    let a = stage c.args.setup.now c.args.log.now c.args.self.now in
    let o = open-ready a c.args.by c.requires.ready in
    let carries = c.requires.carried (slot_in o.slot) o.is in
    let x = damaged-inside a c.args.by o c.args.sender c.index_mut-host.result.now c.requires.ready.whole carries.0 carries.1 (rw c.pass_slot-seen.ensures.hosts at c.index_mut-host.ensures.value) in
    let small = x.own.small in
    omega arith

pub pass_slot-seen-requires-clause-open : goal.pass_slot-seen-requires-clause-open
pass_slot-seen-requires-clause-open c = ap is_some (open-ready (stage c.args.setup.now c.args.log.now c.args.self.now) c.args.by c.requires.ready).at

opened : (c : After-two_events) → OpenIs (here c) c.args.by
opened c = open-ready (here c) c.args.by c.requires.ready

carries : (c : After-two_events) → (pdu_of (slot_in (opened c).slot) ≡ OfMessage c.args.sender) × ((slot_in (opened c).slot).hurt ≡ true)
carries c =
    let o = opened c in
    c.requires.carried (slot_in o.slot) o.is

damaged : (c : After-two_events) → DamagedIs (here c) c.args.by (opened c) c.requires.ready.whole c.args.sender c.index_mut-host.result.now
damaged c = damaged-inside (here c) c.args.by (opened c) c.args.sender c.index_mut-host.result.now c.requires.ready.whole (carries c).0 (carries c).1 (rw c.pass_slot-seen.ensures.hosts at c.index_mut-host.ensures.value)

abbrev entry : (c : After-two_events) → LogEntry
entry c = finish_of (here c) c.args.by

passes : (c : After-two_events) → ClosesSlot (here c).cluster (opened c).slot (here c).state c.pass_slot-seen.new.self
passes c = c.pass_slot-seen.ensures.passes (opened c).slot (opened c).at

kept : (c : After-two_events) → Keeps (here c).cluster (here c).opening (here c).capacity ((here c).log ++ entry c ∷ []) (entry c ∷ past_in (here c)) c.pass_slot-seen.new.self.slot c.pass_slot-seen.new.self.time c.pass_slot-seen.new.self.walker (slice_set c.pass_slot-seen.new.self.hosts.items c.args.sender c.settle.new.self) c.pass_slot-seen.new.self.signals
kept c =
    let a = here c in
    let w = c.requires.ready.whole in
    let o = opened c in
    let host = c.index_mut-host.result.now in
    let x = damaged c in
    let es = finish_events a.cluster c.args.by (past_in a) in
    rw (c.pass_slot-seen.ensures.hosts, c.settle.ensures)
    (passed-keeps a c.args.by o c.pass_slot-seen.new.self (slice_set a.state.hosts.items c.args.sender (host_after_settling host)) w (passes c)
    (length-set a.state.hosts.items c.args.sender (host_after_settling host))
    (settled-hosts a.cluster a.capacity a.log (past_in a) (entry c) c.args.sender host a.state.hosts.items w.sound o.step.known (known_after a.cluster (past_in a) c.args.by es w.sound o.step.known) (x.done.settles es) x.own.here w.kept.each_host))

bus_is : (c : After-two_events) → KeepsBus (here c).cluster (entry c ∷ past_in (here c)) c.pass_slot-seen.new.self.bus
bus_is c = passed-bus (here c) c.args.by (opened c) c.pass_slot-seen.new.self c.requires.ready.whole (passes c)

late : (c : After-two_events) → KeepsLate (here c).cluster (entry c ∷ past_in (here c)) c.pass_slot-seen.new.self.bus (slice_set c.pass_slot-seen.new.self.hosts.items c.args.sender c.settle.new.self)
late c =
    let a = here c in
    let w = c.requires.ready.whole in
    let o = opened c in
    let host = c.index_mut-host.result.now in
    let x = damaged c in
    let es = finish_events a.cluster c.args.by (past_in a) in
    rw (c.pass_slot-seen.ensures.hosts, c.settle.ensures)
    (settled-late a.cluster (past_in a) (entry c) c.args.sender host a.state.bus c.pass_slot-seen.new.self.bus a.state.hosts.items w.sound o.step.known (known_after a.cluster (past_in a) c.args.by es w.sound o.step.known) (x.done.settles es) x.own.here (λ y. refl) (bus_is c) w.late)

heard : (c : After-two_events) → KeepsHeard (here c).cluster (entry c ∷ past_in (here c)) c.pass_slot-seen.new.self.receivers.items
heard c =
    let a = here c in
    let w = c.requires.ready.whole in
    let o = opened c in
    let past = past_in a in
    let i = carries-frame a.cluster past c.args.by w.sound o.step.known (slot_in o.slot) c.args.sender o.is (carries c).0 in
    rw c.pass_slot-seen.ensures.receivers
    (heard-same a.cluster past (entry c ∷ past) a.state.receivers.items (hurt-heard a.cluster past c.args.by o.step.known (slot_in o.slot) c.args.sender i (carries c).1 (finish_events a.cluster c.args.by past)) w.heard)

pub returns : goal.returns
returns c = record { told = c.two_events.ensures ∙ ap (λ (s : _). Seen s ∷ Lost c.args.sender (c.index_mut-host.result.now.settled + 1) Damaged ∷ []) (c.pass_slot-seen.ensures.seen (opened c).slot (opened c).at) ∙ sym (damaged c).done.told; kept = kept c; late = late c; heard = heard c; ready = passed-ready (here c) c.args.by (opened c) c.pass_slot-seen.new.self c.requires.ready.whole (passes c) }
