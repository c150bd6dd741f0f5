use Rattle.std.proofs.Common.{refl, ◌≡◌, [], ◌∷◌, ◌++◌, ap, sym, ◌∙◌}
use Rattle.lin_core.specs.kept.State.{Keeps, Stage, stage, KeepsLate, ClosesSlot}
use Rattle.lin_core.specs.kept.Slots.{slot_in, is_still, pdu_of}
use Rattle.lin_core.specs.Replies.{finish_events}
use Rattle.lin_core.specs.declared.event.Event.TheVariants.{Seen}
use Rattle.lin_core.specs.declared.log.LogEntry.{LogEntry}
use Rattle.lin_core.proofs.steps.FinishCases.{Still, finishes-quiet, known_after}
use Rattle.lin_core.proofs.kept.Keeping.{same-hosts}
use Rattle.lin_core.proofs.kept.BusAndSenders.{still-late}
use Rattle.lin_core.specs.kept.Bus.{KeepsBus}
use Rattle.std.specs.Prelude.{true, is_some}
use Rattle.lin_core.proofs.sendings.Hosts.{HostState}
use Rattle.lin_core.proofs.kept.Passing.{finish_of, passed-keeps, passed-bus, passed-ready}
use Rattle.lin_core.proofs.steps.Making.{OpenIs, open-ready, past_in}
use Rattle.lin_core.specs.kept.Receivers.{KeepsHeard}
use Rattle.lin_core.proofs.kept.Receiving.{heard-same, still-heard}
use Rattle.lin_core.proofs.state.State.finish_plain.Goals.{After-one}
use Rattle.lin_core.proofs.state.State.finish_plain.Goals as goal

abbrev here : After-one → Stage
here c = stage c.args.setup.now c.args.log.now c.args.self.now

pub pass_slot-seen-requires-clause-open : goal.pass_slot-seen-requires-clause-open
pass_slot-seen-requires-clause-open c = ap is_some (open-ready (stage c.args.setup.now c.args.log.now c.args.self.now) c.args.by c.requires.ready).at

opened : (c : After-one) → OpenIs (here c) c.args.by
opened c = open-ready (here c) c.args.by c.requires.ready

still : (c : After-one) → is_still (pdu_of (slot_in (opened c).slot)) (opened c).slot.hurt ≡ true
still c =
    let o = opened c in
    c.requires.still (slot_in o.slot) o.is

quiet : (c : After-one) → Still (here c).cluster (past_in (here c)) c.args.by (slot_in (opened c).slot) c.requires.ready.whole.sound (opened c).step.known
quiet c =
    let o = opened c in
    finishes-quiet (here c).cluster (past_in (here c)) c.args.by (slot_in o.slot) c.requires.ready.whole.sound o.step.known o.is (still c)

abbrev entry : (c : After-one) → LogEntry
entry c = finish_of (here c) c.args.by

passes : (c : After-one) → ClosesSlot (here c).cluster (opened c).slot (here c).state c.pass_slot-seen.new.self
passes c = c.pass_slot-seen.ensures.passes (opened c).slot (opened c).at

kept : (c : After-one) → Keeps (here c).cluster (here c).opening (here c).capacity ((here c).log ++ entry c ∷ []) (entry c ∷ past_in (here c)) c.pass_slot-seen.new.self.slot c.pass_slot-seen.new.self.time c.pass_slot-seen.new.self.walker c.pass_slot-seen.new.self.hosts.items c.pass_slot-seen.new.self.signals
kept c =
    let a = here c in
    let w = c.requires.ready.whole in
    let o = opened c in
    rw c.pass_slot-seen.ensures.hosts
    (passed-keeps a c.args.by o c.pass_slot-seen.new.self a.state.hosts.items w (passes c) refl
    (λ h host there. same-hosts a.cluster a.capacity a.log (past_in a) (entry c) w.sound o.step.known (known_after a.cluster (past_in a) c.args.by (finish_events a.cluster c.args.by (past_in a)) w.sound o.step.known)
    (λ x. ap (λ (s : HostState). s.rest) ((quiet c).same (finish_events a.cluster c.args.by (past_in a)) x)) (λ x. refl) h host (w.kept.each_host h host there)))

bus_is : (c : After-one) → KeepsBus (here c).cluster (entry c ∷ past_in (here c)) c.pass_slot-seen.new.self.bus
bus_is c = passed-bus (here c) c.args.by (opened c) c.pass_slot-seen.new.self c.requires.ready.whole (passes c)

late : (c : After-one) → KeepsLate (here c).cluster (entry c ∷ past_in (here c)) c.pass_slot-seen.new.self.bus c.pass_slot-seen.new.self.hosts.items
late c =
    let a = here c in
    let w = c.requires.ready.whole in
    let o = opened c in
    let es = finish_events a.cluster c.args.by (past_in a) in
    rw c.pass_slot-seen.ensures.hosts
    (still-late a.cluster (past_in a) (entry c) a.state.bus c.pass_slot-seen.new.self.bus a.state.hosts.items w.sound o.step.known (known_after a.cluster (past_in a) c.args.by es w.sound o.step.known) ((quiet c).same es) (λ x. refl) (bus_is c) w.late)

heard : (c : After-one) → KeepsHeard (here c).cluster (entry c ∷ past_in (here c)) c.pass_slot-seen.new.self.receivers.items
heard c =
    let a = here c in
    let w = c.requires.ready.whole in
    let o = opened c in
    rw c.pass_slot-seen.ensures.receivers
    (heard-same a.cluster (past_in a) (entry c ∷ past_in a) a.state.receivers.items
    (still-heard a.cluster (past_in a) c.args.by (finish_events a.cluster c.args.by (past_in a)) w.sound o.step.known (slot_in o.slot) o.is (still c)) w.heard)

pub returns : goal.returns
returns c = record { told = c.one.ensures ∙ ap (λ (s : _). Seen s ∷ []) (c.pass_slot-seen.ensures.seen (opened c).slot (opened c).at) ∙ sym (quiet c).told; kept = kept c; late = late c; heard = heard c; ready = passed-ready (here c) c.args.by (opened c) c.pass_slot-seen.new.self c.requires.ready.whole (passes c) }
