use Rattle.std.proofs.Common.{refl, ◌≡◌, ℕ, suc, length, List, [], ◌∷◌, ◌++◌, sym, ◌∙◌, arith, rules, false}
use Rattle.std.specs.Prelude.{slice_set}
use Rattle.std.proofs.Math.ListN.{length-set}
use Rattle.lin_parts.specs.Cluster.{nodes}
use Rattle.lin_core.specs.History.{seen_of}
use Rattle.lin_core.specs.kept.Bus.{KeepsBus}
use Rattle.lin_core.specs.kept.Hosts.{host_after_settling, told_to_all}
use Rattle.lin_core.specs.kept.Receivers.{KeepsHeard}
use Rattle.lin_core.specs.kept.Slots.{slot_in}
use Rattle.lin_core.specs.kept.State.{ClosesSlot, Stage, stage}
use Rattle.lin_core.specs.Links.{heard_on}
use Rattle.lin_core.specs.Replies.{finish_events, link_at}
use Rattle.lin_core.specs.declared.event.Event.{Event}
use Rattle.lin_core.specs.declared.event.Event.TheVariants.{Seen, Sent}
use Rattle.lin_core.specs.declared.event.Seen.{Seen as HowSeen}
use Rattle.lin_core.specs.declared.link.Direction.TheVariants.{Down}
use Rattle.lin_core.specs.declared.log.LogEntry.{LogEntry}
use Rattle.lin_core.proofs.kept.Passing.{finish_of, passed-bus, passed-keeps, passed-ready, passes-as}
use Rattle.lin_core.proofs.kept.Receiving.{heard-alike}
use Rattle.lin_core.proofs.kept.Settling.{settled-hosts, settled-late}
use Rattle.lin_core.proofs.steps.FinishCases.{Done, finishes-whole, known_after}
use Rattle.lin_core.proofs.steps.FinishEvents.ToldIs.{to_all}
use Rattle.lin_core.proofs.steps.Goods.{host-there}
use Rattle.lin_core.proofs.steps.Making.{OpenIs, open-ready, past_in}
use Rattle.lin_core.proofs.steps.Settled.{SettlesHost, settles-host}
use Rattle.lin_core.proofs.steps.ToAll.{ToAllIs, alike-inside, all-inside, completes-inside, frame-inside, frame_of, single-inside, to-all-inside}
use Rattle.lin_core.proofs.state.State.finish_to_all.Goals.{After-index_mut-host}
use Rattle.lin_core.proofs.state.State.finish_to_all.Goals as goal

pub returns-in_err-make_room_in_all : goal.returns-in_err-make_room_in_all
returns-in_err-make_room_in_all c =
    let a = stage c.args.setup.now c.args.log.now c.args.self.now in
    let kept = alike-inside a c.make_room_in_all.new.receivers c.in_err-make_room_in_all.ensures.alike c.requires.ready.whole in
    search rules

-- == after the slot
abbrev here : After-index_mut-host → Stage
here c = stage c.args.setup.now c.args.log.now c.args.self.now

opened : (c : After-index_mut-host) → OpenIs (here c) c.args.by
opened c = open-ready (here c) c.args.by c.requires.ready

to-all : (c : After-index_mut-host) → ToAllIs (here c) c.args.by (opened c)
to-all c = to-all-inside (here c) c.args.by (opened c) c.requires.ready.whole c.requires.carried c.requires.all

own : (c : After-index_mut-host) → SettlesHost (here c) c.args.by (opened c) 0 c.index_mut-host.result.now
own c =
    let w = c.requires.ready.whole in
    let i = (to-all c).carries in
    let below = (host-there (here c) 0 false w (opened c).step.known c.requires.carried).below in
    settles-host (here c) c.args.by (opened c) 0 c.index_mut-host.result.now i.message i.later w below i.first (rw c.pass_slot-seen.ensures.hosts at c.index_mut-host.ensures.value)

frame-is : (c : After-index_mut-host) → c.data-frame.result ≡ frame_of (here c) c.args.by (opened c) (to-all c)
frame-is c = frame-inside (here c) c.args.by (opened c) (to-all c) c.open.result.now c.data-frame.result c.open.ensures c.data-frame.ensures

abbrev entry : (c : After-index_mut-host) → LogEntry
entry c = finish_of (here c) c.args.by

passes : (c : After-index_mut-host) → ClosesSlot (here c).cluster (opened c).slot (here c).state c.pass_slot-seen.new.self
passes c = passes-as (here c).cluster (opened c).slot (here c).state c.pass_slot-seen.new.self c.make_room_in_all.new.receivers (c.pass_slot-seen.ensures.passes (opened c).slot (opened c).at)

bus_is : (c : After-index_mut-host) → KeepsBus (here c).cluster (entry c ∷ past_in (here c)) c.pass_slot-seen.new.self.bus
bus_is c = passed-bus (here c) c.args.by (opened c) c.pass_slot-seen.new.self c.requires.ready.whole (passes c)

heard-before : (c : After-index_mut-host) → KeepsHeard (here c).cluster (past_in (here c)) c.pass_slot-seen.new.self.receivers.items
heard-before c =
    rw c.pass_slot-seen.ensures.receivers
    (heard-alike (here c).cluster (past_in (here c)) (here c).state.receivers.items c.make_room_in_all.new.receivers.items c.in_ok-make_room_in_all.ensures.alike c.requires.ready.whole.heard)

seen_is : (c : After-index_mut-host) → c.pass_slot-seen.result ≡ seen_of (slot_in (opened c).slot)
seen_is c = c.pass_slot-seen.ensures.seen (opened c).slot (opened c).at

done : (c : After-index_mut-host) → Done (here c).cluster (past_in (here c)) c.args.by (slot_in (opened c).slot) c.requires.ready.whole.sound (opened c).step.known 0
    (told_to_all (here c).cluster (to-all c).carries.message.bytes (nodes (here c).cluster) ++ Sent 0 (suc (length ((opened c).step.known.states 0).done)) ∷ [])
done c =
    let o = opened c in
    let t = to-all c in
    let i = t.carries in
    finishes-whole (here c).cluster (past_in (here c)) c.args.by (slot_in o.slot) c.requires.ready.whole.sound o.step.known 0 i.message i.later
    (told_to_all (here c).cluster i.message.bytes (nodes (here c).cluster)) o.is t.pdu t.calm i.first t.last (to_all t.all)

pub overflow_add-number : goal.overflow_add-number
overflow_add-number c = let small = (own c).small in omega arith

pub settle-requires : goal.settle-requires
settle-requires c = (own c).small

pub events_to_all-requires-clause-single : goal.events_to_all-requires-clause-single
events_to_all-requires-clause-single c = let b = c.before.before.before.before in rw (frame-is b) (single-inside (here b) c.args.by (opened b) (to-all b))

events : (s s' : HowSeen) (told : ℕ → List Event) (x x' n n' : ℕ) → s ≡ s' → x ≡ x' → n ≡ n' → Seen s ∷ told x ++ Sent 0 n ∷ [] ≡ Seen s' ∷ told x' ++ Sent 0 n' ∷ []
events s s' told x x' n n' p q r = rw (p, q, r) refl

pub returns : goal.returns
returns c =
    let b = c.before.before.before.before.before in
    let a = here b in
    let w = c.requires.ready.whole in
    let o = opened b in
    let host = c.index_mut-host.result.now in
    let es = finish_events a.cluster c.args.by (past_in a) in
    let k = known_after a.cluster (past_in a) c.args.by es w.sound o.step.known in
    let t = to-all b in
    record {
      told = c.events_to_all.ensures.told (λ n. heard_on a.cluster (past_in a) (link_at n Down)) t.carries.message.bytes
          (completes-inside a c.args.by o t w c.data-frame.result c.pass_slot-seen.new.self.receivers.items (frame-is b) (heard-before b))
          ∙ events _ _ (told_to_all a.cluster t.carries.message.bytes) _ _ _ _ (seen_is b) (heard-before b).count (own b).number
          ∙ sym (done b).told;
      kept = rw (c.pass_slot-seen.ensures.hosts, c.settle.ensures)
          (passed-keeps a c.args.by o c.pass_slot-seen.new.self (slice_set a.state.hosts.items 0 (host_after_settling host)) w (passes b) (length-set a.state.hosts.items 0 (host_after_settling host))
          (settled-hosts a.cluster a.capacity a.log (past_in a) (entry b) 0 host a.state.hosts.items w.sound o.step.known k ((done b).settles es) (own b).here w.kept.each_host));
      late = rw (c.pass_slot-seen.ensures.hosts, c.settle.ensures)
          (settled-late a.cluster (past_in a) (entry b) 0 host a.state.bus c.pass_slot-seen.new.self.bus a.state.hosts.items w.sound o.step.known k ((done b).settles es) (own b).here (λ y. refl) (bus_is b) w.late);
      heard = all-inside a c.args.by o t c.data-frame.result c.pass_slot-seen.new.self.receivers.items c.events_to_all.new.receivers.items (frame-is b) c.events_to_all.ensures.hears (heard-before b);
      ready = passed-ready a c.args.by o c.pass_slot-seen.new.self w (passes b);
    }
