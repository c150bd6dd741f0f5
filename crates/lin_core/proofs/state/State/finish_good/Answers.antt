use Rattle.std.proofs.Common.{refl, ◌≡◌, ℕ, suc, length, List, [], ◌∷◌, ap, sym, ◌∙◌, ◌<◌, subst, arith, inr}
use Rattle.std.specs.List.{list_any}
use Rattle.std.specs.Prelude.{false, is_some, map, option_map, slice_set, take, true}
use Rattle.std.proofs.Math.ListN.{length-set}
use Rattle.lin_parts.specs.Cluster.{nodes}
use Rattle.lin_core.specs.History.{seen_of}
use Rattle.lin_core.specs.kept.Hosts.{host_after_frame, host_after_settling, is_next_to_all, message_at, message_of}
use Rattle.lin_core.specs.kept.Slots.{slot_in, IsCarried}
use Rattle.lin_core.specs.kept.Receivers.{KeepsHeard}
use Rattle.lin_core.specs.kept.Bus.{KeepsBus}
use Rattle.lin_core.specs.Links.{Link, Message, Sending, link_address, host_of, is_to_all, waiting}
use Rattle.lin_core.specs.kept.State.{ClosesSlot, Stage, stage}
use Rattle.lin_core.specs.Replies.{finish_events, receiver_of}
use Rattle.lin_core.specs.declared.event.Event.TheVariants.{Message as MessageEvent, Seen, Sent}
use Rattle.lin_core.specs.declared.event.Seen.{Seen as HowSeen}
use Rattle.lin_core.specs.declared.host.Host.{Host}
use Rattle.lin_core.specs.declared.log.LogEntry.{LogEntry}
use Rattle.lin_core.proofs.steps.FinishCases.{Done, Part, finishes-part, finishes-whole, known_after}
use Rattle.lin_core.proofs.kept.Going.{GoesOn, going-hosts, going-late}
use Rattle.lin_core.proofs.steps.Goods.{GoodIs, carried-slot, good-inside, host-there, last-inside, more-frames, same-host}
use Rattle.lin_core.proofs.steps.Making.{OpenIs, known-inside, open-ready, past_in}
use Rattle.lin_core.proofs.sendings.Moves.{is_last, to-all-is}
use Rattle.lin_core.proofs.sendings.Queues.{waiting-are}
use Rattle.lin_core.proofs.laws.Reports.{index-some}
use Rattle.lin_core.proofs.steps.FinishEvents.ToldIs.{to_one}
use Rattle.lin_core.proofs.kept.Passing.{finish_of, passed-keeps, passed-bus, passed-ready, passes-as}
use Rattle.lin_core.proofs.kept.Places.{lent-is}
use Rattle.lin_core.proofs.steps.Reassembling.{heard-inside}
use Rattle.lin_core.proofs.kept.Receiving.{HeardFrame}
use Rattle.lin_core.proofs.steps.Settled.{SettlesHost, settles-host}
use Rattle.lin_core.proofs.kept.Settling.{settled-hosts, settled-late}
use Rattle.lin_core.proofs.state.State.finish_good.Goals.{After-index_mut-host}
use Rattle.lin_core.proofs.state.State.finish_good.Goals as goal

pub index-host-requires : goal.index-host-requires
index-host-requires c =
    let a = stage c.args.setup.now c.args.log.now c.args.self.now in
    let w = c.requires.ready.whole in
    let i = host-there a c.args.sender false w (known-inside a w) c.requires.carried in
    let count = w.kept.hosts_count in
    let below = i.below in
    omega arith

pub message_at-message-requires : goal.message_at-message-requires
message_at-message-requires c =
    let a = stage c.args.setup.now c.args.log.now c.args.self.now in
    let w = c.requires.ready.whole in
    ap is_some (good-inside a c.args.sender false c.index-host.result.now c.next.result w (known-inside a w) c.requires.carried c.index-host.ensures c.next.ensures).at

pub open-requires : goal.open-requires
open-requires c = ap is_some (open-ready (stage c.args.setup.now c.args.log.now c.args.self.now) c.args.by c.requires.ready).at

pub hear-requires : goal.hear-requires
hear-requires c =
    let a = stage c.args.setup.now c.args.log.now c.args.self.now in
    let w = c.requires.ready.whole in
    let g = good-inside a c.args.sender false c.index-host.result.now c.next.result w (known-inside a w) c.requires.carried c.index-host.ensures c.next.ensures in
    let m = lent-is (message_at a.log c.next.result) c.message_at-message.result.link c.message_at-message.result.bytes.now g.message c.message_at-message.ensures.message g.at in
    let node = ap (λ (x : Message). x.link.node) m in
    let alone : is_to_all g.message.link ≡ false = ap (λ (x : Message). is_to_all x.link) (sym m) ∙ sym c.is_to_all.ensures ∙ c.if-is_to_all.false in
    let there = index-some a.cluster.nodes g.message.link.node (g.go.one alone).address in
    let count = w.heard.count in
    omega arith

-- == a message to all
-- the first that waits goes to all
next-all : (ss : List Sending) (m : Message) (ms : List Message) → map message_of ss ≡ m ∷ ms → is_to_all m.link ≡ true → list_any (λ (s : Sending). is_to_all s.message.link) (take 1 ss) ≡ true
next-all [] m ms e all = cc
next-all (s ∷ ss) m ms e all =
    let one : s.message ≡ m = cc in
    let is : is_to_all s.message.link ≡ true = ap (λ (x : Message). is_to_all x.link) one ∙ all in
    rw is refl

-- host 0 alone sends to all
sends-all : (l : Link) → is_to_all l ≡ true → host_of l ≡ 0
sends-all l all = ap host_of (to-all-is l.node l.dir all)

pub finish_to_all-requires-clause-carried : goal.finish_to_all-requires-clause-carried
finish_to_all-requires-clause-carried c =
    let a = stage c.args.setup.now c.args.log.now c.args.self.now in
    let w = c.requires.ready.whole in
    let g = good-inside a c.args.sender false c.index-host.result.now c.next.result w (known-inside a w) c.requires.carried c.index-host.ensures c.next.ensures in
    let m = lent-is (message_at a.log c.next.result) c.message_at-message.result.link c.message_at-message.result.bytes.now g.message c.message_at-message.ensures.message g.at in
    let all : is_to_all g.message.link ≡ true = ap (λ (x : Message). is_to_all x.link) (sym m) ∙ sym c.is_to_all.ensures ∙ c.if-is_to_all.true in
    let none : c.args.sender ≡ 0 = sym g.go.host ∙ sends-all g.message.link all in
    subst (λ (h : ℕ). IsCarried (past_in a) h false) none c.requires.carried

pub finish_to_all-requires-clause-all : goal.finish_to_all-requires-clause-all
finish_to_all-requires-clause-all c =
    let a = stage c.args.setup.now c.args.log.now c.args.self.now in
    let w = c.requires.ready.whole in
    let g = good-inside a c.args.sender false c.index-host.result.now c.next.result w (known-inside a w) c.requires.carried c.index-host.ensures c.next.ensures in
    let m = lent-is (message_at a.log c.next.result) c.message_at-message.result.link c.message_at-message.result.bytes.now g.message c.message_at-message.ensures.message g.at in
    let all : is_to_all g.message.link ≡ true = ap (λ (x : Message). is_to_all x.link) (sym m) ∙ sym c.is_to_all.ensures ∙ c.if-is_to_all.true in
    let none : c.args.sender ≡ 0 = sym g.go.host ∙ sends-all g.message.link all in
    subst (λ (h : ℕ). is_next_to_all a.cluster (past_in a) h ≡ true) none
    (next-all (waiting a.cluster (past_in a) c.args.sender) g.message g.later (waiting-are a.cluster (past_in a) c.args.sender w.sound (known-inside a w) ∙ g.first) all)

pub pass_slot-seen-requires-clause-open : goal.pass_slot-seen-requires-clause-open
pass_slot-seen-requires-clause-open c = ap is_some (open-ready (stage c.args.setup.now c.args.log.now c.args.self.now) c.args.by c.requires.ready).at

pub index_mut-host-requires : goal.index_mut-host-requires
index_mut-host-requires c =
    let a = stage c.args.setup.now c.args.log.now c.args.self.now in
    let w = c.requires.ready.whole in
    let i = host-there a c.args.sender false w (known-inside a w) c.requires.carried in
    let count = w.kept.hosts_count in
    let below = i.below in
    rw c.pass_slot-seen.ensures.hosts (omega arith)

-- == after the slot
abbrev here : After-index_mut-host → Stage
here c = stage c.args.setup.now c.args.log.now c.args.self.now

opened : (c : After-index_mut-host) → OpenIs (here c) c.args.by
opened c = open-ready (here c) c.args.by c.requires.ready

good : (c : After-index_mut-host) → GoodIs (here c) (opened c).step.known c.args.sender c.index-host.result.now c.next.result
good c = good-inside (here c) c.args.sender false c.index-host.result.now c.next.result c.requires.ready.whole (opened c).step.known c.requires.carried c.index-host.ensures c.next.ensures

lent : (c : After-index_mut-host) → record { link = c.message_at-message.result.link; bytes = c.message_at-message.result.bytes.now } ≡ (good c).message
lent c = lent-is (message_at (here c).log c.next.result) c.message_at-message.result.link c.message_at-message.result.bytes.now (good c).message c.message_at-message.ensures.message (good c).at

size : (c : After-index_mut-host) → length c.message_at-message.result.bytes.now ≡ length (good c).message.bytes
size c = ap (λ (m : Message). length m.bytes) (lent c)

last : (c : After-index_mut-host) → is_last (good c).message.bytes ((opened c).step.known.states c.args.sender).count ≡ c.is_last-last.result
last c = last-inside (here c) c.args.sender c.index-host.result.now c.next.result (length c.message_at-message.result.bytes.now) c.is_last-last.result (opened c).step.known (good c) (size c) c.is_last-last.ensures

alone : (c : After-index_mut-host) → is_to_all (good c).message.link ≡ false
alone c = ap (λ (m : Message). is_to_all m.link) (sym (lent c)) ∙ sym c.is_to_all.ensures ∙ c.if-is_to_all.false

there : (c : After-index_mut-host) → (good c).message.link.node < nodes (here c).cluster
there c = index-some (here c).cluster.nodes (good c).message.link.node ((good c).go.one (alone c)).address

same : (c : After-index_mut-host) → c.index_mut-host.result.now ≡ c.index-host.result.now
same c = same-host (here c) c.args.sender c.index_mut-host.result.now c.index-host.result.now c.requires.ready.whole (good c).below (rw c.pass_slot-seen.ensures.hosts at c.index_mut-host.ensures.value) c.index-host.ensures

own : (c : After-index_mut-host) → SettlesHost (here c) c.args.by (opened c) c.args.sender c.index_mut-host.result.now
own c = let g = good c in settles-host (here c) c.args.by (opened c) c.args.sender c.index_mut-host.result.now g.message g.later c.requires.ready.whole g.below g.first (rw c.pass_slot-seen.ensures.hosts at c.index_mut-host.ensures.value)

abbrev entry : (c : After-index_mut-host) → LogEntry
entry c = finish_of (here c) c.args.by

passes : (c : After-index_mut-host) → ClosesSlot (here c).cluster (opened c).slot (here c).state c.pass_slot-seen.new.self
passes c = passes-as (here c).cluster (opened c).slot (here c).state c.pass_slot-seen.new.self c.hear.new.receivers (c.pass_slot-seen.ensures.passes (opened c).slot (opened c).at)

bus_is : (c : After-index_mut-host) → KeepsBus (here c).cluster (entry c ∷ past_in (here c)) c.pass_slot-seen.new.self.bus
bus_is c = passed-bus (here c) c.args.by (opened c) c.pass_slot-seen.new.self c.requires.ready.whole (passes c)

heard_frame : (c : After-index_mut-host) → HeardFrame (here c).cluster (past_in (here c)) (entry c ∷ past_in (here c)) (good c).message.link (option_map (λ v. v.items) c.in_ok-hear.field-0) c.hear.new.receivers.items
heard_frame c =
    heard-inside (here c) c.args.by (opened c) c.args.sender c.index-host.result.now c.next.result c.requires.ready.whole (good c) c.requires.carried (alone c) c.message_at-message.result.link c.data-frame.result
    (option_map (λ v. v.items) c.in_ok-hear.field-0) c.hear.new.receivers.items (ap (λ (m : Message). m.link) (lent c)) c.open.result.now c.open.ensures c.data-frame.ensures c.in_ok-hear.ensures.hears

heard : (c : After-index_mut-host) → KeepsHeard (here c).cluster (entry c ∷ past_in (here c)) c.pass_slot-seen.new.self.receivers.items
heard c = rw c.pass_slot-seen.ensures.receivers (heard_frame c).keeps

seen_is : (c : After-index_mut-host) → c.pass_slot-seen.result ≡ seen_of (slot_in (opened c).slot)
seen_is c = c.pass_slot-seen.ensures.seen (opened c).slot (opened c).at

-- == the message goes on
part : (c : After-index_mut-host) → c.is_last-last.result ≡ false → Part (here c).cluster (past_in (here c)) c.args.by (slot_in (opened c).slot) c.requires.ready.whole.sound (opened c).step.known c.args.sender
part c more =
    let o = opened c in
    let g = good c in
    let s = carried-slot (past_in (here c)) c.args.sender false (slot_in o.slot) o.is c.requires.carried in
    finishes-part (here c).cluster (past_in (here c)) c.args.by (slot_in o.slot) c.requires.ready.whole.sound o.step.known c.args.sender g.message g.later o.is s.0 s.1 g.first (last c ∙ more)

goes : (c : After-index_mut-host) → c.is_last-last.result ≡ false → GoesOn (here c).cluster (past_in (here c)) (entry c) (opened c).step.known (known_after (here c).cluster (past_in (here c)) c.args.by (finish_events (here c).cluster c.args.by (past_in (here c))) c.requires.ready.whole.sound (opened c).step.known) c.args.sender
goes c more = (part c more).goes (finish_events (here c).cluster c.args.by (past_in (here c)))

gone-same : (host other : Host) (n k len size : ℕ) → host ≡ other → n ≡ k → len ≡ size → host_after_frame host n len ≡ host_after_frame other k size
gone-same host other n k len size p q r = rw (p, q, r) refl

after : (c : After-index_mut-host) → (more : c.is_last-last.result ≡ false) → host_after_frame c.index_mut-host.result.now c.message_at-message.result.address (length c.message_at-message.result.bytes.now) ≡ host_after_frame c.index-host.result.now (link_address (here c).cluster (goes c more).message.link) (length (goes c more).message.bytes)
after c more =
    let g = good c in
    let both : g.message ∷ g.later ≡ (goes c more).message ∷ (goes c more).later = sym g.first ∙ (goes c more).first in
    let one : g.message ≡ (goes c more).message = cc in
    let link = ap (λ (m : Message). m.link) (lent c) in
    gone-same c.index_mut-host.result.now c.index-host.result.now c.message_at-message.result.address (link_address (here c).cluster (goes c more).message.link) (length c.message_at-message.result.bytes.now) (length (goes c more).message.bytes) (same c)
    (c.message_at-message.ensures.address (inr (rw link (there c))) ∙ ap (link_address (here c).cluster) link ∙ ap (λ (m : Message). link_address (here c).cluster m.link) one)
    (size c ∙ ap (λ (m : Message). length m.bytes) one)

pub go_on-requires-clause-some : goal.go_on-requires-clause-some
go_on-requires-clause-some c = rw (size c.before) (good c.before).some

pub go_on-requires-clause-few : goal.go_on-requires-clause-few
go_on-requires-clause-few c = rw (size c.before) (good c.before).few

pub go_on-requires-clause-more : goal.go_on-requires-clause-more
go_on-requires-clause-more c = λ s is.
    let g = good c.before in
    let k = (opened c.before).step.known in
    more-frames (here c.before).cluster g.message g.later (k.states c.args.sender).count c.index_mut-host.result.now.sender s g.more (ap (λ (x : Host). x.sender) (same c.before) ∙ g.sender_is) is

pub returns : goal.returns
returns c =
    let b = c.before.before.before.before.before.before.before in
    let a = here b in
    let w = c.requires.ready.whole in
    let o = opened b in
    let host = c.index-host.result.now in
    let more = c.if-last-2.false in
    let m = (goes b more).message in
    let new : Host = host_after_frame host (link_address a.cluster m.link) (length m.bytes) in
    let es = finish_events a.cluster c.args.by (past_in a) in
    let k = known_after a.cluster (past_in a) c.args.by es w.sound o.step.known in
    record {
      told = c.one.ensures ∙ ap (λ (s : _). Seen s ∷ []) (seen_is b) ∙ sym (part b more).told;
      kept = rw (c.pass_slot-seen.ensures.hosts, c.go_on.ensures, after b more)
          (passed-keeps a c.args.by o c.pass_slot-seen.new.self (slice_set a.state.hosts.items c.args.sender new) w (passes b) (length-set a.state.hosts.items c.args.sender new)
          (going-hosts a.cluster a.capacity a.log (past_in a) (entry b) c.args.sender host a.state.hosts.items new.sender w.sound o.step.known k (goes b more) (good b).here w.kept.each_host));
      late = rw (c.pass_slot-seen.ensures.hosts, c.go_on.ensures, after b more)
          (going-late a.cluster (past_in a) (entry b) c.args.sender host a.state.bus c.pass_slot-seen.new.self.bus a.state.hosts.items w.sound o.step.known k (goes b more) (good b).here (λ y. refl) (bus_is b) w.late);
      heard = heard b;
      ready = passed-ready a c.args.by o c.pass_slot-seen.new.self w (passes b);
    }

-- == the message is whole
done : (c : After-index_mut-host) → c.is_last-last.result ≡ true → Done (here c).cluster (past_in (here c)) c.args.by (slot_in (opened c).slot) c.requires.ready.whole.sound (opened c).step.known c.args.sender
    (MessageEvent c.args.sender (receiver_of (good c).message.link.dir (good c).message.link.node) (good c).message.bytes ∷ Sent c.args.sender (suc (length ((opened c).step.known.states c.args.sender).done)) ∷ [])
done c is =
    let o = opened c in
    let g = good c in
    let s = carried-slot (past_in (here c)) c.args.sender false (slot_in o.slot) o.is c.requires.carried in
    finishes-whole (here c).cluster (past_in (here c)) c.args.by (slot_in o.slot) c.requires.ready.whole.sound o.step.known c.args.sender g.message g.later (MessageEvent c.args.sender (receiver_of g.message.link.dir g.message.link.node) g.message.bytes ∷ []) o.is s.0 s.1 g.first (last c ∙ is) (to_one (alone c))

pub overflow_add-number : goal.overflow_add-number
overflow_add-number c = let small = (own c.before).small in omega arith

pub settle-requires : goal.settle-requires
settle-requires c = let small = (own c.before).small in omega arith

three-events : (h : ℕ) (s s' : HowSeen) (to to' : ℕ) (bytes bytes' : List ℕ) (n n' : ℕ) → s ≡ s' → to ≡ to' → bytes ≡ bytes' → n ≡ n' → Seen s ∷ MessageEvent h to bytes ∷ Sent h n ∷ [] ≡ Seen s' ∷ MessageEvent h to' bytes' ∷ Sent h n' ∷ []
three-events h s s' to to' bytes bytes' n n' p q r t = rw (p, q, r, t) refl

pub returns-then-last-2 : goal.returns-then-last-2
returns-then-last-2 c =
    let b = c.before.before.before.before.before.before in
    let a = here b in
    let w = c.requires.ready.whole in
    let o = opened b in
    let host = c.index_mut-host.result.now in
    let is = c.if-last-2.true in
    let es = finish_events a.cluster c.args.by (past_in a) in
    let k = known_after a.cluster (past_in a) c.args.by es w.sound o.step.known in
    record {
      told = c.three_events.ensures
          ∙ three-events _ _ _ _ _ _ _ _ _ (seen_is b) (c.receiver-to.ensures ∙ ap (λ (m : Message). receiver_of m.link.dir m.link.node) (lent b)) (c.in_ok-bytes.ensures is ∙ ap (λ (m : Message). m.bytes) (lent b)) (own b).number
          ∙ sym (done b is).told;
      kept = rw (c.pass_slot-seen.ensures.hosts, c.settle.ensures)
          (passed-keeps a c.args.by o c.pass_slot-seen.new.self (slice_set a.state.hosts.items c.args.sender (host_after_settling host)) w (passes b) (length-set a.state.hosts.items c.args.sender (host_after_settling host))
          (settled-hosts a.cluster a.capacity a.log (past_in a) (entry b) c.args.sender host a.state.hosts.items w.sound o.step.known k ((done b is).settles es) (own b).here w.kept.each_host));
      late = rw (c.pass_slot-seen.ensures.hosts, c.settle.ensures)
          (settled-late a.cluster (past_in a) (entry b) c.args.sender host a.state.bus c.pass_slot-seen.new.self.bus a.state.hosts.items w.sound o.step.known k ((done b is).settles es) (own b).here (λ y. refl) (bus_is b) w.late);
      heard = heard b;
      ready = passed-ready a c.args.by o c.pass_slot-seen.new.self w (passes b);
    }
