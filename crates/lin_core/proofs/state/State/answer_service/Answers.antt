use Rattle.std.proofs.Common.{refl, ◌≡◌, ◌<◌, ℕ, true, List, [], ◌∷◌, ◌++◌, length, map, ap, sym, ◌∙◌, subst}
use Rattle.std.specs.Prelude.{Option, Some, None, is_some}
use Rattle.std.specs.Option.{option_map_or}
use Rattle.lin_parts.specs.Cluster.{line_of}
use Rattle.lin_parts.specs.declared.parts.Entry.{Entry}
use Rattle.lin_core.specs.History.{open_slot}
use Rattle.lin_core.specs.Replies.{put_event}
use Rattle.lin_core.specs.Slots.{service_bytes, with_classic}
use Rattle.lin_core.specs.kept.Ready.{response_in}
use Rattle.lin_core.specs.kept.Slots.{slot_in, IsServed}
use Rattle.lin_core.specs.kept.State.{Keeps, Stage, stage}
use Rattle.lin_core.specs.declared.event.Event.{Event}
use Rattle.lin_core.specs.declared.event.Event.TheVariants.{Put}
use Rattle.lin_core.specs.declared.log.LogEntry.{LogEntry}
use Rattle.lin_core.specs.declared.ready.Response.{Response}
use Rattle.lin_core.specs.declared.slot.OpenSlot.{OpenSlot}
use Rattle.lin_core.specs.declared.slot.Put.{Put as KeptPut}
use Rattle.lin_core.specs.declared.step.Step.TheVariants.{Answer}
use Rattle.lin_core.proofs.kept.BusAndSenders.{answer-late}
use Rattle.lin_core.proofs.kept.Keeping.{done_entry, answer-keeps}
use Rattle.lin_core.proofs.kept.Receiving.{heard-same}
use Rattle.lin_core.proofs.slots.Opening.{put-room, with_put}
use Rattle.lin_core.proofs.steps.Answering.{DueSlot, due-slot, request-answers, service-told}
use Rattle.lin_core.proofs.steps.Making.{Allowed, allowed-ready, past_in}
use Rattle.lin_core.proofs.state.State.answer_service.Goals.{After-one}
use Rattle.lin_core.proofs.state.State.answer_service.Goals as goal

pub open-slot-requires : goal.open-slot-requires
open-slot-requires c =
    let a = stage c.args.setup.now c.args.log.now c.args.self.now in
    ap is_some (due-slot a c.args.by c.args.node c.requires.ready.whole (allowed-ready a c.args.by (Answer c.args.node) c.requires.ready)).at

pub header-header-requires : goal.header-header-requires
header-header-requires c =
    let a = stage c.args.setup.now c.args.log.now c.args.self.now in
    let s = due-slot a c.args.by c.args.node c.requires.ready.whole (allowed-ready a c.args.by (Answer c.args.node) c.requires.ready) in
    let served : IsServed a.cluster (line_of a.cluster s.slot.table s.slot.entry).entry s.slot.header = s.is_open.served (c.requires.service (slot_in s.slot) s.is) in
    let same : c.open-slot.result.now ≡ s.slot = (let t : Some c.open-slot.result.now ≡ Some s.slot = sym c.open-slot.ensures ∙ s.at in cc) in
    ap (λ (o : OpenSlot). is_some o.header) same ∙ ap is_some served.is

pub put-requires-clause-open : goal.put-requires-clause-open
put-requires-clause-open c =
    let a = stage c.args.setup.now c.args.log.now c.args.self.now in
    ap is_some (due-slot a c.args.by c.args.node c.requires.ready.whole (allowed-ready a c.args.by (Answer c.args.node) c.requires.ready)).at

pub put-requires-clause-room : goal.put-requires-clause-room
put-requires-clause-room c = λ kept is.
    let a = stage c.args.setup.now c.args.log.now c.args.self.now in
    let s = due-slot a c.args.by c.args.node c.requires.ready.whole (allowed-ready a c.args.by (Answer c.args.node) c.requires.ready) in
    let same : s.slot ≡ kept = (let t : Some s.slot ≡ Some kept = sym s.at ∙ is in cc) in
    subst (λ (k : OpenSlot). length k.puts.items < 16) same (put-room a.cluster s.slot (record { node = c.args.node; answer = []; cleared = None }) s.is_open s.free)

abbrev here : After-one → Stage
here c = stage c.args.setup.now c.args.log.now c.args.self.now

allowed : (c : After-one) → Allowed (here c) c.args.by (Answer c.args.node)
allowed c = allowed-ready (here c) c.args.by (Answer c.args.node) c.requires.ready

at : (c : After-one) → DueSlot (here c) c.args.node
at c = due-slot (here c) c.args.by c.args.node c.requires.ready.whole (allowed c)

service : (c : After-one) → (at c).slot.service ≡ true
service c = c.requires.service (slot_in (at c).slot) (at c).is

served : (c : After-one) → IsServed (here c).cluster (line_of (here c).cluster (at c).slot.table (at c).slot.entry).entry (at c).slot.header
served c = (at c).is_open.served (service c)

same : (c : After-one) → c.open-slot.result.now ≡ (at c).slot
same c = let t : Some c.open-slot.result.now ≡ Some (at c).slot = sym c.open-slot.ensures ∙ (at c).at in cc

abbrev events : (c : After-one) → List Event
events c = option_map_or (put_event (here c).cluster (past_in (here c)) c.args.node) (open_slot (past_in (here c))) []

abbrev entry : (c : After-one) → LogEntry
entry c = done_entry c.args.by (Answer c.args.node) (events c)

abbrev put_of : (c : After-one) → KeptPut
put_of c = record { node = c.args.node; answer = c.answer-frame.result; cleared = None }

told : (c : After-one) → Put c.args.node c.answer-frame.result ∷ [] ≡ events c
told c =
    let a = here c in
    let s = (at c).slot in
    let kind : c.open-slot.result.now.kind ≡ (line_of a.cluster s.table s.entry).entry = ap (λ (o : OpenSlot). o.kind) (same c) ∙ (at c).is_open.kind_is in
    let bytes : c.service_bytes-data.result ≡ service_bytes (map response_in a.state.ready.items) (line_of a.cluster s.table s.entry).entry c.args.node
    = c.service_bytes-data.ensures ∙ ap (λ (rs : List Response). service_bytes (map response_in rs) c.open-slot.result.now.kind c.args.node) c.as_slice.ensures.value
    ∙ ap (λ (k : Entry). service_bytes (map response_in a.state.ready.items) k c.args.node) kind in
    service-told a.cluster (past_in a) s (served c).pid c.args.node c.answer-frame.result (at c).is (served c).is (service c)
    (c.answer-frame.ensures ∙ ap with_classic (bytes ∙ ap (λ (rs : List (ℕ × List ℕ)). service_bytes rs (line_of a.cluster s.table s.entry).entry c.args.node) c.requires.ready.whole.ready.0))

kept : (c : After-one) → Keeps (here c).cluster (here c).opening (here c).capacity ((here c).log ++ entry c ∷ []) (entry c ∷ past_in (here c)) c.put.new.self (here c).state.time (here c).state.walker (here c).state.hosts.items (here c).state.signals
kept c =
    let a = here c in
    let w = c.requires.ready.whole in
    let s = at c in
    let put : c.put.new.self ≡ Some (with_put s.slot (put_of c)) = c.put.ensures s.slot s.at in
    let keeps : Keeps a.cluster a.opening a.capacity a.log (past_in a) (Some s.slot) a.state.time a.state.walker a.state.hosts.items a.state.signals
    = subst (λ (o : Option OpenSlot). Keeps a.cluster a.opening a.capacity a.log (past_in a) o a.state.time a.state.walker a.state.hosts.items a.state.signals) s.at w.kept in
    rw put
    (answer-keeps a.cluster a.opening a.capacity a.log (past_in a) s.slot a.state.time a.state.walker a.state.hosts.items a.state.signals a.state.signals c.args.by c.args.node (put_of c) w.sound (allowed c).known (allowed c).allowed refl (told c)
    (request-answers a.cluster (past_in a) s.slot (put_of c) (served c).pid a.state.signals (served c).is ((served c).none (served c).pid c.args.node) refl keeps.signals_are) keeps)

pub returns : goal.returns
returns c =
    let a = here c in
    let w = c.requires.ready.whole in
    record {
      told = c.one.ensures ∙ told c;
      kept = kept c;
      late = answer-late a.cluster a.capacity (past_in a) c.args.by c.args.node a.state.bus a.state.hosts.items w.sound (allowed c).known (allowed c).allowed w.late;
      heard = heard-same a.cluster (past_in a) (entry c ∷ past_in a) a.state.receivers.items (λ l i. refl) w.heard;
      ready = w.ready;
    }
