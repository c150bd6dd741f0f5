use Rattle.std.proofs.Common.{refl, ◌≡◌, ℕ, List, ◌∷◌, ap, length, map, ◌∙◌}
use Rattle.std.specs.Prelude.{not, Bool, ◌||◌, filter, if◌then◌else◌, nat_lt}
use Rattle.lin_parts.specs.Cluster.{line_of, nodes}
use Rattle.lin_frame.specs.Words.{numbers}
use Rattle.lin_schedule.specs.Due.{due_for}
use Rattle.lin_core.specs.kept.Slots.{is_due_of, opening_slot_kept, served_by}
use Rattle.lin_core.specs.kept.Ready.{node_in}
use Rattle.lin_core.specs.declared.ready.Response.{Response}
use Rattle.lin_core.specs.kept.State.{done_of, stage}
use Rattle.lin_core.specs.declared.step.Step.TheVariants.{Open}
use Rattle.lin_core.proofs.kept.Keeping.{open-keeps, opening-is, Opens}
use Rattle.lin_core.proofs.kept.BusAndSenders.{open-late}
use Rattle.lin_core.proofs.steps.Making.{allowed-ready, opens-inside, past_in}
use Rattle.lin_core.proofs.steps.Coming.{due-there}
use Rattle.lin_core.proofs.slots.Selected.{responder-inside}
use Rattle.lin_core.proofs.kept.Receiving.{heard-same}
use Rattle.lin_core.specs.declared.slot.OpenSlot.{OpenSlot}
use Rattle.lin_core.proofs.state.State.open.Goals as goal

pub header_of-header-requires : goal.header_of-header-requires
header_of-header-requires c = due-there (stage c.args.setup.now c.args.log.now c.args.self.now) c.as_slice-pending.result.now c.due-due.result c.requires.ready.whole c.due-due.ensures.entry

pub slot_nodes-nodes-requires-clause-there : goal.slot_nodes-nodes-requires-clause-there
slot_nodes-nodes-requires-clause-there c = due-there (stage c.args.setup.now c.args.log.now c.args.self.now) c.as_slice-pending.result.now c.due-due.result c.requires.ready.whole c.due-due.ensures.entry

pub returns : goal.returns
returns c =
    let a = stage c.args.setup.now c.args.log.now c.args.self.now in
    let w = c.requires.ready.whole in
    let s = allowed-ready a c.args.by Open c.requires.ready in
    let flags : c.as_slice-pending.result.now ≡ a.state.signals.pending.items = c.as_slice-pending.ensures.value in
    let due : c.due-due.result ≡ due_for a.cluster a.state.signals.pending.items (line_of a.cluster a.state.walker.place.0 a.state.walker.place.1).entry
    = c.due-due.ensures.entry ∙ ap (λ (bs : List Bool). due_for a.cluster bs (line_of a.cluster a.state.walker.place.0 a.state.walker.place.1).entry) flags in
    let ready : c.as_slice-ready.result.now ≡ a.state.ready.items = c.as_slice-ready.ensures.value in
    let served : List ℕ = served_by c.due-due.result (map node_in a.state.ready.items) in
    let slot : OpenSlot = opening_slot_kept a.cluster c.place-place.result c.header_of-header.result c.is_service-service.result c.slot_nodes-nodes.result.items in
    let service : c.is_service-service.result ≡ nat_lt 0 (length served) = c.is_service-service.ensures ∙ ap (λ (rs : List Response). nat_lt 0 (length (served_by c.due-due.result (map node_in rs)))) ready in
    let plain : List Bool → List ℕ = λ bs. filter (is_due_of a.cluster bs c.has_request-requests.result c.responder-responder.result c.due-due.result) (numbers (nodes a.cluster)) in
    let nodes : c.slot_nodes-nodes.result.items ≡ (if nat_lt 0 (length served) then served else plain a.state.signals.pending.items)
    = c.slot_nodes-nodes.ensures.due
    ∙ ap (λ (rs : List Response). if nat_lt 0 (length (served_by c.due-due.result (map node_in rs))) then served_by c.due-due.result (map node_in rs) else plain c.as_slice-pending.result.now) ready
    ∙ ap (λ (bs : List Bool). if nat_lt 0 (length served) then served else plain bs) flags in
    let opens : Opens a.cluster a.opening (past_in a) slot
    = opens-inside a c.args.by c.index.result.now slot served c.has_request-requests.result c.responder-responder.result c.place-place.result c.due-due.result w s c.index.ensures
    (c.has_request-requests.ensures ∙ ap (λ (b : Bool). not b || a.state.bus.asked) c.is_empty-waits.ensures)
    (responder-inside a c.as_slice.result.now c.responder-responder.result w c.as_slice.ensures.value c.responder-responder.ensures.none c.responder-responder.ensures.some) c.place-place.ensures.value due refl
    (rw (c.header_of-header.ensures, service, nodes) refl)
    refl c.slot_nodes-nodes.ensures.few refl refl refl in
    record {
      told = (rw c.as_slice-2.ensures.value at c.in_ok-events.ensures) ∙ opening-is a.cluster a.opening (past_in a) slot opens;
      kept = rw c.begin.ensures (open-keeps a.cluster a.opening a.capacity a.log (past_in a) a.state.slot slot a.state.time a.state.walker a.state.hosts.items a.state.signals c.args.by w.sound s.known s.allowed opens w.kept);
      late = open-late a.cluster a.opening a.capacity (past_in a) c.args.by a.state.bus a.state.hosts.items w.sound s.known s.allowed w.late;
      heard = heard-same a.cluster (past_in a) (done_of a c.args.by Open ∷ past_in a) a.state.receivers.items (λ l i. refl) w.heard;
      ready = w.ready;
    }
