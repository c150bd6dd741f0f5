use Rattle.std.proofs.Common.{◌∙◌, List, ap, map, sym}
use Rattle.std.specs.Prelude.{filter, not}
use Rattle.lin_core.specs.Slots.{has_put}
use Rattle.lin_core.specs.kept.Ready.{response_in}
use Rattle.lin_core.specs.kept.Slots.{slot_in}
use Rattle.lin_core.specs.declared.ready.Response.{Response}
use Rattle.lin_core.proofs.kept.Ready.{after-response, unsent-in}
use Rattle.lin_core.proofs.ready.pass_slot.Goals as goal

pub returns-then-is_slave_response-clause-ready : goal.returns-then-is_slave_response-clause-ready
returns-then-is_slave_response-clause-ready c =
    let s = slot_in c.args.slot.now in
    ap (map response_in) (c.unsent.ensures.left ∙ ap (λ (rs : List Response). filter (λ (r : Response). not (has_put s r.node)) rs) c.as_slice.ensures.value)
    ∙ unsent-in s c.args.ready.now.items
    ∙ sym (after-response c.args.cluster.now s (map response_in c.args.ready.now.items) (sym c.request_byte.ensures ∙ c.in-None.is) (sym c.is_slave_response.ensures ∙ c.if-is_slave_response.true))
