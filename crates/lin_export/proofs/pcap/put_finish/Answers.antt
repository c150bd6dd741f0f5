use Rattle.std.proofs.Common.{◌+◌, sym, ap, ◌∙◌}
use Rattle.lin_parts.specs.declared.parts.Line.{Line}
use Rattle.lin_text.proofs.Growing.{grows-more, same-growth}
use Rattle.lin_export.specs.Open.{tracked_slot}
use Rattle.lin_export.proofs.Rows.{finish-asleep}
use Rattle.lin_export.proofs.pcap.put_finish.Goals as goal

pub returns : goal.returns
returns g c =
    same-growth
    (finish-asleep c.args.cluster.now c.args.at (c.args.at + c.from.result) (tracked_slot c.args.slot.now) (sym c.is_sleep.ensures ∙ c.if-not-is_sleep.false)
    (ap (λ n. c.args.at + n) (c.from.ensures ∙ ap (λ (l : Line). l.delay_us) c.line.ensures.line)))
    (grows-more c.put_slot.ensures c.put_bus_event.ensures)
