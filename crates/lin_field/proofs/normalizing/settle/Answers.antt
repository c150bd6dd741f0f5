use Rattle.std.proofs.Common.{map, ap, ◌∙◌, append_assoc, sym}
use Rattle.std.specs.List.{flat_map}
use Rattle.lin_field.specs.Attributes.{attribute_warnings}
use Rattle.lin_field.specs.Settled.{elsewhere}
use Rattle.lin_field.specs.Signals.{signal_warnings}
use Rattle.lin_field.specs.Tables.{settled_event}
use Rattle.lin_field.proofs.SettledSteps.{all-warned, same-untimed}
use Rattle.lin_field.proofs.normalizing.settle.Goals as goal

pub returns-clause-warnings : goal.returns-clause-warnings
returns-clause-warnings c =
    let l = c.args.text.loose in
    let of_nodes =
    c.in_ok-signals.ensures.warned
    ∙ sym (append_assoc c.in_ok-warnings.warnings.items (flat_map (signal_warnings l.nodes) l.signals) (attribute_warnings (elsewhere l) l.attributes)) in
    all-warned l c.args.text.marks c.as_slice-2.result.now c.is_old.result c.tells_tables-is_told.result c.as_slice-3.result.now _ c.in_ok-tables.tables.items _ _ _ _ _ _
    c.in_ok-warnings.ensures c.as_slice-2.ensures of_nodes c.in_ok-frames.ensures.warned c.is_old.ensures
    c.in_ok-events.ensures.warned c.tells_tables-is_told.ensures c.as_slice-3.ensures c.in_ok-tables.ensures.warned c.in_ok-description.ensures.warned
    (same-untimed l c.in_ok-signals.signals c.in_ok-frames.frames c.in_ok-events.events c.in_ok-signals.attributes c.new-2.result
    c.in_ok-signals.ensures.signals c.in_ok-frames.ensures.settled (c.in_ok-events.ensures.settled ∙ ap (λ ts. map (settled_event ts) l.events) c.as_slice-3.ensures) c.in_ok-signals.ensures.attributes (c.new-2.ensures ∙ c.new.ensures.items))
    c.in_ok-tables.ensures.kept
