use Rattle.std.proofs.Common.{List, ℕ, flat_map, take}
use Rattle.std.specs.Prelude.{zip}
use Rattle.lin_parts.specs.declared.description.EventFrame.{EventFrame}
use Rattle.lin_text.specs.Written.{Grows}
use Rattle.lin_field.specs.Plain.{event_text_by}
use Rattle.lin_field.proofs.plain.declaration_lines.put_all_events.Given as goal

abbrev pub invariant-loop-number : goal.invariant-loop-number
invariant-loop-number g l =
    Grows g.W.Write.contents l.initial.out l.out (flat_map (λ (p : EventFrame × List ℕ). event_text_by p.0 p.1) (take l.number (zip l.events l.tables)))
