use Rattle.std.proofs.Common.{sym}
use Rattle.lin_text.proofs.Growing.{grows-more}
use Rattle.lin_field.proofs.plain.Plain.put_frames_part.Goals as goal

pub returns : goal.returns
returns g c =
    let i = c.self.invariant in
    let parts = c.as_slice-parts.ensures.value in
    rw (sym c.self.view_is)
    (grows-more (rw c.signals.ensures at c.put_signals.ensures)
    (grows-more (rw (parts, i.0) at c.put_sections.ensures)
    (grows-more (rw c.frames.ensures at c.put_frames.ensures)
    (grows-more (rw c.sporadic.ensures at c.put_sporadic_frames.ensures)
    (grows-more (rw (c.events.ensures, c.as_slice.ensures.value, i.4) at c.put_events.ensures)
    (rw (parts, i.0) at c.put_sections-2.ensures))))))
