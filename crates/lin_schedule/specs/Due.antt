-- What is due in a slot.
use Rattle.std.specs.Prelude.{ℕ, Bool, false, List, slice_index_or, find}
use Rattle.lin_parts.specs.Cluster.{sporadic_of}
use Rattle.lin_parts.specs.declared.parts.Parts.{Parts}
use Rattle.lin_parts.specs.declared.parts.Entry.{Entry}
use Rattle.lin_parts.specs.declared.parts.Entry.TheVariants.{Frame, Sporadic, Event}
use Rattle.lin_parts.specs.declared.parts.Entry.TheVariants.{MasterReq}
use Rattle.lin_parts.specs.declared.parts.Entry.TheVariants.{SlaveResp, Fixed, Quiet}
use Rattle.lin_schedule.specs.Schedule.{Move, due_line, standing}
use Rattle.lin_schedule.specs.declared.due.Due.{Due}
use Rattle.lin_schedule.specs.declared.due.Due.TheVariants.{
  Frame as FrameDue,
  Sporadic as SporadicDue,
  Event as EventDue,
  MasterReq as MasterReqDue,
  SlaveResp as SlaveRespDue,
  Fixed as FixedDue,
  Quiet as QuietDue,
}

-- what a schedule entry asks for, where these frames are pending: of a sporadic frame the first
-- pending one in its list
abbrev pub due_for : Parts → List Bool → Entry → Due
due_for c pending (Frame f) = FrameDue f
due_for c pending (Sporadic k) =
    SporadicDue (find (λ f. slice_index_or pending f false) (sporadic_of c k))
due_for c pending (Event e) = EventDue e
due_for c pending MasterReq = MasterReqDue
due_for c pending SlaveResp = SlaveRespDue
due_for c pending (Fixed b) = FixedDue
due_for c pending Quiet = QuietDue

-- what is due where the schedule opened with this table, after these moves
abbrev pub due_after : Parts → List Bool → ℕ → List Move → Due
due_after c pending opening moves =
    due_for c pending (due_line c (standing c opening moves)).entry
