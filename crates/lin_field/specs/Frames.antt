-- Frames of a text of the field: diagnostic ones are left out, and a size that is absent is that of
-- the identifier.
use Rattle.std.specs.Prelude.{ℕ, ◌/◌, ◌%◌, ◌==◌, ◌&&◌, ◌||◌, List, [], ◌++◌, map, Bool, not, Option, Some}
use Rattle.std.specs.Prelude.{None, is_some, codes, nat_lt, if◌then◌else◌}
use Rattle.std.specs.Option.{option_map_or}
use Rattle.std.specs.Str.{bytes_eq}
use Rattle.lin_cluster.specs.FindingsNames.{at_number, when}
use Rattle.lin_cluster.specs.declared.finding.Finding.{Finding}
use Rattle.lin_cluster.specs.declared.finding.FindingKind.TheVariants.{BadId, NoSize}
use Rattle.lin_parts.specs.declared.description.Frame.{Frame}
use Rattle.lin_parts.specs.declared.description.Name.{Name}
use Rattle.lin_parts.specs.declared.description.Number.{Number}
use Rattle.lin_field.specs.declared.loose.LooseFrame.{LooseFrame}

-- MasterReq with 60 and SlaveResp with 61 (LIN 2.2A, section 9.2.4.4)
abbrev pub is_diagnostic_frame : LooseFrame → Bool
is_diagnostic_frame f =
    (bytes_eq f.name.text (codes "MasterReq") && f.id.value == 60)
    || (bytes_eq f.name.text (codes "SlaveResp") && f.id.value == 61)

-- 2, 2, 4 or 8 bytes by bits 5 and 4 of the identifier (LIN 1.3, section 3.2)
abbrev pub usual_bytes : ℕ → ℕ
usual_bytes id =
    if nat_lt (id / 16 % 4) 2 then 2 else (if id / 16 % 4 == 2 then 4 else 8)

abbrev pub usual_size : Number → Number
usual_size id = record { value = usual_bytes id.value; line = id.line; column = id.column }

abbrev pub settled_frame : LooseFrame → Frame
settled_frame f = record {
  name = f.name;
  id = f.id;
  publisher = f.publisher;
  size = option_map_or (λ n. n) f.size (usual_size f.id);
  placed = f.placed;
}

abbrev pub kept_frame : LooseFrame → Option Frame
kept_frame f = if is_diagnostic_frame f then None else Some (settled_frame f)

-- the signals of a diagnostic frame, which is left out
abbrev pub diagnostic_signals : LooseFrame → List Name
diagnostic_signals f = if is_diagnostic_frame f then map (λ p. p.signal) f.placed else []

-- 3 BadId of one that is left out; 19 NoSize, but in LIN 1.x, where none has one
abbrev pub frame_warnings : Bool → LooseFrame → List Finding
frame_warnings is_old f =
    when (is_diagnostic_frame f) (at_number BadId f.id)
    ++ when (not (is_diagnostic_frame f) && (not is_old && not (is_some f.size)))
    (at_number NoSize f.id)
