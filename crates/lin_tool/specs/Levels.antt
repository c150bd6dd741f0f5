-- Which warnings are reported, and which of these are denied.
use Rattle.std.specs.Prelude.{ℕ, ◌&&◌, List, Bool, not, nat_le, filter, if◌then◌else◌, Result, Ok, Err}
use Rattle.std.specs.List.{list_any}
use Rattle.lin_field.specs.declared.field_check.Remark.{Remark}
use Rattle.lin_tool.specs.Statuses.{exit_status}
use Rattle.lin_tool.specs.declared.fault.Fault.{Fault}
use Rattle.lin_tool.specs.declared.levels.Levels.{Levels}
use Rattle.lin_tool.specs.declared.levels.NumberRange.{NumberRange}

-- one of these ranges has this number
abbrev pub is_in_ranges : List NumberRange → ℕ → Bool
is_in_ranges ranges n = list_any (λ r. nat_le r.first n && nat_le n r.last) ranges

-- a finding is reported in any case, a warning unless it is allowed
abbrev pub is_reported : List NumberRange → Remark → Bool
is_reported allowed r = not (r.is_warning && is_in_ranges allowed r.finding.number)

abbrev pub reported_remarks : List NumberRange → List Remark → List Remark
reported_remarks allowed rs = filter (is_reported allowed) rs

abbrev pub is_denied : List NumberRange → Remark → Bool
is_denied denied r = r.is_warning && is_in_ranges denied r.finding.number

-- the exit status of a run that ended so: 6 if it did all that was asked for, and a warning that is
-- reported is denied
abbrev pub level_status : Levels → List Remark → Result Unit Fault → ℕ
level_status l rs (Ok done) = if list_any (is_denied l.denied) (reported_remarks l.allowed rs) then 6 else 0
level_status l rs (Err fault) = exit_status fault
