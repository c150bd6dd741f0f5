-- What a line says to an interactive session: a question, a mark, a parameter, or what a line of a bench
-- script does.
use Rattle.std.specs.Prelude.{ℕ, if◌then◌else◌, List, [], ◌∷◌, Option, Some, None, Result, Ok, Err}
use Rattle.std.specs.Prelude.{codes}
use Rattle.std.specs.Str.{bytes_eq}
use Rattle.lin_parts.specs.declared.parts.Parts.{Parts}
use Rattle.lin_bench.specs.Fields.{line_fields}
use Rattle.lin_bench.specs.Resolved.{parameter_said, replaced_line}
use Rattle.lin_values.specs.Coded.{CodedData}
use Rattle.lin_bench.specs.Words.{read_worded_line}
use Rattle.lin_bench.specs.declared.line.ScriptLine.{ScriptLine}
use Rattle.lin_bench.specs.declared.line.ScriptLine.TheVariants.{Test}
use Rattle.lin_bench.specs.declared.parameters.Parameter.{Parameter}
use Rattle.lin_bench.specs.declared.reason.Reason.{Reason as ScriptReason}
use Rattle.lin_bench.specs.declared.reason.Reason.TheVariants.{ForScripts}
use Rattle.lin_bench.specs.declared.rules.NodeLimits.{NodeLimits}
use Rattle.lin_live.specs.Asked.{◌>>=◌, question, script_field}
use Rattle.lin_live.specs.Marking.{back_name, mark_name}
use Rattle.lin_live.specs.declared.question.Question.{Question}
use Rattle.lin_live.specs.declared.reason.Reason.{Reason}
use Rattle.lin_live.specs.declared.reason.Reason.TheVariants.{Script}

-- a question, a mark that is set or gone back to, by its name, a parameter that is set, or a line of a bench
-- script
pub data Heard : Type 0 where
  Ask : (asked : Question) → Heard
  SetMark : (name : List ℕ) → Heard
  GoBack : (name : List ℕ) → Heard
  SetParameter : (parameter : Parameter) → Heard
  Make : (line : ScriptLine) → Heard

-- a test is for scripts
abbrev pub of_line : ScriptLine → Result (Option Heard) Reason
of_line (Test name) = Err (Script (ForScripts (codes "test")))
of_line line = Ok (Some (Make line))

abbrev pub of_script : Result (Option ScriptLine) ScriptReason → Result (Option Heard) Reason
of_script (Ok None) = Ok None
of_script (Ok (Some line)) = of_line line
of_script (Err why) = Err (Script why)

-- what is asked, which mark is set, which one is gone back to, and which parameter is set, by the fields after
-- the first one
abbrev pub question_heard : Parts → List (List ℕ) → Result (Option Heard) Reason
question_heard c fs = question c fs >>= (λ asked. Ok (Some (Ask asked)))

abbrev pub mark_heard : List (List ℕ) → Result (Option Heard) Reason
mark_heard fs = mark_name fs >>= (λ name. Ok (Some (SetMark name)))

abbrev pub back_heard : List (List ℕ) → Result (Option Heard) Reason
back_heard fs = back_name fs >>= (λ name. Ok (Some (GoBack name)))

abbrev pub set_heard : List (List ℕ) → Result (Option Heard) Reason
set_heard fs = script_field (parameter_said fs) >>= (λ p. Ok (Some (SetParameter p)))

-- by the first field, what is asked by those after a `?`, the mark that is set or gone back to, the parameter
-- that is set, or what a bench script says
abbrev pub heard_in : Parts → Option CodedData → List NodeLimits → List ℕ → List (List ℕ)
    → Result (Option Heard) Reason
heard_in c k limits line [] = of_script (read_worded_line c k limits line)
heard_in c k limits line (word ∷ fs) =
    if bytes_eq word (codes "?") then question_heard c fs
    else if bytes_eq word (codes "mark") then mark_heard fs
    else if bytes_eq word (codes "back") then back_heard fs
    else if bytes_eq word (codes "set") then set_heard fs
    else of_script (read_worded_line c k limits line)

-- what a line says, nothing where it has no field or begins with `>`
abbrev pub text_heard : Parts → Option CodedData → List NodeLimits → List ℕ → Result (Option Heard) Reason
text_heard c k limits line = heard_in c k limits line (line_fields line)

-- the same after parameters were replaced in it
abbrev pub line_heard : Parts → Option CodedData → List NodeLimits → List Parameter → List ℕ → Result (Option Heard) Reason
line_heard c k limits sets line = script_field (replaced_line sets line) >>= text_heard c k limits
