-- What a script says: the language of numbers, without the reasons.
use Rattle.std.specs.Prelude.{ℕ, List, Option, Result, Ok, Err}
use Rattle.std.specs.Result.{result_ok}
use Rattle.lin_core.specs.declared.port.PortId.{PortId}
use Rattle.lin_core.specs.declared.step.Step.{Step}
use Rattle.lin_log.specs.Language.{plain}
use Rattle.lin_log.specs.Said.{Steps, text_says}

abbrev pub without_reason : Steps → Result (List (PortId × Step)) ℕ
without_reason (Ok steps) = Ok steps
without_reason (Err bad) = Err bad.0

-- the steps of a script, or the number of its first line in no form, counted from 1 over all lines
unfoldable pub script : List ℕ → Result (List (PortId × Step)) ℕ
script bytes = without_reason (text_says plain bytes)

-- the steps of a script, where each of its lines is in a form
abbrev pub steps : List ℕ → Option (List (PortId × Step))
steps bytes = result_ok (script bytes)
