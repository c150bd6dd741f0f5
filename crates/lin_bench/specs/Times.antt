-- Times in milliseconds with decimal places.
use Rattle.std.specs.Prelude.{ℕ, ◌+◌, ◌*◌, ◌/◌, ◌%◌, ◌==◌, if◌then◌else◌, nat_le, List, [], ◌∷◌, ◌++◌}
use Rattle.std.specs.Prelude.{Option, Some, None, Result, drop, length, option_and_then, option_map, position, take}
use Rattle.std.specs.Fmt.{decimal}
use Rattle.lin_log.specs.Said.{number}
use Rattle.lin_bench.specs.Fields.{or_bad}
use Rattle.lin_bench.specs.declared.expected.SaidTime.{SaidTime}
use Rattle.lin_bench.specs.declared.reason.Reason.{Reason}
use Rattle.lin_bench.specs.declared.reason.Reason.TheVariants.{NoTime}

-- the microseconds that one to three digits after the point of milliseconds spell
abbrev pub thousandths_of : ℕ → ℕ → Option ℕ
thousandths_of places count =
    if places == 1 then Some (100 * count) else if places == 2 then Some (10 * count)
    else if places == 3 then Some count else None

abbrev pub thousandths : List ℕ → Option ℕ
thousandths digits = option_and_then (thousandths_of (length digits)) (number 999 digits)

-- at most 1,000,000 milliseconds
abbrev pub up_to_limit : ℕ → Option ℕ
up_to_limit us = if nat_le us 1000000000 then Some us else None

-- whole milliseconds, or those and the digits after their point
abbrev pub whole_time : List ℕ → Option ℕ
whole_time f = option_and_then (λ whole. up_to_limit (1000 * whole)) (number 1000000 f)

abbrev pub time_with : List ℕ → List ℕ → Option ℕ
time_with f digits =
    option_and_then
    (λ whole. option_and_then (λ us. up_to_limit (1000 * whole + us)) (thousandths digits))
    (number 1000000 f)

abbrev pub with_point : List ℕ → Option ℕ → Option ℕ
with_point f None = whole_time f
with_point f (Some at) = time_with (take at f) (drop (at + 1) f)

abbrev pub microseconds : List ℕ → Option ℕ
microseconds f = with_point f (position (λ b. b == 46) f)

-- a time in milliseconds, without zeros at its end
abbrev pub thousandth_text : ℕ → List ℕ
thousandth_text n = if n == 0 then [] else decimal n

abbrev pub hundredths_text : ℕ → List ℕ
hundredths_text n = if n == 0 then [] else decimal (n / 10) ++ thousandth_text (n % 10)

abbrev pub point_text : ℕ → List ℕ
point_text n = if n == 0 then [] else 46 ∷ (decimal (n / 100) ++ hundredths_text (n % 100))

abbrev pub time_text : ℕ → List ℕ
time_text us = decimal (us / 1000) ++ point_text (us % 1000)

abbrev pub said_time : ℕ → SaidTime
said_time us = record { us = us; text = time_text us }

abbrev pub time_field : List ℕ → Result SaidTime Reason
time_field f = or_bad (option_map said_time (microseconds f)) (NoTime f)
