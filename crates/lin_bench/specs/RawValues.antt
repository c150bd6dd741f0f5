-- The raw values that a signal can have, and those that a form may name.
use Rattle.std.specs.Prelude.{ℕ, ◌+◌, ◌==◌, ◌&&◌, ◌||◌, not, Bool, nat_lt, if◌then◌else◌, List, length, Result, Ok, Err}
use Rattle.lin_frame.specs.Bits.{fits_place}
use Rattle.lin_frame.specs.declared.value.Value.{Value}
use Rattle.lin_frame.specs.declared.value.Value.TheVariants.{Scalar}
use Rattle.lin_parts.specs.Cluster.{signal_of}
use Rattle.lin_parts.specs.Rules.{place_at}
use Rattle.lin_parts.specs.declared.parts.Parts.{Parts}
use Rattle.lin_bench.specs.Fields.{◌>>=◌, range_field, signal_field, value_field}
use Rattle.lin_bench.specs.declared.reason.Hint.TheVariants.{Nothing}
use Rattle.lin_bench.specs.declared.reason.Reason.{Reason}
use Rattle.lin_bench.specs.declared.reason.Reason.TheVariants.{EveryValue, NoValue}

-- whether a signal can have a value: a scalar of its bits, or an array of its length (LIN 2.2A,
-- section 9.2.3)
abbrev pub can_have : Parts → ℕ → Value → Bool
can_have c s v = fits_place (place_at 0 (signal_of c s)) v

-- whether a signal has no scalar from a number on: none has more than 16 bits
abbrev pub ends_before : Parts → ℕ → ℕ → Bool
ends_before c s n = nat_lt 65535 n || not (can_have c s (Scalar n))

-- whether a range from one scalar to another has each scalar of a signal
abbrev pub is_whole_range : Parts → ℕ → ℕ → ℕ → Bool
is_whole_range c s low high = low == 0 && ends_before c s (high + 1)

-- whether the cluster has the signal, and these are as many values as the scalars that it can have
abbrev pub has_all : Parts → ℕ → List Value → Bool
has_all c s vs =
    nat_lt s (length c.signals) && (can_have c s (Scalar 0) && ends_before c s (length vs))

-- a value that the signal with this field can have; a form with another can never hold
abbrev pub its_value : Parts → List ℕ → ℕ → List ℕ → Value → Result Value Reason
its_value c field s f v = if can_have c s v then Ok v else Err (NoValue f field Nothing)

abbrev pub raw_value : Parts → List ℕ → ℕ → List ℕ → Result Value Reason
raw_value c field s f = value_field c f >>= its_value c field s f

-- a range with a scalar of the signal, and without another: a form with every one can't fail
abbrev pub its_range : Parts → List ℕ → ℕ → List ℕ → ℕ × ℕ → Result (ℕ × ℕ) Reason
its_range c field s f range =
    if not (can_have c s (Scalar range.0)) then Err (NoValue f field Nothing)
    else if is_whole_range c s range.0 range.1 then Err (EveryValue f field)
    else Ok range

abbrev pub raw_range : Parts → List ℕ → ℕ → List ℕ → List ℕ × List ℕ → Result (ℕ × ℕ) Reason
raw_range c field s f ends = range_field c f ends.0 ends.1 >>= its_range c field s f

-- values that words say, of which the signal can have others
abbrev pub unless_all : Parts → ℕ → List ℕ → List ℕ → List Value → Result (List Value) Reason
unless_all c s field text vs = if has_all c s vs then Err (EveryValue text field) else Ok vs

-- a value that the signal with a field can have, its initial one; 0 if there is no such signal
abbrev pub initial_of : Parts → Result ℕ Reason → Value
initial_of c (Ok s) = (signal_of c s).initial
initial_of c (Err why) = Scalar 0

abbrev pub some_value : Parts → List ℕ → Value
some_value c field = initial_of c (signal_field c field)
