-- What the lines of rules say.
use Rattle.std.specs.Prelude.{◌≡◌, ℕ, ◌==◌, ◌+◌, ◌-◌, ◌*◌, ◌&&◌, ◌||◌, nat_le, nat_lt, if◌then◌else◌, true, false, Bool}
use Rattle.std.specs.Prelude.{List, [], ◌∷◌, ◌++◌, drop, find, length, reverse, slice_index, take}
use Rattle.std.specs.Prelude.{Option, Some, None, is_some, option_map, Result, Ok, Err, codes}
use Rattle.std.specs.List.{list_all, slice_split}
use Rattle.std.specs.Option.{option_map_or}
use Rattle.std.specs.Str.{bytes_eq}
use Rattle.hex.specs.Hex.{hex_digit_value}
use Rattle.lin_parts.specs.Cluster.{nad, nodes, signal_of}
use Rattle.lin_parts.specs.declared.parts.ErrorSignal.{ErrorSignal}
use Rattle.lin_parts.specs.declared.parts.Parts.{Parts}
use Rattle.lin_core.specs.declared.port.PortId.{PortId}
use Rattle.lin_core.specs.declared.port.PortId.TheVariants.{Bus}
use Rattle.lin_core.specs.declared.step.Step.{Step}
use Rattle.lin_core.specs.declared.step.Step.TheVariants.{Send, Write}
use Rattle.lin_log.specs.Language.{named_language}
use Rattle.lin_log.specs.Said.{is_port, number, port_step, step_form}
use Rattle.lin_log.specs.declared.reason.Reason.TheVariants.{NoBytes, NotBytes}
use Rattle.lin_bench.specs.Fields.{◌>>=◌, count_field, node_field, number_up_to, of_step, or_bad}
use Rattle.lin_bench.specs.Fields.{rows_and_time}
use Rattle.lin_bench.specs.declared.reason.Reason.{Reason}
use Rattle.lin_bench.specs.declared.reason.Reason.TheVariants.{Step as BadStep, WhenForm, NoResponder}
use Rattle.lin_bench.specs.declared.reason.Reason.TheVariants.{NoPattern, TimeoutsForm, EveryForm}
use Rattle.lin_bench.specs.declared.reason.Reason.TheVariants.{EveryStep, ErrorsForm, NoErrorSignal}
use Rattle.lin_bench.specs.declared.reason.Reason.TheVariants.{NoName, NoServices, ServicesForm, StateForm}
use Rattle.lin_bench.specs.declared.reason.Reason.TheVariants.{NodeForm, NotResponder}
use Rattle.lin_bench.specs.declared.reason.Reason.TheVariants.{LongAnswer, WideErrorSignal}
use Rattle.lin_bench.specs.declared.rules.RuleAnswer.{RuleAnswer}
use Rattle.lin_bench.specs.declared.rules.Part.{Part}
use Rattle.lin_bench.specs.declared.rules.Part.TheVariants.{Byte, Copied}
use Rattle.lin_log.specs.declared.pattern.Pattern.{Pattern}
use Rattle.lin_bench.specs.declared.rules.Rule.{Rule}
use Rattle.lin_bench.specs.declared.rules.Rule.TheVariants as rule
use Rattle.lin_bench.specs.declared.rules.RuleEnd.TheVariants as end

abbrev pub equals_word : List ℕ → List ℕ → Bool
equals_word word f = bytes_eq f word

abbrev pub is_only : List ℕ → List (List ℕ) → Bool
is_only word (f ∷ []) = bytes_eq f word
is_only word fs = false

-- the byte of two hexadecimal digits
abbrev pub hex_byte : ℕ → ℕ → Option ℕ
hex_byte x y =
    option_map_or
    (λ high. option_map (λ low. 16 * high + low) (hex_digit_value y)) (hex_digit_value x) None

-- what the signs of a row stand for, two and two
abbrev pub row_of_pairs : {A : Type 0} → (ℕ → ℕ → Option A) → List ℕ → Option (List A)
row_of_pairs pair [] = Some []
row_of_pairs pair (x ∷ []) = None
row_of_pairs pair (x ∷ y ∷ more) =
    option_map_or (λ one. option_map (λ others. one ∷ others) (row_of_pairs pair more)) (pair x y) None

-- what adding what a row stands for to others answers: whether it is one
abbrev pub AddsRow : {A : Type 0} → Option (List A) → List A → Bool → List A → Type 0
AddsRow None old is new = is ≡ false
AddsRow (Some more) old is new = (is ≡ true) × (new ≡ old ++ more)

-- what several fields spell together
abbrev pub all_parts : {A : Type 0} → (List ℕ → Option (List A)) → List (List ℕ) → Option (List A)
all_parts read [] = Some []
all_parts read (f ∷ fs) =
    option_map_or (λ some. option_map (λ others. some ++ others) (all_parts read fs)) (read f) None

-- ---- patterns
-- `..` stands for any byte
abbrev pub pattern_byte : ℕ → ℕ → Option (Option ℕ)
pattern_byte x y = if x == 46 && y == 46 then Some None else option_map Some (hex_byte x y)

-- whether a field ends with `*`, and what stands before it
abbrev pub has_star : List ℕ → Bool
has_star f = slice_index f (length f - 1) == 42

abbrev pub without_star : List ℕ → List ℕ
without_star f = if has_star f then take (length f - 1) f else f

abbrev pub last_field : List (List ℕ) → List ℕ
last_field [] = []
last_field (f ∷ []) = f
last_field (f ∷ g ∷ fs) = last_field (g ∷ fs)

abbrev pub fields_before : List (List ℕ) → List (List ℕ)
fields_before [] = []
fields_before (f ∷ []) = []
fields_before (f ∷ g ∷ fs) = f ∷ fields_before (g ∷ fs)

-- rows of one or more fields, of which the last one may end with `*`
abbrev pub pattern_of : List (List ℕ) → Option Pattern
pattern_of [] = None
pattern_of (f ∷ fs) =
    option_map
    (λ bytes. record { bytes = bytes; more = has_star (last_field (f ∷ fs)) })
    (all_parts (row_of_pairs pattern_byte) (fields_before (f ∷ fs) ++ without_star (last_field (f ∷ fs)) ∷ []))

abbrev pub pattern_fields : List (List ℕ) → Result Pattern Reason
pattern_fields fs = or_bad (pattern_of fs) (NoPattern fs)

-- ---- answers
abbrev pub hex_part : ℕ → ℕ → Option Part
hex_part x y = option_map Byte (hex_byte x y)

-- `$` and 1 to 4 digits, at most 4,094, or a row of hexadecimal digits
abbrev pub copied_part : List ℕ → Option (List Part)
copied_part f =
    if nat_le (length f) 5 then option_map (λ k. Copied k ∷ []) (number 4094 (drop 1 f)) else None

abbrev pub parts_field : List ℕ → Option (List Part)
parts_field f = if slice_index f 0 == 36 then copied_part f else row_of_pairs hex_part f

unfoldable pub parts_fields : List (List ℕ) → Result (List Part) Reason
parts_fields [] = Err (BadStep NoBytes)
parts_fields (f ∷ fs) = or_bad (all_parts parts_field (f ∷ fs)) (BadStep (NotBytes (f ∷ fs)))

-- the rows of an answer, and its wait where it ends with `after`, a number and `ms`
abbrev pub rows_and_wait : List (List ℕ) → List (List ℕ) × Option (List ℕ)
rows_and_wait fs = rows_and_time (codes "after") fs

abbrev pub wait_field : Option (List ℕ) → Result ℕ Reason
wait_field None = Ok 0
wait_field (Some n) = number_up_to 1000000 n

-- a message has at most 4,095 bytes (ISO 17987-2)
abbrev pub answer_parts : List (List ℕ) → Result (List Part) Reason
answer_parts fs =
    parts_fields fs >>= (λ parts. if nat_le (length parts) 4095 then Ok parts else Err LongAnswer)

abbrev pub answer_form : List (List ℕ) → Result RuleAnswer Reason
answer_form fs = do
  parts ← answer_parts (rows_and_wait fs).0
  wait ← wait_field (rows_and_wait fs).1
  Ok (record { parts = parts; wait_ms = wait })

abbrev pub answers_in_turn : List (List (List ℕ)) → Result (List RuleAnswer) Reason
answers_in_turn [] = Ok []
answers_in_turn (fs ∷ more) = do
  answer ← answer_form fs
  answers ← answers_in_turn more
  Ok (answer ∷ answers)

-- an answer, and each further one after `then`
abbrev pub answers_form : List (List ℕ) → Result (List RuleAnswer) Reason
answers_form fs = answers_in_turn (slice_split (equals_word (codes "then")) fs)

abbrev pub answers_of : Option (List (List ℕ)) → Result (List RuleAnswer) Reason
answers_of None = Ok []
answers_of (Some fs) = answers_form fs

-- ---- `when`
-- a responder that has an address
abbrev pub responder_field : Parts → List ℕ → Result ℕ Reason
responder_field c f =
    node_field c f >>= (λ node. if is_some (nad c node) then Ok node else Err (NoResponder f))

-- a name: a letter or `_`, then letters, digits and `_`
abbrev pub is_letter : ℕ → Bool
is_letter b = nat_le 65 b && nat_le b 90 || nat_le 97 b && nat_le b 122 || b == 95

abbrev pub is_digit : ℕ → Bool
is_digit b = nat_le 48 b && nat_le b 57

abbrev pub is_name_sign : ℕ → Bool
is_name_sign b = is_letter b || is_digit b

abbrev pub is_name : List ℕ → Bool
is_name f = is_letter (slice_index f 0) && list_all is_name_sign f

abbrev pub name_field : List ℕ → Result (List ℕ) Reason
name_field f = if is_name f then Ok f else Err (NoName f)

abbrev pub maybe_name : Option (List ℕ) → Result (Option (List ℕ)) Reason
maybe_name None = Ok None
maybe_name (Some f) = name_field f >>= (λ name. Ok (Some name))

-- of a node in a state, where one is named: a pattern, answers, and the state that is entered
abbrev pub when_of : Parts → List ℕ → Option (List ℕ) → List (List ℕ) → Result (List RuleAnswer) Reason
    → Option (List ℕ)
    → Result Rule Reason
when_of c n s pattern answers next = do
  node ← responder_field c n
  state ← maybe_name s
  fitting ← pattern_fields pattern
  all ← answers
  enter ← maybe_name next
  Ok (rule.When (record { node = node; state = state; pattern = fitting; answers = all; enter = enter }))

-- the fields before and after the first `answer`
abbrev pub cut_at_answer : List (List ℕ) → Option (List (List ℕ) × List (List ℕ))
cut_at_answer [] = None
cut_at_answer (f ∷ fs) =
    if bytes_eq f (codes "answer") then Some ([], fs)
    else option_map (λ (p : List (List ℕ) × List (List ℕ)). (f ∷ p.0, p.1)) (cut_at_answer fs)

-- the end of a rule, and of all rules of a node
abbrev pub when_end : Parts → List ℕ → Option (List ℕ) → List (List ℕ) → Result Rule Reason
when_end c n s pattern = do
  node ← responder_field c n
  state ← maybe_name s
  fitting ← pattern_fields pattern
  Ok (rule.End (end.When node state fitting))

abbrev pub whens_end : Parts → List ℕ → Result Rule Reason
whens_end c n = responder_field c n >>= (λ node. Ok (rule.End (end.WhensOf node)))

-- `in` and a state at the beginning, and `enter` and a state at the end
abbrev pub after_state : List (List ℕ) → Option (List ℕ) × List (List ℕ)
after_state (word ∷ s ∷ fs) =
    if bytes_eq word (codes "in") then (Some s, fs) else (None, word ∷ s ∷ fs)
after_state fs = (None, fs)

abbrev pub enter_from : List (List ℕ) → List (List ℕ) → List (List ℕ) × Option (List ℕ)
enter_from fs (s ∷ word ∷ before) =
    if bytes_eq word (codes "enter") then (reverse before, Some s) else (fs, None)
enter_from fs backwards = (fs, None)

abbrev pub before_enter : List (List ℕ) → List (List ℕ) × Option (List ℕ)
before_enter fs = enter_from fs (reverse fs)

-- `off` at the end, and no state is entered
abbrev pub ends_rule : List ℕ → Option (List ℕ) → Bool
ends_rule last None = bytes_eq last (codes "off")
ends_rule last (Some s) = false

-- a pattern of one field at least, and `silent`, or `off` alone
abbrev pub silent_or_end : Parts → List ℕ → Option (List ℕ) → List (List ℕ) → Option (List ℕ)
    → Result Rule Reason
silent_or_end c n s fs next =
    if nat_le (length fs) 1 then Err WhenForm
    else if bytes_eq (last_field fs) (codes "silent")
    then when_of c n s (fields_before fs) (answers_of None) next
    else if ends_rule (last_field fs) next then when_end c n s (fields_before fs)
    else Err WhenForm

-- or answers
abbrev pub when_by : Parts → List ℕ → Option (List ℕ) → List ℕ → List (List ℕ) → Option (List ℕ)
    → Option (List (List ℕ) × List (List ℕ))
    → Result Rule Reason
when_by c n s f fs next (Some p) = when_of c n s (f ∷ p.0) (answers_of (Some p.1)) next
when_by c n s f fs next None = silent_or_end c n s (f ∷ fs) next

abbrev pub when_entering : Parts → List ℕ → Option (List ℕ) → List (List ℕ) × Option (List ℕ)
    → Result Rule Reason
when_entering c n s ([], next) = Err WhenForm
when_entering c n s (f ∷ fs, next) = when_by c n s f fs next (cut_at_answer fs)

abbrev pub when_in : Parts → List ℕ → Option (List ℕ) × List (List ℕ) → Result Rule Reason
when_in c n (s, fs) = when_entering c n s (before_enter fs)

abbrev pub when_fields : Parts → List (List ℕ) → Result Rule Reason
when_fields c [] = Err WhenForm
when_fields c (n ∷ fs) =
    if is_only (codes "off") fs then whens_end c n else when_in c n (after_state fs)

unfoldable pub when_form : Parts → List (List ℕ) → Result Rule Reason
when_form c fs = if is_only (codes "off") fs then Ok rule.WhenOff else when_fields c fs

-- ---- `timeouts`: a limit of all responders, those of an LDF, which aren't known here, or that of one
abbrev pub timeouts_of_all : Parts → List ℕ → List ℕ → Result Rule Reason
timeouts_of_all c f word =
    if bytes_eq word (codes "ms") then count_field f >>= (λ n. Ok (rule.Timeouts n))
    else if bytes_eq word (codes "off")
    then responder_field c f >>= (λ node. Ok (rule.TimeoutsOf node None))
    else Err TimeoutsForm

abbrev pub timeouts_of_one : Parts → List ℕ → List ℕ → Result Rule Reason
timeouts_of_one c n f = do
  node ← responder_field c n
  limit ← count_field f
  Ok (rule.TimeoutsOf node (Some limit))

abbrev pub timeouts_fields : Parts → List (List ℕ) → Result Rule Reason
timeouts_fields c (f ∷ word ∷ []) = timeouts_of_all c f word
timeouts_fields c (n ∷ f ∷ unit ∷ []) =
    if bytes_eq unit (codes "ms") then timeouts_of_one c n f else Err TimeoutsForm
timeouts_fields c fs = Err TimeoutsForm

unfoldable pub timeouts_form : Parts → List (List ℕ) → Result Rule Reason
timeouts_form c fs =
    if is_only (codes "off") fs then Ok rule.TimeoutsOff
    else if is_only (codes "ldf") fs then Ok (rule.TimeoutsLdf [])
    else timeouts_fields c fs

-- ---- `every`
abbrev pub sends_or_writes : PortId × Step → Result (PortId × Step) Reason
sends_or_writes (by, Send from to message) = Ok (by, Send from to message)
sends_or_writes (by, Write node signal value) = Ok (by, Write node signal value)
sends_or_writes (by, step) = Err EveryStep

-- a send or a write, which the bus gives where no port stands before it
abbrev pub repeated_step : Parts → List ℕ → List (List ℕ) → Result (PortId × Step) Reason
repeated_step c word fs =
    if is_port word then of_step (port_step (named_language c) word fs) >>= sends_or_writes
    else if bytes_eq word (codes "send") || bytes_eq word (codes "write")
    then of_step (step_form (named_language c) word fs) >>= (λ step. Ok (Bus, step))
    else Err EveryStep

abbrev pub every_of : Parts → List ℕ → List ℕ → List (List ℕ) → Result Rule Reason
every_of c n word fs = do
  period ← count_field n
  step ← repeated_step c word fs
  Ok (rule.Every (record { period_ms = period; by = step.0; step = step.1 }))

abbrev pub every_fields : Parts → List (List ℕ) → Result Rule Reason
every_fields c (n ∷ unit ∷ word ∷ fs) =
    if bytes_eq unit (codes "ms") then every_of c n word fs else Err EveryForm
every_fields c fs = Err EveryForm

-- the end of all of them, or of each with this step by this port
abbrev pub every_off : Parts → List (List ℕ) → Result Rule Reason
every_off c [] = Ok rule.EveryOff
every_off c (word ∷ fs) = repeated_step c word fs >>= (λ s. Ok (rule.End (end.Every s.0 s.1)))

unfoldable pub every_form : Parts → List (List ℕ) → Result Rule Reason
every_form c [] = Err EveryForm
every_form c (f ∷ fs) =
    if bytes_eq f (codes "off") then every_off c fs else every_fields c (f ∷ fs)

-- ---- `response_errors`
-- a signal of more than one bit is a status of its own, such as that of SAE J2602: which of its
-- values tells an error isn't known
abbrev pub has_several_bits : Parts → ErrorSignal → Bool
has_several_bits c e = nat_lt 1 (signal_of c e.signal).size

abbrev pub why_wide : Parts → ErrorSignal → Result Rule Reason
why_wide c e = Err (WideErrorSignal (signal_of c e.signal).name (signal_of c e.signal).size)

-- on, where a responder has a signal by which it tells errors, and each has one bit (LIN 2.2A, 2.7.3)
abbrev pub errors_on : Parts → List ErrorSignal → Result Rule Reason
errors_on c [] = Err NoErrorSignal
errors_on c (e ∷ es) =
    option_map_or (why_wide c) (find (has_several_bits c) (e ∷ es)) (Ok (rule.Errors true))

unfoldable pub errors_form : Parts → List (List ℕ) → Result Rule Reason
errors_form c fs =
    if is_only (codes "on") fs then errors_on c c.errors
    else if is_only (codes "off") fs then Ok (rule.Errors false)
    else Err ErrorsForm

-- ---- `services`: on, where responders have an address
abbrev pub services_on : Parts → Result Rule Reason
services_on c = if length c.identities == 0 then Err NoServices else Ok (rule.Services true)

unfoldable pub services_form : Parts → List (List ℕ) → Result Rule Reason
services_form c fs =
    if is_only (codes "on") fs then services_on c
    else if is_only (codes "off") fs then Ok (rule.Services false)
    else Err ServicesForm

-- ---- `state`: a responder enters a state
abbrev pub state_of_node : Parts → List ℕ → List ℕ → Result Rule Reason
state_of_node c n f = do
  node ← responder_field c n
  name ← name_field f
  Ok (rule.State node name)

unfoldable pub state_form : Parts → List (List ℕ) → Result Rule Reason
state_form c (n ∷ f ∷ []) = state_of_node c n f
state_form c fs = Err StateForm

-- ---- `node`: a responder, with an address or without, has power or has none
abbrev pub any_responder_field : Parts → List ℕ → Result ℕ Reason
any_responder_field c f =
    node_field c f
    >>= (λ node. if nat_lt 0 node && nat_lt node (nodes c) then Ok node else Err (NotResponder f))

abbrev pub is_on_word : List ℕ → Option Bool
is_on_word word =
    if bytes_eq word (codes "on") then Some true
    else if bytes_eq word (codes "off") then Some false
    else None

abbrev pub power_of_node : Parts → List ℕ → Option Bool → Result Rule Reason
power_of_node c n None = Err NodeForm
power_of_node c n (Some is_on) = any_responder_field c n >>= (λ node. Ok (rule.Power node is_on))

unfoldable pub power_form : Parts → List (List ℕ) → Result Rule Reason
power_form c (n ∷ word ∷ []) = power_of_node c n (is_on_word word)
power_form c fs = Err NodeForm
