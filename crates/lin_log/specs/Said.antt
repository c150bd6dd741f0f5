-- What a line says in a language: the one grammar of steps.
use Rattle.std.specs.Prelude.{◌≡◌, ℕ, ◌==◌, ◌||◌, ◌&&◌, ◌+◌, ◌*◌, ◌++◌, Bool, not, true, false, nat_le, nat_lt}
use Rattle.std.specs.Prelude.{if◌then◌else◌, List, [], ◌∷◌, drop, filter, length, slice_index}
use Rattle.std.specs.Prelude.{Option, Some, None, Result, Ok, Err, codes, find, option_map, ◌-◌}
use Rattle.std.specs.List.{slice_split, take_while}
use Rattle.std.specs.Option.{option_map_or}
use Rattle.std.specs.Result.{result_ok}
use Rattle.std.specs.Str.{bytes_eq}
use Rattle.std.specs.Str.Lines.{strip_carriage_return}
use Rattle.hex.specs.Hex.{decode_of, hex_digit_value}
use Rattle.lin_frame.specs.declared.value.Value.{Value}
use Rattle.lin_frame.specs.declared.value.Value.TheVariants.{Scalar, Bytes}
use Rattle.lin_core.specs.declared.port.PortId.{PortId}
use Rattle.lin_core.specs.declared.port.PortId.TheVariants.{Bus, Host, Node}
use Rattle.lin_core.specs.declared.step.Step.{Step}
use Rattle.lin_core.specs.declared.step.Step.TheVariants.{Send, Write, Open, Answer, Leave, Hurt}
use Rattle.lin_core.specs.declared.step.Step.TheVariants.{Finish, Timeout, Switch, AskSleep, Wake}
use Rattle.lin_core.specs.declared.step.Step.TheVariants.{Close}
use Rattle.lin_core.specs.declared.link.Direction.{Direction}
use Rattle.lin_core.specs.Tables.{directions, direction_word}
use Rattle.lin_log.specs.Language.{Called, Language, number_named}
use Rattle.lin_log.specs.declared.reason.Reason.{Reason}
use Rattle.lin_log.specs.declared.reason.Reason.TheVariants.{NoPort, NoStep, UnknownStep, NoNode}
use Rattle.lin_log.specs.declared.reason.Reason.TheVariants.{NoSignal, NoTable, NoNumber}
use Rattle.lin_log.specs.declared.reason.Reason.TheVariants.{NoBytes, NotBytes, TooManyBytes}
use Rattle.lin_log.specs.declared.reason.Reason.TheVariants.{Takes, SendForm, WriteForm}
use Rattle.lin_log.specs.declared.reason.Reason.TheVariants.{TimeoutForm}

-- what is said in turn: the first bad part says why
infixl 10 ◌>>=◌
abbrev pub ◌>>=◌ : {A B : Type 0} → Result A Reason → (A → Result B Reason) → Result B Reason
Ok x >>= f = f x
Err why >>= f = Err why

-- what was found, or why there is nothing
abbrev pub or_bad : {A : Type 0} → Option A → Reason → Result A Reason
or_bad None why = Err why
or_bad (Some x) why = Ok x

-- ---- fields: what stands between the spaces of a line; in a free one also between its tabs, and up
-- to the first field that begins with `#`
abbrev pub is_gap : Bool → ℕ → Bool
is_gap free b = b == 32 || free && b == 9

abbrev pub is_not_empty : List ℕ → Bool
is_not_empty f = nat_lt 0 (length f)

abbrev pub is_comment : Bool → List ℕ → Bool
is_comment free f = free && slice_index f 0 == 35

abbrev pub fields : Bool → List ℕ → List (List ℕ)
fields free line =
    take_while (λ f. not (is_comment free f)) (filter is_not_empty (slice_split (is_gap free) line))

-- a line's first field, and what is left of the line
abbrev pub SplitsField : Bool → List ℕ → List ℕ → List ℕ → Type 0
SplitsField free line field rest = fields free line ≡ field ∷ fields free rest

abbrev pub no_fields : List (List ℕ) → Bool
no_fields [] = true
no_fields (f ∷ fs) = false

-- ---- numbers and names
abbrev pub is_digit : ℕ → Bool
is_digit b = nat_le 48 b && nat_le b 57

-- the number that decimal digits spell after those of n
abbrev pub number_after : ℕ → List ℕ → Option ℕ
number_after n [] = Some n
number_after n (c ∷ cs) = if is_digit c then number_after (n * 10 + (c - 48)) cs else None

abbrev pub within_limit : ℕ → Option ℕ → Option ℕ
within_limit most None = None
within_limit most (Some n) = if nat_le n most then Some n else None

-- 1 to 10 digits, at most a limit
abbrev pub number : ℕ → List ℕ → Option ℕ
number most f =
    if nat_le 1 (length f) && nat_le (length f) 10 then within_limit most (number_after 0 f) else None

-- a field that begins with a digit is a number, and any other one a name or a word
abbrev pub is_number : List ℕ → Bool
is_number f = is_digit (slice_index f 0)

abbrev pub number_field : ℕ → List ℕ → Result ℕ Reason
number_field most f = or_bad (number most f) (NoNumber f most)

-- a name that something has, or a number up to a limit, whether something has it or not
abbrev pub called_field : ℕ → Called → (List ℕ → Reason) → List ℕ → Result ℕ Reason
called_field most called unknown f =
    if is_number f then number_field most f else or_bad (number_named called f) (unknown f)

unfoldable pub node_field : Language → List ℕ → Result ℕ Reason
node_field l f = called_field 255 l.nodes NoNode f

unfoldable pub signal_field : Language → List ℕ → Result ℕ Reason
signal_field l f = called_field 65535 l.signals NoSignal f

unfoldable pub table_field : Language → List ℕ → Result ℕ Reason
table_field l f = called_field 65535 l.tables NoTable f

-- ---- bytes: `-` alone for none, or hexadecimal digits; free ones in one or several fields
abbrev pub hex_bytes : List ℕ → Option (List ℕ)
hex_bytes f =
    if bytes_eq f (codes "-") then Some []
    else if length f == 0 then None
    else result_ok (decode_of f)

abbrev pub hex_row : List (List ℕ) → Option (List ℕ)
hex_row [] = Some []
hex_row (f ∷ fs) =
    option_map_or
    (λ bytes. option_map (λ more. bytes ++ more) (hex_row fs)) (result_ok (decode_of f)) None

abbrev pub bytes_of : Bool → List ℕ → List (List ℕ) → Option (List ℕ)
bytes_of free f [] = hex_bytes f
bytes_of free f (g ∷ fs) = if free then hex_row (f ∷ g ∷ fs) else None

unfoldable pub bytes_fields : Language → List (List ℕ) → Result (List ℕ) Reason
bytes_fields l [] = Err NoBytes
bytes_fields l (f ∷ fs) = or_bad (bytes_of l.free f fs) (NotBytes (f ∷ fs))

-- ---- values: a number, `x` and at most 8 bytes, or in a free line `0x` and 1 to 4 digits
abbrev pub hex_after : ℕ → List ℕ → Option ℕ
hex_after n [] = Some n
hex_after n (d ∷ ds) = option_map_or (λ v. hex_after (n * 16 + v) ds) (hex_digit_value d) None

abbrev pub hex_number : List ℕ → Option ℕ
hex_number digits =
    if nat_le 1 (length digits) && nat_le (length digits) 4 then hex_after 0 digits else None

abbrev pub array_form : List ℕ → List ℕ → Result Value Reason
array_form f digits = do
  bytes ← or_bad (hex_bytes digits) (NotBytes (f ∷ []))
  if nat_le (length bytes) 8 then Ok (Bytes bytes) else Err (TooManyBytes f)

abbrev pub is_hex_number : Language → List ℕ → Bool
is_hex_number l f = l.free && (slice_index f 0 == 48 && slice_index f 1 == 120)

unfoldable pub value_field : Language → List ℕ → Result Value Reason
value_field l f =
    if slice_index f 0 == 120 then array_form f (drop 1 f)
    else if is_hex_number l f
    then or_bad (option_map Scalar (hex_number (drop 2 f))) (NoNumber f 65535)
    else number_field 65535 f >>= (λ n. Ok (Scalar n))

-- ---- directions, by their words
unfoldable pub direction_field : List ℕ → Result Direction Reason
direction_field f = or_bad (find (λ d. bytes_eq (direction_word d) f) directions) TimeoutForm

-- ---- ports: `bus`, or `h` or `n` with a digit or `:` after it
abbrev pub is_port : List ℕ → Bool
is_port f =
    bytes_eq f (codes "bus")
    || (slice_index f 0 == 104 || slice_index f 0 == 110)
    && (is_digit (slice_index f 1) || slice_index f 1 == 58)

-- a number, or `:` and a node's name
abbrev pub port_number : Language → List ℕ → Result ℕ Reason
port_number l f =
    if slice_index f 0 == 58 then or_bad (number_named l.nodes (drop 1 f)) (NoNode (drop 1 f))
    else number_field 255 f

unfoldable pub port : Language → List ℕ → Result PortId Reason
port l f =
    if bytes_eq f (codes "bus") then Ok Bus
    else if slice_index f 0 == 104 then port_number l (drop 1 f) >>= (λ n. Ok (Host n))
    else port_number l (drop 1 f) >>= (λ n. Ok (Node n))

-- ---- the forms of the steps: the fields after the step's word
unfoldable pub send_form : Language → List (List ℕ) → Result Step Reason
send_form l (from ∷ to ∷ f ∷ fs) = do
  sender ← node_field l from
  receiver ← node_field l to
  message ← bytes_fields l (f ∷ fs)
  Ok (Send sender receiver message)
send_form l fs = Err SendForm

abbrev pub write_of : Language → ℕ → ℕ → List ℕ → Result Step Reason
write_of l by signal f = value_field l f >>= (λ value. Ok (Write by signal value))

-- free: by the signal's publisher
abbrev pub published_write : Language → List ℕ → List ℕ → Result Step Reason
published_write l s v =
    if l.free then signal_field l s >>= (λ signal. write_of l (l.publisher signal) signal v)
    else Err WriteForm

abbrev pub node_write : Language → List ℕ → List ℕ → List ℕ → Result Step Reason
node_write l by s v = do
  node ← node_field l by
  signal ← signal_field l s
  write_of l node signal v

unfoldable pub write_form : Language → List (List ℕ) → Result Step Reason
write_form l (s ∷ v ∷ []) = published_write l s v
write_form l (by ∷ s ∷ v ∷ []) = node_write l by s v
write_form l fs = Err WriteForm

unfoldable pub hurt_form : Language → List (List ℕ) → Result Step Reason
hurt_form l fs = bytes_fields l fs >>= (λ bytes. Ok (Hurt bytes))

abbrev pub timeout_of : Language → List ℕ → List ℕ → Result Step Reason
timeout_of l n d = do
  node ← node_field l n
  dir ← direction_field d
  Ok (Timeout node dir)

unfoldable pub timeout_form : Language → List ℕ → List (List ℕ) → Result Step Reason
timeout_form l word (n ∷ d ∷ []) = timeout_of l n d
timeout_form l word fs = Err (Takes word 2)

abbrev pub only : List ℕ → List (List ℕ) → Result (List ℕ) Reason
only word (f ∷ []) = Ok f
only word fs = Err (Takes word 1)

unfoldable pub switch_form : Language → List ℕ → List (List ℕ) → Result Step Reason
switch_form l word fs = do
  f ← only word fs
  table ← table_field l f
  Ok (Switch table)

unfoldable pub node_form : Language → (ℕ → Step) → List ℕ → List (List ℕ) → Result Step Reason
node_form l step word fs = do
  f ← only word fs
  node ← node_field l f
  Ok (step node)

unfoldable pub alone : Step → List ℕ → List (List ℕ) → Result Step Reason
alone step word [] = Ok step
alone step word (f ∷ fs) = Err (Takes word 0)

-- the step that a word names, with the fields after it
unfoldable pub step_form : Language → List ℕ → List (List ℕ) → Result Step Reason
step_form l word fs =
    if bytes_eq word (codes "send") then send_form l fs
    else if bytes_eq word (codes "write") then write_form l fs
    else if bytes_eq word (codes "open") then alone Open word fs
    else if bytes_eq word (codes "answer") then node_form l Answer word fs
    else if bytes_eq word (codes "leave") then node_form l Leave word fs
    else if bytes_eq word (codes "hurt") then hurt_form l fs
    else if bytes_eq word (codes "finish") then alone Finish word fs
    else if bytes_eq word (codes "timeout") then timeout_form l word fs
    else if bytes_eq word (codes "switch") then switch_form l word fs
    else if bytes_eq word (codes "sleep") then alone AskSleep word fs
    else if bytes_eq word (codes "wake") then alone Wake word fs
    else if bytes_eq word (codes "close") then node_form l Close word fs
    else Err (UnknownStep word)

-- the step of a port
abbrev pub step_after : Language → List (List ℕ) → Result Step Reason
step_after l [] = Err NoStep
step_after l (word ∷ fs) = step_form l word fs

-- a port, then a step
unfoldable pub port_step : Language → List ℕ → List (List ℕ) → Result (PortId × Step) Reason
port_step l word fs = do
  by ← port l word
  step ← step_after l fs
  Ok (by, step)

abbrev pub of_fields : Language → List (List ℕ) → Result (Option (PortId × Step)) Reason
of_fields l [] = Ok None
of_fields l (word ∷ fs) =
    if is_port word then port_step l word fs >>= (λ s. Ok (Some s)) else Err NoPort

-- what a line says: nothing where it begins with `#` or `>`, or has no field
unfoldable pub line_says : Language → List ℕ → Result (Option (PortId × Step)) Reason
line_says l line =
    if slice_index line 0 == 35 || slice_index line 0 == 62 then Ok None
    else of_fields l (fields l.free line)

-- the steps of lines from number n on, or the first line that is bad, and why; one CR before a
-- line's end is dropped
abbrev pub Steps : Type 0
Steps = Result (List (PortId × Step)) (ℕ × Reason)

abbrev pub with_step : PortId × Step → Steps → Steps
with_step s (Ok steps) = Ok (s ∷ steps)
with_step s (Err bad) = Err bad

abbrev pub with_said : ℕ → Result (Option (PortId × Step)) Reason → Steps → Steps
with_said n (Err why) more = Err (n, why)
with_said n (Ok None) more = more
with_said n (Ok (Some s)) more = with_step s more

abbrev pub steps_from : Language → ℕ → List (List ℕ) → Steps
steps_from l n [] = Ok []
steps_from l n (line ∷ lines) =
    with_said n (line_says l (strip_carriage_return line)) (steps_from l (n + 1) lines)

-- what a text says
unfoldable pub text_says : Language → List ℕ → Steps
text_says l text = steps_from l 1 (slice_split (λ b. b == 10) text)
