-- The fields of a bench script's line, as the language of a cluster's names has them, and what is
-- said of one that is bad.
use Rattle.std.specs.Prelude.{ℕ, ◌==◌, ◌&&◌, ◌||◌, Bool, not, is_some, nat_lt, if◌then◌else◌, true, false, List, [], ◌∷◌, map}
use Rattle.std.specs.Prelude.{◌≡◌, ◌+◌, ◌<◌, take, slice_index_or, drop, slice_index, Option, Some, None, option_map, Result, Ok, Err}
use Rattle.std.specs.Prelude.{codes, length, reverse}
use Rattle.std.specs.Borrow.{Bor}
use Rattle.std.specs.Str.{bytes_eq}
use Rattle.lin_frame.specs.declared.value.Value.{Value}
use Rattle.lin_frame.specs.declared.value.Value.TheVariants.{Scalar}
use Rattle.lin_parts.specs.declared.parts.Parts.{Parts}
use Rattle.lin_parts.specs.Cluster.{nad, nodes, signal_of}
use Rattle.lin_core.specs.History.{is_in}
use Rattle.lin_log.specs.Language.{named_language, number_named}
use Rattle.lin_log.specs.Said.{is_number}
use Rattle.lin_log.specs.Said as log
use Rattle.lin_log.specs.declared.reason.Reason.{Reason as StepReason}
use Rattle.lin_log.specs.declared.reason.Reason.TheVariants.{NoNode, NoSignal, NoTable}
use Rattle.lin_bench.specs.declared.reason.Reason.{Reason}
use Rattle.lin_bench.specs.declared.reason.Reason.TheVariants.{Step, EveryNumber, NoFrame, NoRange, TooSmall}
use Rattle.lin_bench.specs.declared.reason.Reason.TheVariants.{NoMessages, NoResponder, NotItsSignal}
use Rattle.lin_log.specs.declared.line_words.Carried.{Carried}
use Rattle.lin_log.specs.declared.line_words.Carried.TheVariants.{Signals, Request, Response}

-- what is said in turn: the first bad part says why
infixl 10 ◌>>=◌
abbrev pub ◌>>=◌ : {A B : Type 0} → Result A Reason → (A → Result B Reason) → Result B Reason
Ok x >>= f = f x
Err why >>= f = Err why

-- what was found, or why there is nothing
abbrev pub or_bad : {A : Type 0} → Option A → Reason → Result A Reason
or_bad None why = Err why
or_bad (Some x) why = Ok x

-- what a line of steps says
abbrev pub of_step : {A : Type 0} → Result A StepReason → Result A Reason
of_step (Ok x) = Ok x
of_step (Err why) = Err (Step why)

abbrev pub line_fields : List ℕ → List (List ℕ)
line_fields line = log.fields true line

-- those of a comment too: a tab is a space, and `#` begins no comment
abbrev pub tab_as_space : ℕ → ℕ
tab_as_space b = if b == 9 then 32 else b

abbrev pub all_fields : List ℕ → List (List ℕ)
all_fields line = log.fields false (map tab_as_space line)

-- fields cut at a place: those before it, the one at it, and those after it
pub record Cuts (fs : List (List ℕ)) (at : ℕ) (front : List (List ℕ)) (f : List ℕ) (rest : List (List ℕ)) : Type 0 where
  pub within : at < length fs
  pub before : take at fs ≡ front
  pub field : slice_index_or fs at [] ≡ f
  pub after : drop (at + 1) fs ≡ rest

abbrev pub maybe_text : Option (Bor (List ℕ)) → Option (List ℕ)
maybe_text field = option_map (λ f. f.now) field

abbrev pub number_up_to : ℕ → List ℕ → Result ℕ Reason
number_up_to most f = of_step (log.number_field most f)

-- the unconditional frames of a cluster, and a frame by its name: theirs go before those of messages
abbrev pub message_frame : List ℕ → Option Carried
message_frame name =
    if bytes_eq name (codes "MasterReq") then Some Request
    else if bytes_eq name (codes "SlaveResp") then Some Response
    else None

abbrev pub frame_called : List ℕ → Option ℕ → Option Carried
frame_called name (Some f) = Some (Signals f)
frame_called name None = message_frame name

-- the unconditional frame with a number
abbrev pub frame_numbered : Parts → ℕ → Option Carried
frame_numbered c n = if nat_lt n (length c.frames) then Some (Signals n) else None

abbrev pub frame_field : Parts → List ℕ → Result Carried Reason
frame_field c f =
    if is_number f then number_up_to 65535 f >>= (λ n. or_bad (frame_numbered c n) (NoFrame f))
    else or_bad (frame_called f (number_named (named_language c).frames f)) (NoFrame f)

-- 1 to 1,000,000
abbrev pub count_field : List ℕ → Result ℕ Reason
count_field f = number_up_to 1000000 f >>= (λ n. if n == 0 then Err TooSmall else Ok n)

abbrev pub node_field : Parts → List ℕ → Result ℕ Reason
node_field c f = of_step (log.node_field (named_language c) f)

abbrev pub signal_field : Parts → List ℕ → Result ℕ Reason
signal_field c f = of_step (log.signal_field (named_language c) f)

abbrev pub table_field : Parts → List ℕ → Result ℕ Reason
table_field c f = of_step (log.table_field (named_language c) f)

-- a node, a signal and a table that the cluster has
abbrev pub present_node : Parts → List ℕ → Result ℕ Reason
present_node c f =
    node_field c f >>= (λ n. if nat_lt n (nodes c) then Ok n else Err (Step (NoNode f)))

abbrev pub present_signal : Parts → List ℕ → Result ℕ Reason
present_signal c f =
    signal_field c f
    >>= (λ s. if nat_lt s (length c.signals) then Ok s else Err (Step (NoSignal f)))

abbrev pub present_table : Parts → List ℕ → Result ℕ Reason
present_table c f =
    table_field c f
    >>= (λ t. if nat_lt t (length c.tables) then Ok t else Err (Step (NoTable f)))

-- a node that sends messages: the commander, or a responder with an address (ISO 17987-2)
abbrev pub sends : Parts → ℕ → Bool
sends c n = n == 0 || is_some (nad c n)

abbrev pub host_field : Parts → List ℕ → Result ℕ Reason
host_field c f = present_node c f >>= (λ n. if sends c n then Ok n else Err (NoResponder f))

-- whether exactly one of two nodes is the commander
abbrev pub has_commander : ℕ → ℕ → Bool
has_commander m n = if m == 0 then not (n == 0) else n == 0

-- the sender of messages and their receiver, of which exactly one is the commander (ISO 17987-2)
abbrev pub pair_of : List ℕ → List ℕ → ℕ → ℕ → Result (ℕ × ℕ) Reason
pair_of from to m n = if has_commander m n then Ok (m, n) else Err (NoMessages from to)

abbrev pub pair_fields : Parts → List ℕ → List ℕ → Result (ℕ × ℕ) Reason
pair_fields c from to = do
  sender ← host_field c from
  receiver ← host_field c to
  pair_of from to sender receiver

-- whether a node publishes a signal or subscribes it, by the declaration of the signal (LIN 2.2A,
-- section 9.2.3). To hear a frame that carries it isn't enough
abbrev pub takes_part : Parts → ℕ → ℕ → Bool
takes_part c node signal =
    node == (signal_of c signal).publisher || is_in (signal_of c signal).subscribers node

-- a node, and a signal that it publishes or subscribes
abbrev pub its_signal : Parts → List ℕ → List ℕ → ℕ → ℕ → Result (ℕ × ℕ) Reason
its_signal c n s node signal =
    if takes_part c node signal then Ok (node, signal) else Err (NotItsSignal n s)

abbrev pub signal_fields : Parts → List ℕ → List ℕ → Result (ℕ × ℕ) Reason
signal_fields c n s = do
  node ← present_node c n
  signal ← present_signal c s
  its_signal c n s node signal

abbrev pub bytes_fields : Parts → List (List ℕ) → Result (List ℕ) Reason
bytes_fields c fs = of_step (log.bytes_fields (named_language c) fs)

-- rows, and the number after them where they end with this word, a number and `ms`
abbrev pub time_from : List ℕ → List (List ℕ) → List (List ℕ) → List (List ℕ) × Option (List ℕ)
time_from word fs (unit ∷ n ∷ w ∷ rows) =
    if bytes_eq unit (codes "ms") && bytes_eq w word then (reverse rows, Some n) else (fs, None)
time_from word fs backwards = (fs, None)

abbrev pub rows_and_time : List ℕ → List (List ℕ) → List (List ℕ) × Option (List ℕ)
rows_and_time word fs = time_from word fs (reverse fs)

-- what stands after `..` at the beginning of a text
abbrev pub after_dots : List ℕ → Option (List ℕ)
after_dots xs =
    if slice_index xs 0 == 46 && slice_index xs 1 == 46 then Some (drop 2 xs) else None

abbrev pub split_here : ℕ → Option (List ℕ) → Option (List ℕ × List ℕ)
    → Option (List ℕ × List ℕ)
split_here x (Some rest) later = Some ([], rest)
split_here x None later =
    option_map (λ (ends : List ℕ × List ℕ). (x ∷ ends.0, ends.1)) later

-- what stands before and after the first `..` of a field
abbrev pub range_ends : List ℕ → Option (List ℕ × List ℕ)
range_ends [] = None
range_ends (x ∷ xs) = split_here x (after_dots (x ∷ xs)) (range_ends xs)

abbrev pub value_field : Parts → List ℕ → Result Value Reason
value_field c f = of_step (log.value_field (named_language c) f)

-- two scalars, of which the first isn't above the second
abbrev pub ordered_range : List ℕ → Value → Value → Result (ℕ × ℕ) Reason
ordered_range f (Scalar low) (Scalar high) = if nat_lt high low then Err (NoRange f) else Ok (low, high)
ordered_range f low high = Err (NoRange f)

-- whether an end of a range is missing
abbrev pub lacks_end : List ℕ → List ℕ → Bool
lacks_end low high = length low == 0 || length high == 0

abbrev pub range_between : Parts → List ℕ → List ℕ → List ℕ → Result (ℕ × ℕ) Reason
range_between c f low high = do
  from ← value_field c low
  to ← value_field c high
  ordered_range f from to

-- the ends of a range that a field has
unfoldable pub range_field : Parts → List ℕ → List ℕ → List ℕ → Result (ℕ × ℕ) Reason
range_field c f low high = if lacks_end low high then Err (NoRange f) else range_between c f low high

-- numbers of messages, of which the first isn't above the second; a form with every number can't fail
abbrev pub ordered_counts : List ℕ → ℕ → ℕ → Result (ℕ × ℕ) Reason
ordered_counts f least most =
    if nat_lt most least then Err (NoRange f)
    else if least == 0 && most == 1000000 then Err (EveryNumber f)
    else Ok (least, most)

abbrev pub counts_to : List ℕ → List ℕ → List ℕ → Result (ℕ × ℕ) Reason
counts_to f low high = do
  least ← number_up_to 1000000 low
  most ← number_up_to 1000000 high
  ordered_counts f least most

unfoldable pub counts_between : List ℕ → List ℕ → List ℕ → Result (ℕ × ℕ) Reason
counts_between f low high = if lacks_end low high then Err (NoRange f) else counts_to f low high

-- a number of messages, or a range of them that the field has
abbrev pub counts_field : List ℕ → Option (List ℕ × List ℕ) → Result (ℕ × ℕ) Reason
counts_field f None = number_up_to 1000000 f >>= (λ count. Ok (count, count))
counts_field f (Some ends) = counts_between f ends.0 ends.1
