-- A line is a list of words: those of steps and replies, and the text of a log.
use Rattle.std.specs.Prelude.{ℕ, List, [], ◌∷◌, ◌++◌, Option, Some, None, codes, flat_map, map, nat_lt}
use Rattle.std.specs.Prelude.{if◌then◌else◌}
use Rattle.std.specs.Fmt.{decimal}
use Rattle.std.specs.Option.{option_to_list}
use Rattle.hex.specs.Hex.{encode_upper}
use Rattle.lin_frame.specs.declared.value.Value.{Value}
use Rattle.lin_frame.specs.declared.value.Value.TheVariants.{Scalar, Bytes}
use Rattle.lin_core.specs.History.{good_bytes}
use Rattle.lin_core.specs.Tables.{cause_word, direction_word, look_of, look_word, refusal_number}
use Rattle.lin_core.specs.declared.port.PortId.{PortId}
use Rattle.lin_core.specs.declared.port.PortId.TheVariants as ports
use Rattle.lin_core.specs.declared.step.Step.{Step}
use Rattle.lin_core.specs.declared.step.Step.TheVariants.{Send, Write, Open, Answer, Leave, Hurt}
use Rattle.lin_core.specs.declared.step.Step.TheVariants.{Finish, Timeout, Switch, AskSleep, Wake}
use Rattle.lin_core.specs.declared.step.Step.TheVariants.{Close}
use Rattle.lin_core.specs.declared.event.Event.{Event}
use Rattle.lin_core.specs.declared.event.Event.TheVariants as event
use Rattle.lin_core.specs.declared.event.Seen.{Seen}
use Rattle.lin_core.specs.declared.reply.Reply.{Reply}
use Rattle.lin_core.specs.declared.reply.Reply.TheVariants.{Done, Refused}
use Rattle.lin_core.specs.declared.log.LogEntry.{LogEntry}
use Rattle.lin_log.specs.CallerTexts.{seen_text, seen_texts}
use Rattle.lin_log.specs.Language.{Called, Language, plain, word_of}
use Rattle.lin_log.specs.declared.line_words.Carried.{Carried}
use Rattle.lin_log.specs.declared.line_words.Carried.TheVariants.{Signals, Request, Response}
use Rattle.lin_log.specs.declared.pattern.Pattern.{Pattern}

-- a line: its words with one space between two, and LF
abbrev pub spaced_word : List ℕ → List ℕ
spaced_word word = 32 ∷ word

abbrev pub line_tail : List (List ℕ) → List ℕ
line_tail [] = 10 ∷ []
line_tail (w ∷ ws) = spaced_word w ++ line_tail ws

abbrev pub line : List (List ℕ) → List ℕ
line [] = 10 ∷ []
line (w ∷ ws) = w ++ line_tail ws

-- bytes in upper-case digits, and `-` for none
abbrev pub hex_word : List ℕ → List ℕ
hex_word [] = codes "-"
hex_word (b ∷ bs) = encode_upper (b ∷ bs)

-- a scalar's number, or `x` and an array's bytes
abbrev pub value_word : Value → List ℕ
value_word (Scalar n) = decimal n
value_word (Bytes bytes) = 120 ∷ hex_word bytes

-- ---- words in a language
-- `:` and a node's name, or the number of what has none
abbrev pub port_number_word : Language → ℕ → List ℕ
port_number_word l n = if nat_lt n l.nodes.count then 58 ∷ l.nodes.name n else decimal n

abbrev pub port_word : Language → PortId → List ℕ
port_word l ports.Bus = codes "bus"
port_word l (ports.Host n) = 104 ∷ port_number_word l n
port_word l (ports.Node n) = 110 ∷ port_number_word l n

abbrev pub carried_word : Called → Carried → List ℕ
carried_word frames (Signals f) = word_of frames f
carried_word frames Request = codes "MasterReq"
carried_word frames Response = codes "SlaveResp"

-- a pattern as one field: `..` for any byte, and `*` where more bytes may follow
abbrev pub byte_word : Option ℕ → List ℕ
byte_word None = codes ".."
byte_word (Some b) = encode_upper (b ∷ [])

abbrev pub pattern_word : Pattern → List ℕ
pattern_word p = flat_map byte_word p.bytes ++ (if p.more then codes "*" else [])

-- a word of a line; or a mark, which has no space before it
pub data Word : Type 0 where
  Port : (port : PortId) → Word
  Node : (node : ℕ) → Word
  Signal : (signal : ℕ) → Word
  Table : (table : ℕ) → Word
  Frame : (frame : Carried) → Word
  Number : (number : ℕ) → Word
  Range : (low : ℕ) → (high : ℕ) → Word
  Identifier : (number : ℕ) → Word
  Hex : (bytes : List ℕ) → Word
  Matching : (pattern : Pattern) → Word
  Raw : (value : Value) → Word
  Fixed : (text : List ℕ) → Word
  Said : (text : List ℕ) → Word
  Fields : (fields : List (List ℕ)) → Word
  Listed : (texts : List (List ℕ)) → Word
  Lines : (lines : List (List ℕ)) → Word
  Mark : (text : List ℕ) → Word

-- the text of a word: names and texts with `?` in the place of each LF, which no other word has
abbrev pub word_text : Language → Word → List ℕ
word_text l (Port p) = seen_text (port_word l p)
word_text l (Node n) = seen_text (word_of l.nodes n)
word_text l (Signal s) = seen_text (word_of l.signals s)
word_text l (Table t) = seen_text (word_of l.tables t)
word_text l (Frame f) = seen_text (carried_word l.frames f)
word_text l (Number n) = decimal n
word_text l (Range low high) = decimal low ++ (codes ".." ++ decimal high)
word_text l (Identifier n) = codes "0x" ++ encode_upper (n ∷ [])
word_text l (Hex bytes) = hex_word bytes
word_text l (Matching p) = pattern_word p
word_text l (Raw value) = value_word value
word_text l (Fixed text) = seen_text text
word_text l (Said text) = seen_text text
word_text l (Fields fields) = seen_texts (codes " ") fields
word_text l (Listed texts) = seen_texts (codes ", ") texts
word_text l (Lines lines) = seen_texts (codes "; ") lines
word_text l (Mark text) = seen_text text

-- what a step is called, and its parts
abbrev pub step_words : Step → List Word
step_words (Send from to message) =
    Fixed (codes "send") ∷ Node from ∷ Node to ∷ Hex message ∷ []
step_words (Write by signal value) =
    Fixed (codes "write") ∷ Node by ∷ Signal signal ∷ Raw value ∷ []
step_words Open = Fixed (codes "open") ∷ []
step_words (Answer node) = Fixed (codes "answer") ∷ Node node ∷ []
step_words (Leave node) = Fixed (codes "leave") ∷ Node node ∷ []
step_words (Hurt bytes) = Fixed (codes "hurt") ∷ Hex bytes ∷ []
step_words Finish = Fixed (codes "finish") ∷ []
step_words (Timeout node dir) =
    Fixed (codes "timeout") ∷ Node node ∷ Fixed (direction_word dir) ∷ []
step_words (Switch table) = Fixed (codes "switch") ∷ Table table ∷ []
step_words AskSleep = Fixed (codes "sleep") ∷ []
step_words Wake = Fixed (codes "wake") ∷ []
step_words (Close host) = Fixed (codes "close") ∷ Node host ∷ []

-- how a slot was seen, and the response of a good one
abbrev pub seen_words : Seen → List Word
seen_words s =
    Fixed (codes "seen") ∷ Fixed (look_word (look_of s)) ∷ map Hex (option_to_list (good_bytes s))

-- what an event is called, and its parts: of a header its protected identifier, and `-` for none
abbrev pub event_words : Event → List Word
event_words (event.Accepted host number) =
    Fixed (codes "accepted") ∷ Node host ∷ Number number ∷ []
event_words (event.Slot table entry header) =
    Fixed (codes "slot") ∷ Table table ∷ Number entry ∷ Hex (option_to_list header) ∷ []
event_words event.Service = Fixed (codes "service") ∷ []
event_words (event.Due node) = Fixed (codes "due") ∷ Node node ∷ []
event_words (event.Put node answer) = Fixed (codes "put") ∷ Node node ∷ Hex answer ∷ []
event_words (event.Seen s) = seen_words s
event_words (event.Message from to bytes) =
    Fixed (codes "message") ∷ Node from ∷ Node to ∷ Hex bytes ∷ []
event_words (event.Sent host number) = Fixed (codes "sent") ∷ Node host ∷ Number number ∷ []
event_words (event.Lost host number why) =
    Fixed (codes "lost") ∷ Node host ∷ Number number ∷ Fixed (cause_word why) ∷ []
event_words event.Asleep = Fixed (codes "asleep") ∷ []

-- what a reply is called, and its parts: each event, or the refusal
abbrev pub reply_words : Reply → List (List Word)
reply_words (Done events) = map event_words events
reply_words (Refused r) = (Fixed (codes "refused") ∷ Number (refusal_number r) ∷ []) ∷ []

-- the line of a step begins with its port, a line of a reply with `>`
abbrev pub step_line : Language → PortId → Step → List ℕ
step_line l port step = line (map (word_text l) (Port port ∷ step_words step))

abbrev pub reply_line : Language → List Word → List ℕ
reply_line l words = line (codes ">" ∷ map (word_text l) words)

-- the text of a log in a language, the oldest entry first: each entry's step, and lines of replies,
-- which may tell of the entries before
abbrev pub log_text : Language → (LogEntry → List LogEntry → List (List Word))
    → List LogEntry → List LogEntry → List ℕ
log_text l replies past [] = []
log_text l replies past (e ∷ es) =
    step_line l e.port e.step
    ++ (flat_map (reply_line l) (replies e past) ++ log_text l replies (e ∷ past) es)

-- the text of a log by numbers: each entry's step, then a line for each event, or the refusal
abbrev pub text : List LogEntry → List ℕ
text entries = log_text plain (λ e past. reply_words e.reply) [] entries
