-- The answers to questions, as words and as members of an object of JSON.
use Rattle.std.specs.Prelude.{ℕ, ◌==◌, Bool, true, if◌then◌else◌, IfSome, List, [], ◌∷◌, ◌++◌, codes, drop, flat_map, length, map}
use Rattle.std.specs.Prelude.{Box, Option, option_map}
use Rattle.std.specs.Global.{Global}
use Rattle.std.specs.Fmt.{decimal}
use Rattle.std.specs.Option.{option_map_or, option_to_list}
use Rattle.lin_frame.specs.Words.{numbers}
use Rattle.lin_frame.specs.declared.value.Value.{Value}
use Rattle.lin_parts.specs.Cluster.{nad, nodes}
use Rattle.lin_parts.specs.declared.parts.Parts.{Parts}
use Rattle.lin_core.specs.Core.{past_of}
use Rattle.lin_core.specs.History.{asleep, time}
use Rattle.lin_core.specs.Links.{waiting}
use Rattle.lin_core.specs.Next.{next_slot}
use Rattle.lin_core.specs.Signals.{value_at}
use Rattle.lin_core.specs.declared.event.Event.TheVariants.{Slot}
use Rattle.lin_core.specs.declared.log.LogEntry.{LogEntry}
use Rattle.lin_log.specs.Language.{named_language}
use Rattle.lin_log.specs.Words.{Word}
use Rattle.lin_log.specs.Words.Word.{Fixed, Lines, Mark, Node, Number, Raw, Said, Table}
use Rattle.lin_values.specs.Coded.{CodedData}
use Rattle.lin_values.specs.Meaning.{meaning_if_coded as meaning_of}
use Rattle.lin_values.specs.Shown.{shown as meaning_text}
use Rattle.lin_bench.specs.Bench.{BenchData}
use Rattle.lin_bench.specs.Slots.{pending}
use Rattle.lin_bench.specs.LineWords.{spaced_words}
use Rattle.lin_bench.specs.Texts.{all_pending_words}
use Rattle.lin_bench.specs.declared.got.Pending.{Pending}
use Rattle.lin_bench.specs.RulesInForce.{lines_of_rules}
use Rattle.lin_bench.specs.declared.rules.Rules.{Rules as RulesInForce}
use Rattle.lin_export.specs.Json.{json_array, member, object, printable_text, quoted_text}
use Rattle.lin_export.specs.Jsonl.{meant_members, nad_value, node_text, signal_value}
use Rattle.lin_export.specs.LastSlot.{EndedSlot, IsKeptOf, LastSlotData, kept_slot, last_slot, last_slot_value, last_slot_words}
use Rattle.lin_export.specs.Listing.{address_word}
use Rattle.lin_export.specs.Named.{slot_names}
use Rattle.lin_export.specs.WhereTold.{where_told}
use Rattle.lin_live.specs.declared.answer_value.AnswerValue.{AnswerValue}
use Rattle.lin_live.specs.declared.answer_value.AnswerValue.TheVariants as code
use Rattle.lin_live.specs.declared.question.Question.{Question}
use Rattle.lin_live.specs.declared.question.Question.TheVariants.{Signal, Waiting, Idle, Time}
use Rattle.lin_live.specs.declared.question.Question.TheVariants.{Asleep, Next, Version, Nodes, LastSlot, Rules}

-- a value of a signal, a number, words, the versions, the nodes, the slot that ended last, or the lines
-- that make the rules in force
pub data SaidValue : Type 0 where
  SignalValue : (signal : ℕ) → (value : Value) → SaidValue
  NumberValue : (n : ℕ) → SaidValue
  Words : (words : List Word) → SaidValue
  Versions : SaidValue
  AllNodes : SaidValue
  Ended : (last : Option EndedSlot) → SaidValue
  RuleLines : (lines : List (List ℕ)) → SaidValue

-- ---- the answer to a question after a history, with the rules in force
abbrev pub idle_words : List Pending → List Word
idle_words [] = Fixed (codes "idle") ∷ []
idle_words (p ∷ ps) = all_pending_words (p ∷ ps)

abbrev pub asleep_words : Bool → List Word
asleep_words is = Fixed (if is then codes "asleep" else codes "awake") ∷ []

-- the table, the entry and the frame of a slot, as after `> slot`
abbrev pub slot_words : Parts → ℕ × ℕ → Option ℕ → List Word
slot_words c at header = Table at.0 ∷ Number at.1 ∷ slot_names c (Slot at.0 at.1 header)

-- those of the slot that an open would begin
abbrev pub next_words : Parts → ℕ → List LogEntry → List Word
next_words c opening past =
    if asleep past then asleep_words true
    else option_map_or
    (λ (s : ℕ × ℕ × Option ℕ). slot_words c (s.0, s.1) s.2)
    (next_slot c opening past) (Fixed (codes "open") ∷ [])

abbrev pub value_said : Parts → ℕ → List LogEntry → RulesInForce → Question → SaidValue
value_said c opening past rules (Signal node signal) = SignalValue signal (value_at c past node signal)
value_said c opening past rules (Waiting host) = NumberValue (length (waiting c past host))
value_said c opening past rules Idle = Words (idle_words (pending c past rules.noted))
value_said c opening past rules Time = NumberValue (time c past)
value_said c opening past rules Asleep = Words (asleep_words (asleep past))
value_said c opening past rules Next = Words (next_words c opening past)
value_said c opening past rules Version = Versions
value_said c opening past rules Nodes = AllNodes
value_said c opening past rules LastSlot = Ended (last_slot c past)
value_said c opening past rules Rules = RuleLines (lines_of_rules c rules)

-- that of a bench
abbrev pub said_of : BenchData → Question → SaidValue
said_of bench asked = value_said bench.core.cluster bench.core.opening (past_of bench.core) bench.rules asked

-- what is kept of the slot that ended last, in a box
abbrev pub slot_in_box : Option (Box LastSlotData Global) → Option LastSlotData
slot_in_box last = option_map (λ b. b.value) last

abbrev pub IsBoxedKeptOf : Parts → List LogEntry → Box LastSlotData Global → Type 0
IsBoxedKeptOf c es b = IsKeptOf c es b.value

-- the answer that a value of the code stands for
abbrev pub as_said : Parts → AnswerValue → SaidValue
as_said c (code.Signal signal value) = SignalValue signal value
as_said c (code.Number n) = NumberValue n
as_said c (code.Pending all) = Words (idle_words all)
as_said c (code.Asleep is) = Words (asleep_words is)
as_said c code.Open = Words (Fixed (codes "open") ∷ [])
as_said c (code.Slot table entry header) = Words (slot_words c (table, entry) header)
as_said c code.Version = Versions
as_said c code.Nodes = AllNodes
as_said c (code.LastSlot last) = Ended (kept_slot (slot_in_box last))
as_said c (code.Rules lines) = RuleLines lines

-- if the slot that ended last was asked for, it is that of a beginning of these entries
abbrev pub KeepsLastSlot : Parts → List LogEntry → AnswerValue → Type 0
KeepsLastSlot c es (code.LastSlot last) = IfSome last (IsBoxedKeptOf c es)
KeepsLastSlot c es value = Unit {0}

-- ---- the versions of the program, and of its objects
abbrev pub program_version : List ℕ
program_version = codes "0.2.0"

abbrev pub objects_version : ℕ
objects_version = 2

-- ---- as words
-- a value of a signal and, if the encodings are given, its meaning
abbrev pub value_words : Option CodedData → ℕ → Value → List Word
value_words k signal value =
    Raw value ∷ map (λ m. Said (meaning_text m)) (option_to_list (meaning_of k signal value))

-- a node with its diagnostic address; after a comma, except for the first one
abbrev pub addressed_node : Parts → ℕ → List Word
addressed_node c n = Node n ∷ address_word (nad c n) ∷ []

abbrev pub node_words : Parts → ℕ → List Word
node_words c n = (if n == 0 then [] else Mark (codes ",") ∷ []) ++ addressed_node c n

abbrev pub rule_words : List (List ℕ) → List Word
rule_words [] = Fixed (codes "none") ∷ []
rule_words (line ∷ lines) = Lines (line ∷ lines) ∷ []

abbrev pub said_words : Parts → Option CodedData → SaidValue → List Word
said_words c k (SignalValue signal value) = value_words k signal value
said_words c k (NumberValue n) = Number n ∷ []
said_words c k (Words words) = words
said_words c k Versions = Fixed program_version ∷ Number objects_version ∷ []
said_words c k AllNodes = flat_map (node_words c) (numbers (nodes c))
said_words c k (Ended last) = last_slot_words c last
said_words c k (RuleLines lines) = rule_words lines

-- each after a space
abbrev pub said_text : Parts → Option CodedData → SaidValue → List ℕ
said_text c k s = spaced_words (named_language c) (said_words c k s)

-- ---- as members
abbrev pub node_value : Parts → ℕ → List ℕ
node_value c n = object (member (codes "name") (node_text c n) ∷ member (codes "nad") (nad_value c n) ∷ [])

abbrev pub versions_value : List ℕ
versions_value =
    object
    (member (codes "program") (quoted_text program_version)
    ∷ member (codes "answers") (decimal objects_version)
    ∷ [])

abbrev pub said_value : Parts → SaidValue → List ℕ
said_value c (SignalValue signal value) = signal_value value
said_value c (NumberValue n) = decimal n
said_value c (Words words) = quoted_text (drop 1 (spaced_words (named_language c) words))
said_value c Versions = versions_value
said_value c AllNodes = json_array (map (node_value c) (numbers (nodes c)))
said_value c (Ended last) = last_slot_value c last
said_value c (RuleLines lines) = json_array (map printable_text lines)

-- the meaning of a signal's value, if the encodings are given
abbrev pub meant_of : Option CodedData → SaidValue → List (List ℕ)
meant_of k (SignalValue signal value) = where_told k (λ d. meant_members (codes "text") d signal value)
meant_of k other = []

abbrev pub said_members : Parts → Option CodedData → SaidValue → List (List ℕ)
said_members c k s = member (codes "value") (said_value c s) ∷ meant_of k s
