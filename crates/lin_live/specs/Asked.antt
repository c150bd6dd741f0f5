-- Questions: what is asked by the fields after `?`.
use Rattle.std.specs.Prelude.{◌≡◌, ℕ, ◌<◌, ◌||◌, Bool, if◌then◌else◌, List, [], ◌∷◌, Option, Some, None, length}
use Rattle.std.specs.Prelude.{Result, Ok, Err, codes}
use Rattle.std.specs.Str.{bytes_eq}
use Rattle.lin_parts.specs.Cluster.{nodes}
use Rattle.lin_parts.specs.declared.parts.Parts.{Parts}
use Rattle.lin_bench.specs.Fields.{present_node, present_signal}
use Rattle.lin_bench.specs.declared.reason.Reason.{Reason as ScriptReason}
use Rattle.lin_bench.specs.declared.fault.LineFault.{LineFault as ScriptFault}
use Rattle.lin_bench.specs.declared.fault.LineFault.TheVariants as scripts
use Rattle.lin_live.specs.declared.question.Question.{Question}
use Rattle.lin_live.specs.declared.question.Question.TheVariants.{Signal, Waiting, Idle, Time}
use Rattle.lin_live.specs.declared.question.Question.TheVariants.{Asleep, Next, Version, Nodes, LastSlot, Rules}
use Rattle.lin_live.specs.declared.reason.LineFault.{LineFault}
use Rattle.lin_live.specs.declared.reason.LineFault.TheVariants.{Bad, OutOfMemory}
use Rattle.lin_live.specs.declared.reason.Reason.{Reason}
use Rattle.lin_live.specs.declared.reason.Reason.TheVariants.{Script, AskForm, UnknownQuestion}

-- what is said in turn: the first bad part says why
infixl 10 ◌>>=◌
abbrev pub ◌>>=◌ : {A B : Type 0} → Result A Reason → (A → Result B Reason) → Result B Reason
Ok x >>= f = f x
Err why >>= f = Err why

-- a field, as lines of bench scripts have it
abbrev pub script_field : {A : Type 0} → Result A ScriptReason → Result A Reason
script_field (Ok x) = Ok x
script_field (Err why) = Err (Script why)

abbrev pub signal_asked : Parts → List ℕ → List ℕ → Result Question Reason
signal_asked c n s = do
  node ← script_field (present_node c n)
  signal ← script_field (present_signal c s)
  Ok (Signal node signal)

-- the forms of questions: all fields after `?`, which are shown where there is no form of them, and
-- those after the first word. A wrong number of fields is no form
abbrev pub signal_question : Parts → List (List ℕ) → List (List ℕ) → Result Question Reason
signal_question c all (n ∷ s ∷ []) = signal_asked c n s
signal_question c all fs = Err (UnknownQuestion all)

abbrev pub waiting_question : Parts → List (List ℕ) → List (List ℕ) → Result Question Reason
waiting_question c all (n ∷ []) = script_field (present_node c n) >>= (λ host. Ok (Waiting host))
waiting_question c all fs = Err (UnknownQuestion all)

abbrev pub lone_question : List (List ℕ) → Option Question → List (List ℕ) → Result Question Reason
lone_question all (Some what) [] = Ok what
lone_question all what fs = Err (UnknownQuestion all)

-- whether fields stand after the word of a question
abbrev pub has_fields : List ℕ → Bool
has_fields word = bytes_eq word (codes "signal") || bytes_eq word (codes "waiting")

-- the question that a word asks without a field after it
abbrev pub asked_alone : List ℕ → Option Question
asked_alone word =
    if bytes_eq word (codes "idle") then Some Idle
    else if bytes_eq word (codes "time") then Some Time
    else if bytes_eq word (codes "asleep") then Some Asleep
    else if bytes_eq word (codes "next") then Some Next
    else if bytes_eq word (codes "version") then Some Version
    else if bytes_eq word (codes "nodes") then Some Nodes
    else if bytes_eq word (codes "slot") then Some LastSlot
    else if bytes_eq word (codes "rules") then Some Rules
    else None

-- the question that a word names, with the fields after it
abbrev pub word_question : Parts → List (List ℕ) → List ℕ → List (List ℕ) → Result Question Reason
word_question c all word fs =
    if bytes_eq word (codes "signal") then signal_question c all fs
    else if bytes_eq word (codes "waiting") then waiting_question c all fs
    else lone_question all (asked_alone word) fs

-- what is asked, by the fields after `?`
unfoldable pub question : Parts → List (List ℕ) → Result Question Reason
question c [] = Err AskForm
question c (word ∷ fs) = word_question c (word ∷ fs) word fs

-- what is asked for is there
abbrev pub IsAskable : Parts → Question → Type 0
IsAskable c (Signal node signal) = (node < nodes c) × (signal < length c.signals)
IsAskable c (Waiting host) = host < nodes c
IsAskable c asked = Unit {0}

-- ---- what reading a question answers, beside what the definition reads
abbrev pub script_fault : ScriptFault → LineFault
script_fault (scripts.Bad why) = Bad (Script why)
script_fault scripts.OutOfMemory = OutOfMemory

abbrev pub Fails : {Y : Type 0} → LineFault → Result Y Reason → Type 0
Fails (Bad why) read = read ≡ Err why
Fails OutOfMemory read = Unit {0}

abbrev pub Gives : {Y : Type 0} → Result Y LineFault → Result Y Reason → Type 0
Gives (Ok x) read = read ≡ Ok x
Gives (Err e) read = Fails e read
